pub mod NumberLemmas
pub mod LawLemmas
pub mod LimitLemmas
