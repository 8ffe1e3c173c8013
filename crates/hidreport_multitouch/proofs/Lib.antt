pub mod DrivenLemmas
pub mod FactLemmas
pub mod PassingLemmas
pub mod TouchedLemmas
