pub mod NibbleLemmas
pub mod UnitLemmas
pub mod WriteLemmas
