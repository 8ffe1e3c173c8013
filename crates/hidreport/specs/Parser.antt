-- What the parser holds and does, as plain data: for proofs alone, no clause of a public call cites
-- it.
pub mod Budget
pub mod DataItem
pub mod FrontStep
pub mod GroupCollections
pub mod Groups
pub mod ItemPlaces
pub mod ItemStates
pub mod Journal
pub mod Layout
pub mod Ids
pub mod Locals
pub mod Machine
pub mod Mended
pub mod NamedUsages
pub mod Opened
pub mod Refusals
pub mod Usages
