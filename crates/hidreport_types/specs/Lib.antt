pub mod UnitTable
pub mod UnitText
