pub mod Command
pub mod Ending
pub mod ItemLines
pub mod Lines
pub mod Output
pub mod Run
