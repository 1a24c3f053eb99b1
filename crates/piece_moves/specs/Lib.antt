pub mod Goals
pub mod InTurn
pub mod Listed
pub mod Movers
pub mod Parts
pub mod Plain
pub mod Taking
pub mod Targets
