pub mod Letters
pub mod SplitPart
pub mod Steps
pub mod Legs
pub mod Fault
pub mod PartFault
pub mod Word
