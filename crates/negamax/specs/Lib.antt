pub mod Windows
pub mod RootFacts
pub mod Trials
pub mod Settling
