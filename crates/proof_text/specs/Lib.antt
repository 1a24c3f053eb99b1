pub mod Fault
pub mod Lines
pub mod Words
pub mod Pairs
pub mod Reading
pub mod TakingView
pub mod StrategyView
pub mod Writing
