pub mod Best
pub mod Claims
pub mod Hash
pub mod Steps
pub mod Runs
