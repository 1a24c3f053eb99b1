pub mod Verdicts
pub mod Rows
pub mod Steps
pub mod Buckets
pub mod AtTable
