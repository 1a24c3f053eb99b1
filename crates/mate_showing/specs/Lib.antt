pub mod Reached
pub mod Fronts
pub mod Tables
pub mod Mates
pub mod Tabled
pub mod Keyed
pub mod Counts
pub mod Answers
