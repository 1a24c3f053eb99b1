pub mod Sums
pub mod Beginnings
pub mod Keeps
