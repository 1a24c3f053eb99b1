pub mod Solves
pub mod Handed
pub mod Least
pub mod Races
