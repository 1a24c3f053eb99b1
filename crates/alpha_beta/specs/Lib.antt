pub mod Roots
pub mod Bests
pub mod Workers
pub mod Searches
