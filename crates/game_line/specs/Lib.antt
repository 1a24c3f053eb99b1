pub mod Lined
pub mod Slots
