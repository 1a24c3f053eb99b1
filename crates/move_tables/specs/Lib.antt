pub mod Occupied
pub mod Reached
pub mod Lines
pub mod Rays
pub mod Added
pub mod Spots
