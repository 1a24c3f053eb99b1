pub mod Lines
pub mod Steps
pub mod Known
pub mod Tellings
pub mod Choices
pub mod LastMoves
pub mod Refuters
pub mod Tried
