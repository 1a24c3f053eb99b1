pub mod Words
pub mod Key
pub mod Changed
pub mod Cells
pub mod Packed
