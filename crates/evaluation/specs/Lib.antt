pub mod Bounds
pub mod Evaluation
pub mod Laws
pub mod PieceValues
pub mod Tallies
pub mod Values
pub mod Writes
