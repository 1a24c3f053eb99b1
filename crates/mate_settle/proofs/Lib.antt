pub mod Lines
pub mod Settled
pub mod LastMoves
pub mod OrderLaws
pub mod TriedLaws
