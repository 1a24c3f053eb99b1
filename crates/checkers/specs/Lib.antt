pub mod Checkers
pub mod CheckersText
pub mod SquareList
