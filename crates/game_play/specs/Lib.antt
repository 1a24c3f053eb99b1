pub mod Played
pub mod Perft
pub mod Standings
pub mod Repetition
