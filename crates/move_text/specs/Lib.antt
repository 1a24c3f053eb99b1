pub mod Cuts
pub mod Form
pub mod Keys
pub mod Names
pub mod Read
pub mod Squares
