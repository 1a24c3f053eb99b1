pub mod Held
pub mod HeldGames
pub mod Written
