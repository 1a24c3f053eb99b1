pub mod Run
pub mod Speaking
