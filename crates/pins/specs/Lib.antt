pub mod Guards
pub mod Free
pub mod Danger
pub mod Evasion
