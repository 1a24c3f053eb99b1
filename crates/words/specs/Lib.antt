pub mod Asked
pub mod Command
pub mod Number
pub mod Options
pub mod Reader
pub mod View
