-- Small theorems on worked positions, each with its near miss.
pub mod Chess
pub mod Open
