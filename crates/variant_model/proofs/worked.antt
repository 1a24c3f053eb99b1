-- Small theorems on worked sections, each with its near miss.
pub mod Inherited
pub mod BuiltInLines
