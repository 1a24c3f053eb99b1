pub mod Numbers
pub mod Trees
pub mod Shapes
pub mod Kept
pub mod Meaning
pub mod Finds
pub mod Ways
pub mod MateCount
