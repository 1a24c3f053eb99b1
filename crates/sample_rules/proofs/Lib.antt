pub mod Fits
pub mod Samples
