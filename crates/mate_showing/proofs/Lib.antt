mod Growth
mod Builds
mod Shown
mod Judged
mod Kept
mod Searched
mod Walk
mod Evidence
pub mod Root
pub mod OrderLaws
