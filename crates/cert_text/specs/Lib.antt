pub mod Fault
pub mod Said
pub mod Reading
pub mod Needed
pub mod Writing
pub mod View
