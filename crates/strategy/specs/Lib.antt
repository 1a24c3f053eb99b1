pub mod Fault
pub mod Said
pub mod SaidView
pub mod Reading
pub mod Needed
pub mod Writing
