pub mod Sets
pub mod Written
