pub mod Going
pub mod Outcomes
pub mod Plain
pub mod PlanView
pub mod Searched
pub mod SessionView
pub mod TextView
pub mod Trying
