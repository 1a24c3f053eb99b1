mod AnswerLemmas
mod GoLemmas
pub mod HeldLemmas
mod MateLemmas
mod MoveLemmas
mod PlainLemmas
mod PlanLemmas
mod SearchLemmas
pub mod SessionLemmas
mod TextLemmas
mod ThinkLemmas
mod Unanswered
