pub mod AnswerLaws
mod AtOnceLaws
mod KeyLaws
pub mod LeastFor
pub mod ReadLemmas
pub mod ReportLemmas
pub mod SlotLaws
