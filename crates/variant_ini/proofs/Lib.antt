pub mod ClassLaws
pub mod IndexLaws
pub mod LineLaws
pub mod OptionLaws
pub mod NameLaws
pub mod ParentLaws
pub mod ReadingLaws
pub mod LoneLemmas
pub mod TrimLemmas
mod FileLaws
