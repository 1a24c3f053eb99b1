pub mod StoryLemmas
pub mod KeyLemmas
pub mod KeptLemmas
pub mod PerftLemmas
pub mod LineLaws
pub mod RepetitionLemmas
pub mod StandingLemmas
