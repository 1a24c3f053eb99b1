mod AnswerLemmas
pub mod FileLemmas
mod GenerateLemmas
pub mod HeardLemmas
mod KeysLemmas
pub mod OpeningLemmas
mod PnMateLemmas
mod RulesLemmas
pub mod ShotLemmas
mod StepLemmas
mod SuiteLemmas
mod VariantLemmas
