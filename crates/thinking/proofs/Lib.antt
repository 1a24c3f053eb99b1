mod AnswerLaws
pub mod CutLaws
pub mod DepthLaws
pub mod FindingLaws
pub mod JudgeLaws
pub mod RanLaws
mod SeekCutLaws
pub mod TellLaws
pub mod TryLaws
