pub mod GamesByRules
pub mod Greatest
mod HandLaws
mod MoveLaws
mod PutLaws
pub mod ScoreLaws
mod SumLaws
pub mod TreeLaws
mod WorthLaws
mod worked
