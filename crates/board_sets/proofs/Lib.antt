pub mod PawnLaws
pub mod WriteLaws
