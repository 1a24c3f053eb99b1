pub mod CountLaws
pub mod GuardLaws
pub mod TargetLaws
pub mod DependLaws
pub mod EvasionLaws
pub mod DangerLaws
