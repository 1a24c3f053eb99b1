pub mod CheckerLaws
