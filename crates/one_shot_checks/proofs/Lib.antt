pub mod CertLemmas
pub mod CheckLemmas
pub mod NoAnswerLemmas
mod SetupLemmas
