-- Worked cases, each with its near miss: they hold by computing.
mod StrategyTexts
mod Stipulations
mod CertificateTexts
mod ProofHeads
mod ProofPairs
mod ProofTexts
