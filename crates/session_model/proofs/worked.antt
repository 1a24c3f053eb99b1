-- Worked examples, each with its near miss.
mod GoWords
mod Lines
mod CecpLines
mod Rows
mod Sessions
mod CecpThinking
mod Constants
mod States
