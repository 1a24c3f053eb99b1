-- Worked cases, each with its near miss: they hold by computing.
mod Answers
mod Events
