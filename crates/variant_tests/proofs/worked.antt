-- Worked cases, each with its near miss: they hold by computing.
mod Values
mod Lines
