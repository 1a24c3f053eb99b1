-- Worked cases, each with its near miss: they hold by computing.
mod BuiltIn
