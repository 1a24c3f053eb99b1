-- Worked cases, each with its near miss: they hold by computing.
mod Passing
mod Castles
mod Drops
mod Gating
