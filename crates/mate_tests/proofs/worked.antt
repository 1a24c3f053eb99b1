-- Worked cases, each with its near miss: they hold by computing.
mod Numbers
mod Sums
mod SmallTrees
