-- Worked cases of the definitions in specs/, each with its near miss: they hold by computing.
mod Toy
