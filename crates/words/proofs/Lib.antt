mod Cuts
mod NumberLemmas
mod Parse
mod Walks
