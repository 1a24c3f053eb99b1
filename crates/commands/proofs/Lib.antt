mod RunLemmas
mod SessionLemmas
