mod LineLaws
mod SeekLaws
mod SessionLaws
mod ThoughtLaws
mod TurnLaws
