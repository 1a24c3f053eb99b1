mod EarlyLaws
mod TallyLaws
