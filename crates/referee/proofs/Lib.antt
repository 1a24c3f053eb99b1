mod GameLemmas
mod ReplyLemmas
