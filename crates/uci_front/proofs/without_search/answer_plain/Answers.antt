use Rattle.uci_front.proofs.without_search.answer_plain.Goals as goal

pub returns-in-SetOption : goal.returns-in-SetOption
returns-in-SetOption g c = rw c.in-SetOption.is c.answer_option.ensures
