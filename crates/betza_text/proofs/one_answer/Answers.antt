use Rattle.betza_text.proofs.WordLaws.{word_or_fault, not_both, one_word, one_fault}
use Rattle.betza_text.proofs.one_answer.Goals as goal

pub returns-clause-some : goal.returns-clause-some
returns-clause-some c = word_or_fault

pub returns-clause-not_both : goal.returns-clause-not_both
returns-clause-not_both c = not_both

pub returns-clause-one_word : goal.returns-clause-one_word
returns-clause-one_word c = one_word

pub returns-clause-one_fault : goal.returns-clause-one_fault
returns-clause-one_fault c = one_fault
