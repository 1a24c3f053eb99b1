-- What is said of a command that was reached, and of one that was not.
use Rattle.std.proofs.Common.{◌≡◌, ℕ, List, subst, sym, Option, Some, None, Ok, Err, IfOk}
use Rattle.std.specs.declared.result.Result.{Result}
use Rattle.io_ports.specs.Files.{Read}
use Rattle.io_ports.specs.Lines.{Line}
use Rattle.words.specs.Asked.{Asked}
use Rattle.one_shot_checks.specs.declared.no_answer.NoAnswer.{NoAnswer}
use Rattle.one_shot_checks.specs.declared.no_answer.NoAnswer.TheVariants as no_answer
use Rattle.one_shot_checks.specs.declared.stop.Stop.{Stop}
use Rattle.one_shots.specs.declared.answers.Answer.{Answer}
use Rattle.one_shots.specs.OpeningView.{Opens}
use Rattle.one_shots.specs.OutcomeView.{OutcomeOf}
use Rattle.one_shots.specs.Shot.{Says, SaysCommand}
use Rattle.one_shots.specs.Variants.{AreFirstReads, fault_in, sections_in}

pub if_so : {A : Type 0} {E : Type 0} (r : Result A E) (P Q : A → Type 0) → ((x : A) → P x → Q x) → IfOk r P → IfOk r Q
if_so (Ok x) P Q so holds = so x holds
if_so (Err why) P Q so holds = tt

-- the command is reached
pub loaded_says : (c : Option Asked) (a : Asked) (reads : List Read) → c ≡ Some a → fault_in a.variants reads ≡ None → (input : List Line) (status : ℕ) (text : List ℕ) → SaysCommand (sections_in a.variants reads) a.command input status text
    → Says c reads input status text
loaded_says c a reads is none input status text says = subst (λ (x : Option Asked). Says x reads input status text) (sym is) (rw none says)

-- none was
pub refused_says : (c : Option Asked) (reads : List Read) (why : NoAnswer) (r : Result Answer Stop) (lines : List Line) → Opens c reads (Err why) → OutcomeOf (Err why) r
    → IfOk r (λ answer. Says c reads lines answer.status answer.text)
refused_says c reads why (Err cut) lines opens is = tt
refused_says None reads no_answer.Usage (Ok answer) lines opens is = is
refused_says (Some a) reads no_answer.Usage (Ok answer) lines opens is = cc
refused_says None reads (no_answer.Fault fault) (Ok answer) lines opens is = absurd opens
refused_says (Some a) reads (no_answer.Fault fault) (Ok answer) lines opens is = rw opens.1 is
refused_says c reads (no_answer.Stop why) (Ok answer) lines opens is = absurd is

pub refused_first : (c : Option Asked) (reads : List Read) (why : NoAnswer) (r : Result Answer Stop) (answer : Answer) → Opens c reads (Err why) → OutcomeOf (Err why) r → r ≡ Ok answer → AreFirstReads c reads
refused_first None reads no_answer.Usage r answer opens is ok = opens.1
refused_first (Some a) reads no_answer.Usage r answer opens is ok = cc
refused_first None reads (no_answer.Fault fault) r answer opens is ok = absurd opens
refused_first (Some a) reads (no_answer.Fault fault) r answer opens is ok = opens.0
refused_first c reads (no_answer.Stop why) (Ok x) answer opens is ok = absurd is
refused_first c reads (no_answer.Stop why) (Err x) answer opens is ok = cc
