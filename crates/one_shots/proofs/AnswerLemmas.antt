-- What the outcomes of commands come to.
use Rattle.std.proofs.Common.{◌≡◌, ℕ, List, refl, sym, subst, Option, Ok, Err, IfOk}
use Rattle.std.specs.declared.result.Result.{Result}
use Rattle.betza_text.specs.declared.part.Part.{Part}
use Rattle.betza_text.specs.declared.fault.BetzaFault.{BetzaFault}
use Rattle.betza_text.specs.declared.fault.BetzaFault.TheVariants as betza
use Rattle.betza_text.specs.Word.{Spells, BetzaBad}
use Rattle.betza_compile.specs.Terms.{terms}
use Rattle.rules_model.specs.declared.board.Cell.{Cell}
use Rattle.rules_model.specs.declared.board.Square.{Square}
use Rattle.variant_rules.specs.Entries.{Named}
use Rattle.game_play.specs.Played.{Played}
use Rattle.game_text.specs.declared.fault.GameFault.{GameFault}
use Rattle.game_text.specs.ReadView.{NoGame}
use Rattle.game_text.specs.declared.unmade.Unmade.TheVariants.{Faulty, Unread, Memory}
use Rattle.game_text.specs.Fault as game
use Rattle.game_text.specs.GameText.{game_of, lines_of_game}
use Rattle.game_text.specs.HeardLines.{HeardLines}
use Rattle.game_text.specs.ReadView as read
use Rattle.one_shots.specs.declared.answers.Answer.{Answer}
use Rattle.one_shot_checks.specs.declared.no_answer.NoAnswer.{NoAnswer}
use Rattle.one_shot_checks.specs.declared.no_answer.NoAnswer.TheVariants.{Usage, Fault, Stop}
use Rattle.one_shot_checks.specs.declared.fault.Fault.{Fault as Why}
use Rattle.one_shot_checks.specs.declared.stop.Stop.{Stop as Cut}
use Rattle.one_shot_checks.specs.declared.stop.Stop.TheVariants as stop
use Rattle.one_shot_checks.specs.Fault.{error_line, fault_status, fault_text}
use Rattle.one_shots.specs.GameView.{SaysGame}
use Rattle.one_shot_checks.specs.NoAnswerView.{Answers, IsUnheard, betza_no_answer, game_no_answer}
use Rattle.one_shots.specs.OutcomeView.{OutcomeOf}
use Rattle.one_shot_checks.specs.ReachText.{reach_text}
use Rattle.one_shot_checks.specs.Setup.{setup_of}
use Rattle.one_shots.specs.Shot.{SaysOf, SaysReach, reached, faulty_word}
use Rattle.one_shot_checks.specs.StopView.{IsUnread, IsUnsaid}
use Rattle.one_shot_checks.proofs.NoAnswerLemmas.{says_at}

-- ---- the commands

pub reach_answers : (word square own enemy : List ℕ) (b : List Part) (from : Square) (cells : List (Option Cell)) (text : List ℕ) → Spells word b → setup_of square own enemy ≡ Ok (from, cells)
    → text ≡ reach_text cells (terms b) from → SaysReach word square own enemy 0 text
reach_answers word square own enemy b from cells text spells set is = says_at (SaysReach word square own enemy) 0 0 _ text refl is (reached b from cells spells set)

pub word_answers : (word square own enemy : List ℕ) (why : BetzaFault) → ((why ≡ betza.Memory → ⊥) → BetzaBad word why) → Answers (Err (betza_no_answer why)) (SaysReach word square own enemy)
word_answers word square own enemy betza.Memory bad = tt
word_answers word square own enemy (betza.Empty place) bad = faulty_word _ (bad (λ e. cc))
word_answers word square own enemy (betza.TooLong place) bad = faulty_word _ (bad (λ e. cc))
word_answers word square own enemy (betza.UnknownAtom place) bad = faulty_word _ (bad (λ e. cc))
word_answers word square own enemy (betza.UnsupportedModifier place) bad = faulty_word _ (bad (λ e. cc))
word_answers word square own enemy (betza.DoubledModifier place) bad = faulty_word _ (bad (λ e. cc))
word_answers word square own enemy (betza.AmbiguousDirection place) bad = faulty_word _ (bad (λ e. cc))
word_answers word square own enemy (betza.BadLame place) bad = faulty_word _ (bad (λ e. cc))
word_answers word square own enemy (betza.BadHopper place) bad = faulty_word _ (bad (λ e. cc))
word_answers word square own enemy (betza.BadNumber place) bad = faulty_word _ (bad (λ e. cc))
word_answers word square own enemy (betza.TooManyTerms place) bad = faulty_word _ (bad (λ e. cc))

-- ---- games

-- what is printed of the game that was read
pub game_answers : (print : Played → List ℕ) (said : Result Played GameFault) (g : Played) (text : List ℕ) → said ≡ Ok g → text ≡ print g → SaysOf print said 0 text
game_answers print said g text is prints = subst (λ (x : Result Played GameFault). SaysOf print x 0 text) (sym is) (refl, prints)

-- or the fault of the game text
pub no_game_answers : (print : Played → List ℕ) (said : Result Played GameFault) (why : NoAnswer) → SaysGame said (Err why) → Answers (Err why) (SaysOf print said)
no_game_answers print said Usage says = absurd says
no_game_answers print said (Fault fault) says =
    subst (λ (x : Why). SaysOf print said (fault_status x) (error_line (fault_text x))) (sym says.is)
    (subst (λ (x : Result Played GameFault). SaysOf print x 3 (error_line (game.fault_text says.why))) (sym says.has) (refl, refl))
no_game_answers print said (Stop stop.Source) says = tt
no_game_answers print said (Stop stop.Sink) says = absurd says
no_game_answers print said (Stop stop.Memory) says = tt

-- why no game was read
pub no_game_says : (said : Result Played GameFault) (why : NoGame) → read.SaysGame said (Err why) → SaysGame said (Err (game_no_answer why))
no_game_says said (Faulty why) says = record { why = why; has = says; is = refl }
no_game_says said Unread says = tt
no_game_says said Memory says = tt

pub read_says : (said : Result Played GameFault) (r : Result Played NoGame) (g : Played) → r ≡ Ok g → read.SaysGame said r → said ≡ Ok g
read_says said r g is says = subst (λ (x : Result Played NoGame). read.SaysGame said x) is says

-- a game text of the variants of sections
pub read_heard : (l l' : Option (List ℕ)) (variants variants' : List Named) (r : Result Played NoGame) → variants ≡ variants'
    → HeardLines l l' (lines_of_game variants) (λ lines. read.SaysGame (game_of variants lines) r) → HeardLines l l' (lines_of_game variants') (λ lines. read.SaysGame (game_of variants' lines) r)
read_heard l l' variants variants' r is heard = subst (λ (x : List Named). HeardLines l l' (lines_of_game x) (λ lines. read.SaysGame (game_of x lines) r)) is heard

pub no_game_unheard : (why : NoGame) → IsUnheard {A = Played} (Err (game_no_answer why)) → read.IsUnread {A = Played} (Err why)
no_game_unheard (Faulty why) unheard = absurd unheard
no_game_unheard Unread unheard = tt
no_game_unheard Memory unheard = absurd unheard

-- ---- outcomes

-- the status and the text of an outcome are those that it comes to
pub outcome_answers : (o : Result (List ℕ) NoAnswer) (r : Result Answer Cut) (Says : ℕ → List ℕ → Type 0) → OutcomeOf o r → Answers o Says → IfOk r (λ answer. Says answer.status answer.text)
outcome_answers (Ok said) (Ok answer) Says is says = says_at Says 0 answer.status said answer.text is.0 is.1 says
outcome_answers (Err Usage) (Ok answer) Says is says = says_at Says 2 answer.status _ answer.text is.0 is.1 says
outcome_answers (Err (Fault why)) (Ok answer) Says is says = says_at Says (fault_status why) answer.status _ answer.text is.0 is.1 says
outcome_answers (Err (Stop why)) (Ok answer) Says is says = absurd is
outcome_answers o (Err why) Says is says = tt

pub outcome_unheard : (o : Result (List ℕ) NoAnswer) (r : Result Answer Cut) → OutcomeOf o r → IsUnread r → IsUnheard o
outcome_unheard o (Ok answer) is unread = absurd unread
outcome_unheard (Ok said) (Err stop.Source) is unread = cc
outcome_unheard (Err Usage) (Err stop.Source) is unread = cc
outcome_unheard (Err (Fault why)) (Err stop.Source) is unread = cc
outcome_unheard (Err (Stop stop.Source)) (Err stop.Source) is unread = tt
outcome_unheard (Err (Stop stop.Sink)) (Err stop.Source) is unread = cc
outcome_unheard (Err (Stop stop.Memory)) (Err stop.Source) is unread = cc
outcome_unheard o (Err stop.Sink) is unread = absurd unread
outcome_unheard o (Err stop.Memory) is unread = absurd unread

-- no sink that failed is why there is none
pub outcome_unsaid : (o : Result (List ℕ) NoAnswer) (r : Result Answer Cut) (Says : ℕ → List ℕ → Type 0) → OutcomeOf o r → Answers o Says → IsUnsaid r → ⊥
outcome_unsaid o (Ok answer) Says is says unsaid = unsaid
outcome_unsaid o (Err stop.Source) Says is says unsaid = unsaid
outcome_unsaid (Ok said) (Err stop.Sink) Says is says unsaid = cc
outcome_unsaid (Err Usage) (Err stop.Sink) Says is says unsaid = cc
outcome_unsaid (Err (Fault why)) (Err stop.Sink) Says is says unsaid = cc
outcome_unsaid (Err (Stop stop.Source)) (Err stop.Sink) Says is says unsaid = cc
outcome_unsaid (Err (Stop stop.Sink)) (Err stop.Sink) Says is says unsaid = says
outcome_unsaid (Err (Stop stop.Memory)) (Err stop.Sink) Says is says unsaid = cc
outcome_unsaid o (Err stop.Memory) Says is says unsaid = unsaid

pub word_heard : (why : BetzaFault) → IsUnheard {A = List ℕ} (Err (betza_no_answer why)) → ⊥
word_heard betza.Memory unheard = unheard
word_heard (betza.Empty place) unheard = unheard
word_heard (betza.TooLong place) unheard = unheard
word_heard (betza.UnknownAtom place) unheard = unheard
word_heard (betza.UnsupportedModifier place) unheard = unheard
word_heard (betza.DoubledModifier place) unheard = unheard
word_heard (betza.AmbiguousDirection place) unheard = unheard
word_heard (betza.BadLame place) unheard = unheard
word_heard (betza.BadHopper place) unheard = unheard
word_heard (betza.BadNumber place) unheard = unheard
word_heard (betza.TooManyTerms place) unheard = unheard
