-- What `pnmate` says of its input.
use Rattle.std.proofs.Common.{◌≡◌, ◌⊎◌, ℕ, List, inl, inr, refl, sym, subst, ◌∙◌, Option, Ok, Err}
use Rattle.std.specs.declared.result.Result.{Result}
use Rattle.io_ports.specs.Lines.{Line}
use Rattle.variant_rules.specs.Entries.{Named}
use Rattle.game_play.specs.Played.{Played, story}
use Rattle.game_text.specs.declared.fault.GameFault.{GameFault}
use Rattle.game_text.specs.Fault as game
use Rattle.game_text.specs.GameText.{game_of}
use Rattle.pn_search.specs.declared.fault.PnFault.{PnFault}
use Rattle.pn_search.specs.MateCount.{mate_count, pn_fault_text}
use Rattle.one_shot_checks.specs.declared.fault.Fault.{Fault as Why}
use Rattle.one_shot_checks.specs.declared.no_answer.NoAnswer.{NoAnswer}
use Rattle.one_shot_checks.specs.declared.no_answer.NoAnswer.TheVariants.{Usage, Fault, Stop}
use Rattle.one_shot_checks.specs.declared.stop.Stop.TheVariants as stop
use Rattle.one_shot_checks.specs.Fault.{error_line, fault_status, fault_text}
use Rattle.one_shots.specs.GameView.{SaysGame}
use Rattle.one_shot_checks.specs.NoAnswerView.{Answers}
use Rattle.one_shots.specs.PnMates.{SaysMateCount, SaysMateOf, SaysPnMate, mate_line}

-- ---- what was read, where it gives no answer

-- the least number of moves of the game that was read
pub mate_answers : (n : ℕ) (said : Result Played GameFault) (g : Played) (count : Result (Option ℕ) PnFault) (status : ℕ) (text : List ℕ) → said ≡ Ok g → count ≡ mate_count g.rules n (story g)
    → SaysMateCount count status text → SaysMateOf n said status text
mate_answers n said g count status text is counts says =
    subst (λ (x : Result Played GameFault). SaysMateOf n x status text) (sym is) (subst (λ (x : Result (Option ℕ) PnFault). SaysMateCount x status text) counts says)

-- or the fault of the game text
pub no_mate_answers : (n : ℕ) (said : Result Played GameFault) (why : NoAnswer) → SaysGame said (Err why) → Answers (Err why) (SaysMateOf n said)
no_mate_answers n said Usage says = absurd says
no_mate_answers n said (Fault fault) says =
    subst (λ (x : Why). SaysMateOf n said (fault_status x) (error_line (fault_text x))) (sym says.is)
    (subst (λ (x : Result Played GameFault). SaysMateOf n x 3 (error_line (game.fault_text says.why))) (sym says.has) (refl, refl))
no_mate_answers n said (Stop stop.Source) says = tt
no_mate_answers n said (Stop stop.Sink) says = absurd says
no_mate_answers n said (Stop stop.Memory) says = tt

-- ---- exactly one answer

count_some : (count : Result (Option ℕ) PnFault) → (status : ℕ) × (text : List ℕ) × SaysMateCount count status text
count_some (Ok least) = (0, mate_line least, (refl, refl))
count_some (Err fault) = (3, error_line (pn_fault_text fault), (refl, refl))

mate_some : (n : ℕ) (said : Result Played GameFault) → (status : ℕ) × (text : List ℕ) × SaysMateOf n said status text
mate_some n (Ok g) = count_some (mate_count g.rules n (story g))
mate_some n (Err fault) = (3, error_line (game.fault_text fault), (refl, refl))

count_done : (count : Result (Option ℕ) PnFault) (status : ℕ) (text : List ℕ) → SaysMateCount count status text → (status ≡ 0) ⊎ (status ≡ 3)
count_done (Ok least) status text says = inl says.0
count_done (Err fault) status text says = inr says.0

mate_done : (n : ℕ) (said : Result Played GameFault) (status : ℕ) (text : List ℕ) → SaysMateOf n said status text → (status ≡ 0) ⊎ (status ≡ 3)
mate_done n (Ok g) status text says = count_done (mate_count g.rules n (story g)) status text says
mate_done n (Err fault) status text says = inr says.0

count_once : (count : Result (Option ℕ) PnFault) (s s' : ℕ) (t t' : List ℕ) → SaysMateCount count s t → SaysMateCount count s' t' → (s ≡ s') × (t ≡ t')
count_once (Ok least) s s' t t' a b = (a.0 ∙ sym b.0, a.1 ∙ sym b.1)
count_once (Err fault) s s' t t' a b = (a.0 ∙ sym b.0, a.1 ∙ sym b.1)

mate_once : (n : ℕ) (said : Result Played GameFault) (s s' : ℕ) (t t' : List ℕ) → SaysMateOf n said s t → SaysMateOf n said s' t' → (s ≡ s') × (t ≡ t')
mate_once n (Ok g) s s' t t' a b = count_once (mate_count g.rules n (story g)) s s' t t' a b
mate_once n (Err fault) s s' t t' a b = (a.0 ∙ sym b.0, a.1 ∙ sym b.1)

module _ (n : ℕ) (variants : List Named) (input : List Line) where
  pub pn_mate_some : (status : ℕ) × (text : List ℕ) × SaysPnMate n variants input status text
  pn_mate_some = mate_some n (game_of variants input)

  pub pn_mate_done : (status : ℕ) (text : List ℕ) → SaysPnMate n variants input status text → (status ≡ 0) ⊎ (status ≡ 3)
  pn_mate_done status text says = mate_done n (game_of variants input) status text says

  pub pn_mate_once : (s s' : ℕ) (t t' : List ℕ) → SaysPnMate n variants input s t → SaysPnMate n variants input s' t' → (s ≡ s') × (t ≡ t')
  pn_mate_once s s' t t' a b = mate_once n (game_of variants input) s s' t t' a b
