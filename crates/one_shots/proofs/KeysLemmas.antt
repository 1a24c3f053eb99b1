-- What `keys` says of its input.
use Rattle.std.proofs.Common.{◌≡◌, ◌⊎◌, ℕ, List, inl, inr, refl, sym, subst, ◌∙◌, Ok, Err}
use Rattle.std.specs.declared.result.Result.{Result}
use Rattle.io_ports.specs.Lines.{Line}
use Rattle.variant_rules.specs.Entries.{Named}
use Rattle.game_play.specs.Played.{Played}
use Rattle.game_text.specs.declared.fault.GameFault.{GameFault}
use Rattle.game_text.specs.Fault as game
use Rattle.game_text.specs.GameText.{game_of}
use Rattle.suite.specs.declared.keys_fault.KeysFault.{KeysFault}
use Rattle.suite.specs.declared.first_moves.Key.{Key}
use Rattle.suite.specs.FirstMoves.{keys_fault_text, mate_keys}
use Rattle.suite.specs.KeysText.{keys_text}
use Rattle.one_shot_checks.specs.declared.fault.Fault.{Fault as Why}
use Rattle.one_shot_checks.specs.declared.no_answer.NoAnswer.{NoAnswer}
use Rattle.one_shot_checks.specs.declared.no_answer.NoAnswer.TheVariants.{Usage, Fault, Stop}
use Rattle.one_shot_checks.specs.declared.stop.Stop.TheVariants as stop
use Rattle.one_shot_checks.specs.Fault.{error_line, fault_status, fault_text}
use Rattle.one_shots.specs.GameView.{SaysGame}
use Rattle.one_shot_checks.specs.NoAnswerView.{Answers}
use Rattle.one_shots.specs.FirstMoves.{SaysKeyList, SaysKeys, SaysKeysOf}

-- ---- what was read, where it gives no answer

-- those of the game that was read
pub keys_answers : (n : ℕ) (said : Result Played GameFault) (g : Played) (status : ℕ) (text : List ℕ) → said ≡ Ok g
    → SaysKeyList (mate_keys n g) status text → SaysKeysOf n said status text
keys_answers n said g status text is says = subst (λ (x : Result Played GameFault). SaysKeysOf n x status text) (sym is) says

-- or the fault of the game text
pub no_keys_answers : (n : ℕ) (said : Result Played GameFault) (why : NoAnswer) → SaysGame said (Err why) → Answers (Err why) (SaysKeysOf n said)
no_keys_answers n said Usage says = absurd says
no_keys_answers n said (Fault fault) says =
    subst (λ (x : Why). SaysKeysOf n said (fault_status x) (error_line (fault_text x))) (sym says.is)
    (subst (λ (x : Result Played GameFault). SaysKeysOf n x 3 (error_line (game.fault_text says.why))) (sym says.has) (refl, refl))
no_keys_answers n said (Stop stop.Source) says = tt
no_keys_answers n said (Stop stop.Sink) says = absurd says
no_keys_answers n said (Stop stop.Memory) says = tt

-- ---- exactly one answer

list_some : (keys : Result (List Key) KeysFault) → (status : ℕ) × (text : List ℕ) × SaysKeyList keys status text
list_some (Ok keys) = (0, keys_text keys, (refl, refl))
list_some (Err fault) = (3, error_line (keys_fault_text fault), (refl, refl))

keys_of_some : (n : ℕ) (said : Result Played GameFault) → (status : ℕ) × (text : List ℕ) × SaysKeysOf n said status text
keys_of_some n (Ok g) = list_some (mate_keys n g)
keys_of_some n (Err fault) = (3, error_line (game.fault_text fault), (refl, refl))

list_done : (keys : Result (List Key) KeysFault) (status : ℕ) (text : List ℕ) → SaysKeyList keys status text → (status ≡ 0) ⊎ (status ≡ 3)
list_done (Ok keys) status text says = inl says.0
list_done (Err fault) status text says = inr says.0

keys_of_done : (n : ℕ) (said : Result Played GameFault) (status : ℕ) (text : List ℕ) → SaysKeysOf n said status text → (status ≡ 0) ⊎ (status ≡ 3)
keys_of_done n (Ok g) status text says = list_done (mate_keys n g) status text says
keys_of_done n (Err fault) status text says = inr says.0

list_once : (keys : Result (List Key) KeysFault) (s s' : ℕ) (t t' : List ℕ) → SaysKeyList keys s t → SaysKeyList keys s' t' → (s ≡ s') × (t ≡ t')
list_once (Ok keys) s s' t t' a b = (a.0 ∙ sym b.0, a.1 ∙ sym b.1)
list_once (Err fault) s s' t t' a b = (a.0 ∙ sym b.0, a.1 ∙ sym b.1)

keys_of_once : (n : ℕ) (said : Result Played GameFault) (s s' : ℕ) (t t' : List ℕ) → SaysKeysOf n said s t → SaysKeysOf n said s' t' → (s ≡ s') × (t ≡ t')
keys_of_once n (Ok g) s s' t t' a b = list_once (mate_keys n g) s s' t t' a b
keys_of_once n (Err fault) s s' t t' a b = (a.0 ∙ sym b.0, a.1 ∙ sym b.1)

module _ (n : ℕ) (variants : List Named) (input : List Line) where
  pub keys_some : (status : ℕ) × (text : List ℕ) × SaysKeys n variants input status text
  keys_some = keys_of_some n (game_of variants input)

  pub keys_done : (status : ℕ) (text : List ℕ) → SaysKeys n variants input status text → (status ≡ 0) ⊎ (status ≡ 3)
  keys_done status text says = keys_of_done n (game_of variants input) status text says

  pub keys_once : (s s' : ℕ) (t t' : List ℕ) → SaysKeys n variants input s t → SaysKeys n variants input s' t' → (s ≡ s') × (t ≡ t')
  keys_once s s' t t' a b = keys_of_once n (game_of variants input) s s' t t' a b
