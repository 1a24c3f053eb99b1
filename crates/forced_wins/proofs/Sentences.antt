-- The sentences on wins and near wins, one by one.
use Rattle.std.proofs.Common.{◌≡◌, ℕ, suc, List, Bool, true, false, Some, None, not, ◌&&◌, ◌||◌, ap}
use Rattle.std.specs.List.{list_any, list_all}
use Rattle.rules_model.specs.declared.board.Position.{Position}
use Rattle.rules_model.specs.declared.board.Repeat.{Repeat}
use Rattle.rules_model.specs.declared.board.Side.{Side}
use Rattle.rules_model.specs.declared.moves.Cause.{Cause}
use Rattle.rules_model.specs.declared.moves.Move.{Move}
use Rattle.rules_model.specs.declared.moves.Outcome.TheVariants.{Ongoing, Won, Drawn}
use Rattle.rules_model.specs.declared.rules.Rules.{Rules}
use Rattle.rules_model.specs.Repeats.{repeat_of}
use Rattle.rules_model.specs.Sides.{same_side}
use Rattle.rules_model.specs.Next.{next}
use Rattle.rules_model.specs.Legal.{legal, own_end}
use Rattle.rules_model.specs.Games.{Story, played, result, is_run_out}
use Rattle.forced_wins.specs.Views.{won_by, is_repetition}
use Rattle.forced_wins.specs.Wins.{games, wins, is_in, near_end, positions, near, blocked, near_root}
use Rattle.forced_wins.proofs.ClaimLaws as C
use Rattle.forced_wins.proofs.Rules.{laws}

-- ---- wins

module _ (rules : Rules) (a : Side) where
  pub wins-won : (n : ℕ) (g : Story) (s : Side) (c : Cause) → result rules g ≡ Won s c → wins rules n g a ≡ (same_side s a && not (is_repetition c))
  wins-won n g s c e = C.forced-ended (games rules a) n g _ (ap (won_by a) e)

  pub wins-drawn : (n : ℕ) (g : Story) (c : Cause) → result rules g ≡ Drawn c → wins rules n g a ≡ false
  wins-drawn n g c e = C.forced-ended (games rules a) n g _ (ap (won_by a) e)

  turns : (g : Story) (m : Move) → (games rules a).attacking ((games rules a).after g m) ≡ not ((games rules a).attacking g)
  turns g m = (laws rules a).turns g.last m

  pub wins-zero : (g : Story) → result rules g ≡ Ongoing → same_side g.last.side a ≡ true → wins rules 0 g a ≡ false
  wins-zero g e t = C.forced-zero (games rules a) g (ap (won_by a) e) t

  pub wins-attack : (n : ℕ) (g : Story) → result rules g ≡ Ongoing → same_side g.last.side a ≡ true → wins rules (suc n) g a ≡ list_any (λ m. wins rules n (played rules g m) a) (legal rules (repeat_of g.last))
  wins-attack n g e t = C.forced-attack (games rules a) turns n g (ap (won_by a) e) t

  pub wins-defence : (n : ℕ) (g : Story) → result rules g ≡ Ongoing → same_side g.last.side a ≡ false → wins rules n g a ≡ list_all (λ m. wins rules n (played rules g m) a) (legal rules (repeat_of g.last))
  wins-defence n g e t = C.forced-defence (games rules a) turns n g (ap (won_by a) e) t

  -- ---- near wins

  pub near-ended : (barred : List Repeat) (n : ℕ) (p : Position) (won : Bool) → near_end rules barred a p ≡ Some won → near rules n p barred a ≡ won
  near-ended barred n p won e = C.forced-ended (positions rules barred a) n p won e

  own_ended : (barred : List Repeat) (p : Position) (won : Bool) → won_by a (own_end rules (repeat_of p)) ≡ Some won → near_end rules barred a p ≡ Some won
  unfolding near_end
  own_ended barred p won e = rw e

  pub near-own : (barred : List Repeat) (n : ℕ) (p : Position) (won : Bool) → won_by a (own_end rules (repeat_of p)) ≡ Some won → near rules n p barred a ≡ won
  near-own barred n p won e = near-ended barred n p won (own_ended barred p won e)

  lost : (barred : List Repeat) (p : Position) → won_by a (own_end rules (repeat_of p)) ≡ None → (is_in barred (repeat_of p) || is_run_out rules p.counter) ≡ true → near_end rules barred a p ≡ Some false
  unfolding near_end
  lost barred p e h = rw (e, h)

  pub near-barred : (barred : List Repeat) (n : ℕ) (p : Position) → won_by a (own_end rules (repeat_of p)) ≡ None → (is_in barred (repeat_of p) || is_run_out rules p.counter) ≡ true → near rules n p barred a ≡ false
  near-barred barred n p e h = near-ended barred n p false (lost barred p e h)

  pub near-live : (barred : List Repeat) (p : Position) → won_by a (own_end rules (repeat_of p)) ≡ None → (is_in barred (repeat_of p) || is_run_out rules p.counter) ≡ false → near_end rules barred a p ≡ None
  unfolding near_end
  near-live barred p e h = rw (e, h)

  pub near-zero : (barred : List Repeat) (p : Position) → near_end rules barred a p ≡ None → same_side p.side a ≡ true → near rules 0 p barred a ≡ false
  near-zero barred p e t = C.forced-zero (positions rules barred a) p e t

  pub near-attack : (barred : List Repeat) (n : ℕ) (p : Position) → near_end rules barred a p ≡ None → same_side p.side a ≡ true → near rules (suc n) p barred a ≡ list_any (λ m. near rules n (next rules p m) barred a) (legal rules (repeat_of p))
  near-attack barred n p e t = C.forced-attack (positions rules barred a) (laws rules a).turns n p e t

  pub near-defence : (barred : List Repeat) (n : ℕ) (p : Position) → near_end rules barred a p ≡ None → same_side p.side a ≡ false → near rules n p barred a ≡ list_all (λ m. near rules n (next rules p m) barred a) (legal rules (repeat_of p))
  near-defence barred n p e t = C.forced-defence (positions rules barred a) (laws rules a).turns n p e t

  pub near_root-ended : (n : ℕ) (g : Story) (won : Bool) → won_by a (result rules g) ≡ Some won → near_root rules n g a ≡ won
  unfolding near_root
  near_root-ended n g won e = rw e

  pub near_root-zero : (g : Story) → result rules g ≡ Ongoing → same_side g.last.side a ≡ true → near_root rules 0 g a ≡ false
  unfolding near_root
  near_root-zero g e t = rw (e, t)

  pub near_root-attack : (n : ℕ) (g : Story) → result rules g ≡ Ongoing → same_side g.last.side a ≡ true → near_root rules (suc n) g a ≡ list_any (λ m. near rules n (next rules g.last m) (blocked rules g) a) (legal rules (repeat_of g.last))
  unfolding near_root
  near_root-attack n g e t = rw (e, t)

  pub near_root-defence : (n : ℕ) (g : Story) → result rules g ≡ Ongoing → same_side g.last.side a ≡ false → near_root rules n g a ≡ list_all (λ m. near rules n (next rules g.last m) (blocked rules g) a) (legal rules (repeat_of g.last))
  unfolding near_root
  near_root-defence n g e t = rw (e, t)
