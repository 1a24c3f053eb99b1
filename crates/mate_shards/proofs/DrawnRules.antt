-- Under rules that draw every end the attacker wins no position, so every refutation is true.
use Rattle.std.proofs.Common.{◌≡◌, ℕ, zero, suc, List, [], ◌∷◌, Bool, true, false, Option, Some, None, refl, ap, sym, ◌∙◌, subst, not, ◌&&◌, if◌then◌else◌}
use Rattle.std.specs.List.{list_any, list_all}
use Rattle.foundation.specs.Count.{any_below}
use Rattle.foundation.specs.Tests.{is_nil}
use Rattle.rules_model.specs.declared.board.Cell.{Cell}
use Rattle.rules_model.specs.declared.board.Position.{Position}
use Rattle.rules_model.specs.declared.board.Repeat.{Repeat}
use Rattle.rules_model.specs.declared.board.Side.{Side}
use Rattle.rules_model.specs.declared.moves.Cause.TheVariants.{Checkmate, Stalemate}
use Rattle.rules_model.specs.declared.moves.Move.{Move}
use Rattle.rules_model.specs.declared.moves.Outcome.{Outcome}
use Rattle.rules_model.specs.declared.moves.Outcome.TheVariants.{Ongoing, Won, Drawn}
use Rattle.rules_model.specs.declared.moves.Value.TheVariants.{Draw}
use Rattle.rules_model.specs.declared.rules.Rules.{Rules}
use Rattle.rules_model.specs.Repeats.{repeat_of}
use Rattle.rules_model.specs.Squares.{cell_at}
use Rattle.rules_model.specs.Sides.{other, same_side}
use Rattle.rules_model.specs.Attacks.{is_own, king_attacked}
use Rattle.rules_model.specs.Kinds.{names}
use Rattle.rules_model.specs.Regions.{in_region}
use Rattle.rules_model.specs.Ends.{is_ongoing, flag_at, has_flag, early_end, or_end, valued, no_move}
use Rattle.rules_model.specs.Legal.{legal, is_stuck, own_end}
use Rattle.rules_model.proofs.PlayLaws.{own_end-stuck}
use Rattle.forced_wins.specs.Contests.{Contest, replies, attacks_by, forced}
use Rattle.forced_wins.specs.Facts.{Says}
use Rattle.forced_wins.specs.Views.{won_by}
use Rattle.forced_wins.specs.Games as AnyGame
use Rattle.forced_wins.specs.Wins.{near_end, positions}
use Rattle.mate_core.specs.declared.frame.Frame.{Frame}
use Rattle.mate_shards.specs.Refuted.{RefutesAll}

-- ---- contests

-- no state is won, and an ongoing one has a move
pub record IsUnwinnable (X M : Type 0) (g : Contest X M) : Type 0 where
  pub unwon : (x : X) → g.end x ≡ Some true → ⊥
  pub goes_on : (x : X) → g.end x ≡ None → g.moves x ≡ [] → ⊥

module _ {X M : Type 0} (g : Contest X M) (lost : IsUnwinnable X M g) where
  none_any : (f : M → Bool) (ms : List M) → ((m : M) → f m ≡ false) → list_any f ms ≡ false
  none_any f [] never = refl
  none_any f (m ∷ ms) never = let n = never m in rw (n, none_any f ms never)

  not_all : (f : M → Bool) (ms : List M) → (ms ≡ [] → ⊥) → ((m : M) → f m ≡ false) → list_all f ms ≡ false
  not_all f [] some never = absurd (some refl)
  not_all f (m ∷ ms) some never = let n = never m in rw n

  ends : {C : Type 0} (x : X) (o : Option Bool) → g.end x ≡ o → (g.end x ≡ Some false → C) → (g.end x ≡ None → C) → C
  ends x None e ended ongoing = ongoing e
  ends x (Some true) e ended ongoing = absurd (lost.unwon x e)
  ends x (Some false) e ended ongoing = ended e

  no_reply : (f : X → Bool) → ((x : X) → f x ≡ false) → (x : X) → replies g f x ≡ false
  unfolding replies
  no_reply f never x =
      ends x (g.end x) refl (λ e. rw e) (λ e. rw e (not_all (λ m. f (g.after x m)) (g.moves x) (lost.goes_on x e) (λ m. never (g.after x m))))

  no_attack : (n : ℕ) (x : X) → attacks_by g n x ≡ false
  unfolding attacks_by
  no_attack zero x = ends x (g.end x) refl (λ e. rw e) (λ e. rw e)
  no_attack (suc n) x =
      ends x (g.end x) refl (λ e. rw e)
      (λ e. rw e (none_any (λ m. replies g (attacks_by g n) (g.after x m)) (g.moves x) (λ m. no_reply (attacks_by g n) (no_attack n) (g.after x m))))

  either : (b s t : Bool) → s ≡ false → t ≡ false → (if b then s else t) ≡ false
  either true s t u v = u
  either false s t u v = v

  pub never-forced : (n : ℕ) (x : X) → forced g n x ≡ false
  unfolding forced
  never-forced n x = either (g.attacking x) _ _ (no_attack n x) (no_reply (attacks_by g n) (no_attack n) x)

-- ---- the rules

abbrev or_else_lost : Option Bool → Bool → Option Bool
or_else_lost o b = AnyGame.or_end o (AnyGame.lost_if b)

-- there is no early end, and a side without a move has drawn
pub record IsAlwaysDrawn (rules : Rules) : Type 0 where
  pub flag : rules.flag_kind ≡ None
  pub checks : rules.check_counting ≡ false
  pub extinction : rules.extinction ≡ None
  pub checkmate : rules.checkmate ≡ Draw
  pub stalemate : rules.stalemate ≡ Draw

module _ (rules : Rules) (drawn : IsAlwaysDrawn rules) where
  and_false : (a b : Bool) → ((a && false) && b) ≡ false
  and_false true b = refl
  and_false false b = refl

  no_flag_here : (region : Bool) (side : Side) (c : Option Cell) → (is_own side (names rules.flag_kind) c && region) ≡ false
  no_flag_here region side None = refl
  no_flag_here region side (Some c) = let flag = drawn.flag in rw flag (and_false (same_side c.side side) region)

  no_flag : (cells : List (Option Cell)) (side : Side) (n : ℕ) → any_below (flag_at rules cells side) n ≡ false
  unfolding any_below flag_at
  no_flag cells side zero = refl
  no_flag cells side (suc n) =
      rw (no_flag cells side n) (no_flag_here (in_region rules.flag_region side n) side (cell_at cells n))

  no_early : (r : Repeat) → early_end rules r ≡ Ongoing
  unfolding early_end has_flag
  no_early r =
      let flag = no_flag r.cells (other r.side) 120 in
      let checks = drawn.checks in
      let extinction = drawn.extinction in rw (flag, checks, extinction)

  not_moved : (stuck attacked : Bool) (side a : Side) → won_by a (if stuck then no_move rules side attacked else Ongoing) ≡ Some true → ⊥
  not_moved false attacked side a h = cc
  not_moved true true side a h = let e = ap (λ v. won_by a (valued v side Checkmate)) drawn.checkmate in let f = sym e ∙ h in cc
  not_moved true false side a h = let e = ap (λ v. won_by a (valued v side Stalemate)) drawn.stalemate in let f = sym e ∙ h in cc

  own_lost : (r : Repeat) (a : Side) → won_by a (own_end rules r) ≡ Some true → ⊥
  unfolding own_end
  own_lost r a h =
      let e = ap (λ o. won_by a (or_end o (if is_stuck rules r then no_move rules r.side (king_attacked rules r.cells r.side) else Ongoing))) (no_early r) in
      not_moved (is_stuck rules r) (king_attacked rules r.cells r.side) r.side a (sym e ∙ h)

  or_lost : (o : Option Bool) (b : Bool) → (o ≡ Some true → ⊥) → or_else_lost o b ≡ Some true → ⊥
  or_lost None true never h = cc
  or_lost None false never h = cc
  or_lost (Some w) b never h = never h

  or_none : (o : Option Bool) (b : Bool) → or_else_lost o b ≡ None → o ≡ None
  or_none None b h = refl
  or_none (Some w) b h = h

  is_going : (a : Side) (o : Outcome) → won_by a o ≡ None → is_ongoing o ≡ true
  is_going a Ongoing h = refl
  is_going a (Won side cause) h = absurd cc
  is_going a (Drawn cause) h = absurd cc

  some_move : (ms : List Move) → not (is_nil ms) ≡ true → ms ≡ [] → ⊥
  some_move [] h e = cc
  some_move (m ∷ ms) h e = cc

  unwinnable : (barred : List Repeat) (a : Side) → IsUnwinnable Position Move (positions rules barred a)
  unfolding near_end is_stuck
  unwinnable barred a = record {
    unwon = λ p. or_lost (won_by a (own_end rules (repeat_of p))) _ (own_lost (repeat_of p) a);
    goes_on = λ p e none.
        let going = is_going a (own_end rules (repeat_of p)) (or_none _ _ e) in
        some_move (legal rules (repeat_of p)) (sym (own_end-stuck rules (repeat_of p)) ∙ going) none;
  }

pub refutes-all : (frame : Frame) → IsAlwaysDrawn frame.rules → RefutesAll frame
refutes-all frame drawn f e =
    subst (λ wins. Says frame.rules frame.blocked frame.attacker f wins) (sym e)
    (λ q same low. never-forced _ (unwinnable frame.rules drawn frame.blocked frame.attacker) f.moves q)
