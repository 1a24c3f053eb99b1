-- What wins by the attacker's last move.
use Rattle.std.proofs.Common.{◌≡◌, ℕ, List, [], ◌∷◌, Bool, true, false, Option, Some, None, not, is_some, ◌&&◌, ◌==◌, if◌then◌else◌, slice_index, slice_set, inl, inr, refl, ap, sym, ◌∙◌}
use Rattle.std.specs.List.{list_all, list_any}
use Rattle.std.specs.Prelude.{IfSome}
use Rattle.std.proofs.lemmas.Bool.{and_left, and_parts}
use Rattle.std.proofs.lemmas.List.{get_or-set_other}
use Rattle.foundation.specs.Member.{Member}
use Rattle.foundation.specs.Tests.{is_nil}
use Rattle.rules_model.specs.declared.board.Position.{Position}
use Rattle.rules_model.specs.declared.board.Repeat.{Repeat}
use Rattle.rules_model.specs.declared.board.Side.{Side}
use Rattle.rules_model.specs.declared.board.Side.TheVariants.{White, Black}
use Rattle.rules_model.specs.declared.moves.Cause.{Cause}
use Rattle.rules_model.specs.declared.moves.Cause.TheVariants.{Flag, Checks, Checkmate, Stalemate}
use Rattle.rules_model.specs.declared.moves.Move.{Move}
use Rattle.rules_model.specs.declared.moves.Outcome.{Outcome}
use Rattle.rules_model.specs.declared.moves.Outcome.TheVariants.{Ongoing, Won, Drawn}
use Rattle.rules_model.specs.declared.moves.Value.{Value}
use Rattle.rules_model.specs.declared.moves.Value.TheVariants.{Win, Loss, Draw}
use Rattle.rules_model.specs.declared.rules.Rules.{Rules}
use Rattle.rules_model.specs.Attacks.{king_attacked}
use Rattle.rules_model.specs.Repeats.{repeat_of}
use Rattle.rules_model.specs.Sides.{other, same_side, side_index}
use Rattle.rules_model.specs.Ends.{is_ongoing, has_flag, has_none_left, early_end, valued, no_move}
use Rattle.rules_model.specs.Legal.{legal, is_stuck, own_end, gives_check}
use Rattle.rules_model.specs.Next.{cells_after, checks_after, next, next_repeat}
use Rattle.rules_model.proofs.PlayLaws.{own_end-stuck}
use Rattle.rules_model.proofs.ResultLaws.{own_end-early}
use Rattle.legality.proofs.FlagLaws.{flag_none}
use Rattle.forced_wins.specs.Contests.{Contest}
use Rattle.forced_wins.specs.Games as AnyGame
use Rattle.forced_wins.specs.Views.{won_by}
use Rattle.forced_wins.specs.Wins.{near_end, positions}
use Rattle.forced_wins.proofs.ClaimLaws as C
use Rattle.forced_wins.proofs.ContestLaws.{any_intro}
use Rattle.forced_wins.proofs.Counts.{by_cases, not_true, true_false}
use Rattle.forced_wins.proofs.Rules.{laws}
use Rattle.mate_core.specs.declared.frame.Frame.{Frame}
use Rattle.mate_fact.specs.InFrame as In
use Rattle.mate_settle.specs.LastMoves.{is_win, is_loss, is_won, only_movers_win, only_checks_win}

-- ---- sides

turned : (s a : Side) → same_side s a ≡ true → same_side (other s) a ≡ false
turned White White h = refl
turned White Black h = cc
turned Black White h = cc
turned Black Black h = refl

-- an end that the other side wins
not_his : (s a : Side) (c : Cause) → same_side s a ≡ false → won_by a (Won s c) ≡ Some true → ⊥
not_his White White c e h = cc
not_his White Black c e h = cc
not_his Black White c e h = cc
not_his Black Black c e h = cc

-- ---- what the rules say

none_of : {X : Type 0} (o : Option X) → not (is_some o) ≡ true → o ≡ None
none_of None h = refl
none_of (Some x) h = cc

not_so : (b : Bool) → not b ≡ true → b ≡ false
not_so true h = cc
not_so false h = refl

pub record MoversWin (rules : Rules) : Type 0 where
  pub extinction : rules.extinction ≡ None
  pub checkmate : is_win rules.checkmate ≡ false
  pub stalemate : is_win rules.stalemate ≡ false

pub movers_win : (rules : Rules) → only_movers_win rules ≡ true → MoversWin rules
unfolding only_movers_win
movers_win rules h =
    let p = and_parts _ _ h in
    let q = and_parts _ _ p.1 in
    record { extinction = none_of rules.extinction p.0; checkmate = not_so _ q.0; stalemate = not_so _ q.1 }

pub record ChecksWin (rules : Rules) : Type 0 where
  pub movers : only_movers_win rules ≡ true
  pub flag : rules.flag_kind ≡ None
  pub stalemate : is_loss rules.stalemate ≡ false

pub checks_win : (rules : Rules) → only_checks_win rules ≡ true → ChecksWin rules
unfolding only_checks_win
checks_win rules h =
    let p = and_parts _ _ h in
    let q = and_parts _ _ p.1 in
    record { movers = p.0; flag = none_of rules.flag_kind q.0; stalemate = not_so _ q.1 }

-- ---- ends

stuck_mover : (v : Value) (s a : Side) (c : Cause) → is_win v ≡ false → same_side s a ≡ true → won_by a (valued v s c) ≡ Some true → ⊥
stuck_mover Win s a c e t h = cc
stuck_mover Loss s a c e t h = not_his (other s) a c (turned s a t) h
stuck_mover Draw s a c e t h = cc

stuck_other : (v : Value) (s a : Side) (c : Cause) → is_loss v ≡ false → same_side s a ≡ false → won_by a (valued v s c) ≡ Some true → ⊥
stuck_other Win s a c e t h = not_his s a c t h
stuck_other Loss s a c e t h = cc
stuck_other Draw s a c e t h = cc

-- the end of a position that has no early one
late_mover : (stuck attacked : Bool) (rules : Rules) (s a : Side) → MoversWin rules → same_side s a ≡ true → won_by a (if stuck then no_move rules s attacked else Ongoing) ≡ Some true → ⊥
late_mover false attacked rules s a w t h = cc
late_mover true true rules s a w t h = stuck_mover rules.checkmate s a Checkmate w.checkmate t h
late_mover true false rules s a w t h = stuck_mover rules.stalemate s a Stalemate w.stalemate t h

late_other : (stuck : Bool) (rules : Rules) (s a : Side) → is_loss rules.stalemate ≡ false → same_side s a ≡ false → won_by a (if stuck then no_move rules s false else Ongoing) ≡ Some true → ⊥
late_other false rules s a v t h = cc
late_other true rules s a v t h = stuck_other rules.stalemate s a Stalemate v t h

module _ (rules : Rules) (r : Repeat) (extinction : rules.extinction ≡ None) where
  abbrev late_end : Outcome
  late_end = if is_stuck rules r then no_move rules r.side (king_attacked rules r.cells r.side) else Ongoing

  by_flag : has_flag rules r.cells (other r.side) ≡ true → own_end rules r ≡ Won (other r.side) Flag
  unfolding own_end early_end
  by_flag f = rw f

  by_checks : has_flag rules r.cells (other r.side) ≡ false → has_none_left rules r (other r.side) ≡ true → own_end rules r ≡ Won (other r.side) Checks
  unfolding own_end early_end
  by_checks f c = rw (f, c)

  by_own_checks : has_flag rules r.cells (other r.side) ≡ false → has_none_left rules r (other r.side) ≡ false → has_none_left rules r r.side ≡ true → own_end rules r ≡ Won r.side Checks
  unfolding own_end early_end
  by_own_checks f c d = rw (f, c, d)

  by_none : has_flag rules r.cells (other r.side) ≡ false → has_none_left rules r (other r.side) ≡ false → has_none_left rules r r.side ≡ false → own_end rules r ≡ late_end
  unfolding own_end early_end
  by_none f c d = rw (f, c, d, extinction)

won_is : (o : Option Bool) → is_won o ≡ true → o ≡ Some true
won_is None h = cc
won_is (Some true) h = refl
won_is (Some false) h = cc

goes_on : (o : Outcome) → is_ongoing o ≡ true → o ≡ Ongoing
goes_on Ongoing h = refl
goes_on (Won side cause) h = cc
goes_on (Drawn cause) h = cc

late_is : (rules : Rules) (r : Repeat) → early_end rules r ≡ Ongoing → king_attacked rules r.cells r.side ≡ false → own_end rules r ≡ (if is_stuck rules r then no_move rules r.side false else Ongoing)
unfolding own_end
late_is rules r e quiet = rw (e, quiet)

-- an end by itself of a side that is not attacked is won by the other side where the early end is
early_own : (rules : Rules) (r : Repeat) (a : Side) → is_loss rules.stalemate ≡ false → same_side r.side a ≡ false → king_attacked rules r.cells r.side ≡ false → is_won (won_by a (early_end rules r)) ≡ is_won (won_by a (own_end rules r))
early_own rules r a v t quiet =
    by_cases (is_ongoing (early_end rules r))
    (λ e. let early = goes_on (early_end rules r) e in ap (λ o. is_won (won_by a o)) early ∙ sym (not_true (is_won (won_by a (own_end rules r))) (λ k.
    late_other (is_stuck rules r) rules r.side a v t (sym (ap (won_by a) (late_is rules r early quiet)) ∙ won_is _ k))))
    (λ e. ap (λ o. is_won (won_by a o)) (sym (own_end-early rules r e)))

-- a position of an ongoing game has checks left for both sides
module _ (rules : Rules) (r : Repeat) where
  none_for_other : has_none_left rules r (other r.side) ≡ true → is_ongoing (early_end rules r) ≡ false
  unfolding early_end
  none_for_other c = by_cases (has_flag rules r.cells (other r.side)) (λ f. rw f) (λ f. rw (f, c))

  none_for_mover : has_none_left rules r (other r.side) ≡ false → has_none_left rules r r.side ≡ true → is_ongoing (early_end rules r) ≡ false
  unfolding early_end
  none_for_mover d c = by_cases (has_flag rules r.cells (other r.side)) (λ f. rw f) (λ f. rw (f, d, c))

  some_for_other : is_ongoing (early_end rules r) ≡ true → has_none_left rules r (other r.side) ≡ false
  some_for_other g = not_true (has_none_left rules r (other r.side)) (λ c. true_false _ g (none_for_other c))

  some_for_mover : is_ongoing (early_end rules r) ≡ true → has_none_left rules r r.side ≡ false
  some_for_mover g = not_true (has_none_left rules r r.side) (λ c. true_false _ g (none_for_mover (some_for_other g) c))

  early_goes : is_stuck rules r ≡ false → is_ongoing (early_end rules r) ≡ true
  unfolding is_stuck legal
  early_goes s = by_cases (is_ongoing (early_end rules r)) (λ e. e) (λ e. let u : is_stuck rules r ≡ true = rw e in absurd (true_false _ u s))

-- ---- the mover has not won: what the other side did made him win by nothing

mover_not_won : (rules : Rules) (r : Repeat) (a : Side) → MoversWin rules → same_side r.side a ≡ true → has_none_left rules r r.side ≡ false → won_by a (own_end rules r) ≡ Some true → ⊥
mover_not_won rules r a w t left h =
    by_cases (has_flag rules r.cells (other r.side))
    (λ f. not_his (other r.side) a Flag (turned r.side a t) (sym (ap (won_by a) (by_flag rules r w.extinction f)) ∙ h))
    (λ f. by_cases (has_none_left rules r (other r.side))
    (λ c. not_his (other r.side) a Checks (turned r.side a t) (sym (ap (won_by a) (by_checks rules r w.extinction f c)) ∙ h))
    (λ c. late_mover (is_stuck rules r) (king_attacked rules r.cells r.side) rules r.side a w t
    (sym (ap (won_by a) (by_none rules r w.extinction f c left)) ∙ h)))

-- the side that moved has not won, where it attacks no king and has checks left
other_not_won : (rules : Rules) (r : Repeat) (a : Side) → ChecksWin rules → same_side r.side a ≡ false → has_none_left rules r (other r.side) ≡ false → king_attacked rules r.cells r.side ≡ false → won_by a (own_end rules r) ≡ Some true → ⊥
other_not_won rules r a w t left quiet h =
    let m = movers_win rules w.movers in
    let f = flag_none rules r.cells (other r.side) w.flag in
    by_cases (has_none_left rules r r.side)
    (λ c. not_his r.side a Checks t (sym (ap (won_by a) (by_own_checks rules r m.extinction f left c)) ∙ h))
    (λ c. late_other (is_stuck rules r) rules r.side a w.stalemate t
    (ap (λ b. won_by a (if is_stuck rules r then no_move rules r.side b else Ongoing)) (sym quiet) ∙ sym (ap (won_by a) (by_none rules r m.extinction f left c)) ∙ h))

-- ---- the checks after a move

apart : (s : Side) → side_index (other s) ≡ side_index s → ⊥
apart White e = cc
apart Black e = cc

other_index : (b : Bool) (checks : List ℕ) (s : Side) (x : ℕ) → slice_index (if b then slice_set checks (side_index s) x else checks) (side_index (other s)) ≡ slice_index checks (side_index (other s))
other_index true checks s x = get_or-set_other checks (side_index s) (side_index (other s)) x 0 (apart s)
other_index false checks s x = refl

-- a move takes none from the other side's
other_checks : (rules : Rules) (r : Repeat) (m : Move) → has_none_left rules (next_repeat rules r m) (other r.side) ≡ has_none_left rules r (other r.side)
unfolding next_repeat checks_after
other_checks rules r m = ap (λ k. rules.check_counting && (k == 0)) (other_index (rules.check_counting && king_attacked rules (cells_after rules r m) (other r.side)) r.checks r.side _)

and_off : (a b : Bool) → b ≡ false → (a && b) ≡ false
and_off true b h = h
and_off false b h = refl

-- and a move that attacks no king none from the mover's
own_checks : (rules : Rules) (r : Repeat) (m : Move) → gives_check rules r m ≡ false → has_none_left rules (next_repeat rules r m) r.side ≡ has_none_left rules r r.side
unfolding next_repeat checks_after gives_check
own_checks rules r m quiet =
    let off = and_off rules.check_counting (king_attacked rules (cells_after rules r m) (other r.side)) quiet in
    rw off

-- where no flag, no extinction and no count of checks ends the game, nothing does before a side has no move
early_free : (rules : Rules) (r : Repeat) → rules.flag_kind ≡ None → rules.extinction ≡ None → rules.check_counting ≡ false → early_end rules r ≡ Ongoing
unfolding early_end
early_free rules r flag extinction uncounted =
    let f = flag_none rules r.cells (other r.side) flag in
    let c : has_none_left rules r (other r.side) ≡ false = and_left rules.check_counting _ uncounted in
    let d : has_none_left rules r r.side ≡ false = and_left rules.check_counting _ uncounted in
    rw (f, c, d, extinction)

-- ---- near ends

or_won : (o : Option Bool) (b : Bool) → AnyGame.or_end o (AnyGame.lost_if b) ≡ Some true → o ≡ Some true
or_won None true h = cc
or_won None false h = cc
or_won (Some w) b h = h

or_none : (o : Option Bool) (b : Bool) → AnyGame.or_end o (AnyGame.lost_if b) ≡ None → o ≡ None
or_none None b h = refl
or_none (Some w) b h = h

going : (a : Side) (o : Outcome) → won_by a o ≡ None → is_ongoing o ≡ true
going a Ongoing h = refl
going a (Won side cause) h = absurd cc
going a (Drawn cause) h = absurd cc

pub won-own : (f : Frame) (p : Position) → In.end_in f p ≡ Some true → won_by f.attacker (own_end f.rules (repeat_of p)) ≡ Some true
unfolding near_end
won-own f p h = or_won _ _ h

pub own-won : (f : Frame) (p : Position) → won_by f.attacker (own_end f.rules (repeat_of p)) ≡ Some true → In.end_in f p ≡ Some true
unfolding near_end
own-won f p h = rw h

free_to_move : (f : Frame) (p : Position) → In.end_in f p ≡ None → is_stuck f.rules (repeat_of p) ≡ false
unfolding near_end
free_to_move f p h =
    not_so _ (sym (own_end-stuck f.rules (repeat_of p)) ∙ going f.attacker (own_end f.rules (repeat_of p)) (or_none _ _ h))

goes_early : (f : Frame) (p : Position) → In.end_in f p ≡ None → is_ongoing (early_end f.rules (repeat_of p)) ≡ true
goes_early f p h = early_goes f.rules (repeat_of p) (free_to_move f p h)

-- a position with a legal move is not ended by itself
some_there : (m : Move) (ms : List Move) → Member m ms → is_nil ms ≡ false
some_there m [] k = absurd k
some_there m (x ∷ ms) k = refl

free_by : (rules : Rules) (r : Repeat) (m : Move) → Member m (legal rules r) → is_stuck rules r ≡ false
unfolding is_stuck
free_by rules r m k = some_there m (legal rules r) k

pub own-ongoing : (rules : Rules) (r : Repeat) (m : Move) → Member m (legal rules r) → own_end rules r ≡ Ongoing
own-ongoing rules r m k = goes_on (own_end rules r) (own_end-stuck rules r ∙ ap not (free_by rules r m k))

-- ---- near wins without a move of the attacker left

not_all : (g : Move → Bool) (ms : List Move) → is_nil ms ≡ false → ((m : Move) → Member m ms → g m ≡ false) → list_all g ms ≡ false
not_all g [] s h = cc
not_all g (m ∷ ms) s h = let e = h m (inl refl) in rw e

end_cases : {D : Type 0} (o : Option Bool) → (o ≡ None → D) → (o ≡ Some true → D) → (o ≡ Some false → D) → D
end_cases None f g h = f refl
end_cases (Some true) f g h = g refl
end_cases (Some false) f g h = h refl

none_passes : (g : Move → Bool) (ms : List Move) → ((m : Move) → Member m ms → g m ≡ false) → list_any g ms ≡ false
none_passes g [] none = refl
none_passes g (x ∷ ms) none = rw (none x (inl refl), none_passes g ms (λ m k. none m (inr k))) refl

one_fails : (g : Move → Bool) (m : Move) (ms : List Move) → Member m ms → g m ≡ false → list_all g ms ≡ false
one_fails g m [] k fails = absurd k
one_fails g m (x ∷ ms) (inl s) fails = let e : g x ≡ false = ap g s ∙ fails in rw e
one_fails g m (x ∷ ms) (inr k) fails = let e = one_fails g m ms k fails in by_cases (g x) (λ t. rw (t, e)) (λ t. rw t)

module _ (f : Frame) where
  abbrev G : Contest Position Move
  G = positions f.rules f.blocked f.attacker

  abbrev after : Position → Move → Position
  after p m = next f.rules p m

  -- where the attacker is to move and has not won, he wins with no move
  idle : (p : Position) → same_side p.side f.attacker ≡ true → (In.end_in f p ≡ Some true → ⊥) → In.near_in f 0 p ≡ false
  idle p t lost =
      end_cases (In.end_in f p)
      (λ e. C.forced-zero G p e t)
      (λ e. absurd (lost e))
      (λ e. C.forced-ended G 0 p false e)

  -- no reply to a position that goes on wins for him
  replied : (p : Position) (m : Move) → only_movers_win f.rules ≡ true → In.end_in f p ≡ None → same_side p.side f.attacker ≡ false → In.near_in f 0 (after p m) ≡ false
  unfolding next next_repeat
  replied p m only on t =
      let turn : same_side (after p m).side f.attacker ≡ true = (laws f.rules f.attacker).turns p m ∙ ap not t in
      let left = other_checks f.rules (repeat_of p) m ∙ some_for_other f.rules (repeat_of p) (goes_early f p on) in
      idle (after p m) turn (λ e. mover_not_won f.rules (repeat_of (after p m)) f.attacker (movers_win f.rules only) turn left (won-own f (after p m) e))

  pub unfinished : (p : Position) → only_movers_win f.rules ≡ true → In.end_in f p ≡ None → same_side p.side f.attacker ≡ false → In.near_in f 0 p ≡ false
  unfolding is_stuck
  unfinished p only on t =
      C.forced-defence G (laws f.rules f.attacker).turns 0 p on t
      ∙ not_all (λ m. In.near_in f 0 (after p m)) (In.legal_in f p) (free_to_move f p on) (λ m k. replied p m only on t)

  -- a position where the other side is to move is won at once where it is ended so, and not else
  pub won-at-once : (p : Position) → won_by f.attacker (own_end f.rules (repeat_of p)) ≡ Some true → In.near_in f 0 p ≡ true
  won-at-once p h = C.forced-ended G 0 p true (own-won f p h)

  pub lost-at-once : (p : Position) → only_movers_win f.rules ≡ true → same_side p.side f.attacker ≡ false → (won_by f.attacker (own_end f.rules (repeat_of p)) ≡ Some true → ⊥) → In.near_in f 0 p ≡ false
  lost-at-once p only t never =
      end_cases (In.end_in f p)
      (λ e. unfinished p only e t)
      (λ e. absurd (never (won-own f p e)))
      (λ e. C.forced-ended G 0 p false e)

  -- a move that attacks no king does not win at once
  pub quiet-loses : (p : Position) (m : Move) → only_checks_win f.rules ≡ true → In.end_in f p ≡ None → same_side p.side f.attacker ≡ true → gives_check f.rules (repeat_of p) m ≡ false → In.near_in f 0 (after p m) ≡ false
  unfolding gives_check next next_repeat cells_after checks_after
  quiet-loses p m only on t quiet =
      let w = checks_win f.rules only in
      let turn : same_side (after p m).side f.attacker ≡ false = (laws f.rules f.attacker).turns p m ∙ ap not t in
      let left = own_checks f.rules (repeat_of p) m quiet ∙ some_for_mover f.rules (repeat_of p) (goes_early f p on) in
      lost-at-once (after p m) w.movers turn (other_not_won f.rules (repeat_of (after p m)) f.attacker w turn (back left) quiet)
    where
      same : (s : Side) → other (other s) ≡ s
      same White = refl
      same Black = refl

      back : has_none_left f.rules (next_repeat f.rules (repeat_of p) m) p.side ≡ false → has_none_left f.rules (repeat_of (after p m)) (other (other p.side)) ≡ false
      back h = ap (has_none_left f.rules (repeat_of (after p m))) (same p.side) ∙ h

  -- nor does one after which the other side has a legal move, where checks are not counted
  pub met-loses : (p : Position) (m step : Move) → only_checks_win f.rules ≡ true → f.rules.check_counting ≡ false → same_side p.side f.attacker ≡ true → (is_ongoing (early_end f.rules (repeat_of (after p m))) ≡ true → Member step (legal f.rules (repeat_of (after p m)))) → In.near_in f 0 (after p m) ≡ false
  met-loses p m step only uncounted t leaves =
      let r = repeat_of (after p m) in
      let w = checks_win f.rules only in
      let turn : same_side (after p m).side f.attacker ≡ false = (laws f.rules f.attacker).turns p m ∙ ap not t in
      let early = early_free f.rules r w.flag (movers_win f.rules w.movers).extinction uncounted in
      let own = own-ongoing f.rules r step (leaves (ap is_ongoing early)) in
      lost-at-once (after p m) w.movers turn (λ h. let u = sym (ap (won_by f.attacker) own) ∙ h in cc)

  -- what the end by itself says of a position where the other side is to move
  pub at-once : (p : Position) → only_movers_win f.rules ≡ true → same_side p.side f.attacker ≡ false → is_won (won_by f.attacker (own_end f.rules (repeat_of p))) ≡ In.near_in f 0 p
  at-once p only t = by_end (won_by f.attacker (own_end f.rules (repeat_of p))) refl
    where
      by_end : (o : Option Bool) → won_by f.attacker (own_end f.rules (repeat_of p)) ≡ o → is_won o ≡ In.near_in f 0 p
      by_end None e = sym (lost-at-once p only t (λ k. let u = sym e ∙ k in cc))
      by_end (Some true) e = sym (won-at-once p e)
      by_end (Some false) e = sym (lost-at-once p only t (λ k. let u = sym e ∙ k in cc))

  -- where its king is not attacked the early end says it, if stalemate is no loss
  pub early-at-once : (p : Position) → only_movers_win f.rules ≡ true → same_side p.side f.attacker ≡ false → is_loss f.rules.stalemate ≡ false → king_attacked f.rules p.cells p.side ≡ false → is_won (won_by f.attacker (early_end f.rules (repeat_of p))) ≡ In.near_in f 0 p
  early-at-once p only t v quiet = early_own f.rules (repeat_of p) f.attacker v t quiet ∙ at-once p only t

  -- one move that wins at once is enough
  pub one-move : (p : Position) (m : Move) → In.IsAttackIn f p → Member m (In.legal_in f p) → In.near_in f 0 (after p m) ≡ true → In.near_in f 1 p ≡ true
  one-move p m d is won =
      C.forced-attack G (laws f.rules f.attacker).turns 0 p d.ongoing d.turn
      ∙ any_intro (λ x. In.near_in f 0 (after p x)) m (In.legal_in f p) is won

  -- it does not win at once where a reply is legal
  pub reply-loses : (p : Position) (reply : Move) → only_movers_win f.rules ≡ true → same_side p.side f.attacker ≡ false → Member reply (legal f.rules (repeat_of p)) → In.near_in f 0 p ≡ false
  reply-loses p reply movers t is =
      let own = own-ongoing f.rules (repeat_of p) reply is in
      lost-at-once p movers t (λ h. let u = sym (ap (won_by f.attacker) own) ∙ h in cc)

  -- one that goes on is won by one move where some move wins at once
  pub one-or-none : (p : Position) → In.IsAttackIn f p → (o : Option Move) → IfSome o (λ m. Member m (In.legal_in f p)) → IfSome o (λ m. In.near_in f 0 (after p m) ≡ true) → (o ≡ None → (m : Move) → Member m (In.legal_in f p) → In.near_in f 0 (after p m) ≡ false) → is_some o ≡ In.near_in f 1 p
  one-or-none p d None is won none =
      sym (C.forced-attack G (laws f.rules f.attacker).turns 0 p d.ongoing d.turn
      ∙ none_passes (λ m. In.near_in f 0 (after p m)) (In.legal_in f p) (none refl))
  one-or-none p d (Some m) is won none = sym (one-move p m d is won)

  -- and is not won where the other side has a reply after which it is not
  pub one-reply : (p : Position) (m : Move) → In.end_in f p ≡ None → same_side p.side f.attacker ≡ false → Member m (In.legal_in f p) → In.near_in f 1 (after p m) ≡ false → In.near_in f 1 p ≡ false
  one-reply p m on t is lost =
      C.forced-defence G (laws f.rules f.attacker).turns 1 p on t
      ∙ one_fails (λ x. In.near_in f 1 (after p x)) m (In.legal_in f p) is lost

  pub turn-after : (p q : Position) (m : Move) → q ≡ after p m → same_side p.side f.attacker ≡ true → same_side q.side f.attacker ≡ false
  turn-after p q m e t = ap (λ (x : Position). same_side x.side f.attacker) e ∙ (laws f.rules f.attacker).turns p m ∙ ap not t

  pub turn-back : (p q : Position) (m : Move) → q ≡ after p m → same_side p.side f.attacker ≡ false → same_side q.side f.attacker ≡ true
  turn-back p q m e t = ap (λ (x : Position). same_side x.side f.attacker) e ∙ (laws f.rules f.attacker).turns p m ∙ ap not t
