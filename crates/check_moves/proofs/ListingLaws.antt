-- What is not asked for gives no check, or leaves the king a step.
use Rattle.std.proofs.Common.{◌≡◌, ◌⊎◌, inl, inr, ⊎_elim, ℕ, ◌+◌, ◌-◌, ◌^◌, ◌<◌, Bool, true, false, not, ◌&&◌, ◌==◌, Option, Some, None, List, length, slice_index_or, refl, sym, ap, ◌∙◌, subst, arith}
use Rattle.std.specs.Prelude.{slice_set, IfSome}
use Rattle.std.proofs.lemmas.Bool.{lt-ltb, or_parts}
use Rattle.std.proofs.lemmas.List.{get_or-set_same, get_or-set_other}
use Rattle.foundation.specs.Member.{Member, Appends}
use Rattle.rules_model.specs.declared.board.Cell.{Cell}
use Rattle.rules_model.specs.declared.board.Kind.{Kind}
use Rattle.rules_model.specs.declared.board.Square.{Square}
use Rattle.rules_model.specs.declared.moves.Move.{Move}
use Rattle.rules_model.specs.declared.moves.Move.TheVariants.{Go, Castle, Drop}
use Rattle.rules_model.specs.declared.moves.Promo.{Promo}
use Rattle.rules_model.specs.declared.moves.Promo.TheVariants.{Stays, Pawn, Plus}
use Rattle.rules_model.specs.Legal.{gives_check}
use Rattle.rules_model.specs.Moves.{IsFitMove}
use Rattle.rules_model.specs.Next.{after_promo}
use Rattle.rules_model.specs.Pawns.{is_ep}
use Rattle.rules_model.specs.Sides.{same_side}
use Rattle.rules_model.specs.Squares.{cell_at}
use Rattle.rules_model.proofs.LegalLaws.{legal-member}
use Rattle.square_set.specs.declared.Set.{Set}
use Rattle.square_set.specs.Members.{has, IsWithout}
use Rattle.square_set.proofs.Cases.{by_bool, by_equal, by_order}
use Rattle.move_tables.specs.Occupied.{IsOccupied}
use Rattle.legality.specs.declared.asked.Asked.{Asked}
use Rattle.legality.specs.Asking.{IsAskedIn, is_asked, is_to, is_to_as, is_to_of}
use Rattle.legality.specs.Stance.{Stance, legal_in, repeat_in}
use Rattle.legality.proofs.AskingLaws.{is_to-above, is_to-letter}
use Rattle.pins.proofs.GuardLaws.{every_square}
use Rattle.check_moves.specs.declared.checks.Checks.{Checks}
use Rattle.check_moves.specs.declared.flights.Flight.{Flight}
use Rattle.check_moves.specs.Checks.{AreChecksIn, ComesQuietly, ReachesNone}
use Rattle.check_moves.specs.Flights.{IsFlight, IsMet, StaysOpen, step_of}
use Rattle.check_moves.specs.Listing.{AppendsChecks, ComesInVain, IsApart, IsAskedOf, IsLeft, IsToClose, MakesSets, MayMate, TakesNone}
use Rattle.check_moves.proofs.ComeLaws.{comes_quietly, drop_is_quiet, go_is_quiet, same_is}
use Rattle.check_moves.proofs.FlightLaws.{drop-leaves, go-leaves, stays-open}

not_false : (b : Bool) → not b ≡ false → b ≡ true
not_false true e = refl
not_false false e = cc

pub not_true : (b : Bool) → not b ≡ true → b ≡ false
not_true true e = cc
not_true false e = refl

never : (b : Bool) → b ≡ true → b ≡ false → ⊥
never true e f = cc
never false e f = cc

-- where all legal moves were appended, so were all checks
pub all_listed : (s : Stance) (old new : List Move) → Appends (λ m. Member m (legal_in s)) old new → AppendsChecks s old new
all_listed s old new a = record {
  added = a.added;
  is = a.is;
  each = record { once = a.each.once; sound = a.each.sound; complete = λ m legal may. a.each.complete m legal };
}

-- what holds of the sets below n and of the next one
pub set_more : (P : ℕ → Set → Type 0) (sets : List Set) (n : ℕ) (x : Set) → n < length sets → ((k : ℕ) → k < n → (d : Set) → P k (slice_index_or sets k d)) → P n x → (k : ℕ) → k < n + 1 → (d : Set) → P k (slice_index_or (slice_set sets n x) k d)
set_more P sets n x small old new k l d =
    by_equal k n (P k (slice_index_or (slice_set sets n x) k d))
    (λ q e. let At : ℕ → Type 0 = λ j. P j (slice_index_or (slice_set sets n x) j d) in
    subst At (sym e) (subst (P n) (sym (get_or-set_same sets n x d small)) new))
    (λ q e. subst (P k) (sym (get_or-set_other sets n k x d e)) (old k (omega (arith, l, e)) d))

-- a set that is empty without a square has no other
pub only-one : (squares rest : Set) (at : ℕ) → IsWithout squares at rest → ((t : ℕ) → has rest t ≡ false) → (s : ℕ) → has squares s ≡ true → s ≡ at
only-one squares rest at without none s h =
    by_equal s at (s ≡ at) (λ q e. e)
    (λ q e.
    let left : has rest s ≡ true = without s ∙ rw (h, q) refl in
    absurd (let no = none s in let f : ⊥ = cc in f))

-- every square is one of the full set
pub not_all : (at : ℕ) → at < 120 → has (record { 0 = 2 ^ 128 - 1 }) at ≡ false → ⊥
not_all at low out = never (has (record { 0 = 2 ^ 128 - 1 }) at) (every_square at ∙ lt-ltb at 128 (omega (arith, low))) out

-- the step's square is the only one
off_target : (s : Stance) (flight : Flight) → IsFlight s flight → (at : ℕ) → has flight.target at ≡ false → (at == flight.to) ≡ false
off_target s flight is at out =
    by_equal at flight.to ((at == flight.to) ≡ false)
    (λ q e. absurd (never (has flight.target at) (ap (has flight.target) e ∙ is.target) out))
    (λ q e. q)

-- the king of a step that is looked at stands on the board
pub king_small : (s : Stance) (step : Option Flight) → IfSome step (IsToClose s) → IfSome step (λ flight. flight.king.at < 120)
king_small s None known = tt
king_small s (Some flight) known = known.flight.king.small

no_ep : (s : Stance) (to : ℕ) (passed : Bool) → (is_ep s.position.ep to ≡ true → passed ≡ true) → passed ≡ false → is_ep s.position.ep to ≡ false
no_ep s to passed ep out =
    by_bool (is_ep s.position.ep to) (is_ep s.position.ep to ≡ false)
    (λ e. absurd (never passed (ep e) out))
    (λ e. e)

-- what comes to a square outside the sets comes in vain
pub in_vain_by : (s : Stance) (checks : Checks) (step : Option Flight) (kind to : ℕ) (takes closes passed : Bool) → (is_ep s.position.ep to ≡ true → passed ≡ true) → (takes ≡ false → TakesNone s.rules s.position.side kind checks.kings to) → (closes ≡ false → IsApart s step kind to) → (takes && closes) ≡ false → passed ≡ false → ComesInVain s checks step kind to
in_vain_by s checks step kind to true closes passed ep none apart e out = (no_ep s to passed ep out, inr (apart e))
in_vain_by s checks step kind to false closes passed ep none apart e out = (no_ep s to passed ep out, inl (none refl))

-- a step that stays open where a piece of the kind leaves the one square for the other
record OpenStep (s : Stance) (kind : Kind) (from to : ℕ) : Type 0 where
  flight : Flight
  is : IsFlight s flight
  uncounted : s.rules.check_counting ≡ false
  stays : StaysOpen s flight kind from to

-- the move gives no check, or leaves the step
abbrev IsIdle : Stance → Move → Type 0
IsIdle s m = (gives_check s.rules (repeat_in s) m ≡ false) ⊎ ((s.rules.check_counting ≡ false) × IsMet s m)

idle_never : (s : Stance) (m : Move) → MayMate s m → IsIdle s m → ⊥
idle_never s m may idle =
    ⊎_elim (λ quiet. never (gives_check s.rules (repeat_in s) m) may.checks quiet) (λ met. may.unmet met.0 met.1) idle

module _ (s : Stance) (checks : Checks) (step : Option Flight) (asked : Asked) (are : AreChecksIn s checks) (known : IfSome step (IsToClose s)) (of : IsAskedOf s checks step asked) (size : length s.position.cells ≡ 120) (walks : s.rules.flying ≡ false)
    (occupied : Set) (is : IsOccupied occupied s.position.cells) (sets : MakesSets occupied) where
  abbrev to_of : Kind → Set
  to_of kind = slice_index_or asked.to kind.0 (record { 0 = 0 })

  reaches_none : (kind : Kind) (to : ℕ) (moved : Set) → TakesNone s.rules s.position.side kind.0 checks.kings to → ReachesNone s.rules s.position.side kind to moved checks.kings
  reaches_none kind to moved none = λ board on king member. none king member moved board on

  quiet_come : (kind : Kind) (from to : ℕ) → from < 120 → to < 120 → has asked.shut from ≡ true → TakesNone s.rules s.position.side kind.0 checks.kings to → ComesQuietly s.rules s.position.side kind s.position.cells from to
  quiet_come kind from to fl tl closed none = λ later come.
      let moved = sets from to (omega (arith, fl)) (omega (arith, tl)) in
      comes_quietly s.rules s.position.side kind s.position.cells from to later come occupied moved.set is moved.is checks are
      (of.shut from closed) (reaches_none kind to moved.set none) walks

  open_come : (kind : Kind) (from to : ℕ) → from < 120 → to < 120 → (o : Option Flight) → IfSome o (IsToClose s) → IsLeft o from → IsApart s o kind.0 to → OpenStep s kind from to
  open_come kind from to fl tl None told left apart = absurd apart
  open_come kind from to fl tl (Some flight) told left apart =
      let moved = sets from to (omega (arith, fl)) (omega (arith, tl)) in
      let on = told.sets from to (omega (arith, fl)) (omega (arith, tl)) in
      record {
        flight = flight;
        is = told.flight;
        uncounted = told.uncounted;
        stays = stays-open s flight told.flight kind from to
            left.0 (off_target s flight told.flight from left.1) apart.0 (off_target s flight told.flight to apart.1) left.2
            occupied moved.set on.set is moved.is (told.leap moved.set) on.is (λ board there. apart.2 on.set board there);
      }

  in_vain : (kind : Kind) (to : ℕ) → to < 120 → is_to asked kind to ≡ false → ComesInVain s checks step kind.0 to
  in_vain kind to tl e =
      by_order kind.0 26 (ComesInVain s checks step kind.0 to)
      (λ l. of.kinds kind.0 l (record { 0 = 0 }) to tl (sym (is_to-letter asked kind to l (to_of kind) refl) ∙ e))
      (λ l. absurd (never (is_to asked kind to) (is_to-above asked kind to l) e))

  come_idle : (from to : Square) (promo : Promo) (x : Cell) → from.0 < 120 → to.0 < 120 → cell_at s.position.cells from.0 ≡ Some x → x.side ≡ s.position.side → has asked.shut from.0 ≡ true → ComesInVain s checks step (after_promo s.rules x promo).kind.0 to.0 → IsIdle s (Go from to promo None)
  come_idle from to promo x fl tl there own closed vain =
      let kind = (after_promo s.rules x promo).kind in
      ⊎_elim
      (λ none. inl (go_is_quiet s.rules (repeat_in s) size from to promo x fl tl there own vain.0 (quiet_come kind from.0 to.0 fl tl closed none)))
      (λ apart.
      let way = open_come kind from.0 to.0 fl tl step known (of.left from.0 closed) apart in
      inr (way.uncounted, record { reply = step_of way.flight; legal = go-leaves s way.flight way.is size from to promo x fl tl there own vain.0 way.stays }))
      vain.1

  cell_idle : (from to : Square) (o : Option Cell) → from.0 < 120 → to.0 < 120 → cell_at s.position.cells from.0 ≡ o → has asked.shut from.0 ≡ true → is_to_of asked s.position.side o to.0 ≡ false → IsIdle s (Go from to Stays None)
  cell_idle from to None fl tl there closed e = cc
  cell_idle from to (Some x) fl tl there closed e =
      let p = or_parts (not (same_side x.side s.position.side)) (is_to asked x.kind to.0) e in
      come_idle from to Stays x fl tl there (same_is x.side s.position.side (not_false _ p.0)) closed (in_vain x.kind to.0 tl p.1)

  promoted_idle : (from to : Square) (kind : Kind) (o : Option Cell) → from.0 < 120 → to.0 < 120 → cell_at s.position.cells from.0 ≡ o → has asked.shut from.0 ≡ true → is_to_as asked s.position.side kind o to.0 ≡ false → IsIdle s (Go from to (Pawn kind) None)
  promoted_idle from to kind None fl tl there closed e = cc
  promoted_idle from to kind (Some x) fl tl there closed e =
      let p = or_parts (not (same_side x.side s.position.side)) (is_to asked kind to.0) e in
      come_idle from to (Pawn kind) x fl tl there (same_is x.side s.position.side (not_false _ p.0)) closed (in_vain kind to.0 tl p.1)

  dropped_idle : (kind : Kind) (to : Square) → to.0 < 120 → has asked.shut to.0 ≡ true → ComesInVain s checks step kind.0 to.0 → IsIdle s (Drop kind to)
  dropped_idle kind to tl closed vain =
      ⊎_elim
      (λ none. inl (drop_is_quiet s.rules (repeat_in s) size kind to tl (quiet_come kind to.0 to.0 tl tl closed none)))
      (λ apart.
      let way = open_come kind to.0 to.0 tl tl step known (of.left to.0 closed) apart in
      inr (way.uncounted, record { reply = step_of way.flight; legal = drop-leaves s way.flight way.is size kind to tl way.stays }))
      vain.1

  -- a legal move that is not asked for gives no check or leaves the step
  pub unasked_idle : (m : Move) → IsFitMove m → is_asked asked (repeat_in s) m ≡ false → IsIdle s m
  unasked_idle (Go from to Stays None) fit e =
      let p = or_parts (not (has asked.shut from.0)) (is_to_of asked s.position.side (cell_at s.position.cells from.0) to.0) e in
      cell_idle from to (cell_at s.position.cells from.0) fit.0 fit.1 refl (not_false _ p.0) p.1
  unasked_idle (Go from to Stays (Some kind)) fit e = cc
  unasked_idle (Go from to (Pawn kind) None) fit e =
      let p = or_parts (not (has asked.shut from.0)) (is_to_as asked s.position.side kind (cell_at s.position.cells from.0) to.0) e in
      promoted_idle from to kind (cell_at s.position.cells from.0) fit.0 fit.1 refl (not_false _ p.0) p.1
  unasked_idle (Go from to (Pawn kind) (Some placed)) fit e = cc
  unasked_idle (Go from to Plus gate) fit e = cc
  unasked_idle (Castle from to rook gate) fit e = cc
  unasked_idle (Drop kind to) fit e =
      let p = or_parts (not (has asked.shut to.0)) (is_to asked kind to.0) e in
      dropped_idle kind to fit.1 (not_false _ p.0) (in_vain kind to.0 fit.1 p.1)

  asked_mates : (m : Move) → Member m (legal_in s) → MayMate s m → is_asked asked (repeat_in s) m ≡ true
  asked_mates m legal may =
      by_bool (is_asked asked (repeat_in s) m) (is_asked asked (repeat_in s) m ≡ true)
      (λ e. e)
      (λ e. absurd (idle_never s m may (unasked_idle m (legal-member _ _ _ legal).0 e)))

  pub asked_listed : (old new : List Move) → Appends (IsAskedIn asked s) old new → AppendsChecks s old new
  asked_listed old new a = record {
    added = a.added;
    is = a.is;
    each = record {
      once = a.each.once;
      sound = λ m h. (a.each.sound m h).0;
      complete = λ m legal may. a.each.complete m (legal, asked_mates m legal may);
    };
  }
