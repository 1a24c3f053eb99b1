-- Moves of a piece to many squares, of which it is told at once which are chosen.
use Rattle.std.proofs.Common.{◌≡◌, ℕ, ◌+◌, ◌<◌, min, Bool, true, false, not, ◌&&◌, ◌||◌, Option, Some, None, length, refl, sym, ap, ◌∙◌, subst}
use Rattle.std.specs.Bool.{OnTrue}
use Rattle.std.specs.Prelude.{IfSome}
use Rattle.std.specs.List.{filter}
use Rattle.std.proofs.lemmas.Bool.{and_from, and_parts, lt-ltb, not-true}
use Rattle.rules_model.specs.declared.board.Kind.{Kind}
use Rattle.rules_model.specs.declared.board.Repeat.{Repeat}
use Rattle.rules_model.specs.declared.board.Square.{Square}
use Rattle.rules_model.specs.declared.moves.Move.{Move}
use Rattle.rules_model.specs.declared.moves.Move.TheVariants.{Go}
use Rattle.rules_model.specs.declared.moves.Promo.TheVariants.{Stays}
use Rattle.rules_model.specs.declared.rules.Rules.{Rules}
use Rattle.rules_model.specs.Legal.{is_safe, is_sane}
use Rattle.rules_model.specs.Pawns.{passes_by}
use Rattle.square_set.specs.declared.Set.{Set}
use Rattle.square_set.specs.Members.{has, size}
use Rattle.square_set.proofs.Cases.{by_bool}
use Rattle.piece_moves.specs.InTurn.{GoesTo, target_of}
use Rattle.legality.specs.declared.move_filter.GenType.{GenType}
use Rattle.legality.specs.Chosen.{AreTargetsFrom, AreTargetsOf, AreWantedTo, is_chosen, is_fit_move, is_wanted}
use Rattle.legality.specs.Moved.{AreSane, GateAtOnce, GateFreely, GoAtOnce, GoFreely, IsBarred, MayGate, MayGo, MayNotGate, MayNotGo, asks_only_safety}
use Rattle.legality.proofs.AllMade.{made-those, made_below}
use Rattle.legality.proofs.PinLaws.{not_passing, plain_sane}

asks_nothing : (bad checking drops : Bool) → bad ≡ false → checking ≡ true → (bad || not (checking && (drops || true))) ≡ false
asks_nothing true checking drops e f = cc
asks_nothing false true true e f = refl
asks_nothing false true false e f = refl
asks_nothing false false drops e f = cc

-- where only safety is asked, what is safe is sane
module _ (rules : Rules) (r : Repeat) (only : asks_only_safety rules ≡ true) where
  nothing_more : (rules.immobile_bad || not (rules.checking && (rules.drop_checks || true))) ≡ false
  nothing_more =
      let b = and_parts (not rules.immobile_bad) rules.checking only in
      asks_nothing rules.immobile_bad rules.checking rules.drop_checks (not-true rules.immobile_bad b.0) b.1

  module _ (own barred : Set) (bars : IsBarred r own barred) where
    pub go_at_once : (leave : Set) → GoFreely rules r own leave → GoAtOnce rules r leave barred
    go_at_once leave freely from to l m h target =
        let apart = bars to.0 m target in
        plain_sane rules r (Go from to Stays None) nothing_more
        ∙ freely from to Stays l m h apart.0 refl (not_passing rules r from to.0 apart.1)

    pub gate_at_once : (kings enter not_barred : Set) → ((s : ℕ) → has not_barred s ≡ (has enter s && not (has barred s)))
        → GateFreely rules r own kings enter → GateAtOnce rules r own kings not_barred
    gate_at_once kings enter not_barred is freely kind from to l m member king h mere =
        let both = and_parts (has enter to.0) (not (has barred to.0)) (sym (is to.0) ∙ h) in
        let apart = bars to.0 m (not-true (has barred to.0) both.1) in
        plain_sane rules r (Go from to Stays (Some kind)) nothing_more
        ∙ freely kind from to l m member king both.0 mere (not_passing rules r from to.0 apart.1)

    -- the targets of a king that goes where it is safe
    pub king_goes : (from : Square) (targets danger sane : Set)
        → ((to : Square) → to.0 < 120 → has targets to.0 ≡ true → has own to.0 ≡ false → passes_by rules r from to.0 ≡ false
        → is_safe rules r (Go from to Stays None) ≡ not (has danger to.0))
        → ((s : ℕ) → has targets s ≡ true → s < 120) → ((s : ℕ) → (has targets s && has barred s) ≡ false)
        → ((s : ℕ) → has sane s ≡ (has targets s && not (has danger s))) → AreSane rules r from targets sane
    king_goes from targets danger sane safe small apart is to =
        by_bool (has targets to.0) (has sane to.0 ≡ (has targets to.0 && is_sane rules r (Go from to Stays None)))
        (λ e.
        let m = small to.0 e in
        let bar = bars to.0 m (sym (ap (λ b. b && has barred to.0) e) ∙ apart to.0) in
        let told = plain_sane rules r (Go from to Stays None) nothing_more ∙ safe to m e bar.0 (not_passing rules r from to.0 bar.1) in
        is to.0 ∙ ap (λ b. has targets to.0 && b) (sym told))
        (λ e. is to.0 ∙ rw e refl)

fit_go : (from to : Square) → from.0 < 120 → to.0 < 120 → is_fit_move (Go from to Stays None) ≡ true
unfolding is_fit_move
fit_go from to l m = rw (lt-ltb from.0 120 l, lt-ltb to.0 120 m) refl

-- where such moves are wanted, and sane, they are chosen
pub all_chosen : (rules : Rules) (r : Repeat) (gen_type : GenType) (from : Square) (gate : Option Kind) (targets : Set) → AreWantedTo rules r gen_type targets → from.0 < 120 → ((s : ℕ) → has targets s ≡ true → s < 120) → gate ≡ None → MayGo rules r from targets → (m : Move) → GoesTo from gate targets m → is_chosen rules r gen_type m ≡ true
unfolding is_chosen
all_chosen rules r gen_type from gate targets wanted l small none may m h =
    let to : Square = record { 0 = target_of m } in
    let is : Go from to Stays None ≡ m = ap (Go from to Stays) (sym none) ∙ h.0 in
    let n = small (target_of m) h.1 in
    subst (λ x. is_chosen rules r gen_type x ≡ true) is (and_from _ _ (fit_go from to l n) (and_from _ _ (wanted from to None h.1) (may to n h.1)))

-- where the move is wanted, it is chosen if it is sane
pub chosen_is_sane : (rules : Rules) (r : Repeat) (gen_type : GenType) (from to : Square) → is_wanted rules r gen_type (Go from to Stays None) ≡ true → from.0 < 120 → to.0 < 120 → is_chosen rules r gen_type (Go from to Stays None) ≡ is_sane rules r (Go from to Stays None)
unfolding is_chosen
chosen_is_sane rules r gen_type from to wanted l m =
    let move : Move = Go from to Stays None in
    ap (λ b. b && (is_wanted rules r gen_type move && is_sane rules r move)) (fit_go from to l m) ∙ ap (λ b. b && is_sane rules r move) wanted

pub sane_chosen : (rules : Rules) (r : Repeat) (gen_type : GenType) (from : Square) (gate : Option Kind) (targets sane : Set) → AreWantedTo rules r gen_type targets → from.0 < 120 → ((s : ℕ) → has targets s ≡ true → s < 120) → gate ≡ None → AreSane rules r from targets sane → AreTargetsFrom (is_chosen rules r gen_type) from gate targets sane
sane_chosen rules r gen_type from gate targets sane wanted l small none are to =
    by_bool (has targets to.0) (has sane to.0 ≡ (has targets to.0 && is_chosen rules r gen_type (Go from to Stays gate)))
    (λ e.
    are to ∙ ap (λ b. has targets to.0 && b)
    (sym (chosen_is_sane rules r gen_type from to (wanted from to None e) l (small to.0 e)) ∙ ap (λ g. is_chosen rules r gen_type (Go from to Stays g)) (sym none)))
    (λ e. are to ∙ rw e refl)

-- ---- with a piece that comes in behind

fit_gate : (from to : Square) (kind : Kind) → from.0 < 120 → to.0 < 120 → kind.0 < 26 → is_fit_move (Go from to Stays (Some kind)) ≡ true
unfolding is_fit_move
fit_gate from to kind l m k = rw (lt-ltb from.0 120 l, lt-ltb to.0 120 m, lt-ltb kind.0 26 k) refl

pub all_gated : (rules : Rules) (r : Repeat) (gen_type : GenType) (from : Square) (kind : Kind) (targets : Set) → AreWantedTo rules r gen_type targets → from.0 < 120 → kind.0 < 26 → ((s : ℕ) → has targets s ≡ true → s < 120) → MayGate rules r from kind targets → (m : Move) → GoesTo from (Some kind) targets m → is_chosen rules r gen_type m ≡ true
unfolding is_chosen
all_gated rules r gen_type from kind targets wanted l k small may m h =
    let to : Square = record { 0 = target_of m } in
    let n = small (target_of m) h.1 in
    subst (λ x. is_chosen rules r gen_type x ≡ true) h.0 (and_from _ _ (fit_gate from to kind l n k) (and_from _ _ (wanted from to (Some kind) h.1) (may to n h.1)))

-- ---- of which none is sane

last_false : (a b c : Bool) → c ≡ false → (a && (b && c)) ≡ false
last_false true true c e = e
last_false true false c e = refl
last_false false b c e = refl

pub not_chosen : (rules : Rules) (r : Repeat) (gen_type : GenType) (m : Move) → is_sane rules r m ≡ false → is_chosen rules r gen_type m ≡ false
unfolding is_chosen
not_chosen rules r gen_type m e = last_false (is_fit_move m) (is_wanted rules r gen_type m) (is_sane rules r m) e

pub none_chosen : (rules : Rules) (r : Repeat) (gen_type : GenType) (from : Square) (gate : Option Kind) (targets : Set) → ((s : ℕ) → has targets s ≡ true → s < 120) → gate ≡ None → MayNotGo rules r from targets → (m : Move) → GoesTo from gate targets m → is_chosen rules r gen_type m ≡ false
none_chosen rules r gen_type from gate targets small none barred m h =
    let to : Square = record { 0 = target_of m } in
    let is : Go from to Stays None ≡ m = ap (Go from to Stays) (sym none) ∙ h.0 in
    subst (λ x. is_chosen rules r gen_type x ≡ false) is (not_chosen rules r gen_type (Go from to Stays None) (barred to (small (target_of m) h.1) h.1))

pub none_gated : (rules : Rules) (r : Repeat) (gen_type : GenType) (from : Square) (kind : Kind) (targets : Set) → ((s : ℕ) → has targets s ≡ true → s < 120) → MayNotGate rules r from kind targets → (m : Move) → GoesTo from (Some kind) targets m → is_chosen rules r gen_type m ≡ false
none_gated rules r gen_type from kind targets small barred m h =
    let to : Square = record { 0 = target_of m } in
    subst (λ x. is_chosen rules r gen_type x ≡ false) h.0 (not_chosen rules r gen_type (Go from to Stays (Some kind)) (barred to (small (target_of m) h.1) h.1))

-- ---- as many as are counted

pub on_true : {P Q : Type 0} (b : Bool) → OnTrue b P → (P → Q) → OnTrue b Q
on_true true p f = f p
on_true false p f = tt

pub in_some : {X : Type 0} {P Q : X → Type 0} (o : Option X) → IfSome o P → ((x : X) → P x → Q x) → IfSome o Q
in_some None h f = tt
in_some (Some x) h f = f x h

-- those that are counted at once are as many as the squares
pub counted_those : (test : Move → Bool) (make : Square → Move) (targets those : Set) (top old more new : ℕ) → more ≡ size those → AreTargetsOf test make targets those → new ≡ min (old + more) top → new ≡ min (old + length (filter test (made_below make targets 128))) top
counted_those test make targets those top old more new e are is =
    let many : length (filter test (made_below make targets 128)) ≡ more = made-those make targets test those are ∙ sym e in
    is ∙ ap (λ n. min (old + n) top) (sym many)
