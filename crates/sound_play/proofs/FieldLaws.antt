-- What a move does to rights, gates and counts, in every variant.
use Rattle.std.proofs.Common.{◌≡◌, ℕ, ◌-◌, ◌%◌, ◌^◌, ◌≤◌, Bool, true, false, not, if◌then◌else◌, Option, List, refl, sym, ◌∙◌, arith, ◌==◌, bit_and}
use Rattle.std.proofs.lemmas.Bool.{and_parts}
use Rattle.std.specs.Int.{bit_at}
use Rattle.std.proofs.lemmas.Bool.Decides.{Decides-eqb, nat_tests}
use Rattle.std.proofs.lemmas.Nat.Bits.{bit_at_and}
use Rattle.rules_model.specs.declared.board.Cell.{Cell}
use Rattle.rules_model.specs.declared.board.Position.{Position}
use Rattle.rules_model.specs.declared.board.Repeat.{Repeat}
use Rattle.rules_model.specs.declared.board.Side.{Side}
use Rattle.rules_model.specs.declared.board.Side.TheVariants.{White, Black}
use Rattle.rules_model.specs.declared.board.Wing.{Wing}
use Rattle.rules_model.specs.declared.board.Wing.TheVariants.{Kingside, Queenside}
use Rattle.rules_model.specs.declared.moves.Move.{Move}
use Rattle.rules_model.specs.declared.moves.Move.TheVariants.{Go, Castle, Drop}
use Rattle.rules_model.specs.declared.rules.Rules.{Rules}
use Rattle.rules_model.specs.Repeats.{repeat_of}
use Rattle.rules_model.specs.Regions.{castling_square, on_first_rank}
use Rattle.rules_model.specs.Gates.{closed_at, has_gate}
use Rattle.rules_model.specs.Castling.{holds_right, rook_file}
use Rattle.rules_model.specs.Next.{cells_after, gates_after, keeps_right, leaves, next, next_number, next_repeat, rights_after, risen, rook_stays, side_gates_after}
use Rattle.rules_model.proofs.GameLaws.{next_counter-range}

-- ---- rights

pub rights_after-is : (rules : Rules) (r : Repeat) (m : Move) (later : List (Option Cell)) (side : Side) (wing : Wing) → holds_right (rights_after rules r m later) side wing ≡ keeps_right rules r m later side wing
unfolding rights_after
rights_after-is rules r m later White Kingside = refl
rights_after-is rules r m later White Queenside = refl
rights_after-is rules r m later Black Kingside = refl
rights_after-is rules r m later Black Queenside = refl

-- a right that is held was held
pub right_was_held : (rules : Rules) (r : Repeat) (m : Move) (later : List (Option Cell)) (side : Side) (wing : Wing) → holds_right (rights_after rules r m later) side wing ≡ true → holds_right r.rights side wing ≡ true
unfolding keeps_right
right_was_held rules r m later side wing e =
    let a : keeps_right rules r m later side wing ≡ true = sym (rights_after-is rules r m later side wing) ∙ e in
    (and_parts (holds_right r.rights side wing) (not (leaves m (castling_square rules side rules.castle_king))) (and_parts _ (rook_stays rules side m (rook_file rules r.cells side wing) (rook_file rules later side wing)) a).0).0

-- ---- gates

bit_kept : (a b n : ℕ) → bit_at (bit_and a b) n ≡ 1 → bit_at a n ≡ 1
bit_kept a b n e = let h = bit_at_and a b n in omega (arith, h, e)

if_closed : (c : Bool) (gates mask file : ℕ) → bit_at (if c then bit_and gates mask else gates) file ≡ 1 → bit_at gates file ≡ 1
if_closed true gates mask file e = bit_kept gates mask file e
if_closed false gates mask file e = e

pub closed_at-kept : (rules : Rules) (side : Side) (s gates file : ℕ) → bit_at (closed_at rules side s gates) file ≡ 1 → bit_at gates file ≡ 1
closed_at-kept rules side s gates file e = if_closed (on_first_rank rules side s) gates (65535 - 2 ^ (s % 12)) file e

side_gates-kept : (rules : Rules) (side : Side) (m : Move) (gates file : ℕ) → bit_at (side_gates_after rules side m gates) file ≡ 1 → bit_at gates file ≡ 1
side_gates-kept rules side (Go from to promo gate) gates file e = closed_at-kept rules side from.0 gates file (closed_at-kept rules side to.0 _ file e)
side_gates-kept rules side (Castle from to rook gate) gates file e =
    closed_at-kept rules side from.0 gates file (closed_at-kept rules side rook.0 _ file (closed_at-kept rules side to.0 _ file (closed_at-kept rules side _ _ file e)))
side_gates-kept rules side (Drop kind to) gates file e = closed_at-kept rules side to.0 gates file e

gate_of : (a b : ℕ) → (a ≡ 1 → b ≡ 1) → (a == 1) ≡ true → (b == 1) ≡ true
gate_of a b h e = (Decides-eqb b 1).1 (h ((Decides-eqb a 1).0 e))

-- a gate that is open was open
pub gate_was_open : (rules : Rules) (r : Repeat) (m : Move) (side : Side) (file : ℕ) → has_gate (gates_after rules r m) side file ≡ true → has_gate r.gates side file ≡ true
unfolding gates_after
gate_was_open rules r m White file e = gate_of _ _ (side_gates-kept rules White m _ file) e
gate_was_open rules r m Black file e = gate_of _ _ (side_gates-kept rules Black m _ file) e

pub next_repeat-rights : (rules : Rules) (r : Repeat) (m : Move) (side : Side) (wing : Wing) → holds_right (next_repeat rules r m).rights side wing ≡ true → holds_right r.rights side wing ≡ true
unfolding next_repeat
next_repeat-rights rules r m side wing e = right_was_held rules r m (cells_after rules r m) side wing e

pub next_repeat-gates : (rules : Rules) (r : Repeat) (m : Move) (side : Side) (file : ℕ) → has_gate (next_repeat rules r m).gates side file ≡ true → has_gate r.gates side file ≡ true
unfolding next_repeat
next_repeat-gates rules r m side file e = gate_was_open rules r m side file e

-- ---- the counts

risen_least : (n : ℕ) → 1 ≤ n → 1 ≤ risen n
risen_least n h = grind (arith, nat_tests)

risen_most : (n : ℕ) → n ≤ 9999 → risen n ≤ 9999
risen_most n h = grind (arith, nat_tests)

number_least : (side : Side) (n : ℕ) → 1 ≤ n → 1 ≤ next_number side n
number_least White n h = h
number_least Black n h = risen_least n h

number_most : (side : Side) (n : ℕ) → n ≤ 9999 → next_number side n ≤ 9999
number_most White n h = h
number_most Black n h = risen_most n h

pub next-counter_most : (rules : Rules) (p : Position) (m : Move) → p.counter ≤ 9999 → (next rules p m).counter ≤ 9999
unfolding next
next-counter_most rules p m h = next_counter-range rules (repeat_of p) m p.counter h

pub next-number_least : (rules : Rules) (p : Position) (m : Move) → 1 ≤ p.number → 1 ≤ (next rules p m).number
unfolding next
next-number_least rules p m h = number_least p.side p.number h

pub next-number_most : (rules : Rules) (p : Position) (m : Move) → p.number ≤ 9999 → (next rules p m).number ≤ 9999
unfolding next
next-number_most rules p m h = number_most p.side p.number h
