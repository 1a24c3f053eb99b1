-- The rights and gates that a text says may be held.
use Rattle.std.proofs.Common.{◌≡◌, ℕ, zero, suc, ◌+◌, ◌*◌, ◌^◌, ◌<◌, nat_lt, ◌==◌, Bool, true, false, ◌&&◌, if◌then◌else◌, List, [], ◌∷◌, length, Option, Ok, Err, refl, sym, ap, ◌∙◌, arith, subst, ⊎_elim}
use Rattle.std.specs.Int.{bit_at}
use Rattle.std.specs.List.{list_all}
use Rattle.std.proofs.lemmas.Bool.{cases_Bool, lt-ltb, and_from, and_parts}
use Rattle.std.proofs.lemmas.Nat.Bits.{bit_at-zero}
use Rattle.foundation.specs.Count.{all_below}
use Rattle.foundation.proofs.CountLemmas.{all_below-each, all_below-true}
use Rattle.rules_model.specs.declared.board.Cell.{Cell}
use Rattle.rules_model.specs.declared.board.Repeat.{Repeat}
use Rattle.rules_model.specs.declared.board.Side.{Side}
use Rattle.rules_model.specs.declared.board.Side.TheVariants.{White, Black}
use Rattle.rules_model.specs.declared.board.Wing.{Wing}
use Rattle.rules_model.specs.declared.board.Wing.TheVariants.{Kingside, Queenside}
use Rattle.rules_model.specs.declared.rules.Rules.{Rules}
use Rattle.rules_model.specs.Sound.{sound_gate, sound_right}
use Rattle.fen_model.specs.Fields.{says_none}
use Rattle.fen_model.specs.declared.held.Held.{Held}
use Rattle.fen_model.specs.Held.{are_letters, bits_of, gate_said, held_of, held_on, held_said, may_hold, nothing_held, side_may_hold}

-- ---- gates as numbers

pub bits_of-small : (test : ℕ → Bool) (n : ℕ) → bits_of test n < 2 ^ n
unfolding bits_of
bits_of-small test zero = omega arith
bits_of-small test (suc n) =
    let small = bits_of-small test n in
    ⊎_elim (λ y. rw y (omega (arith, small))) (λ m. rw m (omega (arith, small))) (cases_Bool (test n))

-- ---- sizes

pub record IsHeldSize (held : Held) : Type 0 where
  pub gates : length held.gates ≡ 2
  pub each_gate : list_all (λ gates. nat_lt gates 65536) held.gates ≡ true
  pub rights : length held.rights ≡ 2
  pub each_right : list_all (λ rights. length rights == 2) held.rights ≡ true

none-size : IsHeldSize nothing_held
none-size = record { gates = refl; each_gate = refl; rights = refl; each_right = refl }

said-size : (rules : Rules) (cells : List (Option Cell)) (text : List ℕ) → IsHeldSize (held_said rules cells text)
said-size rules cells text =
    let white = bits_of-small (gate_said rules cells text White) 10 in
    let black = bits_of-small (gate_said rules cells text Black) 10 in
    record {
      gates = refl;
      each_gate = and_from _ _ (lt-ltb (bits_of (gate_said rules cells text White) 10) 65536 (omega (arith, white))) (and_from _ _ (lt-ltb (bits_of (gate_said rules cells text Black) 10) 65536 (omega (arith, black))) refl);
      rights = refl;
      each_right = refl;
    }

-- ---- what may be held

no_right_held : (rules : Rules) (cells : List (Option Cell)) (side : Side) (wing : Wing) → sound_right rules (held_on cells nothing_held) side wing ≡ true
unfolding sound_right
no_right_held rules cells White Kingside = refl
no_right_held rules cells White Queenside = refl
no_right_held rules cells Black Kingside = refl
no_right_held rules cells Black Queenside = refl

no_gate_held : (rules : Rules) (cells : List (Option Cell)) (side : Side) (file : ℕ) → sound_gate rules (held_on cells nothing_held) side file ≡ true
unfolding sound_gate
no_gate_held rules cells White file = let zero = bit_at-zero file in rw zero refl
no_gate_held rules cells Black file = let zero = bit_at-zero file in rw zero refl

side_holds_none : (rules : Rules) (cells : List (Option Cell)) (side : Side) → side_may_hold rules (held_on cells nothing_held) side ≡ true
side_holds_none rules cells side =
    and_from _ _ (and_from _ _ (no_right_held rules cells side Kingside) (no_right_held rules cells side Queenside))
    (all_below-true _ 16 (λ file below. no_gate_held rules cells side file))

pub holds_none : (rules : Rules) (cells : List (Option Cell)) → may_hold rules cells nothing_held ≡ true
unfolding may_hold
holds_none rules cells = and_from _ _ (side_holds_none rules cells White) (side_holds_none rules cells Black)

pub record IsHeldSound (rules : Rules) (cells : List (Option Cell)) (held : Held) : Type 0 where
  pub size : IsHeldSize held
  pub may : may_hold rules cells held ≡ true

-- what a text says to be held may be held
pub sound_held : (rules : Rules) (cells : List (Option Cell)) (text : List ℕ) (held : Held) → held_of rules cells text ≡ Ok held → IsHeldSound rules cells held
unfolding held_of
sound_held rules cells text held h =
    ⊎_elim
    (λ y. let k = rw y at h in let e : nothing_held ≡ held = cc in
    subst (IsHeldSound rules cells) e (record { size = none-size; may = holds_none rules cells }))
    (λ (n : says_none text ≡ false). ⊎_elim
    (λ (y : (are_letters text && may_hold rules cells (held_said rules cells text)) ≡ true). let k = rw (n, y) at h in let e : held_said rules cells text ≡ held = cc in
    subst (IsHeldSound rules cells) e (record { size = said-size rules cells text; may = (and_parts (are_letters text) _ y).1 }))
    (λ (m : (are_letters text && may_hold rules cells (held_said rules cells text)) ≡ false). let k = rw (n, m) at h in cc)
    (cases_Bool (are_letters text && may_hold rules cells (held_said rules cells text))))
    (cases_Bool (says_none text))

-- soundness asks the same of rights and gates, whatever else the position has
abbrev held_of_repeat : Repeat → Held
held_of_repeat r = record { rights = r.rights; gates = r.gates }

same_right : (rules : Rules) (r : Repeat) (side : Side) (wing : Wing) → sound_right rules (held_on r.cells (held_of_repeat r)) side wing ≡ sound_right rules r side wing
unfolding sound_right
same_right rules r side wing = refl

gate_same : (rules : Rules) (r : Repeat) (side : Side) (file : ℕ) → sound_gate rules (held_on r.cells (held_of_repeat r)) side file ≡ sound_gate rules r side file
unfolding sound_gate
gate_same rules r side file = refl

side_holds : (rules : Rules) (r : Repeat) (side : Side) → may_hold rules r.cells (held_of_repeat r) ≡ true → side_may_hold rules (held_on r.cells (held_of_repeat r)) side ≡ true
unfolding may_hold
side_holds rules r White h = (and_parts _ _ h).0
side_holds rules r Black h = (and_parts _ _ h).1

pub right-held : (rules : Rules) (r : Repeat) → may_hold rules r.cells (held_of_repeat r) ≡ true → (side : Side) (wing : Wing) → sound_right rules r side wing ≡ true
right-held rules r h side Kingside = sym (same_right rules r side Kingside) ∙ (and_parts _ _ (and_parts _ _ (side_holds rules r side h)).0).0
right-held rules r h side Queenside = sym (same_right rules r side Queenside) ∙ (and_parts _ _ (and_parts _ _ (side_holds rules r side h)).0).1

pub gate-held : (rules : Rules) (r : Repeat) → may_hold rules r.cells (held_of_repeat r) ≡ true → (side : Side) → all_below (sound_gate rules r side) 16 ≡ true
gate-held rules r h side =
    all_below-true _ 16 (λ file below. sym (gate_same rules r side file)
    ∙ all_below-each (sound_gate rules (held_on r.cells (held_of_repeat r)) side) 16 (and_parts _ _ (side_holds rules r side h)).1 file below)

pub holds_from : (rules : Rules) (r : Repeat) → ((side : Side) (wing : Wing) → sound_right rules r side wing ≡ true) → ((side : Side) → all_below (sound_gate rules r side) 16 ≡ true)
    → may_hold rules r.cells (held_of_repeat r) ≡ true
unfolding may_hold
holds_from rules r right gate =
    let side = λ (s : Side). and_from _ _ (and_from _ _ (same_right rules r s Kingside ∙ right s Kingside) (same_right rules r s Queenside ∙ right s Queenside))
    (all_below-true (sound_gate rules (held_on r.cells (held_of_repeat r)) s) 16 (λ file below. gate_same rules r s file ∙ all_below-each (sound_gate rules r s) 16 (gate s) file below)) in
    and_from _ _ (side White) (side Black)
