-- A text says a position field by field.
use Rattle.std.proofs.Common.{◌≡◌, ℕ, ◌+◌, ◌<◌, ◌≤◌, max, nat_lt, Bool, true, false, ◌&&◌, not, List, Option, Ok, Err, if◌then◌else◌, refl, sym, ap, ◌∙◌, subst, ⊎_elim}
use Rattle.std.specs.declared.result.Result.{Result}
use Rattle.std.proofs.lemmas.Bool.{cases_Bool, le-ltb, ltb-false, and_from, and_parts}
use Rattle.rules_model.specs.declared.board.Position.{Position}
use Rattle.rules_model.specs.declared.board.Side.TheVariants.{White, Black}
use Rattle.rules_model.specs.declared.rules.Rules.{Rules}
use Rattle.rules_model.specs.Attacks.{king_attacked}
use Rattle.rules_model.specs.Ends.{pieces_of}
use Rattle.rules_model.specs.Repeats.{repeat_of}
use Rattle.rules_model.specs.Sides.{other}
use Rattle.rules_model.specs.Sound.{has_its_king}
use Rattle.fen_model.specs.declared.fault.FenFault.{FenFault}
use Rattle.fen_model.specs.Board.{cells_of}
use Rattle.fen_model.specs.Chain.{◌>>=◌}
use Rattle.fen_model.specs.Counts.{checks_of, count_of, side_of}
use Rattle.fen_model.specs.Fields.{Fields, fields_of}
use Rattle.fen_model.specs.Held.{held_of}
use Rattle.fen_model.specs.Passed.{passed_of}
use Rattle.fen_model.specs.Pocket.{hands_of}
use Rattle.fen_model.specs.Reading.{Fen, fen_of, judged, position_with, said_by}
use Rattle.fen_model.specs.Says.{Says, TextSays, held_in}
use Rattle.fen_model.proofs.ChainLaws.{then_ok}
use Rattle.fen_model.proofs.SoundParts.{Parts}

-- ---- the position as a whole

pub record Judged (rules : Rules) (p : Position) : Type 0 where
  pub kings : (has_its_king rules p.cells White && has_its_king rules p.cells Black) ≡ true
  pub few : pieces_of (repeat_of p) White + pieces_of (repeat_of p) Black ≤ 240
  pub safe : king_attacked rules p.cells (other p.side) ≡ false

kings_hold : (rules : Rules) (p q : Position) → judged rules p ≡ Ok q → (has_its_king rules p.cells White && has_its_king rules p.cells Black) ≡ true
unfolding judged
kings_hold rules p q h =
    ⊎_elim (λ y. y) (λ n. let k = rw n at h in cc) (cases_Bool (has_its_king rules p.cells White && has_its_king rules p.cells Black))

few_enough : (rules : Rules) (p q : Position) → judged rules p ≡ Ok q → pieces_of (repeat_of p) White + pieces_of (repeat_of p) Black ≤ 240
unfolding judged
few_enough rules p q h =
    let kings = kings_hold rules p q h in
    ⊎_elim (λ y. let k = rw (kings, y) at h in cc) (λ n. ltb-false _ _ n) (cases_Bool (nat_lt 240 (pieces_of (repeat_of p) White + pieces_of (repeat_of p) Black)))

king_safe : (rules : Rules) (p q : Position) → judged rules p ≡ Ok q → king_attacked rules p.cells (other p.side) ≡ false
unfolding judged
king_safe rules p q h =
    let kings = kings_hold rules p q h in
    let few = le-ltb _ _ (few_enough rules p q h) in
    ⊎_elim (λ y. let k = rw (kings, few, y) at h in cc) (λ n. n) (cases_Bool (king_attacked rules p.cells (other p.side)))

pub judged_ok : (rules : Rules) (p : Position) → Judged rules p → judged rules p ≡ Ok p
unfolding judged
judged_ok rules p j =
    let kings = j.kings in
    let few = le-ltb _ _ j.few in
    let safe = j.safe in
    rw (kings, few, safe) refl

judged_same : (rules : Rules) (p q : Position) → judged rules p ≡ Ok q → (p ≡ q) × Judged rules p
judged_same rules p q h =
    let j : Judged rules p = record { kings = kings_hold rules p q h; few = few_enough rules p q h; safe = king_safe rules p q h } in
    let e = judged_ok rules p j in
    (cc (e, h), j)

-- ---- field by field

-- what is said and judged well
pub record SaidWell (rules : Rules) (f : Fields) (p : Position) : Type 0 where
  pub says : Says rules f p
  pub judged : Judged rules p

pub said_well : (rules : Rules) (f : Fields) (p : Position) → said_by rules f ≡ Ok p → SaidWell rules f p
unfolding said_by
said_well rules f p h =
    let cells = then_ok (cells_of rules f.board) _ p h in
    let hands = then_ok (hands_of rules f.pocket) _ p cells.2 in
    let side = then_ok (side_of f.side) _ p hands.2 in
    let held = then_ok (held_of rules cells.0 f.rights) _ p side.2 in
    let ep = then_ok (passed_of rules cells.0 side.0 f.ep) _ p held.2 in
    let checks = then_ok (checks_of f.checks) _ p ep.2 in
    let counter = then_ok (count_of f.halfmoves) _ p checks.2 in
    let number = then_ok (count_of f.number) _ p counter.2 in
    let q = position_with cells.0 hands.0 side.0 held.0 ep.0 checks.0 counter.0 (max number.0 1) in
    let same = judged_same rules q p number.2 in
    subst (λ x. SaidWell rules f x) same.0 (record {
      says = record {
        cells = cells.1;
        hands = hands.1;
        side = side.1;
        held = held.1;
        ep = ep.1;
        checks = checks.1;
        counter = counter.1;
        number = (number.0, record { said = number.1; least = refl });
      };
      judged = same.1;
    })

said_all : (rules : Rules) (f : Fields) (p : Position) → Says rules f p → said_by rules f ≡ judged rules p
unfolding said_by
said_all rules f p s =
    let a = s.cells in
    let b = s.hands in
    let c = s.side in
    let d = s.held in
    let e = s.ep in
    let g = s.checks in
    let h = s.counter in
    let n = s.number.1.said in
    let least = s.number.1.least in
    rw (a, b, c, d, e, g, h, n) (ap (λ number. judged rules (position_with p.cells p.hands p.side (held_in p) p.ep p.checks p.counter number)) (sym least))

fen_fields : (rules : Rules) (text : List ℕ) (f : Fields) → fields_of rules text ≡ Ok f → fen_of rules text ≡ said_by rules f
unfolding fen_of
fen_fields rules text f h = rw h refl

-- what a text says, its fields say
pub fen_says : (rules : Rules) (text : List ℕ) (p : Position) → Fen rules text p → (f : Fields) × (fields_of rules text ≡ Ok f) × SaidWell rules f p
unfolding fen_of
fen_says rules text p h =
    let fields = then_ok (fields_of rules text) (said_by rules) p h in
    (fields.0, fields.1, said_well rules fields.0 p fields.2)

pub text_parts : (rules : Rules) (text : List ℕ) (p : Position) → Fen rules text p → TextSays rules text p
text_parts rules text p h = let s = fen_says rules text p h in (s.0, s.1, s.2.says)

-- what the fields of a text say of a sound position, the text says
pub text_whole : (rules : Rules) (text : List ℕ) (p : Position) → Parts rules p → TextSays rules text p → Fen rules text p
text_whole rules text p parts says =
    let j : Judged rules p = record { kings = and_from _ _ (parts.king White) (parts.king Black); few = parts.few; safe = parts.safe } in
    fen_fields rules text says.0 says.1 ∙ said_all rules says.0 p says.2 ∙ judged_ok rules p j
