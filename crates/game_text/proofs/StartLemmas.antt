-- Lines 1 and 2 of a game text, and the lines after them.
use Rattle.std.proofs.Common.{◌≡◌, ◌≤◌, ◌⊎◌, ℕ, ◌+◌, arith, length, take, List, [], ◌∷◌, ◌++◌, inl, inr, Option, Some, None, Result, Ok, Err, refl, sym, ap, ◌∙◌}
use Rattle.io_ports.specs.Lines.{Line, Text, TooLong}
use Rattle.rules_model.specs.declared.board.Position.{Position}
use Rattle.rules_model.specs.declared.rules.Rules.{Rules}
use Rattle.fen_model.specs.declared.fault.FenFault.{FenFault}
use Rattle.variant_model.specs.declared.fault.SectionFault.{SectionFault}
use Rattle.variant_rules.specs.Entries.{Named, found}
use Rattle.game_play.specs.Played.{Played}
use Rattle.game_text.specs.declared.fault.GameFault.{GameFault}
use Rattle.game_text.specs.declared.fault.GameFault.TheVariants.{UnknownVariant, RefusedVariant, BadPosition, LineTooLong}
use Rattle.game_text.specs.GameText.{game_by, game_from, game_in, game_of, game_on, lines_by, lines_from, lines_in, lines_of_game, lines_on, position_of, started}
use Rattle.game_text.proofs.ReadLemmas.{on-none}

-- ---- two lines: they have a fault, or start a game

-- no line after them matters
record IsFaulty (variants : List Named) (x y : Line) : Type 0 where
  pub fault : GameFault
  pub count : ℕ
  pub few : count ≤ 2
  pub says : (more : List Line) → game_of variants (x ∷ y ∷ more) ≡ Err fault
  pub needs : (more : List Line) → lines_of_game variants (x ∷ y ∷ more) ≡ count

-- the lines after them go on with the game
record IsStarted (variants : List Named) (x y : Line) : Type 0 where
  pub game : Played
  pub says : (more : List Line) → game_of variants (x ∷ y ∷ more) ≡ game_on 3 game more
  pub needs : (more : List Line) → lines_of_game variants (x ∷ y ∷ more) ≡ 2 + lines_on game more

named_says : (variants : List Named) (name : List ℕ) (o : Option (Result Rules SectionFault)) → found variants name ≡ o → (lines : List Line) → game_of variants (Text name ∷ lines) ≡ game_in name o lines
unfolding game_of
named_says variants name o is lines = ap (λ x. game_in name x lines) is

named_needs : (variants : List Named) (name : List ℕ) (o : Option (Result Rules SectionFault)) → found variants name ≡ o → (lines : List Line) → lines_of_game variants (Text name ∷ lines) ≡ 1 + lines_in o lines
unfolding lines_of_game
named_needs variants name o is lines = ap (λ x. 1 + lines_in x lines) is

positioned_says : (rules : Rules) (text : List ℕ) (r : Result Position FenFault) → position_of rules text ≡ r → (lines : List Line) → game_by rules (Text text ∷ lines) ≡ game_from rules r lines
unfolding game_by
positioned_says rules text r is lines = ap (λ x. game_from rules x lines) is

positioned_needs : (rules : Rules) (text : List ℕ) (r : Result Position FenFault) → position_of rules text ≡ r → (lines : List Line) → lines_by rules (Text text ∷ lines) ≡ 1 + lines_from rules r lines
unfolding lines_by
positioned_needs rules text r is lines = ap (λ x. 1 + lines_from rules x lines) is

position_starts : (variants : List Named) (name text : List ℕ) (rules : Rules) (r : Result Position FenFault) → found variants name ≡ Some (Ok rules) → position_of rules text ≡ r
    → IsFaulty variants (Text name) (Text text) ⊎ IsStarted variants (Text name) (Text text)
position_starts variants name text rules (Err why) known is = inl (record {
  fault = BadPosition why;
  count = 2;
  few = omega arith;
  says = λ more. named_says variants name (Some (Ok rules)) known (Text text ∷ more) ∙ positioned_says rules text (Err why) is more;
  needs = λ more.
      let first = named_needs variants name (Some (Ok rules)) known (Text text ∷ more) in
      let second = positioned_needs rules text (Err why) is more in
      omega (arith, first, second);
})
position_starts variants name text rules (Ok p) known is = inr (record {
  game = started rules p;
  says = λ more. named_says variants name (Some (Ok rules)) known (Text text ∷ more) ∙ positioned_says rules text (Ok p) is more;
  needs = λ more.
      let first = named_needs variants name (Some (Ok rules)) known (Text text ∷ more) in
      let second = positioned_needs rules text (Ok p) is more in
      omega (arith, first, second);
})

long_says : (rules : Rules) (lines : List Line) → game_by rules (TooLong ∷ lines) ≡ Err (LineTooLong 2)
unfolding game_by
long_says rules lines = refl

long_needs : (rules : Rules) (lines : List Line) → lines_by rules (TooLong ∷ lines) ≡ 1
unfolding lines_by
long_needs rules lines = refl

name_starts : (variants : List Named) (name : List ℕ) (y : Line) (o : Option (Result Rules SectionFault)) → found variants name ≡ o → IsFaulty variants (Text name) y ⊎ IsStarted variants (Text name) y
name_starts variants name y None is = inl (record {
  fault = UnknownVariant name;
  count = 1;
  few = omega arith;
  says = λ more. named_says variants name None is (y ∷ more);
  needs = λ more. named_needs variants name None is (y ∷ more);
})
name_starts variants name y (Some (Err why)) is = inl (record {
  fault = RefusedVariant why;
  count = 1;
  few = omega arith;
  says = λ more. named_says variants name (Some (Err why)) is (y ∷ more);
  needs = λ more. named_needs variants name (Some (Err why)) is (y ∷ more);
})
name_starts variants name TooLong (Some (Ok rules)) is = inl (record {
  fault = LineTooLong 2;
  count = 2;
  few = omega arith;
  says = λ more. named_says variants name (Some (Ok rules)) is (TooLong ∷ more) ∙ long_says rules more;
  needs = λ more.
      let first = named_needs variants name (Some (Ok rules)) is (TooLong ∷ more) in
      let second = long_needs rules more in
      omega (arith, first, second);
})
name_starts variants name (Text text) (Some (Ok rules)) is = position_starts variants name text rules (position_of rules text) is refl

starts : (variants : List Named) (x y : Line) → IsFaulty variants x y ⊎ IsStarted variants x y
unfolding game_of lines_of_game
starts variants TooLong y = inl (record { fault = LineTooLong 1; count = 1; few = omega arith; says = λ more. refl; needs = λ more. refl })
starts variants (Text name) y = name_starts variants name y (found variants name) refl

-- ---- one line starts no game

by_none : (rules : Rules) (g : Played) → game_by rules [] ≡ Ok g → ⊥
unfolding game_by
by_none rules g is = cc

name_alone : (name : List ℕ) (o : Option (Result Rules SectionFault)) (g : Played) → game_in name o [] ≡ Ok g → ⊥
name_alone name None g is = cc
name_alone name (Some (Err why)) g is = cc
name_alone name (Some (Ok rules)) g is = by_none rules g is

line_alone : (variants : List Named) (x : Line) (g : Played) → game_of variants (x ∷ []) ≡ Ok g → ⊥
unfolding game_of
line_alone variants TooLong g is = cc
line_alone variants (Text name) g is = name_alone name (found variants name) g is

no_lines : (variants : List Named) (g : Played) → game_of variants [] ≡ Ok g → ⊥
unfolding game_of
no_lines variants g is = cc

needs_none : (variants : List Named) → lines_of_game variants [] ≤ 0
unfolding lines_of_game
needs_none variants = omega arith

by_needs : (rules : Rules) → lines_by rules [] ≤ 0
unfolding lines_by
by_needs rules = omega arith

name_needs : (o : Option (Result Rules SectionFault)) → lines_in o [] ≤ 0
name_needs None = omega arith
name_needs (Some (Err why)) = omega arith
name_needs (Some (Ok rules)) = by_needs rules

line_needs : (variants : List Named) (x : Line) → lines_of_game variants (x ∷ []) ≤ 1
unfolding lines_of_game
line_needs variants TooLong = omega arith
line_needs variants (Text name) = let few = name_needs (found variants name) in omega (arith, few)

on_needs : (g : Played) → lines_on g [] ≤ 0
unfolding lines_on
on_needs g = omega arith

-- ---- the first two lines

ok_or_err : (r : Result Played GameFault) (g : Played) (fault : GameFault) → r ≡ Ok g → r ≡ Err fault → ⊥
ok_or_err r g fault p q = cc

one_game : (r : Result Played GameFault) (g h : Played) → r ≡ Ok g → r ≡ Ok h → g ≡ h
one_game r g h p q = cc

-- their fault is that of the text
pub start-fault : (variants : List Named) (lines : List Line) (fault : GameFault) → game_of variants (take 2 lines) ≡ Err fault → game_of variants lines ≡ Err fault
start-fault variants [] fault is = is
start-fault variants (x ∷ []) fault is = is
start-fault variants (x ∷ y ∷ more) fault is = elim (starts variants x y) [
  | inl f ↦ f.says more ∙ sym (f.says []) ∙ is
  | inr s ↦ absurd (ok_or_err _ s.game fault (s.says [] ∙ on-none 3 s.game) is)
]

pub start-few : (variants : List Named) (lines : List Line) → lines_of_game variants (take 2 lines) ≤ lines_of_game variants lines
start-few variants [] = omega arith
start-few variants (x ∷ []) = omega arith
start-few variants (x ∷ y ∷ more) = elim (starts variants x y) [
  | inl f ↦ let none = f.needs [] in let some = f.needs more in omega (arith, none, some)
  | inr s ↦ let none = s.needs [] in let some = s.needs more in let zero = on_needs s.game in omega (arith, none, some, zero)
]

pub start-most : (variants : List Named) (lines : List Line) → lines_of_game variants (take 2 lines) ≤ 2
start-most variants [] = let none = needs_none variants in omega (arith, none)
start-most variants (x ∷ []) = let one = line_needs variants x in omega (arith, one)
start-most variants (x ∷ y ∷ more) = elim (starts variants x y) [
  | inl f ↦ let none = f.needs [] in let few = f.few in omega (arith, none, few)
  | inr s ↦ let none = s.needs [] in let zero = on_needs s.game in omega (arith, none, zero)
]

-- where a game starts there are two
pub start-there : (variants : List Named) (lines : List Line) (g : Played) → game_of variants (take 2 lines) ≡ Ok g → 2 ≤ length lines
start-there variants [] g is = absurd (no_lines variants g is)
start-there variants (x ∷ []) g is = absurd (line_alone variants x g is)
start-there variants (x ∷ y ∷ more) g is = omega arith

started_by : (variants : List Named) (x y : Line) (g : Played) → game_of variants (x ∷ y ∷ []) ≡ Ok g
    → ((more : List Line) → game_of variants (x ∷ y ∷ more) ≡ game_on 3 g more) × ((more : List Line) → lines_of_game variants (x ∷ y ∷ more) ≡ 2 + lines_on g more)
started_by variants x y g is = elim (starts variants x y) [
  | inl f ↦ absurd (ok_or_err _ g f.fault is (f.says []))
  | inr s ↦
      let same = one_game _ s.game g (s.says [] ∙ on-none 3 s.game) is in
      (λ more. s.says more ∙ ap (λ h. game_on 3 h more) same, λ more. s.needs more ∙ ap (λ h. 2 + lines_on h more) same)
]

-- the lines after them go on with it
pub start-goes : (variants : List Named) (front more : List Line) (g : Played) → length front ≡ 2 → game_of variants (take 2 front) ≡ Ok g → game_of variants (front ++ more) ≡ game_on 3 g more
start-goes variants [] more g two is = absurd (omega (arith, two))
start-goes variants (x ∷ []) more g two is = absurd (omega (arith, two))
start-goes variants (x ∷ y ∷ []) more g two is = (started_by variants x y g is).0 more
start-goes variants (x ∷ y ∷ z ∷ front) more g two is = absurd (omega (arith, two))

pub start-needs : (variants : List Named) (front more : List Line) (g : Played) → length front ≡ 2 → game_of variants (take 2 front) ≡ Ok g → lines_of_game variants (front ++ more) ≡ 2 + lines_on g more
start-needs variants [] more g two is = absurd (omega (arith, two))
start-needs variants (x ∷ []) more g two is = absurd (omega (arith, two))
start-needs variants (x ∷ y ∷ []) more g two is = (started_by variants x y g is).1 more
start-needs variants (x ∷ y ∷ z ∷ front) more g two is = absurd (omega (arith, two))
