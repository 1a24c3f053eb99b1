-- What follows of the next position and of games.
use Rattle.std.proofs.Common.{◌≡◌, ℕ, ◌+◌, ◌<◌, ◌≤◌, Bool, true, false, ◌&&◌, if◌then◌else◌, List, [], ◌∷◌, refl, ◌∙◌, arith}
use Rattle.std.specs.List.{list_any}
use Rattle.std.proofs.lemmas.Bool.Decides.{nat_tests}
use Rattle.rules_model.specs.declared.board.Position.{Position}
use Rattle.rules_model.specs.declared.board.Repeat.{Repeat}
use Rattle.rules_model.specs.declared.board.Side.{Side}
use Rattle.rules_model.specs.declared.board.Side.TheVariants.{White, Black}
use Rattle.rules_model.specs.declared.moves.Move.{Move}
use Rattle.rules_model.specs.declared.rules.Rules.{Rules}
use Rattle.rules_model.specs.Repeats.{repeat_of}
use Rattle.rules_model.specs.Moves.{same_move}
use Rattle.rules_model.specs.Next.{next_counter, next_number, next, resets, risen}
use Rattle.rules_model.specs.Ends.{is_ongoing}
use Rattle.rules_model.specs.Legal.{legal, own_end}
use Rattle.rules_model.specs.Games.{are_legal}
use Rattle.rules_model.proofs.PlayLaws.{next-number, legal-ended}

risen-low : (n : ℕ) → n < 9999 → risen n ≡ n + 1
risen-low n h = grind (arith, nat_tests)

risen-high : (n : ℕ) → 9999 ≤ n → risen n ≡ n
risen-high n h = grind (arith, nat_tests)

risen-range : (n : ℕ) → n ≤ 9999 → risen n ≤ 9999
risen-range n h = grind (arith, nat_tests)

count_range : (b : Bool) (c : ℕ) → c ≤ 9999 → (if b then 0 else risen c) ≤ 9999
count_range true c h = omega arith
count_range false c h = risen-range c h

-- the counter stays in its range
pub next_counter-range : (rules : Rules) (r : Repeat) (m : Move) (c : ℕ) → c ≤ 9999 → next_counter rules r m c ≤ 9999
next_counter-range rules r m c h = count_range (resets rules r m) c h

number_white : (s : Side) (n : ℕ) → s ≡ White → next_number s n ≡ n
number_white White n e = refl
number_white Black n e = cc

number_black : (s : Side) (n : ℕ) → s ≡ Black → next_number s n ≡ risen n
number_black White n e = cc
number_black Black n e = refl

-- the number rises after Black's move
pub next-number-white : (rules : Rules) (p : Position) (m : Move) → p.side ≡ White → (next rules p m).number ≡ p.number
next-number-white rules p m e = next-number rules p m ∙ number_white p.side p.number e

pub next-number-black : (rules : Rules) (p : Position) (m : Move) → p.side ≡ Black → p.number < 9999 → (next rules p m).number ≡ p.number + 1
next-number-black rules p m e h = next-number rules p m ∙ number_black p.side p.number e ∙ risen-low p.number h

pub next-number-last : (rules : Rules) (p : Position) (m : Move) → p.side ≡ Black → 9999 ≤ p.number → (next rules p m).number ≡ p.number
next-number-last rules p m e h = next-number rules p m ∙ number_black p.side p.number e ∙ risen-high p.number h

none_of_none : (m : Move) (ms : List Move) (rest : Bool) → ms ≡ [] → (list_any (same_move m) ms && rest) ≡ true → ⊥
none_of_none m [] rest e h = cc
none_of_none m (n ∷ ms) rest e h = cc

-- behind an end by itself a game goes on with no move
pub are_legal-ended : (rules : Rules) (p : Position) (ms : List Move) → is_ongoing (own_end rules (repeat_of p)) ≡ false → are_legal rules p ms ≡ true → ms ≡ []
unfolding are_legal
are_legal-ended rules p [] h e = refl
are_legal-ended rules p (m ∷ ms) h e = absurd (none_of_none m (legal rules (repeat_of p)) _ (legal-ended rules (repeat_of p) h) e)
