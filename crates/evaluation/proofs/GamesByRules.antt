-- Games by the rules of play meet what the laws of values ask of a game.
use Rattle.std.proofs.Common.{◌≡◌, ◌⊎◌, inl, inr, ℕ, ◌-◌, Bool, true, false, not, Some, None, List, [], ◌∷◌, refl, sym, ◌∙◌, arith, if◌then◌else◌}
use Rattle.std.specs.Prelude.{ℤ, pos, neg_ℤ, ◌-ℤ◌}
use Rattle.foundation.specs.Tests.{is_nil}
use Rattle.std.proofs.lemmas.Int.{ints, clamps}
use Rattle.foundation.specs.Member.{Member}
use Rattle.foundation.proofs.Members.{filter-member}
use Rattle.evaluation.specs.Evaluation.{clamped, evaluation, side_worth}
use Rattle.rules_model.specs.declared.board.Repeat.{Repeat}
use Rattle.rules_model.specs.declared.board.Side.{Side}
use Rattle.rules_model.specs.declared.moves.Move.{Move}
use Rattle.rules_model.specs.declared.moves.Outcome.{Outcome}
use Rattle.rules_model.specs.declared.moves.Outcome.TheVariants.{Ongoing, Won, Drawn}
use Rattle.rules_model.specs.declared.rules.Rules.{Rules}
use Rattle.rules_model.specs.Ends.{is_ongoing, or_end}
use Rattle.rules_model.specs.Games.{Story, result}
use Rattle.rules_model.specs.Legal.{is_stuck, legal, own_end}
use Rattle.rules_model.specs.Next.{captures}
use Rattle.rules_model.specs.Repeats.{repeat_of}
use Rattle.rules_model.specs.Sides.{other, same_side}
use Rattle.rules_model.proofs.PlayLaws.{own_end-stuck}
use Rattle.evaluation.specs.Laws.{IsCalm, IsWorthAt, PlayLaws}
use Rattle.evaluation.specs.Values.{Attains, play, value_of, worth}
use Rattle.evaluation.proofs.ScoreLaws.{roots_attain}

some_inj : (v w : ℤ) → Some v ≡ Some w → v ≡ w
some_inj v w e = cc

ends_are : (mover : Side) (ply : ℕ) (o : Outcome) (v : ℤ) → worth mover ply o ≡ Some v → (v ≡ pos 0) ⊎ IsWorthAt ply v
ends_are mover ply Ongoing v is = cc
ends_are mover ply (Won side cause) v is = inr (by_side (same_side side mover) (sym (some_inj _ _ is)))
  where
    by_side : (b : Bool) → v ≡ (if b then pos (32000 - ply) else neg_ℤ (pos (32000 - ply))) → IsWorthAt ply v
    by_side true e = inl e
    by_side false e = inr e
ends_are mover ply (Drawn cause) v is = inl (sym (some_inj _ _ is))

clamped_calm : (v : ℤ) → IsCalm (clamped v)
clamped_calm v = record { least = omega (arith, ints, clamps); most = omega (arith, ints, clamps) }

eval_calm : (rules : Rules) (g : Story) → IsCalm (evaluation rules g.last)
unfolding evaluation
eval_calm rules g = clamped_calm (pos (side_worth rules g.last g.last.side) -ℤ pos (side_worth rules g.last (other g.last.side)))

goes_on : (mover : Side) (ply : ℕ) (o : Outcome) → worth mover ply o ≡ None → o ≡ Ongoing
goes_on mover ply Ongoing is = refl
goes_on mover ply (Won side cause) is = cc
goes_on mover ply (Drawn cause) is = cc

first_goes_on : (o later : Outcome) → or_end o later ≡ Ongoing → is_ongoing o ≡ true
first_goes_on Ongoing later is = refl
first_goes_on (Won side cause) later is = cc
first_goes_on (Drawn cause) later is = cc

some_move : (ms : List Move) → not (is_nil ms) ≡ true → (m : Move) × Member m ms
some_move [] h = cc
some_move (m ∷ ms) h = (m, inl refl)

has_move : (rules : Rules) (r : Repeat) → is_ongoing (own_end rules r) ≡ true → (m : Move) × Member m (legal rules r)
unfolding is_stuck
has_move rules r h = some_move (legal rules r) (sym (own_end-stuck rules r) ∙ h)

own_goes_on : (rules : Rules) (g : Story) → result rules g ≡ Ongoing
    → is_ongoing (own_end rules (repeat_of g.last)) ≡ true
unfolding result
own_goes_on rules g is = first_goes_on _ _ is

pub play_laws : (rules : Rules) → PlayLaws (play rules)
play_laws rules =
    record {
      ends = λ g ply v is. ends_are g.last.side ply (result rules g) v is;
      calm = λ g. eval_calm rules g;
      lively = λ g ply is. has_move rules (repeat_of g.last) (own_goes_on rules g (goes_on g.last.side ply (result rules g) is));
      moves = λ g m h. (filter-member (captures rules (repeat_of g.last)) m (legal rules (repeat_of g.last)) h).0;
    }

pub root_attains : (rules : Rules) (depth : ℕ) (g : Story) (first : Move) (roots : List Move)
    → (m : Move) × Attains rules depth g (first ∷ roots) (value_of rules depth g (first ∷ roots)) m
root_attains rules depth g first roots =
    let s = roots_attain (play rules) (play_laws rules) depth g (first ∷ roots) first (inl refl) in
    (s.0, record { root = s.1; attained = s.2 })
