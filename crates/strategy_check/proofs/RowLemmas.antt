-- The rows one after another, and the game that is cut.
use Rattle.std.proofs.Common.{◌≡◌, ℕ, ◌+◌, ◌<◌, ◌≤◌, Bool, true, false, ◌||◌, List, length, drop, get_or, Option, None, Result, Ok, Err, IfOk, refl, ap, sym, ◌∙◌, add-one}
use Rattle.std.proofs.lemmas.List.{at_drop_more, at_drop_all}
use Rattle.rules_model.specs.declared.board.Position.{Position}
use Rattle.rules_model.specs.declared.board.Side.{Side}
use Rattle.rules_model.specs.declared.moves.Move.{Move}
use Rattle.rules_model.specs.declared.rules.Rules.{Rules}
use Rattle.rules_model.specs.Games as Games
use Rattle.rules_model.specs.Games.{Story}
use Rattle.rules_model.specs.Legal.{own_end}
use Rattle.rules_model.specs.Repeats.{repeat_of}
use Rattle.rules_model.specs.Sides.{same_side}
use Rattle.forced_wins.specs.Games as AnyGame
use Rattle.forced_wins.specs.Tables as Tables
use Rattle.forced_wins.specs.Tables.{or_verdict}
use Rattle.forced_wins.specs.Views.{won_by, seen_by, as_any}
use Rattle.forced_wins.specs.RuleSentences.{GoodStrategiesWin}
use Rattle.forced_wins.specs.Wins.{wins}
use Rattle.forced_wins.proofs.Rules.{repeated-is}
use Rattle.strategy.specs.declared.nodes.Node.{Node}
use Rattle.strategy_check.specs.Rows.{kept, root_fits, is_cut, node_verdict, nodes_verdict}
use Rattle.strategy_check.specs.Verdicts.{as_verdict}
use Rattle.strategy_check.specs.declared.verdict.Verdict.{Verdict}
use Rattle.strategy_check.specs.declared.verdict.Verdict.TheVariants as Said

-- ---- the first that is a fault

pub wins-from : (x : Tables.Verdict Move) → as_verdict x ≡ Said.Wins → x ≡ Tables.Wins
wins-from Tables.Wins h = refl
wins-from Tables.Root h = cc
wins-from (Tables.WrongMove i) h = cc
wins-from (Tables.MissingReply i m) h = cc
wins-from (Tables.BadRank i) h = cc
wins-from (Tables.BadCounter i) h = cc
wins-from (Tables.Repeats i) h = cc
wins-from (Tables.NotWon i) h = cc

fault-first : (x later : Tables.Verdict Move) → (as_verdict x ≡ Said.Wins → ⊥) → or_verdict x later ≡ x
fault-first Tables.Wins later h = absurd (h refl)
fault-first Tables.Root later h = refl
fault-first (Tables.WrongMove i) later h = refl
fault-first (Tables.MissingReply i m) later h = refl
fault-first (Tables.BadRank i) later h = refl
fault-first (Tables.BadCounter i) later h = refl
fault-first (Tables.Repeats i) later h = refl
fault-first (Tables.NotWon i) later h = refl

module _ (rules : Rules) (a : Side) (s : List Node) (g : Story) (i : ℕ) (d : Node) (h : i < length s) where
  -- node i is looked at, and then the later ones
  turn : nodes_verdict rules a s g i (drop i s) ≡ or_verdict (node_verdict rules a s g i (get_or s i d)) (nodes_verdict rules a s g (i + 1) (drop (i + 1) s))
  unfolding Tables.nodes_verdict
  turn = at_drop_more (nodes_verdict rules a s g i) s i d h ∙ rw add-one

  pub nodes-fault : (x : Verdict) → x ≡ as_verdict (node_verdict rules a s g i (get_or s i d)) → (x ≡ Said.Wins → ⊥) → x ≡ as_verdict (nodes_verdict rules a s g i (drop i s))
  nodes-fault x e f = e ∙ sym (ap as_verdict (turn ∙ fault-first (node_verdict rules a s g i (get_or s i d)) _ (λ w. f (e ∙ w))))

  pub nodes-later : (x : Verdict) → x ≡ as_verdict (node_verdict rules a s g i (get_or s i d)) → x ≡ Said.Wins → nodes_verdict rules a s g i (drop i s) ≡ nodes_verdict rules a s g (i + 1) (drop (i + 1) s)
  nodes-later x e f = turn ∙ ap (λ y. or_verdict y (nodes_verdict rules a s g (i + 1) (drop (i + 1) s))) (wins-from _ (sym e ∙ f))

pub nodes-end : (rules : Rules) (a : Side) (s : List Node) (g : Story) (i : ℕ) → length s ≤ i → nodes_verdict rules a s g i (drop i s) ≡ Tables.Wins
unfolding Tables.nodes_verdict
nodes-end rules a s g i h = at_drop_all (nodes_verdict rules a s g i) s i h

-- ---- a strategy without a fault wins

pub wins-ok : {E : Type 0} (P : Type 0) (y : Tables.Verdict Move) (r : Result Verdict E) → IfOk r (λ x. x ≡ as_verdict y) → (y ≡ Tables.Wins → P) → IfOk r (λ x. x ≡ Said.Wins → P)
wins-ok P y (Ok x) e f = λ w. f (wins-from y (sym e ∙ w))
wins-ok P y (Err z) e f = tt

pub good-wins : (rules : Rules) (g : Story) (a : Side) (n : ℕ) (of : Side) (s : List Node) → same_side of a ≡ true → root_fits rules a s g n ≡ true → nodes_verdict rules a s g 0 s ≡ Tables.Wins → GoodStrategiesWin rules kept → wins rules n g a ≡ true
unfolding Tables.verdict
good-wins rules g a n of s e f w law = law g a n of s (rw (e, f) w)

-- ---- a game that is cut

cut-is : (rules : Rules) (a : Side) (g : Story) → won_by a (own_end rules (repeat_of g.last)) ≡ None → is_cut rules a g ≡ (Games.is_repeated rules g || AnyGame.run_out (seen_by rules a) g.last.counter)
cut-is rules a g h = ap (λ (o : Option Bool). Tables.is_cut (seen_by rules a) o (as_any g)) h ∙ ap (λ b. b || AnyGame.run_out (seen_by rules a) g.last.counter) (sym (repeated-is rules a g))

module _ (rules : Rules) (a : Side) (g : Story) (p : Position) (is : p ≡ g.last) (end : Option Bool) (by : end ≡ won_by a (own_end rules (repeat_of p))) (open_end : end ≡ None) where
  ended : won_by a (own_end rules (repeat_of g.last)) ≡ None
  ended = ap (λ (q : Position). won_by a (own_end rules (repeat_of q))) (sym is) ∙ sym by ∙ open_end

  pub cut-repeated : (b : Bool) → b ≡ Games.is_repeated rules g → b ≡ true → b ≡ is_cut rules a g
  cut-repeated b e t = t ∙ sym (cut-is rules a g ended ∙ ap (λ x. x || AnyGame.run_out (seen_by rules a) g.last.counter) (sym e ∙ t))

  pub cut-counted : (b c : Bool) → b ≡ Games.is_repeated rules g → b ≡ false → c ≡ AnyGame.run_out (seen_by rules a) p.counter → c ≡ is_cut rules a g
  cut-counted b c e f k =
      k ∙ ap (λ (q : Position). AnyGame.run_out (seen_by rules a) q.counter) is
      ∙ sym (cut-is rules a g ended ∙ ap (λ x. x || AnyGame.run_out (seen_by rules a) g.last.counter) (sym e ∙ f))
