-- The rules of play meet the laws of forced wins, and the definitions by the rules are those of any game.
use Rattle.std.proofs.Common.{◌≡◌, ℕ, ◌+◌, ◌*◌, ◌≤◌, List, [], ◌∷◌, Bool, true, false, Option, Some, not, ◌&&◌, ◌||◌, refl, ap, sym, ◌∙◌, subst, arith}
use Rattle.rules_model.specs.declared.board.Position.{Position}
use Rattle.rules_model.specs.declared.board.Repeat.{Repeat}
use Rattle.rules_model.specs.declared.board.Side.{Side}
use Rattle.rules_model.specs.declared.board.Side.TheVariants.{White, Black}
use Rattle.rules_model.specs.declared.moves.Cause.TheVariants.{Repetition}
use Rattle.rules_model.specs.declared.moves.Move.{Move}
use Rattle.rules_model.specs.declared.moves.Outcome.{Outcome}
use Rattle.rules_model.specs.declared.moves.Outcome.TheVariants.{Ongoing, Won, Drawn}
use Rattle.rules_model.specs.declared.moves.Value.{Value}
use Rattle.rules_model.specs.declared.moves.Value.TheVariants.{Win, Loss, Draw}
use Rattle.rules_model.specs.declared.rules.Rules.{Rules}
use Rattle.rules_model.specs.Repeats.{repeat_of}
use Rattle.rules_model.specs.Sides.{other, same_side}
use Rattle.rules_model.specs.Ends.{is_ongoing, valued}
use Rattle.rules_model.specs.Next.{next, next_repeat, next_counter, with_counts}
use Rattle.rules_model.specs.Legal.{legal, is_stuck, own_end}
use Rattle.rules_model.specs.Games.{Story, result, is_repeated, is_run_out, same_repeat, times, history}
use Rattle.rules_model.proofs.EqualLaws.{repeat-decides, move-decides}
use Rattle.rules_model.proofs.LegalLaws.{legal-once}
use Rattle.rules_model.proofs.PlayLaws.{next-is, next-side, next-counter, next_counter-mono, next_counter-up, own_end-stuck}
use Rattle.rules_model.proofs.ResultLaws.{times-none, times-here, times-elsewhere, is_repeated-decides, is_run_out-decides, own_end-none, result-own, result-repeated, result-run_out, result-ongoing}
use Rattle.forced_wins.specs.Games as AnyGame
use Rattle.forced_wins.specs.Views.{won_by, seen_by, as_any}
use Rattle.forced_wins.specs.Wins.{games, wins, is_in, near_end, positions, near}
use Rattle.forced_wins.proofs.Along.{forced-along}
use Rattle.forced_wins.proofs.Counts.{by_cases, true_false, same_from, tests_on, tests_from, none_stand, times-test}

-- ---- the laws

turned : (s a : Side) → same_side (other s) a ≡ not (same_side s a)
turned White White = refl
turned White Black = refl
turned Black White = refl
turned Black Black = refl

repeat-next : (rules : Rules) (p q : Position) (m : Move) → repeat_of p ≡ repeat_of q → repeat_of (next rules p m) ≡ repeat_of (next rules q m)
repeat-next rules p q m e = next-is rules p m ∙ ap (λ r. next_repeat rules r m) e ∙ sym (next-is rules q m)

counter-lower : (rules : Rules) (p q : Position) (m : Move) → repeat_of p ≡ repeat_of q → p.counter ≤ q.counter → (next rules p m).counter ≤ (next rules q m).counter
counter-lower rules p q m e h =
    let a = next-counter rules p m in
    let b = next-counter rules q m in
    let same : next_counter rules (repeat_of p) m q.counter ≡ next_counter rules (repeat_of q) m q.counter = ap (λ r. next_counter rules r m q.counter) e in
    let c = next_counter-mono rules (repeat_of p) m p.counter q.counter h in
    subst (λ x. x ≤ (next rules q m).counter) (sym a) (subst (λ x. next_counter rules (repeat_of p) m p.counter ≤ x) (same ∙ sym b) c)

counter-rises : (rules : Rules) (p : Position) (m : Move) → (next rules p m).counter ≤ p.counter + 1
counter-rises rules p m = subst (λ x. x ≤ p.counter + 1) (sym (next-counter rules p m)) (next_counter-up rules (repeat_of p) m p.counter)

pub laws : (rules : Rules) (a : Side) → AnyGame.GameLaws Position Repeat Move (seen_by rules a)
laws rules a = record {
  decides = repeat-decides;
  decides_move = move-decides;
  same_own = λ p q e. ap (λ x. won_by a (own_end rules x)) e;
  same_turn = λ p q e. ap (λ (x : Repeat). same_side x.side a) e;
  same_legal = λ p q e. ap (legal rules) e;
  same_next = repeat-next rules;
  turns = λ p m. ap (λ s. same_side s a) (next-side rules p m) ∙ turned p.side a;
  lower = counter-lower rules;
  rises = counter-rises rules;
}

pub table_laws : (rules : Rules) (a : Side) → AnyGame.TableLaws Position Repeat Move (seen_by rules a)
table_laws rules a = record {
  base = laws rules a;
  at = λ p c. with_counts (repeat_of p) c p.number;
  at_repeat = λ p c. refl;
  at_counter = λ p c. refl;
  once = λ p. legal-once rules (repeat_of p);
}

-- ---- the ends are those of any game

pub run_out-is : (rules : Rules) (a : Side) (c : ℕ) → is_run_out rules c ≡ AnyGame.run_out (seen_by rules a) c
unfolding AnyGame.run_out
run_out-is rules a c =
    let d = is_run_out-decides rules c in
    same_from _ _
    (λ h. let k = d.0 h in let on = k.0 in tests_on (2 * rules.n_move) c (omega arith) k.1)
    (λ h. let k = tests_from (2 * rules.n_move) c h in let on = k.0 in d.1 (omega arith, k.1))

pub times-is : (rules : Rules) (a : Side) (x : Repeat) (ps : List Position) → times x ps ≡ AnyGame.times (seen_by rules a) x ps
times-is rules a x [] = times-none x ∙ sym (none_stand (seen_by rules a) x)
times-is rules a x (p ∷ ps) =
    let same = times-is rules a x ps in
    by_cases (same_repeat (repeat_of p) x)
    (λ e. let h = times-here x p ps ((repeat-decides (repeat_of p) x).0 e) in let k = times-test (seen_by rules a) (laws rules a) x p ps true e in omega arith)
    (λ e. let h = times-elsewhere x p ps (λ s. true_false _ ((repeat-decides (repeat_of p) x).1 s) e) in let k = times-test (seen_by rules a) (laws rules a) x p ps false e in omega arith)

pub repeated-is : (rules : Rules) (a : Side) (g : Story) → is_repeated rules g ≡ AnyGame.repeated (seen_by rules a) (as_any g)
unfolding AnyGame.repeated
repeated-is rules a g =
    let d = is_repeated-decides rules g in
    let same = times-is rules a (repeat_of g.last) (history g) in
    same_from _ _
    (λ h. let k = d.0 h in let enough = k.1 in tests_on rules.n_fold _ k.0 (omega arith))
    (λ h. let k = tests_from rules.n_fold _ h in let enough = k.1 in d.1 (k.0, omega arith))

and_lost : (b : Bool) → Some (b && false) ≡ Some false
and_lost true = refl
and_lost false = refl

valued_lost : (v : Value) (s a : Side) → won_by a (valued v s Repetition) ≡ Some false
valued_lost Win s a = and_lost (same_side s a)
valued_lost Loss s a = and_lost (same_side (other s) a)
valued_lost Draw s a = refl

-- where no move is legal, the end by itself comes first
own_first : (o : Outcome) (later : Option Bool) (a : Side) → is_ongoing o ≡ false → won_by a o ≡ AnyGame.or_end (won_by a o) later
own_first Ongoing later a h = cc
own_first (Won s c) later a h = refl
own_first (Drawn c) later a h = refl

end_stuck : (rules : Rules) (a : Side) (g : Story) (later : Option Bool) → is_stuck rules (repeat_of g.last) ≡ true → won_by a (result rules g) ≡ AnyGame.or_end (won_by a (own_end rules (repeat_of g.last))) later
end_stuck rules a g later h = ap (won_by a) (result-own rules g h) ∙ own_first (own_end rules (repeat_of g.last)) later a (own_end-stuck rules (repeat_of g.last) ∙ ap not h)

-- else the counts decide
by_counts : (rules : Rules) (a : Side) (g : Story) → is_stuck rules (repeat_of g.last) ≡ false → won_by a (result rules g) ≡ AnyGame.lost_if (is_repeated rules g || is_run_out rules g.last.counter)
by_counts rules a g h =
    by_cases (is_repeated rules g)
    (λ y. ap (won_by a) (result-repeated rules g h y) ∙ valued_lost rules.n_fold_value g.last.side a ∙ rw y)
    (λ y. by_cases (is_run_out rules g.last.counter) (λ z. ap (won_by a) (result-run_out rules g h y z) ∙ rw (y, z)) (λ z. ap (won_by a) (result-ongoing rules g h y z) ∙ rw (y, z)))

end_free : (rules : Rules) (a : Side) (g : Story) → is_stuck rules (repeat_of g.last) ≡ false → won_by a (result rules g) ≡ AnyGame.or_end (won_by a (own_end rules (repeat_of g.last))) (AnyGame.lost_if (is_repeated rules g || is_run_out rules g.last.counter))
end_free rules a g h =
    by_counts rules a g h
    ∙ sym (ap (λ o. AnyGame.or_end (won_by a o) (AnyGame.lost_if (is_repeated rules g || is_run_out rules g.last.counter))) (own_end-none rules (repeat_of g.last) h))

pub end-is : (rules : Rules) (a : Side) (g : Story) → (games rules a).end g ≡ (AnyGame.of_games (seen_by rules a)).end (as_any g)
end-is rules a g =
    by_cases (is_stuck rules (repeat_of g.last)) (end_stuck rules a g _) (end_free rules a g)
    ∙ (λ i. AnyGame.or_end (won_by a (own_end rules (repeat_of g.last))) (AnyGame.lost_if (repeated-is rules a g i || run_out-is rules a g.last.counter i)))

pub near_end-is : (rules : Rules) (barred : List Repeat) (a : Side) (p : Position) → near_end rules barred a p ≡ (AnyGame.of_positions (seen_by rules a) (is_in barred)).end p
unfolding near_end
near_end-is rules barred a p i = AnyGame.or_end (won_by a (own_end rules (repeat_of p))) (AnyGame.lost_if (is_in barred (repeat_of p) || run_out-is rules a p.counter i))

-- ---- the wins are those of any game

pub wins-is : (rules : Rules) (n : ℕ) (g : Story) (a : Side) → wins rules n g a ≡ AnyGame.wins (seen_by rules a) n (as_any g)
wins-is rules n g a = forced-along (games rules a) (AnyGame.of_games (seen_by rules a)) as_any (end-is rules a) (λ x. refl) (λ x. refl) (λ x m. refl) n g

pub near-is : (rules : Rules) (n : ℕ) (p : Position) (barred : List Repeat) (a : Side) → near rules n p barred a ≡ AnyGame.near (seen_by rules a) (is_in barred) n p
near-is rules n p barred a = forced-along (positions rules barred a) (AnyGame.of_positions (seen_by rules a) (is_in barred)) (λ q. q) (near_end-is rules barred a) (λ x. refl) (λ x. refl) (λ x m. refl) n p
