-- Edges, one after another.
use Rattle.std.proofs.Common.{◌≡◌, inl, inr, ℕ, ◌+◌, ◌<◌, Bool, true, false, not, ◌&&◌, ◌||◌, List, [], ◌∷◌, ◌++◌, length, take, drop, get_or, Option, Some, None, unwrap_or, if◌then◌else◌, refl, ap, sym, ◌∙◌}
use Rattle.std.specs.Bool.{Decides}
use Rattle.std.specs.List.{list_any, list_all}
use Rattle.std.proofs.lemmas.Bool.{or_left, or_right}
use Rattle.std.proofs.lemmas.List.{at_drop_more, take-append-drop, take_more}
use Rattle.std.proofs.lemmas.List.Folds.{list_any-append}
use Rattle.foundation.specs.Member.{Member}
use Rattle.rules_model.specs.declared.board.Side.{Side}
use Rattle.rules_model.specs.declared.moves.Move.{Move}
use Rattle.rules_model.specs.declared.rules.Rules.{Rules}
use Rattle.rules_model.specs.Moves.{same_move}
use Rattle.rules_model.proofs.EqualLaws.{move-decides}
use Rattle.forced_wins.specs.Tables as Tables
use Rattle.forced_wins.specs.Views.{seen_by}
use Rattle.forced_wins.proofs.Counts.{by_cases, same_from}
use Rattle.strategy.specs.declared.nodes.Edge.{Edge}
use Rattle.strategy.specs.declared.nodes.Node.{Node}
use Rattle.strategy_check.specs.Rows.{kept, fits_edge, wrong_move, bad_counter}
use Rattle.strategy_check.specs.Steps.{run, steps}

-- ---- a move in a list

either : (a b : Bool) (P : Type 0) → (a ≡ true → P) → (b ≡ true → P) → (a || b) ≡ true → P
either true b P f g h = f refl
either false b P f g h = g h

tested-member : (m : Move) (ms : List Move) → list_any (same_move m) ms ≡ true → Member m ms
tested-member m [] h = cc
tested-member m (x ∷ xs) h =
    either (same_move m x) (list_any (same_move m) xs) (Member m (x ∷ xs))
    (λ e. inl (sym ((move-decides m x).0 e)))
    (λ e. inr (tested-member m xs e)) h

member-tested : (m : Move) (ms : List Move) → Member m ms → list_any (same_move m) ms ≡ true
member-tested m [] h = absurd h
member-tested m (x ∷ xs) (inl e) = or_left (same_move m x) (list_any (same_move m) xs) ((move-decides m x).1 (sym e))
member-tested m (x ∷ xs) (inr k) = or_right (same_move m x) (list_any (same_move m) xs) (member-tested m xs k)

pub any-decides : (m : Move) (ms : List Move) → Decides (list_any (same_move m) ms) (Member m ms)
any-decides m ms = (tested-member m ms, member-tested m ms)

-- ---- edges with one move

turned : (m n : Move) → same_move m n ≡ same_move n m
turned m n =
    same_from (same_move m n) (same_move n m)
    (λ t. (move-decides n m).1 (sym ((move-decides m n).0 t)))
    (λ t. (move-decides m n).1 (sym ((move-decides n m).0 t)))

regrouped : (a s d b : Bool) → ((a || (s || false)) || (d || b)) ≡ ((a || d) || (s || b))
regrouped true s d b = refl
regrouped false true true b = refl
regrouped false true false b = refl
regrouped false false d b = refl

module _ (rules : Rules) (a : Side) where
  abbrev doubled : List Edge → Bool
  doubled es = Tables.is_doubled (seen_by rules a) kept es

  abbrev has : List Edge → Edge → Bool
  has es e = list_any (λ f. same_move e.chosen f.chosen) es

  -- one edge more
  doubled-more : (es : List Edge) (e : Edge) → doubled (es ++ e ∷ []) ≡ (doubled es || has es e)
  doubled-more [] e = refl
  doubled-more (x ∷ xs) e =
      (λ i. list_any-append (λ (f : Edge). same_move x.chosen f.chosen) xs (e ∷ []) i || doubled-more xs e i)
      ∙ ap (λ t. (has xs x || (t || false)) || (doubled xs || has xs e)) (turned x.chosen e.chosen)
      ∙ regrouped (has xs x) (same_move e.chosen x.chosen) (doubled xs) (has xs e)

  doubled-front : (es others : List Edge) → doubled es ≡ true → doubled (es ++ others) ≡ true
  doubled-front [] others h = cc
  doubled-front (x ∷ xs) others h =
      either (has xs x) (doubled xs) (doubled (x ∷ xs ++ others) ≡ true)
      (λ t. or_left (has (xs ++ others) x) _ (list_any-append (λ (f : Edge). same_move x.chosen f.chosen) xs others ∙ or_left (has xs x) _ t))
      (λ t. or_right (has (xs ++ others) x) _ (doubled-front xs others t)) h

  -- those before a place have moves of their own, and so has the one there, or not
  pub doubled-next : (es : List Edge) (i : ℕ) (d : Edge) (b : Bool) → i < length es → doubled (take i es) ≡ false → has (take i es) (get_or es i d) ≡ b → doubled (take (i + 1) es) ≡ b
  doubled-next es i d b h apart e =
      ap doubled (take_more es i d h) ∙ doubled-more (take i es) (get_or es i d)
      ∙ ap (λ t. t || has (take i es) (get_or es i d)) apart ∙ e

  pub doubled-first : (es : List Edge) (k : ℕ) → doubled (take k es) ≡ true → doubled es ≡ true
  doubled-first es k h = ap doubled (sym (take-append-drop k es)) ∙ doubled-front (take k es) (drop k es) h

-- ---- moves without an edge

module _ (rules : Rules) (a : Side) (v : Node) (ms : List Move) (i : ℕ) (d : Move) (h : i < length ms) where
  pub missing-here : list_any (λ e. same_move e.chosen (get_or ms i d)) v.edges ≡ false → Tables.first_missing (seen_by rules a) kept v (drop i ms) ≡ Some (get_or ms i d)
  missing-here e = at_drop_more (Tables.first_missing (seen_by rules a) kept v) ms i d h ∙ rw e

  pub missing-later : list_any (λ e. same_move e.chosen (get_or ms i d)) v.edges ≡ true → Tables.first_missing (seen_by rules a) kept v (drop i ms) ≡ Tables.first_missing (seen_by rules a) kept v (drop (i + 1) ms)
  missing-later e = at_drop_more (Tables.first_missing (seen_by rules a) kept v) ms i d h ∙ rw e

-- ---- steps in turn

and_assoc : (a b c : Bool) → (a && (b && c)) ≡ ((a && b) && c)
and_assoc true b c = refl
and_assoc false b c = refl

pub and-true : (a : Bool) → (a && true) ≡ a
and-true true = refl
and-true false = refl

module _ {E : Type 0} (fits covers : E → Bool) where
  abbrev one : E → Option Bool
  one e = if fits e then Some (covers e) else None

  none-fits : (e : E) → one e ≡ None → fits e ≡ false
  none-fits e h = by_cases (fits e) (λ t. let k : Some (covers e) ≡ None = rw t at h in cc) (λ f. f)

  some-fits : (e : E) (x : Bool) → one e ≡ Some x → (fits e ≡ true) × (covers e ≡ x)
  some-fits e x h = by_cases (fits e) (λ t. let k : Some (covers e) ≡ Some x = rw t at h in (t, cc)) (λ f. let k : None ≡ Some x = rw f at h in cc)

  pub run-none : (before : Bool) (e : E) (es : List E) → one e ≡ None → run fits covers before (e ∷ es) ≡ None
  run-none before e es h = let f = none-fits e h in rw f

  pub run-some : (before : Bool) (e : E) (es : List E) (x : Bool) → one e ≡ Some x → run fits covers before (e ∷ es) ≡ run fits covers (before && x) es
  run-some before e es x h =
      let k = some-fits e x h in
      let f : fits e ≡ true = k.0 in
      let g : covers e ≡ x = k.1 in
      rw (f, g, and_assoc before x (list_all covers es))

  pub run-end : (before : Bool) → run fits covers before [] ≡ Some before
  run-end before = ap Some (and-true before)

-- ---- counters

left-of : (a b : Bool) → not (a && b) ≡ false → a ≡ true
left-of true b h = refl
left-of false b h = cc

all-fit : (rules : Rules) (a : Side) (s : List Node) (v : Node) → wrong_move rules a s v ≡ false → list_all (fits_edge rules a s v) v.edges ≡ true
unfolding Tables.wrong_move
all-fit rules a s v h = left-of (list_all (fits_edge rules a s v) v.edges) _ h

pub uncovered : (rules : Rules) (a : Side) (s : List Node) (v : Node) (found : Option Bool) → found ≡ steps rules a s v v.edges → wrong_move rules a s v ≡ false → not (unwrap_or found true) ≡ bad_counter rules a s v
unfolding Tables.bad_counter
uncovered rules a s v found e h =
    let f = all-fit rules a s v h in
    rw (e, f)
