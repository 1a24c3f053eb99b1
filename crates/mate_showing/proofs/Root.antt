-- From the root, by the rules of play.
use Rattle.std.proofs.Common.{◌≡◌, ◌⊎◌, ℕ, zero, suc, ◌+◌, ◌-◌, ◌*◌, ◌<◌, ◌≤◌, List, [], ◌∷◌, length, Bool, true, false, not, ◌&&◌, nat_lt, nat_le, Option, Some, None, is_some, slice_get, refl, ap, sym, ◌∙◌, subst, arith}
use Rattle.std.specs.List.{All, sum_by}
use Rattle.std.proofs.lemmas.List.Elements.{All-nil, All-cons}
use Rattle.foundation.specs.Member.{IsEachOnce}
use Rattle.rules_model.specs.declared.board.Position.{Position}
use Rattle.rules_model.specs.declared.board.Repeat.{Repeat}
use Rattle.rules_model.specs.declared.board.Side.{Side}
use Rattle.rules_model.specs.declared.moves.Move.{Move}
use Rattle.rules_model.specs.declared.rules.Rules.{Rules}
use Rattle.rules_model.specs.declared.moves.Outcome.{Outcome}
use Rattle.rules_model.specs.Fit.{IsFit}
use Rattle.rules_model.specs.Games.{Story, history, played, result, same_repeat}
use Rattle.rules_model.specs.Legal.{legal}
use Rattle.rules_model.specs.Next.{next}
use Rattle.rules_model.proofs.EqualLaws.{repeat-decides}
use Rattle.rules_model.specs.Repeats.{repeat_of}
use Rattle.rules_model.specs.Sides.{same_side}
use Rattle.rules_model.proofs.LegalLaws.{legal-once}
use Rattle.rules_model.proofs.GameLaws.{next_counter-range}
use Rattle.rules_model.proofs.PlayLaws.{next-counter}
use Rattle.forced_wins.specs.Games as AnyGame
use Rattle.forced_wins.specs.Lines as AnyLines
use Rattle.forced_wins.specs.Tables as T
use Rattle.forced_wins.specs.Tables.{nodes_of}
use Rattle.forced_wins.specs.Views.{won_by, seen_by, as_any}
use Rattle.forced_wins.specs.Wins.{wins, near_root, near_attack, blocked, is_in}
use Rattle.forced_wins.proofs.Blocked.{blocked-is, near_root-is, near_root-free, wins-near}
use Rattle.forced_wins.proofs.Counts.{not_true, true_false}
use Rattle.forced_wins.proofs.ContestLaws.{any_intro}
use Rattle.forced_wins.proofs.FactLaws.{near-more}
use Rattle.forced_wins.proofs.Played.{game-played}
use Rattle.forced_wins.proofs.Rules.{laws, times-is}
use Rattle.forced_wins.proofs.StrategyLaws.{of_own}
use Rattle.game_play.specs.Played.{Played, IsPlayed, story}
use Rattle.evaluation.specs.Bounds.{solve_bound}
use Rattle.evaluation.specs.Values.{play, tree}
use Rattle.mate_core.specs.declared.frame.Frame.{Frame}
use Rattle.mate_fact.specs.InFrame as In
use Rattle.mate_settle.specs.Choices.{some_wins, all_win, IsChoice}
use Rattle.mate_settle.specs.declared.choosing.WinningMove.{WinningMove}
use Rattle.mate_settle.specs.Lines.{plies, lines, lines_within, seen_in}
use Rattle.strategy.specs.declared.nodes.Node.{Node}
use Rattle.mate_showing.specs.declared.plan.StrategyPlan.{StrategyPlan}
use Rattle.mate_showing.specs.Answers.{IsFrameOf, IsShown, IsEvidence, IsWinningMove, is_at_move}
use Rattle.mate_showing.specs.Counts.{nodes_at, counters_of, is_often, IsTabledIn}
use Rattle.mate_showing.specs.Mates.{stands_often}
use Rattle.mate_showing.specs.Tabled.{IsKept}
use Rattle.mate_showing.specs.Tables.{nodes, most, IsNext, Stands}
use Rattle.mate_showing.proofs.Judged.{root-next, inside-good, near-good, root-again-at, too-often, low-ranks, thin-some, whole-lines}
use Rattle.mate_showing.proofs.Evidence.{evidence}

-- ---- the frame of a game

pub frame-blocked : (g : Played) (f : Frame) → IsFrameOf g f → f.blocked ≡ blocked f.rules (story g)
frame-blocked g f e = e.blocked ∙ ap (λ (x : Rules). blocked x (story g)) (sym e.rules)

-- what the outcome of the game means for the attacker
pub outcome-seen : (g : Played) (f h : Frame) (o : Outcome) (w : Option Bool) → IsFrameOf g f → h ≡ f → o ≡ result g.rules (story g) → w ≡ won_by h.attacker o → w ≡ won_by f.attacker (result f.rules (story g))
outcome-seen g f h o w fr e d is = is ∙ (λ i. won_by (e i).attacker ((d ∙ ap (λ (x : Rules). result x (story g)) (sym fr.rules)) i))

module _ (f : Frame) (g : Story) (bl : f.blocked ≡ blocked f.rules g) where
  abbrev rules : Rules
  rules = f.rules

  abbrev a : Side
  a = f.attacker

  -- ---- near wins of the root

  pub root-free : (n : ℕ) (p : Position) (w : Bool) → p ≡ g.last → is_in f.blocked (repeat_of p) ≡ false → In.near_in f n p ≡ w → w ≡ near_root rules n g a
  root-free n p w e free h =
      let there : is_in (blocked rules g) (repeat_of g.last) ≡ false = subst (λ b. is_in b (repeat_of g.last) ≡ false) bl (subst (λ y. is_in f.blocked (repeat_of y) ≡ false) e free) in
      sym h ∙ ap (In.near_in f n) e ∙ ap (λ b. In.near_in (record f { blocked = b }) n g.last) bl ∙ sym (near_root-free rules n g a there)

  pub root-ended : (n : ℕ) (w : Bool) → won_by a (result rules g) ≡ Some w → w ≡ near_root rules n g a
  unfolding near_root
  root-ended n w e = rw e

  attack-at : (n : ℕ) → 0 < n → near_attack rules n g.last (blocked rules g) a ≡ some_wins (record f { blocked = blocked rules g }) (n - 1) g.last
  attack-at zero h = absurd (omega arith)
  attack-at (suc n) h = let e : suc n - 1 ≡ n = omega arith in rw e

  pub root-attack : (n : ℕ) (p : Position) → p ≡ g.last → won_by a (result rules g) ≡ None → same_side p.side a ≡ true → 0 < n → some_wins f (n - 1) p ≡ near_root rules n g a
  unfolding near_root
  root-attack n p e goes turn some =
      let t : same_side g.last.side a ≡ true = subst (λ (y : Position). same_side y.side a ≡ true) e turn in
      ap (some_wins f (n - 1)) e ∙ ap (λ b. some_wins (record f { blocked = b }) (n - 1) g.last) bl ∙ sym (attack-at n some) ∙ rw (goes, t)

  pub root-defence : (n : ℕ) (p : Position) → p ≡ g.last → won_by a (result rules g) ≡ None → same_side p.side a ≡ false → all_win f n p ≡ near_root rules n g a
  unfolding near_root
  root-defence n p e goes turn =
      let t : same_side g.last.side a ≡ false = subst (λ (y : Position). same_side y.side a ≡ false) e turn in
      ap (all_win f n) e ∙ ap (λ b. all_win (record f { blocked = b }) n g.last) bl ∙ rw (goes, t)

  pub not-won : (n : ℕ) → false ≡ near_root rules n g a → wins rules n g a ≡ false
  not-won n h = not_true (wins rules n g a) (λ t. true_false _ (wins-near rules n g a t) (sym h))

  -- ---- the table

  module _ (fit : IsFit rules) where
    pub barred-is : (x : Repeat) → is_in f.blocked x ≡ AnyGame.blocked (seen_in f) (as_any g) x
    barred-is x = ap (λ b. is_in b x) bl ∙ blocked-is rules a g x fit.n_fold_not_one

    pub plan-next : (plan : StrategyPlan) (p : Position) → p ≡ g.last → 0 < plan.whole → near_root rules plan.whole g a ≡ true → plan.root ≡ p → plan.room ≡ p.counter + plies (seen_in f) plan.whole p → IsNext (seen_in f) (is_in f.blocked) plan plan.whole p
    plan-next plan p e some won root room =
        subst (λ y. IsNext (seen_in f) (is_in f.blocked) plan plan.whole y) root
        (root-next (seen_in f) (laws rules a) (as_any g) (is_in f.blocked) barred-is plan some (sym (near_root-is rules plan.whole g a) ∙ won) (root ∙ e) (subst (λ (y : Position). plan.room ≡ y.counter + plies (seen_in f) plan.whole y) e room))

module _ (f : Frame) (g : Story) where
  capped : (p : Position) (m : Move) → p.counter ≤ 9999 → ((seen_in f).next p m).counter ≤ 9999
  capped p m low = subst (λ c. c ≤ 9999) (sym (next-counter f.rules p m)) (next_counter-range f.rules (repeat_of p) m p.counter low)

  once : (p : Position) → IsEachOnce ((seen_in f).legal p)
  once p = legal-once f.rules (repeat_of p)

  all-from : {P : Node → Type 0} (s : List Node) → ((i : ℕ) (v : Node) → slice_get s i ≡ Some v → P v) → All P s
  all-from {P = P} [] h = All-nil P
  all-from {P = P} (v ∷ s) h = All-cons P v s (h 0 v refl) (all-from s (λ i u e. h (suc i) u e))

  as-evidence : (n : ℕ) (x : Repeat) (cs : List ℕ) (u : AnyLines.IsUnsettled Position Repeat Move (seen_in f) n (as_any g)) → u.repeat ≡ x → u.counters ≡ cs → 0 < length cs → IsEvidence f.rules g f.attacker n x cs
  as-evidence n x cs u d e some = evidence f.rules f.attacker g n u x cs d e some

  often-seen : (s : List Node) (x : Repeat) → is_often f.rules.n_fold g s x ≡ stands_often (seen_in f) (as_any g) s x
  unfolding nodes_of
  often-seen s x = ap (λ k. nat_lt 0 f.rules.n_fold && nat_le f.rules.n_fold (k + nodes_at x s)) (times-is f.rules f.attacker x (history g))

  pub tabled : f.blocked ≡ blocked f.rules g → IsFit f.rules → (plan : StrategyPlan) (s : List Node) (p : Position) → p ≡ g.last → plan.root ≡ p → plan.whole ≤ most → IsKept f plan s → (i : ℕ) × Stands (seen_in f) plan.exact s p plan.whole i → near_root f.rules plan.whole g f.attacker ≡ true → AnyGame.IsPlayed (seen_in f) (as_any g) → p.counter ≤ 9999 → (plan.exact ≡ true → (0 < 2 * f.rules.n_move) × (2 * f.rules.n_move ≤ p.counter + (plan.whole + plan.whole))) → (plan.exact ≡ false → (2 * f.rules.n_move ≡ 0) ⊎ (p.counter + (plan.whole + plan.whole) < 2 * f.rules.n_move)) → plan.room ≡ p.counter + plies (seen_in f) plan.whole p → IsTabledIn g f plan s
  tabled bl fit plan s p e root small kept stands won played low close inside room = record {
    same = barred-is f g bl fit;
    root = root ∙ e;
    small = small;
    sound = kept.sound;
    stands = (stands.0, subst (λ y. Stands (seen_in f) plan.exact s y plan.whole stands.0) (sym root) stands.1);
    near_win = sym (near_root-is f.rules plan.whole g f.attacker) ∙ won;
    played = played;
    close = λ z. subst (λ (y : Position). (0 < 2 * f.rules.n_move) × (2 * f.rules.n_move ≤ y.counter + (plan.whole + plan.whole))) e (close z);
    inside = λ z. subst (λ (y : Position). (2 * f.rules.n_move ≡ 0) ⊎ (y.counter + (plan.whole + plan.whole) < 2 * f.rules.n_move)) e (inside z);
    capped = capped;
    low = subst (λ (y : Position). y.counter ≤ 9999) e low;
    room = subst (λ (y : Position). plan.room ≡ y.counter + plies (seen_in f) plan.whole y) e room;
  }

  module _ (plan : StrategyPlan) (s : List Node) (t : IsTabledIn g f plan s) where
    shown-by : IsKept f plan s → T.IsGood (seen_in f) nodes true s (as_any g) plan.whole → IsShown f.rules g f.attacker plan.whole (record { attacker = f.attacker; nodes = s })
    shown-by kept good = record {
      good = of_own f.rules f.attacker nodes g plan.whole s good;
      sound = all-from s (λ i v h. (kept.written i v h).sound);
      numbers = all-from s (λ i v h. (kept.written i v h).number);
      ranks = all-from {P = λ (v : Node). v.rank ≤ 65535} s (λ i v h. let low = low-ranks (seen_in f) (laws f.rules f.attacker) once (is_in f.blocked) plan (as_any g) s t i v h in omega arith);
    }

    pub inside-shown : IsKept f plan s → plan.exact ≡ false → IsShown f.rules g f.attacker plan.whole (record { attacker = f.attacker; nodes = s })
    inside-shown kept z = shown-by kept (inside-good (seen_in f) (laws f.rules f.attacker) once (is_in f.blocked) plan (as_any g) s t z)

    pub near-shown : IsKept f plan s → plan.exact ≡ true → ((i : ℕ) (v : Node) → slice_get s (suc i) ≡ Some v → (same_repeat (repeat_of v.position) (repeat_of g.last) ≡ false) × (is_often f.rules.n_fold g s (repeat_of v.position) ≡ false)) → IsShown f.rules g f.attacker plan.whole (record { attacker = f.attacker; nodes = s })
    near-shown kept z clear = shown-by kept (near-good (seen_in f) (laws f.rules f.attacker) once (is_in f.blocked) plan (as_any g) s t z
        (λ i v h. ((clear i v h).0, sym (often-seen s (repeat_of v.position)) ∙ (clear i v h).1)))

    pub again-evidence : plan.exact ≡ true → (i : ℕ) (v : Node) (cs : List ℕ) → 0 < i → slice_get s i ≡ Some v → repeat_of v.position ≡ repeat_of g.last → cs ≡ g.last.counter ∷ v.position.counter ∷ [] → IsEvidence f.rules g f.attacker plan.whole (repeat_of g.last) cs
    again-evidence z i v cs o h e d =
        let u = root-again-at (seen_in f) (laws f.rules f.attacker) once (is_in f.blocked) plan (as_any g) s t z i v o h e in
        as-evidence plan.whole (repeat_of g.last) cs u.0 u.1 (u.2 ∙ sym d) (subst (λ ys. 0 < length ys) (sym d) (omega arith))

    pub often-evidence : plan.exact ≡ true → (i : ℕ) (v : Node) (cs : List ℕ) → slice_get s i ≡ Some v → (repeat_of v.position ≡ repeat_of g.last → ⊥) → is_often f.rules.n_fold g s (repeat_of v.position) ≡ true → cs ≡ counters_of (repeat_of v.position) s → IsEvidence f.rules g f.attacker plan.whole (repeat_of v.position) cs
    often-evidence z i v cs at n h d =
        let x = repeat_of v.position in
        let u = too-often (seen_in f) (laws f.rules f.attacker) once (is_in f.blocked) plan (as_any g) s t z v.position n (sym (often-seen s x) ∙ h) in
        let some : 0 < length (counters_of x s) = thin-some (λ (w : Node). w.position.counter) (λ (w : Node). same_repeat (repeat_of w.position) x) s i v at ((repeat-decides x x).1 refl) in
        as-evidence plan.whole x cs u.0 u.1 (u.2 ∙ sym d) (subst (λ ys. 0 < length ys) (sym d) some)

pub played-in : (g : Played) (f : Frame) → f.rules ≡ g.rules → IsPlayed g → AnyGame.IsPlayed (seen_in f) (as_any (story g))
played-in g f e h = subst (λ (x : Rules). AnyGame.IsPlayed (seen_by x f.attacker) (as_any (story g))) (sym e) (game-played g.rules f.attacker g.start g.moves h.game)

pub same-repeats : (x y : Repeat) (w : Bool) → w ≡ same_repeat x y → w ≡ true → x ≡ y
same-repeats x y w e h = (repeat-decides x y).0 (sym e ∙ h)

pub other-repeats : (x y : Repeat) (w : Bool) → w ≡ same_repeat x y → w ≡ false → x ≡ y → ⊥
other-repeats x y w e h d = true_false (same_repeat x y) ((repeat-decides x y).1 d) (sym e ∙ h)

-- what does not win is lost
pub lost_by : (w : Bool) → not w ≡ true → w ≡ false
lost_by true h = sym h
lost_by false h = refl

-- a choice wins
pub winning-choice : (f : Frame) (n : ℕ) (p : Position) (c : WinningMove) → IsChoice f p n c → IsWinningMove f n p c.chosen
winning-choice f n p c w =
    let less = w.fewer in
    record { is_legal = w.is_legal; won = near-more f.rules f.attacker f.blocked c.moves (n - 1) (next f.rules p c.chosen) (omega arith) w.won }

pub some-of-choice : (f : Frame) (n : ℕ) (p : Position) (c : WinningMove) → IsChoice f p n c → some_wins f (n - 1) p ≡ true
some-of-choice f n p c w =
    let k = winning-choice f n p c w in
    any_intro (λ m. In.near_in f (n - 1) (next f.rules p m)) c.chosen (In.legal_in f p) k.is_legal k.won

-- ---- whether a move is named

and-false : (b : Bool) → b && false ≡ false
and-false true = refl
and-false false = refl

pub at-move : (f : Frame) (g : Story) → won_by f.attacker (result f.rules g) ≡ None → same_side g.last.side f.attacker ≡ true → is_at_move f g ≡ true
at-move f g e turn = rw (e, turn)

pub idle-ended : (f : Frame) (g : Story) (w : Bool) → won_by f.attacker (result f.rules g) ≡ Some w → is_at_move f g ≡ false
idle-ended f g w e = rw e

pub idle-defence : (f : Frame) (g : Story) → same_side g.last.side f.attacker ≡ false → is_at_move f g ≡ false
idle-defence f g turn = rw turn (and-false (not (is_some (won_by f.attacker (result f.rules g)))))

pub none-idle : (won turn : Bool) → turn ≡ false → false ≡ (won && turn)
none-idle true turn e = sym e
none-idle false turn e = refl

-- ---- the bound

lines-tree : (by : Rules) (a : Side) (t : ℕ) (g : Story) → lines (seen_by by a) t g.last ≡ tree (play by) t g
unfolding lines tree
lines-tree by a zero g = refl
lines-tree by a (suc t) g = ap (λ h. 1 + sum_by h (legal by (repeat_of g.last))) (λ i m. lines-tree by a t (played by g m) i)

-- all lines of a solve are within its bound
pub solve-lines : (rules : Rules) (f : Frame) (g : Story) (n : ℕ) (p : Position) → f.rules ≡ rules → p ≡ g.last → 0 < n → (3 * n + 5) * lines_within (seen_in f) n p ≤ solve_bound rules n g
unfolding solve_bound
solve-lines rules f g n p e d some =
    let h = whole-lines (seen_in f) n p some in
    let same : lines (seen_in f) (2 * n + 1) p ≡ tree (play rules) (2 * n + 1) g = ap (lines (seen_in f) (2 * n + 1)) d ∙ lines-tree f.rules f.attacker (2 * n + 1) g ∙ ap (λ x. tree (play x) (2 * n + 1) g) e in
    let k : 4 * (n + 1) * lines (seen_in f) (2 * n + 1) p ≡ 4 * (n + 1) * tree (play rules) (2 * n + 1) g = ap (λ z. 4 * (n + 1) * z) same in
    omega arith

-- the walk's lines, as its table names them
pub walk-lines : (f h : Frame) (whole n : ℕ) (p q : Position) → h ≡ f → whole ≡ n → q ≡ p → (whole + 1) * lines_within (seen_in h) whole q ≡ (n + 1) * lines_within (seen_in f) n p
walk-lines f h whole n p q e d c i = (d i + 1) * lines_within (seen_in (e i)) (d i) (c i)

pub room-as : (f h : Frame) (p q : Position) (n k x : ℕ) → h ≡ f → q ≡ p → k ≡ n → x ≡ q.counter + plies (seen_in h) n q → x ≡ p.counter + plies (seen_in f) k p
room-as f h p q n k x e d c is = is ∙ (λ i. (d i).counter + plies (seen_in (e i)) (sym c i) (d i))

pub near-as : (f h : Frame) (p q : Position) (n : ℕ) → h ≡ f → q ≡ p → (0 < 2 * h.rules.n_move) × (2 * h.rules.n_move ≤ q.counter + (n + n)) → (0 < 2 * f.rules.n_move) × (2 * f.rules.n_move ≤ p.counter + (n + n))
near-as f h p q n e d is = subst (λ (x : Frame). (0 < 2 * x.rules.n_move) × (2 * x.rules.n_move ≤ p.counter + (n + n))) e (subst (λ (y : Position). (0 < 2 * h.rules.n_move) × (2 * h.rules.n_move ≤ y.counter + (n + n))) d is)

pub inside-as : (f h : Frame) (p q : Position) (n : ℕ) → h ≡ f → q ≡ p → (2 * h.rules.n_move ≡ 0) ⊎ (q.counter + (n + n) < 2 * h.rules.n_move) → (2 * f.rules.n_move ≡ 0) ⊎ (p.counter + (n + n) < 2 * f.rules.n_move)
inside-as f h p q n e d is = subst (λ (x : Frame). (2 * x.rules.n_move ≡ 0) ⊎ (p.counter + (n + n) < 2 * x.rules.n_move)) e (subst (λ (y : Position). (2 * h.rules.n_move ≡ 0) ⊎ (y.counter + (n + n) < 2 * h.rules.n_move)) d is)
