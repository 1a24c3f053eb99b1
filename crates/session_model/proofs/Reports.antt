-- Reports after other reports, and the bounds of searches.
use Rattle.std.proofs.Common.{◌≡◌, inl, inr, ℕ, zero, suc, ◌+◌, ◌-◌, ◌*◌, ◌/◌, ◌≤◌, ◌<◌, List, [], ◌∷◌, ◌++◌, length, Bool, true, false, Option, Some, None, ℤ, pos, negsuc, refl, sym, ap, subst, arith, append_assoc}
use Rattle.std.specs.Prelude.{neg_ℤ, nat_abs, nat_le, ◌&&◌, ◌==◌, if◌then◌else◌}
use Rattle.std.proofs.lemmas.Bool.{and_parts, leb-true}
use Rattle.foundation.specs.Member.{Member}
use Rattle.foundation.specs.Numbers.{within}
use Rattle.io_ports.specs.declared.dialect.Dialect.{Dialect}
use Rattle.io_ports.specs.Lines.{Line}
use Rattle.rules_model.specs.declared.moves.Move.{Move}
use Rattle.rules_model.specs.declared.rules.Rules.{Rules}
use Rattle.rules_model.specs.Games.{Story}
use Rattle.game_play.specs.Played.{legal_in, story}
use Rattle.evaluation.specs.Bounds.{asked_bound, depths_bound, search_bound, searches_bound, solve_bound}
use Rattle.evaluation.specs.Laws.{IsWorthAt}
use Rattle.evaluation.specs.Values.{play}
use Rattle.evaluation.proofs.GamesByRules.{play_laws}
use Rattle.evaluation.proofs.ScoreLaws.{large_score, root_value-score}
use Rattle.evaluation.proofs.TreeLaws.{mates_near, tree-some}
use Rattle.session_model.proofs.Joined.{reached_before}
use Rattle.session_model.specs.CecpSession.{post_lines}
use Rattle.session_model.specs.Deadlines.{deadline_of}
use Rattle.session_model.specs.Laws.{SoughtIsNear}
use Rattle.session_model.specs.Mates.{Announced, mate_in}
use Rattle.session_model.specs.Thinking.{Task, Report, Cause, Interrupted, OutOfNodes, OutOfTime, Ending, Whole, InSearch, InSolve, AreReports, Deepens, IsReport, MayCut, MayEnd, announced_by, last_announced, last_best, mate_sought, searches_upto, value_at}
use Rattle.session_model.specs.UciTexts.{depth_line, depth_lines, unsettled_lines}

-- ---- reports

pub reports_snoc : (t : Task) (depth : ℕ) (reports : List Report) (report : Report) → AreReports t depth reports
    → IsReport t (depth + length reports) report → AreReports t depth (reports ++ report ∷ [])
reports_snoc t depth [] report h k = (subst (λ d. IsReport t d report) (omega arith) k, tt)
reports_snoc t depth (first ∷ reports) report h k =
    (h.0, reports_snoc t (depth + 1) reports report h.1 (subst (λ d. IsReport t d report) (omega arith) k))

pub last_best_snoc : (first : Move) (reports : List Report) (report : Report) → last_best first (reports ++ report ∷ []) ≡ report.best
last_best_snoc first [] report = refl
last_best_snoc first (other ∷ reports) report = last_best_snoc other.best reports report

pub last_announced_snoc : (before : Option Announced) (reports : List Report) (report : Report)
    → last_announced before (reports ++ report ∷ []) ≡ announced_by report.score (last_announced before reports)
last_announced_snoc before [] report = refl
last_announced_snoc before (other ∷ reports) report = last_announced_snoc (announced_by other.score before) reports report

pub depth_lines-append : (rules : Rules) (depth : ℕ) (a b : List Report)
    → depth_lines rules depth (a ++ b) ≡ depth_lines rules depth a ++ depth_lines rules (depth + length a) b
depth_lines-append rules depth [] b = ap (λ d. depth_lines rules d b) (omega arith)
depth_lines-append rules depth (report ∷ a) b =
    let more = depth_lines-append rules (depth + 1) a b in
    let same : depth + 1 + length a ≡ depth + suc (length a) = omega arith in
    rw (more, same) (sym (append_assoc (unsettled_lines rules report.unsettled) (depth_line depth report.score report.best ∷ depth_lines rules (depth + 1) a) (depth_lines rules (depth + suc (length a)) b)))

pub post_lines-append : (first depth : ℕ) (a b : List Report)
    → post_lines first depth (a ++ b) ≡ post_lines first depth a ++ post_lines first (depth + length a) b
post_lines-append first depth [] b = ap (λ d. post_lines first d b) (omega arith)
post_lines-append first depth (report ∷ a) b =
    let more = post_lines-append first (depth + 1) a b in
    let same : depth + 1 + length a ≡ depth + suc (length a) = omega arith in
    rw (more, same)

-- a reading behind a search that read the clock leaves what it says
may_cut_read : (dialect : Dialect) (A : Type 0) (share time : Option ℕ) (bound first : ℕ) (taken more : List ℕ) (following : List Line) (cause : Cause)
    → MayCut dialect A share time bound (first ∷ taken) following cause → MayCut dialect A share time bound (first ∷ (taken ++ more)) following cause
may_cut_read dialect A share time bound first taken more following Interrupted h = h
may_cut_read dialect A share time bound first taken more following OutOfNodes h = h
may_cut_read dialect A share None bound first taken more following OutOfTime h = h
may_cut_read dialect A share (Some time) bound first taken more following OutOfTime h = reached_before (deadline_of (Some time) (first ∷ taken)) (first ∷ taken) more h

may_end_read : (dialect : Dialect) (A : Type 0) (t : Task) (done first : ℕ) (taken more : List ℕ) (following : List Line) (ending : Ending)
    → MayEnd dialect A t done (first ∷ taken) following ending → MayEnd dialect A t done (first ∷ (taken ++ more)) following ending
may_end_read dialect A t done first taken more following Whole h = h
may_end_read dialect A t done first taken more following (InSearch cause) h =
    (h.0, may_cut_read dialect A t.share t.time _ first taken more following cause h.1)
may_end_read dialect A t done first taken more following (InSolve report n cause) h =
    (h.0, h.1, may_cut_read dialect A t.share t.time _ first taken more following cause h.2)

pub deepens_read : (dialect : Dialect) (A : Type 0) (t : Task) (reports : List Report) (ending : Ending) (first : ℕ) (taken more : List ℕ) (following : List Line)
    → Deepens dialect A t reports ending (first ∷ taken) following → Deepens dialect A t reports ending (first ∷ (taken ++ more)) following
deepens_read dialect A t reports ending first taken more following h =
    record { valued = h.valued; ended = may_end_read dialect A t (length reports) first taken more following ending h.ended }

-- ---- bounds

pub searches_more : (t : Task) (depth : ℕ) → searches_upto t (depth + 1) ≡ searches_upto t depth + search_bound t.game.rules (depth + 1) (story t.game)
unfolding searches_bound
searches_more t depth = let next : depth + 1 ≡ suc depth = omega arith in rw next

pub depths_more : (rules : Rules) (depth : ℕ) (g : Story)
    → depths_bound rules (depth + 1) g ≡ depths_bound rules depth g + (search_bound rules (depth + 1) g + asked_bound rules (depth + 1) g)
unfolding depths_bound
depths_more rules depth g = let next : depth + 1 ≡ suc depth = omega arith in rw next

depths_beyond : (rules : Rules) (depth more : ℕ) (g : Story) → depths_bound rules depth g ≤ depths_bound rules (more + depth) g
unfolding depths_bound
depths_beyond rules depth zero g =
    let is : depth ≡ 0 + depth = omega arith in
    subst (λ d. depths_bound rules depth g ≤ depths_bound rules d g) is (omega arith)
depths_beyond rules depth (suc more) g =
    let is : suc (more + depth) ≡ suc more + depth = omega arith in
    let less = depths_beyond rules depth more g in
    subst (λ d. depths_bound rules depth g ≤ depths_bound rules d g) is (omega (arith, less))

pub depths_grow : (rules : Rules) (depth more : ℕ) (g : Story) → depth ≤ more → depths_bound rules depth g ≤ depths_bound rules more g
depths_grow rules depth more g h =
    let is : (more - depth) + depth ≡ more = omega arith in
    subst (λ d. depths_bound rules depth g ≤ depths_bound rules d g) is (depths_beyond rules depth (more - depth) g)

pub search_bound-some : (rules : Rules) (depth : ℕ) (g : Story) → 0 < search_bound rules depth g
unfolding search_bound
search_bound-some rules depth g = let some = tree-some (play rules) (depth + 4) g in omega arith

product_some : (a b : ℕ) → 1 ≤ b → 0 < 4 * (a + 1) * b
product_some a zero h = elim h [ ]
product_some a (suc b) h = omega arith

pub solve_bound-some : (rules : Rules) (n : ℕ) (g : Story) → 0 < solve_bound rules n g
unfolding solve_bound
solve_bound-some rules n g = product_some n _ (tree-some (play rules) (2 * n + 1) g)

-- ---- mates that are looked for

-- a test that is met, and what it guards
met : {X : Type 0} (b : Bool) (o : Option X) (x : X) → (if b then o else None) ≡ Some x → (b ≡ true) × (o ≡ Some x)
met true o x h = (refl, h)
met false o x h = cc

record IsWithin (low high m n : ℕ) : Type 0 where
  is : m ≡ n
  least : low ≤ n
  most : n ≤ high

within_parts : (low high m n : ℕ) → within low high m ≡ Some n → IsWithin low high m n
within_parts low high m n h =
    let (tests, same) = met (nat_le low m && nat_le m high) (Some m) n h in
    let is : m ≡ n = cc in
    let (least, most) = and_parts (nat_le low m) (nat_le m high) tests in
    let low_enough = leb-true low m least in
    let high_enough = leb-true m high most in
    record { is = is; least = subst (λ k. low ≤ k) is low_enough; most = subst (λ k. k ≤ high) is high_enough }

sought_in : (t : Task) (depth n : ℕ) → mate_sought t depth ≡ Some n → mate_in (value_at t depth) ≡ Some n
sought_in t depth n h = (met (length t.roots == length (legal_in t.game)) (mate_in (value_at t depth)) n h).1

ahead_parts : (v n : ℕ) → mate_in (pos v) ≡ Some n → (31000 ≤ v) × IsWithin 1 100 ((32001 - v) / 2) n
unfolding mate_in
ahead_parts v n h =
    let (large, there) = met (nat_le 31000 v) (within 1 100 ((32001 - v) / 2)) n h in
    (leb-true 31000 v large, within_parts 1 100 ((32001 - v) / 2) n there)

behind_parts : (v n : ℕ) → mate_in (negsuc v) ≡ Some n → (31000 ≤ v + 1) × IsWithin 1 100 ((32000 - (v + 1)) / 2) n
unfolding mate_in
behind_parts v n h =
    let (large, there) = met (nat_le 31000 (v + 1)) (within 1 100 ((32000 - (v + 1)) / 2)) n h in
    (leb-true 31000 (v + 1) large, within_parts 1 100 ((32000 - (v + 1)) / 2) n there)

in_range : (v : ℤ) (n : ℕ) → mate_in v ≡ Some n → (1 ≤ n) × (n ≤ 100)
in_range (pos v) n h = let (large, w) = ahead_parts v n h in (w.least, w.most)
in_range (negsuc v) n h = let (large, w) = behind_parts v n h in (w.least, w.most)

-- from 1 to 100 moves
pub sought_range : (t : Task) (depth n : ℕ) → mate_sought t depth ≡ Some n → (1 ≤ n) × (n ≤ 100)
sought_range t depth n h = in_range (value_at t depth) n (sought_in t depth n h)

is_large : (v : ℤ) (n : ℕ) → mate_in v ≡ Some n → 31000 ≤ nat_abs v
is_large (pos v) n h = (ahead_parts v n h).0
is_large (negsuc v) n h = let large = (behind_parts v n h).0 in omega (arith, large)

-- the negative of a number from 0 on is 0 or below it
pos_of_neg : (k v : ℕ) → pos v ≡ neg_ℤ (pos k) → v ≡ 0
pos_of_neg zero v h = cc
pos_of_neg (suc k) v h = cc

negsuc_of_neg : (k v : ℕ) → negsuc v ≡ neg_ℤ (pos k) → suc v ≡ k
negsuc_of_neg zero v h = cc
negsuc_of_neg (suc k) v h = cc

-- a mate within n moves ends at most 2n plies away, or 2n - 1
plies_of : (v : ℤ) (n ply : ℕ) → mate_in v ≡ Some n → IsWorthAt ply v → 2 * n ≤ ply + 1
plies_of (pos v) n ply h (inl is) =
    let (large, w) = ahead_parts v n h in
    let half : (32001 - v) / 2 ≡ n = w.is in
    let worth : v ≡ 32000 - ply = cc in
    omega (arith, half, worth, large)
plies_of (pos v) n ply h (inr is) =
    let (large, w) = ahead_parts v n h in
    let none : v ≡ 0 = pos_of_neg (32000 - ply) v is in
    absurd (omega (arith, large, none))
plies_of (negsuc v) n ply h (inl is) = cc
plies_of (negsuc v) n ply h (inr is) =
    let (large, w) = behind_parts v n h in
    let half : (32000 - (v + 1)) / 2 ≡ n = w.is in
    let worth : suc v ≡ 32000 - ply = negsuc_of_neg (32000 - ply) v is in
    omega (arith, half, worth, large)

-- a solve for a mate that a depth finds stays within what the depth allows
pub sought_is_near : SoughtIsNear
sought_is_near t depth n first roots are some h =
    let found = sought_in t depth n h in
    let there : Member first t.roots = subst (λ ms. Member first ms) (sym are) (inl refl) in
    let end = large_score 1 (depth + 4) (value_at t depth)
    (root_value-score (play t.game.rules) (play_laws t.game.rules) depth (story t.game) t.roots first some there)
    (is_large (value_at t depth) n found) in
    mates_near t.game.rules depth n end.ply (story t.game) end.upto (plies_of (value_at t depth) n end.ply found end.is)
