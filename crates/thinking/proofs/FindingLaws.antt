-- What is found at a depth is a true report.
use Rattle.std.proofs.Common.{◌≡◌, ℕ, zero, suc, get_or, eq-eqb, ◌≤◌, ◌<◌, ◌^◌, List, [], ◌∷◌, length, Option, Some, None, true, refl, sym, ap, subst, ◌∙◌, inl, inr, arith, ℤ, pos, negsuc, ◌≤ℤ◌, ◌<ℤ◌}
use Rattle.std.specs.Prelude.{IfSome}
use Rattle.std.specs.List.{All}
use Rattle.std.proofs.lemmas.Int.{ints}
use Rattle.foundation.specs.Member.{Member}
use Rattle.rules_model.specs.declared.moves.Move.{Move}
use Rattle.rules_model.specs.declared.board.Repeat.{Repeat}
use Rattle.rules_model.specs.declared.board.Side.{Side}
use Rattle.rules_model.specs.Sides.{other}
use Rattle.rules_model.specs.Sound.{is_sound}
use Rattle.game_play.specs.Played.{Played, IsPlayed, legal_in}
use Rattle.session_model.proofs.Shown.{evidence_is_sound, roots_of_shown}
use Rattle.session_model.specs.Mates as Mates
use Rattle.session_model.specs.Mates.{IsEvidence, IsShown, counters_of, favoured, mover, position_at, root_move}
use Rattle.session_model.specs.Thinking.{Task, AttainsAt, IsAhead, IsBehind, IsScore, IsSettled, mate_sought, value_at}
use Rattle.session_model.specs.Thinking as Thinking
use Rattle.strategy.specs.declared.nodes.Strategy.{Strategy}
use Rattle.thinking.specs.declared.depth_result.CutSolve.{CutSolve}
use Rattle.thinking.specs.declared.depth_result.Evidence.{Evidence}
use Rattle.thinking.specs.declared.depth_result.DepthResult.{DepthResult}
use Rattle.thinking.specs.declared.depth_result.Score.{Score}
use Rattle.thinking.specs.declared.depth_result.Score.TheVariants as score
use Rattle.thinking.specs.declared.task.Task.{Task as Asked}
use Rattle.thinking.specs.Judging.{IsFinding, search_at}
use Rattle.thinking.specs.Views.{IsTask, evidence_of, evidence_seen, score_seen}

-- ---- legal moves

-- a list with a legal move
member_some : {X : Type 0} (x : X) (xs : List X) → Member x xs → 0 < length xs
member_some x [] there = absurd there
member_some x (y ∷ ys) there = omega arith

pub legal_some : (roots legal : List Move) → All (λ m. Member m legal) roots → 0 < length roots → 0 < length legal
legal_some [] legal all some = absurd (omega arith)
legal_some (m ∷ roots) legal all some = member_some m legal (all 0 m (omega arith))

member_at : {X : Type 0} (xs : List X) (i : ℕ) (d : X) → i < length xs → Member (get_or xs i d) xs
member_at [] i d below = absurd (omega arith)
member_at (x ∷ xs) zero d below = inl refl
member_at (x ∷ xs) (suc i) d below = inr (member_at xs i d (omega arith))

same_members : (xs ys : List Move) → xs ≡ ys → All (λ m. Member m ys) xs
same_members xs ys is = subst (λ (zs : List Move). All (λ m. Member m zs) xs) is (λ i d below. member_at xs i d below)

-- all legal moves are root moves
pub whole_task : (t : Asked) → t.roots.now ≡ legal_in t.game.now → 0 < length t.roots.now → t.all ≡ true → 1 ≤ t.depths → t.depths ≤ 64
    → IsTask t
whole_task t is some all least most = record {
  legal = same_members t.roots.now (legal_in t.game.now) is;
  some = some;
  all = all ∙ sym (eq-eqb (length t.roots.now) (length (legal_in t.game.now)) (ap length is));
  least = least;
  most = most;
}

-- a strategy that is shown for the mover has a move at its root
pub root_there : (g : Played) (n : ℕ) (s : Strategy) → IsShown g n (mover g) s → 0 < length (legal_in g) → root_move s ≡ None → ⊥
root_there g n s shown some none = by_legal (legal_in g) refl some
  where
    by_legal : (legal : List Move) → legal_in g ≡ legal → 0 < length legal → ⊥
    by_legal [] is some = absurd (omega arith)
    by_legal (first ∷ legal) is some =
        let (best, root, there) = roots_of_shown g n s first legal shown is in
        let clash : Some best ≡ None = sym root ∙ none in
        cc

-- ---- the side that a value favours

pub favours_mover : (side : Side) (v : ℤ) → pos 0 ≤ℤ v → (IsAhead v) × (favoured side v ≡ side)
favours_mover side (pos v) h = (tt, refl)
favours_mover side (negsuc v) h = absurd (omega (arith, ints))

pub favours_other : (side : Side) (v : ℤ) → v <ℤ pos 0 → (IsBehind v) × (favoured side v ≡ other side)
favours_other side (pos v) h = absurd (omega (arith, ints))
favours_other side (negsuc v) h = (tt, refl)

-- ---- evidence

abbrev evidence_made : Repeat → ℕ → List ℕ → Mates.Evidence
evidence_made r n ns = record { repeat = r; first = n; others = ns }

pub evidence_same : (a b : Mates.Evidence) → a.repeat ≡ b.repeat → counters_of a ≡ counters_of b → a ≡ b
evidence_same a b repeat counters =
    let first : a.first ≡ b.first = cc in
    let others : a.others ≡ b.others = cc in
    by_parts a.repeat b.repeat a.first b.first a.others b.others repeat first others
  where
    by_parts : (r r' : Repeat) (n n' : ℕ) (ns ns' : List ℕ) → r ≡ r' → n ≡ n' → ns ≡ ns'
        → evidence_made r n ns ≡ evidence_made r' n' ns'
    by_parts r r' n n' ns ns' p q s = cc

-- ---- reports

module _ (t : Task) (depth : ℕ) (value : ℤ) (best : Move) (nodes : ℕ) (is : value ≡ value_at t depth) (few : nodes ≤ search_at t depth) (counted : nodes < 2 ^ 64) where
  -- points
  pub finding_points : (unsettled : Option Evidence) → AttainsAt t depth best → IsSettled t depth (mate_sought t depth) (evidence_seen unsettled)
      → IsFinding t depth (record { score = score.Points value; best = best; unsettled = unsettled; nodes = nodes }) None
  finding_points unsettled attains settled = λ clock. record { scored = (is, attains, settled); few = few; counted = counted }

  pub settled_none : mate_sought t depth ≡ None → IsSettled t depth (mate_sought t depth) None
  settled_none none = subst (λ (o : Option ℕ). IsSettled t depth o None) (sym none) tt

  pub settled_by : (n : ℕ) (e : Option Mates.Evidence) → mate_sought t depth ≡ Some n → IsSettled t depth (Some n) e → IsSettled t depth (mate_sought t depth) e
  settled_by n e sought h = subst (λ (o : Option ℕ). IsSettled t depth o e) (sym sought) h

  -- a mate by the mover
  pub finding_mates : (n : ℕ) (s : Strategy) → mate_sought t depth ≡ Some n → pos 0 ≤ℤ value → IsShown t.game n (favoured (mover t.game) value) s → root_move s ≡ Some best
      → IsFinding t depth (record { score = score.Mates n s; best = best; unsettled = None; nodes = nodes }) None
  finding_mates n s sought ahead shown root =
      let (is_ahead, side) = favours_mover (mover t.game) value ahead in
      λ clock. record {
        scored = (sought, subst IsAhead is is_ahead, subst (λ (a : Side). IsShown t.game n a s) side shown, root, refl);
        few = few;
        counted = counted;
      }

  -- one by the other side
  pub finding_mated : (n : ℕ) (s : Strategy) → mate_sought t depth ≡ Some n → value <ℤ pos 0 → IsShown t.game n (favoured (mover t.game) value) s → AttainsAt t depth best
      → IsFinding t depth (record { score = score.Mated n s; best = best; unsettled = None; nodes = nodes }) None
  finding_mated n s sought behind shown attains =
      let (is_behind, side) = favours_other (mover t.game) value behind in
      λ clock. record {
        scored = (sought, subst IsBehind is is_behind, subst (λ (a : Side). IsShown t.game n a s) side shown, attains, refl);
        few = few;
        counted = counted;
      }

  -- the solve was cut
  pub finding_open : (solve : CutSolve) → mate_sought t depth ≡ Some solve.moves → AttainsAt t depth best
      → IsFinding t depth (record { score = score.Points value; best = best; unsettled = None; nodes = nodes }) (Some solve)
  finding_open solve sought attains = λ clock. record {
    score = ap Thinking.Points is;
    best = attains;
    sought = sought;
    unsettled = refl;
    few = few;
    counted = counted;
  }

settled_there : (t : Task) (depth : ℕ) (sought : Option ℕ) (e : Mates.Evidence) → IsSettled t depth sought (Some e)
    → (n : ℕ) × (a : Side) × IsEvidence t.game n a e
settled_there t depth None e h = absurd h
settled_there t depth (Some n) e h = (n, favoured (mover t.game) (value_at t depth), h)

scored_there : (t : Task) (depth : ℕ) (s : Score) (best : Move) (e : Mates.Evidence) → IsScore t depth (score_seen s) best (Some e)
    → (n : ℕ) × (a : Side) × IsEvidence t.game n a e
scored_there t depth (score.Points points) best e h = settled_there t depth (mate_sought t depth) e h.2
scored_there t depth (score.Mates n s) best e h = let no = h.4 in absurd (cc)
scored_there t depth (score.Mated n s) best e h = let no = h.4 in absurd (cc)

abbrev IsThere : Task → Option Evidence → Type 0
IsThere t unsettled = IfSome unsettled (λ e. (n : ℕ) × (a : Side) × IsEvidence t.game n a (evidence_of e))

evidence_there : (t : Task) (depth : ℕ) (found : DepthResult) (cut : Option CutSolve) → IsFinding t depth found cut → IsThere t found.unsettled
evidence_there t depth found None is = by_unsettled found.unsettled (is 0).scored
  where
    by_unsettled : (unsettled : Option Evidence) → IsScore t depth (score_seen found.score) found.best (evidence_seen unsettled) → IsThere t unsettled
    by_unsettled None h = tt
    by_unsettled (Some e) h = scored_there t depth found.score found.best (evidence_of e) h
evidence_there t depth found (Some cut) is = by_unsettled found.unsettled (is 0).unsettled
  where
    by_unsettled : (unsettled : Option Evidence) → evidence_seen unsettled ≡ None → IsThere t unsettled
    by_unsettled None h = tt
    by_unsettled (Some e) h = absurd (cc)

-- the position of evidence is sound
pub finding_sound : (t : Task) (depth : ℕ) (found : DepthResult) (cut : Option CutSolve) → IsPlayed t.game → IsFinding t depth found cut
    → IfSome found.unsettled (λ e. is_sound t.game.rules (position_at e.repeat e.first) ≡ true)
finding_sound t depth found cut played is = by_unsettled found.unsettled (evidence_there t depth found cut is)
  where
    by_unsettled : (unsettled : Option Evidence) → IfSome unsettled (λ e. (n : ℕ) × (a : Side) × IsEvidence t.game n a (evidence_of e))
        → IfSome unsettled (λ e. is_sound t.game.rules (position_at e.repeat e.first) ≡ true)
    by_unsettled None h = tt
    by_unsettled (Some e) h = evidence_is_sound t.game h.0 h.1 (evidence_of e) played h.2
