-- The second walk, as the code reads tables and frames.
use Rattle.std.proofs.Common.{◌≡◌, ℕ, ◌+◌, ◌-◌, ◌*◌, ◌<◌, ◌≤◌, List, take, slice_get, Bool, true, false, None, Some, refl, ap, sym, ◌∙◌, subst, arith}
use Rattle.std.specs.List.{list_any, sum_by}
use Rattle.foundation.specs.Member.{Member}
use Rattle.rules_model.specs.declared.board.Position.{Position}
use Rattle.rules_model.specs.declared.board.Repeat.{Repeat}
use Rattle.rules_model.specs.declared.moves.Move.{Move}
use Rattle.rules_model.specs.Next.{next}
use Rattle.forced_wins.specs.Games.{Game, GameLaws}
use Rattle.forced_wins.specs.Games as AnyGame
use Rattle.forced_wins.specs.Wins.{is_in}
use Rattle.forced_wins.proofs.Rules.{laws, near-is}
use Rattle.forced_wins.proofs.TableLaws.{all_member}
use Rattle.mate_core.specs.declared.frame.Frame.{Frame}
use Rattle.mate_fact.specs.InFrame as In
use Rattle.mate_settle.specs.Choices.{some_wins, IsChoice}
use Rattle.mate_settle.specs.declared.choosing.WinningMove.{WinningMove}
use Rattle.mate_settle.specs.Lines.{plies, lines_within, lines_after, seen_in}
use Rattle.mate_fact.specs.InFrame.{left_after}
use Rattle.strategy.specs.declared.nodes.Edge.{Edge}
use Rattle.strategy.specs.declared.nodes.Node.{Node}
use Rattle.mate_showing.specs.declared.plan.StrategyPlan.{StrategyPlan}
use Rattle.mate_showing.specs.Tabled.{Tabled, rules_of, IsNextIn, StandsIn, AreEdgesIn, GrowsTo}
use Rattle.mate_showing.specs.Tables.{AreEdges, Grows, IsNext, IsLedTo, Stands}
use Rattle.mate_showing.proofs.Builds.{goes-attack, goes-defence, next-after, attack_lines, asked_lines, defence_more, plies_less, plies_next}
use Rattle.mate_showing.proofs.Growth.{grows-none, grows-on}

pub grows-self : (t : Tabled) → GrowsTo t t
grows-self t = record { frame = refl; plan = refl; grows = grows-none (rules_of t) (laws t.frame.rules t.frame.attacker) t.plan.exact t.nodes }

pub grows-trans : (t u v : Tabled) → GrowsTo t u → GrowsTo u v → GrowsTo t v
grows-trans t u v a b =
    let second : Grows (rules_of t) t.plan.exact u.nodes v.nodes = subst (λ (x : Frame). Grows (seen_in x) t.plan.exact u.nodes v.nodes) a.frame (subst (λ (x : StrategyPlan). Grows (rules_of u) x.exact u.nodes v.nodes) a.plan b.grows) in
    record {
      frame = b.frame ∙ a.frame;
      plan = b.plan ∙ a.plan;
      grows = grows-on (rules_of t) (laws t.frame.rules t.frame.attacker) t.plan.exact t.nodes u.nodes v.nodes a.grows second;
    }

-- ---- lines, less the node of the position itself

-- those of an attack
pub attack-asked : (f : Frame) (n : ℕ) (p : Position) → (seen_in f).attacking p ≡ true → 0 < n → sum_by (lines_after (seen_in f) (n - 1) p) (In.legal_in f p) ≤ (n + 1) * lines_within (seen_in f) n p - 1
attack-asked f n p turn some = let a = asked_lines (seen_in f) (laws f.rules f.attacker) n p turn some in omega arith

attack-end : (f : Frame) (n k : ℕ) (p : Position) (m : Move) (x : ℕ) → (seen_in f).attacking p ≡ true → 0 < n → k < n → Member m (In.legal_in f p) → x ≡ (k + 1) * lines_within (seen_in f) k (next f.rules p m) → sum_by (lines_after (seen_in f) (n - 1) p) (In.legal_in f p) + x ≤ (n + 1) * lines_within (seen_in f) n p - 1
attack-end f n k p m x turn some less is e = let a = attack_lines (seen_in f) (laws f.rules f.attacker) n k p m turn some less is in omega arith

-- those of a defence: what one more reply adds
pub defence-step : (f x : Frame) (n : ℕ) (p : Position) (ms : List Move) (i : ℕ) (m : Move) → x ≡ f → slice_get ms i ≡ Some m → (n + 1) * sum_by (lines_after (seen_in f) n p) (take i ms) + (n + 1) * lines_within (seen_in x) n (next x.rules p m) ≤ (n + 1) * sum_by (lines_after (seen_in f) n p) (take (i + 1) ms)
defence-step f x n p ms i m e at =
    let same = ap (λ (z : Frame). (n + 1) * lines_within (seen_in z) n (next z.rules p m)) e in
    let more = defence_more (seen_in f) (laws f.rules f.attacker) n p ms i m at in omega arith

module _ (t : Tabled) (f : Frame) (e : t.frame ≡ f) where
  abbrev r : Game Position Repeat Move
  r = seen_in f

  abbrev b : Repeat → Bool
  b = is_in f.blocked

  abbrev l : GameLaws Position Repeat Move r
  l = laws f.rules f.attacker

  pub next-as : (n : ℕ) (p : Position) → IsNextIn t n p → IsNext r b t.plan n p
  next-as n p h = subst (λ (x : Frame). IsNext (seen_in x) (is_in x.blocked) t.plan n p) e h

  pub next-in : (u : Tabled) (k : ℕ) (q s : Position) → GrowsTo t u → q ≡ s → IsNext r b t.plan k s → IsNextIn u k q
  next-in u k q s g d h =
      subst (λ (x : Frame). IsNext (seen_in x) (is_in x.blocked) u.plan k q) (sym (g.frame ∙ e))
      (subst (λ x. IsNext r b x k q) (sym g.plan) (subst (IsNext r b t.plan k) (sym d) h))

  pub stands-as : (u : Tabled) (q s : Position) (n i : ℕ) → GrowsTo t u → q ≡ s → StandsIn u q n i → Stands r t.plan.exact u.nodes s n i
  stands-as u q s n i g d h =
      subst (λ (x : Frame). Stands (seen_in x) t.plan.exact u.nodes s n i) (g.frame ∙ e)
      (subst (λ (x : StrategyPlan). Stands (rules_of u) x.exact u.nodes s n i) g.plan (subst (λ y. StandsIn u y n i) d h))

  pub edges-in : (u : Tabled) (p : Position) (n : ℕ) (es : List Edge) → GrowsTo t u → AreEdges r t.plan.exact u.nodes p n es (r.own p) (r.attacking p) → AreEdgesIn u p n es
  edges-in u p n es g h =
      subst (λ (x : Frame). AreEdges (seen_in x) u.plan.exact u.nodes p n es ((seen_in x).own p) ((seen_in x).attacking p)) (sym (g.frame ∙ e))
      (subst (λ (x : StrategyPlan). AreEdges r x.exact u.nodes p n es (r.own p) (r.attacking p)) (sym g.plan) h)

  pub grows-as : (u v : Tabled) → GrowsTo t u → GrowsTo u v → Grows r t.plan.exact u.nodes v.nodes
  grows-as u v g h =
      subst (λ (x : Frame). Grows (seen_in x) t.plan.exact u.nodes v.nodes) (g.frame ∙ e) (subst (λ (x : StrategyPlan). Grows (rules_of u) x.exact u.nodes v.nodes) g.plan h.grows)

  pub led-in : (s : List Node) (p : Position) (n : ℕ) (x : Edge) → IsLedTo r t.plan.exact s p n x → IsLedTo (rules_of t) t.plan.exact s p n x
  led-in s p n x h = subst (λ (y : Frame). IsLedTo (seen_in y) t.plan.exact s p n x) (sym e) h

  pub led-as : (s : List Node) (p : Position) (n : ℕ) (x : Edge) → IsLedTo (rules_of t) t.plan.exact s p n x → IsLedTo r t.plan.exact s p n x
  led-as s p n x h = subst (λ (y : Frame). IsLedTo (seen_in y) t.plan.exact s p n x) e h

  -- ---- wins after a move

  near-seen : (n : ℕ) (p : Position) → In.near_in f n p ≡ AnyGame.near r b n p
  near-seen n p = near-is f.rules n p f.blocked f.attacker

  pub some-seen : (n : ℕ) (p : Position) → some_wins f n p ≡ list_any (λ m. AnyGame.near r b n (r.next p m)) (r.legal p)
  some-seen n p i = list_any (λ m. near-seen n (next f.rules p m) i) (In.legal_in f p)

  module _ (n : ℕ) (p : Position) (h : IsNextIn t n p) (own : r.own p ≡ None) where
    abbrev here : IsNext r b t.plan n p
    here = next-as n p h

    pub attack-moves : r.attacking p ≡ true → 0 < n
    attack-moves turn = (goes-attack r l b n p here.goes_on own turn).0

    pub attack-wins : r.attacking p ≡ true → some_wins f (n - 1) p ≡ true
    attack-wins turn = some-seen (n - 1) p ∙ (goes-attack r l b n p here.goes_on own turn).1

    -- the position after the move that is chosen
    pub attack-next : r.attacking p ≡ true → (c : WinningMove) → IsChoice f p n c → IsNext r b t.plan c.moves (next f.rules p c.chosen)
    attack-next turn c w =
        let less = w.fewer in
        let fall = plies_less r l n c.moves p c.chosen turn (attack-moves turn) less in
        next-after r l b t.plan n c.moves p c.chosen here own w.is_legal (λ z. attack-moves turn)
        (subst (λ a. c.moves ≤ left_after a n) (sym turn) (omega arith)) (sym (near-seen c.moves (next f.rules p c.chosen)) ∙ w.won) (omega arith)

    pub attack-fall : r.attacking p ≡ true → (c : WinningMove) → IsChoice f p n c → (x : Frame) → x ≡ f → plies (seen_in x) c.moves (next x.rules p c.chosen) < plies r n p
    attack-fall turn c w x d =
        subst (λ (z : Frame). plies (seen_in z) c.moves (next z.rules p c.chosen) < plies r n p) (sym d) (plies_less r l n c.moves p c.chosen turn (attack-moves turn) w.fewer)

    pub attack-total : r.attacking p ≡ true → (c : WinningMove) → IsChoice f p n c → (x : Frame) → x ≡ f → sum_by (lines_after r (n - 1) p) (In.legal_in f p) + (c.moves + 1) * lines_within (seen_in x) c.moves (next x.rules p c.chosen) ≤ (n + 1) * lines_within r n p - 1
    attack-total turn c w x d =
        attack-end f n c.moves p c.chosen _ turn (attack-moves turn) w.fewer w.is_legal (ap (λ (z : Frame). (c.moves + 1) * lines_within (seen_in z) c.moves (next z.rules p c.chosen)) d)

    -- the position after a reply
    pub defence-fall : r.attacking p ≡ false → (m : Move) (x : Frame) → x ≡ f → plies (seen_in x) n (next x.rules p m) < plies r n p
    defence-fall turn m x d = subst (λ (z : Frame). plies (seen_in z) n (next z.rules p m) < plies r n p) (sym d) (plies_next r l n p m turn)

    pub defence-next : r.attacking p ≡ false → (m : Move) → Member m (r.legal p) → IsNext r b t.plan n (next f.rules p m)
    defence-next turn m is =
        let won = all_member (λ x. AnyGame.near r b n (r.next p x)) (r.legal p) (goes-defence r l b n p here.goes_on own turn) m is in
        let fall = plies_next r l n p m turn in
        next-after r l b t.plan n n p m here own is (λ z. absurd (let x = turn in cc))
        (subst (λ a. n ≤ left_after a n) (sym turn) (omega arith)) won (omega arith)
