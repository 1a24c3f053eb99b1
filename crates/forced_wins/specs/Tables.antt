-- Strategies as tables of nodes, and the verdict on them.
use Rattle.std.specs.Prelude.{◌≡◌, ℕ, suc, ◌+◌, List, [], ◌∷◌, Bool, true, false, not, ◌&&◌, ◌||◌, nat_le, nat_lt, ◌==◌, Option, Some, None, slice_get, count_by, length, take, if◌then◌else◌}
use Rattle.std.specs.List.{list_any, list_all}
use Rattle.forced_wins.specs.Games.{Game, Story, history, times, run_out, repeated, lost_if, or_end}

-- how the nodes and the edges of a strategy are read: N are nodes, E edges
pub record Accessors (P M N E : Type 0) : Type 0 where
  -- a node's counter is the greatest for which it speaks
  pub position : N → P
  -- the moves that the attacker still makes
  pub rank : N → ℕ
  pub edges : N → List E
  pub chosen : E → M
  -- the place of the node that the edge leads to
  pub to : E → ℕ

-- the first fault of a strategy, by the place of its node, or none
pub data Verdict (M : Type 0) : Type 0 where
  Wins : Verdict M
  Root : Verdict M
  WrongMove : ℕ → Verdict M
  MissingReply : ℕ → M → Verdict M
  BadRank : ℕ → Verdict M
  BadCounter : ℕ → Verdict M
  Repeats : ℕ → Verdict M
  NotWon : ℕ → Verdict M

-- how many nodes have the repeat
unfoldable pub nodes_of : {P R M N E : Type 0} → Game P R M → Accessors P M N E → R → List N → ℕ
nodes_of r tb x s = count_by (λ v. r.same (r.repeat (tb.position v)) x) s

-- how a node is ended at its counter: by itself, without a legal move, or by the move count
abbrev pub node_end : {P R M N E : Type 0} → Game P R M → Accessors P M N E → N → Option Bool
node_end r tb v = or_end (r.own (tb.position v)) (lost_if (run_out r (r.counter (tb.position v))))

abbrev pub ends_lost : Option Bool → Bool
ends_lost None = false
ends_lost (Some won) = not won

-- there is a node, and it passes
abbrev pub leads : {N : Type 0} → Option N → (N → Bool) → Bool
leads None f = false
leads (Some w) f = f w

-- ---- the root

-- node 0 has the repeat of the game, a counter not below the game's, and a rank of at most n
unfoldable pub root_fits : {P R M N E : Type 0} → Game P R M → Accessors P M N E → List N → Story P → ℕ → Bool
root_fits r tb s g n =
    leads (slice_get s 0) (λ v.
    r.same (r.repeat (tb.position v)) (r.repeat g.last)
    && (nat_le (r.counter g.last) (r.counter (tb.position v)) && nat_le (tb.rank v) n))

-- ---- wrong moves

-- the move of the edge is legal, and its node has the repeat that follows
abbrev pub fits_edge : {P R M N E : Type 0} → Game P R M → Accessors P M N E → List N → N → E → Bool
fits_edge r tb s v e =
    list_any (r.same_move (tb.chosen e)) (r.legal (tb.position v))
    && leads (slice_get s (tb.to e))
    (λ w. r.same (r.repeat (tb.position w)) (r.repeat (r.next (tb.position v) (tb.chosen e))))

-- two edges have one move
abbrev pub is_doubled : {P R M N E : Type 0} → Game P R M → Accessors P M N E → List E → Bool
is_doubled r tb [] = false
is_doubled r tb (e ∷ es) = list_any (λ f. r.same_move (tb.chosen e) (tb.chosen f)) es || is_doubled r tb es

-- an ended node has no edge, an ongoing one of the attacker exactly one
abbrev pub fits_number : Option Bool → Bool → ℕ → Bool
fits_number (Some won) attacking n = n == 0
fits_number None true n = n == 1
fits_number None false n = true

unfoldable pub wrong_move : {P R M N E : Type 0} → Game P R M → Accessors P M N E → List N → N → Bool
wrong_move r tb s v =
    not (list_all (fits_edge r tb s v) (tb.edges v)
    && (not (is_doubled r tb (tb.edges v))
    && fits_number (node_end r tb v) (r.attacking (tb.position v)) (length (tb.edges v))))

-- ---- missing replies

abbrev pub has_edge : {P R M N E : Type 0} → Game P R M → Accessors P M N E → N → M → Bool
has_edge r tb v m = list_any (λ e. r.same_move (tb.chosen e) m) (tb.edges v)

-- the first of the moves without an edge
abbrev pub first_missing : {P R M N E : Type 0} → Game P R M → Accessors P M N E → N → List M → Option M
first_missing r tb v [] = None
first_missing r tb v (m ∷ ms) = if has_edge r tb v m then first_missing r tb v ms else Some m

-- only an ongoing node of the other side lacks replies
abbrev pub missing_at : {P R M N E : Type 0} → Game P R M → Accessors P M N E → N → Option Bool → Bool → Option M
missing_at r tb v (Some won) attacking = None
missing_at r tb v None true = None
missing_at r tb v None false = first_missing r tb v (r.legal (tb.position v))

unfoldable pub missing_reply : {P R M N E : Type 0} → Game P R M → Accessors P M N E → N → Option M
missing_reply r tb v = missing_at r tb v (node_end r tb v) (r.attacking (tb.position v))

-- ---- ranks and counters

-- the rank falls at a move of the attacker, and does not rise at one of the other side
abbrev pub fits_rank : Bool → ℕ → ℕ → Bool
fits_rank true from to = nat_lt to from
fits_rank false from to = nat_le to from

unfoldable pub bad_rank : {P R M N E : Type 0} → Game P R M → Accessors P M N E → List N → N → Bool
bad_rank r tb s v =
    not (list_all (λ e. leads (slice_get s (tb.to e)) (λ w.
    fits_rank (r.attacking (tb.position v)) (tb.rank v) (tb.rank w))) (tb.edges v))

-- some next counter is above that of the node that it leads to
unfoldable pub bad_counter : {P R M N E : Type 0} → Game P R M → Accessors P M N E → List N → N → Bool
bad_counter r tb s v =
    not (list_all (λ e. leads (slice_get s (tb.to e)) (λ w.
    nat_le (r.counter (r.next (tb.position v) (tb.chosen e))) (r.counter (tb.position w)))) (tb.edges v))

-- ---- repeats

abbrev pub is_root_again : {P R M N E : Type 0} → Game P R M → Accessors P M N E → List N → N → Bool
is_root_again r tb s v = leads (slice_get s 0) (λ u. r.same (r.repeat (tb.position v)) (r.repeat (tb.position u)))

-- the count of its repeat in the game and the number of nodes that have it reach the fold together
abbrev pub stands_often : {P R M N E : Type 0} → Game P R M → Accessors P M N E → List N → Story P → N → Bool
stands_often r tb s g v =
    nat_lt 0 r.fold
    && nat_le r.fold (times r (r.repeat (tb.position v)) (history g) + nodes_of r tb (r.repeat (tb.position v)) s)

-- an earlier node has its repeat and counter
abbrev pub is_earlier : {P R M N E : Type 0} → Game P R M → Accessors P M N E → List N → ℕ → N → Bool
is_earlier r tb s i v =
    list_any (λ u.
    r.same (r.repeat (tb.position u)) (r.repeat (tb.position v))
    && (r.counter (tb.position u) == r.counter (tb.position v))) (take i s)

unfoldable pub repeats_at : {P R M N E : Type 0} → Game P R M → Accessors P M N E → List N → Story P → ℕ → N → Bool
repeats_at r tb s g i v = is_earlier r tb s i v || (nat_lt 0 i && (is_root_again r tb s v || stands_often r tb s g v))

-- ---- ends that are not won

-- the game itself is ended by repetition or move count
abbrev pub is_cut : {P R M : Type 0} → Game P R M → Option Bool → Story P → Bool
is_cut r (Some won) g = false
is_cut r None g = repeated r g || run_out r (r.counter g.last)

unfoldable pub not_won : {P R M N E : Type 0} → Game P R M → Accessors P M N E → Story P → ℕ → N → Bool
not_won r tb g i v = ends_lost (node_end r tb v) || ((i == 0) && is_cut r (r.own g.last) g)

-- ---- the verdict

-- the first that is a fault
abbrev pub or_verdict : {M : Type 0} → Verdict M → Verdict M → Verdict M
or_verdict Wins later = later
or_verdict Root later = Root
or_verdict (WrongMove i) later = WrongMove i
or_verdict (MissingReply i m) later = MissingReply i m
or_verdict (BadRank i) later = BadRank i
or_verdict (BadCounter i) later = BadCounter i
or_verdict (Repeats i) later = Repeats i
or_verdict (NotWon i) later = NotWon i

abbrev pub fault_if : {M : Type 0} → Bool → Verdict M → Verdict M
fault_if true fault = fault
fault_if false fault = Wins

abbrev pub missing : {M : Type 0} → ℕ → Option M → Verdict M
missing i None = Wins
missing i (Some m) = MissingReply i m

-- the first fault of the node at the place i
unfoldable pub node_verdict : {P R M N E : Type 0} → Game P R M → Accessors P M N E → List N → Story P → ℕ → N
    → Verdict M
node_verdict r tb s g i v =
    or_verdict (fault_if (wrong_move r tb s v) (WrongMove i))
    (or_verdict (missing i (missing_reply r tb v))
    (or_verdict (fault_if (bad_rank r tb s v) (BadRank i))
    (or_verdict (fault_if (bad_counter r tb s v) (BadCounter i))
    (or_verdict (fault_if (repeats_at r tb s g i v) (Repeats i))
    (fault_if (not_won r tb g i v) (NotWon i))))))

-- the first fault of the nodes from the place i on
unfoldable pub nodes_verdict : {P R M N E : Type 0} → Game P R M → Accessors P M N E → List N → Story P → ℕ → List N
    → Verdict M
nodes_verdict r tb s g i [] = Wins
nodes_verdict r tb s g i (v ∷ vs) = or_verdict (node_verdict r tb s g i v) (nodes_verdict r tb s g (suc i) vs)

-- the verdict on a table for a win of the game within n moves: the root first, then the nodes in order. `is_for` says
-- that the strategy is one for the side that attacks.
unfoldable pub verdict : {P R M N E : Type 0} → Game P R M → Accessors P M N E → Bool → List N → Story P → ℕ → Verdict M
verdict r tb is_for s g n =
    or_verdict (fault_if (not (is_for && root_fits r tb s g n)) Root) (nodes_verdict r tb s g 0 s)

abbrev pub IsGood : {P R M N E : Type 0} → Game P R M → Accessors P M N E → Bool → List N → Story P → ℕ → Type 0
IsGood r tb is_for s g n = verdict r tb is_for s g n ≡ Wins

-- ---- the same in positive form

-- none of the faults stands at the node i
pub record IsFaultless (P R M N E : Type 0) (r : Game P R M) (tb : Accessors P M N E) (s : List N) (g : Story P) (i : ℕ)
    (v : N) : Type 0 where
  pub wrong_move : wrong_move r tb s v ≡ false
  pub missing_reply : missing_reply r tb v ≡ None
  pub bad_rank : bad_rank r tb s v ≡ false
  pub bad_counter : bad_counter r tb s v ≡ false
  pub repeats : repeats_at r tb s g i v ≡ false
  pub not_won : not_won r tb g i v ≡ false

pub record AreFaultless (P R M N E : Type 0) (r : Game P R M) (tb : Accessors P M N E) (s : List N) (g : Story P)
    (n : ℕ) : Type 0 where
  pub root : root_fits r tb s g n ≡ true
  pub nodes : (i : ℕ) (v : N) → slice_get s i ≡ Some v → IsFaultless P R M N E r tb s g i v
