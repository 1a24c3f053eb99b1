-- A game that is sought in a frame is found in its tree.
use Rattle.std.proofs.Common.{◌≡◌, ◌⊎◌, inl, inr, ℕ, ◌<◌, ◌==◌, Bool, true, false, ◌||◌, Some, None, cond, length, refl, ap, sym, ◌∙◌, subst, arith, slice_get}
use Rattle.std.proofs.lemmas.Bool.{eqb-true}
use Rattle.std.proofs.lemmas.Option.{slice_get_within}
use Rattle.rules_model.specs.declared.board.Position.{Position}
use Rattle.rules_model.specs.declared.board.Side.{Side}
use Rattle.rules_model.specs.declared.moves.Cause.{Cause}
use Rattle.rules_model.specs.declared.moves.Cause.TheVariants.{Repetition, MoveCount}
use Rattle.rules_model.specs.declared.moves.Outcome.{Outcome}
use Rattle.rules_model.specs.declared.moves.Outcome.TheVariants.{Ongoing, Won, Drawn}
use Rattle.rules_model.specs.declared.moves.Value.{Value}
use Rattle.rules_model.specs.declared.moves.Value.TheVariants.{Win, Loss, Draw}
use Rattle.rules_model.specs.Ends.{valued, or_end}
use Rattle.rules_model.specs.Games.{Story, result, is_repeated, is_run_out}
use Rattle.rules_model.specs.Legal.{own_end}
use Rattle.rules_model.specs.Repeats.{repeat_of}
use Rattle.rules_model.specs.Sides.{same_side}
use Rattle.forced_wins.specs.declared.fact.Fact.{Fact}
use Rattle.forced_wins.specs.Contests.{decided}
use Rattle.forced_wins.specs.Facts.{Says}
use Rattle.forced_wins.specs.Games as AnyGame
use Rattle.forced_wins.specs.Views.{won_by}
use Rattle.forced_wins.specs.Wins.{near, near_attack, near_defence, near_end, near_root, wins, blocked, IsInLimit}
use Rattle.forced_wins.proofs.Blocked.{wins-near-same}
use Rattle.forced_wins.proofs.Counts.{not_true, true_false}
use Rattle.forced_wins.proofs.FactLaws.{near-counter}
use Rattle.game_play.specs.Played.{Played, story}
use Rattle.mate_core.specs.declared.frame.Frame.{Frame}
use Rattle.mate_core.specs.Runs.{IsTrueIn}
use Rattle.mate_fact.specs.InFrame as In
use Rattle.pn_search.specs.declared.node.Node.{Node}
use Rattle.pn_search.specs.declared.numbers.Pair.{Pair}
use Rattle.pn_search.specs.Finds.{IsSought, IsFound, IsAt}
use Rattle.pn_search.specs.Meaning.{moves_win, root_pair, won_pair, lost_pair, PairDecides}
use Rattle.pn_search.specs.Numbers.{infinite, pair_at, pairs_of}
use Rattle.pn_search.specs.Trees.{ProofTree, HasGrown, end_at, is_settled, is_settled_pair, position_by, position_of}
use Rattle.pn_search.proofs.Carried.{length-pairs}
use Rattle.pn_search.proofs.Fair.{IsFair, fair_at, settled-won, settled-lost}
use Rattle.pn_search.proofs.Grown.{IsRooted, pn-rooted, position-is}
use Rattle.pn_search.proofs.Meaning.{Says as NodeSays, says, worth, worth-later}

-- ---- an ongoing game

ongoing-parts : (o l : Outcome) → or_end o l ≡ Ongoing → (o ≡ Ongoing) × (l ≡ Ongoing)
ongoing-parts Ongoing l h = (refl, h)
ongoing-parts (Won s c) l h = cc
ongoing-parts (Drawn c) l h = cc

valued-over : (v : Value) (s : Side) (c : Cause) → valued v s c ≡ Ongoing → ⊥
valued-over Win s c h = cc
valued-over Loss s c h = cc
valued-over Draw s c h = cc

not-run_out : (repeated run : Bool) (v : Value) (s : Side) → cond repeated (valued v s Repetition) (cond run (Drawn MoveCount) Ongoing) ≡ Ongoing → run ≡ false
not-run_out true run v s h = absurd (valued-over v s Repetition h)
not-run_out false true v s h = cc
not-run_out false false v s h = refl

pub sought-ongoing : (f : Frame) (g : Story) → result f.rules g ≡ Ongoing → end_at f 0 g.last ≡ None
unfolding result end_at near_end
sought-ongoing f g h =
    let parts = ongoing-parts (own_end f.rules (repeat_of g.last)) _ h in
    let run = not-run_out (is_repeated f.rules g) (is_run_out f.rules g.last.counter) f.rules.n_fold_value g.last.side parts.1 in
    ap (λ o. AnyGame.or_end (won_by f.attacker o) (AnyGame.lost_if (is_run_out f.rules g.last.counter))) parts.0
    ∙ ap AnyGame.lost_if run

-- ---- what the tree says of the game

near_root-moves : (f : Frame) (g : Story) (n : ℕ) → result f.rules g ≡ Ongoing → f.blocked ≡ blocked f.rules g → near_root f.rules n g f.attacker ≡ moves_win f n g.last
unfolding near_root
near_root-moves f g n h e =
    ap (λ o. decided (won_by f.attacker o) (cond (same_side g.last.side f.attacker) (near_attack f.rules n g.last (blocked f.rules g) f.attacker) (near_defence f.rules n g.last (blocked f.rules g) f.attacker))) h
    ∙ ap (λ b. cond (same_side g.last.side f.attacker) (near_attack f.rules n g.last b f.attacker) (near_defence f.rules n g.last b f.attacker)) (sym e)

wins-moves : (f : Frame) (g : Story) (n : ℕ) → result f.rules g ≡ Ongoing → f.blocked ≡ blocked f.rules g → IsInLimit f.rules n g → wins f.rules n g f.attacker ≡ moves_win f n g.last
wins-moves f g n h e limit = wins-near-same f.rules n g f.attacker limit ∙ near_root-moves f g n h e

either : (a b : Bool) → (a || b) ≡ true → (a ≡ true) ⊎ (b ≡ true)
either true b h = inl refl
either false true h = inr refl
either false false h = cc

settled-either : (q : Pair) → is_settled_pair q ≡ true → (q.proof ≡ infinite) ⊎ (q.disproof ≡ infinite)
settled-either q h = by_parts (either (q.proof == infinite) (q.disproof == infinite) h)
  where
    by_parts : ((q.proof == infinite) ≡ true) ⊎ ((q.disproof == infinite) ≡ true) → (q.proof ≡ infinite) ⊎ (q.disproof ≡ infinite)
    by_parts (inl e) = inl (eqb-true q.proof infinite e)
    by_parts (inr e) = inr (eqb-true q.disproof infinite e)

pub found-is : (g : Played) (f : Frame) (n : ℕ) (t : ProofTree) → IsSought g f n → t.frame ≡ f → t.root ≡ (story g).last → t.moves ≡ n → HasGrown t → PairDecides t → is_settled t ≡ true → IsFound g f n ((root_pair t).proof == 0) t
unfolding is_settled
found-is g f n t sought frame root moves grown decides settled = by_pair (settled-either (root_pair t) settled)
  where
    same : moves_win t.frame t.moves t.root ≡ wins g.rules n (story g) f.attacker
    same =
        ap (λ h. moves_win h t.moves t.root) frame ∙ ap (λ k. moves_win f k t.root) moves ∙ ap (moves_win f n) root
        ∙ sym (wins-moves f (story g) n
        (ap (λ r. result r (story g)) sought.frame.rules ∙ sought.ongoing)
        (sought.frame.blocked ∙ ap (λ r. blocked r (story g)) (sym sought.frame.rules))
        (subst (λ r. IsInLimit r n (story g)) (sym sought.frame.rules) sought.in_limit))
        ∙ ap (λ r. wins r n (story g) f.attacker) sought.frame.rules

    by : (q : Pair) (b : Bool) → root_pair t ≡ q → (q.proof == 0) ≡ b → q ≡ cond b won_pair lost_pair → moves_win t.frame t.moves t.root ≡ b → IsFound g f n ((root_pair t).proof == 0) t
    by q b is test pair win =
        let shown : ((root_pair t).proof == 0) ≡ b = ap (λ (x : Pair). x.proof == 0) is ∙ test in
        record {
          won_is = shown ∙ sym win ∙ same;
          frame = frame;
          root = root;
          moves = moves;
          grown = grown;
          pair = is ∙ pair ∙ ap (λ c. cond c won_pair lost_pair) (sym shown);
        }

    by_pair : ((root_pair t).proof ≡ infinite) ⊎ ((root_pair t).disproof ≡ infinite) → IsFound g f n ((root_pair t).proof == 0) t
    by_pair (inl e) = let p = decides.disproved e in by lost_pair false p refl refl (decides.lost p)
    by_pair (inr e) = let p = decides.proved e in by won_pair true p refl refl (decides.won p)

-- ---- facts

covers-says : (f : Frame) (k : Fact) (w : Bool) (p : Position) → k.repeat ≡ repeat_of p → k.counter ≡ p.counter → In.near_in f k.moves p ≡ w → Says f.rules f.blocked f.attacker k w
covers-says f k true p r c h = λ q e low. near-counter f.rules f.attacker f.blocked k.moves p q (e ∙ r) (omega (arith, low, c)) h
covers-says f k false p r c h = λ q e high.
    not_true (near f.rules k.moves q f.blocked f.attacker) (λ t. true_false _ (near-counter f.rules f.attacker f.blocked k.moves q p (sym r ∙ sym e) (omega (arith, high, c)) t) h)

-- a fact that says of the position what is so is true
fact-true : (f : Frame) (k : Fact) (p : Position) → k.repeat ≡ repeat_of p → k.counter ≡ p.counter → In.near_in f k.moves p ≡ k.wins → IsTrueIn f k
fact-true f k p r c h = covers-says f k k.wins p r c h

-- what a settled node says of its position
node-near : (t : ProofTree) → IsRooted t → (i : ℕ) (v : Node) (p : Position) → 0 < i → slice_get t.nodes i ≡ Some v → p ≡ position_of t i → is_settled_pair (pair_at (pairs_of t.nodes) i) ≡ true → In.near_in t.frame v.left p ≡ ((pair_at (pairs_of t.nodes) i).proof == 0)
node-near t r i v p some stands at settled = by_pair (settled-either q settled)
  where
    q : Pair
    q = pair_at (pairs_of t.nodes) i

    within : i < length t.nodes
    within = slice_get_within t.nodes i v stands

    s : NodeSays t.frame q i v.left (r.position i)
    s = says t.frame t.root t.moves t.nodes r (length t.nodes) i (omega arith) v stands

    near-is : In.near_in t.frame v.left p ≡ worth t.frame i v.left (r.position i)
    near-is = ap (In.near_in t.frame v.left) (at ∙ position-is t r i within) ∙ sym (worth-later t.frame i v.left (r.position i) some)

    fair : IsFair q
    fair = fair_at t.nodes i (let l = length-pairs t.nodes in let w = within in omega arith)

    by_pair : (q.proof ≡ infinite) ⊎ (q.disproof ≡ infinite) → In.near_in t.frame v.left p ≡ (q.proof == 0)
    by_pair (inl e) =
        let pair = settled-lost q fair e in
        near-is ∙ s.disproved (ap (λ (x : Pair). x.disproof) pair) ∙ sym (ap (λ (x : Pair). x.proof == 0) pair)
    by_pair (inr e) =
        let pair = settled-won q fair e in
        near-is ∙ s.proved (ap (λ (x : Pair). x.proof) pair) ∙ sym (ap (λ (x : Pair). x.proof == 0) pair)

pub known-true : (t : ProofTree) → IsRooted t → (i : ℕ) (v : Node) (p : Position) (k : Fact) → 0 < i → slice_get t.nodes i ≡ Some v → p ≡ position_of t i → is_settled_pair (pair_at (pairs_of t.nodes) i) ≡ true → k.repeat ≡ repeat_of p → k.counter ≡ p.counter → k.moves ≡ v.left → k.wins ≡ ((pair_at (pairs_of t.nodes) i).proof == 0) → IsTrueIn t.frame k
known-true t r i v p k some stands at settled repeat counter moves wins =
    fact-true t.frame k p repeat counter (ap (λ n. In.near_in t.frame n p) moves ∙ node-near t r i v p some stands at settled ∙ sym wins)

-- the root stands where it is
pub at-root : (t : ProofTree) (p : Position) → HasGrown t → p ≡ t.root → IsAt t 0 p
unfolding position_by
at-root t p g e = record { within = (pn-rooted t.frame t.root t.moves g.expansions t g.is).some; position = e }
