-- Workers that race beside each other: their passes, their lines, and their root.
use Rattle.std.proofs.Common.{◌≡◌, ℕ, zero, suc, ◌+◌, ◌-◌, ◌<◌, ◌≤◌, List, [], ◌∷◌, ◌++◌, length, Bool, Option, Some, None, slice_get, take, refl, ap, sym, ◌∙◌, subst, arith}
use Rattle.std.specs.List.{All, sum_by}
use Rattle.std.proofs.lemmas.Option.{slice_get_within}
use Rattle.forced_wins.proofs.Rules.{laws}
use Rattle.foundation.specs.Member.{Lists, Member}
use Rattle.game_play.specs.Played.{story}
use Rattle.legality.specs.Stance.{Stance, legal_in}
use Rattle.mate_core.specs.declared.frame.Frame.{Frame}
use Rattle.mate_settle.proofs.Lines.{lines-after, sum-more}
use Rattle.mate_settle.specs.Choices.{lines_of_moves}
use Rattle.mate_settle.specs.Lines.{lines_within, seen_in}
use Rattle.mate_fact.specs.InFrame.{left_after}
use Rattle.mate_shards.proofs.GrownLaws.{grown-onward}
use Rattle.mate_shards.proofs.PassLemmas.{all-from, some-at}
use Rattle.mate_shards.proofs.TurnLemmas.{all-at}
use Rattle.mate_shards.specs.Grown.{HaveGrown, HaveParts}
use Rattle.mate_shards.specs.Views.{ArePassesOf, ShardPass, ShardsView}
use Rattle.rules_model.specs.declared.board.Position.{Position}
use Rattle.rules_model.specs.Sides.{same_side}
use Rattle.mate_search.specs.Handed.{AreHandedBack}
use Rattle.mate_search.specs.Races.{IsReady, IsTaskOf, root_lines, root_of}
use Rattle.mate_search.specs.declared.race.Race.{Race}
use Rattle.mate_search.specs.declared.race.RootTask.{RootTask}

-- ---- passes

-- n parts as before, where both have m for some m
parts-kept : (before after : List ShardPass) (m n : ℕ) → length after ≡ length before → HaveParts m before → HaveParts m after → HaveParts n before → HaveParts n after
parts-kept before after m n count old new same = all-from (λ p. p.parts ≡ n) after (λ k y at.
    let w = slice_get_within after k y at in
    let x = some-at before k (omega arith) in
    all-at (λ p. p.parts ≡ m) after k y new at
    ∙ sym (all-at (λ p. p.parts ≡ m) before k x.0 old x.1)
    ∙ all-at (λ p. p.parts ≡ n) before k x.0 same x.1)

-- passes of which some were cut off for others, then used, and then joined with those of the others
pub handed-joined : (s : ShardsView) (a b c d : List ShardPass) (m k whole : ℕ) → HaveParts whole a → m ≤ whole → k ≡ m → HaveGrown a b → HaveParts (whole - m) b → AreHandedBack s b c → ArePassesOf s d → ((n : ℕ) → HaveParts n c → HaveParts (n + k) d) → HaveGrown c d → AreHandedBack s a d
handed-joined s a b c d m k whole all le e first parts handed are join last =
    let grown = grown-onward a c d (grown-onward a b c first handed.grown) last in
    let back : (whole - m) + k ≡ whole = omega (arith, le, e) in
    let old = subst (λ x. HaveParts x d) back (join (whole - m) (handed.parts (whole - m) parts)) in
    record { passes = are; parts = λ n same. parts-kept a d whole n grown.seen.count all old same; grown = grown }

left_at : {X : Type 0} (xs ys : List X) (i : ℕ) (x : X) → slice_get xs i ≡ Some x → slice_get (xs ++ ys) i ≡ Some x
left_at {X = X} [] ys i x e = absurd (let f : ◌≡◌ {A = Option X} None (Some x) = e in cc)
left_at (z ∷ xs) ys zero x e = e
left_at (z ∷ xs) ys (suc i) x e = left_at xs ys i x e

last_at : {X : Type 0} (xs : List X) (x : X) → slice_get (xs ++ x ∷ []) (length xs) ≡ Some x
last_at [] x = refl
last_at (z ∷ xs) x = last_at xs x

-- the last element was taken off
pub popped : {X : Type 0} (P : X → Type 0) (old new : List X) (x : X) → old ≡ new ++ x ∷ [] → All P old → All P new × P x
popped P old new x e all =
    let whole : All P (new ++ x ∷ []) = subst (All P) e all in
    (all-from P new (λ k y at. all-at P (new ++ x ∷ []) k y whole (left_at new (x ∷ []) k y at)), all-at P (new ++ x ∷ []) (length new) x whole (last_at new x))

-- ---- lines

-- a move that is left out
pub part-skip : {M : Type 0} (f : M → ℕ) (ms : List M) (i : ℕ) → i < length ms → sum_by f (take i ms) ≤ sum_by f (take (i + 1) ms)
part-skip f ms i within = let x = some-at ms i within in let s = sum-more f ms i x.0 x.1 in omega arith

-- the lines after the moves of a position are lines of the position
moves-within : (f : Frame) (a : Bool) (left n : ℕ) (p : Position) → same_side p.side f.attacker ≡ a → 0 < n → left ≡ left_after a n → lines_of_moves f left p ≤ lines_within (seen_in f) n p
moves-within f a left n p turn some e =
    let w = lines-after (seen_in f) (laws f.rules f.attacker) a p n turn (λ z. some) in
    let same : lines_of_moves f left p ≡ lines_of_moves f (left_after a n) p = ap (λ k. lines_of_moves f k p) e in
    omega arith

-- ---- the root of a race

module _ {G : Type 0} (race : Race G) (ready : IsReady race) where
  pub root-moves : (board : Stance) → board ≡ root_of race → Lists (λ m. Member m (legal_in board)) race.roots.now
  root-moves board is = subst (λ (b : Stance). Lists (λ m. Member m (legal_in b)) race.roots.now) (sym is) ready.roots

  module _ (f : Frame) (board : Stance) (kept : f ≡ race.shards.now.frame) (is : board ≡ root_of race) where
    pub root-rules : board.rules ≡ f.rules
    root-rules = ap (λ (b : Stance). b.rules) is ∙ sym ready.frame.rules ∙ sym (ap (λ (x : Frame). x.rules) kept)

    pub root-within : (task : RootTask) → IsTaskOf race task → lines_of_moves f task.left board.position ≤ root_lines race
    root-within task is_task =
        let h = race.shards.now.frame in
        let p = board.position in
        let last : p ≡ (story race.game.now).last = ap (λ (b : Stance). b.position) is in
        let turn : same_side p.side h.attacker ≡ task.attacking = ap (λ (q : Position). same_side q.side h.attacker) last ∙ sym is_task.attacking in
        let within = moves-within h task.attacking task.left race.n p turn ready.some is_task.left in
        let at : lines_within (seen_in h) race.n p ≡ lines_within (seen_in h) race.n (story race.game.now).last = ap (lines_within (seen_in h) race.n) last in
        let same : lines_of_moves f task.left p ≡ lines_of_moves h task.left p = ap (λ (x : Frame). lines_of_moves x task.left p) kept in
        omega (arith, within, at, same)
