-- Passes that are handed back, and the root's fact in them.
use Rattle.std.proofs.Common.{◌≡◌, ℕ, Bool, true, false, List, refl, ap, sym, ◌∙◌, arith}
use Rattle.std.specs.Prelude.{nat_le}
use Rattle.rules_model.specs.declared.board.Position.{Position}
use Rattle.rules_model.specs.Games.{Story}
use Rattle.rules_model.specs.Repeats.{repeat_of}
use Rattle.mate_core.proofs.AnswerLemmas.{serves-from}
use Rattle.mate_core.specs.declared.frame.Frame.{Frame}
use Rattle.mate_core.specs.Runs.{IsTrueIn}
use Rattle.mate_fact.specs.InFrame as In
use Rattle.forced_wins.specs.declared.fact.Fact.{Fact}
use Rattle.forced_wins.specs.Facts.{Says, covers, serves}
use Rattle.forced_wins.specs.Wins.{near, near_root, blocked, is_in}
use Rattle.forced_wins.proofs.Counts.{not_true, true_false}
use Rattle.forced_wins.proofs.FactLaws.{near-counter}
use Rattle.mate_shards.specs.Views.{ShardsView, ShardPass, ArePassesOf}
use Rattle.game_play.specs.Played.{Played, story}
use Rattle.mate_shards.proofs.AnswerLaws.{answer_or_full-stays}
use Rattle.mate_shards.proofs.GrownLaws.{grown-itself, grown-onward}
use Rattle.mate_showing.proofs.Root.{root-free}
use Rattle.mate_search.specs.Handed.{AreHandedBack, RootIsShared}

pub handed_none : (s : ShardsView) (ps : List ShardPass) → ArePassesOf s ps → AreHandedBack s ps ps
handed_none s ps are = record { passes = are; parts = λ n all. all; grown = grown-itself ps }

pub handed_more : (s : ShardsView) (a b c : List ShardPass) → AreHandedBack s a b → AreHandedBack s b c → AreHandedBack s a c
handed_more s a b c p q = record {
  passes = q.passes;
  parts = λ n all. q.parts n (p.parts n all);
  grown = grown-onward a b c p.grown q.grown;
}

-- what passes show of the root stays shown
pub shared_more : (s : ShardsView) (a b : List ShardPass) (game : Played) (n : ℕ) → AreHandedBack s a b → RootIsShared s a game n → RootIsShared s b game n
shared_more s a b game n handed shared = λ free.
    let (wins, seen) = shared free in
    (wins, answer_or_full-stays s a b handed.grown.seen wins (repeat_of (story game).last) (story game).last.counter n seen)

-- ---- a fact on a position

covers_own : (k : Fact) (w : Bool) (c n : ℕ) → k.moves ≡ n → k.counter ≡ c → covers k w c n ≡ true
covers_own k true c n m e =
    let few : nat_le k.moves n ≡ true = grind (arith, m) in let low : nat_le c k.counter ≡ true = grind (arith, e) in rw (few, low) refl
covers_own k false c n m e =
    let few : nat_le n k.moves ≡ true = grind (arith, m) in let low : nat_le k.counter c ≡ true = grind (arith, e) in rw (few, low) refl

-- it serves the query for which it was made
pub fact_serves : (k : Fact) (p : Position) (n : ℕ) → k.repeat ≡ repeat_of p → k.moves ≡ n → k.counter ≡ p.counter → serves k (repeat_of p) p.counter n ≡ true
fact_serves k p n r m c = serves-from k (repeat_of p) p.counter n r (covers_own k k.wins p.counter n m c)

says_at : (f : Frame) (k : Fact) (w : Bool) (p : Position) → k.repeat ≡ repeat_of p → k.counter ≡ p.counter → In.near_in f k.moves p ≡ w → Says f.rules f.blocked f.attacker k w
says_at f k true p r c h = λ q e low. near-counter f.rules f.attacker f.blocked k.moves p q (e ∙ r) (omega (arith, low, c)) h
says_at f k false p r c h = λ q e high.
    not_true (near f.rules k.moves q f.blocked f.attacker) (λ t. true_false _ (near-counter f.rules f.attacker f.blocked k.moves q p (sym r ∙ sym e) (omega (arith, high, c)) t) h)

-- and it is true where it is so
pub fact_true : (f : Frame) (k : Fact) (p : Position) (n : ℕ) → k.repeat ≡ repeat_of p → k.moves ≡ n → k.counter ≡ p.counter → In.near_in f n p ≡ k.wins → IsTrueIn f k
fact_true f k p n r m c h = says_at f k k.wins p r c (ap (λ x. In.near_in f x p) m ∙ h)

-- ---- the root

-- a root whose repeat is free is near where its position is
pub root-near : (f : Frame) (g : Story) (n : ℕ) (p : Position) → f.blocked ≡ blocked f.rules g → p ≡ g.last → is_in f.blocked (repeat_of p) ≡ false → In.near_in f n p ≡ near_root f.rules n g f.attacker
root-near f g n p bl e free = root-free f g bl n p (In.near_in f n p) e free refl
