-- How facts follow from those of the moves.
use Rattle.std.proofs.Common.{◌≡◌, ◌⊎◌, inl, inr, ℕ, zero, suc, ◌+◌, ◌<◌, ◌≤◌, List, [], ◌∷◌, take, Bool, true, false, not, if◌then◌else◌, nat_le, Option, Some, None, is_some, slice_get, refl, ap, sym, ◌∙◌, subst, arith, min, max}
use Rattle.std.proofs.lemmas.Bool.{and_parts, leb-true}
use Rattle.std.proofs.lemmas.Bool.Decides.{nat_tests}
use Rattle.std.specs.List.{find, list_all, sum_by}
use Rattle.std.specs.Option.{IfSome}
use mathlib.Core.Bool.{beq}
use Rattle.foundation.specs.Member.{Member, Lists}
use Rattle.foundation.specs.Tests.{is_nil}
use Rattle.rules_model.specs.declared.board.Position.{Position}
use Rattle.rules_model.specs.declared.moves.Move.{Move}
use Rattle.rules_model.specs.declared.rules.Rules.{Rules}
use Rattle.rules_model.specs.Legal.{legal}
use Rattle.rules_model.specs.Next.{next}
use Rattle.rules_model.specs.Repeats.{repeat_of}
use Rattle.rules_model.specs.Sides.{same_side}
use Rattle.rules_model.specs.Sound.{is_sound}
use Rattle.sound_play.proofs.SoundLaws.{position_parts}
use Rattle.forced_wins.specs.declared.fact.Fact.{Fact}
use Rattle.forced_wins.specs.Contests.{Contest}
use Rattle.forced_wins.specs.Facts.{Says, covers, serves, fact_of, smaller, WonNow, RefutedNow, EndedLost, OutOfMoves}
use Rattle.forced_wins.specs.Wins.{positions}
use Rattle.forced_wins.proofs.ClaimLaws as C
use Rattle.forced_wins.proofs.Counts.{by_cases, not_true, true_false, le_true, and_true}
use Rattle.forced_wins.proofs.ContestLaws.{all_intro, any_intro}
use Rattle.forced_wins.proofs.FactLaws.{near-more}
use Rattle.forced_wins.proofs.Rules.{laws}
use Rattle.forced_wins.proofs.TableLaws.{any_member, all_member}
use Rattle.mate_core.proofs.AnswerLemmas.{served, serves-from}
use Rattle.mate_core.specs.declared.frame.Frame.{Frame}
use Rattle.mate_core.specs.Runs.{IsTrueIn}
use Rattle.mate_fact.specs.InFrame as In
use Rattle.legality.specs.Stance.{Stance, after, legal_in}
use Rattle.mate_settle.specs.declared.choosing.WinningMove.{WinningMove}
use Rattle.mate_settle.specs.Choices.{some_wins, all_win, move_of, lines_of_turn}
use Rattle.mate_settle.specs.Lines.{plies, lines_within, lines_after, seen_in}
use Rattle.mate_settle.proofs.Lines.{part-more, turn-whole, plies-fall, left-small, same-lines}
use Rattle.mate_settle.specs.declared.told.Told.{Told}
use Rattle.mate_fact.specs.InFrame.{left_after}
use Rattle.mate_settle.specs.Steps.{farther_of, after_one, after_all, IsFar, Decides, NoneDecides}
use Rattle.mate_settle.specs.Tellings.{IsTold, told_of, told_of_end}

-- ---- what a fact that serves covers

le_of : (m n : ℕ) → nat_le m n ≡ true → m ≤ n
le_of m n h = leb-true m n h

pub record CoversAt (k : Fact) (w : Bool) (c n : ℕ) : Type 0 where
  pub won : w ≡ true → (k.moves ≤ n) × (c ≤ k.counter)
  pub lost : w ≡ false → (n ≤ k.moves) × (k.counter ≤ c)

pub covers-at : (k : Fact) (w : Bool) (c n : ℕ) → covers k w c n ≡ true → CoversAt k w c n
covers-at k true c n h = let p = and_parts _ _ h in record { won = λ e. (le_of _ _ p.0, le_of _ _ p.1); lost = λ e. absurd (let x = e in cc) }
covers-at k false c n h = let p = and_parts _ _ h in record { won = λ e. absurd (let x = e in cc); lost = λ e. (le_of _ _ p.0, le_of _ _ p.1) }

pub covers-from : (k : Fact) (w : Bool) (c n : ℕ) → CoversAt k w c n → covers k w c n ≡ true
covers-from k true c n h = let p = h.won refl in and_true _ _ (le_true _ _ p.0) (le_true _ _ p.1)
covers-from k false c n h = let p = h.lost refl in and_true _ _ (le_true _ _ p.0) (le_true _ _ p.1)

pub none-taken : {X : Type 0} (x : X) (ms : List X) → Member x (take 0 ms) → ⊥
none-taken x [] k = k
none-taken x (y ∷ ms) k = k

module _ (f : Frame) where
  abbrev N : ℕ → Position → Bool
  N n p = In.near_in f n p

  more : (k n : ℕ) (p : Position) → k ≤ n → N k p ≡ true → N n p ≡ true
  more k n p = near-more f.rules f.attacker f.blocked k n p

  fewer : (k n : ℕ) (p : Position) → k ≤ n → N n p ≡ false → N k p ≡ false
  fewer k n p h e = not_true (N k p) (λ t. true_false _ (more k n p h t) e)

  says_own : (w : Bool) (k : Fact) (q : Position) (n : ℕ) → Says f.rules f.blocked f.attacker k w → k.repeat ≡ repeat_of q → CoversAt k w q.counter n → N k.moves q ≡ w
  says_own true k q n s e c = s q (sym e) (c.won refl).1
  says_own false k q n s e c = s q (sym e) (c.lost refl).1

  says_at : (w : Bool) (k : Fact) (q : Position) (n : ℕ) → N k.moves q ≡ w → CoversAt k w q.counter n → N n q ≡ w
  says_at true k q n h c = more k.moves n q (c.won refl).0 h
  says_at false k q n h c = fewer n k.moves q (c.lost refl).0 h

  -- what a true fact says of a position for which it answers
  pub record SaysOf (k : Fact) (q : Position) (n : ℕ) : Type 0 where
    pub same : k.repeat ≡ repeat_of q
    pub covers : CoversAt k k.wins q.counter n
    pub own : N k.moves q ≡ k.wins
    pub asked : N n q ≡ k.wins

  pub told : (k : Fact) (q : Position) (n : ℕ) → IsTrueIn f k → serves k (repeat_of q) q.counter n ≡ true → SaysOf k q n
  told k q n t s =
      let p = served k (repeat_of q) q.counter n s in
      let c = covers-at k k.wins q.counter n p.1 in
      let own = says_own k.wins k q n t p.0 c in
      record { same = p.0; covers = c; own = own; asked = says_at k.wins k q n own c }

  -- ---- what is told

  -- by a true fact that answers
  pub tells : (k : Fact) (q : Position) (n : ℕ) → IsTrueIn f k → serves k (repeat_of q) q.counter n ≡ true → IsTold f q n (told_of k)
  tells k q n t s = let said = told k q n t s in record { own = said.own; won = λ e. (said.covers.won e).0; lost = λ e. (said.covers.lost e).0 }

  asked_of : (w : Bool) (k n : ℕ) (q : Position) → N k q ≡ w → (w ≡ true → k ≤ n) → (w ≡ false → n ≤ k) → N n q ≡ w
  asked_of true k n q own won lost = more k n q (won refl) own
  asked_of false k n q own won lost = fewer n k q (lost refl) own

  -- it answers the question
  pub told-asked : (q : Position) (n : ℕ) (t : Told) → IsTold f q n t → N n q ≡ t.wins
  told-asked q n t is = asked_of t.wins t.moves n q is.own is.won is.lost

  abbrev G : Contest Position Move
  G = positions f.rules f.blocked f.attacker

  -- of an ended position, by its end
  pub told-ended : (q : Position) (n : ℕ) (won : Bool) → n ≤ 65535 → In.end_in f q ≡ Some won → IsTold f q n (told_of_end won)
  told-ended q n true small e = record { own = C.forced-ended G 0 q true e; won = λ w. omega arith; lost = λ w. absurd (let x = w in cc) }
  told-ended q n false small e = record { own = C.forced-ended G 65535 q false e; won = λ w. absurd (let x = w in cc); lost = λ w. small }

  -- by one move that decides
  one_decides : (a : Bool) (k : ℕ) (p : Position) (m : Move) → Decides f p a k m → N (after_one a k) p ≡ a
  one_decides true k p m d =
      let one_more : k + 1 ≡ suc k = omega arith in
      ap (λ z. N z p) one_more
      ∙ C.forced-attack G (laws f.rules f.attacker).turns k p d.ongoing d.turn
      ∙ any_intro (λ x. N k (next f.rules p x)) m (In.legal_in f p) d.legal d.after
  one_decides false k p m d =
      let wins : Move → Bool = λ x. N k (next f.rules p x) in
      let fails : list_all wins (In.legal_in f p) ≡ false = not_true (list_all wins (In.legal_in f p)) (λ t. true_false _ (all_member wins (In.legal_in f p) t m d.legal) d.after) in
      C.forced-defence G (laws f.rules f.attacker).turns k p d.ongoing d.turn ∙ fails

  one_won : (a : Bool) (n : ℕ) (q : Position) (t : Told) → IsTold f q (left_after a n) t → t.wins ≡ a → (a ≡ true → 0 < n) → a ≡ true → after_one a t.moves ≤ n
  one_won true n q t is e some w = let few = is.won e in let z = some refl in omega arith
  one_won false n q t is e some w = absurd (let x = w in cc)

  one_lost : (a : Bool) (n : ℕ) (q : Position) (t : Told) → IsTold f q (left_after a n) t → t.wins ≡ a → a ≡ false → n ≤ after_one a t.moves
  one_lost true n q t is e w = absurd (let x = w in cc)
  one_lost false n q t is e w = let many = is.lost e in omega arith

  pub told-one : (a : Bool) (n : ℕ) (p q : Position) (m : Move) (t : Told) → Decides f p a t.moves m → IsTold f q (left_after a n) t → t.wins ≡ a → (a ≡ true → 0 < n) → IsTold f p n (record { wins = a; moves = after_one a t.moves })
  told-one a n p q m t d is e some = record {
    own = one_decides a t.moves p m d;
    won = one_won a n q t is e some;
    lost = one_lost a n q t is e;
  }

  pub told-short : (a : Bool) (n : ℕ) (q : Position) (t : Told) → IsTold f q (left_after a n) t → t.wins ≡ a → n ≤ 1000 → a ≡ true → t.moves < 65535
  told-short a n q t is e small w = let few = is.won (e ∙ w) in let left = left-small a n in omega arith

  -- ---- none of the first moves decides

  pub none-first : (p : Position) (a : Bool) (far : ℕ) (ms : List Move) → NoneDecides f p a far (take 0 ms)
  none-first p a far ms = record { each = λ m k. absurd (none-taken m ms k) }

  pub far-more : (a : Bool) (left far : ℕ) (k : Told) (q : Position) → IsFar a left far → IsTold f q left k → k.wins ≡ not a → IsFar a left (farther_of a far k.moves)
  far-more true left far k q h t e = let c = t.lost e in omega arith
  far-more false left far k q h t e = let c = t.won e in omega arith

  near_farther : (a : Bool) (far k : ℕ) (q : Position) → N far q ≡ not a → N (farther_of a far k) q ≡ not a
  near_farther true far k q h = fewer (min far k) far q (omega arith) h
  near_farther false far k q h = more far (max far k) q (omega arith) h

  near_nearer : (a : Bool) (far k : ℕ) (q : Position) → N k q ≡ not a → N (farther_of a far k) q ≡ not a
  near_nearer true far k q h = fewer (min far k) k q (omega arith) h
  near_nearer false far k q h = more k (max far k) q (omega arith) h

-- ---- lists that are gone through

pub member-at : {X : Type 0} (ms : List X) (i : ℕ) (x : X) → slice_get ms i ≡ Some x → Member x ms
member-at [] i x h = cc
member-at (y ∷ ms) zero x h = inl (let e : ◌≡◌ {A = Option _} (Some y) (Some x) = h in cc)
member-at (y ∷ ms) (suc i) x h = inr (member-at ms i x h)

pub take-more : {X : Type 0} (ms : List X) (i : ℕ) (x y : X) → slice_get ms i ≡ Some x → Member y (take (suc i) ms) → Member y (take i ms) ⊎ (x ≡ y)
take-more [] i x y h k = cc
take-more (z ∷ ms) zero x y h (inl e) = inr (let u : ◌≡◌ {A = Option _} (Some z) (Some x) = h in cc)
take-more (z ∷ ms) zero x y h (inr k) = absurd (none-taken y ms k)
take-more (z ∷ ms) (suc i) x y h (inl e) = inl (inl e)
take-more (z ∷ ms) (suc i) x y h (inr k) = widen (take-more ms i x y h k)
  where
    widen : Member y (take i ms) ⊎ (x ≡ y) → Member y (take (suc i) (z ∷ ms)) ⊎ (x ≡ y)
    widen (inl m) = inl (inr m)
    widen (inr e) = inr e

pub each-more : {X : Type 0} {Q : X → Type 0} (ms : List X) (i : ℕ) (x : X) → slice_get ms i ≡ Some x → ((y : X) → Member y (take i ms) → Q y) → Q x → (y : X) → Member y (take (i + 1) ms) → Q y
each-more {X = X} {Q = Q} ms i x h f q y k = cases (take-more ms i x y h (subst (λ j. Member y (take j ms)) one k))
  where
    one : i + 1 ≡ suc i
    one = omega arith

    cases : Member y (take i ms) ⊎ (x ≡ y) → Q y
    cases (inl m) = f y m
    cases (inr e) = subst Q e q

-- the first that passes a test
module _ {X : Type 0} (test : X → Bool) where
  pub find-none : (xs : List X) → ((x : X) → Member x xs → test x ≡ false) → find test xs ≡ None
  find-none [] h = refl
  find-none (x ∷ xs) h = rw (h x (inl refl)) (find-none xs (λ y m. h y (inr m)))

  pub find-at : (xs : List X) (i : ℕ) (x : X) → slice_get xs i ≡ Some x → ((y : X) → Member y (take i xs) → test y ≡ false) → test x ≡ true → find test xs ≡ Some x
  find-at [] i x at h passes = cc
  find-at (y ∷ xs) zero x at h passes = let same : y ≡ x = (let e : ◌≡◌ {A = Option _} (Some y) (Some x) = at in cc) in rw (same, passes)
  find-at (y ∷ xs) (suc i) x at h passes = rw (h y (inl refl)) (find-at xs i x at (λ z m. h z (inr m)) passes)

  -- what is found, and what is not
  pub find-none-back : (xs : List X) → find test xs ≡ None → (x : X) → Member x xs → test x ≡ false
  find-none-back [] h x k = absurd k
  find-none-back (y ∷ ys) h x (inl e) = by_cases (test y) (λ t. absurd (let n = rw t at h in cc)) (λ t. cc)
  find-none-back (y ∷ ys) h x (inr k) = by_cases (test y) (λ t. absurd (let n = rw t at h in cc)) (λ t. find-none-back ys (rw t at h) x k)

  pub find-some-back : (xs : List X) (x : X) → find test xs ≡ Some x → Member x xs × (test x ≡ true)
  find-some-back [] x h = absurd (let e = h in cc)
  find-some-back (y ∷ ys) x h = by_cases (test y)
      (λ t. let same : y ≡ x = (let e : ◌≡◌ {A = Option _} (Some y) (Some x) = rw t at h in cc) in (inl same, subst (λ z. test z ≡ true) same t))
      (λ t. let later = find-some-back ys x (rw t at h) in (inr later.0, later.1))

module _ (f : Frame) (p : Position) where
  pub none-more : (a : Bool) (far i : ℕ) (ms : List Move) (x : Move) (k : Told) (left : ℕ) → slice_get ms i ≡ Some x → NoneDecides f p a far (take i ms) → IsTold f (next f.rules p x) left k → k.wins ≡ not a → NoneDecides f p a (farther_of a far k.moves) (take (i + 1) ms)
  none-more a far i ms x k left h n t e = record {
    each = each-more {Q = λ m. In.near_in f (farther_of a far k.moves) (next f.rules p m) ≡ not a} ms i x h
        (λ m is. near_farther f a far k.moves (next f.rules p m) (n.each m is))
        (near_nearer f a far k.moves (next f.rules p x) (t.own ∙ e));
  }

  pub none-all : (a : Bool) (far : ℕ) (ms : List Move) → Lists (λ m. Member m (In.legal_in f p)) ms → NoneDecides f p a far ms → NoneDecides f p a far (In.legal_in f p)
  none-all a far ms all n = record { each = λ m is. n.each m (all.complete m is) }

  -- what all moves come to answers the question
  pub each-answers : (a : Bool) (left far n : ℕ) → IsFar a left far → n ≤ 1000 → left ≡ left_after a n → serves (fact_of p f.attacker (after_all a far) None (not a)) (repeat_of p) p.counter n ≡ true
  each-answers a left far n h small e =
      let x = fact_of p f.attacker (after_all a far) None (not a) in
      serves-from x (repeat_of p) p.counter n refl (covers-from x (not a) p.counter n (by_side a h e))
    where
      enough : n ≤ far + 1 → n ≤ smaller (far + 1) 65535
      enough k = grind (arith, nat_tests, k, small)

      by_side : (a : Bool) → IsFar a left far → left ≡ left_after a n → CoversAt (fact_of p f.attacker (after_all a far) None (not a)) (not a) p.counter n
      by_side true h e = record { won = λ x. absurd (let y = x in cc); lost = λ x. (enough (omega arith), omega arith) }
      by_side false h e = record { won = λ x. (omega arith, omega arith); lost = λ x. absurd (let y = x in cc) }

-- ---- tests

pub same_bool-from : (w a : Bool) → beq w a ≡ true → w ≡ a
same_bool-from true true f = refl
same_bool-from true false f = cc
same_bool-from false true f = cc
same_bool-from false false f = refl

pub not_same : (w a : Bool) → beq w a ≡ false → w ≡ not a
not_same true true f = cc
not_same true false f = refl
not_same false true f = refl
not_same false false f = cc

pub not-true : (w : Bool) → not w ≡ true → w ≡ false
not-true true e = cc
not-true false e = refl

pub not-false : (w : Bool) → not w ≡ false → w ≡ true
not-false true e = refl
not-false false e = cc

pub is_none : {X : Type 0} (o : Option X) → ((x : X) → o ≡ Some x → ⊥) → o ≡ None
is_none None f = refl
is_none (Some x) f = absurd (f x refl)

-- ---- ends

module _ (f : Frame) (p : Position) (n : ℕ) where
  pub won-answers : (o : Option Fact) → p.counter ≤ 9999 → IfSome o (WonNow f.rules f.blocked f.attacker p) → IfSome o (λ k. serves k (repeat_of p) p.counter n ≡ true)
  won-answers None low w = tt
  won-answers (Some k) low w =
      let x = record (fact_of p f.attacker 0 None true) { counter = 9999 } in
      let e : serves x (repeat_of p) p.counter n ≡ true = serves-from x (repeat_of p) p.counter n refl (covers-from x true p.counter n (record { won = λ y. (omega arith, low); lost = λ y. absurd (let z = y in cc) })) in
      subst (λ y. serves y (repeat_of p) p.counter n ≡ true) (sym w.is) e

  lost_at : (moves : ℕ) → n ≤ moves → serves (fact_of p f.attacker moves None false) (repeat_of p) p.counter n ≡ true
  lost_at moves few =
      let x = fact_of p f.attacker moves None false in
      serves-from x (repeat_of p) p.counter n refl (covers-from x false p.counter n (record { won = λ y. absurd (let z = y in cc); lost = λ y. (few, omega arith) }))

  pub lost-answers : (o : Option Fact) → n ≤ 65535 → (In.end_in f p ≡ None → n ≡ 0) → IfSome o (RefutedNow f.rules f.blocked f.attacker p) → IfSome o (λ k. serves k (repeat_of p) p.counter n ≡ true)
  lost-answers None few last w = tt
  lost-answers (Some k) few last w = by_end w.is
    where
      by_end : EndedLost f.rules f.blocked f.attacker p k ⊎ OutOfMoves f.rules f.blocked f.attacker p k → serves k (repeat_of p) p.counter n ≡ true
      by_end (inl e) = subst (λ y. serves y (repeat_of p) p.counter n ≡ true) (sym e.1) (lost_at 65535 few)
      by_end (inr e) = let z = last e.0 in subst (λ y. serves y (repeat_of p) p.counter n ≡ true) (sym e.2) (lost_at 0 (omega arith))

pub counter-low : (rules : Rules) (p : Position) → is_sound rules p ≡ true → p.counter ≤ 9999
counter-low rules p h = (position_parts rules p h).1.counter

-- ---- as the loops read them

-- the position after the move that is read
pub after-is : (rules : Rules) (f : Frame) (s t : Stance) (m : Move) → s.rules ≡ f.rules → t ≡ after s m → t.position ≡ next f.rules s.position m
after-is rules f s t m e d = ap (λ (x : Stance). x.position) d ∙ ap (λ (x : Rules). next x s.position m) e

pub moves-of : (f : Frame) (s : Stance) (ms : List Move) → s.rules ≡ f.rules → Lists (λ m. Member m (legal_in s)) ms → Lists (λ m. Member m (In.legal_in f s.position)) ms
moves-of f s ms e all = subst (λ (x : Rules). Lists (λ m. Member m (legal x (repeat_of s.position))) ms) e all

-- the same move in the same position of the same frame
pub decides-moved : (f g : Frame) (p q : Position) (a : Bool) (k : ℕ) (m : Move) → g ≡ f → q ≡ p → Decides f p a k m → Decides g q a k m
decides-moved f g p q a k m e d h = subst (λ (x : Frame). Decides x q a k m) (sym e) (subst (λ (y : Position). Decides f y a k m) (sym d) h)

-- a legal move after which the position is as the side to move wants it decides
pub decides-by : (f : Frame) (s : Stance) (m : Move) (a : Bool) (n : ℕ) (t : Told) → s.rules ≡ f.rules → In.end_in f s.position ≡ None → same_side s.position.side f.attacker ≡ a → Member m (legal_in s) → IsTold f (after s m).position n t → t.wins ≡ a → Decides f s.position a t.moves m
decides-by f s m a n t rules on turn is told wins = record {
  ongoing = on;
  turn = turn;
  legal = subst (λ (x : Rules). Member m (legal x (repeat_of s.position))) rules is;
  after = subst (λ (q : Position). In.near_in f t.moves q ≡ a) (after-is f.rules f s (after s m) m rules refl) (told.own ∙ wins);
}

-- a position is won, or is not, as is asked
pub as-asked : (won w : Bool) → w ≡ won → (if won then w else not w) ≡ true
as-asked true w e = e
as-asked false w e = ap not e

pub not-asked : (won w : Bool) → w ≡ not won → (if won then w else not w) ≡ false
not-asked true w e = e
not-asked false w e = ap not e

pub none-moved : (f g : Frame) (p q : Position) (a : Bool) (far : ℕ) → g ≡ f → q ≡ p → NoneDecides f p a far (In.legal_in f p) → NoneDecides g q a far (In.legal_in g q)
none-moved f g p q a far e d h = subst (λ x. NoneDecides x q a far (In.legal_in x q)) (sym e) (subst (λ y. NoneDecides f y a far (In.legal_in f y)) (sym d) h)

pub serves-as : (f g : Frame) (p q : Position) (k : Fact) (moves n : ℕ) (best : Option Move) (w : Bool) → g ≡ f → q ≡ p → k ≡ fact_of q g.attacker moves best w → serves (fact_of p f.attacker moves best w) (repeat_of p) p.counter n ≡ true → serves k (repeat_of p) p.counter n ≡ true
serves-as f g p q k moves n best w e d is h =
    let same : k ≡ fact_of p f.attacker moves best w = is ∙ (λ i. fact_of (d i) (e i).attacker moves best w) in
    subst (λ x. serves x (repeat_of p) p.counter n ≡ true) (sym same) h

-- ---- a turn over one of the moves of a position

-- the frame that is kept, and the move that is read
pub record IsTurn (f kept : Frame) (s t : Stance) (ms : List Move) (a : Bool) (left n i : ℕ) (x : Move) : Type 0 where
  pub kept_is : kept ≡ f
  pub position_is : t.position ≡ next f.rules s.position x
  pub read : slice_get ms i ≡ Some x
  pub all : Lists (λ m. Member m (In.legal_in f s.position)) ms
  pub turn : same_side s.position.side f.attacker ≡ a
  pub some : a ≡ true → 0 < n
  pub left_is : left ≡ left_after a n

module _ (f kept : Frame) (s t : Stance) (ms : List Move) (a : Bool) (left n i : ℕ) (x : Move) where
  pub turn-at : s.rules ≡ f.rules → t ≡ after s x → kept ≡ f → slice_get ms i ≡ Some x → Lists (λ m. Member m (legal_in s)) ms → same_side s.position.side f.attacker ≡ a → (a ≡ true → 0 < n) → left ≡ left_after a n → IsTurn f kept s t ms a left n i x
  turn-at rules moved same at all turn some is = record {
    kept_is = same;
    position_is = after-is f.rules f s t x rules moved;
    read = at;
    all = moves-of f s ms rules all;
    turn = turn;
    some = some;
    left_is = is;
  }

module _ {f kept : Frame} {s t : Stance} {ms : List Move} {a : Bool} {left n i : ℕ} {x : Move} (u : IsTurn f kept s t ms a left n i x) where
  lines_same : lines_within (seen_in kept) left t.position ≡ lines_after (seen_in f) left s.position x
  lines_same = same-lines kept f t.position (next f.rules s.position x) left u.kept_is u.position_is

  -- the lines so far, and those of the move
  abbrev turn_lines : ℕ
  turn_lines = sum_by (lines_after (seen_in f) left s.position) (take i ms) + lines_within (seen_in kept) left t.position

  pub turn-lines : turn_lines ≤ sum_by (lines_after (seen_in f) left s.position) (take (i + 1) ms)
  turn-lines = part-more (seen_in f) s.position left ms i x _ u.read lines_same

  pub turn-ends : turn_lines ≤ lines_of_turn f n s.position
  turn-ends =
      let more = turn-lines in
      let whole = turn-whole f s.position ms a left n (i + 1) u.turn u.left_is u.all in
      omega arith

  pub turn-falls : plies (seen_in kept) left t.position < plies (seen_in f) n s.position
  turn-falls =
      let r = seen_in f in
      let after_it = plies-fall r (laws f.rules f.attacker) a s.position x n u.turn u.some in
      let of_left = subst (λ k. plies r k (next f.rules s.position x) < plies r n s.position) (sym u.left_is) after_it in
      let of_position = subst (λ y. plies r left y < plies r n s.position) (sym u.position_is) of_left in
      subst (λ (y : Frame). plies (seen_in y) left t.position < plies r n s.position) (sym u.kept_is) of_position

  pub turn-told : (k : Told) → IsTold kept t.position left k → IsTold f (next f.rules s.position x) left k
  turn-told k is = subst (λ (g : Frame). IsTold g (next f.rules s.position x) left k) u.kept_is (subst (λ (q : Position). IsTold kept q left k) u.position_is is)

-- ---- what the moves come to

module _ (f : Frame) (n : ℕ) (p : Position) (ms : List Move) (all : Lists (λ m. Member m (In.legal_in f p)) ms) where
  abbrev won : Move → Bool
  won m = In.near_in f n (next f.rules p m)

  pub none-wins : ((m : Move) → Member m ms → won m ≡ false) → some_wins f n p ≡ false
  none-wins h = not_true (some_wins f n p) (λ t.
      let u = any_member won (In.legal_in f p) t in true_false (won u.0) u.2 (h u.0 (all.complete u.0 u.1)))

  pub each-wins : ((m : Move) → Member m ms → won m ≡ true) → all_win f n p ≡ true
  each-wins h = all_intro won (In.legal_in f p) (λ m k. h m (all.complete m k))

  pub one-fails : (m : Move) → Member m (In.legal_in f p) → won m ≡ false → all_win f n p ≡ false
  one-fails m k e = not_true (all_win f n p) (λ t. true_false (won m) (all_member won (In.legal_in f p) t m k) e)

  -- the first that is won, and the first that is not
  pub none-found : (o : Option WinningMove) → move_of o ≡ find won ms → o ≡ None → some_wins f n p ≡ false
  none-found o first e = none-wins (find-none-back won ms (sym first ∙ ap move_of e))

  pub none-lost : (o : Option WinningMove) → move_of o ≡ find (λ m. not (won m)) ms → not (is_some o) ≡ all_win f n p
  none-lost None first = sym (each-wins (λ m k. not-false (won m) (find-none-back (λ m. not (won m)) ms (sym first) m k)))
  none-lost (Some c) first =
      let back = find-some-back (λ m. not (won m)) ms c.chosen (sym first) in
      sym (one-fails c.chosen (all.sound c.chosen back.0) (not-true (won c.chosen) back.1))

-- where some move is listed, some move is legal
pub some-listed : (legal ms : List Move) → Lists (λ m. Member m legal) ms → is_nil ms ≡ is_nil legal
some-listed [] [] all = refl
some-listed [] (y ∷ ms) all = absurd (all.sound y (inl refl))
some-listed (x ∷ legal) [] all = absurd (all.complete x (inl refl))
some-listed (x ∷ legal) (y ∷ ms) all = refl
