-- The lists of legal moves in turn, each once.
use Rattle.std.proofs.Common.{◌≡◌, inl, inr, ℕ, zero, suc, ◌-◌, ◌<◌, false, List, [], ◌∷◌, map, length, refl, ap, sym, ◌∙◌, subst, arith}
use Rattle.std.specs.List.{flat_map, sum_by}
use Rattle.foundation.specs.Member.{Member, IsEachOnce, Lists}
use Rattle.foundation.proofs.Members.{member-map, map-member, member-flat_map, flat_map-member, once-append}
use Rattle.rules_model.specs.declared.board.Position.{Position}
use Rattle.rules_model.specs.declared.moves.Move.{Move}
use Rattle.rules_model.specs.declared.rules.Rules.{Rules}
use Rattle.rules_model.specs.Ends.{is_ongoing}
use Rattle.rules_model.specs.Legal.{legal, own_end}
use Rattle.rules_model.specs.Next.{next}
use Rattle.rules_model.specs.Repeats.{repeat_of}
use Rattle.rules_model.proofs.LegalLaws.{legal-once}
use Rattle.rules_model.proofs.PlayLaws.{legal-ended}
use Rattle.rules_model.proofs.ResultLaws.{are_legal-none, are_legal-more}
use Rattle.game_play.specs.Perft.{lines, perft, IsLine}
use Rattle.game_play.proofs.PerftLemmas.{perft-more}

-- ---- each once

once-map : {X Y : Type 0} (f : X → Y) → ((x y : X) → f x ≡ f y → x ≡ y) → (xs : List X) → IsEachOnce xs → IsEachOnce (map f xs)
once-map f same [] h = tt
once-map f same (x ∷ xs) h =
    (λ m. let k = map-member f (f x) xs m in h.0 (subst (λ y. Member y xs) (same k.0 x k.2) k.1), once-map f same xs h.1)

once-flat_map : {X Y : Type 0} (f : X → List Y) → ((x : X) → IsEachOnce (f x)) → ((x y : X) (z : Y) → Member z (f x) → Member z (f y) → x ≡ y) → (xs : List X) → IsEachOnce xs → IsEachOnce (flat_map f xs)
once-flat_map f each apart [] h = tt
once-flat_map f each apart (x ∷ xs) h =
    once-append (f x) (flat_map f xs) (each x) (once-flat_map f each apart xs h.1)
    (λ z m n. let k = flat_map-member f z xs n in h.0 (subst (λ y. Member y xs) (sym (apart x k.0 z m k.2)) k.1))

-- ---- lines

head-same : (m n : Move) (ms ns : List Move) → m ∷ ms ≡ n ∷ ns → m ≡ n
head-same m n ms ns e = cc

tail-same : (m : Move) (ms ns : List Move) → m ∷ ms ≡ m ∷ ns → ms ≡ ns
tail-same m ms ns e = cc

no-moves : (ms : List Move) → length ms ≡ 0 → ms ≡ []
no-moves [] e = refl
no-moves (m ∷ ms) e = absurd (omega arith)

module _ (rules : Rules) where
  abbrev begun_by : ℕ → Position → Move → List (List Move)
  begun_by n p m = map (λ ms. m ∷ ms) (lines rules n (next rules p m))

  abbrev Counted : ℕ → Position → Type 0
  Counted n p = Lists (IsLine rules n p) (lines rules n p)

  none-counted : (p : Position) → Counted 0 p
  unfolding lines
  none-counted p = record {
    once = (λ m. absurd m, tt);
    sound = λ ms m. elim m as (λ _. IsLine rules 0 p ms) [ inl e ↦ subst (IsLine rules 0 p) e (record { long = refl; legal_moves = are_legal-none rules p }) | inr k ↦ absurd k ];
    complete = λ ms h. inl (sym (no-moves ms h.long));
  }

  line-sound : (n : ℕ) (p : Position) → ((q : Position) → Counted n q) → (ms : List Move) → Member ms (flat_map (begun_by n p) (legal rules (repeat_of p))) → IsLine rules (suc n) p ms
  line-sound n p before ms m =
      let k = flat_map-member (begun_by n p) ms (legal rules (repeat_of p)) m in
      let l = map-member (λ rest. k.0 ∷ rest) ms (lines rules n (next rules p k.0)) k.2 in
      let rest = (before (next rules p k.0)).sound l.0 l.1 in
      subst (IsLine rules (suc n) p) l.2 (record { long = ap suc rest.long; legal_moves = (are_legal-more rules p k.0 l.0).1 (k.1, rest.legal_moves) })

  line-complete : (n : ℕ) (p : Position) → ((q : Position) → Counted n q) → (ms : List Move) → IsLine rules (suc n) p ms → Member ms (flat_map (begun_by n p) (legal rules (repeat_of p)))
  line-complete n p before [] h = let e = h.long in absurd (omega arith)
  line-complete n p before (m ∷ ms) h =
      let k = (are_legal-more rules p m ms).0 h.legal_moves in
      let long : length ms ≡ n = let e = h.long in omega arith in
      let there = (before (next rules p m)).complete ms (record { long = long; legal_moves = k.1 }) in
      member-flat_map (begun_by n p) (m ∷ ms) m (legal rules (repeat_of p)) k.0 (member-map (λ rest. m ∷ rest) ms (lines rules n (next rules p m)) there)

  line-apart : (n : ℕ) (p : Position) (x y : Move) (z : List Move) → Member z (begun_by n p x) → Member z (begun_by n p y) → x ≡ y
  line-apart n p x y z a b =
      let k = map-member (λ rest. x ∷ rest) z (lines rules n (next rules p x)) a in
      let l = map-member (λ rest. y ∷ rest) z (lines rules n (next rules p y)) b in
      head-same x y k.0 l.0 (k.2 ∙ sym l.2)

  pub lines-counted : (n : ℕ) (p : Position) → Counted n p
  unfolding lines
  lines-counted zero p = none-counted p
  lines-counted (suc n) p = record {
    once = once-flat_map (begun_by n p) (λ m. once-map (λ rest. m ∷ rest) (tail-same m) (lines rules n (next rules p m)) (lines-counted n (next rules p m)).once) (line-apart n p) (legal rules (repeat_of p)) (legal-once rules (repeat_of p));
    sound = line-sound n p (lines-counted n);
    complete = line-complete n p (lines-counted n);
  }

pub lines-all : (rules : Rules) (n : ℕ) (p : Position) → Lists (IsLine rules n p) (lines rules n p)
lines-all rules n p = lines-counted rules n p

pub perft-is : (rules : Rules) (n : ℕ) (p : Position) → perft rules n p ≡ length (lines rules n p)
unfolding perft
perft-is rules n p = refl

-- a position that is ended by itself has no line
pub perft-ended : (rules : Rules) (n : ℕ) (p : Position) → 0 < n → is_ongoing (own_end rules (repeat_of p)) ≡ false → perft rules n p ≡ 0
perft-ended rules n p h e = perft-more rules n p h ∙ ap (sum_by (λ m. perft rules (n - 1) (next rules p m))) (legal-ended rules (repeat_of p) e)
