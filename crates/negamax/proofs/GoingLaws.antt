-- The loop of a search over the moves of a game.
use Rattle.std.proofs.Common.{◌≡◌, ◌⊎◌, inl, inr, ℕ, ◌+◌, ◌≤◌, List, [], ◌∷◌, ◌++◌, length, take, drop, sum_by, refl, sym, ap, ◌∙◌, subst, arith}
use Rattle.std.specs.Prelude.{ℤ, neg_ℤ, ◌≤ℤ◌, ◌<ℤ◌}
use Rattle.std.specs.Int.{int_max}
use Rattle.std.specs.List.Sorted.{IsPermutation}
use Rattle.std.proofs.Math.Seq.{take-append_seam, drop-append_seam}
use Rattle.std.proofs.lemmas.List.{length-append}
use Rattle.std.proofs.lemmas.List.Sorted.{IsPermutation-sym}
use Rattle.foundation.specs.Member.{Member}
use Rattle.foundation.proofs.Members.{member-map, member-permutation}
use Rattle.rules_model.specs.declared.moves.Move.{Move}
use Rattle.evaluation.specs.Laws.{Within}
use Rattle.evaluation.specs.Values.{greatest}
use Rattle.negamax.specs.declared.scored_moves.ScoredMove.{ScoredMove}
use Rattle.negamax.specs.Trials.{Entered, Pushes, Takes, Trial}
use Rattle.negamax.specs.Windows.{Bounds}
use Rattle.negamax.proofs.TrialLaws.{entered_fits, entered_next, entered_start, lists-greatest, lists-sum, trial_cut, trial_end, trial_next, trial_score, trial_start}

-- How far the loop has come: behind the candidates of the plies before, those that are left wait.
pub record Going {W X : Type 0} (gone : W → W → ℕ → Type 0) (legal : List Move) (after : Move → X) (score : X → ℤ) (size : X → ℕ)
    (front : List ScoredMove) (a b v : ℤ) (most : ℕ) (before now : W) (list : List ScoredMove) (best : ℤ) : Type 0 where
  pub rest : List ScoredMove
  pub is : list ≡ front ++ rest
  pub legal_moves : (c : ScoredMove) → Member c rest → Member c.chosen legal
  pub trial : Trial a b best v (λ c. neg_ℤ (score (after c.chosen))) rest
  pub entered : Entered gone before now (λ c. size (after c.chosen)) rest most

module _ {W X : Type 0} (gone : W → W → ℕ → Type 0) (legal : List Move) (after : Move → X) (score : X → ℤ) (size : X → ℕ) where
  module _ (front : List ScoredMove) (a b v : ℤ) (most : ℕ) (before : W) where
    -- all moves are listed, and one node is entered
    pub going_start : (ms : List Move) (now : W) (list : List ScoredMove) (best : ℤ) → Pushes (λ m. Member m ms) front list
        → ((m : Move) → Member m ms → Member m legal) → Within best → v ≡ greatest best (λ m. neg_ℤ (score (after m))) ms
        → gone before now 1 → 1 + sum_by (λ m. size (after m)) ms ≤ most
        → Going gone legal after score size front a b v most before now list best
    going_start ms now list best p among within is g fits =
        let f = λ (c : ScoredMove). c.chosen in
        let sum = lists-sum f (λ m. size (after m)) ms p.added p.each in
        record {
          rest = p.added;
          is = p.is;
          legal_moves = λ c m. among c.chosen (p.each.sound c.chosen (member-map f c p.added m));
          trial = trial_start a b v _ best p.added within (lists-greatest f (λ m. neg_ℤ (score (after m))) best ms p.added p.each ∙ sym is);
          entered = entered_start gone _ most before now 1 p.added g (omega arith);
        }

    module _ (now : W) (list : List ScoredMove) (best : ℤ) (h : Going gone legal after score size front a b v most before now list best) where
      rest_of : (first : ℕ) → first ≡ length front → drop first list ≡ h.rest
      rest_of first e = ap (drop first) h.is ∙ ap (λ k. drop k (front ++ h.rest)) e ∙ drop-append_seam front h.rest

      pub front_of : (first : ℕ) → first ≡ length front → take first list ≡ front
      front_of first e = ap (take first) h.is ∙ ap (λ k. take k (front ++ h.rest)) e ∙ take-append_seam front h.rest

      are_left : (first : ℕ) (list' : List ScoredMove) (m : Move) → first ≡ length front → (t : Takes first list list' m)
          → IsPermutation h.rest (t.taken ∷ t.rest)
      are_left first list' m e t = subst (λ xs. IsPermutation xs (t.taken ∷ t.rest)) (rest_of first e) t.are

      -- the move that is taken is legal
      pub going_legal : (first : ℕ) (list' : List ScoredMove) (m : Move) → first ≡ length front → Takes first list list' m → Member m legal
      going_legal first list' m e t =
          let are = are_left first list' m e t in
          let there : Member t.taken h.rest = member-permutation t.taken (t.taken ∷ t.rest) h.rest (IsPermutation-sym h.rest (t.taken ∷ t.rest) are) (inl refl) in
          subst (λ n. Member n legal) (sym t.chosen) (h.legal_moves t.taken there)

      -- the nodes of one move more fit
      pub going_fits : (first : ℕ) (list' : List ScoredMove) (m : Move) (y : X) → first ≡ length front → Takes first list list' m → y ≡ after m
          → h.entered.nodes + size y ≤ most
      going_fits first list' m y e t ey =
          let are = are_left first list' m e t in
          let le : size y ≤ size (after t.taken.chosen) = rw (ey, t.chosen) (omega arith) in
          let fits = entered_fits gone (λ c. size (after c.chosen)) most before now (size y) t.taken h.rest t.rest h.entered are le in
          omega arith

      -- one move more was searched
      pub going_next : (first : ℕ) (list' list'' : List ScoredMove) (m : Move) (y : X) (then : W) (low high r s : ℤ) → first ≡ length front
          → Takes first list list' m → list'' ≡ list' → y ≡ after m → ((a b c : W) (m n : ℕ) → gone a b m → gone b c n → gone a c (m + n))
          → gone now then (size y) → Bounds low high r (score y) → Within r → low ≡ neg_ℤ b → high ≡ neg_ℤ (int_max a best)
          → s ≡ int_max best (neg_ℤ r) → Going gone legal after score size front a b v most before then list'' s
      going_next first list' list'' m y then low high r s e t same ey more went told within el eh es =
          let are = are_left first list' m e t in
          let at : y ≡ after t.taken.chosen = ey ∙ ap after t.chosen in
          let le : size y ≤ size (after t.taken.chosen) = rw at (omega arith) in
          record {
            rest = t.rest;
            is = same ∙ t.is ∙ ap (λ xs. xs ++ t.rest) (front_of first e);
            legal_moves = λ c m. h.legal_moves c (member-permutation c (t.taken ∷ t.rest) h.rest (IsPermutation-sym h.rest (t.taken ∷ t.rest) are) (inr m));
            trial = trial_next a b v _ best s r (score y) low high t.taken h.rest t.rest h.trial are (ap (λ z. neg_ℤ (score z)) (sym at)) told within el eh es;
            entered = entered_next gone _ most more before now then (size y) t.taken h.rest t.rest h.entered are le went;
          }

      -- one move more was scored
      pub going_score : (first : ℕ) (list' list'' : List ScoredMove) (m : Move) (then : W) (low high r s : ℤ) → first ≡ length front
          → Takes first list list' m → list'' ≡ list' → ((a b c : W) (m n : ℕ) → gone a b m → gone b c n → gone a c (m + n))
          → gone now then (size (after m)) → Bounds low high r (neg_ℤ (score (after m))) → Within r → low ≡ int_max a best → high ≡ b
          → s ≡ int_max best r → Going gone legal after score size front a b v most before then list'' s
      going_score first list' list'' m then low high r s e t same more went told within el eh es =
          let are = are_left first list' m e t in
          let le : size (after m) ≤ size (after t.taken.chosen) = rw t.chosen (omega arith) in
          record {
            rest = t.rest;
            is = same ∙ t.is ∙ ap (λ xs. xs ++ t.rest) (front_of first e);
            legal_moves = λ c m. h.legal_moves c (member-permutation c (t.taken ∷ t.rest) h.rest (IsPermutation-sym h.rest (t.taken ∷ t.rest) are) (inr m));
            trial = trial_score a b v _ best s r (neg_ℤ (score (after m))) low high t.taken h.rest t.rest h.trial are (ap (λ n. neg_ℤ (score (after n))) (sym t.chosen)) told within el eh es;
            entered = entered_next gone _ most more before now then (size (after m)) t.taken h.rest t.rest h.entered are le went;
          }

      empty : (xs : List ScoredMove) → length xs ≤ 0 → xs ≡ []
      empty [] l = refl
      empty (x ∷ xs) l = absurd (omega arith)

      -- the loop ends by a cut, or with no move left
      pub going_end : (first : ℕ) → first ≡ length front → a <ℤ b → (b ≤ℤ best) ⊎ (length list ≤ first) → Bounds a b best v
      going_end first e wide (inl cut) = trial_cut a b v _ best h.rest h.trial wide cut
      going_end first e wide (inr none) =
          let k = ap length h.is in
          let n = length-append front h.rest in
          trial_end a b v _ best h.rest h.trial (empty h.rest (omega arith))
