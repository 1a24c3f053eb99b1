-- Moves of a position.
use Rattle.std.proofs.Common.{◌≡◌, ◌⊎◌, inl, inr, ℕ, ◌+◌, ◌-◌, ◌<◌, ◌≤◌, List, [], ◌∷◌, length, take, get_or, None, refl, sym, ap, ◌∙◌, subst, arith}
use Rattle.std.specs.Prelude.{ℤ, pos, negsuc, neg_ℤ, ◌≤ℤ◌, ◌<ℤ◌}
use Rattle.std.specs.Int.{int_max}
use Rattle.std.proofs.lemmas.Int.{ints, clamps}
use Rattle.std.proofs.lemmas.List.Sums.{fold_more}
use Rattle.foundation.specs.Member.{Member}
use Rattle.rules_model.specs.declared.moves.Move.{Move}
use Rattle.rules_model.specs.declared.moves.Move.TheVariants.{Go}
use Rattle.rules_model.specs.declared.moves.Promo.TheVariants.{Stays}
use Rattle.rules_model.specs.declared.rules.Rules.{Rules}
use Rattle.rules_model.specs.Games.{Story, played}
use Rattle.evaluation.specs.Laws.{Within}
use Rattle.evaluation.specs.Values.{Attains, greatest, play, root_score, root_value, tree_size, value, value_of, worst}
use Rattle.evaluation.proofs.GamesByRules.{play_laws}
use Rattle.evaluation.proofs.Greatest.{greatest-member}
use Rattle.evaluation.proofs.ScoreLaws.{score_within, value-score}
use Rattle.negamax.specs.declared.facts.Best.{Best}
use Rattle.negamax.specs.RootFacts.{Chooses, Settles, root_tree, score_of}
use Rattle.negamax.specs.Windows.{Bounds}
use Rattle.negamax.proofs.WindowLaws.{cut, flip, reframe, step, within_other}

-- what is read behind the end of a list
abbrev pub no_move : Move
no_move = Go (record { 0 = 0 }) (record { 0 = 0 }) Stays None

-- ---- the greatest of the scores of a list, move by move

module _ (f : Move → ℤ) where
  pub greatest-none : (v : ℤ) (ms : List Move) → greatest v f (take 0 ms) ≡ v
  unfolding greatest
  greatest-none v ms = refl

  pub greatest-more : (v : ℤ) (ms : List Move) (i : ℕ) (d : Move) → i < length ms
      → greatest v f (take (i + 1) ms) ≡ int_max (greatest v f (take i ms)) (f (get_or ms i d))
  unfolding greatest
  greatest-more v ms i d lt = fold_more (λ a m. int_max a (f m)) v ms i d lt

  -- the first of them is the floor
  pub greatest-first : (m : Move) (ms : List Move) → worst ≤ℤ f m → greatest worst f (m ∷ ms) ≡ greatest (f m) f ms
  unfolding greatest
  greatest-first m ms le = let e : int_max worst (f m) ≡ f m = omega (arith, ints, clamps) in ap (λ v. greatest v f ms) e

module _ (rules : Rules) (depth ply : ℕ) (g : Story) where
  pub score-within : (m : Move) → Within (score_of rules depth ply g m)
  score-within m = within_other _ (score_within _ _ _ (value-score (play rules) (play_laws rules) (depth - 1) (ply + 1) (played rules g m)))

  -- what the other side answers, seen from this side
  pub score-bounds : (m : Move) (a b r v low high : ℤ) (y : Story) → y ≡ played rules g m → low ≡ neg_ℤ b → high ≡ neg_ℤ a → v ≡ neg_ℤ r
      → Bounds low high r (value (play rules) (depth - 1) (ply + 1) y) → Bounds a b v (score_of rules depth ply g m)
  score-bounds m a b r v low high y ey el eh ev h =
      let at = subst (λ z. Bounds low high r (value (play rules) (depth - 1) (ply + 1) z)) ey h in
      let seen = reframe low high r _ (neg_ℤ b) (neg_ℤ a) r at (sym el) (sym eh) refl in
      reframe a b (neg_ℤ r) _ a b v (flip a b r _ seen) refl refl ev

  -- the lines behind a move
  pub root_lines : (r : Rules) (y : Story) (m : Move) (n : ℕ) → r ≡ rules → y ≡ played rules g m → n ≡ depth + 3
      → tree_size r n y ≡ root_tree rules depth g m
  root_lines r y m n er ey en = rw (er, ey, en) refl

  -- ---- one move more

  module _ (a b : ℤ) (m : Move) where
    -- the best cuts: no other move is looked at
    pub settles_cut : (best : Best) → Within best.value → a <ℤ b → b ≤ℤ best.value → Settles rules depth ply g a b m best best
    settles_cut best within wide high = record {
      within = within;
      rises = omega (arith, ints);
      bounds = λ v h. cut a b best.value v (int_max v (score_of rules depth ply g m)) wide high h (omega (arith, ints, clamps));
      chosen = inl (refl, omega (arith, ints, clamps));
    }

    settles_bounds : (best value v floor : ℤ) (r : ℤ) → floor ≡ int_max a best → value ≡ int_max best r
        → Bounds floor b r (score_of rules depth ply g m) → Bounds a b best v → Bounds a b value (int_max v (score_of rules depth ply g m))
    settles_bounds best value v floor r ef ev told h =
        let seen = reframe floor b r _ (int_max a best) b r told (sym ef) refl refl in
        reframe a b (int_max best r) _ a b value (step a b best v r _ h seen) refl refl ev

    -- it was asked what it scores above the best
    pub settles_asked : (best after : Best) (floor r : ℤ) → Within best.value → Within r → floor ≡ int_max a best.value
        → Bounds floor b r (score_of rules depth ply g m) → after.value ≡ int_max best.value r
        → ((after.chosen ≡ best.chosen) × (after.value ≤ℤ floor)) ⊎ ((after.chosen ≡ m) × (floor <ℤ after.value) × (after.value ≡ r))
        → Settles rules depth ply g a b m best after
    settles_asked best after floor r wb wr ef told ev which =
        let l1 = wb.least in let m1 = wb.most in let l2 = wr.least in let m2 = wr.most in
        record {
          within = record { least = omega (arith, ints, clamps); most = omega (arith, ints, clamps) };
          rises = omega (arith, ints, clamps);
          bounds = λ v h. settles_bounds best.value after.value v floor r ef ev told h;
          chosen = by_which which;
        }
      where
        by_which : ((after.chosen ≡ best.chosen) × (after.value ≤ℤ floor)) ⊎ ((after.chosen ≡ m) × (floor <ℤ after.value) × (after.value ≡ r))
            → Chooses rules depth ply g a (m ∷ []) best after
        by_which (inl kept) = let low = kept.1 in inl (kept.0, omega (arith, ints, clamps))
        by_which (inr up) =
            let over = up.1 in let is = up.2 in
            let high : floor <ℤ r = omega (arith, ints) in
            let reached = told.low high in
            let scored : after.value ≤ℤ score_of rules depth ply g m = omega (arith, ints) in
            inr (record {
              root = inl (sym up.0);
              above = omega (arith, ints, clamps);
              attained = subst (λ n. after.value ≤ℤ score_of rules depth ply g n) (sym up.0) scored;
            })

  -- ---- how far a list is settled

  module _ (a : ℤ) (ms : List Move) where
    only : (m n : Move) → Member n (m ∷ []) → n ≡ m
    only m n (inl e) = sym e
    only m n (inr h) = absurd h

    -- what one move more chooses, is chosen of the list
    pub chooses-next : (first before after : Best) (m : Move) → Member m ms → Chooses rules depth ply g a ms first before
        → before.value ≤ℤ after.value → Chooses rules depth ply g a (m ∷ []) before after → Chooses rules depth ply g a ms first after
    chooses-next first before after m there (inl h) up (inl k) =
        let low = h.1 in let next = k.1 in inl (k.0 ∙ h.0, omega (arith, ints, clamps))
    chooses-next first before after m there (inr h) up (inl k) =
        let next = k.1 in let above = h.above in let got = h.attained in
        let scored : after.value ≤ℤ score_of rules depth ply g before.chosen = omega (arith, ints, clamps) in
        inr (record {
          root = subst (λ n. Member n ms) (sym k.0) h.root;
          above = omega (arith, ints);
          attained = subst (λ n. after.value ≤ℤ score_of rules depth ply g n) (sym k.0) scored;
        })
    chooses-next first before after m there old up (inr k) = inr (record {
      root = subst (λ n. Member n ms) (sym (only m after.chosen k.root)) there;
      above = k.above;
      attained = k.attained;
    })

    pub chooses-none : (first : Best) → Chooses rules depth ply g a ms first first
    chooses-none first = inl (refl, omega (arith, ints, clamps))

-- ---- the whole list, with the first of its moves

module _ (rules : Rules) (depth ply : ℕ) (g : Story) (a b : ℤ) (m : Move) (ms : List Move) (first best : Best) where
  -- the value of the list within the window
  pub list-bounds : Bounds a b first.value (score_of rules depth ply g m)
      → ((v : ℤ) → Bounds a b first.value v → Bounds a b best.value (greatest v (score_of rules depth ply g) ms))
      → Bounds a b best.value (greatest worst (score_of rules depth ply g) (m ∷ ms))
  list-bounds told rest =
      let w = (score-within rules depth ply g m).least in
      let e = greatest-first (score_of rules depth ply g) m ms (omega (arith, ints)) in
      subst (λ v. Bounds a b best.value v) (sym e) (rest (score_of rules depth ply g m) told)

module _ (rules : Rules) (depth : ℕ) (g : Story) (a b : ℤ) (m : Move) (ms : List Move) (first best : Best) where
  -- with an open window: the value
  pub list-value : a ≡ negsuc 32001 → b ≡ pos 32002 → Within best.value
      → Bounds a b best.value (greatest worst (score_of rules depth 0 g) (m ∷ ms))
      → best.value ≡ value_of rules depth g (m ∷ ms)
  unfolding root_value root_score
  list-value ea eb w h =
      let l = w.least in let u = w.most in
      let low = h.low (omega (arith, ints)) in let high = h.high (omega (arith, ints)) in
      omega (arith, ints)

  -- and a move that attains it
  pub list-attains : a ≡ negsuc 32001 → b ≡ pos 32002 → Within first.value → Within best.value → first.chosen ≡ m
      → Bounds a b first.value (score_of rules depth 0 g m)
      → best.value ≡ value_of rules depth g (m ∷ ms)
      → Chooses rules depth 0 g a ms first best → Attains rules depth g (m ∷ ms) best.value best.chosen
  unfolding root_value root_score
  list-attains ea eb wf wb same told is (inl h) =
      let l = wf.least in let u = wf.most in let l2 = wb.least in
      let low = told.low (omega (arith, ints)) in let high = told.high (omega (arith, ints)) in
      let n : best.chosen ≡ m = h.0 ∙ same in
      let le = h.1 in
      let up = greatest-member (score_of rules depth 0 g) worst (m ∷ ms) m (inl refl) in
      let scored : root_score (play rules) depth g m ≡ best.value = omega (arith, ints, clamps) in
      record { root = inl (sym n); attained = subst (λ x. root_score (play rules) depth g x ≡ best.value) (sym n) scored }
  list-attains ea eb wf wb same told is (inr h) =
      let le = h.attained in
      let up = greatest-member (score_of rules depth 0 g) worst (m ∷ ms) best.chosen (inr h.root) in
      record { root = inr h.root; attained = omega (arith, ints) }
