-- Of the moves to many squares: those that are worth a look, as it is told which of them pass a test, and the others.
use Rattle.std.proofs.Common.{◌≡◌, ℕ, ◌<◌, Bool, true, false, not, ◌&&◌, ◌||◌, List, refl, sym, ap, ◌∙◌}
use Rattle.std.specs.List.{filter}
use Rattle.std.proofs.lemmas.Bool.{not-true}
use Rattle.foundation.specs.Member.{Member, Lists}
use Rattle.foundation.proofs.Members.{filter-member, member-filter}
use Rattle.rules_model.specs.declared.board.Square.{Square}
use Rattle.rules_model.specs.declared.moves.Move.{Move}
use Rattle.square_set.specs.declared.Set.{Set}
use Rattle.square_set.specs.Members.{has}
use Rattle.piece_moves.specs.InTurn.{MadeTo, Outside, target_of}
use Rattle.legality.specs.Chosen.{AreTargetsOf}
use Rattle.legality.proofs.AllMade.{made-lists, made_below}
use Rattle.legality.proofs.ListLaws.{once_filter}

-- ---- of three tests

-- a target that is worth a look, or is chosen, is one of all
of_worth : (a t c q w : Bool) → w ≡ ((a && not t) || c) → c ≡ (t && q) → (t ≡ true → a ≡ true) → w ≡ true → a ≡ true
of_worth true t c q w is told within e = refl
of_worth false true c q w is told within e = within refl
of_worth false false c q w is told within e = cc

-- one that is not is told, and not chosen
not_worth : (a t c q w : Bool) → w ≡ ((a && not t) || c) → c ≡ (t && q) → a ≡ true → w ≡ false → q ≡ false
not_worth a t c false w is told e f = refl
not_worth true true c true w is told e f = cc
not_worth true false c true w is told e f = cc
not_worth false t c true w is told e f = cc

told_true : (t c q : Bool) → c ≡ (t && q) → c ≡ true → q ≡ true
told_true t c true told e = refl
told_true true c false told e = cc
told_true false c false told e = cc

module _ (make : Square → Move) (targets told chosen worth : Set) (test : Move → Bool) (within : (s : ℕ) → has told s ≡ true → has targets s ≡ true) (are : AreTargetsOf test make told chosen)
    (is : (s : ℕ) → has worth s ≡ ((has targets s && not (has told s)) || has chosen s)) where
  abbrev made : ℕ → Move
  made to = make (record { 0 = to })

  pub worth-within : (s : ℕ) → has worth s ≡ true → has targets s ≡ true
  worth-within s e = of_worth (has targets s) (has told s) (has chosen s) (test (made s)) (has worth s) (is s) (are (record { 0 = s })) (within s) e

  pub chosen_passes : (s : ℕ) → has chosen s ≡ true → test (made s) ≡ true
  chosen_passes s e = told_true (has told s) (has chosen s) (test (made s)) (are (record { 0 = s })) e

  -- those of all that are not worth a look
  abbrev pub others : List Move
  others = filter (λ m. not (has worth (target_of m))) (made_below make targets 128)

  pub not_passed : ((to : Square) → target_of (make to) ≡ to.0) → ((s : ℕ) → has targets s ≡ true → s < 128) → (m : Move) → Member m others → test m ≡ false
  not_passed goes_there small m h =
      let k = filter-member (λ x. not (has worth (target_of x))) m (made_below make targets 128) h in
      let g = (made-lists make targets goes_there small).sound m k.0 in
      let s = target_of m in
      ap test (sym g.0) ∙ not_worth (has targets s) (has told s) (has chosen s) (test (made s)) (has worth s) (is s) (are (record { 0 = s })) g.1 (not-true (has worth s) k.1)

  pub others_each : ((to : Square) → target_of (make to) ≡ to.0) → ((s : ℕ) → has targets s ≡ true → s < 128) → Lists (Outside (MadeTo make targets) target_of worth) others
  others_each goes_there small =
      let all = made-lists make targets goes_there small in
      record {
        once = once_filter (λ m. not (has worth (target_of m))) (made_below make targets 128) all.once;
        sound = λ m h. (let k = filter-member (λ x. not (has worth (target_of x))) m (made_below make targets 128) h in (all.sound m k.0, not-true (has worth (target_of m)) k.1));
        complete = λ m h. member-filter (λ x. not (has worth (target_of x))) m (made_below make targets 128) (all.complete m h.0) (ap not h.1);
      }
