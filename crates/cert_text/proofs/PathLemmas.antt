-- A reader beside the positions along the moves to its last step.
use Rattle.std.proofs.Common.{◌≡◌, ◌⊎◌, inl, inr, ◌↔◌, IsTrue, ℕ, zero, suc, ◌+◌, ◌-◌, ◌<◌, ◌≤◌, Bool, true, false, List, [], ◌∷◌, ◌++◌, length, take, reverse, Option, Some, None, Ok, Err, if◌then◌else◌, refl, sym, ap, subst, ◌∙◌, arith}
use Rattle.std.proofs.lemmas.Bool.Decides.{nat_tests}
use Rattle.std.proofs.lemmas.List.{reverse-append}
use Rattle.rules_model.specs.declared.board.Position.{Position}
use Rattle.rules_model.specs.declared.moves.Move.{Move}
use Rattle.foundation.specs.Member.{Member}
use Rattle.rules_model.specs.declared.rules.Rules.{Rules}
use Rattle.rules_model.specs.Games.{Story, played}
use Rattle.rules_model.specs.Legal.{legal}
use Rattle.rules_model.specs.Repeats.{repeat_of}
use Rattle.rules_model.specs.Sound.{is_sound}
use Rattle.forced_wins.proofs.Counts.{true_false}
use Rattle.move_text.specs.Names.{Names, NamesNothing}
use Rattle.game_play.specs.Played.{IsPlayed, Played, story}
use Rattle.game_text.specs.Playing.{move_in}
use Rattle.game_text.proofs.PlayLemmas.{plays-illegal, plays-named, plays-nothing}
use Rattle.stipulation.specs.declared.cert.Step.{Step}
use Rattle.stipulation.specs.Lines.{AreSound, IsPathTo, along, game_after}
use Rattle.stipulation.specs.Stipulations.{help_games}
use Rattle.stipulation.specs.Trees.{game_at}
use Rattle.stipulation.specs.Verdicts.{is_bad_ply}
use Rattle.stipulation.proofs.CheckLemmas.{path-more}
use Rattle.stipulation.proofs.LineLemmas.{along-none}
use Rattle.cert_text.specs.declared.fault.CertFault.TheVariants.{BadLine}
use Rattle.cert_text.specs.declared.reader.Reader.{Reader}
use Rattle.cert_text.specs.Reading.{SoFar, last_ply, parent_position, with_move, with_step}
use Rattle.cert_text.specs.View as View
use Rattle.cert_text.specs.View.{IsOnPath, so_far}

-- ---- a reader that has begun

take_none : (n : ℕ) (ps : List Position) → ps ≡ [] → take n ps ≡ []
take_none n ps none = ap (take n) none ∙ nothing n
  where
    nothing : (n : ℕ) → take {A = Position} n [] ≡ []
    nothing zero = refl
    nothing (suc n) = refl

pub path-none : (g : Played) (steps : List Step) (ps : List Position) → steps ≡ [] → ps ≡ [] → IsPathTo (help_games g.rules (story g).last.side) (story g) (reverse steps) ps
unfolding game_at
path-none g steps ps no_step none q few =
    ap (along (story g)) (take_none q ps none) ∙ along-none (story g)
    ∙ ap (λ ss. game_at (help_games g.rules (story g).last.side) (story g) (reverse ss) q) (sym no_step)

pub long-none : (steps : List Step) (ps : List Position) → steps ≡ [] → ps ≡ [] → length ps ≡ last_ply (reverse steps)
long-none steps ps no_step none = ap length none ∙ ap (λ ss. last_ply (reverse ss)) (sym no_step)

pub sound-none : (g : Played) (ps : List Position) → ps ≡ [] → AreSound g.rules ps
sound-none g ps none = λ k d below. let long = ap length none in absurd (omega (arith, long, below))

-- ---- the move of a text

none_left : (o : Option Move) → ((m : Move) → o ≡ Some m → ⊥) → o ≡ None
none_left None not = refl
none_left (Some m) not = absurd (not m refl)

module _ (g : Played) (rules : Rules) (p q : Position) (text : List ℕ) (played : IsPlayed g) (rules_are : rules ≡ g.rules) (is : p ≡ q) (sound : is_sound g.rules p ≡ true) where
  here_sound : is_sound g.rules q ≡ true
  here_sound = subst (λ (x : Position). is_sound g.rules x ≡ true) is sound

  here_names : (m : Move) → Names rules p text m → Names g.rules q text m
  here_names m names = subst (λ (r : Rules). Names r q text m) rules_are (subst (λ (x : Position). Names rules x text m) is names)

  pub after-nothing : NamesNothing rules p text → None ≡ move_in g.rules q text
  after-nothing nothing =
      sym (plays-nothing g.rules q text played.fit here_sound
      (subst (λ (r : Rules). NamesNothing r q text) rules_are (subst (λ (x : Position). NamesNothing rules x text) is nothing)))

  pub after-legal : (m : Move) → Names rules p text m → Member m (legal g.rules (repeat_of q)) → Some m ≡ move_in g.rules q text
  after-legal m names member = sym (plays-named g.rules q text played.fit here_sound m (here_names m names) member)

  pub after-illegal : (m : Move) (b : Bool) → Names rules p text m → (IsTrue b ↔ Member m (legal g.rules (repeat_of q))) → b ≡ false → None ≡ move_in g.rules q text
  after-illegal m b names same not =
      sym (plays-illegal g.rules q text played.fit here_sound m (here_names m names) (λ member. true_false b (same.1 member) not))

-- ---- the ply of a step

zero_bad : (before ply : ℕ) → ply ≡ 0 → is_bad_ply before ply ≡ true
zero_bad before ply h = grind (arith, nat_tests)

far_bad : (before ply : ℕ) → before + 1 < ply → is_bad_ply before ply ≡ true
far_bad before ply h = grind (arith, nat_tests)

good_ply : (before ply : ℕ) → 1 ≤ ply → ply ≤ before + 1 → is_bad_ply before ply ≡ false
good_ply before ply low high = grind (arith, nat_tests)

module _ (g : Played) (r : Reader) (ply : ℕ) (text : List ℕ) (on : IsOnPath g r) where
  abbrev b : SoFar
  b = so_far r

  bad_step : is_bad_ply (last_ply b.earlier) ply ≡ true → View.with_step g r ply text ≡ Err (BadLine r.line)
  unfolding with_step
  bad_step bad =
      ap (λ t. if t then Err (BadLine r.line) else with_move b ply (move_in g.rules (parent_position g.rules (story g) b.earlier ply) text)) bad

  -- it cannot follow
  pub step-bad : (ply ≡ 0) ⊎ (length r.path + 1 < ply) → View.with_step g r ply text ≡ Err (BadLine r.line)
  step-bad (inl none) = bad_step (zero_bad (last_ply b.earlier) ply none)
  step-bad (inr far) = let long = on.long in bad_step (far_bad (last_ply b.earlier) ply (omega (arith, long, far)))

  module _ (low : 1 ≤ ply) (high : ply ≤ length r.path + 1) (cut : List Position) (cut_is : cut ≡ take (ply - 1) r.path) where
    good : is_bad_ply (last_ply b.earlier) ply ≡ false
    good = let long = on.long in good_ply (last_ply b.earlier) ply low (omega (arith, long, high))

    -- the parent's position is the last one along the line that is cut
    parent_is : (game_after g cut).last ≡ parent_position g.rules (story g) b.earlier ply
    parent_is = ap (λ (x : Story). x.last) (ap (along (story g)) cut_is ∙ on.leads (ply - 1) (omega (arith, high)))

    step_with : (o : Option Move) → o ≡ move_in g.rules (game_after g cut).last text → View.with_step g r ply text ≡ with_move b ply o
    unfolding with_step
    step_with o is =
        let named : o ≡ move_in g.rules (parent_position g.rules (story g) b.earlier ply) text = is ∙ ap (λ (p : Position). move_in g.rules p text) parent_is in
        ap (λ t. if t then Err (BadLine r.line) else with_move b ply (move_in g.rules (parent_position g.rules (story g) b.earlier ply) text)) good
        ∙ ap (with_move b ply) (sym named)

    pub step-unnamed : (o : Option Move) → ((m : Move) → o ≡ Some m → ⊥) → o ≡ move_in g.rules (game_after g cut).last text → View.with_step g r ply text ≡ Err (BadLine r.line)
    step-unnamed o none is = step_with o is ∙ ap (with_move b ply) (none_left o none)

    module _ (m : Move) (now : Reader) (steps_are : now.steps.items ≡ r.steps.items ++ record { ply = ply; chosen = m } ∷ []) where
      earlier_is : reverse now.steps.items ≡ record { ply = ply; chosen = m } ∷ b.earlier
      earlier_is = ap reverse steps_are ∙ reverse-append r.steps.items (record { ply = ply; chosen = m } ∷ [])

      pub step-named : now.line ≡ r.line → now.is_ended ≡ r.is_ended → (o : Option Move) → o ≡ Some m → o ≡ move_in g.rules (game_after g cut).last text → View.with_step g r ply text ≡ Ok (so_far now)
      step-named line ended o some is =
          step_with o is ∙ ap (with_move b ply) some
          ∙ (λ i. Ok (record { line = sym line i; earlier = sym earlier_is i; is_ended = sym ended i }))

      pub step-path : length now.path ≡ length cut + 1 → take (length cut) now.path ≡ cut → game_after g now.path ≡ played g.rules (game_after g cut) m
          → IsPathTo (help_games g.rules (story g).last.side) (story g) (reverse now.steps.items) now.path
      step-path one front play =
          subst (λ ss. IsPathTo (help_games g.rules (story g).last.side) (story g) ss now.path) (sym earlier_is)
          (path-more (help_games g.rules (story g).last.side) (story g) b.earlier (record { ply = ply; chosen = m }) r.path cut now.path on.leads cut_is low high one front play)

      pub step-long : length cut ≡ ply - 1 → length now.path ≡ length cut + 1 → length now.path ≡ last_ply (reverse now.steps.items)
      step-long short one =
          let now_ply : last_ply (reverse now.steps.items) ≡ ply = ap last_ply earlier_is in
          omega (arith, short, one, now_ply, low)
