-- Ends of positions that have no early end.
use Rattle.std.proofs.Common.{◌≡◌, Bool, true, false, not, if◌then◌else◌, refl, ap, sym, ◌∙◌}
use Rattle.rules_model.specs.declared.board.Repeat.{Repeat}
use Rattle.rules_model.specs.declared.moves.Outcome.{Outcome}
use Rattle.rules_model.specs.declared.moves.Outcome.TheVariants.{Ongoing}
use Rattle.rules_model.specs.declared.rules.Rules.{Rules}
use Rattle.rules_model.specs.Attacks.{king_attacked}
use Rattle.rules_model.specs.Ends.{early_end, is_ongoing, no_move, or_end}
use Rattle.rules_model.specs.Legal.{is_stuck, own_end}
use Rattle.legality.specs.declared.move_filter.GenType.TheVariants.{All}
use Rattle.legality.specs.Chosen.{can_go}
use Rattle.legality.specs.NoMoveEnds.{no_move_end_where}
use Rattle.legality.proofs.ListLaws.{goes_not_stuck}

turned_round : (stuck : Bool) (on off : Outcome) → (if not stuck then on else off) ≡ (if stuck then off else on)
turned_round true on off = refl
turned_round false on off = refl

module _ (rules : Rules) (r : Repeat) (on : Ongoing ≡ early_end rules r) where
  pub late_end_is : (any : Bool) → any ≡ not (is_stuck rules r) → no_move_end_where rules r any ≡ own_end rules r
  unfolding own_end
  late_end_is any e =
      let end = no_move rules r.side (king_attacked rules r.cells r.side) in
      ap (no_move_end_where rules r) e ∙ turned_round (is_stuck rules r) Ongoing end ∙ ap (λ early. or_end early (if is_stuck rules r then end else Ongoing)) on

  pub late_end_found : (any : Bool) → any ≡ can_go rules r All → no_move_end_where rules r any ≡ own_end rules r
  late_end_found any e = late_end_is any (e ∙ goes_not_stuck rules r (sym (ap is_ongoing on)))
