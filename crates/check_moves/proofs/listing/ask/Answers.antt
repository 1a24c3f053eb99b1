use Rattle.std.proofs.Common.{◌≡◌, ℕ, ◌<◌, ◌≤◌, rules, true, false, length, subst, arith}
use Rattle.rules_model.specs.declared.board.Position.{Position}
use Rattle.rules_model.specs.Pawns.{is_ep}
use Rattle.rules_model.specs.Sides.{other}
use Rattle.square_set.specs.Members.{has}
use Rattle.attack_tables.proofs.AttackLaws.{kings_small}
use Rattle.check_moves.specs.Listing.{ComesInVain}
use Rattle.check_moves.proofs.ListingLaws.{king_small, set_more}
use Rattle.check_moves.proofs.listing.ask.Goals as goal

pub only_of-only-requires : goal.only_of-only-requires
only_of-only-requires c =
    let s = c.args.board.now in
    let size = subst (λ (p : Position). length p.cells ≡ 120) c.position-p.ensures c.prove_position_sizes.ensures.cells in
    kings_small s.rules (other s.position.side) s.position.cells c.args.checks.now.kings size c.requires.checks.kings

pub asked_to-requires-clause-kings : goal.asked_to-requires-clause-kings
asked_to-requires-clause-kings c =
    let s = c.args.board.now in
    let size = subst (λ (p : Position). length p.cells ≡ 120) c.position-p.ensures c.prove_position_sizes.ensures.cells in
    kings_small s.rules (other s.position.side) s.position.cells c.args.checks.now.kings size c.requires.checks.kings

pub asked_to-requires-clause-passed : goal.asked_to-requires-clause-passed
asked_to-requires-clause-passed c =
    let Passed : Position → Type 0 = λ p. (at : ℕ) → is_ep p.ep at ≡ true → at < 120 → has c.passed_square-passed.result at ≡ true in
    subst Passed c.position-p.ensures c.passed_square-passed.ensures

pub loop-kind-init : goal.loop-kind-init
loop-kind-init c = record {
  whole = search rules;
  shut = c.quiet_squares-asked.ensures.checks;
  left = c.quiet_squares-asked.ensures.step;
  kinds = λ k low d to small out. absurd (let f : ⊥ = omega (arith, low) in f);
}

pub loop-kind-preserved : goal.loop-kind-preserved
loop-kind-preserved c =
    let s = c.args.board.now in
    let kind = c.loop-kind.kind in
    let sets = c.loop-kind.asked.to in
    let small : kind < length sets = omega (arith, c.loop-kind.invariant.whole, c.loop-kind-test.true) in
    record {
      whole = search rules;
      shut = c.loop-kind.invariant.shut;
      left = c.loop-kind.invariant.left;
      kinds = set_more (λ k set. (to : ℕ) → to < 120 → has set to ≡ false → ComesInVain s c.args.checks.now c.args.step.now k to) sets kind c.asked_to.result small
          c.loop-kind.invariant.kinds c.asked_to.ensures;
    }

pub quiet_squares-asked-requires : goal.quiet_squares-asked-requires
quiet_squares-asked-requires c = king_small c.args.board.now c.args.step.now c.requires.step

pub returns : goal.returns
returns c =
    let all : 26 ≤ c.loop-kind.kind = c.loop-kind-test.false in
    record {
      shut = c.loop-kind.invariant.shut;
      left = c.loop-kind.invariant.left;
      kinds = λ kind low d. c.loop-kind.invariant.kinds kind (omega (arith, low, all)) d;
    }
