use Rattle.std.proofs.Common.{◌≡◌, ℕ, Bool, ◌&&◌, ◌<◌, nat_lt, ◌==◌, not, true, sym, ◌∙◌}
use Rattle.std.proofs.lemmas.Bool.{and_parts, ltb-true}
use Rattle.foundation.proofs.AppendedLemmas.{on_err}
use Rattle.piece_moves.proofs.TakingLemmas.{all-none, all-same, some-within}
use Rattle.piece_moves.proofs.TurnLemmas.{turn-all, turn-more, turn-none, turn-some}
use Rattle.rules_model.specs.Repeats.{repeat_of}
use Rattle.square_set.specs.Members.{has}
use Rattle.special_moves.specs.Parts.{holds_kind}
use Rattle.special_moves.proofs.GateLemmas.{none-placed, placed_number, placed-held, placed-there, there-placed}
use Rattle.special_moves.proofs.gates.push_gates_of.Goals as goal

pub loop-k-init : goal.loop-k-init
loop-k-init g c = record {
  inside = λ s e. e;
  taken = turn-none g.met.S.MoveSink.law _ placed_number _ _ (placed-held c.args.rules.now (repeat_of c.args.p.now) c.args.mover.from c.args.held c.requires.held);
}

small : (k : ℕ) (h : Bool) → (nat_lt k 26 && h) ≡ true → k < 26
small k h e = ltb-true k 26 (and_parts (nat_lt k 26) h e).0

pub loop-k-preserved-in-Continue-1 : goal.loop-k-preserved-in-Continue-1
loop-k-preserved-in-Continue-1 g c =
    let r = repeat_of c.args.p.now in
    let k = c.in-Some.k in
    let member = c.loop-k.invariant.inside k c.in-Some.ensures.some.member in
    let low = small k (holds_kind r k) (sym (c.requires.held k) ∙ member) in
    let gates = sym c.may_gate.ensures ∙ c.if-may_gate.true in
    record {
      inside = λ s e. c.loop-k.invariant.inside s (and_parts (has c.loop-k.left s) (not (s == k)) (sym (c.in-Some.ensures.rest s) ∙ e)).0;
      taken = turn-more g.met.S.MoveSink.law _ placed_number _ _ _ _ _ _ c.in-Some.ensures.some.member c.in-Some.ensures.rest c.loop-k.invariant.taken
          (all-same _ _ _ _ _ c.in_ok-push_mover.ensures.ok (placed-there c.args.rules.now r c.args.mover.from k low gates) (there-placed c.args.rules.now r c.args.mover.from k));
    }

pub loop-k-preserved : goal.loop-k-preserved
loop-k-preserved g c =
    let r = repeat_of c.args.p.now in
    let k = c.in-Some.k in
    record {
      inside = λ s e. c.loop-k.invariant.inside s (and_parts (has c.loop-k.left s) (not (s == k)) (sym (c.in-Some.ensures.rest s) ∙ e)).0;
      taken = turn-more g.met.S.MoveSink.law _ placed_number _ _ _ _ _ _ c.in-Some.ensures.some.member c.in-Some.ensures.rest c.loop-k.invariant.taken
          (all-none g.met.S.MoveSink.law _ _ (none-placed c.args.rules.now r c.args.mover.from k (sym c.may_gate.ensures ∙ c.if-may_gate.false)));
    }

pub returns-in_err-push_mover-clause-err : goal.returns-in_err-push_mover-clause-err
returns-in_err-push_mover-clause-err g c =
    let r = repeat_of c.args.p.now in
    let k = c.in-Some.k in
    let member = c.loop-k.invariant.inside k c.in-Some.ensures.some.member in
    let low = small k (holds_kind r k) (sym (c.requires.held k) ∙ member) in
    on_err _ (turn-some g.met.S.MoveSink.law _ placed_number _ _ _ _ _ c.in-Some.ensures.some.member c.loop-k.invariant.taken
    (some-within _ _ _ _ _ c.in_err-push_mover.ensures.err (placed-there c.args.rules.now r c.args.mover.from k low (sym c.may_gate.ensures ∙ c.if-may_gate.true))))

pub returns-clause-ok : goal.returns-clause-ok
returns-clause-ok g c = turn-all g.S.MoveSink.takes _ placed_number _ _ _ c.in_default.ensures.none c.loop-k.invariant.taken
