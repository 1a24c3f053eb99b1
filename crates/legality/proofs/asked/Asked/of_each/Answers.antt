use Rattle.std.proofs.Common.{◌≡◌, ◌&&◌, ◌||◌, ◌==◌, not, true, None, refl, sym, ap, ◌∙◌}
use Rattle.std.proofs.lemmas.Bool.{and_parts}
use Rattle.rules_model.specs.Repeats.{repeat_of}
use Rattle.square_set.specs.Members.{has, origin}
use Rattle.square_set.proofs.Cases.{by_equal}
use Rattle.square_set.proofs.CoverLaws.{has-zero}
use Rattle.legality.specs.Asking.{is_asked_by, is_asked_to}
use Rattle.legality.proofs.AskingLaws.{next_asked, nothing_yet, origin_small, whole}
use Rattle.legality.proofs.asked.Asked.of_each.Goals as goal

pub loop-to-init : goal.loop-to-init
loop-to-init c = record {
  within = λ s e. e;
  done = λ s. has-zero _ refl s ∙ nothing_yet (has c.args.targets s) (is_asked_by c.args.self.now (repeat_of c.args.p.now) c.args.shift s);
}

pub of_targets-requires : goal.of_targets-requires
of_targets-requires c =
    let to = c.in-Some.to in
    record { from = rw c.origin.ensures (origin_small c.args.shift to (c.requires.starts to (c.loop-to.invariant.within to c.in-Some.ensures.some.member))) }

pub loop-to-preserved : goal.loop-to-preserved
loop-to-preserved c =
    let to = c.in-Some.to in
    let asked = c.args.self.now in
    let r = repeat_of c.args.p.now in
    let shift = c.args.shift in
    record {
      within = λ s e. c.loop-to.invariant.within s (and_parts (has c.loop-to.left s) (not (s == to)) (sym (c.in-Some.ensures.rest s) ∙ e)).0;
      done = λ s.
          let only : has c.with-one.result s ≡ (s == to) = c.with-one.ensures s ∙ ap (λ b. b || (s == to)) (has-zero _ refl s) in
          let one : has c.of_targets.result s ≡ ((s == to) && is_asked_by asked r shift s) =
          by_equal s to (has c.of_targets.result s ≡ ((s == to) && is_asked_by asked r shift s))
          (λ q e.
          let from : c.origin.result ≡ origin shift s = c.origin.ensures ∙ ap (origin shift) (sym e) in
          c.of_targets.ensures s
          ∙ ap (λ b. b && is_asked_to asked r (record { 0 = c.origin.result }) None s) only
          ∙ ap (λ o. (s == to) && is_asked_to asked r (record { 0 = o }) None s) from)
          (λ q e. c.of_targets.ensures s
          ∙ ap (λ b. b && is_asked_to asked r (record { 0 = c.origin.result }) None s) only
          ∙ rw q refl) in
          c.or-asked.ensures s
          ∙ next_asked (has c.args.targets s) (has c.loop-to.left s) (s == to) (is_asked_by asked r shift s) (has c.loop-to.asked s) (has c.of_targets.result s) _
          (c.loop-to.invariant.within s)
          (λ e. by_equal s to (has c.loop-to.left s ≡ true) (λ q f. ap (has c.loop-to.left) f ∙ c.in-Some.ensures.some.member) (λ q f. let g : ⊥ = cc in absurd g))
          (c.loop-to.invariant.done s) one (c.in-Some.ensures.rest s);
    }

pub returns : goal.returns
returns c = λ s.
    c.loop-to.invariant.done s ∙ rw (c.in_default.ensures.none s) (ap (λ b. b && is_asked_by c.args.self.now (repeat_of c.args.p.now) c.args.shift s) (whole (has c.args.targets s)))
