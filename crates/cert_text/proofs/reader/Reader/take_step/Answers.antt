use Rattle.std.proofs.Common.{◌≡◌, ◌+◌, ◌-◌, ◌≤◌, length, take, inl, inr, refl, ap, ◌∙◌, arith}
use Rattle.std.proofs.lemmas.Grind.{common_steps}
use Rattle.std.proofs.lemmas.List.{length-take}
use Rattle.cert_text.specs.declared.reader.Reader.{Reader}
use Rattle.cert_text.proofs.PathLemmas.{step-bad, step-long, step-named, step-path, step-unnamed}
use Rattle.cert_text.proofs.reader.Reader.take_step.Goals as goal
use Rattle.cert_text.proofs.reader.Reader.take_step.Goals.{then-ply-eq0-via-then-ply-eq0, then-ply-eq0-via-else-ply-eq0+then-from-len}

pub returns-then-ply-eq0-clause-takes : goal.returns-then-ply-eq0-clause-takes
returns-then-ply-eq0-clause-takes c =
    let bad = step-bad c.args.game.now c.args.self.now c.args.ply c.args.text.now c.requires.path in
    elim c.then-ply-eq0.branch [
      | then-ply-eq0-via-then-ply-eq0 w ↦ bad (inl (grind (arith, common_steps)))
      | then-ply-eq0-via-else-ply-eq0+then-from-len w ↦ bad (inr (grind (arith, common_steps)))
    ]

pub returns-in_default-clause-takes : goal.returns-in_default-clause-takes
returns-in_default-clause-takes c =
    let low : 1 ≤ c.args.ply = grind (arith, common_steps) in
    let high : c.args.ply ≤ length c.args.self.now.path + 1 = grind (arith, common_steps) in
    step-unnamed c.args.game.now c.args.self.now c.args.ply c.args.text.now c.requires.path low high c.cut.new.self (c.cut.ensures ∙ ap (λ p. take (p - 1) c.args.self.now.path) c.from-2.ensures)
    c.move_after.result c.in_default.not-Some c.move_after.ensures.is

pub returns-clause-takes : goal.returns-clause-takes
returns-clause-takes c =
    let now : Reader = record { line = c.args.self.now.line; steps = c.push-2.new.self; path = c.push.new.self; is_ended = c.args.self.now.is_ended } in
    let low : 1 ≤ c.args.ply = grind (arith, common_steps) in
    let high : c.args.ply ≤ length c.args.self.now.path + 1 = grind (arith, common_steps) in
    step-named c.args.game.now c.args.self.now c.args.ply c.args.text.now c.requires.path low high c.cut.new.self (c.cut.ensures ∙ ap (λ p. take (p - 1) c.args.self.now.path) c.from-2.ensures)
    c.in-Some.chosen now c.in_ok-push-2.ensures.items refl refl c.move_after.result c.in-Some.is c.move_after.ensures.is

pub returns-clause-path : goal.returns-clause-path
returns-clause-path c =
    let now : Reader = record { line = c.args.self.now.line; steps = c.push-2.new.self; path = c.push.new.self; is_ended = c.args.self.now.is_ended } in
    let low : 1 ≤ c.args.ply = grind (arith, common_steps) in
    let high : c.args.ply ≤ length c.args.self.now.path + 1 = grind (arith, common_steps) in
    let cut_is = c.cut.ensures ∙ ap (λ p. take (p - 1) c.args.self.now.path) c.from-2.ensures in
    let cut_long : length c.cut.new.self ≡ c.args.ply - 1 = let long = ap length cut_is ∙ length-take (c.args.ply - 1) c.args.self.now.path in omega (arith, long, low, high) in
    record {
      sound = c.push.ensures.sound;
      leads = step-path c.args.game.now c.args.self.now c.args.ply c.args.text.now c.requires.path low high c.cut.new.self cut_is c.in-Some.chosen now c.in_ok-push-2.ensures.items
          c.in_ok-push.ensures.more c.in_ok-push.ensures.before c.in_ok-push.ensures.played;
      long = step-long c.args.game.now c.args.self.now c.args.ply c.args.text.now c.requires.path low high c.cut.new.self cut_is c.in-Some.chosen now c.in_ok-push-2.ensures.items cut_long c.in_ok-push.ensures.more;
    }
