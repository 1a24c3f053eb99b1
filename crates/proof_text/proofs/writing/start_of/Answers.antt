use Rattle.std.proofs.Common.{◌≡◌, true, get_or, sym, ap, subst, ◌∙◌, arith}
use Rattle.std.specs.Prelude.{List, length}
use Rattle.rules_model.specs.declared.board.Position.{Position}
use Rattle.rules_model.specs.Sound.{is_sound}
use Rattle.proof_text.proofs.WriteLemmas.{start-first, some-history}
use Rattle.proof_text.proofs.writing.start_of.Goals as goal

pub first_of-requires : goal.first_of-requires
first_of-requires c = omega (arith, ap length c.history.ensures, some-history c.args.game.now)

pub returns-clause-is : goal.returns-clause-is
returns-clause-is c =
    let g = c.args.game.now in
    c.first_of.ensures g.start
    ∙ ap (λ (ps : List Position). get_or ps 0 g.start) c.history.ensures
    ∙ start-first g g.start

pub returns-clause-sound : goal.returns-clause-sound
returns-clause-sound c =
    let g = c.args.game.now in
    let is =
    c.first_of.ensures g.start
    ∙ ap (λ (ps : List Position). get_or ps 0 g.start) c.history.ensures
    ∙ start-first g g.start in
    subst (λ (p : Position). is_sound g.rules p ≡ true) (sym is) c.prove_played.ensures.game.sound
