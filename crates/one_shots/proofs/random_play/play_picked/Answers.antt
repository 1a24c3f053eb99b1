use Rattle.std.proofs.Common.{◌≡◌, ◌%◌, List, Some, length, slice_get, ap, sym, ◌∙◌, subst, rules}
use Rattle.rand_pcg.specs.Pcg.{pcg32}
use Rattle.rules_model.specs.declared.moves.Move.{Move}
use Rattle.game_play.specs.Played.{Played, legal_in}
use Rattle.one_shots.specs.Generate.{random_game}
use Rattle.one_shots.proofs.StepLemmas.{stepped, stuck}
use Rattle.one_shots.proofs.random_play.play_picked.Goals as goal

pub returns-in-Ok-clause-plays : goal.returns-in-Ok-clause-plays
returns-in-Ok-clause-plays c =
    let viewed : c.as_slice.result.now ≡ c.in_ok-moves.moves = search rules in
    let same : c.as_slice.result.now ≡ legal_in c.args.game.now = viewed ∙ (rw (c.rules.ensures, c.position.ensures.is) at c.in_ok-moves.ensures) in
    λ plies. stepped c.args.generator.now c.picked.new.generator c.args.game.now c.in-Some.m c.requires.ongoing c.in-Some.ensures.1
    (subst (λ (ms : List Move). slice_get ms ((pcg32 c.args.generator.now).0 % length ms) ≡ Some c.in-Some.m) same c.in-Some.ensures.0) plies
    ∙ ap (λ (g : Played). random_game plies c.picked.new.generator g) (sym c.in-Ok.ensures.played)

pub returns-clause-plays : goal.returns-clause-plays
returns-clause-plays c =
    let viewed : c.as_slice.result.now ≡ c.in_ok-moves.moves = search rules in
    let same : c.as_slice.result.now ≡ legal_in c.args.game.now = viewed ∙ (rw (c.rules.ensures, c.position.ensures.is) at c.in_ok-moves.ensures) in
    stuck c.args.generator.now c.args.game.now c.requires.ongoing (sym same ∙ c.in-None.ensures)
