use Rattle.std.proofs.Common.{◌∙◌, Some, Ok, ap, sym}
use Rattle.std.specs.Prelude.{codes}
use Rattle.game_play.specs.Played.{Played}
use Rattle.variant_rules.specs.Entries.{found}
use Rattle.session_model.specs.CecpState.{state_by}
use Rattle.cecp_front.proofs.SessionLaws.{begins, found_chess, has_chess, started_again}
use Rattle.cecp_front.proofs.session.CecpSession.new.Goals as goal

pub unreachable-requires : goal.unreachable-requires
unreachable-requires c =
    let chess = has_chess c.args.sections c.requires.begins in
    found_chess c.find.result chess.0
    (c.find.ensures.is ∙ ap (λ variants. found variants (codes "chess")) c.requires.loaded ∙ chess.1) c.in-Refused.is

pub another-requires : goal.another-requires
another-requires c =
    record { sound = rw (c.rules.ensures, c.in_ok-chess-in-Rules.ensures) c.in-Rules.ensures.playable.start }

pub invariant_of-result : goal.invariant_of-result
invariant_of-result c = record {
  judged = c.requires.loaded;
  is_chess =
      sym (ap (λ variants. found variants (codes "chess")) c.requires.loaded) ∙ sym c.in-Rules.ensures.is
      ∙ ap (λ (g : Played). Some (Ok g.rules)) (sym c.in_ok-chess-in-Rules.ensures);
  start = rw c.in_ok-chess-in-Rules.ensures c.in-Rules.ensures.playable.start;
}

pub returns : goal.returns
returns c =
    let game_is =
    started_again c.in-Rules.rules.now c.rules.result.now c.in_ok-chess-in-Rules.chess c.in_ok-game.game
    c.in_ok-chess-in-Rules.ensures c.rules.ensures c.in_ok-game.ensures in
    begins c.args.sections c.in-Rules.rules.now
    (sym (ap (λ variants. found variants (codes "chess")) c.requires.loaded) ∙ sym c.in-Rules.ensures.is)
    ∙ ap (λ game. Some (record (state_by c.args.sections c.in-Rules.rules.now) { game = game })) (sym game_is)
