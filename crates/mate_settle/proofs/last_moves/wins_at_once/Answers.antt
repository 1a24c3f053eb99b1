use Rattle.std.proofs.Common.{rules, ◌≡◌, false, ap, ◌∙◌}
use Rattle.forced_wins.specs.Views.{won_by}
use Rattle.rules_model.specs.declared.rules.Rules.{Rules}
use Rattle.rules_model.specs.Attacks.{king_attacked}
use Rattle.rules_model.specs.Ends.{early_end}
use Rattle.rules_model.specs.Legal.{own_end}
use Rattle.rules_model.specs.Repeats.{repeat_of}
use Rattle.mate_settle.specs.LastMoves.{is_loss, is_won}
use Rattle.mate_settle.proofs.LastMoves.{at-once, early-at-once}
use Rattle.mate_settle.proofs.last_moves.wins_at_once.Goals as goal

pub returns-then-is_loss : goal.returns-then-is_loss
returns-then-is_loss c =
    let f = c.args.frame.now in
    let p = c.args.board.now.position in
    let is : c.is_won.result ≡ is_won (won_by f.attacker (own_end c.args.board.now.rules (repeat_of p))) = search rules in
    is ∙ ap (λ (x : Rules). is_won (won_by f.attacker (own_end x (repeat_of p)))) c.requires.rules ∙ at-once f p c.requires.movers c.requires.turn

pub returns : goal.returns
returns c =
    let f = c.args.frame.now in
    let p = c.args.board.now.position in
    let is : c.is_won-2.result ≡ is_won (won_by f.attacker (early_end c.args.board.now.rules (repeat_of p))) = search rules in
    let no_loss : is_loss f.rules.stalemate ≡ false = search rules in
    let quiet : king_attacked f.rules p.cells p.side ≡ false = search rules in
    is ∙ ap (λ (x : Rules). is_won (won_by f.attacker (early_end x (repeat_of p)))) c.requires.rules ∙ early-at-once f p c.requires.movers c.requires.turn no_loss quiet
