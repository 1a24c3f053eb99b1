use Rattle.std.proofs.Common.{◌≡◌, false, sym, subst}
use Rattle.rules_model.specs.declared.rules.Rules.{Rules}
use Rattle.forced_wins.specs.Wins.{wins}
use Rattle.game_play.specs.Played.{story}
use Rattle.mate_search.proofs.HandedLaws.{handed_more}
use Rattle.mate_showing.proofs.Root.{frame-blocked, not-won}
use Rattle.mate_search.proofs.solving.settle_alone.Goals as goal

pub returns-then-is_refuted-clause-right : goal.returns-then-is_refuted-clause-right
returns-then-is_refuted-clause-right g c =
    let f = c.args.shards.now.frame in
    let game = story c.args.game.now in
    let bl = frame-blocked c.args.game.now f c.requires.frame in
    subst (λ (x : Rules). wins x c.args.n game f.attacker ≡ false) c.requires.frame.rules
    (not-won f game bl c.args.n (sym (c.is_refuted.ensures.lost c.if-is_refuted.true)))

pub returns-in-Ok-clause-handed : goal.returns-in-Ok-clause-handed
returns-in-Ok-clause-handed g c = handed_more c.args.shards.now _ _ _ c.is_refuted.ensures.handed c.conclude_grown-end.ensures.handed

pub returns-in-Err-Fault-clause-handed : goal.returns-in-Err-Fault-clause-handed
returns-in-Err-Fault-clause-handed g c = handed_more c.args.shards.now _ _ _ c.is_refuted.ensures.handed c.conclude_grown-end.ensures.handed
