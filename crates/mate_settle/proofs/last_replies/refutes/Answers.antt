use Rattle.std.proofs.Common.{rules, ◌≡◌, false, sym, refl, ◌∙◌, ap, subst}
use Rattle.std.proofs.lemmas.Bool.{OnTrue_from, not-true}
use Rattle.rules_model.specs.declared.rules.Rules.{Rules}
use Rattle.rules_model.specs.Repeats.{repeat_of}
use Rattle.rules_model.specs.Legal.{own_end}
use Rattle.legality.specs.Stance.{Stance}
use Rattle.mate_fact.specs.InFrame as In
use Rattle.mate_settle.specs.Refuters.{IsRefuter}
use Rattle.mate_settle.proofs.LastMoves.{own-ongoing, turn-back}
use Rattle.mate_settle.proofs.Settled.{after-is, told-asked}
use Rattle.mate_settle.proofs.last_replies.refutes.Goals as goal

pub end_of-ended-requires : goal.end_of-ended-requires
end_of-ended-requires c =
    let s = c.args.board.now in
    let on = ap (λ (x : Rules). own_end x (repeat_of s.position)) (sym c.requires.rules) ∙ own-ongoing s.rules (repeat_of s.position) c.args.reply (c.if-not-is_legal.ensures.member.0 refl) in
    record { own = search rules }

pub by_one_move-requires-clause-turn : goal.by_one_move-requires-clause-turn
by_one_move-requires-clause-turn c =
    let f = c.args.frame.now in
    let p = c.args.board.now.position in
    let m = c.args.reply in
    turn-back f p c.asked_after-next.result.position m (after-is f.rules f c.args.board.now c.asked_after-next.result m c.requires.rules c.asked_after-next.ensures) c.requires.turn

pub returns-clause-refutes : goal.returns-clause-refutes
returns-clause-refutes c =
    let f = c.args.frame.now in
    OnTrue_from _ _ (λ told.
    let is : IsRefuter f c.args.board.now c.args.reply = record {
      ongoing = search rules;
      legal = c.if-not-is_legal.ensures.member.0 refl;
      lost = subst (λ (t : Stance). In.near_in f 1 t.position ≡ false) c.asked_after-next.ensures (told-asked f c.asked_after-next.result.position 1 c.in_ok-last.last.told c.in_ok-last.ensures.told ∙ not-true c.in_ok-last.last.told.wins told);
    } in
    is)
