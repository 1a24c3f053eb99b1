use Rattle.std.proofs.Common.{◌≡◌, ◌-◌, ◌<◌, ◌≤◌, true, not, Some, None, length, ap, sym, ◌∙◌, subst, arith, rules}
use Rattle.std.specs.List.{All}
use Rattle.std.proofs.lemmas.List.{take_all}
use Rattle.std.proofs.lemmas.List.Elements.{All-more}
use Rattle.foundation.specs.Member.{Member}
use Rattle.rules_model.specs.declared.board.Position.{Position}
use Rattle.rules_model.specs.Games.{result}
use Rattle.rules_model.specs.Sides.{same_side}
use Rattle.forced_wins.specs.Views.{won_by}
use Rattle.game_play.specs.Played.{Played, longer, story}
use Rattle.mate_trials.proofs.PlainLaws.{at-member, back-is, falls, is_none, is_same, leads, led-is, not_same, some-back, wins-ended, wins-none, won-by_none, won-by_one}
use Rattle.mate_trials.proofs.plain.+is_won.Goals as goal

pub returns-in-Some-clause-is : goal.returns-in-Some-clause-is
returns-in-Some-clause-is t c =
    let g = c.args.game.now in
    let a = c.args.attacker in
    let ended : won_by a (result g.rules (story g)) ≡ Some c.in-Some.won = cc in
    sym (wins-ended g.rules a c.args.n (story g) c.in-Some.won ended)

pub returns-then-n-eq0-clause-is : goal.returns-then-n-eq0-clause-is
returns-then-n-eq0-clause-is t c =
    let g = c.args.game.now in
    let a = c.args.attacker in
    let none = is_none c.won_by.result c.in_default.not-Some in
    let ongoing : won_by a (result g.rules (story g)) ≡ None = ap (won_by a) (sym c.outcome.ensures) ∙ sym c.won_by.ensures ∙ none in
    let turn : c.is-attacking.result ≡ same_side (story g).last.side a = c.is-attacking.ensures ∙ ap (λ (p : Position). same_side p.side a) c.position.ensures.is in
    sym (wins-none g.rules a c.args.n (story g) ongoing (sym turn ∙ c.if-attacking.true) c.if-n-eq0.true)

pub is_won-requires : goal.is_won-requires
is_won-requires t c =
    let g = c.args.game.now in
    let a = c.args.attacker in
    let turn : c.is-attacking.result ≡ same_side (story g).last.side a = c.is-attacking.ensures ∙ ap (λ (p : Position). same_side p.side a) c.position.ensures.is in
    let some : c.is-attacking.result ≡ true → 0 < c.args.n = search rules in
    let m = c.index.result.now in
    let forth : c.play.new.game ≡ longer g m = c.in_ok-play.ensures ∙ ap (λ (x : Played). longer x m) c.loop-i.invariant.kept in
    let fall = falls g c.play.new.game m a c.args.n c.moves_left-left.result c.is-attacking.result forth turn some c.moves_left-left.ensures in
    (let d = c.decreases in omega arith, tt)

pub take_back-requires : goal.take_back-requires
take_back-requires t c =
    let g = c.args.game.now in
    let m = c.index.result.now in
    let forth : c.play.new.game ≡ longer g m = c.in_ok-play.ensures ∙ ap (λ (x : Played). longer x m) c.loop-i.invariant.kept in
    some-back g c.play.new.game c.is_won.new.game m forth c.in_ok-won.ensures.kept

pub returns-then-won-attacking-clause-is : goal.returns-then-won-attacking-clause-is
returns-then-won-attacking-clause-is t c =
    let g = c.args.game.now in
    let a = c.args.attacker in
    let none = is_none c.won_by.result c.in_default.not-Some in
    let ongoing : won_by a (result g.rules (story g)) ≡ None = ap (won_by a) (sym c.outcome.ensures) ∙ sym c.won_by.ensures ∙ none in
    let turn : c.is-attacking.result ≡ same_side (story g).last.side a = c.is-attacking.ensures ∙ ap (λ (p : Position). same_side p.side a) c.position.ensures.is in
    let some : c.is-attacking.result ≡ true → 0 < c.args.n = search rules in
    let m = c.index.result.now in
    let ms = c.in_ok-moves.moves.items in
    let low : c.loop-i.i < length ms = omega arith in
    let there : Member m ms = at-member ms c.loop-i.i m low c.index.ensures in
    let forth : c.play.new.game ≡ longer g m = c.in_ok-play.ensures ∙ ap (λ (x : Played). longer x m) c.loop-i.invariant.kept in
    let led = led-is g c.play.new.game m a c.moves_left-left.result c.in_ok-won.won forth c.in_ok-won.ensures.is in
    won-by_one g a c.args.n c.moves_left-left.result c.is-attacking.result m ongoing turn some c.moves_left-left.ensures (subst (λ ns. Member m ns) c.in_ok-moves.ensures there) (led ∙ is_same c.in_ok-won.won c.is-attacking.result c.if-won-attacking.true)

pub returns-then-won-attacking-clause-kept : goal.returns-then-won-attacking-clause-kept
returns-then-won-attacking-clause-kept t c =
    let g = c.args.game.now in
    let m = c.index.result.now in
    let forth : c.play.new.game ≡ longer g m = c.in_ok-play.ensures ∙ ap (λ (x : Played). longer x m) c.loop-i.invariant.kept in
    back-is g c.play.new.game c.is_won.new.game c.take_back.new.game m forth c.in_ok-won.ensures.kept c.take_back.ensures

pub loop-i-preserved : goal.loop-i-preserved
loop-i-preserved t c =
    let g = c.args.game.now in
    let a = c.args.attacker in
    let m = c.index.result.now in
    let ms = c.in_ok-moves.moves.items in
    let low : c.loop-i.i < length ms = omega arith in
    let forth : c.play.new.game ≡ longer g m = c.in_ok-play.ensures ∙ ap (λ (x : Played). longer x m) c.loop-i.invariant.kept in
    let led = led-is g c.play.new.game m a c.moves_left-left.result c.in_ok-won.won forth c.in_ok-won.ensures.is in
    let passes = led ∙ not_same c.in_ok-won.won c.is-attacking.result c.if-won-attacking.false in
    record {
      kept = back-is g c.play.new.game c.is_won.new.game c.take_back.new.game m forth c.in_ok-won.ensures.kept c.take_back.ensures;
      none = All-more (λ x. leads g.rules (story g) a c.moves_left-left.result x ≡ not c.is-attacking.result) ms c.loop-i.i m low c.loop-i.invariant.none
          (subst (λ x. leads g.rules (story g) a c.moves_left-left.result x ≡ not c.is-attacking.result) c.index.ensures passes);
    }

pub returns-clause-is : goal.returns-clause-is
returns-clause-is t c =
    let g = c.args.game.now in
    let a = c.args.attacker in
    let none = is_none c.won_by.result c.in_default.not-Some in
    let ongoing : won_by a (result g.rules (story g)) ≡ None = ap (won_by a) (sym c.outcome.ensures) ∙ sym c.won_by.ensures ∙ none in
    let turn : c.is-attacking.result ≡ same_side (story g).last.side a = c.is-attacking.ensures ∙ ap (λ (p : Position). same_side p.side a) c.position.ensures.is in
    let some : c.is-attacking.result ≡ true → 0 < c.args.n = search rules in
    let ms = c.in_ok-moves.moves.items in
    let whole : length ms ≤ c.loop-i.i = omega arith in
    let all = subst (λ ns. All (λ x. leads g.rules (story g) a c.moves_left-left.result x ≡ not c.is-attacking.result) ns) (take_all c.loop-i.i ms whole) c.loop-i.invariant.none in
    won-by_none g a c.args.n c.moves_left-left.result c.is-attacking.result ms ongoing turn some c.moves_left-left.ensures c.in_ok-moves.ensures all
