use Rattle.std.proofs.Common.{◌≡◌, true, false, sym, ◌∙◌, subst, rules}
use Rattle.rules_model.specs.declared.board.Position.{Position}
use Rattle.rules_model.specs.Repeats.{repeat_of}
use Rattle.forced_wins.specs.Facts.{serves}
use Rattle.forced_wins.specs.Wins.{is_in}
use Rattle.game_play.specs.Played.{story}
use Rattle.mate_core.specs.declared.frame.Frame.{Frame}
use Rattle.mate_fact.specs.InFrame.{near_in}
use Rattle.mate_search.proofs.HandedLaws.{root-near}
use Rattle.mate_showing.proofs.Root.{frame-blocked}
use Rattle.mate_search.proofs.shared_root.publish_root.Goals as goal

pub fact_on-fact-requires : goal.fact_on-fact-requires
fact_on-fact-requires g c =
    let s = c.args.shards.now in
    let p = c.position-p.result.now in
    let here : is_in s.frame.blocked (repeat_of p) ≡ false = search rules in
    let bl = frame-blocked c.args.game.now s.frame c.requires.frame in
    let near : near_in s.frame c.args.n p ≡ c.args.verdict.won = root-near s.frame (story c.args.game.now) c.args.n p bl c.position-p.ensures.is here ∙ sym c.requires.won in
    subst (λ (x : Frame). near_in x c.args.n p ≡ c.args.verdict.won) (sym c.frame-frame.ensures) near

pub returns-then-not-is_blocked-clause-handed : goal.returns-then-not-is_blocked-clause-handed
returns-then-not-is_blocked-clause-handed g c =
    record { passes = c.publish.ensures.passes; parts = c.publish.ensures.parts; grown = c.publish.ensures.grown }

pub returns-then-not-is_blocked-clause-shared : goal.returns-then-not-is_blocked-clause-shared
returns-then-not-is_blocked-clause-shared g c = λ free.
    let f = c.fact_on-fact.result in
    let last : Position = (story c.args.game.now).last in
    let e : c.position-p.result.now ≡ last = c.position-p.ensures.is in
    let served : serves f (repeat_of last) last.counter c.args.n ≡ true = subst (λ (y : Position). serves f (repeat_of y) y.counter c.args.n ≡ true) e c.fact_on-fact.ensures.serves in
    let seen = c.publish.ensures.known (repeat_of last) last.counter c.args.n served in
    (f.wins, seen)
