use Rattle.std.proofs.Common.{◌≡◌, Bool, true, false, not, Some, None, ap, sym, ◌∙◌, subst, rules}
use Rattle.rules_model.specs.declared.board.Position.{Position}
use Rattle.rules_model.specs.Repeats.{repeat_of}
use Rattle.forced_wins.specs.Wins.{is_in}
use Rattle.game_play.specs.Played.{story}
use Rattle.mate_settle.proofs.Settled.{told}
use Rattle.mate_shards.specs.Answers.{SeeAnswer, kind_of}
use Rattle.mate_search.proofs.HandedLaws.{root-near}
use Rattle.mate_showing.proofs.Root.{frame-blocked, lost_by}
use Rattle.mate_search.proofs.shared_root.is_refuted.Goals as goal

pub returns-in-Some-clause-handed : goal.returns-in-Some-clause-handed
returns-in-Some-clause-handed g c =
    record { passes = c.look.ensures.passes; parts = c.look.ensures.parts; grown = c.look.ensures.grown }

pub returns-in-Some-clause-known : goal.returns-in-Some-clause-known
returns-in-Some-clause-known g c =
    let s = c.args.shards.now in
    let n = c.args.n in
    let p = c.position-p.result.now in
    let last : Position = (story c.args.game.now).last in
    let e : p ≡ last = c.position-p.ensures.is in
    let here : is_in s.frame.blocked (repeat_of p) ≡ false = search rules in
    let free : is_in s.frame.blocked (repeat_of last) ≡ false = subst (λ (y : Position). is_in s.frame.blocked (repeat_of y) ≡ false) e here in
    let at : Position → Type 0 = λ y. SeeAnswer s c.look.new.passes false (repeat_of y) y.counter n in
    let w = c.in-Some.fact.wins in
    let kind : kind_of c.look.result ≡ Some w = ap kind_of c.in-Some.is in (
      (λ r. record { free = free; refuted = subst at e ((c.look.ensures.known false).0 (kind ∙ ap (λ (b : Bool). Some b) (lost_by w r))) }),
      (λ h.
          let lost : kind_of c.look.result ≡ Some false = (c.look.ensures.known false).1 (subst at (sym e) h.refuted) in
          let same : w ≡ false = cc in
          ap not same),
    )

pub returns-in-Some-clause-lost : goal.returns-in-Some-clause-lost
returns-in-Some-clause-lost g c = λ r.
    let s = c.args.shards.now in
    let n = c.args.n in
    let p = c.position-p.result.now in
    let here : is_in s.frame.blocked (repeat_of p) ≡ false = search rules in
    let bl = frame-blocked c.args.game.now s.frame c.requires.frame in
    let f = c.in-Some.fact in
    let known = told s.frame f p n c.in-Some.ensures.truth c.in-Some.ensures.serves in
    sym (root-near s.frame (story c.args.game.now) n p bl c.position-p.ensures.is here) ∙ known.asked ∙ lost_by f.wins r

pub returns-in-None-clause-handed : goal.returns-in-None-clause-handed
returns-in-None-clause-handed g c =
    record { passes = c.look.ensures.passes; parts = c.look.ensures.parts; grown = c.look.ensures.grown }

pub returns-in-None-clause-known : goal.returns-in-None-clause-known
returns-in-None-clause-known g c =
    let s = c.args.shards.now in
    let p = c.position-p.result.now in
    let e : p ≡ (story c.args.game.now).last = c.position-p.ensures.is in
    let at : Position → Type 0 = λ y. SeeAnswer s c.look.new.passes false (repeat_of y) y.counter c.args.n in
    let none : kind_of c.look.result ≡ None = ap kind_of c.in-None.is in (
      (λ r. absurd (let no : ◌≡◌ {A = Bool} false true = r in cc)),
      (λ h. let lost : kind_of c.look.result ≡ Some false = (c.look.ensures.known false).1 (subst at (sym e) h.refuted) in absurd (cc)),
    )
