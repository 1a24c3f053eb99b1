use Rattle.std.proofs.Common.{true, subst, sym}
use Rattle.std.proofs.lemmas.Bool.{OnTrue_at, OnTrue_from}
use Rattle.check_moves.specs.Flights.{AreFlights, IsMet}
use Rattle.check_moves.specs.Replies.{AreReplies}
use Rattle.game_line.specs.Lined.{story_of_line}
use Rattle.rules_model.specs.Repeats.{repeat_of}
use Rattle.rules_model.proofs.LegalLaws.{legal-member}
use Rattle.negamax.specs.Settling.{AreKnown, GoesOn}
use Rattle.negamax.proofs.SettledLaws.{goes_on_met}
use Rattle.negamax.proofs.settling.Settling.goes_on.Goals as goal

pub meets-requires-clause-move_fits : goal.meets-requires-clause-move_fits
meets-requires-clause-move_fits c =
    (legal-member c.args.line.now.rules (repeat_of (story_of_line c.args.line.now).last) c.args.m.now c.requires.legal).0

pub meets-requires-clause-flights : goal.meets-requires-clause-flights
meets-requires-clause-flights c =
    subst (λ s. AreFlights s c.args.self.now.flights) (sym c.board.ensures) (OnTrue_at c.if-not-sure.false c.requires.known).steps

pub returns-then-meets-clause-known : goal.returns-then-meets-clause-known
returns-then-meets-clause-known c =
    let known = OnTrue_at c.if-not-sure.false c.requires.known in
    OnTrue_from _ (AreKnown c.args.line.now c.meets.new.self c.args.self.now.replies) (λ told. record {
      ends = known.ends;
      steps = subst (λ s. AreFlights s c.meets.new.self) c.board.ensures c.meets.ensures.kept;
      leaps = known.leaps;
    })

pub returns-then-meets-clause-on : goal.returns-then-meets-clause-on
returns-then-meets-clause-on c = OnTrue_from true (GoesOn c.args.line.now c.args.m.now) (λ told.
    let met = subst (λ s. IsMet s c.args.m.now) c.board.ensures (OnTrue_at c.if-meets.true c.meets.ensures.met) in
    goes_on_met c.args.line.now c.args.m.now (OnTrue_at c.if-not-sure.false c.requires.known).ends met)

pub replies_in-replies-requires : goal.replies_in-replies-requires
replies_in-replies-requires c =
    let known = OnTrue_at c.if-not-sure.false c.requires.known in
    record {
      known = record {
        ends = known.ends;
        steps = subst (λ s. AreFlights s c.meets.new.self) c.board.ensures c.meets.ensures.kept;
        leaps = known.leaps;
      };
    }

pub meets-requires-2-clause-move_fits : goal.meets-requires-2-clause-move_fits
meets-requires-2-clause-move_fits c =
    (legal-member c.args.line.now.rules (repeat_of (story_of_line c.args.line.now).last) c.args.m.now c.requires.legal).0

pub meets-requires-2-clause-replies : goal.meets-requires-2-clause-replies
meets-requires-2-clause-replies c = subst (λ s. AreReplies s c.replies_in-replies.result) (sym c.board-2.ensures) c.replies_in-replies.ensures.found

pub returns-clause-known : goal.returns-clause-known
returns-clause-known c =
    OnTrue_from _ (AreKnown c.args.line.now c.replies_in-replies.new.self.flights c.replies_in-replies.new.self.replies) (λ told. c.replies_in-replies.ensures.known)

pub returns-clause-on : goal.returns-clause-on
returns-clause-on c = OnTrue_from _ (GoesOn c.args.line.now c.args.m.now) (λ told.
    let met = subst (λ s. IsMet s c.args.m.now) c.board-2.ensures (OnTrue_at told c.meets-2.ensures) in
    goes_on_met c.args.line.now c.args.m.now (OnTrue_at c.if-not-sure.false c.requires.known).ends met)
