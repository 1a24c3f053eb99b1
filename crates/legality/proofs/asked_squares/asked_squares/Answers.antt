use Rattle.std.proofs.Common.{◌==◌, ℕ, not, refl, sym, ◌∙◌, subst}
use Rattle.std.proofs.lemmas.Bool.{OnTrue_at, and_parts}
use Rattle.rules_model.proofs.CandidateLaws.{not_both}
use Rattle.rules_model.specs.Repeats.{repeat_of}
use Rattle.square_set.specs.Members.{has}
use Rattle.square_set.proofs.Cases.{by_equal}
use Rattle.piece_moves.specs.InTurn.{start_of}
use Rattle.piece_moves.proofs.PartLemmas.{from_piece}
use Rattle.legality.specs.AskedSquares.{AsksNoneFrom}
use Rattle.legality.proofs.AskedSquaresLaws.{taken_out}
use Rattle.legality.proofs.asked_squares.asked_squares.Goals as goal

pub loop-from-init : goal.loop-from-init
loop-from-init c =
    let pieces = c.own_pieces-pieces in
    let are = pieces.ensures.are _ _ _ c.requires in
    let board = c.sets_are_on_board.ensures _ _ _ _ c.prove_position_sizes.ensures.cells c.requires in
    record {
      small = λ s e. board.own s (pieces.ensures.within s (and_parts (has pieces.result s) (has c.args.asked.now.shut s) (sym (c.and-left.ensures s) ∙ e)).0);
      own = λ s e. sym (are s) ∙ (and_parts (has pieces.result s) (has c.args.asked.now.shut s) (sym (c.and-left.ensures s) ∙ e)).0;
      shut = λ s e. (and_parts (has pieces.result s) (has c.args.asked.now.shut s) (sym (c.and-left.ensures s) ∙ e)).1;
      none = λ s e f. absurd (not_both (has pieces.result s) e f);
    }

pub loop-from-preserved-then-asks_none_from : goal.loop-from-preserved-then-asks_none_from
loop-from-preserved-then-asks_none_from c =
    let from = c.in-Some.from in
    let None : ℕ → Type 0 = AsksNoneFrom c.args.asked.now c.args.tables.now (repeat_of c.args.p.now) in
    record {
      small = λ s e. c.loop-from.invariant.small s (and_parts (has c.loop-from.left s) (not (s == from)) (sym (c.in-Some.ensures.rest s) ∙ e)).0;
      own = λ s e. c.loop-from.invariant.own s (and_parts (has c.loop-from.left s) (not (s == from)) (sym (c.in-Some.ensures.rest s) ∙ e)).0;
      shut = λ s e. c.loop-from.invariant.shut s (and_parts (has c.loop-from.left s) (not (s == from)) (sym (c.in-Some.ensures.rest s) ∙ e)).0;
      none = λ s e f.
          by_equal s from (None s)
          (λ q g. subst None (sym g) (OnTrue_at c.if-asks_none_from.true c.asks_none_from.ensures))
          (λ q g. c.loop-from.invariant.none s e (taken_out (has c.loop-from.squares s) (s == from) (sym (c.without-squares.ensures s) ∙ f) q));
    }

pub loop-from-preserved : goal.loop-from-preserved
loop-from-preserved c =
    let from = c.in-Some.from in
    record {
      small = λ s e. c.loop-from.invariant.small s (and_parts (has c.loop-from.left s) (not (s == from)) (sym (c.in-Some.ensures.rest s) ∙ e)).0;
      own = λ s e. c.loop-from.invariant.own s (and_parts (has c.loop-from.left s) (not (s == from)) (sym (c.in-Some.ensures.rest s) ∙ e)).0;
      shut = λ s e. c.loop-from.invariant.shut s (and_parts (has c.loop-from.left s) (not (s == from)) (sym (c.in-Some.ensures.rest s) ∙ e)).0;
      none = c.loop-from.invariant.none;
    }

pub returns : goal.returns
returns c = λ m h e.
    let are = c.own_pieces-pieces.ensures.are _ _ _ c.requires in
    c.loop-from.invariant.none (start_of m) (from_piece _ _ _ are m h) e m h refl
