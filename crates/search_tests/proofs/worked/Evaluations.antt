-- The worth of kinds and of positions of chess.
use Rattle.std.proofs.Common.{◌≡◌, true, false, pos, negsuc, refl, set}
use Rattle.rules_model.specs.declared.board.Side.TheVariants.{White, Black}
use Rattle.rules_model.specs.declared.rules.Way.TheVariants.{Lame, Slide, Hop}
use Rattle.foundation.specs.Count.{below}
use Rattle.sample_rules.specs.Base.{empty}
use Rattle.sample_rules.specs.Chess.{chess}
use Rattle.sample_rules.specs.Positions.{man}
use Rattle.sample_rules.proofs.Fits.{opened}
use Rattle.evaluation.specs.Evaluation.{term_worth, kind_worth, square_worth, worth_on, board_worth, hand_worth, evaluation, clamped}

unfoldable worth_opened : Unit {0}
unfolding opened chess below term_worth kind_worth square_worth worth_on board_worth hand_worth evaluation
worth_opened = tt

-- ---- kinds

knight : kind_worth chess (record { 0 = 13 }) ≡ 300
unfolding worth_opened
knight = refl

bishop : kind_worth chess (record { 0 = 1 }) ≡ 320
unfolding worth_opened
bishop = refl

rook : kind_worth chess (record { 0 = 17 }) ≡ 500
unfolding worth_opened
rook = refl

queen : kind_worth chess (record { 0 = 16 }) ≡ 800
unfolding worth_opened
queen = refl

king : kind_worth chess (record { 0 = 10 }) ≡ 0
unfolding worth_opened
king = refl

pawn : kind_worth chess (record { 0 = 15 }) ≡ 100
unfolding worth_opened
pawn = refl

-- ---- terms

-- a lame step that takes alone: half of 25, rounded down
lame_taking : term_worth (record { dx = pos 2; dy = pos 1; way = Lame; limit = 1; quiet = false; takes = true }) ≡ 12
unfolding worth_opened
lame_taking = refl

hop_both : term_worth (record { dx = pos 1; dy = pos 0; way = Hop; limit = 11; quiet = true; takes = true }) ≡ 60
unfolding worth_opened
hop_both = refl

-- a slide of three squares along a rank: 35 and twice 17
short_slide : term_worth (record { dx = negsuc 0; dy = pos 0; way = Slide; limit = 3; quiet = true; takes = true }) ≡ 69
unfolding worth_opened
short_slide = refl

short_diagonal : term_worth (record { dx = negsuc 0; dy = pos 1; way = Slide; limit = 3; quiet = true; takes = true }) ≡ 51
unfolding worth_opened
short_diagonal = refl

-- ---- positions

-- kings on e1 and e8, a white knight on c3: 300 and 4 times 2 + 2
with_knight : evaluation chess (record empty {
  cells = set (set (set empty.cells 4 (man White 10)) 88 (man Black 10)) 26 (man White 13);
  side = White;
}) ≡ pos 316
unfolding worth_opened
with_knight = refl

-- the same for the other side to move
others_view : evaluation chess (record empty {
  cells = set (set (set empty.cells 4 (man White 10)) 88 (man Black 10)) 26 (man White 13);
  side = Black;
}) ≡ negsuc 315
unfolding worth_opened
others_view = refl

most : clamped (pos 30001) ≡ pos 30000
most = refl

least : clamped (negsuc 30000) ≡ negsuc 29999
least = refl
