use Rattle.attack_tables.proofs.pawns.pawn_masks.Goals as goal

pub returns : goal.returns
returns c =
    let shifts = c.spotted_masks-masks.ensures in
    let tells = c.plain_squares-plain.ensures.tells in
    record {
      board = c.plain_squares-plain.ensures.board;
      shifts = record {
        ahead_short = shifts.ahead_short;
        left_short = shifts.left_short;
        right_short = shifts.right_short;
        ahead_some = shifts.ahead_some;
        aside_apart = shifts.aside_apart;
      };
      tells = λ s h. record {
        one = (tells s h).one;
        two = (tells s h).two;
        aside = (tells s h).aside;
        promotes_nowhere = (tells s h).promotes_nowhere;
      };
    }
