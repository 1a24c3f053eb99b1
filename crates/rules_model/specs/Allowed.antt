-- Membership of the legal list, in words.
use Rattle.std.specs.Prelude.{Bool, ◌&&◌, ◌||◌, not}
use Rattle.std.specs.List.{list_any, filter}
use Rattle.rules_model.specs.declared.board.Repeat.{Repeat}
use Rattle.rules_model.specs.declared.moves.Move.{Move}
use Rattle.rules_model.specs.declared.rules.Rules.{Rules}
use Rattle.rules_model.specs.Ends.{is_ongoing, early_end}
use Rattle.rules_model.specs.Next.{captures}
use Rattle.rules_model.specs.Legal.{is_allowed, every_move}

-- some allowed move captures
unfoldable pub can_capture : Rules → Repeat → Bool
can_capture rules r = list_any (captures rules r) (filter (is_allowed rules r) every_move)

-- the move is legal: no early end, it is allowed, and it captures where one must capture and can
unfoldable pub is_legal : Rules → Repeat → Move → Bool
is_legal rules r m =
    is_ongoing (early_end rules r) && is_allowed rules r m
    && (not (rules.must_capture && can_capture rules r) || captures rules r m)
