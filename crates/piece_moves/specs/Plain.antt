-- Pieces each of whose moves goes to a square and does nothing else.
use Rattle.std.specs.Prelude.{Bool, ◌&&◌, ◌||◌, not, is_none}
use Rattle.rules_model.specs.declared.board.Kind.{Kind}
use Rattle.rules_model.specs.declared.board.Repeat.{Repeat}
use Rattle.rules_model.specs.declared.board.Wing.TheVariants.{Kingside, Queenside}
use Rattle.rules_model.specs.declared.rules.Rules.{Rules}
use Rattle.rules_model.specs.Castling.{holds_right}
use Rattle.rules_model.specs.Kinds.{names, promoted_of}

-- the mover holds a castling right
abbrev pub holds_a_right : Repeat → Bool
holds_a_right r = holds_right r.rights r.side Kingside || holds_right r.rights r.side Queenside

-- the kind is not the king, or the mover holds no castling right; and it has no promoted kind
abbrev pub is_plain : Rules → Repeat → Kind → Bool
is_plain rules r kind = not (names rules.king kind && holds_a_right r) && is_none (promoted_of rules kind)
