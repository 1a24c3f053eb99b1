-- A position by the rules that are played.
use Rattle.std.specs.Prelude.{◌≡◌, true, false, List}
use Rattle.foundation.specs.Member.{Member}
use Rattle.rules_model.specs.declared.board.Position.{Position}
use Rattle.rules_model.specs.declared.board.Repeat.{Repeat}
use Rattle.rules_model.specs.declared.moves.Move.{Move}
use Rattle.rules_model.specs.declared.moves.Outcome.{Outcome}
use Rattle.rules_model.specs.declared.rules.Rules.{Rules}
use Rattle.rules_model.specs.Ends.{early_end}
use Rattle.rules_model.specs.Legal.{legal}
use Rattle.rules_model.specs.Next.{captures, next}
use Rattle.rules_model.specs.Repeats.{repeat_of}
use Rattle.rules_model.specs.Sound.{is_sound}

-- the rules, and a position by them
pub record Stance : Type 0 where
  pub rules : Rules
  pub position : Position

-- what a repetition compares of it
abbrev pub repeat_in : Stance → Repeat
repeat_in s = repeat_of s.position

-- its legal moves
abbrev pub legal_in : Stance → List Move
legal_in s = legal s.rules (repeat_in s)

-- the move is legal in it, and captures
abbrev pub IsCaptureIn : Stance → Move → Type 0
IsCaptureIn s m = Member m (legal_in s) × (captures s.rules (repeat_in s) m ≡ true)

-- it is legal in it, and does not capture
abbrev pub IsOtherIn : Stance → Move → Type 0
IsOtherIn s m = Member m (legal_in s) × (captures s.rules (repeat_in s) m ≡ false)

-- the stance after a move
abbrev pub after : Stance → Move → Stance
after s m = record { rules = s.rules; position = next s.rules s.position m }

-- the position is sound, and this is its early end
pub record IsKnown (rules : Rules) (position : Position) (early : Outcome) : Type 0 where
  pub sound : is_sound rules position ≡ true
  pub is_early : early ≡ early_end rules (repeat_of position)
