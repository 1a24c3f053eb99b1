-- En passant that exposes the king along the rank is not allowed; without the rook it is.
use Rattle.std.proofs.Common.{◌≡◌, true, false, List, Option, Some, None, refl, set}
use Rattle.rules_model.specs.declared.board.Cell.{Cell}
use Rattle.rules_model.specs.declared.board.Repeat.{Repeat}
use Rattle.rules_model.specs.declared.board.Side.TheVariants.{White, Black}
use Rattle.rules_model.specs.declared.moves.Move.{Move}
use Rattle.rules_model.specs.declared.moves.Move.TheVariants.{Go}
use Rattle.rules_model.specs.declared.moves.Promo.TheVariants.{Stays}
use Rattle.rules_model.specs.Candidates.{is_candidate}
use Rattle.rules_model.specs.Next.{next_repeat, captures}
use Rattle.rules_model.specs.Legal.{is_allowed}
use Rattle.rules_model.specs.Sound.{is_sound_repeat}
use Rattle.rules_model.specs.Squares.{cell_at}
use Rattle.rules_model.proofs.worked.Chess.{chess, at, bare, man, stands, empty}
use Rattle.rules_model.proofs.worked.Open.{rules_opened}

-- White: king a5, pawn b5; Black: pawn c5 that came from c7, king g8
abbrev cells : List (Option Cell)
cells = stands White 10 (at 0 4) (stands White 15 (at 1 4) (stands Black 15 (at 2 4) (stands Black 10 (at 6 7) empty)))

abbrev passing : Repeat
passing = record (bare cells White) { ep = Some (at 2 5) }

-- with a black rook on h5
abbrev pinned : Repeat
pinned = record (bare (stands Black 17 (at 7 4) cells) White) { ep = Some (at 2 5) }

abbrev takes : Move
takes = Go (at 1 4) (at 2 5) Stays None

allowed : is_allowed chess passing takes ≡ true
unfolding rules_opened
allowed = refl

candidate : is_candidate chess pinned takes ≡ true
unfolding rules_opened
candidate = refl

not_allowed : is_allowed chess pinned takes ≡ false
unfolding rules_opened
not_allowed = refl

takes_the_pawn : cell_at (next_repeat chess passing takes).cells 50 ≡ None
unfolding rules_opened
takes_the_pawn = refl

captures_it : captures chess passing takes ≡ true
unfolding rules_opened
captures_it = refl

sound : is_sound_repeat chess passing ≡ true
unfolding rules_opened
sound = refl

-- no pawn could take there any more
not_sound : is_sound_repeat chess (record (bare (stands White 10 (at 0 4) (stands Black 15 (at 2 4) (stands Black 10 (at 6 7) empty))) White) { ep = Some (at 2 5) }) ≡ false
unfolding rules_opened
not_sound = refl

-- the double step that came before: the square is set where a pawn could take, and not where none could
abbrev before : Repeat
before = bare (set (set cells 50 None) 74 (Some (man Black 15))) Black

abbrev steps : Move
steps = Go (at 2 6) (at 2 4) Stays None

step_allowed : is_allowed chess before steps ≡ true
unfolding rules_opened
step_allowed = refl

ep_set : (next_repeat chess before steps).ep ≡ Some (at 2 5)
unfolding rules_opened
ep_set = refl

ep_not_set : (next_repeat chess (record before { cells = set before.cells 49 None }) steps).ep ≡ None
unfolding rules_opened
ep_not_set = refl
