-- The lines of a session, as the code writes them.
use Rattle.std.specs.Prelude.{ℕ, List, [], Option, Some, None, slice_get, if◌then◌else◌}
use Rattle.variant_rules.specs.Entries.{Named, is_accepted}
use Rattle.rules_model.specs.declared.moves.Move.{Move}
use Rattle.session_model.specs.UciTexts.{best_line, no_best_line, variant_choice}

-- a variant that is refused is no choice
abbrev pub choice_of : Named → List ℕ
choice_of named = if is_accepted named then variant_choice named else []

-- that of the section at a place
abbrev pub choice_in : Option Named → List ℕ
choice_in None = []
choice_in (Some named) = choice_of named

abbrev pub choice_at : List Named → ℕ → List ℕ
choice_at variants place = choice_in (slice_get variants place)

-- the line of the best move, or that there is none
abbrev pub last_line : Option Move → List ℕ
last_line None = no_best_line
last_line (Some best) = best_line best
