-- What `stipulate` prints of a game.
use Rattle.std.specs.Prelude.{ℕ, Bool, false, true, List, Option, None, Some, codes}
use Rattle.game_play.specs.Played.{Played, story}
use Rattle.stipulation.specs.declared.cert.Step.{Step}
use Rattle.stipulation.specs.Searches.{help_found, self_found}
use Rattle.cert_text.specs.Writing.{cert_text}

-- the text of the certificate that was found: of a helpmate, or else of a selfmate
abbrev pub cert_or_none : Bool → Option (List Step) → List ℕ
cert_or_none help None = codes "none\n"
cert_or_none help (Some steps) = cert_text help steps

-- `stipulate self N`: a selfmate of the side that is to move, within this number of moves
unfoldable pub self_mate_of : ℕ → Played → List ℕ
self_mate_of moves g = cert_or_none false (self_found g.rules moves (story g))

-- `stipulate help N`: a helpmate within this number of moves of each side
unfoldable pub help_mate_of : ℕ → Played → List ℕ
help_mate_of moves g = cert_or_none true (help_found g.rules moves (story g))
