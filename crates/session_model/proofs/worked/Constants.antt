-- The numbers of the constants that definitions cite, so that a change of one is seen here.
use Rattle.std.proofs.Common.{◌≡◌, refl}
use Rattle.io_ports.specs.declared.files.TheConstants.{MAX_FILE}
use Rattle.io_ports.specs.declared.line.TheConstants.{MAX_LINE}
use Rattle.variant_ini.specs.declared.reading.TheConstants.{LONGEST_LINE}
use Rattle.game_play.specs.declared.game.TheConstants.{MOST_PLIES}
use Rattle.session_model.specs.declared.limits.TheConstants.{LEAST_MATE, MOST_DEPTH, MOST_MATE, SHORT_DEPTH, WON}
use Rattle.session_model.specs.declared.options.TheConstants.{DEFAULT_HASH, DEFAULT_MATE_FACTS, DEFAULT_THREADS, LEAST_HASH, LEAST_MATE_FACTS, LEAST_THREADS, MOST_HASH, MOST_MATE_FACTS, MOST_THREADS}

-- bytes of a file, of a line of the input without its end, and of a line of a file of variants
file_bytes : MAX_FILE ≡ 1048576
file_bytes = refl

line_bytes : MAX_LINE ≡ 131072
line_bytes = refl

variant_line_bytes : LONGEST_LINE ≡ 1024
variant_line_bytes = refl

-- plies of a game
plies : MOST_PLIES ≡ 8192
plies = refl

-- of searches
deepest : MOST_DEPTH ≡ 64
deepest = refl

untimed : SHORT_DEPTH ≡ 4
untimed = refl

longest_mate : MOST_MATE ≡ 100
longest_mate = refl

-- values: from which on one stands for a mate, and that of a game that is won
mate_value : LEAST_MATE ≡ 31000
mate_value = refl

won_value : WON ≡ 32000
won_value = refl

-- of options
threads : (DEFAULT_THREADS ≡ 1) × (LEAST_THREADS ≡ 1) × (MOST_THREADS ≡ 64)
threads = (refl, refl, refl)

hash : (DEFAULT_HASH ≡ 16) × (LEAST_HASH ≡ 1) × (MOST_HASH ≡ 1024)
hash = (refl, refl, refl)

mate_facts : (DEFAULT_MATE_FACTS ≡ 4096) × (LEAST_MATE_FACTS ≡ 16) × (MOST_MATE_FACTS ≡ 65536)
mate_facts = (refl, refl, refl)
