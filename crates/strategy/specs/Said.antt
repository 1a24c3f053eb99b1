-- What one line of the text of a strategy says.
use Rattle.std.specs.Prelude.{ℕ, List, Option, None, Some, bytes_eq, codes, if◌then◌else◌}
use Rattle.rules_model.specs.declared.board.Side.{Side}
use Rattle.rules_model.specs.declared.board.Side.TheVariants.{White, Black}
use Rattle.foundation.specs.Numbers.{number_of}
use Rattle.foundation.specs.Cuts.{cut}

-- ---- the header

-- `attacker white` or `attacker black`
unfoldable pub attacker_said : List ℕ → Option Side
attacker_said text =
    if bytes_eq text (codes "attacker white") then Some White
    else if bytes_eq text (codes "attacker black") then Some Black
    else None

abbrev pub count_after : List ℕ → Option (List ℕ) → Option ℕ
count_after word None = None
count_after word (Some number) = if bytes_eq word (codes "nodes") then number_of number else None

-- `nodes N`
unfoldable pub count_said : List ℕ → Option ℕ
count_said text = count_after (cut 32 text).0 (cut 32 text).1

-- ---- the nodes

-- a line of the later ones
pub data Said : Type 0 where
  -- a node's number, its rank and its FEN
  node_line : ℕ → ℕ → List ℕ → Said
  -- the text of a move, and the place of the node that it leads to
  edge_line : List ℕ → ℕ → Said
  end_line : Said

abbrev pub node_with : Option ℕ → Option ℕ → List ℕ → Option Said
node_with None rank fen = None
node_with (Some number) None fen = None
node_with (Some number) (Some rank) fen = Some (node_line number rank fen)

abbrev pub node_ranked : List ℕ → List ℕ → Option (List ℕ) → Option Said
node_ranked number rank None = None
node_ranked number rank (Some fen) = node_with (number_of number) (number_of rank) fen

abbrev pub node_after : List ℕ → Option (List ℕ) → Option Said
node_after number None = None
node_after number (Some rest) = node_ranked number (cut 32 rest).0 (cut 32 rest).1

-- `I RANK FEN`
unfoldable pub node_said : List ℕ → Option Said
node_said text = node_after (cut 32 text).0 (cut 32 text).1

abbrev pub edge_to : List ℕ → Option ℕ → Option Said
edge_to chosen None = None
edge_to chosen (Some to) = Some (edge_line chosen to)

abbrev pub edge_after : List ℕ → Option (List ℕ) → Option Said
edge_after chosen None = None
edge_after chosen (Some to) = edge_to chosen (number_of to)

-- `MOVE TO`
unfoldable pub edge_said : List ℕ → Option Said
edge_said text = edge_after (cut 32 text).0 (cut 32 text).1

abbrev pub said_after : List ℕ → Option (List ℕ) → Option Said
said_after word None = if bytes_eq word (codes "end") then Some end_line else None
said_after word (Some rest) =
    if bytes_eq word (codes "node") then node_said rest
    else if bytes_eq word (codes "edge") then edge_said rest
    else None

-- `node I RANK FEN`, `edge MOVE TO` or `end`: the words are separated by single blanks
unfoldable pub said : List ℕ → Option Said
said text = said_after (cut 32 text).0 (cut 32 text).1
