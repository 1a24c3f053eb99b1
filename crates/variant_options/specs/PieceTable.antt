-- The pieces that a variants file may name, and how their values are written.
use Rattle.std.specs.Prelude.{ℕ, ◌+◌, ◌/◌, ◌%◌, nat_lt, Bool, true, false, ◌==◌, List, [], ◌∷◌, ◌++◌, Option, Some, None, if◌then◌else◌, map, codes}
use Rattle.std.specs.List.{range_with_len}
use Rattle.rules_model.specs.declared.board.Kind.{Kind}
use Rattle.variant_options.specs.Letters.{letter_of}

pub record PieceRow : Type 0 where
  pub key : List ℕ
  -- its Betza word; the pawn, the immobile piece and the custom pieces have none of their own
  pub word : Option (List ℕ)
  -- its value may have another word
  pub is_spelled : Bool

-- a piece that moves by the word
abbrev pub named : List ℕ → List ℕ → PieceRow
named key word = record { key = key; word = Some word; is_spelled = false }

-- a piece that reaches nothing by a word
abbrev pub wordless : List ℕ → PieceRow
wordless key = record { key = key; word = None; is_spelled = false }

-- a king whose value may have another word
abbrev pub king_row : PieceRow
king_row = record { key = codes "king"; word = Some (codes "K"); is_spelled = true }

-- a number below 100
abbrev pub number_text : ℕ → List ℕ
number_text n = if nat_lt n 10 then (48 + n) ∷ [] else (48 + n / 10) ∷ (48 + n % 10) ∷ []

-- a piece whose value has its word
abbrev pub custom : ℕ → PieceRow
custom n = record { key = codes "customPiece" ++ number_text n; word = None; is_spelled = true }

-- the chess pawn, and the pieces by their Betza words
abbrev pub named_pieces : List PieceRow
named_pieces =
    wordless (codes "pawn")
    ∷ king_row
    ∷ named (codes "wazir") (codes "W")
    ∷ named (codes "fers") (codes "F")
    ∷ named (codes "alfil") (codes "A")
    ∷ named (codes "fersAlfil") (codes "FA")
    ∷ named (codes "knight") (codes "N")
    ∷ named (codes "bishop") (codes "B")
    ∷ named (codes "rook") (codes "R")
    ∷ named (codes "queen") (codes "Q")
    ∷ named (codes "commoner") (codes "K")
    ∷ named (codes "archbishop") (codes "BN")
    ∷ named (codes "chancellor") (codes "RN")
    ∷ named (codes "amazon") (codes "QN")
    ∷ named (codes "centaur") (codes "KN")
    ∷ named (codes "silver") (codes "FfW")
    ∷ named (codes "gold") (codes "WfF")
    ∷ named (codes "dragonHorse") (codes "BW")
    ∷ named (codes "dragon") (codes "RF")
    ∷ named (codes "bers") (codes "RF")
    ∷ named (codes "lance") (codes "fR")
    ∷ named (codes "shogiPawn") (codes "fW")
    ∷ named (codes "shogiKnight") (codes "ffN")
    ∷ named (codes "cannon") (codes "mRcpR")
    ∷ named (codes "horse") (codes "nN")
    ∷ named (codes "elephant") (codes "nA")
    ∷ named (codes "soldier") (codes "fsW")
    ∷ named (codes "knibis") (codes "mNcB")
    ∷ named (codes "biskni") (codes "mBcN")
    ∷ named (codes "kniroo") (codes "mNcR")
    ∷ named (codes "rookni") (codes "mRcN")
    ∷ wordless (codes "immobile")
    ∷ []

-- all pieces: the named ones, and the custom ones from 1 to 24
abbrev pub pieces : List PieceRow
pieces = named_pieces ++ map custom (range_with_len 1 24)

-- ---- values

-- what the value of a piece says
pub data PieceValue : Type 0 where
  -- `-`: the variant has no such piece
  removed : PieceValue
  -- its letter
  lettered : Kind → PieceValue
  -- its letter, and after a colon its word
  spelled : Kind → List ℕ → PieceValue

abbrev pub spelled_by : Option Kind → List ℕ → Option PieceValue
spelled_by None word = None
spelled_by (Some kind) word = Some (spelled kind word)

abbrev pub lettered_by : Option Kind → Option PieceValue
lettered_by None = None
lettered_by (Some kind) = Some (lettered kind)

-- `-`, a letter, or `letter:word`
abbrev pub read_piece : List ℕ → Option PieceValue
read_piece (b ∷ []) = if b == 45 then Some removed else lettered_by (letter_of b)
read_piece (b ∷ colon ∷ word) = if colon == 58 then spelled_by (letter_of b) word else None
read_piece [] = None

-- the letter that a value gives
abbrev pub value_letter : Option PieceValue → Option Kind
value_letter None = None
value_letter (Some removed) = None
value_letter (Some (lettered kind)) = Some kind
value_letter (Some (spelled kind word)) = Some kind

-- the word that it has
abbrev pub value_word : Option PieceValue → Option (List ℕ)
value_word None = None
value_word (Some removed) = None
value_word (Some (lettered kind)) = None
value_word (Some (spelled kind word)) = Some word
