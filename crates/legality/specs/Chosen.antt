-- What is chosen of the candidates.
use Rattle.std.specs.Prelude.{◌≡◌, ℕ, Bool, true, false, ◌&&◌, ◌||◌, not, nat_lt, Option, Some, None, List, ◌++◌}
use Rattle.std.specs.List.{list_any, filter}
use Rattle.rules_model.specs.declared.board.Kind.{Kind}
use Rattle.rules_model.specs.declared.board.Repeat.{Repeat}
use Rattle.rules_model.specs.declared.board.Square.{Square}
use Rattle.rules_model.specs.declared.moves.Move.{Move}
use Rattle.rules_model.specs.declared.moves.Move.TheVariants.{Go, Castle, Drop}
use Rattle.rules_model.specs.declared.moves.Placed.{Placed}
use Rattle.rules_model.specs.declared.moves.Promo.{Promo}
use Rattle.rules_model.specs.declared.moves.Promo.TheVariants.{Stays, Pawn, Plus}
use Rattle.rules_model.specs.declared.rules.Rules.{Rules}
use Rattle.rules_model.specs.Allowed.{can_capture}
use Rattle.rules_model.specs.Candidates.{is_candidate}
use Rattle.rules_model.specs.Legal.{every_move, is_allowed, is_sane}
use Rattle.rules_model.specs.Moves.{IsFitMove}
use Rattle.rules_model.specs.Next.{captures}
use Rattle.piece_moves.specs.InTurn.{go_from}
use Rattle.piece_moves.specs.Taking.{TakesAll}
use Rattle.square_set.specs.declared.Set.{Set}
use Rattle.square_set.specs.declared.Shift.{Shift}
use Rattle.square_set.specs.Members.{has, origin}
use Rattle.legality.specs.declared.move_filter.GenType.{GenType}
use Rattle.legality.specs.declared.move_filter.GenType.TheVariants.{All, Captures, Quiets}

-- a candidate on the largest board
abbrev pub FitCandidates : Rules → Repeat → Move → Type 0
FitCandidates rules r m = IsFitMove m × (is_candidate rules r m ≡ true)

-- ---- the test of fit moves

abbrev pub is_fit_promo : Promo → Bool
is_fit_promo Stays = true
is_fit_promo (Pawn kind) = nat_lt kind.0 26
is_fit_promo Plus = true

abbrev pub is_fit_gate : Option Kind → Bool
is_fit_gate None = true
is_fit_gate (Some kind) = nat_lt kind.0 26

abbrev pub is_fit_placed : Option Placed → Bool
is_fit_placed None = true
is_fit_placed (Some placed) = nat_lt placed.kind.0 26 && nat_lt placed.at.0 120

-- its squares are on the largest board, and its kinds are letters
unfoldable pub is_fit_move : Move → Bool
is_fit_move (Go from to promo gate) = nat_lt from.0 120 && nat_lt to.0 120 && is_fit_promo promo && is_fit_gate gate
is_fit_move (Castle from to rook gate) = nat_lt from.0 120 && nat_lt to.0 120 && nat_lt rook.0 120 && is_fit_placed gate
is_fit_move (Drop kind to) = nat_lt kind.0 26 && nat_lt to.0 120

-- ---- what is chosen

-- moves are wanted, by whether they capture
abbrev pub is_in : GenType → Bool → Bool
is_in All takes = true
is_in Captures takes = takes
is_in Quiets takes = not takes

-- the move is wanted
abbrev pub is_wanted : Rules → Repeat → GenType → Move → Bool
is_wanted rules r gen_type m = is_in gen_type (captures rules r m)

-- of the candidates: those that are wanted, and sane
unfoldable pub is_chosen : Rules → Repeat → GenType → Move → Bool
is_chosen rules r gen_type m = is_fit_move m && (is_wanted rules r gen_type m && is_sane rules r m)

-- some allowed move is wanted
unfoldable pub can_go : Rules → Repeat → GenType → Bool
can_go rules r gen_type = list_any (is_wanted rules r gen_type) (filter (is_allowed rules r) every_move)

-- one must capture, and can
unfoldable pub only_captures : Rules → Repeat → Bool
only_captures rules r = rules.must_capture && can_go rules r Captures

-- the captures, where only they are wanted
abbrev pub gen_type_of : Bool → GenType
gen_type_of true = Captures
gen_type_of false = All

-- which of the allowed moves are legal, where there is no early end
abbrev pub legal_gen_type : Rules → Repeat → GenType
legal_gen_type rules r = gen_type_of (only_captures rules r)

-- the move captures, or need not
abbrev pub captures_if_forced : Rules → Repeat → Move → Bool
captures_if_forced rules r m = not (rules.must_capture && can_capture rules r) || captures rules r m

-- the set has those of the targets for which the move that is made of the square passes the test
abbrev pub AreTargetsOf : (Move → Bool) → (Square → Move) → Set → Set → Type 0
AreTargetsOf test make targets those = (to : Square) → has those to.0 ≡ (has targets to.0 && test (make to))

-- where a piece starts where `start` says, stays what it is, and leaves behind what `gate` names
abbrev pub AreTargetsWhere : (Move → Bool) → (ℕ → Square) → Option Kind → Set → Set → Type 0
AreTargetsWhere test start gate = AreTargetsOf test (go_from start gate)

-- where the piece goes from the one square
abbrev pub AreTargetsFrom : (Move → Bool) → Square → Option Kind → Set → Set → Type 0
AreTargetsFrom test from = AreTargetsWhere test (λ to. from)

-- where the piece goes by the shift
abbrev pub AreTargetsBy : (Move → Bool) → Shift → Set → Set → Type 0
AreTargetsBy test shift = AreTargetsWhere test (λ to. record { 0 = origin shift to }) None

-- where a piece of the kind is dropped
abbrev pub AreTargetsOfDrops : (Move → Bool) → Kind → Set → Set → Type 0
AreTargetsOfDrops test kind = AreTargetsOf test (Drop kind)

-- the moves of pieces to the targets that stay what they are, wherever they start and whatever they leave behind, are
-- wanted
abbrev pub AreWantedTo : Rules → Repeat → GenType → Set → Type 0
AreWantedTo rules r gen_type targets =
    (from to : Square) (gate : Option Kind) → has targets to.0 ≡ true
    → is_wanted rules r gen_type (Go from to Stays gate) ≡ true

-- those to the targets that neither of the sets has are not
abbrev pub AreUnwantedBut : Rules → Repeat → GenType → Set → Set → Set → Type 0
AreUnwantedBut rules r gen_type targets wanted untold =
    (from to : Square) (gate : Option Kind) → has targets to.0 ≡ true → has wanted to.0 ≡ false
    → has untold to.0 ≡ false
    → is_wanted rules r gen_type (Go from to Stays gate) ≡ false

-- the candidates that are chosen were appended
abbrev pub AppendsChosen : Rules → Repeat → GenType → List Move → List Move → Type 0
AppendsChosen rules r gen_type =
    TakesAll (λ old ms new. new ≡ old ++ filter (is_chosen rules r gen_type) ms) (FitCandidates rules r)
