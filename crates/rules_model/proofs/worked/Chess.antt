-- Chess and its neighbours as values of the rules, and boards to try them on.
use Rattle.std.proofs.Common.{ℕ, ◌+◌, ◌-◌, ◌*◌, Bool, true, false, List, [], ◌∷◌, ◌++◌, Option, Some, None, ℤ, pos, negsuc, replicate, set}
use Rattle.rules_model.specs.declared.board.Cell.{Cell}
use Rattle.rules_model.specs.declared.board.Kind.{Kind}
use Rattle.rules_model.specs.declared.board.Position.{Position}
use Rattle.rules_model.specs.declared.board.Region.{Region}
use Rattle.rules_model.specs.declared.board.Repeat.{Repeat}
use Rattle.rules_model.specs.declared.board.Side.{Side}
use Rattle.rules_model.specs.declared.board.Side.TheVariants.{White}
use Rattle.rules_model.specs.declared.board.Square.{Square}
use Rattle.rules_model.specs.declared.moves.Value.TheVariants.{Loss, Draw}
use Rattle.rules_model.specs.declared.rules.KindRule.{KindRule}
use Rattle.rules_model.specs.declared.rules.Rules.{Rules}
use Rattle.rules_model.specs.declared.rules.Term.{Term}
use Rattle.rules_model.specs.declared.rules.Way.{Way}
use Rattle.rules_model.specs.declared.rules.Way.TheVariants.{Leap, Slide}

abbrev pub term : Way → ℕ → ℤ → ℤ → Term
term way limit dx dy = record { dx = dx; dy = dy; way = way; limit = limit; quiet = true; takes = true }

abbrev pub fourfold : Way → ℕ → ℤ → ℤ → ℤ → ℤ → List Term
fourfold way limit a b c d = term way limit a c ∷ term way limit a d ∷ term way limit b c ∷ term way limit b d ∷ []

-- the orthogonal steps of a length, and the diagonal ones
abbrev pub straight : Way → ℕ → List Term
straight way limit = term way limit (pos 1) (pos 0) ∷ term way limit (negsuc 0) (pos 0) ∷ term way limit (pos 0) (pos 1) ∷ term way limit (pos 0) (negsuc 0) ∷ []

abbrev pub slanted : Way → ℕ → List Term
slanted way limit = fourfold way limit (pos 1) (negsuc 0) (pos 1) (negsuc 0)

abbrev pub everywhere : Region
everywhere = record { squares = replicate 120 true }

abbrev pub piece : List Term → Option KindRule
piece terms = Some (record { terms = terms; mobility = everywhere ∷ everywhere ∷ []; pawn = false; promoted = None })

abbrev the_pawn : Option KindRule
the_pawn = Some (record { terms = []; mobility = everywhere ∷ everywhere ∷ []; pawn = true; promoted = None })

-- the letters b, k, n, p, q, r
abbrev pub chess_kinds : List (Option KindRule)
chess_kinds =
    None ∷ piece (slanted Slide 11) ∷ None ∷ None ∷ None ∷ None ∷ None ∷ None ∷ None ∷ None
    ∷ piece (straight Leap 1 ++ slanted Leap 1) ∷ None ∷ None
    ∷ piece (fourfold Leap 1 (pos 1) (negsuc 0) (pos 2) (negsuc 1) ++ fourfold Leap 1 (pos 2) (negsuc 1) (pos 1) (negsuc 0))
    ∷ None ∷ the_pawn ∷ piece (straight Slide 11 ++ slanted Slide 11) ∷ piece (straight Slide 11)
    ∷ None ∷ None ∷ None ∷ None ∷ None ∷ None ∷ None ∷ None ∷ []

abbrev pub kind : ℕ → Kind
kind k = record { 0 = k }

abbrev pub at : ℕ → ℕ → Square
at file rank = record { 0 = 12 * rank + file }

-- the eight squares of a rank of the chess board, counted from 0
abbrev pub rank : ℕ → Region
rank r = record { squares = replicate (12 * r) false ++ replicate 8 true ++ replicate (112 - 12 * r) false }

abbrev pub nowhere : Region
nowhere = record { squares = replicate 120 false }

-- the mask of the letters that are listed
abbrev pub mask : List ℕ → List Bool
mask [] = replicate 26 false
mask (k ∷ ks) = set (mask ks) k true

abbrev pub no_hands : List (List ℕ)
no_hands = replicate 26 0 ∷ replicate 26 0 ∷ []

abbrev pub no_rights : List (List Bool)
no_rights = (false ∷ false ∷ []) ∷ (false ∷ false ∷ []) ∷ []

abbrev pub bare : List (Option Cell) → Side → Repeat
bare cells side = record { cells = cells; hands = no_hands; gates = 0 ∷ 0 ∷ []; rights = no_rights; checks = 0 ∷ 0 ∷ []; ep = None; side = side }

abbrev pub no_start : Position
no_start = record { cells = replicate 120 None; hands = no_hands; gates = 0 ∷ 0 ∷ []; counter = 0; number = 1; rights = no_rights; checks = 0 ∷ 0 ∷ []; ep = None; side = White }

abbrev pub chess : Rules
chess = record {
  kinds = chess_kinds;
  start = no_start;
  promotion = rank 7 ∷ rank 0 ∷ [];
  double_region = rank 1 ∷ rank 6 ∷ [];
  drop_region = everywhere ∷ everywhere ∷ [];
  flag_region = nowhere ∷ nowhere ∷ [];
  promotion_kinds = mask (1 ∷ 13 ∷ 16 ∷ 17 ∷ []);
  castle_rooks = mask (17 ∷ []);
  n_move_kinds = mask (15 ∷ []);
  extinct_kinds = mask [];
  n_move = 50;
  n_fold = 3;
  files = 8;
  ranks = 8;
  king = Some (kind 10);
  pawn = Some (kind 15);
  soldier = None;
  soldier_rank = 1;
  no_doubled = None;
  flag_kind = None;
  castle_king = 4;
  castle_near = 6;
  castle_far = 2;
  castle_rank = 1;
  extinct_most = 0;
  extinct_least = 0;
  extinction = None;
  n_fold_value = Draw;
  stalemate = Draw;
  checkmate = Loss;
  must_promote_pawn = true;
  must_promote_piece = false;
  double_step = true;
  castling = true;
  checking = true;
  drop_checks = true;
  must_capture = false;
  drops = false;
  to_hand = false;
  pawn_first = false;
  pawn_zone = false;
  immobile_bad = false;
  gating = false;
  gate_hand = false;
  extinct_all = false;
  check_counting = false;
  flying = false;
}

-- a piece by its side and letter
abbrev pub man : Side → ℕ → Cell
man side k = record { side = side; kind = kind k; origin = None }

-- the board with a piece put on a square
abbrev pub stands : Side → ℕ → Square → List (Option Cell) → List (Option Cell)
stands side k s cells = set cells s.0 (Some (man side k))

abbrev pub empty : List (Option Cell)
empty = replicate 120 None
