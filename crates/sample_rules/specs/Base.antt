-- What the options say by default.
use Rattle.std.specs.Prelude.{ℕ, ◌-◌, true, false, [], ◌∷◌, None, replicate}
use Rattle.rules_model.specs.declared.board.Position.{Position}
use Rattle.rules_model.specs.declared.board.Side.TheVariants.{White}
use Rattle.rules_model.specs.declared.moves.Value.TheVariants.{Loss, Draw}
use Rattle.rules_model.specs.declared.rules.Rules.{Rules}
use Rattle.sample_rules.specs.Regions.{area, nowhere}

-- an empty board, with White to move
abbrev pub empty : Position
empty = record {
  cells = replicate 120 None;
  hands = replicate 26 0 ∷ replicate 26 0 ∷ [];
  gates = 0 ∷ 0 ∷ [];
  counter = 0;
  number = 1;
  rights = (false ∷ false ∷ []) ∷ (false ∷ false ∷ []) ∷ [];
  checks = 0 ∷ 0 ∷ [];
  ep = None;
  side = White;
}

-- no piece on a board of so many files and ranks
unfoldable pub base : ℕ → ℕ → Rules
base files ranks = record {
  kinds = replicate 26 None;
  start = empty;
  promotion = area 0 files (ranks - 1) ranks ∷ area 0 files 0 1 ∷ [];
  double_region = area 0 files 1 2 ∷ area 0 files (ranks - 2) (ranks - 1) ∷ [];
  drop_region = area 0 files 0 ranks ∷ area 0 files 0 ranks ∷ [];
  flag_region = nowhere ∷ nowhere ∷ [];
  promotion_kinds = replicate 26 false;
  castle_rooks = replicate 26 false;
  n_move_kinds = replicate 26 false;
  extinct_kinds = replicate 26 false;
  n_move = 50;
  n_fold = 3;
  files = files;
  ranks = ranks;
  king = None;
  pawn = None;
  soldier = None;
  soldier_rank = 1;
  no_doubled = None;
  flag_kind = None;
  castle_king = 4;
  castle_near = 6;
  castle_far = 2;
  castle_rank = 1;
  extinct_most = 0;
  extinct_least = 0;
  extinction = None;
  n_fold_value = Draw;
  stalemate = Draw;
  checkmate = Loss;
  must_promote_pawn = true;
  must_promote_piece = false;
  double_step = true;
  castling = false;
  checking = true;
  drop_checks = true;
  must_capture = false;
  drops = false;
  to_hand = false;
  pawn_first = false;
  pawn_zone = false;
  immobile_bad = false;
  gating = false;
  gate_hand = false;
  extinct_all = false;
  check_counting = false;
  flying = false;
}
