-- The castles that texts mean.
use Rattle.std.proofs.Common.{◌≡◌, ◌≢◌, ◌⊎◌, inl, inr, ℕ, ◌+◌, ◌-◌, ◌*◌, ◌%◌, ◌<◌, ◌≤◌, nat_lt, ◌==◌, Bool, true, false, ◌&&◌, ◌||◌, not, List, [], ◌∷◌, ◌++◌, Option, Some, None, if◌then◌else◌, refl, sym, ap, ◌∙◌, arith, subst, ⊎_elim}
use Rattle.std.specs.Bool.{OnTrue}
use Rattle.std.proofs.lemmas.Bool.{cases_Bool, ltb-true, eqb-true, eq-eqb, and_from, and_parts, or_left, or_right}
use Rattle.std.proofs.lemmas.List.{append-nil}
use Rattle.rules_model.specs.declared.board.Kind.{Kind}
use Rattle.rules_model.specs.declared.board.Repeat.{Repeat}
use Rattle.rules_model.specs.declared.board.Side.{Side}
use Rattle.rules_model.specs.declared.board.Side.TheVariants.{White, Black}
use Rattle.rules_model.specs.declared.board.Square.{Square}
use Rattle.rules_model.specs.declared.board.Wing.{Wing}
use Rattle.rules_model.specs.declared.board.Wing.TheVariants.{Kingside, Queenside}
use Rattle.rules_model.specs.declared.castling.CastleSquares.{CastleSquares}
use Rattle.rules_model.specs.declared.moves.Move.{Move}
use Rattle.rules_model.specs.declared.moves.Move.TheVariants.{Castle}
use Rattle.rules_model.specs.declared.moves.Placed.{Placed}
use Rattle.rules_model.specs.declared.moves.Promo.TheVariants.{Stays}
use Rattle.rules_model.specs.declared.rules.Rules.{Rules}
use Rattle.rules_model.specs.Squares.{cell_at}
use Rattle.rules_model.specs.Sides.{side_index}
use Rattle.rules_model.specs.Regions.{castling_rank, castling_square}
use Rattle.rules_model.specs.Attacks.{is_own_king}
use Rattle.rules_model.specs.Castling.{castle_by, castle_of, castle_with, castling_on, holds_right, is_castle, king_file, rook_beyond, rook_file, rook_on}
use Rattle.rules_model.specs.Fit.{IsFit}
use Rattle.rules_model.specs.Sound.{is_sound_repeat, is_sound_side, sound_right}
use Rattle.rules_model.specs.Moves.{IsFitGate, IsFitMove, IsFitPlaced}
use Rattle.rules_model.specs.MoveText.{castle_text, gate_text, lower, square_text, text_of}
use Rattle.rules_model.proofs.CandidateLaws.{rook_file-some}
use Rattle.rules_model.proofs.VariantLaws.{castling_on-is, sound_side}
use Rattle.move_text.specs.Names.{IsCastleText, gates_on_start, is_castle_as, is_castle_to, is_meant_castle}
use Rattle.move_text.specs.declared.endings.Ending.{Ending}
use Rattle.move_text.specs.Read.{castle_by_squares, castle_move, castle_said, castle_to, castle_where, ending, first_move, gate_ending, gated, gated_rook, king_castle, named_kind, placed_on, rook_castle}
use Rattle.move_text.specs.Squares.{TwoSquares}
use Rattle.move_text.proofs.EndingLaws.{gate_ending-said, letter-back, letter-said}
use Rattle.move_text.proofs.SquareLaws.{apart, two, two_text}

-- ---- the squares of a castle

pub same_square : (a b : Square) → a.0 ≡ b.0 → a ≡ b
same_square a b e = rw e refl

-- squares of two files of the castling rank differ
files_apart : (rules : Rules) (side : Side) (a b : ℕ) → a ≢ b → (castling_square rules side a == castling_square rules side b) ≡ false
files_apart rules side a b differ = apart _ _ (λ e. differ (omega (arith, e)))

rank_small : (rules : Rules) → IsFit rules → (side : Side) → castling_rank rules side < 10
rank_small rules fit White = let most = fit.castle_rank_most in let least = fit.castle_rank_least in omega (arith, most, least)
rank_small rules fit Black = let most = fit.ranks_most in let least = fit.castle_rank_least in omega (arith, most, least)

on_largest : (rules : Rules) → IsFit rules → (side : Side) (file : ℕ) → file < 12 → castling_square rules side file < 120
on_largest rules fit side file below = let rank = rank_small rules fit side in omega (arith, rank, below)

king_file_small : (rules : Rules) → IsFit rules → (wing : Wing) → king_file rules wing < 12
king_file_small rules fit Kingside = fit.castle_near
king_file_small rules fit Queenside = fit.castle_far

-- a held right's castle: its rook stands on the wing's side of the king's file
pub record Held (rules : Rules) (r : Repeat) (wing : Wing) (file : ℕ) : Type 0 where
  pub right : holds_right r.rights r.side wing ≡ true
  pub rook : rook_file rules r.cells r.side wing ≡ Some file
  pub king : is_own_king rules r.side (cell_at r.cells (castling_square rules r.side rules.castle_king)) ≡ true

beyond : (rules : Rules) (r : Repeat) (side : Side) (wing : Wing) (file : ℕ) → rook_beyond rules r.cells side wing file ≡ true → file ≢ rules.castle_king
beyond rules r side Kingside file h = let far = ltb-true _ _ (and_parts (nat_lt rules.castle_king file) (rook_on rules r.cells side file) h).0 in λ e. absurd (omega (arith, far, e))
beyond rules r side Queenside file h = let far = ltb-true _ _ (and_parts (nat_lt file rules.castle_king) (rook_on rules r.cells side file) h).0 in λ e. absurd (omega (arith, far, e))

pub rook_apart : (rules : Rules) (r : Repeat) (wing : Wing) (file : ℕ) → rook_file rules r.cells r.side wing ≡ Some file → file ≢ rules.castle_king
rook_apart rules r wing file h = beyond rules r r.side wing file (rook_file-some rules r r.side wing file h).1

rooks_apart : (rules : Rules) (r : Repeat) (near far : ℕ) → rook_file rules r.cells r.side Kingside ≡ Some near → rook_file rules r.cells r.side Queenside ≡ Some far → near ≢ far
rooks_apart rules r near far h k =
    let a = ltb-true _ _ (and_parts (nat_lt rules.castle_king near) (rook_on rules r.cells r.side near) (rook_file-some rules r r.side Kingside near h).1).0 in
    let b = ltb-true _ _ (and_parts (nat_lt far rules.castle_king) (rook_on rules r.cells r.side far) (rook_file-some rules r r.side Queenside far k).1).0 in
    λ e. absurd (omega (arith, a, b, e))

-- ---- the squares of a castle's text

-- where the text of a castle has its squares, and what follows them
abbrev pub castle_shape : Square → Square → Square → Option Placed → TwoSquares
castle_shape from to rook None = two from to []
castle_shape from to rook (Some placed) = if placed.at.0 == rook.0 then two rook from (lower placed.kind ∷ []) else two from to (lower placed.kind ∷ [])

pub castle_written : (from to rook : Square) (gate : Option Placed) → castle_text from to rook gate ≡ two_text (castle_shape from to rook gate)
castle_written from to rook None = sym (append-nil (square_text from ++ square_text to))
castle_written from to rook (Some placed) = ⊎_elim (λ (y : (placed.at.0 == rook.0) ≡ true). rw y refl) (λ (n : (placed.at.0 == rook.0) ≡ false). rw n refl) (cases_Bool (placed.at.0 == rook.0))

-- ---- a castle that is meant is read

pub right_of : (a b : Bool) → (a || b) ≡ true → a ≡ false → b ≡ true
right_of true b h n = cc
right_of false b h n = h

left_of : (a b : Bool) → (a || b) ≡ true → b ≡ false → a ≡ true
left_of true b h n = refl
left_of false b h n = cc

abbrev pub castle_at : Rules → Repeat → Wing → ℕ → CastleSquares
castle_at rules r wing file = castle_with rules r.side wing file

king_read : (rules : Rules) (r : Repeat) (wing : Wing) (file : ℕ) (text : List ℕ) → castle_by_squares (castle_at rules r wing file) (two (castle_at rules r wing file).king (castle_at rules r wing file).king_to text) ≡ king_castle (castle_at rules r wing file) (gate_ending Stays text)
king_read rules r wing file text =
    let castle = castle_at rules r wing file in
    let same : (castle.king.0 == castle.king.0 && castle.king_to.0 == castle.king_to.0) ≡ true = and_from _ _ (eq-eqb castle.king.0 castle.king.0 refl) (eq-eqb castle.king_to.0 castle.king_to.0 refl) in rw same refl

rook_read : (rules : Rules) (r : Repeat) (wing : Wing) (file : ℕ) (text : List ℕ) → file ≢ rules.castle_king → castle_by_squares (castle_at rules r wing file) (two (castle_at rules r wing file).rook (castle_at rules r wing file).king text) ≡ rook_castle (castle_at rules r wing file) text
rook_read rules r wing file text differ =
    let castle = castle_at rules r wing file in
    let other : (castle.rook.0 == castle.king.0) ≡ false = files_apart rules r.side file rules.castle_king differ in
    let same : (castle.rook.0 == castle.rook.0 && castle.king.0 == castle.king.0) ≡ true = and_from _ _ (eq-eqb castle.rook.0 castle.rook.0 refl) (eq-eqb castle.king.0 castle.king.0 refl) in
    rw other (rw same refl)

-- with a gate on one of its starts, or none
castle_read : (rules : Rules) (r : Repeat) (wing : Wing) (file : ℕ) (gate : Option Placed) → file ≢ rules.castle_king → IsFitPlaced gate
    → gates_on_start (castle_at rules r wing file).king (castle_at rules r wing file).rook gate ≡ true
    → castle_by_squares (castle_at rules r wing file) (castle_shape (castle_at rules r wing file).king (castle_at rules r wing file).king_to (castle_at rules r wing file).rook gate) ≡ Some (castle_move (castle_at rules r wing file) gate)
castle_read rules r wing file None differ fit on = king_read rules r wing file []
castle_read rules r wing file (Some placed) differ fit on =
    let castle = castle_at rules r wing file in
    let letter = letter-back placed.kind fit.0 in
    ⊎_elim
    (λ (y : (placed.at.0 == castle.rook.0) ≡ true).
    let at : castle.rook ≡ placed.at = same_square castle.rook placed.at (sym (eqb-true _ _ y)) in
    rw y (rook_read rules r wing file (lower placed.kind ∷ []) differ ∙ ap (gated_rook castle) letter ∙ ap (λ s. Some (castle_move castle (Some (record { kind = placed.kind; at = s })))) at))
    (λ (n : (placed.at.0 == castle.rook.0) ≡ false).
    let start : (placed.at.0 == castle.king.0) ≡ true = left_of _ _ on n in
    let at : castle.king ≡ placed.at = same_square castle.king placed.at (sym (eqb-true _ _ start)) in
    rw n (king_read rules r wing file (lower placed.kind ∷ []) ∙ ap (λ o. king_castle castle (gated Stays o)) letter ∙ ap (λ s. Some (castle_move castle (Some (record { kind = placed.kind; at = s })))) at))
    (cases_Bool (placed.at.0 == castle.rook.0))

-- the castle to the other wing has another text
no_castle_by : (castle : CastleSquares) (s : TwoSquares) → (s.from.0 == castle.king.0 && s.to.0 == castle.king_to.0) ≡ false → (s.from.0 == castle.rook.0 && s.to.0 == castle.king.0) ≡ false → castle_by_squares castle s ≡ None
no_castle_by castle s a b = rw a (rw b refl)

and_no : (a : Bool) → (a && false) ≡ false
and_no true = refl
and_no false = refl

and_not : (a b : Bool) → b ≡ false → (a && b) ≡ false
and_not a b h = rw h (and_no a)

not_and : (a b : Bool) → a ≡ false → (a && b) ≡ false
not_and a b h = rw h refl

other_wing : (rules : Rules) (r : Repeat) (a b : Wing) (file other : ℕ) (gate : Option Placed) → king_file rules a ≢ king_file rules b → file ≢ rules.castle_king → other ≢ rules.castle_king → file ≢ other
    → castle_by_squares (castle_at rules r b other) (castle_shape (castle_at rules r a file).king (castle_at rules r a file).king_to (castle_at rules r a file).rook gate) ≡ None
other_wing rules r a b file other None kings differ apart_too rooks =
    no_castle_by (castle_at rules r b other) (two (castle_at rules r a file).king (castle_at rules r a file).king_to [])
    (and_not _ _ (files_apart rules r.side (king_file rules a) (king_file rules b) kings)) (not_and _ _ (files_apart rules r.side rules.castle_king other (λ e. apart_too (sym e))))
other_wing rules r a b file other (Some placed) kings differ apart_too rooks =
    ⊎_elim
    (λ (y : (placed.at.0 == (castle_at rules r a file).rook.0) ≡ true).
    rw y (no_castle_by (castle_at rules r b other) (two (castle_at rules r a file).rook (castle_at rules r a file).king (lower placed.kind ∷ []))
    (not_and _ _ (files_apart rules r.side file rules.castle_king differ)) (not_and _ _ (files_apart rules r.side file other rooks))))
    (λ (n : (placed.at.0 == (castle_at rules r a file).rook.0) ≡ false).
    rw n (no_castle_by (castle_at rules r b other) (two (castle_at rules r a file).king (castle_at rules r a file).king_to (lower placed.kind ∷ []))
    (and_not _ _ (files_apart rules r.side (king_file rules a) (king_file rules b) kings)) (not_and _ _ (files_apart rules r.side rules.castle_king other (λ e. apart_too (sym e))))))
    (cases_Bool (placed.at.0 == (castle_at rules r a file).rook.0))

-- ---- both wings

pub held_reads : (rules : Rules) (r : Repeat) (s : TwoSquares) (wing : Wing) (file : ℕ) → Held rules r wing file → castle_to rules r s wing ≡ castle_by_squares (castle_at rules r wing file) s
unfolding castle_to
held_reads rules r s wing file held =
    let right = held.right in
    let king = held.king in
    rw right (ap (λ o. castle_where rules r s (castle_by rules r.side wing o)) held.rook ∙ (rw king refl))

right_sound : (rules : Rules) (r : Repeat) (side : Side) (wing : Wing) → is_sound_side rules r side ≡ true → sound_right rules r side wing ≡ true
unfolding is_sound_side
right_sound rules r side Kingside h = (and_parts _ _ (and_parts _ _ (and_parts _ _ (and_parts _ _ (and_parts _ _ h).0).0).0).0).1
right_sound rules r side Queenside h = (and_parts _ _ (and_parts _ _ (and_parts _ _ (and_parts _ _ h).0).0).0).1

right_on : (rules : Rules) (r : Repeat) (wing : Wing) → sound_right rules r r.side wing ≡ true → holds_right r.rights r.side wing ≡ true → castling_on rules ≡ true
unfolding sound_right
right_on rules r wing sound held = let k = rw held at sound in (and_parts _ _ (and_parts _ _ k).0).0

-- a sound position with a right has castling
pub castles_on : (rules : Rules) (r : Repeat) (wing : Wing) → is_sound_repeat rules r ≡ true → holds_right r.rights r.side wing ≡ true → castling_on rules ≡ true
castles_on rules r wing sound held = right_on rules r wing (right_sound rules r r.side wing (sound_side rules r r.side sound)) held

near_far : (rules : Rules) → castling_on rules ≡ true → rules.castle_near ≢ rules.castle_far
near_far rules on = let all = castling_on-is rules on in let a = all.4 in let b = all.5 in λ e. absurd (omega (arith, a, b, e))

queenside_first : (rules : Rules) (r : Repeat) (file : ℕ) (gate : Option Placed) (o : Option ℕ) → castling_on rules ≡ true → Held rules r Queenside file → rook_file rules r.cells r.side Kingside ≡ o
    → castle_where rules r (castle_shape (castle_at rules r Queenside file).king (castle_at rules r Queenside file).king_to (castle_at rules r Queenside file).rook gate) (castle_by rules r.side Kingside o) ≡ None
queenside_first rules r file gate None on held e = refl
queenside_first rules r file gate (Some other) on held e =
    let king = held.king in
    rw king (other_wing rules r Queenside Kingside file other gate (λ same. near_far rules on (sym same)) (rook_apart rules r Queenside file held.rook) (rook_apart rules r Kingside other e) (λ same. rooks_apart rules r other file e held.rook (sym same)))

not_kingside : (rules : Rules) (r : Repeat) (file : ℕ) (gate : Option Placed) → castling_on rules ≡ true → Held rules r Queenside file
    → castle_to rules r (castle_shape (castle_at rules r Queenside file).king (castle_at rules r Queenside file).king_to (castle_at rules r Queenside file).rook gate) Kingside ≡ None
unfolding castle_to
not_kingside rules r file gate on held =
    ⊎_elim
    (λ (y : holds_right r.rights r.side Kingside ≡ true). rw y (queenside_first rules r file gate (rook_file rules r.cells r.side Kingside) on held refl))
    (λ (n : holds_right r.rights r.side Kingside ≡ false). rw n refl)
    (cases_Bool (holds_right r.rights r.side Kingside))

-- the castle to a wing whose right is held is the one that its text says
castle_of-wing : (rules : Rules) (r : Repeat) (wing : Wing) (file : ℕ) (gate : Option Placed) → is_sound_repeat rules r ≡ true → Held rules r wing file → IsFitPlaced gate
    → gates_on_start (castle_at rules r wing file).king (castle_at rules r wing file).rook gate ≡ true
    → castle_said rules r (castle_shape (castle_at rules r wing file).king (castle_at rules r wing file).king_to (castle_at rules r wing file).rook gate) ≡ Some (castle_move (castle_at rules r wing file) gate)
unfolding castle_said
castle_of-wing rules r Kingside file gate sound held fit on =
    let castle = castle_at rules r Kingside file in
    let s = castle_shape castle.king castle.king_to castle.rook gate in
    ap (λ o. first_move o (castle_to rules r s Queenside)) (held_reads rules r s Kingside file held ∙ castle_read rules r Kingside file gate (rook_apart rules r Kingside file held.rook) fit on)
castle_of-wing rules r Queenside file gate sound held fit on =
    let castle = castle_at rules r Queenside file in
    let s = castle_shape castle.king castle.king_to castle.rook gate in
    ap (λ o. first_move o (castle_to rules r s Queenside)) (not_kingside rules r file gate (castles_on rules r Queenside sound held.right) held)
    ∙ held_reads rules r s Queenside file held ∙ castle_read rules r Queenside file gate (rook_apart rules r Queenside file held.rook) fit on

-- a castle to the wing, by its squares
pub record IsOf (rules : Rules) (r : Repeat) (wing : Wing) (from to rook : Square) : Type 0 where
  pub file : ℕ
  pub held : Held rules r wing file
  pub start : from ≡ (castle_at rules r wing file).king
  pub target : to ≡ (castle_at rules r wing file).king_to
  pub rooks : rook ≡ (castle_at rules r wing file).rook

is_of-file : (rules : Rules) (r : Repeat) (wing : Wing) (from to rook : Square) (o : Option ℕ) → holds_right r.rights r.side wing ≡ true → rook_file rules r.cells r.side wing ≡ o
    → is_castle_as rules r from to rook (castle_by rules r.side wing o) ≡ true → IsOf rules r wing from to rook
is_of-file rules r wing from to rook None right e h = cc
is_of-file rules r wing from to rook (Some file) right e h =
    let castle = castle_at rules r wing file in
    let both = and_parts (is_own_king rules r.side (cell_at r.cells castle.king.0)) (is_castle castle from to rook) h in
    let squares = and_parts (from.0 == castle.king.0 && to.0 == castle.king_to.0) (rook.0 == castle.rook.0) both.1 in
    let king = and_parts (from.0 == castle.king.0) (to.0 == castle.king_to.0) squares.0 in
    record {
      file = file;
      held = record { right = right; rook = e; king = both.0 };
      start = same_square from castle.king (eqb-true _ _ king.0);
      target = same_square to castle.king_to (eqb-true _ _ king.1);
      rooks = same_square rook castle.rook (eqb-true _ _ squares.1);
    }

pub is_of-wing : (rules : Rules) (r : Repeat) (wing : Wing) (from to rook : Square) → is_castle_to rules r from to rook wing ≡ true → IsOf rules r wing from to rook
is_of-wing rules r wing from to rook h =
    let both = and_parts (holds_right r.rights r.side wing) (is_castle_as rules r from to rook (castle_of rules r.cells r.side wing)) h in
    is_of-file rules r wing from to rook (rook_file rules r.cells r.side wing) both.0 refl both.1

read_of-wing : (rules : Rules) (r : Repeat) (wing : Wing) (from to rook : Square) (gate : Option Placed) → is_sound_repeat rules r ≡ true → IsOf rules r wing from to rook → IsFitPlaced gate → gates_on_start from rook gate ≡ true
    → castle_said rules r (castle_shape from to rook gate) ≡ Some (Castle from to rook gate)
read_of-wing rules r wing from to rook gate sound is fit on =
    let castle = castle_at rules r wing is.file in
    let here : gates_on_start castle.king castle.rook gate ≡ true = sym (ap (λ s. gates_on_start s rook gate) is.start ∙ ap (λ s. gates_on_start castle.king s gate) is.rooks) ∙ on in
    ap (λ s. castle_said rules r (castle_shape s to rook gate)) is.start ∙ ap (λ s. castle_said rules r (castle_shape castle.king s rook gate)) is.target ∙ ap (λ s. castle_said rules r (castle_shape castle.king castle.king_to s gate)) is.rooks
    ∙ castle_of-wing rules r wing is.file gate sound is.held fit here
    ∙ sym (ap (λ s. Some (Castle s to rook gate)) is.start ∙ ap (λ s. Some (Castle castle.king s rook gate)) is.target ∙ ap (λ s. Some (Castle castle.king castle.king_to s gate)) is.rooks)

-- a castle that texts mean is the one that its text says
pub castle-back : (rules : Rules) (r : Repeat) (from to rook : Square) (gate : Option Placed) → is_sound_repeat rules r ≡ true → IsFitPlaced gate → is_meant_castle rules r from to rook gate ≡ true
    → castle_said rules r (castle_shape from to rook gate) ≡ Some (Castle from to rook gate)
unfolding is_meant_castle
castle-back rules r from to rook gate sound fit meant =
    let both = and_parts (is_castle_to rules r from to rook Kingside || is_castle_to rules r from to rook Queenside) (gates_on_start from rook gate) meant in
    ⊎_elim
    (λ (y : is_castle_to rules r from to rook Kingside ≡ true). read_of-wing rules r Kingside from to rook gate sound (is_of-wing rules r Kingside from to rook y) fit both.1)
    (λ (n : is_castle_to rules r from to rook Kingside ≡ false).
    let queen : is_castle_to rules r from to rook Queenside ≡ true = right_of _ _ both.0 n in
    read_of-wing rules r Queenside from to rook gate sound (is_of-wing rules r Queenside from to rook queen) fit both.1)
    (cases_Bool (is_castle_to rules r from to rook Kingside))

-- ---- a castle that is read is meant

same_two : (a b : TwoSquares) → a.from ≡ b.from → a.to ≡ b.to → a.ending ≡ b.ending → a ≡ b
same_two a b f t e = ap (λ x. two x a.to a.ending) f ∙ ap (λ y. two b.from y a.ending) t ∙ ap (λ z. two b.from b.to z) e

abbrev move_or : Move → Option Move → Move
move_or d None = d
move_or d (Some m) = m

pub the_move : {m n : Move} → Some m ≡ Some n → m ≡ n
the_move {m = m} h = ap (move_or m) h

-- the castle that was read
pub record CastleRead (rules : Rules) (r : Repeat) (s : TwoSquares) (m : Move) : Type 0 where
  pub from : Square
  pub to : Square
  pub rook : Square
  pub gate : Option Placed
  pub is : m ≡ Castle from to rook gate
  pub text : IsCastleText rules r (two_text s) from to rook gate

self_on : (castle : CastleSquares) (gate : Option Kind) → gates_on_start castle.king castle.rook (placed_on castle.king gate) ≡ true
self_on castle None = refl
self_on castle (Some kind) = or_left (castle.king.0 == castle.king.0) (castle.king.0 == castle.rook.0) (eq-eqb castle.king.0 castle.king.0 refl)

rook_on_start : (castle : CastleSquares) (kind : Kind) → gates_on_start castle.king castle.rook (placed_on castle.rook (Some kind)) ≡ true
rook_on_start castle kind = or_right (castle.rook.0 == castle.king.0) (castle.rook.0 == castle.rook.0) (eq-eqb castle.rook.0 castle.rook.0 refl)

is_to : (rules : Rules) (r : Repeat) (wing : Wing) (file : ℕ) → Held rules r wing file → is_castle_to rules r (castle_at rules r wing file).king (castle_at rules r wing file).king_to (castle_at rules r wing file).rook wing ≡ true
is_to rules r wing file held =
    let castle = castle_at rules r wing file in
    let squares : is_castle castle castle.king castle.king_to castle.rook ≡ true = and_from _ _ (and_from _ _ (eq-eqb castle.king.0 castle.king.0 refl) (eq-eqb castle.king_to.0 castle.king_to.0 refl)) (eq-eqb castle.rook.0 castle.rook.0 refl) in
    and_from _ _ held.right (ap (λ o. is_castle_as rules r castle.king castle.king_to castle.rook (castle_by rules r.side wing o)) held.rook ∙ and_from _ _ held.king squares)

pub meant_wing : (rules : Rules) (r : Repeat) (wing : Wing) (from to rook : Square) (gate : Option Placed) → is_castle_to rules r from to rook wing ≡ true → gates_on_start from rook gate ≡ true → is_meant_castle rules r from to rook gate ≡ true
unfolding is_meant_castle
meant_wing rules r Kingside from to rook gate is on = and_from _ _ (or_left (is_castle_to rules r from to rook Kingside) (is_castle_to rules r from to rook Queenside) is) on
meant_wing rules r Queenside from to rook gate is on = and_from _ _ (or_right (is_castle_to rules r from to rook Kingside) (is_castle_to rules r from to rook Queenside) is) on

rook_small : (rules : Rules) (r : Repeat) (wing : Wing) (file : ℕ) → IsFit rules → Held rules r wing file → file < 12
rook_small rules r wing file fit held = let few = fit.files_most in let below = (rook_file-some rules r r.side wing file held.rook).0 in omega (arith, few, below)

pub castle_fits : (rules : Rules) (r : Repeat) (wing : Wing) (file : ℕ) (gate : Option Placed) → IsFit rules → Held rules r wing file → IsFitPlaced gate
    → IsFitMove (castle_move (castle_at rules r wing file) gate)
castle_fits rules r wing file gate fit held placed =
    (on_largest rules fit r.side rules.castle_king fit.castle_king, on_largest rules fit r.side (king_file rules wing) (king_file_small rules fit wing), on_largest rules fit r.side file (rook_small rules r wing file fit held), placed)

text_said : (rules : Rules) (r : Repeat) (wing : Wing) (file : ℕ) (gate : Option Placed) (s : TwoSquares) (m : Move) → IsFit rules → Held rules r wing file → IsFitPlaced gate → gates_on_start (castle_at rules r wing file).king (castle_at rules r wing file).rook gate ≡ true
    → castle_shape (castle_at rules r wing file).king (castle_at rules r wing file).king_to (castle_at rules r wing file).rook gate ≡ s → m ≡ castle_move (castle_at rules r wing file) gate → CastleRead rules r s m
unfolding text_of
text_said rules r wing file gate s m fit held placed on shape is =
    let castle = castle_at rules r wing file in
    record {
      from = castle.king;
      to = castle.king_to;
      rook = castle.rook;
      gate = gate;
      is = is;
      text = record {
        fit = castle_fits rules r wing file gate fit held placed;
        meant = meant_wing rules r wing castle.king castle.king_to castle.rook gate (is_to rules r wing file held) on;
        written = castle_written castle.king castle.king_to castle.rook gate ∙ ap two_text shape;
      };
    }

shape_none : (castle : CastleSquares) (s : TwoSquares) → s.from ≡ castle.king → s.to ≡ castle.king_to → s.ending ≡ [] → castle_shape castle.king castle.king_to castle.rook None ≡ s
shape_none castle s a b c = same_two _ s (sym a) (sym b) (sym c)

shape_king : (castle : CastleSquares) (kind : Kind) (s : TwoSquares) → (castle.king.0 == castle.rook.0) ≡ false → s.from ≡ castle.king → s.to ≡ castle.king_to → s.ending ≡ lower kind ∷ []
    → castle_shape castle.king castle.king_to castle.rook (placed_on castle.king (Some kind)) ≡ s
shape_king castle kind s differ a b c = rw differ (same_two (two castle.king castle.king_to (lower kind ∷ [])) s (sym a) (sym b) (sym c))

shape_rook : (castle : CastleSquares) (kind : Kind) (s : TwoSquares) → s.from ≡ castle.rook → s.to ≡ castle.king → s.ending ≡ lower kind ∷ [] → castle_shape castle.king castle.king_to castle.rook (placed_on castle.rook (Some kind)) ≡ s
shape_rook castle kind s a b c =
    let self : (castle.rook.0 == castle.rook.0) ≡ true = eq-eqb castle.rook.0 castle.rook.0 refl in
    rw self (same_two (two castle.rook castle.king (lower kind ∷ [])) s (sym a) (sym b) (sym c))

king_not_rook : (rules : Rules) (r : Repeat) (wing : Wing) (file : ℕ) → Held rules r wing file → ((castle_at rules r wing file).king.0 == (castle_at rules r wing file).rook.0) ≡ false
king_not_rook rules r wing file held = files_apart rules r.side rules.castle_king file (λ e. rook_apart rules r wing file held.rook (sym e))

king_gate_said : (rules : Rules) (r : Repeat) (wing : Wing) (file : ℕ) (s : TwoSquares) (gate : Option Kind) (m : Move) → IsFit rules → Held rules r wing file → s.from ≡ (castle_at rules r wing file).king → s.to ≡ (castle_at rules r wing file).king_to
    → IsFitGate gate → s.ending ≡ gate_text gate → castle_move (castle_at rules r wing file) (placed_on (castle_at rules r wing file).king gate) ≡ m → CastleRead rules r s m
king_gate_said rules r wing file s None m fit held a b g e is =
    text_said rules r wing file None s m fit held tt refl (shape_none (castle_at rules r wing file) s a b e) (sym is)
king_gate_said rules r wing file s (Some kind) m fit held a b g e is =
    let castle = castle_at rules r wing file in
    text_said rules r wing file (placed_on castle.king (Some kind)) s m fit held (g, on_largest rules fit r.side rules.castle_king fit.castle_king) (self_on castle (Some kind))
    (shape_king castle kind s (king_not_rook rules r wing file held) a b e) (sym is)

king_said : (rules : Rules) (r : Repeat) (wing : Wing) (file : ℕ) (s : TwoSquares) (o : Option Ending) (m : Move) → IsFit rules → Held rules r wing file → s.from ≡ (castle_at rules r wing file).king → s.to ≡ (castle_at rules r wing file).king_to
    → gate_ending Stays s.ending ≡ o → king_castle (castle_at rules r wing file) o ≡ Some m → CastleRead rules r s m
king_said rules r wing file s None m fit held a b e h = cc
king_said rules r wing file s (Some x) m fit held a b e h =
    let said = gate_ending-said Stays s.ending x e in
    let castle = castle_at rules r wing file in
    king_gate_said rules r wing file s said.0 m fit held a b said.1 said.2 (ap (λ y. castle_move castle (placed_on castle.king y.gate)) said.3 ∙ the_move h)

gated_rook_said : (rules : Rules) (r : Repeat) (wing : Wing) (file b : ℕ) (s : TwoSquares) (o : Option Kind) (m : Move) → IsFit rules → Held rules r wing file → s.from ≡ (castle_at rules r wing file).rook → s.to ≡ (castle_at rules r wing file).king
    → s.ending ≡ b ∷ [] → named_kind b ≡ o → gated_rook (castle_at rules r wing file) o ≡ Some m → CastleRead rules r s m
gated_rook_said rules r wing file b s None m fit held a c e k h = cc
gated_rook_said rules r wing file b s (Some kind) m fit held a c e k h =
    let castle = castle_at rules r wing file in
    let letter = letter-said b kind k in
    text_said rules r wing file (placed_on castle.rook (Some kind)) s m fit held (letter.0, on_largest rules fit r.side file (rook_small rules r wing file fit held)) (rook_on_start castle kind)
    (shape_rook castle kind s a c (e ∙ ap (λ x. x ∷ []) letter.1)) (sym (the_move h))

rook_said : (rules : Rules) (r : Repeat) (wing : Wing) (file : ℕ) (s : TwoSquares) (ending : List ℕ) (m : Move) → IsFit rules → Held rules r wing file → s.from ≡ (castle_at rules r wing file).rook → s.to ≡ (castle_at rules r wing file).king
    → s.ending ≡ ending → rook_castle (castle_at rules r wing file) ending ≡ Some m → CastleRead rules r s m
rook_said rules r wing file s [] m fit held a b e h = cc
rook_said rules r wing file s (x ∷ []) m fit held a b e h = gated_rook_said rules r wing file x s (named_kind x) m fit held a b e refl h
rook_said rules r wing file s (x ∷ y ∷ rest) m fit held a b e h = cc

squares_said : (rules : Rules) (r : Repeat) (wing : Wing) (file : ℕ) (s : TwoSquares) (m : Move) → IsFit rules → Held rules r wing file → castle_by_squares (castle_at rules r wing file) s ≡ Some m → CastleRead rules r s m
squares_said rules r wing file s m fit held h =
    let castle = castle_at rules r wing file in
    ⊎_elim
    (λ (y : (s.from.0 == castle.king.0 && s.to.0 == castle.king_to.0) ≡ true).
    let both = and_parts (s.from.0 == castle.king.0) (s.to.0 == castle.king_to.0) y in
    king_said rules r wing file s (gate_ending Stays s.ending) m fit held (same_square s.from castle.king (eqb-true _ _ both.0)) (same_square s.to castle.king_to (eqb-true _ _ both.1)) refl (let k = rw y at h in k))
    (λ (n : (s.from.0 == castle.king.0 && s.to.0 == castle.king_to.0) ≡ false). ⊎_elim
    (λ (z : (s.from.0 == castle.rook.0 && s.to.0 == castle.king.0) ≡ true).
    let both = and_parts (s.from.0 == castle.rook.0) (s.to.0 == castle.king.0) z in
    rook_said rules r wing file s s.ending m fit held (same_square s.from castle.rook (eqb-true _ _ both.0)) (same_square s.to castle.king (eqb-true _ _ both.1)) refl (let k = rw (n, z) at h in k))
    (λ (x : (s.from.0 == castle.rook.0 && s.to.0 == castle.king.0) ≡ false). let k = rw (n, x) at h in cc)
    (cases_Bool (s.from.0 == castle.rook.0 && s.to.0 == castle.king.0)))
    (cases_Bool (s.from.0 == castle.king.0 && s.to.0 == castle.king_to.0))

where_said : (rules : Rules) (r : Repeat) (wing : Wing) (o : Option ℕ) (s : TwoSquares) (m : Move) → IsFit rules → holds_right r.rights r.side wing ≡ true → rook_file rules r.cells r.side wing ≡ o → castle_where rules r s (castle_by rules r.side wing o) ≡ Some m → CastleRead rules r s m
where_said rules r wing None s m fit right e h = cc
where_said rules r wing (Some file) s m fit right e h =
    ⊎_elim
    (λ (y : is_own_king rules r.side (cell_at r.cells (castling_square rules r.side rules.castle_king)) ≡ true).
    squares_said rules r wing file s m fit (record { right = right; rook = e; king = y }) (let k = rw y at h in k))
    (λ (n : is_own_king rules r.side (cell_at r.cells (castling_square rules r.side rules.castle_king)) ≡ false). let k = rw n at h in cc)
    (cases_Bool (is_own_king rules r.side (cell_at r.cells (castling_square rules r.side rules.castle_king))))

wing_said : (rules : Rules) (r : Repeat) (wing : Wing) (s : TwoSquares) (m : Move) → IsFit rules → castle_to rules r s wing ≡ Some m → CastleRead rules r s m
unfolding castle_to
wing_said rules r wing s m fit h =
    ⊎_elim
    (λ (y : holds_right r.rights r.side wing ≡ true). where_said rules r wing (rook_file rules r.cells r.side wing) s m fit y refl (let k = rw y at h in k))
    (λ (n : holds_right r.rights r.side wing ≡ false). let k = rw n at h in cc)
    (cases_Bool (holds_right r.rights r.side wing))

pub first_said : (a b : Option Move) (m : Move) → first_move a b ≡ Some m → (a ≡ Some m) ⊎ (b ≡ Some m)
first_said None b m h = inr h
first_said (Some x) b m h = inl h

pub castle-read : (rules : Rules) (r : Repeat) (s : TwoSquares) (m : Move) → IsFit rules → castle_said rules r s ≡ Some m → CastleRead rules r s m
unfolding castle_said
castle-read rules r s m fit h =
    ⊎_elim (λ k. wing_said rules r Kingside s m fit k) (λ k. wing_said rules r Queenside s m fit k) (first_said (castle_to rules r s Kingside) (castle_to rules r s Queenside) m h)

pub when_true : (b : Bool) (P : Type 0) → (b ≡ true → P) → OnTrue b P
when_true true P f = f refl
when_true false P f = tt
