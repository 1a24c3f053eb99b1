-- The leap of another piece after a move that leaves it legal.
use Rattle.std.proofs.Common.{◌≡◌, ◌≢◌, ℕ, ◌<◌, Bool, true, false, not, ◌&&◌, ◌||◌, ◌==◌, Option, Some, None, List, length, is_some, slice_set, refl, sym, ap, ◌∙◌, subst, arith, length-set}
use Rattle.std.specs.Prelude.{IfSome}
use Rattle.std.proofs.lemmas.Bool.{and_parts, and_right, eq-eqb, ne_eqb, not-true}
use Rattle.foundation.specs.Member.{Member}
use Rattle.rules_model.specs.declared.board.Cell.{Cell}
use Rattle.rules_model.specs.declared.board.Kind.{Kind}
use Rattle.rules_model.specs.declared.board.Side.{Side}
use Rattle.rules_model.specs.declared.board.Square.{Square}
use Rattle.rules_model.specs.declared.moves.Move.{Move}
use Rattle.rules_model.specs.declared.moves.Move.TheVariants.{Go, Drop}
use Rattle.rules_model.specs.declared.moves.Promo.{Promo}
use Rattle.rules_model.specs.Attacks.{attacks_from, is_own_king, king_attacked}
use Rattle.rules_model.specs.Ends.{early_end, is_ongoing}
use Rattle.rules_model.specs.Kinds.{is_king, is_pawn}
use Rattle.rules_model.specs.Legal.{legal}
use Rattle.rules_model.specs.Next.{after_promo, cells_after, fresh, next_repeat}
use Rattle.rules_model.specs.Pawns.{is_ep}
use Rattle.rules_model.specs.Sides.{other, same_side}
use Rattle.rules_model.specs.Squares.{cell_at}
use Rattle.square_set.specs.declared.Set.{Set}
use Rattle.square_set.specs.Members.{IsWith, IsWithout, has}
use Rattle.square_set.proofs.Cases.{by_equal}
use Rattle.move_tables.specs.declared.mode.Mode.TheVariants.{Quiet, Take}
use Rattle.move_tables.specs.Occupied.{AreKings, IsOccupied}
use Rattle.move_tables.specs.Reached.{reaches_as}
use Rattle.attack_tables.proofs.MaskLaws.{from_man, from_none}
use Rattle.pins.specs.Guards.{IsMoved}
use Rattle.sound_play.proofs.CellLemmas.{cell_at-set_other, cell_at-set_same}
use Rattle.legality.specs.Stance.{Stance, repeat_in}
use Rattle.legality.proofs.PinLaws.{not_passing}
use Rattle.check_moves.specs.declared.replies.Coming.{Coming}
use Rattle.check_moves.specs.declared.replies.Leaper.{Leaper}
use Rattle.check_moves.specs.declared.replies.Reply.{Reply}
use Rattle.check_moves.specs.Checks.{AreChecks, ComesTo, ReachesNone}
use Rattle.check_moves.specs.Flights.{carried, repeat_after}
use Rattle.check_moves.specs.Replies.{IsComing, IsLeapTo, IsLeaper, IsReply, leap_of}
use Rattle.check_moves.specs.Shut.{AreShut}
use Rattle.check_moves.proofs.ComeLaws.{comes_quietly, dropped, goes, kept_there, later_occupied, left_there, promo_side, taken_there, went}
use Rattle.check_moves.proofs.FlightLaws.{moved-by, other_differs, unlike}
use Rattle.check_moves.proofs.ShutLaws.{by_any_set}
use Rattle.check_moves.proofs.StepLaws.{no_king_castles, plain-rules, step_is_legal, walks_quietly}

-- ---- the board once the piece has leapt

module _ (s : Stance) (reply : Reply) (is : IsReply s reply) (size : length s.position.cells ≡ 120) where
  abbrev start : ℕ
  start = reply.leaper.from

  abbrev at : ℕ
  at = reply.to

  abbrev side : Side
  side = s.position.side

  abbrev cells : List (Option Cell)
  cells = s.position.cells

  abbrev before : List (Option Cell)
  before = carried cells start at

  apart : at ≢ start
  apart e = let there = is.leaper.there in let none = ap (cell_at cells) (sym e) ∙ is.leap.empty in cc

  before_at : cell_at before at ≡ Some is.leaper.piece
  before_at =
      cell_at-set_same (slice_set cells start None) at (cell_at cells start)
      (let e = length-set cells start None in let l = is.small in let n = size in omega (arith, e, n, l))
      ∙ is.leaper.there

  before_start : cell_at before start ≡ None
  before_start =
      cell_at-set_other (slice_set cells start None) at start (cell_at cells start) apart
      ∙ cell_at-set_same cells start None (let l = is.leaper.small in let n = size in omega (arith, n, l))

  before_other : (t : ℕ) → t ≢ start → t ≢ at → cell_at before t ≡ cell_at cells t
  before_other t e f =
      cell_at-set_other (slice_set cells start None) at t (cell_at cells start) (λ g. f (sym g))
      ∙ cell_at-set_other cells start t None (λ g. e (sym g))

  -- what holds of the two squares and of the others holds of each
  each_before : (P : ℕ → Option Cell → Type 0) → P at (Some is.leaper.piece) → P start None → ((t : ℕ) → (t == start) ≡ false → (t == at) ≡ false → P t (cell_at cells t)) → (t : ℕ) → P t (cell_at before t)
  each_before P at_at at_start others t =
      by_equal t at (P t (cell_at before t))
      (λ q e. subst (λ u. P u (cell_at before u)) (sym e) (subst (P at) (sym before_at) at_at))
      (λ q e. by_equal t start (P t (cell_at before t))
      (λ w f. subst (λ u. P u (cell_at before u)) (sym f) (subst (P start) (sym before_start) at_start))
      (λ w f. subst (P t) (sym (before_other t f e)) (others t w q)))

  occupied_before : IsOccupied reply.stepped before
  occupied_before =
      each_before (λ t c. has reply.stepped t ≡ is_some c)
      (is.stepped at ∙ taken_there (is_some (cell_at cells at)) (not (at == start)) (at == at) (eq-eqb at at refl))
      (is.stepped start ∙ left_there (is_some (cell_at cells start)) (start == start) (start == at) (eq-eqb start start refl) (ne_eqb start at (λ e. apart (sym e))))
      (λ t e f. is.stepped t ∙ kept_there (is_some (cell_at cells t)) (t == start) (t == at) e f)

  no_king_leaps : is_own_king s.rules (other side) (Some is.leaper.piece) ≡ false
  no_king_leaps =
      and_right (same_side is.leaper.piece.side (other side)) (is_king s.rules is.leaper.piece.kind)
      (ap (is_king s.rules) is.leaper.of_kind ∙ is.leaper.no_king)

  kings_before : AreKings s.rules (other side) before reply.kings
  kings_before =
      each_before (λ t c. has reply.kings t ≡ is_own_king s.rules (other side) c)
      (is.kings at ∙ ap (is_own_king s.rules (other side)) is.leap.empty ∙ sym no_king_leaps)
      (is.kings start ∙ ap (is_own_king s.rules (other side)) is.leaper.there ∙ no_king_leaps)
      (λ t e f. is.kings t)

  shut_before : AreShut s.rules side before reply.stepped reply.kings reply.shut
  shut_before from to king gone board on member went_on occupied t l same =
      by_equal t at (attacks_from s.rules board side king t ≡ false)
      (λ q e.
      let stands : cell_at board at ≡ Some is.leaper.piece = ap (cell_at board) (sym e) ∙ same ∙ ap (cell_at before) e ∙ before_at in
      ap (attacks_from s.rules board side king) e ∙ from_man s.rules board side king at is.leaper.piece stands
      ∙ ap (λ x. same_side x side && reaches_as s.rules board side is.leaper.piece.kind (record { 0 = at }) Take king) is.leaper.of_side
      ∙ other_differs side (reaches_as s.rules board side is.leaper.piece.kind (record { 0 = at }) Take king))
      (λ q e. by_equal t start (attacks_from s.rules board side king t ≡ false)
      (λ w f.
      let empty : cell_at board t ≡ None = same ∙ ap (cell_at before) f ∙ before_start in
      from_none s.rules board side king t empty)
      (λ w f. is.shut from to king gone board on member went_on occupied t l (same ∙ before_other t f e)))

  checks_before : AreChecks s.rules side before (record { kings = reply.kings; shut = reply.shut })
  checks_before = record {
    kings = kings_before;
    shut = λ occupied all. by_any_set s.rules side before reply.stepped occupied reply.kings reply.shut occupied_before all shut_before;
  }

  -- ---- the piece that comes then

  module _ (kind : Kind) (from to : ℕ) (from_start : (from == start) ≡ false) (from_at : (from == at) ≡ false) (to_start : (to == start) ≡ false) (to_at : (to == at) ≡ false) (later : List (Option Cell)) (long : length later ≡ 120) (come : ComesTo side kind cells from to later) where
    abbrev after : List (Option Cell)
    after = carried later start at

    start_stays : cell_at later start ≡ cell_at cells start
    start_stays = come.others start (λ e. unlike from start from_start (sym e)) (λ e. unlike to start to_start (sym e))

    stays_empty : cell_at later at ≡ None
    stays_empty = come.others at (λ e. unlike from at from_at (sym e)) (λ e. unlike to at to_at (sym e)) ∙ is.leap.empty

    after_at : cell_at after at ≡ Some is.leaper.piece
    after_at =
        cell_at-set_same (slice_set later start None) at (cell_at later start)
        (let e = length-set later start None in let l = is.small in let n = long in omega (arith, e, n, l))
        ∙ start_stays ∙ is.leaper.there

    after_start : cell_at after start ≡ None
    after_start =
        cell_at-set_other (slice_set later start None) at start (cell_at later start) apart
        ∙ cell_at-set_same later start None (let l = is.leaper.small in let n = long in omega (arith, n, l))

    after_other : (t : ℕ) → t ≢ start → t ≢ at → cell_at after t ≡ cell_at later t
    after_other t e f =
        cell_at-set_other (slice_set later start None) at t (cell_at later start) (λ g. f (sym g))
        ∙ cell_at-set_other later start t None (λ g. e (sym g))

    comes_after : ComesTo side kind before from to after
    comes_after = record {
      piece = come.piece;
      of_side = come.of_side;
      of_kind = come.of_kind;
      there = after_other to (unlike to start to_start) (unlike to at to_at) ∙ come.there;
      left = λ a. after_other from (unlike from start from_start) (unlike from at from_at) ∙ come.left a;
      others = λ t e f.
          by_equal t at (cell_at after t ≡ cell_at before t)
          (λ q g. ap (cell_at after) g ∙ after_at ∙ sym before_at ∙ ap (cell_at before) (sym g))
          (λ q g. by_equal t start (cell_at after t ≡ cell_at before t)
          (λ w h. ap (cell_at after) h ∙ after_start ∙ sym before_start ∙ ap (cell_at before) (sym h))
          (λ w h. after_other t h g ∙ come.others t e f ∙ sym (before_other t h g)));
    }

    -- where it opens no line to a king and attacks none, none is attacked
    module _ (moved_on : Set) (gone : IsMoved reply.stepped from to moved_on) (closed : has reply.shut from ≡ true) (none : ReachesNone s.rules side kind to moved_on reply.kings) where
      pub is_safe_after : king_attacked s.rules after (other side) ≡ false
      is_safe_after =
          comes_quietly s.rules side kind before from to after comes_after reply.stepped moved_on occupied_before gone
          (record { kings = reply.kings; shut = reply.shut }) checks_before closed none (plain-rules s.rules is.leaper.plain).walks

-- ---- the leap after the move

module _ (s : Stance) (reply : Reply) (is : IsReply s reply) (size : length s.position.cells ≡ 120) (coming : Coming) (from_start : (coming.from == reply.leaper.from) ≡ false) (from_at : (coming.from == reply.to) ≡ false) (to_start : (coming.to == reply.leaper.from) ≡ false) (to_at : (coming.to == reply.to) ≡ false) (closed : has reply.shut coming.from ≡ true) where
  -- no line is opened, and the piece that comes attacks no king
  pub stays-legal : (occupied later_set moved_on : Set) → IsOccupied occupied s.position.cells → IsMoved occupied coming.from coming.to later_set → IsMoved reply.stepped coming.from coming.to moved_on → ReachesNone s.rules s.position.side coming.kind coming.to moved_on reply.kings → (m : Move) → IsComing s m coming → is_ongoing (early_end s.rules (repeat_after s m)) ≡ true → Member (leap_of reply) (legal s.rules (repeat_after s m))
  unfolding next_repeat
  stays-legal occupied later_set moved_on all went_on gone none m move on =
      let r = repeat_after s m in
      let later = cells_after s.rules (repeat_in s) m in
      let come = move.comes in
      let kind = is.leaper.of_kind in
      let no_pawn = ap (is_pawn s.rules) kind ∙ is.leaper.no_pawn in
      let on_board = later_occupied s.rules s.position.side coming.kind s.position.cells coming.from coming.to later come occupied later_set all went_on in
      step_is_legal s.rules r move.long reply.leaper.from reply.to is.leaper.piece
      (start_stays s reply is size coming.kind coming.from coming.to from_start from_at to_start to_at later move.long come ∙ is.leaper.there)
      is.leaper.of_side
      no_pawn (plain-rules s.rules is.leaper.plain)
      (walks_quietly s.rules later (other s.position.side) is.leaper.piece.kind (record { 0 = reply.leaper.from }) reply.to
      (stays_empty s reply is size coming.kind coming.from coming.to from_start from_at to_start to_at later move.long come)
      no_pawn
      (ap (λ (k : Kind). reaches_as s.rules later (other s.position.side) k (record { 0 = reply.leaper.from }) Quiet reply.to) kind
      ∙ is.leap.reached later_set later on_board))
      (no_king_castles s.rules r is.leaper.piece.kind reply.leaper.from reply.to (ap (is_king s.rules) kind ∙ is.leaper.no_king))
      (is_safe_after s reply is size coming.kind coming.from coming.to from_start from_at to_start to_at later move.long come moved_on gone closed none)
      is.leaper.small is.small on

-- ---- the moves by which a piece comes

module _ (s : Stance) (size : length s.position.cells ≡ 120) where
  pub go-comes : (from to : Square) (promo : Promo) (x : Cell) → from.0 < 120 → to.0 < 120 → cell_at s.position.cells from.0 ≡ Some x → x.side ≡ s.position.side → is_ep s.position.ep to.0 ≡ false → IsComing s (Go from to promo None) (record { kind = (after_promo s.rules x promo).kind; from = from.0; to = to.0 })
  go-comes from to promo x l m there own no_ep =
      let r = repeat_in s in
      let y = after_promo s.rules x promo in
      let e = sym (goes s.rules r size from to promo x there (not_passing s.rules r from to.0 no_ep)) in
      record {
        from = l;
        to = m;
        long = subst (λ (c : List (Option Cell)). length c ≡ 120) e (length-set (slice_set r.cells from.0 None) to.0 (Some y) ∙ length-set r.cells from.0 None ∙ size);
        comes = subst (λ (c : List (Option Cell)). ComesTo s.position.side y.kind s.position.cells from.0 to.0 c) e (went s.rules r size from to y l m (promo_side s.rules x promo ∙ own));
      }

  pub drop-comes : (kind : Kind) (to : Square) → to.0 < 120 → IsComing s (Drop kind to) (record { kind = kind; from = to.0; to = to.0 })
  unfolding cells_after
  drop-comes kind to m = record {
    from = m;
    to = m;
    long = length-set s.position.cells to.0 (Some (fresh s.position.side kind)) ∙ size;
    comes = dropped s.rules (repeat_in s) size kind to m;
  }

-- ---- what the sets of the code say

-- the leap to an empty square, as the code makes it
pub reply-of : (s : Stance) (leaper : Leaper) (to : ℕ) (occupied left stepped kings closed : Set) → IsLeaper s leaper → IsLeapTo s leaper to → to < 120 → IsOccupied occupied s.position.cells → IsWithout occupied leaper.from left → IsWith left to stepped → AreKings s.rules (other s.position.side) s.position.cells kings → AreShut s.rules s.position.side s.position.cells stepped kings closed → IsReply s (record { leaper = leaper; to = to; kings = kings; stepped = stepped; shut = closed })
reply-of s leaper to occupied left stepped kings closed of_piece leap small all without with are lines = record {
  leaper = of_piece;
  leap = leap;
  small = small;
  kings = are;
  stepped = λ t. moved-by occupied left stepped leaper.from to without with t ∙ ap (λ (b : Bool). (b && not (t == leaper.from)) || (t == to)) (all t);
  shut = lines;
}

pub in_option : {X : Type 0} {P Q : X → Type 0} (o : Option X) → IfSome o P → ((x : X) → P x → Q x) → IfSome o Q
in_option None h f = tt
in_option (Some x) h f = f x h

-- a square that is left of those of both sets
pub free_parts : (a b both c left : Bool) → both ≡ (a && b) → left ≡ (both && not c) → left ≡ true → ((a && b) ≡ true) × (c ≡ false)
free_parts a b both c left e f g =
    let p = and_parts both (not c) (sym f ∙ g) in
    (sym e ∙ p.0, not-true c p.1)
