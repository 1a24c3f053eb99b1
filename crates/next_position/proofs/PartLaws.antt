-- The parts make up the position after the move.
use Rattle.std.proofs.Common.{◌≡◌, ◌≢◌, ℕ, ◌<◌, ◌≤◌, nat_lt, Bool, true, false, ◌&&◌, ◌||◌, not, if◌then◌else◌, List, [], ◌∷◌, Option, Some, None, refl, ap, ◌∙◌, arith}
use Rattle.std.specs.Prelude.{is_some, slice_set}
use Rattle.std.proofs.lemmas.Bool.{ne_eqb, not-true}
use Rattle.foundation.proofs.CountLemmas.{first_below-same, last_below-same}
use Rattle.foundation.proofs.SetLemmas.{slice_get-set_other}
use Rattle.rules_model.specs.declared.board.Cell.{Cell}
use Rattle.rules_model.specs.declared.board.Position.{Position}
use Rattle.rules_model.specs.declared.board.Repeat.{Repeat}
use Rattle.rules_model.specs.declared.board.Side.{Side}
use Rattle.rules_model.specs.declared.board.Side.TheVariants.{White, Black}
use Rattle.rules_model.specs.declared.board.Square.{Square}
use Rattle.rules_model.specs.declared.board.Wing.{Wing}
use Rattle.rules_model.specs.declared.board.Wing.TheVariants.{Kingside, Queenside}
use Rattle.rules_model.specs.declared.moves.Move.{Move}
use Rattle.rules_model.specs.declared.moves.Move.TheVariants.{Go, Castle, Drop}
use Rattle.rules_model.specs.declared.rules.Rules.{Rules}
use Rattle.rules_model.specs.Fit.{IsFit}
use Rattle.rules_model.specs.Repeats.{repeat_of}
use Rattle.rules_model.specs.Attacks.{is_own, king_attacked}
use Rattle.rules_model.specs.Sides.{other}
use Rattle.rules_model.specs.Regions.{castling_square}
use Rattle.rules_model.specs.Castling.{holds_right, rook_beyond, rook_file, rook_on}
use Rattle.rules_model.specs.Kinds.{masks}
use Rattle.rules_model.specs.Squares.{cell_at, flat}
use Rattle.rules_model.specs.Next.{cells_after, checks_after, enters, ep_after, ep_where, fresh, gated, gates_after, hands_after, is_double_step, keeps_right, leaves, next, next_counter, next_number, next_repeat, promote, rights_after, rook_stays}
use Rattle.rules_model.proofs.CandidateLaws.{first_below-some, last_below-some}
use Rattle.next_position.specs.declared.rights.RightsLeft.{RightsLeft}
use Rattle.next_position.specs.declared.rights.RightsLeft.TheVariants.{All, OfRooks}
use Rattle.next_position.specs.declared.rights.Rooks.{Rooks}
use Rattle.next_position.specs.Parts.{cells_by, checks_left, gates_by, hands_by, held, holds_any_right, is_apart, is_on_castling_rank, is_on_rank, is_outermost, is_passing, passed_over, rights_by, rights_kept, rights_left, rook_left, rooks_left, standing, taken_by}

pub cells_after-by : (rules : Rules) (r : Repeat) (m : Move) → cells_after rules r m ≡ cells_by rules r.side (is_passing rules r m) m r.cells
unfolding cells_after
cells_after-by rules r (Go from to promo gate) = refl
cells_after-by rules r (Castle from to rook gate) = refl
cells_after-by rules r (Drop kind to) = refl

pub hands_after-by : (rules : Rules) (r : Repeat) (m : Move) → hands_after rules r m ≡ hands_by rules r.side (taken_by rules r m) m r.hands
unfolding hands_after
hands_after-by rules r (Go from to promo gate) = refl
hands_after-by rules r (Castle from to rook gate) = refl
hands_after-by rules r (Drop kind to) = refl

pub gates_after-by : (rules : Rules) (r : Repeat) (m : Move) → gates_after rules r m ≡ gates_by rules m r.gates
unfolding gates_after
gates_after-by rules r m = refl

-- ---- the en passant square

no_square : (rules : Rules) (side : Side) (later : List (Option Cell)) (b : Bool) (s : Option Square) → (if b then ep_where rules side later s else None) ≡ ep_where rules side later (if b then s else None)
no_square rules side later true s = refl
no_square rules side later false s = refl

pub ep_after-by : (rules : Rules) (r : Repeat) (m : Move) (later : List (Option Cell)) → ep_after rules r m later ≡ ep_where rules r.side later (passed_over rules r m)
unfolding ep_after
ep_after-by rules r (Go from to promo gate) later = no_square rules r.side later (is_double_step rules r from to promo) _
ep_after-by rules r (Castle from to rook gate) later = refl
ep_after-by rules r (Drop kind to) later = refl

-- ---- rights

where_still : (b c : Bool) (file : ℕ) (later : Option ℕ) → (b && c && is_outermost (Some file) later) ≡ is_outermost (if b && c then Some file else None) later
where_still true true file later = refl
where_still true false file later = refl
where_still false c file later = refl

rook_stays-by : (rules : Rules) (side : Side) (m : Move) (file later : Option ℕ) → rook_stays rules side m file later ≡ is_outermost (standing rules side m file) later
rook_stays-by rules side m None later = refl
rook_stays-by rules side m (Some file) later =
    where_still (not (leaves m (castling_square rules side file))) (not (enters m (castling_square rules side file))) file later

where_held : (b : Bool) (rook later : Option ℕ) (stays : Bool) → stays ≡ is_outermost rook later → (b && stays) ≡ is_outermost (if b then rook else None) later
where_held true rook later stays e = e
where_held false rook later stays e = refl

keeps_right-by : (rules : Rules) (r : Repeat) (m : Move) (later : List (Option Cell)) (side : Side) (wing : Wing) → keeps_right rules r m later side wing ≡ is_outermost (rook_left rules r m side wing) (rook_file rules later side wing)
unfolding keeps_right
keeps_right-by rules r m later side wing =
    where_held (holds_right r.rights side wing && not (leaves m (castling_square rules side rules.castle_king))) (standing rules side m (rook_file rules r.cells side wing)) (rook_file rules later side wing) _
    (rook_stays-by rules side m (rook_file rules r.cells side wing) (rook_file rules later side wing))

pub rights_after-by : (rules : Rules) (r : Repeat) (m : Move) (later : List (Option Cell)) → rights_after rules r m later ≡ rights_by rules later White (rooks_left rules r m White) ∷ rights_by rules later Black (rooks_left rules r m Black) ∷ []
unfolding rights_after
rights_after-by rules r m later =
    rw (keeps_right-by rules r m later White Kingside, keeps_right-by rules r m later White Queenside, keeps_right-by rules r m later Black Kingside, keeps_right-by rules r m later Black Queenside)

-- ---- rights where the move leaves the castling rank alone

off_rank : (rules : Rules) (side : Side) (s f : ℕ) → is_on_rank (castling_square rules side 0) s ≡ false → f < 12 → s ≢ castling_square rules side f
off_rank rules side s f off l e = absurd (grind (off, e, arith))

-- a square that none of the writes is on
unwritten : (cells : List (Option Cell)) (at s : ℕ) (c : Option Cell) → at ≢ s → cell_at (slice_set cells at c) s ≡ cell_at cells s
unwritten cells at s c apart = ap (λ o. flat o) (slice_get-set_other cells at s c apart)

and3 : (a b c : Bool) (P : Type 0) → (not a && not b && not c) ≡ true → (a ≡ false → b ≡ false → c ≡ false → P) → P
and3 false false false P e k = k refl refl refl
and3 false false true P e k = cc
and3 false true c P e k = cc
and3 true b c P e k = cc

as_before : (rules : Rules) (side mover : Side) (passing : Bool) (m : Move) (cells : List (Option Cell)) (f : ℕ) → is_apart rules side passing m ≡ true → f < 12
    → cell_at (cells_by rules mover passing m cells) (castling_square rules side f) ≡ cell_at cells (castling_square rules side f)
as_before rules side mover passing (Go from to promo gate) cells f apart l =
    and3 passing (is_on_castling_rank rules side from.0) (is_on_castling_rank rules side to.0) _ apart
    (λ none left entered.
    rw (
      none,
      unwritten (slice_set cells from.0 (gated mover gate)) to.0 (castling_square rules side f) (promote rules (cell_at cells from.0) promo) (off_rank rules side to.0 f entered l),
      unwritten cells from.0 (castling_square rules side f) (gated mover gate) (off_rank rules side from.0 f left l),
    ))
as_before rules side mover passing (Castle from to rook gate) cells f apart l = cc
as_before rules side mover passing (Drop kind to) cells f apart l =
    unwritten cells to.0 (castling_square rules side f) (Some (fresh mover kind)) (off_rank rules side to.0 f (not-true (is_on_castling_rank rules side to.0) apart) l)

same_rook : (rules : Rules) (later cells : List (Option Cell)) (side : Side) → rules.files ≤ 12 → ((f : ℕ) → f < 12 → cell_at later (castling_square rules side f) ≡ cell_at cells (castling_square rules side f))
    → (wing : Wing) → rook_file rules later side wing ≡ rook_file rules cells side wing
unfolding rook_file rook_on
same_rook rules later cells side fit same Kingside =
    last_below-same (rook_beyond rules later side Kingside) (rook_beyond rules cells side Kingside) rules.files
    (λ f l. ap (λ o. nat_lt rules.castle_king f && is_own side (masks rules.castle_rooks) o) (same f (omega (arith, l, fit))))
same_rook rules later cells side fit same Queenside =
    first_below-same (rook_beyond rules later side Queenside) (rook_beyond rules cells side Queenside) rules.files
    (λ f l. ap (λ o. nat_lt f rules.castle_king && is_own side (masks rules.castle_rooks) o) (same f (omega (arith, l, fit))))

-- ---- rights that are kept without a look at the rooks

not_left : (rules : Rules) (side : Side) (passing : Bool) (m : Move) (f : ℕ) → is_apart rules side passing m ≡ true → f < 12 → leaves m (castling_square rules side f) ≡ false
not_left rules side passing (Go from to promo gate) f apart l =
    and3 passing (is_on_castling_rank rules side from.0) (is_on_castling_rank rules side to.0) _ apart
    (λ none left entered. ne_eqb from.0 (castling_square rules side f) (off_rank rules side from.0 f left l))
not_left rules side passing (Castle from to rook gate) f apart l = cc
not_left rules side passing (Drop kind to) f apart l = refl

not_entered : (rules : Rules) (side : Side) (passing : Bool) (m : Move) (f : ℕ) → is_apart rules side passing m ≡ true → f < 12 → enters m (castling_square rules side f) ≡ false
not_entered rules side passing (Go from to promo gate) f apart l =
    and3 passing (is_on_castling_rank rules side from.0) (is_on_castling_rank rules side to.0) _ apart
    (λ none left entered. ne_eqb to.0 (castling_square rules side f) (off_rank rules side to.0 f entered l))
not_entered rules side passing (Castle from to rook gate) f apart l = cc
not_entered rules side passing (Drop kind to) f apart l =
    ne_eqb to.0 (castling_square rules side f) (off_rank rules side to.0 f (not-true (is_on_castling_rank rules side to.0) apart) l)

rook_within : (rules : Rules) (cells : List (Option Cell)) (side : Side) (wing : Wing) (file : ℕ) → rook_file rules cells side wing ≡ Some file → file < rules.files
unfolding rook_file
rook_within rules cells side Kingside file e = (last_below-some (rook_beyond rules cells side Kingside) rules.files file e).0
rook_within rules cells side Queenside file e = (first_below-some (rook_beyond rules cells side Queenside) rules.files file e).0

is_at-same : (file : ℕ) → is_outermost (Some file) (Some file) ≡ true
is_at-same file = grind arith

-- a rook that neither moves nor is moved to is the outermost one still
still_outermost : (rules : Rules) (side : Side) (passing : Bool) (m : Move) (rook : Option ℕ) → is_apart rules side passing m ≡ true → is_some rook ≡ true
    → ((file : ℕ) → rook ≡ Some file → file < 12) → is_outermost (standing rules side m rook) rook ≡ true
still_outermost rules side passing m None apart stands within = cc
still_outermost rules side passing m (Some file) apart stands within =
    let l = within file refl in
    rw (not_left rules side passing m file apart l, not_entered rules side passing m file apart l) (is_at-same file)

where_kept : (b king : Bool) (rook later : Option ℕ) → (b ≡ true → king ≡ false) → (b ≡ true → is_outermost rook later ≡ true) → b ≡ is_outermost (if b && not king then rook else None) later
where_kept false king rook later still stays = refl
where_kept true king rook later still stays = rw (still refl, stays refl) refl

right_kept : (rules : Rules) (r : Repeat) (m : Move) (passing : Bool) (side : Side) (wing : Wing) → IsFit rules
    → (holds_right r.rights side wing ≡ true → is_some (rook_file rules r.cells side wing) ≡ true)
    → (holds_right r.rights side wing ≡ true → is_apart rules side passing m ≡ true)
    → holds_right r.rights side wing ≡ is_outermost (rook_left rules r m side wing) (rook_file rules (cells_by rules r.side passing m r.cells) side wing)
right_kept rules r m passing side wing fit stands apart =
    let later = cells_by rules r.side passing m r.cells in
    let rook = rook_file rules r.cells side wing in
    where_kept (holds_right r.rights side wing) (leaves m (castling_square rules side rules.castle_king)) (standing rules side m rook) (rook_file rules later side wing)
    (λ h. not_left rules side passing m rules.castle_king (apart h) fit.castle_king)
    (λ h.
    rw (same_rook rules later r.cells side fit.files_most (λ f l. as_before rules side r.side passing m r.cells f (apart h) l) wing)
    (still_outermost rules side passing m rook (apart h) (stands h) (λ file e. let l = rook_within rules r.cells side wing file e in omega (arith, l, fit.files_most))))

apart_or_none : (a b apart : Bool) → (not (a || b) || apart) ≡ true → (a ≡ true → apart ≡ true) × (b ≡ true → apart ≡ true)
apart_or_none true b apart e = ((λ h. e), (λ h. e))
apart_or_none false true apart e = ((λ h. e), (λ h. e))
apart_or_none false false apart e = ((λ h. cc), (λ h. cc))

-- where the side holds no right or the move is apart from its castling rank, it keeps the rights that it has
all_kept : (rules : Rules) (r : Repeat) (m : Move) (passing : Bool) (side : Side) → IsFit rules
    → ((wing : Wing) → holds_right r.rights side wing ≡ true → is_some (rook_file rules r.cells side wing) ≡ true)
    → (not (holds_any_right r.rights side) || is_apart rules side passing m) ≡ true
    → held r.rights side ≡ rights_by rules (cells_by rules r.side passing m r.cells) side (rooks_left rules r m side)
all_kept rules r m passing side fit stands e =
    let apart = apart_or_none (holds_right r.rights side Kingside) (holds_right r.rights side Queenside) (is_apart rules side passing m) e in
    let kingside = right_kept rules r m passing side Kingside fit (stands Kingside) apart.0 in
    let queenside = right_kept rules r m passing side Queenside fit (stands Queenside) apart.1 in
    λ i. kingside i ∷ queenside i ∷ []

by_left : (rules : Rules) (later : List (Option Cell)) (rights : List (List Bool)) (side : Side) (rooks : Rooks) (all : Bool)
    → (all ≡ true → held rights side ≡ rights_by rules later side rooks) → rights_kept rules later rights side (if all then All else OfRooks rooks) ≡ rights_by rules later side rooks
by_left rules later rights side rooks true same = same refl
by_left rules later rights side rooks false same = refl

-- the rights of a side as the code finds them
pub rights_written : (rules : Rules) (r : Repeat) (m : Move) (later : List (Option Cell)) (passing : Bool) (side : Side) → IsFit rules
    → ((wing : Wing) → holds_right r.rights side wing ≡ true → is_some (rook_file rules r.cells side wing) ≡ true)
    → later ≡ cells_by rules r.side passing m r.cells → {rest : RightsLeft} {kept : List Bool} → rest ≡ rights_left rules r passing m side
    → kept ≡ rights_kept rules later r.rights side rest → kept ≡ rights_by rules later side (rooks_left rules r m side)
rights_written rules r m later passing side fit stands cells rest_is kept_is =
    kept_is ∙ rw (rest_is, cells)
    (by_left rules (cells_by rules r.side passing m r.cells) r.rights side (rooks_left rules r m side) (not (holds_any_right r.rights side) || is_apart rules side passing m)
    (all_kept rules r m passing side fit stands))

-- ---- the position

-- all but the checks left
pub but_checks-by : (rules : Rules) (p q : Position) (m : Move) → q.cells ≡ cells_after rules (repeat_of p) m → q.hands ≡ hands_after rules (repeat_of p) m
    → q.gates ≡ gates_after rules (repeat_of p) m → q.counter ≡ next_counter rules (repeat_of p) m p.counter → q.number ≡ next_number p.side p.number
    → q.rights ≡ rights_after rules (repeat_of p) m q.cells → q.checks ≡ p.checks → q.ep ≡ ep_after rules (repeat_of p) m q.cells → q.side ≡ other p.side
    → q ≡ record (next rules p m) { checks = p.checks }
unfolding next next_repeat
but_checks-by rules p q m cells hands gates counter number rights checks ep side =
    let rights' : q.rights ≡ rights_after rules (repeat_of p) m (cells_after rules (repeat_of p) m) = rights ∙ ap (rights_after rules (repeat_of p) m) cells in
    let ep' : q.ep ≡ ep_after rules (repeat_of p) m (cells_after rules (repeat_of p) m) = ep ∙ ap (ep_after rules (repeat_of p) m) cells in
    λ i. record { cells = cells i; hands = hands i; gates = gates i; counter = counter i; number = number i; rights = rights' i; checks = checks i; ep = ep' i; side = side i }

-- the checks besides
pub next-by : (rules : Rules) (p q : Position) (m : Move) (gives : Bool) → q ≡ record (next rules p m) { checks = p.checks }
    → gives ≡ (rules.check_counting && king_attacked rules q.cells (other p.side)) → record q { checks = checks_left gives p.side q.checks } ≡ next rules p m
unfolding next next_repeat checks_after
next-by rules p q m gives same is =
    let Counts = λ (cells : List (Option Cell)). rules.check_counting && king_attacked rules cells (other p.side) in
    let given : gives ≡ Counts (cells_after rules (repeat_of p) m) = is ∙ ap (λ q'. Counts q'.cells) same in
    let Left : Bool → Position → Position = λ b q'. record q' { checks = checks_left b p.side q'.checks } in
    ap (Left gives) same ∙ ap (λ b. Left b (record (next rules p m) { checks = p.checks })) given
