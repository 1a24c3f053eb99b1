-- The order of moves, and the legal list.
use Rattle.std.proofs.Common.{◌≡◌, Bool, true, false, not, ◌&&◌, ◌||◌, if◌then◌else◌, inl, inr, Option, Some, None, List, [], ◌++◌, refl, ap, subst}
use Rattle.std.specs.List.{filter, flat_map}
use Rattle.std.specs.List.Sorted.{IsStrictlySortedBy, IsPermutation}
use Rattle.std.specs.Cmp.{IsTotalOrder}
use Rattle.std.specs.Ordering.{ordering_then}
use Rattle.std.specs.FinSet.{slice_cmp-IsAntisymmetric, nat_cmp-IsAntisymmetric}
use Rattle.std.specs.declared.cmp.Ordering.{Ordering}
use Rattle.std.specs.declared.cmp.Ordering.TheVariants.{Less, Equal, Greater}
use Rattle.std.proofs.lemmas.Cmp.{then_total, on_total, nat_list_cmp_total}
use Rattle.std.proofs.lemmas.List.Kept.{IsStrictlySortedBy-filter}
use Rattle.std.proofs.lemmas.List.Sorted.{IsPermutation-sym}
use Rattle.foundation.specs.Count.{below}
use Rattle.foundation.specs.Member.{Member, IsEachOnce, Lists}
use Rattle.foundation.proofs.Members.{member-left, member-right, member-append, member-filter, filter-member, member-map, map-member, member-flat_map, flat_map-member, member-below, below-member, member-permutation}
use Rattle.foundation.proofs.Ordered.{sorted-unique, sorted-once, in_order-member, in_order-sorted, member-in_order}
use Rattle.rules_model.specs.declared.board.Kind.{Kind}
use Rattle.rules_model.specs.declared.board.Repeat.{Repeat}
use Rattle.rules_model.specs.declared.board.Square.{Square}
use Rattle.rules_model.specs.declared.moves.Move.{Move}
use Rattle.rules_model.specs.declared.moves.Move.TheVariants.{Go, Castle, Drop}
use Rattle.rules_model.specs.declared.moves.Placed.{Placed}
use Rattle.rules_model.specs.declared.moves.Promo.{Promo}
use Rattle.rules_model.specs.declared.moves.Promo.TheVariants.{Stays, Pawn, Plus}
use Rattle.rules_model.specs.declared.rules.Rules.{Rules}
use Rattle.rules_model.specs.MoveText.{text_of, order_parts, move_cmp, promo_parts, gate_parts, placed_parts}
use Rattle.rules_model.specs.Moves.{IsFitMove, IsFitPromo, IsFitGate, IsFitPlaced}
use Rattle.rules_model.specs.Next.{captures}
use Rattle.rules_model.specs.Ends.{is_ongoing, early_end}
use Rattle.rules_model.specs.Legal.{every_move, every_kind, every_promo, every_placed, placed_at, goes_with, goes_to, goes_from, castles_with, castles_to, castles_from, drops_of, is_allowed, legal}
use Rattle.rules_model.specs.Allowed.{can_capture, is_legal}

-- ---- the order

pub move_cmp-total : IsTotalOrder move_cmp
unfolding move_cmp
move_cmp-total = then_total (on_total text_of nat_list_cmp_total) (on_total order_parts nat_list_cmp_total)

second : (r s : Ordering) → ordering_then r s ≡ Equal → s ≡ Equal
second Less s e = cc
second Equal s e = e
second Greater s e = cc

square_from : (a b : Square) → a.0 ≡ b.0 → a ≡ b
square_from a b e = λ i. record { 0 = e i }

kind_from : (a b : Kind) → a.0 ≡ b.0 → a ≡ b
kind_from a b e = λ i. record { 0 = e i }

some_kind : (a b : Kind) → a.0 ≡ b.0 → Some a ≡ Some b
some_kind a b e = ap (λ k. Some k) (kind_from a b e)

gate_from : (g h : Option Kind) → gate_parts g ≡ gate_parts h → g ≡ h
gate_from None None e = refl
gate_from None (Some b) e = cc
gate_from (Some a) None e = cc
gate_from (Some a) (Some b) e = some_kind a b cc

placed_from : (g h : Option Placed) → placed_parts g ≡ placed_parts h → g ≡ h
placed_from None None e = refl
placed_from None (Some b) e = cc
placed_from (Some a) None e = cc
placed_from (Some a) (Some b) e =
    let f : a.kind ≡ b.kind = kind_from a.kind b.kind cc in
    let g : a.at ≡ b.at = square_from a.at b.at cc in
    λ i. Some (record { kind = f i; at = g i })

-- a promotion and a gate by their parts
pair_from : (p q : Promo) (g h : Option Kind) → promo_parts p ++ gate_parts g ≡ promo_parts q ++ gate_parts h → (p ≡ q) × (gate_parts g ≡ gate_parts h)
pair_from Stays Stays g h e = (refl, cc)
pair_from Stays (Pawn b) g h e = cc
pair_from Stays Plus g h e = cc
pair_from (Pawn a) Stays g h e = cc
pair_from (Pawn a) (Pawn b) g h e = (ap (λ k. Pawn k) (kind_from a b cc), cc)
pair_from (Pawn a) Plus g h e = cc
pair_from Plus Stays g h e = cc
pair_from Plus (Pawn b) g h e = cc
pair_from Plus Plus g h e = (refl, cc)

parts-inj : (x y : Move) → order_parts x ≡ order_parts y → x ≡ y
unfolding order_parts
parts-inj (Go a b p g) (Go c d q h) e =
    let f : a ≡ c = square_from a c cc in
    let i : b ≡ d = square_from b d cc in
    let k = pair_from p q g h cc in
    let l : p ≡ q = k.0 in
    let m : g ≡ h = gate_from g h k.1 in
    cc
parts-inj (Go a b p g) (Castle c d s h) e = cc
parts-inj (Go a b p g) (Drop k c) e = cc
parts-inj (Castle a b r g) (Go c d q h) e = cc
parts-inj (Castle a b r g) (Castle c d s h) e =
    let f : a ≡ c = square_from a c cc in
    let i : b ≡ d = square_from b d cc in
    let k : r ≡ s = square_from r s cc in
    let l : g ≡ h = placed_from g h cc in
    cc
parts-inj (Castle a b r g) (Drop k c) e = cc
parts-inj (Drop j a) (Go c d q h) e = cc
parts-inj (Drop j a) (Castle c d s h) e = cc
parts-inj (Drop j a) (Drop k c) e =
    let f : j ≡ k = kind_from j k cc in
    let i : a ≡ c = square_from a c cc in
    cc

-- moves that tie are one move
pub move_cmp-same : (x y : Move) → move_cmp x y ≡ Equal → x ≡ y
unfolding move_cmp
move_cmp-same x y e = parts-inj x y (slice_cmp-IsAntisymmetric nat_cmp-IsAntisymmetric _ _ (second _ _ e))

-- ---- every conceivable move

pub every-sorted : IsStrictlySortedBy move_cmp every_move
unfolding every_move
every-sorted = in_order-sorted move_cmp-total _

has_gate : (g : Option Kind) → IsFitGate g → Member g every_kind
has_gate None h = inl refl
has_gate (Some k) h = inr (member-map (λ n. Some (record { 0 = n })) k.0 (below 26) (member-below k.0 26 h))

has_promo : (p : Promo) → IsFitPromo p → Member p every_promo
has_promo Stays h = inl refl
has_promo (Pawn k) h = inr (inr (member-map (λ n. Pawn (record { 0 = n })) k.0 (below 26) (member-below k.0 26 h)))
has_promo Plus h = inr (inl refl)

has_placed : (g : Option Placed) → IsFitPlaced g → Member g every_placed
has_placed None h = inl refl
has_placed (Some x) h =
    inr (member-flat_map placed_at (Some x) x.kind.0 (below 26) (member-below x.kind.0 26 h.0)
    (member-map (λ s. Some (record { kind = record { 0 = x.kind.0 }; at = record { 0 = s } })) x.at.0 (below 120) (member-below x.at.0 120 h.1)))

goes_in : (m : Move) → Member m (flat_map goes_from (below 120)) → Member m every_move
unfolding every_move
goes_in m h =
    member-in_order move_cmp-same _ m
    (member-left m (flat_map goes_from (below 120) ++ flat_map castles_from (below 120)) (flat_map drops_of (below 26))
    (member-left m (flat_map goes_from (below 120)) (flat_map castles_from (below 120)) h))

castles_in : (m : Move) → Member m (flat_map castles_from (below 120)) → Member m every_move
unfolding every_move
castles_in m h =
    member-in_order move_cmp-same _ m
    (member-left m (flat_map goes_from (below 120) ++ flat_map castles_from (below 120)) (flat_map drops_of (below 26))
    (member-right m (flat_map goes_from (below 120)) (flat_map castles_from (below 120)) h))

drops_in : (m : Move) → Member m (flat_map drops_of (below 26)) → Member m every_move
unfolding every_move
drops_in m h =
    member-in_order move_cmp-same _ m (member-right m (flat_map goes_from (below 120) ++ flat_map castles_from (below 120)) (flat_map drops_of (below 26)) h)

-- each fit move is among them
pub every-has : (m : Move) → IsFitMove m → Member m every_move
every-has (Go from to promo gate) h =
    goes_in _
    (member-flat_map goes_from _ from.0 (below 120) (member-below from.0 120 h.0)
    (member-flat_map (goes_to from.0) _ to.0 (below 120) (member-below to.0 120 h.1)
    (member-flat_map (goes_with from.0 to.0) _ promo every_promo (has_promo promo h.2)
    (member-map (λ g. Go (record { 0 = from.0 }) (record { 0 = to.0 }) promo g) gate every_kind (has_gate gate h.3)))))
every-has (Castle from to rook gate) h =
    castles_in _
    (member-flat_map castles_from _ from.0 (below 120) (member-below from.0 120 h.0)
    (member-flat_map (castles_to from.0) _ to.0 (below 120) (member-below to.0 120 h.1)
    (member-flat_map (castles_with from.0 to.0) _ rook.0 (below 120) (member-below rook.0 120 h.2)
    (member-map (λ g. Castle (record { 0 = from.0 }) (record { 0 = to.0 }) (record { 0 = rook.0 }) g) gate every_placed (has_placed gate h.3)))))
every-has (Drop kind to) h =
    drops_in _
    (member-flat_map drops_of _ kind.0 (below 26) (member-below kind.0 26 h.0)
    (member-map (λ t. Drop (record { 0 = kind.0 }) (record { 0 = t })) to.0 (below 120) (member-below to.0 120 h.1)))

fit_gate : (g : Option Kind) → Member g every_kind → IsFitGate g
fit_gate g (inl e) = subst IsFitGate e tt
fit_gate g (inr m) =
    let k = map-member (λ n. Some (record { 0 = n })) g (below 26) m in
    subst IsFitGate k.2 (below-member k.0 26 k.1)

fit_promo : (p : Promo) → Member p every_promo → IsFitPromo p
fit_promo p (inl e) = subst IsFitPromo e tt
fit_promo p (inr (inl e)) = subst IsFitPromo e tt
fit_promo p (inr (inr m)) =
    let k = map-member (λ n. Pawn (record { 0 = n })) p (below 26) m in
    subst IsFitPromo k.2 (below-member k.0 26 k.1)

fit_placed : (g : Option Placed) → Member g every_placed → IsFitPlaced g
fit_placed g (inl e) = subst IsFitPlaced e tt
fit_placed g (inr m) =
    let k = flat_map-member placed_at g (below 26) m in
    let l = map-member (λ s. Some (record { kind = record { 0 = k.0 }; at = record { 0 = s } })) g (below 120) k.2 in
    subst IsFitPlaced l.2 (below-member k.0 26 k.1, below-member l.0 120 l.1)

fit_go : (m : Move) → Member m (flat_map goes_from (below 120)) → IsFitMove m
fit_go m h =
    let f = flat_map-member goes_from m (below 120) h in
    let t = flat_map-member (goes_to f.0) m (below 120) f.2 in
    let p = flat_map-member (goes_with f.0 t.0) m every_promo t.2 in
    let g = map-member (λ g. Go (record { 0 = f.0 }) (record { 0 = t.0 }) p.0 g) m every_kind p.2 in
    subst IsFitMove g.2 (below-member f.0 120 f.1, below-member t.0 120 t.1, fit_promo p.0 p.1, fit_gate g.0 g.1)

fit_castle : (m : Move) → Member m (flat_map castles_from (below 120)) → IsFitMove m
fit_castle m h =
    let f = flat_map-member castles_from m (below 120) h in
    let t = flat_map-member (castles_to f.0) m (below 120) f.2 in
    let r = flat_map-member (castles_with f.0 t.0) m (below 120) t.2 in
    let g = map-member (λ g. Castle (record { 0 = f.0 }) (record { 0 = t.0 }) (record { 0 = r.0 }) g) m every_placed r.2 in
    subst IsFitMove g.2 (below-member f.0 120 f.1, below-member t.0 120 t.1, below-member r.0 120 r.1, fit_placed g.0 g.1)

fit_drop : (m : Move) → Member m (flat_map drops_of (below 26)) → IsFitMove m
fit_drop m h =
    let k = flat_map-member drops_of m (below 26) h in
    let t = map-member (λ t. Drop (record { 0 = k.0 }) (record { 0 = t })) m (below 120) k.2 in
    subst IsFitMove t.2 (below-member k.0 26 k.1, below-member t.0 120 t.1)

-- and each of them is fit
pub every-fit : (m : Move) → Member m every_move → IsFitMove m
unfolding every_move
every-fit m h =
    elim (member-append m (flat_map goes_from (below 120) ++ flat_map castles_from (below 120)) (flat_map drops_of (below 26)) (in_order-member move_cmp-total _ m h)) as (λ _. IsFitMove m) [
      | inl k ↦ elim (member-append m (flat_map goes_from (below 120)) (flat_map castles_from (below 120)) k) as (λ _. IsFitMove m) [ inl l ↦ fit_go m l | inr l ↦ fit_castle m l ]
      | inr k ↦ fit_drop m k
    ]

-- ---- the allowed moves

-- a list of the allowed moves in strict order is the filter over every move
pub allowed-unique : (rules : Rules) (r : Repeat) (ms : List Move) → IsStrictlySortedBy move_cmp ms → ((m : Move) → Member m ms → IsFitMove m × (is_allowed rules r m ≡ true)) → ((m : Move) → IsFitMove m → is_allowed rules r m ≡ true → Member m ms) → ms ≡ filter (is_allowed rules r) every_move
allowed-unique rules r ms s sound complete =
    sorted-unique move_cmp-total ms _ s (IsStrictlySortedBy-filter move_cmp (is_allowed rules r) every_move every-sorted)
    (λ m k. let h = sound m k in member-filter (is_allowed rules r) m every_move (every-has m h.0) h.1)
    (λ m k. let h = filter-member (is_allowed rules r) m every_move k in complete m (every-fit m h.0) h.1)

-- what a sort of the allowed moves gives
pub allowed-from_sort : (rules : Rules) (r : Repeat) (xs ys : List Move) → Lists (λ m. IsFitMove m × (is_allowed rules r m ≡ true)) xs → IsPermutation xs ys → IsStrictlySortedBy move_cmp ys → ys ≡ filter (is_allowed rules r) every_move
allowed-from_sort rules r xs ys a h s =
    allowed-unique rules r ys s
    (λ m k. a.sound m (member-permutation m ys xs (IsPermutation-sym xs ys h) k))
    (λ m fit ok. member-permutation m xs ys h (a.complete m (fit, ok)))

-- ---- the legal list

sorted_if : (b : Bool) (p : Move → Bool) (xs : List Move) → IsStrictlySortedBy move_cmp xs → IsStrictlySortedBy move_cmp (if b then filter p xs else xs)
sorted_if true p xs s = IsStrictlySortedBy-filter move_cmp p xs s
sorted_if false p xs s = s

sorted_nil : IsStrictlySortedBy move_cmp []
unfolding IsStrictlySortedBy
sorted_nil = tt

sorted_where : (b : Bool) (xs : List Move) → IsStrictlySortedBy move_cmp xs → IsStrictlySortedBy move_cmp (if b then xs else [])
sorted_where true xs s = s
sorted_where false xs s = sorted_nil

-- it is in the byte order of the texts
pub legal-sorted : (rules : Rules) (r : Repeat) → IsStrictlySortedBy move_cmp (legal rules r)
unfolding legal
legal-sorted rules r =
    sorted_where (is_ongoing (early_end rules r)) _ (sorted_if _ (captures rules r) _ (IsStrictlySortedBy-filter move_cmp (is_allowed rules r) every_move every-sorted))

-- no move stands in it twice
pub legal-once : (rules : Rules) (r : Repeat) → IsEachOnce (legal rules r)
legal-once rules r = sorted-once move_cmp-total (legal rules r) (legal-sorted rules r)

keeps : (a b : Bool) (p : Move → Bool) (xs : List Move) (m : Move) → Member m (if a then (if b then filter p xs else xs) else []) → (a ≡ true) × Member m xs × ((not b || p m) ≡ true)
keeps true true p xs m h = let k = filter-member p m xs h in (refl, k.0, k.1)
keeps true false p xs m h = (refl, h, refl)
keeps false b p xs m h = absurd h

kept : (a b : Bool) (p : Move → Bool) (xs : List Move) (m : Move) → a ≡ true → Member m xs → (not b || p m) ≡ true → Member m (if a then (if b then filter p xs else xs) else [])
kept true true p xs m e k h = member-filter p m xs k h
kept true false p xs m e k h = k
kept false b p xs m e k h = cc

all_three : (a b c : Bool) → a ≡ true → b ≡ true → c ≡ true → (a && b && c) ≡ true
all_three true b c e f g = rw f g
all_three false b c e f g = cc

each_of : (a b c : Bool) → (a && b && c) ≡ true → (a ≡ true) × (b ≡ true) × (c ≡ true)
each_of true true c e = (refl, refl, e)
each_of true false c e = cc
each_of false b c e = cc

-- its moves are fit and legal
pub legal-member : (rules : Rules) (r : Repeat) (m : Move) → Member m (legal rules r) → IsFitMove m × (is_legal rules r m ≡ true)
unfolding legal is_legal can_capture
legal-member rules r m h =
    let k = keeps (is_ongoing (early_end rules r)) _ (captures rules r) _ m h in
    let l = filter-member (is_allowed rules r) m every_move k.1 in
    (every-fit m l.0, all_three _ _ _ k.0 l.1 k.2)

-- and each fit move that is legal is among them
pub member-legal : (rules : Rules) (r : Repeat) (m : Move) → IsFitMove m → is_legal rules r m ≡ true → Member m (legal rules r)
unfolding legal is_legal can_capture
member-legal rules r m fit h =
    let k = each_of (is_ongoing (early_end rules r)) (is_allowed rules r m) _ h in
    kept (is_ongoing (early_end rules r)) _ (captures rules r) _ m k.0 (member-filter (is_allowed rules r) m every_move (every-has m fit) k.1) k.2

-- two lists in order with the same members are one list
pub moves-unique : (xs ys : List Move) → IsStrictlySortedBy move_cmp xs → IsStrictlySortedBy move_cmp ys → ((m : Move) → Member m xs → Member m ys) → ((m : Move) → Member m ys → Member m xs) → xs ≡ ys
moves-unique = sorted-unique move_cmp-total
