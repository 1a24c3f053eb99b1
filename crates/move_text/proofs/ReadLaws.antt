-- A text names the move that is read of it, and no other.
use Rattle.std.proofs.Common.{◌≡◌, ◌≢◌, ◌⊎◌, inl, inr, ℕ, ◌+◌, ◌-◌, ◌%◌, ◌<◌, ◌≤◌, nat_le, ◌==◌, Bool, true, false, ◌&&◌, List, [], ◌∷◌, ◌++◌, Option, Some, None, if◌then◌else◌, refl, sym, ap, ◌∙◌, arith, subst, ⊎_elim, append_assoc}
use Rattle.std.specs.Option.{IfNone, IfSome}
use Rattle.std.proofs.lemmas.Bool.{cases_Bool, le-leb, leb-true, lt-leb, eqb-true, and_from, and_parts, and_right}
use Rattle.std.proofs.lemmas.List.{append-nil}
use Rattle.foundation.specs.Tests.{is_nil}
use Rattle.rules_model.specs.declared.board.Cell.{Cell}
use Rattle.rules_model.specs.declared.board.Kind.{Kind}
use Rattle.rules_model.specs.declared.board.Position.{Position}
use Rattle.rules_model.specs.declared.board.Repeat.{Repeat}
use Rattle.rules_model.specs.declared.board.Square.{Square}
use Rattle.rules_model.specs.declared.moves.Move.{Move}
use Rattle.rules_model.specs.declared.moves.Move.TheVariants.{Go, Castle, Drop}
use Rattle.rules_model.specs.declared.moves.Placed.{Placed}
use Rattle.rules_model.specs.declared.moves.Promo.{Promo}
use Rattle.rules_model.specs.declared.rules.Rules.{Rules}
use Rattle.rules_model.specs.Squares.{cell_at}
use Rattle.rules_model.specs.Repeats.{repeat_of}
use Rattle.rules_model.specs.Sides.{same_side}
use Rattle.rules_model.specs.Attacks.{is_own}
use Rattle.rules_model.specs.Fit.{IsFit}
use Rattle.rules_model.specs.Moves.{IsFitMove, IsFitPlaced}
use Rattle.rules_model.specs.MoveText.{castle_text, gate_text, lower, promo_text, square_text, text_of, upper}
use Rattle.rules_model.specs.Sound.{is_sound, is_sound_repeat}
use Rattle.move_text.specs.Names.{IsCastleText, IsMeant, Names, NamesNothing, NoCastleText, is_meant_castle, is_meant_go, may_end}
use Rattle.move_text.specs.declared.endings.Ending.{Ending}
use Rattle.move_text.specs.Read.{castle_said, drop_on, drop_said, first_move, go_by, go_of, is_upper, kind_ending, move_said, squares_said}
use Rattle.move_text.specs.Squares.{Front, TwoSquares, square_front, squares_front}
use Rattle.move_text.proofs.CastleLaws.{CastleRead, castle-back, castle-read, castle_shape, castle_written, first_said, the_move}
use Rattle.move_text.proofs.EndingLaws.{IsEnding, ending-back, ending-said, ending_stops, ending_text}
use Rattle.move_text.proofs.SquareLaws.{AreSquares, NoZero, apart, front, square-back, square-said, squares-back, squares-said, two, two_text}

pub sound_repeat : (rules : Rules) (p : Position) → is_sound rules p ≡ true → is_sound_repeat rules (repeat_of p) ≡ true
unfolding is_sound
sound_repeat rules p h = (and_parts _ _ (and_parts _ _ (and_parts _ _ h).0).0).0

-- ---- drops

upper_is : (kind : Kind) → is_upper (upper kind) ≡ true
upper_is kind = and_from (nat_le 65 (upper kind)) (nat_le (upper kind) 90) (le-leb _ _ (omega arith)) (le-leb _ _ (omega arith))

drop_back : (kind : Kind) (to : Square) → kind.0 < 26 → to.0 < 120 → drop_said (upper kind ∷ 64 ∷ square_text to) ≡ Some (Drop kind to)
unfolding drop_said
drop_back kind to small below =
    let letter = upper_is kind in
    let value : upper kind - 65 ≡ kind.0 = omega (arith, small) in
    rw letter (ap (λ t. drop_on (upper kind) (square_front t)) (sym (append-nil (square_text to))) ∙ ap (drop_on (upper kind)) (square-back to [] below tt)
    ∙ ap (λ k. Some (Drop (record { 0 = k }) to)) value)

no_drop : (b : ℕ) (text : List ℕ) → is_upper b ≡ false → drop_said (b ∷ text) ≡ None
unfolding drop_said
no_drop b [] h = refl
no_drop b (c ∷ text) h = rw h refl

lower_file : (s : Square) → is_upper (97 + s.0 % 12) ≡ false
lower_file s = let high : nat_le (97 + s.0 % 12) 90 ≡ false = lt-leb _ _ (omega arith) in rw high (and_right (nat_le 65 (97 + s.0 % 12)) false refl)

squares_no_drop : (s : TwoSquares) → drop_said (two_text s) ≡ None
squares_no_drop s = no_drop (97 + s.from.0 % 12) _ (lower_file s.from)

nothing_left : (text : List ℕ) → is_nil text ≡ true → text ≡ []
nothing_left [] h = refl
nothing_left (b ∷ text) h = cc

drop_of : (p : Position) (rules : Rules) (b : ℕ) (rest : List ℕ) (o : Option Front) (m : Move) → is_upper b ≡ true → square_front rest ≡ o → drop_on b o ≡ Some m → Names rules p (b ∷ 64 ∷ rest) m
unfolding text_of
drop_of p rules b rest None m up e h = cc
drop_of p rules b rest (Some f) m up e h =
    ⊎_elim
    (λ (y : is_nil f.rest ≡ true).
    let both = and_parts (nat_le 65 b) (nat_le b 90) up in
    let low : 65 ≤ b = leb-true _ _ both.0 in
    let high : b ≤ 90 = leb-true _ _ both.1 in
    let said = square-said rest f e in
    let letter : 65 + (b - 65) % 26 ≡ b = omega (arith, low, high) in
    let tail : square_text (record { 0 = f.value }) ≡ rest = sym (said.1 ∙ ap (λ t. square_text (record { 0 = f.value }) ++ t) (nothing_left f.rest y) ∙ append-nil (square_text (record { 0 = f.value }))) in
    let is : Drop (record { 0 = b - 65 }) (record { 0 = f.value }) ≡ m = the_move (let k = rw y at h in k) in
    subst (Names rules p (b ∷ 64 ∷ rest)) is (record {
      written = ap (λ x. x ∷ 64 ∷ square_text (record { 0 = f.value })) letter ∙ ap (λ t. b ∷ 64 ∷ t) tail;
      fit = (omega (arith, low, high), said.0);
      meant = tt;
    }))
    (λ (n : is_nil f.rest ≡ false). let k = rw n at h in cc)
    (cases_Bool (is_nil f.rest))

drop_names : (rules : Rules) (p : Position) (text : List ℕ) (m : Move) → drop_said text ≡ Some m → Names rules p text m
unfolding drop_said
drop_names rules p [] m h = cc
drop_names rules p (b ∷ []) m h = cc
drop_names rules p (b ∷ c ∷ rest) m h =
    ⊎_elim
    (λ (y : (is_upper b && c == 64) ≡ true).
    let both = and_parts (is_upper b) (c == 64) y in
    subst (λ x. Names rules p (b ∷ x ∷ rest) m) (sym (eqb-true c 64 both.1)) (drop_of p rules b rest (square_front rest) m both.0 refl (let k = rw y at h in k)))
    (λ (n : (is_upper b && c == 64) ≡ false). let k = rw n at h in cc)
    (cases_Bool (is_upper b && c == 64))

-- ---- the squares of a text

pub go_written : (from to : Square) (promo : Promo) (gate : Option Kind) → text_of (Go from to promo gate) ≡ two_text (two from to (ending_text promo gate))
unfolding text_of
go_written from to promo gate = append_assoc (square_text from ++ square_text to) (promo_text promo) (gate_text gate)

pub castle_text_is : (from to rook : Square) (gate : Option Placed) → text_of (Castle from to rook gate) ≡ two_text (castle_shape from to rook gate)
unfolding text_of
castle_text_is from to rook gate = castle_written from to rook gate

-- two squares of the largest board that are read from their text
pub record IsShape (s : TwoSquares) : Type 0 where
  pub start : s.from.0 < 120
  pub target : s.to.0 < 120
  pub front : squares_front (two_text s) ≡ Some s

pub is_shape : (s : TwoSquares) → s.from.0 < 120 → s.to.0 < 120 → NoZero s.ending → IsShape s
is_shape s a b stops = record { start = a; target = b; front = squares-back s a b stops }

pub go_shape : (from to : Square) (promo : Promo) (gate : Option Kind) → from.0 < 120 → to.0 < 120 → IsShape (two from to (ending_text promo gate))
go_shape from to promo gate a b = is_shape (two from to (ending_text promo gate)) a b (ending_stops promo gate)

pub castle_is_shape : (from to rook : Square) (gate : Option Placed) → from.0 < 120 → to.0 < 120 → rook.0 < 120 → IsShape (castle_shape from to rook gate)
castle_is_shape from to rook None a b c = is_shape (two from to []) a b tt
castle_is_shape from to rook (Some placed) a b c =
    let stops : NoZero (lower placed.kind ∷ []) = apart (97 + placed.kind.0 % 26) 48 (λ e. absurd (omega (arith, e))) in
    ⊎_elim
    (λ (y : (placed.at.0 == rook.0) ≡ true). rw y (is_shape (two rook from (lower placed.kind ∷ [])) c a stops))
    (λ (n : (placed.at.0 == rook.0) ≡ false). rw n (is_shape (two from to (lower placed.kind ∷ [])) a b stops))
    (cases_Bool (placed.at.0 == rook.0))

abbrev shape_or : TwoSquares → Option TwoSquares → TwoSquares
shape_or d None = d
shape_or d (Some s) = s

-- squares and ending follow from the text
pub same_shape : (s t : TwoSquares) → IsShape s → IsShape t → two_text s ≡ two_text t → s ≡ t
same_shape s t a b e = ap (shape_or s) (sym a.front ∙ ap squares_front e ∙ b.front)

-- ---- what is read of squares

pub drop_written : (kind : Kind) (to : Square) → text_of (Drop kind to) ≡ upper kind ∷ 64 ∷ square_text to
unfolding text_of
drop_written kind to = refl

drop_first : (rules : Rules) (p : Position) (text : List ℕ) (m : Move) → drop_said text ≡ Some m → move_said rules p text ≡ Some m
unfolding move_said
drop_first rules p text m h = ap (λ d. first_move d (squares_said rules (repeat_of p) (squares_front text))) h

pub said_squares : (rules : Rules) (p : Position) (s : TwoSquares) (o : Option Move) → IsShape s → squares_said rules (repeat_of p) (Some s) ≡ o → move_said rules p (two_text s) ≡ o
unfolding move_said
said_squares rules p s o is h = ap (λ d. first_move d (squares_said rules (repeat_of p) (squares_front (two_text s)))) (squares_no_drop s) ∙ ap (squares_said rules (repeat_of p)) is.front ∙ h

pub castle_then : (rules : Rules) (p : Position) (s : TwoSquares) (m : Move) → castle_said rules (repeat_of p) s ≡ Some m → squares_said rules (repeat_of p) (Some s) ≡ Some m
castle_then rules p s m h = ap (λ c. first_move c (go_of rules (repeat_of p) s (cell_at p.cells s.from.0))) h

pub go_then : (rules : Rules) (p : Position) (s : TwoSquares) (o : Option Move) → castle_said rules (repeat_of p) s ≡ None → go_of rules (repeat_of p) s (cell_at p.cells s.from.0) ≡ o → squares_said rules (repeat_of p) (Some s) ≡ o
go_then rules p s o h k = ap (λ c. first_move c (go_of rules (repeat_of p) s (cell_at p.cells s.from.0))) h ∙ k

-- ---- a named move is read

castle_found : (rules : Rules) (p : Position) (s : TwoSquares) (m : Move) → IsFit rules → castle_said rules (repeat_of p) s ≡ Some m → NoCastleText rules (repeat_of p) (two_text s) → ⊥
castle_found rules p s m fit h none = let read = castle-read rules (repeat_of p) s m fit h in none read.from read.to read.rook read.gate read.text

no_castle : (rules : Rules) (p : Position) (s : TwoSquares) (o : Option Move) → IsFit rules → castle_said rules (repeat_of p) s ≡ o → NoCastleText rules (repeat_of p) (two_text s) → castle_said rules (repeat_of p) s ≡ None
no_castle rules p s None fit h none = h
no_castle rules p s (Some m) fit h none = absurd (castle_found rules p s m fit h none)

go_cell : (rules : Rules) (p : Position) (from to : Square) (promo : Promo) (gate : Option Kind) (o : Option Cell) → IsFitMove (Go from to promo gate) → is_own p.side (may_end rules promo gate) o ≡ true
    → go_of rules (repeat_of p) (two from to (ending_text promo gate)) o ≡ Some (Go from to promo gate)
go_cell rules p from to promo gate None fit h = cc
go_cell rules p from to promo gate (Some c) fit h =
    let both = and_parts (same_side c.side p.side) (may_end rules promo gate c.kind) h in
    let own = both.0 in
    rw own (ap (go_by from to) (ending-back rules c.kind promo gate fit.2 fit.3 both.1))

go_meant : (rules : Rules) (p : Position) (from to : Square) (promo : Promo) (gate : Option Kind) → IsFitMove (Go from to promo gate) → is_meant_go rules (repeat_of p) from promo gate ≡ true
    → go_of rules (repeat_of p) (two from to (ending_text promo gate)) (cell_at p.cells from.0) ≡ Some (Go from to promo gate)
unfolding is_meant_go
go_meant rules p from to promo gate fit meant = go_cell rules p from to promo gate (cell_at p.cells from.0) fit meant

read_of : (rules : Rules) (p : Position) (m : Move) → IsFit rules → is_sound rules p ≡ true → IsFitMove m → IsMeant rules (repeat_of p) m → move_said rules p (text_of m) ≡ Some m
read_of rules p (Go from to promo gate) fit sound small meant =
    let s = two from to (ending_text promo gate) in
    let none = subst (NoCastleText rules (repeat_of p)) (go_written from to promo gate) meant.1 in
    ap (move_said rules p) (go_written from to promo gate)
    ∙ said_squares rules p s (Some (Go from to promo gate)) (go_shape from to promo gate small.0 small.1)
    (go_then rules p s (Some (Go from to promo gate)) (no_castle rules p s (castle_said rules (repeat_of p) s) fit refl none) (go_meant rules p from to promo gate small meant.0))
read_of rules p (Castle from to rook gate) fit sound small meant =
    let s = castle_shape from to rook gate in
    ap (move_said rules p) (castle_text_is from to rook gate)
    ∙ said_squares rules p s (Some (Castle from to rook gate)) (castle_is_shape from to rook gate small.0 small.1 small.2)
    (castle_then rules p s (Castle from to rook gate) (castle-back rules (repeat_of p) from to rook gate (sound_repeat rules p sound) small.3 meant))
read_of rules p (Drop kind to) fit sound small meant = ap (move_said rules p) (drop_written kind to) ∙ drop_first rules p (upper kind ∷ 64 ∷ square_text to) (Drop kind to) (drop_back kind to small.0 small.1)

-- a named move is the one that is read
pub names-read : (rules : Rules) (p : Position) (text : List ℕ) (m : Move) → IsFit rules → is_sound rules p ≡ true → Names rules p text m → move_said rules p text ≡ Some m
names-read rules p text m fit sound names = ap (move_said rules p) (sym names.written) ∙ read_of rules p m fit sound names.fit names.meant

-- ---- what is read is named

castle_names : (rules : Rules) (p : Position) (s : TwoSquares) (m : Move) → IsFit rules → castle_said rules (repeat_of p) s ≡ Some m → Names rules p (two_text s) m
castle_names rules p s m fit h =
    let read = castle-read rules (repeat_of p) s m fit h in
    subst (Names rules p (two_text s)) (sym read.is) (record { written = read.text.written; fit = read.text.fit; meant = read.text.meant })

never_both : (rules : Rules) (p : Position) (s : TwoSquares) → is_sound rules p ≡ true → IsShape s → castle_said rules (repeat_of p) s ≡ None → (from to rook : Square) (gate : Option Placed) → IsCastleText rules (repeat_of p) (two_text s) from to rook gate → ⊥
never_both rules p s sound is none from to rook gate castle =
    let shape = same_shape (castle_shape from to rook gate) s (castle_is_shape from to rook gate castle.fit.0 castle.fit.1 castle.fit.2) is (sym (castle_text_is from to rook gate) ∙ castle.written) in
    let said = castle-back rules (repeat_of p) from to rook gate (sound_repeat rules p sound) castle.fit.3 castle.meant in
    cc (ap (castle_said rules (repeat_of p)) shape, said, none)

go_ending : (rules : Rules) (p : Position) (s : TwoSquares) (c : Cell) (o : Option Ending) (m : Move) → is_sound rules p ≡ true → IsShape s → castle_said rules (repeat_of p) s ≡ None → cell_at p.cells s.from.0 ≡ Some c → same_side c.side p.side ≡ true
    → kind_ending rules c.kind s.ending ≡ o → go_by s.from s.to o ≡ Some m → Names rules p (two_text s) m
unfolding is_meant_go
go_ending rules p s c None m sound is none there own e h = cc
go_ending rules p s c (Some x) m sound is none there own e h =
    let said = ending-said rules c.kind s.ending x e in
    let text : text_of (Go s.from s.to x.promo x.gate) ≡ two_text s = go_written s.from s.to x.promo x.gate ∙ ap (λ t. two_text (two s.from s.to t)) (sym said.is.written) in
    subst (Names rules p (two_text s)) (the_move h) (record {
      written = text;
      fit = (is.start, is.target, said.is.promo, said.is.gate);
      meant = (
        ap (is_own p.side (may_end rules x.promo x.gate)) there ∙ and_from _ _ own said.may,
        λ from to rook gate castle. never_both rules p s sound is none from to rook gate (subst (λ t. IsCastleText rules (repeat_of p) t from to rook gate) text castle),
      );
    })

go_names : (rules : Rules) (p : Position) (s : TwoSquares) (o : Option Cell) (m : Move) → is_sound rules p ≡ true → IsShape s → castle_said rules (repeat_of p) s ≡ None → cell_at p.cells s.from.0 ≡ o
    → go_of rules (repeat_of p) s o ≡ Some m → Names rules p (two_text s) m
go_names rules p s None m sound is none there h = cc
go_names rules p s (Some c) m sound is none there h =
    ⊎_elim
    (λ (y : same_side c.side p.side ≡ true). go_ending rules p s c (kind_ending rules c.kind s.ending) m sound is none there y refl (let k = rw y at h in k))
    (λ (n : same_side c.side p.side ≡ false). let k = rw n at h in cc)
    (cases_Bool (same_side c.side p.side))

squares_names : (rules : Rules) (p : Position) (s : TwoSquares) (o : Option Move) (m : Move) → IsFit rules → is_sound rules p ≡ true → IsShape s → castle_said rules (repeat_of p) s ≡ o
    → first_move o (go_of rules (repeat_of p) s (cell_at p.cells s.from.0)) ≡ Some m → Names rules p (two_text s) m
squares_names rules p s None m fit sound is e h = go_names rules p s (cell_at p.cells s.from.0) m sound is e refl h
squares_names rules p s (Some x) m fit sound is e h = castle_names rules p s m fit (e ∙ h)

text_names : (rules : Rules) (p : Position) (text : List ℕ) (o : Option TwoSquares) (m : Move) → IsFit rules → is_sound rules p ≡ true → squares_front text ≡ o → squares_said rules (repeat_of p) o ≡ Some m → Names rules p text m
text_names rules p text None m fit sound e h = cc
text_names rules p text (Some s) m fit sound e h =
    let are = squares-said text s e in
    let is : IsShape s = record { start = are.start; target = are.target; front = ap squares_front (sym are.written) ∙ e } in
    subst (λ t. Names rules p t m) (sym are.written) (squares_names rules p s (castle_said rules (repeat_of p) s) m fit sound is refl h)

-- what is read is named
pub read-names : (rules : Rules) (p : Position) (text : List ℕ) (m : Move) → IsFit rules → is_sound rules p ≡ true → move_said rules p text ≡ Some m → Names rules p text m
unfolding move_said
read-names rules p text m fit sound h =
    ⊎_elim
    (λ k. drop_names rules p text m k)
    (λ k. text_names rules p text (squares_front text) m fit sound refl k)
    (first_said (drop_said text) (squares_said rules (repeat_of p) (squares_front text)) m h)

pub said_named : (rules : Rules) (p : Position) (text : List ℕ) (o : Option Move) → IsFit rules → is_sound rules p ≡ true → o ≡ move_said rules p text → IfSome o (λ m. Names rules p text m)
said_named rules p text None fit sound h = tt
said_named rules p text (Some m) fit sound h = read-names rules p text m fit sound (sym h)

pub said_nothing : (rules : Rules) (p : Position) (text : List ℕ) (o : Option Move) → IsFit rules → is_sound rules p ≡ true → o ≡ move_said rules p text → IfNone o (NamesNothing rules p text)
said_nothing rules p text None fit sound h = λ m names. let read = names-read rules p text m fit sound names in cc (h, read)
said_nothing rules p text (Some m) fit sound h = tt
