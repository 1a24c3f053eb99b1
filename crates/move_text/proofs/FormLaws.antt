-- A text names a move exactly where it has the form of one.
use Rattle.std.proofs.Common.{◌≡◌, ◌≢◌, ◌⊎◌, inl, inr, ℕ, ◌+◌, ◌-◌, ◌%◌, ◌<◌, ◌≤◌, nat_le, ◌==◌, Bool, true, false, ◌&&◌, List, [], ◌∷◌, ◌++◌, length, Option, Some, None, if◌then◌else◌, refl, sym, ap, ◌∙◌, arith, subst, ⊎_elim}
use Rattle.std.specs.List.{list_all}
use Rattle.std.specs.Option.{is_some}
use Rattle.std.proofs.lemmas.Bool.{cases_Bool, eqb-true, le-leb, leb-true, and_from, and_parts}
use Rattle.rules_model.specs.declared.board.Cell.{Cell}
use Rattle.rules_model.specs.declared.board.Kind.{Kind}
use Rattle.rules_model.specs.declared.board.Position.{Position}
use Rattle.rules_model.specs.declared.board.Repeat.{Repeat}
use Rattle.rules_model.specs.declared.board.Side.{Side}
use Rattle.rules_model.specs.declared.board.Square.{Square}
use Rattle.rules_model.specs.declared.board.Wing.{Wing}
use Rattle.rules_model.specs.declared.board.Wing.TheVariants.{Kingside, Queenside}
use Rattle.rules_model.specs.declared.moves.Move.{Move}
use Rattle.rules_model.specs.declared.moves.Move.TheVariants.{Go, Castle, Drop}
use Rattle.rules_model.specs.declared.moves.Placed.{Placed}
use Rattle.rules_model.specs.declared.moves.Promo.{Promo}
use Rattle.rules_model.specs.declared.moves.Promo.TheVariants.{Stays, Pawn, Plus}
use Rattle.rules_model.specs.declared.rules.Rules.{Rules}
use Rattle.rules_model.specs.Squares.{cell_at}
use Rattle.rules_model.specs.Repeats.{repeat_of}
use Rattle.rules_model.specs.Sides.{same_side}
use Rattle.rules_model.specs.Kinds.{is_king, is_pawn, masks, promoted_of}
use Rattle.rules_model.specs.Attacks.{is_own, is_own_king}
use Rattle.rules_model.specs.Castling.{rook_beyond, rook_file, rook_on}
use Rattle.rules_model.specs.Fit.{IsFit}
use Rattle.rules_model.specs.Moves.{IsFitMove}
use Rattle.rules_model.specs.MoveText.{lower, square_text, text_of, upper}
use Rattle.rules_model.specs.Sound.{is_sound}
use Rattle.rules_model.proofs.CandidateLaws.{rook_file-some}
use Rattle.move_text.specs.Form.{HasForm, IsDropText, IsGoText, is_ending, is_piece_ending, letters_at_most}
use Rattle.move_text.specs.Names.{IsMeant, Names, is_castle_to, is_meant_castle, is_meant_go, gates_on_start, may_end, pawn_ends, piece_ends}
use Rattle.move_text.specs.declared.endings.Ending.{Ending}
use Rattle.move_text.specs.Read.{castle_said, ending, gate_ending, gated, go_by, go_of, is_lower, kind_ending, move_said, named_kind, pawn_ending, piece_ending, promoted, promoted_gated}
use Rattle.move_text.specs.Squares.{TwoSquares}
use Rattle.move_text.proofs.CastleLaws.{IsOf, castle_at, castle_shape, is_of-wing, right_of}
use Rattle.move_text.proofs.EndingLaws.{ending_text}
use Rattle.move_text.proofs.ReadLaws.{castle_is_shape, castle_text_is, castle_then, drop_written, go_shape, go_then, go_written, is_shape, read-names, said_squares}
use Rattle.move_text.proofs.SquareLaws.{NoZero, apart, two, two_text}

-- ---- endings of moves have the form

lower_is : (kind : Kind) → is_lower (lower kind) ≡ true
lower_is kind = and_from (nat_le 97 (lower kind)) (nat_le (lower kind) 122) (le-leb _ _ (omega arith)) (le-leb _ _ (omega arith))

one_letter : (most : ℕ) (kind : Kind) → 1 ≤ most → letters_at_most most (lower kind ∷ []) ≡ true
one_letter most kind some = and_from _ _ (le-leb _ _ some) (and_from _ _ (lower_is kind) refl)

no_plus : (kind : Kind) → (lower kind == 43) ≡ false
no_plus kind = apart (97 + kind.0 % 26) 43 (λ e. absurd (omega (arith, e)))

pawn_form : (promo : Promo) (gate : Option Kind) → pawn_ends promo gate ≡ true → letters_at_most 2 (ending_text promo gate) ≡ true
pawn_form Stays None h = refl
pawn_form Stays (Some gate) h = cc
pawn_form (Pawn kind) None h = one_letter 2 kind (omega arith)
pawn_form (Pawn kind) (Some gate) h = and_from _ _ (lower_is kind) (and_from _ _ (lower_is gate) refl)
pawn_form Plus gate h = cc

letter_form : (rules : Rules) (kind gate : Kind) → is_piece_ending rules kind (lower gate ∷ []) ≡ true
letter_form rules kind gate = let other = no_plus gate in rw other (one_letter 1 gate (omega arith))

piece_form : (rules : Rules) (kind : Kind) (promo : Promo) (gate : Option Kind) → piece_ends rules kind promo ≡ true → is_piece_ending rules kind (ending_text promo gate) ≡ true
piece_form rules kind Stays None h = refl
piece_form rules kind Stays (Some gate) h = letter_form rules kind gate
piece_form rules kind (Pawn promoted) gate h = cc
piece_form rules kind Plus None h = and_from _ _ h refl
piece_form rules kind Plus (Some gate) h = and_from _ _ h (one_letter 1 gate (omega arith))

ending_form : (rules : Rules) (promo : Promo) (gate : Option Kind) (kind : Kind) → may_end rules promo gate kind ≡ true → is_ending rules (ending_text promo gate) kind ≡ true
ending_form rules promo gate kind h =
    ⊎_elim
    (λ (y : is_pawn rules kind ≡ true). rw y (pawn_form promo gate (let k = rw y at h in k)))
    (λ (n : is_pawn rules kind ≡ false). rw n (piece_form rules kind promo gate (let k = rw n at h in k)))
    (cases_Bool (is_pawn rules kind))

-- a letter may follow the squares of any piece, and so may nothing
letter_ends : (rules : Rules) (gate kind : Kind) → is_ending rules (lower gate ∷ []) kind ≡ true
letter_ends rules gate kind =
    ⊎_elim (λ (y : is_pawn rules kind ≡ true). rw y (one_letter 2 gate (omega arith))) (λ (n : is_pawn rules kind ≡ false). rw n (letter_form rules kind gate)) (cases_Bool (is_pawn rules kind))

nothing_ends : (rules : Rules) (kind : Kind) → is_ending rules [] kind ≡ true
nothing_ends rules kind = ⊎_elim (λ (y : is_pawn rules kind ≡ true). rw y refl) (λ (n : is_pawn rules kind ≡ false). rw n refl) (cases_Bool (is_pawn rules kind))

-- a test of an own piece that holds of more kinds
own_weaker : (side : Side) (p q : Kind → Bool) (o : Option Cell) → ((kind : Kind) → p kind ≡ true → q kind ≡ true) → is_own side p o ≡ true → is_own side q o ≡ true
own_weaker side p q None f h = cc
own_weaker side p q (Some c) f h = let both = and_parts (same_side c.side side) (p c.kind) h in and_from _ _ both.0 (f c.kind both.1)

-- ---- a named text has the form

has_go : (rules : Rules) (p : Position) (text : List ℕ) (s : TwoSquares) → s.from.0 < 120 → s.to.0 < 120 → is_own p.side (is_ending rules s.ending) (cell_at p.cells s.from.0) ≡ true → text ≡ two_text s → HasForm rules p text
has_go rules p text s a b own written = inr (s.from, s.to, s.ending, record { start = a; target = b; own = own; written = written })

king_own : (rules : Rules) (p : Position) (wing : Wing) (from to rook : Square) (ending : List ℕ) → IsOf rules (repeat_of p) wing from to rook → ((kind : Kind) → is_ending rules ending kind ≡ true) → is_own p.side (is_ending rules ending) (cell_at p.cells from.0) ≡ true
king_own rules p wing from to rook ending of ends =
    own_weaker p.side (is_king rules) (is_ending rules ending) (cell_at p.cells from.0) (λ kind h. ends kind) (subst (λ x. is_own_king rules p.side (cell_at p.cells x.0) ≡ true) (sym of.start) of.held.king)

beyond_on : (rules : Rules) (r : Repeat) (side : Side) (wing : Wing) (file : ℕ) → rook_beyond rules r.cells side wing file ≡ true → rook_on rules r.cells side file ≡ true
beyond_on rules r side Kingside file h = (and_parts _ _ h).1
beyond_on rules r side Queenside file h = (and_parts _ _ h).1

rook_own : (rules : Rules) (p : Position) (wing : Wing) (from to rook : Square) (ending : List ℕ) → IsOf rules (repeat_of p) wing from to rook → ((kind : Kind) → is_ending rules ending kind ≡ true) → is_own p.side (is_ending rules ending) (cell_at p.cells rook.0) ≡ true
unfolding rook_on
rook_own rules p wing from to rook ending of ends =
    let there = beyond_on rules (repeat_of p) p.side wing of.file (rook_file-some rules (repeat_of p) p.side wing of.file of.held.rook).1 in
    own_weaker p.side (masks rules.castle_rooks) (is_ending rules ending) (cell_at p.cells rook.0) (λ kind h. ends kind) (subst (λ x. is_own p.side (masks rules.castle_rooks) (cell_at p.cells x.0) ≡ true) (sym of.rooks) there)

castle_form : (rules : Rules) (p : Position) (wing : Wing) (from to rook : Square) (gate : Option Placed) (text : List ℕ) → from.0 < 120 → to.0 < 120 → rook.0 < 120 → IsOf rules (repeat_of p) wing from to rook → text ≡ two_text (castle_shape from to rook gate) → HasForm rules p text
castle_form rules p wing from to rook None text a b c of e = has_go rules p text (two from to []) a b (king_own rules p wing from to rook [] of (nothing_ends rules)) e
castle_form rules p wing from to rook (Some placed) text a b c of e =
    let ends = letter_ends rules placed.kind in
    ⊎_elim
    (λ (y : (placed.at.0 == rook.0) ≡ true). has_go rules p text (two rook from (lower placed.kind ∷ [])) c a (rook_own rules p wing from to rook (lower placed.kind ∷ []) of ends) (let k = rw y at e in k))
    (λ (n : (placed.at.0 == rook.0) ≡ false). has_go rules p text (two from to (lower placed.kind ∷ [])) a b (king_own rules p wing from to rook (lower placed.kind ∷ []) of ends) (let k = rw n at e in k))
    (cases_Bool (placed.at.0 == rook.0))

meant_form : (rules : Rules) (p : Position) (from to rook : Square) (gate : Option Placed) (text : List ℕ) → from.0 < 120 → to.0 < 120 → rook.0 < 120 → is_meant_castle rules (repeat_of p) from to rook gate ≡ true → text ≡ two_text (castle_shape from to rook gate) → HasForm rules p text
unfolding is_meant_castle
meant_form rules p from to rook gate text a b c h e =
    let both = and_parts _ (gates_on_start from rook gate) h in
    ⊎_elim
    (λ (y : is_castle_to rules (repeat_of p) from to rook Kingside ≡ true). castle_form rules p Kingside from to rook gate text a b c (is_of-wing rules (repeat_of p) Kingside from to rook y) e)
    (λ (n : is_castle_to rules (repeat_of p) from to rook Kingside ≡ false). castle_form rules p Queenside from to rook gate text a b c (is_of-wing rules (repeat_of p) Queenside from to rook (right_of _ _ both.0 n)) e)
    (cases_Bool (is_castle_to rules (repeat_of p) from to rook Kingside))

go_form : (rules : Rules) (p : Position) (from : Square) (promo : Promo) (gate : Option Kind) → is_meant_go rules (repeat_of p) from promo gate ≡ true → is_own p.side (is_ending rules (ending_text promo gate)) (cell_at p.cells from.0) ≡ true
unfolding is_meant_go
go_form rules p from promo gate h = own_weaker p.side (may_end rules promo gate) (is_ending rules (ending_text promo gate)) (cell_at p.cells from.0) (λ kind may. ending_form rules promo gate kind may) h

form_of : (rules : Rules) (p : Position) (text : List ℕ) (m : Move) → IsFitMove m → text_of m ≡ text → IsMeant rules (repeat_of p) m → HasForm rules p text
form_of rules p text (Go from to promo gate) small written meant =
    has_go rules p text (two from to (ending_text promo gate)) small.0 small.1 (go_form rules p from promo gate meant.0) (sym written ∙ go_written from to promo gate)
form_of rules p text (Castle from to rook gate) small written meant = meant_form rules p from to rook gate text small.0 small.1 small.2 meant (sym written ∙ castle_text_is from to rook gate)
form_of rules p text (Drop kind to) small written meant =
    let few = small.0 in
    inl (upper kind, to, record { letter_least = omega arith; letter_most = omega arith; square = small.1; written = sym written ∙ drop_written kind to })

pub named-form : (rules : Rules) (p : Position) (text : List ℕ) (m : Move) → Names rules p text m → HasForm rules p text
named-form rules p text m names = form_of rules p text m names.fit names.written names.meant

-- ---- a text of the form names a move

letter_named : (b : ℕ) → is_lower b ≡ true → (kind : Kind) × (named_kind b ≡ Some kind)
letter_named b h = (record { 0 = b - 97 }, rw h refl)

pawn_ending_there : (text : List ℕ) → letters_at_most 2 text ≡ true → (e : Ending) × (pawn_ending text ≡ Some e)
pawn_ending_there [] h = (ending Stays None, refl)
pawn_ending_there (b ∷ []) h =
    let first = letter_named b (and_parts (is_lower b) true (and_parts (nat_le (length (b ∷ [])) 2) (list_all is_lower (b ∷ [])) h).1).0 in
    (ending (Pawn first.0) None, ap promoted first.1)
pawn_ending_there (b ∷ c ∷ []) h =
    let letters = and_parts (is_lower b) (is_lower c && true) (and_parts (nat_le (length (b ∷ c ∷ [])) 2) (list_all is_lower (b ∷ c ∷ [])) h).1 in
    let first = letter_named b letters.0 in
    let second = letter_named c (and_parts (is_lower c) true letters.1).0 in
    (ending (Pawn first.0) (Some second.0), ap (λ o. promoted_gated o (named_kind c)) first.1 ∙ ap (gated (Pawn first.0)) second.1)
pawn_ending_there (b ∷ c ∷ d ∷ text) h = absurd (let few : length (b ∷ c ∷ d ∷ text) ≤ 2 = leb-true _ _ (and_parts _ (list_all is_lower (b ∷ c ∷ d ∷ text)) h).0 in omega (arith, few))

gate_ending_there : (promo : Promo) (text : List ℕ) → letters_at_most 1 text ≡ true → (e : Ending) × (gate_ending promo text ≡ Some e)
gate_ending_there promo [] h = (ending promo None, refl)
gate_ending_there promo (b ∷ []) h =
    let first = letter_named b (and_parts (is_lower b) true (and_parts (nat_le (length (b ∷ [])) 1) (list_all is_lower (b ∷ [])) h).1).0 in
    (ending promo (Some first.0), ap (gated promo) first.1)
gate_ending_there promo (b ∷ c ∷ text) h = absurd (let few : length (b ∷ c ∷ text) ≤ 1 = leb-true _ _ (and_parts _ (list_all is_lower (b ∷ c ∷ text)) h).0 in omega (arith, few))

abbrev EndingThere : Rules → Kind → List ℕ → Type 0
EndingThere rules kind text = (e : Ending) × (piece_ending rules kind text ≡ Some e)

plus_ending : (rules : Rules) (kind : Kind) (b : ℕ) (text : List ℕ) (e : Ending) → (b == 43) ≡ true → is_some (promoted_of rules kind) ≡ true → gate_ending Plus text ≡ Some e → piece_ending rules kind (b ∷ text) ≡ Some e
plus_ending rules kind b text e y z h = rw (y, z) h

other_ending : (rules : Rules) (kind : Kind) (b : ℕ) (text : List ℕ) (e : Ending) → (b == 43) ≡ false → gate_ending Stays (b ∷ text) ≡ Some e → piece_ending rules kind (b ∷ text) ≡ Some e
other_ending rules kind b text e n h = rw n h

piece_ending_there : (rules : Rules) (kind : Kind) (text : List ℕ) → is_piece_ending rules kind text ≡ true → EndingThere rules kind text
piece_ending_there rules kind [] h = (ending Stays None, refl)
piece_ending_there rules kind (b ∷ text) h =
    ⊎_elim
    (λ (y : (b == 43) ≡ true).
    let both = and_parts (is_some (promoted_of rules kind)) (letters_at_most 1 text) (let k = rw y at h in k) in
    let rest = gate_ending_there Plus text both.1 in (rest.0, plus_ending rules kind b text rest.0 y both.0 rest.1))
    (λ (n : (b == 43) ≡ false).
    let rest = gate_ending_there Stays (b ∷ text) (let k = rw n at h in k) in (rest.0, other_ending rules kind b text rest.0 n rest.1))
    (cases_Bool (b == 43))

pawn_kind_ending : (rules : Rules) (kind : Kind) (text : List ℕ) (e : Ending) → is_pawn rules kind ≡ true → pawn_ending text ≡ Some e → kind_ending rules kind text ≡ Some e
pawn_kind_ending rules kind text e y h = rw y h

other_kind_ending : (rules : Rules) (kind : Kind) (text : List ℕ) (e : Ending) → is_pawn rules kind ≡ false → piece_ending rules kind text ≡ Some e → kind_ending rules kind text ≡ Some e
other_kind_ending rules kind text e n h = rw n h

ending_there : (rules : Rules) (text : List ℕ) (kind : Kind) → is_ending rules text kind ≡ true → (e : Ending) × (kind_ending rules kind text ≡ Some e)
ending_there rules text kind h =
    ⊎_elim
    (λ (y : is_pawn rules kind ≡ true). let e = pawn_ending_there text (let k = rw y at h in k) in (e.0, pawn_kind_ending rules kind text e.0 y e.1))
    (λ (n : is_pawn rules kind ≡ false). let e = piece_ending_there rules kind text (let k = rw n at h in k) in (e.0, other_kind_ending rules kind text e.0 n e.1))
    (cases_Bool (is_pawn rules kind))

-- an ending does not begin with 0
letters_stop : (most b : ℕ) (text : List ℕ) → letters_at_most most (b ∷ text) ≡ true → (b == 48) ≡ false
letters_stop most b text h =
    let lower = (and_parts (is_lower b) (list_all is_lower text) (and_parts _ (list_all is_lower (b ∷ text)) h).1).0 in
    let low : 97 ≤ b = leb-true _ _ (and_parts (nat_le 97 b) (nat_le b 122) lower).0 in apart b 48 (λ e. absurd (omega (arith, e, low)))

form_stops : (rules : Rules) (text : List ℕ) (kind : Kind) → is_ending rules text kind ≡ true → NoZero text
form_stops rules [] kind h = tt
form_stops rules (b ∷ text) kind h =
    ⊎_elim
    (λ (y : is_pawn rules kind ≡ true). letters_stop 2 b text (let k = rw y at h in k))
    (λ (n : is_pawn rules kind ≡ false). ⊎_elim
    (λ (z : (b == 43) ≡ true). apart b 48 (λ e. absurd (let plus : b ≡ 43 = eqb-true b 43 z in omega (arith, e, plus))))
    (λ (m : (b == 43) ≡ false). letters_stop 1 b text (let k = rw (n, m) at h in k))
    (cases_Bool (b == 43)))
    (cases_Bool (is_pawn rules kind))

abbrev SomeMove : Option Move → Type 0
SomeMove o = (m : Move) × (o ≡ Some m)

own_go : (rules : Rules) (p : Position) (s : TwoSquares) (c : Cell) (e : Ending) → same_side c.side p.side ≡ true → kind_ending rules c.kind s.ending ≡ Some e → go_of rules (repeat_of p) s (Some c) ≡ Some (Go s.from s.to e.promo e.gate)
own_go rules p s c e own h = rw own (ap (go_by s.from s.to) h)

go_read : (rules : Rules) (p : Position) (s : TwoSquares) (o : Option Cell) → is_own p.side (is_ending rules s.ending) o ≡ true → SomeMove (go_of rules (repeat_of p) s o)
go_read rules p s None h = cc
go_read rules p s (Some c) h =
    let both = and_parts (same_side c.side p.side) (is_ending rules s.ending c.kind) h in
    let e = ending_there rules s.ending c.kind both.1 in
    let own = both.0 in
    (Go s.from s.to e.0.promo e.0.gate, own_go rules p s c e.0 own e.1)

own_stops : (rules : Rules) (side : Side) (ending : List ℕ) (o : Option Cell) → is_own side (is_ending rules ending) o ≡ true → NoZero ending
own_stops rules side ending None h = cc
own_stops rules side ending (Some c) h = form_stops rules ending c.kind (and_parts (same_side c.side side) (is_ending rules ending c.kind) h).1

squares_read : (rules : Rules) (p : Position) (s : TwoSquares) (o : Option Move) → s.from.0 < 120 → s.to.0 < 120 → is_own p.side (is_ending rules s.ending) (cell_at p.cells s.from.0) ≡ true → castle_said rules (repeat_of p) s ≡ o → SomeMove (move_said rules p (two_text s))
squares_read rules p s None a b own e =
    let go = go_read rules p s (cell_at p.cells s.from.0) own in
    (go.0, said_squares rules p s (Some go.0) (is_shape s a b (own_stops rules p.side s.ending (cell_at p.cells s.from.0) own)) (go_then rules p s (Some go.0) e go.1))
squares_read rules p s (Some m) a b own e =
    (m, said_squares rules p s (Some m) (is_shape s a b (own_stops rules p.side s.ending (cell_at p.cells s.from.0) own)) (castle_then rules p s m e))

abbrev Named : Rules → Position → List ℕ → Type 0
Named rules p text = (m : Move) × Names rules p text m

drop_named : (rules : Rules) (p : Position) (text : List ℕ) (letter : ℕ) (to : Square) → IsDropText text letter to → Named rules p text
drop_named rules p text letter to is =
    let least = is.letter_least in
    let most = is.letter_most in
    let kind : Kind = record { 0 = letter - 65 } in
    let same : upper kind ≡ letter = omega (arith, least, most) in (
      Drop kind to,
      record {
        written = drop_written kind to ∙ ap (λ x. x ∷ 64 ∷ square_text to) same ∙ sym is.written;
        fit = (omega (arith, least, most), is.square);
        meant = tt;
      },
    )

pub form-named : (rules : Rules) (p : Position) (text : List ℕ) → IsFit rules → is_sound rules p ≡ true → HasForm rules p text → Named rules p text
form-named rules p text fit sound (inl drop) = drop_named rules p text drop.0 drop.1 drop.2
form-named rules p text fit sound (inr go) =
    let s = two go.0 go.1 go.2 in
    let read = squares_read rules p s (castle_said rules (repeat_of p) s) go.3.start go.3.target go.3.own refl in
    (read.0, read-names rules p text read.0 fit sound (ap (move_said rules p) go.3.written ∙ read.1))
