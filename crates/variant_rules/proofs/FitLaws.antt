-- The rules of a section without a fault fit.
use Rattle.std.proofs.Common.{◌≡◌, ◌≢◌, ℕ, ◌-◌, ◌<◌, ◌≤◌, Bool, true, false, not, ◌&&◌, ◌||◌, ◌==◌, cond, nat_lt, nat_le, List, [], ◌∷◌, Option, Some, None, Result, Ok, Err, IfSome, is_some, is_none, get_or, drop, map, filter, refl, sym, ap, subst, ◌∙◌, arith, option_and_then, unwrap_or}
use Rattle.std.specs.Prelude.{if◌then◌else◌, codes, slice_get}
use Rattle.std.specs.List.{find, list_all, range_with_len}
use Rattle.std.specs.Option.{option_map, option_or}
use Rattle.std.proofs.lemmas.Bool.{and_parts, and_from, or_left}
use Rattle.std.proofs.lemmas.Bool.Decides.{nat_tests}
use Rattle.std.proofs.lemmas.Option.{slice_get-get_or}
use Rattle.std.proofs.lemmas.List.FromFn.{get_or-map-range_with_len, length-map-range_with_len}
use Rattle.std.proofs.lemmas.List.Folds.{list_any_at}
use Rattle.std.proofs.lemmas.Slice.Eq.{bytes_eq-Decides}
use Rattle.foundation.specs.Tests.{is_nil, same_bool}
use Rattle.foundation.specs.Count.{all_below, any_below}
use Rattle.foundation.proofs.CountLemmas.{all_below-true, any_below-true}
use Rattle.fen_model.specs.declared.fault.FenFault.{FenFault}
use Rattle.fen_model.specs.Reading.{fen_of}
use Rattle.rules_model.specs.declared.board.Kind.{Kind}
use Rattle.rules_model.specs.declared.board.Position.{Position}
use Rattle.rules_model.specs.declared.board.Region.{Region}
use Rattle.rules_model.specs.declared.board.Side.{Side}
use Rattle.rules_model.specs.declared.board.Side.TheVariants.{White, Black}
use Rattle.rules_model.specs.declared.rules.Rules.{Rules}
use Rattle.rules_model.specs.Fit.{IsFit, bad_promotion, chains_promotions, fits_pawn, fits_rule, gates_amiss, gates_nowhere, has_no_piece, is_pawn_named, is_pawn_or_king, is_there, kind_fits, mask_fits, promotes_to_pawn_or_king, region_fits, region_fits_at}
use Rattle.rules_model.specs.Kinds.{has_kind, is_king, is_pawn, kind_rule, names, promoted_of, rule_of, rule_promoted}
use Rattle.rules_model.specs.Castling.{castling_on}
use Rattle.variant_ini.specs.Section.{Section}
use Rattle.variant_options.specs.Letters.{kind, letter_of}
use Rattle.foundation.specs.Numbers.{number_of, number_within, within}
use Rattle.variant_options.specs.Options as option
use Rattle.variant_options.specs.Options.{is_pawn_key}
use Rattle.variant_options.specs.PieceTable.{PieceRow, pieces, read_piece, value_word, wordless}
use Rattle.variant_options.specs.Readings.{file_named, lettered_file, read_file, read_fold}
use Rattle.variant_model.specs.declared.fault.SectionFault.{SectionFault}
use Rattle.variant_model.specs.declared.fault.SectionFault.TheVariants.{Inconsistent}
use Rattle.variant_model.specs.Contradictions.{contradiction, has_left_twice}
use Rattle.variant_model.specs.Entry.{accepted, bare_rules, entry, first_fault, is_refused, started_by, unless_fault}
use Rattle.variant_model.specs.Made.{listed_kinds, resolved, rules_from, start_text}
use Rattle.variant_model.specs.PieceRules.{Resolved, both_sides, has_piece, held_letter, held_letters, held_pairs, holder, is_on_board, kind_at, kind_rule_of, mobility, on_the_board, piece_row, piece_word, promoted_by, right_of, said, word_terms}
use Rattle.variant_model.proofs.EntryLaws.{entry_by_fault}
use Rattle.variant_model.proofs.ChainLaws.{IsFaultless, named, named_itself, rules_faultless}
use Rattle.variant_model.proofs.ListLemmas.{found_passes, list_any_found, none_mapped}
use Rattle.variant_rules.proofs.TermLaws.{no_first, word_terms_fit}
use Rattle.variant_rules.proofs.ChainLaws.{IsLetter, is_letter, pawn_apart, pawn_has_no_word, piece_letter_below}

-- ---- numbers

-- what holds of the default and of what each text says holds of what a value says
said_one : {X : Type 0} (P : X → Type 0) (read : Option X) (default : X) → P default → IfSome read P → P (unwrap_or read default)
said_one P None default d h = d
said_one P (Some x) default d h = h

said_all : {X : Type 0} (P : X → Type 0) (read : List ℕ → Option X) (value : Option (List ℕ)) (default : X) → P default → ((text : List ℕ) → IfSome (read text) P) → P (unwrap_or (option_and_then read value) default)
said_all P read None default d h = d
said_all P read (Some text) default d h = said_one P (read text) default d (h text)

abbrev IsWithin : ℕ → ℕ → ℕ → Type 0
IsWithin low high n = (low ≤ n) × (n ≤ high)

within_test : (low high n : ℕ) (test : Bool) → (nat_le low n && nat_le n high) ≡ test → IfSome (if test then Some n else None) (IsWithin low high)
within_test low high n true e =
    let parts = and_parts (nat_le low n) (nat_le n high) e in
    let least : low ≤ n = grind (arith, nat_tests, parts.0) in
    let most : n ≤ high = grind (arith, nat_tests, parts.1) in
    (least, most)
within_test low high n false e = tt

within_all : (low high : ℕ) (number : Option ℕ) → IfSome (option_and_then (within low high) number) (IsWithin low high)
within_all low high None = tt
within_all low high (Some n) = within_test low high n (nat_le low n && nat_le n high) refl

number_said_within : (low high default : ℕ) (value : Option (List ℕ)) → low ≤ default → default ≤ high → IsWithin low high (unwrap_or (option_and_then (number_within low high) value) default)
number_said_within low high default value least most =
    said_all (IsWithin low high) (number_within low high) value default (least, most) (λ text. within_all low high (number_of text))

abbrev IsFold : ℕ → Type 0
IsFold n = (n ≤ 100) × (n ≢ 1)

fold_either : (a b : Option ℕ) → IfSome a (IsWithin 0 0) → IfSome b (IsWithin 2 100) → IfSome (option_or a b) IsFold
fold_either (Some n) b h k = (omega (arith, h.1), λ e. omega (arith, h.1, e))
fold_either None None h k = tt
fold_either None (Some n) h k = (omega (arith, k.1), λ e. omega (arith, k.0, e))

fold_said : (value : Option (List ℕ)) → IsFold (unwrap_or (option_and_then read_fold value) 3)
fold_said value =
    said_all IsFold read_fold value 3 (omega arith, λ e. omega (arith, e))
    (λ text. fold_either (number_within 0 0 text) (number_within 2 100 text) (within_all 0 0 (number_of text)) (within_all 2 100 (number_of text)))

abbrev IsFile : ℕ → Type 0
IsFile n = n < 12

file_test : (n : ℕ) (test : Bool) → nat_lt n 12 ≡ test → IfSome (if test then Some n else None) IsFile
file_test n true e = let below : n < 12 = grind (arith, nat_tests, e) in below
file_test n false e = tt

named_file : (letter : Option Kind) → IfSome (file_named letter) IsFile
named_file None = tt
named_file (Some k) = file_test k.0 (nat_lt k.0 12) refl

lettered : (text : List ℕ) → IfSome (lettered_file text) IsFile
lettered [] = tt
lettered (b ∷ []) = named_file (letter_of b)
lettered (b ∷ c ∷ rest) = tt

file_either : (a b : Option ℕ) → IfSome a IsFile → IfSome b (IsWithin 1 12) → IfSome (option_or a (option_map (λ n. n - 1) b)) IsFile
file_either (Some n) b h k = h
file_either None None h k = tt
file_either None (Some n) h k = omega (arith, k.0, k.1)

file_said : (value : Option (List ℕ)) (default : ℕ) → default < 12 → IsFile (unwrap_or (option_and_then read_file value) default)
file_said value default d =
    said_all IsFile read_file value default d
    (λ text. file_either (lettered_file text) (number_within 1 12 text) (lettered text) (within_all 1 12 (number_of text)))

-- ---- regions

on_or_not : (a b : Bool) → (not (a && b) || b) ≡ true
on_or_not true true = refl
on_or_not true false = refl
on_or_not false b = refl

-- ---- lists

some_mapped : {X Y : Type 0} (f : X → Y) (o : Option X) → is_some (option_map f o) ≡ is_some o
some_mapped f None = refl
some_mapped f (Some x) = refl

-- what a list of the letters has at a letter
slice_get-range : {Y : Type 0} (f : ℕ → Y) (k : ℕ) → k < 26 → slice_get (map f (range_with_len 0 26)) k ≡ Some (f k)
slice_get-range f k l =
    slice_get-get_or (map f (range_with_len 0 26)) k (f k) (omega (arith, l, length-map-range_with_len f 0 26))
    ∙ ap (λ y. Some y) (get_or-map-range_with_len f 0 26 k k (f k) l (omega arith))

-- what is found among those that are kept was kept
kept_first : {X : Type 0} (keep : X → Bool) (test : X → Bool) (x y : X) (rest : List X) (b : Bool) → keep x ≡ true → (find test rest ≡ Some y → keep y ≡ true) → cond b (Some x) (find test rest) ≡ Some y → keep y ≡ true
kept_first keep test x y rest true e h f = let same : x ≡ y = cc in ap keep (sym same) ∙ e
kept_first keep test x y rest false e h f = h f

kept_if : {X : Type 0} (keep : X → Bool) (test : X → Bool) (x y : X) (rest : List X) (b : Bool) → keep x ≡ b → (find test rest ≡ Some y → keep y ≡ true) → find test (cond b (x ∷ rest) rest) ≡ Some y → keep y ≡ true
kept_if keep test x y rest true e h f = kept_first keep test x y rest (test x) e h f
kept_if keep test x y rest false e h f = h f

kept_found : {X : Type 0} (keep : X → Bool) (test : X → Bool) (xs : List X) (y : X) → find test (filter keep xs) ≡ Some y → keep y ≡ true
kept_found keep test [] y e = cc
kept_found keep test (x ∷ xs) y e = kept_if keep test x y (filter keep xs) (keep x) refl (kept_found keep test xs y) e

module _ (section : Resolved) (start : Position) where
  abbrev made : Rules
  made = rules_from section start

  region_on_board : (region : Region) → region_fits made (on_the_board section region) ≡ true
  unfolding region_fits_at on_the_board rules_from
  region_on_board region =
      all_below-true _ 120
      (λ s l.
      ap (λ b. not b || is_on_board section s) (get_or-map-range_with_len (λ s. get_or region.squares s false && is_on_board section s) 0 120 s s false l (omega arith))
      ∙ on_or_not (get_or region.squares s false) (is_on_board section s))

  both_on_board : (region : Side → Region) → list_all (region_fits made) (both_sides section region) ≡ true
  both_on_board region =
      and_from _ _ (region_on_board (region White)) (and_from _ true (region_on_board (region Black)) refl)

  -- ---- kinds

  kind_rule_at : (k : ℕ) → k < 26 → kind_rule made (kind k) ≡ kind_at section k
  unfolding rules_from
  kind_rule_at k l = ap rule_of (slice_get-range (kind_at section) k l)

  has_kind_at : (k : ℕ) → k < 26 → has_kind made (kind k) ≡ has_piece section (kind k)
  has_kind_at k l = ap is_some (kind_rule_at k l) ∙ some_mapped (kind_rule_of section (kind k)) (holder section (kind k))

not_equal : (a b : ℕ) → (a == b) ≡ false → (b == a) ≡ false
not_equal a b e = grind (arith, nat_tests, e)

-- what is known of the letters and of the pawn in a section without a fault
record IsTidy (section : Resolved) : Type 0 where
  letters : (piece : List ℕ) → IfSome (section.letter piece) IsLetter
  no_word : value_word (option_and_then read_piece (section.value (codes "pawn"))) ≡ None
  king_apart : (k : Kind) → section.letter (codes "pawn") ≡ Some k → names (section.letter (codes "king")) k ≡ false
  soldier_apart : (k : Kind) → section.letter (codes "pawn") ≡ Some k → names (section.letter (codes "soldier")) k ≡ false

none_or : (value word : Option (List ℕ)) → value ≡ None → option_or value word ≡ word
none_or None word e = refl
none_or (Some v) word e = cc

-- the pawn's row is the first
pawn_first : (section : Resolved) (k : Kind) → names (section.letter (codes "pawn")) k ≡ true → holder section k ≡ Some (wordless (codes "pawn"))
pawn_first section k e = ap (λ b. cond b (Some (wordless (codes "pawn"))) (find (λ piece. names (section.letter piece.key) k) (drop 1 pieces))) e

pawn_key_by : (section : Resolved) (k : Kind) (piece : PieceRow) (named key : Bool) → names (section.letter (codes "pawn")) k ≡ named → is_pawn_key piece.key ≡ key → holder section k ≡ Some piece → key ≡ named
pawn_key_by section k piece true true n p h = refl
pawn_key_by section k piece false false n p h = refl
pawn_key_by section k piece true false n p h =
    let same : Some (wordless (codes "pawn")) ≡ Some piece = sym (pawn_first section k n) ∙ h in
    let row : wordless (codes "pawn") ≡ piece = cc in
    let yes : is_pawn_key piece.key ≡ true = ap (λ (r : PieceRow). is_pawn_key r.key) (sym row) in
    cc
pawn_key_by section k piece false true n p h =
    let passes = found_passes (λ row. names (section.letter row.key) k) pieces piece h in
    let key : piece.key ≡ codes "pawn" = (bytes_eq-Decides piece.key (codes "pawn")).0 p in
    let yes : names (section.letter (codes "pawn")) k ≡ true = ap (λ key. names (section.letter key) k) (sym key) ∙ passes in
    cc

-- the piece of the pawn's letter is the chess pawn
pawn_key : (section : Resolved) (k : Kind) (piece : PieceRow) → holder section k ≡ Some piece → is_pawn_key piece.key ≡ names (section.letter (codes "pawn")) k
pawn_key section k piece h = pawn_key_by section k piece (names (section.letter (codes "pawn")) k) (is_pawn_key piece.key) refl refl h

neither_right : (a b : Bool) → (a || b) ≡ false → b ≡ false
neither_right true b e = cc
neither_right false b e = e

unless : (f : ℕ → Bool) (n k : ℕ) (passes : Bool) → f k ≡ passes → k < n → any_below f n ≡ false → passes ≡ false
unless f n k false e l none = refl
unless f n k true e l none = let yes = any_below-true f n k l e in cc

none_passes : (f : ℕ → Bool) (n k : ℕ) → k < n → any_below f n ≡ false → f k ≡ false
none_passes f n k l none = unless f n k (f k) refl l none

-- the pawn's letter is another than the soldier's
other_letter : (pawn soldier : Option Kind) → ((k : Kind) → pawn ≡ Some k → names soldier k ≡ false) → (k : Kind) → soldier ≡ Some k → names pawn k ≡ false
other_letter None soldier apart k e = refl
other_letter (Some j) soldier apart k e =
    let named : (k.0 == j.0) ≡ false = ap (λ o. names o j) (sym e) ∙ apart j refl in
    not_equal k.0 j.0 named

module _ (section : Resolved) (start : Position) (tidy : IsTidy section) where
  abbrev rules : Rules
  rules = rules_from section start

  held_below_by : (k : Kind) (found : Option PieceRow) → holder section k ≡ found → is_some found ≡ true → IsLetter k
  held_below_by k None h e = cc
  held_below_by k (Some piece) h e =
      let passes = found_passes (λ row. names (section.letter row.key) k) pieces piece h in
      is_letter (section.letter piece.key) k (named (section.letter piece.key) k passes) (tidy.letters piece.key)

  -- a letter that a piece has is one of the rules
  held_kind : (k : Kind) → has_piece section k ≡ true → has_kind rules k ≡ true
  held_kind k e = has_kind_at section start k.0 (held_below_by k (holder section k) refl e) ∙ e

  -- the letter of a piece of the table
  piece_there_by : (i : ℕ) (letter : Option Kind) → i < 56 → section.letter (piece_row i).key ≡ letter → is_there rules letter ≡ true
  piece_there_by i None l e = refl
  piece_there_by i (Some k) l e =
      let has : PieceRow → Bool = λ piece. names (section.letter piece.key) k in
      let itself = named_itself (section.letter (piece_row i).key) k e in
      held_kind k (sym (list_any_found has pieces) ∙ list_any_at has pieces i (wordless []) l itself)

  piece_there : (i : ℕ) → i < 56 → is_there rules (section.letter (piece_row i).key) ≡ true
  piece_there i l = piece_there_by i (section.letter (piece_row i).key) l refl

  held_there_by : (k : Kind) (held : Bool) → has_piece section k ≡ held → is_there rules (if held then Some k else None) ≡ true
  held_there_by k true e = held_kind k e
  held_there_by k false e = refl

  held_there : (letter : Option Kind) → is_there rules (held_letter section letter) ≡ true
  held_there None = refl
  held_there (Some k) = held_there_by k (has_piece section k) refl

  mask_there : (mask : List Bool) → all_below (mask_fits rules (held_letters section mask)) 26 ≡ true
  unfolding mask_fits
  mask_there mask =
      all_below-true _ 26
      (λ k l.
      ap (λ b. not b || has_kind rules (kind k)) (get_or-map-range_with_len (λ k. get_or mask k false && has_piece section (kind k)) 0 26 k k false l (omega arith))
      ∙ ap (λ b. not (get_or mask k false && has_piece section (kind k)) || b) (has_kind_at section start k l)
      ∙ on_or_not (get_or mask k false) (has_piece section (kind k)))

  -- ---- the rule of a kind

  right_there_by : (k : Kind) (found : Option (Kind × Kind)) → find (λ pair. pair.0.0 == k.0) (held_pairs section) ≡ found → is_there rules (option_map right_of found) ≡ true
  right_there_by k None e = refl
  right_there_by k (Some pair) e =
      held_kind pair.1
      (and_parts (has_piece section pair.0) (has_piece section pair.1)
      (kept_found (λ pair. has_piece section pair.0 && has_piece section pair.1) (λ pair. pair.0.0 == k.0) (said section option.promoted_piece_type) pair e)).1

  right_there : (k : Kind) → is_there rules (promoted_by (held_pairs section) k) ≡ true
  right_there k = right_there_by k (find (λ pair. pair.0.0 == k.0) (held_pairs section)) refl

  pawn_terms : (piece : PieceRow) → piece ≡ wordless (codes "pawn") → is_nil (word_terms (piece_word section piece)) ≡ true
  pawn_terms piece e =
      ap (λ row. is_nil (word_terms (piece_word section row))) e
      ∙ ap (λ word. is_nil (word_terms word)) (none_or (value_word (option_and_then read_piece (section.value (codes "pawn")))) None tidy.no_word)

  no_promotion : (k : Kind) (promoted : Option Kind) → is_pawn rules k ≡ true → bad_promotion rules k promoted ≡ false → is_none promoted ≡ true
  no_promotion k None p e = refl
  no_promotion k (Some j) p e =
      let bad : bad_promotion rules k (Some j) ≡ true = or_left (is_pawn_or_king rules k || is_pawn_or_king rules j) _ (or_left (is_pawn_or_king rules k) _ (or_left (is_pawn rules k) _ p)) in
      cc

  pawn_fits : (k : Kind) (piece : PieceRow) (named : Bool) → names (section.letter (codes "pawn")) k ≡ named → holder section k ≡ Some piece → bad_promotion rules k (promoted_by (held_pairs section) k) ≡ false → (not named || fits_pawn rules k (kind_rule_of section k piece)) ≡ true
  unfolding kind_rule_of rules_from
  pawn_fits k piece false n h bad = refl
  pawn_fits k piece true n h bad =
      let row : Some piece ≡ Some (wordless (codes "pawn")) = sym h ∙ pawn_first section k n in
      let same : piece ≡ wordless (codes "pawn") = cc in
      let apart : is_king rules k ≡ false = tidy.king_apart k (named (section.letter (codes "pawn")) k n) in
      and_from _ _ (and_from _ _ (ap not apart) (pawn_terms piece same)) (no_promotion k (promoted_by (held_pairs section) k) n bad)

  same_itself : (b : Bool) → same_bool b b ≡ true
  same_itself true = refl
  same_itself false = refl

  rule_fits : (k : Kind) (piece : PieceRow) → holder section k ≡ Some piece → bad_promotion rules k (promoted_by (held_pairs section) k) ≡ false → fits_rule rules k (Some (kind_rule_of section k piece)) ≡ true
  unfolding kind_rule_of rules_from
  rule_fits k piece h bad =
      let mark = ap (λ b. same_bool b (is_pawn rules k)) (pawn_key section k piece h) ∙ same_itself (is_pawn rules k) in
      let pawn = ap (λ b. not b || fits_pawn rules k (kind_rule_of section k piece)) (pawn_key section k piece h) ∙ pawn_fits k piece (names (section.letter (codes "pawn")) k) refl h bad in
      and_from _ _ (and_from _ _ (and_from _ _ (and_from _ _ mark pawn) (word_terms_fit (piece_word section piece))) (both_on_board section start (mobility section piece))) (right_there k)

  fits_by : (k : ℕ) (found : Option PieceRow) → holder section (kind k) ≡ found → bad_promotion rules (kind k) (rule_promoted (option_map (kind_rule_of section (kind k)) found)) ≡ false → fits_rule rules (kind k) (option_map (kind_rule_of section (kind k)) found) ≡ true
  unfolding kind_rule_of
  fits_by k None h bad = refl
  fits_by k (Some piece) h bad = rule_fits (kind k) piece h bad

  kinds_fit : ((k : ℕ) → k < 26 → bad_promotion rules (kind k) (promoted_of rules (kind k)) ≡ false) → all_below (kind_fits rules) 26 ≡ true
  unfolding kind_fits
  kinds_fit good =
      all_below-true _ 26
      (λ k l.
      ap (fits_rule rules (kind k)) (kind_rule_at section start k l)
      ∙ fits_by k (holder section (kind k)) refl
      (ap (λ rule. bad_promotion rules (kind k) (rule_promoted rule)) (sym (kind_rule_at section start k l)) ∙ good k l))

  soldier_apart_by : (soldier : Option Kind) → section.letter (codes "soldier") ≡ soldier → is_pawn_named rules soldier ≡ false
  unfolding rules_from
  soldier_apart_by None e = refl
  soldier_apart_by (Some k) e = other_letter (section.letter (codes "pawn")) (section.letter (codes "soldier")) tidy.soldier_apart k e

  no_bad_promotion : chains_promotions rules ≡ false → (k : ℕ) → k < 26 → bad_promotion rules (kind k) (promoted_of rules (kind k)) ≡ false
  unfolding chains_promotions
  no_bad_promotion none k l = none_passes (λ k. bad_promotion rules (kind k) (promoted_of rules (kind k))) 26 k l none

  -- ---- the whole

  no_contradiction : contradiction rules (held_pairs section) ≡ None → IsFit rules
  unfolding contradiction rules_from
  no_contradiction none =
      let first = no_first (has_no_piece rules) _ _ none in
      let second = no_first (promotes_to_pawn_or_king rules) _ _ first.1 in
      let third = no_first (has_left_twice (held_pairs section) || chains_promotions rules) _ _ second.1 in
      let fourth = no_first (gates_nowhere rules) _ _ third.1 in
      let fifth = no_first (gates_amiss rules) _ _ fourth.1 in
      let chains : chains_promotions rules ≡ false = neither_right (has_left_twice (held_pairs section)) (chains_promotions rules) third.0 in
      let ranks = number_said_within 1 10 8 (section.value (codes "maxRank")) (omega arith) (omega arith) in
      let files = file_said (section.value (codes "maxFile")) 7 (omega arith) in
      let castle_rank = number_said_within 1 10 1 (section.value (codes "castlingRank")) (omega arith) (omega arith) in
      let soldier_rank = number_said_within 1 10 1 (section.value (codes "soldierPromotionRank")) (omega arith) (omega arith) in
      let n_fold = fold_said (section.value (codes "nFoldRule")) in
      record {
        letters = length-map-range_with_len (kind_at section) 0 26;
        files_least = omega arith;
        files_most = omega (arith, files);
        ranks_least = ranks.0;
        ranks_most = ranks.1;
        castle_king = file_said (section.value (codes "castlingKingFile")) 4 (omega arith);
        castle_near = file_said (section.value (codes "castlingKingsideFile")) 6 (omega arith);
        castle_far = file_said (section.value (codes "castlingQueensideFile")) 2 (omega arith);
        castle_rank_least = castle_rank.0;
        castle_rank_most = castle_rank.1;
        soldier_rank_least = soldier_rank.0;
        soldier_rank_most = soldier_rank.1;
        n_move = (number_said_within 0 500 50 (section.value (codes "nMoveRule")) (omega arith) (omega arith)).1;
        n_fold_most = n_fold.0;
        n_fold_not_one = n_fold.1;
        extinct_most = (number_said_within 0 240 0 (section.value (codes "extinctionPieceCount")) (omega arith) (omega arith)).1;
        extinct_least = (number_said_within 0 240 0 (section.value (codes "extinctionOpponentPieceCount")) (omega arith) (omega arith)).1;
        promotion = both_on_board section start (λ side. said section (option.promotion_region side));
        double_region = both_on_board section start (λ side. said section (option.double_step_region side));
        drop_region = both_on_board section start (λ side. said section (option.drop_region side));
        flag_region = both_on_board section start (λ side. said section (option.flag_region side));
        kinds = kinds_fit (no_bad_promotion chains);
        king = piece_there 1 (omega arith);
        pawn = piece_there 0 (omega arith);
        soldier = piece_there 26 (omega arith);
        soldier_no_pawn = soldier_apart_by (section.letter (codes "soldier")) refl;
        no_doubled = held_there (said section option.drop_no_doubled);
        flag_kind = held_there (said section option.flag_piece);
        promotion_kinds = mask_there (said section option.promotion_piece_types);
        castle_rooks = mask_there (said section option.castling_rook_pieces);
        n_move_kinds = mask_there (said section option.n_move_rule_types);
        extinct_kinds = mask_there (listed_kinds (said section option.extinction_piece_types));
        pieces = first.0;
        pawn_promotions = second.0;
        piece_promotions = chains;
        hand_gates = fourth.0;
        gates = fifth.0;
      }

-- the start is not looked at
any_start : (section : Resolved) (start : Position) → contradiction (rules_from section start) (held_pairs section) ≡ contradiction (bare_rules section) (held_pairs section)
unfolding contradiction has_no_piece promotes_to_pawn_or_king chains_promotions gates_amiss castling_on rules_from
any_start section start = refl

chain_is_tidy : (sections : List Section) (place : ℕ) → IsFaultless sections place → IsTidy (resolved sections place)
chain_is_tidy sections place good = record {
  letters = λ piece. piece_letter_below sections place piece;
  no_word = pawn_has_no_word sections place good;
  king_apart = λ k e. pawn_apart sections place 0 k (omega arith) good e;
  soldier_apart = λ k e. pawn_apart sections place 25 k (omega arith) good e;
}

-- the rules of a section without a fault before its start fit, with any start
pub faultless_fits : (sections : List Section) (place : ℕ) (start : Position) → IsFaultless sections place
    → IsFit (rules_from (resolved sections place) start)
faultless_fits sections place start good =
    let section = resolved sections place in
    no_contradiction section start (chain_is_tidy sections place good)
    (any_start section start
    ∙ none_mapped Inconsistent (contradiction (bare_rules section) (held_pairs section))
    (rules_faultless sections place good))

abbrev rules_in : Rules → Result Rules SectionFault → Rules
rules_in other (Ok found) = found
rules_in other (Err fault) = other

started : (section : Resolved) (start : Result Position FenFault) (rules : Rules) → ((p : Position) → IsFit (rules_from section p)) → started_by (bare_rules section) start ≡ Ok rules → IsFit rules
unfolding rules_from
started section (Ok start) rules fits e =
    let same : rules_from section start ≡ rules = ap (rules_in (bare_rules section)) e in
    subst IsFit same (fits start)
started section (Err fault) rules fits e = cc

accepted_by : (sections : List Section) (place : ℕ) (rules : Rules) (fault : Option SectionFault) → first_fault sections place (is_refused sections) ≡ fault → unless_fault fault (accepted (resolved sections place)) ≡ Ok rules → IsFit rules
accepted_by sections place rules (Some fault) e h = cc
accepted_by sections place rules None e h =
    started (resolved sections place) (fen_of (bare_rules (resolved sections place)) (start_text (resolved sections place))) rules (λ p. faultless_fits sections place p e) h

-- the rules of an accepted section fit
pub accepted_fits : (sections : List Section) (place : ℕ) (rules : Rules) → entry sections place ≡ Ok rules → IsFit rules
accepted_fits sections place rules h =
    accepted_by sections place rules (first_fault sections place (is_refused sections)) refl
    (sym (entry_by_fault sections place (first_fault sections place (is_refused sections)) refl) ∙ h)
