-- No text of a position ends in a carriage return.
use Rattle.std.proofs.Common.{◌≡◌, ℕ, ◌==◌, Bool, true, false, nat_lt, List, [], ◌∷◌, Option, Some, None, Ok, Err, Result, length, refl, ap, ◌∙◌}
use Rattle.std.specs.Prelude.{if◌then◌else◌}
use Rattle.std.specs.List.{slice_split}
use Rattle.std.proofs.lemmas.Bool.{both_ways, false_from_ne_true}
use Rattle.foundation.specs.Numbers.{are_digits, number_of}
use Rattle.rules_model.specs.declared.board.Cell.{Cell}
use Rattle.rules_model.specs.declared.board.Position.{Position}
use Rattle.rules_model.specs.declared.board.Side.{Side}
use Rattle.rules_model.specs.declared.board.Square.{Square}
use Rattle.rules_model.specs.declared.rules.Rules.{Rules}
use Rattle.fen_model.specs.declared.fault.FenFault.{FenFault}
use Rattle.fen_model.specs.declared.fault.FenFault.TheVariants.{Length}
use Rattle.fen_model.specs.Chain.{or_fault}
use Rattle.fen_model.specs.Counts.{checks_in, checks_of, count_of, is_plus, two_checks, up_to_most}
use Rattle.fen_model.specs.Fields.{Fields, counted_fields, fields, fields_in, fields_of, first_number, is_space, no_checks, no_halfmoves, no_text, plain_fields, says_none}
use Rattle.fen_model.specs.Passed.{passed_at, passed_of, square_named, square_on}
use Rattle.fen_model.specs.Reading.{fen_of}
use Rattle.fen_model.proofs.ChainLaws.{there_ok}
use Rattle.fen_model.proofs.SaysLaws.{text_parts}
use Rattle.variant_model.proofs.TextEnds.{Says, byte_passes, digits_behind, digits_end, ends_in_return, last_word, number_digits, split_ends}

-- where the last part of a text does not end in a return, neither does the text
from_last : (test : ℕ → Bool) (text : List ℕ) → test 13 ≡ false
    → ends_in_return (last_word (slice_split test text)) ≡ false → ends_in_return text ≡ false
from_last test text fails none =
    false_from_ne_true (ends_in_return text)
    (λ ends. both_ways (ends_in_return (last_word (slice_split test text))) none (split_ends test fails text ends))

-- ---- counts

counted : (said : Option ℕ) (n : ℕ) → up_to_most said ≡ Ok n → Says said
counted None n is = cc
counted (Some m) n is = refl

count_ends : (text : List ℕ) (n : ℕ) → count_of text ≡ Ok n → ends_in_return text ≡ false
unfolding count_of
count_ends text n is = digits_end text (number_digits text (counted (number_of text) n is))

black_counted : (white black : Option ℕ) (checks : List ℕ) → two_checks white black ≡ Ok checks → Says black
black_counted None black checks is = cc
black_counted (Some n) None checks is = cc
black_counted (Some n) (Some m) checks is = refl

last_checks : (parts : List (List ℕ)) (checks : List ℕ) → checks_in parts ≡ Ok checks
    → ends_in_return (last_word parts) ≡ false
last_checks [] checks is = refl
last_checks (white ∷ []) checks is = cc
last_checks (white ∷ black ∷ []) checks is =
    digits_end black (number_digits black (black_counted (number_of white) (number_of black) checks is))
last_checks (white ∷ black ∷ other ∷ parts) checks is = cc

checks_end : (text : List ℕ) (checks : List ℕ) → checks_of text ≡ Ok checks → ends_in_return text ≡ false
unfolding checks_of
checks_end text checks is = from_last is_plus text refl (last_checks (slice_split is_plus text) checks is)

-- ---- the square that a pawn has passed

none_ends : (text : List ℕ) → says_none text ≡ true → ends_in_return text ≡ false
none_ends [] e = refl
none_ends (b ∷ []) e = byte_passes (λ c. c == 45) refl b e
none_ends (b ∷ c ∷ bs) e = cc

rank_said : (file : ℕ) (rank : Option ℕ) → Says (square_on file rank) → Says rank
rank_said file None says = says
rank_said file (Some rank) says = refl

square_ends : (text : List ℕ) → Says (square_named text) → ends_in_return text ≡ false
square_ends [] says = refl
square_ends (file ∷ rank) says = digits_behind file rank (number_digits rank (rank_said file (number_of rank) says))

module _ (rules : Rules) (cells : List (Option Cell)) (side : Side) (ep : Option Square) where
  square_passed : (square : Option Square) → passed_at rules cells side square ≡ Ok ep → Says square
  square_passed None is = cc
  square_passed (Some square) is = refl

  passed_where : (text : List ℕ) (none : Bool) → says_none text ≡ none
      → (if none then Ok None else passed_at rules cells side (square_named text)) ≡ Ok ep → ends_in_return text ≡ false
  passed_where text true e is = none_ends text e
  passed_where text false e is = square_ends text (square_passed (square_named text) is)

  passed_ends : (text : List ℕ) → passed_of rules cells side text ≡ Ok ep → ends_in_return text ≡ false
  unfolding passed_of
  passed_ends text is = passed_where text (says_none text) refl is

-- ---- fields

-- no field that may be the last ends in a return
record EndWell (said : Fields) : Type 0 where
  number : ends_in_return said.number ≡ false
  checks : ends_in_return said.checks ≡ false
  ep : ends_in_return said.ep ≡ false

module _ (said : Fields) (well : EndWell said) where
  number_last : (f : Fields) → Some f ≡ Some said → ends_in_return f.number ≡ false
  number_last f is = let same : f ≡ said = cc in ap (λ f. ends_in_return f.number) same ∙ well.number

  checks_last : (f : Fields) → Some f ≡ Some said → ends_in_return f.checks ≡ false
  checks_last f is = let same : f ≡ said = cc in ap (λ f. ends_in_return f.checks) same ∙ well.checks

  ep_last : (f : Fields) → Some f ≡ Some said → ends_in_return f.ep ≡ false
  ep_last f is = let same : f ≡ said = cc in ap (λ f. ends_in_return f.ep) same ∙ well.ep

  fourth_last : (digits : Bool) (board side third fourth : List ℕ)
      → (if digits then Some (fields board side no_text no_text no_checks third fourth)
      else Some (fields board side third fourth no_checks no_halfmoves first_number)) ≡ Some said
      → ends_in_return fourth ≡ false
  fourth_last true board side third fourth is = number_last _ is
  fourth_last false board side third fourth is = ep_last _ is

  sixth_last : (digits : Bool) (f : Fields) → (if digits then None else Some f) ≡ Some said
      → ends_in_return f.number ≡ false
  sixth_last true f is = cc
  sixth_last false f is = number_last f is

  plain_last : (parts : List (List ℕ)) → plain_fields parts ≡ Some said → ends_in_return (last_word parts) ≡ false
  plain_last [] is = refl
  plain_last (a ∷ []) is = cc
  plain_last (a ∷ b ∷ []) is = cc
  plain_last (a ∷ b ∷ c ∷ []) is = cc
  plain_last (board ∷ side ∷ third ∷ fourth ∷ []) is = fourth_last (are_digits third) board side third fourth is
  plain_last (a ∷ b ∷ c ∷ d ∷ e ∷ []) is = cc
  plain_last (board ∷ side ∷ third ∷ fourth ∷ halfmoves ∷ number ∷ []) is =
      sixth_last (are_digits third) (fields board side third fourth no_checks halfmoves number) is
  plain_last (a ∷ b ∷ c ∷ d ∷ e ∷ f ∷ g ∷ more) is = cc

  counted_last : (parts : List (List ℕ)) → counted_fields parts ≡ Some said → ends_in_return (last_word parts) ≡ false
  counted_last [] is = refl
  counted_last (a ∷ []) is = cc
  counted_last (a ∷ b ∷ []) is = cc
  counted_last (a ∷ b ∷ c ∷ []) is = cc
  counted_last (a ∷ b ∷ c ∷ d ∷ []) is = cc
  counted_last (board ∷ side ∷ rights ∷ ep ∷ checks ∷ []) is =
      checks_last (fields board side rights ep checks no_halfmoves first_number) is
  counted_last (a ∷ b ∷ c ∷ d ∷ e ∷ f ∷ []) is = cc
  counted_last (board ∷ side ∷ rights ∷ ep ∷ checks ∷ halfmoves ∷ number ∷ []) is =
      number_last (fields board side rights ep checks halfmoves number) is
  counted_last (a ∷ b ∷ c ∷ d ∷ e ∷ f ∷ g ∷ h ∷ more) is = cc

  fields_last : (counts : Bool) (parts : List (List ℕ))
      → (if counts then counted_fields parts else plain_fields parts) ≡ Some said
      → ends_in_return (last_word parts) ≡ false
  fields_last true parts is = counted_last parts is
  fields_last false parts is = plain_last parts is

not_long : (long : Bool) (said : Fields) (others : Result Fields FenFault)
    → (if long then Err Length else others) ≡ Ok said → others ≡ Ok said
not_long true said others is = cc
not_long false said others is = is

fields_end : (rules : Rules) (text : List ℕ) (said : Fields) → EndWell said → fields_of rules text ≡ Ok said
    → ends_in_return text ≡ false
unfolding fields_of
fields_end rules text said well is =
    let parts = slice_split is_space text in
    let short = not_long (nat_lt 1024 (length text)) said (or_fault Length (fields_in rules parts)) is in
    from_last is_space text refl
    (fields_last said well rules.check_counting parts (there_ok Length (fields_in rules parts) said short))

-- a text that says a position
pub fen_ends : (rules : Rules) (text : List ℕ) (p : Position) → fen_of rules text ≡ Ok p → ends_in_return text ≡ false
fen_ends rules text p is =
    let parts = text_parts rules text p is in
    let said = parts.2 in
    fields_end rules text parts.0 (record {
      number = count_ends parts.0.number said.number.0 said.number.1.said;
      checks = checks_end parts.0.checks p.checks said.checks;
      ep = passed_ends rules p.cells p.side p.ep parts.0.ep said.ep;
    }) parts.1
