-- Values of each kind, with values that nearly are.
use Rattle.std.proofs.Common.{◌≡◌, true, false, [], ◌∷◌, Some, None, refl, map}
use Rattle.std.specs.Prelude.{codes, slice_index_or}
use Rattle.std.specs.Option.{option_map}
use Rattle.rules_model.specs.declared.moves.Value.TheVariants.{Win, Draw}
use Rattle.variant_options.specs.declared.value.Listed.TheVariants.{All}
use Rattle.variant_options.specs.Letters.{kind}
use Rattle.foundation.specs.Numbers.{are_digits, is_number, number_of, value_after, number_within}
use Rattle.variant_options.specs.Options.{options, option_kind}
use Rattle.variant_options.specs.Readings.{read_flag, read_fold, read_file, read_result, read_result_or_none, read_letter, read_letters, read_letters_or_all, read_pairs, read_region}
use Rattle.variant_options.specs.Words.{words_of, each_said, listed}

flag : read_flag (codes "true") ≡ Some true
flag = refl

no_flag : read_flag (codes "True") ≡ None
no_flag = refl

number : number_within 1 10 (codes "10") ≡ Some 10
unfolding number_of is_number are_digits value_after
number = refl

number_too_large : number_within 1 10 (codes "11") ≡ None
unfolding number_of is_number are_digits value_after
number_too_large = refl

number_with_zero : number_within 1 10 (codes "07") ≡ None
unfolding number_of is_number are_digits value_after
number_with_zero = refl

folds : read_fold (codes "0") ≡ Some 0
unfolding number_of is_number are_digits value_after
folds = refl

one_fold : read_fold (codes "1") ≡ None
unfolding number_of is_number are_digits value_after
one_fold = refl

file_letter : read_file (codes "L") ≡ Some 11
unfolding number_of is_number are_digits value_after
file_letter = refl

file_number : read_file (codes "12") ≡ Some 11
unfolding number_of is_number are_digits value_after
file_number = refl

no_file : map read_file (codes "m" ∷ codes "13" ∷ codes "0" ∷ codes "ab" ∷ []) ≡ None ∷ None ∷ None ∷ None ∷ []
unfolding number_of is_number are_digits value_after
no_file = refl

result : read_result (codes "draw") ≡ Some Draw
result = refl

none_is_no_result : read_result (codes "none") ≡ None
none_is_no_result = refl

none : read_result_or_none (codes "none") ≡ Some None
none = refl

win : read_result_or_none (codes "win") ≡ Some (Some Win)
win = refl

letter : read_letter (codes "B") ≡ Some (Some (kind 1))
letter = refl

no_letter : read_letter (codes "-") ≡ Some None
no_letter = refl

two_letters : read_letter (codes "nb") ≡ None
two_letters = refl

-- a and c, the second in upper case and after a space
letters : option_map (λ mask. slice_index_or mask 0 false ∷ slice_index_or mask 1 false ∷ slice_index_or mask 2 false ∷ []) (read_letters (codes "a C")) ≡ Some (true ∷ false ∷ true ∷ [])
letters = refl

letters_with_comma : read_letters (codes "a,c") ≡ None
letters_with_comma = refl

no_text : read_letters [] ≡ None
no_text = refl

all_letters : read_letters_or_all (codes "*") ≡ Some All
all_letters = refl

pairs : read_pairs (codes "p:g  L:g") ≡ Some ((kind 15, kind 6) ∷ (kind 11, kind 6) ∷ [])
unfolding words_of each_said listed
pairs = refl

half_a_pair : read_pairs (codes "p:g l:") ≡ None
unfolding words_of each_said listed
half_a_pair = refl

no_pairs : read_pairs (codes "-") ≡ Some []
unfolding listed
no_pairs = refl

no_pair_at_all : read_pairs [] ≡ None
unfolding words_of each_said listed
no_pair_at_all = refl

-- d4 and the tenth rank: d4, e4 and l10
region : option_map (λ r. slice_index_or r.squares 39 false ∷ slice_index_or r.squares 40 false ∷ slice_index_or r.squares 119 false ∷ []) (read_region (codes "D4 *10")) ≡ Some (true ∷ false ∷ true ∷ [])
unfolding number_of is_number are_digits value_after words_of each_said listed
region = refl

no_region : map (λ text. option_map (λ r. true) (read_region text)) (codes "d11" ∷ codes "m1" ∷ codes "d" ∷ codes "*0" ∷ codes "d4,e4" ∷ []) ≡ None ∷ None ∷ None ∷ None ∷ None ∷ []
unfolding number_of is_number are_digits value_after words_of each_said listed
no_region = refl

-- every option is found by its key
keys : map (λ option. option_kind option.key) options ≡ map (λ option. Some option.values) options
unfolding options option_kind
keys = refl
