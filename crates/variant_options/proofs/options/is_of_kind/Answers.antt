use Rattle.std.proofs.Common.{◌≡◌, Option, None, Some, is_some, refl, ap, ◌∙◌}
use Rattle.std.specs.Option.{option_map}
use Rattle.variant_options.proofs.options.is_of_kind.Goals as goal

some-same : {A B : Type 0} (f : A → B) (o : Option A) (p : Option B) → option_map f o ≡ p → is_some o ≡ is_some p
some-same f None p e = ap is_some e
some-same f (Some x) p e = ap is_some e

pub returns-in-Flag : goal.returns-in-Flag
returns-in-Flag c = rw c.in-Flag.is (c.is_some.ensures ∙ ap is_some c.read_flag.ensures)

pub returns-in-Number : goal.returns-in-Number
returns-in-Number c = rw c.in-Number.is (c.is_some-in-Number.ensures ∙ ap is_some c.number_within.ensures)

pub returns-in-Fold : goal.returns-in-Fold
returns-in-Fold c = rw c.in-Fold.is (c.is_some-in-Fold.ensures ∙ ap is_some c.read_fold.ensures)

pub returns-in-File : goal.returns-in-File
returns-in-File c = rw c.in-File.is (c.is_some-in-File.ensures ∙ ap is_some c.read_file.ensures.is)

pub returns-in-Result : goal.returns-in-Result
returns-in-Result c = rw c.in-Result.is (c.is_some-in-Result.ensures ∙ ap is_some c.read_result.ensures)

pub returns-in-ResultOrNone : goal.returns-in-ResultOrNone
returns-in-ResultOrNone c = rw c.in-ResultOrNone.is (c.is_some-in-ResultOrNone.ensures ∙ ap is_some c.read_result_or_none.ensures)

pub returns-in-Letter : goal.returns-in-Letter
returns-in-Letter c = rw c.in-Letter.is (c.is_some-in-Letter.ensures ∙ ap is_some c.read_letter.ensures)

pub returns-in-Letters : goal.returns-in-Letters
returns-in-Letters c = rw c.in-Letters.is (c.is_some-in-Letters.ensures ∙ ap is_some c.read_letters.ensures)

pub returns-in-LettersOrAll : goal.returns-in-LettersOrAll
returns-in-LettersOrAll c = rw c.in-LettersOrAll.is (c.is_some-in-LettersOrAll.ensures ∙ ap is_some c.read_letters_or_all.ensures)

pub returns-in_ok-read_pairs-in-Pairs : goal.returns-in_ok-read_pairs-in-Pairs
returns-in_ok-read_pairs-in-Pairs c = rw c.in-Pairs.is (c.is_some-in-Pairs.ensures ∙ some-same _ _ _ c.in_ok-read_pairs-in-Pairs.ensures)

pub returns-in_ok-read_region-in-Region : goal.returns-in_ok-read_region-in-Region
returns-in_ok-read_region-in-Region c = rw c.in-Region.is (c.is_some-in-Region.ensures ∙ ap is_some c.in_ok-read_region-in-Region.ensures)

pub returns-in-Position : goal.returns-in-Position
returns-in-Position c = rw c.in-Position.is refl
