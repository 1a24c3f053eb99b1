use Rattle.std.proofs.Common.{◌≡◌, ◌≤◌, ◌∙◌, ap, ltb-false, ltb-true, Bool, true, false, refl, nat_lt, subst, true≢false}
use Rattle.std.specs.Prelude.{IsNone}
use Rattle.std.specs.Result.{result_ok}
use Rattle.std.specs.Str.Parse.{digits_value}
use Rattle.std.proofs.lemmas.Str.Parse.{parse_gives, numerals_by_value, tells_all_ascii_digits}
use Rattle.words.proofs.number.number_of.Goals as goal

pub returns-clause-none : goal.returns-clause-none
returns-clause-none c = go (nat_lt (digits_value 10 c.args.digits.now) 18446744073709551616) refl
  where
    go : (b : Bool) → nat_lt (digits_value 10 c.args.digits.now) 18446744073709551616 ≡ b → IsNone c.ok.result → 18446744073709551616 ≤ digits_value 10 c.args.digits.now
    go false e h = ltb-false _ _ e
    go true e h =
        let given = parse_gives (numerals_by_value _ tells_all_ascii_digits) 64 c.args.digits.now c.parse.result c.parse.ensures.value.0 c.requires.digits c.requires.some (ltb-true _ _ e) in
        absurd (true≢false (subst IsNone (c.ok.ensures.value ∙ ap result_ok given) h))
