use Rattle.std.proofs.Common.{◌≡◌, ◌≤◌, ◌∙◌, refl, sym, ap, arith, inl, inr, List, [], ◌∷◌, map, length, string_bytes, None}
use Rattle.std.specs.Prelude.{unwrap_or}
use Rattle.std.proofs.lemmas.List.{length-map}
use Rattle.words.specs.View.{texts}
use Rattle.clap.specs.Words.{app_of, is_simple, is_simple_and_free, found_of, fault_of, Kinds, HasKind}
use Rattle.clap.specs.Lexer.{usize_max}
use Rattle.words.specs.Asked.{asked_after, asked_by}
use Rattle.words.specs.Options.{Text}
use Rattle.words.proofs.Parse.{parse_asked, parse_fails, stray_asked, texts_or}
use Rattle.words.proofs.reading.read_options.Goals as goal

pub returns-then-has_stray-clause-is : goal.returns-then-has_stray-clause-is
returns-then-has_stray-clause-is c = sym (stray_asked None [] (map string_bytes c.args.words.now) (sym c.has_stray.ensures.stray ∙ c.if-has_stray.true))

pub returns-in-Ok-clause-is : goal.returns-in-Ok-clause-is
returns-in-Ok-clause-is c =
    let words : List Text = map string_bytes c.args.words.now in
    let stray = sym c.has_stray.ensures.stray ∙ c.if-has_stray.false in
    let fits : length words ≤ usize_max = omega (arith, length-map c.args.words.now string_bytes, c.has_stray.ensures.fits) in
    let is = c.in_ok-reader.ensures in
    let rest = ap (λ o. texts o.now) c.unwrap_or.ensures ∙ texts_or c.get_strs.result _ refl ∙ ap (λ o. unwrap_or o []) c.get_strs.ensures in
    c.asked_by.ensures.is
    ∙ (λ i. asked_by (c.get_str.ensures i) (c.get_str-in-Ok.ensures i) (rest i))
    ∙ parse_asked words stray fits _ (found_of c.in-Ok.matches) is (c.in-Ok.ensures.kinds (ap is_simple_and_free is)) (c.in-Ok.ensures.matches (ap is_simple is)).0

pub returns-clause-is : goal.returns-clause-is
returns-clause-is c = go (fault_of (app_of c.in_ok-reader.field-0) words) refl (c.in-Err.ensures.kinds (ap is_simple_and_free c.in_ok-reader.ensures))
  where
    words : List Text
    words = map string_bytes c.args.words.now

    go : (kinds : Kinds) → fault_of (app_of c.in_ok-reader.field-0) words ≡ kinds → HasKind kinds c.in-Err.error → None ≡ asked_after words
    go [] is (inl memory) = absurd (c.in_default.not-OutOfMemory (c.kind.ensures ∙ memory))
    go [] is (inr among) = absurd among
    go (k ∷ ks) is has =
        let fits : length words ≤ usize_max = omega (arith, length-map c.args.words.now string_bytes, c.has_stray.ensures.fits) in
        parse_fails words (sym c.has_stray.ensures.stray ∙ c.if-has_stray.false) fits _ k ks c.in_ok-reader.ensures is
