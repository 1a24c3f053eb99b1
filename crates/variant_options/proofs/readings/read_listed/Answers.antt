use Rattle.std.proofs.Common.{◌≡◌, ◌<◌, true, false, eqb, Some, None, length, vec_len, sym, ap, ◌∙◌, arith}
use Rattle.std.specs.Prelude.{if◌then◌else◌}
use Rattle.std.proofs.lemmas.Bool.Decides.{nat_tests}
use Rattle.variant_options.proofs.ListedLemmas.{texts, listed_hyphen, each_said_none, more_word, bad_word, all_words, nil_from_length, cons_from_length}
use Rattle.variant_options.proofs.readings.read_listed.Goals as goal
use Rattle.variant_options.proofs.readings.read_listed.Goals.{then-is_empty, else-is_empty}

pub returns-then-is_hyphen : goal.returns-then-is_hyphen
returns-then-is_hyphen g c =
    ap (λ xs. Some xs) c.new-found.ensures.items
    ∙ sym (listed_hyphen g.T.ReadWord.said c.args.text.now (sym c.is_hyphen.ensures ∙ c.if-is_hyphen.true))

pub loop-word-init : goal.loop-word-init
loop-word-init g c = each_said_none g.T.ReadWord.said (texts c.deref-word-items.result.now) ∙ ap (λ xs. Some xs) (sym c.new-found.ensures.items)

pub returns-in-None : goal.returns-in-None
returns-in-None g c =
    sym (bad_word g.T.ReadWord.said c.deref-word-items.result.now c.loop-word.word-index _ c.args.text.now
    (ap texts c.deref-word-items.ensures.value ∙ c.in_ok-words.ensures) (sym c.is_hyphen.ensures ∙ c.if-is_hyphen.false)
    c.loop-word-test.true (sym c.read_word.ensures ∙ c.in-None.is))

pub loop-word-preserved : goal.loop-word-preserved
loop-word-preserved g c =
    more_word g.T.ReadWord.said c.deref-word-items.result.now c.loop-word.word-index _ c.loop-word.found.items c.in-Some.one
    c.loop-word-test.true c.loop-word.invariant (sym c.read_word.ensures ∙ c.in-Some.is)
    ∙ ap (λ xs. Some xs) (sym c.in_ok-push-in-Some.ensures.items)

pub returns : goal.returns
returns g c =
    let said = c.loop-word.found.items in
    let all =
    all_words g.T.ReadWord.said c.deref-word-items.result.now c.loop-word.word-index said c.args.text.now
    (ap texts c.deref-word-items.ensures.value ∙ c.in_ok-words.ensures) (sym c.is_hyphen.ensures ∙ c.if-is_hyphen.false)
    c.loop-word-test.false c.loop-word.invariant
    in
    elim c.if-is_empty.branch [
      | then-is_empty w ↦
          let test : eqb (vec_len c.loop-word.found) 0 ≡ true = sym c.is_empty.ensures ∙ w.if-is_empty.true in
          let none : length said ≡ 0 = grind (arith, nat_tests, c.loop-word.found.ok.0) in
          rw w.result-is (sym (all ∙ ap (λ b. if b then None else Some said) (nil_from_length said none)))
      | else-is_empty w ↦
          let test : eqb (vec_len c.loop-word.found) 0 ≡ false = sym c.is_empty.ensures ∙ w.if-is_empty.false in
          let some : 0 < length said = grind (arith, nat_tests, c.loop-word.found.ok.0) in
          rw w.result-is (sym (all ∙ ap (λ b. if b then None else Some said) (cons_from_length said some)))
    ]
