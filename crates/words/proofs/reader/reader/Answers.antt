use Rattle.std.proofs.Common.{rules, ◌≡◌, ◌∙◌, ap, ap₂, Option, Some, None, IsSomeAnd}
use Rattle.clap.specs.Lexer.{usize_max}
use Rattle.std.proofs.lemmas.Result.{IfOk-weaker}
use Rattle.clap.specs.Words.{app_of, rule_of, with_rule}
use Rattle.words.specs.Reader.{bare, option_rule, words_rule}
use Rattle.words.specs.Options.{Variants, Threads}
use Rattle.words.proofs.reader.reader.Goals as goal

some_is : {X : Type 0} (o : Option X) (x : X) → IsSomeAnd o (λ r. r ≡ x) → o ≡ Some x
some_is None x h = absurd h
some_is (Some y) x h = ap Some h

pub returns : goal.returns
returns c =
    let variants_is : rule_of c.action-variants.result ≡ option_rule Variants = search rules in
    let threads_is : rule_of c.action-threads.result ≡ option_rule Threads = search rules in
    let range_is : c.num_args.result.num_vals ≡ Some (record { start_inclusive = 1; end_inclusive = usize_max }) = some_is _ _ c.num_args.ensures.1 in
    let words_is : rule_of c.trailing_var_arg-words.result ≡ words_rule = search rules in
    let bare_is : app_of c.disable_help_flag.result ≡ bare = search rules in
    let one = c.in_ok-arg.ensures.shape (search rules) ∙ ap₂ with_rule bare_is variants_is in
    let two = c.in_ok-arg-2.ensures.shape (search rules) ∙ ap₂ with_rule one threads_is in
    IfOk-weaker c.arg-3.result _ _ (λ r h. h.shape (search rules) ∙ ap₂ with_rule two words_is) c.arg-3.ensures
