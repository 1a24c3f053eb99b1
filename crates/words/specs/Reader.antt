-- The reader that `clap` is given.
use Rattle.std.specs.Prelude.{[], Some, true, codes}
use Rattle.clap.specs.Lexer.{usize_max}
use Rattle.clap.specs.Words.{App, Rule, new_app, new_rule, with_rule}
use Rattle.clap.specs.declared.builder.action.ArgAction.TheVariants.{Set, Append}
use Rattle.words.specs.Options.{OptionName, Variants, Threads, text_of}

abbrev pub option_rule : OptionName → Rule
option_rule name = record (new_rule (text_of name)) {
  long = Some (text_of name);
  action = Some Set;
}

abbrev pub words_rule : Rule
words_rule = record (new_rule (codes "words")) {
  action = Some Append;
  range = Some (record { start_inclusive = 1; end_inclusive = usize_max });
  trailing_var_arg = true;
}

abbrev pub bare : App
bare = record {
  top = record (new_app (codes "vengine")).top { no_binary_name = true; disable_help_flag = true };
  subs = [];
}

-- two options, and then all other words as they are
abbrev pub reader : App
reader = with_rule (with_rule (with_rule bare (option_rule Variants)) (option_rule Threads)) words_rule
