-- Lines of certificates, and texts that are refused whatever the game is.
use Rattle.std.proofs.Common.{◌≡◌, ℕ, List, ◌∷◌, ◌++◌, [], true, false, None, Some, Err, refl}
use Rattle.std.specs.Prelude.{codes}
use Rattle.std.specs.Fmt.{decimal}
use Rattle.foundation.specs.Cuts.{cut}
use Rattle.foundation.specs.Numbers.{are_digits, is_number, number_of, value_after}
use Rattle.io_ports.specs.Lines.{Text, TooLong}
use Rattle.rules_model.specs.declared.moves.Move.{Move}
use Rattle.rules_model.specs.declared.moves.Move.TheVariants.{Drop}
use Rattle.rules_model.specs.declared.rules.Rules.{Rules}
use Rattle.rules_model.specs.Games.{Story}
use Rattle.rules_model.specs.MoveText.{text_of}
use Rattle.stipulation.specs.Searches.{step as move_at}
use Rattle.cert_text.specs.declared.fault.CertFault.TheVariants.{BadLine, Ended}
use Rattle.cert_text.specs.Reading.{cert_of, step, taken, with_said, with_step, with_text}
use Rattle.cert_text.specs.Said.{end_line, is_title, said, step_line}
use Rattle.cert_text.specs.Writing.{cert_texts, greatest_ply, step_text}

unfoldable reading_opened : Unit {0}
unfolding cut are_digits is_number number_of value_after is_title said step taken with_said with_step with_text cert_of greatest_ply step_text text_of
reading_opened = tt

-- ---- lines

title : is_title (codes "selfmate 6") ≡ true
unfolding reading_opened
title = refl

title_over : is_title (codes "selfmate 7") ≡ false
unfolding reading_opened
title_over = refl

title_zero : is_title (codes "helpmate 0") ≡ true
unfolding reading_opened
title_zero = refl

two_zeros : is_title (codes "helpmate 00") ≡ false
unfolding reading_opened
two_zeros = refl

step_said : said (codes "2 a7a8") ≡ Some (step_line 2 (codes "a7a8"))
unfolding reading_opened
step_said = refl

leading_zero : said (codes "02 a7a8") ≡ None
unfolding reading_opened
leading_zero = refl

the_end : said (codes "end") ≡ Some end_line
unfolding reading_opened
the_end = refl

end_and_blank : said (codes "end ") ≡ None
unfolding reading_opened
end_and_blank = refl

-- ---- texts

module _ (rules : Rules) (g : Story) where
  no_line : cert_of rules g [] ≡ Err (Ended 1)
  unfolding reading_opened
  no_line = refl

  no_end : cert_of rules g (Text (codes "helpmate 1") ∷ []) ≡ Err (Ended 2)
  unfolding reading_opened
  no_end = refl

  line_more : cert_of rules g (Text (codes "helpmate 1") ∷ Text (codes "end") ∷ Text (codes "end") ∷ []) ≡ Err (Ended 3)
  unfolding reading_opened
  line_more = refl

  -- the first ply is 1
  zero_first : cert_of rules g (Text (codes "helpmate 1") ∷ Text (codes "0 g8h8") ∷ []) ≡ Err (BadLine 2)
  unfolding reading_opened
  zero_first = refl

  two_first : cert_of rules g (Text (codes "helpmate 1") ∷ Text (codes "2 g8h8") ∷ []) ≡ Err (BadLine 2)
  unfolding reading_opened
  two_first = refl

  long_line : cert_of rules g (TooLong ∷ []) ≡ Err (BadLine 1)
  unfolding reading_opened
  long_line = refl

-- ---- writing

abbrev drop : Move
drop = Drop (record { 0 = 15 }) (record { 0 = 0 })

abbrev line_of : ℕ → List ℕ
line_of ply = decimal ply ++ codes " " ++ codes "P@a1"

-- half the greatest ply, rounded up: 3 plies are 2 moves
written : cert_texts false (move_at 1 drop ∷ move_at 2 drop ∷ move_at 3 drop ∷ [])
    ≡ (codes "selfmate " ++ decimal 2) ∷ line_of 1 ∷ line_of 2 ∷ line_of 3 ∷ codes "end" ∷ []
unfolding reading_opened
written = refl

two_plies : cert_texts true (move_at 1 drop ∷ move_at 2 drop ∷ []) ≡ (codes "helpmate " ++ decimal 1) ∷ line_of 1 ∷ line_of 2 ∷ codes "end" ∷ []
unfolding reading_opened
two_plies = refl

nothing : cert_texts true [] ≡ (codes "helpmate " ++ decimal 0) ∷ codes "end" ∷ []
unfolding reading_opened
nothing = refl
