-- Commands by their verbs, and the parts of a base.
use Rattle.std.proofs.Common.{◌≡◌, ◌∙◌, ℕ, ◌+◌, List, [], ◌∷◌, length, Option, Some, None, Bool, true, false, refl, ap, sym, arith}
use Rattle.std.specs.Prelude.{◌==◌, ◌&&◌, is_some, if◌then◌else◌}
use Rattle.std.specs.Borrow.{Bor}
use Rattle.std.specs.Option.{option_copied}
use Rattle.foundation.specs.Cuts.{IsFirstPart, parts_after}
use Rattle.std.specs.List.{count_by, slice_split}
use Rattle.std.proofs.lemmas.List.Splits.{length-slice_split}
use Rattle.io_ports.specs.Lines.{Text}
use Rattle.game_text.specs.Playing.{words_of}
use Rattle.session_model.specs.CecpLines.{Command, are_numbers, by_number, command_in, command_named, command_of, gives_up, level_by, level_of}
use Rattle.session_model.specs.CecpLines as CecpLines
use Rattle.session_model.specs.CecpSession.{is_quit}
use Rattle.session_model.specs.Numbers.{number_read}
use Rattle.session_model.specs.UciWords.{Word, first_word}
use Rattle.cecp_front.specs.View.{command_by, verb_gives_up, verb_quits}
use Rattle.cecp_front.specs.declared.verb.Verb.{Verb}
use Rattle.cecp_front.specs.declared.verb.Verb.TheVariants as verb

-- ---- searches that are given up

number_stays : (number : Option ℕ) (make : ℕ → Command) → ((n : ℕ) → gives_up (make n) ≡ false) → gives_up (by_number number make) ≡ false
number_stays None make h = refl
number_stays (Some n) make h = h n

level_stays : (moves : Option ℕ) (base : Bool) (increment : Option ℕ) → gives_up (level_by moves base increment) ≡ false
level_stays None base increment = refl
level_stays (Some moves) true (Some increment) = refl
level_stays (Some moves) true None = refl
level_stays (Some moves) false increment = refl

levels_stay : (words : List Word) → gives_up (level_of words) ≡ false
levels_stay [] = refl
levels_stay (moves ∷ []) = refl
levels_stay (moves ∷ base ∷ []) = refl
levels_stay (moves ∷ base ∷ increment ∷ more) = level_stays (number_read moves) (CecpLines.is_base base) (number_read increment)

ping_stays : (b : Bool) (word : Word) → gives_up (if b then CecpLines.Ping word else CecpLines.BadNumber) ≡ false
ping_stays true word = refl
ping_stays false word = refl

-- what a verb gives up goes by the verb alone
pub given_up : (v : Verb) (words : List Word) → verb_gives_up v ≡ gives_up (command_by v words)
given_up verb.Idle words = refl
given_up verb.Protover words = sym (number_stays (number_read (first_word words)) _ (λ n. refl))
given_up verb.New words = refl
given_up verb.Variant words = refl
given_up verb.Force words = refl
given_up verb.Go words = refl
given_up verb.PlayOther words = refl
given_up verb.UserMove words = refl
given_up verb.SetBoard words = refl
given_up verb.Ping words = sym (ping_stays _ (first_word words))
given_up verb.Undo words = refl
given_up verb.Remove words = refl
given_up verb.Post words = refl
given_up verb.NoPost words = refl
given_up verb.St words = sym (number_stays (number_read (first_word words)) _ (λ n. refl))
given_up verb.Sd words = sym (number_stays (number_read (first_word words)) _ (λ n. refl))
given_up verb.Level words = sym (levels_stay words)
given_up verb.Time words = sym (number_stays (number_read (first_word words)) _ (λ n. refl))
given_up verb.OpponentTime words = sym (number_stays (number_read (first_word words)) _ (λ n. refl))
given_up verb.Quit words = refl
given_up verb.Unknown words = refl

-- ---- the end of a session

number_goes_on : (number : Option ℕ) (make : ℕ → Command) → ((n : ℕ) → is_quit (make n) ≡ false) → is_quit (by_number number make) ≡ false
number_goes_on None make h = refl
number_goes_on (Some n) make h = h n

level_goes_on : (moves : Option ℕ) (base : Bool) (increment : Option ℕ) → is_quit (level_by moves base increment) ≡ false
level_goes_on None base increment = refl
level_goes_on (Some moves) true (Some increment) = refl
level_goes_on (Some moves) true None = refl
level_goes_on (Some moves) false increment = refl

levels_go_on : (words : List Word) → is_quit (level_of words) ≡ false
levels_go_on [] = refl
levels_go_on (moves ∷ []) = refl
levels_go_on (moves ∷ base ∷ []) = refl
levels_go_on (moves ∷ base ∷ increment ∷ more) = level_goes_on (number_read moves) (CecpLines.is_base base) (number_read increment)

ping_goes_on : (b : Bool) (word : Word) → is_quit (if b then CecpLines.Ping word else CecpLines.BadNumber) ≡ false
ping_goes_on true word = refl
ping_goes_on false word = refl

-- what ends a session goes by the verb alone
pub ended_by : (v : Verb) (words : List Word) → verb_quits v ≡ is_quit (command_by v words)
ended_by verb.Idle words = refl
ended_by verb.Protover words = sym (number_goes_on (number_read (first_word words)) _ (λ n. refl))
ended_by verb.New words = refl
ended_by verb.Variant words = refl
ended_by verb.Force words = refl
ended_by verb.Go words = refl
ended_by verb.PlayOther words = refl
ended_by verb.UserMove words = refl
ended_by verb.SetBoard words = refl
ended_by verb.Ping words = sym (ping_goes_on _ (first_word words))
ended_by verb.Undo words = refl
ended_by verb.Remove words = refl
ended_by verb.Post words = refl
ended_by verb.NoPost words = refl
ended_by verb.St words = sym (number_goes_on (number_read (first_word words)) _ (λ n. refl))
ended_by verb.Sd words = sym (number_goes_on (number_read (first_word words)) _ (λ n. refl))
ended_by verb.Level words = sym (levels_go_on words)
ended_by verb.Time words = sym (number_goes_on (number_read (first_word words)) _ (λ n. refl))
ended_by verb.OpponentTime words = sym (number_goes_on (number_read (first_word words)) _ (λ n. refl))
ended_by verb.Quit words = refl
ended_by verb.Unknown words = refl

-- ---- bases

-- three parts or more are no base
pub more_parts : (minutes seconds : Word) (parts : List Word) (rest : List ℕ) → parts ≡ slice_split (λ b. b == 58) rest
    → are_numbers (minutes ∷ seconds ∷ parts) ≡ false
more_parts minutes seconds [] rest is =
    let some : 0 ≡ count_by (λ b. b == 58) rest + 1 = ap length is ∙ length-slice_split (λ b. b == 58) rest in absurd (omega arith)
more_parts minutes seconds (part ∷ parts) rest is = refl

-- ---- the first word

-- a line with a first word has the command of that word
pub text_by : (line : List ℕ) (word : Word) (words : List Word) → words_of line ≡ word ∷ words
    → command_named word words ≡ command_of (Text line)
unfolding command_of
text_by [] word words is = absurd (cc)
text_by (byte ∷ bytes) word words is = sym (ap command_in is)

module _ (word minutes seconds : Word) (after more : Option (Bor (List ℕ))) (rest : Bor (List ℕ))
    (first : IsFirstPart (λ b. b == 58) word minutes (option_copied after)) (there : after ≡ Some rest)
    (second : IsFirstPart (λ b. b == 58) rest.now seconds (option_copied more)) where
  base_as : CecpLines.is_base word ≡ are_numbers (minutes ∷ seconds ∷ parts_after (λ b. b == 58) (option_copied more))
  base_as =
      ap are_numbers (first ∙ ap (λ left. minutes ∷ parts_after (λ b. b == 58) (option_copied left)) there
      ∙ ap (λ parts. minutes ∷ parts) second)

  pub base_long : (b : Bool) → b ≡ is_some more → b ≡ true → false ≡ CecpLines.is_base word
  base_long b is long = sym (base_as ∙ by_more more (sym is ∙ long))
    where
      by_more : (more : Option (Bor (List ℕ))) → is_some more ≡ true
          → are_numbers (minutes ∷ seconds ∷ parts_after (λ b. b == 58) (option_copied more)) ≡ false
      by_more None h = absurd (cc)
      by_more (Some more) h = more_parts minutes seconds _ more.now refl

  pub base_two : (b : Bool) → b ≡ is_some more → b ≡ false
      → (is_some (number_read minutes) && is_some (number_read seconds)) ≡ CecpLines.is_base word
  base_two b is short = sym (base_as ∙ by_more more (sym is ∙ short))
    where
      by_more : (more : Option (Bor (List ℕ))) → is_some more ≡ false
          → are_numbers (minutes ∷ seconds ∷ parts_after (λ b. b == 58) (option_copied more))
          ≡ (is_some (number_read minutes) && is_some (number_read seconds))
      by_more None h = refl
      by_more (Some more) h = absurd (cc)
