-- The words of a line, one after another.
use Rattle.std.proofs.Common.{◌≡◌, ◌∙◌, ℕ, Option, zero, suc, ◌+◌, ◌-◌, ◌*◌, ◌/◌, ◌%◌, ◌≤◌, ◌<◌, min, ◌||◌, arith, List, [], ◌∷◌, ◌++◌, length, take, drop, Bool, true, false, if◌then◌else◌, append_assoc, get_or, Some, None, refl, sym, ap, add-one}
use Rattle.std.specs.Prelude.{codes, option_and_then, unwrap_or}
use Rattle.std.specs.Option.{option_map}
use Rattle.std.specs.Borrow.{Bor}
use Rattle.std.specs.Str.{bytes_eq}
use Rattle.std.specs.List.{list_any, filter, join_with_byte, slice_split}
use Rattle.std.proofs.Math.Nat.{add-div_right, div-add-mod', mod-lt}
use Rattle.std.proofs.lemmas.Nat.{div-mul-add}
use Rattle.std.proofs.Math.Seq.{take-suc}
use Rattle.std.proofs.lemmas.List.{append-nil, drop_all, map-append, take_all}
use Rattle.foundation.specs.Cuts.{is_blank}
use Rattle.io_ports.specs.Command.{first_command}
use Rattle.io_ports.specs.Lines as lines
use Rattle.io_ports.specs.declared.command.UciWord.{UciWord}
use Rattle.io_ports.specs.declared.command.UciWord.TheVariants as word
use Rattle.io_ports.specs.declared.source.Got.{Got}
use Rattle.io_ports.specs.declared.source.Got.TheVariants as got
use Rattle.game_text.specs.Playing.{is_word}
use Rattle.session_model.proofs.Lists.{join_snoc}
use Rattle.session_model.specs.UciGo.{Go, GoRead, Nothing, asks_nothing, go_read, go_word, go_words}
use Rattle.session_model.specs.Numbers.{shared}
use Rattle.session_model.specs.UciLines as UciLines
use Rattle.session_model.specs.UciLines.{command_found, command_named, command_of, name_words, setting_named, setting_of, value_said, value_text}
use Rattle.session_model.specs.UciWords.{Word, joined, words_before, words_behind}
use Rattle.uci_lines.specs.View.{command_with, kind_named, line_got, texts}

-- ---- commands

kind_commands : (found : UciWord) (words : List Word) → command_with (kind_named found) words ≡ command_named found words
kind_commands word.Uci words = refl
kind_commands word.IsReady words = refl
kind_commands word.UciNewGame words = refl
kind_commands word.SetOption words = refl
kind_commands word.Position words = refl
kind_commands word.Go words = refl
kind_commands word.Stop words = refl
kind_commands word.PonderHit words = refl
kind_commands word.Debug words = refl
kind_commands word.Register words = refl
kind_commands word.Moves words = refl
kind_commands word.Status words = refl
kind_commands word.Checkers words = refl
kind_commands word.Strategy words = refl
kind_commands word.Quit words = refl

pub found_command : (next : Got) (line : List ℕ) (found : UciWord) (after : List (List ℕ)) → next ≡ got.Line
    → first_command (slice_split is_blank line) ≡ Some (found, after)
    → command_with (kind_named found) (filter is_word after) ≡ command_of (line_got next line)
unfolding command_of
found_command next line found after is h =
    kind_commands found (filter is_word after) ∙ sym (ap (λ got. command_of (line_got got line)) is ∙ ap command_found h)

pub no_command : (next : Got) (line : List ℕ) → next ≡ got.Line → first_command (slice_split is_blank line) ≡ None
    → UciLines.Idle ≡ command_of (line_got next line)
unfolding command_of
no_command next line is h = sym (ap (λ got. command_of (line_got got line)) is ∙ ap command_found h)

pub long_line : (next : Got) (line : List ℕ) → line_got next line ≡ lines.TooLong → UciLines.TooLong ≡ command_of (line_got next line)
unfolding command_of
long_line next line is = sym (ap command_of is)

-- ---- one word more

texts_more : (words : List (Bor (List ℕ))) (i : ℕ) (d : Bor (List ℕ)) → i < length words
    → texts (take (i + 1) words) ≡ texts (take i words) ++ (get_or words i d).now ∷ []
texts_more words i d below = rw (add-one, take-suc words i d below) (map-append (λ word. word.now) (take i words) (get_or words i d ∷ []))

go_words-snoc : (before : GoRead) (words : List Word) (word : Word)
    → go_words before (words ++ word ∷ []) ≡ go_read (go_word word) (go_words before words) word
unfolding go_words
go_words-snoc before [] word = refl
go_words-snoc before (first ∷ words) word = go_words-snoc (go_read (go_word first) before first) words word

abbrev pub start : GoRead
start = record { go = asks_nothing; awaited = Nothing }

pub go_none : (go : Go) → go ≡ asks_nothing → ◌≡◌ {A = GoRead} (record { go = go; awaited = Nothing }) (go_words start [])
unfolding go_words
go_none go is = ap (λ go. record { go = go; awaited = Nothing }) is

pub go_more : (words : List (Bor (List ℕ))) (i : ℕ) (d : Bor (List ℕ)) (before after : GoRead) → i < length words
    → before ≡ go_words start (texts (take i words)) → after ≡ go_read (go_word (get_or words i d).now) before (get_or words i d).now
    → after ≡ go_words start (texts (take (i + 1) words))
go_more words i d before after below so here =
    here ∙ ap (λ read. go_read (go_word (get_or words i d).now) read (get_or words i d).now) so
    ∙ sym (ap (go_words start) (texts_more words i d below) ∙ go_words-snoc start (texts (take i words)) (get_or words i d).now)

pub go_all : (words : List (Bor (List ℕ))) (i : ℕ) (read : GoRead) → length words ≤ i → read ≡ go_words start (texts (take i words))
    → read.go ≡ (go_words start (texts words)).go
go_all words i read all so = ap (λ r. r.go) (so ∙ ap (λ ws. go_words start (texts ws)) (take_all i words all))

-- ---- words that are a text

pub any_texts : (text : List ℕ) (words : List (Bor (List ℕ))) → list_any (λ word. bytes_eq word.now text) words ≡ list_any (λ word. bytes_eq word text) (texts words)
any_texts text [] = refl
any_texts text (word ∷ words) = ap (λ b. bytes_eq word.now text || b) (any_texts text words)

-- ---- shares

shared_by : (n w r : ℕ) → 0 < w → n % w ≡ r → n / w + min 1 r ≡ (n + (w - 1)) / w
shared_by n w zero some is =
    let whole = div-add-mod' n w in
    let sum : n + (w - 1) ≡ n / w * w + (w - 1) = omega (arith, whole, is) in
    let less : w - 1 < w = omega arith in
    let none : n / w + min 1 0 ≡ n / w = omega arith in
    none ∙ sym (ap (λ m. m / w) sum ∙ div-mul-add (n / w) w (w - 1) less)
shared_by n w (suc r) some is =
    let whole = div-add-mod' n w in
    let below = mod-lt n some in
    let sum : n + (w - 1) ≡ (n / w * w + r) + w = omega (arith, whole, is, some) in
    let less : r < w = omega (arith, below, is) in
    let more : n / w + min 1 (suc r) ≡ n / w + 1 = omega arith in
    more ∙ sym (ap (λ m. m / w) sum ∙ add-div_right (n / w * w + r) some ∙ ap (λ q. q + 1) (div-mul-add (n / w) w r less))

-- a quotient that is rounded up
pub shared_is : (n w : ℕ) → 0 < w → n / w + min 1 (n % w) ≡ shared n w
shared_is n w some = shared_by n w (n % w) some refl

-- ---- joined

join_more : (byte : ℕ) (first : List ℕ) (words : List (List ℕ)) (word : List ℕ)
    → join_with_byte byte (first ∷ (words ++ word ∷ [])) ≡ join_with_byte byte (first ∷ words) ++ byte ∷ word
join_more byte first words word = join_snoc byte (first ∷ words) word

pub joined_more : (byte : ℕ) (first : List ℕ) (words : List (Bor (List ℕ))) (i : ℕ) (d : Bor (List ℕ)) (text after : List ℕ)
    → i < length words → text ≡ join_with_byte byte (first ∷ texts (take i words)) → after ≡ text ++ byte ∷ (get_or words i d).now
    → after ≡ join_with_byte byte (first ∷ texts (take (i + 1) words))
joined_more byte first words i d text after below so here =
    here ∙ ap (λ t. t ++ byte ∷ (get_or words i d).now) so
    ∙ sym (ap (λ ws. join_with_byte byte (first ∷ ws)) (texts_more words i d below)
    ∙ join_more byte first (texts (take i words)) (get_or words i d).now)

-- ---- the words before and after a word

drop_suc : {X : Type 0} (xs : List X) (i : ℕ) (d : X) → i < length xs → drop i xs ≡ get_or xs i d ∷ drop (suc i) xs
drop_suc [] i d below = absurd (omega (arith, below))
drop_suc (x ∷ xs) zero d below = refl
drop_suc (x ∷ xs) (suc i) d below = drop_suc xs i d (omega (arith, below))

drop_here : {X : Type 0} (xs : List X) (i : ℕ) (d : X) → i < length xs → drop i xs ≡ get_or xs i d ∷ drop (i + 1) xs
drop_here xs i d below = let next : suc i ≡ i + 1 = omega arith in drop_suc xs i d below ∙ ap (λ n. get_or xs i d ∷ drop n xs) next

-- the words before the first such word, as far as these
abbrev pub IsBefore : List ℕ → List (Bor (List ℕ)) → ℕ → Type 0
IsBefore word words i = words_before word (texts words) ≡ texts (take i words) ++ words_before word (texts (drop i words))

-- the words after it, as far as these
abbrev pub IsBehind : List ℕ → List (Bor (List ℕ)) → ℕ → Type 0
IsBehind word words i = words_behind word (texts words) ≡ words_behind word (texts (drop i words))

module _ (word : List ℕ) (words : List (Bor (List ℕ))) (i : ℕ) (d : Bor (List ℕ)) (below : i < length words) where
  before_as : (b : Bool) → bytes_eq (get_or words i d).now word ≡ b
      → words_before word (texts (drop i words)) ≡ (if b then [] else (get_or words i d).now ∷ words_before word (texts (drop (i + 1) words)))
  unfolding words_before
  before_as b is =
      ap (λ ws. words_before word (texts ws)) (drop_here words i d below)
      ∙ ap (λ b. if b then [] else (get_or words i d).now ∷ words_before word (texts (drop (i + 1) words))) is

  pub before_next : bytes_eq (get_or words i d).now word ≡ false → IsBefore word words i → IsBefore word words (i + 1)
  before_next differs so =
      so ∙ ap (λ ws. texts (take i words) ++ ws) (before_as false differs)
      ∙ sym (ap (λ ws. ws ++ words_before word (texts (drop (i + 1) words))) (texts_more words i d below)
      ∙ append_assoc (texts (take i words)) ((get_or words i d).now ∷ []) (words_before word (texts (drop (i + 1) words))))

  pub before_here : bytes_eq (get_or words i d).now word ≡ true → IsBefore word words i → texts (take i words) ≡ words_before word (texts words)
  before_here same so = sym (so ∙ ap (λ ws. texts (take i words) ++ ws) (before_as true same) ∙ append-nil (texts (take i words)))

  behind_as : (b : Bool) → bytes_eq (get_or words i d).now word ≡ b
      → words_behind word (texts (drop i words)) ≡ (if b then Some (texts (drop (i + 1) words)) else words_behind word (texts (drop (i + 1) words)))
  unfolding words_behind
  behind_as b is =
      ap (λ ws. words_behind word (texts ws)) (drop_here words i d below)
      ∙ ap (λ b. if b then Some (texts (drop (i + 1) words)) else words_behind word (texts (drop (i + 1) words))) is

  pub behind_next : bytes_eq (get_or words i d).now word ≡ false → IsBehind word words i → IsBehind word words (i + 1)
  behind_next differs so = so ∙ behind_as false differs

  pub behind_here : bytes_eq (get_or words i d).now word ≡ true → IsBehind word words i → Some (texts (drop (i + 1) words)) ≡ words_behind word (texts words)
  behind_here same so = sym (so ∙ behind_as true same)

pub before_all : (word : List ℕ) (words : List (Bor (List ℕ))) (i : ℕ) → length words ≤ i → IsBefore word words i → texts words ≡ words_before word (texts words)
unfolding words_before
before_all word words i all so =
    sym (so ∙ ap (λ ws. texts (take i words) ++ words_before word (texts ws)) (drop_all i words all)
    ∙ append-nil (texts (take i words)) ∙ ap texts (take_all i words all))

pub behind_all : (word : List ℕ) (words : List (Bor (List ℕ))) (i : ℕ) → length words ≤ i → IsBehind word words i → None ≡ words_behind word (texts words)
unfolding words_behind
behind_all word words i all so = sym (so ∙ ap (λ ws. words_behind word (texts ws)) (drop_all i words all))

-- those after it, or none
pub behind_or : (found : Option (Bor (List (Bor (List ℕ))))) (other : Bor (List (Bor (List ℕ)))) → other.now ≡ []
    → texts (unwrap_or found other).now ≡ unwrap_or (option_map (λ ws. texts ws.now) found) []
behind_or None other none = ap texts none
behind_or (Some words) other none = refl

-- ---- options

value_where : (name : Word) (found : Option (List Word)) → words_behind name (unwrap_or found []) ≡ option_and_then (words_behind name) found
unfolding words_behind
value_where name None = refl
value_where name (Some words) = refl

pub setting_from : (words said : List Word) (name : List ℕ) (value : Option (List ℕ))
    → said ≡ unwrap_or (words_behind (codes "name") words) []
    → name ≡ joined (words_before (codes "value") said)
    → value ≡ value_text (words_behind (codes "value") said) → setting_named name value ≡ setting_of words
unfolding setting_of
setting_from words said name value are named valued =
    let same_name : name ≡ joined (name_words words) = named ∙ ap (λ ws. joined (words_before (codes "value") ws)) are in
    let same_value : value ≡ value_said words =
    valued ∙ ap (λ ws. value_text (words_behind (codes "value") ws)) are
    ∙ ap value_text (value_where (codes "value") (words_behind (codes "name") words)) in
    ap (λ n. setting_named n value) same_name ∙ ap (setting_named (joined (name_words words))) same_value
