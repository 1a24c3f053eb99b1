-- Laws of a session's state and of its answers.
use Rattle.std.proofs.Common.{◌≡◌, ◌∙◌, ℕ, ◌+◌, ◌-◌, ◌≤◌, ◌<◌, List, [], ◌∷◌, ◌++◌, length, map, take, Bool, true, false, Option, Some, None, Result, Ok, Err, is_ok, IfOk, slice_get, if◌then◌else◌, ◌⊎◌, inl, inr, refl, sym, ap, arith}
use Rattle.std.specs.Prelude.{codes}
use Rattle.std.specs.Borrow.{Bor}
use Rattle.std.specs.List.{filter}
use Rattle.std.specs.Option.{option_map}
use Rattle.std.proofs.lemmas.List.{append-nil, length-take, map-append, take-take, take_all}
use Rattle.rules_model.specs.declared.rules.Rules.{Rules}
use Rattle.variant_ini.specs.Section.{Section}
use Rattle.variant_model.specs.Builtin.{builtin_sections}
use Rattle.variant_model.specs.declared.fault.SectionFault.{SectionFault}
use Rattle.variant_rules.specs.Entries.{Named, entries, found, is_accepted}
use Rattle.variant_rules.specs.View.{found_view, lent}
use Rattle.variant_rules.specs.declared.found.Found.{Found}
use Rattle.variant_rules.specs.declared.found.Found.TheVariants as found_as
use Rattle.session_model.proofs.Lists.{filter_take}
use Rattle.session_model.proofs.Variants.{chess_is_first}
use Rattle.foundation.specs.Member.{Member}
use Rattle.io_ports.specs.Heard.{too_long}
use Rattle.io_ports.specs.Lines as lines
use Rattle.io_ports.specs.Lines.{Line}
use Rattle.io_ports.specs.declared.dialect.Dialect.TheVariants.{Cecp}
use Rattle.io_ports.specs.declared.source.Got.{Got}
use Rattle.io_ports.specs.declared.source.Got.TheVariants as got
use Rattle.move_text.specs.Names.{Names, NamesNothing}
use Rattle.rules_model.specs.declared.board.Position.{Position}
use Rattle.rules_model.specs.declared.moves.Move.{Move}
use Rattle.rules_model.specs.Legal.{legal}
use Rattle.rules_model.specs.Repeats.{repeat_of}
use Rattle.rules_model.specs.Sound.{is_sound}
use Rattle.game_play.specs.Played.{IsPlayed, Played, shorter, story}
use Rattle.game_text.specs.GameText.{started}
use Rattle.game_text.specs.Playing.{move_of}
use Rattle.game_text.proofs.PlayLemmas.{plays-illegal, plays-named, plays-nothing}
use Rattle.session_model.specs.Begins.{rules_said}
use Rattle.session_model.specs.CecpLines.{command_of, New}
use Rattle.session_model.specs.CecpSession.{answer_of}
use Rattle.session_model.specs.CecpState.{State, answer_to, first_state, renewed, says, set_variant, shown_name, state_by, with_game, without_last}
use Rattle.session_model.specs.Lines.{got_line}
use Rattle.uci_lines.specs.View.{texts}

-- ---- the start

-- chess is among the sections, and accepted
pub has_chess : (sections : List Section) → (more : List Section) × (sections ≡ builtin_sections ++ more)
    → (rules : Rules) × (found (entries sections) (codes "chess") ≡ Some (Ok rules))
has_chess sections (more, is) =
    let (rules, chess, place, entry) = chess_is_first more in
    (rules, ap (λ s. found (entries s) (codes "chess")) is ∙ chess)

-- a session begins with it
pub begins : (sections : List Section) (rules : Rules) → found (entries sections) (codes "chess") ≡ Some (Ok rules)
    → first_state sections ≡ Some (state_by sections rules)
unfolding first_state
begins sections rules is = ap (λ f. option_map (state_by sections) (rules_said f)) is

-- the game that another one begins is at the start of its variant
pub started_again : (rules given : Rules) (other game : Played) → other ≡ started rules rules.start → given ≡ other.rules
    → game ≡ record { rules = other.rules; start = given.start; moves = [] } → game ≡ started rules rules.start
started_again rules given other game other_is given_is game_is =
    game_is ∙ ap (λ (r : Rules). started other.rules r.start) given_is
    ∙ ap (λ (g : Played). started g.rules g.rules.start) other_is

-- `new` begins with chess
pub renewed_chess : (seen old : State) (rules : Rules) (game : Played) (line : Line) (text : List ℕ) → seen ≡ old
    → found (entries seen.sections) (codes "chess") ≡ Some (Ok rules) → game ≡ started rules rules.start → text ≡ []
    → says (with_game (renewed seen) game) text ≡ answer_to old line New
renewed_chess seen old rules game line text seen_is chess game_is silent_is =
    ap (λ (g : Played). says (with_game (renewed seen) g) text) game_is
    ∙ ap (says (with_game (renewed seen) (started rules rules.start))) silent_is
    ∙ sym (ap (set_variant seen renewed line) chess)
    ∙ ap (λ (s : State). answer_to s line New) seen_is

-- ---- names

lent_accepted : (entry : Result (Bor Rules) (Bor SectionFault)) → is_ok (lent entry) ≡ is_ok entry
lent_accepted (Ok rules) = refl
lent_accepted (Err fault) = refl

-- what was found of chess is its rules
pub found_chess : (f : Found) (rules : Rules) → found_view f ≡ Some (Ok rules)
    → ((fault : Bor SectionFault) × (f ≡ found_as.Refused fault)) ⊎ (f ≡ found_as.Unknown) → ⊥
found_chess f rules is (inl (fault, refused)) =
    let apart : ◌≡◌ {A = Option (Result Rules SectionFault)} (Some (Err fault.now)) (Some (Ok rules)) = sym (ap found_view refused) ∙ is in absurd (cc)
found_chess f rules is (inr unknown) =
    let apart : ◌≡◌ {A = Option (Result Rules SectionFault)} None (Some (Ok rules)) = sym (ap found_view unknown) ∙ is in absurd (cc)

-- one variant more, which is accepted or not
module _ (variants : List Named) (i : ℕ) (name : List ℕ) (entry : Result (Bor Rules) (Bor SectionFault))
    (here : slice_get variants i ≡ Some (record { name = name; entry = lent entry })) (names : List (Bor (List ℕ)))
    (so : texts names ≡ map shown_name (filter is_accepted (take i variants))) where
  abbrev named : Named
  named = record { name = name; entry = lent entry }

  names_as : (b : Bool) → is_ok entry ≡ b
      → map shown_name (filter is_accepted (take (i + 1) variants))
      ≡ map shown_name (filter is_accepted (take i variants) ++ (if b then named ∷ [] else []))
  names_as b is =
      ap (map shown_name) (filter_take is_accepted i variants named here
      ∙ ap (λ a. filter is_accepted (take i variants) ++ (if a then named ∷ [] else [])) (lent_accepted entry ∙ is))

  pub names_accepted : (after : List (Bor (List ℕ))) (shown : Bor (List ℕ)) → is_ok entry ≡ true → after ≡ names ++ shown ∷ []
      → shown.now ≡ shown_name named → texts after ≡ map shown_name (filter is_accepted (take (i + 1) variants))
  names_accepted after shown accepted is shown_is =
      ap texts is ∙ map-append (λ word. word.now) names (shown ∷ [])
      ∙ ap (λ last. texts names ++ last ∷ []) shown_is ∙ ap (λ ws. ws ++ shown_name named ∷ []) so
      ∙ sym (names_as true accepted ∙ map-append shown_name (filter is_accepted (take i variants)) (named ∷ []))

  pub names_refused : is_ok entry ≡ false → texts names ≡ map shown_name (filter is_accepted (take (i + 1) variants))
  names_refused refused = so ∙ sym (names_as false refused ∙ ap (map shown_name) (append-nil (filter is_accepted (take i variants))))

-- ---- plies that are taken back

take_less : {X : Type 0} (i j : ℕ) (xs : List X) → i ≤ j → take i (take j xs) ≡ take i xs
take_less i j xs le = take-take i j xs le

abbrev with_moves : Played → List Move → Played
with_moves g moves = record { rules = g.rules; start = g.start; moves = moves }

-- one ply more
pub taken_more : (g h : Played) (plies : ℕ) → plies < length g.moves → h ≡ without_last plies g
    → shorter h ≡ without_last (plies + 1) g
taken_more g h plies some is =
    let count : length (take (length g.moves - plies) g.moves) ≡ length g.moves - plies =
    length-take (length g.moves - plies) g.moves ∙ omega arith in
    let less : length g.moves - plies - 1 ≡ length g.moves - (plies + 1) = omega arith in
    ap shorter is
    ∙ ap (λ (moves : List Move). with_moves g moves) (ap (λ n. take (n - 1) (take (length g.moves - plies) g.moves)) count
    ∙ take_less (length g.moves - plies - 1) (length g.moves - plies) g.moves (omega arith)
    ∙ ap (λ n. take n g.moves) less)

-- ---- moves of texts

-- a text in rules and a position that are the game's
module _ (g : Played) (rules : Rules) (p : Position) (text : List ℕ) (played : IsPlayed g) (rules_are : rules ≡ g.rules)
    (last_is : p ≡ (story g).last) (sound : is_sound g.rules p ≡ true) where
  sound_here : is_sound g.rules (story g).last ≡ true
  sound_here = rw last_is at sound

  pub names_nothing : NamesNothing rules p text → None ≡ move_of g text
  names_nothing nothing =
      sym (plays-nothing g.rules (story g).last text played.fit sound_here (rw (rules_are, last_is) at nothing))

  pub names_legal : (m : Move) → Names rules p text m → Member m (legal rules (repeat_of p)) → Some m ≡ move_of g text
  names_legal m names member =
      sym (plays-named g.rules (story g).last text played.fit sound_here m (rw (rules_are, last_is) at names)
      (rw (rules_are, last_is) at member))

  pub names_illegal : (m : Move) → Names rules p text m → (Member m (legal rules (repeat_of p)) → ⊥) → None ≡ move_of g text
  names_illegal m names illegal =
      sym (plays-illegal g.rules (story g).last text played.fit sound_here m (rw (rules_are, last_is) at names)
      (rw (rules_are, last_is) at illegal))

-- ---- lines that are too long

pub long_answer : (state : State) (next : Got) (line text : List ℕ) → got_line next line ≡ lines.TooLong → text ≡ too_long Cecp
    → says state text ≡ answer_of state (got_line next line)
unfolding command_of
long_answer state next line text long is =
    ap (says state) is ∙ sym (ap (answer_of state) long)

pub long_answers : {E : Type 0} (state : State) (next : Got) (line : List ℕ) (r : Result (List ℕ) E)
    → (next ≡ got.TooLong) ⊎ ((next ≡ got.End) ⊎ (next ≡ got.Failed)) → IfOk r (λ text. text ≡ too_long Cecp)
    → IfOk r (λ text. says state text ≡ answer_of state (got_line next line))
long_answers state next line (Ok text) is h = long_answer state next line text (elim is [
  | inl long ↦ ap (λ n. got_line n line) long
  | inr other ↦ elim other [
    | inl end ↦ ap (λ n. got_line n line) end
    | inr failed ↦ ap (λ n. got_line n line) failed
  ]
]) h
long_answers state next line (Err why) is h = tt

-- ---- no ply

pub taken_none : (g : Played) → g ≡ without_last 0 g
taken_none g = sym (ap (with_moves g) (ap (λ n. take n g.moves) (omega arith) ∙ take_all (length g.moves) g.moves (omega arith)))

-- a ply is left where fewer are taken than there are
pub some_left : (g h : Played) (plies : ℕ) → plies < length g.moves → h ≡ without_last plies g → 0 < length h.moves
some_left g h plies some is =
    let count : length h.moves ≡ length g.moves - plies =
    ap (λ p. length p.moves) is ∙ length-take (length g.moves - plies) g.moves ∙ omega arith in
    omega (arith, count)
