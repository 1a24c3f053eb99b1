-- The moves that texts play.
use Rattle.std.proofs.Common.{◌≡◌, ◌<◌, ◌≤◌, ◌+◌, ℕ, lt-ltb, le-ltb, cond, true, false, List, [], ◌∷◌, Some, None, Result, Ok, Err, length, bytes_eq, refl, sym, ap, subst, ◌∙◌}
use Rattle.std.proofs.lemmas.Slice.Eq.{bytes_eq-Decides}
use Rattle.std.specs.List.{filter}
use Rattle.foundation.specs.Member.{Member}
use Rattle.rules_model.specs.declared.board.Position.{Position}
use Rattle.rules_model.specs.declared.moves.Move.{Move}
use Rattle.rules_model.specs.declared.rules.Rules.{Rules}
use Rattle.rules_model.specs.Fit.{IsFit}
use Rattle.rules_model.specs.Legal.{legal}
use Rattle.rules_model.specs.MoveText.{text_of}
use Rattle.rules_model.specs.Repeats.{repeat_of}
use Rattle.rules_model.specs.Sound.{is_sound}
use Rattle.move_text.specs.Names.{Names, NamesNothing}
use Rattle.move_text.proofs.CastleLaws.{the_move}
use Rattle.move_text.proofs.LegalLaws.{legal-named}
use Rattle.move_text.proofs.ReadLaws.{names-read}
use Rattle.game_play.specs.Played.{IsPlayed, Played, legal_in, longer, story}
use Rattle.game_text.specs.declared.fault.GameFault.{GameFault}
use Rattle.game_text.specs.declared.fault.GameFault.TheVariants.{BadMove, TooManyMoves}
use Rattle.game_text.specs.declared.unmade.Unmade.TheVariants.{Faulty, Unread, Memory}
use Rattle.game_text.specs.Playing.{and_then, goes_on, is_word, most_plies, move_in, move_of, play, play_all}
use Rattle.game_text.specs.ReadView.{NoGame, Plays}
use Rattle.game_text.proofs.FindLemmas.{found-in, found-only, found-none}

-- ---- the move of a text

module _ (rules : Rules) (p : Position) (text : List ℕ) (fit : IsFit rules) (sound : is_sound rules p ≡ true) where
  abbrev moves : List Move
  moves = legal rules (repeat_of p)

  -- a text names one move
  one_name : (m n : Move) → Names rules p text m → Names rules p text n → m ≡ n
  one_name m n a b =
      the_move (sym (names-read rules p text m fit sound a) ∙ names-read rules p text n fit sound b)

  -- a legal move with the text is named by it
  legal_name : (m : Move) → Member m moves → bytes_eq (text_of m) text ≡ true → Names rules p text m
  legal_name m member same =
      subst (λ t. Names rules p t m) ((bytes_eq-Decides (text_of m) text).0 same) (legal-named rules p m fit sound member)

  -- it plays the legal move that it names
  pub plays-named : (m : Move) → Names rules p text m → Member m moves → move_in rules p text ≡ Some m
  unfolding move_in
  plays-named m names member =
      found-only (λ n. bytes_eq (text_of n) text) moves m member ((bytes_eq-Decides (text_of m) text).1 names.written)
      (λ n in_list same. one_name n m (legal_name n in_list same) names)

  -- and none where it names none
  pub plays-none : ((m : Move) → Names rules p text m → Member m moves → ⊥) → move_in rules p text ≡ None
  unfolding move_in
  plays-none none = found-none (λ n. bytes_eq (text_of n) text) moves (λ n member same. none n (legal_name n member same) member)

  pub plays-nothing : NamesNothing rules p text → move_in rules p text ≡ None
  plays-nothing nothing = plays-none (λ m names member. nothing m names)

  pub plays-illegal : (m : Move) → Names rules p text m → (Member m moves → ⊥) → move_in rules p text ≡ None
  plays-illegal m names illegal = plays-none (λ n named member. illegal (subst (λ x. Member x moves) (one_name n m named names) member))

  -- what it plays is named by it, and legal
  pub played-named : (m : Move) → move_in rules p text ≡ Some m → Names rules p text m × Member m moves
  unfolding move_in
  played-named m is =
      let found = found-in (λ n. bytes_eq (text_of n) text) moves m is in
      (legal_name m found.member found.passes, found.member)

-- ---- one move

pub play-longer : (g : Played) (text : List ℕ) (m : Move) → move_of g text ≡ Some m → length g.moves < most_plies → play g text ≡ Ok (longer g m)
unfolding play
play-longer g text m is room = ap (goes_on g text) is ∙ ap (λ b. cond b (Ok (longer g m)) (Err TooManyMoves)) (lt-ltb _ _ room)

pub play-full : (g : Played) (text : List ℕ) (m : Move) → move_of g text ≡ Some m → most_plies ≤ length g.moves → play g text ≡ Err TooManyMoves
unfolding play
play-full g text m is full = ap (goes_on g text) is ∙ ap (λ b. cond b (Ok (longer g m)) (Err TooManyMoves)) (le-ltb _ _ full)

pub play-bad : (g : Played) (text : List ℕ) → move_of g text ≡ None → play g text ≡ Err (BadMove (length g.moves + 1) text)
unfolding play
play-bad g text none = ap (goes_on g text) none

-- a text in rules and a position that are the game's
module _ (g : Played) (rules : Rules) (p : Position) (text : List ℕ) (played : IsPlayed g) (rules_are : rules ≡ g.rules) (last_is : p ≡ (story g).last) (sound : is_sound g.rules p ≡ true) where
  here_sound : is_sound g.rules (story g).last ≡ true
  here_sound = rw last_is at sound

  here_names : (m : Move) → Names rules p text m → Names g.rules (story g).last text m
  here_names m names = rw (rules_are, last_is) at names

  bad_says : (x y : Played) (why : NoGame) → y ≡ g → why ≡ Faulty (BadMove (length y.moves + 1) text) → move_of g text ≡ None → Plays {A = Unit {0}} (play g text) x (Err why)
  bad_says x y why same is none = rw (is, same) (play-bad g text none)

  pub nothing-says : (x : Played) (why : NoGame) → NamesNothing rules p text → why ≡ Faulty (BadMove (length g.moves + 1) text) → Plays {A = Unit {0}} (play g text) x (Err why)
  nothing-says x why nothing is = bad_says x g why refl is (plays-nothing g.rules (story g).last text played.fit here_sound (rw (rules_are, last_is) at nothing))

  pub illegal-says : (x y : Played) (m : Move) (why : NoGame) → Names rules p text m → (Member m (legal_in g) → ⊥) → y ≡ g → why ≡ Faulty (BadMove (length y.moves + 1) text)
      → Plays {A = Unit {0}} (play g text) x (Err why)
  illegal-says x y m why names illegal same is = bad_says x y why same is (plays-illegal g.rules (story g).last text played.fit here_sound m (here_names m names) illegal)

  pub played-says : (x : Played) (m : Move) → Names rules p text m → Member m (legal_in g) → length g.moves < most_plies → x ≡ longer g m → play g text ≡ Ok x
  played-says x m names legal room is = play-longer g text m (plays-named g.rules (story g).last text played.fit here_sound m (here_names m names) legal) room ∙ ap Ok (sym is)

  pub full-says : (m : Move) → Names rules p text m → Member m (legal_in g) → most_plies ≤ length g.moves → play g text ≡ Err TooManyMoves
  full-says m names legal full = play-full g text m (plays-named g.rules (story g).last text played.fit here_sound m (here_names m names) legal) full

-- ---- many moves

then_ok : (r : Result Played GameFault) → and_then r (λ h. Ok h) ≡ r
then_ok (Ok g) = refl
then_ok (Err fault) = refl

then_then : (r : Result Played GameFault) (next : Played → Result Played GameFault) → and_then r next ≡ and_then (and_then r (λ h. Ok h)) next
then_then (Ok g) next = refl
then_then (Err fault) next = refl

-- one text
pub all-one : (g : Played) (text : List ℕ) → play_all g (text ∷ []) ≡ play g text
unfolding play_all
all-one g text = then_ok (play g text)

pub all-none : (g : Played) → play_all g [] ≡ Ok g
unfolding play_all
all-none g = refl

all-first : (g : Played) (text : List ℕ) (texts : List (List ℕ)) → play_all g (text ∷ texts) ≡ and_then (play_all g (text ∷ [])) (λ h. play_all h texts)
unfolding play_all
all-first g text texts = then_then (play g text) (λ h. play_all h texts)

-- a part of a line, and then the parts after it
pub parts-first : (g : Played) (part : List ℕ) (parts : List (List ℕ))
    → play_all g (filter is_word (part ∷ parts)) ≡ and_then (play_all g (filter is_word (part ∷ []))) (λ h. play_all h (filter is_word parts))
parts-first g [] parts = sym (ap (λ r. and_then r (λ h. play_all h (filter is_word parts))) (all-none g))
parts-first g (b ∷ bs) parts = all-first g (b ∷ bs) (filter is_word parts)

-- parts that were played, and one more
pub parts-more : (start g h : Played) (part : List ℕ) (words parts more : List (List ℕ)) → play_all start words ≡ play_all g (filter is_word parts) → parts ≡ part ∷ more
    → play_all g (filter is_word (part ∷ [])) ≡ Ok h → play_all start words ≡ play_all h (filter is_word more)
parts-more start g h part words parts more so_far cut played =
    so_far ∙ ap (λ ps. play_all g (filter is_word ps)) cut ∙ parts-first g part more ∙ ap (λ r. and_then r (λ x. play_all x (filter is_word more))) played

-- a faulty part
pub parts-fault : (start g h now : Played) (part : List ℕ) (words parts more : List (List ℕ)) (why : NoGame) → play_all start words ≡ play_all g (filter is_word parts) → parts ≡ part ∷ more
    → Plays {A = Unit {0}} (play_all g (filter is_word (part ∷ []))) h (Err why) → Plays {A = Unit {0}} (play_all start words) now (Err why)
parts-fault start g h now part words parts more (Faulty fault) so_far cut says =
    so_far ∙ ap (λ ps. play_all g (filter is_word ps)) cut ∙ parts-first g part more ∙ ap (λ r. and_then r (λ x. play_all x (filter is_word more))) says
parts-fault start g h now part words parts more Unread so_far cut says = absurd says
parts-fault start g h now part words parts more Memory so_far cut says = tt

-- a part that is empty, and one that is not
pub empty-part : (g : Played) (part : List ℕ) → is_word part ≡ false → play_all g (filter is_word (part ∷ [])) ≡ Ok g
empty-part g part empty = rw empty (all-none g)

pub word-part : (g : Played) (part : List ℕ) → is_word part ≡ true → play_all g (filter is_word (part ∷ [])) ≡ play g part
word-part g part some = rw some (all-one g part)

-- the last part
pub parts-end : (start g : Played) (words parts : List (List ℕ)) → play_all start words ≡ play_all g (filter is_word parts) → parts ≡ [] → play_all start words ≡ Ok g
parts-end start g words parts so_far none = so_far ∙ ap (λ ps. play_all g (filter is_word ps)) none ∙ all-none g
