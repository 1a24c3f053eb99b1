-- What the lines of a game text say, as they are read.
use Rattle.std.proofs.Common.{◌≡◌, ◌≤◌, ℕ, ◌+◌, arith, length, List, [], ◌∷◌, ◌++◌, inl, inr, Option, Some, None, Result, Ok, Err, refl, sym, ap, subst, ◌∙◌, append_assoc}
use Rattle.std.proofs.lemmas.List.{length-append}
use Rattle.std.specs.Bool.{⊤}
use Rattle.std.specs.Io.KnownBytes.{IsAtEnd}
use Rattle.fen_model.specs.declared.fault.FenFault.{FenFault}
use Rattle.io_ports.specs.Lines.{Line, Text, TooLong}
use Rattle.io_ports.specs.Source.{Takes}
use Rattle.io_ports.proofs.Moved.{takes_none, takes_more}
use Rattle.rules_model.specs.declared.board.Position.{Position}
use Rattle.rules_model.specs.declared.rules.Rules.{Rules}
use Rattle.variant_model.specs.declared.fault.SectionFault.{SectionFault}
use Rattle.variant_rules.specs.Entries.{Named, found}
use Rattle.game_play.specs.Played.{Played}
use Rattle.game_text.specs.declared.fault.GameFault.{GameFault}
use Rattle.game_text.specs.declared.fault.GameFault.TheVariants.{Missing, UnknownVariant, RefusedVariant, BadPosition, LineTooLong}
use Rattle.game_text.specs.declared.unmade.Unmade.{Unmade}
use Rattle.game_text.specs.declared.unmade.Unmade.TheVariants.{Faulty, Unread, Memory}
use Rattle.game_text.specs.GameText.{game_by, game_from, game_in, game_of, game_on, lines_by, lines_in, lines_of_game, lines_on, position_of, started, unless_faulty}
use Rattle.game_text.specs.HeardLines.{HeardLines}
use Rattle.game_text.specs.Playing.{and_then, play_all, words_of}
use Rattle.game_text.specs.ReadView.{IsUnread, NoGame, Plays, Says, SaysGame, Tells}

-- ---- from line 3 on, line by line

pub on-none : (number : ℕ) (g : Played) → game_on number g [] ≡ Ok g
unfolding game_on
on-none number g = refl

on-long : (number : ℕ) (g : Played) (more : List Line) → game_on number g (TooLong ∷ more) ≡ Err (LineTooLong number)
unfolding game_on
on-long number g more = refl

on-played : (number : ℕ) (g h : Played) (text : List ℕ) (more : List Line) → play_all g (words_of text) ≡ Ok h → game_on number g (Text text ∷ more) ≡ game_on (number + 1) h more
unfolding game_on
on-played number g h text more is = ap (λ r. and_then r (λ x. game_on (number + 1) x more)) is

on-fault : (number : ℕ) (g : Played) (text : List ℕ) (more : List Line) (fault : GameFault) → play_all g (words_of text) ≡ Err fault → game_on number g (Text text ∷ more) ≡ Err fault
unfolding game_on
on-fault number g text more fault is = ap (λ r. and_then r (λ x. game_on (number + 1) x more)) is

needs-played : (g h : Played) (text : List ℕ) (more : List Line) → play_all g (words_of text) ≡ Ok h → lines_on g (Text text ∷ more) ≡ 1 + lines_on h more
unfolding lines_on
needs-played g h text more is = ap (λ r. 1 + unless_faulty r (λ x. lines_on x more)) is

needs-one : (g : Played) (x : Line) (more : List Line) → 1 ≤ lines_on g (x ∷ more)
unfolding lines_on
needs-one g TooLong more = omega arith
needs-one g (Text text) more = omega arith

-- Lines from line 3 on were taken, up to this number, and their moves were played.
pub record ReadOn (a b : Option (List ℕ)) (start now : Played) (number : ℕ) : Type 0 where
  pub lines : List Line
  pub took : Takes a b lines
  pub go_on : (more : List Line) → game_on 3 start (lines ++ more) ≡ game_on number now more
  pub needed : (more : List Line) → lines_on start (lines ++ more) ≡ length lines + lines_on now more

pub read_none : (a : Option (List ℕ)) (g : Played) → ReadOn a a g g 3
read_none a g = record { lines = []; took = takes_none a; go_on = λ more. refl; needed = λ more. omega arith }

module _ {a b : Option (List ℕ)} {start now : Played} {number : ℕ} (read : ReadOn a b start now number) where
  -- these lines more
  goes : (front more : List Line) → game_on 3 start ((read.lines ++ front) ++ more) ≡ game_on number now (front ++ more)
  goes front more = ap (game_on 3 start) (append_assoc read.lines front more) ∙ read.go_on (front ++ more)

  needs : (front more : List Line) → lines_on start ((read.lines ++ front) ++ more) ≡ length read.lines + lines_on now (front ++ more)
  needs front more = ap (lines_on start) (append_assoc read.lines front more) ∙ read.needed (front ++ more)

  few : (front more : List Line) → length front ≤ lines_on now (front ++ more) → length (read.lines ++ front) ≤ lines_on start ((read.lines ++ front) ++ more)
  few front more low =
      let is = needs front more in
      let long = length-append read.lines front in
      omega (arith, low, is, long)

-- a line more, whose moves were played
pub read_more : (a b c : Option (List ℕ)) (start now next : Played) (number : ℕ) (text : List ℕ) → ReadOn a b start now number → Takes b c (Text text ∷ [])
    → play_all now (words_of text) ≡ Ok next → ReadOn a c start next (number + 1)
read_more a b c start now next number text read takes played = record {
  lines = read.lines ++ Text text ∷ [];
  took = takes_more a b c read.lines (Text text ∷ []) read.took takes;
  go_on = λ more. goes read (Text text ∷ []) more ∙ on-played number now next text more played;
  needed = λ more.
      let is = needs read (Text text ∷ []) more in
      let one = needs-played now next text more played in
      let long = length-append read.lines (Text text ∷ []) in
      omega (arith, is, one, long);
}

-- the end after them
pub read_end : (a b c : Option (List ℕ)) (start now : Played) (number : ℕ) → ReadOn a b start now number → Takes b c [] → IsAtEnd c
    → HeardLines a c (lines_on start) (λ lines. game_on 3 start lines ≡ Ok now)
read_end a b c start now number read takes ended = record {
  lines = read.lines ++ [];
  took = takes_more a b c read.lines [] read.took takes;
  few = λ more. few read [] more (omega arith);
  holds = inl (ended, read.go_on [] ∙ on-none number now);
}

-- a faulty line after them
read_fault : (a b c : Option (List ℕ)) (start now : Played) (number : ℕ) (x : Line) (fault : GameFault) → ReadOn a b start now number → Takes b c (x ∷ [])
    → ((more : List Line) → game_on number now (x ∷ more) ≡ Err fault) → HeardLines a c (lines_on start) (λ lines. game_on 3 start lines ≡ Err fault)
read_fault a b c start now number x fault read takes is = record {
  lines = read.lines ++ x ∷ [];
  took = takes_more a b c read.lines (x ∷ []) read.took takes;
  few = λ more. few read (x ∷ []) more (needs-one now x more);
  holds = inr (λ more. goes read (x ∷ []) more ∙ is more);
}

-- a line that is not read further
read_line : (a b c : Option (List ℕ)) (start now : Played) (number : ℕ) (x : Line) → ReadOn a b start now number → Takes b c (x ∷ []) → HeardLines a c (lines_on start) (λ lines. ⊤)
read_line a b c start now number x read takes = record {
  lines = read.lines ++ x ∷ [];
  took = takes_more a b c read.lines (x ∷ []) read.took takes;
  few = λ more. few read (x ∷ []) more (needs-one now x more);
  holds = inr (λ more. tt);
}

pub read_long : (a b c : Option (List ℕ)) (start now : Played) (number : ℕ) → ReadOn a b start now number → Takes b c (TooLong ∷ [])
    → HeardLines a c (lines_on start) (λ lines. game_on 3 start lines ≡ Err (LineTooLong number))
read_long a b c start now number read takes = read_fault a b c start now number TooLong (LineTooLong number) read takes (λ more. on-long number now more)

-- a line with a move that is not played
pub read_unplayed : (a b c : Option (List ℕ)) (start now next new : Played) (number : ℕ) (text : List ℕ) (why : NoGame) → ReadOn a b start now number → Takes b c (Text text ∷ [])
    → Plays {A = Unit {0}} (play_all now (words_of text)) next (Err why) → HeardLines a c (lines_on start) (λ lines. Says {A = Unit {0}} (game_on 3 start lines) new (Err why))
read_unplayed a b c start now next new number text (Faulty fault) read takes says =
    read_fault a b c start now number (Text text) fault read takes (λ more. on-fault number now text more fault says)
read_unplayed a b c start now next new number text Unread read takes says = read_line a b c start now number (Text text) read takes
read_unplayed a b c start now next new number text Memory read takes says = read_line a b c start now number (Text text) read takes

pub plays_same : (g next : Played) (text line : List ℕ) (why : NoGame) → text ≡ line → Plays {A = Unit {0}} (play_all g (words_of text)) next (Err why)
    → Plays {A = Unit {0}} (play_all g (words_of line)) next (Err why)
plays_same g next text line why is plays = subst (λ t. Plays {A = Unit {0}} (play_all g (words_of t)) next (Err why)) is plays

-- and then the source did not fail
pub unplayed_heard : {F V : Type 0} (said : Result V F) (now : V) (why : Unmade F) → Plays {A = Unit {0}} said now (Err why) → IsUnread {A = Unit {0}} (Err why) → ⊥
unplayed_heard said now (Faulty fault) plays unread = unread
unplayed_heard said now Unread plays unread = plays
unplayed_heard said now Memory plays unread = unread

-- nothing after them
pub read_stop : (a b c : Option (List ℕ)) (start now : Played) (number : ℕ) → ReadOn a b start now number → Takes b c [] → HeardLines a c (lines_on start) (λ lines. ⊤)
read_stop a b c start now number read takes = record {
  lines = read.lines ++ [];
  took = takes_more a b c read.lines [] read.took takes;
  few = λ more. few read [] more (omega arith);
  holds = inr (λ more. tt);
}

pub read_so_far : (a b : Option (List ℕ)) (start now : Played) (number : ℕ) → ReadOn a b start now number → HeardLines a b (lines_on start) (λ lines. ⊤)
read_so_far a b start now number read = record {
  lines = read.lines;
  took = read.took;
  few = λ more. let is = read.needed more in omega (arith, is);
  holds = inr (λ more. tt);
}

-- why a game that was started was not played to the end, or another text not read to its end
pub says_told : {F V : Type 0} (said : Result V F) (now : V) (why : Unmade F) → Says {A = Unit {0}} said now (Err why) → Tells {A = V} said (Err why)
says_told said now (Faulty fault) says = says
says_told said now Unread says = tt
says_told said now Memory says = tt

-- it is the same answer to any question
pub told_unread : (A B : Type 0) (why : NoGame) → IsUnread {A = A} (Err why) → IsUnread {A = B} (Err why)
told_unread A B (Faulty fault) unread = unread
told_unread A B Unread unread = unread
told_unread A B Memory unread = unread

-- ---- from line 2 on

pub by-none : (rules : Rules) → game_by rules [] ≡ Err (Missing 2)
unfolding game_by
by-none rules = refl

pub by-long : (rules : Rules) (more : List Line) → game_by rules (TooLong ∷ more) ≡ Err (LineTooLong 2)
unfolding game_by
by-long rules more = refl

pub by-bad : (rules : Rules) (text : List ℕ) (more : List Line) (why : FenFault) → position_of rules text ≡ Err why → game_by rules (Text text ∷ more) ≡ Err (BadPosition why)
unfolding game_by
by-bad rules text more why is = ap (λ r. game_from rules r more) is

pub by-position : (rules : Rules) (text : List ℕ) (more : List Line) (p : Position) → position_of rules text ≡ Ok p → game_by rules (Text text ∷ more) ≡ game_on 3 (started rules p) more
unfolding game_by
by-position rules text more p is = ap (λ r. game_from rules r more) is

-- a game that was started there
pub by-started : (rules : Rules) (text : List ℕ) (p : Position) (g : Played) → position_of rules text ≡ Ok p → g ≡ started rules p → game_by rules (Text text ∷ []) ≡ Ok g
by-started rules text p g is starts = by-position rules text [] p is ∙ on-none 3 (started rules p) ∙ ap Ok (sym starts)

-- what follows of what was said
pub says_same : {A : Type 0} (said whole : Result A GameFault) (r : Result A NoGame) → whole ≡ said → Tells said r → Tells whole r
says_same {A = A} said whole r is says = subst (λ (x : Result A GameFault). Tells x r) (sym is) says

pub says_fault : {A B : Type 0} (said : Result A GameFault) (whole : Result B GameFault) (why : NoGame) → ((fault : GameFault) → said ≡ Err fault → whole ≡ Err fault)
    → Tells {A = A} said (Err why) → Tells {A = B} whole (Err why)
says_fault said whole (Faulty fault) so says = so fault says
says_fault said whole Unread so says = tt
says_fault said whole Memory so says = tt

pub some-by : (rules : Rules) (x : Line) (more : List Line) → 1 ≤ lines_by rules (x ∷ more)
unfolding lines_by
some-by rules TooLong more = omega arith
some-by rules (Text text) more = omega arith

-- ---- from line 1 on

pub game-none : (variants : List Named) → game_of variants [] ≡ Err (Missing 1)
unfolding game_of
game-none variants = refl

pub game-long : (variants : List Named) (more : List Line) → game_of variants (TooLong ∷ more) ≡ Err (LineTooLong 1)
unfolding game_of
game-long variants more = refl

game-known : (variants : List Named) (name : List ℕ) (more : List Line) (rules : Rules) → found variants name ≡ Some (Ok rules) → game_of variants (Text name ∷ more) ≡ game_by rules more
unfolding game_of
game-known variants name more rules is = ap (λ o. game_in name o more) is

pub says_known : (variants : List Named) (name : List ℕ) (rules : Rules) (r : Result Played NoGame) (more : List Line) → found variants name ≡ Some (Ok rules)
    → SaysGame (game_by rules more) r → SaysGame (game_of variants (Text name ∷ more)) r
says_known variants name rules r more is says = says_same _ _ r (game-known variants name more rules is) says

pub says_refused : (variants : List Named) (name : List ℕ) (why : SectionFault) (no_game : NoGame) (more : List Line) → found variants name ≡ Some (Err why)
    → no_game ≡ Faulty (RefusedVariant why) → SaysGame (game_of variants (Text name ∷ more)) (Err no_game)
unfolding game_of
says_refused variants name why no_game more is gives = rw gives (ap (λ o. game_in name o more) is)

pub says_unknown : (variants : List Named) (name : List ℕ) (no_game : NoGame) (more : List Line) → found variants name ≡ None
    → no_game ≡ Faulty (UnknownVariant name) → SaysGame (game_of variants (Text name ∷ more)) (Err no_game)
unfolding game_of
says_unknown variants name no_game more is gives = rw gives (ap (λ o. game_in name o more) is)

pub needs-known : (variants : List Named) (name : List ℕ) (rules : Rules) → found variants name ≡ Some (Ok rules) → (more : List Line) → lines_by rules more ≤ lines_in (found variants name) more
needs-known variants name rules is more = rw is (omega arith)

pub needs-game : (variants : List Named) (name : List ℕ) (more : List Line) → 1 + lines_in (found variants name) more ≤ lines_of_game variants (Text name ∷ more)
unfolding lines_of_game
needs-game variants name more = omega arith

pub some-game : (variants : List Named) (x : Line) (more : List Line) → 1 ≤ lines_of_game variants (x ∷ more)
unfolding lines_of_game
some-game variants TooLong more = omega arith
some-game variants (Text name) more = omega arith
