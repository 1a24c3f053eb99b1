-- What the calls over a game that C holds answer and write.
use Rattle.std.specs.Prelude.{◌≡◌, ◌⊎◌, ℕ, List, [], Bool, true, false, Option, Some, None, Result, Ok, Err}
use Rattle.foundation.specs.declared.Memory.{Memory}
use Rattle.game_play.specs.Played.{Played, shorter}
use Rattle.game_text.specs.declared.fault.GameFault.{GameFault}
use Rattle.one_shots.specs.declared.answers.Answer.{Answer}
use Rattle.referee.specs.Games.{Begins, IsRefused, IsUnplayed}
use Rattle.referee_c.specs.declared.Reply.{Reply}
use Rattle.referee_c.specs.Written.{HasNoText, Tells, done, no_memory}

-- the game is kept; or there was no memory, and none is
abbrev pub KeepsHeld : Played → Option Played → Reply → Type 0
KeepsHeld g held reply =
    ((held ≡ Some g) × HasNoText done reply) ⊎ ((held ≡ None) × HasNoText no_memory reply)

-- the game is held that the input says
pub record IsHeldOf (file : Option (List ℕ)) (input : List ℕ) (held : Option Played) : Type 0 where
  pub game : Played
  pub begins : Begins file input (Ok game)
  pub is : held ≡ Some game

-- the reply tells the fault of the file or of the input
pub record TellsRefusal (file : Option (List ℕ)) (input : List ℕ) (room room' : List ℕ) (reply : Reply) : Type 0 where
  pub answer : Answer
  pub refused : IsRefused file input answer
  pub tells : Tells answer.status answer.text room room' reply

-- The game is held that the input says. Or none is: the reply tells the fault of the file or of the input, or there was
-- no memory.
abbrev pub BeginsHeld : Option (List ℕ) → List ℕ → Option Played → List ℕ → List ℕ → Reply → Type 0
BeginsHeld file input held room room' reply =
    (IsHeldOf file input held × HasNoText done reply × (room' ≡ room))
    ⊎ ((held ≡ None) × TellsRefusal file input room room' reply)
    ⊎ ((held ≡ None) × HasNoText no_memory reply × (room' ≡ room))

-- the game is held that is said
pub record GoesOn (said : Result Played GameFault) (held : Option Played) : Type 0 where
  pub game : Played
  pub plays : said ≡ Ok game
  pub is : held ≡ Some game

-- the reply tells why the move is not played
pub record TellsUnplayed (said : Result Played GameFault) (room room' : List ℕ) (reply : Reply) : Type 0 where
  pub answer : Answer
  pub unplayed : IsUnplayed said answer
  pub tells : Tells answer.status answer.text room room' reply

-- The game goes on as it is said. Or it is what it was: the reply tells why, or there was no memory.
abbrev pub PlaysHeld : Result Played GameFault → Played → Option Played → List ℕ → List ℕ → Reply → Type 0
PlaysHeld said g held room room' reply =
    (GoesOn said held × HasNoText done reply × (room' ≡ room))
    ⊎ ((held ≡ Some g) × TellsUnplayed said room room' reply)
    ⊎ ((held ≡ Some g) × HasNoText no_memory reply × (room' ≡ room))

-- the last move is taken back, where there is one
abbrev pub TakesBack : Played → Option Played → Bool → Type 0
TakesBack g held true = held ≡ Some (shorter g)
TakesBack g held false = (held ≡ Some g) × (g.moves ≡ [])

-- the reply tells this text; or there was no memory
abbrev pub TellsHeld : List ℕ → List ℕ → List ℕ → Reply → Type 0
TellsHeld text room room' reply =
    Tells done text room room' reply ⊎ (HasNoText no_memory reply × (room' ≡ room))

-- the same of a text that was made, where there was memory
abbrev pub IsTold : Result (List ℕ) Memory → List ℕ → List ℕ → Reply → Type 0
IsTold (Ok text) room room' reply = Tells done text room room' reply
IsTold (Err why) room room' reply = HasNoText no_memory reply × (room' ≡ room)
