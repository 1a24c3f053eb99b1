-- What the code answers of a text that is read, as the definitions have it: of a game text, and of any other text whose
-- code answers by `Unmade`.
use Rattle.std.specs.Prelude.{◌≡◌, Result, Ok, Err, ⊤}
use Rattle.game_play.specs.Played.{Played}
use Rattle.game_text.specs.declared.fault.GameFault.{GameFault}
use Rattle.game_text.specs.declared.unmade.Unmade.{Unmade}
use Rattle.game_text.specs.declared.unmade.Unmade.TheVariants.{Faulty, Unread, Memory}

-- why no game was read
abbrev pub NoGame : Type 0
NoGame = Unmade GameFault

-- the source failed
abbrev pub IsOfSource : {F : Type 0} → Unmade F → Type 0
IsOfSource (Faulty fault) = ⊥
IsOfSource Unread = ⊤
IsOfSource Memory = ⊥

abbrev pub IsUnread : {F A : Type 0} → Result A (Unmade F) → Type 0
IsUnread (Ok x) = ⊥
IsUnread (Err why) = IsOfSource why

-- Texts, as those of moves, came to this value, as a game, which the code has now, or to this fault. Without memory
-- nothing is known of them.
abbrev pub Plays : {F V A : Type 0} → Result V F → V → Result A (Unmade F) → Type 0
Plays said now (Ok x) = said ≡ Ok now
Plays said now (Err (Faulty fault)) = said ≡ Err fault
Plays said now (Err Unread) = ⊥
Plays said now (Err Memory) = ⊤

-- Lines say this value, which the code has now, or have this fault. Where none was read for another reason nothing is
-- known.
abbrev pub Says : {F V A : Type 0} → Result V F → V → Result A (Unmade F) → Type 0
Says said now (Ok x) = said ≡ Ok now
Says said now (Err (Faulty fault)) = said ≡ Err fault
Says said now (Err Unread) = ⊤
Says said now (Err Memory) = ⊤

-- the same of what lines say, where it is the answer
abbrev pub Tells : {F A : Type 0} → Result A F → Result A (Unmade F) → Type 0
Tells said (Ok x) = said ≡ Ok x
Tells said (Err (Faulty fault)) = said ≡ Err fault
Tells said (Err Unread) = ⊤
Tells said (Err Memory) = ⊤

-- of a game
abbrev pub SaysGame : Result Played GameFault → Result Played NoGame → Type 0
SaysGame said answer = Tells said answer
