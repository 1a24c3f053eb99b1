-- What a call from C answers and writes.
use Rattle.std.specs.Prelude.{◌≡◌, ◌⊎◌, ℕ, nat_le, List, ◌++◌, drop, length, Bool, true, false, Option, Some, None, if◌then◌else◌}
use Rattle.referee.specs.Refereed.{IsUnrefereed, Refereed}
use Rattle.referee_c.specs.declared.Reply.{Reply}

-- ---- the statuses of a reply that has no text

-- all was done that was asked
abbrev pub done : ℕ
done = 0

-- a referee does not answer the command
abbrev pub not_refereed : ℕ
not_refereed = 1

-- there was no memory
abbrev pub no_memory : ℕ
no_memory = 7

-- ---- what was given

-- the bytes of the file, where there is one
abbrev pub file_of : Bool → List ℕ → Option (List ℕ)
file_of true bytes = Some bytes
file_of false bytes = None

-- ---- what is answered

-- the text at the front of the room, where there is room for all of it
abbrev pub written : List ℕ → List ℕ → List ℕ
written text room = if nat_le (length text) (length room) then text ++ drop (length text) room else room

-- the reply tells this status and the length of this text, which was written where there is room
abbrev pub Tells : ℕ → List ℕ → List ℕ → List ℕ → Reply → Type 0
Tells status text room room' reply =
    (reply.status ≡ status) × (reply.length ≡ length text) × (room' ≡ written text room)

-- the reply has this status and no text
abbrev pub HasNoText : ℕ → Reply → Type 0
HasNoText status reply = (reply.status ≡ status) × (reply.length ≡ 0)

-- The reply tells an answer of the program. Or it has no text and the room is as it was: a referee does not answer the
-- command, or there was no memory.
abbrev pub Answers : List (List ℕ) → Option (List ℕ) → List ℕ → List ℕ → List ℕ → Reply → Type 0
Answers words file input room room' reply =
    ((status : ℕ) × (text : List ℕ) × Refereed words file input status text × Tells status text room room' reply)
    ⊎ (HasNoText not_refereed reply × (room' ≡ room) × IsUnrefereed words)
    ⊎ (HasNoText no_memory reply × (room' ≡ room))
