-- The line that is answered next, and the lines that are heard before it.
use Rattle.std.specs.Prelude.{◌≡◌, ℕ, ◌≤◌, List, [], ◌∷◌, ◌++◌, Bool, true, false, ◌&&◌, not, IsSomeAnd, Option, Some, None, ⊤}
use Rattle.std.specs.Io.KnownBytes.{Appends}
use Rattle.io_ports.specs.Cause.{Rose}
use Rattle.io_ports.specs.Heard.{stops}
use Rattle.io_ports.specs.Lines.{Line, Text, TooLong}
use Rattle.io_ports.specs.Source.{Takes, got_lines}
use Rattle.io_ports.specs.declared.dialect.Dialect.{Dialect}
use Rattle.io_ports.specs.declared.limits.SearchFault.{SearchFault}
use Rattle.io_ports.specs.declared.limits.SearchFault.TheVariants as fault
use Rattle.io_ports.specs.declared.source.Got.{Got}
use Rattle.io_ports.specs.declared.source.Got.TheVariants as got
use Rattle.watching.specs.declared.halt.Cut.{Cut}
use Rattle.watching.specs.declared.halt.Cut.TheVariants as cut
use Rattle.watching.specs.Events.{Listens}
use Rattle.watching.specs.Looks.{Broke, IsWholeBut, Moved, Ran, held}

-- ---- the next line

-- the source answered with a line
abbrev pub HasLine : Got → Type 0
HasLine got.Line = ⊤
HasLine got.TooLong = ⊤
HasLine got.End = ⊥
HasLine got.Failed = ⊥

-- this line, where it did
abbrev pub got_line : Got → List ℕ → Line
got_line got.Line text = Text text
got_line got.TooLong text = TooLong
got_line got.End text = TooLong
got_line got.Failed text = TooLong

-- what may follow the answer: anything after a line, and nothing after the end or a failure
abbrev pub MayFollow : Got → List Line → Type 0
MayFollow got.Line following = ⊤
MayFollow got.TooLong following = ⊤
MayFollow got.End following = following ≡ []
MayFollow got.Failed following = following ≡ []

-- one line is held, or none
pub data Held : List Line → Type 0 where
  none : Held []
  one : (line : Line) → Held (line ∷ [])

-- these lines follow what this cut: the line that cut it comes first, and none comes after the end
abbrev pub Follows : Option Cut → List ℕ → List Line → Type 0
Follows None text following = ⊤
Follows (Some cut.Line) text following = (rest : List Line) × (following ≡ Text text ∷ rest)
Follows (Some cut.End) text following = following ≡ []
Follows (Some (cut.Quota quota)) text following = ⊤
Follows (Some (cut.Deadline reading)) text following = ⊤

-- The next line is the one that cut a search, which this text is, or the next of the source; after the end there is
-- none.
pub record IsNext (why : Option Cut) (left left' : Option (List ℕ)) (text : List ℕ) (next : Got) (text' : List ℕ)
    : Type 0 where
  pub lines : List Line
  pub takes : Takes left left' lines
  pub lines_are : held why text ++ lines ≡ got_lines next text'
  pub ended : why ≡ Some cut.End → (following : List Line) → MayFollow next following → lines ++ following ≡ []

-- ---- lines that are heard before it

-- from old to new the source lost these lines and the sink gained this output, as far as they tell, and no clock was
-- read
pub record Exchanges {S K : Type 0} (left : S → Option (List ℕ)) (taken : K → Option (List ℕ)) (source source' : S)
    (sink sink' : K) (lines : List Line) (output readings : List ℕ) : Type 0 where
  pub took : Takes (left source) (left source') lines
  pub wrote : Appends (taken sink) (taken sink') output
  pub unread : readings ≡ []

-- a line that stops a search, or the end of the lines
abbrev pub StopsBy : Dialect → List ℕ → Cut → Type 0
StopsBy dialect text cut.Line = stops dialect (Text text) ≡ true
StopsBy dialect text cut.End = ⊤
StopsBy dialect text (cut.Quota quota) = ⊥
StopsBy dialect text (cut.Deadline reading) = ⊥

-- lines were heard until one stopped, or to the end
pub record Waited (dialect : Dialect) (moved : Moved) (text : List ℕ) (why : Cut) : Type 0 where
  pub ran : Ran dialect moved (held (Some why) text) (Listens dialect)
  pub stopped : StopsBy dialect text why

-- A fault ended it while lines were heard. Those are answered, and only where the sink failed the last one in part.
pub record HeardPart (dialect : Dialect) (moved : Moved) (why : SearchFault) : Type 0 where
  pub broke : Broke dialect moved (Listens dialect)
  pub whole : IsWholeBut why broke.back

-- a line or the end of the lines cut it
abbrev pub is_interrupted : Option Cut → Bool
is_interrupted None = false
is_interrupted (Some cut.Line) = true
is_interrupted (Some cut.End) = true
is_interrupted (Some (cut.Quota quota)) = false
is_interrupted (Some (cut.Deadline reading)) = false

-- what holds a best move back waits for a line or the end, unless one of these came already
abbrev pub must_wait : Bool → Option Cut → Bool
must_wait holds why = holds && not (is_interrupted why)

-- nothing was done, or it was waited for
abbrev pub WaitedIfMust : Bool → Dialect → Moved → List ℕ → Option Cut → List ℕ → Option Cut → Type 0
WaitedIfMust false dialect moved text why text' why' = moved [] [] [] × (text' ≡ text) × (why' ≡ why)
WaitedIfMust true dialect moved text why text' why' = IsSomeAnd why' (Waited dialect moved text')

-- a best move may be told, which was held back or not
abbrev pub WaitedIfHeld : Dialect → Moved → Bool → List ℕ → Option Cut → List ℕ → Option Cut → Type 0
WaitedIfHeld dialect moved holds text why text' why' = WaitedIfMust (must_wait holds why) dialect moved text why text' why'

-- ---- faults

-- counts of faults don't fall, and a fault of the source or the sink comes only where its count rose
pub record Causes (source source' sink sink' : ℕ) (Is : SearchFault → Type 0) : Type 0 where
  pub source_later : source ≤ source'
  pub sink_later : sink ≤ sink'
  pub source_failed : Is fault.ReadFault → Rose source source'
  pub sink_failed : Is fault.WriteFault → Rose sink sink'
