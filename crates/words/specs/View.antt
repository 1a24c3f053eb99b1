-- What the code gives, as the definitions have it.
use Rattle.std.specs.Prelude.{◌≤◌, List, map, Option, option_map, ⊤}
use Rattle.std.specs.Borrow.{Bor}
use Rattle.words.specs.declared.command.Command.{Command as Given}
use Rattle.words.specs.declared.command.Command.TheVariants as given
use Rattle.words.specs.declared.reading.Asked.{Asked as GivenAsked}
use Rattle.words.specs.Asked.{Asked}
use Rattle.words.specs.Command.{Command, Uci, Xboard, Moves, Status, Checkers, Perft, Check, SelfMate, HelpMate, CheckCert, Variants, Reach, Generate, RulesOf, Help, Version, Suite, PnMate, Keys}
use Rattle.words.specs.Options.{Text}

-- the text that is referred to, where there is one, and the texts
abbrev pub text_in : Option (Bor Text) → Option Text
text_in = option_map (λ s. s.now)

abbrev pub texts : List (Bor Text) → List Text
texts = map (λ s. s.now)

abbrev pub command_seen : Given → Command
command_seen given.Uci = Uci
command_seen given.Xboard = Xboard
command_seen given.Moves = Moves
command_seen given.Status = Status
command_seen given.Checkers = Checkers
command_seen (given.Perft plies) = Perft plies
command_seen given.Check = Check
command_seen (given.SelfMate moves) = SelfMate moves
command_seen (given.HelpMate moves) = HelpMate moves
command_seen given.CheckCert = CheckCert
command_seen given.Variants = Variants
command_seen given.Suite = Suite
command_seen (given.PnMate moves) = PnMate moves
command_seen (given.Keys moves) = Keys moves
command_seen (given.Reach word square own enemy) = Reach word.now square.now own.now enemy.now
command_seen (given.Generate name number plies) = Generate name.now number plies
command_seen (given.RulesOf name) = RulesOf name.now
command_seen given.Help = Help
command_seen given.Version = Version

abbrev pub asked_seen : GivenAsked → Asked
asked_seen a = record {
  variants = text_in a.variants;
  threads = a.threads;
  command = command_seen a.command;
}

-- a number of plies is from 1 to 9, one of moves from 1 to 6, or to 100 for `pnmate` and to 20 for `keys`, and a random
-- game has at most 8,192 plies
abbrev pub HasPlies : Given → Type 0
HasPlies given.Uci = ⊤
HasPlies given.Xboard = ⊤
HasPlies given.Moves = ⊤
HasPlies given.Status = ⊤
HasPlies given.Checkers = ⊤
HasPlies (given.Perft plies) = (1 ≤ plies) × (plies ≤ 9)
HasPlies given.Check = ⊤
HasPlies (given.SelfMate moves) = (1 ≤ moves) × (moves ≤ 6)
HasPlies (given.HelpMate moves) = (1 ≤ moves) × (moves ≤ 6)
HasPlies given.CheckCert = ⊤
HasPlies given.Variants = ⊤
HasPlies given.Suite = ⊤
HasPlies (given.PnMate moves) = (1 ≤ moves) × (moves ≤ 100)
HasPlies (given.Keys moves) = (1 ≤ moves) × (moves ≤ 20)
HasPlies (given.Reach word square own enemy) = ⊤
HasPlies (given.Generate name number plies) = plies ≤ 8192
HasPlies (given.RulesOf name) = ⊤
HasPlies given.Help = ⊤
HasPlies given.Version = ⊤
