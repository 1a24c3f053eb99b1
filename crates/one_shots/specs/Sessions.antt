-- Sessions: runs that answer the lines of their input as these come. Each has a protocol.
use Rattle.std.specs.Prelude.{ℕ, List, Bool, Option, Some, None, is_some}
use Rattle.io_ports.specs.declared.dialect.Dialect.{Dialect}
use Rattle.io_ports.specs.declared.dialect.Dialect.TheVariants as dialect
use Rattle.io_ports.specs.Lines.{Line}
use Rattle.session_model.specs.CecpSession.{cecp}
use Rattle.session_model.specs.Turns as turns
use Rattle.session_model.specs.UciSession.{uci}
use Rattle.words.specs.Asked.{Asked, asked}
use Rattle.words.specs.Command.{Command, Uci, Xboard, Moves, Status, Checkers, Perft, Check, SelfMate, HelpMate, CheckCert, Variants, Reach, Generate, RulesOf, Help, Version, Suite, PnMate, Keys}

-- the protocol of a command that is a session
abbrev pub dialect_of : Command → Option Dialect
dialect_of Uci = Some dialect.Uci
dialect_of Xboard = Some dialect.Cecp
dialect_of Moves = None
dialect_of Status = None
dialect_of Checkers = None
dialect_of (Perft plies) = None
dialect_of Check = None
dialect_of (SelfMate moves) = None
dialect_of (HelpMate moves) = None
dialect_of CheckCert = None
dialect_of Variants = None
dialect_of (Reach word square own enemy) = None
dialect_of (Generate name number plies) = None
dialect_of (RulesOf name) = None
dialect_of Help = None
dialect_of Version = None
dialect_of Suite = None
dialect_of (PnMate moves) = None
dialect_of (Keys moves) = None

-- The command is a session. Every other command has one text and one status: it is a one-shot command.
abbrev pub is_session : Command → Bool
is_session command = is_some (dialect_of command)

-- how many of these lines a session takes: those up to and with the first that ends it, else all
abbrev pub lines_wanted : Dialect → List Line → ℕ
lines_wanted dialect.Uci = turns.lines_wanted uci
lines_wanted dialect.Cecp = turns.lines_wanted cecp

-- what a run with these words does; nothing, where they are not of the command set
unfoldable pub to_do : List (List ℕ) → Option Asked
to_do words = asked words
