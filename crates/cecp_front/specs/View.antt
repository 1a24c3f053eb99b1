-- Commands as the definitions of sessions have them.
use Rattle.std.specs.Prelude.{Bool, true, false, List, bytes_eq, codes, if◌then◌else◌}
use Rattle.session_model.specs.CecpLines as CecpLines
use Rattle.session_model.specs.CecpLines.{level_of, ping_of, with_number}
use Rattle.session_model.specs.UciWords.{Word, first_word, joined}
use Rattle.cecp_front.specs.declared.command.Command.{Command}
use Rattle.cecp_front.specs.declared.command.Command.TheVariants as command
use Rattle.cecp_front.specs.declared.command.Limit.{Limit}
use Rattle.cecp_front.specs.declared.command.Limit.TheVariants as limit
use Rattle.cecp_front.specs.declared.verb.Verb.{Verb}
use Rattle.cecp_front.specs.declared.verb.Verb.TheVariants as verb

abbrev pub limit_seen : Limit → CecpLines.Command
limit_seen (limit.St seconds) = CecpLines.St seconds
limit_seen (limit.Sd depth) = CecpLines.Sd depth
limit_seen (limit.Level moves increment) = CecpLines.Level moves increment
limit_seen (limit.Time left) = CecpLines.Time left

abbrev pub command_seen : Command → CecpLines.Command
command_seen command.Idle = CecpLines.Idle
command_seen command.Protover = CecpLines.Protover
command_seen command.New = CecpLines.New
command_seen (command.Variant name) = CecpLines.Variant name.now
command_seen command.Force = CecpLines.Force
command_seen command.Go = CecpLines.Go
command_seen command.PlayOther = CecpLines.PlayOther
command_seen (command.UserMove text) = CecpLines.UserMove text.now
command_seen (command.SetBoard text) = CecpLines.SetBoard text
command_seen (command.Ping digits) = CecpLines.Ping digits.now
command_seen (command.TakeBack plies) = CecpLines.TakeBack plies
command_seen (command.Post on) = CecpLines.Post on
command_seen (command.Limit limit) = limit_seen limit
command_seen command.Quit = CecpLines.Quit
command_seen command.BadNumber = CecpLines.BadNumber
command_seen command.Unknown = CecpLines.Unknown
command_seen command.TooLong = CecpLines.TooLong

-- the command of a verb, with the words after it
abbrev pub command_by : Verb → List Word → CecpLines.Command
command_by verb.Idle words = CecpLines.Idle
command_by verb.Protover words = with_number words (λ n. CecpLines.Protover)
command_by verb.New words = CecpLines.New
command_by verb.Variant words = CecpLines.Variant (first_word words)
command_by verb.Force words = CecpLines.Force
command_by verb.Go words = CecpLines.Go
command_by verb.PlayOther words = CecpLines.PlayOther
command_by verb.UserMove words = CecpLines.UserMove (first_word words)
command_by verb.SetBoard words = CecpLines.SetBoard (joined words)
command_by verb.Ping words = ping_of (first_word words)
command_by verb.Undo words = CecpLines.TakeBack 1
command_by verb.Remove words = CecpLines.TakeBack 2
command_by verb.Post words = CecpLines.Post true
command_by verb.NoPost words = CecpLines.Post false
command_by verb.St words = with_number words CecpLines.St
command_by verb.Sd words = with_number words CecpLines.Sd
command_by verb.Level words = level_of words
command_by verb.Time words = with_number words CecpLines.Time
command_by verb.OpponentTime words = with_number words (λ n. CecpLines.Idle)
command_by verb.Quit words = CecpLines.Quit
command_by verb.Unknown words = CecpLines.Unknown

-- the commands from `post` on
abbrev pub limit_named : Word → List Word → CecpLines.Command
limit_named word words =
    if bytes_eq word (codes "post") then CecpLines.Post true
    else (if bytes_eq word (codes "nopost") then CecpLines.Post false
    else (if bytes_eq word (codes "st") then with_number words CecpLines.St
    else (if bytes_eq word (codes "sd") then with_number words CecpLines.Sd
    else (if bytes_eq word (codes "level") then level_of words
    else (if bytes_eq word (codes "time") then with_number words CecpLines.Time
    else (if bytes_eq word (codes "otim") then with_number words (λ n. CecpLines.Idle)
    else (if bytes_eq word (codes "quit") then CecpLines.Quit else CecpLines.Unknown)))))))

-- a search that such a line stops makes no move
abbrev pub verb_gives_up : Verb → Bool
verb_gives_up verb.Idle = false
verb_gives_up verb.Protover = false
verb_gives_up verb.New = true
verb_gives_up verb.Variant = true
verb_gives_up verb.Force = true
verb_gives_up verb.Go = false
verb_gives_up verb.PlayOther = false
verb_gives_up verb.UserMove = false
verb_gives_up verb.SetBoard = true
verb_gives_up verb.Ping = false
verb_gives_up verb.Undo = true
verb_gives_up verb.Remove = true
verb_gives_up verb.Post = false
verb_gives_up verb.NoPost = false
verb_gives_up verb.St = false
verb_gives_up verb.Sd = false
verb_gives_up verb.Level = false
verb_gives_up verb.Time = false
verb_gives_up verb.OpponentTime = false
verb_gives_up verb.Quit = true
verb_gives_up verb.Unknown = false

-- such a line ends a session
abbrev pub verb_quits : Verb → Bool
verb_quits verb.Idle = false
verb_quits verb.Protover = false
verb_quits verb.New = false
verb_quits verb.Variant = false
verb_quits verb.Force = false
verb_quits verb.Go = false
verb_quits verb.PlayOther = false
verb_quits verb.UserMove = false
verb_quits verb.SetBoard = false
verb_quits verb.Ping = false
verb_quits verb.Undo = false
verb_quits verb.Remove = false
verb_quits verb.Post = false
verb_quits verb.NoPost = false
verb_quits verb.St = false
verb_quits verb.Sd = false
verb_quits verb.Level = false
verb_quits verb.Time = false
verb_quits verb.OpponentTime = false
verb_quits verb.Quit = true
verb_quits verb.Unknown = false
