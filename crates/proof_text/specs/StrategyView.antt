-- What the code answers of the lines of a strategy, as the definitions have it.
use Rattle.std.specs.Prelude.{◌≡◌, ℕ, Result, Ok, Err, ⊤}
use Rattle.strategy.specs.declared.fault.StrategyFault.{StrategyFault}
use Rattle.strategy.specs.declared.nodes.Strategy.{Strategy}
use Rattle.strategy.specs.declared.reader.Reader.{Reader}
use Rattle.strategy.specs.Fault.{IsFaultOrMemory}
use Rattle.proof_text.specs.declared.strategy_lines.NoStrategy.{NoStrategy}
use Rattle.proof_text.specs.declared.strategy_lines.NoStrategy.TheVariants.{Faulty, Unread}
use Rattle.proof_text.specs.declared.source_lines.NoProof.{NoProof}
use Rattle.proof_text.specs.declared.source_lines.NoProof.TheVariants as no_proof
use Rattle.proof_text.specs.Fault.{HasBodyFault}

-- the source failed
abbrev pub IsUnread : {A : Type 0} → Result A NoStrategy → Type 0
IsUnread (Ok x) = ⊥
IsUnread (Err (Faulty fault)) = ⊥
IsUnread (Err Unread) = ⊤

-- why nothing was read: the lines have this fault, or there was no memory, or the source failed
abbrev pub HasWhy : {A : Type 0} → Result A StrategyFault → NoStrategy → Type 0
HasWhy said (Faulty fault) = IsFaultOrMemory said fault
HasWhy said Unread = ⊤

-- the reader that the code has now is the one that the lines give, or the lines have this fault
abbrev pub SaysTaken : Result Reader StrategyFault → Reader → Result (Unit {0}) NoStrategy → Type 0
SaysTaken said now (Ok x) = said ≡ Ok now
SaysTaken said now (Err why) = HasWhy said why

-- the lines say this strategy, or have this fault
abbrev pub SaysStrategy : Result Strategy StrategyFault → Result Strategy NoStrategy → Type 0
SaysStrategy said (Ok s) = said ≡ Ok s
SaysStrategy said (Err why) = HasWhy said why

-- why no proof was read, whose strategy was not read for this reason; its lines stand this many lines further down
abbrev pub HasBodyWhy : ℕ → NoStrategy → NoProof → Type 0
HasBodyWhy lines (Faulty fault) (no_proof.Faulty bad) = HasBodyFault lines fault bad
HasBodyWhy lines (Faulty fault) no_proof.Unread = ⊥
HasBodyWhy lines Unread (no_proof.Faulty bad) = ⊥
HasBodyWhy lines Unread no_proof.Unread = ⊤
