-- A text line by line.
use Rattle.std.proofs.Common.{◌≡◌, ℕ, ◌<◌, nat_lt, Bool, true, false, List, [], ◌∷◌, Ok, Err, length, map, if◌then◌else◌, refl, sym, ap, ◌∙◌, arith}
use Rattle.std.specs.Prelude.{Result, MatchResult}
use Rattle.std.specs.Io.BufRead.{take_through, drop_through}
use Rattle.std.proofs.lemmas.Bool.{lt-ltb, ltb-true}
use Rattle.io_ports.specs.declared.line.TheConstants.{MAX_LINE}
use Rattle.io_ports.specs.Lines.{Line, Text, TooLong, line_feed, line_of, lines_of, text_of}
use Rattle.io_ports.proofs.Pieces.{pieces_of-some}
use Rattle.rules_model.specs.declared.rules.Rules.{Rules}
use Rattle.strategy.specs.declared.fault.StrategyFault.{StrategyFault}
use Rattle.strategy.specs.declared.fault.StrategyFault.TheVariants.{Header, BadLine, BadPosition, BadMove, BadNumber, Ended, Memory}
use Rattle.strategy.specs.declared.nodes.Strategy.{Strategy}
use Rattle.strategy.specs.declared.reader.Reader.{Reader}
use Rattle.strategy.specs.Fault.{IsFaultOrMemory}
use Rattle.strategy.specs.Reading.{◌>>=◌, begun, finished, long_fault, step, strategy_of, taken, with_text}

-- ---- a line

long_step : (rules : Rules) (b : Reader) (text : List ℕ) → nat_lt 2048 (length text) ≡ true → step rules b TooLong ≡ step rules b (Text text)
unfolding step with_text
long_step rules b text long = rw long refl

line_if : (rules : Rules) (b : Reader) (text : List ℕ) (t : Bool) → nat_lt MAX_LINE (length text) ≡ t → step rules b (if t then TooLong else Text text) ≡ step rules b (Text text)
line_if rules b text false is = refl
line_if rules b text true is =
    let above : 131072 < length text = ltb-true MAX_LINE (length text) is in
    long_step rules b text (lt-ltb 2048 (length text) (omega (arith, above)))

line_step : (rules : Rules) (b : Reader) (piece : List ℕ) → step rules b (line_of piece) ≡ step rules b (Text (text_of piece))
line_step rules b piece = line_if rules b (text_of piece) (nat_lt MAX_LINE (length (text_of piece))) refl

-- a line that is too long
pub step-long : (rules : Rules) (b : Reader) → step rules b TooLong ≡ Err (long_fault b)
unfolding step
step-long rules b = refl

abbrev takes_rest : Rules → List Line → Reader → Result Reader StrategyFault
takes_rest rules lines next = taken rules next lines

-- ---- lines

pub taken-none : (rules : Rules) (b : Reader) → taken rules b (lines_of []) ≡ Ok b
unfolding taken
taken-none rules b = refl

pub taken-cons : (rules : Rules) (b : Reader) (line : Line) (lines : List Line) → taken rules b (line ∷ lines) ≡ (step rules b line >>= takes_rest rules lines)
unfolding taken
taken-cons rules b line lines = refl

taken-text : (rules : Rules) (b : Reader) (rest line after : List ℕ) → 0 < length rest → line ≡ text_of (take_through line_feed rest) → after ≡ drop_through line_feed rest
    → taken rules b (lines_of rest) ≡ (step rules b (Text line) >>= takes_rest rules (lines_of after))
taken-text rules b rest line after some first others =
    ap (λ pieces. taken rules b (map line_of pieces)) (pieces_of-some rest some)
    ∙ taken-cons rules b (line_of (take_through line_feed rest)) (lines_of (drop_through line_feed rest))
    ∙ ap (λ r. r >>= takes_rest rules (lines_of (drop_through line_feed rest))) (line_step rules b (take_through line_feed rest))
    ∙ ap (λ t. step rules b (Text t) >>= takes_rest rules (lines_of (drop_through line_feed rest))) (sym first)
    ∙ ap (λ t. step rules b (Text line) >>= takes_rest rules (lines_of t)) (sym others)

-- what the whole text says, by what the lines so far say
abbrev pub StandsAt : Rules → List ℕ → Reader → List ℕ → Type 0
StandsAt rules text b rest = strategy_of rules (lines_of text) ≡ (taken rules b (lines_of rest) >>= finished)

pub stands-first : (rules : Rules) (text : List ℕ) (b : Reader) → b ≡ begun → StandsAt rules text b text
unfolding strategy_of
stands-first rules text b first = ap (λ r. taken rules r (lines_of text) >>= finished) (sym first)

pub stands-next : (rules : Rules) (text : List ℕ) (b next : Reader) (rest line after : List ℕ) → StandsAt rules text b rest → 0 < length rest
    → line ≡ text_of (take_through line_feed rest) → after ≡ drop_through line_feed rest → step rules b (Text line) ≡ Ok next → StandsAt rules text next after
stands-next rules text b next rest line after stands some first others took =
    stands
    ∙ ap (λ r. r >>= finished) (taken-text rules b rest line after some first others)
    ∙ ap (λ r. (r >>= takes_rest rules (lines_of after)) >>= finished) took

-- the fault of the line is the answer
fault_first : (rules : Rules) (text : List ℕ) (b : Reader) (rest line after : List ℕ) (fault : StrategyFault) → StandsAt rules text b rest → 0 < length rest
    → line ≡ text_of (take_through line_feed rest) → after ≡ drop_through line_feed rest → step rules b (Text line) ≡ Err fault → strategy_of rules (lines_of text) ≡ Err fault
fault_first rules text b rest line after fault stands some first others faulty =
    stands
    ∙ ap (λ r. r >>= finished) (taken-text rules b rest line after some first others)
    ∙ ap (λ r. (r >>= takes_rest rules (lines_of after)) >>= finished) faulty

-- where one fault is the other, so are the errors
pub fault-so : {A B : Type 0} (r : Result A StrategyFault) (s : Result B StrategyFault) → ((e : StrategyFault) → r ≡ Err e → s ≡ Err e) → (e : StrategyFault) → IsFaultOrMemory r e → IsFaultOrMemory s e
fault-so r s f Memory h = h
fault-so r s f (Header line) h = f (Header line) h
fault-so r s f (BadLine line) h = f (BadLine line) h
fault-so r s f (BadPosition line why) h = f (BadPosition line why) h
fault-so r s f (BadMove line) h = f (BadMove line) h
fault-so r s f (BadNumber line) h = f (BadNumber line) h
fault-so r s f (Ended line) h = f (Ended line) h

pub stands-fault : (rules : Rules) (text : List ℕ) (b : Reader) (rest line after : List ℕ) (fault : StrategyFault) → StandsAt rules text b rest → 0 < length rest
    → line ≡ text_of (take_through line_feed rest) → after ≡ drop_through line_feed rest → IsFaultOrMemory (step rules b (Text line)) fault → IsFaultOrMemory (strategy_of rules (lines_of text)) fault
stands-fault rules text b rest line after fault stands some first others faulty =
    fault-so (step rules b (Text line)) (strategy_of rules (lines_of text))
    (λ e is. fault_first rules text b rest line after e stands some first others is) fault faulty

pub fault-is : {A : Type 0} (r : Result A StrategyFault) (e : StrategyFault) → r ≡ Err e → IsFaultOrMemory r e
fault-is r Memory is = tt
fault-is r (Header line) is = is
fault-is r (BadLine line) is = is
fault-is r (BadPosition line why) is = is
fault-is r (BadMove line) is = is
fault-is r (BadNumber line) is = is
fault-is r (Ended line) is = is

answered : (said answer : Result Strategy StrategyFault) → said ≡ answer → MatchResult answer (λ s. said ≡ Ok s) (IsFaultOrMemory said)
answered said (Ok s) is = is
answered said (Err fault) is = fault-is said fault is

pub stands-last : (rules : Rules) (text : List ℕ) (b : Reader) (rest : List ℕ) (answer : Result Strategy StrategyFault) → StandsAt rules text b rest → rest ≡ [] → answer ≡ finished b
    → MatchResult answer (λ s. strategy_of rules (lines_of text) ≡ Ok s) (IsFaultOrMemory (strategy_of rules (lines_of text)))
stands-last rules text b rest answer stands none is =
    answered (strategy_of rules (lines_of text)) answer
    (stands ∙ ap (λ t. taken rules b (lines_of t) >>= finished) none ∙ ap (λ r. r >>= finished) (taken-none rules b) ∙ sym is)
