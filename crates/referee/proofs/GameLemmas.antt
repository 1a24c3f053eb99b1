-- A game that is kept is the one that is said.
use Rattle.std.proofs.Common.{◌≡◌, ℕ, List, inl, inr, subst, Option, Some, Ok, Err, IfOk}
use Rattle.std.specs.declared.result.Result.{Result}
use Rattle.io_ports.specs.Files.{Read}
use Rattle.io_ports.specs.Lines.{Line}
use Rattle.variant_ini.specs.Section.{Section}
use Rattle.variant_rules.specs.Entries.{entries}
use Rattle.game_play.specs.Played.{Played}
use Rattle.game_text.specs.GameText.{game_of}
use Rattle.game_text.specs.ReadView.{NoGame, Plays}
use Rattle.game_text.specs.declared.fault.GameFault.{GameFault}
use Rattle.game_text.specs.declared.unmade.Unmade.TheVariants as no_game
use Rattle.one_shot_checks.specs.NoAnswerView.{game_no_answer}
use Rattle.one_shot_checks.specs.declared.no_answer.NoAnswer.{NoAnswer}
use Rattle.one_shot_checks.specs.declared.no_answer.NoAnswer.TheVariants as no_answer
use Rattle.one_shot_checks.specs.declared.stop.Stop.{Stop}
use Rattle.one_shots.specs.declared.answers.Answer.{Answer}
use Rattle.one_shots.specs.GameView.{IsGameFault, SaysGame}
use Rattle.one_shots.specs.Looked.{TellsReads}
use Rattle.one_shots.specs.OpeningView.{HasSections}
use Rattle.one_shots.specs.OutcomeView.{OutcomeOf}
use Rattle.variant_rules.specs.Looked.{Looked}
use Rattle.words.specs.Options.{Text}
use Rattle.referee.specs.Games.{Begins, HasGiven, IsRefused, MovesOn, SaysBegun, SaysInput, name_of}
use Rattle.referee.specs.Refereed.{all_have}

-- ---- the sections

pub given_so : (file : Option (List ℕ)) (name : Option Text) (given : Result (List Section) NoAnswer) (asks : List Read → Type 0) → name ≡ name_of file
    → ((reads : List Read) → asks reads → TellsReads (Some (all_have file)) reads) → Looked asks (λ reads. HasSections name reads given) → HasGiven file given
given_so file name given asks is told looked =
    record { reads = looked.reads; told = told looked.reads looked.asks; has = subst (λ (n : Option Text). HasSections n looked.reads given) is looked.holds }

-- ---- what is begun

-- where the file is taken
taken_says : (name : Option Text) (reads : List Read) (lines : List Line) (sections : List Section) (given : Result Played NoAnswer) → HasSections name reads (Ok sections)
    → SaysGame (game_of (entries sections) lines) given → SaysBegun name reads lines given
taken_says name reads lines sections (Ok g) has says = (has.0, subst (λ (s : List Section). game_of (entries s) lines ≡ Ok g) has.1 says)
taken_says name reads lines sections (Err no_answer.Usage) has says = absurd says
taken_says name reads lines sections (Err (no_answer.Fault fault)) has says = inr (has.0, subst (λ (s : List Section). IsGameFault (game_of (entries s) lines) fault) has.1 says)
taken_says name reads lines sections (Err (no_answer.Stop why)) has says = tt

pub taken_begins : (file : Option (List ℕ)) (input : List ℕ) (sections : List Section) (given : Result Played NoAnswer) → HasGiven file (Ok sections) → SaysInput sections input given
    → Begins file input given
taken_begins file input sections given has says =
    record { reads = has.reads; told = has.told; says = taken_says (name_of file) has.reads _ sections given has.has says }

-- where it is not
untaken_says : (name : Option Text) (reads : List Read) (lines : List Line) (why : NoAnswer) → HasSections name reads (Err why) → SaysBegun name reads lines (Err why)
untaken_says name reads lines no_answer.Usage has = absurd has
untaken_says name reads lines (no_answer.Fault fault) has = inl has
untaken_says name reads lines (no_answer.Stop why) has = tt

pub untaken_begins : (file : Option (List ℕ)) (input : List ℕ) (why : NoAnswer) → HasGiven file (Err why) → Begins file input (Err why)
untaken_begins file input why has =
    record { reads = has.reads; told = has.told; says = untaken_says (name_of file) has.reads _ why has.has }

-- ---- the answers

-- to a game that is not begun
pub refused_begins : (file : Option (List ℕ)) (input : List ℕ) (why : NoAnswer) (r : Result Answer Stop) → Begins file input (Err why) → OutcomeOf (Err why) r → IfOk r (λ answer. IsRefused file input answer)
refused_begins file input why (Err cut) begins is = tt
refused_begins file input no_answer.Usage (Ok answer) begins is = absurd begins.says
refused_begins file input (no_answer.Fault fault) (Ok answer) begins is = record { fault = fault; begins = begins; tells = is }
refused_begins file input (no_answer.Stop why) (Ok answer) begins is = absurd is

-- to a move that is not played
pub unplayed_so : (said : Result Played GameFault) (old new : Played) (why : NoGame) (r : Result Answer Stop) → Plays {A = Unit {0}} said new (Err why) → new ≡ old → OutcomeOf (Err (game_no_answer why)) r
    → IfOk r (λ answer. MovesOn said old new (Some answer))
unplayed_so said old new why (Err cut) plays same is = tt
unplayed_so said old new (no_game.Faulty fault) (Ok answer) plays same is = (record { why = fault; has = plays; tells = is }, same)
unplayed_so said old new no_game.Unread (Ok answer) plays same is = absurd plays
unplayed_so said old new no_game.Memory (Ok answer) plays same is = absurd is
