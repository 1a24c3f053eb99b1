-- What a run says.
use Rattle.std.proofs.Common.{◌≡◌, ℕ, ◌<◌, false, List, [], ◌∷◌, inl, inr, refl, sym, ap, subst, ◌∙◌, Option, Some, None, Ok, Err, IsNone, ◌↔◌, ◌⊎◌, arith}
use Rattle.std.specs.Prelude.{IsSomeAnd}
use Rattle.std.proofs.lemmas.Bool.{false≢true}
use Rattle.std.specs.declared.result.Result.{Result}
use Rattle.betza_text.specs.declared.part.Part.{Part}
use Rattle.betza_text.specs.declared.fault.BetzaFault.{BetzaFault}
use Rattle.betza_text.specs.Word.{Spells}
use Rattle.betza_text.specs.Fault.{fault_text as betza_text}
use Rattle.betza_text.proofs.WordLaws.{word_or_fault, one_word, one_fault, not_both}
use Rattle.betza_compile.specs.Terms.{terms}
use Rattle.io_ports.specs.Cause.{Rose, RoseBy}
use Rattle.io_ports.specs.Files.{Contents, Finds, Found, Read, faults_of}
use Rattle.io_ports.specs.Files as found
use Rattle.io_ports.specs.Lines.{Line}
use Rattle.io_ports.specs.Trace.{faults_in}
use Rattle.rules_model.specs.declared.board.Cell.{Cell}
use Rattle.rules_model.specs.declared.board.Square.{Square}
use Rattle.variant_ini.specs.Section.{Section}
use Rattle.variant_rules.specs.Entries.{entries}
use Rattle.game_play.specs.Played.{Played}
use Rattle.game_text.specs.declared.fault.GameFault.{GameFault}
use Rattle.game_text.specs.Fault as game
use Rattle.game_text.specs.GameText.{game_of}
use Rattle.words.specs.Asked.{Asked}
use Rattle.words.specs.Command.{Command, Uci, Xboard, Moves, Status, Checkers, Perft, Check, SelfMate, HelpMate, CheckCert, Variants, Reach, Generate, RulesOf, Help, Version, Suite, PnMate, Keys}
use Rattle.words.specs.Options.{Text}
use Rattle.one_shot_checks.specs.declared.fault.Fault.{Fault}
use Rattle.one_shot_checks.specs.declared.fault.Fault.TheVariants as fault
use Rattle.variant_rules.specs.declared.fault.FileFault.TheVariants.{Failed}
use Rattle.variant_rules.specs.declared.fault.LoadFault.TheVariants.{File}
use Rattle.one_shots.specs.Commands.{IsOneShot, asks_input, reads_input}
use Rattle.one_shot_checks.specs.Fault.{FaultClass, OfFile, OfInput, class_status, error_line, facts, fault_status, fault_text}
use Rattle.one_shot_checks.specs.Setup.{unplaced_text}
use Rattle.game_text.specs.GameTexts.{moves_of, status_of, perft_of}
use Rattle.checkers.specs.CheckersText.{checkers_of}
use Rattle.one_shot_checks.specs.GameTexts.{self_mate_of, help_mate_of}
use Rattle.one_shot_checks.specs.ReachText.{reach_text}
use Rattle.one_shots.specs.HelpText.{help_text, version_text}
use Rattle.one_shots.specs.Looked.{TellsReads}
use Rattle.one_shots.specs.Statuses.{IsCut, IsDone, IsUnreadable, NamesFile}
use Rattle.one_shots.specs.Sessions.{is_session, to_do}
use Rattle.one_shot_checks.specs.Setup.{Unplaced, setup_of}
use Rattle.one_shots.specs.Shot.{Shot, Says, SaysAsked, SaysCommand, SaysFault, SaysLoaded, SaysOf, SaysReach, reached, faulty_word, faulty_square}
use Rattle.one_shot_checks.specs.Fault.{usage_line}
use Rattle.one_shots.specs.Variants.{AreFirstReads, AreReadsOf, fault_found, fault_in, sections_in}
use Rattle.one_shots.specs.VariantsText.{variants_text}
use Rattle.one_shot_checks.proofs.CertLemmas.{cert_done, cert_once, cert_some}
use Rattle.one_shot_checks.proofs.CheckLemmas.{check_done, check_once, check_some}
use Rattle.one_shots.proofs.FileLemmas.{same_reads, why_unread}
use Rattle.one_shots.proofs.GenerateLemmas.{generate_done, generate_once, generate_some}
use Rattle.one_shots.proofs.KeysLemmas.{keys_done, keys_once, keys_some}
use Rattle.one_shots.proofs.PnMateLemmas.{pn_mate_done, pn_mate_once, pn_mate_some}
use Rattle.one_shots.proofs.RulesLemmas.{rules_done, rules_once, rules_some}
use Rattle.one_shots.proofs.SuiteLemmas.{suite_done, suite_once, suite_some}

-- ---- some answer

-- of `reach`
reach_at : (word square own enemy : List ℕ) (b : List Part) → Spells word b → (o : Result (Square × List (Option Cell)) Unplaced) → setup_of square own enemy ≡ o
    → (status : ℕ) × (text : List ℕ) × SaysReach word square own enemy status text
reach_at word square own enemy b spells (Ok (from, cells)) is = (0, reach_text cells (terms b) from, reached b from cells spells is)
reach_at word square own enemy b spells (Err why) is = (3, error_line (unplaced_text why), faulty_square b why spells is)

reach_some : (word square own enemy : List ℕ) → (status : ℕ) × (text : List ℕ) × SaysReach word square own enemy status text
reach_some word square own enemy =
    elim (word_or_fault word) [
      | inl (b, spells) ↦ reach_at word square own enemy b spells (setup_of square own enemy) refl
      | inr (fault, bad) ↦ (3, error_line (betza_text fault), faulty_word fault bad)
    ]

-- of a command that prints something of a game
game_some : (print : Played → List ℕ) (r : Result Played GameFault) → (status : ℕ) × (text : List ℕ) × SaysOf print r status text
game_some print (Ok g) = (0, print g, (refl, refl))
game_some print (Err fault) = (3, error_line (game.fault_text fault), (refl, refl))

command_some : (sections : List Section) (c : Command) (input : List Line) → is_session c ≡ false → (status : ℕ) × (text : List ℕ) × SaysCommand sections c input status text
command_some sections Uci input one = absurd (false≢true (sym one))
command_some sections Xboard input one = absurd (false≢true (sym one))
command_some sections (Reach word square own enemy) input one = reach_some word square own enemy
command_some sections (Generate name number plies) input one = generate_some sections name number plies
command_some sections (RulesOf name) input one = rules_some sections name
command_some sections Help input one = (0, help_text, (refl, refl))
command_some sections Version input one = (0, version_text, (refl, refl))
command_some sections Suite input one = suite_some (entries sections) input
command_some sections (PnMate moves) input one = pn_mate_some moves (entries sections) input
command_some sections (Keys moves) input one = keys_some moves (entries sections) input
command_some sections Moves input one = game_some moves_of (game_of (entries sections) input)
command_some sections Status input one = game_some status_of (game_of (entries sections) input)
command_some sections Checkers input one = game_some checkers_of (game_of (entries sections) input)
command_some sections (Perft plies) input one = game_some (perft_of plies) (game_of (entries sections) input)
command_some sections Check input one = check_some (entries sections) input
command_some sections (SelfMate moves) input one = game_some (self_mate_of moves) (game_of (entries sections) input)
command_some sections (HelpMate moves) input one = game_some (help_mate_of moves) (game_of (entries sections) input)
command_some sections CheckCert input one = cert_some (entries sections) input
command_some sections Variants input one = (0, variants_text (entries sections), (refl, refl))

loaded_some : (o : Option Fault) (Says : ℕ → List ℕ → Type 0) → (status : ℕ) × (text : List ℕ) × Says status text → (status : ℕ) × (text : List ℕ) × SaysLoaded o Says status text
loaded_some None Says some = some
loaded_some (Some why) Says some = (fault_status why, error_line (fault_text why), (refl, refl))

says_some : (c : Option Asked) (reads : List Read) (input : List Line) → IsOneShot c → (status : ℕ) × (text : List ℕ) × Says c reads input status text
says_some None reads input one = (2, usage_line, (refl, refl))
says_some (Some a) reads input one = loaded_some (fault_in a.variants reads) (SaysCommand (sections_in a.variants reads) a.command input) (command_some (sections_in a.variants reads) a.command input one)

-- words of a one-shot command have some answer
pub shot_some : (words : List Text) (reads : List Read) (input : List Line) → IsOneShot (to_do words) → AreFirstReads (to_do words) reads → (status : ℕ) × (text : List ℕ) × Shot words reads input status text
unfolding Shot
shot_some words reads input one first = let (status, text, says) = says_some (to_do words) reads input one in (status, text, record { asks = first; says = says })

-- ---- answers, by equations

-- an answer as a record, and the other way round
pub says_shot : (words : List Text) (reads : List Read) (input : List Line) (status : ℕ) (text : List ℕ) → AreFirstReads (to_do words) reads → Says (to_do words) reads input status text → Shot words reads input status text
unfolding Shot
says_shot words reads input status text first says = record { asks = first; says = says }

pub shot_says : (words : List Text) (reads : List Read) (input : List Line) (status : ℕ) (text : List ℕ) → Shot words reads input status text → Says (to_do words) reads input status text
unfolding Shot
shot_says words reads input status text shot = shot.says

pub shot_asks : (words : List Text) (reads : List Read) (input : List Line) (status : ℕ) (text : List ℕ) → Shot words reads input status text → AreFirstReads (to_do words) reads
unfolding Shot
shot_asks words reads input status text shot = shot.asks

-- ---- the statuses

reach_done : (word square own enemy : List ℕ) (status : ℕ) (text : List ℕ) → SaysReach word square own enemy status text → (status ≡ 0) ⊎ (status ≡ 3)
reach_done word square own enemy status text (reached b from cells spells is) = inl refl
reach_done word square own enemy status text (faulty_word why bad) = inr refl
reach_done word square own enemy status text (faulty_square b why spells is) = inr refl

game_done : (print : Played → List ℕ) (r : Result Played GameFault) (status : ℕ) (text : List ℕ) → SaysOf print r status text → (status ≡ 0) ⊎ (status ≡ 3)
game_done print (Ok g) status text says = inl says.0
game_done print (Err why) status text says = inr says.0

pub command_done : (sections : List Section) (c : Command) (input : List Line) (status : ℕ) (text : List ℕ) → SaysCommand sections c input status text → (status ≡ 0) ⊎ (status ≡ 3)
command_done sections Uci input status text says = absurd says
command_done sections Xboard input status text says = absurd says
command_done sections (Reach word square own enemy) input status text says = reach_done word square own enemy status text says
command_done sections (Generate name number plies) input status text says = generate_done sections name number plies status text says
command_done sections (RulesOf name) input status text says = rules_done sections name status text says
command_done sections Help input status text says = inl says.0
command_done sections Version input status text says = inl says.0
command_done sections Suite input status text says = suite_done (entries sections) input status text says
command_done sections (PnMate moves) input status text says = pn_mate_done moves (entries sections) input status text says
command_done sections (Keys moves) input status text says = keys_done moves (entries sections) input status text says
command_done sections Moves input status text says = game_done moves_of (game_of (entries sections) input) status text says
command_done sections Status input status text says = game_done status_of (game_of (entries sections) input) status text says
command_done sections Checkers input status text says = game_done checkers_of (game_of (entries sections) input) status text says
command_done sections (Perft plies) input status text says = game_done (perft_of plies) (game_of (entries sections) input) status text says
command_done sections Check input status text says = check_done (entries sections) input status text says
command_done sections (SelfMate moves) input status text says = game_done (self_mate_of moves) (game_of (entries sections) input) status text says
command_done sections (HelpMate moves) input status text says = game_done (help_mate_of moves) (game_of (entries sections) input) status text says
command_done sections CheckCert input status text says = cert_done (entries sections) input status text says
command_done sections Variants input status text says = inl says.0

class_done : (c : FaultClass) → (class_status c ≡ 3) ⊎ (class_status c ≡ 6)
class_done OfInput = inl refl
class_done OfFile = inr refl

loaded_done : (o : Option Fault) (Says : ℕ → List ℕ → Type 0) (status : ℕ) (text : List ℕ) → (Says status text → (status ≡ 0) ⊎ (status ≡ 3)) → SaysLoaded o Says status text
    → (status ≡ 0) ⊎ (status ≡ 3) ⊎ (status ≡ 6)
loaded_done None Says status text so says = elim (so says) [ inl done ↦ inl done | inr done ↦ inr (inl done) ]
loaded_done (Some why) Says status text so says = elim (class_done (facts why).1) [ inl is ↦ inr (inl (says.0 ∙ is)) | inr is ↦ inr (inr (says.0 ∙ is)) ]

asked_done : (a : Asked) (reads : List Read) (input : List Line) (status : ℕ) (text : List ℕ) → SaysAsked a reads input status text → (status ≡ 0) ⊎ (status ≡ 3) ⊎ (status ≡ 6)
asked_done a reads input status text says = loaded_done (fault_in a.variants reads) _ status text (command_done (sections_in a.variants reads) a.command input status text) says

-- what a run says has one of the statuses of a run that was not cut short
pub says_done : (c : Option Asked) (reads : List Read) (input : List Line) (status : ℕ) (text : List ℕ) → Says c reads input status text → IsDone status
says_done None reads input status text says = inr (inl says.0)
says_done (Some a) reads input status text says =
    elim (asked_done a reads input status text says) [ inl done ↦ inl done | inr done ↦ inr (inr done) ]

-- a run that was cut short has none of these statuses
not_cut : (status n : ℕ) → status ≡ n → (n ≡ 4 → ⊥) → (n ≡ 5 → ⊥) → (n ≡ 7 → ⊥) → IsCut status → ⊥
not_cut status n is source sink memory cut = elim cut [
  | inl a ↦ source (sym is ∙ a)
  | inr more ↦ elim more [ inl a ↦ sink (sym is ∙ a) | inr a ↦ memory (sym is ∙ a) ]
]

pub done_whole : (status : ℕ) → IsDone status → IsCut status → ⊥
done_whole status done cut = elim done [
  | inl a ↦ not_cut status 0 a (λ e. absurd (omega (arith, e))) (λ e. absurd (omega (arith, e))) (λ e. absurd (omega (arith, e))) cut
  | inr more ↦ elim more [
    | inl a ↦ not_cut status 2 a (λ e. absurd (omega (arith, e))) (λ e. absurd (omega (arith, e))) (λ e. absurd (omega (arith, e))) cut
    | inr more ↦ elim more [
      | inl a ↦ not_cut status 3 a (λ e. absurd (omega (arith, e))) (λ e. absurd (omega (arith, e))) (λ e. absurd (omega (arith, e))) cut
      | inr a ↦ not_cut status 6 a (λ e. absurd (omega (arith, e))) (λ e. absurd (omega (arith, e))) (λ e. absurd (omega (arith, e))) cut
    ]
  ]
]

-- ---- the usage line

not_usage : (status : ℕ) → (status ≡ 0) ⊎ (status ≡ 3) ⊎ (status ≡ 6) → status ≡ 2 → ⊥
not_usage status done is = elim done [
  | inl a ↦ absurd (omega (arith, a, is))
  | inr more ↦ elim more [ inl a ↦ absurd (omega (arith, a, is)) | inr a ↦ absurd (omega (arith, a, is)) ]
]

-- it is the answer exactly where a run does nothing of what the words ask
pub says_usage : (c : Option Asked) (reads : List Read) (input : List Line) (status : ℕ) (text : List ℕ) → Says c reads input status text → (status ≡ 2) ↔ IsNone c
says_usage None reads input status text says = (λ is. refl, λ none. says.0)
says_usage (Some a) reads input status text says = (λ is. absurd (not_usage status (asked_done a reads input status text says) is), λ none. cc)

-- ---- one answer

-- a board is set up in one way, or not for one reason
set_or_not : (x : Result (Square × List (Option Cell)) Unplaced) (y : Square × List (Option Cell)) (why : Unplaced) → x ≡ Ok y → x ≡ Err why → ⊥
set_or_not x y why p q = cc

one_reason : (x : Result (Square × List (Option Cell)) Unplaced) (why why' : Unplaced) → x ≡ Err why → x ≡ Err why' → why ≡ why'
one_reason x why why' p q = cc

same_setup : (x : Result (Square × List (Option Cell)) Unplaced) (y y' : Square × List (Option Cell)) → x ≡ Ok y → x ≡ Ok y' → y ≡ y'
same_setup x y y' p q = cc

one_text : (x : Result (Square × List (Option Cell)) Unplaced) (b b' : List Part) (from from' : Square) (cells cells' : List (Option Cell)) → b ≡ b' → x ≡ Ok (from, cells) → x ≡ Ok (from', cells')
    → reach_text cells (terms b) from ≡ reach_text cells' (terms b') from'
one_text x b b' from from' cells cells' p q r =
    ap (λ (l : List Part). reach_text cells (terms l) from) p
    ∙ ap (λ (y : Square × List (Option Cell)). reach_text y.1 (terms b') y.0) (same_setup x (from, cells) (from', cells') q r)

-- `reach` has one answer to its arguments
reach_once : (word square own enemy : List ℕ) (s s' : ℕ) (t t' : List ℕ) → SaysReach word square own enemy s t → SaysReach word square own enemy s' t' → (s ≡ s') × (t ≡ t')
reach_once word square own enemy s s' t t' (reached b from cells spells set) (reached b' from' cells' spells' set') =
    (refl, one_text _ b b' from from' cells cells' (one_word word b b' spells spells') set set')
reach_once word square own enemy s s' t t' (reached b from cells spells set) (faulty_word fault bad) = absurd (not_both word b fault spells bad)
reach_once word square own enemy s s' t t' (reached b from cells spells set) (faulty_square b' why spells' set') = absurd (set_or_not _ (from, cells) why set set')
reach_once word square own enemy s s' t t' (faulty_word fault bad) (reached b from cells spells set) = absurd (not_both word b fault spells bad)
reach_once word square own enemy s s' t t' (faulty_word fault bad) (faulty_word fault' bad') = (refl, ap (λ (x : BetzaFault). error_line (betza_text x)) (one_fault word fault fault' bad bad'))
reach_once word square own enemy s s' t t' (faulty_word fault bad) (faulty_square b why spells set) = absurd (not_both word b fault spells bad)
reach_once word square own enemy s s' t t' (faulty_square b why spells set) (reached b' from cells spells' set') = absurd (set_or_not _ (from, cells) why set' set)
reach_once word square own enemy s s' t t' (faulty_square b why spells set) (faulty_word fault bad) = absurd (not_both word b fault spells bad)
reach_once word square own enemy s s' t t' (faulty_square b why spells set) (faulty_square b' why' spells' set') =
    (refl, ap (λ (x : Unplaced). error_line (unplaced_text x)) (one_reason _ why why' set set'))

-- a command that prints something of a game has one answer to its input
game_once : (print : Played → List ℕ) (r : Result Played GameFault) (s s' : ℕ) (t t' : List ℕ) → SaysOf print r s t → SaysOf print r s' t' → (s ≡ s') × (t ≡ t')
game_once print (Ok g) s s' t t' says says' = (says.0 ∙ sym says'.0, says.1 ∙ sym says'.1)
game_once print (Err fault) s s' t t' says says' = (says.0 ∙ sym says'.0, says.1 ∙ sym says'.1)

command_once : (sections : List Section) (c : Command) (input : List Line) (s s' : ℕ) (t t' : List ℕ) → SaysCommand sections c input s t → SaysCommand sections c input s' t' → (s ≡ s') × (t ≡ t')
command_once sections Uci input s s' t t' says says' = absurd says
command_once sections Xboard input s s' t t' says says' = absurd says
command_once sections (Reach word square own enemy) input s s' t t' says says' = reach_once word square own enemy s s' t t' says says'
command_once sections (Generate name number plies) input s s' t t' says says' = generate_once sections name number plies s s' t t' says says'
command_once sections (RulesOf name) input s s' t t' says says' = rules_once sections name s s' t t' says says'
command_once sections Help input s s' t t' says says' = (says.0 ∙ sym says'.0, says.1 ∙ sym says'.1)
command_once sections Version input s s' t t' says says' = (says.0 ∙ sym says'.0, says.1 ∙ sym says'.1)
command_once sections Suite input s s' t t' says says' = suite_once (entries sections) input s s' t t' says says'
command_once sections (PnMate moves) input s s' t t' says says' = pn_mate_once moves (entries sections) input s s' t t' says says'
command_once sections (Keys moves) input s s' t t' says says' = keys_once moves (entries sections) input s s' t t' says says'
command_once sections Moves input s s' t t' says says' = game_once moves_of (game_of (entries sections) input) s s' t t' says says'
command_once sections Status input s s' t t' says says' = game_once status_of (game_of (entries sections) input) s s' t t' says says'
command_once sections Checkers input s s' t t' says says' = game_once checkers_of (game_of (entries sections) input) s s' t t' says says'
command_once sections (Perft plies) input s s' t t' says says' = game_once (perft_of plies) (game_of (entries sections) input) s s' t t' says says'
command_once sections Check input s s' t t' says says' = check_once (entries sections) input s s' t t' says says'
command_once sections (SelfMate moves) input s s' t t' says says' = game_once (self_mate_of moves) (game_of (entries sections) input) s s' t t' says says'
command_once sections (HelpMate moves) input s s' t t' says says' = game_once (help_mate_of moves) (game_of (entries sections) input) s s' t t' says says'
command_once sections CheckCert input s s' t t' says says' = cert_once (entries sections) input s s' t t' says says'
command_once sections Variants input s s' t t' says says' = (says.0 ∙ sym says'.0, says.1 ∙ sym says'.1)

loaded_once : (o : Option Fault) (Says : ℕ → List ℕ → Type 0) (s s' : ℕ) (t t' : List ℕ) → (Says s t → Says s' t' → (s ≡ s') × (t ≡ t')) → SaysLoaded o Says s t → SaysLoaded o Says s' t' → (s ≡ s') × (t ≡ t')
loaded_once None Says s s' t t' once says says' = once says says'
loaded_once (Some why) Says s s' t t' once says says' = (says.0 ∙ sym says'.0, says.1 ∙ sym says'.1)

-- a run has one answer by its reads and its input
pub says_once : (c : Option Asked) (reads : List Read) (input : List Line) (s s' : ℕ) (t t' : List ℕ) → Says c reads input s t → Says c reads input s' t' → (s ≡ s') × (t ≡ t')
says_once None reads input s s' t t' says says' = (says.0 ∙ sym says'.0, says.1 ∙ sym says'.1)
says_once (Some a) reads input s s' t t' says says' = loaded_once (fault_in a.variants reads) _ s s' t t' (command_once (sections_in a.variants reads) a.command input s s' t t') says says'

pub shot_once : (words : List Text) (reads : List Read) (input : List Line) (s s' : ℕ) (t t' : List ℕ) → Shot words reads input s t → Shot words reads input s' t' → (s ≡ s') × (t ≡ t')
unfolding Shot
shot_once words reads input s s' t t' shot shot' = says_once (to_do words) reads input s s' t t' shot.says shot'.says

-- and by the contents of files that do not fail
pub shot_told : (words : List Text) (files : Contents) (reads reads' : List Read) (input : List Line) (s s' : ℕ) (t t' : List ℕ) → TellsReads (Some files) reads → TellsReads (Some files) reads'
    → Shot words reads input s t → Shot words reads' input s' t' → (s ≡ s') × (t ≡ t')
unfolding Shot
shot_told words files reads reads' input s s' t t' tells tells' shot shot' =
    let same = same_reads (to_do words) (Some files) reads reads' shot.asks shot'.asks (λ named. tells) (λ named. tells') in
    says_once (to_do words) reads' input s s' t t' (subst (λ (x : List Read). Says (to_do words) x input s t) same shot.says) shot'.says

-- ---- files that fail

named_failing : (name : Option Text) (reads : List Read) (Says : ℕ → List ℕ → Type 0) (status : ℕ) (text : List ℕ) → 0 < faults_in reads → AreReadsOf name reads → SaysLoaded (fault_in name reads) Says status text
    → SaysFault (fault.Load (File Failed)) status text
named_failing None reads Says status text some are says = let none = ap faults_in are in absurd (omega (arith, some, none))
named_failing (Some name) [] Says status text some are says = absurd are
named_failing (Some name) (x ∷ y ∷ reads) Says status text some are says = absurd are
named_failing (Some name) (x ∷ []) Says status text some are says = go x.found (omega (arith, some)) says
  where
    go : (f : Found) → 0 < faults_of f → SaysLoaded (fault_found f) Says status text → SaysFault (fault.Load (File Failed)) status text
    go (found.Bytes bytes) some says = absurd (omega (arith, some))
    go found.Missing some says = absurd (omega (arith, some))
    go found.TooLarge some says = absurd (omega (arith, some))
    go found.Fault some says = says

-- an answer by a read that failed says so
pub says_failing : (c : Option Asked) (reads : List Read) (input : List Line) (status : ℕ) (text : List ℕ) → 0 < faults_in reads → AreFirstReads c reads → Says c reads input status text
    → SaysFault (fault.Load (File Failed)) status text
says_failing None reads input status text some are says = let none = ap faults_in are in absurd (omega (arith, some, none))
says_failing (Some a) reads input status text some are says = named_failing a.variants reads _ status text some are says

pub shot_failing : (words : List Text) (reads : List Read) (input : List Line) (status : ℕ) (text : List ℕ) → 0 < faults_in reads → Shot words reads input status text → SaysFault (fault.Load (File Failed)) status text
unfolding Shot
shot_failing words reads input status text some shot = says_failing (to_do words) reads input status text some shot.asks shot.says

-- ---- words that read no input

command_without : (sections : List Section) (c : Command) (input input' : List Line) (status : ℕ) (text : List ℕ) → reads_input c ≡ false → SaysCommand sections c input status text
    → SaysCommand sections c input' status text
command_without sections Uci input input' status text reads says = absurd (false≢true (sym reads))
command_without sections Xboard input input' status text reads says = absurd (false≢true (sym reads))
command_without sections (Reach word square own enemy) input input' status text reads says = says
command_without sections (Generate name number plies) input input' status text reads says = says
command_without sections (RulesOf name) input input' status text reads says = says
command_without sections Help input input' status text reads says = says
command_without sections Version input input' status text reads says = says
command_without sections Variants input input' status text reads says = says
command_without sections Moves input input' status text reads says = absurd (false≢true (sym reads))
command_without sections Check input input' status text reads says = absurd (false≢true (sym reads))
command_without sections (SelfMate moves) input input' status text reads says = absurd (false≢true (sym reads))
command_without sections (HelpMate moves) input input' status text reads says = absurd (false≢true (sym reads))
command_without sections CheckCert input input' status text reads says = absurd (false≢true (sym reads))
command_without sections Status input input' status text reads says = absurd (false≢true (sym reads))
command_without sections Checkers input input' status text reads says = absurd (false≢true (sym reads))
command_without sections (Perft plies) input input' status text reads says = absurd (false≢true (sym reads))
command_without sections Suite input input' status text reads says = absurd (false≢true (sym reads))
command_without sections (PnMate moves) input input' status text reads says = absurd (false≢true (sym reads))
command_without sections (Keys moves) input input' status text reads says = absurd (false≢true (sym reads))

loaded_so : (o : Option Fault) (P Q : ℕ → List ℕ → Type 0) (status : ℕ) (text : List ℕ) → (P status text → Q status text) → SaysLoaded o P status text → SaysLoaded o Q status text
loaded_so None P Q status text so says = so says
loaded_so (Some why) P Q status text so says = says

-- the answer of a run that reads no input does not depend on it
pub says_without : (c : Option Asked) (reads : List Read) (input input' : List Line) (status : ℕ) (text : List ℕ) → asks_input c ≡ false → Says c reads input status text → Says c reads input' status text
says_without None reads input input' status text none says = says
says_without (Some a) reads input input' status text none says = loaded_so (fault_in a.variants reads) _ _ status text (command_without (sections_in a.variants reads) a.command input input' status text none) says

-- ---- the statuses of a file that was not read

named_since : (contents : Option Contents) (before now : ℕ) (name : Option Text) (reads : List Read) (Says : ℕ → List ℕ → Type 0) (status : ℕ) (text : List ℕ) → Finds contents reads → RoseBy before now (faults_in reads)
    → AreReadsOf name reads → (Says status text → (status ≡ 0) ⊎ (status ≡ 3)) → SaysLoaded (fault_in name reads) Says status text → status ≡ 6 → IsSomeAnd name (λ n. IsUnreadable contents n ⊎ Rose before now)
named_since contents before now None reads Says status text finds rose are done says six = elim (done says) [ inl is ↦ absurd (omega (arith, is, six)) | inr is ↦ absurd (omega (arith, is, six)) ]
named_since contents before now (Some name) [] Says status text finds rose are done says six = absurd are
named_since contents before now (Some name) (x ∷ y ∷ reads) Says status text finds rose are done says six = absurd are
named_since contents before now (Some name) (x ∷ []) Says status text finds rose are done says six =
    subst (λ (m : Text). IsUnreadable contents m ⊎ Rose before now) are (go (fault_found x.found) refl says)
  where
    go : (o : Option Fault) → fault_found x.found ≡ o → SaysLoaded o Says status text → IsUnreadable contents x.name ⊎ Rose before now
    go None is says = elim (done says) [ inl zero ↦ absurd (omega (arith, zero, six)) | inr three ↦ absurd (omega (arith, three, six)) ]
    go (Some why) is says = elim (why_unread contents x.name x.found why finds is (sym says.0 ∙ six)) [
      | inl unreadable ↦ inl unreadable
      | inr some ↦ let by = rose.rose in inr (omega (arith, by, some))
    ]

-- a run has the status of a file that was not read where it is missing or too large, or the files failed
pub says_since : (contents : Option Contents) (before now : ℕ) (c : Option Asked) (reads : List Read) (input : List Line) (status : ℕ) (text : List ℕ) → Finds contents reads → RoseBy before now (faults_in reads)
    → AreFirstReads c reads → Says c reads input status text → status ≡ 6 → NamesFile c (λ name. IsUnreadable contents name ⊎ Rose before now)
says_since contents before now None reads input status text finds rose are says six = let two = says.0 in absurd (omega (arith, two, six))
says_since contents before now (Some a) reads input status text finds rose are says six =
    named_since contents before now a.variants reads _ status text finds rose are (command_done (sections_in a.variants reads) a.command input status text) says six
