-- What a run has done.
use Rattle.std.proofs.Common.{◌≡◌, ℕ, zero, suc, ◌<◌, ◌≤◌, Bool, true, false, List, [], ◌++◌, length, inl, inr, refl, sym, subst, ◌∙◌, Option, Some, None, Ok, Err, IfOk, IsErr, ◌⊎◌, ◌↔◌, IsNone, arith}
use Rattle.std.proofs.lemmas.Bool.{false≢true}
use Rattle.std.proofs.lemmas.List.{append-nil}
use Rattle.std.specs.declared.result.Result.{Result}
use Rattle.std.specs.Io.KnownBytes.{Appends}
use Rattle.io_ports.specs.Cause.{Rose, RoseBy}
use Rattle.io_ports.specs.Files.{Contents, Finds, Read}
use Rattle.io_ports.specs.Lines.{Line}
use Rattle.io_ports.specs.Sink.{AppendsFront}
use Rattle.io_ports.specs.Source.{Owed}
use Rattle.io_ports.specs.Trace.{Moves, Reads, faults_in}
use Rattle.io_ports.proofs.Moved.{appends_none}
use Rattle.variant_ini.specs.Section.{Section}
use Rattle.words.specs.Asked.{Asked, asked}
use Rattle.words.specs.Command.{Command, Uci, Xboard, Moves as MovesOf, Status, Checkers, Perft, Check, SelfMate, HelpMate, CheckCert, Variants, Reach, Generate, RulesOf, Help, Version, Suite, PnMate, Keys}
use Rattle.words.specs.Options.{Text}
use Rattle.words.specs.View.{asked_seen, command_seen}
use Rattle.one_shots.specs.declared.answers.Answer.{Answer}
use Rattle.one_shot_checks.specs.declared.no_answer.NoAnswer.{NoAnswer}
use Rattle.one_shot_checks.specs.declared.no_answer.NoAnswer.TheVariants as no_answer
use Rattle.one_shots.specs.declared.opening.Opened.{Opened}
use Rattle.one_shot_checks.specs.declared.stop.Stop.{Stop}
use Rattle.one_shot_checks.specs.declared.stop.Stop.TheVariants as stop
use Rattle.one_shots.specs.Commands.{IsOneShot, asks_file, asks_input, lines_asked, lines_needed}
use Rattle.one_shots.specs.OpeningView.{Opens}
use Rattle.one_shots.specs.OutcomeView.{Finishes, OutcomeOf}
use Rattle.game_text.specs.HeardLines.{HeardLines}
use Rattle.game_text.proofs.HeardLemmas.{heard_nothing, heard_so}
use Rattle.session_model.specs.Spoken.{Decide, IsInput}
use Rattle.session_model.specs.Turned.{Further}
use Rattle.variant_rules.specs.Looked.{Looked}
use Rattle.one_shots.specs.Looked.{TellsReads}
use Rattle.commands.specs.Run.{Completes, Did, FilesFailed, HasFileCause, May, OpenedAt, PartBy, PartOf, ShotPart, TellsInput}
use Rattle.one_shots.specs.Statuses.{IsCut, IsDone}
use Rattle.one_shots.specs.Sessions.{is_session, to_do}
use Rattle.one_shots.specs.Shot.{Shot, Says, SaysCommand}
use Rattle.one_shot_checks.specs.StopView.{IsUnread, IsUnsaid}
use Rattle.one_shots.specs.Variants.{AreFirstReads, fault_in, sections_in}
use Rattle.one_shots.proofs.FileLemmas.{no_further, reads_on, same_reads}
use Rattle.one_shots.proofs.HeardLemmas.{settle}
use Rattle.one_shots.proofs.OpeningLemmas.{if_so, loaded_says, refused_first, refused_says}
use Rattle.one_shots.proofs.ShotLemmas.{command_done, done_whole, says_done, says_failing, says_once, says_shot, says_since, says_usage, says_without, shot_asks, shot_says, shot_some}

-- ---- what a run does

pub part_of : (c : Option Asked) (Shots Spoken : Type 0) → IsOneShot c → Shots → PartOf c Shots Spoken
part_of None Shots Spoken one part = part
part_of (Some a) Shots Spoken one part = rw one part

-- a front part of an answer, by what is asked
pub part_by : (c : Option Asked) (Shots Spoken : Type 0) → (IsOneShot c → Shots) → ((a : Asked) → c ≡ Some a → is_session a.command ≡ true → Spoken) → PartOf c Shots Spoken
part_by None Shots Spoken shots spoken = shots tt
part_by (Some a) Shots Spoken shots spoken = go (is_session a.command) refl
  where
    go : (b : Bool) → is_session a.command ≡ b → PartBy b Shots Spoken
    go false is = shots is
    go true is = spoken a refl is

-- ---- the answer of a run

-- What is known of it: some files were read, and there may be others to read where it has no answer; it has one to the lines that were heard.
pub record Answered (contents : Option Contents) (asks : List Read → Type 0) (left left' : Option (List ℕ)) (words : List Text) (r : Result Answer Stop) : Type 0 where
  pub reads : List Read
  pub further : List Read
  pub all : List Read
  pub asked : asks reads
  pub after : Further contents further
  pub all_are : all ≡ reads ++ further
  pub whole : IfOk r (λ answer. all ≡ reads)
  pub first : AreFirstReads (to_do words) all
  pub heard : HeardLines left left' (lines_asked (to_do words) all) (λ lines. IfOk r (λ answer. Says (to_do words) all lines answer.status answer.text))
  pub opened : IsUnread r → OpenedAt (to_do words) reads

loaded_need : (c : Option Asked) (a : Asked) (reads : List Read) → c ≡ Some a → fault_in a.variants reads ≡ None → (lines : List Line) → lines_needed (sections_in a.variants reads) a.command lines ≤ lines_asked c reads lines
loaded_need c a reads is none lines = subst (λ (x : Option Asked). lines_needed (sections_in a.variants reads) a.command lines ≤ lines_asked x reads lines) (sym is) (rw none (omega arith))

if_all : {A : Type 0} {E : Type 0} (r : Result A E) (P : A → Type 0) → ((x : A) → P x) → IfOk r P
if_all (Ok x) P all = all x
if_all (Err why) P all = tt

-- a command was reached
pub reached : (contents : Option Contents) (asks : List Read → Type 0) (left left' : Option (List ℕ)) (words : List Text) (o : Opened) (r : Result Answer Stop)
    → Looked asks (λ reads. Opens (to_do words) reads (Ok o))
    → HeardLines left left' (lines_needed o.sections (command_seen o.asked.command)) (λ lines. IfOk r (λ answer. SaysCommand o.sections (command_seen o.asked.command) lines answer.status answer.text))
    → Answered contents asks left left' words r
reached contents asks left left' words o r looked heard =
    let a = asked_seen o.asked in
    let (is, accepted, are) = looked.holds in
    let here = rw are at heard in
    record {
      reads = looked.reads;
      further = [];
      all = looked.reads;
      asked = looked.asks;
      after = no_further contents;
      all_are = sym (append-nil looked.reads);
      whole = if_all r _ (λ answer. refl);
      first = subst (λ (x : Option Asked). AreFirstReads x looked.reads) (sym is) accepted.0;
      heard = heard_so _ _ _ _ _ _ here (loaded_need (to_do words) a looked.reads is accepted.1)
          (λ lines says. if_so r _ _ (λ answer said. loaded_says (to_do words) a looked.reads is accepted.1 lines answer.status answer.text said) says);
      opened = λ unread. subst (λ (x : Option Asked). OpenedAt x looked.reads) (sym is) (record { first = looked.reads; later = []; reads_are = sym (append-nil looked.reads); accepted = accepted });
    }

-- an outcome without a source is not cut short by it
pub refused_heard : (c : Option Asked) (reads : List Read) (why : NoAnswer) (r : Result Answer Stop) → Opens c reads (Err why) → OutcomeOf (Err why) r → IsUnread r → ⊥
refused_heard c reads why (Ok answer) opens is unread = unread
refused_heard c reads no_answer.Usage (Err stop.Source) opens is unread = cc
refused_heard c reads (no_answer.Fault fault) (Err stop.Source) opens is unread = cc
refused_heard c reads (no_answer.Stop stop.Source) (Err stop.Source) opens is unread = opens
refused_heard c reads (no_answer.Stop stop.Sink) (Err stop.Source) opens is unread = cc
refused_heard c reads (no_answer.Stop stop.Memory) (Err stop.Source) opens is unread = cc
refused_heard c reads why (Err stop.Sink) opens is unread = unread
refused_heard c reads why (Err stop.Memory) opens is unread = unread

-- the reads that were done, or none of them
pub some_reads : (c : Option Asked) (reads : List Read) (why : NoAnswer) → Opens c reads (Err why) → (reads ≡ []) ⊎ AreFirstReads c reads
some_reads c reads no_answer.Usage opens = inl opens.1
some_reads None reads (no_answer.Fault fault) opens = absurd opens
some_reads (Some a) reads (no_answer.Fault fault) opens = inr opens.0
some_reads c reads (no_answer.Stop stop.Source) opens = absurd opens
some_reads c reads (no_answer.Stop stop.Sink) opens = absurd opens
some_reads c reads (no_answer.Stop stop.Memory) opens = opens

pub refused : (contents : Option Contents) (asks : List Read → Type 0) (left : Option (List ℕ)) (words : List Text) (why : NoAnswer) (r : Result Answer Stop)
    → Looked asks (λ reads. Opens (to_do words) reads (Err why)) → OutcomeOf (Err why) r → Answered contents asks left left words r
refused contents asks left words why (Ok answer) looked is = record {
  reads = looked.reads;
  further = [];
  all = looked.reads;
  asked = looked.asks;
  after = no_further contents;
  all_are = sym (append-nil looked.reads);
  whole = refl;
  first = refused_first (to_do words) looked.reads why (Ok answer) answer looked.holds is refl;
  heard = heard_nothing _ _ _ (λ lines. refused_says (to_do words) looked.reads why (Ok answer) lines looked.holds is);
  opened = λ unread. absurd unread;
}
refused contents asks left words why (Err cut) looked is =
    let (further, after, first) = reads_on contents (to_do words) looked.reads (some_reads (to_do words) looked.reads why looked.holds) in
    record {
      reads = looked.reads;
      further = further;
      all = looked.reads ++ further;
      asked = looked.asks;
      after = after;
      all_are = refl;
      whole = tt;
      first = first;
      heard = heard_nothing _ _ _ (λ lines. tt);
      opened = λ unread. absurd (refused_heard (to_do words) looked.reads why (Err cut) looked.holds is unread);
    }

-- ---- the text of it

pub may_shot : (owed : Owed) (words : List Text) (contents : Option Contents) (reads : List Read) (input : List Line) (status : ℕ) (text : List ℕ) → Shot words reads input status text
    → May owed words contents reads input [] status text
unfolding May
may_shot owed words contents reads input status text shot = inl (shot, refl)

pub decide_so : (lines rest : List Line) (P Q : List Line → Type 0) → ((input : List Line) → P input → Q input) → Decide lines rest P → Decide lines rest Q
decide_so lines rest P Q so decided = elim decided [ inl none ↦ inl none | inr holds ↦ inr (λ more. so (lines ++ more) (holds more)) ]

same_input : (left : Option (List ℕ)) (input input' : List Line) → IsInput left input → TellsInput left input' → input ≡ input'
same_input None input input' is told = absurd told
same_input (Some bytes) input input' is told = sym is ∙ told

-- a status of a run that was cut short is none of a run that was not
pub not_done : (status n : ℕ) → status ≡ n → IsCut n → IsDone status → ⊥
not_done status n is cut done = done_whole status done (subst IsCut (sym is) cut)

pub four : IsCut 4
four = inl refl

pub five : IsCut 5
five = inr (inl refl)

pub seven : IsCut 7
seven = inr (inr refl)

module _ (contents : Option Contents) (asks : List Read → Type 0) (left left' : Option (List ℕ)) (words : List Text) where
  -- the answer is one to some input
  says_some : (answer : Answer) → Answered contents asks left left' words (Ok answer) → (reads : List Read) × (input : List Line) × Says (to_do words) reads input answer.status answer.text
  says_some answer answered = let settled = settle left left' _ _ answered.heard in (answered.all, answered.heard.lines ++ settled.rest, settled.holds)

  answer_done : (answer : Answer) → Answered contents asks left left' words (Ok answer) → IsDone answer.status
  answer_done answer answered = let (reads, input, says) = says_some answer answered in says_done (to_do words) reads input answer.status answer.text says

module _ {S K C F : Type 0} {left : S → Option (List ℕ)} {taken : K → Option (List ℕ)} {given : C → Option (List ℕ)} {count last : C → ℕ} {contents : F → Option Contents} {faults : F → ℕ} where
  -- the text of an answer was written
  wrote_all : (s s' : S) (k k' : K) (c : C) (f f' : F) (owed : Owed) (words : List Text) (answer : Answer) (status : ℕ)
      → Answered (contents f) (Reads contents faults f f') (left s) (left s') words (Ok answer) → status ≡ answer.status → Appends (taken k) (taken k') answer.text
      → Did owed (Moves left taken given count last s s' k k' c c) (Reads contents faults f f') (contents f) (left s) words status
  wrote_all s s' k k' c f f' owed words answer status answered is wrote =
      let settled = settle (left s) (left s') _ _ answered.heard in
      let may : (input : List Line) → Says (to_do words) answered.all input answer.status answer.text → May owed words (contents f) answered.all input [] status answer.text =
      λ input says. rw is (may_shot owed words (contents f) answered.all input answer.status answer.text (says_shot words answered.all input answer.status answer.text answered.first says)) in
      record {
        lines = answered.heard.lines;
        rest = settled.rest;
        readings = [];
        reads = answered.all;
        text = answer.text;
        moves = record { took = answered.heard.took; wrote = wrote; clocked = λ below. appends_none (given c); counted = refl; read = refl };
        asks = subst (Reads contents faults f f') (sym answered.whole) answered.asked;
        input = settled.input;
        few = settled.few;
        decided = decide_so answered.heard.lines settled.rest _ _ may settled.decided;
        allowed = may (answered.heard.lines ++ settled.rest) settled.holds;
      }

  pub run_did : (s s' : S) (k k' : K) (c : C) (f f' : F) (owed : Owed) (words : List Text) (before now : ℕ) (r : Result Answer Stop) (status : ℕ)
      → Answered (contents f) (Reads contents faults f f') (left s) (left s') words r → Finishes r (taken k) (taken k') before now status → IsDone status
      → Did owed (Moves left taken given count last s s' k k' c c) (Reads contents faults f f') (contents f) (left s) words status
  run_did s s' k k' c f f' owed words before now (Ok answer) status answered (inl wrote) done = wrote_all s s' k k' c f f' owed words answer status answered wrote.0 wrote.1
  run_did s s' k k' c f f' owed words before now (Ok answer) status answered (inr failed) done = absurd (not_done status 5 failed.0 five done)
  run_did s s' k k' c f f' owed words before now (Err stop.Source) status answered wrote done = absurd (not_done status 4 wrote.0 four done)
  run_did s s' k k' c f f' owed words before now (Err stop.Sink) status answered wrote done = absurd (not_done status 5 wrote.0 five done)
  run_did s s' k k' c f f' owed words before now (Err stop.Memory) status answered wrote done = absurd (not_done status 7 wrote.0 seven done)

  -- a front part of it was
  wrote_part : (s s' : S) (k k' : K) (c : C) (f f' : F) (words : List Text) (answer : Answer) (result : ℕ) → result ≡ 5 → Answered (contents f) (Reads contents faults f f') (left s) (left s') words (Ok answer)
      → AppendsFront (taken k) (taken k') answer.text → ShotPart (Moves left taken given count last s s' k k' c c) (Reads contents faults f f') (contents f) (left s) words result
  wrote_part s s' k k' c f f' words answer result five_is answered wrote =
      let settled = settle (left s) (left s') _ _ answered.heard in
      let shot : (input : List Line) → Says (to_do words) answered.all input answer.status answer.text → Shot words (answered.reads ++ answered.further) input answer.status (wrote.front ++ wrote.back) =
      λ input says.
      subst (λ (x : List Read). Shot words x input answer.status (wrote.front ++ wrote.back)) answered.all_are
      (subst (λ (x : List ℕ). Shot words answered.all input answer.status x) wrote.whole (says_shot words answered.all input answer.status answer.text answered.first says)) in
      record {
        lines = answered.heard.lines;
        rest = settled.rest;
        reads = answered.reads;
        further = answered.further;
        written = wrote.front;
        back = wrote.back;
        status = answer.status;
        moves = record { took = answered.heard.took; wrote = wrote.took; clocked = λ below. appends_none (given c); counted = refl; read = refl };
        asks = answered.asked;
        after = answered.after;
        input = settled.input;
        few = subst (λ (x : List Read). length answered.heard.lines ≤ lines_asked (to_do words) x (answered.heard.lines ++ settled.rest)) answered.all_are settled.few;
        decided = inr (decide_so answered.heard.lines settled.rest _ _ shot settled.decided);
        allowed = shot (answered.heard.lines ++ settled.rest) settled.holds;
        opened = λ four_is. absurd (omega (arith, four_is, five_is));
      }

  -- nothing was
  wrote_none : (s s' : S) (k k' : K) (c : C) (f f' : F) (words : List Text) (r : Result Answer Stop) (result : ℕ) → IsOneShot (to_do words) → (answered : Answered (contents f) (Reads contents faults f f') (left s) (left s') words r)
      → Appends (taken k) (taken k') [] → (result ≡ 4 → IsUnread r) → ShotPart (Moves left taken given count last s s' k k' c c) (Reads contents faults f f') (contents f) (left s) words result
  wrote_none s s' k k' c f f' words r result one answered wrote unread =
      let settled = settle (left s) (left s') _ _ answered.heard in
      let (status, text, says) = shot_some words answered.all (answered.heard.lines ++ settled.rest) one answered.first in
      record {
        lines = answered.heard.lines;
        rest = settled.rest;
        reads = answered.reads;
        further = answered.further;
        written = [];
        back = text;
        status = status;
        moves = record { took = answered.heard.took; wrote = wrote; clocked = λ below. appends_none (given c); counted = refl; read = refl };
        asks = answered.asked;
        after = answered.after;
        input = settled.input;
        few = subst (λ (x : List Read). length answered.heard.lines ≤ lines_asked (to_do words) x (answered.heard.lines ++ settled.rest)) answered.all_are settled.few;
        decided = inl refl;
        allowed = subst (λ (x : List Read). Shot words x (answered.heard.lines ++ settled.rest) status text) answered.all_are says;
        opened = λ four_is. answered.opened (unread four_is);
      }

  pub run_part : (s s' : S) (k k' : K) (c : C) (f f' : F) (words : List Text) (before now : ℕ) (r : Result Answer Stop) (status : ℕ)
      → IsOneShot (to_do words) → Answered (contents f) (Reads contents faults f f') (left s) (left s') words r → Finishes r (taken k) (taken k') before now status → IsCut status
      → ShotPart (Moves left taken given count last s s' k k' c c) (Reads contents faults f f') (contents f) (left s) words status
  run_part s s' k k' c f f' words before now (Ok answer) status one answered (inl wrote) cut =
      absurd (done_whole status (subst IsDone (sym wrote.0) (answer_done (contents f) (Reads contents faults f f') (left s) (left s') words answer answered)) cut)
  run_part s s' k k' c f f' words before now (Ok answer) status one answered (inr failed) cut = wrote_part s s' k k' c f f' words answer status failed.0 answered failed.1
  run_part s s' k k' c f f' words before now (Err stop.Source) status one answered wrote cut = wrote_none s s' k k' c f f' words (Err stop.Source) status one answered wrote.1 (λ is. tt)
  run_part s s' k k' c f f' words before now (Err stop.Sink) status one answered wrote cut = wrote_none s s' k k' c f f' words (Err stop.Sink) status one answered wrote.1 (λ is. let five_is = wrote.0 in absurd (omega (arith, five_is, is)))
  run_part s s' k k' c f f' words before now (Err stop.Memory) status one answered wrote cut = wrote_none s s' k k' c f f' words (Err stop.Memory) status one answered wrote.1 (λ is. let seven_is = wrote.0 in absurd (omega (arith, seven_is, is)))

-- reads that found what the files tell, without a fault, are told
pub tells_found : (contents : Option Contents) (reads reads' : List Read) → Finds contents reads → faults_in reads ≡ 0 → TellsReads contents reads' → TellsReads contents reads
tells_found None reads reads' finds works told = told
tells_found (Some files) reads reads' finds works told = (finds, works)

-- a session has no text
pub session_says : (sections : List Section) (c : Command) → is_session c ≡ true → (lines : List Line) (status : ℕ) (text : List ℕ) → SaysCommand sections c lines status text → ⊥
session_says sections Uci is lines status text says = says
session_says sections Xboard is lines status text says = says
session_says sections MovesOf is lines status text says = absurd (false≢true is)
session_says sections Status is lines status text says = absurd (false≢true is)
session_says sections Checkers is lines status text says = absurd (false≢true is)
session_says sections (Perft plies) is lines status text says = absurd (false≢true is)
session_says sections Check is lines status text says = absurd (false≢true is)
session_says sections (SelfMate moves) is lines status text says = absurd (false≢true is)
session_says sections (HelpMate moves) is lines status text says = absurd (false≢true is)
session_says sections CheckCert is lines status text says = absurd (false≢true is)
session_says sections Variants is lines status text says = absurd (false≢true is)
session_says sections (Reach word square own enemy) is lines status text says = absurd (false≢true is)
session_says sections (Generate name number plies) is lines status text says = absurd (false≢true is)
session_says sections (RulesOf name) is lines status text says = absurd (false≢true is)
session_says sections Help is lines status text says = absurd (false≢true is)
session_says sections Version is lines status text says = absurd (false≢true is)
session_says sections Suite is lines status text says = absurd (false≢true is)
session_says sections (PnMate moves) is lines status text says = absurd (false≢true is)
session_says sections (Keys moves) is lines status text says = absurd (false≢true is)

-- ---- the status

-- it is that of the answer, or of a run that was cut short
pub ends : (r : Result Answer Stop) (old new : Option (List ℕ)) (before now status : ℕ) → Finishes r old new before now status → ((answer : Answer) × (r ≡ Ok answer) × (status ≡ answer.status)) ⊎ IsCut status
ends (Ok answer) old new before now status (inl wrote) = inl (answer, refl, wrote.0)
ends (Ok answer) old new before now status (inr failed) = inr (inr (inl failed.0))
ends (Err stop.Source) old new before now status wrote = inr (inl wrote.0)
ends (Err stop.Sink) old new before now status wrote = inr (inr (inl wrote.0))
ends (Err stop.Memory) old new before now status wrote = inr (inr (inr wrote.0))

module _ (contents : Option Contents) (asks : List Read → Type 0) (left left' : Option (List ℕ)) (words : List Text) (r : Result Answer Stop) (answered : Answered contents asks left left' words r)
    (old new : Option (List ℕ)) (sank sinks status : ℕ) (finishes : Finishes r old new sank sinks status) where
  at_ok : (answer : Answer) → r ≡ Ok answer → Answered contents asks left left' words (Ok answer)
  at_ok answer is = subst (λ (x : Result Answer Stop). Answered contents asks left left' words x) is answered

  pub run_statuses : IsDone status ⊎ IsCut status
  run_statuses = elim (ends r old new sank sinks status finishes) [
    | inl (answer, is, same) ↦ inl (subst IsDone (sym same) (answer_done contents asks left left' words answer (at_ok answer is)))
    | inr cut ↦ inr cut
  ]

  pub run_usage : IsCut status ⊎ ((status ≡ 2) ↔ IsNone (to_do words))
  run_usage = elim (ends r old new sank sinks status finishes) [
    | inl (answer, is, same) ↦
        let (reads, input, says) = says_some contents asks left left' words answer (at_ok answer is) in
        inr (subst (λ (n : ℕ). (n ≡ 2) ↔ IsNone (to_do words)) (sym same) (says_usage (to_do words) reads input answer.status answer.text says))
    | inr cut ↦ inl cut
  ]

  -- the answer to the input that is told, or not read
  says_at : (answer : Answer) (reads : List Read) (input : List Line) → (asks_input (to_do words) ≡ true → TellsInput left input) → (lines : List Line) → IsInput left lines
      → Says (to_do words) reads lines answer.status answer.text → Says (to_do words) reads input answer.status answer.text
  says_at answer reads input told lines is says = go (asks_input (to_do words)) refl
    where
      go : (b : Bool) → asks_input (to_do words) ≡ b → Says (to_do words) reads input answer.status answer.text
      go true asks_it = subst (λ (x : List Line). Says (to_do words) reads x answer.status answer.text) (same_input left lines input is (told asks_it)) says
      go false asks_none = says_without (to_do words) reads lines input answer.status answer.text asks_none says

  module _ (before now : ℕ) (rose : (reads : List Read) → asks reads → RoseBy before now (faults_in reads)) (found : (reads : List Read) → asks reads → Finds contents reads) where
    tells : (reads reads' : List Read) → asks reads → faults_in reads ≡ 0 → TellsReads contents reads' → TellsReads contents reads
    tells reads reads' asked works told = tells_found contents reads reads' (found reads asked) works told

    answer_complete : (answer : Answer) → Answered contents asks left left' words (Ok answer) → Completes contents left words (FilesFailed before now) answer.status
    answer_complete answer a reads input s t tells_files tells_input shot = go (faults_in a.reads) refl
      where
        go : (n : ℕ) → faults_in a.reads ≡ n → (answer.status ≡ s) ⊎ IsCut answer.status ⊎ FilesFailed before now answer.status
        go zero works =
            let settled = settle left left' _ _ a.heard in
            let here = says_at answer a.all input tells_input (a.heard.lines ++ settled.rest) settled.input settled.holds in
            let told : asks_file (to_do words) ≡ true → TellsReads contents a.all = λ named. rw a.whole (tells a.reads reads a.asked works (tells_files named)) in
            let same = same_reads (to_do words) contents a.all reads a.first (shot_asks words reads input s t shot) told tells_files in
            inl (says_once (to_do words) a.all input answer.status s answer.text t here (subst (λ (x : List Read). Says (to_do words) x input s t) (sym same) (shot_says words reads input s t shot))).0
        go (suc n) fails =
            let settled = settle left left' _ _ a.heard in
            let some : 0 < faults_in a.all = rw a.whole (omega (arith, fails)) in
            let says = says_failing (to_do words) a.all (a.heard.lines ++ settled.rest) answer.status answer.text some a.first settled.holds in
            let by = (rose a.reads a.asked).rose in
            inr (inr (says.0, omega (arith, by, fails)))

    pub run_complete : Completes contents left words (FilesFailed before now) status
    run_complete reads input s t tells_files tells_input shot = elim (ends r old new sank sinks status finishes) [
      | inl (answer, is, same) ↦
          subst (λ (n : ℕ). (n ≡ s) ⊎ IsCut n ⊎ FilesFailed before now n) (sym same) (answer_complete answer (at_ok answer is) reads input s t tells_files tells_input shot)
      | inr cut ↦ inr (inl cut)
    ]

    pub run_unread : status ≡ 6 → HasFileCause contents before now words
    run_unread six = elim (ends r old new sank sinks status finishes) [
      | inl (answer, is, same) ↦
          let a = at_ok answer is in
          let settled = settle left left' _ _ a.heard in
          says_since contents before now (to_do words) a.all (a.heard.lines ++ settled.rest) answer.status answer.text (rw a.whole (found a.reads a.asked)) (rw a.whole (rose a.reads a.asked)) a.first settled.holds (sym same ∙ six)
      | inr cut ↦ absurd (done_whole status (inr (inr (inr six))) cut)
    ]

-- ---- its causes

pub source_failed : (r : Result Answer Stop) (old new : Option (List ℕ)) (before now status : ℕ) → Finishes r old new before now status → IfOk r (λ answer. IsDone answer.status) → status ≡ 4 → IsUnread r
source_failed (Ok answer) old new before now status (inl wrote) done is = absurd (not_done answer.status 4 (sym wrote.0 ∙ is) four done)
source_failed (Ok answer) old new before now status (inr failed) done is = let five_is = failed.0 in absurd (omega (arith, five_is, is))
source_failed (Err stop.Source) old new before now status wrote done is = tt
source_failed (Err stop.Sink) old new before now status wrote done is = let five_is = wrote.0 in absurd (omega (arith, five_is, is))
source_failed (Err stop.Memory) old new before now status wrote done is = let seven_is = wrote.0 in absurd (omega (arith, seven_is, is))

pub sink_failed : (r : Result Answer Stop) (old new : Option (List ℕ)) (before now status : ℕ) → Finishes r old new before now status → IfOk r (λ answer. IsDone answer.status) → (IsUnsaid r → ⊥) → status ≡ 5
    → Rose before now
sink_failed (Ok answer) old new before now status (inl wrote) done said is = absurd (not_done answer.status 5 (sym wrote.0 ∙ is) five done)
sink_failed (Ok answer) old new before now status (inr failed) done said is = failed.2
sink_failed (Err stop.Source) old new before now status wrote done said is = let four_is = wrote.0 in absurd (omega (arith, four_is, is))
sink_failed (Err stop.Sink) old new before now status wrote done said is = absurd (said tt)
sink_failed (Err stop.Memory) old new before now status wrote done said is = let seven_is = wrote.0 in absurd (omega (arith, seven_is, is))

pub is_err : (r : Result Answer Stop) → IsUnread r → IsErr r
is_err (Ok answer) unread = absurd unread
is_err (Err why) unread = cc

pub ok_done : (contents : Option Contents) (asks : List Read → Type 0) (left left' : Option (List ℕ)) (words : List Text) (r : Result Answer Stop) → Answered contents asks left left' words r → IfOk r (λ answer. IsDone answer.status)
ok_done contents asks left left' words (Ok answer) answered = answer_done contents asks left left' words answer answered
ok_done contents asks left left' words (Err why) answered = tt

-- a command has not the status of a file that was not read
pub not_six : (r : Result Answer Stop) (sections : List Section) (c : Command) (left left' : Option (List ℕ)) (needed : List Line → ℕ) (old new : Option (List ℕ)) (before now status : ℕ)
    → HeardLines left left' needed (λ lines. IfOk r (λ answer. SaysCommand sections c lines answer.status answer.text)) → Finishes r old new before now status → status ≡ 6 → ⊥
not_six (Ok answer) sections c left left' needed old new before now status heard (inl wrote) six =
    let settled = settle left left' _ _ heard in
    let same = wrote.0 in
    elim (command_done sections c (heard.lines ++ settled.rest) answer.status answer.text settled.holds) [ inl is ↦ absurd (omega (arith, is, same, six)) | inr is ↦ absurd (omega (arith, is, same, six)) ]
not_six (Ok answer) sections c left left' needed old new before now status heard (inr failed) six = let is = failed.0 in absurd (omega (arith, is, six))
not_six (Err stop.Source) sections c left left' needed old new before now status heard wrote six = let is = wrote.0 in absurd (omega (arith, is, six))
not_six (Err stop.Sink) sections c left left' needed old new before now status heard wrote six = let is = wrote.0 in absurd (omega (arith, is, six))
not_six (Err stop.Memory) sections c left left' needed old new before now status heard wrote six = let is = wrote.0 in absurd (omega (arith, is, six))

-- nor by the sink
pub refused_said : (c : Option Asked) (reads : List Read) (why : NoAnswer) (r : Result Answer Stop) → Opens c reads (Err why) → OutcomeOf (Err why) r → IsUnsaid r → ⊥
refused_said c reads why (Ok answer) opens is unsaid = unsaid
refused_said c reads why (Err stop.Source) opens is unsaid = unsaid
refused_said c reads no_answer.Usage (Err stop.Sink) opens is unsaid = cc
refused_said c reads (no_answer.Fault fault) (Err stop.Sink) opens is unsaid = cc
refused_said c reads (no_answer.Stop stop.Source) (Err stop.Sink) opens is unsaid = cc
refused_said c reads (no_answer.Stop stop.Sink) (Err stop.Sink) opens is unsaid = opens
refused_said c reads (no_answer.Stop stop.Memory) (Err stop.Sink) opens is unsaid = cc
refused_said c reads why (Err stop.Memory) opens is unsaid = unsaid
