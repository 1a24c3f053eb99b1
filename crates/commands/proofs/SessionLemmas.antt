-- What a run leaves whose words ask for a session.
use Rattle.std.proofs.Common.{◌≡◌, ℕ, ◌+◌, ◌≤◌, true, List, [], ◌∷◌, ◌++◌, append_assoc, length, inl, inr, refl, sym, ap, subst, ◌∙◌, Option, Some, None, Ok, Err, is_some, arith}
use Rattle.std.proofs.lemmas.Bool.{false≢true}
use Rattle.std.proofs.lemmas.List.{append-nil}
use Rattle.std.specs.Prelude.{IsSomeAnd, ⊤}
use Rattle.std.specs.declared.result.Result.{Result}
use Rattle.std.specs.Io.KnownBytes.{Appends}
use Rattle.io_ports.specs.declared.dialect.Dialect.{Dialect}
use Rattle.io_ports.specs.declared.dialect.Dialect.TheVariants as dialect
use Rattle.io_ports.specs.declared.limits.SearchFault.{SearchFault}
use Rattle.io_ports.specs.declared.limits.SearchFault.TheVariants as fault
use Rattle.io_ports.specs.Files.{Contents, Found, Read}
use Rattle.io_ports.specs.Files as found
use Rattle.io_ports.specs.Lines.{Line}
use Rattle.io_ports.specs.Sink.{AppendsFront}
use Rattle.io_ports.specs.Source.{Owed, Untold}
use Rattle.io_ports.specs.Trace.{Moves, Reads, faults_in}
use Rattle.io_ports.proofs.Asked.{reads_more}
use Rattle.io_ports.proofs.Moved.{appends_none, takes_none}
use Rattle.session_model.specs.CecpSession.{cecp}
use Rattle.session_model.specs.CecpState as CecpState
use Rattle.session_model.specs.Speaks.{SessionFrom, Speaks}
use Rattle.session_model.specs.Turns.{Protocol, Session}
use Rattle.session_model.specs.Turns as turns
use Rattle.session_model.specs.UciSession.{uci}
use Rattle.session_model.specs.UciState as UciState
use Rattle.session_model.proofs.Variants.{sessions_begin}
use Rattle.session_model.specs.Spoken.{Spoke, SpokePart}
use Rattle.session_model.proofs.Ending.{further_none, part_none}
use Rattle.variant_rules.specs.Loading.{found_sections}
use Rattle.variant_rules.specs.Looked.{Looked}
use Rattle.variant_ini.specs.Section.{Section}
use Rattle.variant_model.specs.Builtin.{builtin_sections}
use Rattle.watching.specs.Looks.{Moved}
use Rattle.words.specs.Asked.{Asked}
use Rattle.words.specs.Command.{Command, Uci, Xboard, Moves as MovesOf, Status, Checkers, Perft, Check, SelfMate, HelpMate, CheckCert, Variants, Reach, Generate, RulesOf, Help, Version, Suite, PnMate, Keys}
use Rattle.words.specs.Options.{Text}
use Rattle.words.specs.View.{asked_seen, command_seen}
use Rattle.one_shots.specs.declared.answers.Answer.{Answer}
use Rattle.one_shot_checks.specs.declared.fault.Fault.{Fault}
use Rattle.one_shot_checks.specs.declared.no_answer.NoAnswer.{NoAnswer}
use Rattle.one_shots.specs.declared.opening.Opened.{Opened}
use Rattle.one_shot_checks.specs.declared.stop.Stop.{Stop}
use Rattle.one_shot_checks.specs.declared.stop.Stop.TheVariants as stop
use Rattle.one_shots.specs.Commands.{IsOneShot, asks_file, lines_asked, lines_needed}
use Rattle.one_shot_checks.specs.Fault.{error_line, fault_status, fault_text}
use Rattle.one_shots.specs.OpeningView.{Opens}
use Rattle.one_shots.specs.OutcomeView.{Finishes, OutcomeOf}
use Rattle.one_shots.specs.Looked.{TellsReads}
use Rattle.commands.specs.Run as run
use Rattle.commands.specs.Run.{Completes, Did, DidPart, May, MaySpeak}
use Rattle.one_shots.specs.Statuses.{IsCut, IsDone}
use Rattle.one_shots.specs.Sessions.{dialect_of, is_session, lines_wanted, to_do}
use Rattle.one_shots.specs.Shot.{Says}
use Rattle.uci_front.specs.SessionView.{BeginsBuiltIn}
use Rattle.commands.specs.Speaking.{BrokeFrom, BrokeIn, SpokeFrom, SpokeIn, Talks, ended_status}
use Rattle.one_shots.specs.Variants.{Accepts, AreFirstReads, AreReadsOf, fault_found, fault_in, sections_in}
use Rattle.one_shots.proofs.FileLemmas.{no_further, reads_on, same_reads}
use Rattle.one_shots.proofs.OpeningLemmas.{refused_first, refused_says}
use Rattle.commands.proofs.RunLemmas.{decide_so, four, five, seven, may_shot, part_by, refused_heard, refused_said, session_says, some_reads, tells_found}
use Rattle.one_shots.proofs.ShotLemmas.{done_whole, says_done, says_shot, shot_asks, shot_says}

-- ---- the start of a session

-- the sections of a run begin with those that are built in
begins_with : (name : Option Text) (reads : List Read) → BeginsBuiltIn (sections_in name reads)
begins_with None reads = ([], sym (append-nil builtin_sections))
begins_with (Some name) [] = ([], sym (append-nil builtin_sections))
begins_with (Some name) (read ∷ reads) = (found_sections read.found, refl)

pub opened_begins : (asks : List Read → Type 0) (c : Option Asked) (o : Opened) → Looked asks (λ reads. Opens c reads (Ok o)) → BeginsBuiltIn o.sections
opened_begins asks c o looked =
    subst BeginsBuiltIn (sym looked.holds.2) (begins_with (asked_seen o.asked).variants looked.reads)

-- nothing was done of a session before its first line
pub broke_none : {S K C : Type 0} (left : S → Option (List ℕ)) (taken : K → Option (List ℕ)) (given : C → Option (List ℕ)) (count last : C → ℕ)
    (d : Dialect) (sections : List Section) (threads : ℕ) (asked : List Read → Type 0) (contents : Option Contents) (s : S) (k : K) (c : C)
    → BeginsBuiltIn sections → asked [] → BrokeIn d sections threads (Moves left taken given count last s s k k c c) asked contents
broke_none left taken given count last dialect.Uci sections threads asked contents s k c begins asks =
    let (state, other, started, starts) = sessions_begin begins.0 threads in
    record {
      state = state;
      started = subst (λ (x : List Section). UciState.first_state x threads ≡ Some state) (sym begins.1) started;
      part = part_none uci asked contents state s k c asks;
    }
broke_none left taken given count last dialect.Cecp sections threads asked contents s k c begins asks =
    let (other, state, starts, started) = sessions_begin begins.0 threads in
    record {
      state = state;
      started = subst (λ (x : List Section). CecpState.first_state x ≡ Some state) (sym begins.1) started;
      part = part_none cecp asked contents state s k c asks;
    }

-- where a session read no file, its reads are as the files tell
cecp_asks : (asked : List Read → Type 0) (reads : List Read) → reads ≡ [] → asked [] → asked reads
cecp_asks asked reads none asks = subst asked (sym none) asks

pub cecp_spoke : (moved : Moved) (asked : List Read → Type 0) (owed : Owed) (contents : Option Contents) (left : Option (List ℕ)) (sections : List Section) (state : CecpState.State) → CecpState.first_state sections ≡ Some state
    → Spoke cecp moved (λ reads. reads ≡ []) owed contents left state → asked [] → SpokeFrom CecpState.State cecp (CecpState.first_state sections) moved asked owed contents left
cecp_spoke moved asked owed contents left sections state started s asks = record {
  state = state;
  started = started;
  spoke = record {
    lines = s.lines;
    rest = s.rest;
    readings = s.readings;
    reads = s.reads;
    output = s.output;
    moves = s.moves;
    asks = cecp_asks asked s.reads s.asks asks;
    input = s.input;
    few = s.few;
    decided = s.decided;
    allowed = s.allowed;
  };
}

pub cecp_broke : (moved : Moved) (asked : List Read → Type 0) (contents : Option Contents) (sections : List Section) (state : CecpState.State) → CecpState.first_state sections ≡ Some state
    → SpokePart cecp moved (λ reads. reads ≡ []) contents state → asked [] → BrokeFrom CecpState.State cecp (CecpState.first_state sections) moved asked contents
cecp_broke moved asked contents sections state started s asks = record {
  state = state;
  started = started;
  part = record {
    lines = s.lines;
    readings = s.readings;
    reads = s.reads;
    further = s.further;
    front = s.front;
    back = s.back;
    moves = s.moves;
    asks = cecp_asks asked s.reads s.asks asks;
    more = s.more;
    few = s.few;
    allowed = s.allowed;
  };
}

-- ---- its reads

-- reads that are done later change nothing of the file of variants
fault_before : (name : Option Text) (first later : List Read) → AreReadsOf name first → fault_in name (first ++ later) ≡ fault_in name first
fault_before None first later are = refl
fault_before (Some name) [] later are = absurd are
fault_before (Some name) (read ∷ []) later are = refl
fault_before (Some name) (read ∷ next ∷ first) later are = absurd are

-- a file that was taken was read without a fault
accepted_works : (name : Option Text) (reads : List Read) → Accepts name reads → faults_in reads ≡ 0
accepted_works None reads accepted = ap faults_in accepted.0
accepted_works (Some name) [] accepted = absurd accepted.0
accepted_works (Some name) (x ∷ y ∷ reads) accepted = absurd accepted.0
accepted_works (Some name) (x ∷ []) accepted = go x.found accepted.1
  where
    go : (f : Found) → fault_found f ≡ None → found.faults_of f + 0 ≡ 0
    go (found.Bytes bytes) none = omega arith
    go found.Missing none = omega arith
    go found.TooLarge none = omega arith
    go found.Fault none = cc

-- ---- its lines

needs_by : (c : Command) (d : Dialect) → dialect_of c ≡ Some d → (sections : List Section) (lines : List Line) → lines_needed sections c lines ≡ lines_wanted d lines
needs_by Uci dialect.Uci is sections lines = refl
needs_by Uci dialect.Cecp is sections lines = cc
needs_by Xboard dialect.Uci is sections lines = cc
needs_by Xboard dialect.Cecp is sections lines = refl
needs_by MovesOf d is sections lines = cc
needs_by Status d is sections lines = cc
needs_by Checkers d is sections lines = cc
needs_by (Perft plies) d is sections lines = cc
needs_by Check d is sections lines = cc
needs_by (SelfMate moves) d is sections lines = cc
needs_by (HelpMate moves) d is sections lines = cc
needs_by CheckCert d is sections lines = cc
needs_by Variants d is sections lines = cc
needs_by (Reach word square own enemy) d is sections lines = cc
needs_by (Generate name number plies) d is sections lines = cc
needs_by (RulesOf name) d is sections lines = cc
needs_by Help d is sections lines = cc
needs_by Version d is sections lines = cc
needs_by Suite d is sections lines = cc
needs_by (PnMate moves) d is sections lines = cc
needs_by (Keys moves) d is sections lines = cc

-- ---- what a session may do

spoke_asked : (owed : Owed) (words : List Text) (contents : Option Contents) (reads : List Read) (input : List Line) (readings text : List ℕ) (a : Asked) (d : Dialect) → to_do words ≡ Some a → dialect_of a.command ≡ Some d
    → run.RanSession d a owed contents reads input readings 0 text → MaySpeak (to_do words) owed contents reads input readings 0 text
spoke_asked owed words contents reads input readings text a d is served spoke =
    subst (λ (c : Option Asked). MaySpeak c owed contents reads input readings 0 text) (sym is)
    (subst (λ (o : Option Dialect). IsSomeAnd o (λ x. run.RanSession x a owed contents reads input readings 0 text)) (sym served) spoke)

may_asked : (owed : Owed) (words : List Text) (contents : Option Contents) (reads : List Read) (input : List Line) (readings text : List ℕ) → MaySpeak (to_do words) owed contents reads input readings 0 text
    → May owed words contents reads input readings 0 text
unfolding May
may_asked owed words contents reads input readings text spoke = inr spoke

-- The session of a run that asks this, after these reads of the file of variants. A session of its protocol from its start is one in its dialect.
module _ {State : Type 0} (p : Protocol State) (start : Option State) (words : List Text) (a : Asked) (d : Dialect) (is : to_do words ≡ Some a) (served : dialect_of a.command ≡ Some d) (first : List Read)
    (accepted : Accepts a.variants first)
    (speaks : (owed : Owed) (contents : Option Contents) (reads : List Read) (input : List Line) (readings output : List ℕ) → SessionFrom State p start owed contents reads input readings output
    → Speaks d (sections_in a.variants first) a.threads owed contents reads input readings output)
    (wanted : (lines : List Line) → lines_wanted d lines ≡ turns.lines_wanted p lines) where
  spoke_session : (owed : Owed) (contents : Option Contents) (later : List Read) (input : List Line) (readings output : List ℕ) (state : State) → start ≡ Some state → Session State p owed state contents later input readings output
      → MaySpeak (to_do words) owed contents (first ++ later) input readings 0 output
  spoke_session owed contents later input readings output state started session =
      spoke_asked owed words contents (first ++ later) input readings output a d is served (record {
        first = first;
        later = later;
        reads_are = refl;
        accepted = accepted;
        speaks = speaks owed contents later input readings output (record { state = state; started = started; session = session });
        ended = refl;
      })

  may_session : (owed : Owed) (contents : Option Contents) (later : List Read) (input : List Line) (readings output : List ℕ) (state : State) → start ≡ Some state → Session State p owed state contents later input readings output
      → May owed words contents (first ++ later) input readings 0 output
  may_session owed contents later input readings output state started session =
      may_asked owed words contents (first ++ later) input readings output (spoke_session owed contents later input readings output state started session)

  needs_session : (later : List Read) (lines : List Line) → turns.lines_wanted p lines ≤ lines_asked (to_do words) (first ++ later) lines
  needs_session later lines =
      let none : fault_in a.variants (first ++ later) ≡ None = fault_before a.variants first later accepted.0 ∙ accepted.1 in
      let same = needs_by a.command d served (sections_in a.variants (first ++ later)) lines ∙ wanted lines in
      subst (λ (x : Option Asked). turns.lines_wanted p lines ≤ lines_asked x (first ++ later) lines) (sym is) (rw none (omega (arith, same)))

  module _ (moved : Moved) (asked asked' : List Read → Type 0) (joins : (later : List Read) → asked later → asked' (first ++ later)) (contents : Option Contents) (left : Option (List ℕ)) where
    did_by : (owed : Owed) → SpokeFrom State p start moved asked owed contents left → Did owed moved asked' contents left words 0
    did_by owed so =
        let s = so.spoke in
        let may : (input : List Line) → Session State p owed so.state contents s.reads input s.readings s.output → May owed words contents (first ++ s.reads) input s.readings 0 s.output =
        λ input session. may_session owed contents s.reads input s.readings s.output so.state so.started session in
        let needs = needs_session s.reads (s.lines ++ s.rest) in
        let few = s.few in
        record {
          lines = s.lines;
          rest = s.rest;
          readings = s.readings;
          reads = first ++ s.reads;
          text = s.output;
          moves = s.moves;
          asks = joins s.reads s.asks;
          input = s.input;
          few = omega (arith, needs, few);
          decided = decide_so s.lines s.rest _ _ may s.decided;
          allowed = may (s.lines ++ s.rest) s.allowed;
        }

    part_by_session : (result : ℕ) → BrokeFrom State p start moved asked contents → run.RanSessionPart moved asked' contents words result
    part_by_session result so =
        let s = so.part in
        let needs = needs_session (s.reads ++ s.further) s.lines in
        let few = s.few in
        let all : first ++ (s.reads ++ s.further) ≡ (first ++ s.reads) ++ s.further = sym (append_assoc first s.reads s.further) in
        record {
          lines = s.lines;
          readings = s.readings;
          reads = first ++ s.reads;
          further = s.further;
          written = s.front;
          back = s.back;
          status = 0;
          moves = s.moves;
          asks = joins s.reads s.asks;
          after = s.more;
          few = subst (λ (x : List Read). length s.lines ≤ lines_asked (to_do words) x s.lines) all (omega (arith, needs, few));
          allowed = subst (λ (x : List Read). May Untold words contents x s.lines s.readings 0 (s.front ++ s.back)) all
              (may_session Untold contents (s.reads ++ s.further) s.lines s.readings (s.front ++ s.back) so.state so.started s.allowed);
          opened = λ four_is. subst (λ (c : Option Asked). run.OpenedAt c (first ++ s.reads)) (sym is)
              (record { first = first; later = s.reads; reads_are = refl; accepted = accepted });
          begun = λ four_is. subst (λ (x : List Read). MaySpeak (to_do words) Untold contents x s.lines s.readings 0 (s.front ++ s.back)) all
              (spoke_session Untold contents (s.reads ++ s.further) s.lines s.readings (s.front ++ s.back) so.state so.started s.allowed);
        }

-- so in each dialect
did_in : (words : List Text) (a : Asked) (d : Dialect) → to_do words ≡ Some a → dialect_of a.command ≡ Some d → (first : List Read) → Accepts a.variants first
    → (moved : Moved) (asked asked' : List Read → Type 0) → ((later : List Read) → asked later → asked' (first ++ later)) → (contents : Option Contents) (left : Option (List ℕ)) (owed : Owed)
    → SpokeIn d (sections_in a.variants first) a.threads moved asked owed contents left → Did owed moved asked' contents left words 0
did_in words a dialect.Uci is served first accepted moved asked asked' joins contents left owed so =
    did_by uci (UciState.first_state (sections_in a.variants first) a.threads) words a dialect.Uci is served first accepted (λ o c r i t u from. from) (λ lines. refl) moved asked asked' joins contents left owed so
did_in words a dialect.Cecp is served first accepted moved asked asked' joins contents left owed so =
    did_by cecp (CecpState.first_state (sections_in a.variants first)) words a dialect.Cecp is served first accepted (λ o c r i t u from. from) (λ lines. refl) moved asked asked' joins contents left owed so

part_in : (words : List Text) (a : Asked) (d : Dialect) → to_do words ≡ Some a → dialect_of a.command ≡ Some d → (first : List Read) → Accepts a.variants first
    → (moved : Moved) (asked asked' : List Read → Type 0) → ((later : List Read) → asked later → asked' (first ++ later)) → (contents : Option Contents) (left : Option (List ℕ))
    → (result : ℕ) → BrokeIn d (sections_in a.variants first) a.threads moved asked contents → run.RanSessionPart moved asked' contents words result
part_in words a dialect.Uci is served first accepted moved asked asked' joins contents left result so =
    part_by_session uci (UciState.first_state (sections_in a.variants first) a.threads) words a dialect.Uci is served first accepted (λ o c r i t u from. from) (λ lines. refl) moved asked asked' joins contents left result so
part_in words a dialect.Cecp is served first accepted moved asked asked' joins contents left result so =
    part_by_session cecp (CecpState.first_state (sections_in a.variants first)) words a dialect.Cecp is served first accepted (λ o c r i t u from. from) (λ lines. refl) moved asked asked' joins contents left result so

-- a session without lines may say nothing
session_none : {State : Type 0} (p : Protocol State) (state : State) (contents : Option Contents) → Session State p Untold state contents [] [] [] []
session_none p state contents = record {
  turns = [];
  rest = [];
  lines_are = refl;
  over = tt;
  allowed = tt;
  reads_are = refl;
  found = (further_none contents).found;
  readings_are = refl;
  output_is = refl;
}

may_begin : (words : List Text) (contents : Option Contents) (a : Asked) (d : Dialect) → to_do words ≡ Some a → dialect_of a.command ≡ Some d → (first : List Read) → Accepts a.variants first
    → May Untold words contents (first ++ []) [] [] 0 []
may_begin words contents a dialect.Uci is served first accepted =
    let begins = begins_with a.variants first in
    let (state, other, started, starts) = sessions_begin begins.0 a.threads in
    may_session uci (UciState.first_state (sections_in a.variants first) a.threads) words a dialect.Uci is served first accepted (λ o c r i t u from. from) (λ lines. refl) Untold contents [] [] [] [] state
    (subst (λ (x : List Section). UciState.first_state x a.threads ≡ Some state) (sym begins.1) started) (session_none uci state contents)
may_begin words contents a dialect.Cecp is served first accepted =
    let begins = begins_with a.variants first in
    let (other, state, starts, started) = sessions_begin begins.0 a.threads in
    may_session cecp (CecpState.first_state (sections_in a.variants first)) words a dialect.Cecp is served first accepted (λ o c r i t u from. from) (λ lines. refl) Untold contents [] [] [] [] state
    (subst (λ (x : List Section). CecpState.first_state x ≡ Some state) (sym begins.1) started) (session_none cecp state contents)

-- ---- a session that was held

-- a command of no dialect is a one-shot command
pub opened_one_shot : (asks : List Read → Type 0) (c : Option Asked) (o : Opened) → Looked asks (λ reads. Opens c reads (Ok o)) → None ≡ dialect_of (command_seen o.asked.command) → IsOneShot c
opened_one_shot asks c o looked none = subst IsOneShot (sym looked.holds.0) (ap is_some (sym none))

not_one_shot : (c : Option Asked) (a : Asked) → c ≡ Some a → is_session a.command ≡ true → IsOneShot c → ⊥
not_one_shot c a is session one = absurd (false≢true (sym (subst IsOneShot is one) ∙ session))

err_cut : (why : SearchFault) → IsCut (ended_status {A = ⊤} (Err why))
err_cut fault.ReadFault = four
err_cut fault.WriteFault = five
err_cut fault.Memory = seven

module _ {F : Type 0} {contents : F → Option Contents} {faults : F → ℕ} {f f1 : F} (words : List Text) (o : Opened) (d : Dialect)
    (looked : Looked (Reads contents faults f f1) (λ reads. Opens (to_do words) reads (Ok o))) (served : dialect_of (command_seen o.asked.command) ≡ Some d) where
  -- what was asked for is a session
  pub session_asked : is_session (command_seen o.asked.command) ≡ true
  session_asked = ap is_some served

  pub session_never_one_shot : IsOneShot (to_do words) → ⊥
  session_never_one_shot one = not_one_shot (to_do words) (asked_seen o.asked) looked.holds.0 session_asked one

  module _ (f' : F) (moved : Moved) (left : Option (List ℕ)) (owed : Owed) where
    joined : (later : List Read) → Reads contents faults f1 f' later → Reads contents faults f f' (looked.reads ++ later)
    joined later reads = reads_more looked.asks reads

    -- with the sections that were read, and the files as they were before
    talked : {A : Type 0} (r : Result A SearchFault) → Talks d o.sections o.asked.threads moved (Reads contents faults f1 f') owed (contents f1) left r
        → Talks d (sections_in (asked_seen o.asked).variants looked.reads) o.asked.threads moved (Reads contents faults f1 f') owed (contents f) left r
    talked r talks =
        subst (λ (x : Option Contents). Talks d (sections_in (asked_seen o.asked).variants looked.reads) o.asked.threads moved (Reads contents faults f1 f') owed x left r) looked.asks.same
        (subst (λ (x : List Section). Talks d x o.asked.threads moved (Reads contents faults f1 f') owed (contents f1) left r) looked.holds.2 talks)

    pub session_did : {A : Type 0} (r : Result A SearchFault) → Talks d o.sections o.asked.threads moved (Reads contents faults f1 f') owed (contents f1) left r → IsDone (ended_status r)
        → Did owed moved (Reads contents faults f f') (contents f) left words (ended_status r)
    session_did (Ok x) talks done =
        did_in words (asked_seen o.asked) d looked.holds.0 served looked.reads looked.holds.1 moved (Reads contents faults f1 f') (Reads contents faults f f') joined (contents f) left owed (talked (Ok x) talks)
    session_did (Err why) talks done = absurd (done_whole _ done (err_cut why))

    pub session_part : {A : Type 0} (r : Result A SearchFault) → Talks d o.sections o.asked.threads moved (Reads contents faults f1 f') owed (contents f1) left r → IsCut (ended_status r)
        → DidPart moved (Reads contents faults f f') (contents f) left words (ended_status r)
    session_part {A = A} (Ok x) talks cut = absurd (done_whole 0 (inl refl) cut)
    session_part {A = A} (Err why) talks cut =
        part_by (to_do words) _ _ (λ one. absurd (session_never_one_shot one))
        (λ a is session. part_in words (asked_seen o.asked) d looked.holds.0 served looked.reads looked.holds.1 moved (Reads contents faults f1 f') (Reads contents faults f f') joined (contents f) left (ended_status {A = A} (Err why)) (talked {A = A} (Err why) talks))

  -- the file of variants is not told to be refused
  pub session_complete : (left : Option (List ℕ)) (Failed : ℕ → Type 0) (status : ℕ) → Completes (contents f) left words Failed status
  session_complete left Failed status reads input s t tells_files tells_input shot =
      let a = asked_seen o.asked in
      let is = looked.holds.0 in
      let accepted = looked.holds.1 in
      let asks : AreFirstReads (Some a) reads = subst (λ (x : Option Asked). AreFirstReads x reads) is (shot_asks words reads input s t shot) in
      let told : asks_file (Some a) ≡ true → TellsReads (contents f) reads = λ named. tells_files (subst (λ (x : Option Asked). asks_file x ≡ true) (sym is) named) in
      let same = same_reads (Some a) (contents f) looked.reads reads accepted.0 asks
      (λ named. tells_found (contents f) looked.reads reads looked.asks.found (accepted_works a.variants looked.reads accepted) (told named)) told in
      let says : Says (Some a) looked.reads input s t =
      subst (λ (x : List Read). Says (Some a) x input s t) (sym same) (subst (λ (x : Option Asked). Says x reads input s t) is (shot_says words reads input s t shot)) in
      absurd (session_says (sections_in a.variants looked.reads) a.command session_asked input s t (rw accepted.1 at says))

-- ---- a session that did not begin

-- by the reads of the file of variants that were done, or are still to be done, it says something
may_some : (words : List Text) (contents : Option Contents) (a : Asked) (d : Dialect) → to_do words ≡ Some a → dialect_of a.command ≡ Some d → (reads : List Read) → AreFirstReads (Some a) reads
    → (status : ℕ) × (text : List ℕ) × May Untold words contents reads [] [] status text
may_some words contents a d is served reads first = go (fault_in a.variants reads) refl
  where
    go : (o : Option Fault) → fault_in a.variants reads ≡ o → (status : ℕ) × (text : List ℕ) × May Untold words contents reads [] [] status text
    go None none = (0, [], subst (λ (x : List Read). May Untold words contents x [] [] 0 []) (append-nil reads) (may_begin words contents a d is served reads (first, none)))
    go (Some why) some =
        let says : Says (Some a) reads [] (fault_status why) (error_line (fault_text why)) = rw some (refl, refl) in (
          fault_status why,
          error_line (fault_text why),
          may_shot Untold words contents reads [] (fault_status why) (error_line (fault_text why))
              (says_shot words reads [] (fault_status why) (error_line (fault_text why)) (subst (λ (x : Option Asked). AreFirstReads x reads) (sym is) first)
              (subst (λ (x : Option Asked). Says x reads [] (fault_status why) (error_line (fault_text why))) (sym is) says)),
        )

dialect_in : (c : Command) → is_session c ≡ true → (d : Dialect) × (dialect_of c ≡ Some d)
dialect_in c is = go (dialect_of c) refl is
  where
    go : (o : Option Dialect) → dialect_of c ≡ o → is_some o ≡ true → (d : Dialect) × (dialect_of c ≡ Some d)
    go None none some = absurd (false≢true some)
    go (Some d) has some = (d, has)

module _ {S K C F : Type 0} {left : S → Option (List ℕ)} {taken : K → Option (List ℕ)} {given : C → Option (List ℕ)} {count last : C → ℕ} {contents : F → Option Contents} {faults : F → ℕ} where
  -- nothing was written
  unsaid : (s : S) (k k' : K) (c : C) (f f' : F) (words : List Text) (a : Asked) (why : NoAnswer) (result : ℕ) → result ≡ 7 → to_do words ≡ Some a → is_session a.command ≡ true
      → Looked (Reads contents faults f f') (λ reads. Opens (to_do words) reads (Err why)) → Appends (taken k) (taken k') []
      → run.RanSessionPart (Moves left taken given count last s s k k' c c) (Reads contents faults f f') (contents f) words result
  unsaid s k k' c f f' words a why result seven_is is session looked wrote =
      let (d, served) = dialect_in a.command session in
      let (further, after, first) = reads_on (contents f) (to_do words) looked.reads (some_reads (to_do words) looked.reads why looked.holds) in
      let (status, text, may) = may_some words (contents f) a d is served (looked.reads ++ further) (subst (λ (x : Option Asked). AreFirstReads x (looked.reads ++ further)) is first) in
      record {
        lines = [];
        readings = [];
        reads = looked.reads;
        further = further;
        written = [];
        back = text;
        status = status;
        moves = record { took = takes_none (left s); wrote = wrote; clocked = λ below. appends_none (given c); counted = refl; read = refl };
        asks = looked.asks;
        after = after;
        few = omega arith;
        allowed = may;
        opened = λ four_is. absurd (omega (arith, four_is, seven_is));
        begun = λ four_is. absurd (omega (arith, four_is, seven_is));
      }

  -- a front part of why it was refused
  said_part : (s : S) (k k' : K) (c : C) (f f' : F) (words : List Text) (why : NoAnswer) (answer : Answer) (result : ℕ) → result ≡ 5 → Looked (Reads contents faults f f') (λ reads. Opens (to_do words) reads (Err why))
      → OutcomeOf (Err why) (Ok answer) → AppendsFront (taken k) (taken k') answer.text
      → run.RanSessionPart (Moves left taken given count last s s k k' c c) (Reads contents faults f f') (contents f) words result
  said_part s k k' c f f' words why answer result five_is looked is wrote =
      let first = refused_first (to_do words) looked.reads why (Ok answer) answer looked.holds is refl in
      let says = refused_says (to_do words) looked.reads why (Ok answer) [] looked.holds is in
      let may = may_shot Untold words (contents f) looked.reads [] answer.status answer.text (says_shot words looked.reads [] answer.status answer.text first says) in
      record {
        lines = [];
        readings = [];
        reads = looked.reads;
        further = [];
        written = wrote.front;
        back = wrote.back;
        status = answer.status;
        moves = record { took = takes_none (left s); wrote = wrote.took; clocked = λ below. appends_none (given c); counted = refl; read = refl };
        asks = looked.asks;
        after = no_further (contents f);
        few = omega arith;
        allowed = subst (λ (x : List Read). May Untold words (contents f) x [] [] answer.status (wrote.front ++ wrote.back)) (sym (append-nil looked.reads))
            (subst (λ (x : List ℕ). May Untold words (contents f) looked.reads [] [] answer.status x) wrote.whole may);
        opened = λ four_is. absurd (omega (arith, four_is, five_is));
        begun = λ four_is. absurd (omega (arith, four_is, five_is));
      }

  -- a run that was cut short before its session began
  pub refused_part : (s : S) (k k' : K) (c : C) (f f' : F) (words : List Text) (a : Asked) (why : NoAnswer) (before now : ℕ) (r : Result Answer Stop) (status : ℕ) → to_do words ≡ Some a → is_session a.command ≡ true
      → Looked (Reads contents faults f f') (λ reads. Opens (to_do words) reads (Err why)) → OutcomeOf (Err why) r → Finishes r (taken k) (taken k') before now status → IsCut status
      → run.RanSessionPart (Moves left taken given count last s s k k' c c) (Reads contents faults f f') (contents f) words status
  refused_part s k k' c f f' words a why before now (Ok answer) status is session looked outcome (inl wrote) cut =
      let says = refused_says (to_do words) looked.reads why (Ok answer) [] looked.holds outcome in
      absurd (done_whole status (subst IsDone (sym wrote.0) (says_done (to_do words) looked.reads [] answer.status answer.text says)) cut)
  refused_part s k k' c f f' words a why before now (Ok answer) status is session looked outcome (inr failed) cut = said_part s k k' c f f' words why answer status failed.0 looked outcome failed.1
  refused_part s k k' c f f' words a why before now (Err stop.Source) status is session looked outcome wrote cut = absurd (refused_heard (to_do words) looked.reads why (Err stop.Source) looked.holds outcome tt)
  refused_part s k k' c f f' words a why before now (Err stop.Sink) status is session looked outcome wrote cut = absurd (refused_said (to_do words) looked.reads why (Err stop.Sink) looked.holds outcome tt)
  refused_part s k k' c f f' words a why before now (Err stop.Memory) status is session looked outcome wrote cut = unsaid s k k' c f f' words a why status wrote.0 is session looked wrote.1
