-- How a session ends: with its lines, at the line that ends it, or at a fault.
use Rattle.std.proofs.Common.{◌≡◌, inl, inr, ℕ, ◌+◌, ◌≤◌, List, [], ◌∷◌, ◌++◌, length, map, Some, None, true, false, arith, refl, sym, ap, subst, ◌∙◌, append_assoc, length-append}
use Rattle.std.specs.declared.option.Option.{Option}
use Rattle.std.specs.Io.KnownBytes.{IsAtEnd}
use Rattle.std.proofs.lemmas.List.{append-nil}
use Rattle.std.proofs.lemmas.Grind.{flat_map-append}
use Rattle.io_ports.specs.Files.{Contents, Finds, Read}
use Rattle.io_ports.specs.Lines.{Line, Text, TooLong, line_of, lines_of, pieces_of}
use Rattle.io_ports.specs.Owing.{Lacks}
use Rattle.io_ports.specs.Source.{Owed, Untold, Takes, got_lines}
use Rattle.io_ports.specs.Trace.{Moves, Reads, faults_in}
use Rattle.io_ports.specs.declared.source.Got.{Got}
use Rattle.io_ports.specs.declared.source.Got.TheVariants as got
use Rattle.io_ports.proofs.Asked.{reads_more}
use Rattle.io_ports.proofs.Moved.{map_line-append, moves_at, moves_more, moves_none}
use Rattle.watching.specs.Events.{heard_lines as heard, opened, readings, written}
use Rattle.watching.specs.Looks.{Moved}
use Rattle.session_model.specs.Turns.{Protocol, Session, Turn, Turns, after_turns, bound_in, ending_lines, lines_in, lines_wanted, output_in, reads_in, readings_in}
use Rattle.session_model.proofs.Joined.{quiet_output, turns_joined, turns_untold}
use Rattle.session_model.specs.Lines.{HasLine, Held, none, one, got_line}
use Rattle.session_model.specs.Turned.{Further, IsLawful, Turned, Unserved, turn_of}
use Rattle.session_model.specs.Spoken.{IsInput, Spoke, SpokePart, TookQuit}
use Rattle.session_model.proofs.Turning.{flat_more, line_followed, line_taken, lines_since, none_follows, turns_more}

-- ---- reads

finds_both : (contents : Option Contents) (xs ys : List Read) → Finds contents xs → Finds contents ys → Finds contents (xs ++ ys)
finds_both None xs ys first then = tt
finds_both (Some contents) [] ys first then = then
finds_both (Some contents) (x ∷ xs) ys first then = (first.0, finds_both (Some contents) xs ys first.1 then)

finds_none : (contents : Option Contents) → Finds contents []
finds_none None = tt
finds_none (Some contents) = tt

faultless_both : (xs ys : List Read) → faults_in xs ≡ 0 → faults_in ys ≡ 0 → faults_in (xs ++ ys) ≡ 0
faultless_both [] ys first then = then
faultless_both (x ∷ xs) ys first then =
    let rest : faults_in xs ≡ 0 = omega arith in let more = faultless_both xs ys rest then in omega arith

pub further_none : (contents : Option Contents) → Further contents []
further_none contents = record { found = finds_none contents; works = refl }

pub further_more : (contents : Option Contents) (xs ys : List Read) → Further contents xs → Further contents ys → Further contents (xs ++ ys)
further_more contents xs ys first then = record {
  found = finds_both contents xs ys first.found then.found;
  works = faultless_both xs ys first.works then.works;
}

-- what a protocol's turns ask of files: nothing, or of these files

pub nothing_found : (contents : Option Contents) (reads : List Read) → reads ≡ [] → Finds contents reads
nothing_found contents reads no_reads = subst (λ (r : List Read). Finds contents r) (sym no_reads) (finds_none contents)

pub nothing_more : (xs ys : List Read) → xs ≡ [] → ys ≡ [] → xs ++ ys ≡ []
nothing_more xs ys first then = ap (λ r. r ++ ys) first ∙ then

module _ {F : Type 0} {contents : F → Option Contents} {faults : F → ℕ} where
  pub reads_found : {files files' : F} (reads : List Read) → Reads contents faults files files' reads → Finds (contents files) reads
  reads_found reads asks = asks.found

  pub reads_both : {files files' files'' : F} (xs ys : List Read) → Reads contents faults files files' xs → Reads contents faults files' files'' ys
      → Reads contents faults files files'' (xs ++ ys)
  reads_both xs ys first then = reads_more first then

-- ---- lines that are held

pub held_got : (next : Got) (text : List ℕ) → Held (got_lines next text)
held_got got.Line text = one (Text text)
held_got got.TooLong text = one TooLong
held_got got.End text = none
held_got got.Failed text = none

held_few : (lines : List Line) → Held lines → length lines ≤ 1
held_few _ none = omega arith
held_few _ (one line) = omega arith

rest_few : (lines front rest : List Line) → Held lines → lines ≡ front ++ rest → length rest ≤ ending_lines rest
rest_few lines front [] held is = omega arith
rest_few lines front (line ∷ rest) held is =
    let few = held_few lines held in let count = ap length is ∙ length-append front (line ∷ rest) in omega arith

-- ---- what the source had

input_of : (left left' : Option (List ℕ)) (lines : List Line) → Takes left left' lines
    → (rest : List Line) × IsInput left (lines ++ rest) × (IsAtEnd left' → rest ≡ [])
input_of None left' lines takes = ([], tt, λ _. refl)
input_of (Some bytes) None lines takes = absurd takes
input_of (Some bytes) (Some more) lines (pieces, whole, are) = (
  lines_of more,
  ap (map line_of) whole ∙ map_line-append pieces (pieces_of more) ∙ ap (λ l. l ++ lines_of more) are,
  λ end. ap lines_of end,
)

module _ {State : Type 0} where
  lines_both : (us vs : List (Turn State)) (following : List Line)
      → lines_in us ++ (lines_in vs ++ following) ≡ lines_in (us ++ vs) ++ following
  lines_both us vs following =
      sym (append_assoc (lines_in us) (lines_in vs) following)
      ∙ ap (λ lines. lines ++ following) (sym (flat_map-append (λ t. t.line ∷ heard t.events) us vs))

  module _ (p : Protocol State) where
    -- the same session, with its reads and its output in other words
    session_at : {start : State} {contents : Option Contents} {reads reads' : List Read} {lines : List Line} {taken output output' : List ℕ}
        → Session State p Untold start contents reads lines taken output → reads ≡ reads' → output ≡ output'
        → Session State p Untold start contents reads' lines taken output'
    session_at {contents = contents} s same_reads same_output = record {
      turns = s.turns;
      rest = s.rest;
      lines_are = s.lines_are;
      over = s.over;
      allowed = s.allowed;
      reads_are = sym same_reads ∙ s.reads_are;
      found = subst (λ (r : List Read). Finds contents r) same_reads s.found;
      readings_are = s.readings_are;
      output_is = sym same_output ∙ s.output_is;
    }

    wanted_few : (lines : List Line) (turns : List (Turn State)) (rest : List Line) → lines ≡ lines_in turns ++ rest
        → lines_wanted p (lines_in turns ++ rest) ≡ length (lines_in turns) + ending_lines rest
        → length rest ≤ ending_lines rest → length lines ≤ lines_wanted p lines
    wanted_few lines turns rest is wanted few =
        subst (λ (l : List Line). length l ≤ lines_wanted p l) (sym is)
        (let count = length-append (lines_in turns) rest in omega (arith, count, wanted, few))

    -- turns, with at most one line after them, completed to a session of these lines
    record Completed (contents : Option Contents) (start : State) (us : List (Turn State)) (behind : List Line) : Type 0 where
      reads : List Read
      output : List ℕ
      session : Session State p Untold start contents (reads_in us ++ reads) (lines_in us ++ behind) (readings_in us) (output_in p.dialect us ++ output)
      more : Further contents reads
      few : length (lines_in us ++ behind) ≤ lines_wanted p (lines_in us ++ behind)

    completed : IsLawful p → (contents : Option Contents) (start : State) (us : List (Turn State)) (behind : List Line) → Held behind
        → Finds contents (reads_in us) → Turns p Untold 0 start us behind → Completed contents start us behind
    completed laws contents start us behind held found allowed =
        let (reads, output, s, faultless) = quiet_output p laws.output (after_turns start us) contents behind in
        let vs = s.turns in
        let lines : lines_in us ++ behind ≡ lines_in (us ++ vs) ++ s.rest = ap (λ l. lines_in us ++ l) s.lines_are ∙ lines_both us vs s.rest in
        let turns : Turns p Untold 0 start (us ++ vs) s.rest =
        turns_joined p Untold 0 start us vs s.rest (subst (λ (l : List Line). Turns p Untold 0 start us l) s.lines_are allowed)
        (turns_untold p laws.wider Untold 0 (bound_in p 0 start us) (after_turns start us) vs s.rest s.allowed) in
        record {
          reads = reads;
          output = output;
          session = record {
            turns = us ++ vs;
            rest = s.rest;
            lines_are = lines;
            over = s.over;
            allowed = turns;
            reads_are = ap (λ r. reads_in us ++ r) s.reads_are ∙ sym (flat_map-append (λ t. opened t.events) us vs);
            found = finds_both contents (reads_in us) reads found s.found;
            readings_are = sym (append-nil (readings_in us)) ∙ ap (λ r. readings_in us ++ r) s.readings_are ∙ sym (flat_map-append (λ t. readings t.events) us vs);
            output_is = ap (λ o. output_in p.dialect us ++ o) s.output_is ∙ sym (flat_map-append (λ t. written p.dialect t.events) us vs);
          };
          more = record { found = s.found; works = faultless };
          few = wanted_few (lines_in us ++ behind) (us ++ vs) s.rest lines (laws.wanted Untold 0 start (us ++ vs) s.rest turns s.over)
              (rest_few behind (lines_in vs) s.rest held s.lines_are);
        }

    -- a front part of what they read and write was read and written
    part_of : {moved : Moved} {asked : List Read → Type 0} {contents : Option Contents} {start : State} {us : List (Turn State)} {behind : List Line}
        (done further : List Read) (front back : List ℕ) → Completed contents start us behind
        → done ++ further ≡ reads_in us → output_in p.dialect us ≡ front ++ back → moved (lines_in us ++ behind) front (readings_in us)
        → asked done → Further contents further → SpokePart p moved asked contents start
    part_of {contents = contents} {us = us} {behind = behind} done further front back whole reads_are wrote moves asks more = record {
      lines = lines_in us ++ behind;
      readings = readings_in us;
      reads = done;
      further = further ++ whole.reads;
      front = front;
      back = back ++ whole.output;
      moves = moves;
      asks = asks;
      more = further_more contents further whole.reads more whole.more;
      few = whole.few;
      allowed = session_at whole.session
          (ap (λ r. r ++ whole.reads) (sym reads_are) ∙ append_assoc done further whole.reads)
          (ap (λ o. o ++ whole.output) wrote ∙ append_assoc front back whole.output);
    }

module _ {State : Type 0} (p : Protocol State) where
  -- ---- faults

  -- before the first line was taken
  pub part_none : {S K C : Type 0} {left : S → Option (List ℕ)} {taken : K → Option (List ℕ)} {given : C → Option (List ℕ)} {count last : C → ℕ}
      (asked : List Read → Type 0) (contents : Option Contents) (start : State) (s : S) (k : K) (c : C) → asked []
      → SpokePart p (Moves left taken given count last s s k k c c) asked contents start
  part_none asked contents start s k c asks = record {
    lines = [];
    readings = [];
    reads = [];
    further = [];
    front = [];
    back = [];
    moves = moves_none s k c;
    asks = asks;
    more = further_none contents;
    few = omega arith;
    allowed = record {
      turns = [];
      rest = [];
      lines_are = refl;
      over = tt;
      allowed = tt;
      reads_are = refl;
      found = finds_none contents;
      readings_are = refl;
      output_is = refl;
    };
  }

  -- between two turns: the source failed, or there is no memory
  pub part_here : {moved : Moved} {asked : List Read → Type 0} {owed owed' : Owed} {start after : State} {next : Got} {text : List ℕ}
      (contents : Option Contents) → IsLawful p → ((reads : List Read) → asked reads → Finds contents reads)
      → Turned p moved asked owed owed' start after next text → SpokePart p moved asked contents start
  part_here {owed = owed} {start = start} {next = next} {text = text} contents laws finds so =
      let us = so.turns in let behind = got_lines next text in
      let allowed : Turns p Untold 0 start us behind =
      subst (λ (l : List Line). Turns p Untold 0 start us l) (append-nil behind)
      (turns_untold p laws.wider owed 0 0 start us (behind ++ []) (so.allowed [] (none_follows next))) in
      part_of p (reads_in us) [] (output_in p.dialect us) []
      (completed p laws contents start us behind (held_got next text) (finds (reads_in us) so.asks) allowed)
      (append-nil (reads_in us)) (sym (append-nil (output_in p.dialect us))) so.went so.asks (further_none contents)

  -- in the middle of a turn
  pub part_broken : {S K C : Type 0} {left : S → Option (List ℕ)} {taken : K → Option (List ℕ)} {given : C → Option (List ℕ)} {count last : C → ℕ}
      {s s' s'' : S} {k k' k'' : K} {c c' c'' : C} {asked asked' asked'' : List Read → Type 0} {owed owed' : Owed}
      {start state : State} {next : Got} {text : List ℕ} (contents contents' : Option Contents)
      → IsLawful p → ((reads : List Read) → asked'' reads → Finds contents reads)
      → ((xs ys : List Read) → asked xs → asked' ys → asked'' (xs ++ ys)) → contents' ≡ contents
      → HasLine next → p.quits (got_line next text) ≡ false
      → Turned p (Moves left taken given count last s s' k k' c c') asked owed owed' start state next text
      → Unserved p (Moves left taken given count last s' s'' k' k'' c' c'') asked' contents' state (got_line next text)
      → SpokePart p (Moves left taken given count last s s'' k k'' c c'') asked'' contents start
  unfolding turn_of
  part_broken {asked'' = asked''} {owed = owed} {start = start} {state = state} {next = next} {text = text} contents contents' laws finds joins same has goes_on so un =
      let u = turn_of (got_line next text) un.events un.after in let us = so.turns in let behind = un.behind in
      let line = got_line next text in
      let allowed : Turns p Untold 0 start (us ++ u ∷ []) behind =
      turns_more p Untold 0 start us u behind
      (subst (λ (lines : List Line). Turns p Untold 0 start us (lines ++ (heard un.events ++ behind))) (line_taken next text has)
      (turns_untold p laws.wider owed 0 0 start us _ (so.allowed (heard un.events ++ behind) (line_followed next has _))))
      goes_on
      (subst (λ (s : State). p.answers (Lacks Untold (bound_in p 0 start us + p.bound s line)) s u behind) (sym so.after_is) un.answers) in
      let later : Further contents un.further = subst (λ (c : Option Contents). Further c un.further) same un.more in
      let done : List Read = reads_in us ++ un.done in
      let asks : asked'' done = joins (reads_in us) un.done so.asks un.asks in
      let reads_are : done ++ un.further ≡ reads_in (us ++ u ∷ []) =
      append_assoc (reads_in us) un.done un.further ∙ ap (λ r. reads_in us ++ r) (sym un.reads_are)
      ∙ flat_more (λ t. opened t.events) us u in
      let found : Finds contents (reads_in (us ++ u ∷ [])) =
      subst (λ (r : List Read). Finds contents r) reads_are (finds_both contents done un.further (finds done asks) later.found) in
      let wrote : output_in p.dialect (us ++ u ∷ []) ≡ (output_in p.dialect us ++ un.front) ++ un.back =
      sym (flat_more (λ t. written p.dialect t.events) us u) ∙ ap (λ o. output_in p.dialect us ++ o) un.wrote
      ∙ sym (append_assoc (output_in p.dialect us) un.front un.back) in
      part_of p done un.further (output_in p.dialect us ++ un.front) un.back
      (completed p laws contents start (us ++ u ∷ []) behind un.is_held found allowed) reads_are wrote
      (moves_at (moves_more so.went un.went) (lines_since us u next text has refl behind) refl (flat_more (λ t. readings t.events) us u))
      asks later

  -- ---- the end

  module _ {S K C : Type 0} {left : S → Option (List ℕ)} {taken : K → Option (List ℕ)} {given : C → Option (List ℕ)} {count last : C → ℕ}
      {s s' : S} {k k' : K} {c c' : C} {asked : List Read → Type 0} {owed owed' : Owed} {start after : State} {next : Got} {text : List ℕ}
      (contents : Option Contents) (laws : IsLawful p) (finds : (reads : List Read) → asked reads → Finds contents reads)
      (so : Turned p (Moves left taken given count last s s' k k' c c') asked owed owed' start after next text) where
    -- no line is left
    pub spoke_end : next ≡ got.End → IsAtEnd (left s')
        → Spoke p (Moves left taken given count last s s' k k' c c') asked owed contents (left s) start
    spoke_end is end =
        let us = so.turns in let behind = got_lines next text in
        let none_behind : behind ≡ [] = ap (λ (n : Got). got_lines n text) is in
        let lines : List Line = lines_in us ++ behind in
        let (rest, input, ends) = input_of (left s) (left s') lines so.went.took in
        let lines_are : lines ++ [] ≡ lines_in us ++ [] = append-nil lines ∙ ap (λ l. lines_in us ++ l) none_behind in
        let allowed : Turns p owed 0 start us [] =
        subst (λ (l : List Line). Turns p owed 0 start us (l ++ [])) none_behind (so.allowed [] (none_follows next)) in
        let session : Session State p owed start contents (reads_in us) (lines ++ []) (readings_in us) (output_in p.dialect us) = record {
          turns = us;
          rest = [];
          lines_are = lines_are;
          over = tt;
          allowed = allowed;
          reads_are = refl;
          found = finds (reads_in us) so.asks;
          readings_are = refl;
          output_is = refl;
        } in
        record {
          lines = lines;
          rest = [];
          readings = readings_in us;
          reads = reads_in us;
          output = output_in p.dialect us;
          moves = so.went;
          asks = so.asks;
          input = subst (λ (r : List Line). IsInput (left s) (lines ++ r)) (ends end) input;
          few = subst (λ (l : List Line). length l ≤ lines_wanted p (lines ++ [])) (append-nil lines)
              (wanted_few p (lines ++ []) us [] lines_are (laws.wanted owed 0 start us [] allowed tt) (omega arith));
          decided = inl refl;
          allowed = session;
        }

    -- the next line ends the session
    pub took_quit : HasLine next → p.quits (got_line next text) ≡ true
        → TookQuit p (Moves left taken given count last s s' k k' c c')
    took_quit has quits = record {
      before = lines_in so.turns;
      line = got_line next text;
      output = output_in p.dialect so.turns;
      readings = readings_in so.turns;
      moves = moves_at so.went (ap (λ l. lines_in so.turns ++ l) (line_taken next text has)) refl refl;
      quits = quits;
    }

    pub spoke_quit : HasLine next → p.quits (got_line next text) ≡ true
        → Spoke p (Moves left taken given count last s s' k k' c c') asked owed contents (left s) start
    spoke_quit has quits =
        let us = so.turns in let behind = got_lines next text in let line = got_line next text in
        let is_line : behind ≡ line ∷ [] = line_taken next text has in
        let lines : List Line = lines_in us ++ behind in
        let (rest, input, ends) = input_of (left s) (left s') lines so.went.took in
        let lines_are : (more : List Line) → lines ++ more ≡ lines_in us ++ (line ∷ more) =
        λ more. ap (λ l. (lines_in us ++ l) ++ more) is_line ∙ append_assoc (lines_in us) (line ∷ []) more in
        let allowed : (more : List Line) → Turns p owed 0 start us (line ∷ more) =
        λ more. subst (λ (l : List Line). Turns p owed 0 start us (l ++ more)) is_line (so.allowed more (line_followed next has more)) in
        let session : (more : List Line) → Session State p owed start contents (reads_in us) (lines ++ more) (readings_in us) (output_in p.dialect us) =
        λ more. record {
          turns = us;
          rest = line ∷ more;
          lines_are = lines_are more;
          over = quits;
          allowed = allowed more;
          reads_are = refl;
          found = finds (reads_in us) so.asks;
          readings_are = refl;
          output_is = refl;
        } in
        record {
          lines = lines;
          rest = rest;
          readings = readings_in us;
          reads = reads_in us;
          output = output_in p.dialect us;
          moves = so.went;
          asks = so.asks;
          input = input;
          few = quit_few rest (lines_are rest) (laws.wanted owed 0 start us (line ∷ rest) (allowed rest) quits) is_line;
          decided = inr session;
          allowed = session rest;
        }
      where
        quit_few : (rest : List Line) → (lines_in so.turns ++ got_lines next text) ++ rest ≡ lines_in so.turns ++ (got_line next text ∷ rest)
            → lines_wanted p (lines_in so.turns ++ (got_line next text ∷ rest)) ≡ length (lines_in so.turns) + 1
            → got_lines next text ≡ got_line next text ∷ []
            → length (lines_in so.turns ++ got_lines next text) ≤ lines_wanted p ((lines_in so.turns ++ got_lines next text) ++ rest)
        quit_few rest are wanted is =
            let count = length-append (lines_in so.turns) (got_lines next text) in let single = ap length is in
            let same = ap (λ l. lines_wanted p l) are in omega (arith, count, single, same, wanted)
