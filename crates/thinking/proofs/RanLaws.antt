-- Events after other events, where a line is held.
use Rattle.std.proofs.Common.{◌≡◌, ℕ, List, [], ◌∷◌, ◌++◌, map, refl, ap, sym, ◌∙◌, append_assoc}
use Rattle.std.specs.declared.option.Option.{Option}
use Rattle.std.specs.Io.KnownBytes.{Appends}
use Rattle.std.specs.List.{concat}
use Rattle.std.proofs.lemmas.List.{append-nil}
use Rattle.io_ports.specs.Clock.{GivesReadings, count_after, last_after}
use Rattle.io_ports.specs.declared.dialect.Dialect.{Dialect}
use Rattle.io_ports.specs.Lines.{Line}
use Rattle.io_ports.specs.Trace.{Moves}
use Rattle.io_ports.proofs.Moved.{moves_at, moves_more, takes_none}
use Rattle.watching.specs.EventLaws.{heard_lines-append, readings-append, written-append}
use Rattle.watching.specs.Events.{Event, Says, Reads, AreUnstopped, heard_lines, readings, said, written}
use Rattle.watching.specs.Looks.{Broke, Moved, Ran}
use Rattle.session_model.specs.Turned.{RanPart}
use Rattle.thinking.specs.declared.style.Style.{Style}
use Rattle.thinking.specs.declared.style.Style.TheVariants as style
use Rattle.thinking.specs.Tells.{reads_by}

-- ---- texts that are said

pub lines_of_says : (texts : List (List ℕ)) → heard_lines (map Says texts) ≡ []
lines_of_says [] = refl
lines_of_says (text ∷ texts) = lines_of_says texts

pub written_says : (dialect : Dialect) (texts : List (List ℕ)) → written dialect (map Says texts) ≡ concat texts
written_says dialect [] = refl
written_says dialect (text ∷ texts) = ap (λ more. text ++ more) (written_says dialect texts)

pub readings_says : (texts : List (List ℕ)) → readings (map Says texts) ≡ []
readings_says [] = refl
readings_says (text ∷ texts) = readings_says texts

pub said_says : (texts : List (List ℕ)) → said (map Says texts) ≡ texts
said_says [] = refl
said_says (text ∷ texts) = ap (λ more. text ∷ more) (said_says texts)

pub unstopped_says : (dialect : Dialect) (texts : List (List ℕ)) → AreUnstopped dialect (map Says texts)
unstopped_says dialect [] = tt
unstopped_says dialect (text ∷ texts) = (tt, unstopped_says dialect texts)

-- ---- after a depth the clock is read where lines have times, and the lines are said

abbrev pub told : Style → ℕ → List (List ℕ) → List Event
told style.Uci reading texts = map Says texts
told style.Post reading texts = Reads reading ∷ map Says texts
told style.Silent reading texts = map Says texts

pub lines_of_told : (style : Style) (reading : ℕ) (texts : List (List ℕ)) → heard_lines (told style reading texts) ≡ []
lines_of_told style.Uci reading texts = lines_of_says texts
lines_of_told style.Post reading texts = lines_of_says texts
lines_of_told style.Silent reading texts = lines_of_says texts

pub written_told : (dialect : Dialect) (style : Style) (reading : ℕ) (texts : List (List ℕ))
    → written dialect (told style reading texts) ≡ concat texts
written_told dialect style.Uci reading texts = written_says dialect texts
written_told dialect style.Post reading texts = written_says dialect texts
written_told dialect style.Silent reading texts = written_says dialect texts

pub readings_told : (style : Style) (reading : ℕ) (texts : List (List ℕ)) → readings (told style reading texts) ≡ reads_by style reading
readings_told style.Uci reading texts = readings_says texts
readings_told style.Post reading texts = ap (λ more. reading ∷ more) (readings_says texts)
readings_told style.Silent reading texts = readings_says texts

-- ---- what went through the ports

-- nothing is held
pub broke_held : {moved : Moved} {P Q : List Event → Type 0} (dialect : Dialect)
    → ((events : List Event) → P events → Q events) → Broke dialect moved P → RanPart dialect moved [] Q
broke_held {moved = moved} dialect f b = record {
  events = b.events;
  front = b.front;
  back = b.back;
  wrote = b.wrote;
  went = ap_lines b.events b.went;
  holds = f b.events b.holds;
}
  where
    ap_lines : (events : List Event) {front : List ℕ} → moved (heard_lines events) front (readings events) → moved (heard_lines events ++ []) front (readings events)
    ap_lines events went = rw append-nil went

module _ {S K C : Type 0} {left : S → Option (List ℕ)} {taken : K → Option (List ℕ)} {given : C → Option (List ℕ)} {count last : C → ℕ} (dialect : Dialect) where
  -- what is told went through the sink and the clock
  pub told_moves : (s : S) {k k' : K} {c c' : C} (style : Style) (reading : ℕ) {output : List ℕ}
      → Appends (taken k) (taken k') output
      → GivesReadings (count c') (given c) (given c') (reads_by style reading)
      → count c' ≡ count_after (count c) (reads_by style reading)
      → last c' ≡ last_after (last c) (reads_by style reading)
      → Moves left taken given count last s s k k' c c' [] output (reads_by style reading)
  told_moves s style reading app gives counts lasts =
      record { took = takes_none (left s); wrote = app; clocked = gives; counted = counts; read = lasts }

  -- after events that leave a line held, or none
  pub ran_told : {s s' : S} {k k' k'' : K} {c c' c'' : C} {behind : List Line} {P : List Event → Type 0} (R : List Event → Type 0)
      (style : Style) (reading : ℕ) (texts : List (List ℕ))
      → ((a : List Event) → P a → R (a ++ told style reading texts))
      → Ran dialect (Moves left taken given count last s s' k k' c c') behind P
      → Moves left taken given count last s' s' k' k'' c' c'' [] (concat texts) (reads_by style reading)
      → Ran dialect (Moves left taken given count last s s' k k'' c c'') behind R
  ran_told {behind = behind} R style reading texts f a moves =
      let more = told style reading texts in
      record {
        events = a.events ++ more;
        went = moves_at (moves_more a.went moves)
            (append-nil (heard_lines a.events ++ behind)
            ∙ ap (λ l. l ++ behind) (sym (heard_lines-append a.events more ∙ ap (λ l. heard_lines a.events ++ l) (lines_of_told style reading texts) ∙ append-nil (heard_lines a.events))))
            (ap (λ l. written dialect a.events ++ l) (sym (written_told dialect style reading texts)) ∙ sym (written-append dialect a.events more))
            (ap (λ l. readings a.events ++ l) (sym (readings_told style reading texts)) ∙ sym (readings-append a.events more));
        holds = f a.events a.holds;
      }

  -- the same, where a front part is written
  pub broke_told : {s s' : S} {k k' k'' : K} {c c' c'' : C} {behind : List Line} {P : List Event → Type 0} (R : List Event → Type 0)
      (style : Style) (reading : ℕ) (texts : List (List ℕ)) (front back : List ℕ)
      → ((a : List Event) → P a → R (a ++ told style reading texts))
      → Ran dialect (Moves left taken given count last s s' k k' c c') behind P
      → concat texts ≡ front ++ back
      → Moves left taken given count last s' s' k' k'' c' c'' [] front (reads_by style reading)
      → RanPart dialect (Moves left taken given count last s s' k k'' c c'') behind R
  broke_told {behind = behind} R style reading texts front back f a whole moves =
      let more = told style reading texts in
      record {
        events = a.events ++ more;
        front = written dialect a.events ++ front;
        back = back;
        wrote = written-append dialect a.events more
            ∙ ap (λ l. written dialect a.events ++ l) (written_told dialect style reading texts ∙ whole)
            ∙ sym (append_assoc (written dialect a.events) front back);
        went = moves_at (moves_more a.went moves)
            (append-nil (heard_lines a.events ++ behind)
            ∙ ap (λ l. l ++ behind) (sym (heard_lines-append a.events more ∙ ap (λ l. heard_lines a.events ++ l) (lines_of_told style reading texts) ∙ append-nil (heard_lines a.events))))
            refl
            (ap (λ l. readings a.events ++ l) (sym (readings_told style reading texts)) ∙ sym (readings-append a.events more));
        holds = f a.events a.holds;
      }

  -- one thing went on, and in another a fault came
  pub broke_held_more : {s s' s'' : S} {k k' k'' : K} {c c' c'' : C} {behind : List Line} {P Q : List Event → Type 0} (R : List Event → Type 0)
      → ((a b : List Event) → P a → Q b → R (a ++ b))
      → Ran dialect (Moves left taken given count last s s' k k' c c') [] P
      → RanPart dialect (Moves left taken given count last s' s'' k' k'' c' c'') behind Q
      → RanPart dialect (Moves left taken given count last s s'' k k'' c c'') behind R
  broke_held_more {behind = behind} R f a b = record {
    events = a.events ++ b.events;
    front = written dialect a.events ++ b.front;
    back = b.back;
    wrote = written-append dialect a.events b.events ∙ ap (λ l. written dialect a.events ++ l) b.wrote ∙ sym (append_assoc (written dialect a.events) b.front b.back);
    went = moves_at (moves_more a.went b.went)
        (ap (λ l. l ++ (heard_lines b.events ++ behind)) (append-nil (heard_lines a.events)) ∙ sym (append_assoc (heard_lines a.events) (heard_lines b.events) behind) ∙ ap (λ l. l ++ behind) (sym (heard_lines-append a.events b.events)))
        refl (sym (readings-append a.events b.events));
    holds = f a.events b.events a.holds b.holds;
  }
