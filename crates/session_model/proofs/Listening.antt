-- Lines that are heard one after another, with no reading of the clock.
use Rattle.std.proofs.Common.{◌≡◌, ℕ, List, [], ◌++◌, refl, ap, sym, subst, ◌∙◌, append_assoc, Some}
use Rattle.std.specs.declared.option.Option.{Option}
use Rattle.std.specs.Io.KnownBytes.{Appends}
use Rattle.std.proofs.lemmas.List.{append-nil}
use Rattle.io_ports.specs.Lines.{Line}
use Rattle.io_ports.specs.Source.{Takes, got_lines, polled_lines, polled_of}
use Rattle.io_ports.specs.declared.dialect.Dialect.{Dialect}
use Rattle.io_ports.specs.declared.limits.SearchFault.{SearchFault}
use Rattle.io_ports.specs.declared.source.Got.{Got}
use Rattle.io_ports.specs.declared.source.Got.TheVariants as got
use Rattle.io_ports.specs.declared.source.Polled.{Polled}
use Rattle.io_ports.specs.declared.source.Polled.TheVariants as polled
use Rattle.io_ports.proofs.Moved.{appends_more, appends_none, takes_more, takes_none}
use Rattle.watching.specs.declared.halt.Cut.{Cut}
use Rattle.watching.specs.declared.halt.Cut.TheVariants as cut
use Rattle.watching.specs.Events.{Event, Listens, heard_lines, readings, written}
use Rattle.watching.specs.EventLaws.{heard_lines-append, listens_more, readings-append, written-append}
use Rattle.watching.specs.Looks.{Broke, Heeds, IsHeardAs, IsWholeBut, Ran, Replies, held}
use Rattle.session_model.specs.Lines.{Exchanges, HeardPart, StopsBy}

-- a poll would have taken the same lines
polled_as_got : (answer : Got) (text : List ℕ) → polled_lines (polled_of answer) text ≡ got_lines answer text
polled_as_got got.Line text = refl
polled_as_got got.TooLong text = refl
polled_as_got got.End text = refl
polled_as_got got.Failed text = refl

polled_as : (answer : Got) (polled : Polled) (text : List ℕ) → polled ≡ polled_of answer
    → polled_lines polled text ≡ got_lines answer text
polled_as answer polled text is = ap (λ (p : Polled). polled_lines p text) is ∙ polled_as_got answer text

-- the lines of two parts, of which the first holds none back
lines_both : (a b : List Event) (behind taken : List Line) → heard_lines b ++ behind ≡ taken
    → (heard_lines a ++ []) ++ taken ≡ heard_lines (a ++ b) ++ behind
lines_both a b behind taken is =
    ap (λ lines. lines ++ taken) (append-nil (heard_lines a)) ∙ ap (λ lines. heard_lines a ++ lines) (sym is)
    ∙ sym (append_assoc (heard_lines a) (heard_lines b) behind) ∙ ap (λ lines. lines ++ behind) (sym (heard_lines-append a b))

none_read : (a b : List Event) → readings a ≡ [] → readings b ≡ [] → readings (a ++ b) ≡ []
none_read a b first then = readings-append a b ∙ ap (λ taken. taken ++ readings b) first ∙ then

module _ {S K : Type 0} {left : S → Option (List ℕ)} {taken : K → Option (List ℕ)} (dialect : Dialect) where
  -- no line was heard
  pub heard_none : (s : S) (k : K) → Ran dialect (Exchanges left taken s s k k) [] (Listens dialect)
  heard_none s k = record {
    events = [];
    went = record { took = takes_none (left s); wrote = appends_none (taken k); unread = refl };
    holds = tt;
  }

  module _ {s s' s'' : S} {k k' k'' : K} (answer : Got) (polled : Polled) (text : List ℕ) (as_polled : polled ≡ polled_of answer)
      (so_far : Ran dialect (Exchanges left taken s s' k k') [] (Listens dialect))
      (takes : Takes (left s') (left s'') (got_lines answer text)) where
    -- one more line was heard, or it ends this
    pub heard_more : (why : Option Cut) → Heeds dialect (Appends (taken k') (taken k'')) polled text why
        → Ran dialect (Exchanges left taken s s'' k k'') (held why text) (Listens dialect)
    heard_more why heeds =
        let b = heeds.ran in let (lines_are, wrote, unread) = b.went in
        record {
          events = so_far.events ++ b.events;
          went = record {
            took = subst (λ (l : List Line). Takes (left s) (left s'') l)
                (lines_both so_far.events b.events (held why text) (got_lines answer text) (lines_are ∙ polled_as answer polled text as_polled))
                (takes_more (left s) (left s') (left s'') (heard_lines so_far.events ++ []) (got_lines answer text) so_far.went.took takes);
            wrote = subst (λ (o : List ℕ). Appends (taken k) (taken k'') o) (sym (written-append dialect so_far.events b.events))
                (appends_more (taken k) (taken k') (taken k'') (written dialect so_far.events) (written dialect b.events) so_far.went.wrote wrote);
            unread = none_read so_far.events b.events so_far.went.unread unread;
          };
          holds = listens_more dialect so_far.events b.events so_far.holds b.holds;
        }

    -- a fault ends it
    pub heard_broke : (why : SearchFault)
        (b : Broke dialect (Replies (polled_lines polled text) (Appends (taken k') (taken k''))) (Listens dialect))
        → IsWholeBut why b.back → HeardPart dialect (Exchanges left taken s s'' k k'') why
    heard_broke why b whole =
        let (lines_are, wrote, unread) = b.went in
        record {
          broke = record {
            events = so_far.events ++ b.events;
            front = written dialect so_far.events ++ b.front;
            back = b.back;
            wrote = written-append dialect so_far.events b.events ∙ ap (λ o. written dialect so_far.events ++ o) b.wrote
                ∙ sym (append_assoc (written dialect so_far.events) b.front b.back);
            went = record {
              took = subst (λ (l : List Line). Takes (left s) (left s'') l)
                  (lines_both so_far.events b.events [] (got_lines answer text) (append-nil (heard_lines b.events) ∙ lines_are ∙ polled_as answer polled text as_polled) ∙ append-nil (heard_lines (so_far.events ++ b.events)))
                  (takes_more (left s) (left s') (left s'') (heard_lines so_far.events ++ []) (got_lines answer text) so_far.went.took takes);
              wrote = appends_more (taken k) (taken k') (taken k'') (written dialect so_far.events) b.front so_far.went.wrote wrote;
              unread = none_read so_far.events b.events so_far.went.unread unread;
            };
            holds = listens_more dialect so_far.events b.events so_far.holds b.holds;
          };
          whole = whole;
        }

  -- it ends with all of it written
  pub heard_off : {s s' : S} {k k' : K} (why : SearchFault)
      → Ran dialect (Exchanges left taken s s' k k') [] (Listens dialect)
      → HeardPart dialect (Exchanges left taken s s' k k') why
  heard_off {s = s} {s' = s'} why r = record {
    broke = record {
      events = r.events;
      front = written dialect r.events;
      back = [];
      wrote = sym (append-nil (written dialect r.events));
      went = record {
        took = subst (λ (l : List Line). Takes (left s) (left s') l) (append-nil (heard_lines r.events)) r.went.took;
        wrote = r.went.wrote;
        unread = r.went.unread;
      };
      holds = r.holds;
    };
    whole = λ _. refl;
  }

-- what is heard so stops a search
pub stops_by : (dialect : Dialect) (answer : Polled) (text : List ℕ) (why : Cut) → IsHeardAs dialect answer text (Some why)
    → StopsBy dialect text why
stops_by dialect answer text cut.Line is = is.1
stops_by dialect answer text cut.End is = tt
stops_by dialect answer text (cut.Quota quota) is = is
stops_by dialect answer text (cut.Deadline reading) is = is

-- only an answer of the end is heard as the end
ends_as : (answer : Got) → polled_of answer ≡ polled.End → answer ≡ got.End
ends_as got.Line e = absurd (cc)
ends_as got.TooLong e = absurd (cc)
ends_as got.End e = refl
ends_as got.Failed e = absurd (cc)

pub ends_by : (dialect : Dialect) (answer : Got) (polled : Polled) (text : List ℕ) (why : Cut) → polled ≡ polled_of answer
    → IsHeardAs dialect polled text (Some why) → why ≡ cut.End → answer ≡ got.End
ends_by dialect answer polled text cut.Line as_polled is e = absurd (cc)
ends_by dialect answer polled text cut.End as_polled is e = ends_as answer (sym as_polled ∙ is)
ends_by dialect answer polled text (cut.Quota quota) as_polled is e = absurd is
ends_by dialect answer polled text (cut.Deadline reading) as_polled is e = absurd is

pub failed_by : (answer : Got) → polled_of answer ≡ polled.Failed → answer ≡ got.Failed
failed_by got.Line e = absurd (cc)
failed_by got.TooLong e = absurd (cc)
failed_by got.End e = absurd (cc)
failed_by got.Failed e = refl
