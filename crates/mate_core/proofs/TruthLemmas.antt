-- Allowed events keep every fact of the store true.
use Rattle.std.proofs.Common.{◌≡◌, ℕ, ◌==◌, Bool, true, false, List, [], ◌∷◌, ◌++◌, Option, Some, None, refl, ap, sym, ◌∙◌, subst, ◌||◌, if◌then◌else◌}
use Rattle.std.specs.Prelude.{All, slice_get, slice_set, IfOk, Ok, Err, Result}
use Rattle.std.specs.List.{filter}
use Rattle.std.proofs.lemmas.List.Elements.{All-set, All-append, All-push, All-nil, All-cons, All-filter, All-map, All-contains, All-get_or}
use Rattle.std.proofs.lemmas.Option.{get_or_from_slice_get, slice_get_within}
use Rattle.foundation.specs.declared.Memory.{Memory}
use Rattle.foundation.specs.Member.{Member}
use Rattle.foundation.proofs.Members.{contains-member}
use Rattle.rules_model.specs.declared.board.Repeat.{Repeat}
use Rattle.forced_wins.specs.declared.fact.Fact.{Fact}
use Rattle.forced_wins.proofs.FactLaws.{grounded-true}
use Rattle.mate_core.specs.declared.event.Event.{Event}
use Rattle.mate_core.specs.declared.event.Event.TheVariants.{Publish, Look, Hint}
use Rattle.mate_core.specs.declared.event.Reply.{Reply}
use Rattle.mate_core.specs.declared.store.Known.{Known}
use Rattle.mate_core.specs.declared.store.Store.{Store}
use Rattle.mate_core.specs.Best.{best, has_better, is_full, stored}
use Rattle.mate_core.specs.Steps.{facts, grown, told, publish_at, look_at, step}
use Rattle.mate_core.specs.Runs.{IsTrueIn, AreTrueIn, HoldsTruth, known_to, IsAllowed, AreAllowed, after_all, HasNoFact, IsReached}
use Rattle.mate_core.proofs.AnswerLemmas.{best-some}

all_at : {X : Type 0} (P : X → Type 0) (xs : List X) (i : ℕ) (x : X) → All P xs → slice_get xs i ≡ Some x → P x
all_at P xs i x all e = subst P (get_or_from_slice_get xs i x x e) (All-get_or P xs i x (slice_get_within xs i x e) all)

if_stored : (P : Fact → Type 0) (f : Fact) → P f → (b : Bool) → All P (facts (if b then None else Some f))
if_stored P f h true = All-nil P
if_stored P f h false = All-cons P f [] h (All-nil P)

pub grown-all : (P : Fact → Type 0) (capacity : ℕ) (fs : List Fact) (f : Fact) → All P fs → P f → All P (grown capacity fs f)
grown-all P capacity fs f all h =
    All-append P fs (facts (stored capacity fs f)) all (if_stored P f h (has_better fs f || is_full capacity fs))

pub best-true : (P : Fact → Type 0) (fs : List Fact) (r : Repeat) (c n : ℕ) (f : Fact) → All P fs → best fs r c n ≡ Some f → P f
best-true P fs r c n f all e = let s = best-some fs r c n f e in all_at P fs s.place f all s.stands

-- ---- one step

told_true : (s : Store) (worker : ℕ) (f : Fact) → HoldsTruth s → IsTrueIn s.frame f → HoldsTruth (told s worker (Some f))
told_true s worker f h is = record {
  shards = h.shards;
  known = All-push (λ k. IsTrueIn s.frame k.fact) s.known (record { worker = worker; fact = f }) h.known is;
}

publish_true : (s : Store) (worker shard : ℕ) (f : Fact) (o : Option (List Fact)) → slice_get s.shards shard ≡ o → HoldsTruth s → IsTrueIn s.frame f → HoldsTruth (publish_at s worker shard f o).0
publish_true s worker shard f None e h is = h
publish_true s worker shard f (Some fs) e h is =
    let P = AreTrueIn s.frame in
    let list = grown-all (IsTrueIn s.frame) s.capacity fs f (all_at P s.shards shard fs h.shards e) is in
    told_true (record s { shards = slice_set s.shards shard (grown s.capacity fs f) }) worker f (record { shards = All-set P s.shards shard (grown s.capacity fs f) list h.shards; known = h.known }) is

found_true : (s : Store) (worker : ℕ) (o : Option Fact) → HoldsTruth s → ((f : Fact) → o ≡ Some f → IsTrueIn s.frame f) → HoldsTruth (told s worker o)
found_true s worker None h is = h
found_true s worker (Some f) h is = told_true s worker f h (is f refl)

look_true : (s : Store) (worker shard : ℕ) (r : Repeat) (c n : ℕ) (o : Option (List Fact)) → slice_get s.shards shard ≡ o → HoldsTruth s → HoldsTruth (look_at s worker r c n o).0
look_true s worker shard r c n None e h = h
look_true s worker shard r c n (Some fs) e h =
    found_true s worker (best fs r c n) h (λ f. best-true (IsTrueIn s.frame) fs r c n f (all_at (AreTrueIn s.frame) s.shards shard fs h.shards e))

known_true : (s : Store) (worker : ℕ) → HoldsTruth s → (k : Fact) → Member k (known_to worker s.known) → IsTrueIn s.frame k
known_true s worker h k m =
    let P : Fact → Type 0 = IsTrueIn s.frame in
    let test : Known → Bool = λ x. x.worker == worker in
    let picked = All-filter test (λ x. P x.fact) s.known h.known in
    All-contains P (known_to worker s.known) k (All-map P (λ (x : Known). x.fact) (filter test s.known) picked) (contains-member k (known_to worker s.known) m)

step_true : (s : Store) (e : Event) → HoldsTruth s → IsAllowed s e → HoldsTruth (step s e).0
unfolding step
step_true s (Publish worker shard f) h ok =
    publish_true s worker shard f (slice_get s.shards shard) refl h (grounded-true s.frame.rules s.frame.blocked s.frame.attacker (known_to worker s.known) (known_true s worker h) f ok)
step_true s (Look worker shard r c n) h ok = look_true s worker shard r c n (slice_get s.shards shard) refl h
step_true s (Hint word value) h ok = h

-- ---- runs

run_true : (s : Store) (es : List Event) → HoldsTruth s → AreAllowed s es → HoldsTruth (after_all s es)
unfolding after_all
run_true s [] h ok = h
run_true s (e ∷ es) h ok = run_true (step s e).0 es (step_true s e h ok.0) ok.1

one_more : (s : Store) (es : List Event) (e : Event) → after_all s (es ++ e ∷ []) ≡ (step (after_all s es) e).0
unfolding after_all
one_more s [] e = refl
one_more s (x ∷ es) e = one_more (step s x).0 es e

one_more_allowed : (s : Store) (es : List Event) (e : Event) → AreAllowed s es → IsAllowed (after_all s es) e → AreAllowed s (es ++ e ∷ [])
unfolding after_all
one_more_allowed s [] e all ok = (ok, tt)
one_more_allowed s (x ∷ es) e all ok = (all.0, one_more_allowed (step s x).0 es e all.1 ok)

start_true : (s : Store) → HasNoFact s → HoldsTruth s
start_true s none = record {
  shards = λ k d l. let P : List Fact → Type 0 = AreTrueIn s.frame in subst P (sym (none.shards k d l)) (All-nil (IsTrueIn s.frame));
  known = let P : List Known → Type 0 = All (λ k. IsTrueIn s.frame k.fact) in subst P (sym none.known) (All-nil (λ k. IsTrueIn s.frame k.fact));
}

-- every fact of a store that allowed events reach is true
pub reached-true : (s : Store) → IsReached s → HoldsTruth s
reached-true s r = subst HoldsTruth r.is (run_true r.start r.events (start_true r.start r.empty) r.allowed)

pub reached-step : (s : Store) (e : Event) → IsReached s → IsAllowed s e → IsReached (step s e).0
reached-step s e r ok = record {
  start = r.start;
  events = r.events ++ e ∷ [];
  empty = r.empty;
  allowed = one_more_allowed r.start r.events e r.allowed (let P : Store → Type 0 = λ t. IsAllowed t e in subst P (sym r.is) ok);
  is = one_more r.start r.events e ∙ ap (λ t. (step t e).0) r.is;
}

-- ---- what the call says of its result

module _ (s : Store) (e : Event) where
  -- the result is the step of the event's own form
  pub stepped : (form : Event) → e ≡ form → (done : Result (Store × Reply) Memory) → IfOk done (λ d. d ≡ step s form) → IfOk done (λ d. d ≡ step s e)
  stepped form same done is =
      let P : Event → Type 0 = λ x. IfOk done (λ d. d ≡ step s x) in subst P (sym same) is

  pub is-reached : (done : Result (Store × Reply) Memory) → IfOk done (λ d. d ≡ step s e) → IsReached s → IsAllowed s e → IfOk done (λ d. IsReached d.0)
  is-reached (Ok d) is r ok = let P : Store → Type 0 = IsReached in subst P (sym (ap (λ (x : Store × Reply). x.0) is)) (reached-step s e r ok)
  is-reached (Err m) is r ok = tt

  pub is-true : (done : Result (Store × Reply) Memory) → IfOk done (λ d. d ≡ step s e) → IsReached s → IsAllowed s e → IfOk done (λ d. HoldsTruth d.0)
  is-true (Ok d) is r ok = subst HoldsTruth (sym (ap (λ (x : Store × Reply). x.0) is)) (reached-true (step s e).0 (reached-step s e r ok))
  is-true (Err m) is r ok = tt
