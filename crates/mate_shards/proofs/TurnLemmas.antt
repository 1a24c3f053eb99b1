-- From the turn of one lock to the turn of one shard, and to a step of the core.
use Rattle.std.specs.Option.{option_map}
use Rattle.std.proofs.Common.{◌≡◌, Bool, true, false, if◌then◌else◌, ℕ, zero, suc, ◌<◌, List, [], ◌∷◌, ◌++◌, length, get_or, set, Option, Some, None, refl, ap, sym, ◌∙◌, subst, arith, append-nil, length-set}
use Rattle.std.specs.Prelude.{All, slice_get}
use Rattle.std.proofs.lemmas.List.Elements.{All-set, All-get_or}
use Rattle.std.proofs.lemmas.Option.{slice_get_within, get_or_from_slice_get}
use native.Mathlib.Decide.{ℕ_discrete}
use mathlib.Core.Logic.{dite}
use Rattle.foundation.proofs.SetLemmas.{slice_get-set_same, slice_get-set_other}
use Rattle.rules_model.specs.declared.board.Position.{Position}
use Rattle.rules_model.specs.declared.board.Repeat.{Repeat}
use Rattle.rules_model.specs.Repeats.{repeat_of}
use Rattle.forced_wins.specs.declared.fact.Fact.{Fact}
use Rattle.fact_lock.specs.Passes.{LockView, IsPassOf, OwnsSeen, entries, Turn as LockTurn}
use Rattle.mate_core.specs.declared.event.Event.TheVariants as event
use Rattle.mate_core.specs.declared.event.Reply.{Reply}
use Rattle.mate_core.specs.declared.event.Reply.TheVariants as replies
use Rattle.mate_core.specs.declared.store.Store.{Store}
use Rattle.mate_core.specs.Best.{best, has_better, is_full, stored}
use Rattle.mate_core.proofs.AnswerLemmas.{served, best-some}
use Rattle.mate_core.specs.Steps.{facts, published, grown, told, publish_at, look_at, step}
use Rattle.mate_shards.specs.declared.published.Published.{Published}
use Rattle.mate_core.specs.declared.packed_fact.Claim.{Claim}
use Rattle.mate_shards.specs.declared.published.Published.TheVariants.{Stored, KnownBetter, Full}
use Rattle.mate_shards.specs.declared.request.Answer.{Answer}
use Rattle.mate_shards.specs.declared.request.Answer.TheVariants as answers
use Rattle.mate_shards.specs.declared.request.Query.{Query}
use Rattle.mate_shards.specs.declared.request.Request.{Request}
use Rattle.mate_shards.specs.declared.request.Request.TheVariants.{Publish, Look}
use Rattle.mate_core.specs.Claims.{claim_of, fact_with}
use Rattle.mate_shards.specs.Shard.{Key, IsListOf, verdict, reply, added}
use Rattle.mate_shards.specs.Turns.{reply_of, home_of, AskTurn, PublishTurn, LookTurn}
use Rattle.mate_shards.specs.Views.{ShardsView, ShardPass, ArePassesOf}

pub some_is : {Y : Type 0} {x y : Y} → ◌≡◌ {A = Option Y} (Some x) (Some y) → x ≡ y
some_is e = cc

module _ {X : Type 0} where
  -- what an index read
  pub read-at : (xs : List X) (k : ℕ) (x : X) → k < length xs → x ≡ get_or xs k x → slice_get xs k ≡ Some x
  read-at [] k x l e = absurd (omega arith)
  read-at (y ∷ ys) zero x l e = ap (λ z. Some z) (sym e)
  read-at (y ∷ ys) (suc k) x l e = read-at ys k x (omega arith) e

  pub all-at : (P : X → Type 0) (xs : List X) (k : ℕ) (x : X) → All P xs → slice_get xs k ≡ Some x → P x
  all-at P xs k x all e = subst P (get_or_from_slice_get xs k x x e) (All-get_or P xs k x (slice_get_within xs k x e) all)

-- ---- one lock and its pass

module _ (s : ShardsView) (ps : List ShardPass) (are : ArePassesOf s ps) (k : ℕ) (below : k < length s.locks) (l : LockView Key) (p : ShardPass) (lock_read : l ≡ get_or s.locks k l) (pass_read : p ≡ get_or ps k p) where
  lock_at : slice_get s.locks k ≡ Some l
  lock_at = read-at s.locks k l below lock_read

  pub pass-at : slice_get ps k ≡ Some p
  pass-at = let e = are.count in read-at ps k p (omega arith) pass_read

  pub is-pass : IsPassOf l p
  is-pass = are.each k l p lock_at pass-at

  pub passes-stay : (q : ShardPass) → IsPassOf l q → q.parts ≡ p.parts → ArePassesOf s (set ps k q)
  passes-stay q is parts = record {
    count = length-set ps k q ∙ are.count;
    each = each;
    parts =
        let n = are.parts.0 in
        (n, All-set (λ v. v.parts ≡ n) ps k q (parts ∙ all-at (λ v. v.parts ≡ n) ps k p are.parts.1 pass-at) are.parts.1);
  }
    where
      each : (j : ℕ) (m : LockView Key) (v : ShardPass) → slice_get s.locks j ≡ Some m → slice_get (set ps k q) j ≡ Some v → IsPassOf m v
      each j m v lock pass =
          dite (ℕ_discrete j k)
          (λ e.
          let within : k < length ps = let c = are.count in omega arith in
          let same_lock : l ≡ m = some_is (sym lock_at ∙ (ap (slice_get s.locks) (sym e) ∙ lock)) in
          let same_pass : q ≡ v = some_is (sym (slice_get-set_same ps k q within) ∙ (ap (slice_get (set ps k q)) (sym e) ∙ pass)) in
          subst (λ x. IsPassOf x v) same_lock (subst (λ x. IsPassOf l x) same_pass is))
          (λ apart. are.each j m v lock (sym (slice_get-set_other ps k j q (λ e. apart (sym e))) ∙ pass))

  pub asks : (keys : All (λ m. m.key ≡ (s.frame, s.capacity)) s.locks) (request : Request) (answer : Answer) (q : ShardPass) → LockTurn reply added l.key p request answer q → IsListOf l.key q.seen → OwnsSeen q → q.parts ≡ p.parts → AskTurn s ps k request answer (set ps k q)
  asks keys request answer q turn holds owns parts =
      let key = all-at (λ m. m.key ≡ (s.frame, s.capacity)) s.locks k l keys lock_at in
      let t = subst (λ x. LockTurn reply added x p request answer q) key turn in
      record {
        list = t.list;
        turn = record {
          old = p;
          pass = q;
          was = pass-at;
          is = refl;
          begins = t.begins;
          own = t.own;
          places_are = owns;
          parts = parts;
          true_facts = let P : Key → Type 0 = λ x. IsListOf x q.seen in (subst P key holds).true_facts;
          few = let P : Key → Type 0 = λ x. IsListOf x q.seen in (subst P key holds).few;
        };
        answered = t.answered;
        seen = t.seen;
      }

-- ---- the core does the same

module _ (store : Store) (worker k : ℕ) (list : List Fact) (at : slice_get store.shards k ≡ Some list) where
  publish_there : (f : Fact) → step store (event.Publish worker k f) ≡ publish_at store worker k f (Some list)
  unfolding step
  publish_there f = ap (publish_at store worker k f) at

  look_there : (r : Repeat) (c n : ℕ) → step store (event.Look worker k r c n) ≡ look_at store worker r c n (Some list)
  unfolding step
  look_there r c n = ap (look_at store worker r c n) at

  told_keeps : (o : Option Fact) → (told store worker o).shards ≡ store.shards
  told_keeps None = refl
  told_keeps (Some f) = refl

  pub publish-step : (f : Fact) → ((step store (event.Publish worker k f)).1 ≡ published store.capacity list f) × (slice_get (step store (event.Publish worker k f)).0.shards k ≡ Some (grown store.capacity list f))
  publish-step f =
      let e = publish_there f in
      let within = slice_get_within store.shards k list at in
      (ap (λ (x : Store × Reply). x.1) e, ap (λ (x : Store × Reply). slice_get x.0.shards k) e ∙ slice_get-set_same store.shards k (grown store.capacity list f) within)

  pub look-step : (r : Repeat) (c n : ℕ) → ((step store (event.Look worker k r c n)).1 ≡ replies.Found (best list r c n)) × (slice_get (step store (event.Look worker k r c n)).0.shards k ≡ Some list)
  look-step r c n =
      let e = look_there r c n in (
        ap (λ (x : Store × Reply). x.1) e,
        ap (λ (x : Store × Reply). slice_get x.0.shards k) e ∙ (ap (λ xs. slice_get xs k) (told_keeps (best list r c n)) ∙ at),
      )

entries-facts : (o : Option Fact) → entries o ≡ facts o
entries-facts None = refl
entries-facts (Some f) = refl

-- the verdict is the reply of the core
verdict-reply : (capacity : ℕ) (fs : List Fact) (f : Fact) → reply_of (verdict capacity fs f) ≡ published capacity fs f
verdict-reply capacity fs f = cases (has_better fs f) (is_full capacity fs)
  where
    cases : (b full : Bool) → reply_of (if b then KnownBetter else if full then Full else Stored) ≡ (if b then replies.KnownBetter else if full then replies.Full else replies.Stored)
    cases true full = refl
    cases false true = refl
    cases false false = refl

pub publishes : (s : ShardsView) (ps after : List ShardPass) (f : Fact) (answer : Published) (k : ℕ) → k ≡ home_of s f.repeat → AskTurn s ps k (Publish f) (answers.Published answer) after → PublishTurn s ps f answer after
publishes s ps after f answer k home ask =
    let P : ℕ → Type 0 = λ j. AskTurn s ps j (Publish f) (answers.Published answer) after in
    let a = subst P home ask in
    let seen : a.turn.pass.seen ≡ grown s.capacity a.list f = a.seen ∙ ap (λ xs. a.list ++ xs) (entries-facts (stored s.capacity a.list f)) in
    let answered : reply_of answer ≡ published s.capacity a.list f = ap reply_of (verdict_is a.answered) ∙ verdict-reply s.capacity a.list f in
    record {
      list = a.list;
      turn = a.turn;
      answered = answered;
      seen = seen;
      core = λ worker store capacity at.
          let t = publish-step store worker (home_of s f.repeat) a.list at f in
          (t.0 ∙ (ap (λ c. published c a.list f) capacity ∙ sym answered), t.1 ∙ ap (λ xs. Some xs) (ap (λ c. grown c a.list f) capacity ∙ sym seen));
    }
  where
    verdict_is : {x y : Published} → answers.Published x ≡ answers.Published y → x ≡ y
    verdict_is e = cc

-- the best answer is of the repeat of the query, so what it says and that repeat are the fact
best-whole : (fs : List Fact) (r : Repeat) (c n : ℕ) → option_map (fact_with r) (option_map claim_of (best fs r c n)) ≡ best fs r c n
best-whole fs r c n = of_found (best fs r c n) refl
  where
    of_found : (o : Option Fact) → best fs r c n ≡ o → option_map (fact_with r) (option_map claim_of o) ≡ o
    of_found None e = refl
    of_found (Some f) e =
        let first = best-some fs r c n f e in
        let of : f.repeat ≡ r = (served f r c n first.serves_it).0 in
        ap (λ x. Some (fact_with x (claim_of f))) (sym of)

pub looks : (s : ShardsView) (ps after : List ShardPass) (p : Position) (query : Query) (moves : ℕ) (found : Option Claim) (answer : Option Fact) (k : ℕ) → query.repeat ≡ repeat_of p → query.counter ≡ p.counter → query.moves ≡ moves → answer ≡ option_map (fact_with (repeat_of p)) found → k ≡ home_of s (repeat_of p) → AskTurn s ps k (Look query) (answers.Found found) after → LookTurn s ps p moves answer after
looks s ps after p query moves found answer k same_repeat same_counter same_moves whole home ask =
    let P : ℕ → Type 0 = λ j. AskTurn s ps j (Look query) (answers.Found found) after in
    let a = subst P home ask in
    let seen : a.turn.pass.seen ≡ a.list = a.seen ∙ append-nil a.list in
    let asked : best a.list query.repeat query.counter query.moves ≡ best a.list (repeat_of p) p.counter moves = ap (λ r. best a.list r query.counter query.moves) same_repeat ∙ (ap (λ c. best a.list (repeat_of p) c query.moves) same_counter ∙ ap (best a.list (repeat_of p) p.counter) same_moves) in
    let said : found ≡ option_map claim_of (best a.list (repeat_of p) p.counter moves) = found_is a.answered ∙ ap (option_map claim_of) asked in
    let answered : answer ≡ best a.list (repeat_of p) p.counter moves = whole ∙ (ap (option_map (fact_with (repeat_of p))) said ∙ best-whole a.list (repeat_of p) p.counter moves) in
    record {
      list = a.list;
      turn = a.turn;
      answered = answered;
      seen = seen;
      core = λ worker store capacity at.
          let t = look-step store worker (home_of s (repeat_of p)) a.list at (repeat_of p) p.counter moves in
          (t.0 ∙ ap (λ o. replies.Found o) (sym answered), t.1 ∙ ap (λ xs. Some xs) (sym seen));
    }
  where
    found_is : {x y : Option Claim} → answers.Found x ≡ answers.Found y → x ≡ y
    found_is e = cc
