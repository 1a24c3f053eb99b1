-- Each step keeps the rule.
use Rattle.std.proofs.Common.{◌≡◌, ◌≢◌, ℕ, zero, suc, ◌+◌, ◌-◌, ◌%◌, ◌^◌, ◌<◌, ◌≤◌, eqb, List, [], ◌∷◌, ◌++◌, length, get_or, set, Option, Some, None, sym, refl, ap, ◌∙◌, subst, ⊎_elim, arith, eq-eqb, ne_eqb, length-append, lit<}
use mathlib.Core.Logic.{dite}
use mathlib.Core.List.{IsPrefix}
use mathlib.Core.Option.{none, some, some-injective, some-ne-none}
use native.Mathlib.Decide.{dec_le, ℕ_discrete}
use lib.ListN.{get_elem?}
use lib.Seq.{set-get_or}
use prog.Atomic.{either}
use Rattle.atomic_table.specs.Table.{State, Me, step, keeps, takes, gives, rest, put_back, opening, Allows, Splits, Joins, Final, Seen}
use Rattle.atomic_table.proofs.Lists.{at_set, at_snoc, at_longer, set_again, set_here, set_else}
use Rattle.fact_lock.specs.declared.view.View.{View}
use Rattle.fact_lock.specs.declared.view.Stage.{Stage}
use Rattle.fact_lock.specs.declared.view.Stage.TheVariants.{Rests, Waits, Acts}
use Rattle.fact_lock.specs.Rule.{held, new_places, holders, owners, opening_view, nobody, at_stage, acting, grown, kept_half, given_half, joined, settled_view, Fits, NobodyActs, IsHome, Kept, drawn, looked, raised, HasTurn, passed, settled}
use Rattle.foundation.specs.Tests.{one_if}
use Rattle.fact_lock.specs.Passes.{times, entries}
use Rattle.fact_lock.proofs.Sums.{total_set, total-push, total_at, total_two, one_if_same, one_if_other, times-append, new_place_here, new_place_else, new_place_past, set_at, few_entries}
use Rattle.fact_lock.proofs.Beginnings.{whole, prefix_trans, longer_begins}

-- a seat does one thing at a time
rests_not_acts : (st : Stage) (t : ℕ) → st ≡ Rests → st ≢ Acts t
rests_not_acts st t e d = absurd (cc)

waits_not_acts : (st : Stage) (n t : ℕ) → st ≡ Waits n → st ≢ Acts t
waits_not_acts st n t e d = absurd (cc)

rests_not_waits : (st : Stage) (t : ℕ) → st ≡ Rests → st ≢ Waits t
rests_not_waits st t e d = absurd (cc)

held_acts : (t : ℕ) (st : Stage) → st ≡ Acts t → held t st ≡ 1
held_acts t st e = ap (held t) e ∙ one_if_same t t refl

held_waits : (t : ℕ) (st : Stage) → st ≡ Waits t → held t st ≡ 1
held_waits t st e = ap (held t) e ∙ one_if_same t t refl

same_value : {J : Type 0} (c : List (ℕ × Option J)) (x y : J) → c ≡ (0, Some x) ∷ [] → c ≡ (0, Some y) ∷ [] → x ≡ y
same_value {J} c x y e d =
    let a : ℕ × Option J = (0, Some x) in
    let b : ℕ × Option J = (0, Some y) in
    let whole : a ∷ [] ≡ b ∷ [] = sym e ∙ d in
    let pair : a ≡ b = cc in
    let second : Some x ≡ Some y = ap (λ (p : ℕ × Option J). p.1) pair in
    cc

module _ {J V : Type 0} where
  -- the value that was taken out is the seat's
  pub taken_is : (m : Me (Option J) V) (x y : J) (found : Option J) → m.1 ≡ (0, Some x) ∷ [] → m.1 ≡ (0, found) ∷ rest m.1 → found ≡ Some y → y ≡ x
  taken_is m x y found has held_out is =
      sym (same_value m.1 x y has (held_out ∙ ap (λ (o : Option J). (0, o) ∷ rest m.1) is ∙ ap (λ (l : List (ℕ × Option J)). (0, Some y) ∷ rest l) has))

  -- the seat, after the value was taken out and another was put in its place
  pub put_in : (m out back : Me (Option J) V) (x y : J) → m.1 ≡ (0, Some x) ∷ [] → out ≡ (m.0, (0, None) ∷ rest m.1) → back ≡ (out.0, (0, Some y) ∷ rest out.1) → back ≡ (m.0, (0, Some y) ∷ [])
  put_in m out back x y has taken put =
      put
      ∙ ap (λ (n : Me (Option J) V). (n.0, (0, Some y) ∷ rest n.1)) taken
      ∙ ap (λ (l : List (ℕ × Option J)). (m.0, (0, Some y) ∷ rest l)) (refl ∙ ap (λ (l : List (ℕ × Option J)). (0, None) ∷ rest l) has)

module _ {J K E : Type 0} (key_of : J → K) (list_of : J → List E) (k : K) where
  abbrev Sight : Type 0
  Sight = View K E

  abbrev St : Type 0
  St = State (Option J) Sight

  abbrev M : Type 0
  M = Me (Option J) Sight

  abbrev Rule : St → Type 0
  Rule = Kept key_of list_of k

  -- a seat that fits goes on to fit while the list grows
  still_fits : (log log' : List E) (serving serving' : ℕ) (u : Sight) → IsPrefix log log' → ((t : ℕ) → u.stage ≡ Acts t → (t ≡ serving') × (u.seen ≡ log')) → Fits k log serving u → Fits k log' serving' u
  still_fits log log' serving serving' u more acts f = record {
    key = f.key;
    seen = prefix_trans u.seen log log' f.seen more;
    told = prefix_trans u.told log log' f.told more;
    acts = acts;
    idle = f.idle;
  }

  fits_set : (log : List E) (serving : ℕ) (views : List Sight) (id : ℕ) (w : Sight) → Fits k log serving w → ((j : ℕ) (u : Sight) → j ≢ id → get_elem? views j ≡ some u → Fits k log serving u)
      → (j : ℕ) (u : Sight) → get_elem? (set views id w) j ≡ some u → Fits k log serving u
  fits_set log serving views id w mine others j u e =
      ⊎_elim
      (λ (x : (j ≡ id) × (w ≡ u)). subst (Fits k log serving) x.1 mine)
      (λ (x : (j ≢ id) × (get_elem? views j ≡ some u)). others j u x.0 x.1)
      (at_set views id j w u e)

  -- a ticket has one holder at most
  at_most_one : (s : St) (r : Rule s) (t : ℕ) → holders t s.views ≤ 1
  at_most_one s r t =
      dite (dec_le r.serving t)
      (λ from. dite (dec_le r.next t) (λ past. let e = r.undrawn t past in omega arith) (λ before. let e = r.out t from (omega arith) in omega arith))
      (λ below. let e = r.gone t (omega arith) in omega arith)

  alone : (s : St) (r : Rule s) (i j t : ℕ) (v w : Sight) → j ≢ i → get_elem? s.views i ≡ some v → get_elem? s.views j ≡ some w → held t v.stage ≡ 1 → held t w.stage ≡ 1 → ⊥
  alone s r i j t v w apart at there mine theirs =
      let two = total_two (λ (u : Sight). held t u.stage) s.views i j v w apart at there in
      let one = at_most_one s r t in
      omega arith

  -- while a seat holds the ticket that is served, no other acts
  none_else : (s : St) (r : Rule s) (id t : ℕ) (v : Sight) → get_elem? s.views id ≡ some v → t ≡ r.serving → held t v.stage ≡ 1
      → (j n : ℕ) (u : Sight) → j ≢ id → get_elem? s.views j ≡ some u → u.stage ≡ Acts n → ⊥
  none_else s r id t v at served mine j n u apart there acts =
      let is : n ≡ t = ((r.each j u there).acts n acts).0 ∙ sym served in
      alone s r id j t v u apart at there mine (held_acts t u.stage (acts ∙ ap Acts is))

  -- the rule after a step that changes one seat's view
  remade : (s : St) (r : Rule s) (id : ℕ) (v w : Sight) (log : List E) (next serving : ℕ) (homes : List (mathlib.Core.Option.Option (Option J)))
      → get_elem? s.views id ≡ some v → IsPrefix r.log log → serving ≤ next → next < 2 ^ 64 → Fits k log serving w
      → ((j t : ℕ) (u : Sight) → j ≢ id → get_elem? s.views j ≡ some u → u.stage ≡ Acts t → (t ≡ serving) × (u.seen ≡ log))
      → ((t n : ℕ) → n + held t v.stage ≡ holders t s.views + held t w.stage → t < serving → n ≡ 0)
      → ((t n : ℕ) → n + held t v.stage ≡ holders t s.views + held t w.stage → serving ≤ t → t < next → n ≡ 1)
      → ((t n : ℕ) → n + held t v.stage ≡ holders t s.views + held t w.stage → next ≤ t → n ≡ 0)
      → v.parts ≡ w.parts
      → ((p n : ℕ) → n + times p v.own ≡ owners p s.views + times p w.own → n ≤ 1)
      → ((p n : ℕ) → n + times p v.own ≡ owners p s.views + times p w.own → length log ≤ p → n ≡ 0)
      → (NobodyActs (set s.views id w) → IsHome key_of list_of k log homes)
      → Rule record { words = length log ∷ next ∷ serving ∷ []; homes = homes; views = set s.views id w }
  remade s r id v w log next serving homes at more order small fits acts gone out undrawn parts single unused home =
      let tickets : (t : ℕ) → holders t (set s.views id w) + held t v.stage ≡ holders t s.views + held t w.stage = λ t. total_set (λ (u : Sight). held t u.stage) s.views id v w at in
      let owned : (p : ℕ) → owners p (set s.views id w) + times p v.own ≡ owners p s.views + times p w.own = λ p. total_set (λ (u : Sight). times p u.own) s.views id v w at in
      record {
        log = log;
        next = next;
        serving = serving;
        words = refl;
        order = order;
        small = small;
        each = fits_set log serving s.views id w fits (λ j u apart there. still_fits r.log log r.serving serving u more (λ t. acts j t u apart there) (r.each j u there));
        gone = λ t. gone t (holders t (set s.views id w)) (tickets t);
        out = λ t. out t (holders t (set s.views id w)) (tickets t);
        undrawn = λ t. undrawn t (holders t (set s.views id w)) (tickets t);
        parts = (let e = total_set (λ (u : Sight). u.parts) s.views id v w at in let p = r.parts in omega arith);
        single = λ p. single p (owners p (set s.views id w)) (owned p);
        unused = λ p. unused p (owners p (set s.views id w)) (owned p);
        home = home;
      }

  -- the rule, with the words written otherwise
  reworded : (words words' : List ℕ) (homes : List (mathlib.Core.Option.Option (Option J))) (views : List Sight) → words ≡ words' → Rule record { words = words'; homes = homes; views = views } → Rule record { words = words; homes = homes; views = views }
  reworded words words' homes views e r = subst (λ (ws : List ℕ). Rule record { words = ws; homes = homes; views = views }) (sym e) r

  -- a step that changes nothing
  unmoved : (s : St) (r : Rule s) (i n id : ℕ) (v : Sight) → get_elem? s.views id ≡ some v → n ≡ get_or s.words i 0 → Rule record { words = set s.words i n; homes = s.homes; views = set s.views id v }
  unmoved s r i n id v at same =
      subst (λ (z : List ℕ × List Sight). Rule record { words = z.0; homes = s.homes; views = z.1 })
      (λ j. (sym (ap (set s.words i) same ∙ set-get_or s.words i 0) j, sym (set_again s.views id v at) j)) r

  -- what a seat that does not act leaves of "nobody acts"
  quiet : (views : List Sight) (id : ℕ) (v w : Sight) → get_elem? views id ≡ some v → ((t : ℕ) → v.stage ≢ Acts t) → NobodyActs (set views id w) → NobodyActs views
  quiet views id v w at calm nobody_acts j u t there acts =
      dite (ℕ_discrete j id)
      (λ same.
      let one : v ≡ u = some-injective v u (sym at ∙ subst (λ (i : ℕ). get_elem? views i ≡ some u) same there) in
      absurd (calm t (ap (λ (y : Sight). y.stage) one ∙ acts)))
      (λ other. nobody_acts j u t (set_else views id j w other ∙ there) acts)

  pub draws : (slots id : ℕ) (m : M) (old new : ℕ) → m.0.stage ≡ Rests → 0 < m.0.parts → new ≡ old + 1 → new < 2 ^ 64
      → Allows Rule slots id m 1 (λ n. either (eqb n old) new n) (drawn key_of list_of (step slots 1 old new none) m)
  draws slots id m old new rests some_part up room s r _ at _ =
      let x : ℕ = get_or s.words 1 0 in
      let is : x ≡ r.next = ap (λ (ws : List ℕ). get_or ws 1 0) r.words in
      dite (ℕ_discrete x old)
      (λ hit. (at_stage m.0 (Waits old), keeps, tt, won s r at (sym is ∙ hit) hit, ((λ _. refl), (λ miss. absurd (miss hit)))))
      (λ miss. (m.0, keeps, tt, unmoved s r 1 (either (eqb x old) new x) id m.0 at (ap (λ b. either b new x) (ne_eqb x old miss)), ((λ hit. absurd (miss hit)), (λ _. refl))))
    where
      won : (s : St) (r : Rule s) → get_elem? s.views id ≡ some m.0 → r.next ≡ old → get_or s.words 1 0 ≡ old
          → Rule record { words = set s.words 1 (either (eqb (get_or s.words 1 0) old) new (get_or s.words 1 0)); homes = s.homes; views = set s.views id (at_stage m.0 (Waits old)) }
      won s r at is hit =
          let w : Sight = at_stage m.0 (Waits old) in
          let mine = r.each id m.0 at in
          let none_held : (t : ℕ) → held t m.0.stage ≡ 0 = λ t. ap (held t) rests in
          reworded _ (length r.log ∷ new ∷ r.serving ∷ []) s.homes (set s.views id w)
          (ap (λ b. set s.words 1 (either b new (get_or s.words 1 0))) (eq-eqb (get_or s.words 1 0) old hit) ∙ ap (λ (ws : List ℕ). set ws 1 new) r.words)
          (remade s r id m.0 w r.log new r.serving s.homes at (whole r.log)
          (let o = r.order in omega arith)
          room
          record { key = mine.key; seen = mine.seen; told = mine.told; acts = λ t e. absurd (waits_not_acts (Waits old) old t refl e); idle = λ e. absurd (omega arith) }
          (λ j t u _ there acts. (r.each j u there).acts t acts)
          (λ t n e below. let o = r.order in let z = none_held t in let g = r.gone t below in let a : held t (Waits old) ≡ 0 = one_if_other old t (λ h. omega arith) in omega arith)
          (λ t n e from below. let z = none_held t in dite (ℕ_discrete old t)
          (λ same. let g = r.undrawn t (omega arith) in let a : held t (Waits old) ≡ 1 = one_if_same old t same in omega arith)
          (λ other. let g = r.out t from (omega arith) in let a : held t (Waits old) ≡ 0 = one_if_other old t other in omega arith))
          (λ t n e past. let z = none_held t in let g = r.undrawn t (omega arith) in let a : held t (Waits old) ≡ 0 = one_if_other old t (λ h. omega arith) in omega arith)
          refl
          (λ p n e. let l = r.single p in omega arith)
          (λ p n e past. let l = r.unused p past in omega arith)
          (λ nobody_acts. r.home (quiet s.views id m.0 w at (λ t. rests_not_acts m.0.stage t rests) nobody_acts)))

  pub looks : (slots id : ℕ) (m : M) (t : ℕ) → m.0.stage ≡ Waits t → Allows Rule slots id m 2 (λ n. n) (looked key_of list_of (step slots 2 0 0 none) m)
  looks slots id m t waits s r _ at _ =
      let x : ℕ = get_or s.words 2 0 in
      let is : x ≡ r.serving = ap (λ (ws : List ℕ). get_or ws 2 0) r.words in
      dite (ℕ_discrete x t)
      (λ hit. let h = here s r at (sym hit ∙ is) in let mine = r.each id m.0 at in (
        acting m.0 (list_of h.0) t,
        takes 0 (Some h.0),
        h.1,
        turned s r at (sym hit ∙ is) h.0 h.3,
        λ t' waits'. let same : t' ≡ t = cc in (
          (λ _. record {
            value = h.0;
            key = λ kk e. h.2 ∙ sym (mine.key kk e);
            begins = subst (IsPrefix m.0.seen) (sym h.3) mine.seen;
            now = ap (λ (n : ℕ). (acting m.0 (list_of h.0) n, (0, Some h.0) ∷ m.1)) (sym same);
          }),
          (λ miss. absurd (miss (hit ∙ sym same))),
        ),
      ))
      (λ miss. (m.0, keeps, tt, unmoved s r 2 x id m.0 at refl, λ t' waits'. let same : t' ≡ t = cc in ((λ hit. absurd (miss (hit ∙ same))), (λ _. refl))))
    where
      here : (s : St) (r : Rule s) → get_elem? s.views id ≡ some m.0 → t ≡ r.serving → IsHome key_of list_of k r.log s.homes
      here s r at served = r.home (λ j u n there acts. dite (ℕ_discrete j id)
          (λ same.
          let one : m.0 ≡ u = some-injective m.0 u (sym at ∙ subst (λ (i : ℕ). get_elem? s.views i ≡ some u) same there) in
          waits_not_acts u.stage t n (ap (λ (y : Sight). y.stage) (sym one) ∙ waits) acts)
          (λ other. none_else s r id t m.0 at served (held_waits t m.0.stage waits) j n u other there acts))

      turned : (s : St) (r : Rule s) → get_elem? s.views id ≡ some m.0 → t ≡ r.serving → (x : J) → list_of x ≡ r.log
          → Rule record { words = set s.words 2 (get_or s.words 2 0); homes = set s.homes 0 none; views = set s.views id (acting m.0 (list_of x) t) }
      turned s r at served x lists =
          let w : Sight = acting m.0 (list_of x) t in
          let mine = r.each id m.0 at in
          let same : (n : ℕ) → held n m.0.stage ≡ held n (Acts t) = λ n. ap (held n) waits in
          reworded _ (length r.log ∷ r.next ∷ r.serving ∷ []) (set s.homes 0 none) (set s.views id w)
          (ap (λ (ws : List ℕ). set ws 2 (get_or ws 2 0)) r.words)
          (remade s r id m.0 w r.log r.next r.serving (set s.homes 0 none) at (whole r.log) r.order r.small
          record {
            key = mine.key;
            seen = subst (λ (l : List E). IsPrefix l r.log) (sym lists) (whole r.log);
            told = mine.told;
            acts = λ n e. let one : t ≡ n = cc in (sym one ∙ served, lists);
            idle = λ none_left. absurd (rests_not_waits m.0.stage t (mine.idle none_left) waits);
          }
          (λ j n u other there acts. absurd (none_else s r id t m.0 at served (held_waits t m.0.stage waits) j n u other there acts))
          (λ n h e below. let a = same n in let g = r.gone n below in omega arith)
          (λ n h e from below. let a = same n in let g = r.out n from below in omega arith)
          (λ n h e past. let a = same n in let g = r.undrawn n past in omega arith)
          refl
          (λ p n e. let l = r.single p in omega arith)
          (λ p n e past. let l = r.unused p past in omega arith)
          (λ nobody_acts. absurd (nobody_acts id w t (set_at s.views id m.0 w at) refl)))

  pub raises : (slots id : ℕ) (m : M) (count : ℕ) (x : J) (es : List E) (t : ℕ) → m.1 ≡ (0, Some x) ∷ [] → m.0.stage ≡ Acts t → list_of x ≡ m.0.seen ++ es → length es ≡ count → count ≤ 1 → length (list_of x) < 2 ^ 64
      → Allows Rule slots id m 0 (λ n. (n + count) % 2 ^ 64) (raised key_of list_of (step slots 0 count 0 none) m)
  raises slots id m count x es t has acts lists counts few room s r _ at _ = (
    grown m.0 (list_of x) count,
    keeps,
    tt,
    counted,
    (
      (λ y has'. let same : x ≡ y = same_value m.1 x y has has' in ap (λ (z : J). (grown m.0 (list_of z) count, m.1)) same),
      (λ p.
          let l = counted.single p in
          let a = total_at (λ (u : Sight). times p u.own) (set s.views id (grown m.0 (list_of x) count)) id (grown m.0 (list_of x) count) (set_at s.views id m.0 (grown m.0 (list_of x) count) at) in
          omega arith),
    ),
  )
    where
      counted : Rule record { words = set s.words 0 ((get_or s.words 0 0 + count) % 2 ^ 64); homes = s.homes; views = set s.views id (grown m.0 (list_of x) count) }
      counted =
          let w : Sight = grown m.0 (list_of x) count in
          let mine = r.each id m.0 at in
          let served = (mine.acts t acts).0 in
          let all = (mine.acts t acts).1 in
          let size : length (list_of x) ≡ length m.0.seen + count = ap length lists ∙ length-append m.0.seen es ∙ ap (λ n. length m.0.seen + n) counts in
          let was : length m.0.seen ≡ length r.log = ap length all in
          let now : (length r.log + count) % 2 ^ 64 ≡ length (list_of x) = omega arith in
          reworded _ (length (list_of x) ∷ r.next ∷ r.serving ∷ []) s.homes (set s.views id w)
          (ap (λ (ws : List ℕ). set ws 0 ((get_or ws 0 0 + count) % 2 ^ 64)) r.words ∙ ap (λ (n : ℕ). n ∷ r.next ∷ r.serving ∷ []) now)
          (remade s r id m.0 w (list_of x) r.next r.serving s.homes at
          (es, ap (λ (l : List E). l ++ es) (sym all) ∙ sym lists)
          r.order r.small
          record {
            key = mine.key;
            seen = whole (list_of x);
            told = prefix_trans m.0.told r.log (list_of x) mine.told (es, ap (λ (l : List E). l ++ es) (sym all) ∙ sym lists);
            acts = λ n e. ((mine.acts n e).0, refl);
            idle = mine.idle;
          }
          (λ j n u other there acts'. absurd (none_else s r id t m.0 at served (held_acts t m.0.stage acts) j n u other there acts'))
          (λ n h e below. let g = r.gone n below in omega arith)
          (λ n h e from below. let g = r.out n from below in omega arith)
          (λ n h e past. let g = r.undrawn n past in omega arith)
          refl
          (λ p n e.
          let split = times-append p m.0.own (new_places (length m.0.seen) count) in
          dite (ℕ_discrete (length m.0.seen) p)
          (λ same. let u = r.unused p (omega arith) in let h = subst (λ (q : ℕ). times q (new_places (length m.0.seen) count) ≡ count) same (new_place_here (length m.0.seen) count few) in omega arith)
          (λ other. let l = r.single p in let h = new_place_else p (length m.0.seen) count other in omega arith))
          (λ p n e past.
          let split = times-append p m.0.own (new_places (length m.0.seen) count) in
          let u = r.unused p (omega arith) in
          let h = new_place_past p (length m.0.seen) count (omega arith) in
          omega arith)
          (λ nobody_acts. absurd (nobody_acts id w t (set_at s.views id m.0 w at) acts)))

  more_by : (xs ys es : List E) (before after : ℕ) → ys ≡ xs ++ es → before ≡ length xs → after ≡ length ys → length es ≡ after - before
  more_by xs ys es before after grew b a = let n : length ys ≡ length xs + length es = ap length grew ∙ length-append xs es in omega arith

  pub counts_turn : (slots id : ℕ) (m back : M) (kk : K) (before after : ℕ) (x y : J) (new : Option E) → (turn : HasTurn key_of list_of kk m) → x ≡ turn.value → back ≡ (m.0, (0, Some y) ∷ [])
      → list_of y ≡ list_of x ++ entries new → before ≡ length (list_of x) → after ≡ length (list_of y) → after < 2 ^ 64
      → Allows Rule slots id back 0 (λ n. (n + (after - before)) % 2 ^ 64) (raised key_of list_of (step slots 0 (after - before) 0 none) back)
  counts_turn slots id m back kk before after x y new turn is put grew b a room =
      let more = more_by (list_of x) (list_of y) (entries new) before after grew b a in
      let few = few_entries new in
      let lists : list_of y ≡ back.0.seen ++ entries new =
      grew ∙ ap (λ (l : List E). l ++ entries new) (ap list_of is ∙ turn.seen ∙ ap (λ (n : M). n.0.seen) (sym put)) in
      raises slots id back (after - before) y (entries new) turn.ticket
      (ap (λ (n : M). n.1) put) (ap (λ (n : M). n.0.stage) put ∙ turn.stage) lists more (omega arith) (omega arith)

  pub passes : (slots id : ℕ) (m : M) (kk : K) → 0 < slots → m.0.key ≡ Some kk → HasTurn key_of list_of kk m → Allows Rule slots id m 2 (λ n. (n + 1) % 2 ^ 64) (passed key_of list_of (step slots 2 1 0 none) m)
  passes slots id m kk wide key turn s r homes at _ = (at_stage m.0 Rests, gives, tt, given, refl)
    where
      given : Rule record { words = set s.words 2 ((get_or s.words 2 0 + 1) % 2 ^ 64); homes = put_back s.homes m.1; views = set s.views id (at_stage m.0 Rests) }
      given =
          let w : Sight = at_stage m.0 Rests in
          let mine = r.each id m.0 at in
          let t : ℕ = turn.ticket in
          let served = (mine.acts t turn.stage).0 in
          let all = (mine.acts t turn.stage).1 in
          let held_here = held_acts t m.0.stage turn.stage in
          let some_holder = total_at (λ (u : Sight). held t u.stage) s.views id m.0 at in
          let room : r.serving < r.next = dite (dec_le r.next t) (λ past. let z = r.undrawn t past in absurd (omega arith)) (λ before. omega arith) in
          let order = r.order in
          let small = r.small in
          let now : (r.serving + 1) % 2 ^ 64 ≡ r.serving + 1 = omega arith in
          let mine_at : (n : ℕ) → held n m.0.stage ≡ one_if (eqb t n) = λ n. ap (held n) turn.stage in
          reworded _ (length r.log ∷ r.next ∷ (r.serving + 1) ∷ []) (put_back s.homes m.1) (set s.views id w)
          (ap (λ (ws : List ℕ). set ws 2 ((get_or ws 2 0 + 1) % 2 ^ 64)) r.words ∙ ap (λ (n : ℕ). length r.log ∷ r.next ∷ n ∷ []) now)
          (remade s r id m.0 w r.log r.next (r.serving + 1) (put_back s.homes m.1) at (whole r.log)
          (omega arith) r.small
          record { key = mine.key; seen = mine.seen; told = mine.told; acts = λ n e. absurd (rests_not_acts Rests n refl e); idle = λ _. refl }
          (λ j n u other there acts. absurd (none_else s r id t m.0 at served held_here j n u other there acts))
          (λ n h e below. let a = mine_at n in dite (ℕ_discrete t n)
          (λ same. let o = one_if_same t n same in let g = r.out n (omega arith) (omega arith) in omega arith)
          (λ other. let o = one_if_other t n other in let g = r.gone n (omega arith) in omega arith))
          (λ n h e from below. let a = mine_at n in let o = one_if_other t n (λ i. omega arith) in let g = r.out n (omega arith) below in omega arith)
          (λ n h e past. let a = mine_at n in let o = one_if_other t n (λ i. omega arith) in let g = r.undrawn n past in omega arith)
          refl
          (λ p n e. let l = r.single p in omega arith)
          (λ p n e past. let l = r.unused p past in omega arith)
          (λ _. (
            turn.value,
            subst (λ (c : List (ℕ × Option J)). get_elem? (put_back s.homes c) 0 ≡ some (some (Some turn.value))) (sym turn.has) (set_here s.homes 0 (some (Some turn.value)) (omega arith)),
            turn.key ∙ mine.key kk key,
            turn.seen ∙ all,
          )))

  pub settles : (slots id : ℕ) (m : M) (i : ℕ) → m.0.stage ≡ Rests → Allows Rule slots id m i (λ n. n) (settled key_of list_of (step slots i 0 0 none) m)
  settles slots id m i rests s r _ at _ =
      let mine = r.each id m.0 at in
      let w : Sight = settled_view m.0 in
      let l = longer_begins m.0.seen m.0.told r.log mine.seen mine.told in (
        w,
        keeps,
        tt,
        reworded _ (length r.log ∷ r.next ∷ r.serving ∷ []) s.homes (set s.views id w)
            (set-get_or s.words i 0 ∙ r.words)
            (remade s r id m.0 w r.log r.next r.serving s.homes at (whole r.log) r.order r.small
            record { key = mine.key; seen = l.2; told = (r.log, refl); acts = λ n e. absurd (rests_not_acts m.0.stage n rests e); idle = mine.idle }
            (λ j n u _ there acts. (r.each j u there).acts n acts)
            (λ n h e below. let g = r.gone n below in omega arith)
            (λ n h e from below. let g = r.out n from below in omega arith)
            (λ n h e past. let g = r.undrawn n past in omega arith)
            refl
            (λ p n e. let o = r.single p in omega arith)
            (λ p n e past. let o = r.unused p past in omega arith)
            (λ nobody_acts. r.home (quiet s.views id m.0 w at (λ n. rests_not_acts m.0.stage n rests) nobody_acts))),
        (
          refl,
          l.0,
          l.1,
          λ p. let o = r.single p in let a = total_at (λ (u : Sight). times p u.own) s.views id m.0 at in omega arith,
        ),
      )

  pub splits : (id : ℕ) (v : Sight) → v.stage ≡ Rests → 2 ≤ v.parts → Splits Rule id v (kept_half v) (given_half v)
  splits id v rests two s r at =
      let mine = r.each id v at in
      let left : Sight = kept_half v in
      let right : Sight = given_half v in
      let views : List Sight = set s.views id left in
      let tickets : (t : ℕ) → holders t (views ++ right ∷ []) ≡ holders t s.views = λ t.
      let a = total_set (λ (u : Sight). held t u.stage) s.views id v left at in
      let b = total-push (λ (u : Sight). held t u.stage) views right in
      omega arith in
      let owned : (p : ℕ) → owners p (views ++ right ∷ []) ≡ owners p s.views = λ p.
      let a = total_set (λ (u : Sight). times p u.own) s.views id v left at in
      let b = total-push (λ (u : Sight). times p u.own) views right in
      omega arith in
      record {
        log = r.log;
        next = r.next;
        serving = r.serving;
        words = r.words;
        order = r.order;
        small = r.small;
        each = λ j u e. ⊎_elim
            (fits_set r.log r.serving s.views id left
            record { key = mine.key; seen = mine.seen; told = mine.told; acts = mine.acts; idle = λ _. rests }
            (λ i x _ there. r.each i x there) j u)
            (λ (is : right ≡ u). subst (Fits k r.log r.serving) is
            record { key = mine.key; seen = mine.seen; told = (r.log, refl); acts = λ n d. absurd (rests_not_acts Rests n refl d); idle = λ _. refl })
            (at_snoc views right u j e);
        gone = λ t below. tickets t ∙ r.gone t below;
        out = λ t from below. tickets t ∙ r.out t from below;
        undrawn = λ t past. tickets t ∙ r.undrawn t past;
        parts = (let a = total_set (λ (u : Sight). u.parts) s.views id v left at in let b = total-push (λ (u : Sight). u.parts) views right in let p = r.parts in omega arith);
        single = λ p. let o = owned p in let l = r.single p in omega arith;
        unused = λ p past. owned p ∙ r.unused p past;
        home = λ nobody_acts. r.home (quiet s.views id v left at (λ n. rests_not_acts v.stage n rests) (λ j u t there. nobody_acts j u t (at_longer views (right ∷ []) j u there)));
      }

  pub joins : (id : ℕ) (v : Sight) (other : ℕ) (w : Sight) → v.stage ≡ Rests → w.stage ≡ Rests → 0 < v.parts → Joins Rule id v other w (joined v w) nobody
  joins id v other w rests rests' some_part s r at apart there =
      let both : Sight = joined v w in
      let views : List Sight = set s.views id both in
      let mine = r.each id v at in
      let theirs = r.each other w (sym (set_else s.views id other both apart) ∙ there) in
      let none_held : (t : ℕ) → held t w.stage ≡ 0 = λ t. ap (held t) rests' in
      let tickets : (t : ℕ) → holders t (set views other nobody) ≡ holders t s.views = λ t.
      let a = total_set (λ (u : Sight). held t u.stage) s.views id v both at in
      let b = total_set (λ (u : Sight). held t u.stage) views other w nobody there in
      let z = none_held t in
      omega arith in
      let owned : (p : ℕ) → owners p (set views other nobody) ≡ owners p s.views = λ p.
      let a = total_set (λ (u : Sight). times p u.own) s.views id v both at in
      let b = total_set (λ (u : Sight). times p u.own) views other w nobody there in
      let c = times-append p v.own w.own in
      omega arith in
      record {
        log = r.log;
        next = r.next;
        serving = r.serving;
        words = r.words;
        order = r.order;
        small = r.small;
        each = fits_set r.log r.serving views other nobody
            record { key = λ x e. absurd (cc); seen = (r.log, refl); told = (r.log, refl); acts = λ n d. absurd (rests_not_acts Rests n refl d); idle = λ _. refl }
            (λ j u _ at'. fits_set r.log r.serving s.views id both
            record { key = mine.key; seen = mine.seen; told = theirs.seen; acts = mine.acts; idle = λ none_left. absurd (omega arith) }
            (λ i x _ at''. r.each i x at'') j u at');
        gone = λ t below. tickets t ∙ r.gone t below;
        out = λ t from below. tickets t ∙ r.out t from below;
        undrawn = λ t past. tickets t ∙ r.undrawn t past;
        parts = (let a = total_set (λ (u : Sight). u.parts) s.views id v both at in let b = total_set (λ (u : Sight). u.parts) views other w nobody there in let p = r.parts in omega arith);
        single = λ p. let o = owned p in let l = r.single p in omega arith;
        unused = λ p past. owned p ∙ r.unused p past;
        home = λ nobody_acts. r.home (quiet s.views id v both at (λ n. rests_not_acts v.stage n rests) (quiet views other w nobody there (λ n. rests_not_acts w.stage n rests') nobody_acts));
      }

  -- a pass with all parts is the only one, so the value is at home
  pub closes : (id : ℕ) (v : Sight) (words : List ℕ) (slots : List (Option J)) (y : Option J) → v.stage ≡ Rests → v.parts ≡ 65536 → Final (Seen Rule id v) words slots → get_elem? slots 0 ≡ some y
      → (x : J) × (y ≡ Some x) × (key_of x ≡ k) × IsPrefix v.seen (list_of x)
  closes id v words slots y rests all f found =
      let s : St = f.0 in
      let r : Rule s = f.1.0 in
      let at = f.1.1 in
      let h = r.home (λ j u t there acts. dite (ℕ_discrete j id)
      (λ same.
      let one : v ≡ u = some-injective v u (sym at ∙ subst (λ (i : ℕ). get_elem? s.views i ≡ some u) same there) in
      rests_not_acts u.stage t (ap (λ (w : Sight). w.stage) (sym one) ∙ rests) acts)
      (λ other.
      let two = total_two (λ (u : Sight). u.parts) s.views id j v u other at there in
      let sum = r.parts in
      rests_not_acts u.stage t ((r.each j u there).idle (omega arith)) acts)) in
      (h.0, some-injective y (Some h.0) (sym found ∙ f.4 0 (Some h.0) h.1), h.2, subst (IsPrefix v.seen) (sym h.3) (r.each id v at).seen)

module _ {J K E : Type 0} (key_of : J → K) (list_of : J → List E) where
  opens_with : (x : J) (n : ℕ) → n ≡ length (list_of x) → Kept key_of list_of (key_of x) (opening (n ∷ 0 ∷ 0 ∷ []) (Some x ∷ []) (opening_view (key_of x) (list_of x)))
  opens_with x n size = record {
    log = list_of x;
    next = 0;
    serving = 0;
    words = ap (λ (m : ℕ). m ∷ 0 ∷ 0 ∷ []) size;
    order = omega arith;
    small = lit< tt;
    each = first;
    gone = λ t below. absurd (omega arith);
    out = λ t from below. absurd (omega arith);
    undrawn = λ t past. refl;
    parts = refl;
    single = λ p. omega arith;
    unused = λ p past. refl;
    home = λ _. (x, refl, refl, refl);
  }
    where
      first : (j : ℕ) (v : View K E) → get_elem? (opening_view (key_of x) (list_of x) ∷ []) j ≡ some v → Fits (key_of x) (list_of x) 0 v
      first zero v e = subst (Fits (key_of x) (list_of x) 0) (some-injective _ _ e) record {
        key = λ y d. (let same : key_of x ≡ y = cc in sym same);
        seen = whole (list_of x);
        told = (list_of x, refl);
        acts = λ t d. absurd (rests_not_acts Rests t refl d);
        idle = λ none_left. refl;
      }
      first (suc j) v e = absurd (some-ne-none v (sym e))

  -- the rule holds of a new lock
  pub opens : (x y : J) (n : ℕ) (before slots : List (Option J)) → y ≡ x → n ≡ length (list_of x) → before ≡ [] → slots ≡ before ++ Some x ∷ []
      → Kept key_of list_of (key_of y) (opening (n ∷ 0 ∷ 0 ∷ []) slots (opening_view (key_of y) (list_of y)))
  opens x y n before slots same size none_before one =
      subst (λ (l : List (Option J)). Kept key_of list_of (key_of y) (opening (n ∷ 0 ∷ 0 ∷ []) l (opening_view (key_of y) (list_of y))))
      (sym (one ∙ ap (λ (l : List (Option J)). l ++ Some x ∷ []) none_before ∙ ap (λ (v : J). Some v ∷ []) (sym same)))
      (opens_with y n (size ∙ ap (λ (v : J). length (list_of v)) (sym same)))
