-- The rule of the lock's table, and what each step tells. The words are the number of entries, the next ticket and the
-- ticket that is served.
use Rattle.std.specs.Prelude.{◌≡◌, ◌≢◌, ℕ, zero, suc, ◌+◌, ◌-◌, ◌^◌, ◌<◌, ◌≤◌, ◌==◌, List, [], ◌∷◌, ◌++◌, length, Option, Some, None, All}
use mathlib.Core.List.{IsPrefix}
use mathlib.Core.Option.{some}
use lib.ListN.{get_elem?}
use Rattle.atomic_table.specs.Table.{State, Me, Step, rest}
use Rattle.fact_lock.specs.declared.view.View.{View}
use Rattle.fact_lock.specs.declared.view.Stage.{Stage}
use Rattle.fact_lock.specs.declared.view.Stage.TheVariants.{Rests, Waits, Acts}
use Rattle.foundation.specs.Tests.{one_if}
use Rattle.fact_lock.specs.Passes.{times, longer}

-- the sum of a number of each
abbrev pub total : {A : Type 0} → (A → ℕ) → List A → ℕ
total f [] = 0
total f (x ∷ xs) = f x + total f xs

-- 1 where this ticket is held
abbrev pub held : ℕ → Stage → ℕ
held t Rests = 0
held t (Waits n) = one_if (n == t)
held t (Acts n) = one_if (n == t)

-- the place of an entry that is added behind n others
abbrev pub new_places : ℕ → ℕ → List ℕ
new_places n zero = []
new_places n (suc k) = n ∷ []

module _ {K E : Type 0} where
  -- how many seats hold this ticket
  abbrev pub holders : ℕ → List (View K E) → ℕ
  holders t views = total (λ v. held t v.stage) views

  -- how often a place is owned
  abbrev pub owners : ℕ → List (View K E) → ℕ
  owners p views = total (λ v. times p v.own) views

  abbrev pub opening_view : K → List E → View K E
  opening_view k xs = record { key = Some k; seen = xs; told = []; own = []; parts = 65536; stage = Rests }

  -- a seat that was joined to another
  abbrev pub nobody : View K E
  nobody = record { key = None; seen = []; told = []; own = []; parts = 0; stage = Rests }

  abbrev pub at_stage : View K E → Stage → View K E
  at_stage v st = record { key = v.key; seen = v.seen; told = v.told; own = v.own; parts = v.parts; stage = st }

  -- its turn has come, and it sees the whole list
  abbrev pub acting : View K E → List E → ℕ → View K E
  acting v xs t = record { key = v.key; seen = xs; told = v.told; own = v.own; parts = v.parts; stage = Acts t }

  -- k entries were added
  abbrev pub grown : View K E → List E → ℕ → View K E
  grown v xs k = record {
    key = v.key;
    seen = xs;
    told = v.told;
    own = v.own ++ new_places (length v.seen) k;
    parts = v.parts;
    stage = v.stage;
  }

  abbrev pub kept_half : View K E → View K E
  kept_half v = record { key = v.key; seen = v.seen; told = v.told; own = v.own; parts = v.parts - 1; stage = v.stage }

  abbrev pub given_half : View K E → View K E
  given_half v = record { key = v.key; seen = v.seen; told = []; own = []; parts = 1; stage = Rests }

  abbrev pub joined : View K E → View K E → View K E
  joined v w = record {
    key = v.key;
    seen = v.seen;
    told = w.seen;
    own = v.own ++ w.own;
    parts = v.parts + w.parts;
    stage = v.stage;
  }

  -- it has seen what it was told of too
  abbrev pub settled_view : View K E → View K E
  settled_view v = record {
    key = v.key;
    seen = longer v.seen v.told;
    told = [];
    own = v.own;
    parts = v.parts;
    stage = v.stage;
  }

  -- what holds of each seat, where `log` is the list
  pub record Fits (k : K) (log : List E) (serving : ℕ) (v : View K E) : Type 0 where
    pub key : (x : K) → v.key ≡ Some x → x ≡ k
    pub seen : IsPrefix v.seen log
    pub told : IsPrefix v.told log
    pub acts : (t : ℕ) → v.stage ≡ Acts t → (t ≡ serving) × (v.seen ≡ log)
    pub idle : v.parts ≡ 0 → v.stage ≡ Rests

  abbrev pub NobodyActs : List (View K E) → Type 0
  NobodyActs views = (j : ℕ) (v : View K E) (t : ℕ) → get_elem? views j ≡ some v → v.stage ≢ Acts t

module _ {J K E : Type 0} (key_of : J → K) (list_of : J → List E) where
  -- the value is at home, with this key and this list
  abbrev pub IsHome : K → List E → List (mathlib.Core.Option.Option (Option J)) → Type 0
  IsHome k log homes = (x : J) × (get_elem? homes 0 ≡ some (some (Some x))) × (key_of x ≡ k) × (list_of x ≡ log)

  pub record Kept (k : K) (s : State (Option J) (View K E)) : Type 0 where
    pub log : List E
    pub next : ℕ
    pub serving : ℕ
    pub words : s.words ≡ length log ∷ next ∷ serving ∷ []
    pub order : serving ≤ next
    pub small : next < 2 ^ 64
    pub each : (j : ℕ) (v : View K E) → get_elem? s.views j ≡ some v → Fits k log serving v
    -- one seat holds each ticket that is drawn and not yet given up, and none holds another
    pub gone : (t : ℕ) → t < serving → holders t s.views ≡ 0
    pub out : (t : ℕ) → serving ≤ t → t < next → holders t s.views ≡ 1
    pub undrawn : (t : ℕ) → next ≤ t → holders t s.views ≡ 0
    pub parts : total (λ v. v.parts) s.views ≡ 65536
    pub single : (p : ℕ) → owners p s.views ≤ 1
    pub unused : (p : ℕ) → length log ≤ p → owners p s.views ≡ 0
    pub home : NobodyActs s.views → IsHome k log s.homes

  abbrev pub Sat : Type 0
  Sat = Me (Option J) (View K E)

  -- a ticket was drawn where the word was the one expected
  abbrev pub drawn : Step (Option J) → Sat → ℕ → Sat → Type 0
  drawn st m r n = (r ≡ st.first → n ≡ (at_stage m.0 (Waits st.first), m.1)) × (r ≢ st.first → n ≡ m)

  -- the seat's turn has come, and it took the value
  pub record IsServed (t : ℕ) (m n : Sat) : Type 0 where
    pub value : J
    pub key : (k : K) → m.0.key ≡ Some k → key_of value ≡ k
    pub begins : IsPrefix m.0.seen (list_of value)
    pub now : n ≡ (acting m.0 (list_of value) t, (0, Some value) ∷ m.1)

  abbrev pub looked : Step (Option J) → Sat → ℕ → Sat → Type 0
  looked st m r n = (t : ℕ) → m.0.stage ≡ Waits t → (r ≡ t → IsServed t m n) × (r ≢ t → n ≡ m)

  -- the entries of the value that the seat has were counted
  abbrev pub raised : Step (Option J) → Sat → ℕ → Sat → Type 0
  raised st m r n = ((x : J) → m.1 ≡ (0, Some x) ∷ [] → n ≡ (grown m.0 (list_of x) st.first, m.1))
      × ((p : ℕ) → times p n.0.own ≤ 1)

  -- the seat's turn has come, and it has the value, whose list it has seen
  pub record HasTurn (k : K) (m : Sat) : Type 0 where
    pub value : J
    pub ticket : ℕ
    pub has : m.1 ≡ (0, Some value) ∷ []
    pub stage : m.0.stage ≡ Acts ticket
    pub key : key_of value ≡ k
    pub seen : list_of value ≡ m.0.seen

  abbrev pub passed : Step (Option J) → Sat → ℕ → Sat → Type 0
  passed st m r n = n ≡ (at_stage m.0 Rests, rest m.1)

  abbrev pub settled : Step (Option J) → Sat → ℕ → Sat → Type 0
  settled st m r n = (n ≡ (settled_view m.0, m.1)) × IsPrefix m.0.seen n.0.seen × IsPrefix m.0.told n.0.seen
      × ((p : ℕ) → times p m.0.own ≤ 1)

-- what holds of a pass's seat between two calls
pub record IsReady {S K E : Type 0} (m : Me S (View K E)) : Type 0 where
  pub empty : m.1 ≡ []
  pub rests : m.0.stage ≡ Rests
  pub parts : 0 < m.0.parts
  pub below : All (λ p. p < length m.0.seen) m.0.own
  pub once : (p : ℕ) → times p m.0.own ≤ 1
