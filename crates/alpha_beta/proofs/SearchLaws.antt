-- Parts of a search, one after another.
use Rattle.std.proofs.Common.{◌≡◌, ℕ, zero, suc, ◌+◌, ◌<◌, ◌≤◌, List, [], ◌∷◌, Ok, Err, IfOk, IsErrOf, OnOk, ap, ◌∙◌, arith, get_or, length, max, refl}
use Rattle.std.specs.List.{All, AllByRecursion}
use Rattle.std.specs.declared.result.Result.{Result}
use Rattle.std.proofs.lemmas.List.Elements.{recursion_from_All}
use Rattle.watching.specs.declared.caller.Caller.{Caller}
use Rattle.watching.specs.declared.halt.Halt.{Halt}
use Rattle.watching.specs.CallerLaws.{Goes, IsLent, Stops}
use Rattle.watching.specs.Watched.{World}
use Rattle.alpha_beta.specs.declared.jobs.Job.{Job}
use Rattle.alpha_beta.specs.Workers.{HasEntered, IsNew, most_nodes}

most_rec : (n start : ℕ) (jobs : List Job) → start ≤ n → AllByRecursion (λ job. job.nodes ≤ n) jobs → most_nodes start jobs ≤ n
most_rec n start [] h all = h
most_rec n start (job ∷ jobs) h all = most_rec n (max start job.nodes) jobs (let first = all.0 in omega arith) all.1

-- if no count is above a number, the greatest is not
pub most_within : (n start : ℕ) (jobs : List Job) → start ≤ n → All (λ job. job.nodes ≤ n) jobs → most_nodes start jobs ≤ n
most_within n start jobs h all = most_rec n start jobs h (recursion_from_All (λ job. job.nodes ≤ n) jobs all)

-- the greatest is at least the first
pub most_start : (start : ℕ) (jobs : List Job) → start ≤ most_nodes start jobs
most_start start [] = omega arith
most_start start (job ∷ jobs) = let rest = most_start (max start job.nodes) jobs in omega (arith, rest)

-- and the first, where there are no others
pub most_none : (start : ℕ) (jobs : List Job) → length jobs ≡ 0 → most_nodes start jobs ≡ start
most_none start [] none = refl
most_none start (job ∷ jobs) none = absurd (omega (arith, none))

-- none is above the greatest
pub most_each : (start i : ℕ) (d : Job) (jobs : List Job) → i < length jobs → (get_or jobs i d).nodes ≤ most_nodes start jobs
most_each start i d [] lt = absurd (omega (arith, lt))
most_each start zero d (job ∷ jobs) lt = let rest = most_start (max start job.nodes) jobs in omega (arith, rest)
most_each start (suc i) d (job ∷ jobs) lt = most_each (max start job.nodes) i d jobs (omega (arith, lt))

most_new_rec : (jobs : List Job) → AllByRecursion IsNew jobs → most_nodes 0 jobs ≡ 0
most_new_rec [] all = refl
most_new_rec (job ∷ jobs) all = let e : max 0 job.nodes ≡ 0 = (let none = all.0 in omega (arith, none)) in ap (λ n. most_nodes n jobs) e ∙ most_new_rec jobs all.1

-- new workers have entered none
pub most_new : (jobs : List Job) → All IsNew jobs → most_nodes 0 jobs ≡ 0
most_new jobs all = most_new_rec jobs (recursion_from_All IsNew jobs all)

-- where each enters at most N nodes more, the greatest count rises by no more
pub most_more : (n : ℕ) (old new : List Job) → length new ≡ length old
    → ((i : ℕ) (d : Job) → i < length old → HasEntered n (get_or old i d) (get_or new i d))
    → most_nodes 0 new ≤ most_nodes 0 old + n
most_more n old new same each =
    most_within (most_nodes 0 old + n) 0 new (omega arith)
    (λ i d lt. (let more = each i d (omega (arith, lt, same)) in let most = most_each 0 i d old (omega (arith, lt, same)) in omega (arith, more, most)))

-- a count that begins above 0
pub most_from : (start : ℕ) (jobs : List Job) → most_nodes start jobs ≤ max start (most_nodes 0 jobs)
most_from start jobs =
    most_within (max start (most_nodes 0 jobs)) start jobs (omega arith)
    (λ i d lt. (let most = most_each 0 i d jobs lt in omega (arith, most)))

pub on_ok_any : {T E P : Type 0} (r : Result T E) → P → OnOk r P
on_ok_any (Ok x) p = p
on_ok_any (Err why) p = tt

pub if_ok_map : {T E : Type 0} {P Q : T → Type 0} (r : Result T E) → ((x : T) → P x → Q x) → IfOk r P → IfOk r Q
if_ok_map (Ok x) f p = f x p
if_ok_map (Err why) f p = tt

-- a watch over ports has the same ports, however the search ended
pub lent_of : {T S K C : Type 0} (w : World S K C) (a b : Caller S K C) (n : ℕ) (r : Result T Halt)
    → OnOk r (Goes w a b n) → ((why : Halt) → IsErrOf r why → Stops w a b n why) → IsLent a b
lent_of w a b n (Ok x) gone ended = gone.lent
lent_of w a b n (Err why) gone ended = (ended why refl).lent
