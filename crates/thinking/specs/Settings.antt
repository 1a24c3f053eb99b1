-- What a session sets for its searches.
use Rattle.std.specs.Prelude.{ℕ, ◌≤◌}
use Rattle.session_model.specs.declared.options.TheConstants.{DEFAULT_HASH, DEFAULT_MATE_FACTS, LEAST_HASH, LEAST_MATE_FACTS, LEAST_THREADS, MOST_HASH, MOST_MATE_FACTS, MOST_THREADS}

-- how many workers search, the MiB of hints, and how many facts of mates a shard keeps
pub record Settings : Type 0 where
  pub threads : ℕ
  pub hash : ℕ
  pub mate_facts : ℕ

pub record AreInRange (s : Settings) : Type 0 where
  pub threads : (LEAST_THREADS ≤ s.threads) × (s.threads ≤ MOST_THREADS)
  pub hash : (LEAST_HASH ≤ s.hash) × (s.hash ≤ MOST_HASH)
  pub mate_facts : (LEAST_MATE_FACTS ≤ s.mate_facts) × (s.mate_facts ≤ MOST_MATE_FACTS)

-- those of a new session
abbrev pub first_settings : ℕ → Settings
first_settings threads = record { threads = threads; hash = DEFAULT_HASH; mate_facts = DEFAULT_MATE_FACTS }
