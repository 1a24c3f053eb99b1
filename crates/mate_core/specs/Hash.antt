-- In which shard the facts of a repeat stand: by its key.
use Rattle.std.specs.Prelude.{ℕ, ◌*◌, ◌/◌, ◌^◌}
use Rattle.rules_model.specs.declared.board.Repeat.{Repeat}
use Rattle.position_key.specs.Key.{key_of}

-- the key of all that a repetition compares, below 2^64
abbrev pub hash_of : Repeat → ℕ
hash_of r = key_of r

-- the place of a 32-bit number among so many: they take equal parts of all 32-bit numbers
abbrev pub part_of : ℕ → ℕ → ℕ
part_of x places = (x * places) / 2 ^ 32

-- the shard of a hash among so many: by its high half
abbrev pub shard_of_hash : ℕ → ℕ → ℕ
shard_of_hash hash shards = part_of (hash / 2 ^ 32) shards

abbrev pub shard_of : Repeat → ℕ → ℕ
shard_of r shards = shard_of_hash (hash_of r) shards
