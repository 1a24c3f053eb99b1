-- A fact as its repeat and what it says of it.
use Rattle.rules_model.specs.declared.board.Repeat.{Repeat}
use Rattle.forced_wins.specs.declared.fact.Fact.{Fact}
use Rattle.mate_core.specs.declared.packed_fact.Claim.{Claim}

abbrev pub claim_of : Fact → Claim
claim_of f = record { attacker = f.attacker; moves = f.moves; counter = f.counter; best = f.best; wins = f.wins }

abbrev pub fact_with : Repeat → Claim → Fact
fact_with repeat c =
    record {
      repeat = repeat;
      attacker = c.attacker;
      moves = c.moves;
      counter = c.counter;
      best = c.best;
      wins = c.wins;
    }
