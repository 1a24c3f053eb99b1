use Rattle.std.proofs.Common.{rules}
use Rattle.game_play.proofs.StandingLemmas.{standings-none}
use Rattle.game_play.proofs.standings.Standings.new.Goals as goal

pub invariant_of-standings : goal.invariant_of-standings
invariant_of-standings c = standings-none _ _ _ _ _ c.new.ensures.items c.new-2.ensures.items c.new-3.ensures.items (c.in_ok-heads.ensures.items_if_clones_equal (λ y e. search rules)) c.new-4.ensures.items
