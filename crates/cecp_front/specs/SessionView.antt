-- What is true of each session.
use Rattle.std.specs.Prelude.{◌≡◌, true, List, Some, Ok, codes}
use Rattle.game_play.specs.Played.{Played}
use Rattle.rules_model.specs.Sound.{is_sound}
use Rattle.variant_ini.specs.Section.{Section}
use Rattle.variant_rules.specs.Entries.{Named, entries, found}

-- the variants are those of the sections, and the game that is kept is one of chess
pub record IsSession (sections : List Section) (variants : List Named) (chess : Played) : Type 0 where
  pub judged : variants ≡ entries sections
  pub is_chess : found (entries sections) (codes "chess") ≡ Some (Ok chess.rules)
  pub start : is_sound chess.rules chess.rules.start ≡ true
