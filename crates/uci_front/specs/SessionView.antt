-- A session as the definitions of sessions have it, and what is true of each.
use Rattle.std.specs.Prelude.{◌≡◌, ℕ, ◌<◌, ◌≤◌, List, ◌++◌, length, Option, Some, None, Ok}
use Rattle.rules_model.specs.declared.rules.Rules.{Rules}
use Rattle.game_play.specs.Played.{Played}
use Rattle.thinking.specs.Settings.{Settings}
use Rattle.session_model.specs.declared.limits.TheConstants.{MOST_MATE}
use Rattle.session_model.specs.UciState.{State}
use Rattle.strategy.specs.Reading.{AreSound}
use Rattle.thinking.specs.declared.depth_result.AnnouncedMate.{AnnouncedMate}
use Rattle.thinking.specs.Views.{announced_seen}
use Rattle.variant_ini.specs.Section.{Section}
use Rattle.variant_model.specs.Builtin.{builtin_sections}
use Rattle.variant_model.specs.Entry.{entry}
use Rattle.variant_rules.specs.Entries.{Named, entries}

abbrev pub state_of : List Section → ℕ → Played → Settings → Option AnnouncedMate → State
state_of sections place game engine kept = record {
  sections = sections;
  place = place;
  game = game;
  threads = engine.threads;
  hash = engine.hash;
  mate_facts = engine.mate_facts;
  kept = announced_seen kept;
}

-- the mate that was announced can be printed: it has from 1 to 100 moves, and the positions of its strategy are sound
abbrev pub IsPrintable : Rules → Option AnnouncedMate → Type 0
IsPrintable rules None = Unit {0}
IsPrintable rules (Some kept) = (1 ≤ kept.moves) × (kept.moves ≤ MOST_MATE) × AreSound rules kept.strategy.nodes

-- the variants are those of the sections, and the game goes by the rules of the section at the place
pub record IsSession (sections : List Section) (variants : List Named) (place : ℕ) (game : Played)
    (kept : Option AnnouncedMate) : Type 0 where
  pub judged : variants ≡ entries sections
  pub there : place < length sections
  pub accepted : entry sections place ≡ Ok game.rules
  pub printable : IsPrintable game.rules kept

-- the first sections are those that are built in
abbrev pub BeginsBuiltIn : List Section → Type 0
BeginsBuiltIn sections = (more : List Section) × (sections ≡ builtin_sections ++ more)
