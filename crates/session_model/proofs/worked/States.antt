-- The states that variants lead to.
use Rattle.std.proofs.Common.{◌≡◌, ℕ, List, [], ◌∷◌, Some, None, Ok, Err, refl}
use Rattle.std.specs.Prelude.{codes}
use Rattle.io_ports.specs.Lines.{Text}
use Rattle.rules_model.specs.declared.board.Side.TheVariants.{Black}
use Rattle.rules_model.specs.declared.rules.Rules.{Rules}
use Rattle.variant_ini.specs.OptionValue.{first_named}
use Rattle.variant_ini.specs.Section.{Section}
use Rattle.variant_model.specs.declared.fault.SectionFault.{SectionFault}
use Rattle.session_model.specs.CecpState as Cecp
use Rattle.session_model.specs.UciState as Uci

-- ---- UCI

abbrev section : List ℕ → Section
section name = record { name = name; parent = None; lines = [] }

module _ (rules : Rules) where
  -- the place of the variant is that of the first section of its name
  first_section : (Uci.state_by (section (codes "chess") ∷ section (codes "other") ∷ []) 1 rules).place ≡ 0
  unfolding first_named
  first_section = refl

  later_section : (Uci.state_by (section (codes "other") ∷ section (codes "chess") ∷ section (codes "chess") ∷ []) 1 rules).place ≡ 1
  unfolding first_named
  later_section = refl

  -- ---- CECP

  module _ (state : Cecp.State) where
    -- `new` gives the engine Black and clears `sd`
    new_plays : (Cecp.set_variant state Cecp.renewed (Text (codes "new")) (Some (Ok rules))).state.plays ≡ Some Black
    new_plays = refl

    new_clears : (Cecp.set_variant state Cecp.renewed (Text (codes "new")) (Some (Ok rules))).state.sd ≡ None
    new_clears = refl

    -- `variant` does neither
    variant_plays : (Cecp.set_variant state (λ kept. kept) (Text (codes "variant chess")) (Some (Ok rules))).state.plays ≡ state.plays
    variant_plays = refl

    variant_keeps : (Cecp.set_variant state (λ kept. kept) (Text (codes "variant chess")) (Some (Ok rules))).state.sd ≡ state.sd
    variant_keeps = refl

-- and where chess is not there, or refused, `new` changes nothing
module _ (state : Cecp.State) where
  not_there : (Cecp.set_variant state Cecp.renewed (Text (codes "new")) None).state ≡ state
  not_there = refl

  refused : (fault : SectionFault) → (Cecp.set_variant state Cecp.renewed (Text (codes "new")) (Some (Err fault))).state ≡ state
  refused fault = refl

  says_so : (Cecp.set_variant state Cecp.renewed (Text (codes "new")) None).text ≡ codes "Error (unknown variant): new\n"
  says_so = refl
