-- The regions of the sides, as sets.
use Rattle.std.specs.Prelude.{◌≡◌, ℕ, List}
use Rattle.rules_model.specs.declared.board.Region.{Region}
use Rattle.rules_model.specs.declared.board.Side.{Side}
use Rattle.rules_model.specs.declared.board.Side.TheVariants.{White, Black}
use Rattle.rules_model.specs.Regions.{in_region}
use Rattle.square_set.specs.declared.Set.{Set}
use Rattle.square_set.specs.Members.{has, OnSquares}
use Rattle.attack_tables.specs.declared.regions.RegionSets.{RegionSets}

-- the set is the side's region
pub record IsSideRegion (regions : List Region) (side : Side) (set : Set) : Type 0 where
  pub is : (t : ℕ) → has set t ≡ in_region regions side t
  pub on_board : OnSquares set

-- the sets are the regions of the sides
pub record AreSideRegions (regions : List Region) (sets : RegionSets) : Type 0 where
  pub white : IsSideRegion regions White sets.white
  pub black : IsSideRegion regions Black sets.black
