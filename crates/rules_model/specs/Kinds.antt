-- Kinds of pieces in a variant: which it has, which is the king, which the pawn, and what a kind becomes.
use Rattle.std.specs.Prelude.{Bool, true, false, ◌==◌, is_some, Option, Some, None, List, [], slice_get, slice_index_or}
use Rattle.rules_model.specs.declared.board.BoardSize.{BoardSize}
use Rattle.rules_model.specs.declared.board.Kind.{Kind}
use Rattle.rules_model.specs.declared.board.Region.{Region}
use Rattle.rules_model.specs.declared.rules.KindRule.{KindRule}
use Rattle.rules_model.specs.declared.rules.Term.{Term}
use Rattle.rules_model.specs.declared.rules.Rules.{Rules}

abbrev pub board_of : Rules → BoardSize
board_of rules = record { files = rules.files; ranks = rules.ranks }

-- the kind is the one that is named
abbrev pub names : Option Kind → Kind → Bool
names None kind = false
names (Some named) kind = named.0 == kind.0

abbrev pub same_kind : Option Kind → Option Kind → Bool
same_kind None None = true
same_kind None (Some b) = false
same_kind (Some a) None = false
same_kind (Some a) (Some b) = a.0 == b.0

abbrev pub is_king : Rules → Kind → Bool
is_king rules kind = names rules.king kind

abbrev pub is_pawn : Rules → Kind → Bool
is_pawn rules kind = names rules.pawn kind

-- a mask of kinds holds the kind
abbrev pub masks : List Bool → Kind → Bool
masks mask kind = slice_index_or mask kind.0 false

abbrev pub rule_of : Option (Option KindRule) → Option KindRule
rule_of None = None
rule_of (Some rule) = rule

-- the rule of a kind, where the variant has it
abbrev pub kind_rule : Rules → Kind → Option KindRule
kind_rule rules kind = rule_of (slice_get rules.kinds kind.0)

-- the variant has the kind
abbrev pub has_kind : Rules → Kind → Bool
has_kind rules kind = is_some (kind_rule rules kind)

abbrev pub rule_terms : Option KindRule → List Term
rule_terms None = []
rule_terms (Some rule) = rule.terms

-- the terms of a kind
abbrev pub terms_of : Rules → Kind → List Term
terms_of rules kind = rule_terms (kind_rule rules kind)

abbrev pub rule_mobility : Option KindRule → List Region
rule_mobility None = []
rule_mobility (Some rule) = rule.mobility

-- the regions of the two sides within which a kind reaches squares
abbrev pub mobility_of : Rules → Kind → List Region
mobility_of rules kind = rule_mobility (kind_rule rules kind)

abbrev pub rule_promoted : Option KindRule → Option Kind
rule_promoted None = None
rule_promoted (Some rule) = rule.promoted

-- what a piece of the kind becomes by `Plus`
abbrev pub promoted_of : Rules → Kind → Option Kind
promoted_of rules kind = rule_promoted (kind_rule rules kind)
