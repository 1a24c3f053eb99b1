-- How pieces move, and rules with one piece more.
use Rattle.std.specs.Prelude.{ℕ, ◌-◌, ℤ, true, false, List, [], ◌∷◌, ◌++◌, map, Some, None, slice_index, slice_set}
use Rattle.rules_model.specs.declared.board.Kind.{Kind}
use Rattle.rules_model.specs.declared.board.Region.{Region}
use Rattle.rules_model.specs.declared.rules.Rules.{Rules}
use Rattle.rules_model.specs.declared.rules.Term.{Term}
use Rattle.sample_rules.specs.Regions.{area}

abbrev pub term_of : Term → ℤ × ℤ → Term
term_of manner step = record manner { dx = step.0; dy = step.1 }

-- the terms and, for each of the steps, one of this manner
unfoldable pub with : List Term → List (ℤ × ℤ) → Term → List Term
with terms steps manner = terms ++ map (term_of manner) steps

abbrev pub board : Rules → Region
board rules = area 0 rules.files 0 rules.ranks

-- the letter of a text of one
abbrev pub letter : List ℕ → ℕ
letter text = slice_index text 0

abbrev pub kind : List ℕ → Kind
kind text = record { 0 = letter text - 97 }

-- the rules with one piece more, which may go where its side's region is
unfoldable pub with_bound_piece : Rules → ℕ → List Term → List Region → Rules
with_bound_piece rules letter terms mobility = record rules {
  kinds = slice_set rules.kinds (letter - 97)
      (Some (record { terms = terms; mobility = mobility; pawn = false; promoted = None }));
}

-- which may go anywhere on the board
unfoldable pub with_piece : Rules → ℕ → List Term → Rules
with_piece rules letter terms = with_bound_piece rules letter terms (board rules ∷ board rules ∷ [])

-- which becomes a piece of the kind where it is promoted
unfoldable pub with_promoted_piece : Rules → ℕ → List Term → Kind → Rules
with_promoted_piece rules letter terms promoted = record rules {
  kinds = slice_set rules.kinds (letter - 97)
      (Some (record {
        terms = terms;
        mobility = board rules ∷ board rules ∷ [];
        pawn = false;
        promoted = Some promoted;
      }));
}

-- the rules with the chess pawn
unfoldable pub with_pawn : Rules → Rules
with_pawn rules = record rules {
  kinds = slice_set rules.kinds 15
      (Some (record { terms = []; mobility = board rules ∷ board rules ∷ []; pawn = true; promoted = None }));
  pawn = Some (record { 0 = 15 });
}
