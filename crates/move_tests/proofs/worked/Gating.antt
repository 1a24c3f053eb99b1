-- Gates: on the square that a move leaves, also on the rook's square of a castle, and never on a square that stays full.
use Rattle.std.proofs.Common.{◌≡◌, true, false, [], ◌∷◌, Some, None, refl, set, replicate}
use Rattle.rules_model.specs.declared.board.Repeat.{Repeat}
use Rattle.rules_model.specs.declared.board.Side.TheVariants.{White, Black}
use Rattle.rules_model.specs.declared.moves.Move.TheVariants.{Go, Castle}
use Rattle.rules_model.specs.declared.moves.Promo.TheVariants.{Stays}
use Rattle.rules_model.specs.declared.rules.Rules.{Rules}
use Rattle.rules_model.specs.Next.{next_repeat}
use Rattle.rules_model.specs.Legal.{is_allowed}
use Rattle.rules_model.specs.Sound.{is_sound_repeat}
use Rattle.rules_model.specs.Squares.{cell_at}
use Rattle.rules_model.proofs.worked.Chess.{chess, at, kind, bare, man, stands, empty}
use Rattle.rules_model.proofs.worked.Open.{rules_opened}

abbrev gating : Rules
gating = record chess { gating = true; gate_hand = true }

-- White: king e1, rook h1, knight b1, pawn c2, with a bishop in hand and the gates of b1, e1 and h1; Black: king e8
abbrev r : Repeat
r = record (bare (stands White 10 (at 4 0) (stands White 17 (at 7 0) (stands White 13 (at 1 0) (stands White 15 (at 2 1) (stands Black 10 (at 4 7) empty))))) White) {
  hands = set (replicate 26 0) 1 1 ∷ replicate 26 0 ∷ [];
  gates = 146 ∷ 0 ∷ [];
  rights = (true ∷ false ∷ []) ∷ (false ∷ false ∷ []) ∷ [];
}

sound : is_sound_repeat gating r ≡ true
unfolding rules_opened
sound = refl

gated : is_allowed gating r (Go (at 1 0) (at 2 2) Stays (Some (kind 1))) ≡ true
unfolding rules_opened
gated = refl

not_gated : is_allowed gating r (Go (at 1 0) (at 2 2) Stays None) ≡ true
unfolding rules_opened
not_gated = refl

without_gate : is_allowed gating (record r { gates = 144 ∷ 0 ∷ [] }) (Go (at 1 0) (at 2 2) Stays (Some (kind 1))) ≡ false
unfolding rules_opened
without_gate = refl

not_in_hand : is_allowed gating r (Go (at 1 0) (at 2 2) Stays (Some (kind 13))) ≡ false
unfolding rules_opened
not_in_hand = refl

no_pawn_gates : is_allowed gating r (Go (at 2 1) (at 2 2) Stays (Some (kind 1))) ≡ false
unfolding rules_opened
no_pawn_gates = refl

on_rook_square : is_allowed gating r (Castle (at 4 0) (at 6 0) (at 7 0) (Some (record { kind = kind 1; at = at 7 0 }))) ≡ true
unfolding rules_opened
on_rook_square = refl

on_king_square : is_allowed gating r (Castle (at 4 0) (at 6 0) (at 7 0) (Some (record { kind = kind 1; at = at 4 0 }))) ≡ true
unfolding rules_opened
on_king_square = refl

on_target : is_allowed gating r (Castle (at 4 0) (at 6 0) (at 7 0) (Some (record { kind = kind 1; at = at 6 0 }))) ≡ false
unfolding rules_opened
on_target = refl

stands_there : cell_at (next_repeat gating r (Castle (at 4 0) (at 6 0) (at 7 0) (Some (record { kind = kind 1; at = at 7 0 })))).cells 7 ≡ Some (man White 1)
unfolding rules_opened
stands_there = refl

gate_closes : (next_repeat gating r (Go (at 1 0) (at 2 2) Stays None)).gates ≡ 144 ∷ 0 ∷ []
unfolding rules_opened
gate_closes = refl

rook_gate_lost : (next_repeat gating r (Go (at 7 0) (at 7 3) Stays (Some (kind 1)))).rights ≡ (false ∷ false ∷ []) ∷ (false ∷ false ∷ []) ∷ []
unfolding rules_opened
rook_gate_lost = refl

right_without_gate : is_sound_repeat gating (record r { gates = 18 ∷ 0 ∷ [] }) ≡ false
unfolding rules_opened
right_without_gate = refl
