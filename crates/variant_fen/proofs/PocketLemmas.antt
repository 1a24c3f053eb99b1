-- The pocket as code reads it.
use Rattle.std.proofs.Common.{◌≡◌, ℕ, ◌==◌, Bool, true, false, ◌&&◌, ◌||◌, List, [], ◌∷◌, length, replicate, Option, Some, None, Ok, Err, refl, ap, ◌∙◌}
use Rattle.std.specs.List.{list_all}
use Rattle.rules_model.specs.declared.rules.Rules.{Rules}
use Rattle.rules_model.specs.Sound.{has_hands}
use Rattle.fen_model.specs.declared.fault.FenFault.TheVariants.{Pocket}
use Rattle.fen_model.specs.Fields.{says_none}
use Rattle.fen_model.specs.Pocket.{hands_inside, hands_of, hands_said, inside_of, is_hand_letter, no_hands}
use Rattle.variant_fen.specs.Hands.{capped_counts, capped_result}

inside_is : (rules : Rules) (pocket : List ℕ) (o : Option (List ℕ)) → inside_of pocket ≡ o → hands_of rules pocket ≡ hands_inside rules o
unfolding hands_of
inside_is rules pocket o h = ap (hands_inside rules) h

pub no_pocket : (rules : Rules) (pocket : List ℕ) → inside_of pocket ≡ None → capped_result (hands_of rules pocket) ≡ Err Pocket
no_pocket rules pocket h = ap capped_result (inside_is rules pocket None h)

pub empty_pocket : (rules : Rules) (pocket letters : List ℕ) → inside_of pocket ≡ Some letters → (length letters == 0 || says_none letters) ≡ true → capped_result (hands_of rules pocket) ≡ Ok (replicate 2 (replicate 26 0))
unfolding no_hands
empty_pocket rules pocket letters h nothing = ap capped_result (inside_is rules pocket (Some letters) h) ∙ (rw nothing refl)

pub bad_pocket : (rules : Rules) (pocket letters : List ℕ) → inside_of pocket ≡ Some letters → (length letters == 0 || says_none letters) ≡ false → (has_hands rules && list_all (is_hand_letter rules) letters) ≡ false → capped_result (hands_of rules pocket) ≡ Err Pocket
bad_pocket rules pocket letters h some bad = ap capped_result (inside_is rules pocket (Some letters) h) ∙ (rw (some, bad) refl)

pub good_pocket : (rules : Rules) (pocket letters : List ℕ) → inside_of pocket ≡ Some letters → (length letters == 0 || says_none letters) ≡ false → (has_hands rules && list_all (is_hand_letter rules) letters) ≡ true
    → capped_result (hands_of rules pocket) ≡ Ok (capped_counts 65 letters ∷ capped_counts 97 letters ∷ [])
good_pocket rules pocket letters h some good = ap capped_result (inside_is rules pocket (Some letters) h) ∙ (rw (some, good) refl)
