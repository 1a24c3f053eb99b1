-- Where the first section of a name stands.
use Rattle.std.proofs.Common.{◌≡◌, ℕ, suc, ◌+◌, ◌<◌, Bool, true, false, cond, List, [], ◌∷◌, ◌++◌, Option, None, Some, length, take, drop, get_or, refl, sym, ap, ◌∙◌, arith, option_map, option_and_then}
use Rattle.std.specs.Str.{bytes_eq}
use Rattle.std.proofs.Math.Seq.{take-append-add}
use Rattle.std.proofs.lemmas.List.{get_or-append-add, get_or_read, take_more, drop_more, take-append-drop, length-take-le}
use Rattle.variant_ini.specs.Section.{Section, no_section, section_at}
use Rattle.variant_ini.specs.OptionValue.{first_named, parent_place}

-- the first place, or else the one that is found so many places behind
abbrev pub or_behind : Option ℕ → ℕ → Option ℕ → Option ℕ
or_behind (Some place) n later = Some place
or_behind None n later = option_map (λ k. n + k) later

behind_none : (later : Option ℕ) → later ≡ option_map (λ k. 0 + k) later
behind_none None = refl
behind_none (Some k) = ap Some (omega arith)

suc_behind : (b : Bool) (found : Option ℕ) (n : ℕ) (later : Option ℕ) → cond b (Some 0) (option_map suc (or_behind found n later)) ≡ or_behind (cond b (Some 0) (option_map suc found)) (suc n) later
suc_behind true found n later = refl
suc_behind false (Some place) n later = refl
suc_behind false None n None = refl
suc_behind false None n (Some k) = ap Some (omega arith)

pub first_named-append : (xs ys : List Section) (name : List ℕ) → first_named (xs ++ ys) name ≡ or_behind (first_named xs name) (length xs) (first_named ys name)
unfolding first_named
first_named-append [] ys name = behind_none (first_named ys name)
first_named-append (x ∷ xs) ys name =
    ap (λ o. cond (bytes_eq x.name name) (Some 0) (option_map suc o)) (first_named-append xs ys name)
    ∙ suc_behind (bytes_eq x.name name) (first_named xs name) (length xs) (first_named ys name)

below_more : (b : Bool) (found : Option ℕ) (n place : ℕ) → cond b (Some 0) (option_map suc found) ≡ Some place → ((k : ℕ) → found ≡ Some k → k < n) → place < suc n
below_more true found n place h below = let e : 0 ≡ place = cc in omega arith
below_more false None n place h below = absurd (cc)
below_more false (Some k) n place h below =
    let e : suc k ≡ place = cc in
    let b = below k refl in
    omega arith

pub first_named_within : (xs : List Section) (name : List ℕ) (place : ℕ) → first_named xs name ≡ Some place → place < length xs
unfolding first_named
first_named_within [] name place h = absurd (cc)
first_named_within (x ∷ xs) name place h =
    below_more (bytes_eq x.name name) (first_named xs name) (length xs) place h (λ k e. first_named_within xs name k e)

-- the parent of a section that stands behind others
pub parent_place_behind : (xs ys : List Section) (place : ℕ) (s : Section) → place < length ys → s ≡ get_or ys place s → parent_place (xs ++ ys) (length xs + place) ≡ option_and_then (first_named (xs ++ take place ys)) s.parent
unfolding parent_place
parent_place_behind xs ys place s within here =
    let above : take (length xs + place) (xs ++ ys) ≡ xs ++ take place ys = take-append-add xs ys place in
    let at : section_at (xs ++ ys) (length xs + place) ≡ s = get_or-append-add xs ys place no_section ∙ sym (get_or_read ys place s within here no_section) in
    ap (λ above. option_and_then (first_named above) (section_at (xs ++ ys) (length xs + place)).parent) above
    ∙ ap (λ (t : Section). option_and_then (first_named (xs ++ take place ys)) t.parent) at
