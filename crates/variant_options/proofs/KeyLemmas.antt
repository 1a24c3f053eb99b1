-- The table of keys.
use Rattle.std.proofs.Common.{◌≡◌, ℕ, ◌+◌, ◌-◌, ◌<◌, ◌≤◌, List, [], length, get_or, map, take, drop}
use Rattle.std.proofs.Common.{refl, sym, ap, ◌∙◌, arith}
use Rattle.std.specs.Borrow.{Bor}
use Rattle.std.proofs.lemmas.List.{get_or-drop, get_or-map, get_or-take, length-drop, length-map, length-take-le}
use Rattle.variant_options.specs.Keys.{all_keys, in_order, key_inserted, ordered_keys}
use Rattle.variant_options.specs.Options.{options}

pub keys_long : length ordered_keys ≡ 213
unfolding all_keys in_order key_inserted ordered_keys options
keys_long = refl

abbrev text : Bor (List ℕ) → List ℕ
text key = key.now

-- how many keys a part of the table has
pub part_long : (keys : List (Bor (List ℕ))) (from count : ℕ) → map text keys ≡ take count (drop from ordered_keys)
    → from + count ≤ 213 → length keys ≡ count
part_long keys from count is l =
    let left : length (drop from ordered_keys) ≡ 213 - from =
    length-drop from ordered_keys ∙ ap (λ n. n - from) keys_long
    in
    let some : count ≤ length (drop from ordered_keys) = omega (arith, left, l) in
    sym (length-map keys text) ∙ ap length is ∙ length-take-le count (drop from ordered_keys) some

-- the key at a place of a part
pub part_at : (keys : List (Bor (List ℕ))) (from count place : ℕ) (d : Bor (List ℕ))
    → map text keys ≡ take count (drop from ordered_keys) → from + count ≤ 213 → place < count
    → (get_or keys place d).now ≡ get_or ordered_keys (from + place) []
part_at keys from count place d is l below =
    let inside : place < length keys = omega (arith, part_long keys from count is l, below) in
    sym (get_or-map text keys place d [] inside)
    ∙ ap (λ xs. get_or xs place []) is
    ∙ get_or-take count (drop from ordered_keys) place [] below
    ∙ get_or-drop from ordered_keys place []
