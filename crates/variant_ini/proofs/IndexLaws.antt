-- What a section's index finds.
use Rattle.std.proofs.Common.{◌≡◌, ℕ, suc, ◌<◌, Bool, true, false, cond, List, [], ◌∷◌, ◌++◌, Option, None, Some, Vec, Global, length, get_or, refl, sym, ap, subst, ◌∙◌, ⊎_elim, arith, nat_cmp}
use Rattle.std.specs.Ordering.{is_eq}
use Rattle.std.specs.Cmp.{eq_by_cmp_equiv}
use Rattle.std.specs.Cmp.Lexicographic.{slice_cmp, bytes_decides, nat_list_cmp_total, nat_list_eq_equiv}
use Rattle.std.specs.Str.{bytes_eq}
use Rattle.std.specs.BTreeMap.{BTreeMap, Updates, UpdatesBy, get_by}
use Rattle.std.specs.Map.{lookup, IsKeyTest, AreApart, KeepsOthers}
use Rattle.std.proofs.lemmas.Bool.{cases_Bool, cond-true, cond-false}
use Rattle.std.proofs.lemmas.Option.{cond_some, none-some}
use Rattle.std.proofs.lemmas.Map.Text.{is_eq-slice_cmp}
use Rattle.variant_ini.specs.declared.key_line.KeyLine.{KeyLine}
use Rattle.variant_ini.specs.Section.{last_value, or_here}
use Rattle.variant_ini.specs.LastPlaces.{last_place, or_first, FindsLast}

-- a value is found at this place
abbrev HasValue : List KeyLine → List ℕ → ℕ → Type 0
HasValue lines key place = (place < length lines) × ((d : KeyLine) → last_value lines key ≡ Some (get_or lines place d).value)

no_value_step : (line : KeyLine) (lines : List KeyLine) (key : List ℕ) (found : Option ℕ) → or_first found line key ≡ None → (found ≡ None → last_value lines key ≡ None) → last_value (line ∷ lines) key ≡ None
unfolding last_value
no_value_step line lines key (Some place) h below = absurd (cc)
no_value_step line lines key None h below =
    ap (λ v. or_here v line key) (below refl)
    ∙ ⊎_elim
    (λ y. absurd (none-some 0 (sym h ∙ cond-true (bytes_eq line.key key) (Some 0) None y)))
    (λ n. cond-false (bytes_eq line.key key) (Some line.value) None n)
    (cases_Bool (bytes_eq line.key key))

-- where no line has the key, no value is found
pub last_value_none : (lines : List KeyLine) (key : List ℕ) → last_place lines key ≡ None → last_value lines key ≡ None
unfolding last_value
last_value_none [] key h = refl
last_value_none (line ∷ lines) key h = no_value_step line lines key (last_place lines key) h (last_value_none lines key)

value_step : (line : KeyLine) (lines : List KeyLine) (key : List ℕ) (place : ℕ) (found : Option ℕ) → last_place lines key ≡ found → or_first found line key ≡ Some place → ((j : ℕ) → last_place lines key ≡ Some j → HasValue lines key j) → HasValue (line ∷ lines) key place
unfolding last_value
value_step line lines key place (Some j) e h below =
    let at : suc j ≡ place = cc in
    let v = below j e in
    subst (λ p. HasValue (line ∷ lines) key p) at (omega (arith, v.0), λ d. ap (λ v. or_here v line key) (v.1 d))
value_step line lines key place None e h below =
    let here = cond_some (bytes_eq line.key key) 0 place h in
    subst (λ p. HasValue (line ∷ lines) key p) here.1
    (omega arith, λ d. ap (λ v. or_here v line key) (last_value_none lines key e) ∙ cond-true (bytes_eq line.key key) (Some line.value) None here.0)

-- the last line with the key has the value
pub last_value_at : (lines : List KeyLine) (key : List ℕ) (place : ℕ) → last_place lines key ≡ Some place → HasValue lines key place
last_value_at [] key place h = absurd (none-some place h)
last_value_at (line ∷ lines) key place h =
    value_step line lines key place (last_place lines key) refl h (λ j e. last_value_at lines key j e)

or_first-cond : (b : Bool) (n : ℕ) (found : Option ℕ) (line : KeyLine) (key : List ℕ) → or_first (cond b (Some n) found) line key ≡ cond b (Some (suc n)) (or_first found line key)
or_first-cond true n found line key = refl
or_first-cond false n found line key = refl

-- one more line takes the place of the last one with its key
pub last_place_push : (lines : List KeyLine) (line : KeyLine) (key : List ℕ) → last_place (lines ++ line ∷ []) key ≡ cond (bytes_eq line.key key) (Some (length lines)) (last_place lines key)
last_place_push [] line key = refl
last_place_push (first ∷ lines) line key =
    ap (λ o. or_first o first key) (last_place_push lines line key)
    ∙ or_first-cond (bytes_eq line.key key) (length lines) (last_place lines key) first key

apart : (bs cs ks : List ℕ) → bytes_eq bs cs ≡ false → bytes_eq bs ks ≡ true → bytes_eq cs ks ≡ false
apart bs cs ks n y = nat_list_eq_equiv.symm cs ks ∙ sym (nat_list_eq_equiv.congr bs ks cs y) ∙ n

apart_in_order : (bs cs ks : List ℕ) → bytes_eq bs cs ≡ false → is_eq (slice_cmp nat_cmp bs ks) ≡ true → is_eq (slice_cmp nat_cmp cs ks) ≡ false
apart_in_order bs cs ks n y = is_eq-slice_cmp cs ks ∙ apart bs cs ks n (sym (is_eq-slice_cmp bs ks) ∙ y)

other_entries : {K X : Type 0} (eq : K → K → Bool) (test : K → Bool) (old new : List (K × X)) → KeepsOthers eq test old new → (other : K → Bool) → IsKeyTest eq other → AreApart test other → lookup other new ≡ lookup other old
unfolding KeepsOthers
other_entries eq test old new h = h

-- the index at a key
abbrev pub found_at : BTreeMap (Vec ℕ Global) ℕ → List ℕ → Option ℕ
found_at index key = get_by (λ k. slice_cmp nat_cmp key k.items) index

-- after a write at the bytes bs, the index has the new value there, and the old ones elsewhere
pub index_updates : (bs : List ℕ) (old new : BTreeMap (Vec ℕ Global) ℕ) (w : Option ℕ) → UpdatesBy (λ x y. slice_cmp nat_cmp x.items y.items) (λ k. slice_cmp nat_cmp bs k.items) old new w → (cs : List ℕ) → found_at new cs ≡ cond (bytes_eq bs cs) w (found_at old cs)
index_updates bs old new w h cs =
    ⊎_elim
    (λ y. subst (λ l. found_at new l ≡ w) ((bytes_decides bs cs).0 y) h.1 ∙ sym (cond-true (bytes_eq bs cs) w (found_at old cs) y))
    (λ n.
    other_entries _ _ _ _ h.3 _ (λ x y. (eq_by_cmp_equiv nat_list_cmp_total).congr cs x.items y.items) (λ k. apart_in_order bs cs k.items n)
    ∙ sym (cond-false (bytes_eq bs cs) w (found_at old cs) n))
    (cases_Bool (bytes_eq bs cs))

-- an index that finds the last lines finds them after a line is added to both
pub FindsLast-push : (lines : List KeyLine) (line : KeyLine) (k : Vec ℕ Global) (place : ℕ) (old new : BTreeMap (Vec ℕ Global) ℕ) → k.items ≡ line.key → place ≡ length lines → FindsLast old lines → Updates (λ x y. slice_cmp nat_cmp x.items y.items) old new k (Some place) → FindsLast new (lines ++ line ∷ [])
FindsLast-push lines line k place old new key_is place_is finds updates key =
    index_updates k.items old new (Some place) updates key
    ∙ ap (λ bs. cond (bytes_eq bs key) (Some place) (found_at old key)) key_is
    ∙ ap (λ p. cond (bytes_eq line.key key) (Some p) (found_at old key)) place_is
    ∙ ap (λ o. cond (bytes_eq line.key key) (Some (length lines)) o) (finds key)
    ∙ sym (last_place_push lines line key)
