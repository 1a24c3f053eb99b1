-- The pairs that a section tells are read back from their lines.
use Rattle.std.proofs.Common.{◌≡◌, ℕ, ◌+◌, Bool, true, List, [], ◌∷◌, ◌++◌, Option, Some, None, length, map, refl, sym, ap, ◌∙◌, append_assoc, append-nil, arith}
use Rattle.std.specs.List.{flat_map, list_all}
use Rattle.std.proofs.lemmas.Bool.{and_parts}
use Rattle.fen_model.proofs.JoinLaws.{Each}
use Rattle.io_ports.specs.Lines.{Line, Text}
use Rattle.strategy.proofs.BackLaws.{all_first, all_others}
use Rattle.strategy.proofs.LineLaws.{IsLine, each-append}
use Rattle.variant_ini.specs.declared.key_line.KeyLine.{KeyLine}
use Rattle.variant_ini.specs.Cuts.{trimmed}
use Rattle.variant_ini.specs.Section.{Section}
use Rattle.variant_options.specs.Keys.{all_keys, in_order, key_inserted, ordered_keys}
use Rattle.variant_options.specs.Options.{options}
use Rattle.variant_model.specs.Told.{line_of, told, told_of, told_value, with_value}
use Rattle.proof_text.specs.declared.fault.ProofFault.TheVariants.{BadRules}
use Rattle.proof_text.specs.Reading.{line_on, pairs_on, rules_of, said_or, with_rules}
use Rattle.proof_text.specs.Writing.{pair_text}
use Rattle.proof_text.proofs.PairBackLemmas.{AreToldBack, IsToldBack, is_plain, pair-back, pair-line}

-- ---- the keys

pub keys-plain : list_all is_plain ordered_keys ≡ true
unfolding all_keys in_order key_inserted ordered_keys options trimmed
keys-plain = refl

-- a test that all keys pass, the keys of all pairs pass that are told
module _ (test : List ℕ → Bool) where
  abbrev pub KeyPasses : List ℕ × List ℕ → Type 0
  KeyPasses pair = test pair.0 ≡ true

  value-passes : (key : List ℕ) (value : Option (List ℕ)) → test key ≡ true → Each KeyPasses (with_value key value)
  value-passes key None passes = tt
  value-passes key (Some value) passes = (passes, tt)

  told_of-passes : (sections : List Section) (place : ℕ) (keys : List (List ℕ)) → list_all test keys ≡ true
      → Each KeyPasses (flat_map (told_of sections place) keys)
  unfolding told_of
  told_of-passes sections place [] passes = tt
  told_of-passes sections place (key ∷ keys) passes =
      let both = and_parts (test key) (list_all test keys) passes in
      each-append KeyPasses (told_of sections place key) (flat_map (told_of sections place) keys)
      (value-passes key (told_value sections place key) both.0)
      (told_of-passes sections place keys both.1)

  pub told-passes : (sections : List Section) (place : ℕ) → list_all test ordered_keys ≡ true
      → Each KeyPasses (told sections place)
  unfolding told
  told-passes sections place passes = told_of-passes sections place ordered_keys passes

-- ---- the pairs

-- the key of the pair is plain, and the pair is told back
pub record IsTold (pair : List ℕ × List ℕ) : Type 0 where
  pub plain : is_plain pair.0 ≡ true
  pub back : IsToldBack pair

each-told : (pairs : List (List ℕ × List ℕ)) → Each (KeyPasses is_plain) pairs → AreToldBack pairs → Each IsTold pairs
each-told [] plain back = tt
each-told (pair ∷ pairs) plain back =
    let here : IsTold pair = record { plain = plain.0; back = all_first IsToldBack pair pairs back } in
    (here, each-told pairs plain.1 (all_others IsToldBack pair pairs back))

pub told-each : (sections : List Section) (place : ℕ) → AreToldBack (told sections place)
    → Each IsTold (told sections place)
told-each sections place back =
    each-told (told sections place) (told-passes is_plain sections place keys-plain) back

-- ---- their lines

pub pairs-lines : (pairs : List (List ℕ × List ℕ)) → Each IsTold pairs → Each IsLine (map pair_text pairs)
pairs-lines [] each = tt
pairs-lines (pair ∷ pairs) each = (pair-line pair each.0.plain each.0.back, pairs-lines pairs each.1)

-- the lines say the pairs, after those that were read before
pub pairs-back : (read : List KeyLine) (pairs : List (List ℕ × List ℕ)) (number : ℕ) (rest : List Line) → Each IsTold pairs
    → (pairs_on (length pairs) number read).says (map Text (map pair_text pairs) ++ rest)
    ≡ (with_rules (number + length pairs) (rules_of (read ++ map line_of pairs))).says rest
unfolding pairs_on line_on
pairs-back read [] number rest each =
    let same : number ≡ number + 0 = omega arith in
    ap (λ n. (with_rules n (rules_of read)).says rest) same ∙ ap (λ ps. (with_rules (number + 0) (rules_of ps)).says rest) (sym (append-nil read))
pairs-back read (pair ∷ pairs) number rest each =
    let further : number + 1 + length pairs ≡ number + length (pair ∷ pairs) = omega arith in
    let more = append_assoc read (line_of pair ∷ []) (map line_of pairs) in
    ap (λ said. said_or (BadRules number) said (λ line. (pairs_on (length pairs) (number + 1) (read ++ line ∷ [])).says (map Text (map pair_text pairs) ++ rest)))
    (pair-back pair each.0.plain each.0.back)
    ∙ pairs-back (read ++ line_of pair ∷ []) pairs (number + 1) rest each.1
    ∙ (λ i. (with_rules (further i) (rules_of (more i))).says rest)
