-- What the reader has after some lines.
use Rattle.std.proofs.Common.{◌≡◌, ℕ, suc, ◌+◌, ◌-◌, ◌≤◌, ◌<◌, List, [], ◌∷◌, ◌++◌, Option, None, Some, length, map, length-append, refl, sym, ap, ◌∙◌, arith, append_assoc, append-nil, ◌≢◌}
use Rattle.std.proofs.lemmas.List.{map-append}
use Rattle.std.proofs.lemmas.Bool.{cond-true, cond-false, lt-ltb, le-ltb}
use Rattle.variant_ini.specs.declared.fault.IniFault.{IniFault}
use Rattle.variant_ini.specs.declared.fault.IniFault.TheVariants.{TooLarge, NotAscii, LineTooLong, NoSection, BadLine, TooManySections, Memory}
use Rattle.variant_ini.specs.LineKind.{LineKind, comment, foreign, header, pair, bad, line_kind}
use Rattle.variant_ini.specs.Section.{Section, key_line}
use Rattle.variant_ini.specs.Reading.{pairs_of, sections_of, sections_in_lines, sections_in, numbered_fault, line_fault, first_of, first_fault, fault_of, IsFaultOrMemory}
use Rattle.variant_ini.specs.Steps.{with_line}
use Rattle.foundation.specs.Cuts.{cut}
use Rattle.variant_ini.specs.Cuts.{cut_lines}
use Rattle.variant_ini.proofs.LineLaws.{rest_lines, cut_lines-cut}

module _ (key value : List ℕ) where
  -- a pair below lines without a header
  pairs_push : (kinds : List LineKind) → sections_of kinds ≡ [] → pairs_of (kinds ++ pair key value ∷ []) ≡ pairs_of kinds ++ key_line key value ∷ []
  unfolding sections_of
  pairs_push [] h = refl
  pairs_push (header name parent ∷ kinds) h = absurd (cc)
  pairs_push (pair k v ∷ kinds) h = ap (λ ls. key_line k v ∷ ls) (pairs_push kinds h)
  pairs_push (comment ∷ kinds) h = pairs_push kinds h
  pairs_push (foreign ∷ kinds) h = pairs_push kinds h
  pairs_push (bad ∷ kinds) h = pairs_push kinds h

  -- a pair below a header
  pairs_closed : (kinds : List LineKind) (s : Section) (ss : List Section) → sections_of kinds ≡ s ∷ ss → pairs_of (kinds ++ pair key value ∷ []) ≡ pairs_of kinds
  unfolding sections_of
  pairs_closed [] s ss h = absurd (cc)
  pairs_closed (header name parent ∷ kinds) s ss h = refl
  pairs_closed (pair k v ∷ kinds) s ss h = ap (λ ls. key_line k v ∷ ls) (pairs_closed kinds s ss h)
  pairs_closed (comment ∷ kinds) s ss h = pairs_closed kinds s ss h
  pairs_closed (foreign ∷ kinds) s ss h = pairs_closed kinds s ss h
  pairs_closed (bad ∷ kinds) s ss h = pairs_closed kinds s ss h

-- a line that is no pair leaves the pairs of those above it
abbrev IsNoPair : LineKind → Type 0
IsNoPair kind = pairs_of (kind ∷ []) ≡ []

pairs_same : (kind : LineKind) → IsNoPair kind → (kinds : List LineKind) → pairs_of (kinds ++ kind ∷ []) ≡ pairs_of kinds
pairs_same kind h [] = h
pairs_same kind h (header name parent ∷ kinds) = refl
pairs_same kind h (pair k v ∷ kinds) = ap (λ ls. key_line k v ∷ ls) (pairs_same kind h kinds)
pairs_same kind h (comment ∷ kinds) = pairs_same kind h kinds
pairs_same kind h (foreign ∷ kinds) = pairs_same kind h kinds
pairs_same kind h (bad ∷ kinds) = pairs_same kind h kinds

-- a line that is no pair adds the sections that it opens
sections_of-append : (kind : LineKind) → IsNoPair kind → (kinds : List LineKind) → sections_of (kinds ++ kind ∷ []) ≡ sections_of kinds ++ sections_of (kind ∷ [])
unfolding sections_of
sections_of-append kind h [] = refl
sections_of-append kind h (header name parent ∷ kinds) =
    ap (λ ls. record { name = name; parent = parent; lines = ls } ∷ sections_of (kinds ++ kind ∷ [])) (pairs_same kind h kinds)
    ∙ ap (λ ss. record { name = name; parent = parent; lines = pairs_of kinds } ∷ ss) (sections_of-append kind h kinds)
sections_of-append kind h (pair k v ∷ kinds) = sections_of-append kind h kinds
sections_of-append kind h (comment ∷ kinds) = sections_of-append kind h kinds
sections_of-append kind h (foreign ∷ kinds) = sections_of-append kind h kinds
sections_of-append kind h (bad ∷ kinds) = sections_of-append kind h kinds

-- a pair in a list of sections that begins with a given one: it goes to the last
pair_after : (first : Section) (sections : List Section) (key value : List ℕ) → sections ≢ [] → with_line (pair key value) (first ∷ sections) ≡ first ∷ with_line (pair key value) sections
pair_after first [] key value h = absurd (h refl)
pair_after first (s ∷ ss) key value h =
    let outer : suc (suc (length ss)) - 1 ≡ suc (length ss) = omega arith in
    let inner : suc (length ss) - 1 ≡ length ss = omega arith in
    rw (outer, inner) refl

header_pair : (name : List ℕ) (parent : Option (List ℕ)) (key value : List ℕ) (kinds : List LineKind) (ss : List Section) → sections_of kinds ≡ ss → sections_of (kinds ++ pair key value ∷ []) ≡ with_line (pair key value) ss → sections_of (header name parent ∷ kinds ++ pair key value ∷ []) ≡ with_line (pair key value) (sections_of (header name parent ∷ kinds))
unfolding sections_of
header_pair name parent key value kinds [] e below =
    rw (pairs_push key value kinds e, below, e) refl
header_pair name parent key value kinds (s ∷ ss) e below =
    rw (pairs_closed key value kinds s ss e, below, e) (sym (pair_after _ (s ∷ ss) key value (λ h. absurd (cc))))

sections_of-pair : (key value : List ℕ) (kinds : List LineKind) → sections_of (kinds ++ pair key value ∷ []) ≡ with_line (pair key value) (sections_of kinds)
unfolding sections_of
sections_of-pair key value [] = refl
sections_of-pair key value (header name parent ∷ kinds) =
    header_pair name parent key value kinds (sections_of kinds) refl (sections_of-pair key value kinds)
sections_of-pair key value (pair k v ∷ kinds) = sections_of-pair key value kinds
sections_of-pair key value (comment ∷ kinds) = sections_of-pair key value kinds
sections_of-pair key value (foreign ∷ kinds) = sections_of-pair key value kinds
sections_of-pair key value (bad ∷ kinds) = sections_of-pair key value kinds

-- one more line, for the sections of those above it
pub sections_of-push : (kinds : List LineKind) (kind : LineKind) → sections_of (kinds ++ kind ∷ []) ≡ with_line kind (sections_of kinds)
unfolding sections_of
sections_of-push kinds (pair key value) = sections_of-pair key value kinds
sections_of-push kinds (header name parent) = sections_of-append (header name parent) refl kinds
sections_of-push kinds comment = sections_of-append comment refl kinds ∙ append-nil _
sections_of-push kinds foreign = sections_of-append foreign refl kinds ∙ append-nil _
sections_of-push kinds bad = sections_of-append bad refl kinds ∙ append-nil _

sections_in_lines-push : (above : List (List ℕ)) (line : List ℕ) → sections_in_lines (above ++ line ∷ []) ≡ with_line (line_kind line) (sections_in_lines above)
unfolding sections_in_lines
sections_in_lines-push above line = ap sections_of (map-append line_kind above (line ∷ [])) ∙ sections_of-push (map line_kind above) (line_kind line)

-- the reader stands below lines without a fault, and has their sections
pub record StandsBelow (bytes : List ℕ) (sections : List Section) (number : ℕ) (rest : Option (List ℕ)) : Type 0 where
  pub above : List (List ℕ)
  pub are_lines : cut_lines bytes ≡ above ++ rest_lines rest
  pub counted : length above ≡ number
  pub read : sections ≡ sections_in_lines above
  pub faultless : first_fault [] (cut_lines bytes) ≡ first_fault above (rest_lines rest)

pub stands_first : (bytes : List ℕ) → StandsBelow bytes [] 0 (Some bytes)
unfolding sections_in_lines sections_of
stands_first bytes = record { above = []; are_lines = refl; counted = refl; read = refl; faultless = refl }

module _ (bytes : List ℕ) (sections : List Section) (number : ℕ) (text : List ℕ) (line : List ℕ) (rest : Option (List ℕ)) (s : StandsBelow bytes sections number (Some text)) (here : line ≡ (cut 10 text).0) (behind : rest ≡ (cut 10 text).1) where
  lines_are : cut_lines text ≡ line ∷ rest_lines rest
  lines_are =
      cut_lines-cut text
      ∙ ap (λ l. l ∷ rest_lines (cut 10 text).1) (sym here)
      ∙ ap (λ r. line ∷ rest_lines r) (sym behind)

  fault_is : line_fault s.above line ≡ numbered_fault (number + 1) (length sections) line
  fault_is =
      ap (λ n. numbered_fault (n + 1) (length (sections_in_lines s.above)) line) s.counted
      ∙ ap (λ (ss : List Section). numbered_fault (number + 1) (length ss) line) (sym s.read)

  first_is : first_fault [] (cut_lines bytes) ≡ first_of (numbered_fault (number + 1) (length sections) line) (first_fault (s.above ++ line ∷ []) (rest_lines rest))
  unfolding first_fault
  first_is =
      s.faultless
      ∙ ap (first_fault s.above) lines_are
      ∙ ap (λ f. first_of f (first_fault (s.above ++ line ∷ []) (rest_lines rest))) fault_is

  -- a line without a fault is taken
  pub stands_next : (after : List Section) → (numbered_fault (number + 1) (length sections) line ≡ None) × (after ≡ with_line (line_kind line) sections) → StandsBelow bytes after (number + 1) rest
  stands_next after taken = record {
    above = s.above ++ line ∷ [];
    are_lines = s.are_lines ∙ ap (λ ls. s.above ++ ls) lines_are ∙ sym (append_assoc s.above (line ∷ []) (rest_lines rest));
    counted = omega (arith, length-append s.above (line ∷ []), s.counted);
    read = taken.1 ∙ ap (with_line (line_kind line)) s.read ∙ sym (sections_in_lines-push s.above line);
    faultless = first_is ∙ ap (λ f. first_of f (first_fault (s.above ++ line ∷ []) (rest_lines rest))) taken.0;
  }

  -- the fault of the line is the first
  pub first_fault_is : (e : IniFault) → numbered_fault (number + 1) (length sections) line ≡ Some e → first_fault [] (cut_lines bytes) ≡ Some e
  first_fault_is e h = first_is ∙ ap (λ f. first_of f (first_fault (s.above ++ line ∷ []) (rest_lines rest))) h

-- no line is left
pub all_read : (bytes : List ℕ) (sections : List Section) (number : ℕ) → StandsBelow bytes sections number None → (first_fault [] (cut_lines bytes) ≡ None) × (sections ≡ sections_in bytes)
unfolding first_fault sections_in
all_read bytes sections number s = (s.faultless, s.read ∙ ap sections_in_lines (sym (s.are_lines ∙ append-nil s.above)))

pub fault_of-fits : (bytes : List ℕ) → length bytes ≤ 1048576 → fault_of bytes ≡ first_fault [] (cut_lines bytes)
unfolding fault_of
fault_of-fits bytes h = cond-false _ _ _ (le-ltb 1048576 (length bytes) h)

pub fault_of-large : (bytes : List ℕ) → 1048576 < length bytes → fault_of bytes ≡ Some TooLarge
unfolding fault_of
fault_of-large bytes h = cond-true _ _ _ (lt-ltb 1048576 (length bytes) h)

-- where one fault is the other, so are the errors
pub IsFaultOrMemory-weaker : (f g : Option IniFault) → ((e : IniFault) → f ≡ Some e → g ≡ Some e) → (e : IniFault) → IsFaultOrMemory f e → IsFaultOrMemory g e
IsFaultOrMemory-weaker f g h Memory k = k
IsFaultOrMemory-weaker f g h TooLarge k = h TooLarge k
IsFaultOrMemory-weaker f g h (NotAscii number) k = h (NotAscii number) k
IsFaultOrMemory-weaker f g h (LineTooLong number) k = h (LineTooLong number) k
IsFaultOrMemory-weaker f g h (NoSection number) k = h (NoSection number) k
IsFaultOrMemory-weaker f g h (BadLine number) k = h (BadLine number) k
IsFaultOrMemory-weaker f g h (TooManySections number) k = h (TooManySections number) k
