-- Marks of the classes of keys.
use Rattle.std.proofs.Common.{◌≡◌, ◌≢◌, ℕ, ◌<◌, Bool, true, false, cond, List, [], ◌∷◌, ◌++◌, Option, None, Some, Result, Ok, Err, OnOk, OnErr, length, get_or, set, refl, sym, ap, subst, ◌∙◌, ⊎_elim}
use Rattle.std.specs.Cmp.Lexicographic.{bytes_decides}
use Rattle.std.specs.Str.{bytes_eq}
use Rattle.std.specs.declared.alloc.AllocError.{AllocError}
use Rattle.std.proofs.lemmas.Bool.{cases_Bool, cond-false}
use Rattle.std.proofs.lemmas.Grind.{get_or-set_at}
use Rattle.std.proofs.lemmas.List.{get_or-set_other}
use Rattle.variant_ini.specs.declared.key_line.KeyLine.{KeyLine}
use Rattle.variant_ini.specs.Classes.{class_of, MarksClasses}
use Rattle.variant_ini.specs.LastPlaces.{last_place}
use Rattle.variant_ini.proofs.IndexLaws.{last_place_push}

module _ (marks : List Bool) (class : ℕ) (within : class < length marks) (other : ℕ) (unmarked : get_or (set marks class true) other false ≡ false) where
  -- what is not marked is another class
  other_class : other ≢ class
  other_class same = let e : true ≡ false = sym (get_or-set_at marks class other true false same within) ∙ unmarked in absurd (cc)

  -- and was not marked before
  unmarked_before : get_or marks other false ≡ false
  unmarked_before = sym (get_or-set_other marks class other true false other_class) ∙ unmarked

-- one more mark
marks_kept : (marks : List Bool) (class : ℕ) (lines : List KeyLine) → class < length marks → MarksClasses marks lines → MarksClasses (set marks class true) lines
marks_kept marks class lines within old key unmarked = old key (unmarked_before marks class within (class_of key) unmarked)

-- a line, and the mark of its key's class
marks_more : (marks : List Bool) (lines : List KeyLine) (line : KeyLine) → class_of line.key < length marks → MarksClasses marks lines → MarksClasses (set marks (class_of line.key) true) (lines ++ line ∷ [])
marks_more marks lines line within old key unmarked =
    last_place_push lines line key
    ∙ ⊎_elim
    (λ same. absurd (other_class marks (class_of line.key) within (class_of key) unmarked (ap class_of (sym ((bytes_decides line.key key).0 same)))))
    (λ apart. cond-false (bytes_eq line.key key) (Some (length lines)) (last_place lines key) apart ∙ marks_kept marks (class_of line.key) lines within old key unmarked)
    (cases_Bool (bytes_eq line.key key))

-- whatever the answer of a call that adds the line
pub marks_pushed : (answer : Result (Unit {0}) AllocError) (marks : List Bool) (old new : List KeyLine) (line : KeyLine) → class_of line.key < length marks → MarksClasses marks old → OnOk answer (new ≡ old ++ line ∷ []) → OnErr answer (new ≡ old) → MarksClasses (set marks (class_of line.key) true) new
marks_pushed (Ok x) marks old new line within marked added err =
    subst (λ lines. MarksClasses (set marks (class_of line.key) true) lines) (sym added) (marks_more marks old line within marked)
marks_pushed (Err e) marks old new line within marked added err =
    subst (λ lines. MarksClasses (set marks (class_of line.key) true) lines) (sym err) (marks_kept marks (class_of line.key) old within marked)
