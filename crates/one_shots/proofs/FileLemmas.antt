-- What was found of files.
use Rattle.std.proofs.Common.{◌≡◌, ℕ, ◌<◌, Bool, true, false, cond, nat_lt, ltb-true, List, [], ◌∷◌, ◌++◌, length, inl, inr, ◌⊎◌, refl, sym, ap, ◌∙◌, subst, Option, Some, None, Ok, Err, option_map, arith, is_some}
use Rattle.std.proofs.lemmas.List.{append-nil}
use Rattle.io_ports.specs.declared.files.TheConstants.{MAX_FILE}
use Rattle.io_ports.specs.Files.{Contents, Read, Found, Bytes, Missing, TooLarge, Fault, Finds, IsFound, found_of, faults_of}
use Rattle.variant_ini.specs.declared.fault.IniFault.{IniFault}
use Rattle.variant_ini.specs.Reading.{fault_of}
use Rattle.variant_ini.specs.Section.{Section}
use Rattle.one_shot_checks.specs.declared.fault.Fault.{Fault as Why}
use Rattle.one_shot_checks.specs.declared.fault.Fault.TheVariants.{Load}
use Rattle.variant_rules.specs.declared.fault.LoadFault.TheVariants.{Ini}
use Rattle.variant_rules.specs.declared.fault.NoSections.{NoSections}
use Rattle.variant_rules.specs.declared.fault.NoSections.TheVariants as no_sections
use Rattle.variant_rules.specs.Looked.{HasSections as Loads}
use Rattle.one_shots.specs.Commands.{asks_file}
use Rattle.one_shot_checks.specs.Fault.{fault_status}
use Rattle.one_shot_checks.specs.NoAnswerView.{load_no_answer}
use Rattle.one_shots.specs.OpeningView.{AreFirstOrNone, HasSections}
use Rattle.one_shots.specs.Looked.{IsTooLarge, TellsReads}
use Rattle.session_model.specs.Turned.{Further}
use Rattle.one_shots.specs.Statuses.{IsUnreadable}
use Rattle.one_shots.specs.Variants.{AreFirstReads, AreReadsOf, fault_found, fault_in, sections_in}
use Rattle.words.specs.Asked.{Asked}
use Rattle.words.specs.Options.{Text}

-- ---- what is found of a file

-- what is told is found, without a fault
told_found : (file : Option (List ℕ)) → IsFound file (found_of file) × (faults_of (found_of file) ≡ 0)
told_found None = (refl, refl)
told_found (Some bytes) = go (nat_lt MAX_FILE (length bytes)) refl
  where
    go : (b : Bool) → nat_lt MAX_FILE (length bytes) ≡ b → IsFound (Some bytes) (cond b TooLarge (Bytes bytes)) × (faults_of (cond b TooLarge (Bytes bytes)) ≡ 0)
    go true is = (rw is refl, refl)
    go false is = (rw is refl, refl)

-- there is something to be found of each file
next_read : (contents : Option Contents) (name : Text) → (found : Found) × Further contents (record { name = name; found = found } ∷ [])
next_read None name = (Missing, record { found = tt; works = refl })
next_read (Some files) name =
    let told = told_found (files name) in
    let works = told.1 in
    (found_of (files name), record { found = (told.0, tt); works = omega (arith, works) })

pub no_further : (contents : Option Contents) → Further contents []
no_further None = record { found = tt; works = refl }
no_further (Some files) = record { found = tt; works = refl }

-- a run that did all its first reads, or none, has others to do or none
pub reads_on : (contents : Option Contents) (c : Option Asked) (reads : List Read) → AreFirstOrNone c reads → (further : List Read) × Further contents further × AreFirstReads c (reads ++ further)
reads_on contents c reads (inr first) = ([], no_further contents, subst (AreFirstReads c) (sym (append-nil reads)) first)
reads_on contents None reads (inl none) = ([], no_further contents, append-nil reads ∙ none)
reads_on contents (Some a) reads (inl none) = go a.variants
  where
    go : (name : Option Text) → (further : List Read) × Further contents further × AreReadsOf name (reads ++ further)
    go None = ([], no_further contents, append-nil reads ∙ none)
    go (Some name) =
        let (found, further) = next_read contents name in
        (record { name = name; found = found } ∷ [], further, subst (λ (x : List Read). AreReadsOf (Some name) (x ++ record { name = name; found = found } ∷ [])) (sym none) refl)

-- found in two ways, without a fault, it is the same
one_found : (file : Option (List ℕ)) (found found' : Found) → IsFound file found → IsFound file found' → faults_of found ≡ 0 → faults_of found' ≡ 0 → found ≡ found'
one_found file found found' is is' works works' = sym (told file found is works) ∙ told file found' is' works'
  where
    told : (file : Option (List ℕ)) (found : Found) → IsFound file found → faults_of found ≡ 0 → found_of file ≡ found
    told file (Bytes bytes) is works = is
    told file Missing is works = is
    told file TooLarge is works = is
    told file Fault is works = absurd (omega (arith, works))

same_named : (contents : Option Contents) (name : Text) (reads reads' : List Read) → AreReadsOf (Some name) reads → AreReadsOf (Some name) reads' → TellsReads contents reads → TellsReads contents reads'
    → reads ≡ reads'
same_named contents name [] reads' are are' tells tells' = absurd are
same_named contents name (x ∷ y ∷ reads) reads' are are' tells tells' = absurd are
same_named contents name (x ∷ []) [] are are' tells tells' = absurd are'
same_named contents name (x ∷ []) (x' ∷ y' ∷ reads') are are' tells tells' = absurd are'
same_named None name (x ∷ []) (x' ∷ []) are are' tells tells' = absurd tells
same_named (Some files) name (x ∷ []) (x' ∷ []) are are' tells tells' =
    let works = tells.1 in
    let works' = tells'.1 in
    let names : x.name ≡ x'.name = are ∙ sym are' in
    let here = subst (λ (m : Text). IsFound (files m) x.found) names tells.0.0 in
    let same = one_found (files x'.name) x.found x'.found here tells'.0.0 (omega (arith, works)) (omega (arith, works')) in
    ap (λ (m : Text). record { name = m; found = x.found } ∷ []) names ∙ ap (λ (found : Found). record { name = x'.name; found = found } ∷ []) same

-- The first reads of a run are one list, where the files tell them if one is named.
pub same_reads : (c : Option Asked) (contents : Option Contents) (reads reads' : List Read) → AreFirstReads c reads → AreFirstReads c reads' → (asks_file c ≡ true → TellsReads contents reads)
    → (asks_file c ≡ true → TellsReads contents reads') → reads ≡ reads'
same_reads None contents reads reads' are are' tells tells' = are ∙ sym are'
same_reads (Some a) contents reads reads' are are' tells tells' = go a.variants are are' tells tells'
  where
    go : (name : Option Text) → AreReadsOf name reads → AreReadsOf name reads' → (is_some name ≡ true → TellsReads contents reads) → (is_some name ≡ true → TellsReads contents reads') → reads ≡ reads'
    go None are are' tells tells' = are ∙ sym are'
    go (Some name) are are' tells tells' = same_named contents name reads reads' are are' (tells refl) (tells' refl)

-- ---- why the file of variants gives no sections

-- the one read of it is a read of this name
reads_of_name : (name : Text) (reads : List Read) (found : Found) → reads ≡ record { name = name; found = found } ∷ [] → AreReadsOf (Some name) reads
reads_of_name name reads found are = subst (AreReadsOf (Some name)) (sym are) refl

-- it is the reason of the run
pub load_refused : (name : Text) (reads : List Read) (why : NoSections) → Loads name reads (Err why) → HasSections (Some name) reads (Err (load_no_answer why))
load_refused name reads (no_sections.Fault fault) has = (reads_of_name name reads has.found has.reads_are, ap (fault_in (Some name)) has.reads_are ∙ ap (option_map Load) has.holds)
load_refused name reads no_sections.Memory (inl none) = inl none
load_refused name reads no_sections.Memory (inr one) = inr (reads_of_name name reads one.found one.reads_are)

-- else it was taken
pub load_taken : (name : Text) (reads : List Read) (sections : List Section) → Loads name reads (Ok sections) → HasSections (Some name) reads (Ok sections)
load_taken name reads sections has =
    ((reads_of_name name reads has.found has.reads_are, ap (fault_in (Some name)) has.reads_are ∙ ap (option_map Load) has.holds.0), has.holds.1 ∙ sym (ap (sections_in (Some name)) has.reads_are))

-- ---- why a run has the status of a file that was not read

found_missing : (file : Option (List ℕ)) → found_of file ≡ Missing → file ≡ None
found_missing None is = refl
found_missing (Some has) is = go (nat_lt MAX_FILE (length has)) is
  where
    go : (b : Bool) → cond b TooLarge (Bytes has) ≡ Missing → Some has ≡ None
    go true is = cc
    go false is = cc

found_large : (file : Option (List ℕ)) → found_of file ≡ TooLarge → IsTooLarge file
found_large None is = cc
found_large (Some has) is = go (nat_lt MAX_FILE (length has)) refl is
  where
    go : (b : Bool) → nat_lt MAX_FILE (length has) ≡ b → cond b TooLarge (Bytes has) ≡ TooLarge → MAX_FILE < length has
    go true above is = ltb-true _ _ above
    go false above is = cc

-- files that tell what they have give no more bytes than a file may have
found_fits : (file : Option (List ℕ)) (bytes : List ℕ) → found_of file ≡ Bytes bytes → nat_lt MAX_FILE (length bytes) ≡ false
found_fits None bytes is = cc
found_fits (Some has) bytes is = go (nat_lt MAX_FILE (length has)) refl is
  where
    go : (b : Bool) → nat_lt MAX_FILE (length has) ≡ b → cond b TooLarge (Bytes has) ≡ Bytes bytes → nat_lt MAX_FILE (length bytes) ≡ false
    go true above is = cc
    go false above is = let same : has ≡ bytes = cc in subst (λ (x : List ℕ). nat_lt MAX_FILE (length x) ≡ false) same above

-- what was found with a fault of a file that was not read is missing or too large, as far as that is told, or a fault
pub why_unread : (contents : Option Contents) (name : Text) (found : Found) (why : Why) → Finds contents (record { name = name; found = found } ∷ []) → fault_found found ≡ Some why → fault_status why ≡ 6
    → IsUnreadable contents name ⊎ (0 < faults_of found)
why_unread None name found why finds is six = inl tt
why_unread (Some files) name Missing why finds is six = inl (inl (found_missing (files name) finds.0))
why_unread (Some files) name TooLarge why finds is six = inl (inr (found_large (files name) finds.0))
why_unread (Some files) name Fault why finds is six = inr (omega arith)
why_unread (Some files) name (Bytes bytes) why finds is six = go (fault_of bytes) (rw (found_fits (files name) bytes finds.0) at is)
  where
    go : (o : Option IniFault) → option_map Load (option_map Ini o) ≡ Some why → IsUnreadable (Some files) name ⊎ (0 < faults_of (Bytes bytes))
    go None is = cc
    go (Some fault) is = let same : Load (Ini fault) ≡ why = cc in absurd (omega (arith, subst (λ (x : Why). fault_status x ≡ 6) (sym same) six))
