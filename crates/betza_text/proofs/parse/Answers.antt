use Rattle.std.proofs.Common.{◌≡◌, ℕ, suc, ◌-◌, ◌≤◌, ◌<◌, ◌==◌, true, take, Some, None, Ok, Err, List, [], ◌∷◌, ◌++◌, length, drop, append_assoc, append-nil, refl, sym, ◌∙◌, ap, subst, inl, inr, arith, rules, eqb-true}
use Rattle.betza_text.specs.declared.part.Part.{Part}
use Rattle.betza_text.specs.declared.fault.BetzaFault.{BetzaFault}
use Rattle.betza_text.specs.declared.fault.BetzaFault.TheVariants.{Empty}
use Rattle.betza_text.specs.declared.split_part.SplitPart.{SplitPart}
use Rattle.betza_text.specs.SplitPart.{cut_of}
use Rattle.betza_text.specs.Steps.{step_count, steps_of}
use Rattle.betza_text.specs.PartFault.{part_fault, cut_fault}
use Rattle.betza_text.specs.Word.{Spells, BetzaBad, SpelledFrom, FaultBehind}
use Rattle.betza_text.proofs.FaultLemmas.{terms_few}
use Rattle.betza_text.proofs.ReadLemmas.{IsFirst, first_fault-is, spelled_next, fault_next, fault_here, spelled_end, step_count-more, tail-is}
use Rattle.betza_text.proofs.WordLaws.{not_both, one_word, one_fault}
use Rattle.betza_text.proofs.parse.Goals as goal

empty_is : (text : List ℕ) → (length text == 0) ≡ true → text ≡ []
empty_is [] h = refl
empty_is (x ∷ xs) h = absurd (omega (arith, eqb-true (length (x ∷ xs)) 0 h))

pub returns-then-is_empty-clause-only_bad : goal.returns-then-is_empty-clause-only_bad
returns-then-is_empty-clause-only_bad c =
    let empty : c.args.text.now ≡ [] = empty_is c.args.text.now (sym c.is_empty.ensures ∙ c.if-is_empty.true) in
    λ f bad. inl (ap (λ x. Err x) (one_fault c.args.text.now (Empty 0) f (inl (empty, refl)) bad))

pub loop-place-init : goal.loop-place-init
unfolding step_count
loop-place-init c = record {
  word = λ b s. subst (λ ps. SpelledFrom 0 0 c.args.text.now (ps ++ b)) (sym c.new-parts.ensures.items) s;
  fault = λ k f s. (k, s);
  few = omega arith;
  count = ap step_count (sym c.new-parts.ensures.items);
}

bad_here : (text : List ℕ) (at before : ℕ) (cut : SplitPart) (f : BetzaFault) → length text ≤ 64 → at < length text → cut ≡ cut_of (take (length text - at) (drop at text)) → Some f ≡ cut_fault at before (take (length text - at) (drop at text)) cut → ((k : ℕ) (g : BetzaFault) → FaultBehind k at before (drop at text) g → (j : ℕ) × FaultBehind j 0 0 text g) → BetzaBad text f
bad_here text at before cut f short l e s h =
    let fault : part_fault at before (drop at text) ≡ Some f = subst (λ t. part_fault at before t ≡ Some f) (tail-is text at) (first_fault-is at before _ cut (Some f) e s) in
    let first : (j : ℕ) × FaultBehind j 0 0 text f = h 0 f (fault_here text at before f l fault) in
    inr (inr (record { short = short; good = first.0; first = first.1 }))

bad_at : (c : goal.After-drop-parts) → BetzaBad c.args.text.now c.in-Some.fault
bad_at c =
    bad_here c.args.text.now c.loop-place.place c.loop-place.terms c.of-cut.result c.in-Some.fault (omega arith) (omega arith) c.of-cut.ensures.is (sym c.in-Some.is ∙ c.first_fault.ensures) c.loop-place.invariant.fault

pub returns-in-Some-clause-fault : goal.returns-in-Some-clause-fault
returns-in-Some-clause-fault c = λ n. bad_at c

pub returns-in-Some-clause-only_spelled : goal.returns-in-Some-clause-only_spelled
returns-in-Some-clause-only_spelled c = λ b s. absurd (not_both c.args.text.now b c.in-Some.fault s (bad_at c))

pub returns-in-Some-clause-only_bad : goal.returns-in-Some-clause-only_bad
returns-in-Some-clause-only_bad c =
    λ f bad. inl (ap (λ x. Err x) (one_fault c.args.text.now c.in-Some.fault f (bad_at c) bad))

pub loop-place-preserved : goal.loop-place-preserved
loop-place-preserved c =
    let text : List ℕ = c.args.text.now in
    let at : ℕ = c.loop-place.place in
    let before : ℕ = c.loop-place.terms in
    let cut : SplitPart = c.of-cut.result in
    let part : Part = c.read-part.result in
    let n : ℕ = c.len-place.result in
    let m : ℕ = c.len-terms.result in
    let l : at < length text = omega arith in
    let counted : m ≡ length (steps_of part) = c.len-terms.ensures.value ∙ ap length (c.part_steps-in-loop-place.view_is ∙ c.part_steps.ensures) in
    let none : cut_fault at before (take (length text - at) (drop at text)) cut ≡ None = sym c.first_fault.ensures ∙ c.in_default.is in
    let fine : part_fault at before (drop at text) ≡ None = subst (λ t. part_fault at before t ≡ None) (tail-is text at) (first_fault-is at before _ cut None c.of-cut.ensures.is (sym none)) in
    let first : IsFirst (drop at text) cut part n m = subst (λ t. IsFirst t cut part n m) (tail-is text at) (record { cut_is = c.of-cut.ensures.is; says = c.read-part.ensures; long = c.len-place.ensures.is; terms = counted }) in
    let pushed : c.push.new.self.items ≡ c.loop-place.parts.items ++ part ∷ [] = c.in_ok-push.ensures.items in
    record {
      word = λ b s. subst (λ ps. SpelledFrom 0 0 text ps) (sym (append_assoc c.loop-place.parts.items (part ∷ []) b) ∙ ap (λ ps. ps ++ b) (sym pushed)) (c.loop-place.invariant.word (part ∷ b) (spelled_next text at before cut part n m b l first fine s));
      fault = λ k f s. c.loop-place.invariant.fault (suc k) f (fault_next text at before cut part n m k f l first fine s);
      few = omega (arith, counted, terms_few at before _ cut none, ap (λ p. length (steps_of p)) c.read-part.ensures);
      count = omega (arith, counted, ap step_count pushed, step_count-more c.loop-place.parts.items part, c.loop-place.invariant.count);
    }

word_end : (text : List ℕ) (at before : ℕ) (parts : List Part) → length text ≤ at → ((b : List Part) → SpelledFrom at before (drop at text) b → SpelledFrom 0 0 text (parts ++ b)) → SpelledFrom 0 0 text parts
word_end text at before parts l h =
    subst (λ b. SpelledFrom 0 0 text b) (append-nil parts) (h [] (spelled_end text at before l))

pub returns-clause-read : goal.returns-clause-read
returns-clause-read c = record {
  begins = search rules;
  short = omega arith;
  parts = word_end c.args.text.now c.loop-place.place c.loop-place.terms _ (omega arith) c.loop-place.invariant.word;
}

pub returns-clause-only_spelled : goal.returns-clause-only_spelled
returns-clause-only_spelled c =
    let read : Spells c.args.text.now c.loop-place.parts.items = returns-clause-read c in
    λ b s. inl (ap (λ x. Ok x) (one_word c.args.text.now _ b read s))

pub returns-clause-only_bad : goal.returns-clause-only_bad
returns-clause-only_bad c =
    let read : Spells c.args.text.now c.loop-place.parts.items = returns-clause-read c in
    λ f bad. absurd (not_both c.args.text.now _ f read bad)
