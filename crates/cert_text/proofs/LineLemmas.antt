-- The lines of a certificate, as they are taken from a source.
use Rattle.std.proofs.Common.{◌≡◌, ◌≤◌, ℕ, ◌+◌, arith, length, List, [], ◌∷◌, ◌++◌, inl, inr, Option, Result, Ok, Err, refl, sym, ap, subst, ◌∙◌, append_assoc, length-append}
use Rattle.std.specs.Prelude.{⊤}
use Rattle.std.specs.Io.KnownBytes.{IsAtEnd}
use Rattle.io_ports.specs.Lines.{Line, Text, TooLong}
use Rattle.io_ports.specs.Source.{Takes}
use Rattle.io_ports.proofs.Moved.{takes_none, takes_more}
use Rattle.rules_model.specs.declared.rules.Rules.{Rules}
use Rattle.rules_model.specs.Games.{Story}
use Rattle.game_text.specs.HeardLines.{HeardLines}
use Rattle.stipulation.specs.declared.cert.Cert.{Cert}
use Rattle.cert_text.specs.declared.fault.CertFault.{CertFault}
use Rattle.cert_text.specs.declared.fault.CertFault.TheVariants.{BadLine, Ended, Memory}
use Rattle.cert_text.specs.declared.fault.NoCert.{NoCert}
use Rattle.cert_text.specs.declared.fault.NoCert.TheVariants.{Faulty, Unread}
use Rattle.cert_text.specs.Fault.{IsFaultOrMemory}
use Rattle.cert_text.specs.Needed.{lines_of_cert, lines_on}
use Rattle.cert_text.specs.Reading.{◌>>=◌, SoFar, begun, cert_of, finished, long_fault, step, taken}
use Rattle.cert_text.specs.View.{HasWhy, IsUnread}

-- ---- faults

-- where one fault is the other, so are the errors
fault_so : {A B : Type 0} (r : Result A CertFault) (s : Result B CertFault) → ((e : CertFault) → r ≡ Err e → s ≡ Err e) → (e : CertFault) → IsFaultOrMemory r e → IsFaultOrMemory s e
fault_so r s f Memory h = h
fault_so r s f (BadLine line) h = f (BadLine line) h
fault_so r s f (Ended line) h = f (Ended line) h

fault_is : {A : Type 0} (r : Result A CertFault) (e : CertFault) → r ≡ Err e → IsFaultOrMemory r e
fault_is r Memory is = tt
fault_is r (BadLine line) is = is
fault_is r (Ended line) is = is

pub unread_same : (A B : Type 0) (why : NoCert) → IsUnread {A = A} (Err why) → IsUnread {A = B} (Err why)
unread_same A B (Faulty fault) unread = unread
unread_same A B Unread unread = unread

module _ (rules : Rules) (g : Story) where
  -- ---- one line

  taken_cons : (b : SoFar) (x : Line) (more : List Line) → taken rules g b (x ∷ more) ≡ (step rules g b x >>= λ y. taken rules g y more)
  unfolding taken
  taken_cons b x more = refl

  taken_nil : (b : SoFar) → taken rules g b [] ≡ Ok b
  unfolding taken
  taken_nil b = refl

  step_taken : (b next : SoFar) (x : Line) (more : List Line) → step rules g b x ≡ Ok next → taken rules g b (x ∷ more) ≡ taken rules g next more
  step_taken b next x more is = taken_cons b x more ∙ ap (λ r. r >>= λ (y : SoFar). taken rules g y more) is

  step_fault : (b : SoFar) (x : Line) (more : List Line) (fault : CertFault) → step rules g b x ≡ Err fault → taken rules g b (x ∷ more) ≡ Err fault
  step_fault b x more fault is = taken_cons b x more ∙ ap (λ r. r >>= λ (y : SoFar). taken rules g y more) is

  needed_cons : (b next : SoFar) (x : Line) (more : List Line) → step rules g b x ≡ Ok next → lines_on rules g b (x ∷ more) ≡ 1 + lines_on rules g next more
  unfolding lines_on
  needed_cons b next x more is = rw is refl

  needed_one : (b : SoFar) (x : Line) (more : List Line) → 1 ≤ lines_on rules g b (x ∷ more)
  unfolding lines_on
  needed_one b x more = omega arith

  long_step : (b : SoFar) → step rules g b TooLong ≡ Err (long_fault b)
  unfolding step
  long_step b = refl

  -- ---- lines

  -- lines were taken from one moment to another
  pub record TakenOn (a b : Option (List ℕ)) (start now : SoFar) : Type 0 where
    pub lines : List Line
    pub took : Takes a b lines
    pub go_on : (more : List Line) → taken rules g start (lines ++ more) ≡ taken rules g now more
    pub needed : (more : List Line) → lines_on rules g start (lines ++ more) ≡ length lines + lines_on rules g now more

  pub taken_none : (a : Option (List ℕ)) (b : SoFar) → TakenOn a a b b
  taken_none a b = record { lines = []; took = takes_none a; go_on = λ more. refl; needed = λ more. omega arith }

  module _ {a b : Option (List ℕ)} {start now : SoFar} (before : TakenOn a b start now) where
    -- these lines more
    goes : (front more : List Line) → taken rules g start ((before.lines ++ front) ++ more) ≡ taken rules g now (front ++ more)
    goes front more = ap (taken rules g start) (append_assoc before.lines front more) ∙ before.go_on (front ++ more)

    needs : (front more : List Line) → lines_on rules g start ((before.lines ++ front) ++ more) ≡ length before.lines + lines_on rules g now (front ++ more)
    needs front more = ap (lines_on rules g start) (append_assoc before.lines front more) ∙ before.needed (front ++ more)

    few : (front more : List Line) → length front ≤ lines_on rules g now (front ++ more) → length (before.lines ++ front) ≤ lines_on rules g start ((before.lines ++ front) ++ more)
    few front more low =
        let is = needs front more in
        let long = length-append before.lines front in
        omega (arith, low, is, long)

  -- a line more
  pub taken_more : (a b c : Option (List ℕ)) (start now next : SoFar) (x : Line) → TakenOn a b start now → Takes b c (x ∷ []) → step rules g now x ≡ Ok next → TakenOn a c start next
  taken_more a b c start now next x before takes steps = record {
    lines = before.lines ++ x ∷ [];
    took = takes_more a b c before.lines (x ∷ []) before.took takes;
    go_on = λ more. goes before (x ∷ []) more ∙ step_taken now next x more steps;
    needed = λ more.
        let is = needs before (x ∷ []) more in
        let one = needed_cons now next x more steps in
        let long = length-append before.lines (x ∷ []) in
        omega (arith, is, one, long);
  }

  -- the end after them
  pub taken_end : (a b c : Option (List ℕ)) (start now : SoFar) → TakenOn a b start now → Takes b c [] → IsAtEnd c → HeardLines a c (lines_on rules g start) (λ lines. taken rules g start lines ≡ Ok now)
  taken_end a b c start now before takes ended = record {
    lines = before.lines ++ [];
    took = takes_more a b c before.lines [] before.took takes;
    few = λ more. few before [] more (omega arith);
    holds = inl (ended, before.go_on [] ∙ taken_nil now);
  }

  -- a faulty line after them, or one for which there was no memory
  pub taken_fault : (a b c : Option (List ℕ)) (start now : SoFar) (x : Line) (fault : CertFault) → TakenOn a b start now → Takes b c (x ∷ []) → IsFaultOrMemory (step rules g now x) fault
      → HeardLines a c (lines_on rules g start) (λ lines. IsFaultOrMemory (taken rules g start lines) fault)
  taken_fault a b c start now x fault before takes is = record {
    lines = before.lines ++ x ∷ [];
    took = takes_more a b c before.lines (x ∷ []) before.took takes;
    few = λ more. few before (x ∷ []) more (needed_one now x more);
    holds = inr (λ more. fault_so (step rules g now x) (taken rules g start ((before.lines ++ x ∷ []) ++ more)) (λ e bad. goes before (x ∷ []) more ∙ step_fault now x more e bad) fault is);
  }

  pub taken_long : (a b c : Option (List ℕ)) (start now : SoFar) (fault : CertFault) → TakenOn a b start now → Takes b c (TooLong ∷ []) → fault ≡ long_fault now
      → HeardLines a c (lines_on rules g start) (λ lines. IsFaultOrMemory (taken rules g start lines) fault)
  taken_long a b c start now fault before takes is =
      taken_fault a b c start now TooLong fault before takes (fault_is (step rules g now TooLong) fault (long_step now ∙ ap Err (sym is)))

  -- nothing after them
  pub taken_stop : (a b c : Option (List ℕ)) (start now : SoFar) → TakenOn a b start now → Takes b c [] → HeardLines a c (lines_on rules g start) (λ lines. ⊤)
  taken_stop a b c start now before takes = record {
    lines = before.lines ++ [];
    took = takes_more a b c before.lines [] before.took takes;
    few = λ more. few before [] more (omega arith);
    holds = inr (λ more. tt);
  }

  pub taken_so_far : (a b : Option (List ℕ)) (start now : SoFar) → TakenOn a b start now → HeardLines a b (lines_on rules g start) (λ lines. ⊤)
  taken_so_far a b start now before = record {
    lines = before.lines;
    took = before.took;
    few = λ more. let is = before.needed more in omega (arith, is);
    holds = inr (λ more. tt);
  }

  pub step_same : (b : SoFar) (text line : List ℕ) (r : Result SoFar CertFault) → text ≡ line → step rules g b (Text text) ≡ r → step rules g b (Text line) ≡ r
  step_same b text line r is says = ap (λ t. step rules g b (Text t)) (sym is) ∙ says

  pub fault_same : (b : SoFar) (text line : List ℕ) (fault : CertFault) → text ≡ line → IsFaultOrMemory (step rules g b (Text text)) fault → IsFaultOrMemory (step rules g b (Text line)) fault
  fault_same b text line fault is says = subst (λ t. IsFaultOrMemory (step rules g b (Text t)) fault) is says

  -- ---- the whole

  -- a reader that has begun, by its equation
  pub begun_heard : (a b : Option (List ℕ)) (start : SoFar) (P : Result SoFar CertFault → Type 0) → start ≡ begun → HeardLines a b (lines_on rules g start) (λ lines. P (taken rules g start lines))
      → HeardLines a b (lines_of_cert rules g) (λ lines. P (taken rules g begun lines))
  begun_heard a b start P is heard = subst (λ (x : SoFar). HeardLines a b (lines_on rules g x) (λ lines. P (taken rules g x lines))) is heard

  taken_bad : (lines : List Line) (fault : CertFault) → taken rules g begun lines ≡ Err fault → cert_of rules g lines ≡ Err fault
  unfolding cert_of
  taken_bad lines fault is = ap (λ r. r >>= finished) is

  pub taken_why : (lines : List Line) (why : NoCert) → HasWhy (taken rules g begun lines) why → HasWhy (cert_of rules g lines) why
  taken_why lines (Faulty fault) is = fault_so (taken rules g begun lines) (cert_of rules g lines) (λ e bad. taken_bad lines e bad) fault is
  taken_why lines Unread is = tt

  taken_ends : (lines : List Line) (b : SoFar) → taken rules g begun lines ≡ Ok b → cert_of rules g lines ≡ finished b
  unfolding cert_of
  taken_ends lines b is = ap (λ r. r >>= finished) is

  pub taken_finished : (lines : List Line) (b : SoFar) (cert : Cert) → taken rules g begun lines ≡ Ok b → finished b ≡ Ok cert → cert_of rules g lines ≡ Ok cert
  taken_finished lines b cert is ends = taken_ends lines b is ∙ ends

  pub taken_unfinished : (lines : List Line) (b : SoFar) (fault : CertFault) → taken rules g begun lines ≡ Ok b → IsFaultOrMemory (finished b) fault → IsFaultOrMemory (cert_of rules g lines) fault
  taken_unfinished lines b fault is ends = fault_so (finished b) (cert_of rules g lines) (λ e bad. taken_ends lines b is ∙ bad) fault ends
