-- Lines that are taken one after another, and what those after them say.
use Rattle.std.proofs.Common.{◌≡◌, ◌≤◌, ℕ, suc, ◌+◌, ◌-◌, ◌<◌, if◌then◌else◌, arith, Bool, true, false, nat_lt, length, List, [], ◌∷◌, ◌++◌, inl, inr, Option, Some, None, Result, Ok, Err, refl, sym, ap, subst, ◌∙◌, append_assoc, length-append, map}
use Rattle.std.specs.Prelude.{MatchResult, option_and_then, ⊤}
use Rattle.std.specs.Io.KnownBytes.{IsAtEnd}
use Rattle.std.proofs.lemmas.List.{append-nil}
use Rattle.io_ports.specs.Cause.{HasCause}
use Rattle.std.specs.Io.BufRead.{take_through, drop_through}
use Rattle.std.proofs.lemmas.Bool.{le-ltb, lt-ltb}
use Rattle.io_ports.specs.declared.line.TheConstants.{MAX_LINE}
use Rattle.io_ports.specs.Lines.{Line, Text, TooLong, line_feed, line_of, lines_of, pieces_of, text_of}
use Rattle.io_ports.specs.Source.{Takes}
use Rattle.io_ports.proofs.Moved.{map_line-append, takes_none, takes_more}
use Rattle.io_ports.proofs.Pieces.{pieces_of-some}
use Rattle.rules_model.specs.declared.board.Position.{Position}
use Rattle.rules_model.specs.declared.rules.Rules.{Rules}
use Rattle.fen_model.specs.declared.fault.FenFault.{FenFault}
use Rattle.game_play.specs.Played.{Played}
use Rattle.game_text.specs.HeardLines.{HeardLines}
use Rattle.game_text.proofs.HeardLemmas.{heard_end, heard_line, heard_none, heard_nothing}
use Rattle.proof_text.specs.declared.fault.ProofFault.{ProofFault}
use Rattle.proof_text.specs.declared.fault.ProofFault.TheVariants.{Header, BadRules, RefusedRules, BadStart, BadHistory, BadBody, Memory}
use Rattle.proof_text.specs.declared.proof.Proof.{Proof}
use Rattle.proof_text.specs.declared.source_lines.NoProof.{NoProof}
use Rattle.proof_text.specs.declared.source_lines.NoProof.TheVariants.{Faulty, Unread}
use Rattle.proof_text.specs.Lines.{first_text}
use Rattle.proof_text.specs.Reading.{Reading, history_on, if_said, line_on, lines_of_proof, proof_of, proof_on, rules_on, said_or, with_start}
use Rattle.proof_text.specs.Words.{is_version}
use Rattle.proof_text.specs.TakingView.{GoesOn, HasWhy, Hears, IsUnread, Reads, SaysProof, Starts, TakesText, or_fault, text_if}
use Rattle.proof_text.proofs.FaultLemmas.{fault-is}

-- ---- part after part

pub goes-none : (a : Option (List ℕ)) (on : Reading) → GoesOn a a on on
goes-none a on = record { lines = []; took = takes_none a; says = λ more. refl; needs = λ more. omega arith }

pub goes-on : (a b c : Option (List ℕ)) (on mid next : Reading) → GoesOn a b on mid → GoesOn b c mid next → GoesOn a c on next
goes-on a b c on mid next first later = record {
  lines = first.lines ++ later.lines;
  took = takes_more a b c first.lines later.lines first.took later.took;
  says = λ more. ap on.says (append_assoc first.lines later.lines more) ∙ first.says (later.lines ++ more) ∙ later.says more;
  needs = λ more.
      let one = first.needs (later.lines ++ more) in
      let two = later.needs more in
      let joined = ap on.needs (append_assoc first.lines later.lines more) in
      let long = length-append first.lines later.lines in
      omega (arith, one, two, joined, long);
}

pub heard-on : (a b c : Option (List ℕ)) (on mid : Reading) (P : Result Proof ProofFault → Type 0) → GoesOn a b on mid → Hears b c mid P → Hears a c on P
heard-on a b c on mid P first later = record {
  lines = first.lines ++ later.lines;
  took = takes_more a b c first.lines later.lines first.took later.took;
  few = λ more.
      let one = first.needs (later.lines ++ more) in
      let two = later.few more in
      let joined = ap on.needs (append_assoc first.lines later.lines more) in
      let long = length-append first.lines later.lines in
      omega (arith, one, two, joined, long);
  holds = elim later.holds [
    | inl (ended, holds) ↦ inl (ended, subst P (sym (first.says later.lines)) holds)
    | inr holds ↦ inr (λ more. subst P (sym (ap on.says (append_assoc first.lines later.lines more) ∙ first.says (later.lines ++ more))) (holds more))
  ];
}

pub reads-on : {A : Type 0} (a b c : Option (List ℕ)) (on mid : Reading) (next : A → Reading) (r : Result A NoProof) → GoesOn a b on mid → Reads b c mid next r → Reads a c on next r
reads-on a b c on mid next (Ok x) first later = goes-on a b c on mid (next x) first later
reads-on a b c on mid next (Err why) first later = heard-on a b c on mid (λ said. HasWhy said why) first later

pub says-on : (a b c : Option (List ℕ)) (on mid : Reading) (r : Result Proof NoProof) → GoesOn a b on mid → Hears b c mid (λ said. SaysProof said r) → Hears a c on (λ said. SaysProof said r)
says-on a b c on mid r first later = heard-on a b c on mid (λ said. SaysProof said r) first later

pub why-on : (a b c : Option (List ℕ)) (on mid : Reading) (why : NoProof) → GoesOn a b on mid → Hears b c mid (λ said. HasWhy said why) → Hears a c on (λ said. HasWhy said why)
why-on a b c on mid why first later = heard-on a b c on mid (λ said. HasWhy said why) first later

-- what is read in another way, in the same way for all lines
pub goes-same : (a b : Option (List ℕ)) (on next same : Reading) → next ≡ same → GoesOn a b on next → GoesOn a b on same
goes-same a b on next same is goes = subst (λ (r : Reading). GoesOn a b on r) is goes

-- ---- one line

module _ {A : Type 0} (fault : ProofFault) (said : List ℕ → Option A) (rest : A → Reading) where
  line-goes : (a b : Option (List ℕ)) (text : List ℕ) (x : A) → Takes a b (Text text ∷ []) → said text ≡ Some x → GoesOn a b (line_on fault said rest) (rest x)
  unfolding line_on
  line-goes a b text x takes is = record {
    lines = Text text ∷ [];
    took = takes;
    says = λ more. ap (λ o. said_or fault o (λ y. (rest y).says more)) is;
    needs = λ more. let all = ap (λ o. if_said o (λ y. (rest y).needs more)) is in omega (arith, all);
  }

  pub text-goes : (a b : Option (List ℕ)) (text : List ℕ) (there : Bool) (x : A) → TakesText a b text (Ok there) → Some x ≡ option_and_then said (text_if there text) → GoesOn a b (line_on fault said rest) (rest x)
  text-goes a b text true x takes is = line-goes a b text x takes (sym is)
  text-goes a b text false x takes is = absurd (cc)

  -- a line that says nothing
  line-bad : (a b : Option (List ℕ)) (line : Line) → Takes a b (line ∷ []) → ((more : List Line) → option_and_then said (first_text (line ∷ more)) ≡ None)
      → Hears a b (line_on fault said rest) (λ s. HasWhy s (Faulty fault))
  unfolding line_on
  line-bad a b line takes none =
      heard_line a b (line_on fault said rest).needs line _ takes (λ more. omega arith)
      (λ more. fault-is _ fault (ap (λ o. said_or fault o (λ y. (rest y).says more)) (none more)))

  end-bad : (a b : Option (List ℕ)) → Takes a b [] → IsAtEnd b → Hears a b (line_on fault said rest) (λ s. HasWhy s (Faulty fault))
  unfolding line_on
  end-bad a b takes ended = heard_end a b (line_on fault said rest).needs _ takes ended (fault-is _ fault refl)

  pub text-bad : (a b : Option (List ℕ)) (text : List ℕ) (there : Bool) → TakesText a b text (Ok there) → None ≡ option_and_then said (text_if there text)
      → Hears a b (line_on fault said rest) (λ s. HasWhy s (Faulty fault))
  text-bad a b text true takes is = line-bad a b (Text text) takes (λ more. sym is)
  text-bad a b text false (inl takes) is = line-bad a b TooLong takes (λ more. refl)
  text-bad a b text false (inr (takes, ended)) is = end-bad a b takes ended

  line-memory : (a b : Option (List ℕ)) (line : Line) → Takes a b (line ∷ []) → Hears a b (line_on fault said rest) (λ s. ⊤)
  unfolding line_on
  line-memory a b line takes = heard_line a b (line_on fault said rest).needs line _ takes (λ more. omega arith) (λ more. tt)

  -- no memory to judge it
  pub text-memory : (a b : Option (List ℕ)) (text : List ℕ) (there : Bool) → TakesText a b text (Ok there) → Hears a b (line_on fault said rest) (λ s. HasWhy s (Faulty Memory))
  text-memory a b text true takes = line-memory a b (Text text) takes
  text-memory a b text false (inl takes) = line-memory a b TooLong takes
  text-memory a b text false (inr (takes, ended)) = heard_none a b _ _ takes (λ more. tt)

  -- what is said of it
  said_none : (o : Option A) (f : ProofFault) → or_fault fault o ≡ Err f → (None ≡ o) × (fault ≡ f)
  said_none None f is = (refl, cc)
  said_none (Some x) f is = absurd (cc)

  text-fault : (a b : Option (List ℕ)) (text : List ℕ) (there : Bool) (f : ProofFault) → TakesText a b text (Ok there) → or_fault fault (option_and_then said (text_if there text)) ≡ Err f
      → Hears a b (line_on fault said rest) (λ s. HasWhy s (Faulty f))
  text-fault a b text there f takes is =
      let both = said_none (option_and_then said (text_if there text)) f is in
      subst (λ (e : ProofFault). Hears a b (line_on fault said rest) (λ s. HasWhy s (Faulty e))) both.1 (text-bad a b text there takes both.0)

  pub text-why : (a b : Option (List ℕ)) (text : List ℕ) (there : Bool) (why : NoProof) → TakesText a b text (Ok there) → HasWhy (or_fault fault (option_and_then said (text_if there text))) why
      → (IsUnread {A = A} (Err why) → ⊥) → Hears a b (line_on fault said rest) (λ s. HasWhy s why)
  text-why a b text there Unread takes says heard = absurd (heard tt)
  text-why a b text there (Faulty Memory) takes says heard = text-memory a b text there takes
  text-why a b text there (Faulty (Header line)) takes says heard = text-fault a b text there (Header line) takes says
  text-why a b text there (Faulty (BadRules line)) takes says heard = text-fault a b text there (BadRules line) takes says
  text-why a b text there (Faulty (RefusedRules bad)) takes says heard = text-fault a b text there (RefusedRules bad) takes says
  text-why a b text there (Faulty (BadStart line bad)) takes says heard = text-fault a b text there (BadStart line bad) takes says
  text-why a b text there (Faulty (BadHistory line)) takes says heard = text-fault a b text there (BadHistory line) takes says
  text-why a b text there (Faulty (BadBody bad)) takes says heard = text-fault a b text there (BadBody bad) takes says

  said_some : (o : Option A) (x : A) → or_fault fault o ≡ Ok x → Some x ≡ o
  said_some None x is = absurd (cc)
  said_some (Some y) x is = cc

  pub text-says : (a b : Option (List ℕ)) (text : List ℕ) (there : Bool) (x : A) → TakesText a b text (Ok there) → or_fault fault (option_and_then said (text_if there text)) ≡ Ok x
      → GoesOn a b (line_on fault said rest) (rest x)
  text-says a b text there x takes is = text-goes a b text there x takes (said_some (option_and_then said (text_if there text)) x is)

  -- by the answer; the text is the one that was taken
  pub reads-text : (a b : Option (List ℕ)) (text : List ℕ) (there : Bool) (o : Option (List ℕ)) (r : Result A NoProof) → TakesText a b text (Ok there) → o ≡ text_if there text
      → MatchResult r (λ x. or_fault fault (option_and_then said o) ≡ Ok x) (HasWhy (or_fault fault (option_and_then said o))) → (IsUnread r → ⊥) → Reads a b (line_on fault said rest) rest r
  reads-text a b text there o (Ok x) takes is says heard =
      text-says a b text there x takes (ap (λ t. or_fault fault (option_and_then said t)) (sym is) ∙ says)
  reads-text a b text there o (Err why) takes is says heard =
      text-why a b text there why takes (subst (λ t. HasWhy (or_fault fault (option_and_then said t)) why) is says) heard

  pub reads-unit : (a b : Option (List ℕ)) (text : List ℕ) (there : Bool) (o : Option (List ℕ)) (x : A) (r : Result (Unit {0}) NoProof) → TakesText a b text (Ok there) → o ≡ text_if there text
      → MatchResult r (λ u. or_fault fault (option_and_then said o) ≡ Ok x) (HasWhy (or_fault fault (option_and_then said o))) → (IsUnread r → ⊥) → Reads a b (line_on fault said rest) (λ u. rest x) r
  reads-unit a b text there o x (Ok u) takes is says heard =
      text-says a b text there x takes (ap (λ t. or_fault fault (option_and_then said t)) (sym is) ∙ says)
  reads-unit a b text there o x (Err why) takes is says heard =
      text-why a b text there why takes (subst (λ t. HasWhy (or_fault fault (option_and_then said t)) why) is says) heard

-- the source failed
pub text-unread : (a b : Option (List ℕ)) (text : List ℕ) (on : Reading) (why : NoProof) → TakesText a b text (Err why) → Hears a b on (λ s. HasWhy s why)
text-unread a b text on (Faulty fault) takes = absurd takes
text-unread a b text on Unread takes = heard_none a b _ _ takes (λ more. tt)

-- ---- no line

-- no memory
pub nothing-heard : (a : Option (List ℕ)) (on : Reading) → Hears a a on (λ s. HasWhy s (Faulty Memory))
nothing-heard a on = heard_nothing a _ _ (λ more. tt)

-- why nothing was read is told by the lines before
pub why-heard : (a : Option (List ℕ)) (on : Reading) (why : NoProof) → ((lines : List Line) → HasWhy (on.says lines) why) → Hears a a on (λ s. HasWhy s why)
why-heard a on why says = heard_nothing a _ _ says

-- the start that a text says
pub starts-read : (a : Option (List ℕ)) (number : ℕ) (rules : Rules) (said : Result Position FenFault) (r : Result Played NoProof) → Starts number rules said r
    → Reads a a (with_start number rules said) (λ game. history_on (number + 1) game) r
starts-read a number rules said (Ok g) is = subst (λ (on : Reading). GoesOn a a (with_start number rules said) on) is (goes-none a (with_start number rules said))
starts-read a number rules said (Err why) says = why-heard a (with_start number rules said) why says

-- ---- causes

pub cause-later : (x y z : ℕ) (P Q : Type 0) → x ≤ y → HasCause y z P → (Q → P) → HasCause x z Q
cause-later x y z P Q before cause so = record {
  later = let later = cause.later in omega (arith, before, later);
  failed = λ q. let rose = cause.failed (so q) in omega (arith, before, rose);
}

pub unread-same : (A B : Type 0) (why : NoProof) → IsUnread {A = A} (Err why) → IsUnread {A = B} (Err why)
unread-same A B (Faulty fault) unread = unread
unread-same A B Unread unread = unread

-- ---- lines that are counted

module _ {X : Type 0} (part : ℕ → ℕ → X → Reading) (count number : ℕ) where
  pub loop-first : (a : Option (List ℕ)) (x : X) → GoesOn a a (part count number x) (part (count - 0) (number + 0) x)
  loop-first a x =
      let all : count ≡ count - 0 = omega arith in
      let first : number ≡ number + 0 = omega arith in
      goes-same a a _ _ _ (λ i. part (all i) (first i) x) (goes-none a (part count number x))

  more_left : (done : ℕ) → done < count → count - done ≡ suc (count - (done + 1))
  more_left done below = omega (arith, below)

  pub loop-next : (a b c : Option (List ℕ)) (on : Reading) (done : ℕ) (x y : X) → done < count → GoesOn a b on (part (count - done) (number + done) x)
      → ((k : ℕ) → GoesOn b c (part (suc k) (number + done) x) (part k (number + done + 1) y)) → GoesOn a c on (part (count - (done + 1)) (number + (done + 1)) y)
  loop-next a b c on done x y below before one =
      let further : number + done + 1 ≡ number + (done + 1) = omega arith in
      let here = goes-same a b on _ _ (ap (λ k. part k (number + done) x) (more_left done below)) before in
      goes-same a c on _ _ (ap (λ n. part (count - (done + 1)) n y) further)
      (goes-on a b c on _ _ here (one (count - (done + 1))))

  pub loop-fault : (a b c : Option (List ℕ)) (on : Reading) (done : ℕ) (x : X) (P : Result Proof ProofFault → Type 0) → done < count → GoesOn a b on (part (count - done) (number + done) x)
      → ((k : ℕ) → Hears b c (part (suc k) (number + done) x) P) → Hears a c on P
  loop-fault a b c on done x P below before one =
      let here = goes-same a b on _ _ (ap (λ k. part k (number + done) x) (more_left done below)) before in
      heard-on a b c on _ P here (one (count - (done + 1)))

  pub loop-last : (a b : Option (List ℕ)) (on : Reading) (done : ℕ) (x : X) → count ≤ done → done ≤ count → GoesOn a b on (part (count - done) (number + done) x)
      → GoesOn a b on (part 0 (number + count) x)
  loop-last a b on done x low high before =
      let none : count - done ≡ 0 = omega (arith, low) in
      let all : number + done ≡ number + count = omega (arith, low, high) in
      goes-same a b on _ _ (λ i. part (none i) (all i) x) before

-- ---- the whole text

-- a first line `strategy 2`
pub version-says : (text : List ℕ) (lines : List Line) → is_version text ≡ true → proof_of (Text text ∷ lines) ≡ rules_on.says lines
unfolding proof_on line_on
version-says text lines is = ap (λ t. said_or (Header 1) (if t then Some tt else None) (λ (x : Unit {0}). rules_on.says lines)) is

pub version-needs : (text : List ℕ) (lines : List Line) → is_version text ≡ true → rules_on.needs lines ≤ lines_of_proof (Text text ∷ lines) - 1
unfolding proof_on line_on
version-needs text lines is =
    let all = ap (λ t. if_said (if t then Some tt else None) (λ (x : Unit {0}). rules_on.needs lines)) is in
    omega (arith, all)

pub version-bad : (text : List ℕ) (lines : List Line) → is_version text ≡ false → proof_of (Text text ∷ lines) ≡ Err (Header 1)
unfolding proof_on line_on
version-bad text lines is = ap (λ t. said_or (Header 1) (if t then Some tt else None) (λ (x : Unit {0}). rules_on.says lines)) is

-- its first line is needed
pub proof-needed : (text : List ℕ) (lines : List Line) → 1 ≤ lines_of_proof (Text text ∷ lines)
unfolding proof_on line_on
proof-needed text lines = omega arith

cut_lines : (xs ys : List ℕ) (lines : List Line) (pieces : List (List ℕ)) → pieces_of xs ≡ pieces ++ pieces_of ys → map line_of pieces ≡ lines → lines_of xs ≡ lines ++ lines_of ys
cut_lines xs ys lines pieces is are =
    ap (map line_of) is ∙ map_line-append pieces (pieces_of ys) ∙ ap (λ l. l ++ lines_of ys) are

-- what was heard of a text holds of its lines
pub text-holds : (xs ys : List ℕ) (needed : List Line → ℕ) (P : List Line → Type 0) → HeardLines (Some xs) (Some ys) needed P → P (lines_of xs)
text-holds xs ys needed P heard =
    let took = heard.took in
    let all = cut_lines xs ys heard.lines took.0 took.1 took.2 in
    elim heard.holds [
      | inl (ended, holds) ↦ subst P (sym (all ∙ ap (λ l. heard.lines ++ lines_of l) ended ∙ append-nil heard.lines)) holds
      | inr holds ↦ subst P (sym all) (holds (lines_of ys))
    ]

pub text-heard : (xs ys : List ℕ) (on : Reading) (P : Result Proof ProofFault → Type 0) → Hears (Some xs) (Some ys) on P → P (on.says (lines_of xs))
text-heard xs ys on P heard = text-holds xs ys on.needs (λ lines. P (on.says lines)) heard

-- ---- a line of a text

pub takes-line : (rest line after : List ℕ) (x : Line) → 0 < length rest → line ≡ text_of (take_through line_feed rest) → after ≡ drop_through line_feed rest
    → (if nat_lt MAX_LINE (length line) then TooLong else Text line) ≡ x → Takes (Some rest) (Some after) (x ∷ [])
takes-line rest line after x some first others is = (
  take_through line_feed rest ∷ [],
  pieces_of-some rest some ∙ ap (λ r. take_through line_feed rest ∷ pieces_of r) (sym others),
  ap (λ y. y ∷ []) (ap (λ t. if nat_lt MAX_LINE (length t) then TooLong else Text t) (sym first) ∙ is),
)

pub takes-long : (rest line after : List ℕ) → 0 < length rest → line ≡ text_of (take_through line_feed rest) → after ≡ drop_through line_feed rest → MAX_LINE < length line
    → Takes (Some rest) (Some after) (TooLong ∷ [])
takes-long rest line after some first others long =
    takes-line rest line after TooLong some first others (ap (λ t. if t then TooLong else Text line) (lt-ltb MAX_LINE (length line) long))

pub takes-text : (rest line after : List ℕ) → 0 < length rest → line ≡ text_of (take_through line_feed rest) → after ≡ drop_through line_feed rest → length line ≤ MAX_LINE
    → Takes (Some rest) (Some after) (Text line ∷ [])
takes-text rest line after some first others short =
    takes-line rest line after (Text line) some first others (ap (λ t. if t then TooLong else Text line) (le-ltb MAX_LINE (length line) short))
