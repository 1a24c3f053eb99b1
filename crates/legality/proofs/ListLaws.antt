-- The legal list, from the candidates.
use Rattle.std.proofs.Common.{◌≡◌, ◌+◌, ◌≤◌, Bool, true, false, not, ◌&&◌, ◌||◌, ◌↔◌, cond, ◌⊎◌, inl, inr, IsTrue, Result, Ok, Err, List, [], ◌∷◌, ◌++◌, length, refl, sym, ap, ◌∙◌, subst, arith}
use Rattle.std.specs.Bool.{OnTrue}
use Rattle.std.specs.List.{list_any, filter}
use Rattle.std.specs.Result.{OnErr, OnOk}
use Rattle.std.specs.List.Sorted.{IsPermutation, IsStrictlySortedBy}
use Rattle.std.proofs.lemmas.Bool.{and_from, and_left, and_parts, not-true, or_cases, or_left, or_right}
use Rattle.std.proofs.lemmas.List.Sorted.{IsPermutation-sym}
use Rattle.foundation.specs.Member.{Member, IsEachOnce, Lists, Appends}
use Rattle.foundation.specs.Tests.{is_nil}
use Rattle.foundation.proofs.Members.{appends-none, filter-member, member-filter, member-permutation}
use Rattle.square_set.proofs.Cases.{by_bool, same_both}
use Rattle.rules_model.specs.declared.board.Repeat.{Repeat}
use Rattle.rules_model.specs.declared.moves.Move.{Move}
use Rattle.rules_model.specs.declared.rules.Rules.{Rules}
use Rattle.rules_model.specs.Allowed.{can_capture, is_legal}
use Rattle.rules_model.specs.Candidates.{is_candidate}
use Rattle.rules_model.specs.Ends.{early_end, is_ongoing}
use Rattle.rules_model.specs.Legal.{every_move, is_allowed, is_sane, is_stuck, legal}
use Rattle.rules_model.specs.Moves.{IsFitMove}
use Rattle.rules_model.specs.MoveText.{move_cmp}
use Rattle.rules_model.specs.Next.{captures}
use Rattle.rules_model.proofs.LegalLaws.{every-fit, every-has, legal-member, legal-once, legal-sorted, member-legal, moves-unique}
use Rattle.legality.specs.declared.move_filter.GenType.{GenType}
use Rattle.legality.specs.declared.move_filter.GenType.TheVariants.{All, Captures, Quiets}
use Rattle.legality.specs.Chosen.{AppendsChosen, FitCandidates, can_go, is_chosen, is_fit_move, is_in, is_wanted, legal_gen_type, only_captures, gen_type_of}
use Rattle.legality.specs.declared.asked.Asked.{Asked}
use Rattle.legality.specs.AskedChoices.{AppendsAsked}
use Rattle.legality.specs.Asking.{is_asked}
use Rattle.legality.proofs.FitLaws.{from_fit}

-- a legal capture
abbrev pub IsLegalCapture : Rules → Repeat → Move → Type 0
IsLegalCapture rules r m = Member m (legal rules r) × (captures rules r m ≡ true)

-- a legal move that does not capture
abbrev pub IsLegalOther : Rules → Repeat → Move → Type 0
IsLegalOther rules r m = Member m (legal rules r) × (captures rules r m ≡ false)

-- ---- of lists

module _ {X : Type 0} where
  any_member : (p : X → Bool) (xs : List X) → list_any p xs ≡ true → (x : X) × Member x xs × (p x ≡ true)
  any_member p [] e = cc
  any_member p (x ∷ xs) e =
      elim (or_cases (p x) (list_any p xs) e) as (λ _. (y : X) × Member y (x ∷ xs) × (p y ≡ true)) [
        | inl h ↦ (x, inl refl, h)
        | inr h ↦ let k = any_member p xs h in (k.0, inr k.1, k.2)
      ]

  member_any : (p : X → Bool) (x : X) (xs : List X) → Member x xs → p x ≡ true → list_any p xs ≡ true
  member_any p x [] m e = absurd m
  member_any p x (y ∷ xs) (inl f) e = or_left (p y) (list_any p xs) (ap p f ∙ e)
  member_any p x (y ∷ xs) (inr m) e = or_right (p y) (list_any p xs) (member_any p x xs m e)

  -- a filter keeps each element once
  pub once_filter : (p : X → Bool) (xs : List X) → IsEachOnce xs → IsEachOnce (filter p xs)
  once_filter p [] a = tt
  once_filter p (x ∷ xs) a =
      elim (p x) as (λ b. IsEachOnce (cond b (x ∷ filter p xs) (filter p xs))) [
        | true ↦ (λ m. a.0 (filter-member p x xs m).0, once_filter p xs a.1)
        | false ↦ once_filter p xs a.1
      ]

  -- a list without one of its elements
  record Cut (x : X) (ys : List X) : Type 0 where
    rest : List X
    long : length ys ≡ length rest + 1
    others : (z : X) → Member z ys → (x ≡ z) ⊎ Member z rest

  cut : (x : X) (ys : List X) → Member x ys → Cut x ys
  cut x [] m = absurd m
  cut x (y ∷ ys) (inl e) = record {
    rest = ys;
    long = omega arith;
    others = λ z m. elim m as (λ _. (x ≡ z) ⊎ Member z ys) [ inl f ↦ inl (sym e ∙ f) | inr k ↦ inr k ];
  }
  cut x (y ∷ ys) (inr m) =
      let c = cut x ys m in record {
        rest = y ∷ c.rest;
        long = omega (arith, c.long);
        others = λ z k. elim k as (λ _. (x ≡ z) ⊎ Member z (y ∷ c.rest)) [
          | inl f ↦ inr (inl f)
          | inr l ↦ elim (c.others z l) as (λ _. (x ≡ z) ⊎ Member z (y ∷ c.rest)) [ inl g ↦ inl g | inr n ↦ inr (inr n) ]
        ];
      }

  no_longer : (xs ys : List X) → IsEachOnce xs → ((x : X) → Member x xs → Member x ys) → length xs ≤ length ys
  no_longer [] ys a within = omega arith
  no_longer (x ∷ xs) ys a within =
      let c = cut x ys (within x (inl refl)) in
      let h = no_longer xs c.rest a.1 (λ z m. elim (c.others z (within z (inr m))) as (λ _. Member z c.rest) [ inl e ↦ absurd (a.0 (subst (λ w. Member w xs) (sym e) m)) | inr k ↦ k ]) in
      omega (arith, c.long, h)

  same_length : (xs ys : List X) → IsEachOnce xs → IsEachOnce ys → ((x : X) → Member x xs → Member x ys) → ((x : X) → Member x ys → Member x xs) → length xs ≡ length ys
  same_length xs ys a b to from = omega (arith, no_longer xs ys a to, no_longer ys xs b from)

-- ---- what is chosen

module _ (rules : Rules) (r : Repeat) (gen_type : GenType) where
  chosen_parts : (m : Move) → is_chosen rules r gen_type m ≡ true → (is_sane rules r m ≡ true) × (is_wanted rules r gen_type m ≡ true)
  unfolding is_chosen
  chosen_parts m e =
      let k = and_parts (is_wanted rules r gen_type m) (is_sane rules r m) (and_parts (is_fit_move m) (is_wanted rules r gen_type m && is_sane rules r m) e).1 in (k.1, k.0)

  -- what is not fit is not chosen
  pub unfit-passed : (m : Move) → is_fit_move m ≡ false → is_chosen rules r gen_type m ≡ false
  unfolding is_chosen
  unfit-passed m e = and_left (is_fit_move m) (is_wanted rules r gen_type m && is_sane rules r m) e

  from_parts : (m : Move) → IsFitMove m → is_sane rules r m ≡ true → is_wanted rules r gen_type m ≡ true → is_chosen rules r gen_type m ≡ true
  unfolding is_chosen
  from_parts m fit e f = and_from _ _ (from_fit m fit) (and_from _ _ f e)

  chosen_allowed : (m : Move) → FitCandidates rules r m → is_chosen rules r gen_type m ≡ true → (is_allowed rules r m ≡ true) × (is_wanted rules r gen_type m ≡ true)
  unfolding is_allowed
  chosen_allowed m h e = let k = chosen_parts m e in (and_from _ _ h.1 k.0, k.1)

  allowed_parts : (m : Move) → is_allowed rules r m ≡ true → (is_candidate rules r m ≡ true) × (is_sane rules r m ≡ true)
  unfolding is_allowed
  allowed_parts m e = and_parts (is_candidate rules r m) (is_sane rules r m) e

  -- a move that was found is one that can be made
  pub found_goes : (ms : List Move) → ((m : Move) → Member m ms → FitCandidates rules r m) → list_any (is_chosen rules r gen_type) ms ≡ true → can_go rules r gen_type ≡ true
  unfolding can_go
  found_goes ms sound e =
      let k = any_member (is_chosen rules r gen_type) ms e in
      let h = sound k.0 k.1 in
      let a = chosen_allowed k.0 h k.2 in
      member_any (is_wanted rules r gen_type) k.0 _ (member-filter (is_allowed rules r) k.0 every_move (every-has k.0 h.0) a.0) a.1

  goes_found : (ms : List Move) → Lists (FitCandidates rules r) ms → can_go rules r gen_type ≡ true → list_any (is_chosen rules r gen_type) ms ≡ true
  unfolding can_go
  goes_found ms l e =
      let k = any_member (is_wanted rules r gen_type) _ e in
      let f = filter-member (is_allowed rules r) k.0 every_move k.1 in
      let fit = every-fit k.0 f.0 in
      let p = allowed_parts k.0 f.1 in
      member_any (is_chosen rules r gen_type) k.0 ms (l.complete k.0 (fit, p.0)) (from_parts k.0 fit p.1 k.2)

  -- among all the candidates one is found exactly where one can be made
  pub found_is : (ms : List Move) → Lists (FitCandidates rules r) ms → list_any (is_chosen rules r gen_type) ms ≡ can_go rules r gen_type
  found_is ms l = same_both _ _ (found_goes ms l.sound) (goes_found ms l)

captures_go : (rules : Rules) (r : Repeat) → can_go rules r Captures ≡ can_capture rules r
unfolding can_go can_capture
captures_go rules r = refl

only_is : (rules : Rules) (r : Repeat) → only_captures rules r ≡ (rules.must_capture && can_capture rules r)
unfolding only_captures
only_is rules r = ap (λ b. rules.must_capture && b) (captures_go rules r)

forced_in : (only takes : Bool) → is_in (gen_type_of only) takes ≡ (not only || takes)
forced_in true takes = refl
forced_in false takes = refl

module _ (rules : Rules) (r : Repeat) where
  -- what is legal is allowed, and captures where one must and can
  legal_is : (m : Move) → is_ongoing (early_end rules r) ≡ true → is_legal rules r m ≡ (is_allowed rules r m && (not (only_captures rules r) || captures rules r m))
  unfolding is_legal
  legal_is m on = rw (on, only_is rules r) refl

  wanted_is : (m : Move) → is_wanted rules r (legal_gen_type rules r) m ≡ (not (only_captures rules r) || captures rules r m)
  wanted_is m = forced_in (only_captures rules r) (captures rules r m)

  legal_parts : (m : Move) → Member m (legal rules r) → IsFitMove m × (is_ongoing (early_end rules r) ≡ true) × (is_allowed rules r m ≡ true) × (is_wanted rules r (legal_gen_type rules r) m ≡ true)
  unfolding is_legal
  legal_parts m h =
      let k = legal-member rules r m h in
      let a = and_parts (is_ongoing (early_end rules r) && is_allowed rules r m) _ k.1 in
      let b = and_parts (is_ongoing (early_end rules r)) (is_allowed rules r m) a.0 in
      (k.0, b.0, b.1, wanted_is m ∙ subst (λ only. (not only || captures rules r m) ≡ true) (sym (only_is rules r)) a.1)

  legal_from : (m : Move) → IsFitMove m → is_ongoing (early_end rules r) ≡ true → is_allowed rules r m ≡ true → is_wanted rules r (legal_gen_type rules r) m ≡ true → Member m (legal rules r)
  legal_from m fit on e f = member-legal rules r m fit (legal_is m on ∙ and_from _ _ e (sym (wanted_is m) ∙ f))

  -- the chosen ones of all the candidates are the legal moves
  pub chosen_legal : (ms : List Move) → is_ongoing (early_end rules r) ≡ true → Lists (FitCandidates rules r) ms → Lists (λ m. Member m (legal rules r)) (filter (is_chosen rules r (legal_gen_type rules r)) ms)
  chosen_legal ms on l =
      let gen_type = legal_gen_type rules r in record {
        once = once_filter (is_chosen rules r gen_type) ms l.once;
        sound = λ m h.
            let k = filter-member (is_chosen rules r gen_type) m ms h in
            let f = l.sound m k.0 in
            let a = chosen_allowed rules r gen_type m f k.1 in
            legal_from m f.0 on a.0 a.1;
        complete = λ m h.
            let k = legal_parts m h in
            let p = allowed_parts rules r gen_type m k.2 in
            member-filter (is_chosen rules r gen_type) m ms (l.complete m (k.0, p.0)) (from_parts rules r gen_type m k.0 p.1 k.3);
      }

  pub none_legal : is_ongoing (early_end rules r) ≡ false → legal rules r ≡ []
  unfolding legal
  none_legal off = rw off refl

  -- how many these are
  pub chosen_count : (ms : List Move) → is_ongoing (early_end rules r) ≡ true → Lists (FitCandidates rules r) ms → length (filter (is_chosen rules r (legal_gen_type rules r)) ms) ≡ length (legal rules r)
  chosen_count ms on l =
      let k = chosen_legal ms on l in same_length _ (legal rules r) k.once (legal-once rules r) k.sound k.complete

  -- sorted, they are the list
  pub sorted_legal : (xs ys : List Move) → Lists (λ m. Member m (legal rules r)) xs → IsPermutation xs ys → IsStrictlySortedBy move_cmp ys → ys ≡ legal rules r
  sorted_legal xs ys l h s =
      moves-unique ys (legal rules r) s (legal-sorted rules r)
      (λ m k. l.sound m (member-permutation m ys xs (IsPermutation-sym xs ys h) k))
      (λ m k. member-permutation m xs ys h (l.complete m k))

  -- ---- no move

  not_nil : (ms : List Move) (m : Move) → Member m ms → not (is_nil ms) ≡ true
  not_nil [] m h = absurd h
  not_nil (x ∷ ms) m h = refl

  some_of : (ms : List Move) → not (is_nil ms) ≡ true → (m : Move) × Member m ms
  some_of [] e = cc
  some_of (m ∷ ms) e = (m, inl refl)

  allowed_some : (gen_type : GenType) → can_go rules r gen_type ≡ true → (m : Move) × IsFitMove m × (is_allowed rules r m ≡ true) × (is_wanted rules r gen_type m ≡ true)
  unfolding can_go
  allowed_some gen_type e =
      let k = any_member (is_wanted rules r gen_type) _ e in
      let f = filter-member (is_allowed rules r) k.0 every_move k.1 in
      (k.0, every-fit k.0 f.0, f.1, k.2)

  any_wanted : (m : Move) → only_captures rules r ≡ false → is_wanted rules r (legal_gen_type rules r) m ≡ true
  any_wanted m e = ap (λ only. is_in (gen_type_of only) (captures rules r m)) e

  capture_wanted : (m : Move) → captures rules r m ≡ true → is_wanted rules r (legal_gen_type rules r) m ≡ true
  capture_wanted m e = wanted_is m ∙ or_right (not (only_captures rules r)) (captures rules r m) e

  some_legal : is_ongoing (early_end rules r) ≡ true → can_go rules r All ≡ true → (m : Move) × Member m (legal rules r)
  unfolding only_captures
  some_legal on e =
      by_bool (only_captures rules r) ((m : Move) × Member m (legal rules r))
      (λ f.
      let k = allowed_some Captures (and_parts rules.must_capture (can_go rules r Captures) f).1 in
      (k.0, legal_from k.0 k.1 on k.2 (capture_wanted k.0 k.3)))
      (λ f.
      let k = allowed_some All e in
      (k.0, legal_from k.0 k.1 on k.2 (any_wanted k.0 f)))

  legal_goes : (m : Move) → Member m (legal rules r) → can_go rules r All ≡ true
  unfolding can_go
  legal_goes m h =
      let k = legal_parts m h in member_any (is_wanted rules r All) m _ (member-filter (is_allowed rules r) m every_move (every-has m k.0) k.2) refl

  -- some move can be made exactly where one is legal
  pub goes_not_stuck : is_ongoing (early_end rules r) ≡ true → can_go rules r All ≡ not (is_stuck rules r)
  unfolding is_stuck
  goes_not_stuck on =
      same_both _ _
      (λ e. let k = some_legal on e in not_nil (legal rules r) k.0 k.1)
      (λ e. let k = some_of (legal rules r) e in legal_goes k.0 k.1)

  pub ended_stuck : is_ongoing (early_end rules r) ≡ false → false ≡ not (is_stuck rules r)
  unfolding is_stuck
  ended_stuck off = rw (none_legal off) refl

-- ---- by the tables' rules, which are these rules

module _ (rules made : Rules) (r q : Repeat) (same : made ≡ rules) (still : q ≡ r) where
  chosen_same : (gen_type : GenType) → is_chosen made q gen_type ≡ is_chosen rules r gen_type
  chosen_same gen_type = ap (λ rules'. is_chosen rules' q gen_type) same ∙ ap (λ r'. is_chosen rules r' gen_type) still

  chosen_gen_type : (gen_type : GenType) (ms : List Move) → gen_type ≡ legal_gen_type rules r → filter (is_chosen made q gen_type) ms ≡ filter (is_chosen rules r (legal_gen_type rules r)) ms
  chosen_gen_type gen_type ms e = ap (λ test. filter test ms) (chosen_same gen_type ∙ ap (is_chosen rules r) e)

  pub made_count : (gen_type : GenType) (ms : List Move) → gen_type ≡ legal_gen_type rules r → is_ongoing (early_end rules r) ≡ true → Lists (FitCandidates rules r) ms → length (filter (is_chosen made q gen_type) ms) ≡ length (legal rules r)
  made_count gen_type ms e on l = ap length (chosen_gen_type gen_type ms e) ∙ chosen_count rules r ms on l

-- ---- what was appended

module _ (rules : Rules) (r : Repeat) where
  appended : (gen_type : GenType) (P : Move → Type 0) (old new : List Move) → ((m : Move) → FitCandidates rules r m → is_chosen rules r gen_type m ≡ true → P m) → ((m : Move) → P m → FitCandidates rules r m × (is_chosen rules r gen_type m ≡ true))
      → AppendsChosen rules r gen_type old new → Appends P old new
  appended gen_type P old new to from a = record {
    added = filter (is_chosen rules r gen_type) a.moves;
    is = a.taken;
    each = record {
      once = once_filter (is_chosen rules r gen_type) a.moves a.each.once;
      sound = λ m h. (let k = filter-member (is_chosen rules r gen_type) m a.moves h in to m (a.each.sound m k.0) k.1);
      complete = λ m h. (let k = from m h in member-filter (is_chosen rules r gen_type) m a.moves (a.each.complete m k.0) k.1);
    };
  }

  -- a legal move that is wanted is chosen
  legal_chosen : (gen_type : GenType) (m : Move) → Member m (legal rules r) → is_wanted rules r gen_type m ≡ true → FitCandidates rules r m × (is_chosen rules r gen_type m ≡ true)
  legal_chosen gen_type m h wanted =
      let k = legal_parts rules r m h in
      let p = allowed_parts rules r gen_type m k.2 in
      ((k.0, p.0), from_parts rules r gen_type m k.0 p.1 wanted)

  module _ (on : is_ongoing (early_end rules r) ≡ true) where
    pub appended_legal : (gen_type : GenType) (old new : List Move) → gen_type ≡ legal_gen_type rules r → AppendsChosen rules r gen_type old new → Appends (λ m. Member m (legal rules r)) old new
    appended_legal gen_type old new e a = record {
      added = filter (is_chosen rules r gen_type) a.moves;
      is = a.taken;
      each = subst (λ p. Lists (λ m. Member m (legal rules r)) (filter (is_chosen rules r p) a.moves)) (sym e) (chosen_legal rules r a.moves on a.each);
    }

    -- those that are asked for as well
    pub appended_asked : (asked : Asked) (gen_type : GenType) (old new : List Move) → gen_type ≡ legal_gen_type rules r → AppendsAsked asked rules r gen_type old new → Appends (λ m. Member m (legal rules r) × (is_asked asked r m ≡ true)) old new
    appended_asked asked gen_type old new e a =
        let both : Move → Bool = λ m. is_chosen rules r gen_type m && is_asked asked r m in
        record {
          added = filter both a.moves;
          is = a.taken;
          each = record {
            once = once_filter both a.moves a.each.once;
            sound = λ m h.
                let k = filter-member both m a.moves h in
                let fit = a.each.sound m k.0 in
                let p = and_parts (is_chosen rules r gen_type m) (is_asked asked r m) k.1 in
                let w = chosen_allowed rules r gen_type m fit p.0 in
                (legal_from rules r m fit.0 on w.0 (subst (λ t. is_wanted rules r t m ≡ true) e w.1), p.1);
            complete = λ m h.
                let wanted = subst (λ t. is_wanted rules r t m ≡ true) (sym e) (legal_parts rules r m h.0).3 in
                let k = legal_chosen gen_type m h.0 wanted in
                member-filter both m a.moves (a.each.complete m k.0) (and_from _ _ k.1 h.1);
          };
        }

    capture_legal : (m : Move) → FitCandidates rules r m → is_chosen rules r Captures m ≡ true → IsLegalCapture rules r m
    capture_legal m fit e =
        let k = chosen_allowed rules r Captures m fit e in
        (legal_from rules r m fit.0 on k.0 (capture_wanted rules r m k.1), k.1)

    pub appended_captures : (old new : List Move) → AppendsChosen rules r Captures old new → Appends (IsLegalCapture rules r) old new
    appended_captures old new = appended Captures (IsLegalCapture rules r) old new capture_legal (λ m h. legal_chosen Captures m h.0 h.1)

    -- where not only captures are legal
    module _ (any : only_captures rules r ≡ false) where
      other_legal : (m : Move) → FitCandidates rules r m → is_chosen rules r Quiets m ≡ true → IsLegalOther rules r m
      other_legal m fit e =
          let k = chosen_allowed rules r Quiets m fit e in
          (legal_from rules r m fit.0 on k.0 (any_wanted rules r m any), not-true (captures rules r m) k.1)

      pub appended_others : (old new : List Move) → AppendsChosen rules r Quiets old new → Appends (IsLegalOther rules r) old new
      appended_others old new = appended Quiets (IsLegalOther rules r) old new other_legal (λ m h. legal_chosen Quiets m h.0 (ap not h.1))

pub no_capture : (rules : Rules) (r : Repeat) (old : List Move) → is_ongoing (early_end rules r) ≡ false → Appends (IsLegalCapture rules r) old old
no_capture rules r old off = appends-none _ old (λ m h. subst (Member m) (none_legal rules r off) h.0)

pub no_asked : (asked : Asked) (rules : Rules) (r : Repeat) (old : List Move) → is_ongoing (early_end rules r) ≡ false → Appends (λ m. Member m (legal rules r) × (is_asked asked r m ≡ true)) old old
no_asked asked rules r old off = appends-none _ old (λ m h. subst (Member m) (none_legal rules r off) h.0)

pub no_other : (rules : Rules) (r : Repeat) (old : List Move) → is_ongoing (early_end rules r) ≡ false → Appends (IsLegalOther rules r) old old
no_other rules r old off = appends-none _ old (λ m h. subst (Member m) (none_legal rules r off) h.0)

not_both : (b : Bool) → b ≡ true → b ≡ false → ⊥
not_both true e f = cc
not_both false e f = cc

-- where only captures are legal, no other move is
pub only_no_other : (rules : Rules) (r : Repeat) (old : List Move) → only_captures rules r ≡ true → Appends (IsLegalOther rules r) old old
only_no_other rules r old only =
    appends-none _ old
    (λ m h.
    not_both (captures rules r m)
    (sym (ap (λ b. is_in (gen_type_of b) (captures rules r m)) only) ∙ (legal_parts rules r m h.0).3) h.1)

pub nothing_legal : (rules : Rules) (r : Repeat) (old : List Move) → is_ongoing (early_end rules r) ≡ false → Appends (λ m. Member m (legal rules r)) old old
nothing_legal rules r old off = appends-none _ old (λ m h. subst (Member m) (none_legal rules r off) h)

-- what was appended to nothing
pub listed : (P : Move → Type 0) (none out xs : List Move) → none ≡ [] → xs ≡ out → Appends P none out → Lists P xs
listed P none out xs e f a = subst (Lists P) (sym (f ∙ a.is ∙ ap (λ l. l ++ a.added) e)) a.each

-- a call that is never refused
pub never_refused : {T E P : Type 0} (x : Result T E) → OnOk x P → OnErr x ⊥ → P
never_refused (Ok t) p q = p
never_refused (Err e) p q = absurd q

-- ---- a test of membership

pub member_by : (rules : Rules) (r : Repeat) (m : Move) (b : Bool) → b ≡ is_legal rules r m → OnTrue b (IsFitMove m) → IsTrue b ↔ Member m (legal rules r)
member_by rules r m true e fit = (λ _. member-legal rules r m fit (sym e), λ h. refl)
member_by rules r m false e fit = (λ f. absurd (let g : ⊥ = cc in g), λ h. e ∙ (legal-member rules r m h).1)
