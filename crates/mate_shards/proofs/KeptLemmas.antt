-- What is kept is what the frames allow, and is true in the new one.
use Rattle.std.proofs.Common.{◌≡◌, inl, inr, Bool, true, false, ◌||◌, List, [], ◌∷◌, refl, ap, sym, ◌∙◌, subst, if◌then◌else◌}
use Rattle.std.specs.List.{filter}
use Rattle.std.proofs.lemmas.Bool.{and_parts}
use Rattle.std.proofs.lemmas.List.Elements.{All-nil, All-cons, All-head, All-tail}
use Rattle.rules_model.specs.declared.board.Repeat.{Repeat}
use Rattle.rules_model.specs.declared.board.Side.{Side}
use Rattle.rules_model.specs.declared.rules.Rules.{Rules}
use Rattle.rules_model.specs.Games.{same_repeat}
use Rattle.rules_model.proofs.EqualLaws.{repeat-decides}
use Rattle.forced_wins.specs.declared.fact.Fact.{Fact}
use Rattle.forced_wins.specs.Facts.{IsTrueFact}
use Rattle.forced_wins.specs.Wins.{is_in}
use Rattle.forced_wins.proofs.Counts.{by_cases}
use Rattle.forced_wins.proofs.FactLaws.{kept-won, kept-refuted}
use Rattle.mate_core.specs.declared.frame.Frame.{Frame}
use Rattle.mate_core.specs.Runs.{IsTrueIn, AreTrueIn}
use Rattle.mate_shards.specs.declared.keeps.Keeps.{Keeps}
use Rattle.mate_shards.specs.Keeps.{picks, KeepSome, AreKeeps}
use Rattle.mate_shards.specs.Kept.{are_in, IsKept}

-- lists of repeats
in-all : (xs ys : List Repeat) → are_in xs ys ≡ true → (x : Repeat) → is_in xs x ≡ true → is_in ys x ≡ true
in-all [] ys all x is = cc
in-all (y ∷ xs) ys all x is =
    let parts = and_parts (is_in ys y) (are_in xs ys) all in
    by_cases (same_repeat x y)
    (λ t. subst (λ z. is_in ys z ≡ true) (sym ((repeat-decides x y).0 t)) parts.0)
    (λ t. in-all xs ys parts.1 x (sym (ap (λ b. b || is_in xs x) t) ∙ is))

-- picked facts
none_picked : (k : Keeps) (fs : List Fact) → k.wins ≡ false → k.refutations ≡ false → filter (picks k) fs ≡ []
none_picked k [] e g = refl
none_picked k (f ∷ fs) e g =
    let not_this : picks k f ≡ false = neither f.wins in
    ap (λ b. if b then f ∷ filter (picks k) fs else filter (picks k) fs) not_this ∙ none_picked k fs e g
  where
    neither : (b : Bool) → (if b then k.wins else k.refutations) ≡ false
    neither true = e
    neither false = g

pub kept-is : (old new : Frame) (k : Keeps) (fs : List Fact) → AreKeeps old new k → IsKept old new fs (filter (picks k) fs)
kept-is old new k fs (inl some) = record {
  same = λ rules attacker. ap (λ w. filter (λ f. if f.wins then w else k.refutations) fs) some.wins ∙ ap (λ r. filter (λ f. if f.wins then are_in new.blocked old.blocked else r) fs) some.refutations;
  other = λ no. absurd (no some.same.0 some.same.1);
}
kept-is old new k fs (inr none) = record {
  same = λ rules attacker. absurd (none.other (rules, attacker));
  other = λ no. none_picked k fs none.wins none.refutations;
}

-- a fact that is picked is true in the new frame
one_true : (old new : Frame) (k : Keeps) (f : Fact) → KeepSome old new k → IsTrueIn old f → (b : Bool) → f.wins ≡ b → (if b then k.wins else k.refutations) ≡ true → IsTrueIn new f
one_true old new k f some is true kind picked =
    let R : Rules → Type 0 = λ r. IsTrueFact r old.blocked old.attacker f in
    let A : Side → Type 0 = λ a. IsTrueFact new.rules old.blocked a f in
    kept-won new.rules new.attacker old.blocked new.blocked f kind (in-all new.blocked old.blocked (sym some.wins ∙ picked)) (subst A some.same.1 (subst R some.same.0 is))
one_true old new k f some is false kind picked =
    let R : Rules → Type 0 = λ r. IsTrueFact r old.blocked old.attacker f in
    let A : Side → Type 0 = λ a. IsTrueFact new.rules old.blocked a f in
    kept-refuted new.rules new.attacker old.blocked new.blocked f kind (in-all old.blocked new.blocked (sym some.refutations ∙ picked)) (subst A some.same.1 (subst R some.same.0 is))

picked_true : (old new : Frame) (k : Keeps) (fs : List Fact) → KeepSome old new k → AreTrueIn old fs → AreTrueIn new (filter (picks k) fs)
picked_true old new k [] some all = All-nil (IsTrueIn new)
picked_true old new k (f ∷ fs) some all =
    let P = IsTrueIn old in
    let rest = picked_true old new k fs some (All-tail P f fs all) in
    by_cases (picks k f)
    (λ t.
    let e : filter (picks k) (f ∷ fs) ≡ f ∷ filter (picks k) fs = ap (λ b. if b then f ∷ filter (picks k) fs else filter (picks k) fs) t in
    subst (AreTrueIn new) (sym e) (All-cons (IsTrueIn new) f (filter (picks k) fs) (one_true old new k f some (All-head P f fs all) f.wins refl t) rest))
    (λ t.
    let e : filter (picks k) (f ∷ fs) ≡ filter (picks k) fs = ap (λ b. if b then f ∷ filter (picks k) fs else filter (picks k) fs) t in
    subst (AreTrueIn new) (sym e) rest)

pub kept-true : (old new : Frame) (k : Keeps) (fs : List Fact) → AreKeeps old new k → AreTrueIn old fs → AreTrueIn new (filter (picks k) fs)
kept-true old new k fs (inl some) all = picked_true old new k fs some all
kept-true old new k fs (inr none) all =
    subst (AreTrueIn new) (sym (none_picked k fs none.wins none.refutations)) (All-nil (IsTrueIn new))
