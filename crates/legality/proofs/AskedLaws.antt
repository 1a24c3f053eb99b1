-- Of the moves to many squares: those that are asked for, which a list keeps where they are chosen, and the others.
use Rattle.std.proofs.Common.{◌≡◌, ℕ, ◌<◌, Bool, true, false, not, ◌&&◌, ◌||◌, cond, ◌⊎◌, inl, inr, List, [], ◌∷◌, ◌++◌, refl, sym, ap, ◌∙◌, append-nil}
use Rattle.std.specs.List.{filter}
use Rattle.std.proofs.lemmas.Bool.{and_parts, and_right}
use Rattle.std.proofs.Math.Bool.{and-true}
use Rattle.foundation.specs.Member.{Member}
use Rattle.rules_model.specs.declared.board.Square.{Square}
use Rattle.rules_model.specs.declared.moves.Move.{Move}
use Rattle.rules_model.specs.Repeats.{repeat_of}
use Rattle.square_set.specs.declared.Set.{Set}
use Rattle.square_set.specs.Members.{has}
use Rattle.square_set.proofs.Cases.{by_bool}
use Rattle.piece_moves.specs.InTurn.{MadeTo, Outside, target_of}
use Rattle.piece_moves.specs.Taking.{IsSink, TakesAll, TakesSome}
use Rattle.piece_moves.proofs.TakingLemmas.{all-join}
use Rattle.piece_moves.proofs.TurnLemmas.{turn-all}
use Rattle.legality.specs.declared.asked_sink.AskedSink.{AskedSink}
use Rattle.legality.specs.declared.list_sink.ListSink.{ListSink}
use Rattle.legality.specs.AskedChoices.{KeepsAsked, asked_by, filter_of}
use Rattle.legality.specs.Asking.{is_asked}
use Rattle.legality.specs.Choices.{chosen_by}
use Rattle.legality.specs.Keeps.{Keeps}
use Rattle.legality.specs.Sinks.{keeper_is_sink}
use Rattle.legality.proofs.ListSinkLaws.{none_kept}
use Rattle.legality.proofs.ToldLaws.{not_passed, others, others_each}

-- ---- of tests

-- where all elements pass the second test, those that pass both are those that pass the first
filter_first : {X : Type 0} (p q : X → Bool) (xs : List X) → ((x : X) → Member x xs → q x ≡ true) → filter (λ x. p x && q x) xs ≡ filter p xs
filter_first p q [] h = refl
filter_first {X} p q (x ∷ xs) h =
    let both : X → Bool = λ y. p y && q y in
    ap (λ b. cond b (x ∷ filter both xs) (filter both xs)) (ap (λ b. p x && b) (h x (inl refl)) ∙ and-true (p x))
    ∙ ap (λ l. cond (p x) (x ∷ l) l) (filter_first p q xs (λ y m. h y (inr m)))

told_all : (a b : Bool) → (b ≡ true → a ≡ true) → b ≡ ((a && not a) || b)
told_all true b h = refl
told_all false b h = refl

never : (b : Bool) → b ≡ true → b ≡ false → ⊥
never true e f = cc
never false e f = cc

pub asked_sink : IsSink KeepsAsked KeepsAsked
asked_sink = keeper_is_sink filter_of (λ (sink : AskedSink). sink.keeper.list) asked_by

-- ---- of moves to squares

module _ (s : AskedSink) where
  -- the move is asked for
  abbrev pub asked_of : Move → Bool
  asked_of m = is_asked s.asked.now (repeat_of s.keeper.move_filter.pin_info.p.now) m

  -- what the list within keeps of moves that are asked for
  kept_within : (k : ListSink) (ms : List Move) → Keeps s.keeper ms k → ((m : Move) → Member m ms → asked_of m ≡ true) → KeepsAsked s ms (record s { keeper = k })
  kept_within k ms e h = (
    ap (λ f. record { move_filter = f; asked = s.asked.now }) e.0,
    e.1 ∙ ap (λ l. s.keeper.list ++ l) (sym (filter_first (chosen_by s.keeper.move_filter) asked_of ms h)),
  )

  module _ (make : Square → Move) (targets narrow : Set) (goes_there : (to : Square) → target_of (make to) ≡ to.0) (small : (k : ℕ) → has targets k ≡ true → k < 128)
      (is : (k : ℕ) → has narrow k ≡ (has targets k && asked_of (make (record { 0 = k })))) where
    narrow_parts : (k : ℕ) → has narrow k ≡ true → (has targets k ≡ true) × (asked_of (make (record { 0 = k })) ≡ true)
    narrow_parts k e = and_parts (has targets k) (asked_of (make (record { 0 = k }))) (sym (is k) ∙ e)

    narrow_asked : (m : Move) → MadeTo make narrow m → asked_of m ≡ true
    narrow_asked m h = ap asked_of (sym h.0) ∙ (narrow_parts (target_of m) h.1).1

    worth_is : (k : ℕ) → has narrow k ≡ ((has targets k && not (has targets k)) || has narrow k)
    worth_is k = told_all (has targets k) (has narrow k) (λ e. (narrow_parts k e).0)

    -- the others are taken, and none of them is kept
    others_left : TakesAll KeepsAsked (Outside (MadeTo make targets) target_of narrow) s s
    others_left =
        let ms = others make targets targets narrow narrow asked_of (λ k e. e) (λ to. is to.0) worth_is in
        let none : (m : Move) → Member m ms → asked_by (filter_of s) m ≡ false = λ m h.
        and_right (chosen_by s.keeper.move_filter m) (asked_of m) (not_passed make targets targets narrow narrow asked_of (λ k e. e) (λ to. is to.0) worth_is goes_there small m h) in
        record {
          moves = ms;
          taken = (refl, sym (ap (λ l. s.keeper.list ++ l) (none_kept (asked_by (filter_of s)) ms none) ∙ append-nil s.keeper.list));
          each = others_each make targets targets narrow narrow asked_of (λ k e. e) (λ to. is to.0) worth_is goes_there small;
        }

    -- where none is asked for, all are taken, and none of them is kept
    pub narrow_none : ((k : ℕ) → has narrow k ≡ false) → TakesAll KeepsAsked (MadeTo make targets) s s
    narrow_none none = turn-all KeepsAsked (MadeTo make targets) target_of narrow s s none others_left

    -- all moves to the targets are taken where the list within took those to the narrower ones
    pub narrow_all : (k : ListSink) → TakesAll Keeps (MadeTo make narrow) s.keeper k → TakesAll KeepsAsked (MadeTo make targets) s (record s { keeper = k })
    narrow_all k a =
        all-join asked_sink (Outside (MadeTo make targets) target_of narrow) (MadeTo make narrow) (MadeTo make targets) s s (record s { keeper = k }) others_left
        (record { moves = a.moves; taken = kept_within k a.moves a.taken (λ m h. narrow_asked m (a.each.sound m h)); each = a.each })
        (λ m h n. never (has narrow (target_of m)) n.1 h.1)
        (λ m h. by_bool (has narrow (target_of m)) (Outside (MadeTo make targets) target_of narrow m ⊎ MadeTo make narrow m) (λ e. inr (h.0, e)) (λ e. inl (h, e)))
        (λ m h. elim h as (λ _. MadeTo make targets m) [ inl n ↦ n.0 | inr n ↦ (n.0, (narrow_parts (target_of m) n.1).0) ])

    pub narrow_some : (k : ListSink) → TakesSome Keeps (MadeTo make narrow) s.keeper k → TakesSome KeepsAsked (MadeTo make targets) s (record s { keeper = k })
    narrow_some k a = record {
      moves = a.moves;
      taken = kept_within k a.moves a.taken (λ m h. narrow_asked m (a.sound m h));
      once = a.once;
      sound = λ m h. (let n = a.sound m h in (n.0, (narrow_parts (target_of m) n.1).0));
    }
