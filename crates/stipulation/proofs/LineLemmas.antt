-- Games along positions.
use Rattle.std.proofs.Common.{◌≡◌, ℕ, ◌+◌, ◌-◌, ◌<◌, nat_le, ◌==◌, Bool, true, false, not, ◌&&◌, ◌||◌, cond, if◌then◌else◌, Option, Some, None, List, [], ◌∷◌, ◌++◌, length, take, get_or, refl, ap, sym, ◌∙◌, append_assoc, append-nil, arith}
use Rattle.std.proofs.lemmas.Bool.Decides.{nat_tests}
use Rattle.std.proofs.lemmas.List.{take_all, take_more}
use Rattle.std.proofs.lemmas.List.Elements.{All-get_or}
use Rattle.std.proofs.lemmas.List.Sums.{fold-append, sum_by-append}
use Rattle.rules_model.specs.declared.board.Position.{Position}
use Rattle.rules_model.specs.declared.board.Repeat.{Repeat}
use Rattle.rules_model.specs.declared.board.Side.{Side}
use Rattle.rules_model.specs.declared.moves.Cause.TheVariants.{Repetition, MoveCount}
use Rattle.rules_model.specs.declared.moves.Move.{Move}
use Rattle.rules_model.specs.declared.moves.Outcome.{Outcome}
use Rattle.rules_model.specs.declared.moves.Outcome.TheVariants.{Ongoing, Won, Drawn}
use Rattle.rules_model.specs.declared.moves.Value.{Value}
use Rattle.rules_model.specs.declared.moves.Value.TheVariants.{Win, Loss, Draw}
use Rattle.rules_model.specs.declared.rules.Rules.{Rules}
use Rattle.rules_model.specs.Ends.{or_end, valued}
use Rattle.rules_model.specs.Next.{next}
use Rattle.rules_model.specs.Games.{Story, history, played, times, same_repeat, is_repeated, is_run_out, result}
use Rattle.rules_model.specs.Legal.{own_end}
use Rattle.rules_model.specs.Repeats.{repeat_of}
use Rattle.rules_model.specs.Sides.{other, same_side}
use Rattle.rules_model.specs.Sound.{is_sound}
use Rattle.stipulation.specs.Lines.{longer, along, AreSound}
use Rattle.stipulation.specs.Stipulations.{mated_by}

pub along-none : (g : Story) → along g [] ≡ g
unfolding along
along-none g = refl

pub along-push : (g : Story) (ps : List Position) (p : Position) → along g (ps ++ p ∷ []) ≡ longer (along g ps) p
unfolding along
along-push g ps p = fold-append longer g ps (p ∷ [])

pub along-last : (g : Story) (ps : List Position) (k : ℕ) (d : Position) → length ps ≡ k + 1 → (along g ps).last ≡ get_or ps k d
along-last g ps k d e =
    let all : take (k + 1) ps ≡ ps = ap (λ n. take n ps) (sym e) ∙ take_all (length ps) ps (omega arith) in
    ap (λ qs. (along g qs).last) (sym all ∙ take_more ps k d (omega arith)) ∙ ap (λ (h : Story). h.last) (along-push g (take k ps) (get_or ps k d))

pub along-history : (g : Story) (ps : List Position) → history (along g ps) ≡ history g ++ ps
unfolding along
along-history g [] = sym (append-nil (history g))
along-history g (p ∷ ps) = along-history (longer g p) ps ∙ append_assoc (history g) (p ∷ []) ps

pub times-append : (r : Repeat) (ps qs : List Position) → times r (ps ++ qs) ≡ times r ps + times r qs
unfolding times
times-append r ps qs = sum_by-append (λ p. cond (same_repeat (repeat_of p) r) 1 0) ps qs

-- the standings of the last position in the game and along the line
pub along-times : (g : Story) (ps : List Position) (r : Repeat) → times r (history (along g ps)) ≡ times r (history g) + times r ps
along-times g ps r = ap (times r) (along-history g ps) ∙ times-append r (history g) ps

pub last-sound : (rules : Rules) (ps : List Position) (k : ℕ) (d : Position) → AreSound rules ps → k < length ps → is_sound rules (get_or ps k d) ≡ true
last-sound rules ps k d h l = All-get_or (λ p. is_sound rules p ≡ true) ps k d l h

-- ---- ends

valued-repetition : (w : Side) (v : Value) (s : Side) → mated_by w (valued v s Repetition) ≡ Some false
valued-repetition w Win s = ap Some (no_mate (same_side s w))
  where
    no_mate : (b : Bool) → (b && false) ≡ false
    no_mate true = refl
    no_mate false = refl
valued-repetition w Loss s = ap Some (no_mate (same_side (other s) w))
  where
    no_mate : (b : Bool) → (b && false) ≡ false
    no_mate true = refl
    no_mate false = refl
valued-repetition w Draw s = refl

-- an end by the position itself
pub end-own : (rules : Rules) (g : Story) (o : Outcome) → own_end rules (repeat_of g.last) ≡ o → (o ≡ Ongoing → ⊥) → result rules g ≡ o
unfolding result
end-own rules g o e h = rw e (first o h)
  where
    first : (o : Outcome) → (o ≡ Ongoing → ⊥) → or_end o (if is_repeated rules g then valued rules.n_fold_value g.last.side Repetition else if is_run_out rules g.last.counter then Drawn MoveCount else Ongoing) ≡ o
    first Ongoing k = absurd (k refl)
    first (Won s c) k = refl
    first (Drawn c) k = refl

-- the same by the rules and the position as a call has them
pub end-by_itself : (rules made : Rules) (g : Story) (w : Side) (p : Position) (o : Outcome) (b : Option Bool) → made ≡ rules → p ≡ g.last → o ≡ own_end made (repeat_of p) → (o ≡ Ongoing → ⊥) → b ≡ mated_by w o → b ≡ mated_by w (result rules g)
end-by_itself rules made g w p o b r e f h k = k ∙ ap (mated_by w) (sym (end-own rules g o (sym (f ∙ (λ i. own_end (r i) (repeat_of (e i))))) h))

-- the game has no mate where its counts end it, and is else ongoing
pub counts_end : (rules : Rules) (g : Story) (w : Side) (repeated run_out : Bool) → own_end rules (repeat_of g.last) ≡ Ongoing → is_repeated rules g ≡ repeated → is_run_out rules g.last.counter ≡ run_out → mated_by w (result rules g) ≡ (if repeated || run_out then Some false else None)
unfolding result
counts_end rules g w true b e f h = rw (e, f) (valued-repetition w rules.n_fold_value g.last.side)
counts_end rules g w false true e f h = rw (e, f, h)
counts_end rules g w false false e f h = rw (e, f, h)

pub end-counts : (rules made : Rules) (g : Story) (w : Side) (p : Position) (o : Outcome) (cut : Bool) → made ≡ rules → p ≡ g.last → o ≡ own_end made (repeat_of p) → o ≡ Ongoing → cut ≡ (is_repeated rules g || is_run_out rules g.last.counter) → (if cut then Some false else None) ≡ mated_by w (result rules g)
end-counts rules made g w p o cut r e f h k =
    ap (λ b. if b then Some false else None) k
    ∙ sym (counts_end rules g w (is_repeated rules g) (is_run_out rules g.last.counter) (sym (λ i. own_end (r i) (repeat_of (e i))) ∙ sym f ∙ h) refl refl)

enough : (f a b : ℕ) → (f ≡ 0 → ⊥) → nat_le (f - a) b ≡ (not (f == 0) && nat_le f (a + b))
enough f a b h = grind (arith, nat_tests)

-- the standings that are missing are those along the line
pub repeated-along : (rules : Rules) (g : Story) (ps : List Position) (p : Position) (played here : ℕ) → p ≡ (along g ps).last → played ≡ times (repeat_of p) (history g) → here ≡ times (repeat_of p) ps → (rules.n_fold ≡ 0 → ⊥) → nat_le (rules.n_fold - played) here ≡ is_repeated rules (along g ps)
unfolding is_repeated
repeated-along rules g ps p played here e f h k =
    let r : repeat_of p ≡ repeat_of (along g ps).last = ap repeat_of e in
    let all : played + here ≡ times (repeat_of (along g ps).last) (history (along g ps)) =
    (λ i. f i + h i) ∙ sym (along-times g ps (repeat_of p)) ∙ ap (λ (x : Repeat). times x (history (along g ps))) r in
    enough rules.n_fold played here k ∙ ap (λ n. not (rules.n_fold == 0) && nat_le rules.n_fold n) all

pub along-empty : (g : Story) (ps : List Position) → length ps ≡ 0 → along g ps ≡ g
along-empty g [] e = along-none g
along-empty g (p ∷ ps) e = absurd (omega arith)

pub push-played : (rules made : Rules) (g : Story) (ps qs : List Position) (p q : Position) (m : Move) → made ≡ rules → p ≡ (along g ps).last → q ≡ next made p m → qs ≡ ps ++ q ∷ [] → along g qs ≡ played rules (along g ps) m
push-played rules made g ps qs p q m r e f h =
    ap (along g) h ∙ along-push g ps q ∙ ap (longer (along g ps)) (f ∙ (λ i. next (r i) (e i) m))
