-- What is reached in a game with its history is reached from its last position by itself.
use Rattle.std.proofs.Common.{◌≡◌, ◌⊎◌, inl, inr, ℕ, zero, suc, ◌+◌, ◌<◌, nat_le, List, [], ◌∷◌, ◌++◌, length, take, get_or, Bool, true, false, not, ◌&&◌, ◌||◌, is_some, if◌then◌else◌, Option, Some, None, refl, ap, sym, ◌∙◌, subst, add-one, arith}
use Rattle.std.specs.List.{list_any, list_all}
use Rattle.std.proofs.lemmas.Bool.Decides.{nat_tests}
use Rattle.foundation.specs.Member.{Member, Lists}
use Rattle.rules_model.specs.declared.board.Position.{Position}
use Rattle.rules_model.specs.declared.board.Repeat.{Repeat}
use Rattle.rules_model.specs.declared.board.Side.{Side}
use Rattle.rules_model.specs.declared.moves.Move.{Move}
use Rattle.rules_model.specs.declared.moves.Outcome.{Outcome}
use Rattle.rules_model.specs.declared.moves.Outcome.TheVariants.{Ongoing, Won, Drawn}
use Rattle.rules_model.specs.declared.rules.Rules.{Rules}
use Rattle.rules_model.specs.Games.{Story, same_repeat, is_repeated, is_run_out, result}
use Rattle.foundation.specs.Tests.{is_nil}
use Rattle.rules_model.specs.Legal.{is_stuck, legal, own_end}
use Rattle.rules_model.specs.Next.{next_repeat}
use Rattle.rules_model.specs.Repeats.{repeat_of}
use Rattle.rules_model.specs.Sides.{other}
use Rattle.rules_model.proofs.EqualLaws.{repeat-decides}
use Rattle.rules_model.proofs.PlayLaws.{next-is}
use Rattle.forced_wins.specs.Contests.{decided, within}
use Rattle.forced_wins.proofs.ContestLaws.{if_mono, decided-mono, any_mono, all_mono, any_intro, all_intro}
use Rattle.forced_wins.proofs.Counts.{by_cases}
use Rattle.game_play.specs.Played.{story}
use Rattle.legality.specs.Stance.{Stance, after, legal_in, repeat_in}
use Rattle.stipulation.specs.declared.cert.Step.{Step}
use Rattle.stipulation.specs.declared.task.Task.{Task}
use Rattle.stipulation.specs.AtTask as At
use Rattle.stipulation.specs.declared.reach_facts.Fact.{Fact}
use Rattle.stipulation.specs.Bare.{bare, bare_games, reaches, tells, IsTrueFact}
use Rattle.stipulation.specs.Searches.{IsFound}
use Rattle.stipulation.specs.Stipulations.{mated_by}
use Rattle.stipulation.proofs.FoundLaws.{found-within}
use Rattle.stipulation.proofs.MateLaws.{within-more}
use Rattle.stipulation.proofs.SearchLemmas.{no_move}
use Rattle.stipulation.proofs.LineLemmas.{counts_end, end-own}

-- the history ends a game as the position does, or without a mate where the position goes on
abbrev Falls : Option Bool → Option Bool → Type 0
Falls late bare = (late ≡ bare) ⊎ ((bare ≡ None) × (late ≡ Some false))

module _ (rules : Rules) (g : Story) (w : Side) where
  end-falls : (o : Outcome) → own_end rules (repeat_of g.last) ≡ o → Falls (mated_by w (result rules g)) (mated_by w (own_end rules (repeat_of g.last)))
  end-falls Ongoing e =
      split (is_repeated rules g || is_run_out rules g.last.counter)
      (counts_end rules g w (is_repeated rules g) (is_run_out rules g.last.counter) e refl refl)
    where
      split : (b : Bool) → mated_by w (result rules g) ≡ (if b then Some false else None) → Falls (mated_by w (result rules g)) (mated_by w (own_end rules (repeat_of g.last)))
      split true h = inr (ap (mated_by w) e, h)
      split false h = inl (h ∙ sym (ap (mated_by w) e))
  end-falls (Won s c) e = inl (ap (mated_by w) (end-own rules g (Won s c) e (λ bad. cc) ∙ sym e))
  end-falls (Drawn c) e = inl (ap (mated_by w) (end-own rules g (Drawn c) e (λ bad. cc) ∙ sym e))

decided-falls : (late own : Option Bool) (s u : Bool) → Falls late own → (s ≡ true → u ≡ true) → decided late s ≡ true → decided own u ≡ true
decided-falls late own s u (inl e) f h = decided-mono own s u f (subst (λ o. decided o s ≡ true) e h)
decided-falls late own s u (inr (e, k)) f h = let bad : false ≡ true = rw k at h in cc

module _ (help : Bool) (rules : Rules) (a : Side) where
  pub bare-reached : (t : ℕ) (g : Story) → within (At.games_for help rules a) t g ≡ true → within (bare_games help rules a) t (repeat_of g.last) ≡ true
  unfolding within
  bare-reached zero g h =
      decided-falls _ _ false false (end-falls rules g (other a) (own_end rules (repeat_of g.last)) refl) (λ e. e) h
  bare-reached (suc t) g h =
      let each = λ (m : Move) (e : within (At.games_for help rules a) t ((At.games_for help rules a).after g m) ≡ true).
      subst (λ (r : Repeat). within (bare_games help rules a) t r ≡ true) (next-is rules g.last m) (bare-reached t ((At.games_for help rules a).after g m) e) in
      decided-falls _ _ _ _ (end-falls rules g (other a) (own_end rules (repeat_of g.last)) refl)
      (if_mono ((At.games_for help rules a).attacking g) _ _ _ _
      (any_mono _ _ ((At.games_for help rules a).moves g) each) (all_mono _ _ ((At.games_for help rules a).moves g) each)) h

none-of : (o : Option (List Step)) → is_some o ≡ false → o ≡ None
none-of None e = refl
none-of (Some s) e = cc

-- nothing is found where the position by itself reaches nothing
pub bare-none : (t : Task) (ps : List Position) (plies : ℕ) (old : List Step) → reaches t plies (repeat_of (At.at t ps).last) ≡ false → IsFound (At.found_at t plies ps) old old false
unfolding reaches
bare-none t ps plies old h =
    let c = At.games t in
    let none = none-of (At.found_at t plies ps) (found-within c plies (length ps) (At.at t ps) ∙ by_cases (within c plies (At.at t ps))
    (λ y. let bad = bare-reached t.help t.game.now.rules _ plies (At.at t ps) y in cc) (λ n. n)) in
    subst (λ o. IsFound o old old false) (sym none) (refl, refl)

-- ---- a position by its moves

taken : (b x y : Bool) → true ≡ b → (if b then x else y) ≡ x
taken true x y e = refl
taken false x y e = cc

left : (b x y : Bool) → false ≡ b → (if b then x else y) ≡ y
left true x y e = cc
left false x y e = refl

any-fails : (f : Move → Bool) (ms : List Move) → ((m : Move) → Member m ms → f m ≡ false) → list_any f ms ≡ false
any-fails f [] h = refl
any-fails f (x ∷ xs) h = rw (h x (inl refl), any-fails f xs (λ m k. h m (inr k))) refl

all-fails : (f : Move → Bool) (m : Move) (ms : List Move) → Member m ms → f m ≡ false → list_all f ms ≡ false
all-fails f m [] k h = absurd k
all-fails f m (x ∷ xs) (inl e) h = let g : f x ≡ false = ap f e ∙ h in rw g refl
all-fails f m (x ∷ xs) (inr k) h = ap (λ b. f x && b) (all-fails f m xs k h) ∙ not_both (f x)
  where
    not_both : (b : Bool) → (b && false) ≡ false
    not_both true = refl
    not_both false = refl

module _ (t : Task) (r : Repeat) where
  pub ended-reaches : (plies : ℕ) (won : Bool) → (bare t).end r ≡ Some won → reaches t plies r ≡ won
  unfolding reaches within
  ended-reaches zero won e = rw e
  ended-reaches (suc plies) won e = rw e

  pub mate-reaches : (bare t).end r ≡ None → reaches t 0 r ≡ false
  unfolding reaches within
  mate-reaches e = rw e

  abbrev each : ℕ → Move → Bool
  each plies m = reaches t plies ((bare t).after r m)

  more-within : (plies : ℕ) → (bare t).end r ≡ None → within (bare t) (suc plies) r ≡ (if (bare t).attacking r then list_any (λ m. within (bare t) plies ((bare t).after r m)) ((bare t).moves r) else list_all (λ m. within (bare t) plies ((bare t).after r m)) ((bare t).moves r))
  unfolding within
  more-within plies e = rw e

  by-moves : (plies : ℕ) → (bare t).end r ≡ None → reaches t (plies + 1) r ≡ (if (bare t).attacking r then list_any (each plies) ((bare t).moves r) else list_all (each plies) ((bare t).moves r))
  unfolding reaches
  by-moves plies e = ap (λ k. within (bare t) k r) (add-one plies) ∙ more-within plies e

  -- one of the moves tells it
  pub one-tells : (plies : ℕ) (choosing : Bool) (m : Move) → (bare t).end r ≡ None → choosing ≡ (bare t).attacking r → Member m ((bare t).moves r) → reaches t plies ((bare t).after r m) ≡ choosing → reaches t (plies + 1) r ≡ choosing
  one-tells plies true m e a k h =
      by-moves plies e ∙ taken ((bare t).attacking r) _ _ a ∙ any_intro (each plies) m ((bare t).moves r) k h
  one-tells plies false m e a k h =
      by-moves plies e ∙ left ((bare t).attacking r) _ _ a ∙ all-fails (each plies) m ((bare t).moves r) k h

  -- none of them tells it
  pub none-tells : (plies : ℕ) (choosing : Bool) → (bare t).end r ≡ None → choosing ≡ (bare t).attacking r → ((m : Move) → Member m ((bare t).moves r) → reaches t plies ((bare t).after r m) ≡ not choosing) → reaches t (plies + 1) r ≡ not choosing
  none-tells plies true e a h =
      by-moves plies e ∙ taken ((bare t).attacking r) _ _ a ∙ any-fails (each plies) ((bare t).moves r) h
  none-tells plies false e a h =
      by-moves plies e ∙ left ((bare t).attacking r) _ _ a ∙ all_intro (each plies) ((bare t).moves r) h

-- ---- facts

-- a fact tells what it says of more plies, or of fewer
pub told : (t : Task) (f : Fact) (plies : ℕ) (r : Repeat) → IsTrueFact t f → tells f plies ≡ true → same_repeat f.position r ≡ true → f.reached ≡ reaches t plies r
unfolding reaches
told t f plies r h k e =
    let same = (repeat-decides f.position r).0 e in
    subst (λ (q : Repeat). f.reached ≡ within (bare t) plies q) same (by_side f.reached refl)
  where
    by_side : (b : Bool) → f.reached ≡ b → f.reached ≡ within (bare t) plies f.position
    by_side true y =
        let l : nat_le f.plies plies ≡ true = rw y at k in
        y ∙ sym (within-more (bare t) f.plies plies f.position (grind (arith, nat_tests, l)) (h ∙ y))
    by_side false n =
        let l : nat_le plies f.plies ≡ true = rw n at k in
        n ∙ sym (by_cases (within (bare t) plies f.position)
        (λ w. let bad = sym (within-more (bare t) plies f.plies f.position (grind (arith, nat_tests, l)) w) ∙ h ∙ n in cc) (λ w. w))

-- ---- moves in turn

pub member-next : (ms : List Move) (i : ℕ) (d m : Move) → i < length ms → Member m (take (i + 1) ms) → Member m (take i ms) ⊎ (get_or ms i d ≡ m)
member-next ms i d m l k = here ms i d m l (subst (λ n. Member m (take n ms)) (add-one i) k)
  where
    here : (ms : List Move) (i : ℕ) (d m : Move) → i < length ms → Member m (take (suc i) ms) → Member m (take i ms) ⊎ (get_or ms i d ≡ m)
    here [] i d m l k = absurd (omega arith)
    here (x ∷ ms) zero d m l (inl e) = inr e
    here (x ∷ ms) zero d m l (inr k) = absurd k
    here (x ∷ ms) (suc i) d m l (inl e) = inl (inl e)
    here (x ∷ ms) (suc i) d m l (inr k) = split (here ms i d m (omega arith) k)
      where
        split : Member m (take i ms) ⊎ (get_or ms i d ≡ m) → Member m (take (suc i) (x ∷ ms)) ⊎ (get_or (x ∷ ms) (suc i) d ≡ m)
        split (inl a) = inl (inr a)
        split (inr b) = inr b

-- the list says whether some move is legal
pub listed-stuck : (rules : Rules) (r : Repeat) (ms : List Move) → Lists (λ m. Member m (legal rules r)) ms → is_nil ms ≡ is_stuck rules r
unfolding is_stuck
listed-stuck rules r ms h = same ms (legal rules r) h.sound h.complete
  where
    same : (ms ns : List Move) → ((m : Move) → Member m ms → Member m ns) → ((m : Move) → Member m ns → Member m ms) → is_nil ms ≡ is_nil ns
    same [] [] f g = refl
    same [] (n ∷ ns) f g = absurd (g n (inl refl))
    same (m ∷ ms) [] f g = absurd (f m (inl refl))
    same (m ∷ ms) (n ∷ ns) f g = refl

-- ---- boards

module _ (t : Task) (s : Stance) (rules_are : s.rules ≡ t.game.now.rules) where
  pub ended-is : (o : Outcome) (w : Side) → w ≡ other (story t.game.now).last.side → o ≡ own_end s.rules (repeat_in s) → mated_by w o ≡ (bare t).end (repeat_in s)
  ended-is o w e h = (λ i. mated_by (e i) (h i)) ∙ ap (λ (u : Rules). mated_by (other (story t.game.now).last.side) (own_end u (repeat_in s))) rules_are

  pub after-reaches : (u : Stance) (plies : ℕ) (m : Move) → u ≡ after s m → reaches t plies (repeat_in u) ≡ reaches t plies (next_repeat t.game.now.rules (repeat_in s) m)
  after-reaches u plies m h =
      ap (λ (v : Stance). reaches t plies (repeat_in v)) h
      ∙ ap (reaches t plies) (next-is s.rules s.position m)
      ∙ ap (λ (v : Rules). reaches t plies (next_repeat v (repeat_in s) m)) rules_are

  pub any-stuck : (ms : List Move) → Lists (λ m. Member m (legal_in s)) ms → is_nil ms ≡ is_stuck s.rules (repeat_in s)
  any-stuck ms h = listed-stuck s.rules (repeat_in s) ms h

  -- one of the listed moves, by the task's rules
  pub listed-legal : (ms : List Move) (m : Move) → Lists (λ m. Member m (legal_in s)) ms → Member m ms → Member m ((bare t).moves (repeat_in s))
  listed-legal ms m h k = subst (λ (v : Rules). Member m (legal v (repeat_in s))) rules_are (h.sound m k)

  pub legal-listed : (ms : List Move) (m : Move) → Lists (λ m. Member m (legal_in s)) ms → Member m ((bare t).moves (repeat_in s)) → Member m ms
  legal-listed ms m h k = h.complete m (subst (λ (v : Rules). Member m (legal v (repeat_in s))) (sym rules_are) k)

-- what is told of the moves so far, with one more
pub next-told : (t : Task) (s : Stance) (plies : ℕ) (choosing : Bool) (ms : List Move) (i : ℕ) (n : Move) → reaches t plies (next_repeat t.game.now.rules (repeat_in s) (get_or ms i no_move)) ≡ not choosing → ((m : Move) → Member m (take i ms) → reaches t plies (next_repeat t.game.now.rules (repeat_in s) m) ≡ not choosing) → Member n (take i ms) ⊎ (get_or ms i no_move ≡ n) → reaches t plies (next_repeat t.game.now.rules (repeat_in s) n) ≡ not choosing
next-told t s plies choosing ms i n this before (inl k) = before n k
next-told t s plies choosing ms i n this before (inr e) =
    subst (λ m. reaches t plies (next_repeat t.game.now.rules (repeat_in s) m) ≡ not choosing) e this
