-- What a search has put at the end of a list, move by move.
use Rattle.std.proofs.Common.{◌≡◌, inl, inr, ℕ, zero, suc, ◌+◌, ◌-◌, ◌<◌, ◌≤◌, List, [], ◌∷◌, ◌++◌, length, take, drop, get_or, Bool, true, false, is_some, Option, Some, None, Result, Ok, Err, IfOk, IfSome, MatchOption, refl, ap, sym, ◌∙◌, subst, add-one, append-nil, append_assoc, arith}
use Rattle.std.specs.Option.{option_or}
use Rattle.std.proofs.Math.Seq.{drop-cons}
use Rattle.foundation.specs.declared.Memory.{Memory}
use Rattle.foundation.specs.Member.{Member}
use Rattle.rules_model.specs.declared.board.Position.{Position}
use Rattle.rules_model.specs.declared.moves.Move.{Move}
use Rattle.rules_model.specs.declared.moves.Move.TheVariants.{Go}
use Rattle.rules_model.specs.declared.moves.Promo.TheVariants.{Stays}
use Rattle.rules_model.specs.Games.{Story}
use Rattle.forced_wins.specs.Contests.{Contest}
use Rattle.game_play.specs.Played.{story}
use Rattle.stipulation.specs.declared.cert.Cert.{Cert}
use Rattle.stipulation.specs.declared.task.Task.{Task}
use Rattle.stipulation.specs.AtTask as At
use Rattle.stipulation.proofs.CheckLemmas.{root-end}
use Rattle.stipulation.specs.declared.cert.Step.{Step}
use Rattle.stipulation.specs.Searches.{first_of, joined, all_of, step, led, found, followed, IsFound, is_ended}

take-front : (old new : List Step) → take (length old) (old ++ new) ≡ old
take-front [] new = refl
take-front (s ∷ old) new = ap (λ us. s ∷ us) (take-front old new)

-- ---- one state

module _ {X : Type 0} (c : Contest X Move) where
  pub search-ended : (t p : ℕ) (x : X) (w : Bool) (old : List Step) → c.end x ≡ Some w → IsFound (found c t p x) old old w
  unfolding found
  search-ended zero p x true old e = rw e (refl, sym (append-nil old))
  search-ended zero p x false old e = rw e (refl, refl)
  search-ended (suc t) p x true old e = rw e (refl, sym (append-nil old))
  search-ended (suc t) p x false old e = rw e (refl, refl)

  pub search-zero : (p : ℕ) (x : X) (old : List Step) → c.end x ≡ None → IsFound (found c 0 p x) old old false
  unfolding found
  search-zero p x old e = rw e (refl, refl)

  chosen : (t p : ℕ) (x : X) → c.end x ≡ None → c.attacking x ≡ true → found c (suc t) p x ≡ first_of (followed c t p x) (c.moves x)
  unfolding found
  chosen t p x e a = rw (e, a)

  replied : (t p : ℕ) (x : X) → c.end x ≡ None → c.attacking x ≡ false → found c (suc t) p x ≡ all_of (followed c t p x) (c.moves x)
  unfolding found
  replied t p x e a = rw (e, a)

  pub search-chosen : (t p : ℕ) (x : X) (old new : List Step) (b : Bool) → (t ≡ 0 → ⊥) → c.end x ≡ None → c.attacking x ≡ true → IsFound (first_of (followed c (t - 1) p x) (c.moves x)) old new b → IsFound (found c t p x) old new b
  search-chosen zero p x old new b n e a h = absurd (n refl)
  search-chosen (suc t) p x old new b n e a h =
      let less : suc t - 1 ≡ t = omega arith in
      subst (λ o. IsFound o old new b) (ap (λ k. first_of (followed c k p x) (c.moves x)) less ∙ sym (chosen t p x e a)) h

  pub search-replied : (t p : ℕ) (x : X) (old new : List Step) (b : Bool) → (t ≡ 0 → ⊥) → c.end x ≡ None → c.attacking x ≡ false → IsFound (all_of (followed c (t - 1) p x) (c.moves x)) old new b → IsFound (found c t p x) old new b
  search-replied zero p x old new b n e a h = absurd (n refl)
  search-replied (suc t) p x old new b n e a h =
      let less : suc t - 1 ≡ t = omega arith in
      subst (λ o. IsFound o old new b) (ap (λ k. all_of (followed c k p x) (c.moves x)) less ∙ sym (replied t p x e a)) h

-- ---- one move

pub follow-found : (o : Option (List Step)) (p : ℕ) (m : Move) (old mid new last : List Step) (b : Bool) → mid ≡ old ++ step p m ∷ [] → IsFound o mid new b → (b ≡ true → last ≡ new) → (b ≡ false → last ≡ take (length old) new) → IsFound (led p m o) old last b
follow-found None p m old mid new last b e (f, g) kept cut = (f, cut f ∙ ap (take (length old)) (g ∙ e) ∙ take-front old (step p m ∷ []))
follow-found (Some ss) p m old mid new last b e (f, g) kept cut =
    (f, kept f ∙ g ∙ ap (λ us. us ++ ss) e ∙ append_assoc old (step p m ∷ []) ss)

-- ---- moves in turn

later-moves : (ms : List Move) (i : ℕ) (d : Move) → i < length ms → drop i ms ≡ get_or ms i d ∷ drop (i + 1) ms
later-moves ms i d h = drop-cons ms i d h ∙ (λ j. get_or ms i d ∷ drop (sym (add-one i) j) ms)

no-moves : (ms : List Move) (i : ℕ) → length ms ≤ i → drop i ms ≡ []
no-moves ms zero h = none ms h
  where
    none : (ms : List Move) → length ms ≤ 0 → ms ≡ []
    none [] h = refl
    none (m ∷ ms) h = absurd (omega arith)
no-moves [] (suc i) h = refl
no-moves (m ∷ ms) (suc i) h = no-moves ms i (omega arith)

pub listed-at : (ms : List Move) (i : ℕ) (d : Move) → i < length ms → Member (get_or ms i d) ms
listed-at [] i d h = absurd (omega arith)
listed-at (m ∷ ms) zero d h = inl refl
listed-at (m ∷ ms) (suc i) d h = inr (listed-at ms i d (omega arith))

-- what is read where no move is
abbrev pub no_move : Move
no_move = Go (record { 0 = 0 }) (record { 0 = 0 }) Stays None

module _ (f : Move → Option (List Step)) (ms : List Move) where
  first-at : (i : ℕ) (d : Move) → i < length ms → first_of f (drop i ms) ≡ option_or (f (get_or ms i d)) (first_of f (drop (i + 1) ms))
  unfolding first_of
  first-at i d h = ap (first_of f) (later-moves ms i d h)

  all-at : (i : ℕ) (d : Move) → i < length ms → all_of f (drop i ms) ≡ joined (f (get_or ms i d)) (all_of f (drop (i + 1) ms))
  unfolding all_of
  all-at i d h = ap (all_of f) (later-moves ms i d h)

  -- the move does
  pub choose-found : (i : ℕ) (d : Move) (old new : List Step) → i < length ms → first_of f (drop i ms) ≡ first_of f ms → IsFound (f (get_or ms i d)) old new true → IsFound (first_of f ms) old new true
  choose-found i d old new l e h = split (f (get_or ms i d)) refl h
    where
      split : (o : Option (List Step)) → f (get_or ms i d) ≡ o → IsFound o old new true → IsFound (first_of f ms) old new true
      split None k (g, j) = let bad : true ≡ false = g in cc
      split (Some ss) k (g, j) = subst (λ o. IsFound o old new true) (sym (ap (λ o. option_or o (first_of f (drop (i + 1) ms))) k) ∙ sym (first-at i d l) ∙ e) (g, j)

  -- the move does not
  pub choose-later : (i : ℕ) (d : Move) (old new : List Step) → i < length ms → first_of f (drop i ms) ≡ first_of f ms → IsFound (f (get_or ms i d)) old new false → (new ≡ old) × (first_of f (drop (i + 1) ms) ≡ first_of f ms)
  choose-later i d old new l e h = split (f (get_or ms i d)) refl h
    where
      split : (o : Option (List Step)) → f (get_or ms i d) ≡ o → IsFound o old new false → (new ≡ old) × (first_of f (drop (i + 1) ms) ≡ first_of f ms)
      split None k (g, j) = (j, sym (ap (λ o. option_or o (first_of f (drop (i + 1) ms))) k) ∙ sym (first-at i d l) ∙ e)
      split (Some ss) k (g, j) = let bad : false ≡ true = g in cc

  pub choose-none : (i : ℕ) (old new : List Step) → length ms ≤ i → first_of f (drop i ms) ≡ first_of f ms → new ≡ old → IsFound (first_of f ms) old new false
  unfolding first_of
  choose-none i old new l e h = subst (λ o. IsFound o old new false) (sym (ap (first_of f) (no-moves ms i l)) ∙ e) (refl, h)

  -- what is done so far, and what is left
  abbrev IsDone : List Step → List Step → ℕ → Type 0
  IsDone old new i = (done : List Step) × (new ≡ old ++ done) × (joined (Some done) (all_of f (drop i ms)) ≡ all_of f ms)

  pub all-begun : (old : List Step) → IsDone old old 0
  all-begun old = ([], sym (append-nil old), none (all_of f ms))
    where
      none : (o : Option (List Step)) → joined (Some []) o ≡ o
      none None = refl
      none (Some ss) = refl

  pub all-more : (i : ℕ) (d : Move) (old mid new : List Step) → i < length ms → IsDone old mid i → IsFound (f (get_or ms i d)) mid new true → IsDone old new (i + 1)
  all-more i d old mid new l (done, e, h) k = split (f (get_or ms i d)) refl k
    where
      grown : (ss : List Step) (o : Option (List Step)) → joined (Some (done ++ ss)) o ≡ joined (Some done) (joined (Some ss) o)
      grown ss None = refl
      grown ss (Some us) = ap Some (append_assoc done ss us)

      split : (o : Option (List Step)) → f (get_or ms i d) ≡ o → IsFound o mid new true → IsDone old new (i + 1)
      split None q (g, j) = let bad : true ≡ false = g in cc
      split (Some ss) q (g, j) = (
        done ++ ss,
        j ∙ ap (λ us. us ++ ss) e ∙ append_assoc old done ss,
        grown ss (all_of f (drop (i + 1) ms)) ∙ ap (joined (Some done)) (sym (ap (λ o. joined o (all_of f (drop (i + 1) ms))) q) ∙ sym (all-at i d l)) ∙ h,
      )

  pub all-fails : (i : ℕ) (d : Move) (old mid new last : List Step) → i < length ms → IsDone old mid i → IsFound (f (get_or ms i d)) mid new false → last ≡ take (length old) new → IsFound (all_of f ms) old last false
  all-fails i d old mid new last l (done, e, h) k t = split (f (get_or ms i d)) refl k
    where
      split : (o : Option (List Step)) → f (get_or ms i d) ≡ o → IsFound o mid new false → IsFound (all_of f ms) old last false
      split None q (g, j) =
          subst (λ o. IsFound o old last false) (sym (ap (joined (Some done)) (all-at i d l ∙ ap (λ o. joined o (all_of f (drop (i + 1) ms))) q)) ∙ h)
          (refl, t ∙ ap (take (length old)) (j ∙ e) ∙ take-front old done)
      split (Some ss) q (g, j) = let bad : false ≡ true = g in cc

  pub all-found : (i : ℕ) (old new : List Step) → length ms ≤ i → IsDone old new i → IsFound (all_of f ms) old new true
  unfolding all_of
  all-found i old new l (done, e, h) =
      subst (λ o. IsFound o old new true) (sym (ap (λ us. joined (Some done) (all_of f us)) (no-moves ms i l)) ∙ h)
      (refl, e ∙ ap (λ us. old ++ us) (sym (append-nil done)))

-- ---- the whole search

found-root : (t : Task) (ps : List Position) (plies : ℕ) → ps ≡ [] → found (At.games t) plies (length ps) (At.at t ps) ≡ found (At.games t) plies 0 (story t.game.now)
found-root t ps plies e = λ i. found (At.games t) plies (length (e i)) (root-end t ps e i)

pub find-yes : (t : Task) (ps : List Position) (plies : ℕ) (old new : List Step) (b : Bool) → ps ≡ [] → old ≡ [] → IsFound (found (At.games t) plies (length ps) (At.at t ps)) old new b → b ≡ true → found (At.games t) plies 0 (story t.game.now) ≡ Some new
find-yes t ps plies old new b e f h k = sym (found-root t ps plies e) ∙ split (found (At.games t) plies (length ps) (At.at t ps)) h
  where
    split : (o : Option (List Step)) → IsFound o old new b → o ≡ Some new
    split None (g, j) = let bad : true ≡ false = sym k ∙ g in cc
    split (Some ss) (g, j) = ap Some (sym (j ∙ ap (λ us. us ++ ss) f))

pub find-no : (t : Task) (ps : List Position) (plies : ℕ) (old new : List Step) (b : Bool) → ps ≡ [] → IsFound (found (At.games t) plies (length ps) (At.at t ps)) old new b → b ≡ false → found (At.games t) plies 0 (story t.game.now) ≡ None
find-no t ps plies old new b e h k = sym (found-root t ps plies e) ∙ split (found (At.games t) plies (length ps) (At.at t ps)) h
  where
    split : (o : Option (List Step)) → IsFound o old new b → o ≡ None
    split None (g, j) = refl
    split (Some ss) (g, j) = let bad : false ≡ true = sym k ∙ g in cc

pub root-ended : (t : Task) (ps : List Position) (o : Option Bool) (b : Bool) → ps ≡ [] → o ≡ (At.games t).end (At.at t ps) → b ≡ is_some o → b ≡ is_ended (At.games t) (story t.game.now)
root-ended t ps o b e f h = h ∙ ap is_some (f ∙ ap (λ (g : Story). (At.games t).end g) (root-end t ps e))

-- ---- answers

pub ok-match : (P P' : Type 0) (Q Q' : Cert → Type 0) (r : Result (Option Cert) Memory) → IfOk r (λ a. MatchOption a P Q) → (P → P') → ((k : Cert) → Q k → Q' k) → IfOk r (λ a. MatchOption a P' Q')
ok-match P P' Q Q' (Ok None) h f g = f h
ok-match P P' Q Q' (Ok (Some k)) h f g = g k h
ok-match P P' Q Q' (Err e) h f g = tt

pub ok-some : (P W : Type 0) (Q : Cert → Type 0) (r : Result (Option Cert) Memory) → IfOk r (λ a. MatchOption a P Q) → ((k : Cert) → Q k → W) → IfOk r (λ a. IfSome a (λ _. W))
ok-some P W Q (Ok None) h g = tt
ok-some P W Q (Ok (Some k)) h g = g k h
ok-some P W Q (Err e) h g = tt

pub some-of : (P : Type 0) (Q : Cert → Type 0) (o : Option Cert) (k : Cert) → MatchOption o P Q → o ≡ Some k → Q k
some-of P Q o k h e = let j : MatchOption (Some k) P Q = subst (λ a. MatchOption a P Q) e h in j

pub none-of : (P : Type 0) (Q : Cert → Type 0) (o : Option Cert) → MatchOption o P Q → ((k : Cert) → o ≡ Some k → ⊥) → P
none-of P Q None h n = h
none-of P Q (Some k) h n = absurd (n k refl)
