-- What the words of `go` ask.
use Rattle.std.proofs.Common.{◌≡◌, ℕ, List, [], ◌∷◌, Bool, true, false, ◌&&◌, Option, Some, None, refl, subst, sym, ap, ◌∙◌}
use Rattle.std.specs.Prelude.{nat_le, if◌then◌else◌, option_and_then}
use Rattle.std.proofs.lemmas.Bool.{and_parts, leb-true}
use Rattle.foundation.specs.Numbers.{within}
use Rattle.session_model.specs.Numbers.{number_from, number_read}
use Rattle.session_model.specs.UciGo
use Rattle.session_model.specs.UciGo.{Go, GoRead, GoWord, Key, asks_nothing, filled, go_of, go_read, go_word, go_words, is_held, key_number, last_depth, last_mate, roots_of, share_of, time_for, with_number, with_read}
use Rattle.session_model.specs.UciWords.{Word}
use Rattle.std.specs.Option.{option_map}
use Rattle.game_play.specs.Played.{legal_in}
use Rattle.session_model.specs.Mates.{mover}
use Rattle.session_model.specs.UciState.{State}
use Rattle.uci_front.specs.declared.plan.GoPlan.{GoPlan}
use Rattle.uci_front.specs.PlanView.{ArePlies, IsPlan}

plies_within : (n : ℕ) → ArePlies (within 1 9 n)
plies_within n = by_test (nat_le 1 n && nat_le n 9) refl
  where
    by_test : (b : Bool) → nat_le 1 n && nat_le n 9 ≡ b → ArePlies (if b then Some n else None)
    by_test true is = let (low, high) = and_parts _ _ is in (leb-true 1 n low, leb-true n 9 high)
    by_test false is = tt

plies_read : (word : Word) → ArePlies (number_from 1 9 word)
plies_read word = by_number (number_read word)
  where
    by_number : (o : Option ℕ) → ArePlies (option_and_then (within 1 9) o)
    by_number None = tt
    by_number (Some n) = plies_within n

-- a number that was read changes no other limit
other_number : (go : Go) (key : Key) (n : ℕ) → ArePlies go.perft → (key ≡ UciGo.Perft → ⊥) → ArePlies (with_number go key n).perft
other_number go UciGo.Depth n h other = h
other_number go UciGo.Nodes n h other = h
other_number go UciGo.Mate n h other = h
other_number go UciGo.MoveTime n h other = h
other_number go UciGo.WhiteTime n h other = h
other_number go UciGo.BlackTime n h other = h
other_number go UciGo.WhiteIncrement n h other = h
other_number go UciGo.BlackIncrement n h other = h
other_number go UciGo.MovesToGo n h other = h
other_number go UciGo.Perft n h other = absurd (other refl)

other_read : (go : Go) (key : Key) (o : Option ℕ) → ArePlies go.perft → (key ≡ UciGo.Perft → ⊥) → ArePlies (with_read go key o).perft
other_read go key None h other = h
other_read go key (Some n) h other = other_number go key n h other

perft_read : (go : Go) (o : Option ℕ) → ArePlies go.perft → ArePlies o → ArePlies (with_read go UciGo.Perft o).perft
perft_read go None h k = h
perft_read go (Some n) h k = k

number_read_plies : (go : Go) (key : Key) (word : Word) → ArePlies go.perft → ArePlies (with_read go key (key_number key word)).perft
number_read_plies go UciGo.Perft word h = perft_read go (key_number UciGo.Perft word) h (plies_read word)
number_read_plies go UciGo.Depth word h = other_read go UciGo.Depth (key_number UciGo.Depth word) h (λ is. cc)
number_read_plies go UciGo.Nodes word h = other_read go UciGo.Nodes (key_number UciGo.Nodes word) h (λ is. cc)
number_read_plies go UciGo.Mate word h = other_read go UciGo.Mate (key_number UciGo.Mate word) h (λ is. cc)
number_read_plies go UciGo.MoveTime word h = other_read go UciGo.MoveTime (key_number UciGo.MoveTime word) h (λ is. cc)
number_read_plies go UciGo.WhiteTime word h = other_read go UciGo.WhiteTime (key_number UciGo.WhiteTime word) h (λ is. cc)
number_read_plies go UciGo.BlackTime word h = other_read go UciGo.BlackTime (key_number UciGo.BlackTime word) h (λ is. cc)
number_read_plies go UciGo.WhiteIncrement word h = other_read go UciGo.WhiteIncrement (key_number UciGo.WhiteIncrement word) h (λ is. cc)
number_read_plies go UciGo.BlackIncrement word h = other_read go UciGo.BlackIncrement (key_number UciGo.BlackIncrement word) h (λ is. cc)
number_read_plies go UciGo.MovesToGo word h = other_read go UciGo.MovesToGo (key_number UciGo.MovesToGo word) h (λ is. cc)

filled_plies : (go : Go) (awaited : UciGo.Awaited) (word : Word) → ArePlies go.perft → ArePlies (filled go awaited word).go.perft
filled_plies go UciGo.Nothing word h = h
filled_plies go (UciGo.Number key) word h = number_read_plies go key word h
filled_plies go UciGo.Moves word h = h

step_plies : (begins : Option GoWord) (before : GoRead) (word : Word) → ArePlies before.go.perft
    → ArePlies (go_read begins before word).go.perft
step_plies (Some (UciGo.Takes key)) before word h = h
step_plies (Some UciGo.Holds) before word h = h
step_plies (Some UciGo.SearchMoves) before word h = h
step_plies None before word h = filled_plies before.go before.awaited word h

words_plies : (words : List Word) (before : GoRead) → ArePlies before.go.perft → ArePlies (go_words before words).go.perft
unfolding go_words
words_plies [] before h = h
words_plies (word ∷ words) before h = words_plies words _ (step_plies (go_word word) before word h)

-- `perft` is asked of 1 to 9 plies
pub asked_plies : (words : List Word) → ArePlies (go_of words).perft
asked_plies words = words_plies words (record { go = asks_nothing; awaited = UciGo.Nothing }) tt

-- what the code keeps is what is asked
pub plan_is : (state : State) (go asked : Go) (plan : GoPlan) → go ≡ asked → plan.legal ≡ legal_in state.game
    → plan.roots.items ≡ roots_of go plan.legal → plan.depths ≡ last_depth go
    → plan.mate ≡ option_map last_mate go.mate → plan.perft ≡ go.perft → ArePlies go.perft
    → plan.share ≡ share_of go state.threads → plan.time ≡ time_for go (mover state.game)
    → plan.holds ≡ is_held go (mover state.game) → IsPlan state asked plan
plan_is state go asked plan same legal roots depths mate perft plies share time holds =
    subst (λ g. IsPlan state g plan) same (record {
      legal_is = legal;
      roots_are = roots ∙ ap (roots_of go) legal;
      depths_is = depths;
      mate_is = mate;
      perft_is = perft;
      plies = subst ArePlies (sym perft) plies;
      share_is = share;
      time_is = time;
      held_is = holds;
    })
