-- What lists of a few facts answer, and which facts they take in.
use Rattle.std.proofs.Common.{◌≡◌, ℕ, Bool, true, false, List, [], ◌∷◌, None, Some, refl}
use Rattle.rules_model.specs.declared.board.Repeat.{Repeat}
use Rattle.rules_model.specs.declared.board.Side.TheVariants.{White}
use Rattle.rules_model.specs.Games.{same_repeat}
use Rattle.forced_wins.specs.declared.fact.Fact.{Fact}
use Rattle.forced_wins.specs.Facts.{serves}
use Rattle.mate_core.specs.declared.event.Reply.TheVariants.{Stored, KnownBetter, Full}
use Rattle.mate_core.specs.Best.{best, is_as_good}
use Rattle.mate_core.specs.Steps.{published, grown}

-- a repeat of a board without squares; one pair of hands, or checks left, make another
abbrev pub bare : Repeat
bare = record { cells = []; hands = []; gates = []; rights = []; checks = []; ep = None; side = White }

abbrev pub held : Repeat
held = record bare { hands = (1 ∷ []) ∷ [] }

abbrev pub checked : Repeat
checked = record bare { checks = 1 ∷ [] }

abbrev pub fact : Bool → ℕ → ℕ → Fact
fact wins moves counter = record { repeat = bare; attacker = White; moves = moves; counter = counter; best = None; wins = wins }

abbrev pub wins_in_three : Fact
wins_in_three = fact true 3 10

-- quicker, but at low counters alone
abbrev pub wins_in_two : Fact
wins_in_two = fact true 2 5

abbrev pub later_win_in_two : Fact
later_win_in_two = fact true 2 7

abbrev pub refuted_in_one : Fact
refuted_in_one = fact false 1 4

abbrev all : List Fact
all = wins_in_three ∷ wins_in_two ∷ refuted_in_one ∷ later_win_in_two ∷ []

-- the least moves, and of those the first
least_of_two : best all bare 5 3 ≡ Some wins_in_two
unfolding best serves same_repeat
least_of_two = refl

-- at counter 6 the first win in two says nothing
at_a_higher_counter : best all bare 6 3 ≡ Some later_win_in_two
unfolding best serves same_repeat
at_a_higher_counter = refl

beyond_both : best all bare 8 3 ≡ Some wins_in_three
unfolding best serves same_repeat
beyond_both = refl

within_one : best all bare 4 1 ≡ Some refuted_in_one
unfolding best serves same_repeat
within_one = refl

-- a refutation at counter 4 says nothing of counter 3
below_the_refutation : best all bare 3 1 ≡ None
unfolding best serves same_repeat
below_the_refutation = refl

other_hands : best all held 5 3 ≡ None
unfolding best serves same_repeat
other_hands = refl

other_checks : best all checked 5 3 ≡ None
unfolding best serves same_repeat
other_checks = refl

-- as good: no more moves at no lower a counter
as_good : is_as_good wins_in_two (fact true 2 4) ≡ true
unfolding is_as_good serves same_repeat
as_good = refl

too_slow : is_as_good wins_in_three (fact true 2 4) ≡ false
unfolding is_as_good serves same_repeat
too_slow = refl

too_low : is_as_good wins_in_two wins_in_three ≡ false
unfolding is_as_good serves same_repeat
too_low = refl

-- a refutation is as good for fewer moves at a higher counter
as_good_a_refutation : is_as_good refuted_in_one (fact false 0 9) ≡ true
unfolding is_as_good serves same_repeat
as_good_a_refutation = refl

other_kind : is_as_good refuted_in_one (fact true 1 4) ≡ false
unfolding is_as_good serves same_repeat
other_kind = refl

first_is_stored : published 2 [] wins_in_three ≡ Stored
unfolding is_as_good serves same_repeat
first_is_stored = refl

same_is_known : published 2 (wins_in_three ∷ []) wins_in_three ≡ KnownBetter
unfolding is_as_good serves same_repeat
same_is_known = refl

-- a list that is full still knows its own
known_before_full : published 1 (wins_in_three ∷ []) wins_in_three ≡ KnownBetter
unfolding is_as_good serves same_repeat
known_before_full = refl

no_place : published 1 (wins_in_three ∷ []) wins_in_two ≡ Full
unfolding is_as_good serves same_repeat
no_place = refl

goes_to_the_end : grown 2 (wins_in_three ∷ []) wins_in_two ≡ wins_in_three ∷ wins_in_two ∷ []
unfolding is_as_good serves same_repeat
goes_to_the_end = refl
