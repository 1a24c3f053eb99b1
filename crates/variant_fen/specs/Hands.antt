-- Hands as code holds them while a text is read: no number is above 255.
use Rattle.std.specs.Prelude.{ℕ, ◌+◌, ◌==◌, min, map, List, Result, Ok, Err, count_by}
use Rattle.std.specs.List.{range_with_len}
use Rattle.fen_model.specs.declared.fault.FenFault.{FenFault}

abbrev pub capped : List ℕ → List ℕ
capped hand = map (min 255) hand

abbrev pub capped_result : Result (List (List ℕ)) FenFault → Result (List (List ℕ)) FenFault
capped_result (Ok hands) = Ok (map capped hands)
capped_result (Err fault) = Err fault

-- how often each of 26 letters stands there, the first with this code
abbrev pub capped_counts : ℕ → List ℕ → List ℕ
capped_counts first letters = map (λ k. min 255 (count_by (λ c. c == first + k) letters)) (range_with_len 0 26)
