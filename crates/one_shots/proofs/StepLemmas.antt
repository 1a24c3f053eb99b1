-- One move of a random game.
use Rattle.std.proofs.Common.{◌≡◌, ℕ, zero, suc, arith, ◌%◌, ◌<◌, List, [], length, get_or, slice_get, Some, refl, ap, sym, ◌∙◌}
use Rattle.std.proofs.lemmas.Option.{slice_get-get_or}
use Rattle.rand_pcg.specs.Lcg.{Lcg}
use Rattle.rand_pcg.specs.Pcg.{pcg32}
use Rattle.rules_model.specs.declared.moves.Move.{Move}
use Rattle.rules_model.specs.declared.moves.Outcome.{Outcome}
use Rattle.rules_model.specs.declared.moves.Outcome.TheVariants.{Ongoing, Won, Drawn}
use Rattle.rules_model.specs.Games.{result}
use Rattle.game_play.specs.Played.{Played, legal_in, longer, story}
use Rattle.one_shots.specs.Generate.{random_game}

-- the game has ended
pub ended : (generator : Lcg) (g : Played) (o : Outcome) → result g.rules (story g) ≡ o → (o ≡ Ongoing → ⊥) → (plies : ℕ) → random_game (suc plies) generator g ≡ g
unfolding random_game
ended generator g Ongoing is over plies = absurd (over refl)
ended generator g (Won side cause) is over plies = rw is refl
ended generator g (Drawn cause) is over plies = rw is refl

-- no move is legal
pub stuck : (generator : Lcg) (g : Played) → result g.rules (story g) ≡ Ongoing → legal_in g ≡ [] → (plies : ℕ) → random_game (suc plies) generator g ≡ g
unfolding random_game
stuck generator g is none plies = rw (is, none) refl

-- a move is picked and played
pub stepped : (generator generator' : Lcg) (g : Played) (m : Move) → result g.rules (story g) ≡ Ongoing → generator' ≡ (pcg32 generator).1
    → slice_get (legal_in g) ((pcg32 generator).0 % length (legal_in g)) ≡ Some m → (plies : ℕ) → random_game (suc plies) generator g ≡ random_game plies generator' (longer g m)
unfolding random_game
stepped generator generator' g m is step picks plies = rw (is, picks, step) refl

-- what is picked stands at the place
pub picks_at : (moves : List Move) (generator generator' : Lcg) (word : ℕ) (d : Move) → (word, generator') ≡ pcg32 generator → word % length moves < length moves
    → (slice_get moves ((pcg32 generator).0 % length moves) ≡ Some (get_or moves (word % length moves) d)) × (generator' ≡ (pcg32 generator).1)
picks_at moves generator generator' word d step below =
    let word_is = ap (λ (p : ℕ × Lcg). p.0) step in
    (ap (λ (n : ℕ). slice_get moves (n % length moves)) (sym word_is) ∙ slice_get-get_or moves (word % length moves) d below, ap (λ (p : ℕ × Lcg). p.1) step)

-- no more moves are to be played
pub none_left : (n : ℕ) (generator : Lcg) (g : Played) → n ≡ 0 → random_game n generator g ≡ g
unfolding random_game
none_left n generator g is = rw is refl

-- a game that went on no more is the whole game, however many moves were left
pub stopped : (n : ℕ) (generator : Lcg) (g g' whole : Played) → 0 < n → ((plies : ℕ) → random_game (suc plies) generator g ≡ g') → random_game n generator g ≡ whole → g' ≡ whole
stopped zero generator g g' whole some over is = absurd (omega (arith, some))
stopped (suc plies) generator g g' whole some over is = sym (over plies) ∙ is
