-- The keys of positions.
use Rattle.std.proofs.Common.{◌≡◌, ℕ, zero, suc, ◌<◌, List, [], ◌∷◌, length, take, get_or, refl, ap}
use Rattle.std.proofs.lemmas.List.{length-map, get_or-map}
use Rattle.rules_model.specs.declared.board.Position.{Position}
use Rattle.rules_model.specs.Repeats.{repeat_of}
use Rattle.position_key.specs.Key.{key_of}
use Rattle.game_play.specs.Played.{keys_of}

pub keys-length : (ps : List Position) → length (keys_of ps) ≡ length ps
keys-length ps = length-map ps (λ p. key_of (repeat_of p))

pub keys-at : (ps : List Position) (i k : ℕ) (d : Position) → i < length ps → get_or (keys_of ps) i k ≡ key_of (repeat_of (get_or ps i d))
keys-at ps i k d h = get_or-map (λ p. key_of (repeat_of p)) ps i d k h

pub keys-take : (i : ℕ) (ps : List Position) → take i (keys_of ps) ≡ keys_of (take i ps)
keys-take zero ps = refl
keys-take (suc i) [] = refl
keys-take (suc i) (p ∷ ps) = ap (λ ks. key_of (repeat_of p) ∷ ks) (keys-take i ps)
