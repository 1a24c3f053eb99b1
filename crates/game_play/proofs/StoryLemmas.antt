-- Games one move longer, by their positions.
use Rattle.std.proofs.Common.{◌≡◌, ◌+◌, true, List, [], ◌∷◌, ◌++◌, length, get_or, refl, ap, ◌∙◌, arith}
use Rattle.std.proofs.lemmas.List.{length-append, get_or_append_left}
use Rattle.foundation.specs.Member.{Member}
use Rattle.rules_model.specs.declared.board.Position.{Position}
use Rattle.rules_model.specs.declared.moves.Move.{Move}
use Rattle.rules_model.specs.declared.rules.Rules.{Rules}
use Rattle.rules_model.specs.Fit.{IsFit}
use Rattle.rules_model.specs.Games.{Story, history, played, story_from, are_legal}
use Rattle.rules_model.specs.Legal.{legal}
use Rattle.rules_model.specs.Next.{next}
use Rattle.rules_model.specs.Repeats.{repeat_of}
use Rattle.rules_model.specs.Sound.{is_sound}
use Rattle.rules_model.proofs.ResultLaws.{are_legal-none, are_legal-more}
use Rattle.sound_play.proofs.NextLaws.{next-sound}

-- one move more at the end
pub story-push : (rules : Rules) (g : Story) (ms : List Move) (m : Move) → story_from rules g (ms ++ m ∷ []) ≡ played rules (story_from rules g ms) m
unfolding story_from
story-push rules g [] m = refl
story-push rules g (n ∷ ms) m = story-push rules (played rules g n) ms m

pub history-push : (rules : Rules) (g : Story) (ms : List Move) (m : Move) → history (story_from rules g (ms ++ m ∷ [])) ≡ history (story_from rules g ms) ++ next rules (story_from rules g ms).last m ∷ []
history-push rules g ms m = ap history (story-push rules g ms m)

-- a position for the start and for each move
pub history-length : (rules : Rules) (g : Story) (ms : List Move) → length (history (story_from rules g ms)) ≡ length (history g) + length ms
unfolding story_from
history-length rules g [] = omega arith
history-length rules g (m ∷ ms) =
    let e = history-length rules (played rules g m) ms in
    let l = length-append (history g) (next rules g.last m ∷ []) in omega arith

pub one-history : (p : Position) → length (history (record { earlier = []; last = p })) ≡ 1
one-history p = refl

-- the first one stays
pub history-first : (rules : Rules) (g : Story) (ms : List Move) (d : Position) → get_or (history (story_from rules g ms)) 0 d ≡ get_or (history g) 0 d
unfolding story_from
history-first rules g [] d = refl
history-first rules g (m ∷ ms) d =
    let l = length-append g.earlier (g.last ∷ []) in
    history-first rules (played rules g m) ms d ∙ get_or_append_left (history g) (next rules g.last m ∷ []) d 0 (omega arith)

-- ---- legal moves

pub legal-push : (rules : Rules) (g : Story) (ms : List Move) (m : Move) → are_legal rules g.last ms ≡ true → Member m (legal rules (repeat_of (story_from rules g ms).last)) → are_legal rules g.last (ms ++ m ∷ []) ≡ true
unfolding story_from
legal-push rules g [] m h k = (are_legal-more rules g.last m []).1 (k, are_legal-none rules (next rules g.last m))
legal-push rules g (n ∷ ms) m h k =
    let s = (are_legal-more rules g.last n ms).0 h in
    (are_legal-more rules g.last n (ms ++ m ∷ [])).1 (s.0, legal-push rules (played rules g n) ms m s.1 k)

pub legal-front : (rules : Rules) (p : Position) (ms ns : List Move) → are_legal rules p (ms ++ ns) ≡ true → are_legal rules p ms ≡ true
legal-front rules p [] ns h = are_legal-none rules p
legal-front rules p (m ∷ ms) ns h =
    let s = (are_legal-more rules p m (ms ++ ns)).0 h in
    (are_legal-more rules p m ms).1 (s.0, legal-front rules (next rules p m) ms ns s.1)

-- each position of a game is sound, the last one among them
pub last-sound : (rules : Rules) → IsFit rules → (g : Story) (ms : List Move) → is_sound rules g.last ≡ true → are_legal rules g.last ms ≡ true → is_sound rules (story_from rules g ms).last ≡ true
unfolding story_from
last-sound rules fit g [] s h = s
last-sound rules fit g (m ∷ ms) s h =
    let k = (are_legal-more rules g.last m ms).0 h in
    last-sound rules fit (played rules g m) ms (next-sound rules g.last m fit s k.0) k.1
