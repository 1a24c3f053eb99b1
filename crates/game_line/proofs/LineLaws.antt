-- Laws of lines.
use Rattle.std.proofs.Common.{◌≡◌, ℕ, zero, suc, ◌+◌, ◌-◌, ◌<◌, true, List, [], ◌∷◌, ◌++◌, length, take, drop, get_or, refl, ap, sym, ◌∙◌, arith, append_assoc, append-nil}
use Rattle.std.proofs.lemmas.List.{length-append, take_at}
use Rattle.std.proofs.lemmas.List.Sums.{sum_by-append}
use Rattle.foundation.specs.Member.{Member}
use Rattle.rules_model.specs.declared.board.Position.{Position}
use Rattle.rules_model.specs.declared.board.Repeat.{Repeat}
use Rattle.rules_model.specs.declared.moves.Move.{Move}
use Rattle.rules_model.specs.declared.rules.Rules.{Rules}
use Rattle.rules_model.specs.Games.{Story, history, played, story_from, are_legal, times}
use Rattle.rules_model.specs.Legal.{legal}
use Rattle.rules_model.specs.Next.{next}
use Rattle.rules_model.specs.Repeats.{repeat_of}
use Rattle.rules_model.proofs.ResultLaws.{are_legal-more}
use Rattle.game_play.proofs.StoryLemmas.{story-push}
use Rattle.game_line.specs.Lined.{Lined, story_of_line, pushed, shorter, positions_since}

-- ---- a move more and a move less

pub story-pushed : (l : Lined) (m : Move) → story_of_line (pushed l m) ≡ played l.rules (story_of_line l) m
story-pushed l m = story-push l.rules l.base l.moves m

front-pushed : (ms : List Move) (m : Move) → take (length (ms ++ m ∷ []) - 1) (ms ++ m ∷ []) ≡ ms
front-pushed ms m = take_at ms (m ∷ []) _ (let l = length-append ms (m ∷ []) in omega arith)

pub shorter-pushed : (l : Lined) (m : Move) → shorter (pushed l m) ≡ l
shorter-pushed l m i = record { rules = l.rules; base = l.base; moves = front-pushed l.moves m i; room = l.room }

-- ---- the game's positions, and those of the line

-- what stood before is never looked at
story-behind : (rules : Rules) (xs ys : List Position) (p : Position) (ms : List Move) →
    story_from rules (record { earlier = xs ++ ys; last = p }) ms
    ≡ record { earlier = xs ++ (story_from rules (record { earlier = ys; last = p }) ms).earlier; last = (story_from rules (record { earlier = ys; last = p }) ms).last }
unfolding story_from
story-behind rules xs ys p [] = refl
story-behind rules xs ys p (m ∷ ms) =
    ap (λ (zs : List Position). story_from rules (record { earlier = zs; last = next rules p m }) ms) (append_assoc xs ys (p ∷ []))
    ∙ story-behind rules xs (ys ++ p ∷ []) (next rules p m) ms

module _ (rules : Rules) (base : Story) (ms : List Move) where
  abbrev since : Story
  since = story_from rules (record { earlier = []; last = base.last }) ms

  line-behind : story_from rules base ms ≡ record { earlier = base.earlier ++ since.earlier; last = since.last }
  line-behind =
      ap (λ (zs : List Position). story_from rules (record { earlier = zs; last = base.last }) ms) (sym (append-nil base.earlier))
      ∙ story-behind rules base.earlier [] base.last ms

  pub last-since : (story_from rules base ms).last ≡ since.last
  last-since = ap (λ (s : Story). s.last) line-behind

  pub history-since : history (story_from rules base ms) ≡ base.earlier ++ positions_since rules base.last ms
  history-since = ap history line-behind ∙ append_assoc base.earlier since.earlier (since.last ∷ [])

-- the first of the positions since the game is the game's last
pub since-first : (rules : Rules) (p : Position) (ms : List Move) → positions_since rules p ms ≡ p ∷ drop 1 (positions_since rules p ms)
unfolding story_from
since-first rules p [] = refl
since-first rules p (m ∷ ms) =
    let e : positions_since rules p (m ∷ ms) ≡ p ∷ positions_since rules (next rules p m) ms = history-since rules (record { earlier = p ∷ []; last = next rules p m }) ms in
    e ∙ sym (ap (λ (ps : List Position). p ∷ drop 1 ps) e)

pub history-later : (rules : Rules) (base : Story) (ms : List Move) → history (story_from rules base ms) ≡ history base ++ drop 1 (positions_since rules base.last ms)
history-later rules base ms =
    history-since rules base ms
    ∙ ap (λ (ps : List Position). base.earlier ++ ps) (since-first rules base.last ms)
    ∙ sym (append_assoc base.earlier (base.last ∷ []) (drop 1 (positions_since rules base.last ms)))

-- each move of a line is legal in its turn
pub legal-at : (rules : Rules) (g : Story) (ms : List Move) (i : ℕ) (d : Move) → are_legal rules g.last ms ≡ true → i < length ms → Member (get_or ms i d) (legal rules (repeat_of (story_from rules g (take i ms)).last))
unfolding story_from
legal-at rules g [] i d h lt = absurd (omega arith)
legal-at rules g (m ∷ ms) zero d h lt = ((are_legal-more rules g.last m ms).0 h).0
legal-at rules g (m ∷ ms) (suc i) d h lt = legal-at rules (played rules g m) ms i d ((are_legal-more rules g.last m ms).0 h).1 (omega arith)

pub times-append : (r : Repeat) (ps qs : List Position) → times r (ps ++ qs) ≡ times r ps + times r qs
unfolding times
times-append r ps qs = sum_by-append _ ps qs
