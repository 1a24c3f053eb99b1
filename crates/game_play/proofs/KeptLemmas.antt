-- What a `Game` holds, when a move is played and when one is taken back.
use Rattle.std.proofs.Common.{◌≡◌, ℕ, zero, suc, ◌+◌, ◌-◌, ◌<◌, ◌≤◌, true, List, [], ◌∷◌, ◌++◌, length, take, get_or, slice_index_or, refl, ap, sym, ◌∙◌, subst, arith}
use Rattle.std.proofs.lemmas.List.{length-append, get_or_append_left, take_more}
use Rattle.std.proofs.Math.Seq.{take-append_seam, get_or-append_seam, take-length}
use Rattle.foundation.specs.Member.{Member}
use Rattle.rules_model.specs.declared.board.Position.{Position}
use Rattle.rules_model.specs.declared.moves.Move.{Move}
use Rattle.rules_model.specs.declared.moves.Move.TheVariants.{Drop}
use Rattle.rules_model.specs.declared.rules.Rules.{Rules}
use Rattle.rules_model.specs.Fit.{IsFit}
use Rattle.rules_model.specs.Games.{Story, history, story_from}
use Rattle.rules_model.specs.Legal.{legal}
use Rattle.rules_model.specs.Next.{next}
use Rattle.rules_model.specs.Ready.{IsReady}
use Rattle.rules_model.specs.Repeats.{repeat_of}
use Rattle.rules_model.specs.Sound.{is_sound}
use Rattle.rules_model.proofs.ResultLaws.{are_legal-none, story_from-none}
use Rattle.game_play.specs.Played.{Played, story, longer, shorter, legal_in, IsPlayed, played_of, IsKept}
use Rattle.game_play.proofs.StoryLemmas.{history-push, history-length, legal-push, legal-front, last-sound}

-- ---- games

-- the last position is sound
pub played-last-sound : (g : Played) → IsPlayed g → is_sound g.rules (story g).last ≡ true
played-last-sound g h = last-sound g.rules h.fit (record { earlier = []; last = g.start }) g.moves h.game.sound h.game.legal_moves

pub played-new : (rules : Rules) (p : Position) → IsFit rules → is_sound rules p ≡ true → IsPlayed (record { rules = rules; start = p; moves = [] })
played-new rules p fit s = record { fit = fit; game = record { sound = s; legal_moves = are_legal-none rules p }; few = omega arith }

pub played-longer : (g : Played) (m : Move) → IsPlayed g → Member m (legal_in g) → length g.moves < 8192 → IsPlayed (longer g m)
played-longer g m h k few = record {
  fit = h.fit;
  game = record { sound = h.game.sound; legal_moves = legal-push g.rules (record { earlier = []; last = g.start }) g.moves m h.game.legal_moves k };
  few = let l = length-append g.moves (m ∷ []) in omega arith;
}

played-front : (rules : Rules) (p : Position) (ms : List Move) (m : Move) → IsPlayed (record { rules = rules; start = p; moves = ms ++ m ∷ [] }) → IsPlayed (record { rules = rules; start = p; moves = ms })
played-front rules p ms m h = record {
  fit = h.fit;
  game = record { sound = h.game.sound; legal_moves = legal-front rules p ms (m ∷ []) h.game.legal_moves };
  few = let l = length-append ms (m ∷ []) in let f = h.few in omega arith;
}

-- ---- what is held

abbrev nothing : Move
nothing = Drop (record { 0 = 0 }) (record { 0 = 0 })

module _ (rules : Rules) where
  -- as many positions as moves and one
  pub kept-count : (ps : List Position) (ms : List Move) → IsKept rules ps ms → length ps ≡ length ms + 1
  kept-count ps ms h =
      let l = history-length rules (record { earlier = []; last = slice_index_or ps 0 rules.start }) ms in
      ap length h.are_positions ∙ omega arith

  -- the first one stays where one more is kept
  same-start : (ps : List Position) (p : Position) → 0 < length ps → slice_index_or (ps ++ p ∷ []) 0 rules.start ≡ slice_index_or ps 0 rules.start
  same-start ps p h = get_or_append_left ps (p ∷ []) rules.start 0 h

  pub played_of-push : (ps : List Position) (ms : List Move) (p : Position) (m : Move) → 0 < length ps → played_of rules (ps ++ p ∷ []) (ms ++ m ∷ []) ≡ longer (played_of rules ps ms) m
  played_of-push ps ms p m h i = record { rules = rules; start = same-start ps p h i; moves = ms ++ m ∷ [] }

  pub kept-new : (p : Position) → IsFit rules → is_sound rules p ≡ true → IsKept rules (p ∷ []) []
  kept-new p fit s = record { by_rules = played-new rules p fit s; are_positions = sym (ap history (story_from-none rules (record { earlier = []; last = p }))) }

  pub kept-push : (ps : List Position) (ms : List Move) (m : Move) → IsKept rules ps ms → Member m (legal_in (played_of rules ps ms)) → length ms < 8192 →
      let p = next rules (story (played_of rules ps ms)).last m in IsKept rules (ps ++ p ∷ []) (ms ++ m ∷ [])
  kept-push ps ms m h k few =
      let p = next rules (story (played_of rules ps ms)).last m in
      let c = kept-count ps ms h in
      let e = played_of-push ps ms p m (omega arith) in
      record {
        by_rules = subst IsPlayed (sym e) (played-longer (played_of rules ps ms) m h.by_rules k few);
        are_positions = ap (λ qs. qs ++ p ∷ []) h.are_positions ∙ sym (history-push rules (record { earlier = []; last = slice_index_or ps 0 rules.start }) ms m) ∙ sym (ap (λ (g : Played). history (story g)) e);
      }

  -- ---- the last position

  pub kept-end : (ps : List Position) (ms : List Move) → IsKept rules ps ms → (d : Position) → get_or ps (length ps - 1) d ≡ (story (played_of rules ps ms)).last
  kept-end ps ms h d =
      let s = story (played_of rules ps ms) in
      let k = length-append s.earlier (s.last ∷ []) in
      let c = ap length h.are_positions in
      let at : length ps - 1 ≡ length s.earlier = omega arith in
      ap (λ j. get_or ps j d) at ∙ ap (λ qs. get_or qs (length s.earlier) d) h.are_positions ∙ get_or-append_seam s.earlier s.last [] d

  -- rules and tables are those of the game, by whatever name a call has for them
  pub kept-ready : (ps : List Position) (ms : List Move) → IsKept rules ps ms → (x : Position) → x ≡ (story (played_of rules ps ms)).last
      → (r made : Rules) → made ≡ rules → r ≡ made → IsReady r made x
  kept-ready ps ms h x is r made same_made same_r =
      let same : r ≡ rules = same_r ∙ same_made in
      record {
        fit = subst IsFit (sym same) h.by_rules.fit;
        tables = sym same_r;
        sound = subst (λ (s : Rules). is_sound s x ≡ true) (sym same) (subst (λ (q : Position). is_sound rules q ≡ true) (sym is) (played-last-sound (played_of rules ps ms) h.by_rules));
      }

  -- what is legal in the last position is legal in the game
  pub kept-legal : (ps : List Position) (ms : List Move) (g : Played) → played_of rules ps ms ≡ g → (r : Rules) (x : Position) → r ≡ rules → x ≡ (story (played_of rules ps ms)).last
      → legal r (repeat_of x) ≡ legal_in g
  kept-legal ps ms g is r x er ex =
      ap (λ (s : Rules). legal s (repeat_of x)) er ∙ ap (λ (q : Position). legal rules (repeat_of q)) ex ∙ ap legal_in is

  pub kept-few : (ps : List Position) (ms : List Move) → IsKept rules ps ms → length ps ≤ 8193
  kept-few ps ms h = let c = kept-count ps ms h in let f = h.by_rules.few in omega arith

  -- ---- a move more and a move less

  -- with the names that a call has for what it found and made
  pub kept-play : (ps : List Position) (ms : List Move) → IsKept rules ps ms → (r : Rules) (x p : Position) (m : Move) → r ≡ rules → x ≡ (story (played_of rules ps ms)).last → Member m (legal r (repeat_of x)) → length ms < 8192 → p ≡ next r x m →
      (qs : List Position) (ns : List Move) → qs ≡ ps ++ p ∷ [] → ns ≡ ms ++ m ∷ [] → IsKept rules qs ns
  kept-play ps ms h r x p m er ex k few ep qs ns eq en =
      let is : p ≡ next rules (story (played_of rules ps ms)).last m = ep ∙ ap (λ (s : Rules). next s x m) er ∙ ap (λ (q : Position). next rules q m) ex in
      let there : Member m (legal_in (played_of rules ps ms)) = subst (λ (q : Position). Member m (legal rules (repeat_of q))) ex (subst (λ (s : Rules). Member m (legal s (repeat_of x))) er k) in
      rw (eq, en, is) (kept-push ps ms m h there few)

  -- all but the last of the moves, and the last
  whole : (ms : List Move) (n : ℕ) → n ≡ length ms → 0 < n → ms ≡ take (n - 1) ms ++ get_or ms (n - 1) nothing ∷ []
  whole ms n e h =
      let l : n - 1 < length ms = omega arith in
      let s : n - 1 + 1 ≡ length ms = omega arith in
      sym (take-length ms) ∙ ap (λ k. take k ms) (sym s) ∙ take_more ms (n - 1) nothing l

  start-front : (ps : List Position) (n : ℕ) → 0 < n → slice_index_or (take n ps) 0 rules.start ≡ slice_index_or ps 0 rules.start
  start-front [] zero h = refl
  start-front [] (suc n) h = refl
  start-front (p ∷ ps) zero h = absurd (omega arith)
  start-front (p ∷ ps) (suc n) h = refl

  pub played_of-front : (ps : List Position) (ms : List Move) (n : ℕ) → n ≡ length ms → 0 < n → played_of rules (take n ps) (take (n - 1) ms) ≡ shorter (played_of rules ps ms)
  played_of-front ps ms n e h i = record { rules = rules; start = start-front ps n h i; moves = take (e i - 1) ms }

  pub kept-front : (ps : List Position) (ms : List Move) → IsKept rules ps ms → (n : ℕ) → n ≡ length ms → 0 < n →
      (qs : List Position) (ns : List Move) → qs ≡ take n ps → ns ≡ take (n - 1) ms → IsKept rules qs ns
  kept-front ps ms h n e pos qs ns eq en =
      let start = slice_index_or ps 0 rules.start in
      let front = take (n - 1) ms in
      let m = get_or ms (n - 1) nothing in
      let w = whole ms n e pos in
      let s : Story = record { earlier = []; last = start } in
      let short : IsPlayed (record { rules = rules; start = start; moves = front }) = played-front rules start front m (subst (λ (ns : List Move). IsPlayed (record { rules = rules; start = start; moves = ns })) w h.by_rules) in
      let all : ps ≡ history (story_from rules s front) ++ next rules (story_from rules s front).last m ∷ [] = h.are_positions ∙ ap (λ (ns : List Move). history (story_from rules s ns)) w ∙ history-push rules s front m in
      let l = history-length rules s front in
      let f = length-append front (m ∷ []) in
      let c = ap length w in
      let count : n ≡ length (history (story_from rules s front)) = omega arith in
      let part : take n ps ≡ history (story_from rules s front) = ap (take n) all ∙ ap (λ k. take k (history (story_from rules s front) ++ next rules (story_from rules s front).last m ∷ [])) count ∙ take-append_seam (history (story_from rules s front)) _ in
      rw (eq, en) (record {
        by_rules = subst (λ (p : Position). IsPlayed (record { rules = rules; start = p; moves = front })) (sym (start-front ps n pos)) short;
        are_positions = part ∙ ap (λ (p : Position). history (story_from rules (record { earlier = []; last = p }) front)) (sym (start-front ps n pos));
      })
