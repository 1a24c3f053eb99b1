-- Reading what was written gives the certificate back.
use Rattle.std.proofs.Common.{◌≡◌, inl, inr, ℕ, ◌+◌, ◌-◌, ◌*◌, ◌^◌, ◌<◌, ◌≤◌, ◌==◌, nat_le, ◌&&◌, Bool, true, false, is_some, List, [], ◌∷◌, ◌++◌, length, map, reverse, Some, None, Ok, Err, if◌then◌else◌, refl, sym, ap, subst, ◌∙◌, arith, append_assoc, append-nil, length-append}
use Rattle.std.specs.Prelude.{codes, option_and_then}
use Rattle.std.specs.Fmt.{decimal}
use Rattle.std.proofs.lemmas.Bool.{and_from, le-leb, ne_eqb}
use Rattle.std.proofs.lemmas.List.{map-append, reverse-append, reverse-reverse}
use Rattle.foundation.specs.Cuts.{cut}
use Rattle.foundation.specs.Member.{Member}
use Rattle.foundation.specs.Numbers.{number_within, within}
use Rattle.io_ports.specs.Lines.{Line, Text, lines_of}
use Rattle.rules_model.specs.declared.board.Side.{Side}
use Rattle.rules_model.specs.declared.moves.Move.{Move}
use Rattle.rules_model.specs.declared.rules.Rules.{Rules}
use Rattle.rules_model.specs.Fit.{IsFit}
use Rattle.rules_model.specs.Games.{Story, played}
use Rattle.rules_model.specs.Legal.{legal}
use Rattle.rules_model.specs.MoveText.{text_of}
use Rattle.rules_model.specs.Repeats.{repeat_of}
use Rattle.rules_model.specs.Sound.{is_sound}
use Rattle.sound_play.proofs.NextLaws.{next-sound}
use Rattle.fen_model.proofs.DecimalLaws.{number-back}
use Rattle.fen_model.proofs.JoinLaws.{Each}
use Rattle.move_text.proofs.LegalLaws.{legal-named}
use Rattle.forced_wins.specs.Contests.{Contest}
use Rattle.game_play.specs.Played.{Played, story}
use Rattle.game_play.proofs.KeptLemmas.{played-last-sound}
use Rattle.game_text.specs.Playing.{move_in}
use Rattle.game_text.proofs.PlayLemmas.{plays-named}
use Rattle.strategy.proofs.BackLemmas.{above-append, above-lacks, cut-word, decimal-above, decimal-short, lower-above, move-above, move-short}
use Rattle.strategy.proofs.LineLaws.{IsLine, each-append, high-line, lines-back}
use Rattle.stipulation.specs.declared.cert.Step.{Step}
use Rattle.stipulation.specs.declared.verdict.CertVerdict.TheVariants.{Holds}
use Rattle.stipulation.specs.Stipulations.{aims, help_games}
use Rattle.stipulation.specs.Trees.{game_at, parent_game}
use Rattle.stipulation.specs.Verdicts.{is_bad_ply, plies_verdict, steps_verdict, tree_verdict}
use Rattle.stipulation.proofs.CheckLemmas.{plies-first}
use Rattle.stipulation.proofs.HoldLaws.{Shallow, tree-shallow}
use Rattle.stipulation.proofs.RuleLaws.{help-tree}
use Rattle.stipulation.proofs.TreeLemmas.{steps-holds, tree-parts}
use Rattle.cert_text.specs.declared.fault.CertFault.TheVariants.{BadLine}
use Rattle.cert_text.specs.Reading.{◌>>=◌, SoFar, begun, cert_of, counted, finished, last_ply, parent_position, step, taken, with_move, with_said, with_step, with_text}
use Rattle.cert_text.specs.Said.{end_line, is_title, said, said_after, step_line, step_of, title_after}
use Rattle.cert_text.specs.Writing.{HoldsIn, cert_text, cert_texts, greatest_ply, moves_of, step_text, title_text}

-- ---- lines

in-range : (high n : ℕ) → n ≤ high → (nat_le 0 n && nat_le n high) ≡ true
in-range high n most = and_from _ _ (le-leb 0 n (omega arith)) (le-leb n high most)

within-back : (high n : ℕ) → n ≤ high → n < 2 ^ 64 → number_within 0 high (decimal n) ≡ Some n
within-back high n most small =
    ap (option_and_then (within 0 high)) (number-back n small)
    ∙ ap (λ t. if t then Some n else None) (in-range high n most)

-- the line of a step
step_words : (a b : List ℕ) → a ++ codes " " ++ b ≡ a ++ 32 ∷ b
step_words a b = append_assoc a (codes " ") b

step-said : (s : Step) → s.ply ≤ 65535 → said (step_text s) ≡ Some (step_line s.ply (text_of s.chosen))
unfolding step_text said
step-said s small =
    ap (λ t. said_after (cut 32 t).0 (cut 32 t).1) (step_words (decimal s.ply) (text_of s.chosen))
    ∙ ap (λ c. said_after c.0 c.1) (cut-word 32 (decimal s.ply) (text_of s.chosen) (above-lacks 32 32 (decimal s.ply) refl (decimal-above s.ply (omega (arith, small)))))
    ∙ ap (step_of (text_of s.chosen)) (within-back 65535 s.ply small (omega (arith, small)))

step-line : (s : Step) → s.ply ≤ 65535 → IsLine (step_text s)
unfolding step_text
step-line s small =
    high-line (decimal s.ply ++ codes " " ++ text_of s.chosen)
    (above-append 13 (decimal s.ply ++ codes " ") (text_of s.chosen)
    (above-append 13 (decimal s.ply) (codes " ") (lower-above (decimal s.ply) (decimal-above s.ply (omega (arith, small)))) refl)
    (lower-above (text_of s.chosen) (move-above s.chosen)))
    (omega (arith, decimal-short s.ply (omega (arith, small)), move-short s.chosen, length-append (decimal s.ply) (codes " "), length-append (decimal s.ply ++ codes " ") (text_of s.chosen)))

-- the first line
title-said : (help : Bool) (steps : List Step) → moves_of steps ≤ 6 → is_title (title_text help steps) ≡ true
unfolding is_title
title-said false steps few =
    ap (λ c. title_after c.0 c.1) (cut-word 32 (codes "selfmate") (decimal (moves_of steps)) refl)
    ∙ ap is_some (within-back 6 (moves_of steps) few (omega (arith, few)))
title-said true steps few =
    ap (λ c. title_after c.0 c.1) (cut-word 32 (codes "helpmate") (decimal (moves_of steps)) refl)
    ∙ ap is_some (within-back 6 (moves_of steps) few (omega (arith, few)))

title-line : (help : Bool) (steps : List Step) → moves_of steps ≤ 6 → IsLine (title_text help steps)
title-line false steps few =
    high-line (title_text false steps)
    (above-append 13 (codes "selfmate ") (decimal (moves_of steps)) refl (lower-above (decimal (moves_of steps)) (decimal-above (moves_of steps) (omega (arith, few)))))
    (omega (arith, decimal-short (moves_of steps) (omega (arith, few)), length-append (codes "selfmate ") (decimal (moves_of steps))))
title-line true steps few =
    high-line (title_text true steps)
    (above-append 13 (codes "helpmate ") (decimal (moves_of steps)) refl (lower-above (decimal (moves_of steps)) (decimal-above (moves_of steps) (omega (arith, few)))))
    (omega (arith, decimal-short (moves_of steps) (omega (arith, few)), length-append (codes "helpmate ") (decimal (moves_of steps))))

-- ---- plies

shallow-greatest : (d : ℕ) (steps : List Step) → Shallow d steps → greatest_ply steps ≤ d
unfolding greatest_ply
shallow-greatest d [] all = omega arith
shallow-greatest d (s ∷ steps) all = let rest = shallow-greatest d steps all.1 in let here = all.0 in omega (arith, rest, here)

shallow-moves : (n : ℕ) (steps : List Step) → Shallow (2 * n) steps → moves_of steps ≤ n
shallow-moves n steps all = let most = shallow-greatest (2 * n) steps all in omega (arith, most)

shallow-lines : (d : ℕ) (steps : List Step) → d ≤ 65535 → Shallow d steps → Each IsLine (map step_text steps)
shallow-lines d [] small all = tt
shallow-lines d (s ∷ steps) small all = let here = all.0 in (step-line s (omega (arith, here, small)), shallow-lines d steps small all.1)

-- ---- games

-- who chooses does not matter to where moves lead
games-same : (f f' : Story → Bool) (rules : Rules) (a : Side) (g : Story) (earlier : List Step) (q : ℕ) → game_at (aims f rules a) g earlier q ≡ game_at (aims f' rules a) g earlier q
unfolding game_at
games-same f f' rules a g [] q = refl
games-same f f' rules a g (s ∷ earlier) q =
    ap (λ (x : Story). if s.ply == q then played rules x s.chosen else game_at (aims f rules a) g earlier q) (games-same f f' rules a g earlier (s.ply - 1))
    ∙ ap (λ (x : Story). if s.ply == q then played rules (game_at (aims f' rules a) g earlier (s.ply - 1)) s.chosen else x) (games-same f f' rules a g earlier q)

module _ (rules : Rules) (g : Story) (fit : IsFit rules) where
  abbrev c : Contest Story Move
  c = help_games rules g.last.side

  -- the games of the earlier steps have sound positions
  abbrev AreSound : List Step → Type 0
  AreSound earlier = (q : ℕ) → is_sound rules (game_at c g earlier q).last ≡ true

  sound-none : is_sound rules g.last ≡ true → AreSound []
  unfolding game_at
  sound-none sound q = sound

  sound-if : (s : Step) (here past : Story) (t : Bool) → is_sound rules here.last ≡ true → is_sound rules past.last ≡ true → is_sound rules (if t then here else past).last ≡ true
  sound-if s here past true a b = a
  sound-if s here past false a b = b

  sound-more : (s : Step) (earlier : List Step) → AreSound earlier → Member s.chosen (legal rules (repeat_of (parent_position rules g earlier s.ply))) → AreSound (s ∷ earlier)
  unfolding game_at
  sound-more s earlier all member q =
      sound-if s (played rules (parent_game c g earlier s.ply) s.chosen) (game_at c g earlier q) (s.ply == q)
      (next-sound rules (parent_position rules g earlier s.ply) s.chosen fit (all (s.ply - 1)) member) (all q)

  -- ---- steps

  abbrev at : ℕ → List Step → SoFar
  at line earlier = record { line = line; earlier = earlier; is_ended = false }

  step-taken : (line : ℕ) (s : Step) (earlier : List Step) → is_bad_ply (last_ply earlier) s.ply ≡ false → move_in rules (parent_position rules g earlier s.ply) (text_of s.chosen) ≡ Some s.chosen
      → with_step rules g (at line earlier) s.ply (text_of s.chosen) ≡ Ok (at line (s ∷ earlier))
  unfolding with_step
  step-taken line s earlier good named =
      ap (λ t. if t then Err (BadLine line) else with_move (at line earlier) s.ply (move_in rules (parent_position rules g earlier s.ply) (text_of s.chosen))) good
      ∙ ap (with_move (at line earlier) s.ply) named

  text-said : (line : ℕ) (earlier : List Step) (text : List ℕ) → 1 < line → with_text rules g (at line earlier) text ≡ with_said rules g (at line earlier) (said text)
  unfolding with_text
  text-said line earlier text later =
      let not_first : (line == 1) ≡ false = ne_eqb line 1 (λ e. omega (arith, e, later)) in
      ap (λ t. if t then (if is_title text then Ok (at line earlier) else Err (BadLine line)) else with_said rules g (at line earlier) (said text)) not_first

  said-step : (b : SoFar) (ply : ℕ) (text : List ℕ) → with_said rules g b (Some (step_line ply text)) ≡ with_step rules g b ply text
  unfolding with_said
  said-step b ply text = refl

  said-end : (b : SoFar) → with_said rules g b (Some end_line) ≡ Ok (record b { is_ended = true })
  unfolding with_said
  said-end b = refl

  counted-step : (b next : SoFar) (text : List ℕ) → with_text rules g b text ≡ Ok next → step rules g b (Text text) ≡ Ok (record next { line = next.line + 1 })
  unfolding step
  counted-step b next text is = ap (λ r. r >>= counted) is

  taken-next : (b next : SoFar) (text : List ℕ) (more : List Line) → step rules g b (Text text) ≡ Ok next → taken rules g b (Text text ∷ more) ≡ taken rules g next more
  unfolding taken
  taken-next b next text more is = ap (λ r. r >>= λ (y : SoFar). taken rules g y more) is

  taken-nil : (b : SoFar) → taken rules g b [] ≡ Ok b
  unfolding taken
  taken-nil b = refl

  step-back : (line : ℕ) (s : Step) (earlier : List Step) → 1 < line → s.ply ≤ 65535 → is_bad_ply (last_ply earlier) s.ply ≡ false → AreSound earlier
      → Member s.chosen (legal rules (repeat_of (parent_position rules g earlier s.ply))) → step rules g (at line earlier) (Text (step_text s)) ≡ Ok (at (line + 1) (s ∷ earlier))
  step-back line s earlier later small good sound member =
      let p = parent_position rules g earlier s.ply in
      counted-step (at line earlier) (at line (s ∷ earlier)) (step_text s)
      (text-said line earlier (step_text s) later
      ∙ ap (with_said rules g (at line earlier)) (step-said s small)
      ∙ said-step (at line earlier) s.ply (text_of s.chosen)
      ∙ step-taken line s earlier good
      (plays-named rules p (text_of s.chosen) fit (sound (s.ply - 1)) s.chosen (legal-named rules p s.chosen fit (sound (s.ply - 1)) member) member))

  -- what is known of steps that are read back: each may follow those before it
  abbrev AreTaken : List Step → List Step → Type 0
  AreTaken earlier [] = Unit {0}
  AreTaken earlier (s ∷ later) =
      (s.ply ≤ 65535) × (is_bad_ply (last_ply earlier) s.ply ≡ false) × Member s.chosen (legal rules (repeat_of (parent_position rules g earlier s.ply))) × AreTaken (s ∷ earlier) later

  steps-back : (later done : List Step) (line : ℕ) (rest : List Line) → 1 < line → AreSound (reverse done) → AreTaken (reverse done) later
      → taken rules g (at line (reverse done)) (map Text (map step_text later) ++ rest) ≡ taken rules g (at (line + length later) (reverse (done ++ later))) rest
  steps-back [] done line rest late sound are =
      let same : line ≡ line + 0 = omega arith in
      λ i. taken rules g (at (same i) (reverse (sym (append-nil done) i))) rest
  steps-back (s ∷ later) done line rest late sound are =
      let earlier = reverse done in
      let one : reverse (done ++ s ∷ []) ≡ s ∷ earlier = reverse-append done (s ∷ []) in
      let further : line + 1 + length later ≡ line + length (s ∷ later) = omega arith in
      taken-next (at line earlier) (at (line + 1) (s ∷ earlier)) (step_text s) (map Text (map step_text later) ++ rest) (step-back line s earlier late are.0 are.1 sound are.2)
      ∙ ap (λ e. taken rules g (at (line + 1) e) (map Text (map step_text later) ++ rest)) (sym one)
      ∙ steps-back later (done ++ s ∷ []) (line + 1) rest (omega (arith, late))
      (subst AreSound (sym one) (sound-more s earlier sound are.2)) (subst (λ e. AreTaken e later) (sym one) are.3)
      ∙ (λ i. taken rules g (at (further i) (reverse (append_assoc done (s ∷ []) later i))) rest)

  title-back : (help : Bool) (steps : List Step) → moves_of steps ≤ 6 → step rules g begun (Text (title_text help steps)) ≡ Ok (at 2 [])
  unfolding with_text
  title-back help steps few =
      counted-step begun begun (title_text help steps) (ap (λ t. if t then Ok begun else Err (BadLine 1)) (title-said help steps few))

  end-back : (line : ℕ) (earlier : List Step) → 1 < line → step rules g (at line earlier) (Text (codes "end")) ≡ Ok (record (at (line + 1) earlier) { is_ended = true })
  unfolding said cut
  end-back line earlier later =
      counted-step (at line earlier) (record (at line earlier) { is_ended = true }) (codes "end")
      (text-said line earlier (codes "end") later ∙ said-end (at line earlier))

  -- the lines that are written say the steps
  texts-back : (help : Bool) (steps : List Step) → moves_of steps ≤ 6 → AreSound [] → AreTaken [] steps → cert_of rules g (map Text (cert_texts help steps)) ≡ Ok (record { steps = steps })
  unfolding cert_of
  texts-back help steps few sound are =
      ap (λ r. r >>= finished)
      (taken-next begun (at 2 []) (title_text help steps) _ (title-back help steps few)
      ∙ ap (taken rules g (at 2 [])) (map-append Text (map step_text steps) (codes "end" ∷ []))
      ∙ steps-back steps [] 2 (Text (codes "end") ∷ []) (omega arith) sound are
      ∙ taken-next (at (2 + length steps) (reverse steps)) _ (codes "end") [] (end-back (2 + length steps) (reverse steps) (omega arith))
      ∙ taken-nil _)
      ∙ ap (λ ss. Ok (record { steps = ss })) (reverse-reverse steps)

  text-back : (help : Bool) (steps : List Step) (d : ℕ) → d ≤ 65535 → Shallow d steps → moves_of steps ≤ 6 → AreSound [] → AreTaken [] steps
      → cert_of rules g (lines_of (cert_text help steps)) ≡ Ok (record { steps = steps })
  unfolding cert_text
  text-back help steps d small shallow few sound are =
      ap (cert_of rules g)
      (lines-back (cert_texts help steps)
      (title-line help steps few, each-append IsLine (map step_text steps) (codes "end" ∷ []) (shallow-lines d steps small shallow) (high-line (codes "end") refl (omega arith), tt)))
      ∙ texts-back help steps few sound are

-- ---- certificates that hold

module _ (f : Story → Bool) (rules : Rules) (g : Story) (fit : IsFit rules) (n : ℕ) where
  abbrev games : Contest Story Move
  games = aims f rules g.last.side

  taken-held : (i j : ℕ) (earlier later : List Step) → n ≤ 6 → plies_verdict i (last_ply earlier) later ≡ Holds → steps_verdict games n g j earlier later ≡ Holds → AreTaken rules g fit earlier later
  taken-held i j earlier [] few p h = tt
  taken-held i j earlier (s ∷ later) few p h =
      let k = steps-holds games n g j earlier s later h in
      let plies = plies-first i (last_ply earlier) s later p in
      let deep = k.0.shallow in
      let same = games-same f (λ x. true) rules g.last.side g earlier (s.ply - 1) in
      (omega (arith, deep, few), plies.0, subst (λ (x : Story). Member s.chosen (legal rules (repeat_of x.last))) same k.0.legal, taken-held (i + 1) (j + 1) (s ∷ earlier) later few plies.1 k.1)

  tree-back : (help : Bool) (steps : List Step) → n ≤ 6 → is_sound rules g.last ≡ true → tree_verdict games n g steps ≡ Holds → cert_of rules g (lines_of (cert_text help steps)) ≡ Ok (record { steps = steps })
  tree-back help steps few sound h =
      let parts = tree-parts games n g steps h in
      let shallow = tree-shallow games n g steps h in
      let moves = shallow-moves n steps shallow in
      text-back rules g fit help steps (2 * n) (omega (arith, few)) shallow (omega (arith, moves, few)) (sound-none rules g fit sound) (taken-held 1 1 [] steps few parts.0 parts.1)

pub cert-back : (g : Played) (n : ℕ) (help : Bool) (steps : List Step) → HoldsIn g n steps → cert_of g.rules (story g) (lines_of (cert_text help steps)) ≡ Ok (record { steps = steps })
cert-back g n help steps holds =
    let sound = played-last-sound g holds.played in
    elim holds.holds [
      | inl h ↦ tree-back _ g.rules (story g) holds.played.fit n help steps holds.few sound h
      | inr h ↦ tree-back _ g.rules (story g) holds.played.fit n help steps holds.few sound (help-tree g.rules n (story g) steps h)
    ]
