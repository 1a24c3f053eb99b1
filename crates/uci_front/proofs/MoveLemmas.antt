-- Moves that are played by their words, one after another.
use Rattle.std.proofs.Common.{◌≡◌, ◌∙◌, ℕ, zero, suc, ◌+◌, ◌≤◌, ◌<◌, Bool, true, false, List, [], ◌∷◌, length, drop, get_or, Option, Some, None, refl, sym, ap, subst, arith}
use Rattle.std.specs.Prelude.{Result, Ok, Err, if◌then◌else◌, nat_lt}
use Rattle.std.specs.Borrow.{Bor}
use Rattle.std.proofs.lemmas.List.{drop_all}
use Rattle.fen_model.specs.Reading.{fen_of}
use Rattle.rules_model.specs.declared.board.Position.{Position}
use Rattle.rules_model.specs.declared.moves.Move.{Move}
use Rattle.rules_model.specs.declared.rules.Rules.{Rules}
use Rattle.game_play.specs.Played.{Played, longer}
use Rattle.game_text.specs.GameText.{started}
use Rattle.game_text.specs.declared.fault.GameFault.{GameFault}
use Rattle.game_text.specs.declared.fault.GameFault.TheVariants.{TooManyMoves}
use Rattle.game_text.specs.declared.unmade.Unmade.TheVariants.{Faulty, Unread, Memory}
use Rattle.game_text.specs.Playing.{and_then, goes_on, most_plies, move_of, play, play_all}
use Rattle.game_text.specs.ReadView.{NoGame, Plays}
use Rattle.session_model.specs.UciLines.{Fen, Startpos}
use Rattle.session_model.specs.UciState.{State, Outcome, after_moves, from_position, move_fault, place, with_game}
use Rattle.uci_lines.specs.View.{texts}
use Rattle.uci_front.specs.declared.refusal.Refusal.{Refusal}
use Rattle.uci_front.specs.declared.refusal.Refusal.TheVariants.{Fault, Memory as Out}
use Rattle.uci_front.specs.Outcomes.{IsOutcome, Leads, Refuses}

drop_suc : {X : Type 0} (xs : List X) (i : ℕ) (d : X) → i < length xs → drop i xs ≡ get_or xs i d ∷ drop (suc i) xs
drop_suc [] i d below = absurd (omega (arith, below))
drop_suc (x ∷ xs) zero d below = refl
drop_suc (x ∷ xs) (suc i) d below = drop_suc xs i d (omega (arith, below))

drop_here : {X : Type 0} (xs : List X) (i : ℕ) (d : X) → i < length xs → drop i xs ≡ get_or xs i d ∷ drop (i + 1) xs
drop_here xs i d below =
    let next : suc i ≡ i + 1 = omega arith in drop_suc xs i d below ∙ ap (λ n. get_or xs i d ∷ drop n xs) next

module _ (words : List (Bor (List ℕ))) (said : Result Played GameFault) where
  -- what is said of the words is what is said of those from this place on
  abbrev pub Goes : Played → ℕ → Type 0
  Goes game i = said ≡ play_all game (texts (drop i words))

  next_word : (game : Played) (i : ℕ) (d : Bor (List ℕ)) → i < length words → Goes game i
      → said ≡ and_then (play game (get_or words i d).now) (λ h. play_all h (texts (drop (i + 1) words)))
  unfolding play_all
  next_word game i d below goes = goes ∙ ap (λ ws. play_all game (texts ws)) (drop_here words i d below)

  pub word_played : (game after : Played) (i : ℕ) (d : Bor (List ℕ)) → i < length words → Goes game i
      → play game (get_or words i d).now ≡ Ok after → Goes after (i + 1)
  word_played game after i d below goes played =
      next_word game i d below goes ∙ ap (λ p. and_then p (λ h. play_all h (texts (drop (i + 1) words)))) played

  pub word_refused : (A : Type 0) (game after now : Played) (i : ℕ) (d : Bor (List ℕ)) (why : NoGame) → i < length words
      → Goes game i → Plays {A = A} (play game (get_or words i d).now) after (Err why) → Plays {A = A} said now (Err why)
  word_refused A game after now i d (Faulty fault) below goes refused =
      next_word game i d below goes ∙ ap (λ p. and_then p (λ h. play_all h (texts (drop (i + 1) words)))) refused
  word_refused A game after now i d Unread below goes refused = refused
  word_refused A game after now i d Memory below goes refused = tt

  pub words_played : (game : Played) (i : ℕ) → length words ≤ i → Goes game i → said ≡ Ok game
  unfolding play_all
  words_played game i all goes = goes ∙ ap (λ ws. play_all game (texts ws)) (drop_all i words all)

-- ---- the rules of a game

keeps_rules : (g after : Played) (text : List ℕ) → play g text ≡ Ok after → after.rules ≡ g.rules
unfolding play
keeps_rules g after text = by_move (move_of g text)
  where
    by_move : (m : Option Move) → goes_on g text m ≡ Ok after → after.rules ≡ g.rules
    by_move None h = cc
    by_move (Some m) h = by_room (nat_lt (length g.moves) most_plies) h
      where
        by_room : (b : Bool) → (if b then Ok (longer g m) else Err TooManyMoves) ≡ Ok after → after.rules ≡ g.rules
        by_room true h = let same : after ≡ longer g m = cc in ap (λ (g : Played). g.rules) same
        by_room false h = cc

-- moves keep the rules
pub rules_kept : (texts : List (List ℕ)) (g after : Played) → play_all g texts ≡ Ok after → after.rules ≡ g.rules
unfolding play_all
rules_kept [] g after h = let same : after ≡ g = cc in ap (λ (g : Played). g.rules) same
rules_kept (text ∷ texts) g after h = by_first (play g text) refl (rules_kept texts) h
  where
    by_first : (first : Result Played GameFault) → play g text ≡ first
        → ((g after : Played) → play_all g texts ≡ Ok after → after.rules ≡ g.rules)
        → and_then first (λ h. play_all h texts) ≡ Ok after → after.rules ≡ g.rules
    by_first (Ok next) is later h = later next after h ∙ keeps_rules g next text is
    by_first (Err fault) is later h = cc

-- ---- what is placed

pub start_placed : (state : State) (rules : Rules) (texts : List (List ℕ)) (result : Result Played Refusal) → state.game.rules ≡ rules
    → Leads state (after_moves state (play_all (started rules rules.start) texts)) result
    → Leads state (place state (Startpos texts)) result
unfolding place
start_placed state rules texts result same leads =
    subst (λ (r : Rules). Leads state (after_moves state (play_all (started r r.start) texts)) result) (sym same) leads

pub fen_placed : (state : State) (rules : Rules) (text : List ℕ) (texts : List (List ℕ)) (start : Position)
    (result : Result Played Refusal) → state.game.rules ≡ rules → fen_of rules text ≡ Ok start
    → Leads state (after_moves state (play_all (started rules start) texts)) result
    → Leads state (place state (Fen text texts)) result
unfolding place
fen_placed state rules text texts start result same is leads =
    subst (λ (r : Rules). Leads state (from_position state (fen_of r text) texts) result) (sym same)
    (subst (λ p. Leads state (from_position state p texts) result) (sym is)
    (subst (λ (r : Rules). Leads state (after_moves state (play_all (started r start) texts)) result) (sym same) leads))

-- the game that is placed is what the line sets, or its fault is
pub placed_outcome : (state : State) (said : Outcome) (now : State) (game : Played) → Leads state said (Ok game)
    → now ≡ with_game state game → (A : Type 0) (x : A) → IsOutcome {A = A} said now (Ok x)
placed_outcome state said now game leads is A x = leads ∙ ap (λ s. Ok s) (sym is)

pub placed_fault : (state : State) (said : Outcome) (now : State) (why : Refusal) → Leads state said (Err why)
    → (A : Type 0) → IsOutcome {A = A} said now (Err why)
placed_fault state said now (Fault text) leads A = leads
placed_fault state said now Out leads A = tt

pub plays_fault : (A : Type 0) (said : Result Played GameFault) (now : Played) (why : NoGame) (fault : GameFault) → why ≡ Faulty fault → Plays {A = A} said now (Err why) → said ≡ Err fault
plays_fault A said now why fault e h = subst (λ w. Plays {A = A} said now (Err w)) e h

-- moves that are refused lead to the words of their fault
pub leads_to_fault : (state : State) (said : Result Played GameFault) (fault : GameFault) (refusal : Refusal) → said ≡ Err fault → Refuses (move_fault fault) refusal → Leads state (after_moves state said) (Err refusal)
leads_to_fault state said fault (Fault text) e f = ap (after_moves state) e ∙ ap Err (sym f)
leads_to_fault state said fault Out e f = tt
