-- Of the moves that are tried as the attacker's last: each that wins at once is one of them.
use Rattle.std.proofs.Common.{◌≡◌, Bool, true, false, not, Option, Some, None, List, [], ◌∷◌, ◌++◌, inl, refl, sym, ap, ◌∙◌, subst}
use Rattle.std.specs.Prelude.{IfSome, OnSome}
use Rattle.foundation.specs.Member.{Member, Lists}
use Rattle.foundation.specs.Tests.{is_nil}
use Rattle.rules_model.specs.declared.moves.Move.{Move}
use Rattle.rules_model.specs.declared.rules.Rules.{Rules}
use Rattle.rules_model.specs.Ends.{early_end, is_ongoing}
use Rattle.rules_model.specs.Legal.{gives_check, is_stuck, legal}
use Rattle.rules_model.specs.Next.{next, next_repeat}
use Rattle.rules_model.specs.Repeats.{repeat_of}
use Rattle.rules_model.specs.Sides.{same_side}
use Rattle.legality.specs.Stance.{Stance, legal_in, repeat_in}
use Rattle.square_set.proofs.Cases.{by_bool}
use Rattle.check_moves.specs.declared.checks.Checks.{Checks}
use Rattle.check_moves.specs.Listing.{AppendsChecks, ListsChecks}
use Rattle.mate_core.specs.declared.frame.Frame.{Frame}
use Rattle.mate_fact.specs.InFrame as In
use Rattle.mate_settle.specs.LastMoves.{only_checks_win}
use Rattle.mate_settle.specs.Refuters.{IsRefuter}
use Rattle.mate_settle.specs.Steps.{Decides}
use Rattle.mate_settle.specs.Tried.{AreTried, HoldsWins}
use Rattle.mate_settle.proofs.LastMoves.{met-loses, one-reply, quiet-loses}
use Rattle.mate_settle.proofs.Settled.{moves-of}

never : (b : Bool) → b ≡ true → b ≡ false → ⊥
never true e f = cc
never false e f = cc

module _ (f : Frame) (s : Stance) (ms : List Move) (same : s.rules ≡ f.rules) (attack : In.IsAttackIn f s.position) where
  of_all : Lists (λ m. Member m (legal s.rules (repeat_of s.position))) ms → HoldsWins f s.position ms
  of_all all = let those = moves-of f s ms same all in record { sound = those.sound; complete = λ m legal wins. those.complete m legal }

  of_checks : only_checks_win f.rules ≡ true → ListsChecks s ms → HoldsWins f s.position ms
  unfolding next
  of_checks only listed =
      let p = s.position in
      let Of : Rules → Type 0 = λ x. (m : Move) → Member m ms → Member m (legal x (repeat_of p)) in
      record {
        sound = subst Of same listed.sound;
        complete = λ m legal_move wins.
            let Legal : Rules → Type 0 = λ x. Member m (legal x (repeat_of p)) in
            let Quiet : Rules → Type 0 = λ x. gives_check x (repeat_of p) m ≡ false in
            let no_loss = never (In.near_in f 0 (next f.rules p m)) wins in
            listed.complete m (subst Legal (sym same) legal_move) (record {
              checks = by_bool (gives_check s.rules (repeat_of p) m) (gives_check s.rules (repeat_of p) m ≡ true)
                  (λ check. check)
                  (λ quiet. absurd (no_loss (quiet-loses f p m only attack.ongoing attack.turn (subst Quiet same quiet))));
              unmet = λ uncounted met.
                  let Leaves : Rules → Type 0 = λ x. is_ongoing (early_end x (next_repeat x (repeat_of p) m)) ≡ true → Member met.reply (legal x (next_repeat x (repeat_of p) m)) in
                  no_loss (met-loses f p m met.reply only (subst (λ (x : Rules). x.check_counting ≡ false) same uncounted) attack.turn (subst Leaves same met.legal));
            });
      }

  pub holds_wins : (o : Option Checks) → OnSome o (only_checks_win f.rules ≡ true) → AreTried s o ms → HoldsWins f s.position ms
  holds_wins None only tried = of_all tried
  holds_wins (Some checks) only tried = of_checks only tried

-- none of the legal moves wins, where none of those that hold the wins does
pub none_wins : (f : Frame) (s : Stance) (ms : List Move) → HoldsWins f s.position ms → ((m : Move) → Member m ms → In.near_in f 0 (next f.rules s.position m) ≡ false) → (m : Move) → Member m (In.legal_in f s.position) → In.near_in f 0 (next f.rules s.position m) ≡ false
none_wins f s ms holds none m legal =
    by_bool (In.near_in f 0 (next f.rules s.position m)) (In.near_in f 0 (next f.rules s.position m) ≡ false)
    (λ wins. none m (holds.complete m legal wins))
    (λ loses. loses)

-- a move that is one of them is legal
pub some_held : (f : Frame) (s : Stance) (ms : List Move) → HoldsWins f s.position ms → (o : Option Move) → IfSome o (λ m. Member m ms) → IfSome o (λ m. Member m (In.legal_in f s.position))
some_held f s ms holds None listed = listed
some_held f s ms holds (Some m) listed = holds.sound m listed

-- and decides, if it wins
pub some_decides : (f : Frame) (s : Stance) (ms : List Move) → HoldsWins f s.position ms → In.IsAttackIn f s.position → (o : Option Move) → IfSome o (λ m. Member m ms) → IfSome o (λ m. In.near_in f 0 (next f.rules s.position m) ≡ true) → IfSome o (Decides f s.position true 0)
some_decides f s ms holds attack None listed wins = listed
some_decides f s ms holds attack (Some m) listed wins = record { ongoing = attack.ongoing; turn = attack.turn; legal = holds.sound m listed; after = wins }

-- a position with such a reply is not won by one move
pub reply_refutes : (f : Frame) (s : Stance) (m : Move) → s.rules ≡ f.rules → same_side s.position.side f.attacker ≡ false → IsRefuter f s m → In.near_in f 1 s.position ≡ false
reply_refutes f s m same turn is =
    let Legal : Rules → Type 0 = λ x. Member m (legal x (repeat_of s.position)) in
    let Lost : Rules → Type 0 = λ x. In.near_in f 1 (next x s.position m) ≡ false in
    one-reply f s.position m is.ongoing turn (subst Legal same is.legal) (subst Lost same is.lost)

-- what was appended to nothing
pub checks_listed : (s : Stance) (old new : List Move) → old ≡ [] → AppendsChecks s old new → ListsChecks s new
checks_listed s old new e a = subst (ListsChecks s) (sym (a.is ∙ ap (λ l. l ++ a.added) e)) a.each

-- they are legal
pub tried_legal : (s : Stance) (o : Option Checks) (ms : List Move) → AreTried s o ms → (m : Move) → Member m ms → Member m (legal_in s)
tried_legal s None ms tried m h = tried.sound m h
tried_legal s (Some checks) ms tried m h = tried.sound m h

not_nil : (legal : List Move) (m : Move) → Member m legal → is_nil legal ≡ false
not_nil [] m h = absurd h
not_nil (x ∷ legal) m h = refl

-- where there are some, the position is not stuck
pub some_not_stuck : (s : Stance) (ms : List Move) → ((m : Move) → Member m ms → Member m (legal_in s)) → is_nil ms ≡ false → true ≡ not (is_stuck s.rules (repeat_in s))
unfolding is_stuck
some_not_stuck s [] sound e = cc
some_not_stuck s (m ∷ ms) sound e = sym (ap not (not_nil (legal_in s) m (sound m (inl refl))))
