use Rattle.std.proofs.Common.{rules, ap, subst, sym, ◌∙◌}
use Rattle.std.specs.Prelude.{◌≡◌, List, [], ◌++◌}
use Rattle.foundation.specs.Member.{Appends, Lists, Member}
use Rattle.rules_model.specs.declared.moves.Move.{Move}
use Rattle.legality.specs.Stance.{legal_in}
use Rattle.playing.proofs.board.Board.list_legal.Goals as goal

-- what is appended to no list is the whole list
appended-all : (P : Move → Type 0) (old new : List Move) → old ≡ [] → Appends P old new → Lists P new
appended-all P old new e a = subst (Lists P) (sym (a.is ∙ ap (λ ms. ms ++ a.added) e)) a.each

pub returns : goal.returns
returns c = appended-all (λ m. Member m (legal_in c.args.self.now)) _ c.push_legal.new.out (search rules) c.in_ok-push_legal.ensures.ok
