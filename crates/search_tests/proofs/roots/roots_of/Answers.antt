use Rattle.std.proofs.Common.{◌∙◌, ap, subst, sym}
use Rattle.std.specs.List.{All}
use Rattle.std.proofs.lemmas.List.Elements.{Contains-get_or}
use Rattle.foundation.specs.Member.{Member}
use Rattle.foundation.proofs.Members.{member-contains}
use Rattle.game_line.specs.Lined.{legal_in}
use Rattle.legality.specs.Stance as Stance
use Rattle.search_tests.proofs.roots.roots_of.Goals as goal

pub returns : goal.returns
returns c =
    let legal = legal_in c.args.line.now in
    subst (All (λ m. Member m legal)) (sym (c.in_ok-roots.ensures ∙ ap Stance.legal_in c.board.ensures))
    (λ k d low. member-contains _ legal (Contains-get_or legal k d low))
