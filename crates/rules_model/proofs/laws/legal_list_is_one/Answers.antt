use Rattle.rules_model.proofs.LegalLaws.{legal-sorted, legal-once, legal-member, member-legal, moves-unique}
use Rattle.rules_model.proofs.laws.legal_list_is_one.Goals as goal

pub returns : goal.returns
returns c = record {
  ordered = legal-sorted;
  once = legal-once;
  members = λ rules r m. (legal-member rules r m, λ h. member-legal rules r m h.0 h.1);
  one = λ xs ys s t same. moves-unique xs ys s t (λ m. (same m).0) (λ m. (same m).1);
}
