use Rattle.move_text.proofs.KeyLaws.{keys_ordered}
use Rattle.move_text.proofs.order.keys_are_in_the_order_of_texts.Goals as goal

pub returns : goal.returns
returns c = keys_ordered
