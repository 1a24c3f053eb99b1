use Rattle.forced_wins.proofs.ClaimLaws as C
use Rattle.forced_wins.proofs.any_game.derived_claims_hold.Goals as goal

pub returns : goal.returns
returns g c = λ r l b p. record {
  won_now = λ d. C.won_now r l b p d;
  by_move = λ m k is legal after. C.by_move r l b p m k after.counter is.ongoing is.turn legal after.covers after.won;
  by_all = λ n is each. C.by_all r l b p n is.ongoing is.turn (λ m legal. let (k, low, after) = each m legal in (k, after.counter, low, after.covers, after.won));
  refuted_now = λ n. C.refuted_now r l b p n;
  refuted_zero = λ is. C.refuted_zero r l b p is.ongoing is.turn;
  refuted_by_all = λ n is each. C.refuted_by_all r l b p n is.ongoing is.turn (λ m legal. let (k, low, after) = each m legal in (k, after.counter, low, after.covers, after.refuted));
  refuted_by_move = λ m n is legal after. C.refuted_by_move r l b p m n after.counter is.ongoing is.turn legal after.covers after.refuted;
}
