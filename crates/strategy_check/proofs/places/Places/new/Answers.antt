use Rattle.std.proofs.Common.{◌+◌, List, ℕ, length, refl, sym, ap, subst, ◌∙◌, arith}
use Rattle.std.proofs.lemmas.Option.{slice_get_read}
use Rattle.strategy_check.specs.declared.places.Key.{Key}
use Rattle.strategy_check.specs.Buckets.{AreFilled, number_of, put}
use Rattle.strategy_check.proofs.BucketLemmas.{filled-none, filled-more}
use Rattle.strategy_check.proofs.places.Places.new.Goals as goal

pub loop-i-init : goal.loop-i-init
loop-i-init c = record {
  key = refl;
  filled =
      subst (λ (bs : List (List ℕ)). AreFilled c.args.by c.args.nodes.now 0 bs) (sym c.in_ok-empty_buckets.ensures)
      (filled-none c.args.by c.args.nodes.now c.max.result (omega arith));
}

pub put-requires : goal.put-requires
put-requires c = record { some = c.loop-i.invariant.filled.some }

pub loop-i-preserved : goal.loop-i-preserved
loop-i-preserved c =
    let s = c.args.nodes.now in
    let i = c.loop-i.i in
    let v = c.index-nodes-i.result in
    let bs = c.loop-i.places.buckets.items in
    let added = c.in_ok-put.ensures.put ∙ ap (λ (key : Key). put bs i (number_of key v.position)) c.loop-i.invariant.key in
    record {
      key = c.in_ok-put.ensures.key ∙ c.loop-i.invariant.key;
      filled =
          subst (λ (b : List (List ℕ)). AreFilled c.args.by s (i + 1) b) (sym added)
          (filled-more c.args.by s i v (slice_get_read s (length s) i v refl (omega arith) c.index-nodes-i.is) bs c.loop-i.invariant.filled);
    }
