use Rattle.std.proofs.Common.{◌∷◌, [], ◌+◌, ◌/◌, ◌%◌, append_assoc}
use Rattle.std.specs.Fmt.{decimal}
use Rattle.strategy.proofs.WriteLemmas.{one_digit, more_digits}
use Rattle.strategy.proofs.writing.+push_number.Goals as goal
use Rattle.strategy.proofs.writing.+push_number.Goals.{then-n-ge10+in_ok-push_number, else-n-ge10}

pub returns : goal.returns
returns t c =
    elim c.if-n-ge10.branch [
      | then-n-ge10+in_ok-push_number w ↦
          let is = more_digits c.args.n w.if-n-ge10.true c.ranges.n.fits in
          let join = append_assoc c.args.text.now.items (decimal (c.args.n / 10)) ((48 + c.args.n % 10) ∷ []) in
          cc (is, join, w.text-is, w.in_ok-push_number.ensures, c.in_ok-push.ensures.items)
      | else-n-ge10 w ↦ let is = one_digit c.args.n w.if-n-ge10.false in cc (is, w.text-is, c.in_ok-push.ensures.items)
    ]
