-- What a search or a solve leaves, over the watch of the session or before there is one.
use Rattle.std.proofs.Common.{◌≡◌, ℕ, List, Ok, Err, OnOk, IsErrAnd, IsErrOf, sym, ◌∙◌, subst}
use Rattle.std.specs.declared.result.Result.{Result}
use Rattle.io_ports.specs.declared.dialect.Dialect.{Dialect}
use Rattle.io_ports.specs.declared.limits.Limits.{Limits}
use Rattle.io_ports.specs.declared.limits.SearchFault.TheVariants as fault
use Rattle.watching.specs.declared.caller.Caller.{Caller}
use Rattle.watching.specs.declared.halt.Halt.{Halt}
use Rattle.watching.specs.declared.halt.Halt.TheVariants as halt
use Rattle.watching.specs.CallerLaws.{Goes, Stops, gone_none, ended_memory, now_of}
use Rattle.watching.specs.LookLaws.{on_ok_of}
use Rattle.watching.specs.Stopping.{Partly}
use Rattle.watching.specs.Watched.{World, moment, Ended}

module _ {T S K C : Type 0} (w : World S K C) where
  -- what the watch says of itself
  pub sought_of : (a b : Caller S K C) (bound : ℕ) (r : Result T Halt) → OnOk r (Goes w a b bound)
      → ((why : Halt) → IsErrOf r why → Stops w a b bound why)
      → Partly w a.dialect a.limits (now_of a) b.source.now b.sink.now b.clock.now b.line.now bound r
  sought_of a b bound r gone ended = record {
    entered = b.nodes;
    watched = record { gone = on_ok_of r gone (λ went. went.gone); ended = λ why is. (ended why is).ended };
  }

  -- it found no memory before it began
  pub sought_memory : (dialect : Dialect) (limits : Limits) (s : S) (k : K) (c : C) (text : List ℕ) (bound : ℕ)
      (r : Result T Halt) → IsErrAnd r (λ e. e ≡ halt.Fault fault.Memory)
      → Partly w dialect limits (moment s k c 0) s k c text bound r
  sought_memory dialect limits s k c text bound (Ok x) memory = absurd memory
  sought_memory dialect limits s k c text bound (Err why) memory = record {
    entered = 0;
    watched = record {
      gone = tt;
      ended = λ e is.
          let same : why ≡ e = cc in
          let a = moment s k c 0 in
          subst (λ (h : Halt). Ended w dialect limits a a text bound h) (sym memory ∙ same)
          (ended_memory w dialect limits a a text bound (gone_none w dialect limits a bound text));
    };
  }
