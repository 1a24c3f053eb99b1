-- Answers of whole solves.
use Rattle.std.proofs.Common.{◌≡◌, ◌⊎◌, inl, inr, ℕ, zero, suc, ◌+◌, ◌*◌, ◌<◌, ◌≤◌, List, [], Some, None, refl, sym, subst, arith}
use Rattle.io_ports.specs.declared.dialect.Dialect.{Dialect}
use Rattle.io_ports.specs.declared.limits.Limits.{Limits}
use Rattle.io_ports.specs.declared.limits.SearchFault.{SearchFault}
use Rattle.io_ports.specs.declared.limits.SearchFault.TheVariants as fault
use Rattle.io_ports.specs.declared.limits.Stopped.TheVariants as stopped
use Rattle.rules_model.specs.declared.rules.Rules.{Rules}
use Rattle.rules_model.specs.Games.{Story}
use Rattle.game_play.specs.Played.{Played, story}
use Rattle.evaluation.specs.Bounds.{solve_bound}
use Rattle.evaluation.specs.Values.{play}
use Rattle.evaluation.proofs.TreeLaws.{tree-some}
use Rattle.watching.specs.declared.halt.Cut.TheVariants as cut
use Rattle.watching.specs.CallerLaws.{gone_none, ended_memory}
use Rattle.watching.specs.LookLaws.{looked_none}
use Rattle.watching.specs.Stopping.{Fails}
use Rattle.watching.specs.Watched.{World, moment, Gone}
use Rattle.mate_search.specs.declared.answer.Mate.{Mate}
use Rattle.mate_search.specs.declared.answer.Mate.TheVariants as mate
use Rattle.mate_search.specs.Solves.{Heard, IsAnswer, bound_of, mate_of}
use Rattle.mate_showing.specs.declared.answer.Settled.{Settled}
use Rattle.mate_showing.specs.declared.answer.Settled.TheVariants as settled

product-some : (a b : ℕ) → 1 ≤ b → 0 < 4 * (a + 1) * b
product-some a zero h = elim h [ ]
product-some a (suc b) h = omega arith

bound-some : (rules : Rules) (n : ℕ) (g : Story) → 0 < solve_bound rules n g
unfolding solve_bound
bound-some rules n g = product-some n _ (tree-some (play rules) (2 * n + 1) g)

-- an answer that nothing cut
pub answers-uncut : (text : List ℕ) (s : Settled) → IsAnswer None text (mate_of s)
answers-uncut text (settled.Shown s) = tt
answers-uncut text settled.NoMate = tt
answers-uncut text (settled.Unsettled x counters) = tt

module _ {S K C : Type 0} (w : World S K C) (dialect : Dialect) (limits : Limits) (s : S) (k : K) (c : C) where
  -- with a quota of 0 nothing is entered
  gone-unsearched : (bound : ℕ) → 0 < bound → limits.quota ≡ Some 0
      → Gone w dialect limits (moment s k c 0) (moment s k c 0) [] bound (Some (cut.Quota 0))
  gone-unsearched bound some is = record {
    looked = looked_none dialect s k c (w.owed s) limits 0 0 bound [] (Some (cut.Quota 0)) refl (omega arith) (is, omega arith, omega arith);
    later = record { source_later = omega arith; sink_later = omega arith };
    end = λ e. absurd (cc);
  }

  heard-unsearched : (game : Played) (n : ℕ) → limits.quota ≡ Some 0
      → Heard w dialect limits (moment s k c 0) s k c (bound_of game n) (mate.Stopped (stopped.Quota 0))
  heard-unsearched game n is = record {
    entered = 0;
    text = [];
    why = Some (cut.Quota 0);
    gone = gone-unsearched (bound_of game n) (bound-some game.rules n (story game)) is;
    answers = refl;
  }

  -- where the shards alone were asked
  pub heard-looked : (game : Played) (n : ℕ) (answer : Mate) → limits.quota ≡ Some 0
      → (answer ≡ mate.NoMate) ⊎ (answer ≡ mate.Stopped (stopped.Quota 0))
      → Heard w dialect limits (moment s k c 0) s k c (bound_of game n) answer
  heard-looked game n answer is either =
      let a = moment s k c 0 in
      let at : Mate → Type 0 = λ m. Heard w dialect limits a s k c (bound_of game n) m in
      elim either [
        | inl e ↦ subst at (sym e) (record { entered = 0; text = []; why = None; gone = gone_none w dialect limits a (bound_of game n) []; answers = tt })
        | inr e ↦ subst at (sym e) (heard-unsearched game n is)
      ]

  -- no memory was found before the first node
  pub fails-memory : (bound : ℕ) (why : SearchFault) → why ≡ fault.Memory
      → Fails w dialect (moment s k c 0) s k c bound why
  fails-memory bound why e =
      let a = moment s k c 0 in
      subst (λ (f : SearchFault). Fails w dialect a s k c bound f) (sym e)
      (record { entered = 0; failed = ended_memory w dialect limits a a [] bound (gone_none w dialect limits a bound []) })
