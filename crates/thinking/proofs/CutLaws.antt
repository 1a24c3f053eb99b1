-- What cuts one part after another, and what it says in a session.
use Rattle.std.proofs.Common.{◌≡◌, ℕ, ◌+◌, ◌-◌, ◌≤◌, ◌<◌, List, [], ◌∷◌, ◌++◌, Option, Some, None, sym, subst, inl, arith}
use Rattle.std.specs.Option.{option_map}
use Rattle.io_ports.specs.declared.dialect.Dialect.{Dialect}
use Rattle.io_ports.specs.declared.limits.Limits.{Limits}
use Rattle.io_ports.specs.Lines.{Line}
use Rattle.io_ports.specs.Owing.{Lacks, Spends}
use Rattle.io_ports.specs.Source.{Owed, Untold}
use Rattle.io_ports.proofs.Owing.{lacks_before, lacks_wider}
use Rattle.watching.specs.declared.halt.Cut.{Cut}
use Rattle.watching.specs.declared.halt.Cut.TheVariants as cut
use Rattle.watching.specs.Looks as Looks
use Rattle.session_model.proofs.Joined.{reached_before, reached_behind}
use Rattle.session_model.specs.Deadlines.{IsReached, deadline_of}
use Rattle.session_model.specs.Events.{IsStopped}
use Rattle.session_model.specs.Thinking.{IsShort, MayCut}
use Rattle.session_model.specs.Lines.{Follows}
use Rattle.thinking.specs.Cuts.{CutsBy, cause_of}

-- what is left of a share is short, and so is the share
pub quota_short : (share : Option ℕ) (entered before bound : ℕ) → entered ≤ before → 0 < bound
    → IsShort (option_map (λ number. number - entered) share) bound → IsShort share (before + bound)
quota_short None entered before bound le some short = short
quota_short (Some number) entered before bound le some short = omega arith

short_wider : (share : Option ℕ) (m n : ℕ) → m ≤ n → IsShort share m → IsShort share n
short_wider None m n le short = short
short_wider (Some number) m n le short = omega arith

reached_last : (deadline : Option ℕ) (reading : ℕ) → Looks.IsReached deadline reading → IsReached deadline (reading ∷ [])
reached_last None reading h = h
reached_last (Some deadline) reading h = inl h

-- what cut a watch
pub cuts_of_watch : (dialect : Dialect) (why : Cut) (owed : Owed) (bound : ℕ) (limits : Limits) (reach nodes : ℕ) (taken text : List ℕ)
    → Looks.MayCut dialect owed bound limits reach nodes taken text (Some why)
    → CutsBy dialect owed bound limits.quota limits.deadline reach taken text why
cuts_of_watch dialect cut.Line owed bound limits reach nodes taken text may = may
cuts_of_watch dialect cut.End owed bound limits reach nodes taken text may = may
cuts_of_watch dialect (cut.Quota quota) owed bound limits reach nodes taken text may =
    subst (λ (share : Option ℕ). IsShort share reach) (sym may.0) may.1
cuts_of_watch dialect (cut.Deadline reading) owed bound limits reach nodes taken text may =
    subst (λ (l : List ℕ). IsReached limits.deadline l) (sym may.1.1)
    (reached_behind limits.deadline may.1.0 (reading ∷ []) (reached_last limits.deadline reading may.0))

-- after a part that was not cut, in which so many nodes were taken off the share
pub cuts_after : (dialect : Dialect) (why : Cut) (o o' : Owed) (m n : ℕ) (share deadline : Option ℕ) (entered before reach : ℕ) (first taken text : List ℕ)
    → Spends o o' m → entered ≤ before → 0 < reach
    → CutsBy dialect o' n (option_map (λ number. number - entered) share) deadline reach taken text why
    → CutsBy dialect o (m + n) share deadline (before + reach) (first ++ taken) text why
cuts_after dialect cut.Line o o' m n share deadline entered before reach first taken text spends le some may =
    (lacks_before o o' m n spends may.0, may.1)
cuts_after dialect cut.End o o' m n share deadline entered before reach first taken text spends le some may =
    lacks_before o o' m n spends may
cuts_after dialect (cut.Quota quota) o o' m n share deadline entered before reach first taken text spends le some may =
    quota_short share entered before reach le some may
cuts_after dialect (cut.Deadline reading) o o' m n share deadline entered before reach first taken text spends le some may =
    reached_behind deadline first taken may

-- after a part that was not cut, where the share stays whole
pub cuts_later : (dialect : Dialect) (why : Cut) (o o' : Owed) (m n : ℕ) (share deadline : Option ℕ) (reach : ℕ) (first taken text : List ℕ)
    → Spends o o' m → CutsBy dialect o' n share deadline reach taken text why
    → CutsBy dialect o (m + n) share deadline reach (first ++ taken) text why
cuts_later dialect cut.Line o o' m n share deadline reach first taken text spends may = (lacks_before o o' m n spends may.0, may.1)
cuts_later dialect cut.End o o' m n share deadline reach first taken text spends may = lacks_before o o' m n spends may
cuts_later dialect (cut.Quota quota) o o' m n share deadline reach first taken text spends may = may
cuts_later dialect (cut.Deadline reading) o o' m n share deadline reach first taken text spends may = reached_behind deadline first taken may

pub cuts_wider : (dialect : Dialect) (why : Cut) (o : Owed) (m n : ℕ) (share deadline : Option ℕ) (reach reach' : ℕ) (taken text : List ℕ)
    → m ≤ n → reach ≤ reach' → CutsBy dialect o m share deadline reach taken text why
    → CutsBy dialect o n share deadline reach' taken text why
cuts_wider dialect cut.Line o m n share deadline reach reach' taken text le le' may = (lacks_wider o m n may.0 le, may.1)
cuts_wider dialect cut.End o m n share deadline reach reach' taken text le le' may = lacks_wider o m n may le
cuts_wider dialect (cut.Quota quota) o m n share deadline reach reach' taken text le le' may = short_wider share reach reach' le' may
cuts_wider dialect (cut.Deadline reading) o m n share deadline reach reach' taken text le le' may = may

-- readings were taken after it
pub cuts_more : (dialect : Dialect) (why : Cut) (o : Owed) (bound : ℕ) (share deadline : Option ℕ) (reach : ℕ) (taken more text : List ℕ)
    → CutsBy dialect o bound share deadline reach taken text why → CutsBy dialect o bound share deadline reach (taken ++ more) text why
cuts_more dialect cut.Line o bound share deadline reach taken more text may = may
cuts_more dialect cut.End o bound share deadline reach taken more text may = may
cuts_more dialect (cut.Quota quota) o bound share deadline reach taken more text may = may
cuts_more dialect (cut.Deadline reading) o bound share deadline reach taken more text may = reached_before deadline taken more may

-- where the polls owed are not told
pub cuts_untold : (dialect : Dialect) (why : Cut) (o : Owed) (m n : ℕ) (share deadline : Option ℕ) (reach : ℕ) (taken text : List ℕ)
    → CutsBy dialect o m share deadline reach taken text why → CutsBy dialect Untold n share deadline reach taken text why
cuts_untold dialect cut.Line o m n share deadline reach taken text may = (tt, may.1)
cuts_untold dialect cut.End o m n share deadline reach taken text may = tt
cuts_untold dialect (cut.Quota quota) o m n share deadline reach taken text may = may
cuts_untold dialect (cut.Deadline reading) o m n share deadline reach taken text may = may

-- what it says in a session, whose first reading was taken before
pub cuts_as : (dialect : Dialect) (why : Cut) (owed : Owed) (bound : ℕ) (share time deadline : Option ℕ) (reach first : ℕ) (taken text : List ℕ) (following : List Line)
    → ((more : List ℕ) → deadline ≡ deadline_of time (first ∷ more)) → Follows (Some why) text following
    → CutsBy dialect owed bound share deadline reach taken text why
    → MayCut dialect (Lacks owed bound) share time reach (first ∷ taken) following (cause_of why)
cuts_as dialect cut.Line owed bound share time deadline reach first taken text following start follows may =
    (may.0, subst (λ (lines : List Line). IsStopped dialect lines) (sym follows.1) may.1)
cuts_as dialect cut.End owed bound share time deadline reach first taken text following start follows may =
    (may, subst (λ (lines : List Line). IsStopped dialect lines) (sym follows) tt)
cuts_as dialect (cut.Quota quota) owed bound share time deadline reach first taken text following start follows may = may
cuts_as dialect (cut.Deadline reading) owed bound share time deadline reach first taken text following start follows may =
    subst (λ (d : Option ℕ). IsReached d (first ∷ taken)) (start taken) (reached_behind deadline (first ∷ []) taken may)
