-- What is told of one depth after another.
use Rattle.std.proofs.Common.{◌≡◌, ℕ, ◌+◌, List, [], ◌∷◌, ◌++◌, map, length, Option, Some, refl, sym, ap, subst, ◌∙◌}
use Rattle.std.proofs.lemmas.List.{append-nil, map-append}
use Rattle.io_ports.specs.declared.dialect.Dialect.{Dialect}
use Rattle.rules_model.specs.declared.rules.Rules.{Rules}
use Rattle.watching.specs.EventLaws.{listens_silent, listens_unstopped}
use Rattle.watching.specs.Events.{Event, Listens, said}
use Rattle.session_model.proofs.Joined.{clock_left, clocked_append, clocked_listens, said-append, unstopped_more}
use Rattle.session_model.proofs.Reports.{depth_lines-append, post_lines-append}
use Rattle.session_model.specs.Events.{clocked}
use Rattle.session_model.specs.Thinking.{Report}
use Rattle.thinking.specs.declared.style.Style.{Style}
use Rattle.thinking.specs.declared.style.Style.TheVariants as style
use Rattle.thinking.specs.Tells.{AreClocked, Tells, lines_by}
use Rattle.thinking.proofs.RanLaws.{told, said_says, unstopped_says}

pub lines_by-append : (style : Style) (rules : Rules) (first depth : ℕ) (a b : List Report)
    → lines_by style rules first depth (a ++ b) ≡ lines_by style rules first depth a ++ lines_by style rules first (depth + length a) b
lines_by-append style.Uci rules first depth a b = depth_lines-append rules depth a b
lines_by-append style.Post rules first depth a b = post_lines-append first depth a b
lines_by-append style.Silent rules first depth a b = refl

abbrev times_of : List Report → List (Option ℕ)
times_of reports = map (λ report. Some report.clock) reports

-- ---- clocks

clocked_more : (style : Style) (a b : List Event) (reports more : List Report) → AreClocked style a reports
    → AreClocked style b more → AreClocked style (a ++ b) (reports ++ more)
clocked_more style.Uci a b reports more p q = tt
clocked_more style.Post a b reports more p q = λ last.
    clocked_append last a b ∙ ap (λ l. l ++ clocked (clock_left last a) b) (p last)
    ∙ ap (λ l. times_of reports ++ l) (q (clock_left last a)) ∙ sym (map-append (λ (report : Report). Some report.clock) reports more)
clocked_more style.Silent a b reports more p q = tt

then_clocked : (dialect : Dialect) (style : Style) (a b : List Event) (reports : List Report) → Listens dialect a
    → AreClocked style b reports → AreClocked style (a ++ b) reports
then_clocked dialect style.Uci a b reports p q = tt
then_clocked dialect style.Post a b reports p q = λ last.
    clocked_append last a b ∙ ap (λ l. l ++ clocked (clock_left last a) b) (clocked_listens dialect last a p)
    ∙ q (clock_left last a)
then_clocked dialect style.Silent a b reports p q = tt

no_clocks : (style : Style) → AreClocked style [] []
unfolding clocked
no_clocks style.Uci = tt
no_clocks style.Post = λ last. refl
no_clocks style.Silent = tt

no_lines : (style : Style) (rules : Rules) (first depth : ℕ) → [] ≡ lines_by style rules first depth []
no_lines style.Uci rules first depth = refl
no_lines style.Post rules first depth = refl
no_lines style.Silent rules first depth = refl

-- ---- what is told

module _ (dialect : Dialect) (style : Style) (rules : Rules) (first : ℕ) where
  pub tells_none : (depth : ℕ) → Tells dialect style rules first depth [] []
  tells_none depth = record { unstopped = tt; lines_are = no_lines style rules first depth; clocks_are = no_clocks style }

  -- the lines of reports, and then those of later ones
  pub tells_more : (a b : List Event) (depth depth' : ℕ) (reports more : List Report) → Tells dialect style rules first depth reports a
      → Tells dialect style rules first depth' more b → depth' ≡ depth + length reports
      → Tells dialect style rules first depth (reports ++ more) (a ++ b)
  tells_more a b depth depth' reports more p q e = record {
    unstopped = unstopped_more dialect a b p.unstopped q.unstopped;
    lines_are = said-append a b ∙ ap (λ l. l ++ said b) p.lines_are
        ∙ ap (λ l. lines_by style rules first depth reports ++ l) (q.lines_are ∙ ap (λ d. lines_by style rules first d more) e)
        ∙ sym (lines_by-append style rules first depth reports more);
    clocks_are = clocked_more style a b reports more p.clocks_are q.clocks_are;
  }

  -- a search that told nothing came before
  pub listens_tells : (a b : List Event) (depth : ℕ) (reports : List Report) → Listens dialect a
      → Tells dialect style rules first depth reports b → Tells dialect style rules first depth reports (a ++ b)
  listens_tells a b depth reports p q = record {
    unstopped = unstopped_more dialect a b (listens_unstopped dialect a p) q.unstopped;
    lines_are = said-append a b ∙ ap (λ l. l ++ said b) (listens_silent dialect a p) ∙ q.lines_are;
    clocks_are = then_clocked dialect style a b reports p q.clocks_are;
  }

  -- nothing but a search
  pub listens_none : (a : List Event) (depth : ℕ) → Listens dialect a → Tells dialect style rules first depth [] a
  listens_none a depth p = subst (λ l. Tells dialect style rules first depth [] l) (append-nil a) (listens_tells a [] depth [] p (tells_none depth))

-- the lines of one report
pub tells_told : (dialect : Dialect) (style : Style) (rules : Rules) (first depth : ℕ) (report : Report)
    → Tells dialect style rules first depth (report ∷ []) (told style report.clock (lines_by style rules first depth (report ∷ [])))
unfolding clocked
tells_told dialect style.Uci rules first depth report = record {
  unstopped = unstopped_says dialect (lines_by style.Uci rules first depth (report ∷ []));
  lines_are = said_says (lines_by style.Uci rules first depth (report ∷ []));
  clocks_are = tt;
}
tells_told dialect style.Post rules first depth report = record {
  unstopped = (tt, (tt, tt));
  lines_are = refl;
  clocks_are = λ last. refl;
}
tells_told dialect style.Silent rules first depth report = record { unstopped = tt; lines_are = refl; clocks_are = tt }
