use Rattle.std.proofs.Common.{◌≡◌, ℕ, Bool, true, false, List, Option, Some, None, map, refl, sym, ap, ◌∙◌}
use Rattle.std.specs.List.{find}
use Rattle.std.specs.Bool.{then_some}
use Rattle.std.specs.Option.{option_map, option_copied}
use Rattle.std.specs.Str.{bytes_eq}
use Rattle.std.specs.Borrow.{Bor}
use Rattle.variant_options.specs.declared.value.ValueKind.{ValueKind}
use Rattle.variant_options.specs.declared.value.ValueKind.TheVariants as kind
use Rattle.variant_options.specs.Options.{OptionRow, options, option_kind, kind_from, is_mobility_key}
use Rattle.variant_options.specs.OptionView.{row_view, row_of}
use Rattle.variant_options.proofs.FindLemmas.{find-map}
use Rattle.variant_options.proofs.options.option_kind.Goals as goal

abbrev Row : Type 0
Row = Bor (List ℕ) × ValueKind

-- what the code finds is what the definition finds
same-row : (rows : List Row) (key : List ℕ) → map row_view rows ≡ map row_of options → option_map row_view (find (λ row. bytes_eq (row_view row).0 key) rows) ≡ option_map row_of (find (λ option. bytes_eq option.key key) options)
same-row rows key e =
    sym (find-map row_view (λ row. bytes_eq row.0 key) rows)
    ∙ ap (find (λ row. bytes_eq row.0 key)) e
    ∙ find-map row_of (λ row. bytes_eq row.0 key) options

kind-found : (found : Option OptionRow) (row : Row) (mobility : Bool) → Some (row_view row) ≡ option_map row_of found → Some row.1 ≡ kind_from found mobility
kind-found None row mobility e = cc
kind-found (Some option) row mobility e = ap (option_map (λ r. r.1)) e

kind-not-found : (found : Option OptionRow) (mobility : Bool) → None ≡ option_map row_of found → kind_from None mobility ≡ kind_from found mobility
kind-not-found None mobility e = refl
kind-not-found (Some option) mobility e = cc

pub returns-in-Some : goal.returns-in-Some
unfolding option_kind
returns-in-Some c =
    kind-found (find (λ option. bytes_eq option.key c.args.key.now) options) c.in-Some.row.now (is_mobility_key c.args.key.now)
    (sym (ap (λ r. option_map row_view (option_copied r)) c.in-Some.is) ∙ ap (option_map row_view) c.find_row.ensures ∙ same-row c.options.result.now c.args.key.now c.options.ensures)

mobility-kind : (b : Bool) → then_some b kind.Region ≡ kind_from None b
mobility-kind true = refl
mobility-kind false = refl

pub returns-in-None : goal.returns-in-None
unfolding option_kind
returns-in-None c =
    c.then_some.ensures
    ∙ ap (λ b. then_some b kind.Region) c.is_mobility_key.ensures
    ∙ mobility-kind (is_mobility_key c.args.key.now)
    ∙ kind-not-found (find (λ option. bytes_eq option.key c.args.key.now) options) (is_mobility_key c.args.key.now)
    (sym (ap (λ r. option_map row_view (option_copied r)) c.in-None.is) ∙ ap (option_map row_view) c.find_row.ensures ∙ same-row c.options.result.now c.args.key.now c.options.ensures)
