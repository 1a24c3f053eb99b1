use Rattle.std.proofs.Common.{◌≡◌, Option, Some, None, ap, subst, sym, ◌∙◌}
use Rattle.rules_model.specs.declared.board.Cell.{Cell}
use Rattle.rules_model.specs.declared.moves.Move.{Move}
use Rattle.rules_model.specs.Next.{cells_after, promote}
use Rattle.rules_model.specs.Repeats.{repeat_of}
use Rattle.next_position.specs.Puts.{put_on}
use Rattle.next_position.proofs.PutLemmas.{drop-put, go-put}
use Rattle.next_position.proofs.written.one_put.Goals as goal

pub returns-else-passes_by-clause-is : goal.returns-else-passes_by-clause-is
returns-else-passes_by-clause-is c =
    let rules = c.args.rules.now in
    let p = c.args.p.now in
    let go = c.in-Go in
    let none = sym c.is_some.ensures ∙ c.if-is_some.false in
    let passes = sym c.passes_by.ensures ∙ c.if-passes_by.false in
    let piece = c.promote.ensures ∙ ap (λ (cell : Option Cell). promote rules cell go.promo) c.cell_at.ensures in
    let Is : Move → Type 0 = λ m. cells_after rules (repeat_of p) m ≡ put_on (record { left = Some go.from; at = go.to; cell = c.promote.result }) p.cells in
    subst Is (sym go.is)
    (go-put rules (repeat_of p) go.from go.to go.promo go.gate none passes
    ∙ ap (λ (cell : Option Cell). put_on (record { left = Some go.from; at = go.to; cell = cell }) p.cells) (sym piece))

pub returns-in-Drop-clause-is : goal.returns-in-Drop-clause-is
returns-in-Drop-clause-is c =
    let rules = c.args.rules.now in
    let p = c.args.p.now in
    let to = c.in-Drop.to in
    let Is : Move → Type 0 = λ m. cells_after rules (repeat_of p) m ≡ put_on (record { left = None; at = to; cell = Some c.fresh.result }) p.cells in
    subst Is (sym c.in-Drop.is)
    (drop-put rules (repeat_of p) c.in-Drop.kind to
    ∙ ap (λ (cell : Cell). put_on (record { left = None; at = to; cell = Some cell }) p.cells) (sym c.fresh.ensures))
