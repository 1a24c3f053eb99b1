use Rattle.std.proofs.Common.{◌<◌, ◌%◌, true, slice_index, take, refl, sym, ◌∙◌, arith}
use Rattle.std.proofs.lemmas.Bool.{not-true, OnTrue_from}
use Rattle.game_line.proofs.SlotLemmas.{alone-first, none-times}
use Rattle.game_line.proofs.slots.Slots.comes_first.Goals as goal

pub returns-then-at-lt2 : goal.returns-then-at-lt2
returns-then-at-lt2 c =
    let keys = c.args.keys.now in
    let key = slice_index keys c.args.place in
    let few : slice_index c.args.self.now (key % 4096) < 2 = let at = c.at.ensures in let two = c.if-at-lt2.true in omega arith in
    OnTrue_from true _ (λ told. alone-first keys c.args.self.now c.args.place key c.requires.counts c.requires.there refl few)

pub returns : goal.returns
returns c = OnTrue_from _ _ (λ told.
    let keys = c.args.keys.now in
    none-times (slice_index keys c.args.place) (take c.args.place keys) (sym c.is_among.ensures ∙ not-true _ told))
