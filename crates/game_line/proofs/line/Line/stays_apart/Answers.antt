use Rattle.std.proofs.Common.{◌==◌, true, ℕ, List, [], ◌∷◌, ◌++◌, ap, sym, subst, ◌∙◌}
use Rattle.std.specs.List.{list_any}
use Rattle.std.proofs.lemmas.Bool.{not-true, OnTrue_at, OnTrue_from}
use Rattle.game_play.specs.Played.{story}
use Rattle.game_line.specs.Slots.{AreApart}
use Rattle.game_line.proofs.SlotLaws.{apart-fresh, line-keys, slot-empty}
use Rattle.game_line.proofs.line.Line.stays_apart.Goals as goal

pub returns-then-at-eq0 : goal.returns-then-at-eq0
returns-then-at-eq0 c =
    let i = c.self.inside in
    let apart = OnTrue_at c.if-not-is_apart.false c.is_apart.ensures in
    let fresh = slot-empty i.game.now i.moves.items i.room i.boards.items i.keys.items i.slots c.self.invariant.0 c.self.invariant.2 c.args.self.now c.self.view_is
    apart c.args.key (sym c.at.ensures ∙ c.if-at-eq0.true) in
    OnTrue_from true _ (λ told. fresh)

pub returns : goal.returns
returns c = OnTrue_from _ _ (λ told.
    let i = c.self.inside in
    let key = c.args.key in
    let apart = OnTrue_at c.if-not-is_apart.false c.is_apart.ensures in
    let keys = line-keys i.game.now i.moves.items i.room i.boards.items i.keys.items i.slots c.self.invariant.0 c.self.invariant.2 c.args.self.now c.self.view_is in
    let before = sym c.is_among.ensures ∙ c.if-is_among.false in
    let since = ap (list_any (λ k. k == key)) (sym c.deref.ensures.value) ∙ sym c.is_among-2.ensures ∙ not-true _ told in
    subst (λ (ks : List ℕ). AreApart (ks ++ key ∷ [])) (sym keys)
    (apart-fresh (story i.game.now) i.keys.items _ key c.keys.ensures.is (subst AreApart keys apart) before since))
