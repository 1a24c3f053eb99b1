use Rattle.std.proofs.Common.{◌≡◌, ◌||◌, ◌==◌, not, ap, subst, sym, ◌∙◌}
use Rattle.std.proofs.lemmas.Bool.{and_parts}
use Rattle.foundation.specs.Count.{any_below}
use Rattle.rules_model.specs.declared.board.Side.{Side}
use Rattle.rules_model.specs.Attacks.{attacks_from}
use Rattle.square_set.specs.Members.{has}
use Rattle.attack_tables.specs.Boards.{HoldsMen, OnEachBoard}
use Rattle.pins.proofs.danger.is_danger_at.Goals as goal

pub piece_attacks-requires : goal.piece_attacks-requires
piece_attacks-requires c = record {
  at = c.requires.to;
  men =
      let Q : Side → Type 0 = λ by. HoldsMen by c.args.cells.now c.without-men.result in
      subst Q (sym c.other.ensures) (λ s h. c.requires.enemies s (and_parts (has c.args.enemies s) (not (s == c.args.to)) (sym (c.without-men.ensures s) ∙ h)).0);
}

pub returns : goal.returns
returns c = λ men moved board gone is by_it.
    let Q : Side → Type 0 = λ by. OnEachBoard by c.args.cells.now c.without-men.result c.with-moved.result (λ board. c.piece_attacks.result ≡ any_below (attacks_from c.args.tables.now board by c.args.to) 120) in
    subst Q c.other.ensures c.piece_attacks.ensures board (record {
      squares = λ s. c.with-moved.ensures s ∙ ap (λ b. b || (s == c.args.to)) (c.without.ensures s) ∙ sym (is s) ∙ by_it.squares s;
      own = λ s. c.without-men.ensures s ∙ sym (gone s) ∙ by_it.own s;
      same = λ s h. by_it.same s (gone s ∙ sym (c.without-men.ensures s) ∙ h);
    })
