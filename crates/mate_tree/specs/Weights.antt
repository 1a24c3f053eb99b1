-- How many nodes a tree may still enter: as many as there are lines, for each ply that is left.
use Rattle.std.specs.Prelude.{ℕ, ◌+◌, ◌-◌, ◌*◌, ◌≤◌, List, Option, Some, None, if◌then◌else◌}
use Rattle.std.specs.List.{sum_by}
use Rattle.mate_core.specs.declared.frame.Frame.{Frame}
use Rattle.mate_settle.specs.Lines.{lines_within, plies, seen_in}
use Rattle.mate_tree.specs.declared.node.Node.{Node}
use Rattle.mate_tree.specs.declared.node.Node.TheOpen.{Node-F}
use Rattle.mate_tree.specs.declared.node.Node.TheFolds.{fold-Node}
use Rattle.mate_tree.specs.Shapes.{chosen_at, left_at}
use Rattle.rules_model.specs.declared.board.Position.{Position}
use Rattle.rules_model.specs.declared.moves.Move.{Move}
use Rattle.rules_model.specs.Next.{next}

-- what is told of a node: its move, and the nodes that may be entered below it, by the moves left and its position
pub record Told : Type 0 where
  pub chosen : Move
  pub lines : ℕ → Position → ℕ

-- before a node is opened: each of its lines once for each ply, and once more
abbrev pub closed_lines : Frame → ℕ → Position → ℕ
closed_lines f n p = (plies (seen_in f) n p + 1) * lines_within (seen_in f) n p

abbrev pub told_after : Frame → ℕ → Position → Told → ℕ
told_after f n p t = t.lines (left_at f n p) (next f.rules p t.chosen)

-- after it is opened: those of its children; and each line once, to settle it where they all are settled
abbrev pub opened_lines : Frame → ℕ → Position → List Told → ℕ
opened_lines f n p ts = lines_within (seen_in f) n p + sum_by (told_after f n p) ts

abbrev pub told_by : Frame → Node-F Told → Told
told_by f x = record {
  chosen = x.chosen;
  lines = λ n p. if x.opened then opened_lines f n p x.children.items else closed_lines f n p;
}

abbrev pub told : Frame → Node → Told
told f = fold-Node Told (told_by f)

-- those of a node, of a child by the position above it, and of all children
abbrev pub lines_at : Frame → ℕ → Position → Node → ℕ
lines_at f n p v = (told f v).lines n p

abbrev pub child_lines : Frame → ℕ → Position → Node → ℕ
child_lines f n p v = lines_at f (left_at f n p) (next f.rules p (chosen_at v)) v

abbrev pub forest : Frame → ℕ → Position → List Node → ℕ
forest f n p vs = sum_by (child_lines f n p) vs

-- how many nodes are left after some were entered
abbrev pub Leaves : (ℕ → Type 0) → ℕ → ℕ → Type 0
Leaves gone before after = (after ≤ before) × gone (before - after)

-- the same for a node; where it is settled nothing is left
abbrev pub Spends : {X : Type 0} → (ℕ → Type 0) → ℕ → ℕ → Option X → Type 0
Spends gone before after None = Leaves gone before after
Spends gone before after (Some settled) = gone before
