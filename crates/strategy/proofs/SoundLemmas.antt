-- The positions of the nodes that are read are sound.
use Rattle.std.proofs.Common.{◌≡◌, ℕ, ◌-◌, ◌==◌, nat_lt, nat_le, Bool, true, false, ◌&&◌, List, [], ◌∷◌, Option, Some, None, Ok, Err, length, if◌then◌else◌, refl, subst, arith, zero, suc}
use Rattle.std.specs.Prelude.{slice_get, bytes_eq, codes, Result}
use Rattle.std.specs.Result.{IfOk}
use Rattle.std.proofs.lemmas.Bool.{and_from, and_parts}
use Rattle.std.proofs.lemmas.List.Elements.{All-append, All-set}
use Rattle.std.proofs.lemmas.Option.{get_or_from_slice_get, slice_get_within}
use Rattle.rules_model.specs.declared.board.Position.{Position}
use Rattle.rules_model.specs.declared.board.Side.{Side}
use Rattle.rules_model.specs.declared.moves.Move.{Move}
use Rattle.rules_model.specs.declared.rules.Rules.{Rules}
use Rattle.rules_model.specs.Fit.{IsFit}
use Rattle.rules_model.specs.Repeats.{repeat_of}
use Rattle.rules_model.specs.Sound.{is_sound, is_sound_repeat}
use Rattle.fen_model.specs.declared.fault.FenFault.{FenFault}
use Rattle.fen_model.specs.Reading.{fen_of}
use Rattle.fen_model.proofs.SoundLaws.{text_sound}
use Rattle.move_text.specs.Read.{move_said}
use Rattle.strategy.specs.declared.fault.StrategyFault.{StrategyFault}
use Rattle.strategy.specs.declared.nodes.Edge.{Edge}
use Rattle.strategy.specs.declared.nodes.Node.{Node}
use Rattle.strategy.specs.declared.reader.Reader.{Reader}
use Rattle.strategy.specs.Said.{Said, node_line, edge_line, end_line, attacker_said, count_said, said}
use Rattle.strategy.specs.Reading.{AreSound, bare_node, edge, edge_at, edge_from, is_next, more_edges, with_attacker, with_count, with_edge, with_last_edge, with_move, with_node, with_position, with_said, with_text}

-- the nodes of what is said are sound, and it is said on the same line
abbrev Keeps : Rules → Reader → Result Reader StrategyFault → Type 0
Keeps rules b said = IfOk said (λ next. AreSound rules next.nodes × (next.line ≡ b.line))

abbrev IsSoundNode : Rules → Node → Type 0
IsSoundNode rules v = is_sound rules v.position ≡ true

-- the number is not looked at, where it is from 1 to 9,999
numbered_one : (rules : Rules) (p : Position) → is_sound rules p ≡ true → is_sound rules (record p { number = 1 }) ≡ true
unfolding is_sound
numbered_one rules p sound =
    let counts = and_parts (is_sound_repeat rules (repeat_of p) && nat_le p.counter 9999) (nat_le 1 p.number) (and_parts (is_sound_repeat rules (repeat_of p) && nat_le p.counter 9999 && nat_le 1 p.number) (nat_le p.number 9999) sound).0 in
    and_from _ _ (and_from _ _ counts.0 refl) refl

single : (rules : Rules) (v : Node) → IsSoundNode rules v → AreSound rules (v ∷ [])
single rules v h zero d below = h
single rules v h (suc k) d below = absurd (omega arith)

keeps_position : (rules : Rules) (b : Reader) (rank : ℕ) (fen : List ℕ) (r : Result Position FenFault) → IsFit rules → AreSound rules b.nodes → fen_of rules fen ≡ r → Keeps rules b (with_position b rank r)
keeps_position rules b rank fen (Err fault) fit sound is = tt
keeps_position rules b rank fen (Ok p) fit sound is =
    (All-append (IsSoundNode rules) b.nodes (bare_node p rank ∷ []) sound (single rules (bare_node p rank) (numbered_one rules p (text_sound rules fen p fit is))), refl)

keeps_node_if : (rules : Rules) (b : Reader) (rank : ℕ) (fen : List ℕ) (t : Bool) (fault : StrategyFault) → IsFit rules → AreSound rules b.nodes
    → Keeps rules b (if t then with_position b rank (fen_of rules fen) else Err fault)
keeps_node_if rules b rank fen false fault fit sound = tt
keeps_node_if rules b rank fen true fault fit sound = keeps_position rules b rank fen (fen_of rules fen) fit sound refl

-- ---- edges

edge_at-sound : (rules : Rules) (nodes : List Node) (place : ℕ) (e : Edge) (o : Option Node) → AreSound rules nodes → slice_get nodes place ≡ o → AreSound rules (edge_at nodes place e o)
edge_at-sound rules nodes place e None sound is = sound
edge_at-sound rules nodes place e (Some v) sound is =
    let there = subst (IsSoundNode rules) (get_or_from_slice_get nodes place v v is) (sound place v (slice_get_within nodes place v is)) in
    All-set (IsSoundNode rules) nodes place (more_edges v e) there sound

last_edge-sound : (rules : Rules) (nodes : List Node) (e : Edge) → AreSound rules nodes → AreSound rules (with_last_edge nodes e)
unfolding with_last_edge
last_edge-sound rules nodes e sound = edge_at-sound rules nodes (length nodes - 1) e (slice_get nodes (length nodes - 1)) sound refl

keeps_move : (rules : Rules) (b : Reader) (to : ℕ) (o : Option Move) → AreSound rules b.nodes → Keeps rules b (with_move b to o)
keeps_move rules b to None sound = tt
keeps_move rules b to (Some m) sound = (last_edge-sound rules b.nodes (edge m to) sound, refl)

keeps_edge_if : (rules : Rules) (b : Reader) (to : ℕ) (o : Option Move) (t : Bool) (fault : StrategyFault) → AreSound rules b.nodes → Keeps rules b (if t then with_move b to o else Err fault)
keeps_edge_if rules b to o false fault sound = tt
keeps_edge_if rules b to o true fault sound = keeps_move rules b to o sound

keeps_edge : (rules : Rules) (b : Reader) (chosen : List ℕ) (to : ℕ) (o : Option Node) → AreSound rules b.nodes → Keeps rules b (edge_from rules b chosen to o)
keeps_edge rules b chosen to None sound = tt
keeps_edge rules b chosen to (Some v) sound = keeps_edge_if rules b to (move_said rules v.position chosen) (nat_lt to b.announced) _ sound

-- ---- lines

keeps_end : (rules : Rules) (b : Reader) (t : Bool) (fault : StrategyFault) → AreSound rules b.nodes → Keeps rules b (if t then Ok (record b { is_ended = true }) else Err fault)
keeps_end rules b false fault sound = tt
keeps_end rules b true fault sound = (sound, refl)

keeps_said : (rules : Rules) (b : Reader) (o : Option Said) → IsFit rules → AreSound rules b.nodes → Keeps rules b (with_said rules b o)
unfolding with_said with_node with_edge
keeps_said rules b None fit sound = tt
keeps_said rules b (Some (node_line number rank fen)) fit sound = keeps_node_if rules b rank fen (is_next b number rank) _ fit sound
keeps_said rules b (Some (edge_line chosen to)) fit sound = keeps_edge rules b chosen to (slice_get b.nodes (length b.nodes - 1)) sound
keeps_said rules b (Some end_line) fit sound = keeps_end rules b (length b.nodes == b.announced) _ sound

keeps_version : (rules : Rules) (b : Reader) (t : Bool) (fault : StrategyFault) → AreSound rules b.nodes → Keeps rules b (if t then Ok b else Err fault)
keeps_version rules b false fault sound = tt
keeps_version rules b true fault sound = (sound, refl)

keeps_attacker : (rules : Rules) (b : Reader) (o : Option Side) → AreSound rules b.nodes → Keeps rules b (with_attacker b o)
keeps_attacker rules b None sound = tt
keeps_attacker rules b (Some side) sound = (sound, refl)

keeps_count : (rules : Rules) (b : Reader) (o : Option ℕ) → AreSound rules b.nodes → Keeps rules b (with_count b o)
keeps_count rules b None sound = tt
keeps_count rules b (Some count) sound = (sound, refl)

keeps_if : (rules : Rules) (b : Reader) (t : Bool) (r s : Result Reader StrategyFault) → Keeps rules b r → Keeps rules b s → Keeps rules b (if t then r else s)
keeps_if rules b true r s f g = f
keeps_if rules b false r s f g = g

keeps_text : (rules : Rules) (b : Reader) (text : List ℕ) → IsFit rules → AreSound rules b.nodes → Keeps rules b (with_text rules b text)
unfolding with_text
keeps_text rules b text fit sound =
    keeps_if rules b (nat_lt 2048 (length text)) _ _ tt
    (keeps_if rules b b.is_ended _ _ tt
    (keeps_if rules b (b.line == 1) _ _ (keeps_version rules b (bytes_eq text (codes "strategy 1")) _ sound)
    (keeps_if rules b (b.line == 2) _ _ (keeps_attacker rules b (attacker_said text) sound)
    (keeps_if rules b (b.line == 3) _ _ (keeps_count rules b (count_said text) sound) (keeps_said rules b (said text) fit sound)))))

pub text-keeps : (rules : Rules) (b next : Reader) (text : List ℕ) → IsFit rules → AreSound rules b.nodes → with_text rules b text ≡ Ok next → AreSound rules next.nodes × (next.line ≡ b.line)
text-keeps rules b next text fit sound is = subst (Keeps rules b) is (keeps_text rules b text fit sound)

pub none-sound : (rules : Rules) → AreSound rules []
none-sound rules k d below = absurd (omega arith)
