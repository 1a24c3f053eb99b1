-- What follows the two squares of a move.
use Rattle.std.proofs.Common.{◌≡◌, ℕ, ◌+◌, ◌-◌, ◌%◌, ◌<◌, ◌≤◌, nat_le, ◌==◌, Bool, true, false, ◌&&◌, List, [], ◌∷◌, ◌++◌, Option, Some, None, if◌then◌else◌, refl, sym, ap, ◌∙◌, arith, subst, ⊎_elim}
use Rattle.std.specs.Option.{is_none, is_some}
use Rattle.std.proofs.lemmas.Bool.{cases_Bool, le-leb, leb-true, eqb-true, and_from, and_parts}
use Rattle.rules_model.specs.declared.board.Kind.{Kind}
use Rattle.rules_model.specs.declared.moves.Promo.{Promo}
use Rattle.rules_model.specs.declared.moves.Promo.TheVariants.{Stays, Pawn, Plus}
use Rattle.rules_model.specs.declared.rules.Rules.{Rules}
use Rattle.rules_model.specs.Kinds.{is_pawn, promoted_of}
use Rattle.rules_model.specs.Moves.{IsFitGate, IsFitPromo}
use Rattle.rules_model.specs.MoveText.{gate_text, lower, promo_text}
use Rattle.move_text.specs.Names.{may_end, pawn_ends, piece_ends}
use Rattle.move_text.specs.declared.endings.Ending.{Ending}
use Rattle.move_text.specs.Read.{ending, gate_ending, gated, is_lower, kind_ending, named_kind, pawn_ending, piece_ending, promoted, promoted_gated}
use Rattle.move_text.proofs.SquareLaws.{NoZero, apart}

-- ---- letters

pub letter-back : (kind : Kind) → kind.0 < 26 → named_kind (lower kind) ≡ Some kind
letter-back kind small =
    let low : nat_le 97 (97 + kind.0 % 26) ≡ true = le-leb _ _ (omega arith) in
    let high : nat_le (97 + kind.0 % 26) 122 ≡ true = le-leb _ _ (omega arith) in
    let value : (97 + kind.0 % 26) - 97 ≡ kind.0 = omega (arith, small) in
    rw (low, high) (ap (λ k. Some (record { 0 = k })) value)

abbrev kind_number : Option Kind → ℕ
kind_number None = 0
kind_number (Some kind) = kind.0

pub letter-said : (b : ℕ) (kind : Kind) → named_kind b ≡ Some kind → (kind.0 < 26) × (b ≡ lower kind)
letter-said b kind h =
    ⊎_elim
    (λ (y : is_lower b ≡ true).
    let both = and_parts (nat_le 97 b) (nat_le b 122) y in
    let low : 97 ≤ b = leb-true _ _ both.0 in
    let high : b ≤ 122 = leb-true _ _ both.1 in
    let value : b - 97 ≡ kind.0 = ap kind_number (let e = rw y at h in e) in
    (omega (arith, low, high, value), omega (arith, low, high, value)))
    (λ (n : is_lower b ≡ false). let e = rw n at h in cc)
    (cases_Bool (is_lower b))

no_plus : (kind : Kind) → (lower kind == 43) ≡ false
no_plus kind = apart (97 + kind.0 % 26) 43 (λ e. absurd (omega (arith, e)))

-- ---- an ending of a move is read back

abbrev pub ending_text : Promo → Option Kind → List ℕ
ending_text promo gate = promo_text promo ++ gate_text gate

pub ending_stops : (promo : Promo) (gate : Option Kind) → NoZero (ending_text promo gate)
ending_stops Stays None = tt
ending_stops Stays (Some kind) = apart (97 + kind.0 % 26) 48 (λ e. absurd (omega (arith, e)))
ending_stops (Pawn kind) gate = apart (97 + kind.0 % 26) 48 (λ e. absurd (omega (arith, e)))
ending_stops Plus gate = refl

pawn-back : (promo : Promo) (gate : Option Kind) → IsFitPromo promo → IsFitGate gate → pawn_ends promo gate ≡ true → pawn_ending (ending_text promo gate) ≡ Some (ending promo gate)
pawn-back Stays None p g h = refl
pawn-back Stays (Some gate) p g h = cc
pawn-back (Pawn kind) None p g h = ap promoted (letter-back kind p)
pawn-back (Pawn kind) (Some gate) p g h = ap (λ o. promoted_gated o (named_kind (lower gate))) (letter-back kind p) ∙ ap (gated (Pawn kind)) (letter-back gate g)
pawn-back Plus gate p g h = cc

gate-back : (promo : Promo) (gate : Option Kind) → IsFitGate gate → gate_ending promo (gate_text gate) ≡ Some (ending promo gate)
gate-back promo None g = refl
gate-back promo (Some gate) g = ap (gated promo) (letter-back gate g)

plain-back : (rules : Rules) (kind : Kind) (gate : Option Kind) → IsFitGate gate → piece_ending rules kind (gate_text gate) ≡ Some (ending Stays gate)
plain-back rules kind None g = refl
plain-back rules kind (Some gate) g = let other = no_plus gate in rw other (gate-back Stays (Some gate) g)

piece-back : (rules : Rules) (kind : Kind) (promo : Promo) (gate : Option Kind) → IsFitGate gate → piece_ends rules kind promo ≡ true → piece_ending rules kind (ending_text promo gate) ≡ Some (ending promo gate)
piece-back rules kind Stays gate g h = plain-back rules kind gate g
piece-back rules kind (Pawn promoted) gate g h = cc
piece-back rules kind Plus gate g h = rw h (gate-back Plus gate g)

pub ending-back : (rules : Rules) (kind : Kind) (promo : Promo) (gate : Option Kind) → IsFitPromo promo → IsFitGate gate → may_end rules promo gate kind ≡ true → kind_ending rules kind (ending_text promo gate) ≡ Some (ending promo gate)
ending-back rules kind promo gate p g h =
    ⊎_elim
    (λ (y : is_pawn rules kind ≡ true). rw y (pawn-back promo gate p g (let e = rw y at h in e)))
    (λ (n : is_pawn rules kind ≡ false). rw n (piece-back rules kind promo gate g (let e = rw n at h in e)))
    (cases_Bool (is_pawn rules kind))

-- ---- an ending that is read is one of a move

pub record IsEnding (text : List ℕ) (e : Ending) : Type 0 where
  pub promo : IsFitPromo e.promo
  pub gate : IsFitGate e.gate
  pub written : text ≡ ending_text e.promo e.gate

gated_said : (promo : Promo) (b : ℕ) (o : Option Kind) (e : Ending) → named_kind b ≡ o → gated promo o ≡ Some e → (kind : Kind) × (kind.0 < 26) × (b ≡ lower kind) × (ending promo (Some kind) ≡ e)
gated_said promo b None e is h = cc
gated_said promo b (Some kind) e is h = let said = letter-said b kind is in (kind, said.0, said.1, cc)

pub gate_ending-said : (promo : Promo) (text : List ℕ) (e : Ending) → gate_ending promo text ≡ Some e → (gate : Option Kind) × IsFitGate gate × (text ≡ gate_text gate) × (ending promo gate ≡ e)
gate_ending-said promo [] e h = (None, tt, refl, cc)
gate_ending-said promo (b ∷ []) e h =
    let said = gated_said promo b (named_kind b) e refl h in
    (Some said.0, said.1, ap (λ x. x ∷ []) said.2, said.3)
gate_ending-said promo (b ∷ c ∷ text) e h = cc

ended_so : (rules : Rules) (text : List ℕ) (promo : Promo) (gate : Option Kind) (e : Ending) → IsFitPromo promo → IsFitGate gate → text ≡ ending_text promo gate → ending promo gate ≡ e → IsEnding text e
ended_so rules text promo gate e p g written is = subst (IsEnding text) is (record { promo = p; gate = g; written = written })

abbrev Ended : (Ending → Bool) → List ℕ → Ending → Type 0
Ended test text e = IsEnding text e × (test e ≡ true)

promoted_said : (rules : Rules) (b : ℕ) (o : Option Kind) (e : Ending) → named_kind b ≡ o → promoted o ≡ Some e → Ended (λ x. pawn_ends x.promo x.gate) (b ∷ []) e
promoted_said rules b None e is h = cc
promoted_said rules b (Some kind) e is h =
    let said = letter-said b kind is in
    let same : ending (Pawn kind) None ≡ e = cc in
    (ended_so rules (b ∷ []) (Pawn kind) None e said.0 tt (ap (λ x. x ∷ []) said.1) same, subst (λ x. pawn_ends x.promo x.gate ≡ true) same refl)

promoted_gated_said : (rules : Rules) (b c : ℕ) (o : Option Kind) (e : Ending) → named_kind b ≡ o → promoted_gated o (named_kind c) ≡ Some e → Ended (λ x. pawn_ends x.promo x.gate) (b ∷ c ∷ []) e
promoted_gated_said rules b c None e is h = cc
promoted_gated_said rules b c (Some kind) e is h =
    let said = letter-said b kind is in
    let gate = gated_said (Pawn kind) c (named_kind c) e refl h in
    (ended_so rules (b ∷ c ∷ []) (Pawn kind) (Some gate.0) e said.0 gate.1 (ap (λ x. x ∷ c ∷ []) said.1 ∙ ap (λ x. lower kind ∷ x ∷ []) gate.2) gate.3, subst (λ x. pawn_ends x.promo x.gate ≡ true) gate.3 refl)

pawn_said : (rules : Rules) (text : List ℕ) (e : Ending) → pawn_ending text ≡ Some e → Ended (λ x. pawn_ends x.promo x.gate) text e
pawn_said rules [] e h = let same : ending Stays None ≡ e = cc in (ended_so rules [] Stays None e tt tt refl same, subst (λ x. pawn_ends x.promo x.gate ≡ true) same refl)
pawn_said rules (b ∷ []) e h = promoted_said rules b (named_kind b) e refl h
pawn_said rules (b ∷ c ∷ []) e h = promoted_gated_said rules b c (named_kind b) e refl h
pawn_said rules (b ∷ c ∷ d ∷ text) e h = cc

plain_said : (rules : Rules) (kind : Kind) (text : List ℕ) (e : Ending) → gate_ending Stays text ≡ Some e → Ended (λ x. piece_ends rules kind x.promo) text e
plain_said rules kind text e h =
    let said = gate_ending-said Stays text e h in
    (ended_so rules text Stays said.0 e tt said.1 said.2 said.3, subst (λ x. piece_ends rules kind x.promo ≡ true) said.3 refl)

plus_said : (rules : Rules) (kind : Kind) (text : List ℕ) (e : Ending) → is_some (promoted_of rules kind) ≡ true → gate_ending Plus text ≡ Some e → Ended (λ x. piece_ends rules kind x.promo) (43 ∷ text) e
plus_said rules kind text e is h =
    let said = gate_ending-said Plus text e h in
    (ended_so rules (43 ∷ text) Plus said.0 e tt said.1 (ap (λ t. 43 ∷ t) said.2) said.3, subst (λ x. piece_ends rules kind x.promo ≡ true) said.3 is)

piece_said : (rules : Rules) (kind : Kind) (text : List ℕ) (e : Ending) → piece_ending rules kind text ≡ Some e → Ended (λ x. piece_ends rules kind x.promo) text e
piece_said rules kind [] e h = plain_said rules kind [] e h
piece_said rules kind (b ∷ text) e h =
    ⊎_elim
    (λ (y : (b == 43) ≡ true). ⊎_elim
    (λ (z : is_some (promoted_of rules kind) ≡ true). subst (λ x. Ended (λ v. piece_ends rules kind v.promo) (x ∷ text) e) (sym (eqb-true b 43 y)) (plus_said rules kind text e z (let k = rw (y, z) at h in k)))
    (λ (m : is_some (promoted_of rules kind) ≡ false). let k = rw (y, m) at h in cc)
    (cases_Bool (is_some (promoted_of rules kind))))
    (λ (n : (b == 43) ≡ false). plain_said rules kind (b ∷ text) e (let k = rw n at h in k))
    (cases_Bool (b == 43))

pub record IsEndingOf (rules : Rules) (kind : Kind) (text : List ℕ) (e : Ending) : Type 0 where
  pub is : IsEnding text e
  pub may : may_end rules e.promo e.gate kind ≡ true

pub ending-said : (rules : Rules) (kind : Kind) (text : List ℕ) (e : Ending) → kind_ending rules kind text ≡ Some e → IsEndingOf rules kind text e
ending-said rules kind text e h =
    ⊎_elim
    (λ (y : is_pawn rules kind ≡ true). let said = pawn_said rules text e (let k = rw y at h in k) in record { is = said.0; may = rw y said.1 })
    (λ (n : is_pawn rules kind ≡ false). let said = piece_said rules kind text e (let k = rw n at h in k) in record { is = said.0; may = rw n said.1 })
    (cases_Bool (is_pawn rules kind))
