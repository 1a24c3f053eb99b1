-- Words that hold three squares each tell the squares.
use Rattle.std.proofs.Common.{◌≡◌, Bool, true, false, ℕ, zero, suc, ◌+◌, ◌*◌, ◌<◌, ◌≤◌, Option, None, Some, List, [], ◌∷◌, length, get_or, set, refl, ap, sym, ◌∙◌, subst, arith, length-set}
use Rattle.std.proofs.lemmas.List.{get_or_default, get_or-set_same, get_or-set_other}
use Rattle.std.specs.Bool.{Decides}
use native.Mathlib.Decide.{ℕ_discrete}
use mathlib.Core.Logic.{dite}
use Rattle.rules_model.specs.declared.board.Cell.{Cell}
use Rattle.rules_model.specs.declared.board.Kind.{Kind}
use Rattle.rules_model.specs.declared.board.Side.{Side}
use Rattle.rules_model.specs.declared.board.Side.TheVariants.{White, Black}
use Rattle.rules_model.specs.Sides.{side_index}
use Rattle.position_key.specs.Cells.{kind_code, cell_code, three, in_threes, IsByteKind, IsByteCell, AreByteCells, HoldCells}
use Rattle.position_key.specs.Key.{key_of}
use Rattle.position_key.specs.Packed.{repeat_with, IsPacked}
use Rattle.position_key.specs.declared.rest.Rest.{Rest}

-- ---- one square

side_below : (a : Side) → side_index a < 2
side_below White = omega arith
side_below Black = omega arith

side_same : (a b : Side) → side_index a ≡ side_index b → a ≡ b
side_same White White e = refl
side_same White Black e = absurd (omega arith)
side_same Black White e = absurd (omega arith)
side_same Black Black e = refl

kind_below : (k : Option Kind) → IsByteKind k → kind_code k < 257
kind_below None b = omega arith
kind_below (Some k) b = omega arith

kind_same : (a b : Option Kind) → kind_code a ≡ kind_code b → a ≡ b
kind_same None None e = refl
kind_same None (Some b) e = absurd (omega arith)
kind_same (Some a) None e = absurd (omega arith)
kind_same (Some a) (Some b) e =
    let same : a.0 ≡ b.0 = omega arith in
    λ i. Some (record { 0 = same i })

cell_below : (c : Option Cell) → IsByteCell c → cell_code c < 1048576
cell_below None b = omega arith
cell_below (Some c) b =
    let k = kind_below c.origin b.1 in
    let s = side_below c.side in
    let low = b.0 in
    omega arith

cell_same : (a b : Option Cell) → IsByteCell a → IsByteCell b → cell_code a ≡ cell_code b → a ≡ b
cell_same None None p q e = refl
cell_same None (Some b) p q e = absurd (omega arith)
cell_same (Some a) None p q e = absurd (omega arith)
cell_same (Some a) (Some b) p q e =
    let s = side_below a.side in
    let t = side_below b.side in
    let k = p.0 in
    let l = q.0 in
    let side : side_index a.side ≡ side_index b.side = omega arith in
    let kind : a.kind.0 ≡ b.kind.0 = omega arith in
    let origin : kind_code a.origin ≡ kind_code b.origin = omega arith in
    λ i. Some (record { side = side_same a.side b.side side i; kind = record { 0 = kind i }; origin = kind_same a.origin b.origin origin i })

-- ---- three squares

digits : (a b c x y z : ℕ) → b < 1048576 → c < 1048576 → y < 1048576 → z < 1048576 → (a * 1048576 + b) * 1048576 + c ≡ (x * 1048576 + y) * 1048576 + z → (a ≡ x) × (b ≡ y) × (c ≡ z)
digits a b c x y z lb lc ly lz e =
    let high : a * 1048576 + b ≡ x * 1048576 + y = omega arith in
    (omega arith, omega arith, omega arith)

threes : (a b c x y z : Option Cell) → IsByteCell a → IsByteCell b → IsByteCell c → IsByteCell x → IsByteCell y → IsByteCell z → three a b c ≡ three x y z → (a ≡ x) × (b ≡ y) × (c ≡ z)
threes a b c x y z pa pb pc px py pz e =
    let d = digits (cell_code a) (cell_code b) (cell_code c) (cell_code x) (cell_code y) (cell_code z) (cell_below b pb) (cell_below c pc) (cell_below y py) (cell_below z pz) e in
    (cell_same a x pa px d.0, cell_same b y pb py d.1, cell_same c z pc pz d.2)

-- ---- all squares

heads-same : {x y : ℕ} {xs ys : List ℕ} → ◌≡◌ {A = List ℕ} (x ∷ xs) (y ∷ ys) → (x ≡ y) × (xs ≡ ys)
heads-same e = (cc, cc)

pub cells-same : (n : ℕ) (xs ys : List (Option Cell)) → length xs ≡ 3 * n → length ys ≡ 3 * n → AreByteCells xs → AreByteCells ys → in_threes xs ≡ in_threes ys → xs ≡ ys
unfolding in_threes
cells-same zero [] [] l m p q e = refl
cells-same zero (x ∷ xs) ys l m p q e = absurd (omega arith)
cells-same zero [] (y ∷ ys) l m p q e = absurd (omega arith)
cells-same (suc n) [] ys l m p q e = absurd (omega arith)
cells-same (suc n) (a ∷ []) ys l m p q e = absurd (omega arith)
cells-same (suc n) (a ∷ b ∷ []) ys l m p q e = absurd (omega arith)
cells-same (suc n) (a ∷ b ∷ c ∷ xs) [] l m p q e = absurd (omega arith)
cells-same (suc n) (a ∷ b ∷ c ∷ xs) (x ∷ []) l m p q e = absurd (omega arith)
cells-same (suc n) (a ∷ b ∷ c ∷ xs) (x ∷ y ∷ []) l m p q e = absurd (omega arith)
cells-same (suc n) (a ∷ b ∷ c ∷ xs) (x ∷ y ∷ z ∷ ys) l m p q e =
    let parts = heads-same e in
    let first = threes a b c x y z p.0 p.1.0 p.1.1.0 q.0 q.1.0 q.1.1.0 parts.0 in
    let rest = cells-same n xs ys (omega arith) (omega arith) p.1.1.1 q.1.1.1 parts.1 in
    λ i. first.0 i ∷ first.1 i ∷ first.2 i ∷ rest i

-- ---- words are filled one after another

pub record Holds (words : List ℕ) (cells : List (Option Cell)) (k : ℕ) : Type 0 where
  pub is : get_or words k 0 ≡ three (get_or cells (3 * k) None) (get_or cells (3 * k + 1) None) (get_or cells (3 * k + 2) None)
  pub first : IsByteCell (get_or cells (3 * k) None)
  pub second : IsByteCell (get_or cells (3 * k + 1) None)
  pub third : IsByteCell (get_or cells (3 * k + 2) None)

-- the words are there, and so many of them hold their squares
pub record Filled (words : List ℕ) (cells : List (Option Cell)) (k : ℕ) : Type 0 where
  pub count : length words ≡ 40
  pub hold : (j : ℕ) → j < k → Holds words cells j

pub filled-next : (words : List ℕ) (cells : List (Option Cell)) (k w : ℕ) (a b c : Option Cell) → k < 40 → length cells ≡ 120 → Filled words cells k
    → a ≡ get_or cells (3 * k) a → b ≡ get_or cells (3 * k + 1) b → c ≡ get_or cells (3 * k + 2) c → w ≡ three a b c
    → IsByteCell a → IsByteCell b → IsByteCell c → Filled (set words k w) cells (k + 1)
filled-next words cells k w a b c below size so_far ra rb rc is pa pb pc = record {
  count = length-set words k w ∙ so_far.count;
  hold = λ j l.
      dite (ℕ_discrete j k)
      (λ e.
      let x : a ≡ get_or cells (3 * k) None = ra ∙ get_or_default cells (3 * k) a None (omega arith) in
      let y : b ≡ get_or cells (3 * k + 1) None = rb ∙ get_or_default cells (3 * k + 1) b None (omega arith) in
      let z : c ≡ get_or cells (3 * k + 2) None = rc ∙ get_or_default cells (3 * k + 2) c None (omega arith) in
      let n = so_far.count in
      let here : Holds (set words k w) cells k = record {
        is = get_or-set_same words k w 0 (omega arith) ∙ (is ∙ (λ i. three (x i) (y i) (z i)));
        first = subst IsByteCell x pa;
        second = subst IsByteCell y pb;
        third = subst IsByteCell z pc;
      } in
      subst (Holds (set words k w) cells) (sym e) here)
      (λ apart.
      let old = so_far.hold j (omega arith) in
      record { is = get_or-set_other words k j w 0 apart ∙ old.is; first = old.first; second = old.second; third = old.third });
}

shifted : (w : ℕ) (words : List ℕ) (a b c : Option Cell) (cells : List (Option Cell)) (j : ℕ) → Holds (w ∷ words) (a ∷ b ∷ c ∷ cells) (suc j) → Holds words cells j
shifted w words a b c cells j h =
    let e : 3 * suc j ≡ suc (suc (suc (3 * j))) = omega arith in
    let f : 3 * suc j + 1 ≡ suc (suc (suc (3 * j + 1))) = omega arith in
    let g : 3 * suc j + 2 ≡ suc (suc (suc (3 * j + 2))) = omega arith in
    let all : List (Option Cell) = a ∷ b ∷ c ∷ cells in
    record {
      is = h.is ∙ (λ i. three (get_or all (e i) None) (get_or all (f i) None) (get_or all (g i) None));
      first = subst (λ n. IsByteCell (get_or all n None)) e h.first;
      second = subst (λ n. IsByteCell (get_or all n None)) f h.second;
      third = subst (λ n. IsByteCell (get_or all n None)) g h.third;
    }

all-held : (n : ℕ) (words : List ℕ) (cells : List (Option Cell)) → length words ≡ n → length cells ≡ 3 * n → ((j : ℕ) → j < n → Holds words cells j) → (words ≡ in_threes cells) × AreByteCells cells
unfolding in_threes
all-held zero [] [] l m held = (refl, tt)
all-held zero (w ∷ words) cells l m held = absurd (omega arith)
all-held zero [] (a ∷ cells) l m held = absurd (omega arith)
all-held (suc n) [] cells l m held = absurd (omega arith)
all-held (suc n) (w ∷ words) [] l m held = absurd (omega arith)
all-held (suc n) (w ∷ words) (a ∷ []) l m held = absurd (omega arith)
all-held (suc n) (w ∷ words) (a ∷ b ∷ []) l m held = absurd (omega arith)
all-held (suc n) (w ∷ words) (a ∷ b ∷ c ∷ cells) l m held =
    let here = held zero (omega arith) in
    let rest = all-held n words cells (omega arith) (omega arith) (λ j below. shifted w words a b c cells j (held (suc j) (omega arith))) in
    ((λ i. here.is i ∷ rest.0 i), (here.first, (here.second, (here.third, rest.1))))

pub all-filled : (words : List ℕ) (cells : List (Option Cell)) (k : ℕ) → 40 ≤ k → length cells ≡ 120 → Filled words cells k → HoldCells words cells
all-filled words cells k full size filled =
    let held = all-held 40 words cells filled.count size (λ j below. filled.hold j (omega arith)) in
    record { are = held.0; bytes = held.1; count = size }

-- ---- packed repeats

pub hash-is : (h : ℕ) (words : List ℕ) (cells : List (Option Cell)) (rest : Rest) → IsPacked h words cells rest → h ≡ key_of (repeat_with cells rest)
hash-is h words cells rest p = p.hashed

module _ (h g : ℕ) (words others : List ℕ) (cells boards : List (Option Cell)) (rest tail : Rest) (one : IsPacked h words cells rest) (two : IsPacked g others boards tail) where
  pub packed-same : words ≡ others → rest ≡ tail → repeat_with cells rest ≡ repeat_with boards tail
  packed-same e f =
      let board = cells-same 40 cells boards one.hold.count two.hold.count one.hold.bytes two.hold.bytes (sym one.hold.are ∙ (e ∙ two.hold.are)) in
      λ i. repeat_with (board i) (f i)

  pub packed-words : repeat_with cells rest ≡ repeat_with boards tail → words ≡ others
  packed-words e = one.hold.are ∙ (ap (λ r. in_threes r.cells) e ∙ sym two.hold.are)

  pub packed-rest : repeat_with cells rest ≡ repeat_with boards tail → rest ≡ tail
  packed-rest e = λ i. record { hands = (e i).hands; gates = (e i).gates; rights = (e i).rights; checks = (e i).checks; ep = (e i).ep; side = (e i).side }

  pub packed-hash : repeat_with cells rest ≡ repeat_with boards tail → h ≡ g
  packed-hash e = one.hashed ∙ (ap key_of e ∙ sym two.hashed)

pub never : {P : Type 0} → (P → ⊥) → Decides false P
never wrong = (λ e. absurd (let f : ◌≡◌ {A = Bool} false true = e in cc), λ p. absurd (wrong p))
