-- What the lines of an input decide.
use Rattle.std.proofs.Common.{◌≡◌, ◌≤◌, ℕ, length, List, [], ◌++◌, inl, inr, Option, Some, None, refl, sym, ap, subst, ◌∙◌, map}
use Rattle.io_ports.specs.Lines.{Line, lines_of, pieces_of, line_of}
use Rattle.io_ports.proofs.Moved.{map_line-append}
use Rattle.game_text.specs.HeardLines.{HeardLines}
use Rattle.std.proofs.lemmas.List.{append-nil}
use Rattle.session_model.specs.Spoken.{IsInput, Decide}

-- ---- the lines of an input

-- The lines that were taken are the first of the input, no more than are needed, and decide.
pub record Settled (left : Option (List ℕ)) (lines : List Line) (needed : List Line → ℕ) (P : List Line → Type 0) : Type 0 where
  pub rest : List Line
  pub input : IsInput left (lines ++ rest)
  pub few : length lines ≤ needed (lines ++ rest)
  pub decided : Decide lines rest P
  pub holds : P (lines ++ rest)

lines_of-takes : (xs ys : List ℕ) (pieces : List (List ℕ)) (lines : List Line) → pieces_of xs ≡ pieces ++ pieces_of ys → map line_of pieces ≡ lines → lines_of xs ≡ lines ++ lines_of ys
lines_of-takes xs ys pieces lines cut is =
    ap (map line_of) cut ∙ map_line-append pieces (pieces_of ys) ∙ ap (λ l. l ++ lines_of ys) is

pub settle : (left left' : Option (List ℕ)) (needed : List Line → ℕ) (P : List Line → Type 0) (h : HeardLines left left' needed P) → Settled left h.lines needed P
settle None left' needed P h = elim h.holds [
  | inl (ended, holds) ↦ record { rest = []; input = tt; few = h.few []; decided = inl refl; holds = subst P (sym (append-nil h.lines)) holds }
  | inr holds ↦ record { rest = []; input = tt; few = h.few []; decided = inl refl; holds = holds [] }
]
settle (Some xs) None needed P h = absurd h.took
settle (Some xs) (Some ys) needed P h =
    let is = lines_of-takes xs ys h.took.0 h.lines h.took.1 h.took.2 in
    elim h.holds [
      | inl (ended, holds) ↦
          let none : lines_of ys ≡ [] = ap lines_of ended in
          record { rest = lines_of ys; input = is; few = h.few (lines_of ys); decided = inl none; holds = subst P (sym (append-nil h.lines) ∙ ap (λ l. h.lines ++ l) (sym none)) holds }
      | inr holds ↦ record { rest = lines_of ys; input = is; few = h.few (lines_of ys); decided = inr holds; holds = holds (lines_of ys) }
    ]
