-- Demand 3, as definitions; proofs/OrderOfLines.antt has the theorems.
-- "Take two accepted sheets that differ only in the order of their placement lines, with room lent for all findings. By demand 2's meaning, each line gets
-- the same findings of its own, line numbers and repeats aside; each pair gets the same finding and the same distance; each kind and instance is called
-- repeated equally often; the findings on unplaced kinds come out identical. If all masses are whole numbers, the mass finding is identical too."
use Rattle.std.specs.Prelude.{◌≡◌, ◌⊎◌, Bool, true, false, ◌&&◌, ◌||◌, ℕ, ◌*◌, ◌<◌, eqb, length, take, Result, Ok, Err}
use mathlib.Core.List.{List, [], ◌∷◌, ◌++◌, Permᴰ}
use Rattle.floats.specs.Whole.{Whole}
use Rattle.sheet.specs.declared.Line.{Line}
use Rattle.sheet.specs.declared.Sheet.{Sheet}
use Rattle.sheet.specs.Sheets.{kind_at, line_at, unplaced_at, sheet_refusal}
use Rattle.domain.specs.declared.Refusal.{Refusal}
use Rattle.domain.specs.Refusal.{needed_of}
use Rattle.check_packing.specs.Check.{checked_of, cells_of}
use Rattle.check_words.specs.Words.{only_if}

-- ---- "two accepted sheets that differ only in the order of their placement lines"

-- the sheet's lines: as many of the list as it counts
abbrev pub lines_of : Sheet → List Line
lines_of s = take s.many.lines s.lines

-- What stands past a sheet's counts is not compared.
pub record Reordered (s t : Sheet) : Type 0 where
  pub accepted_first : sheet_refusal s ≡ 0
  pub accepted_second : sheet_refusal t ≡ 0
  pub same_container : s.container ≡ t.container
  pub same_counts : s.many ≡ t.many
  pub same_kinds : (k : ℕ) → k < s.many.kinds → kind_at s k ≡ kind_at t k
  pub same_unplaced : (i : ℕ) → i < s.many.unplaced → unplaced_at s i ≡ unplaced_at t i
  pub lines_permuted : Permᴰ (lines_of s) (lines_of t)

-- The same said by line numbers: line i of the first sheet is line `to i` of the second, one to one. A permutation gives such numbers (Reordered.antt).
pub record Renumbered (s t : Sheet) : Type 0 where
  pub to : ℕ → ℕ
  pub back : ℕ → ℕ
  pub to_below : (i : ℕ) → i < s.many.lines → to i < t.many.lines
  pub back_below : (i : ℕ) → i < t.many.lines → back i < s.many.lines
  pub back_to : (i : ℕ) → i < s.many.lines → back (to i) ≡ i
  pub to_back : (i : ℕ) → i < t.many.lines → to (back i) ≡ i
  pub same_line : (i : ℕ) → i < s.many.lines → line_at t (to i) ≡ line_at s i

-- ---- a list of words, read as findings

-- RULES: Findings: words. A finding is five words: its number, and four fields
pub record Finding : Type 0 where
  pub number : ℕ
  pub first : ℕ
  pub second : ℕ
  pub third : ℕ
  pub fourth : ℕ

abbrev pub finding : ℕ → ℕ → ℕ → ℕ → ℕ → Finding
finding c a b d e = record { number = c; first = a; second = b; third = d; fourth = e }

abbrev pub words_of : Finding → List ℕ
words_of f = f.number ∷ f.first ∷ f.second ∷ f.third ∷ f.fourth ∷ []

-- the words of the findings that pass the test, in their order
unfoldable pub pick : (Finding → Bool) → List ℕ → List ℕ
pick p [] = []
pick p (c ∷ []) = []
pick p (c ∷ a ∷ []) = []
pick p (c ∷ a ∷ b ∷ []) = []
pick p (c ∷ a ∷ b ∷ d ∷ []) = []
pick p (c ∷ a ∷ b ∷ d ∷ e ∷ ws) = only_if (p (finding c a b d e)) (c ∷ a ∷ b ∷ d ∷ e ∷ []) ++ pick p ws

-- the words with each finding changed alike
unfoldable pub change : (Finding → Finding) → List ℕ → List ℕ
change f [] = []
change f (c ∷ []) = []
change f (c ∷ a ∷ []) = []
change f (c ∷ a ∷ b ∷ []) = []
change f (c ∷ a ∷ b ∷ d ∷ []) = []
change f (c ∷ a ∷ b ∷ d ∷ e ∷ ws) = words_of (f (finding c a b d e)) ++ change f ws

-- ---- which findings are meant, by their numbers (RULES: Findings: words): each of the eleven is in one of these

-- one of these numbers
abbrev pub among : ℕ → List ℕ → Bool
among n [] = false
among n (m ∷ ms) = eqb n m || among n ms

-- "findings of its own, .. repeats aside", of line i: unknown, out of range, orientation, bin, outside
abbrev pub own_of : ℕ → Finding → Bool
own_of i f = among f.number (1 ∷ 2 ∷ 4 ∷ 5 ∷ 6 ∷ []) && eqb f.first i

-- of the pair of lines i and j, whichever of them stands first: overlap, too close
abbrev pub pair_of : ℕ → ℕ → Finding → Bool
pair_of i j f = among f.number (7 ∷ 8 ∷ []) && (eqb f.first i && eqb f.second j || eqb f.first j && eqb f.second i)

-- a line that names this kind and instance is called repeated
abbrev pub repeat_of : ℕ → ℕ → Finding → Bool
repeat_of id instance f = eqb f.number 3 && (eqb f.second id && eqb f.third instance)

-- "the findings on unplaced kinds": missing, wrongly unplaced
abbrev pub on_unplaced : Finding → Bool
on_unplaced f = among f.number (10 ∷ 11 ∷ [])

-- "the mass finding"
abbrev pub on_mass : Finding → Bool
on_mass f = eqb f.number 9

-- "line numbers .. aside": a line's finding without its line number, and a pair's without its two. The distance, its third field, stays.
abbrev pub line_aside : Finding → Finding
line_aside f = record { number = f.number; first = 0; second = f.second; third = f.third; fourth = f.fourth }

abbrev pub lines_aside : Finding → Finding
lines_aside f = record { number = f.number; first = 0; second = 0; third = f.third; fourth = f.fourth }

-- ---- "all masses are whole numbers"
abbrev pub WholeMasses : Sheet → Type 0
WholeMasses s = (k : ℕ) → k < s.many.kinds → Whole (kind_at s k).mass

-- ---- The demand, of two lists of words: the findings on s, and those on a sheet where line i of s is line `to i`.
pub record SameFindings (s : Sheet) (to : ℕ → ℕ) (a b : List ℕ) : Type 0 where
  -- "each line gets the same findings of its own, line numbers and repeats aside"
  pub own : (i : ℕ) → i < s.many.lines → change line_aside (pick (own_of i) a) ≡ change line_aside (pick (own_of (to i)) b)
  -- "each pair gets the same finding and the same distance"
  pub pair : (i j : ℕ) → i < s.many.lines → j < s.many.lines → change lines_aside (pick (pair_of i j) a) ≡ change lines_aside (pick (pair_of (to i) (to j)) b)
  -- "each kind and instance is called repeated equally often": five words each time
  pub repeated : (id instance : ℕ) → length (pick (repeat_of id instance) a) ≡ length (pick (repeat_of id instance) b)
  -- "the findings on unplaced kinds come out identical"
  pub unplaced : pick on_unplaced a ≡ pick on_unplaced b
  -- "If all masses are whole numbers, the mass finding is identical too."
  pub mass : WholeMasses s → pick on_mass a ≡ pick on_mass b

-- ---- A finding that SameFindings compares, on a sheet of n lines: one on a line, on a pair, on the mass or on unplaced kinds. (3 is by its kind and
-- instance.)
abbrev pub Compared : ℕ → Finding → Type 0
Compared n f =
    ((among f.number (1 ∷ 2 ∷ 3 ∷ 4 ∷ 5 ∷ 6 ∷ []) ≡ true) × (f.first < n))
    ⊎ (((among f.number (7 ∷ 8 ∷ []) ≡ true) × (f.first < f.second) × (f.second < n))
    ⊎ (among f.number (9 ∷ 10 ∷ 11 ∷ []) ≡ true))

-- whole findings, each of which is so
abbrev pub Each : (Finding → Type 0) → List ℕ → Type 0
Each q [] = Unit {0}
Each q (c ∷ []) = ⊥
Each q (c ∷ a ∷ []) = ⊥
Each q (c ∷ a ∷ b ∷ []) = ⊥
Each q (c ∷ a ∷ b ∷ d ∷ []) = ⊥
Each q (c ∷ a ∷ b ∷ d ∷ e ∷ ws) = q (finding c a b d e) × Each q ws

-- as many as an answer says, also where there is no room for them
abbrev pub count_in : Result ℕ Refusal → ℕ
count_in (Ok n) = n
count_in (Err r) = needed_of r

-- ---- what a call of `check_packing` writes into the lent cells `o`: as many findings as it answers, five words each
abbrev pub written : Sheet → List ℕ → List ℕ
written s o = take (5 * count_in (checked_of s o)) (cells_of s o)
