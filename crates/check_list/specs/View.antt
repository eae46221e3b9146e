-- The findings over a view of a sheet: what they look at, by the number of a line, a kind or an unplaced id. A sheet gives one view
-- (check_packing: view_of), and the columns that are filled from its bytes hold it.
use Rattle.std.specs.Prelude.{ℕ, ◌≡◌, refl, Bool, true, false, cond, ◌&&◌, List, ◌++◌, ltb, get_or, Float}
use Rattle.std.proofs.Common.{append_assoc, arith}
use Rattle.lists.specs.Below.{any_below, all_below, is_at}
use Rattle.measures.specs.declared.Kind.{Kind}
use Rattle.measures.specs.declared.Container.{Container}
use Rattle.measures.specs.Asked.{asked_of}
use Rattle.sheet.specs.declared.Counts.{Counts}
use Rattle.sheet.specs.declared.Line.{Line}
use Rattle.sheet.specs.Sheets.{over_count}
use Rattle.sheet.specs.Accepted.{Few, few}
use Rattle.check_pair.specs.declared.Extent.{Extent}
use Rattle.check_pair.specs.declared.Verdict.{Verdict}
use Rattle.check_pair.specs.Pair.{verdict_of}
use Rattle.check_pair.specs.Tolerance.{tolerance_of}
use Rattle.check_words.specs.Words.{only_if}
use Rattle.check_list.specs.Finding.{name_words, repeat_words, place_words, verdict_words, mass_words, lost_words, wrong_words}

-- Cases are numbered: a line is judged in one of them, and the mass is a case's. There is one case, number 0.
pub record View : Type 0 where
  pub many : Counts
  -- line i, whether a kind of the sheet has its id, that kind, whether it repeats an earlier line's copy, its box, its case
  pub line : ℕ → Line
  pub known : ℕ → Bool
  pub kind : ℕ → Kind
  pub repeated : ℕ → Bool
  pub box : ℕ → Extent
  pub case : ℕ → ℕ
  -- of a case: its container, and the mass in it
  pub container : ℕ → Container
  pub mass : ℕ → Float
  -- kind k's id, and whether fewer of it are packed than there are
  pub id : ℕ → ℕ
  pub short : ℕ → Bool
  -- the unplaced ids; whether a kind of the sheet has unplaced id i, and whether that kind is short
  pub unplaced : List ℕ
  pub left_known : ℕ → Bool
  pub left_short : ℕ → Bool

-- the container that line i is in, and its tolerance
abbrev pub around : View → ℕ → Container
around v i = v.container (v.case i)

abbrev pub tolerance_in : View → ℕ → Float
tolerance_in v i = tolerance_of (around v i).size

-- all that line i gets. RULES: Findings: lines
unfoldable pub line_found : View → ℕ → List ℕ
line_found v i =
    name_words i (v.line i) (v.known i) (v.kind i)
    ++ (repeat_words i (v.line i) (v.repeated i) ++ place_words (around v i) i (v.line i) (v.known i) (v.kind i) (v.box i))

-- the verdict on two lines of known kinds, at the distance that their container asks
unfoldable pub verdict_found : View → ℕ → ℕ → Verdict
verdict_found v i j = verdict_of (v.box i) (v.box j) (asked_of (around v i)) (tolerance_in v i)

-- what lines i and j get, where i comes first. RULES: Findings: pairs
unfoldable pub pair_found : View → ℕ → ℕ → List ℕ
pair_found v i j = only_if (ltb i j) (only_if (v.known i && v.known j) (verdict_words i j (asked_of (around v i)) (verdict_found v i j)))

unfoldable pub pairs_found : View → ℕ → List ℕ
pairs_found v i = all_below (pair_found v i) v.many.lines

-- RULES: Findings: mass
unfoldable pub mass_found : View → List ℕ
mass_found v = mass_words (v.mass 0) (v.container 0).limit (tolerance_of (v.container 0).size)

-- kind k that is missing, unplaced id i that is wrongly listed. RULES: Findings: unplaced
unfoldable pub lost_found : View → ℕ → List ℕ
lost_found v k = lost_words (v.id k) (v.short k) (any_below (is_at v.unplaced (v.id k)) v.many.unplaced)

unfoldable pub wrong_found : View → ℕ → List ℕ
wrong_found v i =
    let id = get_or v.unplaced i 0 in
    wrong_words id (v.left_known i) (v.left_short i) (any_below (is_at v.unplaced id) i)

-- line by line; then the pairs; then the mass; then the missing kinds in order; then the wrongly listed ids in order
unfoldable pub findings_of : View → List ℕ
findings_of v =
    all_below (line_found v) v.many.lines
    ++ (all_below (pairs_found v) v.many.lines
    ++ (mass_found v
    ++ (all_below (lost_found v) v.many.kinds
    ++ all_below (wrong_found v) v.many.unplaced)))

-- ---- the same in two parts: the lines with their pairs, and what follows them

unfoldable pub lines_found : View → List ℕ
lines_found v = all_below (line_found v) v.many.lines ++ all_below (pairs_found v) v.many.lines

unfoldable pub rest_found : View → List ℕ
rest_found v = mass_found v ++ (all_below (lost_found v) v.many.kinds ++ all_below (wrong_found v) v.many.unplaced)

pub in_two : (v : View) → lines_found v ++ rest_found v ≡ findings_of v
unfolding findings_of lines_found rest_found
in_two v = append_assoc (all_below (line_found v) v.many.lines) (all_below (pairs_found v) v.many.lines) _

-- ---- counts over their bounds count for nothing

abbrev pub no_counts : Counts
no_counts = record { kinds = 0; lines = 0; unplaced = 0 }

abbrev pub fair : Counts → Counts
fair m = cond (over_count m) no_counts m

pub fair_few : (m : Counts) → Few (fair m)
fair_few m = go (over_count m) refl
  where
    go : (b : Bool) → over_count m ≡ b → Few (cond b no_counts m)
    go true h = record { kinds = omega arith; lines = omega arith; unplaced = omega arith }
    go false h = few m h
