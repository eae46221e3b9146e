-- What bytes and columns hold: the view that they give of the lines, the words that they give to the kinds; and what a run over them does.
use Rattle.std.specs.Prelude.{ℕ, ◌+◌, ◌*◌, ◌/◌, ◌-◌, ◌<◌, ◌≤◌, ◌≡◌, refl, Bool, true, false, cond, ◌||◌, List, [], ◌++◌, ltb, length, get_or, Float}
use Rattle.std.proofs.Common.{arith, ltb-false, le-ltb}
use Rattle.floats.specs.Ops.{none}
use Rattle.lists.specs.Below.{all_below}
use Rattle.domain.specs.Bounds.{most_lines}
use Rattle.lists.specs.Bools.{or_left, or_right}
use Rattle.measures.specs.declared.Container.{Container}
use Rattle.sheet.specs.declared.Counts.{Counts}
use Rattle.file_read.specs.Records.{kind_in, line_in}
use Rattle.check_pair.specs.Tolerance.{tolerance_of}
use Rattle.check_pair.specs.declared.Extent.{Extent}
use Rattle.check_words.specs.Boxes.{box_at}
use Rattle.check_words.specs.Wrote.{Wrote}
use Rattle.check_list.specs.declared.Rule.{Rule}
use Rattle.check_list.specs.Finding.{mass_words, lost_words}
use Rattle.check_list.specs.View.{View, lines_found, no_counts, fair, fair_few}

-- ---- lines

-- columns that lack a cell for one of n lines: the places of their kinds, which are repeated, their boxes
abbrev pub narrow : ℕ → List ℕ → List Bool → List Extent → Bool
narrow n which again boxes = ltb (length which) n || (ltb (length again) n || ltb (length boxes) n)

-- counts over their bounds count for nothing, and neither do those of more lines than the columns have
abbrev pub held : Counts → List ℕ → List Bool → List Extent → Counts
held m which again boxes = cond (narrow (fair m).lines which again boxes) no_counts (fair m)

-- what lines are judged by where there are so many, in this container
abbrev pub rule_of : Counts → Container → Rule
rule_of m c = record { kinds = m.kinds; lines = m.lines; case = c; slack = tolerance_of c.size }

-- the view of lines whose records stand in bytes from a place on: a line is known where the place of its kind is one. Of mass, kinds
-- and unplaced ids it has nothing.
abbrev pub view_in : List ℕ → ℕ → List Bool → Rule → List ℕ → List Extent → View
view_in f start again r which boxes =
    record {
      many = record { kinds = r.kinds; lines = r.lines; unplaced = 0 };
      line = λ i. line_in f start i;
      known = λ i. ltb (get_or which i 0) r.kinds;
      kind = λ i. kind_in f (get_or which i 0);
      repeated = λ i. get_or again i false;
      box = λ i. box_at boxes i;
      case = λ i. 0;
      container = λ b. r.case;
      mass = λ b. none;
      id = λ k. 0;
      short = λ k. false;
      unplaced = [];
      left_known = λ i. false;
      left_short = λ i. false;
    }

-- the same of their boxes alone, which is all that pairs are judged by
abbrev pub boxes_in : Rule → List ℕ → List Extent → View
boxes_in r which boxes = view_in [] 0 [] r which boxes

-- ---- kinds

-- what kind k gets: its id, whether it is short, whether it is listed as unplaced
unfoldable pub lost_in : List ℕ → List Bool → List Bool → ℕ → List ℕ
lost_in ids short listed k = lost_words (get_or ids k 0) (get_or short k false) (get_or listed k false)

-- the mass in a container, then what the first m kinds get
unfoldable pub kinds_in : ℕ → Container → Float → List ℕ → List Bool → List Bool → List ℕ
kinds_in m c mass ids short listed = mass_words mass c.limit (tolerance_of c.size) ++ all_below (lost_in ids short listed) m

-- ---- what a run does

-- r and o' after the words ws were written to the cells o from `at`: at most so many findings
pub record Ran (o : List ℕ) (at most : ℕ) (ws : List ℕ) (r : ℕ) (o' : List ℕ) : Type 0 where
  pub words : Wrote o at ws r o'
  pub few : r ≤ at + 5 * most

-- the lines and their pairs by the columns: so many lines, in this container
abbrev pub LinesRan : List ℕ → ℕ → Counts → Container → List ℕ → List Bool → List Extent → List ℕ → ℕ → List ℕ → Type 0
LinesRan f start m c which again boxes o r o' =
    Ran o 0 (6 * m.lines + m.lines * m.lines / 2) (lines_found (view_in f start again (rule_of m c) which boxes)) r o'

-- the same for a part of a loop's turns: what stood before it stands up to `from`, and afterwards up to `to`
pub record Went (o : List ℕ) (at : ℕ) (g : ℕ → List ℕ) (from to r : ℕ) (o' : List ℕ) : Type 0 where
  pub as_long : length o' ≡ length o
  pub few : r ≤ at + 5 * (to - from)
  pub words : (b : List ℕ) (p : ℕ) → Wrote b p (all_below g from) at o → Wrote b p (all_below g to) r o'

-- no finding on a line or a pair begins past so many cells
abbrev pub most_line_words : ℕ
most_line_words = 5 * (6 * most_lines + most_lines * most_lines / 2)

-- the same for a run that follows those: it may begin anywhere, and writes nothing where they cannot end
pub record Followed (o : List ℕ) (at most : ℕ) (ws : List ℕ) (r : ℕ) (o' : List ℕ) : Type 0 where
  pub within : at ≤ most_line_words → Ran o at most ws r o'
  pub past : most_line_words < at → Wrote o at [] r o'

-- ---- the columns have a cell for each line that counts

pub record Wide (n : ℕ) (which : List ℕ) (again : List Bool) (boxes : List Extent) : Type 0 where
  pub few : n ≤ most_lines
  pub which_long : n ≤ length which
  pub again_long : n ≤ length again
  pub boxes_long : n ≤ length boxes

pub held_wide : (m : Counts) (which : List ℕ) (again : List Bool) (boxes : List Extent) → Wide (held m which again boxes).lines which again boxes
held_wide m which again boxes = go (narrow (fair m).lines which again boxes) refl
  where
    go : (b : Bool) → narrow (fair m).lines which again boxes ≡ b → Wide (cond b no_counts (fair m)).lines which again boxes
    go true h = record { few = omega arith; which_long = omega arith; again_long = omega arith; boxes_long = omega arith }
    go false h =
        let r = or_right (ltb (length which) (fair m).lines) _ h in
        record {
          few = (fair_few m).lines;
          which_long = ltb-false _ _ (or_left (ltb (length which) (fair m).lines) _ h);
          again_long = ltb-false _ _ (or_left (ltb (length again) (fair m).lines) _ r);
          boxes_long = ltb-false _ _ (or_right (ltb (length again) (fair m).lines) _ r);
        }

-- where they have one for each there is, all count
pub held_all : (m : Counts) (which : List ℕ) (again : List Bool) (boxes : List Extent) → Wide (fair m).lines which again boxes
    → held m which again boxes ≡ fair m
held_all m which again boxes w = rw (le-ltb _ _ w.which_long, le-ltb _ _ w.again_long, le-ltb _ _ w.boxes_long)
