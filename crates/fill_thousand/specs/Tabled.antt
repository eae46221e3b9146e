-- The ids and volumes of a sheet's kinds in two columns, and a line's volume by them.
use Rattle.std.specs.Prelude.{◌≡◌, ℕ, ◌<◌, ◌≤◌, List, length, replicate, ◌==◌, slice_index}
use Rattle.std.proofs.Common.{arith}
use Rattle.std.proofs.lemmas.List.{length-replicate}
use Rattle.domain.specs.Bounds.{most_kinds}
use Rattle.lists.specs.Below.{sum_below, sum_same}
use Rattle.domain.specs.Refusals.{when}
use Rattle.sheet.specs.declared.Sheet.{Sheet}
use Rattle.sheet.specs.Sheets.{kind_at}
use Rattle.sheet.specs.Accepted.{Accepted}
use Rattle.file_read.specs.Form.{lines_start, counts_of}
use Rattle.file_read.specs.Reading.{sheet_of}
use Rattle.file_read.specs.Records.{Readable}
use Rattle.lists.specs.Table.{filled, filled_at}
use Rattle.fill_thousand.specs.Known.{solid_most}
use Rattle.fill_thousand.specs.Fill.{most_solid, solid_of, solid_named, solid_if}

-- the id and the volume of kind k
unfoldable pub kind_id : Sheet → ℕ → ℕ
kind_id s k = (kind_at s k).id

unfoldable pub kind_solid : Sheet → ℕ → ℕ
kind_solid s k = solid_of (kind_at s k).size

-- the columns of the first m kinds
pub record Tabled (s : Sheet) (m : ℕ) (ids solids : List ℕ) : Type 0 where
  pub few : m ≤ most_kinds
  pub id_at : (k : ℕ) → k < m → slice_index ids k ≡ kind_id s k
  pub solid_at : (k : ℕ) → k < m → slice_index solids k ≡ kind_solid s k

pub tabled : (s : Sheet) (m : ℕ) (ids solids : List ℕ)
    → m ≤ most_kinds → ids ≡ filled (replicate most_kinds 0) (kind_id s) m → solids ≡ filled (replicate most_kinds 0) (kind_solid s) m → Tabled s m ids solids
tabled s m ids solids h ei es =
    let l : length (replicate {A = ℕ} most_kinds 0) ≡ most_kinds = length-replicate {A = ℕ} most_kinds 0 in
    rw (ei, es)
    (record {
      few = h;
      id_at = λ k b. filled_at (replicate most_kinds 0) (kind_id s) m k 0 (omega arith) b;
      solid_at = λ k b. filled_at (replicate most_kinds 0) (kind_solid s) m k 0 (omega arith) b;
    })

-- the first m volumes of a column are volumes of sides
abbrev pub Small : List ℕ → ℕ → Type 0
Small solids m = (k : ℕ) → k < m → slice_index solids k ≤ most_solid

pub small : (s : Sheet) (m : ℕ) (ids solids : List ℕ) → Tabled s m ids solids → Small solids m
unfolding kind_solid
small s m ids solids t k l = rw (t.solid_at k l) (solid_most (kind_at s k).size)

-- ---- the volume of the kinds that have an id
unfoldable pub volume_if : List ℕ → List ℕ → ℕ → ℕ → ℕ
volume_if ids solids id k = when (slice_index ids k == id) (slice_index solids k)

pub volume_same : (s : Sheet) (m : ℕ) (ids solids : List ℕ) (id : ℕ)
    → Tabled s m ids solids → sum_below (volume_if ids solids id) m ≡ sum_below (solid_if s.kinds id) m
unfolding volume_if solid_if solid_named kind_id kind_solid
volume_same s m ids solids id t =
    sum_same (volume_if ids solids id) (solid_if s.kinds id) m (λ k l. rw (t.id_at k l, t.solid_at k l))

-- ---- what the loop over the lines may rest on: the file is accepted, its n lines start there, and the columns hold its m kinds
pub record Loading (f : List ℕ) (start n m : ℕ) (ids solids : List ℕ) : Type 0 where
  pub can_read : Readable f
  pub sound : Accepted (sheet_of f)
  pub start_is : start ≡ lines_start f
  pub lines_are : n ≡ (counts_of f).lines
  pub kinds_are : m ≡ (sheet_of f).many.kinds
  pub table : Tabled (sheet_of f) m ids solids
