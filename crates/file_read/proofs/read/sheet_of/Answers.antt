-- `read::sheet_of` meets its contract: the sections of a file of the right shape lie within it.
use mathlib.Core.Path.{◌≡◌}
use mathlib.Core.List.{List}
use Prim.Native.Nat.{ℕ}
use native.Mathlib.Omega.{arith}
use Rattle.measures.specs.declared.Kind.{Kind}
use Rattle.measures.specs.declared.Container.{Container}
use Rattle.sheet.specs.declared.Counts.{Counts}
use Rattle.sheet.specs.declared.Line.{Line}
use Rattle.sheet.specs.declared.Sheet.{Sheet}
use Rattle.sheet.specs.Accepted.{Few}
use Rattle.file_read.specs.Form.{counts_of, lines_start, unplaced_start}
use Rattle.lists.specs.Table.{filled}
use Rattle.file_read.specs.Reading.{kinds_by, lines_by, ids_by, container_from, kinds_of, lines_of, ids_of, sheet_of}
use Rattle.file_read.specs.Records.{bounds}
use Rattle.file_read.specs.Shaped.{Within, within}
use Rattle.file_read.proofs.read.sheet_of.Goals as goal
use Rattle.file_read.proofs.read.sheet_of.Goals.{Start}

counts_few : (c : Start) → Few c.args.many
counts_few c = rw c.requires.1.0 (bounds _ c.requires.0)

inside : (c : Start) → Within c.args.f.now c.args.many
inside c = within _ _ c.requires.0.shape c.requires.1.0

-- what was read, section by section, is the sheet
sheet_is : (f : List ℕ) (m : Counts) (c : Container) (ks : List Kind) (ls : List Line) (is : List ℕ)
    → m ≡ counts_of f → c ≡ container_from f → ks ≡ kinds_of f m.kinds → ls ≡ lines_of f (lines_start f) m.lines → is ≡ ids_of f (unplaced_start f) m.unplaced
    → ◌≡◌ {A = Sheet} (record { many = m; container = c; kinds = ks; lines = ls; unplaced = is }) (sheet_of f)
unfolding sheet_of counts_of
sheet_is f m c ks ls is em ec ek el eu = rw (ec, ek, el, eu, em)

pub fill_table-requires : goal.fill_table-requires
fill_table-requires c =
    let s = (goal.at.fill_table-requires c).Start in
    (omega arith, ((counts_few s).kinds, (inside s).kinds_in))

pub fill_table-requires-2 : goal.fill_table-requires-2
fill_table-requires-2 c =
    let s = (goal.at.fill_table-requires-2 c).Start in
    (omega arith, ((counts_few s).lines, rw c.requires.1.1.0 (inside s).lines_in))

pub fill_table-requires-3 : goal.fill_table-requires-3
fill_table-requires-3 c =
    let s = (goal.at.fill_table-requires-3 c).Start in
    (omega arith, ((counts_few s).unplaced, rw c.requires.1.1.1 (inside s).ids_in))

pub returns : goal.returns
unfolding kinds_by lines_by ids_by filled
returns c =
    sheet_is _ _ _ _ _ _ c.requires.1.0 c.container_at-container.ensures (rw c.blank_kind-kinds.ensures at c.fill_table.ensures)
    (rw (c.requires.1.1.0, c.blank_line-lines.ensures) at c.fill_table-2.ensures) (rw c.requires.1.1.1 at c.fill_table-3.ensures)
