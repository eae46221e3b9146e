-- A permutation of the lines carries the line numbers over; and the second of two such sheets as the first with other lists.
use Rattle.std.specs.Prelude.{◌≡◌, ℕ, take}
use Rattle.std.proofs.Common.{sym, ap, ◌∙◌, subst, get_or-take}
use mathlib.Core.List.{List, Permᴰ}
use Rattle.sheet.specs.declared.Counts.{Counts}
use Rattle.measures.specs.declared.Container.{Container}
use Rattle.measures.specs.declared.Kind.{Kind}
use Rattle.sheet.specs.declared.Line.{Line}
use Rattle.sheet.specs.declared.Sheet.{Sheet}
use Rattle.sheet.specs.Sheets.{no_line}
use Rattle.check_order.specs.Demand.{lines_of, Reordered, Renumbered}
use Rattle.check_order.specs.Permuted.{Places, places, first_few}

-- ---- the second sheet as the first with other lists: its container and its counts are the first's

abbrev pub other : Sheet → List Kind → List Line → List ℕ → Sheet
other s ks ls us = record { many = s.many; container = s.container; kinds = ks; lines = ls; unplaced = us }

pub as_other : (s t : Sheet) → s.container ≡ t.container → s.many ≡ t.many → other s t.kinds t.lines t.unplaced ≡ t
as_other s t c m =
    ap (λ (v : Container). record { many = s.many; container = v; kinds = t.kinds; lines = t.lines; unplaced = t.unplaced }) c
    ∙ ap (λ (v : Counts). record { many = v; container = t.container; kinds = t.kinds; lines = t.lines; unplaced = t.unplaced }) m

-- ---- a permutation carries the line numbers over

renumbered_other : (s : Sheet) (ks : List Kind) (ls : List Line) (us : List ℕ) → Permᴰ (lines_of s) (lines_of (other s ks ls us))
    → Renumbered s (other s ks ls us)
renumbered_other s ks ls us p =
    let n = s.many.lines in
    let m : Places no_line (take n s.lines) (take n ls) = places no_line p in
    record {
      to = m.to;
      back = m.back;
      to_below = λ i l. m.to_below n i (first_few no_line n s.lines) l;
      back_below = λ i l. m.back_below n i (first_few no_line n ls) l;
      back_to = λ i l. m.back_to i;
      to_back = λ i l. m.to_back i;
      same_line =
          λ i l.
          sym (get_or-take n ls (m.to i) no_line (m.to_below n i (first_few no_line n s.lines) l))
          ∙ m.same_there i
          ∙ get_or-take n s.lines i no_line l;
    }

pub renumbered : (s t : Sheet) → Reordered s t → Renumbered s t
renumbered s t r =
    let e = as_other s t r.same_container r.same_counts in
    subst (λ (u : Sheet). Renumbered s u) e
    (renumbered_other s t.kinds t.lines t.unplaced (subst (λ (u : Sheet). Permᴰ (lines_of s) (lines_of u)) (sym e) r.lines_permuted))
