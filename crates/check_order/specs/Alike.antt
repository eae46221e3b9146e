-- The findings on two sheets that hold the same are the same, whatever cells they have past those that count: so larger counts change no finding.
use Prim.Native.Nat.{ℕ, zero, suc, ◌<◌, ◌≤◌}
use Rattle.std.specs.Prelude.{◌≡◌, Bool, true, false, get_or, Float}
use Rattle.std.proofs.Math.Path.{refl, sym, ap}
use Rattle.std.proofs.Common.{◌∙◌, le_refl, arith}
use mathlib.Core.List.{List, ◌++◌}
use Rattle.lists.specs.Below.{any_same, all_same, sum_same}
use Rattle.measures.specs.declared.Kind.{Kind}
use Rattle.sheet.specs.declared.Line.{Line}
use Rattle.sheet.specs.declared.Sheet.{Sheet}
use Rattle.sheet.specs.Sheets.{Most, most_now, no_kind, no_line, kind_at, line_at, unplaced_at}
use Rattle.sheet.specs.Alike.{Alike}
use Rattle.file_read.specs.Reading.{sheet_by, refusal_by, sheet_of}
use Rattle.file_laws.specs.Counts.{Within, sheet_now, reads_alike}
use Rattle.file_laws.specs.Before.{most_before, before_within}
use Rattle.check_list.specs.View.{mass_found, lines_found, rest_found, in_two}
use Rattle.check_list.specs.Alike.{AlikeLines, lines_same}
use Rattle.check_packing.specs.Lines.{known, kind_for, same_as, again, repeats, packs, packed, short, box_of, mass_with, mass_below}
use Rattle.check_packing.specs.Findings.{view_of, missing, wrongly_listed, findings}
use Rattle.check_order.specs.Reordered.{other, as_other}
use Rattle.check_order.specs.Kinds.{kind_of_same, known_same, kind_for_same, counted_same}
use Rattle.check_order.specs.Unplaced.{missing_same, wrong_same}

-- the mass with one line more: of an unknown line the kind is not looked at
with_same : (b c : Bool) (m : Float) (k h : Kind) → b ≡ c → (b ≡ true → k ≡ h) → mass_with m b k ≡ mass_with m c h
with_same true c m k h e f = ap (mass_with m true) (f refl) ∙ ap (λ (v : Bool). mass_with m v h) e
with_same false c m k h e f = ap (λ (v : Bool). mass_with m v h) e

-- ---- a sheet, and the same with other lists that agree with its own below the counts

module _ (s : Sheet) (ks : List Kind) (ls : List Line) (us : List ℕ)
    (same_kinds : (k : ℕ) → k < s.many.kinds → kind_at s k ≡ get_or ks k no_kind)
    (same_lines : (i : ℕ) → i < s.many.lines → line_at s i ≡ get_or ls i no_line)
    (same_ids : (i : ℕ) → i < s.many.unplaced → unplaced_at s i ≡ get_or us i 0) where
  abbrev t : Sheet
  t = other s ks ls us

  -- the copies that earlier lines name
  again_same : (i : ℕ) → i < s.many.lines → again s.lines i ≡ again ls i
  unfolding again same_as
  again_same i l = any_same (same_as s.lines i) (same_as ls i) i (λ j m. rw (same_lines j (omega arith), same_lines i l))

  -- the copies that are packed
  packs_same : (k i : ℕ) → i < s.many.lines → packs s k i ≡ packs t k i
  unfolding packs
  packs_same k i l =
      rw (
        counted_same s ks ls us same_kinds (line_at s i),
        kind_of_same s ks ls us same_kinds (line_at s i).id,
        again_same i l,
        same_lines i l,
      )

  -- which kinds are short
  short_same : (k : ℕ) → k < s.many.kinds → short s k ≡ short t k
  unfolding short packed
  short_same k l = rw (sum_same (packs s k) (packs t k) s.many.lines (packs_same k), same_kinds k l)

  -- whether a line's kind is known
  known_is : (i : ℕ) → i < s.many.lines → known s (line_at s i) ≡ known t (line_at t i)
  known_is i l = known_same s ks ls us same_kinds (line_at s i) ∙ ap (known t) (same_lines i l)

  -- that kind
  kind_is : (i : ℕ) → i < s.many.lines → known t (line_at t i) ≡ true → kind_for s (line_at s i) ≡ kind_for t (line_at t i)
  kind_is i l e = kind_for_same s ks ls us same_kinds (line_at s i) (known_is i l ∙ e) ∙ ap (kind_for t) (same_lines i l)

  -- whether a line repeats an earlier one's copy
  again_is : (i : ℕ) → i < s.many.lines → repeats s i ≡ repeats t i
  again_is i l = rw (counted_same s ks ls us same_kinds (line_at s i), again_same i l, same_lines i l)

  -- so the two views agree on all that a line is judged by
  alike_lines : AlikeLines (view_of s) (view_of t)
  alike_lines =
      record {
        boxed =
            record {
              lines_are = refl;
              known_is = known_is;
              box_is = λ i l e. ap (box_of (line_at s i)) (kind_is i l e) ∙ ap (λ (v : Line). box_of v (kind_for t (line_at t i))) (same_lines i l);
              case_is = λ i l. refl;
            };
        line_is = same_lines;
        kind_is = kind_is;
        again_is = again_is;
      }

  -- the mass of the first n lines
  mass_same : (n : ℕ) → n ≤ s.many.lines → mass_below s n ≡ mass_below t n
  unfolding mass_below
  mass_same zero h = refl
  mass_same (suc n) h =
      let l = line_at s n in
      ap (λ (v : Float). mass_with v (known s l) (kind_for s l)) (mass_same n (omega arith))
      ∙ with_same (known s l) (known t l) (mass_below t n) (kind_for s l) (kind_for t l) (known_same s ks ls us same_kinds l)
      (kind_for_same s ks ls us same_kinds l)
      ∙ ap (λ (v : Line). mass_with (mass_below t n) (known t v) (kind_for t v)) (same_lines n (omega arith))

  -- the findings on mass and unplaced kinds
  rest_same : rest_found (view_of s) ≡ rest_found (view_of t)
  unfolding rest_found mass_found
  rest_same =
      rw (
        all_same (missing s) (missing t) s.many.kinds (missing_same s ks ls us same_kinds same_ids short_same),
        all_same (wrongly_listed s) (wrongly_listed t) s.many.unplaced (wrong_same s ks ls us same_kinds same_ids short_same),
        mass_same s.many.lines (le_refl s.many.lines),
      )

  -- all findings
  findings_other : findings s ≡ findings t
  unfolding findings
  findings_other =
      sym (in_two (view_of s))
      ∙ ap (λ (v : List ℕ). v ++ rest_found (view_of s)) (lines_same (view_of s) (view_of t) alike_lines)
      ∙ ap (λ (v : List ℕ). lines_found (view_of t) ++ v) rest_same
      ∙ in_two (view_of t)

-- **sheets that are alike get the same findings**
pub findings_alike : (s t : Sheet) → Alike s t → findings s ≡ findings t
findings_alike s t a =
    findings_other s t.kinds t.lines t.unplaced a.kind_is a.line_is a.id_is
    ∙ ap findings (as_other s t a.container_is a.many_is)

-- **with larger counts the findings on an accepted file are the same**
pub findings_same : (m n : Most) → Within m n → (f : List ℕ) → refusal_by m f ≡ 0 → findings (sheet_by m f) ≡ findings (sheet_by n f)
findings_same m n w f h = findings_alike (sheet_by m f) (sheet_by n f) (reads_alike m n w f h)

-- **and so are those on a file that was accepted when 256 boxes and lines were the most**
pub findings_since : (f : List ℕ) → refusal_by most_before f ≡ 0 → findings (sheet_by most_before f) ≡ findings (sheet_of f)
findings_since f h = findings_same most_before most_now before_within f h ∙ ap findings (sym (sheet_now f))
