-- The columns that are filled from an accepted file give the view of its sheet.
use mathlib.Core.Path.{◌≡◌, refl, sym, ap, ◌∙◌, subst}
use mathlib.Core.Bool.{Bool, true, false, cond}
use mathlib.Core.List.{List, [], ◌++◌, append_assoc}
use Prim.Native.Nat.{ℕ, ◌+◌, ◌*◌, ◌/◌, ◌<◌, ◌≤◌}
use native.Mathlib.Omega.{arith}
use borrow.Author.Tests.{ltb-true}
use lib.ListN.{length, get_or, replicate, length-replicate, get_or-replicate}
use lib.Ieee.{Float}
use Rattle.floats.specs.Ops.{none}
use Rattle.domain.specs.Bounds.{most_kinds}
use Rattle.lists.specs.Below.{all_below, sum_below, all_same}
use Rattle.lists.specs.Table.{filled, table, filled_at, filled_length, table_at}
use Rattle.measures.specs.declared.Kind.{Kind}
use Rattle.measures.specs.declared.Container.{Container}
use Rattle.sheet.specs.declared.Counts.{Counts}
use Rattle.sheet.specs.declared.Sheet.{Sheet}
use Rattle.sheet.specs.Sheets.{over_count, line_at}
use Rattle.file_read.specs.Reading.{sheet_of}
use Rattle.file_read.specs.Records.{kind_in, many_is, line_is}
use Rattle.file_accept.specs.declared as taking
use Rattle.file_accept.specs.Accept.{Taken}
use Rattle.check_list.specs.View.{no_counts, fair, lost_found, mass_found, lines_found, rest_found}
use Rattle.check_pair.specs.declared.Extent.{Extent}
use Rattle.check_words.specs.Boxes.{box_at}
use Rattle.check_list.specs.Held.{rule_of, view_in, lost_in, kinds_in, held, held_all, Wide, Ran, LinesRan}
use Rattle.check_list.specs.Alike.{lines_same}
use Rattle.check_packing.specs.Lines.{kind_of, known, kind_for, repeats, box_of, packed, short, mass_below, mass}
use Rattle.check_packing.specs.Findings.{view_of, wrongly_listed}
use Rattle.check_packing.specs.Columns.{kind_id, kind_many, kind_first, Ids, Many, Packed, Short, Listed, MarksRead, kind_named, box_read, short_in}
use Rattle.check_packing.specs.Columns.{counts_of, Unmarked}
use Rattle.check_packing.proofs.Read.{kinds_are, lines_are, unplaced_are, few_kinds, kind_read}

fair_same : (m : Counts) → over_count m ≡ false → fair m ≡ m
fair_same m h = ap (λ (b : Bool). cond b no_counts m) h

-- an array of so many marks, none of them set
pub unmarked : (s : Sheet) (m n : ℕ) → 0 < n → kind_first s m ≤ n → Unmarked s m (replicate n false)
unmarked s m n h k =
    record { some = rw length-replicate h; enough = rw length-replicate k; none_set = rw length-replicate refl }

module _ (f : List ℕ) (a : taking.Accepted.Accepted) (t : Taken f a) where
  abbrev s : Sheet
  s = sheet_of f

  -- the counts of the call are those of the sheet, which are within their bounds
  pub fair_is : fair (counts_of a) ≡ s.many
  fair_is =
      let e : counts_of a ≡ s.many = rw (kinds_are f a t, lines_are f a t, unplaced_are f a t) refl in
      ap fair e ∙ fair_same s.many (rw many_is at t.can_read.counts_right)

  -- ---- the lines

  -- the kind of a known line
  kind_named_lem : (i : ℕ) → known s (line_at s i) ≡ true → kind_in f (kind_named s i) ≡ kind_for s (line_at s i)
  unfolding known kind_for kind_named
  kind_named_lem i k =
      kind_read f a t (kind_of s (line_at s i).id) (rw (kinds_are f a t) (ltb-true (kind_of s (line_at s i).id) s.many.kinds k))

  -- columns that hold what is read of the lines
  module _ (which : List ℕ) (again : List Bool) (boxes : List Extent) (named : (i : ℕ) → i < a.lines → get_or which i 0 ≡ kind_named s i)
      (marked : (i : ℕ) → i < a.lines → get_or again i false ≡ repeats s i) (boxed : (i : ℕ) → i < a.lines → box_at boxes i ≡ box_read f i) where
    within : (i : ℕ) → i < s.many.lines → i < a.lines
    within i l = rw (lines_are f a t) l

    pub lines_held : (c : Container) → s.container ≡ c → lines_found (view_in f a.start again (rule_of s.many c) which boxes) ≡ lines_found (view_of s)
    unfolding known kind_named box_read
    lines_held c ec =
        lines_same (view_in f a.start again (rule_of s.many c) which boxes) (view_of s)
        (record {
          boxed =
              record {
                lines_are = refl;
                known_is = λ i l. rw (named i (within i l));
                box_is = λ i l k. boxed i (within i l) ∙ ap (λ (v : Kind). box_of (line_at s i) v) (kind_named_lem i k);
                case_is = λ i l. sym ec;
              };
          line_is = λ i l. line_is f a.start i t.can_read t.start_is (rw many_is l);
          kind_is = λ i l k. rw (named i (within i l)) (kind_named_lem i k);
          again_is = λ i l. marked i (within i l);
        })

  -- columns that were filled hold what is read of the lines, and are as long as before
  pub cells_read : {A : Type 0} (old : List A) {new : List A} (g : ℕ → A) (d : A) → new ≡ filled old g a.lines → a.lines ≤ length old
      → (i : ℕ) → i < a.lines → get_or new i d ≡ g i
  cells_read old g d e long i l = rw e (filled_at old g a.lines i d long l)

  pub wide_still : {which which' : List ℕ} {again again' : List Bool} {boxes boxes' : List Extent} → Wide a.lines which again boxes
      → which' ≡ filled which (kind_named s) a.lines → again' ≡ filled again (repeats s) a.lines → boxes' ≡ filled boxes (box_read f) a.lines
      → Wide a.lines which' again' boxes'
  wide_still {which} {which'} {again} {again'} {boxes} {boxes'} w e g h =
      record {
        few = w.few;
        which_long = rw (e, filled_length which (kind_named s) a.lines) w.which_long;
        again_long = rw (g, filled_length again (repeats s) a.lines) w.again_long;
        boxes_long = rw (h, filled_length boxes (box_read f) a.lines) w.boxes_long;
      }

  -- so many lines as there are count, where the columns have a cell for each
  pub all_held : (which : List ℕ) (again : List Bool) (boxes : List Extent) → Wide a.lines which again boxes → held (counts_of a) which again boxes ≡ s.many
  all_held which again boxes w =
      held_all (counts_of a) which again boxes (rw (fair_is, ← (lines_are f a t)) w) ∙ fair_is

  -- the findings of the lines, by columns that were filled
  pub lines_ran : {which which' : List ℕ} {again again' : List Bool} {boxes boxes' : List Extent} → Wide a.lines which again boxes
      → which' ≡ filled which (kind_named s) a.lines → again' ≡ filled again (repeats s) a.lines → boxes' ≡ filled boxes (box_read f) a.lines
      → (c : Container) → s.container ≡ c → (m : Counts) → m ≡ counts_of a → {o o' : List ℕ} {r : ℕ}
      → LinesRan f a.start (held m which' again' boxes') c which' again' boxes' o r o'
      → Ran o 0 (6 * s.many.lines + s.many.lines * s.many.lines / 2) (lines_found (view_of s)) r o'
  lines_ran {which} {which'} {again} {again'} {boxes} {boxes'} w e g h c ec m em {o} {o'} {r} ran =
      let k : held m which' again' boxes' ≡ s.many = ap (λ (n : Counts). held n which' again' boxes') em ∙ all_held which' again' boxes' (wide_still w e g h) in
      let found =
      lines_held which' again' boxes' (cells_read which (kind_named s) 0 e w.which_long) (cells_read again (repeats s) false g w.again_long)
      (cells_read boxes (box_read f) _ h w.boxes_long) c ec in
      subst (λ (ws : List ℕ). Ran o 0 (6 * s.many.lines + s.many.lines * s.many.lines / 2) ws r o') found
      (subst (λ (n : Counts). LinesRan f a.start n c which' again' boxes' o r o') k ran)

  -- ---- the kinds

  pub kinds_held : (c : Container) → s.container ≡ c → (w : Float) → w ≡ mass s → (ids : List ℕ) → Ids s a.kinds ids
      → (shorts listed : List Bool) → Short s a.kinds shorts → Listed s a.unplaced listed
      → kinds_in (fair (counts_of a)).kinds c w ids shorts listed ≡ mass_found (view_of s) ++ all_below (lost_found (view_of s)) s.many.kinds
  unfolding kinds_in lost_in mass_found lost_found kind_id
  kinds_held c ec w ew ids ei shorts listed es el =
      rw (fair_is, ew, ← ec)
      (ap (λ (ws : List ℕ). mass_found (view_of s) ++ ws)
      (all_same (lost_in ids shorts listed) (lost_found (view_of s)) s.many.kinds
      (λ k l.
      let m : k < a.kinds = rw (kinds_are f a t) l in
      rw (ei k m, es k m, el.marks k l, unplaced_are f a t))))

  -- with what the unplaced ids get
  pub rest_held : (c : Container) → s.container ≡ c → (w : Float) → w ≡ mass s → (ids : List ℕ) → Ids s a.kinds ids
      → (shorts listed : List Bool) → Short s a.kinds shorts → Listed s a.unplaced listed
      → kinds_in (fair (counts_of a)).kinds c w ids shorts listed ++ all_below (wrongly_listed s) a.unplaced ≡ rest_found (view_of s)
  unfolding rest_found
  rest_held c ec w ew ids ei shorts listed es el =
      rw (kinds_held c ec w ew ids ei shorts listed es el, unplaced_are f a t)
      (append_assoc (mass_found (view_of s)) (all_below (lost_found (view_of s)) s.many.kinds) (all_below (wrongly_listed s) s.many.unplaced))

  -- ---- no lines: they have no findings and no mass, and nothing is packed

  pub no_lines : a.lines ≡ 0 → lines_found (view_of s) ≡ []
  unfolding lines_found all_below
  no_lines e = rw (sym (lines_are f a t) ∙ e)

  pub no_mass : a.lines ≡ 0 → none ≡ mass s
  unfolding mass_below
  no_mass e = rw (sym (lines_are f a t) ∙ e)

  pub none_packed : a.lines ≡ 0 → {sums : List ℕ} → sums ≡ replicate most_kinds 0 → Packed s s.many.kinds sums
  unfolding packed sum_below
  none_packed e h k l =
      let m = few_kinds f a t in
      let n = kinds_are f a t in
      rw (h, sym (lines_are f a t) ∙ e) (get_or-replicate {A = ℕ} most_kinds k 0 0 (omega arith))

  -- ---- columns read cell by cell

  pub short_read : (sums many : List ℕ) {shorts : List Bool} → Packed s a.kinds sums → Many s a.kinds many
      → shorts ≡ table false most_kinds (short_in sums many) a.kinds → Short s a.kinds shorts
  unfolding short_in short kind_many
  short_read sums many p m e k l =
      rw e (table_at false most_kinds (short_in sums many) a.kinds k false (few_kinds f a t) l ∙ rw (p k l, m k l))

  pub ids_read : {ids : List ℕ} → ids ≡ table 0 most_kinds (kind_id s) a.kinds → Ids s a.kinds ids
  ids_read e k l = rw e (table_at 0 most_kinds (kind_id s) a.kinds k 0 (few_kinds f a t) l)

  pub many_read : {many : List ℕ} → many ≡ table 0 most_kinds (kind_many s) a.kinds → Many s a.kinds many
  many_read e k l = rw e (table_at 0 most_kinds (kind_many s) a.kinds k 0 (few_kinds f a t) l)

  pub marks_read : {which many firsts : List ℕ} → ((i : ℕ) → i < a.lines → get_or which i 0 ≡ kind_named s i) → Many s a.kinds many
      → firsts ≡ table 0 most_kinds (kind_first s) a.kinds → MarksRead f a which many firsts
  marks_read ew em ef =
      record {
        file_taken = t;
        which_is = ew;
        many_is = em;
        first_is = λ k l. rw ef (table_at 0 most_kinds (kind_first s) a.kinds k 0 (few_kinds f a t) l);
      }
