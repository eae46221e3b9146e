-- Which mark a line sets, and what a mark that is not yet set counts for: how distinct instances are counted.
use Rattle.std.specs.Prelude.{◌≡◌, Bool, cond, ◌&&◌, List, ℕ, zero, suc, ◌+◌, ◌<◌, ◌≤◌, eqb, length, get_or, set, replicate}
use Rattle.std.proofs.Math.Path.{refl}
use Rattle.std.proofs.Common.{sym, ◌∙◌, ⊎_elim, eq-or-lt_of_le, le_of_suc-le-suc, add-one, arith, ltb-true, ltb-false, eqb-true, length-set, get_or-set_same}
use Rattle.std.proofs.Common.{get_or-set_other}
use Rattle.std.proofs.Math.Bool.{true, false}
use Rattle.std.proofs.lemmas.Bool.{eqb-false}
use Rattle.std.proofs.Math.Dec.{ltb}
use Rattle.std.proofs.lemmas.List.{get_or-replicate}
use Rattle.domain.specs.Bounds.{most_lines}
use Rattle.lists.specs.Below.{any_below}
use Rattle.domain.specs.Refusals.{when}
use Rattle.lists.specs.Bools.{and_left, and_right}
use Rattle.sheet.specs.declared.Line.{Line}
use Rattle.plan_unplaced.specs.Short.{id_at, instance_at, is_placed, distinct_placed}
use Rattle.plan_unplaced.specs.Distinct.{placed_own, placed_other, placed_stranger, distinct_hit, distinct_miss}

unfoldable pub mark_of : Bool → ℕ → ℕ → ℕ
mark_of same instance quantity = cond (same && ltb instance quantity) instance most_lines

abbrev pub fresh_of : Bool → ℕ
fresh_of seen = cond seen 0 1

unfoldable pub no_marks : List Bool
no_marks = set (replicate (suc most_lines) false) most_lines true

-- ---- counting by marks is counting distinct instances

-- the marks after n lines: each instance in range has one exactly where it is placed, and the spare mark is set
pub record Marked (lines : List Line) (n id q : ℕ) (seen : List Bool) : Type 0 where
  pub long : length seen ≡ suc most_lines
  pub spare : get_or seen most_lines false ≡ true
  pub marks : (i : ℕ) → i < q → get_or seen i false ≡ is_placed lines n id i

pub marked_none : (lines : List Line) (id q : ℕ) → q ≤ most_lines → Marked lines 0 id q no_marks
unfolding no_marks is_placed any_below
marked_none lines id q h =
    record {
      long = refl;
      spare = refl;
      marks = λ i l. get_or-set_other (replicate (suc most_lines) false) most_lines i true false (λ e. omega arith)
          ∙ get_or-replicate (suc most_lines) i false false
          (omega arith);
    }

-- the marks and the count after one line more, which sets the mark `at`
pub record Stepped (lines : List Line) (n id q : ℕ) (seen : List Bool) (at : ℕ) : Type 0 where
  pub after : Marked lines (suc n) id q (set seen at true)
  pub counts : distinct_placed lines (suc n) id q ≡ distinct_placed lines n id q + fresh_of (get_or seen at false)

module _ (lines : List Line) (n id q : ℕ) (seen : List Bool) (small : q ≤ most_lines) (m : Marked lines n id q seen) where
  step_hit : eqb (id_at lines n) id ≡ true → instance_at lines n < q → Stepped lines n id q seen (instance_at lines n)
  step_hit e l =
      record {
        after =
            record {
              long = length-set seen (instance_at lines n) true ∙ m.long;
              spare = get_or-set_other seen (instance_at lines n) most_lines true false (λ d. omega arith) ∙ m.spare;
              marks = λ i k. own i k (eqb i (instance_at lines n)) refl;
            };
        counts = rw (m.marks (instance_at lines n) l) (adds _ _ (is_placed lines n id (instance_at lines n)) (distinct_hit lines n id q e l));
      }
    where
      own : (i : ℕ) → i < q → (b : Bool) → eqb i (instance_at lines n) ≡ b
          → get_or (set seen (instance_at lines n) true) i false ≡ is_placed lines (suc n) id i
      own i k true h =
          let d = eqb-true i (instance_at lines n) h in
          rw d (get_or-set_same seen (instance_at lines n) true false (rw m.long (omega arith)) ∙ sym (placed_own lines n id e))
      own i k false h =
          get_or-set_other seen (instance_at lines n) i true false (eqb-false i (instance_at lines n) h) ∙ m.marks i k
          ∙ sym (placed_other lines n id i (eqb-false i (instance_at lines n) h))

      adds : (a c : ℕ) (b : Bool) → a + when b 1 ≡ c + 1 → a ≡ c + fresh_of b
      adds a c true h = omega arith
      adds a c false h = omega arith

  step_miss : (eqb (id_at lines n) id && ltb (instance_at lines n) q) ≡ false → Stepped lines n id q seen most_lines
  step_miss h =
      record {
        after =
            record {
              long = length-set seen most_lines true ∙ m.long;
              spare = get_or-set_same seen most_lines true false (rw m.long (omega arith));
              marks = λ i k. get_or-set_other seen most_lines i true false (λ d. omega arith) ∙ m.marks i k ∙ sym (same i k (eqb (id_at lines n) id) refl);
            };
        counts = rw m.spare (let e = distinct_miss lines n id q h in omega arith);
      }
    where
      same : (i : ℕ) → i < q → (b : Bool) → eqb (id_at lines n) id ≡ b → is_placed lines (suc n) id i ≡ is_placed lines n id i
      same i l false e = placed_stranger lines n id i e
      same i l true e = placed_other lines n id i (λ d. omega (arith, ltb-false (instance_at lines n) q (rw e at h)))

  pub step : Stepped lines n id q seen (mark_of (eqb (id_at lines n) id) (instance_at lines n) q)
  unfolding mark_of
  step = go (eqb (id_at lines n) id && ltb (instance_at lines n) q) refl
    where
      go : (b : Bool) → (eqb (id_at lines n) id && ltb (instance_at lines n) q) ≡ b
          → Stepped lines n id q seen (cond b (instance_at lines n) most_lines)
      go true h = step_hit (and_left (eqb (id_at lines n) id) _ h) (ltb-true (instance_at lines n) q (and_right (eqb (id_at lines n) id) _ h))
      go false h = step_miss h

-- ---- several lines

-- the lines from `from` up to `to` are of other kinds
pub record Strangers (lines : List Line) (id from to : ℕ) : Type 0 where
  pub none_named : (j : ℕ) → from ≤ j → j < to → eqb (id_at lines j) id ≡ false

-- the same of ids
pub record Others (ids : List ℕ) (id from to : ℕ) : Type 0 where
  pub none_named : (j : ℕ) → from ≤ j → j < to → eqb (get_or ids j 0) id ≡ false

-- the ids of the first n lines, side by side
pub record Beside (lines : List Line) (n : ℕ) (ids : List ℕ) : Type 0 where
  pub each : (j : ℕ) → j < n → get_or ids j 0 ≡ id_at lines j

pub strangers_by : (lines : List Line) (ids : List ℕ) (n id from to : ℕ) → Beside lines n ids → to ≤ n → Others ids id from to → Strangers lines id from to
strangers_by lines ids n id from to b h o = record { none_named = λ j p q. rw (← (b.each j (omega arith))) (o.none_named j p q) }

-- the marks after the lines up to `to`, of which those from `from` on add so many
pub record Adds (lines : List Line) (from to id q added : ℕ) (seen : List Bool) : Type 0 where
  pub after : Marked lines to id q seen
  pub counts : distinct_placed lines to id q ≡ distinct_placed lines from id q + added

module _ (lines : List Line) (id q : ℕ) where
  pub adds_none : (from : ℕ) (seen : List Bool) → Marked lines from id q seen → Adds lines from from id q 0 seen
  adds_none from seen m = record { after = m; counts = omega arith }

  -- one line more
  pub adds_more : (from to added : ℕ) (seen : List Bool) (r : ℕ) (seen' : List Bool) → q ≤ most_lines → Adds lines from to id q added seen
      → r ≡ fresh_of (get_or seen (mark_of (eqb (id_at lines to) id) (instance_at lines to) q) false)
      → seen' ≡ set seen (mark_of (eqb (id_at lines to) id) (instance_at lines to) q) true → Adds lines from (to + 1) id q (added + r) seen'
  adds_more from to added seen r seen' small a e g =
      let s = step lines to id q seen small a.after in
      let c = s.counts in
      let d = a.counts in
      rw (add-one to) (record { after = rw g s.after; counts = rw e (omega arith) })

  -- lines of other kinds add none
  pub adds_strangers : (from to : ℕ) (seen : List Bool) → from ≤ to → Strangers lines id from to → Marked lines from id q seen
      → Adds lines from to id q 0 seen
  adds_strangers from zero seen h s m = let e : from ≡ 0 = omega arith in rw e (adds_none 0 seen (rw e at m))
  adds_strangers from (suc to) seen h s m =
      ⊎_elim (λ e. rw e (adds_none (suc to) seen (rw e at m)))
      (λ l.
      let k : from ≤ to = le_of_suc-le-suc l in
      let a = adds_strangers from to seen k (record { none_named = λ j b c. s.none_named j b (omega arith) }) m in
      let d = s.none_named to k (omega arith) in
      let c = a.counts in
      let g = distinct_miss lines to id q (rw d) in
      record {
        after = record {
          long = a.after.long;
          spare = a.after.spare;
          marks = λ i b. a.after.marks i b ∙ sym (placed_stranger lines to id i d);
        };
        counts = omega arith;
      })
      (eq-or-lt_of_le h)
