-- Whether a box is too heavy, and the point and the orientation of the next box. RULES: First placer: run
use Rattle.std.specs.Prelude.{◌≡◌, Bool, not, cond, ◌&&◌, List, ltb, length, Float, Option, Some, None, is_some}
use Rattle.std.specs.Option.{option_or, option_map}
use Rattle.std.proofs.Math.Path.{refl}
use Rattle.std.proofs.Common.{eq-or-lt_of_le, le_of_suc-le-suc, not-suc-le-zero, add-one, lt-ltb, ltb-true}
use Rattle.std.proofs.Math.Bool.{true}
use Rattle.std.proofs.Math.Logic.{⊎_elim}
use Prim.Native.Nat.{ℕ, zero, suc, ◌+◌, ◌<◌}
use Rattle.std.proofs.lemmas.Bool.{not-true}
use Rattle.std.specs.Float.Ieee.{lt}
use Rattle.floats.specs.Ops.{none, ◌⊕◌}
use Rattle.lists.specs.Bools.{and_left, and_right, cond_cases}
use Rattle.domain.specs.Bounds.{most_boxes}
use Rattle.measures.specs.declared.Kind.{Kind}
use Rattle.measures.specs.Asked.{has_mass}
use Rattle.measures.specs.Orders.{lengths_in}
use Rattle.point_state.specs.Counts.{over_counts, Within, within_counts, not_over}
use Rattle.point_fit.specs.declared.Room.{Room}
use Rattle.point_scan.specs.declared.Walls.{Walls}
use Rattle.point_scan.specs.Choose.{scan_found}
use Rattle.point_scan.specs.Walls.{scan_of, scanned_of, over_stores, hints_in}
use Rattle.point_step.specs.declared.Pick.{Pick}

-- the box's mass would bring the total over the limit. A limit that is not above 0 is none, and a box without a mass is never too heavy.
unfoldable pub too_heavy : Float → Float → Kind → Bool
too_heavy limit total kind = (lt none limit && has_mass kind.massed) && lt limit (total ⊕ kind.mass)

-- the counts are within their bounds, with one box less than there can be, and stores of so many rows take what one box more leaves: two points, the box,
-- and its walls
unfoldable pub spare : (points boxes walls live held : ℕ) → Bool
spare points boxes walls live held =
    not (over_counts live held)
    && (ltb held most_boxes && (ltb (live + 1) points && (ltb held boxes && ltb held walls)))

-- by the choice that each orientation makes: the first of the first n that finds a point
unfoldable pub pick_by : (ℕ → Option ℕ) → ℕ → Option Pick
pick_by choice zero = None
pick_by choice (suc o) = option_or (pick_by choice o) (option_map (λ k. record { index = k; orientation = o }) (choice o))

-- the hints after the first n orientations: each that is tried leaves those of its scan
unfoldable pub hints_by : (ℕ → Option ℕ) → (ℕ → List ℕ → List ℕ) → List ℕ → ℕ → List ℕ
hints_by choice scan hints zero = hints
hints_by choice scan hints (suc o) =
    let h = hints_by choice scan hints o in cond (is_some (pick_by choice o)) h (scan o h)

-- over stores with m hints: each orientation by a scan of the points
module _ (room : Room) (walls : List Walls) (held : ℕ) (points : List (List Float)) (live : ℕ) (kind : Kind) (m : ℕ) where
  abbrev pub choice_in : ℕ → Option ℕ
  choice_in o = scanned_of room walls held (lengths_in kind o) points live m

  unfoldable pub pick_of : ℕ → Option Pick
  pick_of n = pick_by choice_in n

  unfoldable pub pick_hints : List ℕ → ℕ → List ℕ
  pick_hints hints n = hints_by choice_in (λ o h. hints_in room walls held (lengths_in kind o) points h live) hints n

pub record PickIs (room : Room) (walls : List Walls) (held : ℕ) (points : List (List Float)) (live : ℕ) (kind : Kind) (n : ℕ) (hints : List ℕ)
    (r : Option Pick) (after : List ℕ) : Type 0 where
  pub pick_is : r ≡ pick_of room walls held points live kind (length hints) n
  pub hints_are : after ≡ pick_hints room walls held points live kind (length hints) hints n

-- ---- laws on the room

pub record Spare (points boxes walls live held : ℕ) : Type 0 where
  pub counts : Within live held
  pub held_in : held < most_boxes
  pub points_in : live + 1 < points
  pub boxes_in : held < boxes
  pub walls_in_lem : held < walls

pub spare_in_lem : (points boxes walls live held : ℕ) → Spare points boxes walls live held → spare points boxes walls live held ≡ true
unfolding spare
spare_in_lem points boxes walls live held h =
    rw (not_over live held h.counts, lt-ltb held most_boxes h.held_in, lt-ltb (live + 1) points h.points_in)
    (rw (lt-ltb held boxes h.boxes_in, lt-ltb held walls h.walls_in_lem))

pub spare_of : (points boxes walls live held : ℕ) → spare points boxes walls live held ≡ true → Spare points boxes walls live held
unfolding spare
spare_of points boxes walls live held e =
    let a = and_right (not (over_counts live held)) _ e in
    let b = and_right (ltb held most_boxes) _ a in
    let d = and_right (ltb (live + 1) points) _ b in
    record {
      counts = within_counts live held (not-true (over_counts live held) (and_left (not (over_counts live held)) _ e));
      held_in = ltb-true held most_boxes (and_left (ltb held most_boxes) _ a);
      points_in = ltb-true (live + 1) points (and_left (ltb (live + 1) points) _ b);
      boxes_in = ltb-true held boxes (and_left (ltb held boxes) _ d);
      walls_in_lem = ltb-true held walls (and_right (ltb held boxes) _ d);
    }

-- ---- laws on the pick

module _ (choice : ℕ → Option ℕ) where
  -- it is settled where the first orientation finds a point
  pub pick_at : (o n k : ℕ) → o < n → pick_by choice o ≡ None → choice o ≡ Some k
      → Some (record { index = k; orientation = o }) ≡ pick_by choice n
  unfolding pick_by
  pick_at o zero k l e f = absurd (not-suc-le-zero l)
  pick_at o (suc n) k l e f = ⊎_elim (λ q. rw (← q, e, f)) (λ m. rw (← (pick_at o n k m e f))) (eq-or-lt_of_le (le_of_suc-le-suc l))

  pub pick_none : (o : ℕ) → pick_by choice o ≡ None → choice o ≡ None → pick_by choice (o + 1) ≡ None
  unfolding pick_by
  pick_none o e f = rw (add-one, e, f)

  -- the point is one that its orientation's choice may be
  pub pick_index : (m n : ℕ) → ((o k : ℕ) → choice o ≡ Some k → k < m) → (p : Pick) → pick_by choice n ≡ Some p → p.index < m
  unfolding pick_by
  pick_index m zero h = λ p e. absurd cc
  pick_index m (suc n) h = go (pick_by choice n) (choice n) (pick_index m n h) (h n)
    where
      go : (a : Option Pick) (c : Option ℕ) → ((p : Pick) → a ≡ Some p → p.index < m) → ((k : ℕ) → c ≡ Some k → k < m)
          → (p : Pick) → option_or a (option_map (λ k. record { index = k; orientation = n }) c) ≡ Some p → p.index < m
      go (Some q) c f g p e = f p e
      go None (Some k) f g p e = let q : record { index = k; orientation = n } ≡ p = cc in rw (← q) (g k refl)
      go None None f g p e = absurd cc

  -- choices that agree make the same pick
  pub pick_same : (other : ℕ → Option ℕ) (n : ℕ) → ((o : ℕ) → choice o ≡ other o) → pick_by choice n ≡ pick_by other n
  unfolding pick_by
  pick_same other zero h = refl
  pick_same other (suc n) h = rw (h n, pick_same other n h)

  -- the hints: one orientation more, and all where one finds a point
  pub hints_more : (scan : ℕ → List ℕ → List ℕ) (hints : List ℕ) (o : ℕ) → pick_by choice o ≡ None
      → hints_by choice scan hints (o + 1) ≡ scan o (hints_by choice scan hints o)
  unfolding hints_by
  hints_more scan hints o e = rw (add-one, e)

  pub hints_at : (scan : ℕ → List ℕ → List ℕ) (hints : List ℕ) (o n k : ℕ) → o < n → pick_by choice o ≡ None → choice o ≡ Some k
      → hints_by choice scan hints n ≡ scan o (hints_by choice scan hints o)
  unfolding hints_by
  hints_at scan hints o zero k l e f = absurd (not-suc-le-zero l)
  hints_at scan hints o (suc n) k l e f =
      ⊎_elim (λ q. rw (← q, e)) (λ m. rw (← (pick_at o n k m e f)) (hints_at scan hints o n k m e f)) (eq-or-lt_of_le (le_of_suc-le-suc l))

-- ---- over stores, the point picked is one of those stored

scanned_found : (room : Room) (walls : List Walls) (held : ℕ) (size : List Float) (points : List (List Float)) (live m k : ℕ)
    → scanned_of room walls held size points live m ≡ Some k → k < live
unfolding scanned_of scan_of
scanned_found room walls held size points live m k =
    cond_cases (λ (c : Option ℕ). c ≡ Some k → k < live) (over_stores (length points) (length walls) m live held) (λ _ e. absurd cc)
    (λ _. scan_found _ points live k)

pub pick_stored : (room : Room) (walls : List Walls) (held : ℕ) (points : List (List Float)) (live : ℕ) (kind : Kind) (m n : ℕ) (p : Pick)
    → pick_of room walls held points live kind m n ≡ Some p → p.index < live
unfolding pick_of
pick_stored room walls held points live kind m n p =
    pick_index _ live n (λ o k. scanned_found room walls held (lengths_in kind o) points live m k) p
