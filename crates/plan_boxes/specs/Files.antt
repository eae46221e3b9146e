-- The boxes of the order in a load file, one after the other.
use Rattle.std.specs.Prelude.{◌≡◌, cond, List, ℕ, ◌+◌, ◌<◌, ◌≤◌, ltb, get_or}
use Rattle.std.proofs.Common.{◌∙◌, ap, add-one, arith, le-ltb, lt-ltb}
use Rattle.domain.specs.Bounds.{most_kinds, most_boxes}
use Rattle.lists.specs.Below.{sum_below, sum_same}
use Rattle.measures.specs.declared.Kind.{Kind}
use Rattle.sheet.specs.declared.Counts.{Counts}
use Rattle.sheet.specs.Sheets.{no_kind, quantity_of, boxes_in}
use Rattle.sheet.specs.Accepted.{Accepted}
use Rattle.file_read.specs.Form.{counts_of}
use Rattle.file_read.specs.Reading.{sheet_of}
use Rattle.file_read.specs.Records.{kind_in, Readable, bounds, many_is, kind_is}
use Rattle.plan_boxes.specs.declared.Instance.{Instance}
use Rattle.plan_boxes.specs.Turns.{next_turn, turn_of, Right, turn_right}
use Rattle.plan_boxes.specs.Orders.{some_boxes, boxes_are}

-- the box behind one of a kind that has so many; a kind that no order has stays
unfoldable pub next_box : ℕ → Instance → Instance
next_box quantity u = cond (ltb u.kind most_kinds) (next_turn quantity u) u

pub next_box_lem : (quantity : ℕ) (u : Instance) → u.kind < most_kinds → next_box quantity u ≡ next_turn quantity u
unfolding next_box
next_box_lem quantity u h = rw (lt-ltb u.kind most_kinds h)

-- behind box t comes box t + 1, by the kind that the box is of
pub next_turn_lem : (kinds : List Kind) (t : ℕ) (u : Instance) (k : Kind) → u ≡ turn_of kinds t → k ≡ get_or kinds u.kind no_kind → u.kind < most_kinds
    → next_box k.quantity u ≡ turn_of kinds (t + 1)
unfolding turn_of quantity_of
next_turn_lem kinds t u k e g h = next_box_lem k.quantity u h ∙ rw (add-one t, g, e)

-- how many boxes kind k of a file has
unfoldable pub quantity_from : List ℕ → ℕ → ℕ
quantity_from f k = (kind_in f k).quantity

-- the boxes of m kinds of a file, and 0 for more kinds than there can be
unfoldable pub boxes_from : List ℕ → ℕ → ℕ
boxes_from f m = cond (ltb most_kinds m) 0 (sum_below (quantity_from f) m)

-- of a file that can be read these are the boxes of its order
pub boxes_from_lem : (f : List ℕ) (m : ℕ) → Readable f → m ≡ (counts_of f).kinds → boxes_from f m ≡ boxes_in (sheet_of f).kinds (sheet_of f).many.kinds
unfolding boxes_from boxes_in quantity_from quantity_of
boxes_from_lem f m r e =
    let b = bounds f r in
    let n = ap (λ (c : Counts). c.kinds) (many_is f) in
    rw (e, ← n, le-ltb most_kinds (counts_of f).kinds b.kinds)
    (sum_same (quantity_from f) (quantity_of (sheet_of f).kinds) (counts_of f).kinds (λ k l. ap (λ (v : Kind). v.quantity) (kind_is f k r l)))

-- a file that can be read, and as many boxes as its order has or fewer
pub record InFile (f : List ℕ) (n : ℕ) : Type 0 where
  pub can_read : Readable f
  pub few : n ≤ most_boxes
  pub kind_within : (t : ℕ) → t < n → (turn_of (sheet_of f).kinds t).kind < (counts_of f).kinds

pub in_file : (f : List ℕ) (n : ℕ) → Readable f → Accepted (sheet_of f) → n ≤ boxes_in (sheet_of f).kinds (sheet_of f).many.kinds → InFile f n
in_file f n r a h =
    let e = boxes_are (sheet_of f) a in
    let b = a.boxes_few in
    record {
      can_read = r;
      few = omega arith;
      kind_within =
          λ t l.
          let k : Right (sheet_of f).kinds (sheet_of f).many.kinds t (turn_of (sheet_of f).kinds t) =
          turn_right (sheet_of f).kinds (sheet_of f).many.kinds (some_boxes (sheet_of f) a) t (omega arith) in
          rw many_is k.kind_is;
    }
