-- The cursor of a fill by layers is nowhere negative. That its lines are in range stands in proofs/Layers.antt.
use Rattle.std.specs.Prelude.{◌≡◌, refl, Bool, true, false, List, ℕ, ◌+◌, ◌<◌, eqb, length, get_or, set, Option, Some, None, IfSome, Float}
use Rattle.std.proofs.Common.{◌∙◌, not-suc-le-zero, arith, eqb-true, length-set, get_or-set_same, get_or-set_other}
use Rattle.std.proofs.lemmas.Bool.{eqb-false}
use Rattle.std.specs.Float.{binary64}
use Rattle.std.specs.Float.Ieee.{of_bits, lt}
use Rattle.floats.specs.Ops as Ops
use Rattle.floats.specs.Ops.{◌⊕◌, none, larger}
use Rattle.floats.specs.Order.{signed}
use Rattle.floats.specs.Sums.{add_signed}
use Rattle.domain.specs.Bounds.{most_boxes}
use Rattle.measures.specs.declared.Container.{Container}
use Rattle.sheet.specs.Sheets.{no_line}
use Rattle.layer_cursor.specs.declared.LayerCursor.{LayerCursor}
use Rattle.layer_cursor.specs.declared.LayerSpot.{LayerSpot}
use Rattle.layer_state.specs.declared.stand.Stand.{Stand}
use Rattle.layer_state.specs.declared.stand.Step.{Step}
use Rattle.layer_fill.specs.declared.LayerFill.{LayerFill}
use Rattle.layer_cursor.specs.Spot.{new_row, new_layer, past, turn_to}
use Rattle.layer_state.specs.Stand.{new_of}
use Rattle.layer_fill.specs.Fill.{no_lines, empty, line_of, took}
use Rattle.lists.specs.Bools.{cond_cases}
use Rattle.plan_laws.specs.Spots.{Lengths, Sized, InRange, not_negative}

-- ---- the cursor

pub record Ahead (c : LayerCursor) : Type 0 where
  pub x_is : signed false c.x
  pub y_is : signed false c.y
  pub z_is : signed false c.z
  pub depth_is : signed false c.depth
  pub height_is : signed false c.height

pub none_signed : signed false none
unfolding of_bits
none_signed = refl

larger_signed : (v w : Float) → signed false v → signed false w → signed false (larger v w)
larger_signed v w p q = cond_cases (signed false) (lt v w) (λ _. q) (λ _. p)

plus : (v w : Float) → signed false v → signed false w → signed false (v ⊕ w)
plus v w p q = add_signed binary64 v w p q

module _ (b : Container) (max : List Float) (s : Sized b) where
  row_ahead : (c : LayerCursor) (width : Float) → Ahead c → Ahead (new_row b max c width)
  unfolding new_row
  row_ahead c width h =
      cond_cases Ahead (lt (Ops.x max) (c.x ⊕ width))
      (λ _.
      record {
        x_is = s.margin;
        y_is = plus c.y (c.depth ⊕ b.spacing) h.y_is (plus c.depth b.spacing h.depth_is s.spacing);
        z_is = h.z_is;
        depth_is = none_signed;
        height_is = h.height_is;
      })
      (λ _. h)

  layer_ahead : (c : LayerCursor) (depth : Float) → Ahead c → Ahead (new_layer b max c depth)
  unfolding new_layer
  layer_ahead c depth h =
      cond_cases Ahead (lt (Ops.y max) (c.y ⊕ depth))
      (λ _.
      record {
        x_is = s.margin;
        y_is = s.margin;
        z_is = plus c.z (c.height ⊕ b.spacing) h.z_is (plus c.height b.spacing h.height_is s.spacing);
        depth_is = none_signed;
        height_is = none_signed;
      })
      (λ _. h)

  pub turn_ahead : (c : LayerCursor) (size : List Float) → Ahead c → Ahead (turn_to b max c size)
  turn_ahead c size h = layer_ahead (new_row b max c (Ops.x size)) (Ops.y size) (row_ahead c (Ops.x size) h)

  pub past_ahead : (c : LayerCursor) (size : List Float) → Lengths size → Ahead c → Ahead (past b c size)
  past_ahead c size l h =
      record {
        x_is = plus (c.x ⊕ Ops.x size) b.spacing (plus c.x (Ops.x size) h.x_is (not_negative (Ops.x size) l.x_is)) s.spacing;
        y_is = h.y_is;
        z_is = h.z_is;
        depth_is = larger_signed c.depth (Ops.y size) h.depth_is (not_negative (Ops.y size) l.y_is);
        height_is = larger_signed c.height (Ops.z size) h.height_is (not_negative (Ops.z size) l.z_is);
      }

-- ---- a spot

-- what a step that places a box gives: a position in range, and a stand that goes on
pub record Right (b : Container) (s : Stand) : Type 0 where
  pub container_is : s.container ≡ b
  pub max_is : s.max ≡ (new_of b).max
  pub ahead : Ahead s.cursor

pub record Kept (b : Container) (r : Step) : Type 0 where
  pub spot : InRange r.at
  pub stand : Right b r.next

module _ (b : Container) (sz : Sized b) where
  pub record Spot (p : LayerSpot) : Type 0 where
    pub range : InRange p.at
    pub next_ahead : Ahead p.next

-- ---- a fill

pub record InOrder (b : Container) (f : LayerFill) : Type 0 where
  pub long : length f.lines ≡ most_boxes
  pub stand : Right b f.stand
  pub range : (j : ℕ) → j < f.count → InRange (get_or f.lines j no_line).at

pub empty_right : (b : Container) → Sized b → InOrder b (empty b)
unfolding no_lines
empty_right b s =
    record {
      long = refl;
      stand =
          record {
            container_is = refl;
            max_is = refl;
            ahead = record { x_is = s.margin; y_is = s.margin; z_is = s.margin; depth_is = none_signed; height_is = none_signed };
          };
      range = λ j l. absurd (not-suc-le-zero l);
    }

pub took_right : (b : Container) (f : LayerFill) (r : Option Step) (id instance : ℕ) → f.count < most_boxes → InOrder b f → IfSome r (Kept b)
    → InOrder b (took f r id instance)
unfolding took
took_right b f None id instance room h k = h
took_right b f (Some r) id instance room h k =
    record {
      long = length-set f.lines f.count (line_of r id instance) ∙ h.long;
      stand = k.stand;
      range = λ j l. line j l (eqb j f.count) refl;
    }
  where
    line : (j : ℕ) → j < f.count + 1 → (t : Bool) → eqb j f.count ≡ t → InRange (get_or (set f.lines f.count (line_of r id instance)) j no_line).at
    line j l true q =
        rw (eqb-true j f.count q, get_or-set_same f.lines f.count (line_of r id instance) no_line (rw h.long room)) k.spot
    line j l false q =
        let d = eqb-false j f.count q in
        rw (get_or-set_other f.lines f.count j (line_of r id instance) no_line d) (h.range j (omega (arith, d)))
