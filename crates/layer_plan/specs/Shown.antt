-- A fill's lines in lent memory, and those of a fill while it grows.
use Rattle.std.specs.Prelude.{◌≡◌, ℕ, zero, suc, ◌+◌, ◌<◌, ◌≤◌, length, get_or, Option, Some, None}
use Rattle.std.proofs.Math.Path.{refl, ap}
use Rattle.std.proofs.Common.{sym, ◌∙◌, add-one, arith, length-set, get_or-set_other}
use mathlib.Core.List.{List}
use Rattle.std.proofs.Math.ListN.{set}
use Rattle.std.proofs.Math.Seq.{get_or-set_same}
use Rattle.lists.specs.Table.{filled, filled_length, filled_same}
use Rattle.domain.specs.Bounds.{most_boxes}
use Rattle.measures.specs.declared.Container.{Container}
use Rattle.measures.specs.declared.Kind.{Kind}
use Rattle.sheet.specs.declared.Line.{Line}
use Rattle.sheet.specs.Sheets.{no_kind, no_line}
use Rattle.layer_state.specs.declared.stand.Stand.{Stand}
use Rattle.layer_state.specs.declared.stand.Step.{Step}
use Rattle.layer_state.specs.Stand.{after_step}
use Rattle.layer_fill.specs.declared.LayerFill.{LayerFill}
use Rattle.layer_fill.specs.Fill.{no_lines, empty, line_of, took}
use Rattle.layer_plan.specs.Offers.{Offer}
use Rattle.layer_plan.specs.Run.{step_by, offered, run_from, count_after}

-- RULES: Lent memory. The fill's lines, and behind them the lines that were there before
unfoldable pub shown_in : List Line → LayerFill → List Line
shown_in old f = filled old (λ i. get_or f.lines i no_line) f.count

-- a placed box's line at n; no box, no change
unfoldable pub put_in : Option Step → ℕ → ℕ → ℕ → List Line → List Line
put_in None id instance n lines = lines
put_in (Some s) id instance n lines = set lines n (line_of s id instance)

-- ---- laws

-- showing a fill keeps the length
pub shown_length : (old : List Line) (f : LayerFill) → length (shown_in old f) ≡ length old
unfolding shown_in
shown_length old f = filled_length old (λ i. get_or f.lines i no_line) f.count

-- a new fill has no line
pub shown_none : (old : List Line) (f : LayerFill) → f.count ≡ 0 → old ≡ shown_in old f
unfolding shown_in filled
shown_none old f e = rw e

module _ (old : List Line) (f : LayerFill) (id instance : ℕ) (long : length f.lines ≡ most_boxes) (room : f.count < most_boxes) where
  -- one line more
  line_more : (l : Line) → set (shown_in old f) f.count l ≡ filled old (λ i. get_or (set f.lines f.count l) i no_line) (f.count + 1)
  unfolding shown_in filled
  line_more l =
      rw (add-one f.count, get_or-set_same f.lines f.count l no_line (rw long room))
      (ap (λ (c : List Line). set c f.count l)
      (filled_same old (λ i. get_or f.lines i no_line) (λ i. get_or (set f.lines f.count l) i no_line) f.count
      (λ i k. sym (get_or-set_other f.lines f.count i l no_line (λ e. omega arith)))))

  pub shown_more : (s : Option Step) → put_in s id instance f.count (shown_in old f) ≡ shown_in old (took f s id instance)
  unfolding put_in took shown_in
  shown_more None = refl
  shown_more (Some s) = line_more (line_of s id instance)

-- ---- the stand and the count beside them
pub took_stand : (f : LayerFill) (s : Option Step) (id instance : ℕ) → after_step f.stand s ≡ (took f s id instance).stand
unfolding took
took_stand f None id instance = refl
took_stand f (Some s) id instance = refl

pub took_count : (f : LayerFill) (s : Option Step) (id instance : ℕ) → count_after s f.count ≡ (took f s id instance).count
unfolding took
took_count f None id instance = refl
took_count f (Some s) id instance = refl

pub took_long : (f : LayerFill) (s : Option Step) (id instance : ℕ) → length (took f s id instance).lines ≡ length f.lines
unfolding took
took_long f None id instance = refl
took_long f (Some s) id instance = length-set f.lines f.count (line_of s id instance)

-- ---- what a run has: the fill's stand and count, and its lines in lent memory
pub record Holds (f : LayerFill) (stand : Stand) (count : ℕ) (old new : List Line) : Type 0 where
  pub stand_is : stand ≡ f.stand
  pub count_is : count ≡ f.count
  pub lines_are : new ≡ shown_in old f

-- what the step of one box ends with: the count, and the lines
pub record Puts (s : Option Step) (id instance n r : ℕ) (old new : List Line) : Type 0 where
  pub count_is : r ≡ count_after s n
  pub few : r ≤ n + 1
  pub lines_are : new ≡ put_in s id instance n old

-- a box more
pub holds_more : (f : LayerFill) (stand : Stand) (s : Option Step) (id instance count r : ℕ) (old between new : List Line) → length f.lines ≡ most_boxes
    → count < most_boxes → Holds f stand count old between → Puts s id instance count r between new
    → Holds (took f s id instance) (after_step stand s) r old new
holds_more f stand s id instance count r old between new long room h p =
    let n = h.count_is in
    let put : new ≡ put_in s id instance f.count (shown_in old f) =
    p.lines_are ∙ ap (λ (m : ℕ). put_in s id instance m between) n ∙ ap (put_in s id instance f.count) h.lines_are in
    record {
      stand_is = ap (λ (q : Stand). after_step q s) h.stand_is ∙ took_stand f s id instance;
      count_is = p.count_is ∙ ap (count_after s) n ∙ took_count f s id instance;
      lines_are = put ∙ shown_more old f id instance long (omega arith) s;
    }

-- ---- the store of lines keeps its length
pub run_long : (b : Container) (kinds : List Kind) (offer : ℕ → Offer) (n : ℕ) → length (run_from (empty b) kinds offer n).lines ≡ most_boxes
unfolding run_from offered no_lines
run_long b kinds offer zero = refl
run_long b kinds offer (suc n) =
    let f = run_from (empty b) kinds offer n in
    let k = get_or kinds (offer n).kind no_kind in
    took_long f (step_by f.stand k (offer n).way) k.id (offer n).instance ∙ run_long b kinds offer n
