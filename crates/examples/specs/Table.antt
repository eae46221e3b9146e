-- The measured examples P1 to P9, and the worked one, as one table, and the one statement that proves them all: by computation over the
-- definitions that the contracts name.
use Rattle.std.specs.Prelude.{◌≡◌, refl, Bool, true, false, List, [], ◌∷◌, ℕ, get_or, replicate, Float, Some, None, Ok}
use Rattle.std.specs.Int.Count.{count_trailing_zeros}
use Rattle.std.specs.Float.{binary64, fin}
use Rattle.std.specs.Float.Ieee.{lt, le, eq, add, sub, mul, sum, round, units, odd, size, of_bits, to_bits, of_fields, neg, span, climb}
use Rattle.floats.specs.Ops.{none}
use Rattle.lists.specs.Below.{any_below, all_below, sum_below, is_at}
use Rattle.domain.specs.Refusals.{or_else, first_below}
use Rattle.domain.specs.Refusal.{answer_with}
use Rattle.measures.specs.declared.Container.{Container}
use Rattle.sheet.specs.Sheets.{sheet_refusal, kind_fault_in, line_fault_in, line_fault, same_id, quantity_of}
use Rattle.check_packing.specs.Check.{checked_of, cells_of, check_refusal, count_of}
use Rattle.measures.specs.Orders.{lengths_in}
use Rattle.measures.specs.Faults.{kind_fault, container_fault}
use Rattle.point_state.specs.Fresh.{start_of}
use Rattle.point_state.specs.All.{all}
use Rattle.point_fit.specs.Fit.{in_room, apart}
use Rattle.point_scan.specs.Passes.{separated, fits_at}
use Rattle.point_fit.specs.Sooner.{sooner}
use Rattle.point_scan.specs.Choose.{asked, takes, step_by, scan_by, best_of as least_of}
use Rattle.point_fit.specs.Ends.{below_ends, buries}
use Rattle.point_grow.specs.Grow.{free, valid, corners_of, count_with, points_with, stock_by, put_box, after_box}
use Rattle.point_state.specs.Counts.{over_counts}
use Rattle.point_place.specs.Place.{stood, refusal_of, placed_by, tried_of}
use Rattle.layer_cursor.specs.Spot.{new_row, new_layer, spot_of}
use Rattle.layer_state.specs.Stand.{settled}
use Rattle.layer_state.specs.Best.{better, best_of, place_best_of}
use Rattle.layer_fill.specs.Fill.{blank_line, no_lines, empty, opened, place_refusal, answered, has_placed}
use Rattle.check_root.specs.Sqrt.{sqrt_of}
use Rattle.check_pair.specs.declared.Verdict.TheVariants.{TooClose}
use Rattle.check_pair.specs.Tolerance.{tolerance_of}
use Rattle.check_pair.specs.Pair.{distance_of, verdict_at, verdict_of}
use Rattle.check_packing.specs.Lines.{kind_below, known, kind_for, same_as, again, counted, packs, packed, short, mass_below}
use Rattle.check_list.specs.Finding.{name_words, repeat_words, box_inside, place_words, verdict_words, mass_words, lost_words, wrong_words}
use Rattle.check_list.specs.View.{line_found, verdict_found, pair_found, pairs_found, mass_found, lost_found, wrong_found, findings_of}
use Rattle.check_packing.specs.Findings.{findings}
use Rattle.examples.specs.Parts.{decimal, whole, at, cube, case, ten, kind, any, fresh, try, first, after_first, second, third, one, listing, worked, lent}
use Rattle.examples.specs.Parts.{Answered, box}

-- P3's boxes, and P5's boxes and case
abbrev six : List Float
six = cube (whole 6)

abbrev tenth : Float
tenth = decimal 1 10

abbrev narrow : Container
narrow = case (at (decimal 3 10) tenth tenth) none

-- a second 4-cube where boxes stand so far apart
abbrev four : List Float
four = cube (whole 4)

abbrev apart_by : Float → Container
apart_by spacing = case (cube (whole 10)) spacing

-- P9's first box, its spacing and the tolerance of its case
abbrev unit : List Float
unit = cube (whole 1)

pub record Table : Type 0 where
  -- "P1 Kind 1×2×3, any: index 3 gives 2×3×1, index 6 gives 1×2×3."
  pub p1 :
      (lengths_in (kind any 1 (at (whole 1) (whole 2) (whole 3))) 3 ≡ at (whole 2) (whole 3) (whole 1))
      × (lengths_in (kind any 1 (at (whole 1) (whole 2) (whole 3))) 6 ≡ at (whole 1) (whole 2) (whole 3))
  -- "P2 After a 4-cube, a fixed 7×3×3 goes to (0,4,0)."
  pub p2 : (try (try (fresh ten) four).next (at (whole 7) (whole 3) (whole 3))).answer ≡ Ok (Some (at none (whole 4) none))
  -- "P3 Two 6-cubes: both placers take one; three points stay."
  pub p3 :
      ((stood (try (fresh ten) six).answer ≡ true)
      × ((try (try (fresh ten) six).next six).answer ≡ Ok None)
      × ((try (try (fresh ten) six).next six).next.live ≡ 3))
      × (opened ten ≡ Ok (empty ten))
      × ((has_placed (first ten (kind any 2 six)) ≡ true) × (second ten (kind any 2 six) ≡ Ok None))
  -- "P4 Two 4-cubes: spacing 2 puts the second at (6,0,0); 2.5 refuses it."
  pub p4 :
      ((try (try (fresh (apart_by (whole 2))) four).next four).answer ≡ Ok (Some (at (whole 6) none none)))
      × ((try (try (fresh (apart_by (decimal 5 2))) four).next four).answer ≡ Ok None)
  -- "P5 Three 0.1-cubes, container 0.3×0.1×0.1: extreme points three, layers two."
  pub p5 :
      ((stood (try (fresh narrow) (cube tenth)).answer ≡ true)
      × (stood (try (try (fresh narrow) (cube tenth)).next (cube tenth)).answer ≡ true)
      × (stood (try (try (try (fresh narrow) (cube tenth)).next (cube tenth)).next (cube tenth)).answer ≡ true))
      × (opened narrow ≡ Ok (empty narrow))
      × ((has_placed (first narrow (kind any 3 (cube tenth))) ≡ true)
      × (has_placed (second narrow (kind any 3 (cube tenth))) ≡ true)
      × (third narrow (kind any 3 (cube tenth)) ≡ Ok None))
  -- "P6 Kind 1×2×3, any, first `place_best`: index 3."
  pub p6 : (get_or (after_first ten (kind any 1 (at (whole 1) (whole 2) (whole 3)))).lines 0 blank_line).orientation ≡ 3
  -- "P7 A line at x = −0.00000001 is inside, −0.00000002 outside."
  pub p7 :
      Answered (one (neg (decimal 1 100000000))) 0 lent
      × Answered (one (neg (decimal 2 100000000))) 1 (6 ∷ 0 ∷ 7 ∷ 0 ∷ 0 ∷ replicate 15 9)
  -- "P8 A complete kind listed unplaced is finding 11; a short one listed twice, one such finding."
  pub p8 :
      Answered (listing 1 (7 ∷ [])) 1 (11 ∷ 7 ∷ 0 ∷ 0 ∷ 0 ∷ replicate 15 9)
      × Answered (listing 2 (7 ∷ 7 ∷ [])) 1 (11 ∷ 7 ∷ 0 ∷ 0 ∷ 0 ∷ replicate 15 9)
  -- "P9 Spacing 6: gaps 3, 4, 0 give distance 5; 1, 1, 0 give bits 3FF6A09E667F3BCD."
  pub p9 :
      (verdict_of (box (cube none) unit) (box (at (whole 4) (whole 5) (whole 1)) (at (whole 5) (whole 6) (whole 2))) (whole 6) (tolerance_of (cube (whole 10)))
      ≡ TooClose (whole 5))
      × (verdict_of (box (cube none) unit) (box (at (whole 2) (whole 2) (whole 1)) (at (whole 3) (whole 3) (whole 2)))
      (whole 6) (tolerance_of (cube (whole 10)))
      ≡ TooClose (of_bits binary64 0x3FF6A09E667F3BCD))
  -- "repeated 1 7 0", "too-close 0 1 3FE0000000000000 3FF0000000000000", "missing 7"
  pub worked_findings :
      Answered worked 3
      (3 ∷ 1 ∷ 7 ∷ 0 ∷ 0 ∷ 8 ∷ 0 ∷ 1 ∷ 0x3FE0000000000000 ∷ 0x3FF0000000000000 ∷ 10 ∷ 7 ∷ 0 ∷ 0 ∷ 0 ∷ 9 ∷ 9 ∷ 9 ∷ 9 ∷ 9 ∷ [])

pub table : Table
unfolding start_of tried_of placed_by refusal_of over_counts kind_fault container_fault lengths_in after_box stock_by corners_of valid free buries
    below_ends count_with points_with least_of scan_by step_by takes asked sooner fits_at separated in_room apart all answered place_refusal
    no_lines place_best_of best_of better settled spot_of new_row new_layer checked_of answer_with cells_of check_refusal count_of sheet_refusal kind_fault_in
    line_fault_in line_fault same_id quantity_of first_below findings findings_of line_found name_words repeat_words box_inside place_words verdict_words
    verdict_found pair_found pairs_found mass_words mass_found lost_words lost_found wrong_words wrong_found kind_below known kind_for same_as again counted
    packs packed short is_at mass_below all_below any_below sum_below tolerance_of verdict_at distance_of sqrt_of or_else lt le eq add sub mul sum round
    units odd size of_bits to_bits of_fields neg span climb count_trailing_zeros
table =
    record {
      p1 = (refl, refl);
      p2 = refl;
      p3 = ((refl, refl, refl), refl, (refl, refl));
      p4 = (refl, refl);
      p5 = ((refl, refl, refl), refl, (refl, refl, refl));
      p6 = refl;
      p7 = (record { accepted = refl; told = refl; written = refl }, record { accepted = refl; told = refl; written = refl });
      p8 = (record { accepted = refl; told = refl; written = refl }, record { accepted = refl; told = refl; written = refl });
      p9 = (refl, refl);
      worked_findings = record { accepted = refl; told = refl; written = refl };
    }
