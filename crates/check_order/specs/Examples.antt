-- Why masses that are not whole are left out: three lines with masses 0.1, 0.2 and 0.3 in two orders, by computation.
use Rattle.std.specs.Prelude.{◌≡◌, refl, List, [], ◌∷◌, ◌++◌, ℕ, zero, suc, ◌-◌, ◌*◌, replicate, Float}
use mathlib.Core.List.Permᴰ
use Rattle.std.specs.Float.{binary64}
use Rattle.std.specs.Float.Ieee.{of_bits, to_bits, of_int, lt, le, neg, add, sub, mul}
use Rattle.floats.specs.Ops.{none}
use Rattle.floats.specs.Whole.{whole}
use Rattle.domain.specs.Bounds.{most_kinds, most_lines, most_unplaced}
use Rattle.lists.specs.Below.{any_below, sum_below}
use Rattle.domain.specs.Refusals.{or_else, first_below}
use Rattle.measures.specs.declared.Kind.{Kind}
use Rattle.measures.specs.Faults.{kind_fault, container_fault}
use Rattle.measures.specs.Orders.{lengths_in}
use Rattle.sheet.specs.declared.Line.{Line}
use Rattle.sheet.specs.declared.Sheet.{Sheet}
use Rattle.sheet.specs.Sheets.{no_kind, no_line, same_id, kind_fault_in, quantity_of, line_fault, line_fault_in, sheet_refusal}
use Rattle.check_root.specs.Sqrt.{sqrt_of}
use Rattle.check_pair.specs.Tolerance.{tolerance_of}
use Rattle.check_pair.specs.Pair.{distance_of, verdict_at}
use Rattle.check_packing.specs.Lines.{kind_below, known, kind_for, same_as, again, counted, packs, packed, short, mass_below}
use Rattle.check_order.specs.Demand.{Reordered}
use Rattle.lists.specs.Below.{all_below}
use Rattle.check_list.specs.Finding.{box_inside, lost_words, mass_words, name_words, place_words, repeat_words, verdict_words, wrong_words}
use Rattle.check_list.specs.View.{findings_of, line_found, lost_found, mass_found, pair_found, pairs_found, verdict_found, wrong_found}
use Rattle.check_packing.specs.Findings.{findings}
use Rattle.check_order.specs.ByLine.{pair_words, verdict_on}
use Rattle.lists.specs.Below.{is_at}

-- 0.1, 0.2, 0.3
abbrev tenth : ℕ → Float
tenth zero = of_bits binary64 0x3FB999999999999A
tenth (suc zero) = of_bits binary64 0x3FC999999999999A
tenth (suc (suc n)) = of_bits binary64 0x3FD3333333333333

-- kind n: one cube of length 1 with that mass
abbrev cube : ℕ → Kind
cube n = record { id = n; quantity = 1; size = whole 1 ∷ whole 1 ∷ whole 1 ∷ []; mass = tenth n; rule = 2; massed = 1; filler = 0 }

-- it stands at x = 3 n
abbrev placed : ℕ → Line
placed n = record { id = n; instance = 0; orientation = 0; bin = 0; at = whole (3 * n) ∷ none ∷ none ∷ [] }

-- a container of 10 × 10 × 10 with this limit, one of each kind in it
abbrev loaded : Float → List Line → Sheet
loaded limit ls =
    record {
      many = record { kinds = 3; lines = 3; unplaced = 0 };
      container = record { size = whole 10 ∷ whole 10 ∷ whole 10 ∷ []; margin = none; spacing = none; limit = limit };
      kinds = cube 0 ∷ cube 1 ∷ cube 2 ∷ replicate (most_kinds - 3) no_kind;
      lines = ls ++ replicate (most_lines - 3) no_line;
      unplaced = replicate most_unplaced 0;
    }

abbrev rising : List Line
rising = placed 0 ∷ placed 1 ∷ placed 2 ∷ []

abbrev falling : List Line
falling = placed 2 ∷ placed 1 ∷ placed 0 ∷ []

abbrev half : Float
half = of_bits binary64 0x3FE0000000000000

-- 0.599999989, which is 0.6 with the tolerance added
abbrev just_under : Float
just_under = of_bits binary64 0x3FE333332D4B5F1B

-- both are accepted, and they differ only in the order of their lines
pub two_orders : Reordered (loaded half rising) (loaded half falling)
unfolding sheet_refusal kind_fault_in line_fault_in line_fault kind_fault container_fault same_id quantity_of or_else first_below any_below sum_below of_bits
    to_bits of_int lt le neg
two_orders =
    record {
      accepted_first = refl;
      accepted_second = refl;
      same_container = refl;
      same_counts = refl;
      same_kinds = λ k l. refl;
      same_unplaced = λ i l. refl;
      lines_permuted = Permᴰ.symm (Permᴰ.reverse rising);
    }

-- (0.1 + 0.2) + 0.3 is not (0.3 + 0.2) + 0.1: the masses in the two findings differ in their last bit.
-- With the other limit one order gets the finding, and the other gets none.
pub masses_apart :
    (findings (loaded half rising) ≡ 9 ∷ 0x3FE3333333333334 ∷ 0x3FE0000000000000 ∷ 0 ∷ 0 ∷ [])
    × (findings (loaded half falling) ≡ 9 ∷ 0x3FE3333333333333 ∷ 0x3FE0000000000000 ∷ 0 ∷ 0 ∷ [])
    × (findings (loaded just_under rising) ≡ 9 ∷ 0x3FE3333333333334 ∷ 0x3FE333332D4B5F1B ∷ 0 ∷ 0 ∷ [])
    × (findings (loaded just_under falling) ≡ [])
unfolding findings findings_of line_found name_words repeat_words box_inside place_words verdict_words verdict_on verdict_found pair_words pair_found
    pairs_found mass_words mass_found lost_words lost_found wrong_words wrong_found kind_below known kind_for same_as again counted packs packed short is_at
    mass_below all_below any_below sum_below lengths_in tolerance_of verdict_at distance_of sqrt_of to_bits of_bits of_int lt le neg add sub mul
masses_apart = (refl, refl, refl, refl)
