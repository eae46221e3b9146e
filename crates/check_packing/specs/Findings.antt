-- The findings on a load sheet: those of the view that it gives (check_list: View). RULES: Findings: words
use Rattle.std.specs.Prelude.{ℕ, List}
use Rattle.sheet.specs.declared.Sheet.{Sheet}
use Rattle.sheet.specs.Sheets.{kind_at, line_at, unplaced_at}
use Rattle.check_list.specs.View.{View, line_found, pair_found, pairs_found, mass_found, lost_found, wrong_found, findings_of}
use Rattle.check_packing.specs.Lines.{kind_of, is_known, known, kind_for, repeats, short, box_of, mass}

-- All lines are in one case, whatever bin they name.
abbrev pub view_of : Sheet → View
view_of s =
    record {
      many = s.many;
      line = λ i. line_at s i;
      known = λ i. known s (line_at s i);
      kind = λ i. kind_for s (line_at s i);
      repeated = λ i. repeats s i;
      box = λ i. box_of (line_at s i) (kind_for s (line_at s i));
      case = λ i. 0;
      container = λ b. s.container;
      mass = λ b. mass s;
      id = λ k. (kind_at s k).id;
      short = λ k. short s k;
      unplaced = s.unplaced;
      left_known = λ i. is_known s (unplaced_at s i);
      left_short = λ i. short s (kind_of s (unplaced_at s i));
    }

-- what line i gets for itself, with line j, with all lines after it
abbrev pub line_findings : Sheet → ℕ → List ℕ
line_findings s i = line_found (view_of s) i

abbrev pub pair_finding : Sheet → ℕ → ℕ → List ℕ
pair_finding s i j = pair_found (view_of s) i j

abbrev pub pairs_from : Sheet → ℕ → List ℕ
pairs_from s i = pairs_found (view_of s) i

-- the mass; kind k that is missing; unplaced id i that is wrongly listed
abbrev pub mass_finding : Sheet → List ℕ
mass_finding s = mass_found (view_of s)

abbrev pub missing : Sheet → ℕ → List ℕ
missing s k = lost_found (view_of s) k

abbrev pub wrongly_listed : Sheet → ℕ → List ℕ
wrongly_listed s i = wrong_found (view_of s) i

unfoldable pub findings : Sheet → List ℕ
findings s = findings_of (view_of s)
