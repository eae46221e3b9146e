-- What a line gets for itself: the words that are picked out of all findings. That they do not turn on where the line stands is in specs/Own.antt.
use Rattle.std.specs.Prelude.{◌≡◌, Bool, false, ◌&&◌, ℕ, ◌<◌}
use Rattle.std.proofs.Math.Path.{refl, ap}
use Rattle.std.proofs.Common.{◌∙◌}
use Rattle.std.proofs.Math.Bool.{true}
use mathlib.Core.List.{List, [], ◌∷◌, ◌++◌, append-nil}
use Rattle.std.proofs.Math.Dec.{eqb}
use borrow.Author.Tests.{eq-eqb, ne_eqb}
use Rattle.sheet.specs.declared.Sheet.{Sheet}
use Rattle.sheet.specs.Sheets.{line_at}
use Rattle.check_packing.specs.Lines.{known, kind_for, box_of}
use Rattle.check_order.specs.Demand.{pick, among, own_of}
use Rattle.check_order.specs.Picked.{pick_append, pick_none, pick_every, pick_below}
use Rattle.lists.specs.Bools.{and_none}
use Rattle.check_order.specs.Below.{one_below}
use Rattle.check_order.specs.Parts.{apart, Any, each_name, each_repeat, each_place, each_line, lines_whole, pick_parts, no_pairs, no_mass, no_missing}
use Rattle.check_order.specs.Parts.{no_listed}
use Rattle.lists.specs.Below.{all_below}
use Rattle.check_list.specs.Finding.{name_words, place_words}
use Rattle.check_list.specs.View.{line_found}
use Rattle.check_packing.specs.Findings.{findings, line_findings}
use Rattle.check_order.specs.ByLine.{own_findings, repeat_finding}

module _ (s : Sheet) (i : ℕ) where
  -- of what line i gets, all but "repeated"
  own_of_line : pick (own_of i) (line_findings s i) ≡ own_findings s i (line_at s i)
  unfolding line_found own_findings
  own_of_line =
      let p = own_of i in
      let l = line_at s i in
      let b = known s l in
      let k = kind_for s l in
      let here : eqb i i ≡ true = eq-eqb i i refl in
      let name = name_words i l b k in
      let again = repeat_finding s i in
      let place = place_words s.container i l b k (box_of l k) in
      pick_append p Any name (again ++ place) (each_name Any i l b k (λ id. tt) (λ id n m. tt))
      ∙ ap (λ (v : List ℕ). v ++ pick p (again ++ place)) (pick_every p name (each_name (λ f. p f ≡ true) i l b k (λ id. here) (λ id n m. here)))
      ∙ ap (λ (v : List ℕ). name ++ v)
      (pick_append p Any again place (each_repeat Any s i tt)
      ∙ ap (λ (v : List ℕ). v ++ pick p place) (pick_none p again (each_repeat (λ f. p f ≡ false) s i refl))
      ∙ pick_every p place (each_place (λ f. p f ≡ true) s.container i l b k (λ id o. here) (λ n. here) (λ id. here)))

  own_elsewhere : (k : ℕ) → (k ≡ i → ⊥) → pick (own_of i) (line_findings s k) ≡ []
  own_elsewhere k h = pick_none (own_of i) (line_findings s k)
      (each_line (λ f. own_of i f ≡ false) s k (λ c a b d e. and_none (among c (1 ∷ 2 ∷ 4 ∷ 5 ∷ 6 ∷ [])) (eqb k i) (ne_eqb k i h)))

  own_of_lines : i < s.many.lines → pick (own_of i) (all_below (line_findings s) s.many.lines) ≡ own_findings s i (line_at s i)
  own_of_lines h =
      pick_below (own_of i) Any (line_findings s) (lines_whole s) s.many.lines
      ∙ one_below (λ k. pick (own_of i) (line_findings s k)) s.many.lines i h own_elsewhere
      ∙ own_of_line

  pub own_picked : i < s.many.lines → pick (own_of i) (findings s) ≡ own_findings s i (line_at s i)
  own_picked h =
      pick_parts (own_of i) s
      ∙ rw (
        own_of_lines h,
        no_pairs (own_of i) s (λ c a b d e k. ap (λ (v : Bool). v && eqb a i) (apart (7 ∷ 8 ∷ []) (1 ∷ 2 ∷ 4 ∷ 5 ∷ 6 ∷ []) c refl k)),
        no_mass (own_of i) s (λ m l. refl),
        no_missing (own_of i) s (λ id. refl),
        no_listed (own_of i) s (λ id. refl),
      ) (append-nil (own_findings s i (line_at s i)))
