-- What a line gets for itself does not turn, but for its line number, on where the line stands.
use Rattle.std.specs.Prelude.{◌≡◌, Bool, false, not, ◌&&◌, ℕ, ltb, leb, length}
use Rattle.std.proofs.Math.Path.{refl, ap}
use Rattle.std.proofs.Common.{◌∙◌}
use Rattle.std.proofs.Math.Bool.{true}
use mathlib.Core.List.{List, [], ◌∷◌, ◌++◌}
use Rattle.measures.specs.declared.Kind.{Kind}
use Rattle.measures.specs.declared.Container.{Container}
use Rattle.measures.specs.Orders.{share_of}
use Rattle.sheet.specs.declared.Line.{Line}
use Rattle.sheet.specs.declared.Sheet.{Sheet}
use Rattle.check_pair.specs.Tolerance.{tolerance_of}
use Rattle.check_packing.specs.Lines.{known, kind_for, in_range, box_of}
use Rattle.check_order.specs.Demand.{change, line_aside}
use Rattle.check_order.specs.Picked.{change_append}
use Rattle.check_order.specs.Parts.{Any, each_name}
use Rattle.check_words.specs.Words.{only_if}
use Rattle.check_list.specs.Finding.{box_inside, name_words, place_words}
use Rattle.check_order.specs.ByLine.{own_findings}

-- ---- "line numbers .. aside"

name_aside : (i : ℕ) (l : Line) (b : Bool) (k : Kind) → change line_aside (name_words i l b k) ≡ name_words 0 l b k
unfolding name_words change
name_aside i l b k = go b (in_range l k)
  where
    go : (b r : Bool)
        → change line_aside (only_if (not b) (1 ∷ i ∷ l.id ∷ 0 ∷ 0 ∷ []) ++ only_if (b && not r) (2 ∷ i ∷ l.id ∷ l.instance ∷ k.quantity ∷ []))
        ≡ only_if (not b) (1 ∷ 0 ∷ l.id ∷ 0 ∷ 0 ∷ []) ++ only_if (b && not r) (2 ∷ 0 ∷ l.id ∷ l.instance ∷ k.quantity ∷ [])
    go true true = refl
    go true false = refl
    go false r = refl

place_aside : (c : Container) (i : ℕ) (l : Line) (b : Bool) (k : Kind)
    → change line_aside (place_words c i l b k (box_of l k)) ≡ place_words c 0 l b k (box_of l k)
unfolding place_words change
place_aside c i l b k = go b (leb (length (share_of k.rule)) l.orientation) (ltb 0 l.bin) (box_inside c (tolerance_of c.size) (box_of l k))
  where
    go : (b o n d : Bool)
        → change line_aside (only_if (b && o) (4 ∷ i ∷ l.id ∷ l.orientation ∷ 0 ∷ []) ++
        (only_if (b && n) (5 ∷ i ∷ l.bin ∷ 0 ∷ 0 ∷ []) ++ only_if (b && not d) (6 ∷ i ∷ l.id ∷ 0 ∷ 0 ∷ [])))
        ≡ only_if (b && o) (4 ∷ 0 ∷ l.id ∷ l.orientation ∷ 0 ∷ []) ++
        (only_if (b && n) (5 ∷ 0 ∷ l.bin ∷ 0 ∷ 0 ∷ []) ++ only_if (b && not d) (6 ∷ 0 ∷ l.id ∷ 0 ∷ 0 ∷ []))
    go false o n d = refl
    go true true true true = refl
    go true true true false = refl
    go true true false true = refl
    go true true false false = refl
    go true false true true = refl
    go true false true false = refl
    go true false false true = refl
    go true false false false = refl

pub own_aside : (s : Sheet) (i : ℕ) (l : Line) → change line_aside (own_findings s i l) ≡ own_findings s 0 l
unfolding own_findings
own_aside s i l =
    let name = name_words i l (known s l) (kind_for s l) in
    let place = place_words s.container i l (known s l) (kind_for s l) (box_of l (kind_for s l)) in
    change_append line_aside Any name place (each_name Any i l (known s l) (kind_for s l) (λ id. tt) (λ id n m. tt))
    ∙ ap (λ (v : List ℕ). v ++ change line_aside place) (name_aside i l (known s l) (kind_for s l))
    ∙ ap (λ (v : List ℕ). name_words 0 l (known s l) (kind_for s l) ++ v) (place_aside s.container i l (known s l) (kind_for s l))
