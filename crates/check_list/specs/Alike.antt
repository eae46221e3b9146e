-- Two views that agree on their lines give them the same findings: of an unknown line neither kind nor box is looked at.
use Rattle.std.specs.Prelude.{◌≡◌, refl, Bool, true, false, ◌&&◌, List, ◌++◌, ℕ, ◌<◌, ltb}
use Rattle.std.proofs.Common.{◌∙◌}
use Rattle.std.proofs.Math.Path.{ap}
use Rattle.lists.specs.Below.{all_below, all_same}
use Rattle.lists.specs.Bools.{and_left, and_right}
use Rattle.measures.specs.declared.Kind.{Kind}
use Rattle.measures.specs.declared.Container.{Container}
use Rattle.sheet.specs.declared.Line.{Line}
use Rattle.check_pair.specs.declared.Extent.{Extent}
use Rattle.check_pair.specs.Pair.{verdict_of}
use Rattle.check_pair.specs.Tolerance.{tolerance_of}
use Rattle.check_words.specs.Words.{only_if}
use Rattle.check_list.specs.Finding.{name_words, repeat_words, place_words, verdict_words}
use Rattle.check_list.specs.View.{View, around, line_found, verdict_found, pair_found, pairs_found, lines_found}

-- on what pairs are judged by
pub record AlikeBoxes (v w : View) : Type 0 where
  pub lines_are : v.many.lines ≡ w.many.lines
  pub known_is : (i : ℕ) → i < w.many.lines → v.known i ≡ w.known i
  pub box_is : (i : ℕ) → i < w.many.lines → w.known i ≡ true → v.box i ≡ w.box i
  pub case_is : (i : ℕ) → i < w.many.lines → around v i ≡ around w i

-- and on what a line is judged by
pub record AlikeLines (v w : View) : Type 0 where
  pub boxed : AlikeBoxes v w
  pub line_is : (i : ℕ) → i < w.many.lines → v.line i ≡ w.line i
  pub kind_is : (i : ℕ) → i < w.many.lines → w.known i ≡ true → v.kind i ≡ w.kind i
  pub again_is : (i : ℕ) → i < w.many.lines → v.repeated i ≡ w.repeated i

-- words that are there only where a test holds need be the same only there
pub only_same : (b : Bool) (ws vs : List ℕ) → (b ≡ true → ws ≡ vs) → only_if b ws ≡ only_if b vs
only_same true ws vs e = e refl
only_same false ws vs e = refl

unlooked : (c : Container) (i : ℕ) (l : Line) (b a : Bool) (k h : Kind) (e g : Extent) → (b ≡ true → k ≡ h) → (b ≡ true → e ≡ g)
    → name_words i l b k ++ (repeat_words i l a ++ place_words c i l b k e) ≡ name_words i l b h ++ (repeat_words i l a ++ place_words c i l b h g)
unfolding name_words place_words
unlooked c i l true a k h e g p q = rw (p refl, q refl)
unlooked c i l false a k h e g p q = refl

module _ (v w : View) (a : AlikeBoxes v w) where
  abbrev n : ℕ
  n = w.many.lines

  -- both are known only where their boxes are the same
  verdict_same : (i j : ℕ) → i < n → j < n → (w.known i && w.known j) ≡ true → verdict_found v i j ≡ verdict_found w i j
  unfolding verdict_found
  verdict_same i j l k e =
      ap (λ (r : Extent). verdict_of r (v.box j) (around v i).spacing (tolerance_of (around v i).size))
      (a.box_is i l (and_left (w.known i) (w.known j) e))
      ∙ ap (λ (r : Extent). verdict_of (w.box i) r (around v i).spacing (tolerance_of (around v i).size))
      (a.box_is j k (and_right (w.known i) (w.known j) e))
      ∙ ap (λ (r : Container). verdict_of (w.box i) (w.box j) r.spacing (tolerance_of r.size)) (a.case_is i l)

  pair_same : (i j : ℕ) → i < n → j < n → pair_found v i j ≡ pair_found w i j
  unfolding pair_found
  pair_same i j l k =
      rw (a.known_is i l, a.known_is j k)
      (ap (only_if (ltb i j)) (only_same (w.known i && w.known j) _ _ (λ e.
      ap (λ (r : Container). verdict_words i j r.spacing (verdict_found v i j)) (a.case_is i l)
      ∙ ap (verdict_words i j (around w i).spacing) (verdict_same i j l k e))))

  pub pairs_same : (i : ℕ) → i < n → pairs_found v i ≡ pairs_found w i
  unfolding pairs_found
  pairs_same i l = ap (all_below (pair_found v i)) a.lines_are ∙ all_same (pair_found v i) (pair_found w i) n (λ j k. pair_same i j l k)

pub line_same : (v w : View) → AlikeLines v w → (i : ℕ) → i < w.many.lines → line_found v i ≡ line_found w i
unfolding line_found
line_same v w a i l =
    rw (a.line_is i l, a.boxed.known_is i l, a.again_is i l, a.boxed.case_is i l)
    (unlooked (around w i) i (w.line i) (w.known i) (w.repeated i) (v.kind i) (w.kind i) (v.box i) (w.box i) (a.kind_is i l) (a.boxed.box_is i l))

pub lines_same : (v w : View) → AlikeLines v w → lines_found v ≡ lines_found w
unfolding lines_found
lines_same v w a =
    let n = w.many.lines in
    ap (λ (k : ℕ). all_below (line_found v) k ++ all_below (pairs_found v) k) a.boxed.lines_are
    ∙ ap (λ (ws : List ℕ). ws ++ all_below (pairs_found v) n) (all_same (line_found v) (line_found w) n (line_same v w a))
    ∙ ap (λ (ws : List ℕ). all_below (line_found w) n ++ ws) (all_same (pairs_found v) (pairs_found w) n (pairs_same v w a.boxed))
