-- Where one gap is at least the limit, the pair gets no finding.
use mathlib.Core.Path.{◌≡◌, refl, sym, ap, ◌∙◌, subst}
use mathlib.Core.Bool.{Bool, true, false, not, ◌&&◌, ◌||◌, cond, false≢true}
use mathlib.Core.List.{List}
use lib.Dec.{T}
use lib.Ieee.{Float, nan, inf, fin, le, lt, neg, is_nan, div, of_bits}
use lib.Ieee.Bits.{is_true}
use Rattle.floats.specs.Ops.{◌⊖◌, ◌⊘◌, none, x, y, z}
use Rattle.floats.specs.Order.{le_chain, le_number_l, lt_not_le}
use Rattle.lists.specs.Bools.{and_left, and_right, and_none}
use Rattle.check_pair.specs.declared.Verdict.{Verdict}
use Rattle.check_pair.specs.Pair.{overlaps, verdict_at}
use Rattle.check_pair.specs.Shortcut.{plain, some_gap, limit_of}
use Rattle.check_pair.proofs.Verdicts.{at_far}

le_number_r : (v w : Float) → T (le v w) → T (not (is_nan w))
unfolding le is_nan
le_number_r nan nan h = absurd h
le_number_r (inf s) nan h = absurd h
le_number_r (fin s m e) nan h = absurd h
le_number_r v (inf s) h = tt
le_number_r v (fin s m e) h = tt

pub holds : (b : Bool) → b ≡ true → T b
holds b e = subst T (sym e) tt

-- a gap that is at least a bound is not below it
not_under : (bound g : Float) → le bound g ≡ true → lt g bound ≡ false
not_under bound g h =
    let k = holds (le bound g) h in
    lt_not_le g bound (le_number_r bound g k) (le_number_l bound g k) ∙ ap not h

-- one of three tests holds
one_of : (a b c : Bool) (P : Type 0) → (a || (b || c)) ≡ true → (a ≡ true → P) → (b ≡ true → P) → (c ≡ true → P) → P
one_of true b c P h p q r = p refl
one_of false true c P h p q r = q refl
one_of false false c P h p q r = r h

no_overlap : (g : List Float) (t : Float) → some_gap (neg t) g ≡ true → overlaps g t ≡ false
no_overlap g t h =
    one_of (le (neg t) (x g)) (le (neg t) (y g)) (le (neg t) (z g)) (overlaps g t ≡ false) h
    (λ e. rw (not_under (neg t) (x g) e))
    (λ e. and_none (lt (x g) (neg t)) _ (rw (not_under (neg t) (y g) e)))
    (λ e. and_none (lt (x g) (neg t)) _ (and_none (lt (y g) (neg t)) _ (not_under (neg t) (z g) e)))

-- a gap that is at least the more is at least the less
more_le : (low high g : Float) → le low high ≡ true → le high g ≡ true → le low g ≡ true
more_le low high g h k = is_true (le low g) (le_chain low high g (holds (le low high) h) (holds (le high g) k))

some_less : (low high : Float) (g : List Float) → le low high ≡ true → some_gap high g ≡ true → some_gap low g ≡ true
some_less low high g h k =
    one_of (le high (x g)) (le high (y g)) (le high (z g)) (some_gap low g ≡ true) k
    (λ e. rw (more_le low high (x g) h e))
    (λ e. second (le low (x g)) (le low (y g)) (le low (z g)) (more_le low high (y g) h e))
    (λ e. third (le low (x g)) (le low (y g)) (le low (z g)) (more_le low high (z g) h e))
  where
    second : (a b c : Bool) → b ≡ true → (a || (b || c)) ≡ true
    second true b c e = refl
    second false b c e = rw e

    third : (a b c : Bool) → c ≡ true → (a || (b || c)) ≡ true
    third true b c e = refl
    third false true c e = refl
    third false false c e = e

pub no_number : (g : List Float) → some_gap (none ⊘ none) g ≡ false
unfolding div of_bits le
no_number g = refl

pub limit_far : (g : List Float) (asked t : Float) → some_gap (limit_of asked t) g ≡ true → verdict_at g asked t ≡ Verdict.Apart
unfolding limit_of
limit_far g asked t h = go (le (asked ⊖ t) none) refl (plain (asked ⊖ t) && le (neg t) (asked ⊖ t)) refl h
  where
    go : (a : Bool) → le (asked ⊖ t) none ≡ a → (b : Bool) → (plain (asked ⊖ t) && le (neg t) (asked ⊖ t)) ≡ b
        → some_gap (cond a (neg t) (cond b (asked ⊖ t) (none ⊘ none))) g ≡ true → verdict_at g asked t ≡ Verdict.Apart
    go true e b f k = sym (at_far g asked t (no_overlap g t k) (rw e))
    go false e true f k =
        let p = and_left (plain (asked ⊖ t)) _ f in
        let q = and_right (plain (asked ⊖ t)) _ f in
        sym (at_far g asked t (no_overlap g t (some_less (neg t) (asked ⊖ t) g q k)) (rw (e, p, k)))
    go false e false f k = absurd (false≢true (sym (no_number g) ∙ k))
