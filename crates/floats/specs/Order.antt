-- The order of the floats: `le` is transitive on all of them, and on those that are no NaN `lt` is its negation the other way round.
use Rattle.std.specs.Prelude.{◌≡◌, refl, ℕ, zero, suc, ◌+◌, ◌*◌, ◌^◌, Bool, true, false, not, ◌||◌, cond, T, ltb, Float}
use Rattle.std.proofs.Common.{sym, subst, true≢false, arith}
use Rattle.std.specs.Float.{nan, inf, fin, Format}
use Rattle.std.specs.Float.Ieee.{of_bits, prec, emax, low, up, down, odd, units, round, lt, le, eq, is_nan}
use Rattle.std.specs.Float.Ieee.Bits.{is_true}
use Rattle.std.specs.Float.Ieee.Fits.{down_pos}
use Rattle.floats.specs.Ops.{none}
use Rattle.floats.specs.Compare.{below_not, says, said, through}

-- a NaN apart, infinities too
pub lt_not_le : (x y : Float) → T (not (is_nan x)) → T (not (is_nan y)) → lt x y ≡ not (le y x)
unfolding is_nan le
lt_not_le nan y p q = absurd p
lt_not_le (inf s) nan p q = absurd q
lt_not_le (inf true) (inf true) p q = refl
lt_not_le (inf true) (inf false) p q = refl
lt_not_le (inf false) (inf true) p q = refl
lt_not_le (inf false) (inf false) p q = refl
lt_not_le (inf true) (fin t n g) p q = refl
lt_not_le (inf false) (fin t n g) p q = refl
lt_not_le (fin s m e) nan p q = absurd q
lt_not_le (fin s m e) (inf true) p q = refl
lt_not_le (fin s m e) (inf false) p q = refl
lt_not_le (fin s m e) (fin t n g) p q = below_not s (m * up e * down g) t (n * up g * down e)

pub le_chain : (x y z : Float) → T (le x y) → T (le y z) → T (le x z)
unfolding le
le_chain nan y z h k = absurd h
le_chain (inf s) nan z h k = absurd h
le_chain (inf s) (inf t) nan h k = absurd k
le_chain (inf true) (inf t) (inf true) h k = tt
le_chain (inf true) (inf t) (inf false) h k = tt
le_chain (inf false) (inf true) (inf u) h k = absurd h
le_chain (inf false) (inf false) (inf u) h k = k
le_chain (inf true) (inf t) (fin u o i) h k = tt
le_chain (inf false) (inf true) (fin u o i) h k = absurd h
le_chain (inf false) (inf false) (fin u o i) h k = k
le_chain (inf s) (fin t n g) nan h k = absurd k
le_chain (inf true) (fin t n g) (inf true) h k = tt
le_chain (inf true) (fin t n g) (inf false) h k = tt
le_chain (inf false) (fin t n g) (inf u) h k = absurd h
le_chain (inf true) (fin t n g) (fin u o i) h k = tt
le_chain (inf false) (fin t n g) (fin u o i) h k = absurd h
le_chain (fin s m e) nan z h k = absurd h
le_chain (fin s m e) (inf true) z h k = absurd h
le_chain (fin s m e) (inf false) nan h k = absurd k
le_chain (fin s m e) (inf false) (inf true) h k = absurd k
le_chain (fin s m e) (inf false) (inf false) h k = tt
le_chain (fin s m e) (inf false) (fin u o i) h k = absurd k
le_chain (fin s m e) (fin t n g) nan h k = absurd k
le_chain (fin s m e) (fin t n g) (inf u) h k = k
le_chain (fin s m e) (fin t n g) (fin u o i) h k =
    said s (m * up e * down i) u (o * up i * down e)
    (through s (m * up e) (down e) t (n * up g) (down g) u (o * up i) (down i) (down_pos g)
    (says s (m * up e * down g) t (n * up g * down e) h)
    (says t (n * up g * down i) u (o * up i * down g) k))

-- ---- which floats are no NaN

pub le_number_l : (x y : Float) → T (le x y) → T (not (is_nan x))
unfolding le is_nan
le_number_l nan y h = absurd h
le_number_l (inf s) y h = tt
le_number_l (fin s m e) y h = tt

pub lt→le : (x y : Float) → T (lt x y) → T (le x y)
unfolding le
lt→le x y h = subst (λ (z : Bool). T (z || eq x y)) (sym (is_true (lt x y) h)) tt

pub nlt→le : (x y : Float) → T (not (is_nan x)) → T (not (is_nan y)) → T (not (lt x y)) → T (le y x)
nlt→le x y p q h = go (le y x) (subst (λ (z : Bool). T (not z)) (lt_not_le x y p q) h)
  where
    go : (b : Bool) → T (not (not b)) → T b
    go true t = tt
    go false t = t

-- ---- the sign: `signed s x` says that x is no NaN and has the sign s

abbrev pub signed : Bool → Float → Type 0
signed s nan = ⊥
signed s (inf t) = t ≡ s
signed s (fin t m e) = t ≡ s

odd_signed : (d : ℕ) (s : Bool) (q k l : ℕ) → signed s (odd d s q k l)
unfolding odd
odd_signed d s zero k l = refl
odd_signed d s (suc q) k l = refl

cond_signed : (s b : Bool) (x y : Float) → signed s x → signed s y → signed s (cond b x y)
cond_signed s true x y p q = p
cond_signed s false x y p q = q

units_signed : (f : Format) (s : Bool) (q k : ℕ) → signed s (units f s q k)
unfolding units
units_signed f s q k = cond_signed s (ltb (q * 2 ^ k) (2 ^ (low f + suc (emax f)))) (odd (suc (prec f)) s q k (low f)) (inf s)
    (odd_signed (suc (prec f)) s q k (low f)) refl

pub round_signed : (f : Format) (s : Bool) (a c : ℕ) → signed s (round f s a c)
unfolding round
round_signed f s a c = units_signed f s _ _

pub signed_number : (s : Bool) (x : Float) → signed s x → T (not (is_nan x))
unfolding is_nan
signed_number s nan p = p
signed_number s (inf t) p = tt
signed_number s (fin t m e) p = tt

-- infinity is at least each of them, and +0 at most
pub le_inf : (v : Float) → signed false v → T (le v (inf false))
unfolding le
le_inf nan p = absurd p
le_inf (inf true) p = absurd (true≢false p)
le_inf (inf false) p = tt
le_inf (fin s m e) p = tt

pub none_le : (v : Float) → signed false v → T (le none v)
unfolding le of_bits
none_le nan p = absurd p
none_le (inf true) p = absurd (true≢false p)
none_le (inf false) p = tt
none_le (fin true n d) p = absurd (true≢false p)
none_le (fin false n d) p = said false (0 * 1 * down d) false (n * up d * 1) (omega arith)

pub above_none : (v : Float) → T (lt none v) → signed false v
unfolding lt of_bits
above_none nan h = absurd h
above_none (inf true) h = absurd h
above_none (inf false) h = refl
above_none (fin true n d) h = absurd h
above_none (fin false n d) h = refl
