-- Which results are numbers: a finite float plus or less a float that is no NaN is no NaN, and what lies between finite floats is finite.
use Rattle.std.specs.Prelude.{ℕ, ◌+◌, ◌-◌, ◌*◌, Bool, true, false, not, ◌&&◌, cond, T, ltb, Float}
use Rattle.std.specs.Bool.{beq}
use Rattle.std.specs.Float.{nan, inf, fin, Format}
use Rattle.std.specs.Float.Ieee.{up, down, round, sum, add, sub, neg, le, is_nan}
use Rattle.std.specs.Float.Ieee.Scale.{finite}
use Rattle.floats.specs.Order.{round_signed, signed_number}

round_number : (f : Format) (s : Bool) (a c : ℕ) → T (not (is_nan (round f s a c)))
round_number f s a c = signed_number s (round f s a c) (round_signed f s a c)

cond_number : (b : Bool) (v w : Float) → T (not (is_nan v)) → T (not (is_nan w)) → T (not (is_nan (cond b v w)))
cond_number true v w p q = p
cond_number false v w p q = q

sum_number : (f : Format) (s : Bool) (a : ℕ) (t : Bool) (b c : ℕ) → T (not (is_nan (sum f s a t b c)))
unfolding sum
sum_number f s a t b c =
    cond_number (beq s t) (round f s (a + b) c) (cond (ltb a b) (round f t (b - a) c) (round f (s && ltb b a) (a - b) c)) (round_number f s (a + b) c)
    (cond_number (ltb a b) (round f t (b - a) c) (round f (s && ltb b a) (a - b) c) (round_number f t (b - a) c) (round_number f (s && ltb b a) (a - b) c))

pub add_number : (f : Format) (v w : Float) → T (finite v) → T (not (is_nan w)) → T (not (is_nan (add f v w)))
add_number f nan w p q = absurd p
add_number f (inf s) w p q = absurd p
add_number f (fin s m e) nan p q = absurd (unfold is_nan in q)
add_number f (fin s m e) (inf t) p q = unfold add is_nan in tt
add_number f (fin s m e) (fin t n d) p q = unfold add in sum_number f s (m * up e * down d) t (n * up d * down e) (down e * down d)

pub sub_number : (f : Format) (v w : Float) → T (finite v) → T (not (is_nan w)) → T (not (is_nan (sub f v w)))
sub_number f v nan p q = absurd (unfold is_nan in q)
sub_number f v (inf t) p q = unfold sub neg in add_number f v (inf (not t)) p (unfold is_nan in tt)
sub_number f v (fin t n d) p q = unfold sub neg in add_number f v (fin (not t) n d) p (unfold is_nan in tt)

pub finite_number : (v : Float) → T (finite v) → T (not (is_nan v))
unfolding is_nan
finite_number nan p = absurd p
finite_number (inf s) p = absurd p
finite_number (fin s m e) p = tt

pub finite_between : (least v most : Float) → T (finite least) → T (finite most) → T (le least v) → T (le v most) → T (finite v)
unfolding le
finite_between nan v most p q h k = absurd p
finite_between (inf s) v most p q h k = absurd p
finite_between (fin s m e) v nan p q h k = absurd q
finite_between (fin s m e) v (inf t) p q h k = absurd q
finite_between (fin s m e) nan (fin t n d) p q h k = absurd h
finite_between (fin s m e) (inf true) (fin t n d) p q h k = absurd h
finite_between (fin s m e) (inf false) (fin t n d) p q h k = absurd k
finite_between (fin s m e) (fin u o i) (fin t n d) p q h k = tt
