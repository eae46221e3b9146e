-- `check_root::sqrt_by` meets its contract: each test settles its case, and the numbers above zero go by their pattern.
use mathlib.Core.Path.{sym, subst, ap, ◌∙◌}
use Prim.Native.Nat.{ℕ, ◌*◌, ◌<◌, ◌≤◌, ◌^◌}
use lib.Dec.{T}
use lib.Ieee.{binary64, fits}
use Rattle.check_root.specs.Sqrt.{rounded, mag}
use Rattle.check_root.specs.Cases.{at_nan, at_zero, at_negative, View, view, pattern_pos, at_infinity, at_number}
use Rattle.check_root.proofs.sqrt_by.Goals as goal
use Rattle.check_root.proofs.sqrt_by.Goals.{After-bits_of-b}

-- after the tests the float is the infinity or above zero, and the format holds it, since it is an `f64`
seen : (c : After-bits_of-b) → View c.args.x
seen c = view _ c.if-x.false c.if-x-2.false c.if-x-3.false

held : (c : After-bits_of-b) → T (fits binary64 c.args.x)
held c = subst T (sym c.well_formed.0.1) tt

pub returns-then-x : goal.returns-then-x
returns-then-x c = at_nan _ c.if-x.true

pub returns-then-x-2 : goal.returns-then-x-2
returns-then-x-2 c = at_zero _ c.if-x-2.true

pub returns-then-x-3 : goal.returns-then-x-3
returns-then-x-3 c = at_negative _ c.if-x-3.true

pub of_pattern-requires : goal.of_pattern-requires
of_pattern-requires c =
    let d = c.before in
    record {
      some = subst (λ (b : ℕ). 0 < b) (sym d.bits_of-b.ensures) (pattern_pos _ (held (goal.at.of_pattern-requires c).After-bits_of-b) d.if-x-2.false);
      finite = c.if-b-lt9218868437227405312.true;
    }

pub returns-then-b-lt9218868437227405312 : goal.returns-then-b-lt9218868437227405312
returns-then-b-lt9218868437227405312 c =
    let d = c.before.before in
    let e = d.bits_of-b.ensures in
    c.of_pattern.ensures
    ∙ ap (λ (b : ℕ). rounded binary64 (mag b * 2 ^ 1074)) e
    ∙ at_number _ (seen (goal.at.returns-then-b-lt9218868437227405312 c).After-bits_of-b) (held (goal.at.returns-then-b-lt9218868437227405312 c).After-bits_of-b) (subst (λ (b : ℕ). b < 2047 * 2 ^ 52) e c.if-b-lt9218868437227405312.true)

pub returns-else-b-lt9218868437227405312 : goal.returns-else-b-lt9218868437227405312
returns-else-b-lt9218868437227405312 c = at_infinity _ (seen (goal.at.returns-else-b-lt9218868437227405312 c).After-bits_of-b) (held (goal.at.returns-else-b-lt9218868437227405312 c).After-bits_of-b) (subst (λ (b : ℕ). 2047 * 2 ^ 52 ≤ b) c.bits_of-b.ensures c.if-b-lt9218868437227405312.false)
