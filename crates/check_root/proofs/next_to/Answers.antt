-- `next_to` meets its contract: the distance from the square of k tells which of the three it is.
use Rattle.std.proofs.Common.{◌≡◌, refl, ℕ, ◌+◌, ◌-◌, ◌*◌, ◌≤◌, ◌<◌, Bool, true, false, arith, ltb, leb}
use borrow.Author.Tests.{ltb-true, ltb-false, leb-true, leb-false}
use mir.Val.{bool_byte}
use Rattle.check_root.specs.Root.{near_root}
use Rattle.check_root.specs.Roots.{near_same, near_above, near_below, squares_apart}
use Rattle.check_root.proofs.next_to.Goals as goal

-- one more, one less or the same, by the two tests
module _ (n k e t : ℕ) (apart : n + t ≡ e + k * k) (p : 0 < k) (low : t + 2 < e + 3 * k) (high : e ≤ t + 3 * k + 2) where
  by_tests : (above below : Bool) → ltb (t + k) e ≡ above → leb (e + k) t ≡ below → (u d : ℕ) → u ≡ bool_byte above → d ≡ bool_byte below
      → k + u - d ≡ near_root n
  by_tests true true a b u d eu ed = let x = ltb-true (t + k) e a in let y = leb-true (e + k) t b in absurd (omega arith)
  by_tests true false a b u d eu ed = let x = ltb-true (t + k) e a in let r = near_above n k e t apart x high in omega arith
  by_tests false true a b u d eu ed = let y = leb-true (e + k) t b in let r = near_below n k e t apart p low y in omega arith
  by_tests false false a b u d eu ed =
      let x = ltb-false (t + k) e a in
      let y = leb-false (e + k) t b in
      let r = near_same n k e t apart (omega arith) (omega arith) in
      omega arith

pub returns-clause-value : goal.returns-clause-value
returns-clause-value c =
    let q = c.squared-s.ensures.value in
    let k = c.args.k in
    let a = squares_apart c.args.m k _ _ q c.if-m-s.false in
    by_tests _ k _ _ a (omega arith) (omega arith) c.if-t-k.false _ _ refl refl _ _ c.from.ensures c.from-2.ensures
