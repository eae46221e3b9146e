-- `Scaled::normal` meets its contract: four times the number and one power of four less are the same; m is below 2 ^ 54, so the powers do not run out.
use Rattle.std.proofs.Common.{◌≡◌, ◌<◌, ◌-◌, ◌*◌, ◌^◌, arith}
use Rattle.check_root.specs.Powers.{quad, deep}
use Rattle.check_root.proofs.Scaled.normal.Goals as goal

pub loop-m-preserved : goal.loop-m-preserved
loop-m-preserved c =
    let i = c.loop-m.invariant in
    let l : 0 < c.loop-m.g = omega arith in
    let e : c.loop-m.m * 4 * 4 ^ (c.loop-m.g - 1) ≡ c.args.self.m * 4 ^ c.args.self.g = omega (arith, quad c.loop-m.m c.loop-m.g l, i.value) in
    let s : c.loop-m.m * 4 < 2 ^ 54 = omega arith in
    record { value = e; some = omega arith; digits = s; low = deep _ _ _ _ s e c.args.self.some c.requires.deep; high = omega arith }
