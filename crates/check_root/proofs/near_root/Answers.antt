-- `near_root` meets its contract: where what is left is above the root, the next number is nearer.
use Rattle.std.proofs.Common.{ℕ, ◌*◌, ◌^◌, ◌∙◌, ap, arith}
use Rattle.check_root.specs.Powers.{sq_lt}
use Rattle.check_root.specs.Roots.{near_up, near_down}
use Rattle.check_root.proofs.near_root.Goals as goal

pub extended-p-requires : goal.extended-p-requires
extended-p-requires c = record { small = sq_lt _ (2 ^ 27) (omega (arith, c.whole_root.ensures)) }

pub returns-then-p-clause-value : goal.returns-then-p-clause-value
returns-then-p-clause-value c = near_up _ _ _ (c.extended-p.ensures.value ∙ ap (λ (x : ℕ). x * 4 ^ 26) c.whole_root.ensures) c.extended-p.result.left c.if-p.true

pub returns-else-p-clause-value : goal.returns-else-p-clause-value
returns-else-p-clause-value c = near_down _ _ _ (c.extended-p.ensures.value ∙ ap (λ (x : ℕ). x * 4 ^ 26) c.whole_root.ensures) c.extended-p.result.left c.if-p.false
