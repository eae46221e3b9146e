-- `fill_thousand::whole_or_none` meets its contract: between 1 and 10,000 the fraction can be dropped, and what is left is compared with the length.
use Rattle.std.proofs.Common.{◌≡◌, ℕ, ◌≤◌, Bool, true, T, sym, subst, zero-le}
use lib.Ieee.{le}
use Rattle.lists.specs.Bools.{and_left, and_right}
use Rattle.fill_thousand.specs.Sides.{shortest, longest}
use Rattle.fill_thousand.specs.SideLaws.{above_minus_one, below_words, cut_most, whole_kept, whole_lost}
use Rattle.fill_thousand.proofs.whole_or_none.Goals as goal

holds : (b : Bool) → b ≡ true → T b
holds b e = subst T (sym e) tt

pub truncating_f64_to_u64-n-requires : goal.truncating_f64_to_u64-n-requires
truncating_f64_to_u64-n-requires c =
    let v = c.args.v in
    let l = holds (le shortest v) (and_left (le shortest v) (le v longest) c.requires) in
    let h = holds (le v longest) (and_right (le shortest v) (le v longest) c.requires) in
    record { lower_bound = above_minus_one v l; upper_bound = below_words v l h }

pub returns-then-nearest_u64_to_f64-v : goal.returns-then-nearest_u64_to_f64-v
returns-then-nearest_u64_to_f64-v c =
    let v = c.args.v in
    let h = holds (le v longest) (and_right (le shortest v) (le v longest) c.requires) in
    record {
      value = whole_kept v _ _ c.truncating_f64_to_u64-n.ensures c.nearest_u64_to_f64.ensures c.if-nearest_u64_to_f64-v.true;
      most = subst (λ (n : ℕ). n ≤ 10000) (sym c.truncating_f64_to_u64-n.ensures) (cut_most v h);
    }

pub returns : goal.returns
returns c =
    let v = c.args.v in
    record { value = whole_lost v _ _ c.truncating_f64_to_u64-n.ensures c.nearest_u64_to_f64.ensures c.if-nearest_u64_to_f64-v.false; most = zero-le }
