-- `has_stranger` meets its contract: what `any` says of the places of the records, said by the definition.
use Rattle.std.proofs.Common.{◌≡◌, ℕ, zero, suc, ◌+◌, ◌≤◌, ◌<◌, Bool, take, refl, le_refl, ◌∙◌, add-one, arith, rules, tests}
use Rattle.std.specs.List.{list_any, range_with_len}
use Rattle.std.proofs.lemmas.List.{take_all}
use Rattle.std.proofs.lemmas.Iterator.{YieldsList-from_range}
use Rattle.std.proofs.lemmas.Iterator.Search.{any_from_yields_List}
use Rattle.std.proofs.lemmas.List.Folds.{list_any_more}
use Rattle.std.proofs.lemmas.List.FromFn.{length-range_with_len, get_or-range_with_len}
use Rattle.lists.specs.Below.{any_below}
use Rattle.layer_instances.specs.Records.{records_in, is_stranger}
use Rattle.layer_instances.proofs.has_stranger.Goals as goal

-- the first i of the numbers below n
some_below : (p : ℕ → Bool) (n i : ℕ) → i ≤ n → list_any p (take i (range_with_len 0 n)) ≡ any_below p i
unfolding any_below
some_below p n zero h = refl
some_below p n (suc i) h =
    let l : i < n = omega arith in
    let e = list_any_more p (range_with_len 0 n) i 0 (rw length-range_with_len l) in
    let q : 0 + i ≡ i = omega arith in
    (rw add-one at e) ∙ rw (some_below p n i (omega arith), get_or-range_with_len 0 n i 0 l, q)

-- and all of them
some_within : (p : ℕ → Bool) (n : ℕ) → list_any p (range_with_len 0 n) ≡ any_below p n
some_within p n =
    let e = some_below p n n (le_refl n) in
    let whole : take n (range_with_len 0 n) ≡ range_with_len 0 n = take_all n (range_with_len 0 n) (rw length-range_with_len (le_refl n)) in
    rw whole at e

pub returns : goal.returns
unfolding is_stranger
returns c =
    let p = is_stranger c.args.records.now c.args.m in
    let n = records_in c.args.records.now in
    any_from_yields_List p _ _ c.any.result c.any.ensures.ran (YieldsList-from_range 0 n n refl (omega arith)) (λ x b q k. search (rules, tests))
    ∙ some_within p n
