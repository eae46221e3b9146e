-- `write::put_all` meets its contract: after i turns the first i records are stored.
use Rattle.std.proofs.Common.{◌≡◌, ℕ, ◌+◌, ◌*◌, ◌<◌, List, refl, ◌∙◌, arith, get_or, length}
use Rattle.std.proofs.lemmas.List.{get_or_default}
use native.Mathlib.Numerals.{add-one}
use Rattle.lists.specs.Below.{all_below}
use Rattle.file_bytes.specs.Stores.{Put, then, put_none, put_length}
use Rattle.file_write.specs.Stores.{all_length}
use Rattle.file_write.proofs.write.put_all.Goals as goal

pub loop-i-init : goal.loop-i-init
unfolding all_below
loop-i-init g c = (refl, λ d. put_none _ _)

-- a record more
more : {A : Type 0} (bytes : A → List ℕ) (w : ℕ) → ((r : A) → length (bytes r) ≡ w) → (xs : List A) (d r : A) (i at v : ℕ) {o o₁ o₂ : List ℕ}
    → i < length xs → r ≡ get_or xs i r → v ≡ w → Put o at (all_below (λ k. bytes (get_or xs k d)) i) o₁ → Put o₁ (at + i * v) (bytes r) o₂
    → Put o at (all_below (λ k. bytes (get_or xs k d)) (i + 1)) o₂
unfolding all_below
more bytes w long xs d r i at v h e n p q =
    let same : r ≡ get_or xs i d = e ∙ get_or_default xs i r d h in
    rw add-one (then p (all_length (λ k. bytes (get_or xs k d)) w (λ k. long (get_or xs k d)) i) (rw n refl) (rw same at q))

pub loop-i-preserved : goal.loop-i-preserved
loop-i-preserved g c = (
  put_length c.put.ensures ∙ c.loop-i.invariant.0,
  λ d. more g.T.Record.bytes g.T.Record.WIDTH g.met.T.Record.long c.args.records.now d
      c.index-records-i.result c.loop-i.i c.args.at c.WIDTH.result c.loop-i-test.true c.index-records-i.is c.WIDTH.ensures
      (c.loop-i.invariant.1 d) c.put.ensures,
)

pub returns : goal.returns
returns g c = let e : c.loop-i.i ≡ length c.args.records.now = omega arith in rw e at c.loop-i.invariant.1
