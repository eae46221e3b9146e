-- What holds of each of a kind's lengths holds of each of its lengths in any orientation: they are the same ones in another order.
use Rattle.std.specs.Prelude.{Bool, true, false, cond, List, [], ℕ, zero, suc, ltb, length, get_or, Float}
use Rattle.floats.specs.Ops.{x, y, z}
use Rattle.measures.specs.declared.Kind.{Kind}
use Rattle.measures.specs.Orders.{orders, share_of, order_at, turned, lengths_in}

pub record Each (q : Float → Type 0) (v : List Float) : Type 0 where
  pub of_x : q (x v)
  pub of_y : q (y v)
  pub of_z : q (z v)

-- by row of the table. A row past it, which no rule has, would give the first length three times.
turned_each : (q : Float → Type 0) (size : List Float) (r : ℕ) → Each q size → Each q (turned size (get_or orders r []))
turned_each q size zero h = record { of_x = h.of_x; of_y = h.of_y; of_z = h.of_z }
turned_each q size (suc zero) h = record { of_x = h.of_x; of_y = h.of_z; of_z = h.of_y }
turned_each q size (suc (suc zero)) h = record { of_x = h.of_y; of_y = h.of_x; of_z = h.of_z }
turned_each q size (suc (suc (suc zero))) h = record { of_x = h.of_y; of_y = h.of_z; of_z = h.of_x }
turned_each q size (suc (suc (suc (suc zero)))) h = record { of_x = h.of_z; of_y = h.of_x; of_z = h.of_y }
turned_each q size (suc (suc (suc (suc (suc zero))))) h = record { of_x = h.of_z; of_y = h.of_y; of_z = h.of_x }
turned_each q size (suc (suc (suc (suc (suc (suc r)))))) h = record { of_x = h.of_x; of_y = h.of_x; of_z = h.of_x }

pub lengths_each : (q : Float → Type 0) (k : Kind) (i : ℕ) → Each q k.size → Each q (lengths_in k i)
unfolding lengths_in
lengths_each q k i h = go (ltb i (length (share_of k.rule)))
  where
    go : (b : Bool) → Each q (cond b (turned k.size (order_at k.rule i)) k.size)
    go true = turned_each q k.size (get_or (share_of k.rule) i 0) h
    go false = h
