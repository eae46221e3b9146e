-- What is told of stored points: their count as the result, the store as the lent rows.
use Rattle.std.specs.Prelude.{◌≡◌, List, ℕ, Float}
use Rattle.point_grow.specs.Grow.{Stock}

pub record Stocked (s : Stock) (live : ℕ) (points : List (List Float)) : Type 0 where
  pub live_is : live ≡ s.live
  pub points_are : points ≡ s.points
