-- Laws on sections, which are records of one width after another.
use Rattle.std.specs.Prelude.{ℕ, zero, suc, ◌+◌, ◌*◌, ◌≤◌, ◌<◌, ◌≡◌, refl, List, ◌++◌, length}
use Rattle.std.proofs.Common.{⊎_elim, eq-or-lt_of_le, le_of_suc-le-suc, not-suc-le-zero, suc-mul, mul-le-mul_right, arith}
use Rattle.lists.specs.Below.{all_below, fewer}
use Rattle.file_bytes.specs.Bytes.{part}
use Rattle.file_write.specs.Stores.{all_length}
use Rattle.file_laws.specs.Parts.{Bytes, joined, part_first, part_second, part_all, bytes_nil, bytes_append}

-- ---- sections

pub all_bytes : (g : ℕ → List ℕ) (n : ℕ) → ((k : ℕ) → k < n → Bytes (g k)) → Bytes (all_below g n)
unfolding all_below
all_bytes g zero h = bytes_nil
all_bytes g (suc n) h = bytes_append (all_below g n) (g n) (all_bytes g n (fewer n h)) (h n (omega arith))

-- record k of a section
pub all_part : (g : ℕ → List ℕ) (w n k : ℕ) → ((j : ℕ) → length (g j) ≡ w) → k < n → part (all_below g n) (k * w) w ≡ g k
unfolding all_below
all_part g w zero k h l = absurd (not-suc-le-zero l)
all_part g w (suc n) k h l = ⊎_elim last (λ m. before m (all_part g w n k h m)) (eq-or-lt_of_le (le_of_suc-le-suc l))
  where
    size : length (all_below g n) ≡ n * w
    size = all_length g w h n

    last : k ≡ n → part (all_below g n ++ g n) (k * w) w ≡ g k
    last e =
        let p : n * w ≡ length (all_below g n) + 0 = omega (arith, size) in
        let q : length (g n) ≤ w = omega (arith, h n) in
        rw (e, p, part_second (all_below g n) (g n) 0 w) (part_all (g n) w q)

    before : k < n → part (all_below g n) (k * w) w ≡ g k → part (all_below g n ++ g n) (k * w) w ≡ g k
    before m e =
        let p : suc k * w ≤ n * w = mul-le-mul_right w m in
        let q : k * w + w ≤ length (all_below g n) = omega (arith, size, suc-mul k w) in
        rw (part_first (all_below g n) (g n) (k * w) w q) e

-- a section whose records stand in f one after another from b on is that part of f
pub all_is_part : (g : ℕ → List ℕ) (f : List ℕ) (b w n : ℕ) → ((k : ℕ) → k < n → g k ≡ part f (b + k * w) w) → all_below g n ≡ part f b (n * w)
unfolding all_below
all_is_part g f b w zero h = let e : zero * w ≡ 0 = omega arith in rw e
all_is_part g f b w (suc n) h =
    rw (suc-mul n w) (joined f b (n * w) (b + n * w) w (all_below g n) (g n) refl (all_is_part g f b w n (fewer n h)) (h n (omega arith)))
