-- A number by the bytes that it is read from, and the bytes that it is stored as: `number_at` and `bytes_of` beside the library's `from_le_bytes`
-- and `to_le_bytes`.
use Rattle.std.specs.Prelude.{ℕ, zero, suc, ◌+◌, ◌*◌, ◌/◌, ◌%◌, ◌^◌, ◌≤◌, ◌<◌, ◌≡◌, refl, List, [], ◌∷◌, ◌++◌, length, get_or, take, drop}
use Rattle.std.specs.Int.{w16, w32, w64, from_le_bytes, to_le_bytes, bytes_low_first}
use Rattle.std.proofs.Common.{◌∙◌, arith, ap, sym, replicate}
use Rattle.std.proofs.Math.Nat.{div-div-eq-div-mul, pow-suc}
use Rattle.std.proofs.Math.Numerals.{towards_suc}
use Rattle.std.proofs.Math.ListN.{get_or-eq_default}
use Rattle.std.proofs.lemmas.List.{get_or-take, get_or-drop}
use Rattle.file_bytes.specs.Bytes.{number_at, bytes_of, byte_at, u16_at, u32_at, u64_at, byte_out, u16_out, u32_out, u64_out}

-- nothing stands past the end
pub number_past : (w : ℕ) (s : List ℕ) (at : ℕ) → length s ≤ at → number_at w s at ≡ 0
unfolding number_at
number_past zero s at h = refl
number_past (suc w) s at h = rw (get_or-eq_default s 0 h, number_past w s (suc at) (omega arith)) (omega arith)

-- of some bytes the first ones, and those from a place on
pub number_head : (w m : ℕ) (s : List ℕ) (i : ℕ) → i + w ≤ m → number_at w (take m s) i ≡ number_at w s i
unfolding number_at
number_head zero m s i h = refl
number_head (suc w) m s i h = rw (get_or-take m s i 0 (omega arith), number_head w m s (suc i) (omega arith))

pub number_tail : (w : ℕ) (s : List ℕ) (at i : ℕ) → number_at w (drop at s) i ≡ number_at w s (at + i)
unfolding number_at
number_tail zero s at i = refl
number_tail (suc w) s at i =
    let e : at + suc i ≡ suc (at + i) = omega arith in
    let rest = number_tail w s at (suc i) in
    rw (get_or-drop at s i 0, rw e at rest)

-- zeros behind the bytes change nothing
zero_behind : (s : List ℕ) (n i : ℕ) → get_or (s ++ replicate n 0) i 0 ≡ get_or s i 0
zero_behind [] zero i = refl
zero_behind [] (suc n) zero = refl
zero_behind [] (suc n) (suc i) = zero_behind [] n i
zero_behind (x ∷ s) n zero = refl
zero_behind (x ∷ s) n (suc i) = zero_behind s n i

pub number_padded : (w : ℕ) (s : List ℕ) (n i : ℕ) → number_at w (s ++ replicate n 0) i ≡ number_at w s i
unfolding number_at
number_padded zero s n i = refl
number_padded (suc w) s n i = rw (zero_behind s n i, number_padded w s n (suc i))

-- a byte by itself
pub byte_is : (s : List ℕ) (at : ℕ) → get_or s at 0 ≡ byte_at s at
unfolding number_at
byte_is s at = omega arith

-- four bytes by themselves
pub four_is : (s : List ℕ) (at : ℕ) → u32_at (get_or s at 0 ∷ get_or s (at + 1) 0 ∷ get_or s (at + 2) 0 ∷ get_or s (at + 3) 0 ∷ []) 0 ≡ u32_at s at
unfolding number_at
four_is s at = simp towards_suc (omega arith)

pub u32_halves : (s : List ℕ) (at : ℕ) → u16_at s at + u16_at s (at + 2) * 65536 ≡ u32_at s at
unfolding number_at
u32_halves s at = simp towards_suc (omega arith)

pub u64_halves : (s : List ℕ) (at : ℕ) → u32_at s at + u32_at s (at + 4) * 4294967296 ≡ u64_at s at
unfolding number_at
u64_halves s at = simp towards_suc (omega arith)

-- what the library reads
pub u16_le : (b : List ℕ) → from_le_bytes w16 b ≡ u16_at b 0
unfolding number_at
u16_le b = omega arith

pub u32_le : (b : List ℕ) → from_le_bytes w32 b ≡ u32_at b 0
unfolding number_at
u32_le b = omega arith

pub u64_le : (b : List ℕ) → from_le_bytes w64 b ≡ u64_at b 0
unfolding number_at
u64_le b = omega arith

-- what it stores
low_first : (k i n m : ℕ) → m ≡ n / 256 ^ i → bytes_low_first i k n ≡ bytes_of k m
unfolding bytes_of
low_first zero i n m h = refl
low_first (suc k) zero n m h = let e : m ≡ n = omega arith in rw (e, low_first k 1 n (n / 256) refl)
low_first (suc k) (suc i) n m h =
    let e : n / 256 ^ suc i / 256 ≡ n / 256 ^ suc (suc i) = div-div-eq-div-mul n (256 ^ suc i) 256 ∙ ap (λ (p : ℕ). n / p) (sym (pow-suc 256 (suc i))) in
    rw (h, low_first k (suc (suc i)) n (n / 256 ^ suc i / 256) e)

pub byte_out_is : (x : ℕ) → x < 256 → x ∷ [] ≡ byte_out x
unfolding bytes_of
byte_out_is x h = let e : x ≡ x % 256 = omega arith in rw (← e)

pub u16_bytes : (n : ℕ) → to_le_bytes w16 n ≡ u16_out n
u16_bytes n = low_first 2 0 n n (omega arith)

pub u32_bytes : (n : ℕ) → to_le_bytes w32 n ≡ u32_out n
u32_bytes n = low_first 4 0 n n (omega arith)

pub u64_bytes : (n : ℕ) → to_le_bytes w64 n ≡ u64_out n
u64_bytes n = low_first 8 0 n n (omega arith)

-- ---- by halves

-- what is added in whole 256s leaves the lowest byte
same_byte : (a b q : ℕ) → a ≡ q * 256 + b → b % 256 ≡ a % 256
same_byte a b q h = omega arith

-- the bytes of a number of 64 bits are those of its lower half, then those of its upper
pub u64_out_lem : (v : ℕ) → u32_out (v % 4294967296) ++ u32_out (v / 4294967296) ≡ u64_out v
unfolding bytes_of
u64_out_lem v =
    let r = v % 4294967296 in
    let q = v / 4294967296 in
    let a : r % 256 ≡ v % 256 = same_byte v r (q * 16777216) (omega arith) in
    let b : r / 256 % 256 ≡ v / 256 % 256 = same_byte (v / 256) (r / 256) (q * 65536) (omega arith) in
    let c : r / 256 / 256 % 256 ≡ v / 256 / 256 % 256 = same_byte (v / 256 / 256) (r / 256 / 256) (q * 256) (omega arith) in
    let d : r / 256 / 256 / 256 % 256 ≡ v / 256 / 256 / 256 % 256 = same_byte (v / 256 / 256 / 256) (r / 256 / 256 / 256) q (omega arith) in
    let e : q ≡ v / 256 / 256 / 256 / 256 = omega arith in
    rw (a, b, c, d, e)
