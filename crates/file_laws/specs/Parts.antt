-- Laws on the parts of a list of bytes and on the numbers that stand there, for every width.
use Rattle.std.specs.Prelude.{ℕ, zero, suc, ◌+◌, ◌*◌, ◌/◌, ◌%◌, ◌^◌, ◌≤◌, ◌<◌, ◌≡◌, refl, List, [], ◌∷◌, ◌++◌, length, get_or, take, drop}
use Rattle.std.proofs.Common.{ap, ◌∙◌, append-nil, pow-suc, arith, length-drop, drop-cons, drop-drop, take-add, get_or-take, get_or-drop, take_all, take-take}
use Rattle.std.proofs.Math.Seq.{drop-append-add}
use Rattle.std.proofs.lemmas.List.{drop-append-le, take-append-le}
use Rattle.file_bytes.specs.Bytes.{number_at, bytes_of, part}

-- each entry is a byte
abbrev pub Bytes : List ℕ → Type 0
Bytes s = (i : ℕ) → get_or s i 0 < 256

-- ---- parts

-- two parts that touch are one
pub part_join : (s : List ℕ) (p a b : ℕ) → part s p a ++ part s (p + a) b ≡ part s p (a + b)
part_join s p a b = rw (take-add, drop-drop)

-- the same where what stands there is known, and the second place is written in any way
pub joined : (s : List ℕ) (p a q b : ℕ) (l m : List ℕ) → q ≡ p + a → l ≡ part s p a → m ≡ part s q b → l ++ m ≡ part s p (a + b)
joined s p a q b l m e h k = rw (h, k, e) (part_join s p a b)

-- the whole list is a part
pub part_all : (s : List ℕ) (n : ℕ) → length s ≤ n → part s 0 n ≡ s
part_all s n h = take_all n s h

pub part_at : (s : List ℕ) (p n i : ℕ) → i < n → get_or (part s p n) i 0 ≡ get_or s (p + i) 0
part_at s p n i h = rw (get_or-take, get_or-drop)

-- a part of the second of two lists, and of the first
pub part_second : (a b : List ℕ) (p n : ℕ) → part (a ++ b) (length a + p) n ≡ part b p n
part_second a b p n = rw drop-append-add

pub part_first : (a b : List ℕ) (p n : ℕ) → p + n ≤ length a → part (a ++ b) p n ≡ part a p n
part_first a b p n h =
    let l : n ≤ length (drop p a) = simp length-drop (omega arith) in
    let m : p ≤ length a = omega arith in
    rw (drop-append-le, take-append-le)

-- ---- bytes

pub bytes_nil : Bytes []
bytes_nil i = omega arith

pub bytes_cons : (b : ℕ) (s : List ℕ) → b < 256 → Bytes s → Bytes (b ∷ s)
bytes_cons b s h k zero = h
bytes_cons b s h k (suc i) = k i

pub bytes_append : (a b : List ℕ) → Bytes a → Bytes b → Bytes (a ++ b)
bytes_append [] b h k = k
bytes_append (x ∷ a) b h k = bytes_cons x (a ++ b) (h 0) (bytes_append a b (λ i. h (suc i)) k)

-- ---- numbers of any width

-- the bytes of a number are bytes
pub bytes_bytes : (w v : ℕ) → Bytes (bytes_of w v)
unfolding bytes_of
bytes_bytes zero v = bytes_nil
bytes_bytes (suc w) v = bytes_cons (v % 256) (bytes_of w (v / 256)) (omega arith) (bytes_bytes w (v / 256))

-- w bytes hold a number below 256 ^ w
pub number_below : (w : ℕ) (s : List ℕ) (at : ℕ) → Bytes s → number_at w s at < 256 ^ w
unfolding number_at
number_below zero s at h = omega arith
number_below (suc w) s at h = rw pow-suc (omega (arith, h at, number_below w s (suc at) h))

-- **the bytes of the number that stands there are the bytes that stand there**
pub bytes_number : (w : ℕ) (s : List ℕ) (at : ℕ) → Bytes s → at + w ≤ length s → bytes_of w (number_at w s at) ≡ part s at w
unfolding bytes_of number_at
bytes_number zero s at h l = refl
bytes_number (suc w) s at h l =
    let n = number_at w s (suc at) in
    let m : at < length s = omega arith in
    let a : (get_or s at 0 + n * 256) % 256 ≡ get_or s at 0 = omega (arith, h at) in
    let b : (get_or s at 0 + n * 256) / 256 ≡ n = omega (arith, h at) in
    rw (a, b, drop-cons s at 0, bytes_number w s (suc at) h (omega arith))

-- a number that starts behind the first entry does not see it
number_behind : (w : ℕ) (b : ℕ) (s : List ℕ) (at : ℕ) → number_at w (b ∷ s) (suc at) ≡ number_at w s at
unfolding number_at
number_behind zero b s at = refl
number_behind (suc w) b s at = rw (number_behind w b s (suc at))

-- **the number in the bytes of a number is that number**
pub number_bytes : (w v : ℕ) (rest : List ℕ) → v < 256 ^ w → number_at w (bytes_of w v ++ rest) 0 ≡ v
unfolding number_at bytes_of
number_bytes zero v rest h = omega arith
number_bytes (suc w) v rest h =
    let p : v < 256 ^ w * 256 = rw pow-suc at h in
    let q : v / 256 < 256 ^ w = omega arith in
    rw (number_behind w (v % 256) (bytes_of w (v / 256) ++ rest) 0, number_bytes w (v / 256) rest q) (omega arith)

-- a number sees only its own bytes
pub number_part : (w : ℕ) (s : List ℕ) (p n i : ℕ) → i + w ≤ n → number_at w s (p + i) ≡ number_at w (part s p n) i
unfolding number_at
number_part zero s p n i h = refl
number_part (suc w) s p n i h =
    let e : suc (p + i) ≡ p + suc i = omega arith in
    rw (part_at s p n i (omega arith), e, number_part w s p n (suc i) (omega arith))

-- ---- what stands at a place

-- a part of a part
pub part_inside : (s : List ℕ) (p n i w : ℕ) → i + w ≤ n → part (part s p n) i w ≡ part s (p + i) w
part_inside s p n i w h = inside i n (drop p s) h ∙ ap (take w) (drop-drop i p s)
  where
    inside : (j m : ℕ) (l : List ℕ) → j + w ≤ m → take w (drop j (take m l)) ≡ take w (drop j l)
    inside zero m l e = take-take w m l (omega arith)
    inside (suc j) zero l e = absurd (omega arith)
    inside (suc j) (suc m) [] e = refl
    inside (suc j) (suc m) (x ∷ l) e = inside j m l (omega arith)

-- a number whose bytes stand there
pub number_there : (w : ℕ) (s : List ℕ) (at v : ℕ) → part s at w ≡ bytes_of w v → v < 256 ^ w → number_at w s at ≡ v
number_there w s at v h l =
    let e : at + 0 ≡ at = omega arith in
    let m : 0 + w ≤ w = omega arith in
    (rw e at (number_part w s at w 0 m)) ∙ rw h (rw append-nil at (number_bytes w v [] l))
