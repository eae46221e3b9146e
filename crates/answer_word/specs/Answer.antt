-- One word for an answer.
use Rattle.std.specs.Prelude.{ℕ, ◌+◌, ◌*◌, ◌<◌, cond, eqb, Bool, true, false, zero, suc, Result, Ok, Err}
use Rattle.std.proofs.Common.{arith}
use Rattle.domain.specs.declared.Refusal.{Refusal}
use Rattle.domain.specs.Refusal.{number_of, needed_of, refusal_by, answer_with, refused_or}

-- an answer's count is below this, 2^32
abbrev pub unit : ℕ
unit = 4294967296

-- the refusal number times that, plus the count
abbrev pub answer_of : ℕ → ℕ → ℕ
answer_of refused count = refused * unit + count

-- RULES: Boundary. The word of a count, or of a refusal with the number that it says needs room
abbrev pub word_told : Result ℕ Refusal → ℕ
word_told (Ok count) = answer_of 0 count
word_told (Err r) = answer_of (number_of r) (needed_of r)

-- ---- counts that fit in half a word

abbrev pub Fits : Result ℕ Refusal → Type 0
Fits (Ok count) = count < unit
Fits (Err r) = needed_of r < unit

needed_fits : (n needed : ℕ) → needed < unit → needed_of (refusal_by n needed) < unit
needed_fits n needed h = go (eqb n 1) (eqb n 2) (eqb n 3) (eqb n 4) (eqb n 5) (eqb n 6) (eqb n 7) (eqb n 8)
  where
    go : (a b c d e f g i : Bool)
        → needed_of
        (cond a Refusal.Shape
        (cond b Refusal.Count
        (cond c Refusal.Measure
        (cond d Refusal.Record
        (cond e Refusal.Repeated (cond f (Refusal.Room needed) (cond g Refusal.Full (cond i Refusal.Uneven Refusal.Stranger)))))))) < unit
    go true b c d e f g i = omega arith
    go false true c d e f g i = omega arith
    go false false true d e f g i = omega arith
    go false false false true e f g i = omega arith
    go false false false false true f g i = omega arith
    go false false false false false true g i = h
    go false false false false false false true i = omega arith
    go false false false false false false false true = omega arith
    go false false false false false false false false = omega arith

pub fits_with : (n needed v : ℕ) → needed < unit → v < unit → Fits (answer_with n needed v)
unfolding answer_with
fits_with zero needed v h k = k
fits_with (suc n) needed v h k = needed_fits (suc n) needed h

pub fits_or : (n : ℕ) (after : Result ℕ Refusal) → Fits after → Fits (refused_or n after)
unfolding refused_or
fits_or zero after h = h
fits_or (suc n) after h = needed_fits (suc n) 0 (omega arith)

pub fits_refused : (n : ℕ) (after : Result ℕ Refusal) → Fits (refused_or (suc n) after)
unfolding refused_or
fits_refused n after = needed_fits (suc n) 0 (omega arith)
