-- What was handed out, held against what a sample expects.
use Rattle.std.specs.Prelude.{ℕ, zero, suc, ◌+◌, ◌*◌, Bool, true, false, cond, ◌&&◌, ltb, leb, eqb, Result, Ok, Err}
use Rattle.std.specs.Prelude.{List, [], ◌∷◌, length, get_or, drop}
use Rattle.std.specs.List.{list_all}
use Rattle.std.specs.Cmp.Lexicographic.{pointwise}
use Rattle.domain.specs.Bounds.{most_lines}
use Rattle.domain.specs.declared.Refusal.{Refusal}
use Rattle.domain.specs.Refusal.{number_of, needed_of}
use Rattle.plan_sheet.specs.declared.Packed.{Packed}
use Rattle.file_bytes.specs.Bytes.{u32_at, u64_at}
use Rattle.replay_sample.specs.Sample.{beyond, same_float}
use Rattle.replay_sample.specs.Places.{further}

-- whether the n numbers from `at` on are the first n of the list, which has 0 past its end
unfoldable pub same_numbers : List ℕ → ℕ → List ℕ → ℕ → Bool
same_numbers b at list zero = true
same_numbers b at list (suc n) = same_numbers b at list n && eqb (u32_at b (further at 4 n)) (get_or list n 0)

-- the placement at `at` as the six words of a line: id, instance, orientation, and the bits of x, y and z
abbrev pub placement_at : List ℕ → ℕ → List ℕ
placement_at b at =
    u32_at b at
    ∷ u32_at b (beyond at 4)
    ∷ u32_at b (beyond at 8)
    ∷ u64_at b (beyond at 12)
    ∷ u64_at b (beyond at 20)
    ∷ u64_at b (beyond at 28)
    ∷ []

-- the six words from k on, which are 0 past their end
abbrev pub line_at : List ℕ → ℕ → List ℕ
line_at words k =
    get_or words k 0
    ∷ get_or words (k + 1) 0
    ∷ get_or words (k + 2) 0
    ∷ get_or words (k + 3) 0
    ∷ get_or words (k + 4) 0
    ∷ get_or words (k + 5) 0
    ∷ []

-- whether the placement at `at` is the line whose six words start at k
unfoldable pub same_line : List ℕ → ℕ → List ℕ → ℕ → Bool
same_line b at words k = pointwise eqb (placement_at b at) (line_at words k)

-- whether the n placements from `at` on are the first n lines
unfoldable pub same_lines : List ℕ → ℕ → List ℕ → ℕ → Bool
same_lines b at words zero = true
same_lines b at words (suc n) = same_lines b at words n && same_line b (further at 36 n) words (n * 6)

-- whether each word from `from` on is as it was lent
unfoldable pub untouched : ℕ → List ℕ → Bool
untouched from words = list_all (λ word. eqb word 11936128518282651045) (drop from words)

-- the words of so many lines, or 0 where they are more than there can be
unfoldable pub words_of : ℕ → ℕ
words_of placed = cond (ltb most_lines placed) 0 (placed * 6)

-- how many boxes the result at `at` places
abbrev pub placed_at : List ℕ → ℕ → ℕ
placed_at b at = u32_at b (beyond at 12)

-- where the unplaced ids of the result at `at` are counted, behind its placements
abbrev pub unplaced_from : ℕ → Packed → ℕ
unplaced_from at p = further (beyond at 16) 36 p.placed

-- whether the lines and the unplaced ids of the result at `at`, which ends where the case does, were handed out
unfoldable pub same_lists : List ℕ → ℕ → Packed → List ℕ → Bool
same_lists b at p words =
    same_lines b (beyond at 16) words p.placed
    && (eqb (u32_at b (unplaced_from at p)) p.unplaced
    && (same_numbers b (beyond (unplaced_from at p) 4) p.ids p.unplaced
    && eqb (further (beyond (unplaced_from at p) 4) 4 p.unplaced) (length b)))

-- whether the result at `at` was handed out, and the words past it are as they were
unfoldable pub is_result : List ℕ → ℕ → Packed → List ℕ → Bool
is_result b at p words =
    eqb (u32_at b at) p.considered
    && (same_float b (beyond at 4) p.utilization
    && (eqb (placed_at b at) p.placed
    && (same_lists b at p words && untouched (words_of p.placed) words)))

-- whether the call was refused by this number, and no word was changed
unfoldable pub is_refused : Result Packed Refusal → ℕ → List ℕ → Bool
is_refused (Ok p) number words = false
is_refused (Err r) number words = eqb (number_of r) number && untouched 0 words

-- the answer with so many words lent: the result, or for want of room 6 with the number of lines
unfoldable pub is_answer : List ℕ → ℕ → Result Packed Refusal → List ℕ → ℕ → Bool
is_answer b at (Ok p) words room = leb (words_of (placed_at b at)) room && is_result b at p words
is_answer b at (Err r) words room =
    ltb room (words_of (placed_at b at)) && (eqb (needed_of r) (placed_at b at) && is_refused (Err r) 6 words)
