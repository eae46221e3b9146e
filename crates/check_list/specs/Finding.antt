-- Each finding's five words, unused ones 0, by what was found out of a line, a pair, the mass, a kind or an unplaced id. Line numbers
-- begin at 0. RULES: Findings: words
use Rattle.std.specs.Prelude.{ℕ, Bool, not, ◌&&◌, ◌||◌, List, [], ◌∷◌, ◌++◌, ltb, leb, length, get_or, Float}
use Rattle.std.specs.Float.{nan, binary64}
use Rattle.std.specs.Float.Ieee.{to_bits, lt, le}
use Rattle.floats.specs.Ops.{◌⊕◌, ◌⊖◌, none}
use Rattle.measures.specs.declared.Kind.{Kind}
use Rattle.measures.specs.declared.Container.{Container}
use Rattle.measures.specs.Orders.{share_of}
use Rattle.sheet.specs.declared.Line.{Line}
use Rattle.check_pair.specs.declared.Extent.{Extent}
use Rattle.check_pair.specs.declared.Verdict.{Verdict}
use Rattle.check_pair.specs.declared.Verdict.TheVariants.{Apart, Overlap, TooClose}
use Rattle.check_pair.specs.Tolerance.{tolerance_of}
use Rattle.check_words.specs.Words.{only_if}

-- ---- line by line: line i is l; k is the kind that it names, where it is known. RULES: Findings: lines

-- the copy that the line names is one of its kind's
abbrev pub in_range : Line → Kind → Bool
in_range l k = ltb l.instance k.quantity

-- 1: a line of no kind of the sheet, which gets nothing further. 2: a copy that its kind does not have.
unfoldable pub name_words : ℕ → Line → Bool → Kind → List ℕ
name_words i l known k =
    only_if (not known) (1 ∷ i ∷ l.id ∷ 0 ∷ 0 ∷ [])
    ++ only_if (known && not (in_range l k)) (2 ∷ i ∷ l.id ∷ l.instance ∷ k.quantity ∷ [])

-- 3: a copy that an earlier line placed
unfoldable pub repeat_words : ℕ → Line → Bool → List ℕ
repeat_words i l repeats = only_if repeats (3 ∷ i ∷ l.id ∷ l.instance ∷ 0 ∷ [])

-- a box inside a container, less its margin, but for the tolerance
abbrev pub inside_on : Container → Float → Extent → ℕ → Bool
inside_on c t e a = le (c.margin ⊖ t) (get_or e.min a nan) && le (get_or e.max a nan) (get_or c.size a nan ⊖ c.margin ⊕ t)

unfoldable pub box_inside : Container → Float → Extent → Bool
box_inside c t e = inside_on c t e 0 && (inside_on c t e 1 && inside_on c t e 2)

-- 4: an orientation that its kind may not have. 5: a bin other than the first. 6: a box that is not inside.
unfoldable pub place_words : Container → ℕ → Line → Bool → Kind → Extent → List ℕ
place_words c i l known k e =
    only_if (known && leb (length (share_of k.rule)) l.orientation) (4 ∷ i ∷ l.id ∷ l.orientation ∷ 0 ∷ [])
    ++ (only_if (known && ltb 0 l.bin) (5 ∷ i ∷ l.bin ∷ 0 ∷ 0 ∷ [])
    ++ only_if (known && not (box_inside c (tolerance_of c.size) e)) (6 ∷ i ∷ l.id ∷ 0 ∷ 0 ∷ []))

-- ---- pairs. RULES: Findings: pairs

-- 7: an overlap. 8: too close, with the distance and the one asked.
unfoldable pub verdict_words : ℕ → ℕ → Float → Verdict → List ℕ
verdict_words i j asked Apart = []
verdict_words i j asked Overlap = 7 ∷ i ∷ j ∷ 0 ∷ 0 ∷ []
verdict_words i j asked (TooClose d) = 8 ∷ i ∷ j ∷ to_bits binary64 d ∷ to_bits binary64 asked ∷ []

-- ---- mass. RULES: Findings: mass

-- 9: more than the limit with the tolerance added, where there is a limit
unfoldable pub mass_words : Float → Float → Float → List ℕ
mass_words m limit t = only_if (lt none limit && lt (limit ⊕ t) m) (9 ∷ to_bits binary64 m ∷ to_bits binary64 limit ∷ 0 ∷ 0 ∷ [])

-- ---- the unplaced list. RULES: Findings: unplaced

-- 10: a kind that is short and not listed
unfoldable pub lost_words : ℕ → Bool → Bool → List ℕ
lost_words id short listed = only_if (short && not listed) (10 ∷ id ∷ 0 ∷ 0 ∷ 0 ∷ [])

-- 11: an id that is no kind's, or a complete kind's, or listed before
unfoldable pub wrong_words : ℕ → Bool → Bool → Bool → List ℕ
wrong_words id known short before = only_if (not known || (not short || before)) (11 ∷ id ∷ 0 ∷ 0 ∷ 0 ∷ [])
