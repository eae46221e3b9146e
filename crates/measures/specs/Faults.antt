-- What a kind record and a container block are refused for.
use Rattle.std.specs.Prelude.{ℕ, Bool, not, ◌&&◌, ◌||◌, eqb, ltb}
use Rattle.std.specs.Float.{binary64}
use Rattle.std.specs.Float.Ieee.{to_bits}
use Rattle.floats.specs.Ops.{x, y, z}
use Rattle.domain.specs.Ranges.{is_length, is_measure, is_limit}
use Rattle.domain.specs.Refusals.{when, or_else}
use Rattle.measures.specs.declared.Kind.{Kind}
use Rattle.measures.specs.declared.Container.{Container}

-- RULES: Refusals, 4. No box of the kind, a rule or a mass flag that there is none of, a filler, or a mass without the flag.
abbrev pub record_fault : Kind → Bool
record_fault k =
    eqb k.quantity 0
    || (ltb 2 k.rule || (ltb 1 k.massed || (not (eqb k.filler 0) || (eqb k.massed 0 && not (eqb (to_bits binary64 k.mass) 0)))))

-- RULES: Refusals, 3. A length or the mass of a kind is out of its range.
abbrev pub measure_fault : Kind → Bool
measure_fault k = not (is_length (x k.size)) || (not (is_length (y k.size)) || (not (is_length (z k.size)) || not (is_measure k.mass)))

-- RULES: Refusals. Of one kind 4 is tested first, then 3, then 5; `repeats` says that the id is an earlier kind's.
unfoldable pub kind_fault : Kind → Bool → ℕ
unfolding or_else
kind_fault k repeats = or_else (when (record_fault k) 4) (or_else (when (measure_fault k) 3) (when repeats 5))

-- RULES: Refusals, 3. A length of the container, the margin, the spacing or the limit is out of its range.
unfoldable pub container_fault : Container → Bool
container_fault c =
    (not (is_length (x c.size)) || (not (is_length (y c.size)) || not (is_length (z c.size))))
    || (not (is_measure c.margin) || (not (is_measure c.spacing) || not (is_limit c.limit)))
