-- The bounds of a state's counts. RULES: Numbers that bound it
use Rattle.std.specs.Prelude.{◌≡◌, Bool, false, ◌||◌, ℕ, ◌+◌, ◌*◌, ◌≤◌, ltb}
use Rattle.std.proofs.Common.{ltb-false, le-ltb}
use Rattle.domain.specs.Bounds.{most_boxes}
use Rattle.lists.specs.Bools.{or_left, or_right}
use Rattle.point_state.specs.declared.ExtremePointSet.{ExtremePointSet}

-- more boxes than a placer stores, or more points than so many boxes can leave: such a state gets 2
unfoldable pub over_counts : ℕ → ℕ → Bool
over_counts live held = ltb most_boxes held || ltb (1 + 2 * held) live

abbrev pub over : ExtremePointSet → Bool
over s = over_counts s.live s.held

-- ---- laws

pub record Within (live held : ℕ) : Type 0 where
  pub room : held ≤ most_boxes
  pub few : live ≤ 1 + 2 * held

pub within_counts : (live held : ℕ) → over_counts live held ≡ false → Within live held
unfolding over_counts
within_counts live held e =
    record {
      room = ltb-false most_boxes held (or_left (ltb most_boxes held) _ e);
      few = ltb-false (1 + 2 * held) live (or_right (ltb most_boxes held) _ e);
    }

pub not_over : (live held : ℕ) → Within live held → over_counts live held ≡ false
unfolding over_counts
not_over live held h = rw (le-ltb most_boxes held h.room, le-ltb (1 + 2 * held) live h.few)
