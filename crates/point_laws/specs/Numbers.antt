-- What the answers of the place call tell, by the one definition of it, `point_place: word_of`. RULES: Refusals · First placer: point test
use Rattle.std.specs.Prelude.{◌≡◌, refl, true, false, List, ℕ, suc, eqb, Float, Option}
use Rattle.std.proofs.Common.{sym, ◌∙◌, arith, eq-eqb, ne_eqb, eqb-true}
use Rattle.domain.specs.Bounds.{most_boxes}
use Rattle.domain.specs.Refusals.{or_else}
use Rattle.measures.specs.declared.Kind.{Kind}
use Rattle.measures.specs.Faults.{kind_fault}
use Rattle.point_state.specs.declared.ExtremePointSet.{ExtremePointSet}
use Rattle.point_state.specs.declared.Label.{Label}
use Rattle.point_state.specs.Counts.{over}
use Rattle.point_place.specs.declared.Tried.{Tried}
use Rattle.lists.specs.Bools.{cond_cases}
use Rattle.point_place.specs.Place.{Word, refused_by, said, refusal_of, placed_by, placed_cases, tried_of, numbered}

-- what a place call tells
abbrev pub said_at : ExtremePointSet → Kind → ℕ → ℕ → Word
said_at s kind instance o = said (tried_of s kind instance o)

placed_none : (s : ExtremePointSet) (label : Label) (size : List Float) (c : Option ℕ) → (said (placed_by s label size c)).number ≡ 0
placed_none s label size c = placed_cases (λ (t : Tried). (said t).number ≡ 0) s label size c (λ _ _. refl) (λ _. refl)

-- its number is the refusal's
pub number_is : (s : ExtremePointSet) (kind : Kind) (instance o : ℕ) → (said_at s kind instance o).number ≡ refusal_of s.live s.held kind
unfolding tried_of
number_is s kind instance o =
    cond_cases (λ (t : Tried). (said t).number ≡ refusal_of s.live s.held kind) (eqb (refusal_of s.live s.held kind) 0)
    (λ e. placed_none s _ _ _ ∙ sym (eqb-true (refusal_of s.live s.held kind) 0 e))
    (numbered s.live s.held kind)

-- what a refused call tells and leaves: its number with nothing beside it, and the state as it was
pub record Refuses (s : ExtremePointSet) (kind : Kind) (instance o n : ℕ) : Type 0 where
  pub word : said_at s kind instance o ≡ refused_by n
  pub stays : (tried_of s kind instance o).next ≡ s

by_refusal : (s : ExtremePointSet) (kind : Kind) (instance o n : ℕ) → refusal_of s.live s.held kind ≡ suc n → Refuses s kind instance o (suc n)
unfolding tried_of
by_refusal s kind instance o n e =
    let z = ne_eqb (suc n) 0 (λ q. omega arith) in
    let m = rw e at (numbered s.live s.held kind) in
    record { word = rw (e, z, m z); stays = rw (e, z) }

pub refused_stays : (s : ExtremePointSet) (kind : Kind) (instance o n : ℕ) → (said_at s kind instance o).number ≡ suc n → Refuses s kind instance o (suc n)
refused_stays s kind instance o n h = by_refusal s kind instance o n (sym (number_is s kind instance o) ∙ h)

-- a state whose counts are over the bounds gets 2
pub over_gets_2 : (s : ExtremePointSet) (kind : Kind) (instance o : ℕ) → over s ≡ true → Refuses s kind instance o 2
unfolding refusal_of or_else
over_gets_2 s kind instance o e = by_refusal s kind instance o 1 (rw e)

-- a placer that holds as many boxes as it can gets 7
pub full_gets_7 : (s : ExtremePointSet) (kind : Kind) (instance o : ℕ) → over s ≡ false → kind_fault kind false ≡ 0 → s.held ≡ most_boxes
    → Refuses s kind instance o 7
unfolding refusal_of or_else
full_gets_7 s kind instance o e k h = by_refusal s kind instance o 6 (rw (e, k, eq-eqb s.held most_boxes h))
