-- What a pair of lines gets: the words that are picked out of all findings. That they are the same whichever of the two stands first is in specs/Pairs.antt.
use Rattle.std.specs.Prelude.{◌≡◌, ◌⊎◌, Bool, false, ◌&&◌, ◌||◌, List, [], ◌∷◌, ℕ, ◌<◌, ◌≤◌}
use Rattle.std.proofs.Math.Path.{refl, ap}
use Rattle.std.proofs.Common.{◌∙◌, inl, inr, append-nil, arith, eq-eqb, lt-ltb}
use Rattle.std.proofs.Math.Bool.{true, or_comm}
use Rattle.std.proofs.Math.Dec.{eqb}
use Rattle.sheet.specs.declared.Sheet.{Sheet}
use Rattle.sheet.specs.Sheets.{line_at}
use Rattle.sheet.specs.Accepted.{Accepted}
use Rattle.check_order.specs.Demand.{pick, change, among, pair_of, lines_aside, Each}
use Rattle.check_order.specs.Picked.{each_below, pick_none, pick_every, pick_same, pick_below}
use Rattle.lists.specs.Bools.{and_none}
use Rattle.check_order.specs.Below.{three_ways, one_below}
use Rattle.check_order.specs.Parts.{apart, Any, each_pair, each_from, from_whole, pick_parts, no_lines, no_mass, no_missing, no_listed}
use Rattle.check_order.specs.Pairs.{these, not_these, pair_aside, pair_turned}
use Rattle.lists.specs.Below.{all_below}
use Rattle.check_words.specs.Words.{only_if}
use Rattle.check_list.specs.View.{pair_found, pairs_found, verdict_found}
use Rattle.check_packing.specs.Findings.{findings, pair_finding, pairs_from}
use Rattle.check_order.specs.ByLine.{pair_words, verdict_on}

-- ---- what is picked

-- of a pair, either line may stand first
pair_swapped : (i j : ℕ) (ws : List ℕ) → pick (pair_of i j) ws ≡ pick (pair_of j i) ws
pair_swapped i j ws = pick_same (pair_of i j) (pair_of j i)
    (λ f. ap (λ (v : Bool). among f.number (7 ∷ 8 ∷ []) && v) (or_comm (eqb f.first i && eqb f.second j) (eqb f.first j && eqb f.second i))) ws

module _ (s : Sheet) (i j : ℕ) where
  other_pair : i ≤ j → (k m : ℕ) → (k ≡ i → m ≡ j → ⊥) → Each (λ f. pair_of i j f ≡ false) (pair_finding s k m)
  other_pair l k m g = each_pair (λ f. pair_of i j f ≡ false) s k m (λ h c d e a. and_none (among c (7 ∷ 8 ∷ [])) (these i j k m) (not_these i j k m l h g))

  pair_of_two : i < j → pick (pair_of i j) (pair_finding s i j) ≡ pair_words s i (line_at s i) j (line_at s j)
  unfolding pair_found pair_words verdict_found verdict_on
  pair_of_two l =
      pick_every (pair_of i j) (pair_finding s i j)
      (each_pair (λ f. pair_of i j f ≡ true) s i j
      (λ h c d e a. both (among c (7 ∷ 8 ∷ [])) (eqb i i) (eqb j j) (eqb i j && eqb j i) a (eq-eqb i i refl) (eq-eqb j j refl)))
      ∙ ap (λ (v : Bool). only_if v (pair_words s i (line_at s i) j (line_at s j))) (lt-ltb i j l)
    where
      both : (a b c d : Bool) → a ≡ true → b ≡ true → c ≡ true → (a && (b && c || d)) ≡ true
      both a b c d p q r = rw (p, q, r)

  pair_of_from : i < j → j < s.many.lines → pick (pair_of i j) (pairs_from s i) ≡ pair_words s i (line_at s i) j (line_at s j)
  unfolding pairs_found
  pair_of_from l h =
      pick_below (pair_of i j) Any (pair_finding s i) (λ m. each_pair Any s i m (λ k c d e a. tt)) s.many.lines
      ∙ one_below (λ m. pick (pair_of i j) (pair_finding s i m)) s.many.lines j h
      (λ m g. pick_none (pair_of i j) (pair_finding s i m) (other_pair (omega arith) i m (λ a b. g b)))
      ∙ pair_of_two l

  pair_of_pairs : i < j → j < s.many.lines → pick (pair_of i j) (all_below (pairs_from s) s.many.lines) ≡ pair_words s i (line_at s i) j (line_at s j)
  unfolding pairs_found
  pair_of_pairs l h =
      pick_below (pair_of i j) Any (pairs_from s) (from_whole s) s.many.lines
      ∙ one_below (λ k. pick (pair_of i j) (pairs_from s k)) s.many.lines i (omega arith)
      (λ k g. pick_none (pair_of i j) (pairs_from s k)
      (each_below (λ f. pair_of i j f ≡ false) (pair_finding s k) s.many.lines (λ m o. other_pair (omega arith) k m (λ a b. g a))))
      ∙ pair_of_from l h

  -- where the pairs are the only part that gives some
  pairs_only : (ws : List ℕ) → pick (pair_of i j) (all_below (pairs_from s) s.many.lines) ≡ ws → pick (pair_of i j) (findings s) ≡ ws
  pairs_only ws e =
      pick_parts (pair_of i j) s
      ∙ rw (
        no_lines (pair_of i j) s (λ c k a b d h. ap (λ (v : Bool). v && these i j k a) (apart (1 ∷ 2 ∷ 3 ∷ 4 ∷ 5 ∷ 6 ∷ []) (7 ∷ 8 ∷ []) c refl h)),
        e,
        no_mass (pair_of i j) s (λ m l. refl),
        no_missing (pair_of i j) s (λ id. refl),
        no_listed (pair_of i j) s (λ id. refl),
      ) (append-nil ws)

  pub pair_picked : i < j → j < s.many.lines → pick (pair_of i j) (findings s) ≡ pair_words s i (line_at s i) j (line_at s j)
  pair_picked l h = pairs_only (pair_words s i (line_at s i) j (line_at s j)) (pair_of_pairs l h)

-- a line makes no pair with itself
pub no_pair : (s : Sheet) (i : ℕ) → pick (pair_of i i) (findings s) ≡ []
unfolding pairs_found
no_pair s i =
    pairs_only s i i []
    (pick_none (pair_of i i) (all_below (pairs_from s) s.many.lines)
    (each_below (λ f. pair_of i i f ≡ false) (pairs_from s) s.many.lines
    (λ k l. each_from (λ f. pair_of i i f ≡ false) s k
    (λ m o h c d e a. and_none (among c (7 ∷ 8 ∷ [])) (these i i k m) (not_these i i k m (omega arith) h (λ p q. omega arith))))))

-- ---- line numbers aside, whichever of the two comes first

pub pair_found_lem : (s : Sheet) → Accepted s → (i j : ℕ) → i < s.many.lines → j < s.many.lines → (i ≡ j → ⊥)
    → change lines_aside (pick (pair_of i j) (findings s)) ≡ pair_words s 0 (line_at s i) 0 (line_at s j)
pair_found_lem s a i j h k ne = go (three_ways i j)
  where
    go : (i < j) ⊎ ((i ≡ j) ⊎ (j < i)) → change lines_aside (pick (pair_of i j) (findings s)) ≡ pair_words s 0 (line_at s i) 0 (line_at s j)
    go (inl l) = ap (change lines_aside) (pair_picked s i j l k) ∙ pair_aside s i (line_at s i) j (line_at s j)
    go (inr (inl e)) = absurd (ne e)
    go (inr (inr l)) =
        ap (change lines_aside) (pair_swapped i j (findings s) ∙ pair_picked s j i l h)
        ∙ pair_aside s j (line_at s j) i (line_at s i)
        ∙ pair_turned s a (line_at s j) (line_at s i) (a.line_right j k) (a.line_right i h)
