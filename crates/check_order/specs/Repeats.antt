-- How often a kind and instance is called repeated: once less than lines name it, if it is one of the sheet's; so the order of the lines does not matter.
use Rattle.std.specs.Prelude.{◌≡◌, refl, true, false, ◌&&◌, cond, get_or}
use Rattle.std.proofs.Common.{sym, ◌∙◌, eqb-true}
use Rattle.std.proofs.Math.Path.{ap}
use Rattle.std.proofs.Math.Bool.{Bool, and-true, and-false, or-false}
use mathlib.Core.List.{List, [], ◌∷◌, ◌++◌, append-nil, Permᴰ}
use Prim.Native.Nat.{ℕ, ◌-◌, ◌*◌, ◌<◌}
use Rattle.std.proofs.Math.Dec.{eqb, ltb}
use Rattle.std.proofs.Math.ListN.{length}
use Rattle.lists.specs.Below.{any_below, sum_below}
use Rattle.domain.specs.Refusals.{when}
use Rattle.lists.specs.Bools.{and_left, and_right}
use Rattle.measures.specs.declared.Kind.{Kind}
use Rattle.sheet.specs.declared.Line.{Line}
use Rattle.sheet.specs.declared.Sheet.{Sheet}
use Rattle.sheet.specs.Sheets.{no_kind, no_line, kind_at, line_at}
use Rattle.check_packing.specs.Lines.{kind_of, is_known, known, kind_for, same_as, again, counted, repeats}
use Rattle.check_order.specs.Demand.{Finding, finding, words_of, pick, among, lines_of, repeat_of}
use Rattle.check_order.specs.Picked.{pick_append, pick_if, pick_none, pick_below}
use Rattle.lists.specs.Below.{sum_same, any_same}
use Rattle.check_order.specs.Below.{length_below, sum_none, count, count_again}
use Rattle.check_order.specs.Permuted.{sum_first}
use Rattle.check_order.specs.Reordered.{other}
use Rattle.check_order.specs.Parts.{apart, Any, each_name, each_repeat, each_place, lines_whole, pick_parts, no_pairs, no_mass, no_missing, no_listed}
use Rattle.check_order.specs.Kinds.{counted_same}
use Rattle.lists.specs.Below.{all_below}
use Rattle.check_words.specs.Words.{only_if}
use Rattle.check_list.specs.Finding.{name_words, place_words, repeat_words}
use Rattle.check_list.specs.View.{line_found}
use Rattle.check_packing.specs.Findings.{findings, line_findings}
use Rattle.check_order.specs.ByLine.{repeat_finding}
use Rattle.check_packing.specs.Lines.{box_of}

-- the line names this kind and instance
abbrev pub names : ℕ → ℕ → Line → Bool
names id instance l = eqb l.id id && eqb l.instance instance

-- a line that does
abbrev pub naming : ℕ → ℕ → Line
naming id instance = record { id = id; instance = instance; orientation = 0; bin = 0; at = [] }

length_if : (b : Bool) (f : Finding) → length (only_if b (words_of f)) ≡ when b 5
length_if true f = refl
length_if false f = refl

-- what holds only where the line is a named one can be said of the named one
at_named : (r a m c d : Bool) → (m ≡ true → r ≡ c) → (m ≡ true → a ≡ d) → ((r && a) && m) ≡ (c && (m && d))
at_named r a true c d h k = and-true (r && a) ∙ ap (λ (v : Bool). v && a) (h refl) ∙ ap (λ (v : Bool). c && v) (k refl)
at_named r a false c d h k = and-false (r && a) ∙ sym (and-false c)

module _ (s : Sheet) (id instance : ℕ) where
  -- ---- what is picked

  picked_at : (k : ℕ) → length (pick (repeat_of id instance) (line_findings s k)) ≡ when (repeats s k && names id instance (line_at s k)) 5
  unfolding line_found repeat_words
  picked_at k =
      let p = repeat_of id instance in
      let l = line_at s k in
      let name = name_words k l (known s l) (kind_for s l) in
      let place = place_words s.container k l (known s l) (kind_for s l) (box_of l (kind_for s l)) in
      let f = finding 3 k l.id l.instance 0 in
      ap length
      (pick_append p Any name (repeat_finding s k ++ place) (each_name Any k l (known s l) (kind_for s l) (λ a. tt) (λ a b d. tt))
      ∙ ap (λ (v : List ℕ). v ++ pick p (repeat_finding s k ++ place))
      (pick_none p name (each_name (λ g. p g ≡ false) k l (known s l) (kind_for s l) (λ a. refl) (λ a b d. refl)))
      ∙ pick_append p Any (repeat_finding s k) place (each_repeat Any s k tt)
      ∙ ap (λ (v : List ℕ). pick p (repeat_finding s k) ++ v)
      (pick_none p place (each_place (λ g. p g ≡ false) s.container k l (known s l) (kind_for s l) (λ a b. refl) (λ a. refl) (λ a. refl)))
      ∙ append-nil (pick p (repeat_finding s k))
      ∙ pick_if p (repeats s k) f)
      ∙ length_if (repeats s k && p f) f

  picked_all : length (pick (repeat_of id instance) (findings s)) ≡ sum_below (λ k. when (repeats s k && names id instance (line_at s k)) 5) s.many.lines
  picked_all =
      let p = repeat_of id instance in
      let n = s.many.lines in
      ap length
      (pick_parts p s
      ∙ rw (
        no_pairs p s (λ c a b d e k. ap (λ (v : Bool). v && (eqb b id && eqb d instance)) (three c k)),
        no_mass p s (λ m l. refl),
        no_missing p s (λ a. refl),
        no_listed p s (λ a. refl),
      ) (append-nil (pick p (all_below (line_findings s) n)))
      ∙ pick_below p Any (line_findings s) (lines_whole s) n)
      ∙ length_below (λ k. pick p (line_findings s k)) n
      ∙ sum_same (λ k. length (pick p (line_findings s k))) (λ k. when (repeats s k && names id instance (line_at s k)) 5) n (λ k l. picked_at k)
    where
      three : (c : ℕ) → among c (7 ∷ 8 ∷ []) ≡ true → eqb c 3 ≡ false
      three c k = sym (or-false (eqb c 3)) ∙ apart (7 ∷ 8 ∷ []) (3 ∷ []) c refl k

  -- ---- whether a line is called repeated turns only on whether an earlier one names the same

  counted_named : (l : Line) → names id instance l ≡ true → counted s l ≡ counted s (naming id instance)
  unfolding counted known kind_for
  counted_named l h =
      let test : ℕ → ℕ → Bool = λ a b. is_known s a && ltb b (kind_at s (kind_of s a)).quantity in
      ap (λ (v : ℕ). test v l.instance) (eqb-true l.id id (and_left (eqb l.id id) (eqb l.instance instance) h))
      ∙ ap (λ (v : ℕ). test id v) (eqb-true l.instance instance (and_right (eqb l.id id) (eqb l.instance instance) h))

  again_named : (k : ℕ) → names id instance (line_at s k) ≡ true → again s.lines k ≡ any_below (λ j. names id instance (line_at s j)) k
  unfolding again same_as
  again_named k h =
      let l = line_at s k in
      any_same (same_as s.lines k) (λ j. names id instance (line_at s j)) k
      (λ j m.
      ap (λ (v : ℕ). eqb (line_at s j).id v && eqb (line_at s j).instance l.instance)
      (eqb-true l.id id (and_left (eqb l.id id) (eqb l.instance instance) h))
      ∙ ap (λ (v : ℕ). eqb (line_at s j).id id && eqb (line_at s j).instance v)
      (eqb-true l.instance instance (and_right (eqb l.id id) (eqb l.instance instance) h)))

  sum_named : (c : Bool) (p : ℕ → Bool) (n : ℕ) → sum_below (λ k. when (c && (p k && any_below p k)) 5) n ≡ cond c (5 * (count p n - 1)) 0
  sum_named true p n = count_again p n
  sum_named false p n = sum_none (λ k. 0) n (λ k l. refl)

  -- five words for each line that names it, but for one
  pub repeated_times : length (pick (repeat_of id instance) (findings s)) ≡ cond (counted s (naming id instance))
      (5 * (count (λ k. names id instance (line_at s k)) s.many.lines - 1)) 0
  repeated_times =
      let p : ℕ → Bool = λ k. names id instance (line_at s k) in
      let c = counted s (naming id instance) in
      picked_all
      ∙ sum_same (λ k. when (repeats s k && p k) 5) (λ k. when (c && (p k && any_below p k)) 5) s.many.lines
      (λ k l. ap (λ (v : Bool). when v 5)
      (at_named (counted s (line_at s k)) (again s.lines k) (p k) c (any_below p k) (counted_named (line_at s k)) (again_named k)))
      ∙ sum_named c p s.many.lines

-- ---- so with the same kinds, and lines in another order, it is the same
pub repeated_same : (s : Sheet) (ks : List Kind) (ls : List Line) (us : List ℕ) → ((k : ℕ) → k < s.many.kinds → kind_at s k ≡ get_or ks k no_kind)
    → Permᴰ (lines_of s) (lines_of (other s ks ls us))
    → (id instance : ℕ) → length (pick (repeat_of id instance) (findings s)) ≡ length (pick (repeat_of id instance) (findings (other s ks ls us)))
repeated_same s ks ls us same p id instance =
    let t = other s ks ls us in
    let n = s.many.lines in
    repeated_times s id instance
    ∙ ap (λ (v : Bool). cond v (5 * (count (λ k. names id instance (line_at s k)) n - 1)) 0) (counted_same s ks ls us same (naming id instance))
    ∙ ap (λ (v : ℕ). cond (counted t (naming id instance)) (5 * (v - 1)) 0) (sum_first no_line (λ l. when (names id instance l) 1) n s.lines ls p)
    ∙ sym (repeated_times t id instance)
