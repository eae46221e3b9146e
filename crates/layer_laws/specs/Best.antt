-- RULES: Second placer: best orientation. `place_best` takes the orientation of least score among those that fit, and of equal scores the first.
-- So it is in every fill that was opened on an accepted container, whatever was offered to it since (proofs/Best.antt): a cursor there is nowhere
-- negative and no NaN, so each score is a number.
use Rattle.std.specs.Prelude.{◌≡◌, refl, Bool, true, false, cond, List, [], ◌∷◌, ℕ, zero, suc, ◌*◌, ◌<◌, eqb, ltb, length, get_or, set, Float}
use Rattle.std.specs.Prelude.{Option, Some, None, IfSome, is_some, option_and_then, Result, Ok, Err}
use Rattle.std.specs.Bool.{⊤}
use Rattle.std.proofs.Common.{sym, ◌∙◌, ap, true≢false, arith, ne_eqb, get_or-set_same}
use Rattle.std.specs.Float.{Format, nan, inf, fin, binary64}
use Rattle.std.specs.Float.Ieee.{up, down, of_bits, mul, lt}
use Rattle.floats.specs.Ops as Ops
use Rattle.floats.specs.Order.{signed, round_signed, signed_number}
use Rattle.floats.specs.Sums.{add_signed}
use Rattle.floats.specs.Weak.{Number, true_false}
use Rattle.domain.specs.Bounds.{most_boxes}
use Rattle.domain.specs.declared.Refusal.{Refusal}
use Rattle.domain.specs.Refusals.{when}
use Rattle.domain.specs.Laws.{or_else_first, or_else_second}
use Rattle.lists.specs.Bools.{cond_cases}
use Rattle.measures.specs.declared.Container.{Container}
use Rattle.measures.specs.declared.Kind.{Kind}
use Rattle.measures.specs.Orders.{share_of, lengths_in}
use Rattle.measures.specs.Faults.{measure_fault, kind_fault, container_fault}
use Rattle.layer_cursor.specs.declared.LayerCursor.{LayerCursor}
use Rattle.layer_cursor.specs.declared.LayerSpot.{LayerSpot}
use Rattle.layer_cursor.specs.Spot.{over, turn_to, spot_of}
use Rattle.layer_state.specs.declared.stand.Stand.{Stand}
use Rattle.layer_state.specs.declared.stand.Step.{Step}
use Rattle.layer_state.specs.declared.best.Best.{Best}
use Rattle.layer_state.specs.Stand.{mass_allows, spot_in, settled, turned_of, place_of}
use Rattle.layer_state.specs.Best.{million, thousand, tenth, score_of, best_for, place_best_of}
use Rattle.sheet.specs.declared.Line.{Line}
use Rattle.layer_fill.specs.declared.LayerFill.{LayerFill}
use Rattle.layer_fill.specs.Fill.{blank_line, empty, line_of, pushed, place_refusal, answered, after_call, room}
use Rattle.layer_lent.specs.Follows.{Offer, turned, best, next_of, fill_after, Fair, fair_empty, answers, answer_cases}
use Rattle.plan_laws.specs.Spots.{lengths_in_lem, kind_measures, Sized, sized, not_negative}
use Rattle.plan_laws.specs.Layers.{Ahead, Right, Kept, none_signed, turn_ahead}
use Rattle.plan_laws.proofs.Layers.{turned_kept, best_kept}
use Rattle.layer_laws.specs.Least as Least

-- ---- a float that is not negative, times one above 0

-- finite, and above 0
abbrev above : Float → Type 0
above nan = ⊥
above (inf s) = ⊥
above (fin s zero e) = ⊥
above (fin s (suc m) e) = s ≡ false

times : (f : Format) (v w : Float) → signed false v → above w → signed false (mul f v w)
unfolding mul
times f nan w p q = absurd p
times f (inf s) nan p q = absurd q
times f (inf s) (inf t) p q = absurd q
times f (inf s) (fin t zero d) p q = absurd q
times f (inf true) (fin t (suc n) d) p q = absurd (true≢false p)
times f (inf false) (fin true (suc n) d) p q = absurd (true≢false q)
times f (inf false) (fin false (suc n) d) p q = let e : eqb (suc n) 0 ≡ false = ne_eqb (suc n) 0 (λ z. omega arith) in rw e refl
times f (fin s m e) nan p q = absurd q
times f (fin s m e) (inf t) p q = absurd q
times f (fin s m e) (fin t zero d) p q = absurd q
times f (fin true m e) (fin t (suc n) d) p q = absurd (true≢false p)
times f (fin false m e) (fin true (suc n) d) p q = absurd (true≢false q)
times f (fin false m e) (fin false (suc n) d) p q = round_signed f false (m * up e * (suc n * up d)) (down e * down d)

-- ---- the score of a spot

-- nowhere negative
record Forward (at : List Float) : Type 0 where
  x_is : signed false (Ops.x at)
  y_is : signed false (Ops.y at)
  z_is : signed false (Ops.z at)

score_number : (at : List Float) (height : Float) → Forward at → signed false height → Number (score_of at height)
unfolding of_bits
score_number at height h p =
    let z = times binary64 (Ops.z at) million h.z_is refl in
    let y = times binary64 (Ops.y at) thousand h.y_is refl in
    let t = times binary64 height tenth p refl in
    let zy = add_signed binary64 _ _ z y in
    let zyx = add_signed binary64 _ _ zy h.x_is in
    signed_number false (score_of at height) (add_signed binary64 _ _ zyx t)

spot_forward : (b : Container) (max : List Float) (c : LayerCursor) (size : List Float) → Sized b → Ahead c
    → IfSome (spot_of b max c size) (λ (p : LayerSpot). Forward p.at)
unfolding spot_of
spot_forward b max c size s h =
    let t = turn_ahead b max s c size h in
    cond_cases (λ (p : Option LayerSpot). IfSome p (λ (q : LayerSpot). Forward q.at)) (over max (turn_to b max c size) size) (λ _. tt)
    (λ _. record { x_is = t.x_is; y_is = t.y_is; z_is = t.z_is })

-- ---- a fill that was opened on an accepted container

-- its cursor is nowhere negative
pub record Standing (f : LayerFill) : Type 0 where
  fair : Fair f
  ahead : Ahead f.stand.cursor

right : (f : LayerFill) → Standing f → Right f.stand.container f.stand
right f s = record { container_is = refl; max_is = s.fair.limits_right; ahead = s.ahead }

place_kept : (b : Container) → Sized b → (s : Stand) (k : Kind) (o : ℕ) → measure_fault k ≡ false → Right b s → IfSome (place_of s k o) (Kept b)
unfolding place_of
place_kept b sz s k o e r =
    cond_cases (λ (t : Option Step). IfSome t (Kept b)) (mass_allows s k) (λ _. turned_kept b sz s k o e r) (λ _. tt)

-- a box that a fill does not refuse has an accepted kind
accepted_kind : (count : ℕ) (k : Kind) → place_refusal count k ≡ 0 → measure_fault k ≡ false
unfolding place_refusal
accepted_kind count k r =
    kind_measures k false (or_else_first (kind_fault k false) _ (or_else_second (when (ltb most_boxes count) 2) _ r))

answered_ahead : (f : LayerFill) (k : Kind) (instance : ℕ) (t : Option Step) → Standing f
    → (measure_fault k ≡ false → IfSome t (Kept f.stand.container)) → Ahead (after_call f (answered f k instance t)).stand.cursor
answered_ahead f k instance t s kept =
    answer_cases f k instance t (λ (p : Result (Option LayerFill) Refusal). Ahead (after_call f p).stand.cursor)
    (λ r u e. let q : Kept f.stand.container u = rw e at (kept (accepted_kind f.count k r)) in q.stand.ahead) (λ _ _. s.ahead) (λ _. s.ahead)

next_standing : (f : LayerFill) (w : Offer) → Standing f → Standing (next_of f w)
next_standing f (turned k instance o) s =
    let b = f.stand.container in
    record {
      fair = (answers f (turned k instance o) s.fair).fair_next;
      ahead =
          answered_ahead f k instance (place_of f.stand k o) s
          (λ e. place_kept b (sized b s.fair.container_right) f.stand k o e (right f s));
    }
next_standing f (best k instance) s =
    let b = f.stand.container in
    record {
      fair = (answers f (best k instance) s.fair).fair_next;
      ahead =
          answered_ahead f k instance (place_best_of f.stand k) s
          (λ e. best_kept b (sized b s.fair.container_right) f.stand k e (right f s));
    }

pub after_standing : (f : LayerFill) (ws : List Offer) → Standing f → Standing (fill_after f ws)
unfolding fill_after
after_standing f [] s = s
after_standing f (w ∷ ws) s = after_standing (next_of f w) ws (next_standing f w s)

pub empty_standing : (b : Container) → container_fault b ≡ false → Standing (empty b)
empty_standing b e =
    let s = sized b e in
    record {
      fair = fair_empty b e;
      ahead = record { x_is = s.margin; y_is = s.margin; z_is = s.margin; depth_is = none_signed; height_is = none_signed };
    }

-- ---- the orientations of a kind at a stand

-- whether a box fits in one, and its score there
abbrev pub fits_in : Stand → Kind → ℕ → Bool
fits_in s k o = is_some (spot_in s k o)

abbrev pub score_in : Stand → Kind → ℕ → Float
score_in s k o = Least.scored (spot_in s k o) (Ops.z (lengths_in k o))

-- how many there are
abbrev pub turns_of : Kind → ℕ
turns_of k = length (share_of k.rule)

scores_number : (f : LayerFill) (k : Kind) → Standing f → measure_fault k ≡ false → (o : ℕ) → fits_in f.stand k o ≡ true → Number (score_in f.stand k o)
scores_number f k s e o =
    let sz = sized f.stand.container s.fair.container_right in
    go (spot_in f.stand k o) (spot_forward f.stand.container f.stand.max f.stand.cursor (lengths_in k o) sz s.ahead)
  where
    height : Float
    height = Ops.z (lengths_in k o)

    go : (p : Option LayerSpot) → IfSome p (λ (q : LayerSpot). Forward q.at) → is_some p ≡ true → Number (Least.scored p height)
    go None h i = true_false (sym i)
    go (Some p) h i = score_number p.at height h (not_negative height (lengths_in_lem k o e).z_is)

-- ---- the answer of `place_best`

-- the orientation of the line that the fill p has and f has not
abbrev pub turn_in : LayerFill → LayerFill → ℕ
turn_in f p = (get_or p.lines f.count blank_line).orientation

-- A placed box has an orientation that fits; no other that fits has a lesser score, and those before it that fit have greater ones.
pub record ChoosesTurn (f : LayerFill) (k : Kind) (p : LayerFill) : Type 0 where
  pub within : turn_in f p < turns_of k
  pub fits_there : fits_in f.stand k (turn_in f p) ≡ true
  pub least : (o : ℕ) → o < turns_of k → fits_in f.stand k o ≡ true
      → lt (score_in f.stand k o) (score_in f.stand k (turn_in f p)) ≡ false
  pub first : (o : ℕ) → o < turn_in f p → fits_in f.stand k o ≡ true
      → lt (score_in f.stand k (turn_in f p)) (score_in f.stand k o) ≡ true

-- A box that is not refused and has its mass allowed gets no only where it fits in none.
abbrev pub Chooses : LayerFill → Kind → Result (Option LayerFill) Refusal → Type 0
Chooses f k (Ok (Some p)) = ChoosesTurn f k p
Chooses f k (Ok None) = mass_allows f.stand k ≡ true → (o : ℕ) → o < turns_of k → fits_in f.stand k o ≡ false
Chooses f k (Err r) = ⊤

-- what a step of `place_best` took is what the search found
record TookTurn (s : Stand) (k : Kind) (t : Step) (d : Best) : Type 0 where
  found : best_for s k ≡ Some d
  turn : t.orientation ≡ d.orientation

abbrev Took : Stand → Kind → Option Step → Type 0
Took s k None = mass_allows s k ≡ true → best_for s k ≡ None
Took s k (Some t) = (d : Best) × TookTurn s k t d

settled_took : (s : Stand) (k : Kind) (d : Best) → best_for s k ≡ Some d → (p : Option LayerSpot) → is_some p ≡ true
    → Took s k (settled s k d.orientation p)
unfolding settled
settled_took s k d e None h = true_false (sym h)
settled_took s k d e (Some p) h = (d, record { found = e; turn = refl })

best_took : (s : Stand) (k : Kind) → ((d : Best) → best_for s k ≡ Some d → fits_in s k d.orientation ≡ true) → Took s k (place_best_of s k)
unfolding place_best_of
best_took s k fits = go (mass_allows s k) refl (best_for s k) refl
  where
    go : (m : Bool) → mass_allows s k ≡ m → (d : Option Best) → best_for s k ≡ d
        → Took s k (cond m (option_and_then (λ (b : Best). turned_of s k b.orientation) d) None)
    go false e d h = λ i. true_false (sym i ∙ e)
    go true e None h = λ _. h
    go true e (Some d) h = settled_took s k d h (spot_in s k d.orientation) (fits d h)

module _ (f : LayerFill) (k : Kind) (instance : ℕ) (s : Standing f) where
  abbrev Search : Option Best → Type 0
  Search d = Least.Least (fits_in f.stand k) (score_in f.stand k) (turns_of k) d

  search : measure_fault k ≡ false → Search (best_for f.stand k)
  search e =
      Least.least_of f.stand.container f.stand.max f.stand.cursor k (turns_of k) (λ o _ fits. scores_number f k s e o fits)

  found : measure_fault k ≡ false → (d : Best) → best_for f.stand k ≡ Some d
      → Least.IsLeast (fits_in f.stand k) (score_in f.stand k) (turns_of k) d
  found e d h = rw h at (search e)

  took : measure_fault k ≡ false → Took f.stand k (place_best_of f.stand k)
  took e = best_took f.stand k (λ d h. (found e d h).fits_there)

  pub chooses_taken : place_refusal f.count k ≡ 0 → (t : Step) → place_best_of f.stand k ≡ Some t → Chooses f k (Ok (Some (pushed f t k.id instance)))
  chooses_taken r t is =
      let e = accepted_kind f.count k r in
      let w : Took f.stand k (Some t) = rw is at (took e) in
      let d = w.0 in
      let h = found e d w.1.found in
      let line = line_of t k.id instance in
      let kept : get_or (set f.lines f.count line) f.count blank_line ≡ line =
      get_or-set_same f.lines f.count line blank_line (rw s.fair.long (room f.count k r)) in
      let turn : (get_or (set f.lines f.count line) f.count blank_line).orientation ≡ d.orientation =
      ap (λ (l : Line). l.orientation) kept ∙ w.1.turn in
      record {
        within = rw turn h.within;
        fits_there = rw turn h.fits_there;
        least = λ o l i. rw (turn, ← h.score_is) (h.least o l i);
        first = λ o l i. rw (turn, ← h.score_is) (h.first o (rw turn at l) i);
      }

  pub chooses_left : place_refusal f.count k ≡ 0 → place_best_of f.stand k ≡ None → Chooses f k (Ok None)
  chooses_left r is m o l =
      let e = accepted_kind f.count k r in
      let w : Took f.stand k None = rw is at (took e) in
      let n : Search None = rw (w m) at (search e) in
      n o l
