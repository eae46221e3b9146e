-- The lent cursor, advanced by each box that a fill places, is the fill's own cursor.
use Rattle.std.specs.Prelude.{◌≡◌, refl, Bool, true, false, cond, not, List, [], ◌∷◌, ℕ, zero, suc, ltb, Float, length, get_or, set}
use Rattle.std.specs.Prelude.{Option, Some, None, IfSome, option_map, Result, Ok, Err}
use Rattle.std.proofs.Common.{sym, ap, ◌∙◌, length-set, get_or-set_same}
use Rattle.std.proofs.lemmas.Option.{same_Some}
use Rattle.std.proofs.lemmas.List.{length-replicate}
use Rattle.floats.specs.Ops.{x, y, z}
use Rattle.domain.specs.Bounds.{most_boxes}
use Rattle.domain.specs.Ranges.{is_length}
use Rattle.lists.specs.Bools.{or_left, or_right, not_true_of}
use Rattle.domain.specs.Laws.{or_else_first, or_else_second, when_none}
use Rattle.domain.specs.declared.Refusal.{Refusal}
use Rattle.domain.specs.Refusals.{when}
use Rattle.domain.specs.Refusal.{answer_with, refusal_by, no_refusal, accepted_as}
use Rattle.measures.specs.declared.Container.{Container}
use Rattle.measures.specs.declared.Kind.{Kind}
use Rattle.measures.specs.Orders.{lengths_in}
use Rattle.measures.specs.Turned.{lengths_each}
use Rattle.measures.specs.Faults.{kind_fault, container_fault}
use Rattle.sheet.specs.Accepted.{sound}
use Rattle.layer_cursor.specs.declared.LayerCursor.{LayerCursor}
use Rattle.layer_cursor.specs.declared.LayerSpot.{LayerSpot}
use Rattle.layer_state.specs.declared.stand.Stand.{Stand}
use Rattle.layer_state.specs.declared.stand.Step.{Step}
use Rattle.layer_fill.specs.declared.LayerFill.{LayerFill}
use Rattle.layer_cursor.specs.Spot.{spot_of}
use Rattle.layer_state.specs.Stand.{new_of, spot_in, place_of}
use Rattle.layer_state.specs.Best.{place_best_of}
use Rattle.layer_state.specs.Again.{seed_for}
use Rattle.layer_fill.specs.Fill.{blank_line, no_lines, empty, opened, line_of, pushed, place_refusal, answered, placed, placed_best}
use Rattle.layer_fill.specs.Fill.{after_call, has_placed, room}
use Rattle.layer_lent.specs.declared.Asked.{Asked}
use Rattle.layer_lent.specs.Asked.{lengths_fault, asked_fault, asked_spot, after_asked, accepted_spot}
use Rattle.layer_lent.specs.Steps.{Made, made_place, made_best}

-- ---- the two ways

-- a box offered to a fill: an instance of a kind in one orientation (`place`), or in its best (`place_best`)
pub data Offer : Type 0 where
  turned : Kind → ℕ → ℕ → Offer
  best : Kind → ℕ → Offer

-- the fill's answer to it
abbrev pub answer_to : LayerFill → Offer → Result (Option LayerFill) Refusal
answer_to f (turned k instance o) = placed f k instance o
answer_to f (best k instance) = placed_best f k instance

-- what is asked of a lent cursor for a box that the fill places: its lengths in the orientation that it was given
abbrev pub asked_by : Stand → Kind → ℕ → Asked
asked_by s k o = record { container = s.container; size = lengths_in k o }

abbrev pub asked_for : LayerFill → Offer → Asked
asked_for f (turned k instance o) = asked_by f.stand k (seed_for (place_of f.stand k o))
asked_for f (best k instance) = asked_by f.stand k (seed_for (place_best_of f.stand k))

-- the fill after one of these boxes, and after it was offered them all
abbrev pub next_of : LayerFill → Offer → LayerFill
next_of f w = after_call f (answer_to f w)

unfoldable pub fill_after : LayerFill → List Offer → LayerFill
fill_after f [] = f
fill_after f (w ∷ ws) = fill_after (next_of f w) ws

-- what is asked for those of them that it places
unfoldable pub asks_of : LayerFill → List Offer → List Asked
asks_of f [] = []
asks_of f (w ∷ ws) = cond (has_placed (answer_to f w)) (asked_for f w ∷ asks_of (next_of f w) ws) (asks_of (next_of f w) ws)

-- a lent cursor after it was advanced by these boxes, one call for each
unfoldable pub cursor_after : LayerCursor → List Asked → LayerCursor
unfolding asked_spot
cursor_after c [] = c
cursor_after c (a ∷ rest) = cursor_after (after_asked c (asked_spot c a)) rest

-- ---- a fill that began with an accepted container

pub record Fair (f : LayerFill) : Type 0 where
  pub container_right : container_fault f.stand.container ≡ false
  pub limits_right : f.stand.max ≡ (new_of f.stand.container).max
  pub long : length f.lines ≡ most_boxes

pub fair_empty : (b : Container) → container_fault b ≡ false → Fair (empty b)
unfolding no_lines
fair_empty b e = record { container_right = e; limits_right = refl; long = length-replicate most_boxes blank_line }

-- a fill that was opened is empty, and its container accepted
pub record Opened (b : Container) (f : LayerFill) : Type 0 where
  pub accepted : container_fault b ≡ false
  pub fill_is : f ≡ empty b

pub is_opened : (b : Container) (f : LayerFill) → Ok f ≡ opened b → Opened b f
is_opened b f h =
    record {
      accepted = when_none (container_fault b) 2 (no_refusal (when (container_fault b) 3) 0 (empty b) f h);
      fill_is = accepted_as (when (container_fault b) 3) 0 (empty b) f h;
    }

-- no orientation of an accepted kind has a length out of range
lengths_right : (k : Kind) (o : ℕ) → kind_fault k false ≡ 0 → lengths_fault (lengths_in k o) ≡ false
lengths_right k o h =
    let m = (sound k false h).measures_right in
    let m₂ = or_right (not (is_length (x k.size))) _ m in
    let m₃ = or_right (not (is_length (y k.size))) _ m₂ in
    let each = lengths_each (λ v. is_length v ≡ true) k o
    (record {
      of_x = not_true_of (is_length (x k.size)) (or_left (not (is_length (x k.size))) _ m);
      of_y = not_true_of (is_length (y k.size)) (or_left (not (is_length (y k.size))) _ m₂);
      of_z = not_true_of (is_length (z k.size)) (or_left (not (is_length (z k.size))) _ m₃);
    }) in
    rw (each.of_x, each.of_y, each.of_z)

-- ---- one box

-- what a fill's answer can be: the box taken, none taken, or a refusal
pub answer_cases : (f : LayerFill) (k : Kind) (instance : ℕ) (t : Option Step) (P : Result (Option LayerFill) Refusal → Type 0)
    → (place_refusal f.count k ≡ 0 → (s : Step) → t ≡ Some s → P (Ok (Some (pushed f s k.id instance))))
    → (place_refusal f.count k ≡ 0 → t ≡ None → P (Ok None))
    → ((r : Refusal) → P (Err r))
    → P (answered f k instance t)
unfolding answered answer_with
answer_cases f k instance t P it_took it_left it_refused = go (place_refusal f.count k) refl t refl
  where
    go : (n : ℕ) → place_refusal f.count k ≡ n → (u : Option Step) → t ≡ u
        → P (answer_with n 0 (option_map (λ (s : Step). pushed f s k.id instance) u))
    go zero e (Some s) i = it_took e s i
    go zero e None i = it_left e i
    go (suc n) e u i = it_refused (refusal_by (suc n) 0)

-- the answer of a lent cursor that goes with a box that the fill f placed: the position of the box's line, and the fill's cursor after it
abbrev pub same_as : LayerFill → LayerFill → Result (Option LayerSpot) Refusal
same_as f g = Ok (Some (record { at = (get_or g.lines f.count blank_line).at; next = g.stand.cursor }))

-- what is known of a fill's answer to an offer
pub record Answers (f : LayerFill) (a : Asked) (p : Result (Option LayerFill) Refusal) : Type 0 where
  pub fair_next : Fair (after_call f p)
  pub moves : has_placed p ≡ true → asked_spot f.stand.cursor a ≡ same_as f (after_call f p)
  pub stays : has_placed p ≡ false → after_call f p ≡ f

-- the spot that the fill's stand gives is the one that the lent cursor is given
spot_same : (f : LayerFill) (k : Kind) (o : ℕ) → Fair f → place_refusal f.count k ≡ 0
    → asked_spot f.stand.cursor (asked_by f.stand k o) ≡ Ok (spot_in f.stand k o)
unfolding place_refusal
spot_same f k o fair r =
    let kind_right = or_else_first (kind_fault k false) _ (or_else_second (when (ltb most_boxes f.count) 2) _ r) in
    let right : asked_fault (asked_by f.stand k o) ≡ false = rw fair.container_right (lengths_right k o kind_right) in
    accepted_spot f.stand.cursor (asked_by f.stand k o) right
    ∙ ap (λ (max : List Float). Ok (spot_of f.stand.container max f.stand.cursor (lengths_in k o))) (sym fair.limits_right)

taken : (f : LayerFill) (k : Kind) (instance : ℕ) (t : Step) → Fair f → Made f.stand k t → place_refusal f.count k ≡ 0
    → Answers f (asked_by f.stand k t.orientation) (Ok (Some (pushed f t k.id instance)))
taken f k instance t fair m r =
    let line = line_of t k.id instance in
    let kept : get_or (set f.lines f.count line) f.count blank_line ≡ line =
    get_or-set_same f.lines f.count line blank_line (rw fair.long (room f.count k r)) in
    record {
      fair_next =
          record {
            container_right = rw m.container_kept fair.container_right;
            limits_right = m.limits_kept ∙ fair.limits_right ∙ ap (λ (b : Container). (new_of b).max) (sym m.container_kept);
            long = length-set f.lines f.count line ∙ fair.long;
          };
      moves = λ h. spot_same f k t.orientation fair r ∙ rw (m.spot_taken, kept);
      stays = λ h. cc;
    }

module _ (f : LayerFill) (a : Asked) (fair : Fair f) where
  none_taken : Answers f a (Ok None)
  none_taken = record { fair_next = fair; moves = λ h. cc; stays = λ h. refl }

  refused : (r : Refusal) → Answers f a (Err r)
  refused r = record { fair_next = fair; moves = λ h. cc; stays = λ h. refl }

answers_step : (f : LayerFill) (k : Kind) (instance : ℕ) (t : Option Step) → Fair f → IfSome t (Made f.stand k)
    → Answers f (asked_by f.stand k (seed_for t)) (answered f k instance t)
answers_step f k instance None fair m =
    let a = asked_by f.stand k 0 in
    answer_cases f k instance None (Answers f a) (λ _ s e. absurd (cc)) (λ _ _. none_taken f a fair) (refused f a fair)
answers_step f k instance (Some t) fair m =
    let a = asked_by f.stand k t.orientation in
    answer_cases f k instance (Some t) (Answers f a) (λ r s e. rw (← (same_Some t s e)) (taken f k instance t fair m r))
    (λ _ _. none_taken f a fair) (refused f a fair)

pub answers : (f : LayerFill) (w : Offer) → Fair f → Answers f (asked_for f w) (answer_to f w)
answers f (turned k instance o) fair = answers_step f k instance (place_of f.stand k o) fair (made_place f.stand k o)
answers f (best k instance) fair = answers_step f k instance (place_best_of f.stand k) fair (made_best f.stand k)

-- ---- box after box

follows_step : (f : LayerFill) (w : Offer) (asks : List Asked) (c : LayerCursor) → Fair f → cursor_after (next_of f w).stand.cursor asks ≡ c
    → cursor_after f.stand.cursor (cond (has_placed (answer_to f w)) (asked_for f w ∷ asks) asks) ≡ c
unfolding cursor_after
follows_step f w asks c fair rest = go (has_placed (answer_to f w)) refl
  where
    go : (b : Bool) → has_placed (answer_to f w) ≡ b → cursor_after f.stand.cursor (cond b (asked_for f w ∷ asks) asks) ≡ c
    go true e =
        ap (λ (r : Result (Option LayerSpot) Refusal). cursor_after (after_asked f.stand.cursor r) asks) ((answers f w fair).moves e) ∙ rest
    go false e = ap (λ (g : LayerFill). cursor_after g.stand.cursor asks) (sym ((answers f w fair).stays e)) ∙ rest

follows_from : (f : LayerFill) (ws : List Offer) → Fair f → cursor_after f.stand.cursor (asks_of f ws) ≡ (fill_after f ws).stand.cursor
unfolding cursor_after asks_of fill_after
follows_from f [] fair = refl
follows_from f (w ∷ ws) fair =
    follows_step f w (asks_of (next_of f w) ws) (fill_after (next_of f w) ws).stand.cursor fair
    (follows_from (next_of f w) ws (answers f w fair).fair_next)

-- a new fill that was not refused, and a lent cursor that begins where its own does
pub follows : (b : Container) (f : LayerFill) (ws : List Offer) → Ok f ≡ opened b
    → cursor_after f.stand.cursor (asks_of f ws) ≡ (fill_after f ws).stand.cursor
follows b f ws h = let o = is_opened b f h in follows_from f ws (rw o.fill_is (fair_empty b o.accepted))
