-- What is handed out of the lines that a plan was laid in is the plan, if its unplaced list is what its lines leave; and the plans of the runs are such.
use Rattle.std.specs.Prelude.{◌≡◌, refl, Bool, true, false, ℕ, ◌*◌, ◌<◌, ◌≤◌, eqb, length, Result, Ok, Err}
use Rattle.std.proofs.Math.Path.{sym, ap}
use Rattle.std.proofs.Common.{◌∙◌, arith}
use Rattle.std.proofs.Math.Bool.{cond}
use mathlib.Core.List.{List, ◌++◌}
use borrow.Author.Tests.{eqb-true, eqb-false}
use Rattle.std.proofs.Math.ListN.{drop}
use Rattle.lists.specs.Below.{all_same}
use Rattle.lists.specs.Rows.{wrote}
use Rattle.domain.specs.Bounds.{most_lines}
use Rattle.domain.specs.declared.Refusal.{Refusal}
use Rattle.domain.specs.Refusal.{no_refusal, accepted_as}
use Rattle.sheet.specs.declared.Sheet.{Sheet}
use Rattle.sheet.specs.Sheets.{no_line, sheet_refusal}
use Rattle.sheet.specs.declared.Line.{Line}
use Rattle.file_read.specs.Form.{right_shape}
use Rattle.file_read.specs.Reading.{sheet_of, refusal_of}
use Rattle.file_read.specs.Refusal.{sheet_decides, sheet_sound}
use Rattle.plan_sheet.specs.declared.Told.{Told}
use Rattle.plan_sheet.specs.declared.Packed.{Packed}
use Rattle.plan_unplaced.specs.declared.Left.{Left}
use Rattle.plan_sheet.specs.Plans.{Plan, refused_plan}
use Rattle.plan_sheet.specs.Lent.{plan_by, by_long, words_by}
use Rattle.plan_sheet.specs.Room.{fitting}
use Rattle.plan_sheet.specs.LaidLaws.{laid_at, laid_length}
use Rattle.plan_sheet.specs.Hand.{words_of, line_words, hand_refusal, handed_of, slots_of}
use Rattle.plan_sheet.specs.Laid.{plan_in, told_of, laid_in, Lays}
use Rattle.point_run.specs.Runs.{ep_packing_of}
use Rattle.layer_plan.specs.Fills.{layer_fill_of, items_refusal, place_items_of, items_right}
use Rattle.layer_plan.specs.Items.{items_in}
use Rattle.plan_laws.specs.Accepted.{Lists, points_lists, layers_lists, items_lists}
use Rattle.plan_laws.specs.Laid.{laid_left, count_is, ids_are}
use Rattle.plan_laws.specs.Fits.{Modest, fits_long, long_room}
use Rattle.plan_run.specs.Packs.{Packs, Gives, laid_plan, laid_made, packs_refused}

-- a plan of the order in a load file: the file is accepted, and the unplaced list is what the plan's lines leave
pub record Sound (f : List ℕ) (p : Plan) : Type 0 where
  pub order_accepted : refusal_of f ≡ 0
  pub lists : Lists (sheet_of f).kinds (sheet_of f).many.kinds p

-- ---- what is handed out is the plan

-- a plan that is made
module _ (f : List ℕ) (p : Plan) (old : List Line) (room : p.placed ≤ length old) (fair : p.refused ≡ 0) (sound : Sound f p) where
  abbrev left : Left
  left = laid_left f (told_of p) (laid_in old p)

  abbrev out : Plan
  out = plan_by (told_of p) left (laid_in old p)

  -- there is a line for each that was placed, so it is not refused either
  own_refusal : out.refused ≡ p.refused
  own_refusal = by_long (told_of p) left (laid_in old p) (rw (laid_length old p) room) ∙ sym fair

  answer_made : (lent : ℕ) → handed_of out lent ≡ handed_of p lent
  unfolding handed_of plan_by
  answer_made lent =
      rw (own_refusal, count_is f sound.order_accepted p sound.lists old room, ids_are f sound.order_accepted p sound.lists old room)

  -- the words of line i
  row_is : (i : ℕ) → i < p.placed → line_words (laid_in old p) i ≡ line_words p.lines i
  unfolding line_words
  row_is i l = ap words_of (laid_at old p i no_line room l)

  rows_are : (o : List ℕ) → wrote (line_words out.lines) 6 p.placed o ≡ wrote (line_words p.lines) 6 p.placed o
  unfolding wrote plan_by
  rows_are o =
      sym (words_by (laid_in old p) p.placed o sound.lists.lines_few)
      ∙ ap (λ (l : List ℕ). l ++ drop (p.placed * 6) o) (all_same (line_words (laid_in old p)) (line_words p.lines) p.placed row_is)

  words_made : (o : List ℕ) → slots_of out o ≡ slots_of p o
  unfolding slots_of plan_by
  words_made o =
      rw (own_refusal, count_is f sound.order_accepted p sound.lists old room)
      (ap (λ (w : List ℕ). cond (eqb (hand_refusal p.refused p.placed p.unplaced (length o)) 0) w o) (rows_are o))

  packs_out : (o : List ℕ) (r : Result Packed Refusal) (after : List ℕ) → Packs out o r after → Packs p o r after
  packs_out o r after h = record { answer_is = h.answer_is ∙ answer_made (length o); words_are = h.words_are ∙ words_made o }

  pub packs_made : (o : List ℕ) (r : Result Packed Refusal) (after : List ℕ) → Packs (laid_plan f (told_of p) (laid_in old p)) o r after → Packs p o r after
  packs_made o r after h = packs_out o r after (rw (laid_made f (told_of p) (laid_in old p) sound.order_accepted sound.lists.lines_few) at h)

-- as many lines as there may be
module _ (f : List ℕ) (p : Plan) (old : List Line) (long : most_lines ≤ length old) (modest : Modest p) (sound : p.refused ≡ 0 → Sound f p) where
  packs_of : (t : Result Told Refusal) (c : List Line) (o : List ℕ) (r : Result Packed Refusal) (after : List ℕ) → Lays p t old c
      → Gives f t c o r after → Packs p o r after
  packs_of (Ok t) c o r after l h =
      let z = no_refusal p.refused p.considered (told_of p) t l.told_is in
      let e = accepted_as p.refused p.considered (told_of p) t l.told_is in
      packs_made f p old (long_room old modest long) z (sound z) o r after (rw (e, l.lines_are) at h)
  packs_of (Err e) c o r after l h = rw (h.answer_is, h.words_are) (packs_refused p o (told_of p) e l.told_is)

  pub packs : (t : Result Told Refusal) (c : List Line) (o : List ℕ) (r : Result Packed Refusal) (after : List ℕ) → Lays (fitting old p) t old c
      → Gives f t c o r after → Packs p o r after
  packs t c o r after l h = packs_of t c o r after (rw (fits_long old modest long) at l) h

-- ---- the plans of the runs

-- of a placer's runs over the whole order
pub order_sound : (plan_of : Sheet → ℕ → Plan) (f : List ℕ) (consider : ℕ)
    → (sheet_refusal (sheet_of f) ≡ 0 → Lists (sheet_of f).kinds (sheet_of f).many.kinds (plan_of (sheet_of f) consider))
    → (plan_in plan_of f consider).refused ≡ 0 → Sound f (plan_in plan_of f consider)
unfolding plan_in refused_plan
order_sound plan_of f consider lists = go (eqb (refusal_of f) 0) refl
  where
    go : (b : Bool) → eqb (refusal_of f) 0 ≡ b → (cond b (plan_of (sheet_of f) consider) (refused_plan (refusal_of f))).refused ≡ 0
        → Sound f (cond b (plan_of (sheet_of f) consider) (refused_plan (refusal_of f)))
    go true e _ = let z = eqb-true (refusal_of f) 0 e in record { order_accepted = z; lists = lists (sheet_sound f z) }
    go false e z = absurd (eqb-false (refusal_of f) 0 e z)

pub points_sound : (f : List ℕ) (consider : ℕ) → (plan_in ep_packing_of f consider).refused ≡ 0 → Sound f (plan_in ep_packing_of f consider)
points_sound f consider = order_sound ep_packing_of f consider (points_lists (sheet_of f) consider)

pub layers_sound : (f : List ℕ) (consider : ℕ) → (plan_in layer_fill_of f consider).refused ≡ 0 → Sound f (plan_in layer_fill_of f consider)
layers_sound f consider = order_sound layer_fill_of f consider (layers_lists (sheet_of f) consider)

-- of the run over items
not_refused : (order : Sheet) (records items : List ℕ) (consider : ℕ) → (place_items_of order records items consider).refused ≡ 0
    → items_refusal order records items ≡ 0
unfolding place_items_of refused_plan
not_refused order records items consider z = go (eqb (items_refusal order records items) 0) refl
  where
    go : (b : Bool) → eqb (items_refusal order records items) 0 ≡ b → items_refusal order records items ≡ 0
    go true e = eqb-true (items_refusal order records items) 0 e
    go false e = rw e at z

pub items_sound : (f records items : List ℕ) (consider : ℕ) → (items_in f records items consider).refused ≡ 0 → Sound f (items_in f records items consider)
unfolding items_in refused_plan
items_sound f records items consider = go (right_shape f) refl
  where
    go : (b : Bool) → right_shape f ≡ b → (cond b (place_items_of (sheet_of f) records items consider) (refused_plan 1)).refused ≡ 0
        → Sound f (cond b (place_items_of (sheet_of f) records items consider) (refused_plan 1))
    go true e z =
        let n = not_refused (sheet_of f) records items consider z in
        record {
          order_accepted = sheet_decides f e ∙ (items_right (sheet_of f) records items n).order_accepted;
          lists = items_lists (sheet_of f) records items consider n;
        }
    go false e z = absurd (omega arith)
