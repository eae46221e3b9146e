-- RULES: Second placer: items. The instance list of an order (packing_utils.rs, `build_instances`): a record of three words for each box, in the order of
-- the turns.
use Rattle.std.specs.Prelude.{◌≡◌, refl, Bool, true, false, cond, List, [], ◌∷◌, ℕ, zero, suc, ◌+◌, ◌/◌, eqb, ltb, length, get_or, set, Result, Ok, Err}
use Rattle.std.proofs.Common.{arith, ne_eqb, le-ltb}
use Rattle.std.proofs.lemmas.List.Edits.{sets}
use Rattle.domain.specs.declared.Refusal.{Refusal}
use Rattle.domain.specs.Refusals.{when, or_else}
use Rattle.domain.specs.Refusal.{answer_with, refused_or, with_room, or_refuses, room_refuses, room_found, room_enough}
use Rattle.measures.specs.declared.Kind.{Kind}
use Rattle.measures.specs.Orders.{share_of}
use Rattle.sheet.specs.declared.Sheet.{Sheet}
use Rattle.sheet.specs.Sheets.{no_kind, boxes_in, sheet_refusal}
use Rattle.lists.specs.Rows.{wrote}
use Rattle.file_read.specs.Form.{right_shape}
use Rattle.file_read.specs.Reading.{sheet_of, refusal_of}
use Rattle.file_read.specs.Refusal.{sheet_sound}
use Rattle.file_accept.specs.Accept.{taken_as, accept_of}
use Rattle.plan_boxes.specs.Turns.{turn_of}

-- the record of box t: its kind's place, its instance, and how many orientations the kind is allowed
unfoldable pub record_words : List Kind → ℕ → List ℕ
record_words kinds t =
    (turn_of kinds t).kind ∷ (turn_of kinds t).instance ∷ length (share_of (get_or kinds (turn_of kinds t).kind no_kind).rule) ∷ []

-- the boxes of an order
abbrev pub total : Sheet → ℕ
total order = boxes_in order.kinds order.many.kinds

-- what the order gets, then 6: n records, and room for so many words
unfoldable pub build_refusal : Sheet → ℕ → ℕ → ℕ
build_refusal order n room = or_else (sheet_refusal order) (when (ltb (room / 3) n) 6)

-- how many records there are; 6 tells that number too. RULES: Refusals.
unfoldable pub built_of : Sheet → ℕ → Result ℕ Refusal
built_of order room = refused_or (sheet_refusal order) (with_room (room / 3) (total order) (total order))

-- RULES: Lent memory. The records in the first cells, the others as they were; a refusal changes none.
unfoldable pub records_after : Sheet → List ℕ → List ℕ
records_after order o = cond (eqb (build_refusal order (total order) (length o)) 0) (wrote (record_words order.kinds) 3 (total order) o) o

-- ---- of the order in a load file: the file's own refusal, or what the order that its bytes mean gets
unfoldable pub built_in : List ℕ → ℕ → Result ℕ Refusal
built_in f room = refused_or (refusal_of f) (built_of (sheet_of f) room)

unfoldable pub records_left : List ℕ → List ℕ → List ℕ
records_left f o = cond (eqb (refusal_of f) 0) (records_after (sheet_of f) o) o

-- what too many records or items are refused by
unfoldable pub over_number : List ℕ → ℕ
over_number f = cond (right_shape f) 2 1

-- ---- laws
pub three : (kinds : List Kind) (t : ℕ) → length (record_words kinds t) ≡ 3
unfolding record_words
three kinds t = refl

pub three_sets : (o : List ℕ) (at a b c : ℕ) → set (set (set o at a) (at + 1) b) (at + 2) c ≡ sets o at (a ∷ b ∷ c ∷ [])
three_sets o at a b c =
    let p1 : at + 1 ≡ suc at = omega arith in
    let p2 : at + 2 ≡ suc (suc at) = omega arith in
    rw (p1, p2)

-- ---- the answer and the words in each case, by the number n of the order's boxes

pub record Ended (f : List ℕ) (o : List ℕ) (b : Result ℕ Refusal) (w : List ℕ) : Type 0 where
  pub answer_is : b ≡ built_in f (length o)
  pub words_are : w ≡ records_left f o

-- an answer that refuses has a number
pub some_number : {A : Type 0} (n needed : ℕ) (u : A) (r : Refusal) → Err r ≡ answer_with n needed u → n ≡ 0 → ⊥
unfolding answer_with
some_number zero needed u r e z = cc
some_number (suc n) needed u r e z = omega arith

-- and for want of room it is the room that lacks
pub lacks : {A : Type 0} (b : Bool) (needed : ℕ) (u : A) (r : Refusal) → Err r ≡ answer_with (when b 6) needed u → b ≡ true
unfolding answer_with
lacks true needed u r e = refl
lacks false needed u r e = absurd (cc)

pub ended_refused : (f : List ℕ) (o : List ℕ) (r : Refusal) → Err r ≡ accept_of f → Ended f o (Err r) o
unfolding built_in records_left
ended_refused f o r e =
    record {
      answer_is = or_refuses (refusal_of f) (taken_as f) (built_of (sheet_of f) (length o)) r e;
      words_are = rw (ne_eqb (refusal_of f) 0 (some_number (refusal_of f) 0 (taken_as f) r e));
    }

module _ (f : List ℕ) (o : List ℕ) (n : ℕ) (z : refusal_of f ≡ 0) (e : n ≡ total (sheet_of f)) where
  pub ended_short : (r : Refusal) → Err r ≡ answer_with (when (ltb (length o / 3) n) 6) n (tt {0}) → Ended f o (Err r) o
  unfolding built_in records_left built_of records_after build_refusal or_else refused_or
  ended_short r h =
      let l : ltb (length o / 3) (total (sheet_of f)) ≡ true = rw e at (lacks (ltb (length o / 3) n) n (tt {0}) r h) in
      record {
        answer_is = rw (z, sheet_sound f z, ← e) (room_refuses (length o / 3) n n r h);
        words_are = rw (z, sheet_sound f z, l);
      }

  pub ended_written : Ok (tt {0}) ≡ answer_with (when (ltb (length o / 3) n) 6) n (tt {0})
      → Ended f o (Ok n) (wrote (record_words (sheet_of f).kinds) 3 n o)
  unfolding built_in records_left built_of records_after build_refusal or_else refused_or
  ended_written h =
      let l : ltb (length o / 3) (total (sheet_of f)) ≡ false = rw e at (le-ltb (length o / 3) n (room_enough (length o / 3) n h)) in
      record {
        answer_is = rw (z, sheet_sound f z, ← e) (room_found (length o / 3) n n h);
        words_are = rw (z, sheet_sound f z, l) (rw e);
      }
