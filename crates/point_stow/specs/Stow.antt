-- Boxes placed in a given order, as a run does once it has sorted them. RULES: First placer: run
use Rattle.std.specs.Prelude.{◌≡◌, Bool, false, cond, List, ℕ, zero, suc, ◌<◌, length, get_or, set, replicate, None, Ok}
use Rattle.std.proofs.Common.{arith}
use Rattle.domain.specs.Bounds.{most_kinds, most_boxes}
use Rattle.domain.specs.Refusals.{or_else}
use Rattle.measures.specs.declared.Kind.{Kind}
use Rattle.measures.specs.Orders.{share_of}
use Rattle.measures.specs.Faults.{kind_fault}
use Rattle.sheet.specs.declared.Sheet.{Sheet}
use Rattle.sheet.specs.Sheets.{no_kind}
use Rattle.sheet.specs.Accepted.{Accepted, Sound}
use Rattle.plan_boxes.specs.declared.Instance.{Instance}
use Rattle.plan_boxes.specs.Listing.{no_instance}
use Rattle.point_state.specs.declared.ExtremePointSet.{ExtremePointSet}
use Rattle.point_state.specs.Boxes.{total_mass}
use Rattle.point_place.specs.declared.Tried.{Tried}
use Rattle.point_place.specs.Place.{tried_of, stood}
use Rattle.point_step.specs.Pick.{too_heavy}

-- a state after boxes were placed in order; placed box i has orientation i of the list
pub record Stowed : Type 0 where
  pub next : ExtremePointSet
  pub orientations : List ℕ

-- orientations are tried from 0: the first of the first n in which the box stands
pub record Attempt : Type 0 where
  pub orientation : ℕ
  pub tried : Tried

unfoldable pub attempt_of : ExtremePointSet → Kind → ℕ → ℕ → Attempt
attempt_of s kind instance zero = record { orientation = 0; tried = record { answer = Ok None; next = s } }
attempt_of s kind instance (suc o) =
    let a = attempt_of s kind instance o in
    cond (stood a.tried.answer) a (record { orientation = o; tried = tried_of s kind instance o })

-- after an attempt that stands, the state after it with the box's orientation noted; else all stays
abbrev pub after_attempt : Attempt → Stowed → Stowed
after_attempt a f =
    cond (stood a.tried.answer)
    (record { next = a.tried.next; orientations = set f.orientations f.next.held a.orientation })
    f

-- one box of the kind
unfoldable pub turn_of : Kind → ℕ → Stowed → Stowed
turn_of kind instance f =
    cond (too_heavy f.next.container.limit (total_mass f.next) kind) f
    (after_attempt (attempt_of f.next kind instance (length (share_of kind.rule))) f)

-- the first n items
unfoldable pub stowed_by : ExtremePointSet → List Kind → List Instance → ℕ → Stowed
stowed_by s kinds items zero = record { next = s; orientations = replicate most_boxes 0 }
stowed_by s kinds items (suc i) =
    let item = get_or items i no_instance in turn_of (get_or kinds item.kind no_kind) item.instance (stowed_by s kinds items i)

-- ---- laws

-- the first n items are of kinds in the store that no place call refuses
pub record Listed (kinds : List Kind) (items : List Instance) (n : ℕ) : Type 0 where
  pub kind_in_lem : (i : ℕ) → i < n → (get_or items i no_instance).kind < most_kinds
  pub kind_right : (i : ℕ) → i < n → kind_fault (get_or kinds (get_or items i no_instance).kind no_kind) false ≡ 0

kind_fair : (k : Kind) (repeats : Bool) → Sound k repeats → kind_fault k false ≡ 0
unfolding kind_fault or_else
kind_fair k repeats h = rw (h.record_right, h.measures_right)

-- the boxes of kinds that an accepted order has are such
pub listed : (order : Sheet) (items : List Instance) (n : ℕ) → Accepted order → ((i : ℕ) → i < n → (get_or items i no_instance).kind < order.many.kinds)
    → Listed order.kinds items n
listed order items n a below =
    record {
      kind_in_lem = λ i l. let b = below i l in let f = a.few_of.kinds in omega arith;
      kind_right = λ i l. kind_fair _ _ (a.kind_sound (get_or items i no_instance).kind (below i l));
    }
