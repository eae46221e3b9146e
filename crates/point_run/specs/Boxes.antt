-- The boxes of an order: as they are listed, and by falling volume through a store of places. RULES: First placer: run
use Rattle.std.specs.Prelude.{◌≡◌, List, ℕ, ◌+◌, ◌<◌, ◌≤◌, length, get_or, set, take, Float}
use Rattle.std.proofs.Common.{sym, ◌∙◌, add-one, arith}
use Rattle.std.proofs.Math.Path.{ap}
use Rattle.std.proofs.Math.ListN.{get_or-map}
use Rattle.std.specs.Float.{nan}
use Rattle.lists.specs.Table.{filled, filled_length, filled_at}
use Rattle.domain.specs.Bounds.{most_boxes}
use Rattle.measures.specs.declared.Kind.{Kind}
use Rattle.sheet.specs.declared.Sheet.{Sheet}
use Rattle.sheet.specs.Sheets.{boxes_in}
use Rattle.sheet.specs.Accepted.{Accepted}
use Rattle.file_read.specs.Reading.{sheet_of}
use Rattle.file_read.specs.Records.{Readable}
use Rattle.plan_boxes.specs.declared.Instance.{Instance}
use Rattle.plan_boxes.specs.Turns.{turn_of}
use Rattle.plan_boxes.specs.Listing.{no_instance}
use Rattle.point_order.specs.Order.{falling_of, sorts_all, Falls}
use Rattle.point_order.specs.Insert.{falling_below, falling_same, place_is, falls_long}
use Rattle.point_run.specs.Order.{volume_of, falling_boxes}
use Rattle.point_run.specs.Kinds.{boxes_few, turn_kind}

-- the boxes of an order by falling volume
abbrev pub boxes_by : Sheet → List Instance
boxes_by order = falling_boxes order.kinds (boxes_in order.kinds order.many.kinds)

-- the first n boxes listed, and the volume of each
pub record Lists (kinds : List Kind) (n : ℕ) (items₀ : List Instance) (volumes₀ : List Float) (items : List Instance) (volumes : List Float) : Type 0 where
  pub items_are : items ≡ filled items₀ (turn_of kinds) n
  pub volumes_are : volumes ≡ filled volumes₀ (volume_of kinds) n

-- the lists keep their lengths
pub record ListsLong (items₀ : List Instance) (volumes₀ : List Float) (items : List Instance) (volumes : List Float) : Type 0 where
  pub items_long : length items ≡ length items₀
  pub volumes_long : length volumes ≡ length volumes₀

pub lists_long : {kinds : List Kind} {n : ℕ} {items₀ : List Instance} {volumes₀ : List Float} {items : List Instance} {volumes : List Float}
    → Lists kinds n items₀ volumes₀ items volumes → ListsLong items₀ volumes₀ items volumes
lists_long {kinds} {n} {items₀} {volumes₀} l =
    record {
      items_long = rw l.items_are (filled_length items₀ (turn_of kinds) n);
      volumes_long = rw l.volumes_are (filled_length volumes₀ (volume_of kinds) n);
    }

-- one box more
pub listed_more : (kinds : List Kind) (n : ℕ) (items₀ : List Instance) (volumes₀ : List Float) (items : List Instance) (volumes : List Float)
    → Lists kinds n items₀ volumes₀ items volumes → (u : Instance) (v : Float) → u ≡ turn_of kinds n → v ≡ volume_of kinds n
    → Lists kinds (n + 1) items₀ volumes₀ (set items n u) (set volumes n v)
unfolding filled
listed_more kinds n items₀ volumes₀ items volumes l u v e h =
    rw (add-one n) (record { items_are = rw (l.items_are, e); volumes_are = rw (l.volumes_are, h) })

-- an accepted file, whose order has so many boxes, of which the first n are asked for
pub record Asked (f : List ℕ) (all n : ℕ) : Type 0 where
  pub can_read : Readable f
  pub right : Accepted (sheet_of f)
  pub all_is : all ≡ boxes_in (sheet_of f).kinds (sheet_of f).many.kinds
  pub few : n ≤ all

-- the listing has the first n boxes of an accepted file's order by falling volume, box i at place i of the store
pub record Ready (f : List ℕ) (items : List Instance) (places : List ℕ) (n : ℕ) : Type 0 where
  pub can_read : Readable f
  pub right : Accepted (sheet_of f)
  pub few : n ≤ most_boxes
  pub places_in : n ≤ length places
  pub place_in : (i : ℕ) → i < n → get_or places i 0 < most_boxes
  pub items_in : (i : ℕ) → i < n → get_or places i 0 < length items
  pub item_at : (i : ℕ) → i < n → get_or items (get_or places i 0) no_instance ≡ get_or (boxes_by (sheet_of f)) i no_instance
  pub kind_in_lem : (i : ℕ) → i < n → (get_or (boxes_by (sheet_of f)) i no_instance).kind < (sheet_of f).many.kinds

pub asked_few : {f : List ℕ} {all n : ℕ} → Asked f all n → all ≤ most_boxes
asked_few {f} q = rw q.all_is (boxes_few (sheet_of f) q.right)

-- ---- listed and sorted, they are ready

module _ (f : List ℕ) (all n : ℕ) (q : Asked f all n) (items₀ : List Instance) (volumes₀ : List Float) (places₀ : List ℕ)
    (items_few : all ≤ length items₀) (volumes_few : all ≤ length volumes₀) (places_few : all ≤ length places₀)
    (items : List Instance) (volumes : List Float) (places : List ℕ)
    (l : Lists (sheet_of f).kinds all items₀ volumes₀ items volumes) (s : Falls volumes all places₀ places) where
  abbrev order : Sheet
  order = sheet_of f

  abbrev vol : ℕ → Float
  vol = volume_of order.kinds

  -- the lists keep their lengths
  items_long : all ≤ length items
  items_long = rw (lists_long l).items_long items_few

  volumes_long : all ≤ length volumes
  volumes_long = rw (lists_long l).volumes_long volumes_few

  -- a cell of a column for each box
  cell : {A : Type 0} (old : List A) (g : ℕ → A) (column : List A) (u : ℕ) (d : A) → all ≤ length old → column ≡ filled old g all → u < all
      → get_or column u d ≡ g u
  cell old g column u d few e h = rw e (filled_at old g all u d few h)

  sorted : take all places ≡ falling_of vol all
  sorted =
      rw (sorts_all all volumes places₀ volumes_long places_few) at s.first
      ∙ falling_same (λ u. get_or volumes u nan) vol all (λ u h. cell volumes₀ vol volumes u nan volumes_few l.volumes_are h)

  places_long : all ≤ length places
  places_long = rw (falls_long volumes all places₀ places s) places_few

  place_of : (i : ℕ) → i < all → get_or places i 0 ≡ get_or (falling_of vol all) i 0
  place_of = place_is vol places all places_long sorted

  place_below : (i : ℕ) → i < all → get_or places i 0 < all
  place_below i h = rw (place_of i h) (falling_below vol all i h)

  box_at : (i : ℕ) → i < all → get_or (boxes_by order) i no_instance ≡ turn_of order.kinds (get_or places i 0)
  unfolding falling_boxes turn_of
  box_at i h =
      rw (← q.all_is) (get_or-map (turn_of order.kinds) (falling_of vol all) i 0 ∙ ap (turn_of order.kinds) (sym (place_of i h)))

  pub ready : Ready f items places n
  ready =
      let m = q.few in
      let few = asked_few q in
      let w = items_long in
      let p = places_long in
      record {
        can_read = q.can_read;
        right = q.right;
        few = omega (arith, m, few);
        places_in = omega (arith, m, p);
        place_in = λ i h. let b = place_below i (omega (arith, m, h)) in omega (arith, b, few);
        items_in = λ i h. let b = place_below i (omega (arith, m, h)) in omega (arith, b, w);
        item_at = λ i h. let k : i < all = omega (arith, m, h) in
            cell items₀ _ items (get_or places i 0) no_instance items_few l.items_are (place_below i k) ∙ sym (box_at i k);
        kind_in_lem = λ i h. let k : i < all = omega (arith, m, h) in
            rw (box_at i k) (turn_kind order q.right (get_or places i 0) (rw (← q.all_is) (place_below i k)));
      }
