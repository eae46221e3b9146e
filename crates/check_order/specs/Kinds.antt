-- What a line gets from its sheet is the same in two sheets with the same kinds, container and counts: its kind, its own findings, and a pair's.
use Rattle.std.specs.Prelude.{◌≡◌, Bool, true, false, ◌&&◌, cond, List, ◌++◌, ℕ, zero, suc, ◌<◌, eqb}
use Rattle.std.proofs.Math.Path.{refl, ap}
use Rattle.std.proofs.Common.{sym, ◌∙◌, arith, ltb-true, eqb-true, le-ltb}
use Rattle.std.proofs.lemmas.Bool.{false≢true}
use Rattle.std.proofs.Math.Dec.{ltb}
use Rattle.std.proofs.Math.ListN.{get_or}
use Rattle.lists.specs.Bools.{and_left, and_right}
use Rattle.measures.specs.declared.Kind.{Kind}
use Rattle.measures.specs.declared.Container.{Container}
use Rattle.sheet.specs.declared.Line.{Line}
use Rattle.sheet.specs.declared.Sheet.{Sheet}
use Rattle.sheet.specs.Sheets.{no_kind, kind_at}
use Rattle.check_pair.specs.Pair.{verdict_of}
use Rattle.check_packing.specs.Lines.{kind_below, kind_of, known, kind_for, in_range, counted, box_of, tolerance}
use Rattle.lists.specs.Bools.{and_same}
use Rattle.check_order.specs.Bools.{only_same}
use Rattle.check_order.specs.Reordered.{other}
use Rattle.check_list.specs.Finding.{name_words, place_words, verdict_words}
use Rattle.check_list.specs.View.{verdict_found}
use Rattle.check_order.specs.ByLine.{own_findings, pair_words, verdict_on}
use Rattle.check_list.specs.View.{pair_found}

kind_below_same : (ks hs : List Kind) (id n : ℕ) → ((k : ℕ) → k < n → get_or ks k no_kind ≡ get_or hs k no_kind) → kind_below ks id n ≡ kind_below hs id n
unfolding kind_below
kind_below_same ks hs id zero h = refl
kind_below_same ks hs id (suc n) h =
    let at : ℕ → Kind → ℕ = λ v k. cond (ltb v n) v (cond (eqb k.id id) n (suc n)) in
    ap (λ (v : ℕ). at v (get_or ks n no_kind)) (kind_below_same ks hs id n (λ k l. h k (omega arith)))
    ∙ ap (λ (k : Kind). at (kind_below hs id n) k) (h n (omega arith))

-- the kind that is found has the id
pub kind_found : (ks : List Kind) (id n : ℕ) → ltb (kind_below ks id n) n ≡ true → (get_or ks (kind_below ks id n) no_kind).id ≡ id
unfolding kind_below
kind_found ks id zero h = absurd (false≢true h)
kind_found ks id (suc n) h = go (ltb (kind_below ks id n) n) (eqb (get_or ks n no_kind).id id) (kind_found ks id n) (eqb-true (get_or ks n no_kind).id id) h
  where
    go : (b c : Bool) → (b ≡ true → (get_or ks (kind_below ks id n) no_kind).id ≡ id) → (c ≡ true → (get_or ks n no_kind).id ≡ id)
        → ltb (cond b (kind_below ks id n) (cond c n (suc n))) (suc n) ≡ true → (get_or ks (cond b (kind_below ks id n) (cond c n (suc n))) no_kind).id ≡ id
    go true c f g k = f refl
    go false true f g k = g refl
    go false false f g k = absurd (false≢true (sym (le-ltb (suc n) (suc n) (omega arith)) ∙ k))

own_words_same : (c : Container) (i : ℕ) (l : Line) (b d : Bool) (k h : Kind) → b ≡ d → (b ≡ true → k ≡ h)
    → name_words i l b k ++ place_words c i l b k (box_of l k) ≡ name_words i l d h ++ place_words c i l d h (box_of l h)
own_words_same c i l true d k h e f = ap (λ (v : Kind). name_words i l true v ++ place_words c i l true v (box_of l v)) (f refl) ∙ ap
    (λ (v : Bool). name_words i l v h ++ place_words c i l v h (box_of l h)) e
own_words_same c i l false d k h e f = unknown ∙ ap (λ (v : Bool). name_words i l v h ++ place_words c i l v h (box_of l h)) e
  where
    unknown : name_words i l false k ++ place_words c i l false k (box_of l k) ≡ name_words i l false h ++ place_words c i l false h (box_of l h)
    unknown = unfold name_words place_words in refl

module _ (s : Sheet) (ks : List Kind) (ls : List Line) (us : List ℕ) (same_kinds : (k : ℕ) → k < s.many.kinds → kind_at s k ≡ get_or ks k no_kind) where
  pub kind_of_same : (id : ℕ) → kind_of s id ≡ kind_of (other s ks ls us) id
  kind_of_same id = kind_below_same s.kinds ks id s.many.kinds same_kinds

  pub known_same : (l : Line) → known s l ≡ known (other s ks ls us) l
  unfolding known
  known_same l = ap (λ (v : ℕ). ltb v s.many.kinds) (kind_of_same l.id)

  pub kind_for_same : (l : Line) → known s l ≡ true → kind_for s l ≡ kind_for (other s ks ls us) l
  unfolding known kind_for
  kind_for_same l h = same_kinds (kind_of s l.id) (ltb-true (kind_of s l.id) s.many.kinds h) ∙ ap (λ (v : ℕ). get_or ks v no_kind) (kind_of_same l.id)

  pub counted_same : (l : Line) → counted s l ≡ counted (other s ks ls us) l
  unfolding counted
  counted_same l =
      let t = other s ks ls us in
      and_same (known s l) (known t l) (in_range l (kind_for s l)) (in_range l (kind_for t l)) (known_same l)
      (λ e. ap (λ (k : Kind). in_range l k) (kind_for_same l e))

  -- what a line gets for itself
  pub own_same : (i : ℕ) (l : Line) → own_findings s i l ≡ own_findings (other s ks ls us) i l
  unfolding own_findings
  own_same i l = own_words_same s.container i l (known s l) (known (other s ks ls us) l) (kind_for s l) (kind_for (other s ks ls us) l) (known_same l)
      (kind_for_same l)

  -- what two lines get
  pub pair_same : (i : ℕ) (l : Line) (j : ℕ) (m : Line) → pair_words s i l j m ≡ pair_words (other s ks ls us) i l j m
  unfolding pair_words verdict_on verdict_found pair_found
  pair_same i l j m =
      let t = other s ks ls us in
      only_same (known s l && known s m) (known t l && known t m) _ _
      (ap (λ (v : Bool). v && known s m) (known_same l) ∙ ap (λ (v : Bool). known t l && v) (known_same m))
      (λ e. ap (λ (k : Kind). verdict_words i j s.container.spacing (verdict_of (box_of l k) (box_of m (kind_for s m)) s.container.spacing (tolerance s)))
      (kind_for_same l (and_left (known s l) (known s m) e))
      ∙ ap (λ (k : Kind). verdict_words i j s.container.spacing (verdict_of (box_of l (kind_for t l)) (box_of m k) s.container.spacing (tolerance s)))
      (kind_for_same m (and_right (known s l) (known s m) e)))
