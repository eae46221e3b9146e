-- `lt` is a strict weak order on the floats that are no NaN, and so are two such orders, the second where the first says nothing.
use Rattle.std.specs.Prelude.{◌≡◌, refl, Bool, true, false, not, cond, ◌&&◌, ◌||◌, ℕ, T, Float}
use Rattle.std.proofs.Common.{sym, ◌∙◌, ap, arith}
use Rattle.std.specs.Float.{nan, inf, fin}
use Rattle.std.specs.Float.Ieee.{lt, le, is_nan}
use Rattle.std.specs.Float.Ieee.Bits.{is_true}
use Rattle.floats.specs.Order.{lt_not_le, le_chain, le_number_l, lt→le, nlt→le}

pub true_false : {A : Type 0} → true ≡ false → A
true_false e = let q : ◌≡◌ {A = ℕ} 1 0 = ap (λ (b : Bool). cond b 1 0) e in absurd (omega arith)

-- a strict weak order on what P holds of: a and b are not each before the other, and what is not between two is beside one of them
pub record Weak {A : Type 0} (P : A → Type 0) (r : A → A → Bool) : Type 0 where
  pub asym : (a b : A) → r a b ≡ true → r b a ≡ false
  pub neg : (a b c : A) → P a → P b → P c → r a c ≡ true → r a b ≡ false → r b c ≡ true

-- ---- `lt`

abbrev pub Number : Float → Type 0
Number x = T (not (is_nan x))

pub lt_number_l : (x y : Float) → lt x y ≡ true → Number x
lt_number_l x y e = le_number_l x y (lt→le x y (rw e tt))

pub lt_number_r : (x y : Float) → lt x y ≡ true → Number y
unfolding lt is_nan
lt_number_r nan y e = true_false (sym e)
lt_number_r (inf true) nan e = true_false (sym e)
lt_number_r (inf false) nan e = true_false (sym e)
lt_number_r (inf s) (inf t) e = tt
lt_number_r (inf s) (fin t n g) e = tt
lt_number_r (fin s m e₁) nan e = true_false (sym e)
lt_number_r (fin s m e₁) (inf t) e = tt
lt_number_r (fin s m e₁) (fin t n g) e = tt

lt_asym : (x y : Float) → lt x y ≡ true → lt y x ≡ false
lt_asym x y e =
    lt_not_le y x (lt_number_r x y e) (lt_number_l x y e) ∙ ap not (is_true (le x y) (lt→le x y (rw e tt)))

lt_neg : (x y z : Float) → Number x → Number y → Number z → lt x z ≡ true → lt x y ≡ false → lt y z ≡ true
lt_neg x y z p q r e f = lt_not_le y z q r ∙ ap not (go (le z y) refl)
  where
    go : (v : Bool) → le z y ≡ v → v ≡ false
    go false g = refl
    go true g =
        true_false (sym e ∙ (lt_not_le x z p r ∙ ap not (is_true (le z x) (le_chain z y x (rw g tt) (nlt→le x y p q (rw f tt))))))

pub lt_weak : Weak Number lt
lt_weak = record { asym = lt_asym; neg = lt_neg }

-- an order by a number that each has
pub on_weak : {A : Type 0} {P : A → Type 0} (g : A → Float) → ((a : A) → P a → Number (g a)) → Weak P (λ a b. lt (g a) (g b))
on_weak g h = record { asym = λ a b. lt_asym (g a) (g b); neg = λ a b c p q r. lt_neg (g a) (g b) (g c) (h a p) (h b q) (h c r) }

-- ---- two orders, one after the other

abbrev pub lex : {A : Type 0} → (A → A → Bool) → (A → A → Bool) → A → A → Bool
lex r s a b = r a b || (not (r b a) && s a b)

-- by the outcomes of the tests: r a b, r b a, s a b, s b a
lex_asym : (ab ba sab sba : Bool) → (ab ≡ true → ba ≡ false) → (sab ≡ true → sba ≡ false) → (ab || (not ba && sab)) ≡ true → (ba || (not ab && sba)) ≡ false
lex_asym true ba sab sba f g p = rw (f refl)
lex_asym false true sab sba f g p = true_false (sym p)
lex_asym false false sab sba f g p = g p

-- r a c, r c a, r a b, r b a, r b c, r c b; s a c, s a b, s b c
lex_neg : (ac ca ab ba bc cb sac sab sbc : Bool)
    → (ac ≡ true → ab ≡ false → bc ≡ true) → (ba ≡ true → bc ≡ false → ca ≡ true) → (cb ≡ true → ca ≡ false → ab ≡ true)
    → (sac ≡ true → sab ≡ false → sbc ≡ true)
    → (ac || (not ca && sac)) ≡ true → (ab || (not ba && sab)) ≡ false → (bc || (not cb && sbc)) ≡ true
lex_neg ac ca true ba bc cb sac sab sbc f g h k p q = true_false q
lex_neg true ca false ba bc cb sac sab sbc f g h k p q = rw (f refl refl)
lex_neg false true false ba bc cb sac sab sbc f g h k p q = true_false (sym p)
lex_neg false false false ba true cb sac sab sbc f g h k p q = refl
lex_neg false false false true false cb sac sab sbc f g h k p q = true_false (sym (g refl refl))
lex_neg false false false false false true sac sab sbc f g h k p q = true_false (sym (h refl refl))
lex_neg false false false false false false sac sab sbc f g h k p q = k p q

pub lex_weak : {A : Type 0} {P : A → Type 0} {r s : A → A → Bool} → Weak P r → Weak P s → Weak P (lex r s)
lex_weak {A} {P} {r} {s} R S =
    record {
      asym = λ a b. lex_asym (r a b) (r b a) (s a b) (s b a) (R.asym a b) (S.asym a b);
      neg =
          λ a b c x y z.
          lex_neg (r a c) (r c a) (r a b) (r b a) (r b c) (r c b) (s a c) (s a b) (s b c) (R.neg a b c x y z) (R.neg b c a y z x)
          (R.neg c a b z x y)
          (S.neg a b c x y z);
    }
