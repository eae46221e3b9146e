-- Laws on the findings that are picked out of a list of words, and on those that are changed.
use Rattle.std.specs.Prelude.{◌≡◌, Bool, true, false, ◌&&◌, List, [], ◌∷◌, ◌++◌, ℕ, zero, suc, ◌<◌}
use Rattle.std.proofs.Math.Path.{refl}
use Rattle.std.proofs.Common.{sym, ap, ◌∙◌, append_assoc, append-nil, arith}
use Rattle.check_order.specs.Demand.{Finding, finding, words_of, pick, change, Each}
use Rattle.lists.specs.Below.{all_below}
use Rattle.check_words.specs.Words.{only_if}

-- ---- whole findings, each of which is so

pub each_if : (q : Finding → Type 0) (b : Bool) (f : Finding) → q f → Each q (only_if b (words_of f))
each_if q true f h = (h, tt)
each_if q false f h = tt

pub each_append : (q : Finding → Type 0) (a b : List ℕ) → Each q a → Each q b → Each q (a ++ b)
each_append q [] b h k = k
each_append q (c ∷ []) b h k = absurd h
each_append q (c ∷ a ∷ []) b h k = absurd h
each_append q (c ∷ a ∷ r ∷ []) b h k = absurd h
each_append q (c ∷ a ∷ r ∷ d ∷ []) b h k = absurd h
each_append q (c ∷ a ∷ r ∷ d ∷ e ∷ ws) b h k = (h.0, each_append q ws b h.1 k)

pub each_below : (q : Finding → Type 0) (g : ℕ → List ℕ) (n : ℕ) → ((k : ℕ) → k < n → Each q (g k)) → Each q (all_below g n)
unfolding all_below
each_below q g zero h = tt
each_below q g (suc n) h = each_append q (all_below g n) (g n) (each_below q g n (λ k l. h k (omega arith))) (h n (omega arith))

pub each_weak : (q r : Finding → Type 0) → ((f : Finding) → q f → r f) → (ws : List ℕ) → Each q ws → Each r ws
each_weak q r h [] k = tt
each_weak q r h (c ∷ []) k = k
each_weak q r h (c ∷ a ∷ []) k = k
each_weak q r h (c ∷ a ∷ b ∷ []) k = k
each_weak q r h (c ∷ a ∷ b ∷ d ∷ []) k = k
each_weak q r h (c ∷ a ∷ b ∷ d ∷ e ∷ ws) k = (h (finding c a b d e) k.0, each_weak q r h ws k.1)

-- ---- what is picked

pub pick_append : (p : Finding → Bool) (q : Finding → Type 0) (a b : List ℕ) → Each q a → pick p (a ++ b) ≡ pick p a ++ pick p b
unfolding pick
pick_append p q [] b h = refl
pick_append p q (c ∷ []) b h = absurd h
pick_append p q (c ∷ a ∷ []) b h = absurd h
pick_append p q (c ∷ a ∷ r ∷ []) b h = absurd h
pick_append p q (c ∷ a ∷ r ∷ d ∷ []) b h = absurd h
pick_append p q (c ∷ a ∷ r ∷ d ∷ e ∷ ws) b h =
    let f = only_if (p (finding c a r d e)) (c ∷ a ∷ r ∷ d ∷ e ∷ []) in
    ap (λ (v : List ℕ). f ++ v) (pick_append p q ws b h.1) ∙ sym (append_assoc f (pick p ws) (pick p b))

pub pick_if : (p : Finding → Bool) (b : Bool) (f : Finding) → pick p (only_if b (words_of f)) ≡ only_if (b && p f) (words_of f)
unfolding pick
pick_if p true f = append-nil (only_if (p f) (words_of f))
pick_if p false f = refl

pub pick_none : (p : Finding → Bool) (ws : List ℕ) → Each (λ f. p f ≡ false) ws → pick p ws ≡ []
unfolding pick
pick_none p [] h = refl
pick_none p (c ∷ []) h = refl
pick_none p (c ∷ a ∷ []) h = refl
pick_none p (c ∷ a ∷ b ∷ []) h = refl
pick_none p (c ∷ a ∷ b ∷ d ∷ []) h = refl
pick_none p (c ∷ a ∷ b ∷ d ∷ e ∷ ws) h = ap (λ (t : Bool). only_if t (c ∷ a ∷ b ∷ d ∷ e ∷ []) ++ pick p ws) h.0 ∙ pick_none p ws h.1

pub pick_every : (p : Finding → Bool) (ws : List ℕ) → Each (λ f. p f ≡ true) ws → pick p ws ≡ ws
unfolding pick
pick_every p [] h = refl
pick_every p (c ∷ []) h = absurd h
pick_every p (c ∷ a ∷ []) h = absurd h
pick_every p (c ∷ a ∷ b ∷ []) h = absurd h
pick_every p (c ∷ a ∷ b ∷ d ∷ []) h = absurd h
pick_every p (c ∷ a ∷ b ∷ d ∷ e ∷ ws) h =
    ap (λ (t : Bool). only_if t (c ∷ a ∷ b ∷ d ∷ e ∷ []) ++ pick p ws) h.0 ∙ ap (λ (v : List ℕ). c ∷ a ∷ b ∷ d ∷ e ∷ v) (pick_every p ws h.1)

pub pick_same : (p q : Finding → Bool) → ((f : Finding) → p f ≡ q f) → (ws : List ℕ) → pick p ws ≡ pick q ws
unfolding pick
pick_same p q h [] = refl
pick_same p q h (c ∷ []) = refl
pick_same p q h (c ∷ a ∷ []) = refl
pick_same p q h (c ∷ a ∷ b ∷ []) = refl
pick_same p q h (c ∷ a ∷ b ∷ d ∷ []) = refl
pick_same p q h (c ∷ a ∷ b ∷ d ∷ e ∷ ws) =
    ap (λ (t : Bool). only_if t (c ∷ a ∷ b ∷ d ∷ e ∷ []) ++ pick p ws) (h (finding c a b d e)) ∙ ap
    (λ (v : List ℕ). only_if (q (finding c a b d e)) (c ∷ a ∷ b ∷ d ∷ e ∷ []) ++ v) (pick_same p q h ws)

pub pick_below : (p : Finding → Bool) (q : Finding → Type 0) (g : ℕ → List ℕ) → ((k : ℕ) → Each q (g k)) → (n : ℕ)
    → pick p (all_below g n) ≡ all_below (λ k. pick p (g k)) n
unfolding all_below
pick_below p q g h zero = unfold pick in refl
pick_below p q g h (suc n) = pick_append p q (all_below g n) (g n) (each_below q g n (λ k l. h k)) ∙ ap (λ (v : List ℕ). v ++ pick p (g n))
    (pick_below p q g h n)

pub change_append : (f : Finding → Finding) (q : Finding → Type 0) (a b : List ℕ) → Each q a → change f (a ++ b) ≡ change f a ++ change f b
unfolding change
change_append f q [] b h = refl
change_append f q (c ∷ []) b h = absurd h
change_append f q (c ∷ a ∷ []) b h = absurd h
change_append f q (c ∷ a ∷ r ∷ []) b h = absurd h
change_append f q (c ∷ a ∷ r ∷ d ∷ []) b h = absurd h
change_append f q (c ∷ a ∷ r ∷ d ∷ e ∷ ws) b h = ap (λ (v : List ℕ). words_of (f (finding c a r d e)) ++ v) (change_append f q ws b h.1)
