-- What is told of a plan that is refused.
use Rattle.std.specs.Prelude.{◌≡◌, refl, Bool, true, false, List, ℕ, zero, suc, Err}
use Rattle.std.proofs.Common.{arith, ne_eqb}
use Rattle.domain.specs.declared.Refusal.{Refusal}
use Rattle.domain.specs.Refusals.{when}
use Rattle.domain.specs.Refusal.{answer_with}
use Rattle.lists.specs.Table.{filled}
use Rattle.sheet.specs.declared.Sheet.{Sheet}
use Rattle.sheet.specs.declared.Line.{Line}
use Rattle.file_read.specs.Reading.{refusal_of}
use Rattle.plan_sheet.specs.Plans.{Plan, refused_plan}
use Rattle.plan_sheet.specs.Laid.{plan_in, told_of, laid_in, Lays}

-- RULES: Refusals. Nothing but the refusal, and the lent lines are as they were
pub lays_refused : (p : Plan) (r : Refusal) (old : List Line) → p.placed ≡ 0 → Err r ≡ answer_with p.refused p.considered (told_of p) → Lays p (Err r) old old
unfolding laid_in filled
lays_refused p r old none e = record { told_is = e; lines_are = rw none refl }

-- a refusal has a number
pub has_number : {A : Type 0} (n needed : ℕ) (u : A) (r : Refusal) → Err r ≡ answer_with n needed u → n ≡ 0 → ⊥
unfolding answer_with
has_number zero needed u r e z = absurd (cc)
has_number (suc n) needed u r e z = omega (arith, z)

-- and a test that refuses holds
pub test_holds : {A : Type 0} (b : Bool) (n needed : ℕ) (u : A) (r : Refusal) → Err r ≡ answer_with (when b n) needed u → b ≡ true
unfolding answer_with
test_holds true n needed u r e = refl
test_holds false n needed u r e = absurd (cc)

-- the plan of the order in a file that is refused
pub refused_in : (run : Sheet → ℕ → Plan) (f : List ℕ) (consider : ℕ) → (refusal_of f ≡ 0 → ⊥) → plan_in run f consider ≡ refused_plan (refusal_of f)
unfolding plan_in
refused_in run f consider n = rw (ne_eqb (refusal_of f) 0 n)
