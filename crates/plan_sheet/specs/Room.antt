-- A plan is laid in lent lines that have room for it. RULES: Lent memory
use Rattle.std.specs.Prelude.{◌≡◌, cond, List, ℕ, ◌<◌, ◌≤◌, ltb, length}
use Rattle.std.proofs.Common.{arith, le-ltb}
use borrow.Author.Tests.{lt-ltb}
use Rattle.sheet.specs.declared.Line.{Line}
use Rattle.plan_sheet.specs.Plans.{Plan, refused_plan, crowded_plan}

-- a plan is laid in lines of which there is one for each box considered; in fewer it is refused by 6, which tells how many are considered
unfoldable pub fitting : List Line → Plan → Plan
fitting lines p = cond (ltb (length lines) p.considered) (crowded_plan p.considered) p

-- ---- laws

pub fits_in : (lines : List Line) (p : Plan) → p.considered ≤ length lines → fitting lines p ≡ p
unfolding fitting
fits_in lines p h = rw (le-ltb (length lines) p.considered h)

pub fits_not : (lines : List Line) (p : Plan) → length lines < p.considered → fitting lines p ≡ crowded_plan p.considered
unfolding fitting
fits_not lines p h = rw (lt-ltb (length lines) p.considered h)

-- a refused plan considers no box, and fits in everywhere
pub fits_refused : (lines : List Line) (r : ℕ) → fitting lines (refused_plan r) ≡ refused_plan r
unfolding fitting refused_plan
fits_refused lines r = rw (le-ltb (length lines) 0 (omega arith))
