-- What reading the table of the first m kinds answers.
use Rattle.std.specs.Prelude.{◌≡◌, ℕ, true, false, replicate, Result, MatchResult}
use Rattle.domain.specs.declared.Refusal.{Refusal}
use Rattle.domain.specs.declared.Refusal.TheVariants.{Uneven}
use Rattle.domain.specs.Bounds.{most_kinds}
use Rattle.lists.specs.Below.{any_below}
use Rattle.lists.specs.Table.{filled}
use Rattle.sheet.specs.declared.Sheet.{Sheet}
use Rattle.fill_thousand.specs.declared.Table.{Table}
use Rattle.fill_thousand.specs.Fill.{uneven_kind}
use Rattle.fill_thousand.specs.Tabled.{kind_id, kind_solid}

-- the ids and volumes, where each length of each kind counts
pub record TableMade (s : Sheet) (m : ℕ) (t : Table) : Type 0 where
  pub none_odd : any_below (uneven_kind s.kinds) m ≡ false
  pub ids_are : t.ids ≡ filled (replicate most_kinds 0) (kind_id s) m
  pub solids_are : t.solids ≡ filled (replicate most_kinds 0) (kind_solid s) m

-- and the refusal where one does not
pub record TableRefused (s : Sheet) (m : ℕ) (r : Refusal) : Type 0 where
  pub some_odd : any_below (uneven_kind s.kinds) m ≡ true
  pub refused : r ≡ Uneven

abbrev pub TableRead : Sheet → ℕ → Result Table Refusal → Type 0
TableRead s m r = MatchResult r (TableMade s m) (TableRefused s m)
