-- `fill_of` meets its contract: the file's refusal, the lengths', or the fill by the table.
use Rattle.std.proofs.Common.{◌≡◌, refl, false, sym, ap, ◌∙◌, arith}
use Rattle.std.proofs.lemmas.Result.{err_from_is_err_and}
use Rattle.measures.specs.declared.Container.{Container}
use Rattle.sheet.specs.declared.Counts.{Counts}
use Rattle.sheet.specs.Accepted.{accepted}
use Rattle.file_read.specs.Reading.{sheet_of}
use Rattle.file_read.specs.Refusal.{sheet_sound}
use Rattle.file_read.specs.Records.{container_in, bounds, many_is, container_is}
use Rattle.file_accept.specs.Accept.{Taken, taken}
use Rattle.fill_thousand.specs.Fill.{uneven, fill_refusal, solid_of}
use Rattle.fill_thousand.specs.FillLaws.{container_some, answer_filled}
use Rattle.fill_thousand.specs.FileFill.{file_refused, file_uneven, file_filled, lengths_decide, uneven_only, even_only}
use Rattle.fill_thousand.specs.Tabled.{tabled}
use Rattle.fill_thousand.specs.TableRead.{TableMade, TableRefused}
use Rattle.fill_thousand.proofs.fill_of.Goals as goal
use Rattle.fill_thousand.proofs.fill_of.Goals.{In_ok-a, In_ok-refuse, In_ok-table, After-solid}

pub returns-in_err-a : goal.returns-in_err-a
returns-in_err-a c =
    let p = err_from_is_err_and c.from_residual.result c.from_residual.ensures.1 in
    rw (p.1, p.2) (file_refused _ _ _ c.in_err-a.ensures)

-- past the first test the file is accepted
known : (c : In_ok-a) → Taken c.args.f.now c.in_ok-a.a
known c = taken _ _ c.in_ok-a.ensures

-- the container that is measured is the sheet's
measured : (c : In_ok-a) (k : Container) → k ≡ container_in c.args.f.now → k ≡ (sheet_of c.args.f.now).container
measured c k e = e ∙ container_is _ (known c).can_read

kinds_are : (c : In_ok-a) → c.in_ok-a.a.kinds ≡ (sheet_of c.args.f.now).many.kinds
kinds_are c = (known c).kinds_are ∙ ap (λ (m : Counts). m.kinds) (many_is _)

pub returns-in_err-refuse : goal.returns-in_err-refuse
returns-in_err-refuse c =
    let p = err_from_is_err_and c.from_residual-in_err-refuse.result c.from_residual-in_err-refuse.ensures.1 in
    let w = (goal.at.returns-in_err-refuse c).In_ok-a in
    let o = uneven_only _ _ _ c.in_err-refuse.ensures in
    let e = rw (measured w _ c.container_in-container.ensures) at (sym c.uneven.ensures ∙ o.0) in
    rw (p.1, p.2) (file_uneven _ _ (known w).sound (rw e refl) o.1)

pub table_of-requires : goal.table_of-requires
table_of-requires c = let t = known (goal.at.table_of-requires c).In_ok-a in record { readable = t.can_read; kinds = t.kinds_are }

-- past the second the container's lengths count
even : (c : In_ok-refuse) → uneven (sheet_of c.args.f.now).container.size ≡ false
even c =
    let w = (goal.at.In_ok-refuse c).In_ok-a in
    rw (measured w _ c.container_in-container.ensures) at (sym c.uneven.ensures ∙ even_only _ _ _ c.in_ok-refuse.ensures)

pub returns-in_err-table : goal.returns-in_err-table
returns-in_err-table c =
    let p = err_from_is_err_and c.from_residual-in_err-table.result c.from_residual-in_err-table.ensures.1 in
    let v = (goal.at.returns-in_err-table c).In_ok-refuse in
    let w = (goal.at.returns-in_err-table c).In_ok-a in
    let o : TableRefused (sheet_of c.args.f.now) c.in_ok-a.a.kinds c.in_err-table.field-0.0 = c.in_err-table.ensures in
    rw (p.1, p.2) (file_uneven _ _ (known w).sound (rw (even v) (rw (kinds_are w) at o.some_odd)) o.refused)

-- past the last the fill is not refused
made : (c : In_ok-table) → TableMade (sheet_of c.args.f.now) c.in_ok-a.a.kinds c.in_ok-table.table
made c = c.in_ok-table.ensures

sound : (c : In_ok-table) → fill_refusal (sheet_of c.args.f.now) ≡ 0
sound c =
    let w = (goal.at.In_ok-table c).In_ok-a in
    let v = (goal.at.In_ok-table c).In_ok-refuse in
    sym (lengths_decide _ false (known w).sound (sym (rw (even v) (rw (kinds_are w) at (made c).none_odd))))

pub volume_of-loaded-requires : goal.volume_of-loaded-requires
volume_of-loaded-requires c =
    let w = (goal.at.volume_of-loaded-requires c).In_ok-a in
    let t = known w in
    let b = bounds _ t.can_read in
    let m = made (goal.at.volume_of-loaded-requires c).In_ok-table in
    record {
      can_read = t.can_read;
      sound = accepted _ (sheet_sound _ t.sound);
      start_is = t.start_is;
      lines_are = t.lines_are;
      kinds_are = kinds_are w;
      table = tabled _ _ _ _ (rw t.kinds_are b.kinds) m.ids_are m.solids_are;
    }

container_solid : (c : After-solid) → c.solid.result ≡ solid_of (sheet_of c.args.f.now).container.size
container_solid c =
    let w = (goal.at.After-solid c).In_ok-a in
    c.solid.ensures.value ∙ ap (λ (v : Container). solid_of v.size) (measured w _ c.container_in-container.ensures)

pub nonzero_div-result : goal.nonzero_div-result
nonzero_div-result c =
    let h = container_some _ (sound (goal.at.nonzero_div-result c).In_ok-table) in
    let e = container_solid c in
    omega arith

pub returns : goal.returns
returns c =
    let w = (goal.at.returns c).In_ok-a in
    let t = known w in
    let l = t.lines_are ∙ ap (λ (m : Counts). m.lines) (many_is _) in
    file_filled _ _ t.sound
    (answer_filled _ _ _ (sound (goal.at.returns c).In_ok-table) (rw (kinds_are w, l) at c.volume_of-loaded.ensures.value) (container_solid c))
