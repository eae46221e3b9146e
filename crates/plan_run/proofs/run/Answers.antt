-- `plan_run::run` meets its contract: what is refused is handed on, and the list that is handed out is what the lines leave of the order's kinds.
use mathlib.Core.Path.{◌≡◌, refl, ap}
use Rattle.std.specs.Prelude.{Ok, Err}
use lib.ListN.{replicate}
use Rattle.std.proofs.lemmas.Result.{err_from_is_err_and}
use Rattle.domain.specs.Bounds.{most_lines}
use Rattle.sheet.specs.declared.Line.{Line}
use Rattle.plan_run.specs.Packs.{packs_over, packs_laid}
use Rattle.plan_run.proofs.run.Goals as goal

blank : {a b : Line} → a ≡ b → replicate most_lines a ≡ replicate most_lines b
blank e = ap (λ (v : Line). replicate most_lines v) e

pub returns-in_err-told : goal.returns-in_err-told
returns-in_err-told g c =
    let p = err_from_is_err_and c.from_residual.result c.from_residual.ensures.1 in
    record {
      told = Err c.in_err-told.field-0.0;
      lines = c.lay.new.arg2;
      laid = record { shown = _; shows = blank c.blank_line-lines.ensures; left = _; met = c.in_err-told.ensures; leaves = refl };
      given = record { answer_is = rw (p.1, p.2) refl; words_are = refl };
    }

pub returns-in_err-left : goal.returns-in_err-left
returns-in_err-left g c =
    let p = err_from_is_err_and c.from_residual-in_err-left.result c.from_residual-in_err-left.ensures.1 in
    record {
      told = Ok c.in_ok-told.told;
      lines = c.lay.new.arg2;
      laid = record { shown = _; shows = blank c.blank_line-lines.ensures; left = _; met = c.in_ok-told.ensures; leaves = refl };
      given = rw (p.1, p.2) (packs_over _ _ _ _ _ (rw c.counts_in-kinds.ensures at c.in_err-left.ensures));
    }

pub returns : goal.returns
returns g c =
    record {
      told = Ok c.in_ok-told.told;
      lines = c.lay.new.arg2;
      laid = record { shown = _; shows = blank c.blank_line-lines.ensures; left = _; met = c.in_ok-told.ensures; leaves = refl };
      given = packs_laid _ _ _ _ _ _ _ (rw c.counts_in-kinds.ensures at c.in_ok-left.ensures) c.hand_lines.ensures;
    }
