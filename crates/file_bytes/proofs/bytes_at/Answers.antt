-- `bytes_at` meets its contract: of the bytes from a place on the first N, and zeros behind them where they are fewer.
use Rattle.std.proofs.Common.{◌≡◌, ℕ, ◌+◌, ◌-◌, ◌≤◌, List, [], length, drop, sym, ◌∙◌, arith, inl, inr}
use Rattle.std.specs.Prelude.{slice_range}
use Rattle.std.proofs.lemmas.List.{take_all, length-drop, drop-replicate}
use Rattle.file_bytes.specs.Bytes.{number_at}
use Rattle.file_bytes.specs.Words.{number_past, number_head, number_tail, number_padded}
use Rattle.file_bytes.proofs.bytes_at.Goals as goal

-- the bytes from a place on
from : (s rest : List ℕ) (at : ℕ) → rest ≡ slice_range s at (length s) → rest ≡ drop at s
from s rest at h = h ∙ take_all (length s - at) (drop at s) (rw (length-drop at s) (omega arith))

there : (w : ℕ) (s rest : List ℕ) (at : ℕ) → rest ≡ drop at s → number_at w rest 0 ≡ number_at w s at
there w s rest at h = let e : at + 0 ≡ at = omega arith in rw h (rw e at (number_tail w s at 0))

pub returns-in_default : goal.returns-in_default
returns-in_default g c =
    let a = c.args in
    let past : length a.s.now ≤ a.at = elim c.in_default.ensures.lookup.0 [ inl h ↦ omega arith | inr h ↦ omega arith ] in
    number_padded g.row.N [] g.row.N 0 ∙ number_past g.row.N [] 0 (omega arith) ∙ sym (number_past g.row.N a.s.now a.at past)

pub returns-in-Some-first_chunk : goal.returns-in-Some-first_chunk
returns-in-Some-first_chunk g c =
    let a = c.args in
    let e = from a.s.now c.in-Some.rest.now a.at c.in-Some.ensures.lookup.0.2 in
    rw c.in-Some-first_chunk.ensures.cases.same (number_head g.row.N g.row.N c.in-Some.rest.now 0 (omega arith) ∙ there g.row.N a.s.now c.in-Some.rest.now a.at e)

pub returns : goal.returns
returns g c =
    let a = c.args in
    let e = from a.s.now c.in-Some.rest.now a.at c.in-Some.ensures.lookup.0.2 in
    rw (drop-replicate {X = ℕ} (length c.in-Some.rest.now) g.row.N 0, c.copy_from_slice.ensures.after) (number_padded g.row.N c.in-Some.rest.now (g.row.N - length c.in-Some.rest.now) 0 ∙ there g.row.N a.s.now c.in-Some.rest.now a.at e)
