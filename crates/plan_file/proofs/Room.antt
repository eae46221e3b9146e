-- Of an order that is read, the boundary's plan calls refuse nothing but want of room: by either placer.
use Rattle.std.specs.Prelude.{◌≡◌, List, ℕ}
use Rattle.sheet.specs.declared.Sheet.{Sheet}
use Rattle.file_read.specs.Reading.{sheet_of, refusal_of}
use Rattle.point_run.specs.Runs.{ep_packing_of}
use Rattle.layer_plan.specs.Fills.{layer_fill_of}
use Rattle.plan_file.specs.Plan.{order_answer}
use Rattle.plan_laws.proofs.Accepted.{points_accepted, layers_accepted}
use Rattle.plan_file.specs.Room.{length_or_six, planned_length, read_accepted, plan_answer_lem}

module _ (file : List ℕ) (consider room : ℕ) (h : refusal_of file ≡ 0) where
  abbrev order : Sheet
  order = sheet_of file

  pub points_answer : order_answer ep_packing_of file consider room ≡ length_or_six (planned_length order (ep_packing_of order consider)) room
  unfolding order_answer
  points_answer = rw h (plan_answer_lem order (ep_packing_of order consider) room (points_accepted order consider (read_accepted file h)))

  pub layers_answer : order_answer layer_fill_of file consider room ≡ length_or_six (planned_length order (layer_fill_of order consider)) room
  unfolding order_answer
  layers_answer = rw h (plan_answer_lem order (layer_fill_of order consider) room (layers_accepted order consider (read_accepted file h)))
