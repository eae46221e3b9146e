-- `Finding` prints its text, arm by arm.
use Rattle.std.proofs.Common.{arith, refl}
use Rattle.std.proofs.Output.{has_written_of_eq}
use Rattle.show_finding.specs.Names.{name_of, unknown_name, out_of_range_name, repeated_name, orientation_name, bin_name, outside_name, overlap_name, too_close_name, mass_name, missing_name, wrongly_unplaced_name}
use Rattle.show_finding.specs.Line.{used_of, word_of, field_of, finding_text}
use Rattle.show_finding.proofs.Texts.{one_number, two_numbers, three_numbers, four_numbers, two_floats, numbers_and_floats, last_text}
use Rattle.show_finding.proofs.FindingDisplay.fmt.Goals as goal

pub returns-in-1-clause-writes : goal.returns-in-1-clause-writes
unfolding finding_text field_of word_of used_of name_of
returns-in-1-clause-writes g c =
    let ws = c.args.self.now.0 in
    let text = two_numbers ws 1 unknown_name (λ a b c d. refl) (omega arith) (omega arith) (omega arith) in
    λ plain ok. has_written_of_eq _ _ _ _ _ text (c.write.ensures.writes plain ok)

pub returns-in-2-clause-writes : goal.returns-in-2-clause-writes
unfolding finding_text field_of word_of used_of name_of
returns-in-2-clause-writes g c =
    let ws = c.args.self.now.0 in
    let text = four_numbers ws 2 out_of_range_name (λ a b c d. refl) (omega arith) (omega arith) (omega arith) (omega arith) (omega arith) in
    λ plain ok. has_written_of_eq _ _ _ _ _ text (c.write-in-2.ensures.writes plain ok)

pub returns-in-3-clause-writes : goal.returns-in-3-clause-writes
unfolding finding_text field_of word_of used_of name_of
returns-in-3-clause-writes g c =
    let ws = c.args.self.now.0 in
    let text = three_numbers ws 3 repeated_name (λ a b c d. refl) (omega arith) (omega arith) (omega arith) (omega arith) in
    λ plain ok. has_written_of_eq _ _ _ _ _ text (c.write-in-3.ensures.writes plain ok)

pub returns-in-4-clause-writes : goal.returns-in-4-clause-writes
unfolding finding_text field_of word_of used_of name_of
returns-in-4-clause-writes g c =
    let ws = c.args.self.now.0 in
    let text = three_numbers ws 4 orientation_name (λ a b c d. refl) (omega arith) (omega arith) (omega arith) (omega arith) in
    λ plain ok. has_written_of_eq _ _ _ _ _ text (c.write-in-4.ensures.writes plain ok)

pub returns-in-5-clause-writes : goal.returns-in-5-clause-writes
unfolding finding_text field_of word_of used_of name_of
returns-in-5-clause-writes g c =
    let ws = c.args.self.now.0 in
    let text = two_numbers ws 5 bin_name (λ a b c d. refl) (omega arith) (omega arith) (omega arith) in
    λ plain ok. has_written_of_eq _ _ _ _ _ text (c.write-in-5.ensures.writes plain ok)

pub returns-in-6-clause-writes : goal.returns-in-6-clause-writes
unfolding finding_text field_of word_of used_of name_of
returns-in-6-clause-writes g c =
    let ws = c.args.self.now.0 in
    let text = two_numbers ws 6 outside_name (λ a b c d. refl) (omega arith) (omega arith) (omega arith) in
    λ plain ok. has_written_of_eq _ _ _ _ _ text (c.write-in-6.ensures.writes plain ok)

pub returns-in-7-clause-writes : goal.returns-in-7-clause-writes
unfolding finding_text field_of word_of used_of name_of
returns-in-7-clause-writes g c =
    let ws = c.args.self.now.0 in
    let text = two_numbers ws 7 overlap_name (λ a b c d. refl) (omega arith) (omega arith) (omega arith) in
    λ plain ok. has_written_of_eq _ _ _ _ _ text (c.write-in-7.ensures.writes plain ok)

pub returns-in-8-clause-writes : goal.returns-in-8-clause-writes
unfolding finding_text field_of word_of used_of name_of
returns-in-8-clause-writes g c =
    let ws = c.args.self.now.0 in
    let text = numbers_and_floats ws 8 too_close_name (λ a b c d. refl) (omega arith) (omega arith) (omega arith) in
    λ plain ok. has_written_of_eq _ _ _ _ _ text (c.write-in-8.ensures.writes plain ok)

pub returns-in-9-clause-writes : goal.returns-in-9-clause-writes
unfolding finding_text field_of word_of used_of name_of
returns-in-9-clause-writes g c =
    let ws = c.args.self.now.0 in
    let text = two_floats ws 9 mass_name (λ a b c d. refl) (omega arith) in
    λ plain ok. has_written_of_eq _ _ _ _ _ text (c.write-in-9.ensures.writes plain ok)

pub returns-in-10-clause-writes : goal.returns-in-10-clause-writes
unfolding finding_text field_of word_of used_of name_of
returns-in-10-clause-writes g c =
    let ws = c.args.self.now.0 in
    let text = one_number ws 10 missing_name (λ a b c d. refl) (omega arith) (omega arith) in
    λ plain ok. has_written_of_eq _ _ _ _ _ text (c.write-in-10.ensures.writes plain ok)

pub returns-in-0-clause-writes : goal.returns-in-0-clause-writes
unfolding finding_text field_of word_of used_of name_of
returns-in-0-clause-writes g c =
    let ws = c.args.self.now.0 in
    let text = two_numbers ws 0 wrongly_unplaced_name (λ a b c d. refl) (omega arith) (omega arith) (omega arith) in
    λ plain ok. has_written_of_eq _ _ _ _ _ text (c.write-in-0.ensures.writes plain ok)

pub returns-in_default-clause-writes : goal.returns-in_default-clause-writes
returns-in_default-clause-writes g c =
    let ws = c.args.self.now.0 in
    let text = one_number ws _ wrongly_unplaced_name (last_text _ (omega arith)) refl (omega arith) in
    λ plain ok. has_written_of_eq _ _ _ _ _ text (c.write-in_default.ensures.writes plain ok)
