-- `number_of` meets its contract: a letter that is no digit decides, a digit leaves it to those behind it.
use Rattle.std.proofs.Common.{◌≡◌, refl, sym, ◌∙◌, arith, add-one, take_all, length}
use Rattle.show_number.specs.Number.{capped_few, value_next, value_none, none_of_empty, none_of_letter, goes_on, some_of_digits}
use Rattle.show_number.proofs.number_of.Goals as goal

pub returns-then-is_empty : goal.returns-then-is_empty
returns-then-is_empty c = sym (none_of_empty _ (sym c.is_empty.ensures ∙ c.if-is_empty.true))

pub loop-letter-init : goal.loop-letter-init
loop-letter-init c = (refl, value_none c.args.word.now)

pub returns-then-not-is_ascii_digit : goal.returns-then-not-is_ascii_digit
returns-then-not-is_ascii_digit c =
    sym (none_of_letter _ _ c.loop-letter-test.true (sym c.is_ascii_digit.ensures.value ∙ c.if-not-is_ascii_digit.true) c.loop-letter.invariant.0)

pub overflow_mul-n : goal.overflow_mul-n
overflow_mul-n c = let e = c.loop-letter.invariant.1 in omega (arith, capped_few)

pub overflow_add-n : goal.overflow_add-n
overflow_add-n c = let e = c.loop-letter.invariant.1 in let d = c.from.ensures in omega (arith, capped_few)

pub loop-letter-preserved : goal.loop-letter-preserved
loop-letter-preserved c =
    let l = c.loop-letter in
    let w = c.args.word.now in
    let digit = sym c.is_ascii_digit.ensures.value ∙ c.if-not-is_ascii_digit.false in
    let value = value_next w l.letter-index l.n c.loop-letter-test.true digit l.invariant.1 in
    rw add-one (goes_on w l.letter-index c.loop-letter-test.true digit l.invariant.0, rw (c.min-n.ensures, c.from.ensures) value)

pub returns : goal.returns
returns c =
    let l = c.loop-letter in
    let w = c.args.word.now in
    let e : l.letter-index ≡ length w = omega arith in
    let value = rw (e, take_all (length w) w (omega arith)) at l.invariant.1 in
    rw value (sym (some_of_digits w (sym c.is_empty.ensures ∙ c.if-is_empty.false) (rw e at l.invariant.0)))
