use Rattle.std.proofs.Common.{◌≡◌, ◌+◌, ◌*◌, ◌∙◌, ap, take, arith}
use Rattle.std.specs.Char.{digit_value}
use Rattle.std.specs.Str.Parse.{digits_value}
use Rattle.mc_base.proofs.TextLemmas.Numerals.{digit_at, front_value, next_value, all_digits_next}
use Rattle.mc_base.proofs.text.number.numeral_value.Goals as goal
use Rattle.mc_base.proofs.text.number.numeral_value.Goals.{After-from-in-loop-byte-2}

-- the value with one more digit
value_is : (c : After-from-in-loop-byte-2) → c.loop-byte.value * c.from-in-loop-byte.result + c.from-in-loop-byte-2.result ≡ digits_value c.args.radix (take (c.loop-byte.byte-index + 1) c.args.digits.now)
value_is c =
    rw c.from-in-loop-byte.ensures
    (next_value c.args.radix c.args.digits.now c.loop-byte.byte-index _ _ (record {
      within = omega arith;
      value_is = c.loop-byte.invariant.value;
      digit_is = c.from-in-loop-byte-2.ensures ∙ c.in_ok-digit.ensures.value.1 ∙ ap digit_value c.from.ensures;
    }))

pub returns-in_err-digit : goal.returns-in_err-digit
returns-in_err-digit c =
    rw c.from_residual.ensures
    (λ n. c.in_err-digit.ensures.value (let small = digit_at c.args.radix c.args.digits.now c.loop-byte.byte-index n.0.1 (omega arith) in rw c.from.ensures small))

pub returns-then-value-from : goal.returns-then-value-from
returns-then-value-from c =
    λ n.
    let is = value_is (goal.at.returns-then-value-from c).After-from-in-loop-byte-2 in
    let front = front_value c.args.radix c.args.digits.now (c.loop-byte.byte-index + 1) (omega arith) in
    omega (arith, n.1)

pub loop-byte-preserved : goal.loop-byte-preserved
loop-byte-preserved c = record {
  value = value_is (goal.at.loop-byte-preserved c).After-from-in-loop-byte-2;
  digits = all_digits_next c.args.radix c.args.digits.now c.loop-byte.byte-index c.from.result (omega arith) c.from.ensures c.loop-byte.invariant.digits c.in_ok-digit.ensures.value.0;
  small = omega arith;
}
