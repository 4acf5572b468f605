use Rattle.std.proofs.Common.{◌≡◌, ◌≤◌, take}
use Rattle.std.specs.Str.Parse.{digits_value, AllDigits}
use Rattle.mc_base.proofs.text.number.numeral_value.Given as goal

abbrev pub invariant-loop-byte : goal.invariant-loop-byte
invariant-loop-byte l = record {
  value : l.value ≡ digits_value l.radix (take l.byte-index l.digits);
  digits : AllDigits l.radix (take l.byte-index l.digits);
  small : l.value ≤ 2147483647;
}
