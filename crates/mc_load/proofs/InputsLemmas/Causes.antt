-- A call that did not fail left the count of faults as it was.
use Rattle.std.proofs.Common.{◌≡◌, ℕ, arith}
use Rattle.std.specs.Prelude.{Ok}
use Rattle.std.proofs.lemmas.Bool.{cases_lt}
use Rattle.std.proofs.Common.{inl, inr}
use Rattle.mc_outside.specs.Outside.{HasCause}

pub still : {T : Type 0} (x : T) (before now : ℕ) → HasCause before now (Ok x) → now ≡ before
still x before now h = elim (cases_lt before now) [
  | inl lt ↦ let e = h.quiet lt in cc
  | inr le ↦ let later = h.later in omega arith
]
