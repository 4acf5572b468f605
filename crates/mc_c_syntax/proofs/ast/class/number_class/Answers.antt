use Rattle.std.proofs.Common.{◌<◌, arith}
use Rattle.mc_base.specs.Text.Numbers.{max_number}
use Rattle.mc_c_syntax.proofs.ast.class.number_class.Goals as goal

pub returns-in-Some : goal.returns-in-Some
returns-in-Some c =
    let h = c.in-Some.ensures in
    let t = c.as_slice-text.ensures in
    record { kind = c.requires; spelled = rw (← t) h.0; small = h.1 }

pub returns-in-None : goal.returns-in-None
returns-in-None c = (
  c.requires,
  λ n is. (
      let t = c.as_slice-text.ensures in
      let s = rw (← t) at is.spelled in
      let h : max_number < n = c.in-None.ensures n s in
      absurd (omega (arith, is.small))),
)
