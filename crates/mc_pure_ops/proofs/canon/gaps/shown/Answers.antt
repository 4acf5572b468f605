use Rattle.std.proofs.Common.{◌≡◌, ◌∙◌, sym, refl}
use Rattle.mc_pure_ops.proofs.canon.gaps.shown.Goals as goal

pub returns-then-not-is_turned : goal.returns-then-not-is_turned
returns-then-not-is_turned c = λ f s. c.is_turned.ensures.no c.if-not-is_turned.true s.turned

pub returns-then-is_plain : goal.returns-then-is_plain
returns-then-is_plain c = λ f s. s.new (c.if-is_plain.ensures.yes refl)

pub returns : goal.returns
returns c = (record { is = c.atom_of.ensures; turned = c.is_turned.ensures.yes c.if-not-is_turned.false; new = c.if-is_plain.ensures.no refl }, λ f s. s.is ∙ sym c.atom_of.ensures)
