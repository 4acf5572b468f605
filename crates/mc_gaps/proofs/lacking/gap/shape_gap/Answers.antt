use Rattle.std.proofs.Common.{◌≡◌, ◌∙◌, ◌∷◌, List, Option, Some, ap, sym, subst, rules}
use Rattle.std.specs.Prelude.{◌↔◌, option_map}
use Rattle.mc_base.specs.declared.plain.Kind.TheVariants.{Ptr}
use Rattle.mc_flow.specs.declared.instr.Instr.{Instr}
use Rattle.mc_flow.specs.declared.instr.Instr.TheVariants.{AssertShape}
use Rattle.mc_flow.specs.declared.instr.Operand.{Operand}
use Rattle.mc_flow.specs.Valid.{FitsKinds}
use Rattle.mc_rules_steps.specs.declared.gap.Gap.{Gap}
use Rattle.mc_rules_steps.specs.declared.gap.Gap.TheVariants.{NoShape}
use Rattle.mc_gaps.specs.Lacking.Lacking.{AreOperands, IsShapeGap}
use Rattle.mc_gaps.proofs.LackingLemmas.Causes.{no_shape, shape_told}
use Rattle.mc_gaps.proofs.lacking.gap.shape_gap.Goals as goal

pub lacked_shape-requires-clause-fits : goal.lacked_shape-requires-clause-fits
lacked_shape-requires-clause-fits c =
    let fits = c.requires.fits in
    let kinds = subst (FitsKinds fits.vars fits.structs c.args.defs.now) c.in-AssertShape.is fits.kinds in
    let own : c.as_slice.result.now ≡ c.in-AssertShape.os = search rules in
    subst (λ (os : List Operand). AreOperands (c.in-AssertShape.o ∷ os)) (sym own) (record { vars = fits.vars; kinds = Ptr ∷ kinds.1.def.params; fit = (kinds.0, kinds.1.args) })

pub returns-in_ok-node-in-AssertShape : goal.returns-in_ok-node-in-AssertShape
returns-in_ok-node-in-AssertShape c = λ gap.
    let s = c.args.s.now in
    let defs = c.args.defs.now in
    let pred = c.in-AssertShape.pred in
    let o = c.in-AssertShape.o in
    let os = c.as_slice.result.now in
    let q = c.in-AssertShape.field-3 in
    let node = c.in_ok-node-in-AssertShape.node in
    let own : os ≡ c.in-AssertShape.os = search rules in
    let is : AssertShape pred o os q ≡ c.args.code.now = ap (λ os. AssertShape pred o os q) own ∙ sym c.in-AssertShape.is in
    let told = shape_told defs s pred o os q node c.in_ok-node-in-AssertShape.ensures gap in
    subst (λ (x : Option Gap). (x ≡ Some gap) ↔ IsShapeGap defs c.args.code.now s gap) (sym c.shape_at.ensures)
    (subst (λ (i : Instr). (option_map (NoShape pred) node ≡ Some gap) ↔ IsShapeGap defs i s gap) is told)

pub returns-in_default : goal.returns-in_default
returns-in_default c = no_shape c.args.defs.now c.args.s.now c.args.code.now c.in_default.not-AssertShape
