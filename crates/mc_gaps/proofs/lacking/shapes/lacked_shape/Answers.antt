use Rattle.std.proofs.Common.{◌≡◌, ◌∷◌, List, true, false, Option, Some, sym, subst}
use Rattle.std.specs.Prelude.{◌↔◌}
use Rattle.mc_base.specs.declared.ids.NodeId.{NodeId}
use Rattle.mc_state.specs.Facts.{IsFalse}
use Rattle.mc_state.specs.State.{State}
use Rattle.mc_rules_steps.specs.Unmet.{AreKnown, LacksShape}
use Rattle.mc_apply_steps.specs.Instructions.Arguments.{all_known}
use Rattle.mc_apply_steps.proofs.InstructionsLemmas.Knowing.{each_fits}
use Rattle.mc_gaps.specs.Lacking.Lacking.{HasNoCover}
use Rattle.mc_gaps.proofs.LackingLemmas.Missing.{found_is, unknown}
use Rattle.mc_gaps.proofs.lacking.shapes.lacked_shape.Goals as goal

pub returns-then-not-all_are_known : goal.returns-then-not-all_are_known
returns-then-not-all_are_known c =
    let no : all_known c.args.s.now (c.args.o ∷ c.args.os.now) ≡ false = let told = c.all_are_known.ensures in let not_all = c.if-not-all_are_known.true in cc in
    unknown c.args.defs.now c.args.s.now c.args.pred c.args.o c.args.os.now no

pub ask-requires-clause-fits : goal.ask-requires-clause-fits
ask-requires-clause-fits c = let fits = c.requires.fits in (fits.vars, each_fits fits.vars (c.args.o ∷ c.args.os.now) fits.kinds fits.fit)

pub has_no_cover-requires : goal.has_no_cover-requires
has_no_cover-requires c =
    let fits = c.requires.fits in
    record {
      sound = λ no.
          c.requires.sound (c.operands_tell_nothing.ensures.sound fits.vars (c.args.o ∷ c.args.os.now) fits.kinds c.args.s.now c.is_bounded.ensures.bounded fits.fit (subst IsFalse c.in_ok-asked.ensures.state no));
    }

pub returns : goal.returns
returns c = λ m.
    let s = c.args.s.now in
    let defs = c.args.defs.now in
    let pred = c.args.pred in
    let o = c.args.o in
    let os = c.args.os.now in
    let n = c.in_ok-asked.asked.at in
    let args = c.in_ok-asked.asked.args in
    let none = c.in_ok-none.none in
    let known : all_known s (o ∷ os) ≡ true = let told = c.all_are_known.ensures in let all = c.if-not-all_are_known.false in cc in
    let own : c.as_slice.result.now ≡ args = c.as_slice.ensures in
    let here = subst (λ (ns : List NodeId). (none ≡ true) ↔ HasNoCover defs c.in_ok-asked.asked.state pred n ns) own c.in_ok-none.ensures in
    let told = subst (λ (t : State). (none ≡ true) ↔ HasNoCover defs t pred n args) c.in_ok-asked.ensures.state here in
    subst (λ (x : Option NodeId). (x ≡ Some m) ↔ (AreKnown s (o ∷ os) × LacksShape defs s pred o os pred m)) (sym c.node_if.ensures)
    (found_is defs s pred o os n args c.in_ok-asked.ensures.at c.in_ok-asked.ensures.args none told known m)
