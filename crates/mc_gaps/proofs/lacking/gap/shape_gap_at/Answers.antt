use Rattle.std.proofs.Common.{sym}
use Rattle.mc_state.specs.Facts.{IsFalse}
use Rattle.mc_rules_steps.proofs.Moving.{fits_at}
use Rattle.mc_gaps.proofs.LackingLemmas.Causes.{none_at_false, none_at_no_point, shape_at}
use Rattle.mc_gaps.proofs.lacking.gap.shape_gap_at.Goals as goal

pub returns-then-is_false : goal.returns-then-is_false
returns-then-is_false c = none_at_false c.args.flow.now c.args.defs.now c.args.p c.args.s.now (c.is_false.ensures.derived.0 c.if-is_false.true)

pub shape_gap-requires : goal.shape_gap-requires
shape_gap-requires c =
    record {
      sound = λ no. let told = c.is_false.ensures.derived.1 no in let not_false = c.if-is_false.false in cc;
      fits = record {
        vars = c.args.flow.now.vars;
        structs = c.args.flow.now.structs;
        kinds = fits_at c.args.flow.now c.args.defs.now c.args.p c.in-Some.code.now c.requires (sym c.in-Some.ensures);
      };
    }

pub returns-in_ok-found-in-Some : goal.returns-in_ok-found-in-Some
returns-in_ok-found-in-Some c =
    let sound : IsFalse c.args.s.now → ⊥ = λ no. let told = c.is_false.ensures.derived.1 no in let not_false = c.if-is_false.false in cc in
    shape_at c.args.flow.now c.args.defs.now c.args.p c.args.s.now sound c.in-Some.code.now (sym c.in-Some.ensures) c.in_ok-found-in-Some.found c.in_ok-found-in-Some.ensures

pub returns-in-None : goal.returns-in-None
returns-in-None c = none_at_no_point c.args.flow.now c.args.defs.now c.args.p c.args.s.now (sym c.in-None.ensures)
