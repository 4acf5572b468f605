use Rattle.mc_c_syntax.specs.Ast.Views.{unit_of}
use Rattle.mc_c_check.specs.declared.typed.Typed.{Typed}
use Rattle.mc_load.specs.Inputs.Texts.{IsWellFormed}
use Rattle.std.proofs.Common.{◌≡◌}
use Rattle.mc_load.proofs.InputsLemmas.Pairs.{pair_of, same_start, well_formed_pair}
use Rattle.mc_load.proofs.InputsLemmas.Picking.{at_err, at_ok, only_ok}
use Rattle.mc_load.proofs.inputs.pairs.read_pair.Goals as goal

pub returns-in-Err-clause-read : goal.returns-in-Err-clause-read
returns-in-Err-clause-read c = at_err c.in_ok-cause.field-0 c.in-Err.cause _ _ c.in-Err.is c.in_ok-cause.ensures.read

pub returns-in_ok-pair-in-Ok-clause-read : goal.returns-in_ok-pair-in-Ok-clause-read
returns-in_ok-pair-in-Ok-clause-read c =
    let typed = c.in-Ok.typed in
    let program = at_ok c.in_ok-cause.field-0 typed _ _ c.in-Ok.is c.in_ok-cause.ensures.read in
    pair_of c.args.start.now c.args.program.now c.args.definitions.now typed c.in_ok-pair-in-Ok.pair program c.in_ok-pair-in-Ok.ensures

pub returns-in_ok-pair-in-Ok-clause-well_formed : goal.returns-in_ok-pair-in-Ok-clause-well_formed
returns-in_ok-pair-in-Ok-clause-well_formed c =
    let typed = c.in-Ok.typed in
    let start = c.args.start.now in
    let sound = only_ok c.in_ok-cause.field-0 typed (λ (t : Typed). IsWellFormed start (unit_of t.unit)) c.in-Ok.is c.in_ok-cause.ensures.well_formed in
    well_formed_pair start c.args.program.now c.args.definitions.now typed c.in_ok-pair-in-Ok.pair sound c.in_ok-pair-in-Ok.ensures

pub returns-in_ok-pair-in-Ok-clause-start : goal.returns-in_ok-pair-in-Ok-clause-start
returns-in_ok-pair-in-Ok-clause-start c =
    let typed = c.in-Ok.typed in
    let start = c.args.start.now in
    let same = only_ok c.in_ok-cause.field-0 typed (λ (t : Typed). t.entry ≡ start) c.in-Ok.is c.in_ok-cause.ensures.start in
    same_start start c.args.program.now c.args.definitions.now typed c.in_ok-pair-in-Ok.pair same c.in_ok-pair-in-Ok.ensures
