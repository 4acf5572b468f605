use Rattle.std.proofs.Common.{◌≡◌, true, false, refl}
use Rattle.std.specs.Prelude.{is_some}
use Rattle.mc_state.specs.Known.{is_false}
use Rattle.mc_rules_steps.specs.Judges.{operand_nodes}
use Rattle.mc_rules_steps.specs.Operands.{with_operands}
use Rattle.mc_apply_steps.proofs.InstructionsLemmas.Knowing.{are_nodes, each_fits, known_alike, some_of}
use Rattle.mc_apply_steps.proofs.InstructionsLemmas.Made.{assumed, none_of, not_assumed}
use Rattle.mc_apply_steps.proofs.instructions.shapes.assume_shape.Goals as goal

pub returns-then-not-are_known : goal.returns-then-not-are_known
returns-then-not-are_known c = λ know tells.
    let s = c.args.s in
    let no : is_false know ≡ false = let told = c.is_false.ensures.told know tells in cc in
    let alike = known_alike c.args.os.now s s refl in
    let unknown : is_some (operand_nodes s c.args.os.now) ≡ false = let told = c.are_known.ensures in let not_all = c.if-not-are_known.true in cc in
    (not_assumed know s no c.args.os.now c.args.q c.args.pred c.args.x (none_of (operand_nodes s c.args.os.now) unknown), refl)

pub assume_in-requires : goal.assume_in-requires
assume_in-requires c =
    let fits = c.requires in
    let s = c.args.s in
    let os = c.args.os.now in
    let alike = known_alike os s s refl in
    let known : is_some (operand_nodes s os) ≡ true = let told = c.are_known.ensures in let all = c.if-not-are_known.false in cc in
    let params = fits.kinds.1.def.params in
    record {
      known = known;
      fits = (fits.vars, each_fits fits.vars os params fits.kinds.1.args);
      there = λ args is.
          are_nodes (with_operands s os).kinds params args (c.operands_fit.ensures.many fits.defs fits.vars fits.structs.list os params s args fits.made fits.kinds.1.args is).have';
    }

pub returns-in-Ok : goal.returns-in-Ok
returns-in-Ok c = λ know tells.
    let s = c.args.s in
    let os = c.args.os.now in
    let no : is_false know ≡ false = let told = c.is_false.ensures.told know tells in cc in
    let alike = known_alike os s s refl in
    let known : is_some (operand_nodes s os) ≡ true = let told = c.are_known.ensures in let all = c.if-not-are_known.false in cc in
    let args = some_of (operand_nodes s os) known in
    let gives = assumed know s no os c.args.q c.args.pred c.args.x args.0 args.1 in
    let new = c.in-Ok.ensures args.0 args.1 in
    let moved = c.moved_to.ensures in
    cc

pub returns-in-Err : goal.returns-in-Err
returns-in-Err c = λ know tells.
    let s = c.args.s in
    let os = c.args.os.now in
    let no : is_false know ≡ false = let told = c.is_false.ensures.told know tells in cc in
    let alike = known_alike os s s refl in
    let known : is_some (operand_nodes s os) ≡ true = let told = c.are_known.ensures in let all = c.if-not-are_known.false in cc in
    let args = some_of (operand_nodes s os) known in
    rw (assumed know s no os c.args.q c.args.pred c.args.x args.0 args.1)
