use Rattle.std.proofs.Common.{◌≡◌, true, false, refl}
use Rattle.std.specs.Prelude.{is_some}
use Rattle.mc_base.specs.declared.plain.Kind.TheVariants.{Ptr}
use Rattle.mc_state.specs.Known.{is_false}
use Rattle.mc_rules_steps.specs.Judges.{operand_nodes}
use Rattle.mc_rules_steps.specs.Operands.{with_operand}
use Rattle.mc_apply_steps.proofs.InstructionsLemmas.Knowing.{each_fits, known_alike, some_of, vars_stay}
use Rattle.mc_apply_steps.proofs.InstructionsLemmas.Made.{asserted, none_of, not_asserted}
use Rattle.mc_apply_steps.proofs.instructions.shapes.assert_shape.Goals as goal

pub returns-then-not-are_known : goal.returns-then-not-are_known
returns-then-not-are_known c = λ know tells.
    let s = c.args.s in
    let os = c.args.os.now in
    let t = with_operand s c.args.o in
    let no : is_false know ≡ false = let told = c.is_false.ensures.told know tells in cc in
    let alike = known_alike os s t (vars_stay s c.args.o) in
    let unknown : is_some (operand_nodes t os) ≡ false = let told = c.are_known.ensures in let not_all = c.if-not-are_known.true in cc in
    (not_asserted know s no os c.args.q c.args.pred c.args.p c.args.o _ c.in-Some.ensures.here.0 (none_of (operand_nodes t os) unknown), refl)

pub side-requires : goal.side-requires
side-requires c =
    let fits = c.requires in
    let s = c.args.s in
    let os = c.args.os.now in
    let one = c.in-Some.ensures.here.0 in
    let alike = known_alike os s (with_operand s c.args.o) (vars_stay s c.args.o) in
    record {
      known = rw one;
      args = let told = c.are_known.ensures in let all = c.if-not-are_known.false in cc;
      fits = (fits.vars, (record { kind = Ptr; fits = fits.kinds.0 }, each_fits fits.vars os fits.kinds.1.def.params fits.kinds.1.args));
    }

pub returns-in-Ok : goal.returns-in-Ok
returns-in-Ok c = λ know tells.
    let s = c.args.s in
    let os = c.args.os.now in
    let t = with_operand s c.args.o in
    let no : is_false know ≡ false = let told = c.is_false.ensures.told know tells in cc in
    let one = c.in-Some.ensures.here.0 in
    let alike = known_alike os s t (vars_stay s c.args.o) in
    let known : is_some (operand_nodes t os) ≡ true = let told = c.are_known.ensures in let all = c.if-not-are_known.false in cc in
    let args = some_of (operand_nodes t os) known in
    let gives = asserted know s no os c.args.q c.args.pred c.args.p c.args.o _ args.0 one args.1 in
    let branch = c.in-Ok.ensures _ args.0 one args.1 in
    let next = c.next_at.ensures in
    cc

pub returns-in-Err : goal.returns-in-Err
returns-in-Err c = λ know tells.
    let s = c.args.s in
    let os = c.args.os.now in
    let t = with_operand s c.args.o in
    let no : is_false know ≡ false = let told = c.is_false.ensures.told know tells in cc in
    let one = c.in-Some.ensures.here.0 in
    let alike = known_alike os s t (vars_stay s c.args.o) in
    let known : is_some (operand_nodes t os) ≡ true = let told = c.are_known.ensures in let all = c.if-not-are_known.false in cc in
    let args = some_of (operand_nodes t os) known in
    rw (asserted know s no os c.args.q c.args.pred c.args.p c.args.o _ args.0 one args.1)
