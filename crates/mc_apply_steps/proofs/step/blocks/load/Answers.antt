use Rattle.std.proofs.Common.{◌≡◌, ◌∙◌, false, sym}
use Rattle.mc_base.specs.declared.ids.NodeId.{NodeId}
use Rattle.mc_pure.specs.Pure.{IsNode}
use Rattle.std.proofs.Common.{subst}
use Rattle.mc_state.specs.Known.{is_false}
use Rattle.mc_rules_steps.specs.Judges.{is_shaped_at}
use Rattle.mc_apply_steps.proofs.StepLemmas.Answered.{loaded}
use Rattle.mc_apply_steps.proofs.StepLemmas.There.{field_of, field_there, found}
use Rattle.mc_apply_steps.proofs.step.blocks.load.Goals as goal

pub set_var-requires : goal.set_var-requires
set_var-requires c n e =
    let there = field_there c.blocks_are_there.ensures.fields c.args.s c.in-Some-shaped_block.id c.args.f c.in-Some-known_field.node c.is_bounded.ensures.bounded c.in-Some-known_field.ensures in
    let same : c.in-Some-known_field.node ≡ n = cc e in
    subst (λ (n : NodeId). IsNode c.args.s.kinds n) same there

pub returns : goal.returns
returns c = λ know tells.
    let s = c.args.s in
    let no : is_false know ≡ false = let told = c.is_false.ensures.told know tells in cc in
    let n = c.in-Some.base in
    let id = c.in-Some-shaped_block.id in
    let f = found c.blocks_are_there.ensures.edges s (is_shaped_at know n c.args.shape) id c.is_bounded.ensures.bounded (c.in-Some-shaped_block.ensures know tells) in
    let field = field_of s.graph.edges id c.args.f c.in-Some-known_field.node f.edge f.there c.in-Some-known_field.ensures in
    let gives = loaded know s no c.args.x c.args.y c.args.shape c.args.f c.args.q n c.in-Some-known_field.node (id, f.edge) (sym c.in-Some.ensures) f.found field in
    let set = c.set_var.ensures in
    let moved = c.moved_to.ensures in
    cc
