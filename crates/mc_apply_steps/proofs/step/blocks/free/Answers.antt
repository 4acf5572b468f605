use Rattle.std.proofs.Common.{◌≡◌, ◌∙◌, Some, false, ap, sym, subst}
use Rattle.std.specs.Prelude.{option_map}
use Rattle.std.specs.List.{find}
use Rattle.mc_base.specs.declared.ids.EdgeId.{EdgeId}
use Rattle.mc_base.specs.declared.ids.NodeId.{NodeId}
use Rattle.mc_base.specs.declared.plain.Kind.TheVariants.{Ptr}
use Rattle.mc_state.specs.declared.graph.edge.Edge.{Edge}
use Rattle.mc_state.specs.Graph.Edges.{start_of}
use Rattle.mc_state.specs.Graph.Graph.{block_starts, without}
use Rattle.mc_state.specs.Known.{is_false}
use Rattle.mc_state.specs.State.{with_atoms, with_only_edges}
use Rattle.mc_rules_steps.specs.Judges.{is_block_at}
use Rattle.mc_rules_steps.specs.Steps.{freed_atoms}
use Rattle.mc_apply_steps.specs.Step.Values.{value_node, with_value}
use Rattle.mc_apply_steps.proofs.StepLemmas.Answered.{freed}
use Rattle.mc_apply_steps.proofs.StepLemmas.There.{found, freed_fits, value_fits}
use Rattle.mc_apply_steps.proofs.step.blocks.free.Goals as goal

pub free_in-requires : goal.free_in-requires
free_in-requires c =
    let fits = c.requires in
    let s = c.args.s in
    let v = c.in-Some.value in
    let read = c.in-Some.ensures in
    let one = value_fits c.operands_fit.ensures.one fits.defs fits.vars fits.structs.list s Ptr c.args.from v fits.made fits.kinds read.here in
    record {
      put = read.fits fits.vars Ptr fits.kinds;
      freed = freed_fits c.blocks_are_there.ensures.freed fits.defs fits.vars fits.structs.list s (with_value s v) c.in-Some-block.id c.in-Some-start_with.at one.made one.edges_stay
          c.in-Some-start_with.ensures;
    }

pub returns-in-Ok : goal.returns-in-Ok
returns-in-Ok c = λ know tells.
    let s = c.args.s in
    let v = c.in-Some.value in
    let no : is_false know ≡ false = let told = c.is_false.ensures.told know tells in cc in
    let id = c.in-Some-block.id in
    let node = c.node_of.ensures in
    let is = subst (λ (n : NodeId). Some id ≡ option_map (λ (e : EdgeId × Edge). e.0) (find (is_block_at know n) s.graph.edges)) node (c.in-Some-block.ensures know tells) in
    let f = found c.blocks_are_there.ensures.edges s (is_block_at know (value_node s v)) id c.requires.made.bounded is in
    let gives = freed know s no c.args.from c.args.q v (id, f.edge) c.in-Some.ensures.here f.found in
    let start : Some c.in-Some-start_with.at ≡ Some (start_of f.edge) = c.in-Some-start_with.ensures ∙ ap (option_map start_of) f.there in
    let own : c.in-Some-start_with.at ≡ start_of f.edge = cc in
    let t = with_value s v in
    let left = without t.graph.edges id in
    let new = c.in-Ok.ensures ∙ ap (λ (n : NodeId). with_atoms (with_only_edges t left) (freed_atoms n (block_starts left))) own in
    let moved = c.moved_to.ensures in
    cc
