-- Edges of a state come, go and change with their parts of the heap.
use Rattle.mc_base.specs.declared.ids.EdgeId.{EdgeId}
use Rattle.mc_base.specs.declared.ids.NodeId.{NodeId}
use Rattle.mc_base.specs.declared.plain.Kind.{Kind}
use Rattle.mc_base.specs.Kinds.{InKind}
use Rattle.mc_state.specs.declared.graph.edge.Edge.{Edge}
use Rattle.mc_state.specs.Graph.Graph.{numbered}
use Rattle.mc_state.specs.Stands.{EdgeMeets}
use Rattle.mc_state.specs.Laws.{EdgesAreTaken, EdgesArePut, EdgeIsReplaced, AtomsAreDropped, EdgesAreDropped, NodeIsDropped}
use Rattle.mc_state.proofs.Nodes.{all_without_node}
use Rattle.mc_state.proofs.Parts.{SplitLaws, star_append, star_numbered, star_take, star_put, star_picks}

module _ (laws : SplitLaws) where
  pub edges_are_taken : EdgesAreTaken
  edges_are_taken defs v values region s ids picked left picks st =
      let p = st.parts in
      let taken = star_picks laws (EdgeMeets defs v) ids s.graph.edges picked left p.held picks p.each in
      let out = laws.right region p.held p.rest taken.0 taken.1 p.split taken.2 in (
        taken.0,
        out.0,
        out.2,
        taken.3,
        record {
          null = st.null;
          kinds = st.kinds;
          atoms = st.atoms;
          vars = st.vars;
          parts = record { held = taken.1; rest = p.rest; split = out.1; each = taken.4; alone = p.alone };
        },
      )

  pub edges_are_put : EdgesArePut
  edges_are_put defs v values region part others s new split each st =
      let p = st.parts in
      let both = laws.left region part others p.held p.rest split p.split in
      record {
        null = st.null;
        kinds = st.kinds;
        atoms = st.atoms;
        vars = st.vars;
        parts = record {
          held = both.0;
          rest = p.rest;
          split = both.2;
          each = star_append laws (λ (e : EdgeId × Edge). EdgeMeets defs v e.1) s.graph.edges (numbered s.graph.next new) both.0 p.held part (laws.commutes both.0 part p.held both.1) p.each
              (star_numbered (EdgeMeets defs v) s.graph.next new part each);
          alone = p.alone;
        };
      }

  pub edge_is_replaced : EdgeIsReplaced
  edge_is_replaced defs v values before after s id old new there st =
      let p = st.parts in
      let taken = star_take laws (EdgeMeets defs v) s.graph.edges id old p.held there p.each in
      let out = laws.right before p.held p.rest taken.0 taken.1 p.split taken.2 in (
        taken.0,
        out.0,
        out.2,
        taken.3,
        λ changed split meets.
            let both = laws.left after changed out.0 taken.1 p.rest split out.1 in
            record {
              null = st.null;
              kinds = st.kinds;
              atoms = st.atoms;
              vars = st.vars;
              parts = record {
                held = both.0;
                rest = p.rest;
                split = both.2;
                each = star_put laws (EdgeMeets defs v) s.graph.edges id old new both.0 changed taken.1 there both.1 meets taken.4;
                alone = p.alone;
              };
            },
      )

  -- the part of edges that are dropped is free
  pub edges_are_dropped : EdgesAreDropped
  edges_are_dropped defs v values region s ids picked left picks st =
      let p = st.parts in
      let taken = star_picks laws (EdgeMeets defs v) ids s.graph.edges picked left p.held picks p.each in
      let turned = laws.commutes p.held taken.0 taken.1 taken.2 in
      let out = laws.right region p.held p.rest taken.1 taken.0 p.split turned in
      record { null = st.null; kinds = st.kinds; atoms = st.atoms; vars = st.vars; parts = record { held = taken.1; rest = out.0; split = out.2; each = taken.4; alone = λ whole. absurd (cc whole) } }

pub atoms_are_dropped : AtomsAreDropped
atoms_are_dropped defs v values region s atoms true_atoms st = record { null = st.null; kinds = st.kinds; atoms = true_atoms; vars = st.vars; parts = st.parts }

pub node_is_dropped : NodeIsDropped
node_is_dropped defs v values region s n st =
    record { null = st.null; kinds = all_without_node (λ (k : NodeId × Kind). InKind k.1 (v k.0.0)) s.kinds n st.kinds; atoms = st.atoms; vars = st.vars; parts = st.parts }
