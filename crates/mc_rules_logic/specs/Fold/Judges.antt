-- What the rules that fold edges give, or the first premise that is unmet.
use Rattle.std.specs.Prelude.{◌==◌, ◌&&◌, not, ℕ, nat_lt, Bool, true, false, List, [], ◌∷◌, Option, Some, None, Ok, is_some, length, map, take, drop, remove, slice_get, if◌then◌else◌}
use Rattle.std.specs.List.{list_all}
use Rattle.mc_base.specs.declared.ids.EdgeId.{EdgeId}
use Rattle.mc_base.specs.declared.ids.NodeId.{NodeId}
use Rattle.mc_base.specs.declared.ids.PredId.{PredId}
use Rattle.mc_base.specs.declared.ids.StructId.{StructId}
use Rattle.mc_base.specs.declared.plain.Kind.TheVariants.{Ptr}
use Rattle.mc_flow.specs.declared.defs.rules.Call.{Call}
use Rattle.mc_flow.specs.declared.defs.rules.Def.{Def}
use Rattle.mc_flow.specs.declared.defs.rules.Rule.{Rule}
use Rattle.mc_flow.specs.Defs.Instances.{node_of, atom_of}
use Rattle.mc_state.specs.declared.graph.edge.Edge.{Edge}
use Rattle.mc_state.specs.declared.graph.edge.Edge.TheVariants.{Block, Ind, Seg}
use Rattle.mc_state.specs.Graph.Graph.{Edges, edge_with}
use Rattle.mc_pure.specs.Pure.{Kinds}
use Rattle.mc_state.specs.declared.goal.Goal.{Goal}
use Rattle.mc_state.specs.declared.line.FoldInd.{FoldInd}
use Rattle.mc_state.specs.declared.line.FoldSeg.{FoldSeg}
use Rattle.mc_state.specs.State.{State, with_edges}
use Rattle.mc_state.specs.Premises.{Judged, need, have, then_give}
use Rattle.mc_state.specs.Lists.{all_both, on_some}
use Rattle.mc_state.specs.Known.{Test, is_false, equal, all_equal, has_kind}
use Rattle.mc_state.specs.Named.{others, seg_of, ind_of, other_edge, are_named, named_ids}
use Rattle.mc_rules_logic.specs.Fold.Folded.{as_ind, folded}

-- the state with one edge in place of those that are named
abbrev pub with_fold : State → List EdgeId → Edge → State
with_fold s ids new = folded s (others s.graph.edges ids) new

-- ---- a rule's block and calls

-- a block is named exactly where the rule has one
abbrev pub block_fits : Option EdgeId → Option StructId → Bool
block_fits block shape = if is_some block then is_some shape else not (is_some shape)

-- numbers and kinds fit the rule, of whose calls those count that are listed
abbrev pub fits_rule : Kinds → Def → Rule → List Call → List NodeId → Option EdgeId → List EdgeId → Bool
fits_rule kinds def by calls names block ids =
    nat_lt (length def.params) (length names) && all_both (has_kind kinds) by.names names && length calls
    == length ids && block_fits block by.block

-- the name's node is equal
abbrev pub is_named : Test → List NodeId → ℕ → NodeId → Bool
is_named know names name n = equal know (node_of names name) n

-- the name's node is equal to what is known
abbrev pub is_named_too : Test → List NodeId → ℕ → Option NodeId → Bool
is_named_too know names name field = on_some (is_named know names name) field

-- the edge is the rule's block
abbrev pub is_body : Test → List NodeId → StructId → List ℕ → Edge → Bool
is_body know names shape contents (Block at own fields) =
    own.0 == shape.0 && is_named know names 0 at && all_both (is_named_too know names) contents fields
is_body know names shape contents (Ind at pred args) = false
is_body know names shape contents (Seg at args pred «end» ends) = false

-- the named block, if the rule has one, is the rule's
abbrev pub body_fits : Test → Edges → List NodeId → Option StructId → List ℕ → Option EdgeId → Bool
body_fits know es names None contents block = true
body_fits know es names (Some shape) contents None = false
body_fits know es names (Some shape) contents (Some id) = on_some (is_body know names shape contents) (edge_with es id)

-- the edge is the call
abbrev pub is_call : Test → List NodeId → Call → Edge → Bool
is_call know names call (Ind at pred args) =
    pred.0 == call.pred.0 && is_named know names call.at at && all_both (is_named know names) call.args args
is_call know names call (Block at own fields) = false
is_call know names call (Seg at args pred «end» ends) = false

-- the edge with an id is the call
abbrev pub is_call_at : Test → Edges → List NodeId → Call → EdgeId → Bool
is_call_at know es names call id = on_some (is_call know names call) (edge_with es id)

-- each atom of the rule is known
abbrev pub knows_rule : Test → List NodeId → Rule → Bool
knows_rule know names by = list_all (λ a. know (atom_of names a)) by.atoms

-- the premises that L3 and L4 share: premise 4 also asks the rule for what stays open, and edges stand for the calls
-- that are listed; given are the predicate's definition and what stays open
abbrev pub matching :
    {Open : Type 0} → Test → List Def → FoldInd → (Rule → Option Open) → (Rule → List Call) → State → Judged (Def × Open)
matching know defs fold stays calls s =
    need 2 (not (is_false know))
    (need 3 (are_named s.graph.edges fold.block fold.edges)
    (have 4 (slice_get defs fold.pred.0) (λ def.
    have 4 (slice_get def.rules fold.rule) (λ by.
    have 4 (stays by) (λ left.
    need 4 (fits_rule s.kinds def by (calls by) fold.names fold.block fold.edges)
    (need 5 (body_fits know s.graph.edges fold.names by.block by.contents fold.block)
    (need 6 (all_both (is_call_at know s.graph.edges fold.names) (calls by) fold.edges)
    (need 7 (knows_rule know fold.names by)
    (Ok (def, left))))))))))

-- the nodes of the parameters
abbrev pub arguments : Def → List NodeId → List NodeId
arguments def names = take (length def.params) (drop 1 names)

-- nothing of a rule stays open
abbrev pub nothing : Rule → Option (Unit {0})
nothing by = Some tt

-- L3: a rule's block and calls become an Ind
abbrev pub folding_ind : Test → List Def → FoldInd → State → Judged (List State)
folding_ind know defs fold s =
    then_give
    (λ m. with_fold s (named_ids fold.block fold.edges) (Ind (node_of fold.names 0) fold.pred (arguments m.0 fold.names)) ∷ [])
    (matching know defs fold nothing (λ by. by.calls) s)

-- the call, if it is of the predicate
abbrev pub own_call : PredId → Option Call → Option Call
own_call pred None = None
own_call pred (Some call) = if call.pred.0 == pred.0 then Some call else None

-- L4: a rule's block and calls without one of the predicate become a Seg to that call
abbrev pub folding_seg : Test → List Def → FoldSeg → State → Judged (List State)
folding_seg know defs fold s =
    then_give
    (λ m.
    with_fold s (named_ids (Some fold.block) fold.edges)
    (Seg (node_of fold.names 0) (arguments m.0 fold.names) fold.pred (node_of fold.names m.1.at)
    (map (node_of fold.names) m.1.args)) ∷ [])
    (matching know defs (as_ind fold) (λ by. own_call fold.pred (slice_get by.calls fold.call))
    (λ by. remove by.calls fold.call) s)

-- ---- segments

-- L5: a Seg and an Ind of its predicate at its end become an Ind
abbrev pub closing_seg : Test → EdgeId → EdgeId → State → Judged (List State)
closing_seg know first second s =
    need 2 (not (is_false know))
    (have 3 (seg_of (edge_with s.graph.edges first)) (λ g.
    have 4 (ind_of g.pred (other_edge s.graph.edges first second)) (λ e.
    need 5 (equal know g.stop e.at)
    (need 6 (all_equal know g.ends e.args)
    (Ok (with_fold s (first ∷ second ∷ []) (Ind g.at g.pred g.args) ∷ []))))))

-- L6: a Seg and another of its predicate at its end become one
abbrev pub joining_segs : Test → EdgeId → EdgeId → State → Judged (List State)
joining_segs know first second s =
    need 2 (not (is_false know))
    (have 3 (seg_of (edge_with s.graph.edges first)) (λ g.
    have 4 (seg_of (other_edge s.graph.edges first second)) (λ e.
    need 4 (e.pred.0 == g.pred.0)
    (need 5 (equal know g.stop e.at)
    (need 6 (all_equal know g.ends e.args)
    (Ok (with_fold s (first ∷ second ∷ []) (Seg g.at g.args g.pred e.stop e.ends) ∷ [])))))))

-- L7: a Seg from a node to an equal one takes no memory
abbrev pub making_seg : Test → List Def → PredId → NodeId → List NodeId → NodeId → List NodeId → State → Judged (List State)
making_seg know defs pred at args stop ends s =
    need 2 (not (is_false know))
    (have 3 (slice_get defs pred.0) (λ def.
    need 3 (has_kind s.kinds Ptr at && all_both (has_kind s.kinds) def.params args)
    (need 3 (has_kind s.kinds Ptr stop && all_both (has_kind s.kinds) def.params ends)
    (need 4 (equal know at stop)
    (need 5 (all_equal know args ends)
    (Ok (with_edges s (Seg at args pred stop ends ∷ []) ∷ [])))))))

-- ---- goals

-- L14: an Ind of the goal's predicate meets the goal, and the branch ends
abbrev pub meeting_goal : Test → Goal → EdgeId → State → Judged (Unit {0})
meeting_goal know goal edge s =
    need 2 (not (is_false know))
    (have 3 (ind_of goal.pred (edge_with s.graph.edges edge)) (λ e.
    need 4 (equal know goal.at e.at && all_equal know goal.args e.args)
    (Ok tt)))
