-- What lines give at a branch, or the first premise that is unmet.
use Rattle.std.specs.Prelude.{◌==◌, ◌&&◌, ◌||◌, not, ℕ, suc, Bool, true, false, List, [], ◌∷◌, Option, Some, None, Ok, Err, is_some, length, map, option_map, slice_get, if◌then◌else◌}
use Rattle.std.specs.List.{list_all, list_any}
use Rattle.mc_base.specs.declared.ids.EdgeId.{EdgeId}
use Rattle.mc_base.specs.declared.ids.NodeId.{NodeId}
use Rattle.mc_base.specs.declared.ids.PointId.{PointId}
use Rattle.mc_base.specs.declared.plain.Kind.{Kind}
use Rattle.mc_base.specs.declared.plain.Atom.{Atom}
use Rattle.mc_base.specs.Atoms.{moved_atom}
use Rattle.mc_base.specs.Nodes.{moved}
use Rattle.mc_flow.specs.declared.defs.rules.Def.{Def}
use Rattle.mc_flow.specs.declared.graph.Flow.{Flow}
use Rattle.mc_state.specs.declared.graph.edge.Edge.{Edge}
use Rattle.mc_state.specs.declared.graph.edge.Edge.TheVariants.{Block, Ind, Seg}
use Rattle.mc_state.specs.Graph.Graph.{Edges, edge_with}
use Rattle.mc_pure.specs.Pure.{Kinds, kind_atom}
use Rattle.mc_state.specs.Known.{Test, is_false, equal, has_kind}
use Rattle.mc_state.specs.Lists.{all_both, on_some}
use Rattle.mc_state.specs.Named.{are_distinct}
use Rattle.mc_state.specs.Premises.{Judged, need, have, then_give}
use Rattle.mc_state.specs.declared.goal.Goal.{Goal}
use Rattle.mc_state.specs.declared.line.Form.{Form}
use Rattle.mc_state.specs.declared.line.Form.TheVariants.{Certificate, Chain}
use Rattle.mc_state.specs.declared.line.InstrRule.{InstrRule}
use Rattle.mc_lines.specs.declared.cert.line.Line.{Line}
use Rattle.mc_lines.specs.declared.cert.line.Line.TheVariants as line
use Rattle.mc_state.specs.State.{State}
use Rattle.mc_rules_logic.specs.Unfold.Judges.{unfolding_ind, unfolding_seg}
use Rattle.mc_rules_logic.specs.Back.Judges.{unfolding_back}
use Rattle.mc_rules_logic.specs.Fold.Judges.{folding_ind, folding_seg, closing_seg, joining_segs, making_seg, meeting_goal}
use Rattle.mc_rules_logic.specs.Fold.ChangeJudges.{naming_spare, merging_nodes, dropping_edge, forgetting_node}
use Rattle.mc_rules_steps.specs.declared.gap.Gap.{Gap}
use Rattle.mc_rules_steps.specs.Judges.{stepping}
use Rattle.mc_rules_steps.specs.Sums.{Ranges}
use Rattle.mc_kernel.specs.Branches.{Path, Setting, closes_by, path_of, with_state, merged_goal, states_at}
use Rattle.mc_kernel.specs.Instances.{accessed}
use Rattle.mc_kernel.specs.Jumps.{image_of}

-- what lines are judged by: what is entailed in a state, its least ranges, the list that is written where a node is
-- forgotten, and what the instruction at a point lacks
pub record Knowledge : Type 0 where
  pub know : State → Test
  pub range : Ranges
  pub left : State → NodeId → List Atom
  pub gap : PointId → State → Option Gap

-- ---- places

-- the branch is no side branch
abbrev pub is_plain : Path → Bool
is_plain b = not (is_some b.goal)

-- the point is a cut
abbrev pub is_cut : List PointId → PointId → Bool
is_cut cuts p = list_any (λ q. q.0 == p.0) cuts

-- an instruction's line may stand here
abbrev pub may_step : Setting → Path → Bool
may_step g b = is_plain b && not b.closing && (not (is_cut g.cuts b.point) || not b.moved)

-- a jump may
abbrev pub may_cut : Setting → Path → Bool
may_cut g b = is_plain b && is_cut g.cuts b.point && b.moved

-- the document is a chain
abbrev pub is_chain : Form → Bool
is_chain Certificate = false
is_chain Chain = true

-- a stuck line may
abbrev pub may_stick : Setting → Path → Bool
may_stick g b = is_chain g.form && is_plain b && not b.closing

-- ---- jumps

-- the image of a node
abbrev pub image : List NodeId → NodeId → NodeId
image images n = moved (image_of images) n

-- the node's image is of its kind and lies in the kind's range
abbrev pub has_image : Test → Kinds → List NodeId → NodeId × Kind → Bool
has_image know kinds images k = has_kind kinds k.1 (image images k.0) && know (kind_atom (image images k.0) k.1)

-- each node there has an image here, and 0 has 0
abbrev pub are_images : Test → State → List NodeId → State → Bool
are_images know s images t = length images == suc (length t.kinds) && image_of images 0 == 0
    && list_all (has_image know s.kinds images) t.kinds

-- the image of a node there is equal to one here
abbrev pub is_image : Test → List NodeId → NodeId → NodeId → Bool
is_image know images there here = equal know (image images there) here

-- what is known there is known here, at an equal node
abbrev pub is_known_too : Test → List NodeId → Option NodeId → Option NodeId → Bool
is_known_too know images None here = true
is_known_too know images (Some there) here = on_some (is_image know images there) here

-- an edge of the same form, predicate or struct, with equal nodes
abbrev pub is_edge : Test → List NodeId → Edge → Edge → Bool
is_edge know images (Block at shape fields) (Block b own heres) =
    own.0 == shape.0 && is_image know images at b && all_both (is_known_too know images) fields heres
is_edge know images (Ind at pred args) (Ind b own heres) =
    own.0 == pred.0 && is_image know images at b && all_both (is_image know images) args heres
is_edge know images (Seg at args pred «end» ends) (Seg b heres own e there) =
    own.0 == pred.0 && is_image know images at b && all_both (is_image know images) args heres && is_image know images end e
    && all_both (is_image know images) ends there
is_edge know images (Block at shape fields) (Ind b own heres) = false
is_edge know images (Block at shape fields) (Seg b heres own e there) = false
is_edge know images (Ind at pred args) (Block b own heres) = false
is_edge know images (Ind at pred args) (Seg b heres own e there) = false
is_edge know images (Seg at args pred «end» ends) (Block b own heres) = false
is_edge know images (Seg at args pred «end» ends) (Ind b own heres) = false

-- the edge with an id is as the one there
abbrev pub is_edge_at : Test → Edges → List NodeId → EdgeId × Edge → EdgeId → Bool
is_edge_at know es images there id = on_some (is_edge know images there.1) (edge_with es id)

-- the atom, renamed, is known
abbrev pub knows_image : Test → List NodeId → Atom → Bool
knows_image know images f = know (moved_atom (image_of images) f)

-- where that state is whole, this one is, and each of its edges is named
abbrev pub is_whole_too : State → State → List EdgeId → Bool
is_whole_too s t ids = if t.whole then s.whole && length s.graph.edges == length ids else true

-- L13: the branch jumps to one of the states of its cut, and ends
abbrev pub jumping_to : Test → List State → ℕ → List NodeId → List EdgeId → State → Judged (List Path)
jumping_to know heads j images ids s =
    need 2 (not (is_false know))
    (have 3 (slice_get heads j) (λ t.
    need 4 (are_images know s images t)
    (need 5 (all_both (is_known_too know images) t.env s.env)
    (need 6 (are_distinct ids && length t.graph.edges == length ids)
    (need 7 (all_both (is_edge_at know s.graph.edges images) t.graph.edges ids)
    (need 8 (list_all (knows_image know images) t.atoms)
    (need 9 (is_whole_too s t ids)
    (Ok []))))))))

-- ---- lines

-- an instruction's line
abbrev pub by_step : Knowledge → Flow → Setting → InstrRule → Path → Judged (List Path)
by_step k flow g rule b =
    need 1 (may_step g b) (then_give (map path_of) (stepping (k.know b.state) k.range flow rule b.point b.state))

-- a rule that unfolds: not where the branch is closing
abbrev pub by_unfolding : Judged (List State) → Path → Judged (List Path)
by_unfolding judged b = need 1 (not b.closing) (then_give (map (with_state b)) judged)

-- a rule that folds, from L3 to L8: in a chain the branch closes
abbrev pub by_folding : Judged (List State) → Setting → Path → Judged (List Path)
by_folding judged g b =
    then_give (map
    (λ s. record
    { point = b.point; state = s; goal = b.goal; moved = b.moved; closing = closes_by g.form b.goal b.closing })) judged

-- another rule of logic: everywhere
abbrev pub by_logic : Judged (List State) → Path → Judged (List Path)
by_logic judged b = then_give (map (with_state b)) judged

-- L9 also renames the goal of a side branch
abbrev pub by_merging : Judged (List State) → NodeId → NodeId → Path → Judged (List Path)
by_merging judged keep gone b =
    then_give (map
    (λ s. record {
      point = b.point;
      state = s;
      goal = option_map
          (merged_goal keep gone) b.goal;
      moved = b.moved;
      closing = b.closing;
    })) judged

-- the node is one of a list
abbrev pub is_one_of : NodeId → List NodeId → Bool
is_one_of n ns = list_any (λ m. m.0 == n.0) ns

-- the goal of a side branch does not name the node
abbrev pub goal_is_free : NodeId → Option Goal → Bool
goal_is_free n None = true
goal_is_free n (Some goal) = not (is_one_of n (goal.at ∷ goal.args))

-- one more premise after those of a rule
abbrev pub and_need : {A : Type 0} → ℕ → Bool → Judged A → Judged A
and_need k test (Ok a) = need k test (Ok a)
and_need k test (Err j) = Err j

-- L11: the goal is part of its last premise
abbrev pub by_forgetting : Judged (List State) → NodeId → Path → Judged (List Path)
by_forgetting judged node b = and_need 4 (goal_is_free node b.goal) (by_logic judged b)

-- a branch that ends
abbrev pub ends : Unit {0} → List Path
ends done = []

-- L12: the state is false, and the branch ends
abbrev pub ending_false : Test → Path → Judged (List Path)
ending_false know b = need 1 (not b.closing) (need 2 (is_false know) (Ok []))

-- C1: the instruction lacks something, and the branch ends
abbrev pub stuck_at : Knowledge → Setting → Path → Judged (List Path)
stuck_at k g b =
    need 1 (may_stick g b) (need 2 (not (is_false (k.know b.state))) (have 3 (k.gap b.point b.state) (λ gap. Ok [])))

-- what a line gives at the first open branch, or its first premise that is unmet
abbrev pub judged_line : Knowledge → Flow → List Def → Setting → Line → Path → Judged (List Path)
judged_line k flow defs g (line.Step rule) b = by_step k flow g rule b
judged_line k flow defs g (line.L1 edge) b = by_unfolding (unfolding_ind (k.know b.state) defs (accessed flow b) edge b.state) b
judged_line k flow defs g (line.L2 edge) b = by_unfolding (unfolding_seg (k.know b.state) defs (accessed flow b) edge b.state) b
judged_line k flow defs g (line.L3 fold) b = by_folding (folding_ind (k.know b.state) defs fold b.state) g b
judged_line k flow defs g (line.L4 fold) b = by_folding (folding_seg (k.know b.state) defs fold b.state) g b
judged_line k flow defs g (line.L5 first second) b = by_folding (closing_seg (k.know b.state) first second b.state) g b
judged_line k flow defs g (line.L6 first second) b = by_folding (joining_segs (k.know b.state) first second b.state) g b
judged_line k flow defs g (line.L7 pred at args stop ends) b = by_folding
    (making_seg (k.know b.state) defs pred at args stop ends b.state) g b
judged_line k flow defs g (line.L8 node add kind) b = by_folding (naming_spare (k.know b.state) node add kind b.state) g b
judged_line k flow defs g (line.L9 keep gone) b = by_merging (merging_nodes (k.know b.state) keep gone b.state) keep gone b
judged_line k flow defs g (line.L10 edge) b = by_logic (dropping_edge (k.know b.state) edge b.state) b
judged_line k flow defs g (line.L11 node) b = by_forgetting (forgetting_node (k.know b.state) (k.left b.state node) node b.state) node b
judged_line k flow defs g line.L12 b = ending_false (k.know b.state) b
judged_line k flow defs g (line.L13 j images edges) b = need 1 (may_cut g b)
    (jumping_to (k.know b.state) (states_at b.point g.heads) j images edges b.state)
judged_line k flow defs g (line.L14 edge) b = have 1 b.goal (λ goal. then_give ends (meeting_goal (k.know b.state) goal edge b.state))
judged_line k flow defs g (line.L15 edge) b = by_unfolding (unfolding_back (k.know b.state) defs (accessed flow b) edge b.state) b
judged_line k flow defs g line.C1 b = stuck_at k g b
judged_line k flow defs g other b = Err 1
