-- Jumps that are wrong: each is like a jump to the state of a cut, but for one premise.
use Rattle.std.specs.Prelude.{◌≡◌, ◌++◌, ℕ, suc, List, [], ◌∷◌, pos, false, true, Some, None, Contains, length, map, slice_get}
use Rattle.std.specs.List.{AllByRecursion}
use Rattle.mc_base.specs.declared.ids.EdgeId.{EdgeId}
use Rattle.mc_base.specs.declared.ids.NodeId.{NodeId}
use Rattle.mc_base.specs.declared.ids.PointId.{PointId}
use Rattle.mc_base.specs.declared.plain.Kind.TheVariants.{Ptr}
use Rattle.mc_base.specs.Atoms.{moved_atom}
use Rattle.mc_base.specs.Nodes.{null, moved}
use Rattle.mc_flow.specs.declared.defs.rules.Def.{Def}
use Rattle.mc_flow.specs.Defs.Examples.{cell_id}
use Rattle.mc_flow.specs.declared.graph.Flow.{Flow}
use Rattle.mc_state.specs.declared.graph.edge.Edge.{Edge}
use Rattle.mc_state.specs.declared.graph.edge.Edge.TheVariants.{Block}
use Rattle.mc_state.specs.Graph.Graph.{Edges, edge_with}
use Rattle.mc_pure.specs.Examples.{node}
use Rattle.mc_pure.specs.Pure.{HasKind}
use Rattle.mc_pure.specs.Derived.{LiesIn}
use Rattle.mc_state.specs.declared.line.Form.TheVariants.{Certificate}
use Rattle.mc_lines.specs.declared.cert.line.Line.{Line}
use Rattle.mc_state.specs.declared.line.InstrRule.TheVariants.{S1, S2, S3, S4, S13, S17}
use Rattle.mc_lines.specs.declared.cert.line.Line.TheVariants.{Header, Cut, Head, End, Step, L13}
use Rattle.mc_state.specs.declared.line.Version.TheVariants.{One}
use Rattle.mc_state.specs.State.{State, pure_of}
use Rattle.mc_state.specs.Facts.{IsFalse, Derives}
use Rattle.mc_kernel.specs.Branches.{Path, Setting, IsPlain, AreCuts, roots, states_at}
use Rattle.mc_kernel.specs.Certificates.{WrittenHead, AreOrdered, AreHeads, states_of}
use Rattle.mc_kernel.specs.Examples.{at, edge, failing_state}
use Rattle.mc_kernel.specs.Instances.{IsInstance}
use Rattle.mc_kernel.specs.Jumps.{Jumps, image_of, AreKnownToo, EdgesMatch}

-- ---- other premises on edges

-- a jump with other premises on how edges are named, and on what is left where the state is whole
pub record JumpsBy (Names : List EdgeId → Edges → List Edge → Edges → Type 0)
    (Leaves : State → State → Edges → Type 0) (s t : State) (images : List NodeId)
    (edges : List EdgeId) : Type 0 where
  pub count : length images ≡ suc (length t.kinds)
  pub null_image : image_of images 0 ≡ 0
  pub kinds : AllByRecursion (λ k. HasKind s.kinds k.1 (moved (image_of images) k.0)
      × LiesIn (pure_of s) k.1 (moved (image_of images) k.0) (pos 0)) t.kinds
  pub vars : AreKnownToo s images t.env s.env
  pub picked : List Edge
  pub left : Edges
  pub picks : Names edges s.graph.edges picked left
  pub match : EdgesMatch s images t.graph.edges picked
  pub atoms : AllByRecursion (λ f. Derives s (moved_atom (image_of images) f)) t.atoms
  pub whole : Leaves s t left

-- the named edges are there, but may be one
abbrev pub AreThere : List EdgeId → Edges → List Edge → Edges → Type 0
AreThere [] es picked left = picked ≡ []
AreThere (id ∷ ids) es [] left = ⊥
AreThere (id ∷ ids) es (e ∷ picked) left = (edge_with es id ≡ Some e) × AreThere ids es picked left

-- where that state is whole, this one is, and no edge is left
abbrev pub LeavesNone : State → State → Edges → Type 0
LeavesNone s t left = t.whole ≡ true → (s.whole ≡ true) × (left ≡ [])

-- the same, but edges may be left
abbrev pub LeavesSome : State → State → Edges → Type 0
LeavesSome s t left = t.whole ≡ true → s.whole ≡ true

-- two cells, at nodes 1 and 2
abbrev pub two_cells_apart : State
two_cells_apart =
    record {
      env = None ∷ None ∷ [];
      kinds = (node 1, Ptr) ∷ (node 2, Ptr) ∷ [];
      graph = record {
        edges = (edge 0, Block (node 1) cell_id (None ∷ None ∷ []))
            ∷ (edge 1, Block (node 2) cell_id (None ∷ None ∷ [])) ∷ [];
        next = 2;
      };
      atoms = [];
      next = 3;
      whole = false;
    }

-- ---- a jump at once

-- a jump from a branch on which no instruction's line need stand
pub record JumpsAtOnce (g : Setting) (j : ℕ) (images : List NodeId) (edges : List EdgeId) (b : Path) (next : List Path) : Type 0 where
  pub plain : IsPlain b
  pub at_cut : Contains g.cuts b.point
  pub consistent : IsFalse b.state → ⊥
  pub head : State
  pub there : slice_get (states_at b.point g.heads) j ≡ Some head
  pub jumps : Jumps b.state head images edges
  pub gives : next ≡ []

-- the instances with such jumps
abbrev pub IsInstanceAtOnce : Flow → List Def → Setting → Line → Path → List Path → Type 0
IsInstanceAtOnce flow defs g (L13 j images edges) b next = JumpsAtOnce g j images edges b next
IsInstanceAtOnce flow defs g line b next = IsInstance flow defs g line b next

-- lines are such instances, and end all branches
abbrev pub ReadsAtOnce : Flow → List Def → Setting → List Line → List Path → Type 0
ReadsAtOnce flow defs g [] bs = bs ≡ []
ReadsAtOnce flow defs g (line ∷ lines) [] = ⊥
ReadsAtOnce flow defs g (line ∷ lines) (b ∷ bs) = (next : List Path) × IsInstanceAtOnce flow defs g line b next
    × ReadsAtOnce flow defs g lines (next ++ bs)

-- a valid certificate but for such jumps
pub record IsCertificateAtOnce (flow : Flow) (defs : List Def) (lines : List Line) : Type 0 where
  pub cuts : List PointId
  pub heads : List WrittenHead
  pub rules : List Line
  pub spelled : lines ≡ Header One Certificate ∷ (map Cut cuts ++ (map (λ h. Head h.0 h.1) heads ++ (rules ++ End ∷ [])))
  pub cuts_are : AreCuts flow cuts
  pub ordered : AreOrdered heads
  pub heads_are : AreHeads flow defs cuts heads
  pub reads : ReadsAtOnce flow defs (record { form = Certificate; cuts = cuts; heads = states_of heads }) rules
      (roots flow (states_of heads))

-- from the entry to the head, and from the head to itself at once
abbrev pub failing_document : List Line
failing_document = Header One Certificate ∷ Cut (at 1) ∷ Head (at 1) failing_state ∷ Step S1 ∷ L13 0 (null ∷ []) []
    ∷ L13 0 (null ∷ []) [] ∷ End ∷ []

-- ---- a loop head that is no cut

-- lines along the loop, without a cut
abbrev pub uncut_document : List Line
uncut_document =
    Header One Certificate ∷ Step S1 ∷ Step S1 ∷ Step S4 ∷ Step S13 ∷ Step S3
    ∷ Step S1 ∷ Step S2 ∷ Step S17 ∷ Step S3 ∷ End ∷ []
