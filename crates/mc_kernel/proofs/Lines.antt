-- Each line's rule is sound.
use Rattle.std.proofs.Common.{◌≡◌, ◌≤◌, Bool, false, Option, List, [], ◌∷◌, map, sym, subst, arith}
use Rattle.std.specs.Prelude.{Contains}
use Rattle.std.specs.List.{AllByRecursion}
use Rattle.mc_base.specs.declared.ids.EdgeId.{EdgeId}
use Rattle.mc_base.specs.declared.ids.NodeId.{NodeId}
use Rattle.mc_base.specs.declared.plain.Atom.TheVariants.{Eq}
use Rattle.mc_base.specs.Nodes.{Valuation}
use Rattle.mc_flow.specs.Heap.Heap.{region_of}
use Rattle.mc_flow.specs.declared.defs.rules.Def.{Def}
use Rattle.mc_flow.specs.declared.defs.rules.Rule.{Rule}
use Rattle.mc_flow.specs.Defs.Instances.{node_of}
use Rattle.mc_flow.specs.declared.graph.Flow.{Flow}
use Rattle.mc_flow.specs.Valid.{IsValid}
use Rattle.mc_state.specs.declared.line.InstrRule.{InstrRule}
use Rattle.mc_lines.specs.declared.cert.line.Line.{Line}
use Rattle.mc_lines.specs.declared.cert.line.Line.TheVariants.{Step, L1, L2, L3, L4, L5, L6, L7, L8, L9, L10, L11, L12, L13, L14, L15, C1}
use Rattle.mc_state.specs.declared.graph.edge.Edge.TheVariants.{Ind, Seg}
use Rattle.mc_state.specs.Graph.Graph.{without}
use Rattle.mc_state.specs.State.{State, next_node, with_nodes, with_atoms, with_edges, with_only_edges}
use Rattle.mc_state.specs.Fits.{IsBounded}
use Rattle.mc_state.specs.Rules.{IsSound}
use Rattle.mc_rules_logic.specs.Unfold.Unfolded.{UnfoldsInd, UnfoldsSeg, unfolded, unfolded_at, own_places}
use Rattle.mc_rules_logic.specs.Back.Unfolded.{UnfoldsBack, unfolded_back}
use Rattle.mc_rules_logic.specs.Fold.Folded.{folded}
use Rattle.mc_rules_steps.specs.Laws.{IsAt}
use Rattle.mc_kernel.specs.Branches.{Path, Setting, closes_by}
use Rattle.mc_kernel.specs.Jumps.{image_of}
use Rattle.mc_kernel.specs.Instances.{IsInstance, ByStep, accessed, stuck_by}
use Rattle.mc_kernel.specs.Certificates.{IsAtStuck}
use Rattle.mc_kernel.proofs.Lists.{each_of_map, each_of_flat_map, contains_here}
use Rattle.mc_kernel.proofs.Claims.{IsFine}
use Rattle.mc_kernel.proofs.Calculus.{CalculusLaws}
use Rattle.mc_kernel.proofs.Soundness.{kept, Means, Sound, Logic, Jump, Met, Stuck, by_step, by_logic, by_merging}

-- no successor's next number is less
abbrev Grows : State → List State → Type 0
Grows s states = AllByRecursion (λ (t : State). s.next ≤ t.next) states

one_grows : (s t : State) (states : List State) → s.next ≤ t.next → states ≡ t ∷ [] → Grows s states
one_grows s t states le gives = subst (Grows s) (sym gives) (le, tt)

ind_grows : (defs : List Def) (start : Option NodeId) (edge : EdgeId) (s : State) (states : List State) → UnfoldsInd defs start edge s states → Grows s states
ind_grows defs start edge s states i =
    subst (Grows s) (sym i.gives) (each_of_map (λ (t : State). s.next ≤ t.next) (unfolded s edge i.at i.args) (λ rule. omega arith) i.def.rules)

seg_grows : (defs : List Def) (start : Option NodeId) (edge : EdgeId) (s : State) (states : List State) → UnfoldsSeg defs start edge s states → Grows s states
seg_grows defs start edge s states i =
    subst (Grows s) (sym i.gives) (
      omega arith,
      each_of_flat_map (λ (t : State). s.next ≤ t.next) (λ (rule : Rule). map (unfolded_at s edge i.at i.args i.stop i.ends rule) (own_places i.pred 0 rule.calls))
          (λ rule. each_of_map (λ (t : State). s.next ≤ t.next) (unfolded_at s edge i.at i.args i.stop i.ends rule) (λ place. omega arith) (own_places i.pred 0 rule.calls)) i.def.rules,
    )

back_grows : (defs : List Def) (start : Option NodeId) (edge : EdgeId) (s : State) (states : List State) → UnfoldsBack defs start edge s states → Grows s states
back_grows defs start edge s states i =
    subst (Grows s) (sym i.gives) (
      omega arith,
      each_of_flat_map (λ (t : State). s.next ≤ t.next) (λ (rule : Rule). map (unfolded_back s edge i.at i.args i.pred i.stop i.ends rule) (own_places i.pred 0 rule.calls))
          (λ rule. each_of_map (λ (t : State). s.next ≤ t.next) (unfolded_back s edge i.at i.args i.pred i.stop i.ends rule) (λ place. omega arith) (own_places i.pred 0 rule.calls)) i.back.def.rules,
    )

module _ (flow : Flow) (defs : List Def) (g : Setting) (all : List Path) (laws : CalculusLaws) (valid : IsValid flow defs) where
  abbrev S : Path → List Path → Type 0
  S b succs = Sound flow defs g (IsAtStuck defs all) b succs

  stepped : (rule : InstrRule) (b : Path) (succs : List Path) → IsFine b → ByStep rule flow g b succs → S b succs
  stepped rule b succs fine i = by_step flow defs g (IsAtStuck defs all) laws valid b succs fine i.0.plain i.1.0 (rule, i.1.1) i.1.2

  logical : (b : Path) (closing : Bool) (states : List State) (succs : List Path) → IsFine b → succs ≡ map (kept b closing b.goal) states
      → IsSound defs b.state states × AllByRecursion IsBounded states → Grows b.state states → S b succs
  logical b closing states succs fine gives law grows = by_logic flow defs g (IsAtStuck defs all) laws valid b closing states succs fine gives law.0 law.1 grows

  ended : (b : Path) (succs : List Path) → succs ≡ [] → Means flow defs g (IsAtStuck defs all) b succs → S b succs
  ended b succs gives means = record { fine = subst (AllByRecursion IsFine) (sym gives) tt; means = means }

  abbrev closes : Path → Bool
  closes b = closes_by g.form b.goal b.closing

  -- an instance of a line's rule is sound, where a branch that it marks as stuck is one of the list
  pub sound : (line : Line) (b : Path) (succs later : List Path) → IsFine b → ((x : Path) → Contains (stuck_by line b later) x → Contains all x) → IsInstance flow defs g line b succs → S b succs
  sound (Step rule) b succs later fine stuck i = stepped rule b succs fine i
  sound (L1 edge) b succs later fine stuck i =
      let u = i.1 in logical b b.closing u.0 succs fine u.2 (laws.unfold_ind defs (accessed flow b) edge b.state u.0 fine.0 u.1) (ind_grows defs (accessed flow b) edge b.state u.0 u.1)
  sound (L2 edge) b succs later fine stuck i =
      let u = i.1 in logical b b.closing u.0 succs fine u.2 (laws.unfold_seg defs (accessed flow b) edge b.state u.0 fine.0 u.1) (seg_grows defs (accessed flow b) edge b.state u.0 u.1)
  sound (L15 edge) b succs later fine stuck i =
      let u = i.1 in logical b b.closing u.0 succs fine u.2 (laws.unfold_back defs (accessed flow b) edge b.state u.0 fine.0 u.1) (back_grows defs (accessed flow b) edge b.state u.0 u.1)
  sound (L3 fold) b succs later fine stuck i =
      let r = i.1 in logical b (closes b) i.0 succs fine i.2 (laws.fold_ind defs fold b.state i.0 fine.0 r) (one_grows b.state (folded b.state r.body.left (Ind r.body.this fold.pred r.body.args)) i.0 (omega arith) r.gives)
  sound (L4 fold) b succs later fine stuck i =
      let r = i.1 in logical b (closes b) i.0 succs fine i.2 (laws.fold_seg defs fold b.state i.0 fine.0 r) (one_grows b.state (folded b.state r.body.left (Seg r.body.this r.body.args fold.pred (node_of fold.names r.open_call.at) (map (node_of fold.names) r.open_call.args))) i.0 (omega arith) r.gives)
  sound (L5 first second) b succs later fine stuck i =
      let r = i.1 in logical b (closes b) i.0 succs fine i.2 (laws.close defs first second b.state i.0 fine.0 r) (one_grows b.state (folded b.state r.left (Ind r.at r.pred r.args)) i.0 (omega arith) r.gives)
  sound (L6 first second) b succs later fine stuck i =
      let r = i.1 in logical b (closes b) i.0 succs fine i.2 (laws.join defs first second b.state i.0 fine.0 r) (one_grows b.state (folded b.state r.left (Seg r.at r.args r.pred r.last r.last_args)) i.0 (omega arith) r.gives)
  sound (L7 pred at args stop ends) b succs later fine stuck i =
      let r = i.1 in logical b (closes b) i.0 succs fine i.2 (laws.empty_seg defs pred at args stop ends b.state i.0 fine.0 r) (one_grows b.state (with_edges b.state (Seg at args pred stop ends ∷ [])) i.0 (omega arith) r.gives)
  sound (L8 node add kind) b succs later fine stuck i =
      let r = i.1 in logical b (closes b) i.0 succs fine i.2 (laws.spare defs node add kind b.state i.0 fine.0 r) (one_grows b.state (with_atoms (with_nodes b.state (kind ∷ [])) (Eq (next_node b.state) node add ∷ [])) i.0 (omega arith) r.gives)
  sound (L9 keep gone) b succs later fine stuck i = by_merging flow defs g (IsAtStuck defs all) laws valid b keep gone i.0 succs fine i.1 i.2
  sound (L10 edge) b succs later fine stuck i =
      let r = i.1 in logical b b.closing i.0 succs fine i.2 (laws.drop_edge defs edge b.state i.0 fine.0 r) (one_grows b.state (record (with_only_edges b.state (without b.state.graph.edges edge)) { whole = false }) i.0 (omega arith) r.gives)
  sound (L11 node) b succs later fine stuck i =
      let u = i.1 in
      let r = u.1 in
      let same : r.after.next ≡ b.state.next = r.forgets.next in
      logical b b.closing u.0 succs fine u.2 (laws.forget defs node b.state u.0 fine.0 r) (one_grows b.state r.after u.0 (omega arith) r.gives)
  sound L12 b succs later fine stuck i =
      ended b succs i.2 (Logic (λ v c at. absurd (laws.not_false defs c.vars (region_of c.heap) b.state at.addresses (v, at.stands) i.1)))
  sound (L13 j images edges) b succs later fine stuck i =
      ended b succs i.gives (Jump i.may.plain i.may.has_moved j i.head i.there (λ v c at.
      let w : Valuation = λ n. v (image_of images n) in
      (w, record { point = at.point; addresses = at.addresses; stands = laws.jump defs v c.vars (region_of c.heap) b.state i.head images edges at.addresses i.jumps at.stands })))
  sound (L14 edge) b succs later fine stuck i =
      ended b succs i.gives (Met i.goal i.side (λ v c at. laws.goal defs i.goal edge b.state v c.vars (region_of c.heap) at.addresses i.meets at.stands))
  sound C1 b succs later fine stuck i =
      ended b succs i.gives (Stuck i.plain (λ v c at. (b, stuck b (contains_here b later), (v, at))))
  sound line b succs later fine stuck i = absurd i
