-- Which edges make a predicate, or a segment of it.
use Rattle.std.specs.Prelude.{◌≡◌, ◌⊎◌, ℕ, zero, suc, List, [], ◌∷◌, ◌++◌, true, false, Option, Some, None, length, map, slice_get}
use Rattle.std.specs.List.{AllByRecursion}
use Rattle.mc_base.specs.declared.ids.EdgeId.{EdgeId}
use Rattle.mc_base.specs.declared.ids.NodeId.{NodeId}
use Rattle.mc_base.specs.declared.ids.PredId.{PredId}
use Rattle.mc_base.specs.declared.ids.StructId.{StructId}
use Rattle.mc_flow.specs.declared.defs.rules.Call.{Call}
use Rattle.mc_flow.specs.declared.defs.rules.Def.{Def}
use Rattle.mc_flow.specs.declared.defs.rules.DefAtom.{DefAtom}
use Rattle.mc_flow.specs.declared.defs.rules.DefAtom.TheVariants.{Eq, Ne, In}
use Rattle.mc_flow.specs.declared.defs.rules.Rule.{Rule}
use Rattle.mc_state.specs.declared.graph.edge.Edge.TheVariants.{Block, Ind, Seg}
use Rattle.mc_state.specs.Graph.Graph.{Edges, edge_with, without}
use Rattle.mc_state.specs.declared.terms.Term.{Term}
use Rattle.mc_state.specs.State.{State}
use Rattle.mc_state.specs.Facts.{Derives}
use Rattle.mc_state.specs.Terms.{plain, plus, AreEqualTerms, AreAllEqualTerms, TermsLieIn, term_of, base_term, atom_on}

-- edges are taken from those that are there, and make something at a term with arguments; others are left
abbrev pub Finding : Type 1
Finding = PredId → Term → List Term → Edges → Edges → Type 0

-- an atom that introduces a name gives it its sum
abbrev pub Fixes : List Term → DefAtom → Type 0
Fixes names (Eq left base add true) = term_of names left ≡ plus (base_term names base) add
Fixes names (Eq left base add false) = Unit {0}
Fixes names (Ne left base add) = Unit {0}
Fixes names (In left lo hi) = Unit {0}

-- the block of a rule is among the edges, at an equal node, and all its fields are known; without a block nothing is taken
abbrev pub BlockIsTaken : State → Option StructId → Term → List NodeId → Edges → Edges → Type 0
BlockIsTaken s None at contents es left = (contents ≡ []) × (left ≡ es)
BlockIsTaken s (Some shape) at contents es left =
    (id : EdgeId) × (b : NodeId) × (edge_with es id ≡ Some (Block b shape (map Some contents)))
    × AreEqualTerms s at (plain b) × (left ≡ without es id)

-- a rule of the predicate, with terms for its names: `this`, the arguments, the contents and the sums of the names it introduces
pub record RuleTerms (defs : List Def) (s : State) (pred : PredId) (at : Term) (args : List Term) : Type 0 where
  pub def : Def
  pub defined : slice_get defs pred.0 ≡ Some def
  pub rule : Rule
  pub place : ℕ
  pub listed : slice_get def.rules place ≡ Some rule
  pub count : length args ≡ length def.params
  pub contents : List NodeId
  pub contents_count : length contents ≡ length rule.contents
  pub names : List Term
  pub fixed : List Term
  pub front : names ≡ at ∷ (args ++ (map plain contents ++ fixed))
  pub kinds : TermsLieIn s rule.names names
  pub sums : AllByRecursion (Fixes names) rule.atoms
  pub atoms : AllByRecursion (λ a. Derives s (atom_on names a)) rule.atoms

-- each call is found, one after the other
abbrev pub CallsAreFound : Finding → List Term → List Call → Edges → Edges → Type 0
CallsAreFound M names [] es left = left ≡ es
CallsAreFound M names (call ∷ calls) es left =
    (mid : Edges) × M call.pred (term_of names call.at) (map (term_of names) call.args) es mid × CallsAreFound M names calls mid left

-- the same, where the call at a place is of the predicate and found in another way
abbrev pub CallsAreFoundAt : Finding → Finding → PredId → ℕ → List Term → List Call → Edges → Edges → Type 0
CallsAreFoundAt M S pred place names [] es left = ⊥
CallsAreFoundAt M S pred zero names (call ∷ calls) es left =
    (mid : Edges) × (call.pred ≡ pred) × S pred (term_of names call.at) (map (term_of names) call.args) es mid
    × CallsAreFound M names calls mid left
CallsAreFoundAt M S pred (suc place) names (call ∷ calls) es left =
    (mid : Edges) × M call.pred (term_of names call.at) (map (term_of names) call.args) es mid
    × CallsAreFoundAt M S pred place names calls mid left

-- an Ind of the predicate at an equal node with equal arguments
abbrev pub IsByInd : State → Finding
IsByInd s pred at args es left =
    (id : EdgeId) × (b : NodeId) × (bs : List NodeId) × (edge_with es id ≡ Some (Ind b pred bs))
    × AreEqualTerms s at (plain b) × AreAllEqualTerms s args (map plain bs) × (left ≡ without es id)

-- a Seg of the predicate there, and what is found at its end
abbrev pub IsBySeg : Finding → State → Finding
IsBySeg M s pred at args es left =
    (id : EdgeId) × (b : NodeId) × (bs : List NodeId) × (e : NodeId) × (ends : List NodeId)
    × (edge_with es id ≡ Some (Seg b bs pred e ends))
    × AreEqualTerms s at (plain b) × AreAllEqualTerms s args (map plain bs) × M pred (plain e) (map plain ends) (without es id) left

-- a rule of the predicate, whose block is there and each of whose calls is found
abbrev pub IsByRule : Finding → List Def → State → Finding
IsByRule M defs s pred at args es left =
    (by : RuleTerms defs s pred at args) × (mid : Edges) × BlockIsTaken s by.rule.block at by.contents es mid
    × CallsAreFound M by.names by.rule.calls mid left

-- the same with one call of the predicate found in another way
abbrev pub IsByRuleAt : Finding → Finding → List Def → State → Finding
IsByRuleAt M S defs s pred at args es left =
    (by : RuleTerms defs s pred at args) × (mid : Edges) × BlockIsTaken s by.rule.block at by.contents es mid
    × (place : ℕ) × CallsAreFoundAt M S pred place by.names by.rule.calls mid left

-- a cover of a predicate: an Ind, a Seg with a cover at its end, or a rule; at most so many of these stand one within the other
abbrev pub CoverAt : List Def → State → ℕ → Finding
CoverAt defs s zero pred at args es left = ⊥
CoverAt defs s (suc k) pred at args es left =
    IsByInd s pred at args es left ⊎ (IsBySeg (CoverAt defs s k) s pred at args es left
    ⊎ IsByRule (CoverAt defs s k) defs s pred at args es left)

-- a cover of any depth
pub record Cover (defs : List Def) (s : State) (pred : PredId) (at : Term) (args : List Term) (es left : Edges) : Type 0 where
  pub depth : ℕ
  pub found : CoverAt defs s depth pred at args es left

-- a segment cover that takes no edge: it ends where it begins
abbrev pub EndsThere : List Def → State → Term → List Term → Finding
EndsThere defs s «end» ends pred at args es left =
    (def : Def) × (slice_get defs pred.0 ≡ Some def) × AreEqualTerms s at end × AreAllEqualTerms s args ends
    × TermsLieIn s def.params args × (left ≡ es)

-- a segment cover to an end: nothing, a Seg with a segment cover at its end, or a rule with a segment cover of one call of the predicate
abbrev pub SegCoverAt : List Def → State → Term → List Term → ℕ → Finding
SegCoverAt defs s «end» ends zero pred at args es left = EndsThere defs s end ends pred at args es left
SegCoverAt defs s «end» ends (suc k) pred at args es left =
    EndsThere defs s end ends pred at args es left
    ⊎ (IsBySeg (SegCoverAt defs s end ends k) s pred at args es left
    ⊎ IsByRuleAt (Cover defs s) (SegCoverAt defs s end ends k) defs s pred at args es left)

-- a segment cover of any depth
pub record SegCover (defs : List Def) (s : State) (pred : PredId) (at : Term) (args : List Term) («end» : Term)
    (ends : List Term) (es left : Edges) : Type 0 where
  pub depth : ℕ
  pub found : SegCoverAt defs s end ends depth pred at args es left
