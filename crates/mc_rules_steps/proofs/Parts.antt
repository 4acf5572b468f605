-- The part of the heap that a block has.
use Rattle.std.proofs.Common.{◌≡◌, ◌≢◌, ◌<◌, ◌≤◌, ◌^◌, ℕ, List, [], ◌∷◌, map, Option, Some, None, refl, sym, ap, ◌∙◌, subst, arith, ℤ, pos, ◌+ℤ◌}
use Rattle.std.specs.Prelude.{IsSome}
use Rattle.std.specs.List.{AllByRecursion}
use Rattle.std.proofs.lemmas.Int.{ints}
use Rattle.mc_base.specs.declared.ids.EdgeId.{EdgeId}
use Rattle.mc_base.specs.declared.ids.NodeId.{NodeId}
use Rattle.mc_base.specs.declared.ids.StructId.{StructId}
use Rattle.mc_base.specs.declared.plain.Atom.TheVariants.{Eq, Ne}
use Rattle.mc_base.specs.Atoms.{IsTrueAtom}
use Rattle.mc_base.specs.Nodes.{Valuation}
use Rattle.mc_flow.specs.Heap.Heap.{Block, Region, IsAddress, IsAtAddresses}
use Rattle.mc_flow.specs.Heap.Instances.{nowhere}
use Rattle.mc_flow.specs.Heap.Parts.{Joins, Split, IsEmpty, IsCell, Star}
use Rattle.mc_flow.specs.declared.defs.rules.Def.{Def}
use Rattle.mc_state.specs.declared.graph.edge.Edge.TheVariants as edge
use Rattle.mc_state.specs.Graph.Graph.{Edges, edge_with, without, block_starts}
use Rattle.mc_state.specs.State.{State, with_only_edges}
use Rattle.mc_state.specs.Facts.{AreEqual}
use Rattle.mc_state.specs.Stands.{VarsMeet, EdgeMeets, EdgesMeet, StandsBy}
use Rattle.mc_rules_steps.specs.Steps.{freed_atoms}
use Rattle.mc_rules_steps.proofs.LowerLaws.{StepLaws}

-- a block's own part of the region; what is left stands for the state without it
pub record BlockOut (defs : List Def) (v : Valuation) (values : List (Option ℤ)) (region : Region) (s : State) (id : EdgeId) (at : NodeId) (shape : StructId) (fields : List (Option NodeId)) : Type 0 where
  pub address : ℕ
  pub contents : List (Option ℤ)
  pub leads : v at.0 ≡ pos address
  pub part : Region
  pub others : Region
  pub split : Split region part others
  pub cell : IsCell part address (record { shape = shape.0; fields = contents })
  pub meets : VarsMeet v fields contents
  pub stands : StandsBy defs v values others (with_only_edges s (without s.graph.edges id))

pub both_free : (x l r : Option Block) → Joins x l r → x ≡ None → (l ≡ None) × (r ≡ None)
both_free x None r j e = (refl, sym j ∙ e)
both_free x (Some b) None j e = cc
both_free x (Some b) (Some c) j e = absurd j

right_free : (x l r : Option Block) (b : Block) → Joins x l r → l ≡ Some b → r ≡ None
right_free x None r b j e = cc
right_free x (Some d) None b j e = refl
right_free x (Some d) (Some c) b j e = absurd j

-- where an address is free, no block starts
module _ (defs : List Def) (w : Valuation) (a : NodeId) (address : ℕ) (leads : w a.0 ≡ pos address) where
  differs : (at : NodeId) (shape : StructId) (fields : List (Option NodeId)) (part : Region) → EdgeMeets defs w (edge.Block at shape fields) part → part address ≡ None → w a.0 ≢ w at.0 +ℤ pos 0
  differs at shape fields part m free same =
      let other : w at.0 ≡ pos m.0 = m.1 in
      let is : w a.0 ≡ w at.0 +ℤ pos 0 = same in
      let value : pos address ≡ pos m.0 = (let own : w a.0 ≡ pos address = leads in omega (arith, ints)) in
      let here : address ≡ m.0 = cc in
      let block : Block = record { shape = shape.0; fields = m.2.0 } in
      let clash : None ≡ Some block = sym free ∙ ap part here ∙ m.2.1.here in
      cc

  pub starts_differ : (es : Edges) (region : Region) → EdgesMeet defs w es region → region address ≡ None → AllByRecursion (IsTrueAtom w) (map (λ b. Ne a b (pos 0)) (block_starts es))
  starts_differ [] region s free = tt
  starts_differ ((id, edge.Block at shape fields) ∷ es) region s free =
      let both = both_free (region address) (s.0 address) (s.1 address) (s.2.joins address) free in
      (differs at shape fields s.0 s.3 both.0, starts_differ es s.1 s.4 both.1)
  starts_differ ((id, edge.Ind at pred args) ∷ es) region s free =
      starts_differ es s.1 s.4 (both_free (region address) (s.0 address) (s.1 address) (s.2.joins address) free).1
  starts_differ ((id, edge.Seg at args pred «end» ends) ∷ es) region s free =
      starts_differ es s.1 s.4 (both_free (region address) (s.0 address) (s.1 address) (s.2.joins address) free).1

module _ (laws : StepLaws) (defs : List Def) where
  -- nodes that are entailed equal have one value
  pub equal_value : (v : Valuation) (values : List (Option ℤ)) (region : Region) (s : State) (a b : NodeId) → IsAtAddresses region → StandsBy defs v values region s → AreEqual s a b → v a.0 ≡ v b.0
  equal_value v values region s a b has st equal =
      let e : v a.0 ≡ v b.0 +ℤ pos 0 = laws.states.derived defs v values region s (Eq a b (pos 0)) has st equal in omega (arith, ints)

  -- the one thing of a list has the whole part
  pub one_part : {A : Type 0} (M : A → Region → Type 0) (x : A) (part : Region) → M x part → Star M (x ∷ []) part
  one_part M x part m =
      let empty : IsEmpty nowhere = record { none = λ at. refl } in
      (part, nowhere, laws.heaps.commutes part nowhere part (laws.heaps.adds_empty part nowhere empty), m, empty)

  pub block_out : (v : Valuation) (values : List (Option ℤ)) (region : Region) (s : State) (id : EdgeId) (at : NodeId) (shape : StructId) (fields : List (Option NodeId))
      → edge_with s.graph.edges id ≡ Some (edge.Block at shape fields) → StandsBy defs v values region s → BlockOut defs v values region s id at shape fields
  block_out v values region s id at shape fields there st =
      let taken = laws.states.taken defs v values region s (id ∷ []) (edge.Block at shape fields ∷ []) (without s.graph.edges id) (there, (refl, refl)) st in
      let one = taken.3 in
      let same : taken.0 ≡ one.0 = laws.heaps.drops_empty taken.0 one.1 one.0 one.4 (laws.heaps.commutes taken.0 one.0 one.1 one.2) in
      let m = one.3 in
      record {
        address = m.0;
        contents = m.2.0;
        leads = m.1;
        part = taken.0;
        others = taken.1;
        split = taken.2;
        cell = subst (λ (r : Region). IsCell r m.0 (record { shape = shape.0; fields = m.2.0 })) (sym same) m.2.1;
        meets = m.2.2;
        stands = taken.4;
      }

  module _ (v : Valuation) (values : List (Option ℤ)) (region : Region) (s : State) (id : EdgeId) (at : NodeId) (shape : StructId) (fields : List (Option NodeId)) (out : BlockOut defs v values region s id at shape fields) where
    -- the block is in the region
    pub there : region out.address ≡ Some (record { shape = shape.0; fields = out.contents })
    there = laws.heaps.read region out.part out.others out.address (record { shape = shape.0; fields = out.contents }) out.split out.cell

    pub is_address : IsAtAddresses region → IsAddress out.address
    is_address has = has out.address (subst (λ (o : Option Block). IsSome o) (sym there) refl)

    -- what is written of a freed block is true
    pub freed_true : IsAtAddresses region → AllByRecursion (IsTrueAtom v) (freed_atoms at (block_starts (without s.graph.edges id)))
    freed_true has =
        let is = is_address has in
        let leads : v at.0 ≡ pos out.address = out.leads in
        let low : 1 ≤ out.address = is.0 in
        let high : out.address < 2 ^ 62 = is.1 in
        let held = out.stands.parts in
        let left : out.others out.address ≡ None = right_free (region out.address) (out.part out.address) (out.others out.address) (record { shape = shape.0; fields = out.contents }) (out.split.joins out.address) out.cell.here in
        let free : held.held out.address ≡ None = (both_free (out.others out.address) (held.held out.address) (held.rest out.address) (held.split.joins out.address) left).0 in
        ((omega (arith, ints), omega (arith, ints)), starts_differ defs v at out.address leads (without s.graph.edges id) held.held held.each free)
