-- Loads, stores, allocations and frees.
use Rattle.std.proofs.Common.{◌≡◌, ◌<◌, ◌≤◌, ◌^◌, ℕ, zero, suc, List, [], ◌∷◌, true, Option, Some, None, length, replicate, slice_get, slice_set, refl, sym, ap, ap₂, ◌∙◌, subst, arith, ℤ, pos}
use Rattle.std.specs.Prelude.{is_some}
use Rattle.std.specs.FinMap as map
use Rattle.std.proofs.lemmas.Int.{ints}
use Rattle.mc_base.specs.declared.ids.EdgeId.{EdgeId}
use Rattle.mc_base.specs.declared.ids.NodeId.{NodeId}
use Rattle.mc_base.specs.declared.ids.PointId.{PointId}
use Rattle.mc_base.specs.declared.ids.StructId.{StructId}
use Rattle.mc_base.specs.declared.ids.VarId.{VarId}
use Rattle.mc_base.specs.declared.plain.Kind.TheVariants.{Ptr}
use Rattle.mc_base.specs.Kinds.{InKind}
use Rattle.mc_base.specs.Nodes.{Valuation, null}
use Rattle.mc_flow.specs.Runs as runs
use Rattle.mc_flow.specs.Heap.Access.{block_field, with_field, fresh_block}
use Rattle.mc_flow.specs.Heap.Choices.{Choice}
use Rattle.mc_flow.specs.Heap.Choices as choice
use Rattle.mc_flow.specs.Heap.Heap.{Block, Region, region_of, IsAddress}
use Rattle.mc_flow.specs.Heap.Parts.{Changes}
use Rattle.mc_flow.specs.declared.defs.rules.Def.{Def}
use Rattle.mc_flow.specs.declared.graph.Flow.{Flow}
use Rattle.mc_flow.specs.declared.instr.Instr.TheVariants as instr
use Rattle.mc_flow.specs.Steps.{Config, Result, Allocates, at_point, set_to, with_heap, loaded, stored, freed, field_count}
use Rattle.mc_flow.specs.Values.{value_in, with_value}
use Rattle.mc_state.specs.declared.graph.edge.Edge.TheVariants as edge
use Rattle.mc_state.specs.Graph.Edges.{nodes_of}
use Rattle.mc_state.specs.Graph.Graph.{Graph, edge_with, replaced, without, block_starts}
use Rattle.mc_state.specs.State.{State, next_node, with_var, with_nodes, with_edges, with_only_edges, with_atoms, with_block}
use Rattle.mc_state.specs.Fits.{AreNodes, IsBounded}
use Rattle.mc_state.specs.Stands.{EdgeMeets, StandsBy}
use Rattle.mc_rules_steps.specs.Next.{Next}
use Rattle.mc_rules_steps.specs.Operands.{with_operand}
use Rattle.mc_rules_steps.specs.Steps.{moved_to, freed_atoms, S8Is, S9Is, S10Is, S11Is, S12Is}
use Rattle.mc_rules_steps.specs.Laws.{IsAt, LeadsOn}
use Rattle.mc_rules_steps.proofs.LowerLaws.{StepLaws}
use Rattle.mc_rules_steps.proofs.Lists.{edge_at}
use Rattle.mc_rules_steps.proofs.Moving.{IsSoundAt, step_at, fits_at, leads, first_of_one, set_leads, set_leads_at}
use Rattle.mc_rules_steps.proofs.Operands.{operand_graph, operand_met, new_node}
use Rattle.mc_rules_steps.proofs.Fields.{vars_slice, vars_set, vars_length, unknown_vars, block_field_is, some_field, loaded_is, stored_is, freed_is}
use Rattle.mc_rules_steps.proofs.Parts.{equal_value, one_part, block_out, there, is_address, freed_true}

one_item : {A : Type 0} (x y : A) → Some x ≡ Some y → x ≡ y
one_item x y e = cc

-- the state with a node in a field of the block with an id
abbrev pub stored_in : State → EdgeId → NodeId → StructId → List (Option NodeId) → ℕ → NodeId → State
stored_in t id at shape fields f m = record t { graph = record t.graph { edges = replaced t.graph.edges id (edge.Block at shape (slice_set fields f (Some m))) } }

module _ (laws : StepLaws) (defs : List Def) where
  pub s8_sound : (flow : Flow) (p : PointId) (s : State) (next : List Next) → S8Is flow p s next → IsSoundAt flow defs p s next
  s8_sound flow p s next i v c choices r valid bounded stood sides step =
      let region = region_of c.heap in
      let b = i.block in
      let st = step_at flow defs p (instr.Load i.x i.y i.shape i.f i.q) c choices r i.at stood.point step in
      let out = block_out laws defs v c.vars region s b.id b.at i.shape b.fields b.there stood.stands in
      let block : Block = record { shape = i.shape.0; fields = out.contents } in
      let here = there laws defs v c.vars region s b.id b.at i.shape b.fields out in
      let is = is_address laws defs v c.vars region s b.id b.at i.shape b.fields out stood.addresses in
      let same : v i.n.0 ≡ v b.at.0 = equal_value laws defs v c.vars region s i.n b.at stood.addresses stood.stands b.equal in
      let value : value_in c.vars i.y ≡ Some (v i.n.0) = laws.states.known defs v c.vars region s i.y i.n stood.stands i.known in
      let read : block_field block i.shape.0 i.f ≡ Some (Some (v i.m.0)) = block_field_is i.shape.0 out.contents i.f ∙ vars_slice v b.fields out.contents i.f i.m out.meets i.field in
      let goes : r ≡ set_to i.x i.q c choices (v i.m.0) =
      st.1 ∙ ap (loaded i.x i.shape i.f i.q st.0 c choices) value ∙ loaded_is i.q st.0 c choices (v i.n.0) out.address block (same ∙ out.leads) is here i.x i.shape i.f (v i.m.0) read in
      set_leads laws defs next i.x i.q s i.m v c choices r goes i.gives stood.addresses stood.stands

  -- a write into the block's field
  stored_stands : (w : Valuation) (c : Config) (t : State) (id : EdgeId) (at : NodeId) (shape : StructId) (contents : List (Option ℤ)) (f : ℕ) (m : NodeId) (address : ℕ) (nodes : List (Option NodeId))
      → edge_with t.graph.edges id ≡ Some (edge.Block at shape nodes) → w at.0 ≡ pos address → region_of c.heap address ≡ Some (record { shape = shape.0; fields = contents })
      → StandsBy defs w c.vars (region_of c.heap) t
      → StandsBy defs w c.vars (region_of (map.insert c.heap address (with_field (record { shape = shape.0; fields = contents }) f (w m.0)))) (stored_in t id at shape nodes f m)
  stored_stands w c t id at shape contents f m address nodes has leads here st =
      let block : Block = record { shape = shape.0; fields = contents } in
      let before = region_of c.heap in
      let after = region_of (map.insert c.heap address (with_field block f (w m.0))) in
      let change : Changes before after address (Some (with_field block f (w m.0))) = laws.heaps.insert c.heap address (with_field block f (w m.0)) in
      let out = laws.states.replaced defs w c.vars before after t id (edge.Block at shape nodes) (edge.Block at shape (slice_set nodes f (Some m))) has st in
      let own = out.3 in
      let old : Block = record { shape = shape.0; fields = own.2.0 } in
      let one_address : address ≡ own.0 = (let e : pos address ≡ pos own.0 = sym leads ∙ own.1 in cc) in
      let one_block : block ≡ old = one_item block old (sym here ∙ ap before one_address ∙ laws.heaps.read before out.0 out.1 own.0 old out.2 own.2.1) in
      let moved : Changes before after own.0 (Some (with_field block f (w m.0))) = subst (λ (a : ℕ). Changes before after a (Some (with_field block f (w m.0)))) one_address change in
      let same : Changes before after own.0 (Some (with_field old f (w m.0))) = subst (λ (b : Block). Changes before after own.0 (Some (with_field b f (w m.0)))) one_block moved in
      let changed = laws.heaps.replaced before after out.0 out.1 own.0 old (with_field old f (w m.0)) out.2 own.2.1 same in
      out.4 changed.0 changed.1 (own.0, own.1, (slice_set own.2.0 f (Some (w m.0)), changed.2, vars_set w nodes own.2.0 f m own.2.2))

  pub s9_sound : (flow : Flow) (p : PointId) (s : State) (next : List Next) → S9Is flow p s next → IsSoundAt flow defs p s next
  s9_sound flow p s next i v c choices r valid bounded stood sides step =
      let region = region_of c.heap in
      let b = i.block in
      let code = instr.Store i.y i.shape i.f i.from i.q in
      let st = step_at flow defs p code c choices r i.at stood.point step in
      let fits = fits_at flow defs p code valid i.at in
      let t = with_operand s i.from in
      let met = operand_met laws defs c.vars region v s flow.vars fits.0 i.from i.m fits.3 i.value bounded stood.stands in
      let w = met.0.w in
      let listed : edge_with t.graph.edges b.id ≡ Some (edge.Block b.at i.shape b.fields) = ap (λ (g : Graph). edge_with g.edges b.id) (operand_graph s i.from) ∙ b.there in
      let out = block_out laws defs w c.vars region t b.id b.at i.shape b.fields listed met.0.stands in
      let block : Block = record { shape = i.shape.0; fields = out.contents } in
      let here = there laws defs w c.vars region t b.id b.at i.shape b.fields out in
      let is = is_address laws defs w c.vars region t b.id b.at i.shape b.fields out stood.addresses in
      let same : v i.n.0 ≡ v b.at.0 = equal_value laws defs v c.vars region s i.n b.at stood.addresses stood.stands b.equal in
      let nodes = edge_at (λ e. AreNodes s.kinds (nodes_of e)) s.graph.edges b.id (edge.Block b.at i.shape b.fields) b.there bounded.edges in
      let stays : w b.at.0 ≡ v b.at.0 = met.0.agrees b.at.0 (laws.bounds.below s b.at bounded nodes.0) in
      let value : value_in c.vars i.y ≡ Some (v i.n.0) = laws.states.known defs v c.vars region s i.y i.n stood.stands i.known in
      let lengths : length out.contents ≡ length b.fields = vars_length w b.fields out.contents out.meets in
      let inside : i.f < length out.contents = (let lt = i.field in omega arith) in
      let has_field : is_some (block_field block i.shape.0 i.f) ≡ true = ap is_some (block_field_is i.shape.0 out.contents i.f) ∙ some_field out.contents i.f inside in
      let after = map.insert c.heap out.address (with_field block i.f (w i.m.0)) in
      let goes : r ≡ with_heap i.q c choices after =
      st.1 ∙ ap₂ (stored i.shape i.f i.q st.0 c choices) met.1 value ∙ stored_is i.q st.0 c choices (v i.n.0) out.address block (same ∙ sym stays ∙ out.leads) is here i.shape i.f (w i.m.0) has_field in
      let gives = subst (λ (u : State). next ≡ moved_to i.q (stored_in u b.id b.at i.shape b.fields i.f i.m) ∷ []) i.operand i.gives in
      leads defs next 0 i.q (stored_in t b.id b.at i.shape b.fields i.f i.m) w _ choices r goes (first_of_one next (moved_to i.q (stored_in t b.id b.at i.shape b.fields i.f i.m)) gives) refl
      (laws.heaps.insert_keeps c.heap out.address (with_field block i.f (w i.m.0)) is stood.addresses)
      (stored_stands w c t b.id b.at i.shape out.contents i.f i.m out.address b.fields listed out.leads here met.0.stands)

  -- ---- allocation
  block_leads : (next : List Next) (x : VarId) (shape : StructId) (count : ℕ) (q : PointId) (p : PointId) (s : State) (v : Valuation) (c : Config) (choices : List Choice) (r : Result) (a : ℕ)
      → slice_get next 1 ≡ Some (moved_to q (with_var (with_block s shape count) x (Some (next_node s)))) → IsBounded s → IsAt defs v c p s → IsAddress a → region_of c.heap a ≡ None
      → r ≡ runs.next (record { point = q.0; vars = with_value c.vars x (Some (pos a)); heap = map.insert c.heap a (fresh_block shape.0 count) }) choices → LeadsOn defs next r
  block_leads next x shape count q p s v c choices r a gives bounded stood is free e =
      let before = region_of c.heap in
      let block = fresh_block shape.0 count in
      let heap = map.insert c.heap a block in
      let after = region_of heap in
      let fits : InKind Ptr (pos a) = (let low : 1 ≤ a = is.0 in let high : a < 2 ^ 62 = is.1 in (omega (arith, ints), omega (arith, ints))) in
      let new = new_node laws defs c.vars before v s Ptr (pos a) bounded fits stood.stands in
      let w = new.w in
      let t = with_nodes s (Ptr ∷ []) in
      let n = next_node s in
      let made = edge.Block n shape (replicate count None) in
      let added = laws.heaps.added before after a block free (laws.heaps.insert c.heap a block) in
      let part = one_part laws defs (EdgeMeets defs w) made added.0 (a, new.here, (replicate count None, added.2, unknown_vars w count)) in
      let stands = laws.states.put defs w c.vars after added.0 before t (made ∷ []) added.1 part new.stands in
      let d : Config = record { point = c.point; vars = c.vars; heap = heap } in
      set_leads_at laws defs next 1 x q (with_edges t (made ∷ [])) n w d choices r (e ∙ ap (set_to x q d choices) (sym new.here)) gives
      (laws.heaps.insert_keeps c.heap a block is stood.addresses) stands

  malloc_leads : (flow : Flow) (p : PointId) (s : State) (next : List Next) (i : S10Is flow p s next) (v : Valuation) (c : Config) (choices : List Choice) (r : Result)
      → IsBounded s → IsAt defs v c p s → Allocates flow.structs i.x i.shape i.q c choices r → LeadsOn defs next r
  malloc_leads flow p s next i v c [] r bounded stood step = absurd step
  malloc_leads flow p s next i v c (choice.malloc zero ∷ choices) r bounded stood step =
      set_leads_at laws defs next 0 i.x i.q s null v c choices r (step ∙ ap (set_to i.x i.q c choices) (sym stood.stands.null)) (ap (λ xs. slice_get xs 0) i.gives) stood.addresses stood.stands
  malloc_leads flow p s next i v c (choice.malloc (suc n) ∷ choices) r bounded stood step =
      block_leads next i.x i.shape (field_count flow.structs i.shape) i.q p s v c choices r (suc n) (ap (λ xs. slice_get xs 1) i.gives) bounded stood step.0 step.1 step.2
  malloc_leads flow p s next i v c (choice.input z ∷ choices) r bounded stood step = absurd step
  malloc_leads flow p s next i v c (choice.shape z blocks ∷ choices) r bounded stood step = absurd step

  pub s10_sound : (flow : Flow) (p : PointId) (s : State) (next : List Next) → S10Is flow p s next → IsSoundAt flow defs p s next
  s10_sound flow p s next i v c choices r valid bounded stood sides step =
      malloc_leads flow p s next i v c choices r bounded stood (step_at flow defs p (instr.Malloc i.x i.shape i.q) c choices r i.at stood.point step).1

  -- ---- freeing
  pub s11_sound : (flow : Flow) (p : PointId) (s : State) (next : List Next) → S11Is flow p s next → IsSoundAt flow defs p s next
  s11_sound flow p s next i v c choices r valid bounded stood sides step =
      let region = region_of c.heap in
      let st = step_at flow defs p (instr.Free i.from i.q) c choices r i.at stood.point step in
      let fits = fits_at flow defs p (instr.Free i.from i.q) valid i.at in
      let t = with_operand s i.from in
      let met = operand_met laws defs c.vars region v s flow.vars Ptr i.from i.n fits i.known bounded stood.stands in
      let zero : met.0.w i.n.0 ≡ pos 0 = equal_value laws defs met.0.w c.vars region t i.n null stood.addresses met.0.stands i.zero ∙ met.0.stands.null in
      leads defs next 0 i.q t met.0.w (at_point i.q c) choices r (st.1 ∙ ap (freed i.q st.0 c choices) (met.1 ∙ ap Some zero)) (first_of_one next (moved_to i.q t) i.gives) refl stood.addresses met.0.stands

  pub s12_sound : (flow : Flow) (p : PointId) (s : State) (next : List Next) → S12Is flow p s next → IsSoundAt flow defs p s next
  s12_sound flow p s next i v c choices r valid bounded stood sides step =
      let region = region_of c.heap in
      let b = i.block in
      let st = step_at flow defs p (instr.Free i.from i.q) c choices r i.at stood.point step in
      let fits = fits_at flow defs p (instr.Free i.from i.q) valid i.at in
      let met = operand_met laws defs c.vars region v s flow.vars Ptr i.from i.n fits i.known bounded stood.stands in
      let w = met.0.w in
      let stands = subst (StandsBy defs w c.vars region) (sym i.operand) met.0.stands in
      let out = block_out laws defs w c.vars region i.before b.id b.at i.shape b.fields b.there stands in
      let block : Block = record { shape = i.shape.0; fields = out.contents } in
      let here = there laws defs w c.vars region i.before b.id b.at i.shape b.fields out in
      let is = is_address laws defs w c.vars region i.before b.id b.at i.shape b.fields out stood.addresses in
      let same : w i.n.0 ≡ w b.at.0 = equal_value laws defs w c.vars region i.before i.n b.at stood.addresses stands b.equal in
      let heap = map.remove c.heap out.address in
      let after = region_of heap in
      let goes : r ≡ with_heap i.q c choices heap = st.1 ∙ ap (freed i.q st.0 c choices) met.1 ∙ freed_is i.q st.0 c choices (w i.n.0) out.address block (same ∙ out.leads) is here in
      let gone : after ≡ out.others = laws.heaps.removed region after out.part out.others out.address block out.split out.cell (laws.heaps.remove c.heap out.address) in
      let left = without i.before.graph.edges b.id in
      let t = with_only_edges i.before left in
      let atoms = freed_atoms b.at (block_starts left) in
      let rest : StandsBy defs w c.vars after t = subst (λ (u : Region). StandsBy defs w c.vars u t) (sym gone) out.stands in
      leads defs next 0 i.q (with_atoms t atoms) w _ choices r goes (first_of_one next (moved_to i.q (with_atoms t atoms)) i.gives) refl
      (laws.heaps.remove_keeps c.heap out.address stood.addresses)
      (laws.states.atoms defs w c.vars after t atoms (freed_true laws defs w c.vars region i.before b.id b.at i.shape b.fields out stood.addresses) rest)
