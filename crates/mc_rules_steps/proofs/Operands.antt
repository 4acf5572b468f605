-- The nodes of operands are there, and have the operands' values.
use Rattle.std.proofs.Common.{◌≡◌, ◌≤◌, List, [], ◌∷◌, map, Bool, true, false, Option, Some, refl, sym, ap, ◌∙◌, subst, arith, inl, ℤ, pos}
use Rattle.std.specs.Prelude.{if◌then◌else◌, option_map}
use Rattle.std.specs.Ordering.{int_eq}
use Rattle.std.proofs.lemmas.Bool.Decides.{Decides-int_eq}
use Rattle.std.proofs.lemmas.Int.{ints}
use Rattle.mc_base.specs.declared.ids.NodeId.{NodeId}
use Rattle.mc_base.specs.declared.plain.Atom.TheVariants.{In}
use Rattle.mc_base.specs.declared.plain.Kind.{Kind}
use Rattle.mc_base.specs.declared.plain.Kind.TheVariants.{Int, Ptr}
use Rattle.mc_base.specs.declared.plain.VarInfo.{VarInfo}
use Rattle.mc_base.specs.Kinds.{InKind}
use Rattle.mc_base.specs.Nodes.{Valuation, null, at_node}
use Rattle.mc_flow.specs.Heap.Heap.{Region}
use Rattle.mc_flow.specs.declared.defs.rules.Def.{Def}
use Rattle.mc_flow.specs.declared.instr.Operand.{Operand}
use Rattle.mc_flow.specs.declared.instr.Operand.TheVariants.{Var, Const}
use Rattle.mc_flow.specs.Valid.{IsOperand, ArgsFit}
use Rattle.mc_flow.specs.Values.{value_of, values_of, all_there}
use Rattle.mc_pure.specs.Pure.{IsNode}
use Rattle.mc_state.specs.State.{State, next_node, with_nodes, with_number}
use Rattle.mc_state.specs.Fits.{AreNodes, IsBounded}
use Rattle.mc_state.specs.Stands.{StandsBy, AgreeBelow, extended}
use Rattle.mc_rules_steps.specs.Operands.{operand_node, with_operand, with_operands, AreNodesOf}
use Rattle.mc_rules_steps.proofs.LowerLaws.{BoundLaws, StepLaws}
use Rattle.mc_rules_steps.proofs.Lists.{known_at}

-- ---- the node of an operand changes no variable and no edge

pub operand_env : (s : State) (o : Operand) → (with_operand s o).env ≡ s.env
operand_env s (Var x) = refl
operand_env s (Const c) = at (int_eq c (pos 0))
  where
    at : (zero : Bool) → (if◌then◌else◌ {A = State} zero s (with_number s c)).env ≡ s.env
    at true = refl
    at false = refl

pub operand_graph : (s : State) (o : Operand) → (with_operand s o).graph ≡ s.graph
operand_graph s (Var x) = refl
operand_graph s (Const c) = at (int_eq c (pos 0))
  where
    at : (zero : Bool) → (if◌then◌else◌ {A = State} zero s (with_number s c)).graph ≡ s.graph
    at true = refl
    at false = refl

-- ---- nodes are there

-- these nodes are there in a bounded state, which has all the nodes of another
pub record AreThere (s : State) (ns : List NodeId) (t : State) : Type 0 where
  pub bounded : IsBounded t
  pub all : AreNodes t.kinds ns
  pub more : (m : NodeId) → IsNode s.kinds m → IsNode t.kinds m
  pub grows : s.next ≤ t.next

module _ (laws : BoundLaws) where
  const_there : (s : State) (c : ℤ) (zero : Bool) → IsBounded s
      → AreThere s (if◌then◌else◌ {A = NodeId} zero null (next_node s) ∷ []) (if◌then◌else◌ {A = State} zero s (with_number s c))
  const_there s c true b = record { bounded = b; all = ((Ptr, inl refl), tt); more = λ m h. h; grows = omega arith }
  const_there s c false b =
      let new = laws.new s (Int ∷ []) in
      record {
        bounded = laws.atoms (with_nodes s (Int ∷ [])) (In (next_node s) c c ∷ []) (laws.nodes s (Int ∷ []) b) ((new.0.0, tt), tt);
        all = (new.0.0, tt);
        more = new.1;
        grows = omega arith;
      }

  pub operand_there : (s : State) (o : Operand) (n : NodeId) → IsBounded s → operand_node s o ≡ Some n → AreThere s (n ∷ []) (with_operand s o)
  operand_there s (Var x) n b h = record { bounded = b; all = (known_at (IsNode s.kinds) s.env x.0 n h b.vars, tt); more = λ m i. i; grows = omega arith }
  operand_there s (Const c) n b h =
      let node : (if int_eq c (pos 0) then null else next_node s) ≡ n = cc in
      subst (λ (m : NodeId). AreThere s (m ∷ []) (with_operand s (Const c))) node (const_there s c (int_eq c (pos 0)) b)

  pub two_there : (s : State) (o p : Operand) (a b : NodeId) → IsBounded s → operand_node s o ≡ Some a → operand_node (with_operand s o) p ≡ Some b → AreThere s (a ∷ b ∷ []) (with_operand (with_operand s o) p)
  two_there s o p a b bounded left right =
      let first = operand_there s o a bounded left in
      let second = operand_there (with_operand s o) p b first.bounded right in
      record {
        bounded = second.bounded;
        all = (second.more a first.all.0, second.all);
        more = λ m h. second.more m (first.more m h);
        grows = (let l = first.grows in let r = second.grows in omega arith);
      }

  pub many_there : (os : List Operand) (s : State) (ns : List NodeId) → IsBounded s → AreNodesOf s os ns → AreThere s ns (with_operands s os)
  many_there [] s [] b h = record { bounded = b; all = tt; more = λ m i. i; grows = omega arith }
  many_there [] s (n ∷ ns) b h = absurd h
  many_there (o ∷ os) s [] b h = absurd h
  many_there (o ∷ os) s (n ∷ ns) b h =
      let first = operand_there s o n b h.0 in
      let others = many_there os (with_operand s o) ns first.bounded h.1 in
      record {
        bounded = others.bounded;
        all = (others.more n first.all.0, others.all);
        more = λ m i. others.more m (first.more m i);
        grows = (let l = first.grows in let r = others.grows in omega arith);
      }

-- ---- new nodes

-- a valuation that has a value for a new node, and agrees on all nodes before
pub record HasNew (defs : List Def) (v : Valuation) (values : List (Option ℤ)) (region : Region) (s : State) (kind : Kind) (z : ℤ) : Type 0 where
  pub w : Valuation
  pub agrees : AgreeBelow s.next v w
  pub here : w s.next ≡ z
  pub stands : StandsBy defs w values region (with_nodes s (kind ∷ []))

-- a constant that is not 0 is no pointer
is_int : (vars : List VarInfo) (k : Kind) (c : ℤ) → IsOperand vars k (Const c) → int_eq c (pos 0) ≡ false → InKind Int c
is_int vars Int c h e = h
is_int vars Ptr c h e = let f : int_eq c (pos 0) ≡ true = (Decides-int_eq c (pos 0)).1 h in cc

-- ---- values

-- a valuation by which the same stands for the state in which operands have nodes, and agrees on all nodes before
pub record IsMet (defs : List Def) (v : Valuation) (values : List (Option ℤ)) (region : Region) (s t : State) : Type 0 where
  pub w : Valuation
  pub agrees : AgreeBelow s.next v w
  pub stands : StandsBy defs w values region t

module _ (laws : StepLaws) (defs : List Def) (values : List (Option ℤ)) (region : Region) where
  pub new_node : (v : Valuation) (s : State) (kind : Kind) (z : ℤ) → IsBounded s → InKind kind z → StandsBy defs v values region s → HasNew defs v values region s kind z
  new_node v s kind z b fits st =
      let have = laws.states.values v s.next (z ∷ []) in
      record {
        w = extended v s.next (z ∷ []);
        agrees = have.1;
        here = (let e : extended v s.next (z ∷ []) s.next ∷ [] ≡ z ∷ [] = have.0 in cc);
        stands = laws.states.nodes defs v values region s (kind ∷ []) (z ∷ []) b (fits, tt) st;
      }

  -- the operand has the value of its node
  abbrev pub OperandMet : Valuation → State → Operand → NodeId → Type 0
  OperandMet v s o n = (m : IsMet defs v values region s (with_operand s o)) × (value_of values o ≡ Some (m.w n.0))

  const_met : (v : Valuation) (s : State) (vars : List VarInfo) (k : Kind) (c : ℤ) (zero : Bool) → IsOperand vars k (Const c) → int_eq c (pos 0) ≡ zero → IsBounded s → StandsBy defs v values region s
      → (m : IsMet defs v values region s (if◌then◌else◌ {A = State} zero s (with_number s c))) × (Some c ≡ Some (m.w (if◌then◌else◌ {A = NodeId} zero null (next_node s)).0))
  const_met v s vars k c true fits e b st =
      let value : c ≡ pos 0 = (Decides-int_eq c (pos 0)).0 e in
      (record { w = v; agrees = λ m lt. refl; stands = st }, ap Some (value ∙ sym st.null))
  const_met v s vars k c false fits e b st =
      let new = new_node v s Int c b (is_int vars k c fits e) st in
      let here = new.here in (
        record { w = new.w; agrees = new.agrees; stands = laws.states.atoms defs new.w values region (with_nodes s (Int ∷ [])) (In (next_node s) c c ∷ []) (rw here (omega (arith, ints), omega (arith, ints)), tt) new.stands },
        ap Some (sym here),
      )

  pub operand_met : (v : Valuation) (s : State) (vars : List VarInfo) (k : Kind) (o : Operand) (n : NodeId) → IsOperand vars k o → operand_node s o ≡ Some n → IsBounded s → StandsBy defs v values region s → OperandMet v s o n
  operand_met v s vars k (Var x) n fits h b st = (record { w = v; agrees = λ m lt. refl; stands = st }, laws.states.known defs v values region s x n st h)
  operand_met v s vars k (Const c) n fits h b st =
      let m = const_met v s vars k c (int_eq c (pos 0)) fits refl b st in
      let node : (if int_eq c (pos 0) then null else next_node s) ≡ n = cc in
      (m.0, m.1 ∙ ap (λ (j : NodeId). Some (m.0.w j.0)) node)

  -- two operands have the values of their nodes
  abbrev pub TwoMet : Valuation → State → Operand → Operand → NodeId → NodeId → Type 0
  TwoMet v s o p a b =
      (m : IsMet defs v values region s (with_operand (with_operand s o) p)) × (value_of values o ≡ Some (m.w a.0)) × (value_of values p ≡ Some (m.w b.0))

  pub two_met : (v : Valuation) (s : State) (vars : List VarInfo) (k : Kind) (o p : Operand) (a b : NodeId) → IsOperand vars k o → IsOperand vars k p
      → operand_node s o ≡ Some a → operand_node (with_operand s o) p ≡ Some b → IsBounded s → StandsBy defs v values region s → TwoMet v s o p a b
  two_met v s vars k o p a b fits fits' left right bounded st =
      let there = operand_there laws.bounds s o a bounded left in
      let first = operand_met v s vars k o a fits left bounded st in
      let second = operand_met first.0.w (with_operand s o) vars k p b fits' right there.bounded first.0.stands in
      let same : second.0.w a.0 ≡ first.0.w a.0 = second.0.agrees a.0 (laws.bounds.below (with_operand s o) a there.bounded there.all.0) in (
        record { w = second.0.w; agrees = λ m lt. second.0.agrees m (let more = there.grows in omega arith) ∙ first.0.agrees m lt; stands = second.0.stands },
        first.1 ∙ ap Some (sym same),
        second.1,
      )

  -- each of the operands has the value of its node
  abbrev pub ManyMet : Valuation → State → List Operand → List NodeId → Type 0
  ManyMet v s os ns = (m : IsMet defs v values region s (with_operands s os)) × (values_of values os ≡ Some (map (at_node m.w) ns))

  pub many_met : (vars : List VarInfo) (os : List Operand) (kinds : List Kind) (v : Valuation) (s : State) (ns : List NodeId) → ArgsFit vars os kinds → AreNodesOf s os ns → IsBounded s → StandsBy defs v values region s → ManyMet v s os ns
  many_met vars [] kinds v s [] fits h b st = (record { w = v; agrees = λ m lt. refl; stands = st }, refl)
  many_met vars [] kinds v s (n ∷ ns) fits h b st = absurd h
  many_met vars (o ∷ os) kinds v s [] fits h b st = absurd h
  many_met vars (o ∷ os) [] v s (n ∷ ns) fits h b st = absurd fits
  many_met vars (o ∷ os) (kind ∷ kinds) v s (n ∷ ns) fits h b st =
      let there = operand_there laws.bounds s o n b h.0 in
      let first = operand_met v s vars kind o n fits.0 h.0 b st in
      let others = many_met vars os kinds first.0.w (with_operand s o) ns fits.1 h.1 there.bounded first.0.stands in
      let same : others.0.w n.0 ≡ first.0.w n.0 = others.0.agrees n.0 (laws.bounds.below (with_operand s o) n there.bounded there.all.0) in (
        record { w = others.0.w; agrees = λ m lt. others.0.agrees m (let more = there.grows in omega arith) ∙ first.0.agrees m lt; stands = others.0.stands },
        ap (λ (x : Option ℤ). all_there (x ∷ map (value_of values) os)) (first.1 ∙ ap Some (sym same)) ∙ ap (option_map (λ (zs : List ℤ). others.0.w n.0 ∷ zs)) others.1,
      )
