-- How states stay well made.
use Rattle.std.proofs.Common.{◌≡◌, List, [], ◌∷◌, map, Bool, true, false, Some, None, refl, sym, subst, inl, arith, ℤ, pos}
use Rattle.std.specs.Prelude.{if◌then◌else◌}
use Rattle.std.specs.List.{AllByRecursion}
use Rattle.std.specs.Ordering.{int_eq}
use Rattle.std.proofs.lemmas.Bool.Decides.{Decides-int_eq}
use Rattle.std.proofs.lemmas.Int.{ints}
use Rattle.mc_base.specs.declared.ids.EdgeId.{EdgeId}
use Rattle.mc_base.specs.declared.ids.NodeId.{NodeId}
use Rattle.mc_base.specs.declared.ids.VarId.{VarId}
use Rattle.mc_base.specs.declared.plain.Atom.{Atom}
use Rattle.mc_base.specs.declared.plain.Atom.TheVariants.{In}
use Rattle.mc_base.specs.declared.plain.Kind.{Kind}
use Rattle.mc_base.specs.declared.plain.Kind.TheVariants.{Int, Ptr}
use Rattle.mc_base.specs.declared.plain.VarInfo.{VarInfo}
use Rattle.mc_base.specs.Atoms.{nodes_of_atom}
use Rattle.mc_base.specs.Kinds.{InKind}
use Rattle.mc_base.specs.Nodes.{null}
use Rattle.mc_flow.specs.declared.defs.rules.Def.{Def}
use Rattle.mc_flow.specs.declared.defs.shapes.StructInfo.{StructInfo}
use Rattle.mc_flow.specs.declared.instr.Operand.{Operand}
use Rattle.mc_flow.specs.declared.instr.Operand.TheVariants.{Var, Const}
use Rattle.mc_flow.specs.Valid.{IsVar, IsOperand, ArgsFit}
use Rattle.mc_state.specs.declared.graph.edge.Edge.{Edge}
use Rattle.mc_state.specs.Graph.Edges.{nodes_of}
use Rattle.mc_state.specs.Graph.Graph.{edge_with, without, numbered}
use Rattle.mc_pure.specs.Pure.{HasKind, IsWellFormed}
use Rattle.mc_state.specs.State.{State, next_node, with_var, without_vars, with_nodes, with_atoms, with_edges, with_only_edges, with_number}
use Rattle.mc_state.specs.Fits.{AreNodes, HaveKinds, EdgeFitsDefs, EdgeFitsStructs, IsWellMade}
use Rattle.mc_rules_steps.specs.Fitting.{HasOperand, HasOperands}
use Rattle.mc_rules_steps.specs.Judges.{with_replaced}
use Rattle.mc_rules_steps.specs.Operands.{operand_node, with_operand, with_operands, AreNodesOf}
use Rattle.mc_rules_steps.proofs.Grown.{Grows, atom_grows, defs_grow, structs_grow, all_may_grow, known_kind, kind_set, unknown_set, get_slice, map_slice, all_without, all_replaced, atom_there}
use Rattle.mc_rules_steps.proofs.Lists.{all_append, all_map}
use Rattle.mc_rules_steps.proofs.LowerLaws.{MadeLaws}

-- a constant other than 0 is an `int`
pub int_const : (vars : List VarInfo) (kind : Kind) (c : ℤ) → IsOperand vars kind (Const c) → int_eq c (pos 0) ≡ false → (kind ≡ Int) × InKind Int c
int_const vars Int c fits e = (refl, fits)
int_const vars Ptr c fits e = let zero : int_eq c (pos 0) ≡ true = (Decides-int_eq c (pos 0)).1 fits in absurd (cc (zero, e))

module _ (laws : MadeLaws) (defs : List Def) (vars : List VarInfo) (structs : List StructInfo) where
  -- the state is well made
  abbrev pub Made : State → Type 0
  Made s = IsWellMade defs vars structs s

  pub nodes_made : (s : State) (kinds : List Kind) → Made s → Made (with_nodes s kinds)
  nodes_made s kinds m =
      let t = with_nodes s kinds in
      let grows : Grows s.kinds t.kinds = (laws.kinds s kinds m.bounded).1 in
      record {
        bounded = laws.bounds.nodes s kinds m.bounded;
        atoms = all_map (IsWellFormed s.kinds) (IsWellFormed t.kinds) (atom_grows s.kinds t.kinds grows) s.atoms m.atoms;
        fits_defs = all_map (λ (e : EdgeId × Edge). EdgeFitsDefs defs s.kinds e.1) (λ (e : EdgeId × Edge). EdgeFitsDefs defs t.kinds e.1) (λ e. defs_grow s.kinds t.kinds grows defs e.1) s.graph.edges m.fits_defs;
        fits_program = record {
          vars_fit = all_may_grow s.kinds t.kinds grows (map (λ x. x.kind) vars) s.env m.fits_program.vars_fit;
          blocks_fit = all_map (λ (e : EdgeId × Edge). EdgeFitsStructs structs s.kinds e.1) (λ (e : EdgeId × Edge). EdgeFitsStructs structs t.kinds e.1) (λ e. structs_grow s.kinds t.kinds grows structs e.1) s.graph.edges m.fits_program.blocks_fit;
        };
      }

  -- the new node is of its kind
  pub new_kind : (s : State) (kind : Kind) → Made s → HasKind (with_nodes s (kind ∷ [])).kinds kind (next_node s)
  new_kind s kind m = (laws.kinds s (kind ∷ []) m.bounded).0.0

  pub new_grows : (s : State) (kind : Kind) → Made s → Grows s.kinds (with_nodes s (kind ∷ [])).kinds
  new_grows s kind m = (laws.kinds s (kind ∷ []) m.bounded).1

  pub atoms_made : (s : State) (atoms : List Atom) → Made s → AllByRecursion (IsWellFormed s.kinds) atoms → Made (with_atoms s atoms)
  atoms_made s atoms m new =
      record {
        bounded = laws.bounds.atoms s atoms m.bounded (all_map (IsWellFormed s.kinds) (λ (f : Atom). AreNodes s.kinds (nodes_of_atom f)) (atom_there s.kinds) atoms new);
        atoms = all_append (IsWellFormed s.kinds) s.atoms atoms m.atoms new;
        fits_defs = m.fits_defs;
        fits_program = record { vars_fit = m.fits_program.vars_fit; blocks_fit = m.fits_program.blocks_fit };
      }

  pub set_made : (s : State) (x : VarId) (kind : Kind) (n : NodeId) → Made s → IsVar vars kind x → HasKind s.kinds kind n → Made (with_var s x (Some n))
  set_made s x kind n m is has =
      record {
        bounded = laws.bounds.var s x (Some n) m.bounded ((kind, has), tt);
        atoms = m.atoms;
        fits_defs = m.fits_defs;
        fits_program = record {
          vars_fit = kind_set s.kinds (map (λ x. x.kind) vars) s.env x.0 kind (Some n) m.fits_program.vars_fit (map_slice (λ (x : VarInfo). x.kind) vars x.0 kind is) has;
          blocks_fit = m.fits_program.blocks_fit;
        };
      }

  pub forgotten_made : (xs : List VarId) (s : State) → Made s → Made (without_vars s xs)
  forgotten_made [] s m = m
  forgotten_made (x ∷ xs) s m =
      forgotten_made xs (with_var s x None) (record {
        bounded = laws.bounds.var s x None m.bounded tt;
        atoms = m.atoms;
        fits_defs = m.fits_defs;
        fits_program = record { vars_fit = unknown_set s.kinds (map (λ x. x.kind) vars) s.env x.0 m.fits_program.vars_fit; blocks_fit = m.fits_program.blocks_fit };
      })

  pub edge_made : (s : State) (e : Edge) → Made s → AreNodes s.kinds (nodes_of e) → EdgeFitsDefs defs s.kinds e → EdgeFitsStructs structs s.kinds e → Made (with_edges s (e ∷ []))
  edge_made s e m there fits fits' =
      let new = numbered s.graph.next (e ∷ []) in
      record {
        bounded = laws.bounds.edges s (e ∷ []) m.bounded (there, tt);
        atoms = m.atoms;
        fits_defs = all_append (λ (e : EdgeId × Edge). EdgeFitsDefs defs s.kinds e.1) s.graph.edges new m.fits_defs (fits, tt);
        fits_program = record {
          vars_fit = m.fits_program.vars_fit;
          blocks_fit = all_append (λ (e : EdgeId × Edge). EdgeFitsStructs structs s.kinds e.1) s.graph.edges new m.fits_program.blocks_fit (fits', tt);
        };
      }

  pub fewer_made : (s : State) (id : EdgeId) (e : Edge) → Made s → edge_with s.graph.edges id ≡ Some e → Made (with_only_edges s (without s.graph.edges id))
  fewer_made s id e m there =
      let left = without s.graph.edges id in
      record {
        bounded = laws.bounds.fewer_edges s (id ∷ []) (e ∷ []) left (there, (refl, refl)) m.bounded;
        atoms = m.atoms;
        fits_defs = all_without (EdgeFitsDefs defs s.kinds) s.graph.edges id m.fits_defs;
        fits_program = record { vars_fit = m.fits_program.vars_fit; blocks_fit = all_without (EdgeFitsStructs structs s.kinds) s.graph.edges id m.fits_program.blocks_fit };
      }

  pub replaced_made : (s : State) (id : EdgeId) (new : Edge) → Made s → AreNodes s.kinds (nodes_of new) → EdgeFitsDefs defs s.kinds new → EdgeFitsStructs structs s.kinds new → Made (with_replaced s id new)
  replaced_made s id new m there fits fits' =
      record {
        bounded = laws.bounds.replaced s id new m.bounded there;
        atoms = m.atoms;
        fits_defs = all_replaced (EdgeFitsDefs defs s.kinds) s.graph.edges id new fits m.fits_defs;
        fits_program = record { vars_fit = m.fits_program.vars_fit; blocks_fit = all_replaced (EdgeFitsStructs structs s.kinds) s.graph.edges id new fits' m.fits_program.blocks_fit };
      }

  -- ---- operands

  -- the state with an operand's node, which is of a kind
  abbrev pub OperandMade : State → Kind → NodeId → State → Type 0
  OperandMade s kind n t = HasOperand defs vars structs s kind n t

  pub var_kind : (s : State) (x : VarId) (kind : Kind) (n : NodeId) → Made s → IsVar vars kind x → operand_node s (Var x) ≡ Some n → HasKind s.kinds kind n
  var_kind s x kind n m is known =
      known_kind s.kinds (map (λ x. x.kind) vars) s.env x.0 kind n m.fits_program.vars_fit (map_slice (λ (x : VarInfo). x.kind) vars x.0 kind is) (get_slice s.env x.0 n known)

  const_made : (s : State) (kind : Kind) (c : ℤ) (zero : Bool) → IsOperand vars kind (Const c) → int_eq c (pos 0) ≡ zero → Made s
      → OperandMade s kind (if◌then◌else◌ {A = NodeId} zero null (next_node s)) (if◌then◌else◌ {A = State} zero s (with_number s c))
  const_made s kind c true fits e m = record { made = m; has = inl refl; grows = λ k n h. h; vars_stay = refl; edges_stay = refl }
  const_made s kind c false fits e m =
      let is = int_const vars kind c fits e in
      let low = is.1.0 in
      let high = is.1.1 in
      let t = with_nodes s (Int ∷ []) in
      let has = new_kind s Int m in
      record {
        made = atoms_made t (In (next_node s) c c ∷ []) (nodes_made s (Int ∷ []) m) (((Int, has), (omega (arith, ints), omega (arith, ints)), (omega (arith, ints), omega (arith, ints))), tt);
        has = subst (λ (k : Kind). HasKind t.kinds k (next_node s)) (sym is.0) has;
        grows = new_grows s Int m;
        vars_stay = refl;
        edges_stay = refl;
      }

  pub operand_made : (s : State) (kind : Kind) (o : Operand) (n : NodeId) → Made s → IsOperand vars kind o → operand_node s o ≡ Some n → OperandMade s kind n (with_operand s o)
  operand_made s kind (Var x) n m fits known = record { made = m; has = var_kind s x kind n m fits known; grows = λ k n h. h; vars_stay = refl; edges_stay = refl }
  operand_made s kind (Const c) n m fits known =
      let node : (if int_eq c (pos 0) then null else next_node s) ≡ n = cc known in
      subst (λ (m : NodeId). OperandMade s kind m (with_operand s (Const c))) node (const_made s kind c (int_eq c (pos 0)) fits refl m)

  -- the state with two operands' nodes, which are of a kind
  pub record TwoMade (s : State) (kind : Kind) (a b : NodeId) (t : State) : Type 0 where
    pub made : Made t
    pub left : HasKind t.kinds kind a
    pub right : HasKind t.kinds kind b

  pub two_made : (s : State) (kind : Kind) (o o' : Operand) (a b : NodeId) → Made s → IsOperand vars kind o → IsOperand vars kind o' → operand_node s o ≡ Some a → operand_node (with_operand s o) o' ≡ Some b
      → TwoMade s kind a b (with_operand (with_operand s o) o')
  two_made s kind o o' a b m fits fits' left right =
      let one = operand_made s kind o a m fits left in
      let two = operand_made (with_operand s o) kind o' b one.made fits' right in
      record { made = two.made; left = two.grows kind a one.has; right = two.has }

  -- the state with many operands' nodes, each of its kind
  abbrev pub ManyMade : State → List Kind → List NodeId → State → Type 0
  ManyMade s kinds ns t = HasOperands defs vars structs s kinds ns t

  pub many_made : (os : List Operand) (kinds : List Kind) (s : State) (ns : List NodeId) → Made s → ArgsFit vars os kinds → AreNodesOf s os ns → ManyMade s kinds ns (with_operands s os)
  many_made [] [] s [] m fits h = record { made = m; have' = tt; grows = λ k n h. h }
  many_made [] (k ∷ kinds) s [] m fits h = absurd fits
  many_made [] kinds s (n ∷ ns) m fits h = absurd h
  many_made (o ∷ os) kinds s [] m fits h = absurd h
  many_made (o ∷ os) [] s (n ∷ ns) m fits h = absurd fits
  many_made (o ∷ os) (kind ∷ kinds) s (n ∷ ns) m fits h =
      let one = operand_made s kind o n m fits.0 h.0 in
      let more = many_made os kinds (with_operand s o) ns one.made fits.1 h.1 in
      record { made = more.made; have' = (more.grows kind n one.has, more.have'); grows = λ k j i. more.grows k j (one.grows k j i) }
