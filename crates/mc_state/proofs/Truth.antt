-- What is known of a state's nodes is true wherever a configuration stands for it, and so is what is entailed.
use Rattle.std.proofs.Common.{◌≡◌, ◌≢◌, ℕ, zero, suc, List, [], ◌∷◌, Option, Some, None, slice_get, refl, sym, ap, ap₂, ◌∙◌, subst, arith, ℤ, pos, ◌+ℤ◌, ◌-ℤ◌}
use Rattle.std.specs.Prelude.{IsSome}
use Rattle.std.proofs.lemmas.Int.{ints}
use Rattle.mc_base.specs.declared.ids.NodeId.{NodeId}
use Rattle.mc_base.specs.declared.ids.StructId.{StructId}
use Rattle.mc_base.specs.declared.plain.Kind.{Kind}
use Rattle.mc_base.specs.declared.plain.Kind.TheVariants.{Int, Ptr}
use Rattle.mc_base.specs.declared.plain.Atom.TheVariants.{Eq, Ne, In}
use Rattle.mc_base.specs.Atoms.{IsTrueAtom}
use Rattle.mc_base.specs.Kinds.{InKind}
use Rattle.mc_base.specs.Nodes.{Valuation}
use Rattle.mc_flow.specs.Heap.Heap as heap
use Rattle.mc_flow.specs.Heap.Heap.{Region, IsAtAddresses, IsAddress}
use Rattle.mc_flow.specs.Heap.Parts.{Joins, Split}
use Rattle.mc_flow.specs.declared.defs.rules.Def.{Def}
use Rattle.mc_state.specs.declared.graph.edge.Edge.TheVariants.{Block, Ind, Seg}
use Rattle.mc_state.specs.Graph.Graph.{Edges, block_starts}
use Rattle.mc_pure.specs.Pure as known
use Rattle.mc_pure.specs.Pure.{kind_atom, address_atom, low_of, high_of}
use Rattle.mc_pure.specs.Laws as pure
use Rattle.mc_state.specs.State.{State, pure_of}
use Rattle.mc_state.specs.Facts.{AreEqual}
use Rattle.mc_state.specs.Stands.{EdgeMeets, EdgesMeet, StandsBy}
use Rattle.mc_state.specs.Laws.{DerivedIsTrue, NoneStandsForFalse, EqualNodesAreOne, LiesInItsKind}
use Rattle.mc_state.proofs.Lists.{all_at}

-- what holds of entailed atoms
pub record PureLaws : Type 0 where
  pub derived : pure.DerivedIsTrue
  pub not_false : pure.TrueIsNotFalse

pub joins_some : (x l r : Option heap.Block) (b : heap.Block) → Joins x l r → l ≡ Some b → x ≡ Some b
joins_some x None r b j e = cc
joins_some x (Some c) None b j e = j ∙ e
joins_some x (Some c) (Some d) b j e = absurd j

joins_turned : (x l r : Option heap.Block) (b : heap.Block) → Joins x l r → r ≡ Some b → x ≡ Some b
joins_turned x None r b j e = j ∙ e
joins_turned x (Some c) None b j e = cc
joins_turned x (Some c) (Some d) b j e = absurd j

joins_both : (x l r : Option heap.Block) (b c : heap.Block) → Joins x l r → l ≡ Some b → r ≡ Some c → ⊥
joins_both x None r b c j e f = cc
joins_both x (Some d) None b c j e f = cc
joins_both x (Some d) (Some k) b c j e f = j

-- the node's value is an address at which a region has a block
pub record Lies (v : Valuation) (region : Region) (n : NodeId) : Type 0 where
  pub address : ℕ
  pub leads : v n.0 ≡ pos address
  pub block : heap.Block
  pub there : region address ≡ Some block

lies_left : (v : Valuation) (region left right : Region) (n : NodeId) → Split region left right → Lies v left n → Lies v region n
lies_left v region left right n split l =
    record { address = l.address; leads = l.leads; block = l.block; there = joins_some (region l.address) (left l.address) (right l.address) l.block (split.joins l.address) l.there }

lies_right : (v : Valuation) (region left right : Region) (n : NodeId) → Split region left right → Lies v right n → Lies v region n
lies_right v region left right n split l =
    record { address = l.address; leads = l.leads; block = l.block; there = joins_turned (region l.address) (left l.address) (right l.address) l.block (split.joins l.address) l.there }

-- blocks in two parts have two addresses
lie_apart : (v : Valuation) (region left right : Region) (a b : NodeId) → Split region left right → Lies v left a → Lies v right b → v a.0 ≢ v b.0
lie_apart v region left right a b split x y same =
    let is : x.address ≡ y.address = (let e : pos x.address ≡ pos y.address = sym x.leads ∙ same ∙ y.leads in cc) in
    joins_both (region x.address) (left x.address) (right x.address) x.block y.block (split.joins x.address) x.there (ap right is ∙ y.there)

module _ (defs : List Def) (v : Valuation) where
  block_lies : (at : NodeId) (shape : StructId) (fields : List (Option NodeId)) (part : Region) → EdgeMeets defs v (Block at shape fields) part → Lies v part at
  block_lies at shape fields part m = record { address = m.0; leads = m.1; block = record { shape = shape.0; fields = m.2.0 }; there = m.2.1.here }

  -- the blocks of edges lie in their region
  start_lies : (es : Edges) (place : ℕ) (a : NodeId) (region : Region) → slice_get (block_starts es) place ≡ Some a → EdgesMeet defs v es region → Lies v region a
  start_lies [] place a region e s = cc
  start_lies ((id, Ind at pred args) ∷ es) place a region e s = lies_right v region s.0 s.1 a s.2 (start_lies es place a s.1 e s.4)
  start_lies ((id, Seg at args pred «end» ends) ∷ es) place a region e s = lies_right v region s.0 s.1 a s.2 (start_lies es place a s.1 e s.4)
  start_lies ((id, Block at shape fields) ∷ es) zero a region e s =
      let same : at ≡ a = cc in
      lies_left v region s.0 s.1 a s.2 (subst (Lies v s.0) same (block_lies at shape fields s.0 s.3))
  start_lies ((id, Block at shape fields) ∷ es) (suc place) a region e s = lies_right v region s.0 s.1 a s.2 (start_lies es place a s.1 e s.4)

  -- and those of two edges lie apart
  starts_apart : (es : Edges) (i j : ℕ) (a b : NodeId) (region : Region) → i ≢ j → slice_get (block_starts es) i ≡ Some a → slice_get (block_starts es) j ≡ Some b → EdgesMeet defs v es region → v a.0 ≢ v b.0
  starts_apart [] i j a b region ne x y s = cc
  starts_apart ((id, Ind at pred args) ∷ es) i j a b region ne x y s = starts_apart es i j a b s.1 ne x y s.4
  starts_apart ((id, Seg at args pred «end» ends) ∷ es) i j a b region ne x y s = starts_apart es i j a b s.1 ne x y s.4
  starts_apart ((id, Block at shape fields) ∷ es) zero zero a b region ne x y s = absurd (ne refl)
  starts_apart ((id, Block at shape fields) ∷ es) zero (suc j) a b region ne x y s =
      let same : at ≡ a = cc in
      lie_apart v region s.0 s.1 a b s.2 (subst (Lies v s.0) same (block_lies at shape fields s.0 s.3)) (start_lies es j b s.1 y s.4)
  starts_apart ((id, Block at shape fields) ∷ es) (suc i) zero a b region ne x y s = λ e.
      let same : at ≡ b = cc in
      lie_apart v region s.0 s.1 b a s.2 (subst (Lies v s.0) same (block_lies at shape fields s.0 s.3)) (start_lies es i a s.1 x s.4) (sym e)
  starts_apart ((id, Block at shape fields) ∷ es) (suc i) (suc j) a b region ne x y s = starts_apart es i j a b s.1 (λ e. ne (ap suc e)) x y s.4

kind_true : (v : Valuation) (n : NodeId) (kind : Kind) → InKind kind (v n.0) → IsTrueAtom v (kind_atom n kind)
kind_true v n Int h = h
kind_true v n Ptr h = h

module _ (defs : List Def) (v : Valuation) (values : List (Option ℤ)) (region : Region) (s : State) (addresses : IsAtAddresses region) (st : StandsBy defs v values region s) where
  block_true : (place : ℕ) (a : NodeId) → slice_get (block_starts s.graph.edges) place ≡ Some a → IsTrueAtom v (address_atom a)
  block_true place a e =
      let l = lies_left v region st.parts.held st.parts.rest a st.parts.split (start_lies defs v s.graph.edges place a st.parts.held e st.parts.each) in
      let address : IsAddress l.address = addresses l.address (subst (λ (o : Option heap.Block). IsSome o) (sym l.there) refl) in
      let leads : v a.0 ≡ pos l.address = l.leads in
      (omega (arith, ints), omega (arith, ints))

  apart_true : (i j : ℕ) (a b : NodeId) → i ≢ j → slice_get (block_starts s.graph.edges) i ≡ Some a → slice_get (block_starts s.graph.edges) j ≡ Some b → IsTrueAtom v (Ne a b (pos 0))
  apart_true i j a b ne x y = λ e. starts_apart defs v s.graph.edges i j a b st.parts.held ne x y st.parts.each (let same : v a.0 ≡ v b.0 +ℤ pos 0 = e in omega (arith, ints))

  -- what is known from the beginning is true
  base_true : pure.IsTrue v (pure_of s)
  base_true f (known.written place e) = all_at (IsTrueAtom v) s.atoms place f e st.atoms
  base_true _ known.zero = (let null = st.null in omega (arith, ints), let null = st.null in omega (arith, ints))
  base_true _ (known.kind {n} {k} place e) = kind_true v n k (all_at (λ (j : NodeId × Kind). InKind j.1 (v j.0.0)) s.kinds place (n, k) e st.kinds)
  base_true _ (known.block {a} place e) = block_true place a e
  base_true _ (known.apart {a} {b} i j ne x y) = apart_true i j a b ne x y

module _ (laws : PureLaws) where
  pub derived_is_true : DerivedIsTrue
  derived_is_true defs v values region s f addresses st derived = laws.derived (pure_of s) v (base_true defs v values region s addresses st) f derived

  pub none_stands_for_false : NoneStandsForFalse
  none_stands_for_false defs values region s addresses st wrong = laws.not_false (pure_of s) st.0 (base_true defs st.0 values region s addresses st.1) wrong

  pub equal_value : (defs : List Def) (v : Valuation) (values : List (Option ℤ)) (region : Region) (s : State) (a b : NodeId) → IsAtAddresses region → StandsBy defs v values region s → AreEqual s a b → v a.0 ≡ v b.0
  equal_value defs v values region s a b addresses st equal =
      let e : v a.0 ≡ v b.0 +ℤ pos 0 = derived_is_true defs v values region s (Eq a b (pos 0)) addresses st equal in omega (arith, ints)

  pub equal_nodes_are_one : EqualNodesAreOne
  equal_nodes_are_one defs v values region s [] [] addresses st equal = refl
  equal_nodes_are_one defs v values region s [] (y ∷ ys) addresses st equal = absurd equal
  equal_nodes_are_one defs v values region s (x ∷ xs) [] addresses st equal = absurd equal
  equal_nodes_are_one defs v values region s (x ∷ xs) (y ∷ ys) addresses st equal =
      ap₂ (λ (z : ℤ) (zs : List ℤ). z ∷ zs) (equal_value defs v values region s x y addresses st equal.0) (equal_nodes_are_one defs v values region s xs ys addresses st equal.1)

  pub lies_in_its_kind : LiesInItsKind
  lies_in_its_kind defs v values region s kind n add addresses st lies =
      in_kind kind (derived_is_true defs v values region s (In n (low_of kind -ℤ add) (high_of kind -ℤ add)) addresses st lies)
    where
      in_kind : (k : Kind) → IsTrueAtom v (In n (low_of k -ℤ add) (high_of k -ℤ add)) → InKind k (v n.0 +ℤ add)
      in_kind Int t = (omega (arith, ints, t.0), omega (arith, ints, t.1))
      in_kind Ptr t = (omega (arith, ints, t.0), omega (arith, ints, t.1))
