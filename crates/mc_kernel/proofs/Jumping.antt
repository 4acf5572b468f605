-- What stands for a state stands for one that it jumps to.
use Rattle.std.proofs.Common.{◌≡◌, List, [], ◌∷◌, map, Option, Some, None, sym, ap, ◌∙◌, subst, arith, ℤ, pos}
use Rattle.std.specs.List.{AllByRecursion}
use Rattle.std.proofs.lemmas.Int.{ints}
use Rattle.std.proofs.lemmas.Simd.{map-map}
use Rattle.mc_base.specs.declared.ids.EdgeId.{EdgeId}
use Rattle.mc_base.specs.declared.ids.NodeId.{NodeId}
use Rattle.mc_base.specs.declared.ids.PredId.{PredId}
use Rattle.mc_base.specs.declared.plain.Kind.{Kind}
use Rattle.mc_base.specs.declared.plain.Kind.TheVariants.{Int, Ptr}
use Rattle.mc_base.specs.declared.plain.Atom.{Atom}
use Rattle.mc_base.specs.declared.plain.Atom.TheVariants.{Eq, Ne, In}
use Rattle.mc_base.specs.Atoms.{IsTrueAtom, moved_atom}
use Rattle.mc_base.specs.Kinds.{InKind}
use Rattle.mc_base.specs.Nodes.{Valuation, at_node, moved}
use Rattle.mc_flow.specs.Heap.Heap.{Region, IsAtAddresses}
use Rattle.mc_flow.specs.Heap.Parts.{Star, IsCell}
use Rattle.mc_flow.specs.declared.defs.rules.Def.{Def}
use Rattle.mc_flow.specs.Defs.Meaning.{Sat, Seg as Segment}
use Rattle.mc_state.specs.declared.graph.edge.Edge.{Edge}
use Rattle.mc_state.specs.declared.graph.edge.Edge.TheVariants.{Block, Ind, Seg}
use Rattle.mc_state.specs.Graph.Graph.{Edges}
use Rattle.mc_pure.specs.Pure.{Kinds, HasKind, low_of, high_of}
use Rattle.mc_pure.specs.Derived.{LiesIn}
use Rattle.mc_state.specs.State.{State, pure_of, with_only_edges}
use Rattle.mc_state.specs.Facts.{Derives, AreEqual}
use Rattle.mc_state.specs.Stands.{VarMeets, VarsMeet, EdgeMeets, StandsBy}
use Rattle.mc_state.specs.Laws.{DerivedIsTrue, EqualNodesAreOne, EdgesAreTaken, WholeWithoutEdges}
use Rattle.mc_kernel.specs.Jumps.{Jumps, image_of, IsKnownToo, AreKnownToo, AreImages, EdgeMatches, EdgesMatch}
use Rattle.mc_kernel.specs.JumpLaws.{JumpsAreSound}

-- the laws of states that jumps rest on
pub record StateLaws : Type 0 where
  pub derived : DerivedIsTrue
  pub equal : EqualNodesAreOne
  pub taken : EdgesAreTaken
  pub whole : WholeWithoutEdges

same_sat : (defs : List Def) (pred own : PredId) (x y : ℤ) (xs ys : List ℤ) (part : Region) → own ≡ pred → x ≡ y → xs ≡ ys → Sat defs own y ys part → Sat defs pred x xs part
same_sat defs pred own x y xs ys part e f g m = rw (← e, f, g) m

same_seg : (defs : List Def) (pred own : PredId) (x y : ℤ) (xs ys : List ℤ) (a b : ℤ) (as' bs : List ℤ) (part : Region)
    → own ≡ pred → x ≡ y → xs ≡ ys → a ≡ b → as' ≡ bs → Segment defs own y ys b bs part → Segment defs pred x xs a as' part
same_seg defs pred own x y xs ys a b as' bs part e f g h i m = rw (← e, f, g, h, i) m

module _ (laws : StateLaws) (defs : List Def) (v : Valuation) (values : List (Option ℤ)) (region : Region) (s : State) (images : List NodeId) (addresses : IsAtAddresses region) (st : StandsBy defs v values region s) where
  abbrev imaged : Valuation
  imaged n = v (image_of images n)

  same_node : (a b : NodeId) → AreEqual s a b → v a.0 ≡ v b.0
  same_node a b e = let t = laws.derived defs v values region s (Eq a b (pos 0)) addresses st e in omega (arith, ints, t)

  same_nodes : (theres heres : List NodeId) → AreImages s images theres heres → map (at_node imaged) theres ≡ map (at_node v) heres
  same_nodes theres heres e =
      sym (map-map (at_node v) (moved (image_of images)) theres) ∙ laws.equal defs v values region s (map (moved (image_of images)) theres) heres addresses st e

  var_stands : (there here : Option NodeId) (z : Option ℤ) → IsKnownToo s images there here → VarMeets v here z → VarMeets imaged there z
  var_stands None here z c m = tt
  var_stands (Some n) None z c m = absurd c
  var_stands (Some n) (Some k) z c m = m ∙ ap Some (sym (same_node (moved (image_of images) n) k c))

  vars_stand : (theres heres : List (Option NodeId)) (zs : List (Option ℤ)) → AreKnownToo s images theres heres → VarsMeet v heres zs → VarsMeet imaged theres zs
  vars_stand [] [] [] c m = tt
  vars_stand [] [] (z ∷ zs) c m = absurd m
  vars_stand [] (here ∷ heres) zs c m = absurd c
  vars_stand (there ∷ theres) [] zs c m = absurd c
  vars_stand (there ∷ theres) (here ∷ heres) [] c m = absurd m
  vars_stand (there ∷ theres) (here ∷ heres) (z ∷ zs) c m = (var_stands there here z c.0 m.0, vars_stand theres heres zs c.1 m.1)

  edge_stands : (t e : Edge) (part : Region) → EdgeMatches s images t e → EdgeMeets defs v e part → EdgeMeets defs imaged t part
  edge_stands (Block at shape fields) (Block b own heres) part c m = (
    m.0,
    same_node (moved (image_of images) at) b c.1 ∙ m.1,
    (m.2.0, subst (λ sh. IsCell part m.0 (record { shape = sh.0; fields = m.2.0 })) c.0 m.2.1, vars_stand fields heres m.2.0 c.2 m.2.2),
  )
  edge_stands (Ind at pred args) (Ind b own heres) part c m =
      same_sat defs pred own (imaged at.0) (v b.0) (map (at_node imaged) args) (map (at_node v) heres) part c.0 (same_node (moved (image_of images) at) b c.1) (same_nodes args heres c.2) m
  edge_stands (Seg at args pred stop ends) (Seg b heres own e there) part c m =
      same_seg defs pred own (imaged at.0) (v b.0) (map (at_node imaged) args) (map (at_node v) heres) (imaged stop.0) (v e.0) (map (at_node imaged) ends) (map (at_node v) there) part
      c.0 (same_node (moved (image_of images) at) b c.1) (same_nodes args heres c.2) (same_node (moved (image_of images) stop) e c.3) (same_nodes ends there c.4) m
  edge_stands (Block at shape fields) (Ind b own heres) part c m = absurd c
  edge_stands (Block at shape fields) (Seg b heres own e there) part c m = absurd c
  edge_stands (Ind at pred args) (Block b own heres) part c m = absurd c
  edge_stands (Ind at pred args) (Seg b heres own e there) part c m = absurd c
  edge_stands (Seg at args pred stop ends) (Block b own heres) part c m = absurd c
  edge_stands (Seg at args pred stop ends) (Ind b own heres) part c m = absurd c

  edges_stand : (ts : Edges) (es : List Edge) (part : Region) → EdgesMatch s images ts es → Star (EdgeMeets defs v) es part → Star (λ (t : EdgeId × Edge). EdgeMeets defs imaged t.1) ts part
  edges_stand [] [] part c m = m
  edges_stand [] (e ∷ es) part c m = absurd c
  edges_stand (t ∷ ts) [] part c m = absurd c
  edges_stand (t ∷ ts) (e ∷ es) part c m = (m.0, m.1, m.2, edge_stands t.1 e m.0 c.0 m.3, edges_stand ts es m.1 c.1 m.4)

  kind_stands : (kind : Kind) (n : NodeId) → LiesIn (pure_of s) kind (moved (image_of images) n) (pos 0) → InKind kind (imaged n.0)
  kind_stands Int n d =
      laws.derived defs v values region s (In (moved (image_of images) n) (low_of Int) (high_of Int)) addresses st d
  kind_stands Ptr n d =
      laws.derived defs v values region s (In (moved (image_of images) n) (low_of Ptr) (high_of Ptr)) addresses st d

  kinds_stand : (ks : Kinds) → AllByRecursion (λ (k : NodeId × Kind). HasKind s.kinds k.1 (moved (image_of images) k.0) × LiesIn (pure_of s) k.1 (moved (image_of images) k.0) (pos 0)) ks
      → AllByRecursion (λ (k : NodeId × Kind). InKind k.1 (imaged k.0.0)) ks
  kinds_stand [] a = tt
  kinds_stand (k ∷ ks) a = (kind_stands k.1 k.0 a.0.1, kinds_stand ks a.1)

  atom_stands : (f : Atom) → Derives s (moved_atom (image_of images) f) → IsTrueAtom imaged f
  atom_stands (Eq a b c) d = laws.derived defs v values region s (moved_atom (image_of images) (Eq a b c)) addresses st d
  atom_stands (Ne a b c) d = laws.derived defs v values region s (moved_atom (image_of images) (Ne a b c)) addresses st d
  atom_stands (In a lo hi) d = laws.derived defs v values region s (moved_atom (image_of images) (In a lo hi)) addresses st d

  atoms_stand : (fs : List Atom) → AllByRecursion (λ f. Derives s (moved_atom (image_of images) f)) fs → AllByRecursion (IsTrueAtom imaged) fs
  atoms_stand [] a = tt
  atoms_stand (f ∷ fs) a = (atom_stands f a.0, atoms_stand fs a.1)

  pub jumped : (t : State) (edges : List EdgeId) → Jumps s t images edges → StandsBy defs imaged values region t
  jumped t edges j =
      let got = laws.taken defs v values region s edges j.picked j.left j.picks st in
      record {
        null = ap v j.null_image ∙ st.null;
        kinds = kinds_stand t.kinds j.kinds;
        atoms = atoms_stand t.atoms j.atoms;
        vars = vars_stand t.env s.env values j.vars st.vars;
        parts = record {
          held = got.0;
          rest = got.1;
          split = got.2;
          each = edges_stand t.graph.edges j.picked got.0 j.match got.3;
          alone = λ whole. let both = j.whole whole in laws.whole defs values got.1 (with_only_edges s j.left) both.0 both.1 (v, got.4);
        };
      }

pub jumps_are_sound : StateLaws → JumpsAreSound
jumps_are_sound laws defs v values region s t images edges addresses j st = jumped laws defs v values region s images addresses st t edges j
