-- What meets an edge of a side meets the edge of the result that is made of it, and what meets an edge goes on to meet
-- it where its nodes keep their values.
use Rattle.std.proofs.Common.{◌≡◌, ◌<◌, ◌+◌, ℕ, suc, ℤ, pos, List, [], ◌∷◌, Bool, true, false, Option, Some, None, length, map, slice_get, refl, ap, ap₂, sym, ◌∙◌, subst, arith}
use Rattle.std.specs.Prelude.{◌||◌, not, cond, nat_lt, unwrap_or, zip}
use Rattle.std.specs.List.{AllByRecursion, list_any, prefix_len}
use Rattle.mc_base.specs.declared.ids.EdgeId.{EdgeId}
use Rattle.mc_base.specs.declared.ids.NodeId.{NodeId}
use Rattle.mc_base.specs.declared.ids.PredId.{PredId}
use Rattle.mc_base.specs.declared.ids.StructId.{StructId}
use Rattle.mc_base.specs.declared.plain.Kind.{Kind}
use Rattle.mc_base.specs.declared.plain.Kind.TheVariants.{Ptr}
use Rattle.mc_base.specs.Nodes.{Valuation, at_node}
use Rattle.mc_flow.specs.Heap.Heap.{Region}
use Rattle.mc_flow.specs.Heap.Parts.{IsCell}
use Rattle.mc_flow.specs.declared.defs.rules.Def.{Def}
use Rattle.mc_flow.specs.declared.defs.shapes.StructInfo.{StructInfo}
use Rattle.mc_flow.specs.Defs.Meaning as meaning
use Rattle.mc_flow.specs.Defs.Meaning.{Sat}
use Rattle.mc_state.specs.declared.graph.edge.Edge.{Edge}
use Rattle.mc_state.specs.declared.graph.edge.Edge.TheVariants.{Block, Ind, Seg}
use Rattle.mc_state.specs.Graph.Edges.{start_of}
use Rattle.mc_state.specs.Graph.Graph.{Edges}
use Rattle.mc_pure_ops.specs.Join.Joint.{Pairs}
use Rattle.mc_pure.specs.Pure.{Kinds, HasKind}
use Rattle.mc_state.specs.declared.line.Side.{Side}
use Rattle.mc_state.specs.declared.line.Side.TheVariants.{Left, Right}
use Rattle.mc_state.specs.Fits.{HaveKinds, MayHaveKinds}
use Rattle.mc_state.specs.Stands.{VarsMeet, EdgeMeets, EdgesMeet}
use Rattle.mc_joins.specs.Joinings.{Pair, of_side, same_pair, known_both}
use Rattle.mc_joins.specs.Steps.{pairs_of, node_for, nodes_for, known_for, edge_for}
use Rattle.mc_joins.proofs.JointEdges.{Alike, all_front, one_params, one_fields}
use Rattle.mc_joins.proofs.JointKinds.{Listed, same_of}
use Rattle.mc_joins.proofs.NamedKinds.{Fits}

-- a side's of two
abbrev pub pick : {X : Type 0} → Side → X → X → X
pick Left x y = x
pick Right x y = y

-- each node of the result has the value of its pair's node of the side
abbrev pub Respects : Side → Pairs → Valuation → Valuation → Type 0
Respects side pairs v w = (n : ℕ) (p : Pair) → slice_get pairs n ≡ Some p → w n ≡ v (of_side side p).0

-- ---- places of pairs

true_lt : (a b : ℕ) → a < b → nat_lt a b ≡ true
true_lt a b e = grind arith

place_of : (ps : Pairs) (x : Pair) → Listed ps x
    → (prefix_len (λ q. not (same_pair x q)) ps < length ps) × (slice_get ps (prefix_len (λ q. not (same_pair x q)) ps) ≡ Some x)
place_of [] x l = absurd (cc l)
place_of (p ∷ ps) x l = at (same_pair x p) refl (λ f. place_of ps x f) l
  where
    at : (b : Bool) → same_pair x p ≡ b
        → (list_any (same_pair x) ps ≡ true → (prefix_len (λ q. not (same_pair x q)) ps < length ps) × (slice_get ps (prefix_len (λ q. not (same_pair x q)) ps) ≡ Some x))
        → (b || list_any (same_pair x) ps) ≡ true
        → (cond (not b) (1 + prefix_len (λ q. not (same_pair x q)) ps) 0 < length (p ∷ ps)) × (slice_get (p ∷ ps) (cond (not b) (1 + prefix_len (λ q. not (same_pair x q)) ps) 0) ≡ Some x)
    at true is rest l = (omega arith, ap (λ (q : Pair). Some q) (sym (same_of x p is)))
    at false is rest l =
        let r = rest l in
        let k = prefix_len (λ q. not (same_pair x q)) ps in
        let less = r.0 in
        let same : suc k ≡ 1 + k = omega arith in
        (omega arith, subst (λ (m : ℕ). slice_get (p ∷ ps) m ≡ Some x) same r.1)

-- the node of the result for a listed pair is the pair's place
pub node_place : (ps : Pairs) (l r : NodeId) → Listed ps (l, r) → slice_get ps (node_for ps l r).0 ≡ Some (l, r)
node_place ps l r listed =
    let got = place_of ps (l, r) listed in
    let k = prefix_len (λ q. not (same_pair (l, r) q)) ps in
    ap (λ (b : Bool). slice_get ps (unwrap_or (cond b (Some k) None) 0)) (true_lt k (length ps) got.0) ∙ got.1

-- ---- lists of one length

abbrev pub AsLong : {X Y : Type 0} → List X → List Y → Type 0
AsLong [] [] = Unit {0}
AsLong [] (y ∷ ys) = ⊥
AsLong (x ∷ xs) [] = ⊥
AsLong (x ∷ xs) (y ∷ ys) = AsLong xs ys

have_long : (lk rk : Kinds) (ks : List Kind) (xs ys : List NodeId) → HaveKinds lk ks xs → HaveKinds rk ks ys → AsLong xs ys
have_long lk rk [] [] [] h g = tt
have_long lk rk [] [] (y ∷ ys) h g = absurd g
have_long lk rk [] (x ∷ xs) ys h g = absurd h
have_long lk rk (k ∷ ks) [] ys h g = absurd h
have_long lk rk (k ∷ ks) (x ∷ xs) [] h g = absurd g
have_long lk rk (k ∷ ks) (x ∷ xs) (y ∷ ys) h g = have_long lk rk ks xs ys h.1 g.1

pub may_long : (lk rk : Kinds) (ks : List Kind) (xs ys : List (Option NodeId)) → MayHaveKinds lk ks xs → MayHaveKinds rk ks ys → AsLong xs ys
may_long lk rk [] [] [] h g = tt
may_long lk rk [] [] (y ∷ ys) h g = absurd g
may_long lk rk [] (x ∷ xs) ys h g = absurd h
may_long lk rk (k ∷ ks) [] ys h g = absurd h
may_long lk rk (k ∷ ks) (x ∷ xs) [] h g = absurd g
may_long lk rk (k ∷ ks) (x ∷ xs) (y ∷ ys) h g = may_long lk rk ks xs ys h.1 g.1

zip_left : (v : Valuation) (xs ys : List NodeId) → AsLong xs ys → map (λ (p : Pair). v p.0.0) (zip xs ys) ≡ map (at_node v) xs
zip_left v [] [] a = refl
zip_left v [] (y ∷ ys) a = absurd a
zip_left v (x ∷ xs) [] a = absurd a
zip_left v (x ∷ xs) (y ∷ ys) a = ap (λ (zs : List ℤ). v x.0 ∷ zs) (zip_left v xs ys a)

zip_right : (v : Valuation) (xs ys : List NodeId) → AsLong xs ys → map (λ (p : Pair). v p.1.0) (zip xs ys) ≡ map (at_node v) ys
zip_right v [] [] a = refl
zip_right v [] (y ∷ ys) a = absurd a
zip_right v (x ∷ xs) [] a = absurd a
zip_right v (x ∷ xs) (y ∷ ys) a = ap (λ (zs : List ℤ). v y.0 ∷ zs) (zip_right v xs ys a)

zip_side : (side : Side) (v : Valuation) (xs ys : List NodeId) → AsLong xs ys → map (λ (p : Pair). v (of_side side p).0) (zip xs ys) ≡ map (at_node v) (pick side xs ys)
zip_side Left v xs ys a = zip_left v xs ys a
zip_side Right v xs ys a = zip_right v xs ys a

-- ---- known nodes

module _ (pairs : Pairs) (v w : Valuation) where
  vars_left : ((l r : NodeId) → Listed pairs (l, r) → w (node_for pairs l r).0 ≡ v l.0) → (xs ys : List (Option NodeId)) (zs : List (Option ℤ)) → AsLong xs ys
      → AllByRecursion (Listed pairs) (known_both xs ys) → VarsMeet v xs zs → VarsMeet w (known_for pairs xs ys) zs
  vars_left is [] [] [] a l m = m
  vars_left is [] [] (z ∷ zs) a l m = m
  vars_left is [] (y ∷ ys) zs a l m = absurd a
  vars_left is (x ∷ xs) [] zs a l m = absurd a
  vars_left is (x ∷ xs) (y ∷ ys) [] a l m = absurd m
  vars_left is (None ∷ xs) (y ∷ ys) (z ∷ zs) a l m = (tt, vars_left is xs ys zs a l m.1)
  vars_left is (Some x ∷ xs) (None ∷ ys) (z ∷ zs) a l m = (tt, vars_left is xs ys zs a l m.1)
  vars_left is (Some x ∷ xs) (Some y ∷ ys) (z ∷ zs) a l m = (m.0 ∙ ap (λ (k : ℤ). Some k) (sym (is x y l.0)), vars_left is xs ys zs a l.1 m.1)

  vars_right : ((l r : NodeId) → Listed pairs (l, r) → w (node_for pairs l r).0 ≡ v r.0) → (xs ys : List (Option NodeId)) (zs : List (Option ℤ)) → AsLong xs ys
      → AllByRecursion (Listed pairs) (known_both xs ys) → VarsMeet v ys zs → VarsMeet w (known_for pairs xs ys) zs
  vars_right is [] [] [] a l m = m
  vars_right is [] [] (z ∷ zs) a l m = m
  vars_right is [] (y ∷ ys) zs a l m = absurd a
  vars_right is (x ∷ xs) [] zs a l m = absurd a
  vars_right is (x ∷ xs) (y ∷ ys) [] a l m = absurd m
  vars_right is (None ∷ xs) (y ∷ ys) (z ∷ zs) a l m = (tt, vars_right is xs ys zs a l m.1)
  vars_right is (Some x ∷ xs) (None ∷ ys) (z ∷ zs) a l m = (tt, vars_right is xs ys zs a l m.1)
  vars_right is (Some x ∷ xs) (Some y ∷ ys) (z ∷ zs) a l m = (m.0 ∙ ap (λ (k : ℤ). Some k) (sym (is x y l.0)), vars_right is xs ys zs a l.1 m.1)

-- ---- the edge of the result

module _ (side : Side) (pairs : Pairs) (v w : Valuation) (respects : Respects side pairs v w) where
  node_value : (l r : NodeId) → Listed pairs (l, r) → w (node_for pairs l r).0 ≡ v (of_side side (l, r)).0
  node_value l r listed = respects (node_for pairs l r).0 (l, r) (node_place pairs l r listed)

  pairs_value : (ps : Pairs) → AllByRecursion (Listed pairs) ps → map (at_node w) (map (λ (p : Pair). node_for pairs p.0 p.1) ps) ≡ map (λ (p : Pair). v (of_side side p).0) ps
  pairs_value [] a = refl
  pairs_value (p ∷ ps) a = ap₂ (λ (z : ℤ) (zs : List ℤ). z ∷ zs) (node_value p.0 p.1 a.0) (pairs_value ps a.1)

  nodes_value : (xs ys : List NodeId) → AsLong xs ys → AllByRecursion (Listed pairs) (zip xs ys) → map (at_node w) (nodes_for pairs xs ys) ≡ map (at_node v) (pick side xs ys)
  nodes_value xs ys long listed = pairs_value (zip xs ys) listed ∙ zip_side side v xs ys long

pub vars_side : (side : Side) (pairs : Pairs) (v w : Valuation) → Respects side pairs v w → (xs ys : List (Option NodeId)) (zs : List (Option ℤ)) → AsLong xs ys
    → AllByRecursion (Listed pairs) (known_both xs ys) → VarsMeet v (pick side xs ys) zs → VarsMeet w (known_for pairs xs ys) zs
vars_side Left pairs v w respects xs ys zs long listed m = vars_left pairs v w (node_value Left pairs v w respects) xs ys zs long listed m
vars_side Right pairs v w respects xs ys zs long listed m = vars_right pairs v w (node_value Right pairs v w respects) xs ys zs long listed m

module _ (defs : List Def) (v : Valuation) where
  -- a block of the struct at the pair's node, with these fields
  abbrev IsBlock : NodeId → StructId → List (Option NodeId) → Region → Type 0
  IsBlock at shape fields part =
      (address : ℕ) × (v at.0 ≡ pos address) × ((values : List (Option ℤ)) × IsCell part address (record { shape = shape.0; fields = values }) × VarsMeet v fields values)

  block_side : (side : Side) (a b : NodeId) (shape own : StructId) (fields others : List (Option NodeId)) (part : Region) → shape ≡ own
      → EdgeMeets defs v (pick side (Block a shape fields) (Block b own others)) part → IsBlock (of_side side (a, b)) shape (pick side fields others) part
  block_side Left a b shape own fields others part s m = m
  block_side Right a b shape own fields others part s m =
      (m.0, m.1, (m.2.0, subst (λ (sh : StructId). IsCell part m.0 (record { shape = sh.0; fields = m.2.0 })) (sym s) m.2.1, m.2.2))

  ind_side : (side : Side) (a b : NodeId) (pred own : PredId) (args others : List NodeId) (part : Region) → pred ≡ own
      → EdgeMeets defs v (pick side (Ind a pred args) (Ind b own others)) part → Sat defs pred (v (of_side side (a, b)).0) (map (at_node v) (pick side args others)) part
  ind_side Left a b pred own args others part s m = m
  ind_side Right a b pred own args others part s m = subst (λ (p : PredId). Sat defs p (v b.0) (map (at_node v) others) part) (sym s) m

  seg_side : (side : Side) (a b : NodeId) (pred own : PredId) (args others : List NodeId) («end» stop : NodeId) (ends stops : List NodeId) (part : Region) → pred ≡ own
      → EdgeMeets defs v (pick side (Seg a args pred end ends) (Seg b others own stop stops)) part
      → meaning.Seg defs pred (v (of_side side (a, b)).0) (map (at_node v) (pick side args others)) (v (of_side side (end, stop)).0) (map (at_node v) (pick side ends stops)) part
  seg_side Left a b pred own args others «end» stop ends stops part s m = m
  seg_side Right a b pred own args others «end» stop ends stops part s m =
      subst (λ (p : PredId). meaning.Seg defs p (v b.0) (map (at_node v) others) (v stop.0) (map (at_node v) stops) part) (sym s) m

pub same_sat : (defs : List Def) (pred : PredId) (x y : ℤ) (xs ys : List ℤ) (part : Region) → x ≡ y → xs ≡ ys → Sat defs pred y ys part → Sat defs pred x xs part
same_sat defs pred x y xs ys part e f m =
    subst (λ (z : ℤ). Sat defs pred z xs part) (sym e) (subst (λ (zs : List ℤ). Sat defs pred y zs part) (sym f) m)

pub same_seg : (defs : List Def) (pred : PredId) (x y : ℤ) (xs ys : List ℤ) (a b : ℤ) (as' bs : List ℤ) (part : Region)
    → x ≡ y → xs ≡ ys → a ≡ b → as' ≡ bs → meaning.Seg defs pred y ys b bs part → meaning.Seg defs pred x xs a as' part
same_seg defs pred x y xs ys a b as' bs part e f g h m =
    subst (λ (z : ℤ). meaning.Seg defs pred z xs a as' part) (sym e)
    (subst (λ (zs : List ℤ). meaning.Seg defs pred y zs a as' part) (sym f)
    (subst (λ (z : ℤ). meaning.Seg defs pred y ys z as' part) (sym g)
    (subst (λ (zs : List ℤ). meaning.Seg defs pred y ys b zs part) (sym h) m)))

module _ (defs : List Def) (structs : List StructInfo) (lk rk : Kinds) (side : Side) (pairs : Pairs) (v w : Valuation) (respects : Respects side pairs v w) where
  pub edge_stands : (e f new : Edge) (part : Region) → Fits defs structs lk e → Fits defs structs rk f → Alike e f → Listed pairs (start_of e, start_of f)
      → AllByRecursion (Listed pairs) (pairs_of e f) → edge_for pairs e f ≡ Some new → EdgeMeets defs v (pick side e f) part → EdgeMeets defs w new part
  edge_stands (Block a shape fields) (Block b own others) new part h g s start l is m =
      let same : Block (node_for pairs a b) shape (known_for pairs fields others) ≡ new = cc is in
      let got = block_side defs v side a b shape own fields others part s m in
      let long = may_long lk rk (map (λ f. f.kind) h.1.0.fields) fields others h.1.2 (one_fields structs rk shape own h.1.0 g.1.0 others s h.1.1 g.1.1 g.1.2) in
      subst (λ (x : Edge). EdgeMeets defs w x part) same (
        got.0,
        node_value side pairs v w respects a b start ∙ got.1,
        (got.2.0, got.2.1, vars_side side pairs v w respects fields others got.2.0 long l got.2.2),
      )
  edge_stands (Block a shape fields) (Ind b own others) new part h g s start l is m = absurd s
  edge_stands (Block a shape fields) (Seg b others own stop stops) new part h g s start l is m = absurd s
  edge_stands (Ind a pred args) (Block b own others) new part h g s start l is m = absurd s
  edge_stands (Ind a pred args) (Ind b own others) new part h g s start l is m =
      let same : Ind (node_for pairs a b) pred (nodes_for pairs args others) ≡ new = cc is in
      let long = have_long lk rk h.0.1.0.params args others h.0.1.2 (one_params defs rk pred own h.0.1.0 others s h.0.1.1 g.0.1) in
      subst (λ (x : Edge). EdgeMeets defs w x part) same
      (same_sat defs pred (w (node_for pairs a b).0) (v (of_side side (a, b)).0) (map (at_node w) (nodes_for pairs args others)) (map (at_node v) (pick side args others)) part
      (node_value side pairs v w respects a b start) (nodes_value side pairs v w respects args others long l) (ind_side defs v side a b pred own args others part s m))
  edge_stands (Ind a pred args) (Seg b others own stop stops) new part h g s start l is m = absurd s
  edge_stands (Seg a args pred «end» ends) (Block b own others) new part h g s start l is m = absurd s
  edge_stands (Seg a args pred «end» ends) (Ind b own others) new part h g s start l is m = absurd s
  edge_stands (Seg a args pred «end» ends) (Seg b others own stop stops) new part h g s start l is m =
      let parts = all_front (Listed pairs) (zip args others) ((end, stop) ∷ zip ends stops) l in
      let same : Seg (node_for pairs a b) (nodes_for pairs args others) pred (node_for pairs end stop) (nodes_for pairs ends stops) ≡ new = cc is in
      let long = have_long lk rk h.0.1.0.params args others h.0.1.2 (one_params defs rk pred own h.0.1.0 others s h.0.1.1 g.0.1) in
      let longer = have_long lk rk h.0.3.0.params ends stops h.0.3.2 (one_params defs rk pred own h.0.3.0 stops s h.0.3.1 g.0.3) in
      subst (λ (x : Edge). EdgeMeets defs w x part) same
      (same_seg defs pred (w (node_for pairs a b).0) (v (of_side side (a, b)).0) (map (at_node w) (nodes_for pairs args others)) (map (at_node v) (pick side args others))
      (w (node_for pairs end stop).0) (v (of_side side (end, stop)).0) (map (at_node w) (nodes_for pairs ends stops)) (map (at_node v) (pick side ends stops)) part
      (node_value side pairs v w respects a b start) (nodes_value side pairs v w respects args others long parts.0)
      (node_value side pairs v w respects end stop parts.1.0) (nodes_value side pairs v w respects ends stops longer parts.1.1)
      (seg_side defs v side a b pred own args others end stop ends stops part s m))

-- ---- nodes that keep their values

module _ (defs : List Def) (structs : List StructInfo) (kinds : Kinds) (v w : Valuation) (agree : (kind : Kind) (n : NodeId) → HasKind kinds kind n → w n.0 ≡ v n.0) where
  have_agree : (ks : List Kind) (ns : List NodeId) → HaveKinds kinds ks ns → map (at_node w) ns ≡ map (at_node v) ns
  have_agree [] [] h = refl
  have_agree [] (n ∷ ns) h = absurd h
  have_agree (k ∷ ks) [] h = absurd h
  have_agree (k ∷ ks) (n ∷ ns) h = ap₂ (λ (z : ℤ) (zs : List ℤ). z ∷ zs) (agree k n h.0) (have_agree ks ns h.1)

  may_agree : (ks : List Kind) (ns : List (Option NodeId)) (zs : List (Option ℤ)) → MayHaveKinds kinds ks ns → VarsMeet v ns zs → VarsMeet w ns zs
  may_agree [] [] [] h m = m
  may_agree [] [] (z ∷ zs) h m = m
  may_agree [] (n ∷ ns) zs h m = absurd h
  may_agree (k ∷ ks) [] zs h m = absurd h
  may_agree (k ∷ ks) (n ∷ ns) [] h m = absurd m
  may_agree (k ∷ ks) (None ∷ ns) (z ∷ zs) h m = (tt, may_agree ks ns zs h.1 m.1)
  may_agree (k ∷ ks) (Some n ∷ ns) (z ∷ zs) h m = (m.0 ∙ ap (λ (x : ℤ). Some x) (sym (agree k n h.0)), may_agree ks ns zs h.1 m.1)

  edge_agrees : (e : Edge) (part : Region) → Fits defs structs kinds e → EdgeMeets defs v e part → EdgeMeets defs w e part
  edge_agrees (Block at shape fields) part h m =
      (m.0, agree Ptr at h.0.0 ∙ m.1, (m.2.0, m.2.1, may_agree (map (λ x. x.kind) h.1.0.fields) fields m.2.0 h.1.2 m.2.2))
  edge_agrees (Ind at pred args) part h m =
      same_sat defs pred (w at.0) (v at.0) (map (at_node w) args) (map (at_node v) args) part (agree Ptr at h.0.0) (have_agree h.0.1.0.params args h.0.1.2) m
  edge_agrees (Seg at args pred stop ends) part h m =
      same_seg defs pred (w at.0) (v at.0) (map (at_node w) args) (map (at_node v) args) (w stop.0) (v stop.0) (map (at_node w) ends) (map (at_node v) ends) part
      (agree Ptr at h.0.0) (have_agree h.0.1.0.params args h.0.1.2) (agree Ptr stop h.0.2) (have_agree h.0.3.0.params ends h.0.3.2) m

  pub edges_agree : (es : Edges) (region : Region) → AllByRecursion (λ (e : EdgeId × Edge). Fits defs structs kinds e.1) es → EdgesMeet defs v es region → EdgesMeet defs w es region
  edges_agree [] region a s = s
  edges_agree (e ∷ es) region a s = (s.0, s.1, s.2, edge_agrees e.1 s.0 a.0 s.3, edges_agree es s.1 a.1 s.4)
