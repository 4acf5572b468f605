-- What a whole join of well-made states gives is well made.
use Rattle.std.proofs.Common.{◌≡◌, ◌⊎◌, ◌<◌, ℕ, ℤ, zero, suc, ◌+◌, List, [], ◌∷◌, ◌++◌, Bool, true, false, Option, Some, None, length, map, slice_get, refl, ap, sym, ◌∙◌, subst, inl, inr, arith, eqb-true, eq-eqb}
use Rattle.std.specs.Prelude.{◌==◌, ◌&&◌, ◌||◌, not, cond, is_some, is_none, find, option_and_then, option_map, unwrap_or, replicate, if◌then◌else◌}
use Rattle.std.specs.Option.{option_zip}
use Rattle.std.specs.List.{AllByRecursion, list_any}
use Rattle.mc_base.specs.declared.ids.EdgeId.{EdgeId}
use Rattle.mc_base.specs.declared.ids.NodeId.{NodeId}
use Rattle.mc_base.specs.declared.ids.PredId.{PredId}
use Rattle.mc_base.specs.declared.plain.Kind.{Kind}
use Rattle.mc_base.specs.declared.plain.Kind.TheVariants.{Ptr}
use Rattle.mc_base.specs.declared.plain.VarInfo.{VarInfo}
use Rattle.mc_base.specs.declared.plain.Atom.{Atom}
use Rattle.mc_base.specs.declared.plain.Atom.TheVariants.{Eq, Ne, In}
use Rattle.mc_base.specs.Atoms.{nodes_of_atom}
use Rattle.mc_base.specs.Nodes.{null}
use Rattle.mc_pure_ops.specs.Canon.Order.{Among}
use Rattle.mc_flow.specs.declared.defs.rules.Def.{Def}
use Rattle.mc_flow.specs.declared.defs.shapes.StructInfo.{StructInfo}
use Rattle.mc_state.specs.declared.graph.edge.Edge.{Edge}
use Rattle.mc_state.specs.declared.graph.edge.Edge.TheVariants.{Block, Ind, Seg}
use Rattle.mc_state.specs.Graph.Edges.{start_of, nodes_of, known_nodes}
use Rattle.mc_state.specs.Graph.Graph.{Graph, Edges, IdsAscend, numbered, without}
use Rattle.mc_pure_ops.specs.Join.Joint.{Pairs}
use Rattle.mc_state.specs.Known.{Test, has_kind}
use Rattle.mc_state.specs.Told.{KindIsTold}
use Rattle.mc_state.specs.Named.{IndParts, SegParts, ind_of, seg_of, others}
use Rattle.mc_pure.specs.Pure.{Kinds, HasKind, IsNode, IsWellFormed, kind_of}
use Rattle.mc_state.specs.declared.line.Side.{Side}
use Rattle.mc_state.specs.declared.line.Side.TheVariants.{Left, Right}
use Rattle.mc_state.specs.declared.line.JoinStep.{JoinStep}
use Rattle.mc_state.specs.declared.line.JoinStep.TheVariants.{J1, J2, J3, J4, J5, J6, J7}
use Rattle.mc_state.specs.declared.terms.Term.{Term}
use Rattle.mc_state.specs.Fits.{AreNodes, HaveKinds, MayHaveKinds, ArgsFit, EdgeFitsDefs, EdgeFitsStructs, NodesAscend, IsWellMade}
use Rattle.mc_state.specs.Laws.{NewNodesHaveKinds}
use Rattle.mc_state.specs.State.{State}
use Rattle.mc_state.specs.Terms.{plain}
use Rattle.mc_rules_logic.specs.Fold.JudgedLaws.{SpareIsJudged}
use Rattle.mc_rules_logic.specs.Fold.MadeLaws.{SpareStaysMade}
use Rattle.mc_cover.specs.First.{first_cover, first_seg_cover}
use Rattle.mc_cover.specs.Guessed.{first_edge, or_else, summary_of}
use Rattle.mc_cover.specs.Terms.{equal_terms}
use Rattle.mc_joins.specs.Joinings.{Half, Joining, Pair, across, half, of_side, same_side, same_pair, with_pairs, known_both, is_closed, free_edges, edge_at, has_edge, next_pair, begun}
use Rattle.mc_joins.specs.Laws.{KnowsMade, JoinsMakeWell}
use Rattle.mc_joins.specs.Parts.{Basis, Part, nodes_of_args, zeros, standing_args, as_it_is, empty_seg, ind_part, folded_ind, ended_part, seg_part, folded_seg, guessed_seg}
use Rattle.mc_joins.specs.Steps.{Ending, pairs_of, known_for, edge_for, half_after, joined, joined_from, are_blocks, are_inds, are_segs, edge_there, only_if, closing, may_end, uses_edge, six_with, six_ends, six_to, by_j6, is_seg_to, seven_ends, seven_with, seven_from, by_j7, no_j6, no_j7, by_both, four_args, four_with, four_from, by_ind, are_unlike, guessed_ind, five_with, by_folds, step_at, after_step, after_steps}
use Rattle.mc_joins.specs.Whole.{AreJointAtoms, kinds_from, kinds_of_pairs, result_of}
use Rattle.mc_joins.proofs.JointEdges.{Alike, same_pred, blocks_alike, inds_alike, segs_alike, both_kinds, edge_kinds, edge_fits, may_joint}
use Rattle.mc_joins.proofs.JointKinds.{OneKind, Proper, Listed, NoNull, no_null, with_more, node_kind, pair_kind, kinds_step, any_left, listed_on, itself}
use Rattle.mc_joins.proofs.Members.{Has}
use Rattle.mc_joins.proofs.NamedKinds.{Grow, Fits, have_grow, may_grow, fits_grow, find_some, args_named}
use Rattle.mc_joins.proofs.Keeping.{bind_some, map_some, zip_some, or_some}
use Rattle.mc_joins.proofs.Steady.{args_made}

-- ---- lists

all_has : {X : Type 0} (P : X → Type 0) (xs : List X) (x : X) → AllByRecursion P xs → Has xs x → P x
all_has P [] x a h = absurd h
all_has P (y ∷ ys) x a (inl same) = subst P (sym same) a.0
all_has P (y ∷ ys) x a (inr h) = all_has P ys x a.1 h

all_map : {X : Type 0} (P Q : X → Type 0) (xs : List X) → ((x : X) → P x → Q x) → AllByRecursion P xs → AllByRecursion Q xs
all_map P Q [] f a = tt
all_map P Q (x ∷ xs) f a = (f x a.0, all_map P Q xs f a.1)

pub all_join : {X : Type 0} (P : X → Type 0) (xs ys : List X) → AllByRecursion P xs → AllByRecursion P ys → AllByRecursion P (xs ++ ys)
all_join P [] ys a b = b
all_join P (x ∷ xs) ys a b = (a.0, all_join P xs ys a.1 b)

all_without : (P : EdgeId × Edge → Type 0) (es : Edges) (id : EdgeId) → AllByRecursion P es → AllByRecursion P (without es id)
all_without P [] id a = tt
all_without P (e ∷ es) id a = at (e.0.0 == id.0) (all_without P es id a.1)
  where
    at : (b : Bool) → AllByRecursion P (without es id) → AllByRecursion P (if b then es else e ∷ without es id)
    at true rest = a.1
    at false rest = (a.0, rest)

all_others : (P : EdgeId × Edge → Type 0) (es : Edges) (ids : List EdgeId) → AllByRecursion P es → AllByRecursion P (others es ids)
all_others P es [] a = a
all_others P es (id ∷ ids) a = all_others P (without es id) ids (all_without P es id a)

pub has_listed : (pairs : Pairs) (p : Pair) → Has pairs p → Listed pairs p
has_listed [] p h = absurd h
has_listed (q ∷ pairs) p (inl same) =
    ap (λ (b : Bool). b || list_any (same_pair p) pairs) (subst (λ (x : Pair). same_pair p x ≡ true) same (itself p))
has_listed (q ∷ pairs) p (inr h) = at (same_pair p q) (has_listed pairs p h)
  where
    at : (b : Bool) → list_any (same_pair p) pairs ≡ true → (b || list_any (same_pair p) pairs) ≡ true
    at true e = refl
    at false e = e

pub has_place : {X : Type 0} (xs : List X) (i : ℕ) (x : X) → slice_get xs i ≡ Some x → Has xs x
has_place [] i x e = absurd (cc e)
has_place (y ∷ ys) zero x e = let same : y ≡ x = cc e in inl (sym same)
has_place (y ∷ ys) (suc i) x e = inr (has_place ys i x e)

-- ---- joins that have come some way

-- both states are well made, and have grown from the first ones; unused edges fit; the pairs are node 0 twice and others, of one kind
-- each; what both know at first is listed; node 0 has no segment by J6; the edges of the result fit
pub record Inv (defs : List Def) (vars : List VarInfo) (structs : List StructInfo) (left right : State) (j : Joining) : Type 0 where
  pub left_made : IsWellMade defs vars structs j.left.state
  pub right_made : IsWellMade defs vars structs j.right.state
  pub left_grows : Grow left.kinds j.left.state.kinds
  pub right_grows : Grow right.kinds j.right.state.kinds
  pub left_fit : AllByRecursion (λ (e : EdgeId × Edge). Fits defs structs j.left.state.kinds e.1) j.left.unused
  pub right_fit : AllByRecursion (λ (e : EdgeId × Edge). Fits defs structs j.right.state.kinds e.1) j.right.unused
  pub rest : Pairs
  pub front : j.pairs ≡ (null, null) ∷ rest
  pub proper : AllByRecursion (Proper j.left.state.kinds j.right.state.kinds) rest
  pub vars_listed : AllByRecursion (Listed j.pairs) (known_both left.env right.env)
  pub closed : AllByRecursion (λ (c : Side × Pair). (c.1.0.0 == 0) ≡ false) j.closed
  pub edges : AllByRecursion (Fits defs structs (kinds_from j 1 rest)) j.edges

-- what a side gives at a node: its state has grown, and the edge starts there and fits
pub record PartAt (defs : List Def) (vars : List VarInfo) (structs : List StructInfo) (h : Half) (n : NodeId) (part : Part) : Type 0 where
  pub grows : Grow h.state.kinds part.state.kinds
  pub made : IsWellMade defs vars structs part.state
  pub fits : Fits defs structs part.state.kinds part.edge
  pub starts : start_of part.edge ≡ n

-- how a side gives a part at a pair: an edge as it is, an empty segment, or edges that are folded
pub data PartBy (w : Basis) (j : Joining) (side : Side) (p : Pair) (part : Part) : Type 0 where
  as_is : (e : EdgeId × Edge) → edge_at j side p ≡ Some e → as_it_is (half j side) e ≡ part → PartBy w j side p part
  of_none : (pred : PredId) → empty_seg w (half j side) pred (of_side side p) ≡ part → PartBy w j side p part
  by_fold : (pred : PredId) (args : List Term) → folded_ind w j side p pred args ≡ Some part → PartBy w j side p part
  by_seg_fold : (pred : PredId) (args : List Term) (stop : NodeId) (ends : List Term) → folded_seg w j side p pred args stop ends ≡ Some part → PartBy w j side p part

-- a step at a pair: what either side gives there, what is made of them, and what comes of it
pub record Stepped (defs : List Def) (vars : List VarInfo) (structs : List StructInfo) (w : Basis) (j : Joining) (p : Pair) (k : Joining) : Type 0 where
  pub left : Part
  pub right : Part
  pub left_at : PartAt defs vars structs j.left p.0 left
  pub right_at : PartAt defs vars structs j.right p.1 right
  pub left_by : PartBy w j Left p left
  pub right_by : PartBy w j Right p right
  pub listed : Listed j.pairs p
  pub alike : Alike left.edge right.edge
  pub made : Joining
  pub is : joined j left right ≡ Some made
  pub after : (made ≡ k) ⊎ ((side : Side) × ((p.0.0 == 0) ≡ false) × (closing side p made ≡ k))

-- the kinds of pairs stay where states grow and pairs are added
module _ (j k : Joining) (j_none : NoNull j.left.state.kinds) (k_none : NoNull k.left.state.kinds) (l : Grow j.left.state.kinds k.left.state.kinds) (r : Grow j.right.state.kinds k.right.state.kinds) where
  grow_pairs : (n : ℕ) (ps qs : Pairs) → AllByRecursion (Proper j.left.state.kinds j.right.state.kinds) ps → (kind : Kind) (m : NodeId) → kind_of (kinds_from j n ps) m ≡ Some kind
      → kind_of (kinds_from k n (ps ++ qs)) m ≡ Some kind
  grow_pairs n [] qs a kind m e = absurd (cc e)
  grow_pairs n (p ∷ ps) qs a kind m e =
      let own = a.0.0.0 in
      let before = kinds_step j j_none n p ps own (pair_kind j j_none p own a.0.0.1 a.0.0.2 a.0.1) in
      let after = kinds_step k k_none n p (ps ++ qs) own (pair_kind k k_none p own (l own p.0 a.0.0.1) (r own p.1 a.0.0.2) a.0.1) in
      ap (λ (ks : Kinds). kind_of ks m) after
      ∙ at own (n == m.0) (λ f. grow_pairs (suc n) ps qs a.1 kind m f) (sym (ap (λ (ks : Kinds). kind_of ks m) before) ∙ e)
    where
      at : (own : Kind) (b : Bool) → (kind_of (kinds_from j (suc n) ps) m ≡ Some kind → kind_of (kinds_from k (suc n) (ps ++ qs)) m ≡ Some kind)
          → (if b then Some own else kind_of (kinds_from j (suc n) ps) m) ≡ Some kind → (if b then Some own else kind_of (kinds_from k (suc n) (ps ++ qs)) m) ≡ Some kind
      at own true rest e = e
      at own false rest e = rest e

  pub more_pairs : (ps qs : Pairs) → AllByRecursion (Proper j.left.state.kinds j.right.state.kinds) ps → Grow (kinds_from j 1 ps) (kinds_from k 1 (ps ++ qs))
  more_pairs ps qs a kind m (inl e) = inl e
  more_pairs ps qs a kind m (inr e) = inr (grow_pairs 1 ps qs a kind m e)

start_ptr : (defs : List Def) (structs : List StructInfo) (kinds : Kinds) (e : Edge) → Fits defs structs kinds e → HasKind kinds Ptr (start_of e)
start_ptr defs structs kinds (Block at shape fields) h = h.0.0
start_ptr defs structs kinds (Ind at pred args) h = h.0.0
start_ptr defs structs kinds (Seg at args pred «end» ends) h = h.0.0

module _ (defs : List Def) (vars : List VarInfo) (structs : List StructInfo) (left right : State) where
  abbrev I : Joining → Type 0
  I = Inv defs vars structs left right

  abbrev pub joined_to : Joining → Part → Part → Edge → Joining
  joined_to j l r new =
      record {
        left = half_after j.left l;
        right = half_after j.right r;
        pairs = with_pairs j.pairs (pairs_of l.edge r.edge);
        edges = j.edges ++ new ∷ [];
        closed = j.closed;
      }

  joined_inv : (j : Joining) → I j → (n m : NodeId) (l r : Part) → PartAt defs vars structs j.left n l → PartAt defs vars structs j.right m r → Listed j.pairs (n, m)
      → Alike l.edge r.edge → (k : Joining) → joined j l r ≡ Some k → I k
  joined_inv j i n m l r pl pr listed alike k e =
      let got = map_some _ (edge_for (with_pairs j.pairs (pairs_of l.edge r.edge)) l.edge r.edge) k e in
      subst I got.2 (to got.0 got.1)
    where
      to : (new : Edge) → edge_for (with_pairs j.pairs (pairs_of l.edge r.edge)) l.edge r.edge ≡ Some new → I (joined_to j l r new)
      to new is =
          let lk = l.state.kinds in
          let rk = r.state.kinds in
          let fresh = pairs_of l.edge r.edge in
          let w = with_more lk rk i.rest fresh (edge_kinds defs structs lk rk l.edge r.edge pl.fits pr.fits alike) in
          let front : with_pairs j.pairs fresh ≡ (null, null) ∷ (i.rest ++ w.more) = ap (λ (ps : Pairs). with_pairs ps fresh) i.front ∙ w.is in
          let old : AllByRecursion (Proper lk rk) i.rest =
          all_map (Proper j.left.state.kinds j.right.state.kinds) (Proper lk rk) i.rest
          (λ p h. ((h.0.0, pl.grows h.0.0 p.0 h.0.1, pr.grows h.0.0 p.1 h.0.2), h.1)) i.proper in
          let proper = all_join (Proper lk rk) i.rest w.more old w.proper in
          let none = no_null 1 lk l.state.next (omega arith) pl.made.bounded.kinds in
          let before = no_null 1 j.left.state.kinds j.left.state.next (omega arith) i.left_made.bounded.kinds in
          let K = kinds_from (joined_to j l r new) 1 (i.rest ++ w.more) in
          let first : Listed ((null, null) ∷ i.rest) (n, m) = subst (λ (ps : Pairs). Listed ps (n, m)) i.front listed in
          let there : Listed ((null, null) ∷ (i.rest ++ w.more)) (n, m) = any_left (same_pair (n, m)) ((null, null) ∷ i.rest) w.more first in
          let start : Listed ((null, null) ∷ (i.rest ++ w.more)) (start_of l.edge, start_of r.edge) =
          subst (λ (x : NodeId). Listed ((null, null) ∷ (i.rest ++ w.more)) (x, start_of r.edge)) (sym pl.starts)
          (subst (λ (x : NodeId). Listed ((null, null) ∷ (i.rest ++ w.more)) (n, x)) (sym pr.starts) there) in
          let fits =
          edge_fits defs structs lk rk K ((null, null) ∷ (i.rest ++ w.more)) (node_kind (joined_to j l r new) none (i.rest ++ w.more) proper) l.edge r.edge new pl.fits pr.fits alike start w.listed
          (ap (λ (ps : Pairs). edge_for ps l.edge r.edge) (sym front) ∙ is) in
          record {
            left_made = pl.made;
            right_made = pr.made;
            left_grows = λ kind x h. pl.grows kind x (i.left_grows kind x h);
            right_grows = λ kind x h. pr.grows kind x (i.right_grows kind x h);
            left_fit = all_others (λ (e : EdgeId × Edge). Fits defs structs lk e.1) j.left.unused l.used
                (all_map (λ (e : EdgeId × Edge). Fits defs structs j.left.state.kinds e.1) (λ (e : EdgeId × Edge). Fits defs structs lk e.1) j.left.unused
                (λ e h. fits_grow j.left.state.kinds lk pl.grows defs structs e.1 h) i.left_fit);
            right_fit = all_others (λ (e : EdgeId × Edge). Fits defs structs rk e.1) j.right.unused r.used
                (all_map (λ (e : EdgeId × Edge). Fits defs structs j.right.state.kinds e.1) (λ (e : EdgeId × Edge). Fits defs structs rk e.1) j.right.unused
                (λ e h. fits_grow j.right.state.kinds rk pr.grows defs structs e.1 h) i.right_fit);
            rest = i.rest ++ w.more;
            front = front;
            proper = proper;
            vars_listed = subst (λ (ps : Pairs). AllByRecursion (Listed ps) (known_both left.env right.env)) (sym front)
                (listed_on ((null, null) ∷ i.rest) w.more (known_both left.env right.env) (subst (λ (ps : Pairs). AllByRecursion (Listed ps) (known_both left.env right.env)) i.front i.vars_listed));
            closed = i.closed;
            edges = all_join (Fits defs structs K) j.edges (new ∷ [])
                (all_map (Fits defs structs (kinds_from j 1 i.rest)) (Fits defs structs K) j.edges
                (λ e h. fits_grow (kinds_from j 1 i.rest) K (more_pairs j (joined_to j l r new) before none pl.grows pr.grows i.rest w.more i.proper) defs structs e h) i.edges)
                (fits, tt);
          }

  -- ---- what sides give

  module _ (judged : SpareIsJudged) (stays : SpareStaysMade) (new_kinds : NewNodesHaveKinds) (told : KindIsTold) (know : State → Test) (tells : KnowsMade defs vars structs know) where
    abbrev basis : Basis
    basis = record { know = know; defs = defs }

    module _ (j : Joining) (i : I j) where
      abbrev At : Side → NodeId → Part → Type 0
      At side n part = PartAt defs vars structs (half j side) n part

      pub half_made : (side : Side) → IsWellMade defs vars structs (half j side).state
      half_made Left = i.left_made
      half_made Right = i.right_made

      pub half_fit : (side : Side) → AllByRecursion (λ (e : EdgeId × Edge). Fits defs structs (half j side).state.kinds e.1) (half j side).unused
      half_fit Left = i.left_fit
      half_fit Right = i.right_fit

      half_none : (side : Side) → NoNull (half j side).state.kinds
      half_none side = no_null 1 (half j side).state.kinds (half j side).state.next (omega arith) (half_made side).bounded.kinds

      -- the edge of a side at a pair
      pub edge_found : (side : Side) (p : Pair) (e : EdgeId × Edge) → edge_at j side p ≡ Some e
          → Has (half j side).unused e × Fits defs structs (half j side).state.kinds e.1 × (start_of e.1 ≡ of_side side p)
      edge_found side p e is = at (is_closed j side p) is
        where
          at : (b : Bool) → (if b then None else find (λ (x : EdgeId × Edge). (start_of x.1).0 == (of_side side p).0) (half j side).unused) ≡ Some e
              → Has (half j side).unused e × Fits defs structs (half j side).state.kinds e.1 × (start_of e.1 ≡ of_side side p)
          at true is = absurd (cc is)
          at false is =
              let found = find_some (λ (x : EdgeId × Edge). (start_of x.1).0 == (of_side side p).0) (half j side).unused e is in (
                found.0,
                all_has (λ (x : EdgeId × Edge). Fits defs structs (half j side).state.kinds x.1) (half j side).unused e (half_fit side) found.0,
                ap (λ (n : ℕ). let r : NodeId = record { 0 = n } in r) (eqb-true (start_of e.1).0 (of_side side p).0 found.1),
              )

      as_is_at : (side : Side) (p : Pair) (e : EdgeId × Edge) → edge_at j side p ≡ Some e → At side (of_side side p) (as_it_is (half j side) e)
      as_is_at side p e is =
          let found = edge_found side p e is in record { grows = λ kind n h. h; made = half_made side; fits = found.1; starts = found.2 }

      -- ---- the pair of a step is of pointers

      any_none : (side : Side) (closed : List (Side × Pair)) → AllByRecursion (λ (c : Side × Pair). (c.1.0.0 == 0) ≡ false) closed
          → list_any (λ (c : Side × Pair). same_side c.0 side && same_pair c.1 (null, null)) closed ≡ false
      any_none side [] a = refl
      any_none side (c ∷ closed) a =
          ap (λ (b : Bool). (same_side c.0 side && (b && (c.1.1.0 == 0))) || list_any (λ (c : Side × Pair). same_side c.0 side && same_pair c.1 (null, null)) closed) a.0
          ∙ at (same_side c.0 side) ∙ any_none side closed a.1
        where
          at : (b : Bool) → ((b && false) || list_any (λ (c : Side × Pair). same_side c.0 side && same_pair c.1 (null, null)) closed)
              ≡ list_any (λ (c : Side × Pair). same_side c.0 side && same_pair c.1 (null, null)) closed
          at true = refl
          at false = refl

      found_some : {X : Type 0} (test : X → Bool) (xs : List X) (x : X) → Has xs x → test x ≡ true → is_some (find test xs) ≡ true
      found_some test [] x h e = absurd h
      found_some test (y ∷ ys) x (inl same) e = ap (λ (b : Bool). is_some (cond b (Some y) (find test ys))) (ap test (sym same) ∙ e)
      found_some test (y ∷ ys) x (inr h) e = at (test y) (found_some test ys x h e)
        where
          at : (b : Bool) → is_some (find test ys) ≡ true → is_some (cond b (Some y) (find test ys)) ≡ true
          at true r = refl
          at false r = r

      -- where no edge counts at node 0 twice, none starts at node 0
      at_null : (side : Side) (e : EdgeId × Edge) → of_side side (null, null) ≡ null → Has (half j side).unused e → (start_of e.1).0 ≡ 0 → is_some (edge_at j side (null, null)) ≡ true
      at_null side e zero_is h z =
          ap (λ (b : Bool). is_some (if b then None else find (λ (x : EdgeId × Edge). (start_of x.1).0 == (of_side side (null, null)).0) (half j side).unused)) (any_none side j.closed i.closed)
          ∙ found_some (λ (x : EdgeId × Edge). (start_of x.1).0 == (of_side side (null, null)).0) (half j side).unused e h
          (eq-eqb (start_of e.1).0 (of_side side (null, null)).0 (z ∙ sym (ap (λ (n : NodeId). n.0) zero_is)))

      or_right : (a b : Bool) → b ≡ true → (a || b) ≡ true
      or_right true b e = refl
      or_right false b e = e

      has_null : (side : Side) (e : EdgeId × Edge) → Has (half j side).unused e → (start_of e.1).0 ≡ 0 → has_edge j (null, null) ≡ true
      has_null Left e h z = ap (λ (b : Bool). b || is_some (edge_at j Right (null, null))) (at_null Left e refl h z)
      has_null Right e h z = or_right (is_some (edge_at j Left (null, null))) (is_some (edge_at j Right (null, null))) (at_null Right e refl h z)

      -- a node of a pair of one kind that is a pointer other than node 0 has a pointer for its partner
      other_ptr : (mine theirs : Kinds) (kind : Kind) (a b : NodeId) → NoNull mine → HasKind mine kind a → HasKind theirs kind b → HasKind mine Ptr a → (a.0 ≡ 0 → ⊥) → HasKind theirs Ptr b
      other_ptr mine theirs kind a b none (inl z) hb p no' = absurd (no' (ap (λ (n : NodeId). n.0) z))
      other_ptr mine theirs kind a b none (inr e) hb (inl z) no' = absurd (no' (ap (λ (n : NodeId). n.0) z))
      other_ptr mine theirs kind a b none (inr e) hb (inr q) no' = let one : kind ≡ Ptr = cc (e, q) in subst (λ (k : Kind). HasKind theirs k b) one hb

      abbrev Pointers : Pair → Type 0
      Pointers p = HasKind j.left.state.kinds Ptr p.0 × HasKind j.right.state.kinds Ptr p.1

      some_is : {X : Type 0} (o : Option X) → is_some o ≡ true → (x : X) × (o ≡ Some x)
      some_is None e = absurd (cc e)
      some_is (Some x) e = (x, refl)

      or_cases : (a b : Bool) → (a || b) ≡ true → (a ≡ true) ⊎ (b ≡ true)
      or_cases true b e = inl refl
      or_cases false b e = inr e

      -- at a pair other than node 0 twice, where nothing counts at that one
      later : (p : Pair) → has_edge j (null, null) ≡ false → OneKind j.left.state.kinds j.right.state.kinds p → has_edge j p ≡ true → Pointers p
      later p none one e = elim (or_cases (is_some (edge_at j Left p)) (is_some (edge_at j Right p)) e) [
        | inl l ↦ let got = some_is (edge_at j Left p) l in
            let found = edge_found Left p got.0 got.1 in
            let ptr = subst (HasKind j.left.state.kinds Ptr) found.2 (start_ptr defs structs j.left.state.kinds got.0.1 found.1) in
            let not_null : p.0.0 ≡ 0 → ⊥ = λ z. (let yes' = has_null Left got.0 found.0 (ap (λ (n : NodeId). n.0) found.2 ∙ z) in cc (yes', none)) in
            (ptr, other_ptr j.left.state.kinds j.right.state.kinds one.0 p.0 p.1 (half_none Left) one.1 one.2 ptr not_null)
        | inr r ↦ let got = some_is (edge_at j Right p) r in
            let found = edge_found Right p got.0 got.1 in
            let ptr = subst (HasKind j.right.state.kinds Ptr) found.2 (start_ptr defs structs j.right.state.kinds got.0.1 found.1) in
            let not_null : p.1.0 ≡ 0 → ⊥ = λ z. (let yes' = has_null Right got.0 found.0 (ap (λ (n : NodeId). n.0) found.2 ∙ z) in cc (yes', none)) in
            (other_ptr j.right.state.kinds j.left.state.kinds one.0 p.1 p.0 (half_none Right) one.2 one.1 ptr not_null, ptr)
      ]

      pub pointers : (p : Pair) → next_pair j ≡ Some p → Pointers p × Listed j.pairs p
      pointers p e = (
        at (has_edge j (null, null)) refl (sym (ap (λ (ps : Pairs). find (has_edge j) ps) i.front) ∙ e),
        has_listed j.pairs p (find_some (has_edge j) j.pairs p e).0,
      )
        where
          at : (b : Bool) → has_edge j (null, null) ≡ b → cond b (Some (null, null)) (find (has_edge j) i.rest) ≡ Some p → Pointers p
          at true is e = let same : ◌≡◌ {A = Pair} (null, null) p = cc e in subst Pointers same (inl refl, inl refl)
          at false is e =
              let found = find_some (has_edge j) i.rest p e in
              later p is (all_has (Proper j.left.state.kinds j.right.state.kinds) i.rest p i.proper found.0).0 found.1

      -- a listed pair is of one kind
      pub listed_one : (q : Pair) → Has j.pairs q → OneKind j.left.state.kinds j.right.state.kinds q
      listed_one q h = at (subst (λ (ps : Pairs). Has ps q) i.front h)
        where
          at : Has ((null, null) ∷ i.rest) q → OneKind j.left.state.kinds j.right.state.kinds q
          at (inl same) = subst (OneKind j.left.state.kinds j.right.state.kinds) (sym same) (Ptr, inl refl, inl refl)
          at (inr h) = (all_has (Proper j.left.state.kinds j.right.state.kinds) i.rest q i.proper h).0

      -- ---- folded parts

      pub ind_at : (side : Side) (p : Pair) (pred : PredId) (args : List Term) (part : Part) → HasKind (half j side).state.kinds Ptr (of_side side p) → folded_ind basis j side p pred args ≡ Some part
          → At side (of_side side p) part × ((ns : List NodeId) × (part.edge ≡ Ind (of_side side p) pred ns))
      ind_at side p pred args part ptr e =
          let c = bind_some (ind_part basis j side p pred args) (first_cover (know (half j side).state) defs pred (plain (of_side side p)) args (free_edges j side p)) part e in
          let n = map_some _ (nodes_of_args basis pred (half j side).state args) part c.2 in
          let named = args_named judged stays new_kinds defs vars structs know tells pred (half j side).state args n.0 (half_made side) n.1 in
          let made = args_made judged stays defs vars structs know tells pred (half j side).state args n.0 (half_made side) n.1 in
          let got : Part = record { state = n.0.state; edge = Ind (of_side side p) pred n.0.nodes; used = c.0.used } in
          let same : got ≡ part = n.2 in
          subst (λ (x : Part). At side (of_side side p) x × ((ns : List NodeId) × (x.edge ≡ Ind (of_side side p) pred ns))) same (
            record { grows = named.0; made = made; fits = ((named.0 Ptr (of_side side p) ptr, named.1), tt); starts = refl },
            (n.0.nodes, refl),
          )

      pub seg_at : (side : Side) (p : Pair) (pred : PredId) (args : List Term) («end» : NodeId) (ends : List Term) (part : Part) → HasKind (half j side).state.kinds Ptr (of_side side p)
          → HasKind (half j side).state.kinds Ptr end → folded_seg basis j side p pred args end ends ≡ Some part
          → At side (of_side side p) part × ((xs : List NodeId) × (es : List NodeId) × (part.edge ≡ Seg (of_side side p) xs pred end es)) × ((def : Def) × (slice_get defs pred.0 ≡ Some def))
      seg_at side p pred args «end» ends part ptr end_ptr e =
          let c = bind_some (seg_part basis j side p pred args end ends) (first_seg_cover (know (half j side).state) defs pred (plain (of_side side p)) args (plain end) ends (free_edges j side p)) part e in
          let first = bind_some (ended_part basis side p pred end ends c.0.used) (nodes_of_args basis pred (half j side).state args) part c.2 in
          let last = map_some _ (nodes_of_args basis pred first.0.state ends) part first.2 in
          let first_made = args_made judged stays defs vars structs know tells pred (half j side).state args first.0 (half_made side) first.1 in
          let one = args_named judged stays new_kinds defs vars structs know tells pred (half j side).state args first.0 (half_made side) first.1 in
          let two = args_named judged stays new_kinds defs vars structs know tells pred first.0.state ends last.0 first_made last.1 in
          let made = args_made judged stays defs vars structs know tells pred first.0.state ends last.0 first_made last.1 in
          let grows : Grow (half j side).state.kinds last.0.state.kinds = λ kind n h. two.0 kind n (one.0 kind n h) in
          let got : Part = record { state = last.0.state; edge = Seg (of_side side p) first.0.nodes pred end last.0.nodes; used = c.0.used } in
          let same : got ≡ part = last.2 in
          subst (λ (x : Part). At side (of_side side p) x × ((xs : List NodeId) × (es : List NodeId) × (x.edge ≡ Seg (of_side side p) xs pred end es)) × ((def : Def) × (slice_get defs pred.0 ≡ Some def))) same (
            record {
              grows = grows;
              made = made;
              fits = (
                (
                  grows Ptr (of_side side p) ptr,
                  (one.1.0, one.1.1, have_grow first.0.state.kinds last.0.state.kinds two.0 one.1.0.params first.0.nodes one.1.2),
                  grows Ptr end end_ptr,
                  two.1,
                ),
                tt,
              );
              starts = refl;
            },
            (first.0.nodes, last.0.nodes, refl),
            (one.1.0, one.1.1),
          )

      -- ---- empty segments

      if_some : {X : Type 0} (b : Bool) (x y : X) → (if b then Some x else None) ≡ Some y → (b ≡ true) × (x ≡ y)
      if_some true x y e = (refl, cc e)
      if_some false x y e = absurd (cc e)

      and_both : (a b : Bool) → (a && b) ≡ true → (a ≡ true) × (b ≡ true)
      and_both true b e = (refl, e)
      and_both false b e = absurd (cc e)

      summary_args : (kinds : Kinds) (test : Test) (pred : PredId) (n : NodeId) (e : Edge) (args : List NodeId) → EdgeFitsDefs defs kinds e → summary_of test pred (plain n) e ≡ Some args → ArgsFit defs kinds pred args
      summary_args kinds test pred n (Block at shape fields) args h e = absurd (cc e)
      summary_args kinds test pred n (Ind at own given) args h e =
          let got = if_some (own.0 == pred.0 && equal_terms test (plain n) (plain at)) given args e in
          let pred_is = same_pred own pred (and_both (own.0 == pred.0) (equal_terms test (plain n) (plain at)) got.0).0 in
          subst (λ (ns : List NodeId). ArgsFit defs kinds pred ns) got.1 (subst (λ (p : PredId). ArgsFit defs kinds p given) pred_is h.1)
      summary_args kinds test pred n (Seg at given own stop ends) args h e =
          let got = if_some (own.0 == pred.0 && equal_terms test (plain n) (plain at)) given args e in
          let pred_is = same_pred own pred (and_both (own.0 == pred.0) (equal_terms test (plain n) (plain at)) got.0).0 in
          subst (λ (ns : List NodeId). ArgsFit defs kinds pred ns) got.1 (subst (λ (p : PredId). ArgsFit defs kinds p given) pred_is h.1)

      first_some : {X : Type 0} (f : Edge → Option X) (es : Edges) (r : EdgeId × X) → first_edge f es ≡ Some r → (e : EdgeId × Edge) × Has es e × (f e.1 ≡ Some r.1)
      first_some f [] r e = absurd (cc e)
      first_some {X} f (e ∷ es) r is = at (f e.1) refl (λ q. first_some f es r q) is
        where
          at : (o : Option X) → f e.1 ≡ o → (first_edge f es ≡ Some r → (d : EdgeId × Edge) × Has es d × (f d.1 ≡ Some r.1))
              → or_else (option_map (λ (x : X). let y : EdgeId × X = (e.0, x) in y) o) (first_edge f es) ≡ Some r → (d : EdgeId × Edge) × Has (e ∷ es) d × (f d.1 ≡ Some r.1)
          at None none rest is = let found = rest is in (found.0, inr found.1, found.2)
          at (Some x) some rest is =
              let pair_is : ◌≡◌ {A = EdgeId × X} (e.0, x) r = cc is in
              (e, inl refl, some ∙ ap (λ (y : EdgeId × X). Some y.1) pair_is)

      null_kinds : (kinds : Kinds) (ks : List Kind) → HaveKinds kinds ks (replicate (length ks) null)
      null_kinds kinds [] = tt
      null_kinds kinds (k ∷ ks) = (inl refl, null_kinds kinds ks)

      standing_fit : (side : Side) (pred : PredId) (n : NodeId) (def : Def) → slice_get defs pred.0 ≡ Some def → ArgsFit defs (half j side).state.kinds pred (standing_args basis (half j side) pred n)
      standing_fit side pred n def is = at (first_edge (summary_of (know (half j side).state) pred (plain n)) (half j side).unused) refl
        where
          zeros_are : zeros basis pred ≡ replicate (length def.params) null
          zeros_are = ap (λ (o : Option Def). unwrap_or (option_map (λ (d : Def). replicate (length d.params) null) o) []) is

          at : (o : Option (EdgeId × List NodeId)) → first_edge (summary_of (know (half j side).state) pred (plain n)) (half j side).unused ≡ o
              → ArgsFit defs (half j side).state.kinds pred (unwrap_or (option_map (λ (found : EdgeId × List NodeId). found.1) o) (zeros basis pred))
          at None none = (def, is, subst (HaveKinds (half j side).state.kinds def.params) (sym zeros_are) (null_kinds (half j side).state.kinds def.params))
          at (Some r) some =
              let found = first_some (summary_of (know (half j side).state) pred (plain n)) (half j side).unused r some in
              summary_args (half j side).state.kinds (know (half j side).state) pred n found.0.1 r.1
              (all_has (λ (x : EdgeId × Edge). Fits defs structs (half j side).state.kinds x.1) (half j side).unused found.0 (half_fit side) found.1).0 found.2

      empty_at : (side : Side) (p : Pair) (pred : PredId) (def : Def) → slice_get defs pred.0 ≡ Some def → HasKind (half j side).state.kinds Ptr (of_side side p)
          → At side (of_side side p) (empty_seg basis (half j side) pred (of_side side p))
      empty_at side p pred def is ptr =
          let standing = standing_fit side pred (of_side side p) def is in
          record { grows = λ kind n h. h; made = half_made side; fits = ((ptr, standing, ptr, standing), tt); starts = refl }

      -- ---- steps

      alike_turned : (e f : Edge) → Alike e f → Alike f e
      alike_turned (Block a shape fields) (Block b own others) s = sym s
      alike_turned (Block a shape fields) (Ind b own others) s = absurd s
      alike_turned (Block a shape fields) (Seg b others own stop stops) s = absurd s
      alike_turned (Ind a pred args) (Block b own others) s = absurd s
      alike_turned (Ind a pred args) (Ind b own others) s = sym s
      alike_turned (Ind a pred args) (Seg b others own stop stops) s = absurd s
      alike_turned (Seg a args pred «end» ends) (Block b own others) s = absurd s
      alike_turned (Seg a args pred «end» ends) (Ind b own others) s = absurd s
      alike_turned (Seg a args pred «end» ends) (Seg b others own stop stops) s = sym s

      abbrev Step : Pair → Joining → Type 0
      Step p k = Stepped defs vars structs basis j p k

      abbrev After : Pair → Joining → Joining → Type 0
      After p made k = (made ≡ k) ⊎ ((side : Side) × ((p.0.0 == 0) ≡ false) × (closing side p made ≡ k))

      parts_step : (p : Pair) (l r : Part) → At Left p.0 l → At Right p.1 r → PartBy basis j Left p l → PartBy basis j Right p r → Listed j.pairs p → Alike l.edge r.edge
          → (made k : Joining) → joined j l r ≡ Some made → After p made k → Step p k
      parts_step p l r a b la rb listed alike made k e after = record {
        left = l;
        right = r;
        left_at = a;
        right_at = b;
        left_by = la;
        right_by = rb;
        listed = listed;
        alike = alike;
        made = made;
        is = e;
        after = after;
      }

      side_step : (side : Side) (p : Pair) (mine theirs : Part) → At side (of_side side p) mine → At (across side) (of_side (across side) p) theirs → PartBy basis j side p mine
          → PartBy basis j (across side) p theirs → Listed j.pairs p → Alike mine.edge theirs.edge → (made k : Joining) → joined_from j side mine theirs ≡ Some made → After p made k → Step p k
      side_step Left p mine theirs a b mb tb listed alike made k e after = parts_step p mine theirs a b mb tb listed alike made k e after
      side_step Right p mine theirs a b mb tb listed alike made k e after =
          parts_step p theirs mine b a tb mb listed (alike_turned mine.edge theirs.edge alike) made k e after

      ptr_of : (p : Pair) → Pointers p → (side : Side) → HasKind (half j side).state.kinds Ptr (of_side side p)
      ptr_of p ptrs Left = ptrs.0
      ptr_of p ptrs Right = ptrs.1

      only_both : {X : Type 0} (b : Bool) (o : Option X) (x : X) → only_if b o ≡ Some x → (b ≡ true) × (o ≡ Some x)
      only_both true o x e = (refl, e)
      only_both false o x e = absurd (cc e)

      both_step : (of_form : Edge → Edge → Bool) → ((e f : Edge) → of_form e f ≡ true → Alike e f) → (p : Pair) → Listed j.pairs p → (k : Joining) → by_both of_form j p ≡ Some k → Step p k
      both_step of_form alike p listed k is =
          let both = bind_some (λ (both : (EdgeId × Edge) × (EdgeId × Edge)). only_if (of_form both.0.1 both.1.1) (joined j (as_it_is j.left both.0) (as_it_is j.right both.1)))
          (option_zip (edge_at j Left p) (edge_at j Right p)) k is in
          let zs = zip_some (edge_at j Left p) (edge_at j Right p) both.0 both.1 in
          let t = only_both (of_form both.0.0.1 both.0.1.1) (joined j (as_it_is j.left both.0.0) (as_it_is j.right both.0.1)) k both.2 in
          parts_step p (as_it_is j.left both.0.0) (as_it_is j.right both.0.1) (as_is_at Left p both.0.0 zs.0) (as_is_at Right p both.0.1 zs.1)
          (as_is both.0.0 zs.0 refl) (as_is both.0.1 zs.1 refl) listed (alike both.0.0.1 both.0.1.1 t.0) k k t.1 (inl refl)

      ind_alike : (e f : Edge) (pred : PredId) (parts : IndParts) (n : NodeId) (ns : List NodeId) → ind_of pred (Some e) ≡ Some parts → f ≡ Ind n pred ns → Alike e f
      ind_alike (Block a shape fields) f pred parts n ns e is = absurd (cc e)
      ind_alike (Ind a own args) f pred parts n ns e is =
          subst (Alike (Ind a own args)) (sym is) (same_pred own pred (if_some (own.0 == pred.0) _ parts e).0)
      ind_alike (Seg a args own stop ends) f pred parts n ns e is = absurd (cc e)

      four_step : (p : Pair) → Pointers p → Listed j.pairs p → (pred : PredId) (side : Side) (k : Joining) → by_ind basis j p pred side ≡ Some k → Step p k
      four_step p ptrs listed pred side k is =
          let found = bind_some (four_from basis j p pred side) (edge_at j side p) k is in
          let parts = bind_some (four_with basis j p pred side found.0) (ind_of pred (Some found.0.1)) k found.2 in
          let part = bind_some (λ (theirs : Part). joined_from j side (as_it_is (half j side) found.0) theirs) (folded_ind basis j (across side) p pred (four_args basis j p pred side parts.0)) k
          (only_both (is_none (ind_of pred (edge_there j (across side) p))) _ k parts.2).1 in
          let theirs = ind_at (across side) p pred (four_args basis j p pred side parts.0) part.0 (ptr_of p ptrs (across side)) part.1 in
          side_step side p (as_it_is (half j side) found.0) part.0 (as_is_at side p found.0 found.1) theirs.0 (as_is found.0 found.1 refl)
          (by_fold pred (four_args basis j p pred side parts.0) part.1) listed
          (ind_alike found.0.1 part.0.edge pred parts.0 (of_side (across side) p) theirs.1.0 parts.1 theirs.1.1) k k part.2 (inl refl)

      five_step : (p : Pair) → Pointers p → Listed j.pairs p → (pred : PredId) (k : Joining) → by_folds basis j p pred ≡ Some k → Step p k
      five_step p ptrs listed pred k is =
          let both = bind_some (five_with j) (option_zip (guessed_ind basis j p pred Left) (guessed_ind basis j p pred Right)) k
          (only_both (are_unlike (edge_there j Left p) (edge_there j Right p)) _ k is).1 in
          let zs = zip_some (guessed_ind basis j p pred Left) (guessed_ind basis j p pred Right) both.0 both.1 in
          let l = ind_at Left p pred _ both.0.0 ptrs.0 zs.0 in
          let r = ind_at Right p pred _ both.0.1 ptrs.1 zs.1 in
          let alike : Alike both.0.0.edge both.0.1.edge =
          subst (λ (x : Edge). Alike x both.0.1.edge) (sym l.1.1) (subst (Alike (Ind p.0 pred l.1.0)) (sym r.1.1) refl) in
          parts_step p both.0.0 both.0.1 l.0 r.0 (by_fold pred _ zs.0) (by_fold pred _ zs.1) listed alike k k (only_both (uses_edge both.0.0 || uses_edge both.0.1) _ k both.2).1 (inl refl)

      closing_inv : (side : Side) (p : Pair) (k : Joining) → I k → (p.0.0 == 0) ≡ false → I (closing side p k)
      closing_inv side p k c e = record {
        left_made = c.left_made;
        right_made = c.right_made;
        left_grows = c.left_grows;
        right_grows = c.right_grows;
        left_fit = c.left_fit;
        right_fit = c.right_fit;
        rest = c.rest;
        front = c.front;
        proper = c.proper;
        vars_listed = c.vars_listed;
        closed = (e, c.closed);
        edges = c.edges;
      }

      not_zero : (n : ℕ) → not (n == 0) ≡ true → n ≡ 0 → ⊥
      not_zero n e z = let is : (n == 0) ≡ true = eq-eqb n 0 z in (let wrong : not true ≡ true = ap not (sym is) ∙ e in cc wrong)

      is_apart : (b : Bool) → not b ≡ true → b ≡ false
      is_apart true e = absurd (cc e)
      is_apart false e = refl

      same_node : (a b : NodeId) → (a.0 == b.0) ≡ true → a ≡ b
      same_node a b e = ap (λ (n : ℕ). let r : NodeId = record { 0 = n } in r) (eqb-true a.0 b.0 e)

      end_ptr : (side : Side) (p q : Pair) → Pointers p → OneKind j.left.state.kinds j.right.state.kinds q → of_side (across side) q ≡ of_side (across side) p → (p.0.0 ≡ 0 → ⊥) → (p.1.0 ≡ 0 → ⊥)
          → HasKind (half j side).state.kinds Ptr (of_side side q)
      end_ptr Left p q ptrs one same l r =
          other_ptr j.right.state.kinds j.left.state.kinds one.0 q.1 q.0 (half_none Right) one.2 one.1 (subst (HasKind j.right.state.kinds Ptr) (sym same) ptrs.1)
          (λ z. r (sym (ap (λ (n : NodeId). n.0) same) ∙ z))
      end_ptr Right p q ptrs one same l r =
          other_ptr j.left.state.kinds j.right.state.kinds one.0 q.0 q.1 (half_none Left) one.1 one.2 (subst (HasKind j.left.state.kinds Ptr) (sym same) ptrs.0)
          (λ z. l (sym (ap (λ (n : NodeId). n.0) same) ∙ z))

      six_step : (p : Pair) → Pointers p → Listed j.pairs p → (e : Ending) (k : Joining) → by_j6 basis j p e ≡ Some k → Step p k
      six_step p ptrs listed e k is =
          let q = bind_some (six_to basis j p e) (slice_get j.pairs e.place) k is in
          let ends = only_both (may_end e.side p q.0) _ k q.2 in
          let a = and_both (not (p.0.0 == 0) && not (p.1.0 == 0) && (of_side (across e.side) q.0).0 == (of_side (across e.side) p).0 && not ((of_side e.side q.0).0 == (of_side e.side p).0)) (not ((of_side e.side q.0).0 == 0)) ends.0 in
          let b = and_both (not (p.0.0 == 0) && not (p.1.0 == 0) && (of_side (across e.side) q.0).0 == (of_side (across e.side) p).0) (not ((of_side e.side q.0).0 == (of_side e.side p).0)) a.0 in
          let c = and_both (not (p.0.0 == 0) && not (p.1.0 == 0)) ((of_side (across e.side) q.0).0 == (of_side (across e.side) p).0) b.0 in
          let d = and_both (not (p.0.0 == 0)) (not (p.1.0 == 0)) c.0 in
          let part = bind_some (six_with basis j p e) (guessed_seg basis j e.side p e.pred (of_side e.side q.0) (six_ends basis j e q.0)) k ends.1 in
          let theirs = empty_seg basis (half j (across e.side)) e.pred (of_side (across e.side) p) in
          let done = map_some (closing (across e.side) p) (joined_from j e.side part.0 theirs) k (only_both (uses_edge part.0) _ k part.2).1 in
          let stop = end_ptr e.side p q.0 ptrs (listed_one q.0 (has_place j.pairs e.place q.0 q.1)) (same_node (of_side (across e.side) q.0) (of_side (across e.side) p) c.1) (not_zero p.0.0 d.0) (not_zero p.1.0 d.1) in
          let mine = seg_at e.side p e.pred _ (of_side e.side q.0) (six_ends basis j e q.0) part.0 (ptr_of p ptrs e.side) stop part.1 in
          let alike : Alike part.0.edge theirs.edge = subst (λ (x : Edge). Alike x theirs.edge) (sym mine.1.2) refl in
          side_step e.side p part.0 theirs mine.0 (empty_at (across e.side) p e.pred mine.2.0 mine.2.1 (ptr_of p ptrs (across e.side))) (by_seg_fold e.pred _ (of_side e.side q.0) (six_ends basis j e q.0) part.1)
          (of_none e.pred refl) listed alike done.0 k done.1 (inr (across e.side, is_apart (p.0.0 == 0) d.0, done.2))

      seg_alike : (e f : Edge) (pred : PredId) (s : SegParts) (n : NodeId) (xs : List NodeId) (stop : NodeId) (es : List NodeId) → seg_of (Some e) ≡ Some s → (s.pred.0 == pred.0) ≡ true → f ≡ Seg n xs pred stop es → Alike f e
      seg_alike (Block a shape fields) f pred s n xs stop es e same is = absurd (cc e)
      seg_alike (Ind a own args) f pred s n xs stop es e same is = absurd (cc e)
      seg_alike (Seg a args own «end» ends) f pred s n xs stop es e same is =
          let parts : SegParts = record { at = a; args = args; pred = own; stop = end; ends = ends } in
          let got : parts ≡ s = cc e in
          let own_is : own ≡ pred = ap (λ (x : SegParts). x.pred) got ∙ same_pred s.pred pred same in
          subst (λ (x : Edge). Alike x (Seg a args own end ends)) (sym is) (sym own_is)

      seven_step : (p : Pair) → Pointers p → Listed j.pairs p → (e : Ending) (k : Joining) → by_j7 basis j p e ≡ Some k → Step p k
      seven_step p ptrs listed e k is =
          let q = bind_some (λ (q : Pair). option_and_then (seven_from basis j p e q) (edge_at j (across e.side) p)) (slice_get j.pairs e.place) k is in
          let found = bind_some (seven_from basis j p e q.0) (edge_at j (across e.side) p) k q.2 in
          let s = bind_some (seven_with basis j p e q.0 found.0) (seg_of (Some found.0.1)) k found.2 in
          let to = only_both (is_seg_to j e q.0 s.0) _ k s.2 in
          let a = and_both (s.0.pred.0 == e.pred.0 && s.0.stop.0 == (of_side (across e.side) q.0).0 && has_kind j.left.state.kinds Ptr q.0.0) (has_kind j.right.state.kinds Ptr q.0.1) to.0 in
          let b = and_both (s.0.pred.0 == e.pred.0 && s.0.stop.0 == (of_side (across e.side) q.0).0) (has_kind j.left.state.kinds Ptr q.0.0) a.0 in
          let c = and_both (s.0.pred.0 == e.pred.0) (s.0.stop.0 == (of_side (across e.side) q.0).0) b.0 in
          let stop = ptr_of q.0 ((told j.left.state.kinds Ptr q.0.0).0 b.1, (told j.right.state.kinds Ptr q.0.1).0 a.1) e.side in
          let part = bind_some (λ (mine : Part). joined_from j e.side mine (as_it_is (half j (across e.side)) found.0))
          (guessed_seg basis j e.side p e.pred (of_side e.side q.0) (seven_ends basis j e q.0 s.0)) k to.1 in
          let mine = seg_at e.side p e.pred _ (of_side e.side q.0) (seven_ends basis j e q.0 s.0) part.0 (ptr_of p ptrs e.side) stop part.1 in
          side_step e.side p part.0 (as_it_is (half j (across e.side)) found.0) mine.0 (as_is_at (across e.side) p found.0 found.1)
          (by_seg_fold e.pred _ (of_side e.side q.0) (seven_ends basis j e q.0 s.0) part.1) (as_is found.0 found.1 refl) listed
          (seg_alike found.0.1 part.0.edge e.pred s.0 (of_side e.side p) mine.1.0 (of_side e.side q.0) mine.1.1 s.1 c.0 mine.1.2) k k part.2 (inl refl)

      at_step : (p : Pair) → Pointers p → Listed j.pairs p → (step : JoinStep) (k : Joining) → step_at basis j p step ≡ Some k → Step p k
      at_step p ptrs listed J1 k is = both_step are_blocks blocks_alike p listed k (only_both (no_j6 basis j p) _ k is).1
      at_step p ptrs listed J2 k is = both_step are_inds inds_alike p listed k (only_both (no_j6 basis j p) _ k is).1
      at_step p ptrs listed J3 k is = both_step are_segs segs_alike p listed k (only_both (no_j6 basis j p && no_j7 basis j p) _ k is).1
      at_step p ptrs listed (J4 pred) k is =
          or_some (Step p) (by_ind basis j p pred Left) (by_ind basis j p pred Right) k (four_step p ptrs listed pred Left k) (four_step p ptrs listed pred Right k)
          (only_both (no_j6 basis j p && no_j7 basis j p) _ k is).1
      at_step p ptrs listed (J5 pred) k is = five_step p ptrs listed pred k (only_both (no_j6 basis j p && no_j7 basis j p) _ k is).1
      at_step p ptrs listed (J6 pred side place) k is = six_step p ptrs listed (record { pred = pred; side = side; place = place }) k is
      at_step p ptrs listed (J7 pred side place) k is =
          seven_step p ptrs listed (record { pred = pred; side = side; place = place }) k (only_both (no_j6 basis j p) _ k is).1

      pub taken : (step : JoinStep) (k : Joining) → after_step basis j step ≡ Some k → (p : Pair) × Step p k
      taken step k is =
          let p = bind_some (λ (p : Pair). step_at basis j p step) (next_pair j) k is in
          let at = pointers p.0 p.1 in
          (p.0, at_step p.0 at.0 at.1 step k p.2)

      pub step_inv : (step : JoinStep) (k : Joining) → after_step basis j step ≡ Some k → I k
      step_inv step k is =
          let t = taken step k is in
          after t.0 t.1.made (joined_inv j i t.0.0 t.0.1 t.1.left t.1.right t.1.left_at t.1.right_at t.1.listed t.1.alike t.1.made t.1.is) t.1.after
        where
          after : (p : Pair) (made : Joining) → I made → After p made k → I k
          after p made there (inl same) = subst I same there
          after p made there (inr c) = subst I c.2 (closing_inv c.0 p made there c.1)

    pub steps_inv : (steps : List JoinStep) (j last : Joining) → I j → after_steps basis j steps ≡ Some last → I last
    steps_inv [] j last i e = let same : j ≡ last = cc e in subst I same i
    steps_inv (step ∷ steps) j last i e =
        let next = bind_some (λ (next : Joining). after_steps basis next steps) (after_step basis j step) last e in
        steps_inv steps next.0 last (step_inv j i step next.0 next.1) next.2

  -- ---- the beginning and the end

  pub begun_inv : IsWellMade defs vars structs left → IsWellMade defs vars structs right → I (begun left right)
  begun_inv lm rm =
      let ks = map (λ (x : VarInfo). x.kind) vars in
      let w = with_more left.kinds right.kinds [] (known_both left.env right.env) (both_kinds left.kinds right.kinds ks left.env right.env lm.fits_program.vars_fit rm.fits_program.vars_fit) in
      record {
        left_made = lm;
        right_made = rm;
        left_grows = λ kind n h. h;
        right_grows = λ kind n h. h;
        left_fit = both_fit left.kinds left.graph.edges lm.fits_defs lm.fits_program.blocks_fit;
        right_fit = both_fit right.kinds right.graph.edges rm.fits_defs rm.fits_program.blocks_fit;
        rest = w.more;
        front = w.is;
        proper = w.proper;
        vars_listed = subst (λ (ps : Pairs). AllByRecursion (Listed ps) (known_both left.env right.env)) (sym w.is) w.listed;
        closed = tt;
        edges = tt;
      }
    where
      both_fit : (kinds : Kinds) (es : Edges) → AllByRecursion (λ (e : EdgeId × Edge). EdgeFitsDefs defs kinds e.1) es → AllByRecursion (λ (e : EdgeId × Edge). EdgeFitsStructs structs kinds e.1) es
          → AllByRecursion (λ (e : EdgeId × Edge). Fits defs structs kinds e.1) es
      both_fit kinds [] a b = tt
      both_fit kinds (e ∷ es) a b = ((a.0, b.0), both_fit kinds es a.1 b.1)

  -- nodes of edges that fit are there
  have_there : (kinds : Kinds) (ks : List Kind) (ns : List NodeId) → HaveKinds kinds ks ns → AreNodes kinds ns
  have_there kinds [] [] h = tt
  have_there kinds [] (n ∷ ns) h = absurd h
  have_there kinds (k ∷ ks) [] h = absurd h
  have_there kinds (k ∷ ks) (n ∷ ns) h = ((k, h.0), have_there kinds ks ns h.1)

  may_there : (kinds : Kinds) (ks : List Kind) (ns : List (Option NodeId)) → MayHaveKinds kinds ks ns → AreNodes kinds (known_nodes ns)
  may_there kinds [] [] h = tt
  may_there kinds [] (n ∷ ns) h = absurd h
  may_there kinds (k ∷ ks) [] h = absurd h
  may_there kinds (k ∷ ks) (None ∷ ns) h = may_there kinds ks ns h.1
  may_there kinds (k ∷ ks) (Some n ∷ ns) h = ((k, h.0), may_there kinds ks ns h.1)

  edge_there_too : (kinds : Kinds) (e : Edge) → Fits defs structs kinds e → AreNodes kinds (nodes_of e)
  edge_there_too kinds (Block at shape fields) h = ((Ptr, h.0.0), may_there kinds (map (λ f. f.kind) h.1.0.fields) fields h.1.2)
  edge_there_too kinds (Ind at pred args) h = ((Ptr, h.0.0), have_there kinds h.0.1.0.params args h.0.1.2)
  edge_there_too kinds (Seg at args pred stop ends) h =
      ((Ptr, h.0.0), all_join (IsNode kinds) args (stop ∷ ends) (have_there kinds h.0.1.0.params args h.0.1.2) ((Ptr, h.0.2), have_there kinds h.0.3.0.params ends h.0.3.2))

  atom_there : (kinds : Kinds) (a : Atom) → IsWellFormed kinds a → AreNodes kinds (nodes_of_atom a)
  atom_there kinds (Eq a b c) w = ((w.0.0, w.0.1), ((w.0.0, w.0.2), tt))
  atom_there kinds (Ne a b c) w = ((w.0.0, w.0.1), ((w.0.0, w.0.2), tt))
  atom_there kinds (In a lo hi) w = (w.0, tt)

  all_numbered : (P : Edge → Type 0) (n : ℕ) (es : List Edge) → AllByRecursion P es → AllByRecursion (λ (e : EdgeId × Edge). P e.1) (numbered n es)
  all_numbered P n [] a = tt
  all_numbered P n (e ∷ es) a = (a.0, all_numbered P (suc n) es a.1)

  ids_are : (n high : ℕ) (es : List Edge) → high ≡ n + length es → IdsAscend n (numbered n es) high
  ids_are n high [] e = tt
  ids_are n high (x ∷ es) e = (omega arith, omega arith, ids_are (suc n) high es (omega arith))

  kinds_ascend : (j : Joining) → NoNull j.left.state.kinds → (n high : ℕ) (ps : Pairs) → AllByRecursion (Proper j.left.state.kinds j.right.state.kinds) ps → high ≡ n + length ps
      → NodesAscend n (kinds_from j n ps) high
  kinds_ascend j none n high [] a e = tt
  kinds_ascend j none n high (p ∷ ps) a e =
      let step = kinds_step j none n p ps a.0.0.0 (pair_kind j none p a.0.0.0 a.0.0.1 a.0.0.2 a.0.1) in
      subst (λ (ks : Kinds). NodesAscend n ks high) (sym step) (omega arith, omega arith, kinds_ascend j none (suc n) high ps a.1 (omega arith))

  pub at_places : (P : Atom → Type 0) (atoms : List Atom) → ((f : Atom) → Among atoms f → P f) → AllByRecursion P atoms
  at_places P [] f = tt
  at_places P (a ∷ atoms) f = (f a (0, refl), at_places P atoms (λ g among. f g (suc among.0, among.1)))

  pub result_made : (last : Joining) → I last → next_pair last ≡ None → (round : ℕ) (thresholds : List ℤ) (t : State) → t ≡ result_of left right last t.atoms → AreJointAtoms round thresholds last t
      → IsWellMade defs vars structs left → IsWellMade defs vars structs right → IsWellMade defs vars structs t
  result_made last i done round thresholds t gives atoms lm rm =
      let K = kinds_from last 1 i.rest in
      let none = no_null 1 last.left.state.kinds last.left.state.next (omega arith) i.left_made.bounded.kinds in
      let kinds_are : t.kinds ≡ K = ap (λ (s : State). s.kinds) gives ∙ ap (kinds_of_pairs last) i.front in
      let next_is : t.next ≡ suc (length i.rest) = ap (λ (s : State). s.next) gives ∙ ap (λ (ps : Pairs). length ps) i.front in
      let env_is : t.env ≡ known_for ((null, null) ∷ i.rest) left.env right.env = ap (λ (s : State). s.env) gives ∙ ap (λ (ps : Pairs). known_for ps left.env right.env) i.front in
      let graph_is : t.graph ≡ record { edges = numbered 0 last.edges; next = length last.edges } = ap (λ (s : State). s.graph) gives in
      let ks = map (λ (x : VarInfo). x.kind) vars in
      let env_fits : MayHaveKinds K ks (known_for ((null, null) ∷ i.rest) left.env right.env) =
      may_joint defs structs last.left.state.kinds last.right.state.kinds K ((null, null) ∷ i.rest) (node_kind last none i.rest i.proper) ks left.env right.env
      (may_grow left.kinds last.left.state.kinds i.left_grows ks left.env lm.fits_program.vars_fit) (may_grow right.kinds last.right.state.kinds i.right_grows ks right.env rm.fits_program.vars_fit)
      (subst (λ (ps : Pairs). AllByRecursion (Listed ps) (known_both left.env right.env)) i.front i.vars_listed) in
      let well : AllByRecursion (IsWellFormed t.kinds) t.atoms = at_places (IsWellFormed t.kinds) t.atoms (λ f among. atoms.fit.written among.0 f among.1) in
      record {
        bounded = record {
          positive = subst (λ (n : ℕ). 0 < n) (sym next_is) (omega arith);
          kinds = subst (λ (k : Kinds). NodesAscend 1 k t.next) (sym kinds_are) (subst (λ (n : ℕ). NodesAscend 1 K n) (sym next_is) (kinds_ascend last none 1 (suc (length i.rest)) i.rest i.proper (omega arith)));
          ids = subst (λ (g : Graph). IdsAscend 0 g.edges g.next) (sym graph_is) (ids_are 0 (length last.edges) last.edges (omega arith));
          vars = subst (λ (k : Kinds). AreNodes k (known_nodes t.env)) (sym kinds_are) (subst (λ (ns : List (Option NodeId)). AreNodes K (known_nodes ns)) (sym env_is) (may_there K ks (known_for ((null, null) ∷ i.rest) left.env right.env) env_fits));
          edges = subst (λ (k : Kinds). AllByRecursion (λ (e : EdgeId × Edge). AreNodes k (nodes_of e.1)) t.graph.edges) (sym kinds_are)
              (subst (λ (g : Graph). AllByRecursion (λ (e : EdgeId × Edge). AreNodes K (nodes_of e.1)) g.edges) (sym graph_is)
              (all_numbered (λ (e : Edge). AreNodes K (nodes_of e)) 0 last.edges (all_map (Fits defs structs K) (λ (e : Edge). AreNodes K (nodes_of e)) last.edges (edge_there_too K) i.edges)));
          atoms = all_map (IsWellFormed t.kinds) (λ (a : Atom). AreNodes t.kinds (nodes_of_atom a)) t.atoms (atom_there t.kinds) well;
        };
        atoms = well;
        fits_defs = subst (λ (k : Kinds). AllByRecursion (λ (e : EdgeId × Edge). EdgeFitsDefs defs k e.1) t.graph.edges) (sym kinds_are)
            (subst (λ (g : Graph). AllByRecursion (λ (e : EdgeId × Edge). EdgeFitsDefs defs K e.1) g.edges) (sym graph_is)
            (all_numbered (EdgeFitsDefs defs K) 0 last.edges (all_map (Fits defs structs K) (EdgeFitsDefs defs K) last.edges (λ e h. h.0) i.edges)));
        fits_program = record {
          vars_fit = subst (λ (k : Kinds). MayHaveKinds k ks t.env) (sym kinds_are) (subst (λ (ns : List (Option NodeId)). MayHaveKinds K ks ns) (sym env_is) env_fits);
          blocks_fit = subst (λ (k : Kinds). AllByRecursion (λ (e : EdgeId × Edge). EdgeFitsStructs structs k e.1) t.graph.edges) (sym kinds_are)
              (subst (λ (g : Graph). AllByRecursion (λ (e : EdgeId × Edge). EdgeFitsStructs structs K e.1) g.edges) (sym graph_is)
              (all_numbered (EdgeFitsStructs structs K) 0 last.edges (all_map (Fits defs structs K) (EdgeFitsStructs structs K) last.edges (λ e h. h.1) i.edges)));
        };
      }

pub joins_make_well : SpareIsJudged → SpareStaysMade → NewNodesHaveKinds → KindIsTold → JoinsMakeWell
joins_make_well judged stays new_kinds told defs vars structs know round thresholds left right steps t tells lm rm joins =
    let i = steps_inv defs vars structs left right judged stays new_kinds told know tells steps (begun left right) joins.last (begun_inv defs vars structs left right lm rm) joins.reached in
    result_made defs vars structs left right joins.last i joins.done round thresholds t joins.gives joins.atoms lm rm
