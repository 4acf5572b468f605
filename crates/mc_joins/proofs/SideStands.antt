-- Whatever stood for a side's first state goes on to stand for what a join has made of it.
use Rattle.std.proofs.Common.{◌≡◌, ◌⊎◌, ℕ, zero, suc, ℤ, List, [], ◌∷◌, ◌++◌, Bool, true, false, Option, Some, slice_get, refl, ap, sym, ◌∙◌, subst, inl, inr}
use Rattle.std.specs.Prelude.{◌==◌, ◌||◌, IsTrue, if◌then◌else◌}
use Rattle.std.specs.List.{AllByRecursion, list_any}
use Rattle.mc_base.specs.declared.ids.NodeId.{NodeId}
use Rattle.mc_base.specs.declared.plain.Kind.{Kind}
use Rattle.mc_base.specs.declared.plain.VarInfo.{VarInfo}
use Rattle.mc_base.specs.Nodes.{Valuation}
use Rattle.mc_flow.specs.Heap.Heap.{Region, IsAtAddresses}
use Rattle.mc_flow.specs.Heap.Instances.{nowhere}
use Rattle.mc_flow.specs.Heap.Parts.{Split, IsEmpty, Star}
use Rattle.mc_flow.specs.Defs.Conditions.{IsDefs}
use Rattle.mc_flow.specs.declared.defs.rules.Def.{Def}
use Rattle.mc_flow.specs.declared.defs.shapes.StructInfo.{StructInfo}
use Rattle.mc_state.specs.declared.graph.edge.Edge.{Edge}
use Rattle.mc_state.specs.Graph.Edges.{start_of}
use Rattle.mc_state.specs.Graph.Graph.{IdsAscend}
use Rattle.mc_pure_ops.specs.Join.Joint.{Pairs}
use Rattle.mc_pure.specs.Pure.{HasKind}
use Rattle.mc_state.specs.Known.{Test}
use Rattle.mc_state.specs.declared.line.JoinStep.{JoinStep}
use Rattle.mc_state.specs.declared.line.Side.{Side}
use Rattle.mc_state.specs.declared.line.Side.TheVariants.{Left, Right}
use Rattle.mc_state.specs.Fits.{IsWellMade}
use Rattle.mc_state.specs.Stands.{EdgeMeets, EdgesMeet, StandsBy}
use Rattle.mc_state.specs.State.{State}
use Rattle.mc_joins.specs.Joinings.{Half, Joining, Pair, half, of_side, same_pair, with_pair, with_pairs}
use Rattle.mc_joins.specs.Laws.{KnowsMade}
use Rattle.mc_joins.specs.Parts.{Basis, Part}
use Rattle.mc_joins.specs.Steps.{pairs_of, edge_for, half_after, closing, after_step, after_steps}
use Rattle.mc_joins.proofs.JoinMade.{Inv, PartBy, Stepped, joined_to, has_place, step_inv, taken, listed_one, half_made}
use Rattle.mc_joins.proofs.JointKinds.{OneKind, Listed, any_left, itself}
use Rattle.mc_joins.proofs.JointStands.{Respects, pick, edge_stands}
use Rattle.mc_joins.proofs.Regions.{none_left, star_one, star_append, others_ascend, nowhere_empty}
use Rattle.mc_joins.proofs.SideParts.{SoundLaws, part_stands}
use Rattle.mc_joins.proofs.Keeping.{bind_some, map_some}

-- what stands for a side: the edges of the result have a part of the region by each valuation that gives each node of it
-- the value of its pair's node of the side, and the unused edges have another; nothing is left where the first state
-- is whole
pub record SideStands (defs : List Def) (values : List (Option ℤ)) (region : Region) (first : State) (high : ℕ) (side : Side) (h : Half) (pairs : Pairs) (edges : List Edge) : Type 0 where
  pub v : Valuation
  pub back : (u : Valuation) → StandsBy defs u values region h.state → StandsBy defs u values region first
  pub stands : StandsBy defs v values region h.state
  pub ids : IdsAscend 0 h.unused high
  pub held : Region
  pub rest : Region
  pub split : Split region held rest
  pub alone : IsTrue first.whole → IsEmpty rest
  pub used : Region
  pub left : Region
  pub parts : Split held used left
  pub each : (w : Valuation) → Respects side pairs v w → Star (EdgeMeets defs w) edges used
  pub unused : EdgesMeet defs v h.unused left

-- ---- pairs that are listed

any_here : {X : Type 0} (test : X → Bool) (xs : List X) (x : X) → test x ≡ true → list_any test (xs ++ x ∷ []) ≡ true
any_here test [] x e = ap (λ (b : Bool). b || false) e
any_here test (y ∷ ys) x e = at (test y) (any_here test ys x e)
  where
    at : (b : Bool) → list_any test (ys ++ x ∷ []) ≡ true → (b || list_any test (ys ++ x ∷ [])) ≡ true
    at true r = refl
    at false r = r

place_left : {X : Type 0} (xs ys : List X) (n : ℕ) (x : X) → slice_get xs n ≡ Some x → slice_get (xs ++ ys) n ≡ Some x
place_left [] ys n x e = absurd (cc e)
place_left (y ∷ xs) ys zero x e = e
place_left (y ∷ xs) ys (suc n) x e = place_left xs ys n x e

-- pairs keep their places
one_kept : (ps : Pairs) (q : Pair) (n : ℕ) (x : Pair) → slice_get ps n ≡ Some x → slice_get (with_pair ps q) n ≡ Some x
one_kept ps q n x e = at (list_any (same_pair q) ps)
  where
    at : (b : Bool) → slice_get (if b then ps else ps ++ q ∷ []) n ≡ Some x
    at true = e
    at false = place_left ps (q ∷ []) n x e

place_kept : (new ps : Pairs) (n : ℕ) (x : Pair) → slice_get ps n ≡ Some x → slice_get (with_pairs ps new) n ≡ Some x
place_kept [] ps n x e = e
place_kept (q ∷ new) ps n x e = place_kept new (with_pair ps q) n x (one_kept ps q n x e)

listed_one_kept : (ps : Pairs) (q x : Pair) → Listed ps x → Listed (with_pair ps q) x
listed_one_kept ps q x e = at (list_any (same_pair q) ps)
  where
    at : (b : Bool) → Listed (if b then ps else ps ++ q ∷ []) x
    at true = e
    at false = any_left (same_pair x) ps (q ∷ []) e

listed_kept : (new ps : Pairs) (x : Pair) → Listed ps x → Listed (with_pairs ps new) x
listed_kept [] ps x e = e
listed_kept (q ∷ new) ps x e = listed_kept new (with_pair ps q) x (listed_one_kept ps q x e)

listed_now : (ps : Pairs) (q : Pair) → Listed (with_pair ps q) q
listed_now ps q = at (list_any (same_pair q) ps) refl
  where
    at : (b : Bool) → list_any (same_pair q) ps ≡ b → Listed (if b then ps else ps ++ q ∷ []) q
    at true is = is
    at false is = any_here (same_pair q) ps q (itself q)

all_listed : (new ps : Pairs) → AllByRecursion (Listed (with_pairs ps new)) new
all_listed [] ps = tt
all_listed (q ∷ new) ps = (listed_kept new (with_pair ps q) q (listed_now ps q), all_listed new (with_pair ps q))

-- ---- sides

picked_half : (side : Side) (j : Joining) (l r : Part) (new : Edge) (defs : List Def) (vars : List VarInfo) (structs : List StructInfo) (left right : State)
    → half (joined_to defs vars structs left right j l r new) side ≡ half_after (half j side) (pick side l r)
picked_half Left j l r new defs vars structs left right = refl
picked_half Right j l r new defs vars structs left right = refl

picked_edge : (side : Side) (l r : Part) → (pick side l r).edge ≡ pick side l.edge r.edge
picked_edge Left l r = refl
picked_edge Right l r = refl

closing_half : (side other : Side) (p : Pair) (j : Joining) → half (closing other p j) side ≡ half j side
closing_half Left other p j = refl
closing_half Right other p j = refl

pub side_kind : (side : Side) (j : Joining) (p : Pair) → OneKind j.left.state.kinds j.right.state.kinds p → (kind : Kind) × HasKind (half j side).state.kinds kind (of_side side p)
side_kind Left j p one = (one.0, one.1)
side_kind Right j p one = (one.0, one.2)

module _ (laws : SoundLaws) (defs : List Def) (vars : List VarInfo) (structs : List StructInfo) (fit : IsDefs defs) (know : State → Test) (tells : KnowsMade defs vars structs know)
    (values : List (Option ℤ)) (region : Region) (addresses : IsAtAddresses region) (left right : State) (side : Side) (high : ℕ) where
  abbrev basis : Basis
  basis = record { know = know; defs = defs }

  abbrev I : Joining → Type 0
  I j = Inv defs vars structs left right j

  abbrev SS : Joining → Type 0
  SS j = SideStands defs values region (pick side left right) high side (half j side) j.pairs j.edges

  module _ (j : Joining) (i : I j) (st : SS j) (p : Pair) where
    by_side : (side : Side) (l r : Part) → PartBy basis j Left p l → PartBy basis j Right p r → PartBy basis j side p (pick side l r)
    by_side Left l r a b = a
    by_side Right l r a b = b

    made : IsWellMade defs vars structs (half j side).state
    made = half_made defs vars structs left right laws.judged laws.stays laws.new_kinds laws.told know tells j i side

    joined_stands : (k : Joining) (s : Stepped defs vars structs basis j p k) (new : Edge) → edge_for (with_pairs j.pairs (pairs_of s.left.edge s.right.edge)) s.left.edge s.right.edge ≡ Some new
        → SS (joined_to defs vars structs left right j s.left s.right new)
    joined_stands k s new is =
        let part = pick side s.left s.right in
        let fresh = pairs_of s.left.edge s.right.edge in
        let now = with_pairs j.pairs fresh in
        let gives = part_stands laws defs vars structs fit know tells values region addresses left right j i side p high st.ids part (by_side side s.left s.right s.left_by s.right_by) in
        let t = gives.forth st.v st.left st.stands st.unused in
        let both = laws.splits.left st.held st.used st.left t.here t.rest st.parts t.split in
        let start : Listed now (start_of s.left.edge, start_of s.right.edge) =
        subst (λ (x : NodeId). Listed now (x, start_of s.right.edge)) (sym s.left_at.starts)
        (subst (λ (x : NodeId). Listed now (p.0, x)) (sym s.right_at.starts) (listed_kept fresh j.pairs p s.listed)) in
        let old : (u : Valuation) → Respects side now t.w u → Respects side j.pairs st.v u =
        λ u respects n q e.
        let one = side_kind side j q (listed_one defs vars structs left right laws.judged laws.stays laws.new_kinds laws.told know tells j i q (has_place j.pairs n q e)) in
        respects n q (place_kept fresh j.pairs n q e) ∙ t.agree (of_side side q).0 (laws.below (half j side).state (of_side side q) made.bounded one) in
        let result : SideStands defs values region (pick side left right) high side (half_after (half j side) part) now (j.edges ++ new ∷ []) = record {
          v = t.w;
          back = λ u su. st.back u (gives.back u su);
          stands = t.stands;
          ids = others_ascend (half j side).unused part.used 0 high st.ids;
          held = st.held;
          rest = st.rest;
          split = st.split;
          alone = st.alone;
          used = both.0;
          left = t.rest;
          parts = both.2;
          each = λ u respects.
              star_append laws.splits (EdgeMeets defs u) j.edges (new ∷ []) both.0 st.used t.here both.1 (st.each u (old u respects))
              (star_one laws.splits (EdgeMeets defs u) new t.here
              (edge_stands defs structs s.left.state.kinds s.right.state.kinds side now t.w u respects s.left.edge s.right.edge new t.here s.left_at.fits s.right_at.fits s.alike start
              (all_listed fresh j.pairs) is (subst (λ (x : Edge). EdgeMeets defs t.w x t.here) (picked_edge side s.left s.right) t.meets)));
          unused = t.unused;
        } in
        subst (λ (h : Half). SideStands defs values region (pick side left right) high side h now (j.edges ++ new ∷ [])) (sym (picked_half side j s.left s.right new defs vars structs left right)) result

    step_stands : (k : Joining) → Stepped defs vars structs basis j p k → SS k
    step_stands k s =
        let got = map_some _ (edge_for (with_pairs j.pairs (pairs_of s.left.edge s.right.edge)) s.left.edge s.right.edge) s.made s.is in
        after s.made (subst SS got.2 (joined_stands k s got.0 got.1)) s.after
      where
        closed : (other : Side) (m : Joining) → SS m → SS (closing other p m)
        closed other m there =
            subst (λ (h : Half). SideStands defs values region (pick side left right) high side h m.pairs m.edges) (sym (closing_half side other p m)) there

        after : (m : Joining) → SS m → ((m ≡ k) ⊎ ((other : Side) × ((p.0.0 == 0) ≡ false) × (closing other p m ≡ k))) → SS k
        after m there (inl same) = subst SS same there
        after m there (inr c) = subst SS c.2 (closed c.0 m there)

  pub all_stand : (steps : List JoinStep) (j last : Joining) → I j → SS j → after_steps basis j steps ≡ Some last → I last × SS last
  all_stand [] j last i st e = let same : j ≡ last = cc e in (subst I same i, subst SS same st)
  all_stand (step ∷ steps) j last i st e =
      let next = bind_some (λ (next : Joining). after_steps basis next steps) (after_step basis j step) last e in
      let t = taken defs vars structs left right laws.judged laws.stays laws.new_kinds laws.told know tells j i step next.0 next.1 in
      all_stand steps next.0 last (step_inv defs vars structs left right laws.judged laws.stays laws.new_kinds laws.told know tells j i step next.0 next.1)
      (step_stands j i st t.0 next.0 t.1) next.2

-- nothing is made yet
pub begun_stands : (laws : SoundLaws) (defs : List Def) (values : List (Option ℤ)) (region : Region) (first : State) (side : Side) (pairs : Pairs) (v : Valuation)
    → IdsAscend 0 first.graph.edges first.graph.next → StandsBy defs v values region first
    → SideStands defs values region first first.graph.next side (record { state = first; unused = first.graph.edges }) pairs []
begun_stands laws defs values region first side pairs v ids st = record {
  v = v;
  back = λ u su. su;
  stands = st;
  ids = ids;
  held = st.parts.held;
  rest = st.parts.rest;
  split = st.parts.split;
  alone = st.parts.alone;
  used = nowhere;
  left = st.parts.held;
  parts = none_left laws.splits st.parts.held;
  each = λ w respects. nowhere_empty;
  unused = st.parts.each;
}
