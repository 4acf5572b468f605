-- Whatever stands for either of two states stands for what a whole join of them gives.
use Rattle.std.proofs.Common.{◌≡◌, ◌⊎◌, ◌≤◌, ◌+◌, ℕ, zero, suc, ℤ, pos, ◌+ℤ◌, ◌≤ℤ◌, ◌<ℤ◌, List, [], ◌∷◌, Bool, true, false, Option, Some, get_or, length, slice_get, refl, ap, sym, ◌∙◌, subst, inl, inr, arith, eqb-true}
use Rattle.std.specs.Prelude.{◌==◌, ◌&&◌, if◌then◌else◌}
use Rattle.std.specs.Int.{int_max, int_min}
use Rattle.std.specs.List.{AllByRecursion}
use Rattle.std.proofs.lemmas.Int.{ints, clamps}
use Rattle.mc_base.specs.declared.ids.NodeId.{NodeId}
use Rattle.mc_base.specs.declared.plain.Atom.{Atom}
use Rattle.mc_base.specs.declared.plain.Atom.TheVariants.{Eq, Ne, In}
use Rattle.mc_base.specs.declared.plain.Kind.{Kind}
use Rattle.mc_base.specs.declared.plain.Kind.TheVariants.{Int, Ptr}
use Rattle.mc_base.specs.declared.plain.VarInfo.{VarInfo}
use Rattle.mc_base.specs.Atoms.{IsTrueAtom}
use Rattle.mc_base.specs.Kinds.{InKind}
use Rattle.mc_base.specs.Nodes.{Valuation, null}
use Rattle.mc_flow.specs.Heap.Heap.{Region, IsAtAddresses}
use Rattle.mc_flow.specs.Heap.Parts.{Split, IsEmpty}
use Rattle.mc_flow.specs.declared.defs.rules.Def.{Def}
use Rattle.mc_flow.specs.declared.defs.shapes.StructInfo.{StructInfo}
use Rattle.mc_state.specs.Graph.Graph.{Edges, Graph, numbered}
use Rattle.mc_pure_ops.specs.Join.Joint.{Pairs, IsLate, IsJointRange, IsOfBoth, sides}
use Rattle.mc_pure.specs.Derived.{Follows, base}
use Rattle.mc_pure.specs.Pure as pure
use Rattle.mc_pure.specs.Pure.{Kinds, HasKind, kind_of}
use Rattle.mc_state.specs.declared.line.Side.{Side}
use Rattle.mc_state.specs.declared.line.Side.TheVariants.{Left, Right}
use Rattle.mc_state.specs.Fits.{IsWellMade}
use Rattle.mc_state.specs.Stands.{VarsMeet, EdgeMeets, EdgesMeet, StandsBy, Stands}
use Rattle.mc_state.specs.State.{State, pure_of}
use Rattle.mc_joins.specs.Joinings.{Joining, Pair, half, of_side, begun}
use Rattle.mc_joins.specs.Laws.{JoinsAreSound}
use Rattle.mc_joins.specs.Steps.{known_for}
use Rattle.mc_joins.specs.Whole.{AreJointAtoms, over_nodes, all_used, kinds_from, kinds_of_pairs, result_of}
use Rattle.mc_joins.proofs.JoinMade.{Inv, at_places, begun_inv}
use Rattle.mc_joins.proofs.JointKinds.{NoNull, Proper, no_null, pair_kind, kinds_step}
use Rattle.mc_joins.proofs.JointStands.{Respects, pick, may_long, vars_side}
use Rattle.mc_joins.proofs.Regions.{star_numbered}
use Rattle.mc_joins.proofs.SideParts.{SoundLaws}
use Rattle.mc_kernel.proofs.Plain.{base_true}
use Rattle.mc_joins.proofs.SideStands.{SideStands, all_stand, begun_stands}

both_true : (a b : Bool) → (a && b) ≡ true → (a ≡ true) × (b ≡ true)
both_true true b e = (refl, e)
both_true false b e = absurd (cc e)

-- ---- the values of nodes

pub get_there : {X : Type 0} (xs : List X) (n : ℕ) (d x : X) → slice_get xs n ≡ Some x → get_or xs n d ≡ x
get_there [] n d x e = absurd (cc e)
get_there (y ∷ xs) zero d x e = cc e
get_there (y ∷ xs) (suc n) d x e = get_there xs n d x e

-- each node of the result has the value of its pair's node
abbrev joint_value : Side → Pairs → Valuation → Valuation
joint_value side pairs v n = v (of_side side (get_or pairs n (null, null))).0

joint_respects : (side : Side) (pairs : Pairs) (v : Valuation) → Respects side pairs v (joint_value side pairs v)
joint_respects side pairs v n p e = ap (λ (q : Pair). v (of_side side q).0) (get_there pairs n (null, null) p e)

null_side : (side : Side) → of_side side (null, null) ≡ null
null_side Left = refl
null_side Right = refl

zero_fits : (kind : Kind) → InKind kind (pos 0)
zero_fits Int = (omega (arith, ints), omega (arith, ints))
zero_fits Ptr = (omega (arith, ints), omega (arith, ints))

own_fits : (kinds : Kinds) (v : Valuation) (kind : Kind) (n : NodeId) → AllByRecursion (λ (k : NodeId × Kind). InKind k.1 (v k.0.0)) kinds → kind_of kinds n ≡ Some kind → InKind kind (v n.0)
own_fits [] v kind n a e = absurd (cc e)
own_fits (k ∷ kinds) v kind n a e = at (k.0.0 == n.0) refl (λ f. own_fits kinds v kind n a.1 f) e
  where
    at : (b : Bool) → (k.0.0 == n.0) ≡ b → (kind_of kinds n ≡ Some kind → InKind kind (v n.0)) → (if b then Some k.1 else kind_of kinds n) ≡ Some kind → InKind kind (v n.0)
    at true is rest e =
        let own : k.1 ≡ kind = cc e in
        subst (λ (x : Kind). InKind x (v n.0)) own (subst (λ (m : ℕ). InKind k.1 (v m)) (eqb-true k.0.0 n.0 is) a.0)
    at false is rest e = rest e

-- a node of a kind has a value of it
kind_fits : (kinds : Kinds) (v : Valuation) (kind : Kind) (n : NodeId) → v 0 ≡ pos 0 → AllByRecursion (λ (k : NodeId × Kind). InKind k.1 (v k.0.0)) kinds → HasKind kinds kind n → InKind kind (v n.0)
kind_fits kinds v kind n zero_is a (inl z) = subst (λ (x : ℤ). InKind kind x) (sym (ap (λ (m : NodeId). v m.0) z ∙ zero_is)) (zero_fits kind)
kind_fits kinds v kind n zero_is a (inr e) = own_fits kinds v kind n a e

-- ---- ranges

late_or : (kind : Kind) (round : ℕ) → IsLate kind round ⊎ (IsLate kind round → ⊥)
late_or Int round = at round
  where
    at : (n : ℕ) → (3 ≤ n) ⊎ (3 ≤ n → ⊥)
    at n = grind arith
late_or Ptr round = inr (λ h. h)

below_or : (a b : ℤ) → (a ≤ℤ b) ⊎ (b <ℤ a)
below_or a b = grind (arith, ints)

-- a joint range holds either side's
pub range_holds : (kind : Kind) (round : ℕ) (thresholds : List ℤ) (x h y k lo hi : ℤ) → IsJointRange kind round thresholds x h y k lo hi
    → (lo ≤ℤ int_min x y) × (int_max h k ≤ℤ hi)
range_holds kind round thresholds x h y k lo hi j = elim (late_or kind round) [
  | inl late ↦ let wide = j.wide late in (
    elim (below_or x (int_min x y)) [
      | inl kept ↦ (let same : lo ≡ x = wide.0.kept kept in omega (arith, ints, kept, same))
      | inr moved ↦ (wide.0.moved moved).reached
    ],
    elim (below_or (int_max h k) h) [
      | inl kept ↦ (let same : hi ≡ h = wide.1.kept kept in omega (arith, ints, kept, same))
      | inr moved ↦ (wide.1.moved moved).reached
    ],
  )
  | inr soon ↦ let hull = j.hull soon in (let low = hull.0 in let high = hull.1 in (omega (arith, ints, low), omega (arith, ints, high)))
]

left_range : (x h y k lo hi z : ℤ) → (lo ≤ℤ int_min x y) × (int_max h k ≤ℤ hi) → (x ≤ℤ z) × (z ≤ℤ h) → (lo ≤ℤ z) × (z ≤ℤ hi)
left_range x h y k lo hi z a b = (omega (arith, ints, clamps, a.0, b.0), omega (arith, ints, clamps, a.1, b.1))

right_range : (x h y k lo hi z : ℤ) → (lo ≤ℤ int_min x y) × (int_max h k ≤ℤ hi) → (y ≤ℤ z) × (z ≤ℤ k) → (lo ≤ℤ z) × (z ≤ℤ hi)
right_range x h y k lo hi z a b = (omega (arith, ints, clamps, a.0, b.0), omega (arith, ints, clamps, a.1, b.1))

-- ---- what a join gives

module _ (laws : SoundLaws) (defs : List Def) (vars : List VarInfo) (structs : List StructInfo) (values : List (Option ℤ)) (region : Region) (addresses : IsAtAddresses region)
    (left right : State) (side : Side) (high : ℕ) (last : Joining) (i : Inv defs vars structs left right last)
    (st : SideStands defs values region (pick side left right) high side (half last side) last.pairs last.edges) where
  abbrev w : Valuation
  w = joint_value side last.pairs st.v

  respects : Respects side last.pairs st.v w
  respects = joint_respects side last.pairs st.v

  pair_fits : (side : Side) → StandsBy defs st.v values region (half last side).state → (p : Pair) (kind : Kind) → HasKind last.left.state.kinds kind p.0 → HasKind last.right.state.kinds kind p.1
      → InKind kind (st.v (of_side side p).0)
  pair_fits Left s p kind l r = kind_fits last.left.state.kinds st.v kind p.0 s.null s.kinds l
  pair_fits Right s p kind l r = kind_fits last.right.state.kinds st.v kind p.1 s.null s.kinds r

  none : NoNull last.left.state.kinds
  none = no_null 1 last.left.state.kinds last.left.state.next (omega arith) i.left_made.bounded.kinds

  kinds_stand : (n : ℕ) (ps : Pairs) → AllByRecursion (Proper last.left.state.kinds last.right.state.kinds) ps → ((m : ℕ) (p : Pair) → slice_get ps m ≡ Some p → w (n + m) ≡ st.v (of_side side p).0)
      → AllByRecursion (λ (k : NodeId × Kind). InKind k.1 (w k.0.0)) (kinds_from last n ps)
  kinds_stand n [] a f = tt
  kinds_stand n (p ∷ ps) a f =
      let kind = a.0.0.0 in
      let step = kinds_step last none n p ps kind (pair_kind last none p kind a.0.0.1 a.0.0.2 a.0.1) in
      let same : n + 0 ≡ n = omega arith in
      let own : w n ≡ st.v (of_side side p).0 = subst (λ (x : ℕ). w x ≡ st.v (of_side side p).0) same (f 0 p refl) in
      subst (λ (ks : Kinds). AllByRecursion (λ (k : NodeId × Kind). InKind k.1 (w k.0.0)) ks) (sym step) (
        subst (InKind kind) (sym own) (pair_fits side st.stands p kind a.0.0.1 a.0.0.2),
        kinds_stand (suc n) ps a.1 (λ m q e. let next : n + suc m ≡ suc n + m = omega arith in subst (λ (x : ℕ). w x ≡ st.v (of_side side q).0) next (f (suc m) q e)),
      )

  -- ---- atoms

  eq_stands : (side : Side) → StandsBy defs st.v values region (half last side).state → (l r m k : NodeId) (c : ℤ) → Follows (pure_of last.left.state) (Eq l m c) → Follows (pure_of last.right.state) (Eq r k c)
      → st.v (of_side side (l, r)).0 ≡ st.v (of_side side (m, k)).0 +ℤ c
  eq_stands Left s l r m k c f g = laws.truth defs st.v values region last.left.state (Eq l m c) addresses s (inl f)
  eq_stands Right s l r m k c f g = laws.truth defs st.v values region last.right.state (Eq r k c) addresses s (inl g)

  ne_stands : (side : Side) → StandsBy defs st.v values region (half last side).state → (l r m k : NodeId) (c : ℤ) → Follows (pure_of last.left.state) (Ne l m c) → Follows (pure_of last.right.state) (Ne r k c)
      → st.v (of_side side (l, r)).0 ≡ st.v (of_side side (m, k)).0 +ℤ c → ⊥
  ne_stands Left s l r m k c f g = laws.truth defs st.v values region last.left.state (Ne l m c) addresses s (inl f)
  ne_stands Right s l r m k c f g = laws.truth defs st.v values region last.right.state (Ne r k c) addresses s (inl g)

  in_stands : (side : Side) → StandsBy defs st.v values region (half last side).state → (l r : NodeId) (x h y k lo hi : ℤ) → Follows (pure_of last.left.state) (In l x h) → Follows (pure_of last.right.state) (In r y k)
      → (lo ≤ℤ int_min x y) × (int_max h k ≤ℤ hi) → (lo ≤ℤ st.v (of_side side (l, r)).0) × (st.v (of_side side (l, r)).0 ≤ℤ hi)
  in_stands Left s l r x h y k lo hi f g ends = left_range x h y k lo hi (st.v l.0) ends (laws.truth defs st.v values region last.left.state (In l x h) addresses s (inl f))
  in_stands Right s l r x h y k lo hi f g ends = right_range x h y k lo hi (st.v r.0) ends (laws.truth defs st.v values region last.right.state (In r y k) addresses s (inl g))

  atom_stands : (round : ℕ) (thresholds : List ℤ) (ls rs : List Atom) (kinds : Kinds) (f : Atom) → IsOfBoth (sides (pure_of last.left.state) (pure_of last.right.state) last.pairs ls rs round thresholds) kinds f
      → IsTrueAtom w f
  atom_stands round thresholds ls rs kinds (Eq a b c) o =
      respects a.0 (o.0, o.1) o.4 ∙ eq_stands side st.stands o.0 o.1 o.2 o.3 c o.6 o.7 ∙ ap (λ (z : ℤ). z +ℤ c) (sym (respects b.0 (o.2, o.3) o.5))
  atom_stands round thresholds ls rs kinds (Ne a b c) o =
      λ e. ne_stands side st.stands o.0 o.1 o.2 o.3 c o.6 o.7 (sym (respects a.0 (o.0, o.1) o.4) ∙ e ∙ ap (λ (z : ℤ). z +ℤ c) (respects b.0 (o.2, o.3) o.5))
  atom_stands round thresholds ls rs kinds (In n lo hi) o =
      let ends = range_holds o.0 round thresholds o.5 o.6 o.7 o.8 lo hi o.11 in
      let got = in_stands side st.stands o.2 o.3 o.5 o.6 o.7 o.8 lo hi o.9.follows o.10.follows ends in
      let is = respects n.0 (o.2, o.3) o.4 in
      (subst (λ (z : ℤ). lo ≤ℤ z) (sym is) got.0, subst (λ (z : ℤ). z ≤ℤ hi) (sym is) got.1)

  -- what the joint atoms say is true
  joint_stand : (round : ℕ) (thresholds : List ℤ) (t : State) (atoms : AreJointAtoms round thresholds last t) → AllByRecursion (IsTrueAtom w) atoms.joint
  joint_stand round thresholds t atoms =
      at_places defs vars structs left right (IsTrueAtom w) atoms.joint (λ f among. atom_stands round thresholds atoms.join.left_list atoms.join.right_list t.kinds f (atoms.join.sound f among).1)

  -- ---- the whole state

  none_unused : (es : Edges) (part : Region) → (length es == 0) ≡ true → EdgesMeet defs st.v es part → IsEmpty part
  none_unused [] part e m = m
  none_unused (x ∷ es) part e m = let none : suc (length es) ≡ 0 = eqb-true (suc (length es)) 0 e in (let wrong : ⊥ = omega (arith, none) in absurd wrong)

  used_up : (side : Side) → all_used last ≡ true → (length (half last side).unused == 0) ≡ true
  used_up Left e = (both_true (length last.left.unused == 0) (length last.right.unused == 0) e).0
  used_up Right e = (both_true (length last.left.unused == 0) (length last.right.unused == 0) e).1

  side_whole : (side : Side) → (left.whole && right.whole) ≡ true → (pick side left right).whole ≡ true
  side_whole Left e = (both_true left.whole right.whole e).0
  side_whole Right e = (both_true left.whole right.whole e).1

  vars_known : (side : Side) → VarsMeet st.v (pick side left right).env values → VarsMeet st.v (pick side left.env right.env) values
  vars_known Left m = m
  vars_known Right m = m

  result_whole : (left.whole && right.whole && all_used last) ≡ true → (part : Region) → Split part st.left st.rest → IsEmpty part
  result_whole e part split =
      let a = both_true (left.whole && right.whole) (all_used last) e in
      let nothing = none_unused (half last side).unused st.left (used_up side a.1) st.unused in
      subst IsEmpty (sym (laws.splits.drops_empty part st.left st.rest nothing split)) (st.alone (side_whole side a.0))

  pub result_stands : (round : ℕ) (thresholds : List ℤ) (t : State) → t ≡ result_of left right last t.atoms → AreJointAtoms round thresholds last t → IsWellMade defs vars structs left
      → IsWellMade defs vars structs right → StandsBy defs w values region t
  result_stands round thresholds t gives atoms lm rm =
      let kinds_are : t.kinds ≡ kinds_from last 1 i.rest = ap (λ (s : State). s.kinds) gives ∙ ap (kinds_of_pairs last) i.front in
      let env_is : t.env ≡ known_for last.pairs left.env right.env = ap (λ (s : State). s.env) gives in
      let graph_is : t.graph ≡ record { edges = numbered 0 last.edges; next = length last.edges } = ap (λ (s : State). s.graph) gives in
      let whole_is : t.whole ≡ (left.whole && right.whole && all_used last) = ap (λ (s : State). s.whole) gives in
      let front : slice_get last.pairs 0 ≡ Some (null, null) = ap (λ (ps : Pairs). slice_get ps 0) i.front in
      let whole = laws.splits.right region st.held st.rest st.used st.left st.split st.parts in
      let null_true : w 0 ≡ pos 0 = respects 0 (null, null) front ∙ ap (λ (n : NodeId). st.v n.0) (null_side side) ∙ st.stands.null in
      let kinds_true : AllByRecursion (λ (k : NodeId × Kind). InKind k.1 (w k.0.0)) t.kinds =
      subst (λ (ks : Kinds). AllByRecursion (λ (k : NodeId × Kind). InKind k.1 (w k.0.0)) ks) (sym kinds_are)
      (kinds_stand 1 i.rest i.proper (λ m p e.
      let next : suc m ≡ 1 + m = omega arith in
      let there : slice_get last.pairs (suc m) ≡ Some p = ap (λ (ps : Pairs). slice_get ps (suc m)) i.front ∙ e in
      subst (λ (x : ℕ). w x ≡ st.v (of_side side p).0) next (respects (suc m) p there))) in
      record {
        null = null_true;
        kinds = kinds_true;
        atoms = at_places defs vars structs left right (IsTrueAtom w) t.atoms
            (λ f among. laws.entailed (over_nodes t atoms.joint) w (base_true w t.kinds atoms.joint null_true kinds_true (joint_stand round thresholds t atoms)) f (inl ((atoms.same f).0 (base (pure.written among.0 among.1)))));
        vars = subst (λ (ns : List (Option NodeId)). VarsMeet w ns values) (sym env_is)
            (vars_side side last.pairs st.v w respects left.env right.env values
            (may_long left.kinds right.kinds _ left.env right.env lm.fits_program.vars_fit rm.fits_program.vars_fit) i.vars_listed
            (vars_known side (st.back st.v st.stands).vars));
        parts = record {
          held = st.used;
          rest = whole.0;
          split = whole.2;
          each = subst (λ (g : Graph). EdgesMeet defs w g.edges st.used) (sym graph_is) (star_numbered (EdgeMeets defs w) 0 last.edges st.used (st.each w respects));
          alone = λ e. result_whole (sym whole_is ∙ e) whole.0 whole.1;
        };
      }

begun_half : (side : Side) (left right : State) → half (begun left right) side ≡ record { state = pick side left right; unused = (pick side left right).graph.edges }
begun_half Left left right = refl
begun_half Right left right = refl

side_made : (side : Side) (defs : List Def) (vars : List VarInfo) (structs : List StructInfo) (left right : State) → IsWellMade defs vars structs left → IsWellMade defs vars structs right
    → IsWellMade defs vars structs (pick side left right)
side_made Left defs vars structs left right l r = l
side_made Right defs vars structs left right l r = r

pub joins_are_sound : SoundLaws → JoinsAreSound
joins_are_sound laws defs vars structs know round thresholds left right steps t values region fit tells lm rm joins addresses = (by Left, by Right)
  where
    by : (side : Side) → Stands defs values region (pick side left right) → Stands defs values region t
    by side st =
        let first = pick side left right in
        let high = first.graph.next in
        let own = side_made side defs vars structs left right lm rm in
        let start = begun_stands laws defs values region first side (begun left right).pairs st.0 own.bounded.ids st.1 in
        let begins = subst (λ h. SideStands defs values region first high side h (begun left right).pairs []) (sym (begun_half side left right)) start in
        let got = all_stand laws defs vars structs fit know tells values region addresses left right side high steps (begun left right) joins.last (begun_inv defs vars structs left right lm rm) begins joins.reached in
        (joint_value side joins.last.pairs got.1.v, result_stands laws defs vars structs values region addresses left right side high joins.last got.0 got.1 round thresholds t joins.gives joins.atoms lm rm)
