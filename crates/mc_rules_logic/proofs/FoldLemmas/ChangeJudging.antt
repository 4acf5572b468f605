-- Naming, merging, dropping and forgetting are judged by their instances.
use Rattle.std.proofs.Common.{◌≡◌, ◌⊎◌, inl, inr, ℕ, zero, suc, ℤ, ◌-ℤ◌, List, [], ◌∷◌, ◌&&◌, ◌||◌, not, Bool, true, false, slice_get, Option, Some, None, is_some, refl, sym, ◌∙◌, ap, subst, eqb-true, eq-eqb}
use Rattle.std.specs.Prelude.{◌==◌, Ok, if◌then◌else◌}
use Rattle.std.specs.List.{list_all}
use Rattle.mc_base.specs.declared.ids.EdgeId.{EdgeId}
use Rattle.mc_base.specs.declared.ids.NodeId.{NodeId}
use Rattle.mc_base.specs.declared.plain.Kind.{Kind}
use Rattle.mc_base.specs.declared.plain.Kind.TheVariants.{Int, Ptr}
use Rattle.mc_base.specs.declared.plain.Atom.{Atom}
use Rattle.mc_base.specs.declared.plain.Atom.TheVariants.{Eq, In}
use Rattle.mc_base.specs.Nodes.{null}
use Rattle.mc_state.specs.declared.graph.edge.Edge.{Edge}
use Rattle.mc_state.specs.Graph.Edges.{start_of, nodes_of, known_nodes}
use Rattle.mc_state.specs.Graph.Graph.{edge_with, without}
use Rattle.mc_pure.specs.Pure.{Kinds, HasKind, IsNode, AreOfOneKind, kind_of, low_of, high_of}
use Rattle.mc_state.specs.State.{State, next_node, with_nodes, with_atoms, with_only_edges}
use Rattle.mc_state.specs.Facts.{IsUnnamed, merged}
use Rattle.mc_state.specs.Fits.{IsBounded}
use Rattle.mc_state.specs.Premises.{Judged}
use Rattle.mc_state.specs.Known.{Test, Tells, is_false, equal, has_kind}
use Rattle.mc_state.proofs.Numbered.{need_ok, have_ok}
use Rattle.mc_state.proofs.Tests.{and_both, and_yes, not_yes, not_false, is_sound, equal_from, equal_to, has_kind_from, has_kind_to}
use Rattle.mc_rules_logic.specs.Fold.Changed.{NamesSpare, MergesNodes, DropsEdge, ForgetsNode, IsListWithout, left_over}
use Rattle.mc_rules_logic.specs.Fold.ChangeJudges.{is_there, lies_in, naming_spare, may_merge, of_one_kind, merging_nodes, is_reached, dropping_edge, is_listed, is_unnamed, forgetting_node}
use Rattle.mc_rules_logic.specs.Fold.JudgedLaws.{SpareIsJudged, MergeIsJudged, ReachedIsTold, DropIsJudged, ForgetIsJudged}
use Rattle.mc_rules_logic.proofs.FoldLemmas.Reaching.{Among, among_from, among_to, among_at, any_from, any_to, reached_from, reached_to}
use Rattle.mc_rules_logic.proofs.FoldLemmas.WrittenOnce.{forget_one}

-- ---- nodes

there_from : (kinds : Kinds) (n : NodeId) → is_there kinds n ≡ true → IsNode kinds n
unfolding is_there
there_from kinds n e = at (n.0 == 0) refl e
  where
    some : (o : Option Kind) → kind_of kinds n ≡ o → is_some o ≡ true → IsNode kinds n
    some None is e = absurd (cc e)
    some (Some kind) is e = (kind, inr is)

    at : (b : Bool) → (n.0 == 0) ≡ b → (if b then true else is_some (kind_of kinds n)) ≡ true → IsNode kinds n
    at true is e = (Int, inl (ap (λ k. record { 0 = k }) (eqb-true n.0 0 is)))
    at false is e = some (kind_of kinds n) refl e

there_by : (kinds : Kinds) (n : NodeId) (kind : Kind) → HasKind kinds kind n → is_there kinds n ≡ true
unfolding is_there
there_by kinds n kind (inl e) = ap (λ (m : NodeId). if m.0 == 0 then true else is_some (kind_of kinds m)) e
there_by kinds n kind (inr e) = at (n.0 == 0)
  where
    at : (b : Bool) → (if b then true else is_some (kind_of kinds n)) ≡ true
    at true = refl
    at false = ap is_some e

there_to : (kinds : Kinds) (n : NodeId) → IsNode kinds n → is_there kinds n ≡ true
there_to kinds n there = there_by kinds n there.0 there.1

-- a test does not both hold and fail
never : (b : Bool) → not b ≡ true → b ≡ true → ⊥
never true e is = cc e
never false e is = cc is

-- nodes with one number are one
same_from : (a b : NodeId) → (a.0 == b.0) ≡ true → a ≡ b
same_from a b e = ap (λ k. record { 0 = k }) (eqb-true a.0 b.0 e)

same_to : (a b : NodeId) → a ≡ b → (a.0 == b.0) ≡ true
same_to a b e = eq-eqb a.0 b.0 (ap (λ (n : NodeId). n.0) e)

differ_from : (a b : NodeId) → not (a.0 == b.0) ≡ true → a ≡ b → ⊥
differ_from a b e same = never (a.0 == b.0) e (same_to a b same)

pub differ_to : (a b : NodeId) → (a ≡ b → ⊥) → not (a.0 == b.0) ≡ true
differ_to a b differ = not_yes (a.0 == b.0) (λ e. differ (same_from a b e))

either : (a b : Bool) → (a || b) ≡ true → (a ≡ true) ⊎ (b ≡ true)
either true b e = inl refl
either false b e = inr e

or_right : (a b : Bool) → b ≡ true → (a || b) ≡ true
or_right true b e = refl
or_right false b e = e

one_kind_from : (kinds : Kinds) (a b : NodeId) → of_one_kind kinds a b ≡ true → AreOfOneKind kinds a b
one_kind_from kinds a b e = elim (either (has_kind kinds Int a && has_kind kinds Int b) (has_kind kinds Ptr a && has_kind kinds Ptr b) e) [
  | inl l ↦ let both = and_both (has_kind kinds Int a) (has_kind kinds Int b) l in (Int, has_kind_from kinds Int a both.0, has_kind_from kinds Int b both.1)
  | inr r ↦ let both = and_both (has_kind kinds Ptr a) (has_kind kinds Ptr b) r in (Ptr, has_kind_from kinds Ptr a both.0, has_kind_from kinds Ptr b both.1)
]

one_kind_by : (kinds : Kinds) (a b : NodeId) (kind : Kind) → HasKind kinds kind a → HasKind kinds kind b → of_one_kind kinds a b ≡ true
one_kind_by kinds a b Int p q =
    ap (λ t. t || (has_kind kinds Ptr a && has_kind kinds Ptr b)) (and_yes (has_kind kinds Int a) (has_kind kinds Int b) (has_kind_to kinds Int a p) (has_kind_to kinds Int b q))
one_kind_by kinds a b Ptr p q =
    or_right (has_kind kinds Int a && has_kind kinds Int b) (has_kind kinds Ptr a && has_kind kinds Ptr b)
    (and_yes (has_kind kinds Ptr a) (has_kind kinds Ptr b) (has_kind_to kinds Ptr a p) (has_kind_to kinds Ptr b q))

-- ---- naming

module _ (know : Test) (node : NodeId) (add : ℤ) (kind : Kind) (s : State) (tells : Tells know s) where
  abbrev range : Atom
  range = In node (low_of kind -ℤ add) (high_of kind -ℤ add)

  spare_from : (next : List State) → naming_spare know node add kind s ≡ Ok next → NamesSpare node add kind s next
  spare_from next e =
      let two = need_ok 2 _ _ next e in
      let three = need_ok 3 (is_there s.kinds node) _ next two.1 in
      let four = need_ok 4 (lies_in know kind node add && has_kind s.kinds kind node) _ next three.1 in
      let both = and_both (lies_in know kind node add) (has_kind s.kinds kind node) four.0 in
      let is : with_atoms (with_nodes s (kind ∷ [])) (Eq (next_node s) node add ∷ []) ∷ [] ≡ next = cc four.1 in
      record {
        consistent = not_false know s tells two.0;
        there = there_from s.kinds node three.0;
        lies = (tells range).0 both.0;
        one_kind = has_kind_from s.kinds kind node both.1;
        gives = sym is;
      }

  spare_to : (next : List State) → NamesSpare node add kind s next → naming_spare know node add kind s ≡ Ok next
  spare_to next i =
      let consistent : not (is_false know) ≡ true = is_sound know s tells i.consistent in
      let there : is_there s.kinds node ≡ true = there_to s.kinds node i.there in
      let fits : (lies_in know kind node add && has_kind s.kinds kind node) ≡ true =
      and_yes (lies_in know kind node add) (has_kind s.kinds kind node) ((tells range).1 i.lies) (has_kind_to s.kinds kind node i.one_kind) in
      let gives : ◌≡◌ {A = Judged (List State)} (Ok (with_atoms (with_nodes s (kind ∷ [])) (Eq (next_node s) node add ∷ []) ∷ [])) (Ok next) = ap (λ n. Ok n) (sym i.gives) in
      rw consistent (rw there (rw fits gives))

-- ---- merging

module _ (know : Test) (keep gone : NodeId) (s : State) (tells : Tells know s) where
  merge_from : (next : List State) → merging_nodes know keep gone s ≡ Ok next → MergesNodes keep gone s next
  merge_from next e =
      let two = need_ok 2 _ _ next e in
      let three = need_ok 3 (may_merge s.kinds keep gone) _ next two.1 in
      let four = need_ok 4 (of_one_kind s.kinds keep gone) _ next three.1 in
      let five = need_ok 5 (equal know keep gone) _ next four.1 in
      let f = and_both (is_there s.kinds keep && is_there s.kinds gone && not (keep.0 == gone.0)) (not (gone.0 == 0)) three.0 in
      let g = and_both (is_there s.kinds keep && is_there s.kinds gone) (not (keep.0 == gone.0)) f.0 in
      let h = and_both (is_there s.kinds keep) (is_there s.kinds gone) g.0 in
      let is : merged keep gone s ∷ [] ≡ next = cc five.1 in
      record {
        consistent = not_false know s tells two.0;
        can = record {
          keep_is = there_from s.kinds keep h.0;
          gone_is = there_from s.kinds gone h.1;
          differ = differ_from keep gone g.1;
          not_null = differ_from gone null f.1;
          kind = one_kind_from s.kinds keep gone four.0;
        };
        equal = equal_from know s tells keep gone five.0;
        gives = sym is;
      }

  merge_to : (next : List State) → MergesNodes keep gone s next → merging_nodes know keep gone s ≡ Ok next
  merge_to next i =
      let c = i.can in
      let consistent : not (is_false know) ≡ true = is_sound know s tells i.consistent in
      let can : may_merge s.kinds keep gone ≡ true =
      and_yes (is_there s.kinds keep && is_there s.kinds gone && not (keep.0 == gone.0)) (not (gone.0 == 0))
      (and_yes (is_there s.kinds keep && is_there s.kinds gone) (not (keep.0 == gone.0))
      (and_yes (is_there s.kinds keep) (is_there s.kinds gone) (there_to s.kinds keep c.keep_is) (there_to s.kinds gone c.gone_is))
      (differ_to keep gone c.differ))
      (differ_to gone null c.not_null) in
      let kind : of_one_kind s.kinds keep gone ≡ true = one_kind_by s.kinds keep gone c.kind.0 c.kind.1 c.kind.2 in
      let meet : equal know keep gone ≡ true = equal_to know s tells keep gone i.equal in
      let gives : ◌≡◌ {A = Judged (List State)} (Ok (merged keep gone s ∷ [])) (Ok next) = ap (λ n. Ok n) (sym i.gives) in
      rw consistent (rw can (rw kind (rw meet gives)))

-- ---- dropping

module _ (know : Test) (edge : EdgeId) (s : State) (tells : Tells know s) where
  abbrev after_drop : State
  after_drop = record (with_only_edges s (without s.graph.edges edge)) { whole = false }

  drop_from : IsBounded s → (next : List State) → dropping_edge know edge s ≡ Ok next → DropsEdge edge s next
  drop_from bounded next e =
      let two = need_ok 2 _ _ next e in
      let three = have_ok 3 (edge_with s.graph.edges edge) _ next two.1 in
      let four = need_ok 4 (not (is_reached know s (start_of three.0))) _ next three.2 in
      let is : after_drop ∷ [] ≡ next = cc four.1 in
      record {
        consistent = not_false know s tells two.0;
        e = three.0;
        there = three.1;
        unreached = λ r. never (is_reached know s (start_of three.0)) four.0 (reached_to know s tells bounded (start_of three.0) r);
        gives = sym is;
      }

  drop_to : (next : List State) → DropsEdge edge s next → dropping_edge know edge s ≡ Ok next
  drop_to next i =
      let consistent : not (is_false know) ≡ true = is_sound know s tells i.consistent in
      let there : edge_with s.graph.edges edge ≡ Some i.e = i.there in
      let unreached : not (is_reached know s (start_of i.e)) ≡ true = not_yes (is_reached know s (start_of i.e)) (λ e. i.unreached (reached_from know s tells (start_of i.e) e)) in
      let gives : ◌≡◌ {A = Judged (List State)} (Ok (after_drop ∷ [])) (Ok next) = ap (λ n. Ok n) (sym i.gives) in
      rw consistent (rw there (rw unreached gives))

-- ---- forgetting

listed_to : (n : NodeId) (ns : List NodeId) → Among n ns → is_listed n ns ≡ true
listed_to n ns a = any_to (λ m. m.0 == n.0) ns n a (eq-eqb n.0 n.0 refl)

listed_from : (n : NodeId) (ns : List NodeId) → is_listed n ns ≡ true → Among n ns
listed_from n ns e =
    let m = any_from (λ m. m.0 == n.0) ns e in
    let same : m.0 ≡ n = same_from m.0 n m.2 in
    subst (λ k. Among k ns) same m.1

unlisted_from : (n : NodeId) (ns : List NodeId) → not (is_listed n ns) ≡ true → Among n ns → ⊥
unlisted_from n ns e a = never (is_listed n ns) e (listed_to n ns a)

unlisted_to : (n : NodeId) (ns : List NodeId) → (Among n ns → ⊥) → not (is_listed n ns) ≡ true
unlisted_to n ns none = not_yes (is_listed n ns) (λ e. none (listed_from n ns e))

-- what a test says of each of a list
all_among : {X : Type 0} (test : X → Bool) (xs : List X) (x : X) → list_all test xs ≡ true → Among x xs → test x ≡ true
all_among test [] x e a = absurd a
all_among test (y ∷ ys) x e (inl same) = let both = and_both (test y) (list_all test ys) e in ap test (sym same) ∙ both.0
all_among test (y ∷ ys) x e (inr a) = let both = and_both (test y) (list_all test ys) e in all_among test ys x both.1 a

all_by_place : {X : Type 0} (test : X → Bool) (xs : List X) → ((place : ℕ) (x : X) → slice_get xs place ≡ Some x → test x ≡ true) → list_all test xs ≡ true
all_by_place test [] f = refl
all_by_place test (x ∷ xs) f = and_yes (test x) (list_all test xs) (f 0 x refl) (all_by_place test xs (λ place y e. f (suc place) y e))

var_known : (env : List (Option NodeId)) (place : ℕ) (n : NodeId) → slice_get env place ≡ Some (Some n) → Among n (known_nodes env)
var_known [] place n e = absurd (cc e)
var_known (None ∷ env) zero n e = absurd (cc e)
var_known (Some m ∷ env) zero n e = let same : m ≡ n = cc e in inl same
var_known (None ∷ env) (suc place) n e = var_known env place n e
var_known (Some m ∷ env) (suc place) n e = inr (var_known env place n e)

pub known_var : (env : List (Option NodeId)) (n : NodeId) → Among n (known_nodes env) → (place : ℕ) × (slice_get env place ≡ Some (Some n))
known_var [] n a = absurd a
known_var (None ∷ env) n a = let rest = known_var env n a in (suc rest.0, rest.1)
known_var (Some m ∷ env) n (inl e) = (0, ap (λ k. Some (Some k)) e)
known_var (Some m ∷ env) n (inr a) = let rest = known_var env n a in (suc rest.0, rest.1)

unnamed_from : (n : NodeId) (s : State) → is_unnamed n s ≡ true → IsUnnamed n s
unnamed_from n s e =
    let both = and_both (not (is_listed n (known_nodes s.env))) (list_all (λ e. not (is_listed n (nodes_of e.1))) s.graph.edges) e in
    record {
      vars = λ place is. unlisted_from n (known_nodes s.env) both.0 (var_known s.env place n is);
      edges = λ place id x is c. unlisted_from n (nodes_of x) (all_among (λ (y : EdgeId × Edge). not (is_listed n (nodes_of y.1))) s.graph.edges (id, x) both.1 (among_at s.graph.edges place (id, x) is)) (among_from (nodes_of x) n c);
    }

unnamed_to : (n : NodeId) (s : State) → IsUnnamed n s → is_unnamed n s ≡ true
unnamed_to n s u =
    and_yes (not (is_listed n (known_nodes s.env))) (list_all (λ e. not (is_listed n (nodes_of e.1))) s.graph.edges)
    (unlisted_to n (known_nodes s.env) (λ a. let var = known_var s.env n a in u.vars var.0 var.1))
    (all_by_place (λ (y : EdgeId × Edge). not (is_listed n (nodes_of y.1))) s.graph.edges (λ place x is. unlisted_to n (nodes_of x.1) (λ a. u.edges place x.0 x.1 is (among_to (nodes_of x.1) n a))))

module _ (know : Test) (atoms : List Atom) (node : NodeId) (s : State) (tells : Tells know s) (list : IsListWithout node s atoms) where
  forget_from : (next : List State) → forgetting_node know atoms node s ≡ Ok next → ForgetsNode node s next
  forget_from next e =
      let two = need_ok 2 _ _ next e in
      let three = need_ok 3 (is_there s.kinds node && not (node.0 == 0)) _ next two.1 in
      let four = need_ok 4 (is_unnamed node s) _ next three.1 in
      let both = and_both (is_there s.kinds node) (not (node.0 == 0)) three.0 in
      let consistent = not_false know s tells two.0 in
      let there = there_from s.kinds node both.0 in
      let not_null = differ_from node null both.1 in
      let unnamed = unnamed_from node s four.0 in
      let is : left_over s node atoms ∷ [] ≡ next = cc four.1 in
      record {
        consistent = consistent;
        there = there;
        not_null = not_null;
        unnamed = unnamed;
        after = left_over s node atoms;
        forgets = list consistent there not_null unnamed;
        gives = sym is;
      }

  forget_to : (next : List State) → ForgetsNode node s next → forgetting_node know atoms node s ≡ Ok next
  forget_to next i =
      let consistent : not (is_false know) ≡ true = is_sound know s tells i.consistent in
      let there : (is_there s.kinds node && not (node.0 == 0)) ≡ true =
      and_yes (is_there s.kinds node) (not (node.0 == 0)) (there_to s.kinds node i.there) (differ_to node null i.not_null) in
      let unnamed : is_unnamed node s ≡ true = unnamed_to node s i.unnamed in
      let same : i.after ≡ left_over s node atoms = forget_one node s i.after (left_over s node atoms) i.forgets (list i.consistent i.there i.not_null i.unnamed) in
      let gives : ◌≡◌ {A = Judged (List State)} (Ok (left_over s node atoms ∷ [])) (Ok next) = ap (λ t. Ok (t ∷ [])) (sym same) ∙ ap (λ n. Ok n) (sym i.gives) in
      rw consistent (rw there (rw unnamed gives))

pub spare_judged : SpareIsJudged
spare_judged know node add kind s tells next = (spare_from know node add kind s tells next, spare_to know node add kind s tells next)

pub merge_judged : MergeIsJudged
merge_judged know keep gone s tells next = (merge_from know keep gone s tells next, merge_to know keep gone s tells next)

pub reached_told : ReachedIsTold
reached_told know s n bounded tells = (reached_from know s tells n, reached_to know s tells bounded n)

pub drop_judged : DropIsJudged
drop_judged know edge s bounded tells next = (drop_from know edge s tells bounded next, drop_to know edge s tells next)

pub forget_judged : ForgetIsJudged
forget_judged know atoms node s tells list next = (forget_from know atoms node s tells list next, forget_to know atoms node s tells list next)
