-- What is written where a node is forgotten, and what it makes of a state.
use Rattle.std.proofs.Common.{◌≡◌, ◌≢◌, ◌↔◌, inl, inr, ℕ, zero, suc, List, [], ◌∷◌, Bool, true, false, Some, nat_eq, slice_get, Contains, refl, sym, ◌∙◌, ap, subst, arith}
use Rattle.std.specs.Prelude.{if◌then◌else◌}
use Rattle.std.specs.List.{AllByRecursion}
use Rattle.mc_base.specs.declared.ids.EdgeId.{EdgeId}
use Rattle.mc_base.specs.declared.ids.NodeId.{NodeId}
use Rattle.mc_base.specs.declared.plain.Atom.{Atom}
use Rattle.mc_base.specs.Nodes.{null}
use Rattle.mc_state.specs.declared.graph.edge.Edge.{Edge}
use Rattle.mc_state.specs.declared.graph.edge.Edge.TheVariants.{Block, Ind, Seg}
use Rattle.mc_state.specs.Graph.Edges.{nodes_of, known_nodes}
use Rattle.mc_state.specs.Graph.Graph.{Edges, block_starts}
use Rattle.mc_pure.specs.Classes.{HasNormalForm, NormalSaysAll}
use Rattle.mc_pure.specs.Derived.{Follows, IsFalse as IsFalsePure}
use Rattle.mc_pure.specs.Known.{IsFit}
use Rattle.mc_pure.specs.Pure.{Pure, Kinds, IsNode, IsWellFormed, written}
use Rattle.mc_pure.specs.Whole.{kinds_without}
use Rattle.mc_pure_ops.specs.Canon.Forgotten.{IsForgotten, IsForgottenOrFalse}
use Rattle.mc_state.specs.State.{State, pure_of}
use Rattle.mc_state.specs.Facts.{IsFalse, IsUnnamed}
use Rattle.mc_state.specs.Fits.{IsBounded}
use Rattle.mc_symbolic.specs.Starts.{how_many, HaveSameNodes}
use Rattle.mc_rules_logic.specs.Fold.Changed.{Forgets, ForgetsNode, IsListWithout, left_over}
use Rattle.mc_rules_logic.specs.Fold.Laws.{ForgetIsDetermined}
use Rattle.mc_rules_logic.specs.Fold.MadeLaws.{ForgetStaysMade}
use Rattle.mc_apply_fold.specs.Forget.Left.{IsMade, only_kinds, with_atoms, with_starts}
use Rattle.mc_state.proofs.Lists.{all_places}
use Rattle.mc_pure_ops.proofs.CanonLemmas.Others.{node_without}
use Rattle.mc_rules_logic.proofs.FoldLemmas.Ordered.{among_same}
use Rattle.mc_rules_logic.proofs.ListedLemmas.Writing.{forgets as left_of}
use Rattle.mc_pure.proofs.Changing.{no, number, same_node, yes}

-- ---- blocks

abbrev is_it : NodeId → NodeId → Bool
is_it n x = nat_eq x.0 n.0

-- no block starts at a node that no edge names
none_starts : (n : NodeId) (es : Edges) → ((place : ℕ) (id : EdgeId) (e : Edge) → slice_get es place ≡ Some (id, e) → Contains (nodes_of e) n → ⊥) → how_many (is_it n) (block_starts es) ≡ 0
none_starts n [] f = refl
none_starts n ((id, Block at shape fields) ∷ es) f =
    rw (no at.0 n.0 (λ x. f 0 id (Block at shape fields) refl (among_same at (known_nodes fields) n (same_node at n x))))
    (none_starts n es (λ place i e is. f (suc place) i e is))
none_starts n ((id, Ind at pred args) ∷ es) f = none_starts n es (λ place i e is. f (suc place) i e is)
none_starts n ((id, Seg at args pred «end» ends) ∷ es) f = none_starts n es (λ place i e is. f (suc place) i e is)

not_there : (n : NodeId) (xs : List NodeId) → how_many (is_it n) xs ≡ 0 → (i : ℕ) (x : NodeId) → slice_get xs i ≡ Some x → x ≡ n → ⊥
not_there n [] none i x e same = cc e
not_there n (y ∷ ys) none zero x e same =
    let here : y ≡ x = cc e in
    let it : nat_eq y.0 n.0 ≡ true = yes y.0 n.0 (number here ∙ number same) in
    let more : (if true then suc (how_many (is_it n) ys) else how_many (is_it n) ys) ≡ 0 = subst (λ (b : Bool). (if b then suc (how_many (is_it n) ys) else how_many (is_it n) ys) ≡ 0) it none in
    omega arith
not_there n (y ∷ ys) none (suc i) x e same = not_there n ys (at (nat_eq y.0 n.0) none) i x e same
  where
    at : (b : Bool) → (if b then suc (how_many (is_it n) ys) else how_many (is_it n) ys) ≡ 0 → how_many (is_it n) ys ≡ 0
    at true e = absurd (omega arith)
    at false e = e

starts_left : (s : State) (k : Pure) (n : NodeId) → k.kinds ≡ s.kinds → IsFit k → HaveSameNodes k.starts (block_starts s.graph.edges) → IsUnnamed n s → AllByRecursion (IsNode (kinds_without k.kinds n)) k.starts
starts_left s k n kinds fit same unnamed =
    all_places (IsNode (kinds_without k.kinds n)) k.starts (λ i x e. node_without k.kinds n x (fit.starts i x e) (not_there n k.starts (same (is_it n) ∙ none_starts n s.graph.edges unnamed.edges) i x e))

-- ---- the state that is left

module _ (s : State) (k : Pure) (node : NodeId) (atoms : List Atom) (kinds : k.kinds ≡ s.kinds) (follows : (f : Atom) → Follows k f ↔ Follows (pure_of s) f)
    (consistent : IsFalse s → ⊥) (there : IsNode s.kinds node) (not_null : node ≢ null) (unnamed : IsUnnamed node s)
    (says : NormalSaysAll) (form : HasNormalForm k) (f : IsForgotten k node atoms) where
  abbrev after : State
  after = left_over s node atoms

  forgets : Forgets node s after
  forgets = left_of says s k kinds follows form consistent node atoms f

  rule : ForgetsNode node s (after ∷ [])
  rule = record { consistent = consistent; there = there; not_null = not_null; unnamed = unnamed; after = after; forgets = forgets; gives = refl }

  made : ForgetStaysMade → IsMade s → IsBounded after × AllByRecursion (IsWellFormed after.kinds) atoms
  made law m = let h = law m.0 m.1 m.2 node s (after ∷ []) rule m.3 in (h.0.bounded, h.0.atoms)

  told : ForgetIsDetermined → (other : List Atom) → IsListWithout node s other → after ≡ left_over s node other
  told law other list =
      let same = law node s (after ∷ []) (left_over s node other ∷ []) rule (record {
        consistent = consistent;
        there = there;
        not_null = not_null;
        unnamed = unnamed;
        after = left_over s node other;
        forgets = list consistent there not_null unnamed;
        gives = refl;
      }) in
      head after (left_over s node other) same
    where
      head : (a b : State) → (a ∷ []) ≡ (b ∷ []) → a ≡ b
      head a b e = cc

-- what the list that is written makes of the state
record Leaves (s : State) (node : NodeId) (atoms : List Atom) : Type 0 where
  pub forgets : Forgets node s (left_over s node atoms)
  pub bounded : IsBounded (left_over s node atoms)
  pub well : AllByRecursion (IsWellFormed (kinds_without s.kinds node)) atoms
  pub told : (other : List Atom) → IsListWithout node s other → left_over s node atoms ≡ left_over s node other

what_is_left : (s : State) (k : Pure) (node : NodeId) (atoms : List Atom) → k.kinds ≡ s.kinds → ((f : Atom) → Follows k f ↔ Follows (pure_of s) f) → (IsFalsePure k ↔ IsFalse s)
    → (IsFalse s → ⊥) → IsNode s.kinds node → node ≢ null → IsUnnamed node s → IsMade s
    → NormalSaysAll → HasNormalForm k → ForgetStaysMade → ForgetIsDetermined → IsForgottenOrFalse k node atoms → Leaves s node atoms
what_is_left s k node atoms kinds follows wrong consistent there not_null unnamed well says form law one (inl f) = absurd (consistent (wrong.0 f.0))
what_is_left s k node atoms kinds follows wrong consistent there not_null unnamed well says form law one (inr f) =
    let h = made s k node atoms kinds follows consistent there not_null unnamed says form f.1 law well in
    record {
      forgets = forgets s k node atoms kinds follows consistent there not_null unnamed says form f.1;
      bounded = h.0;
      well = h.1;
      told = told s k node atoms kinds follows consistent there not_null unnamed says form f.1 one;
    }

-- ---- what is put together

-- the blocks and the atoms beside the other nodes
record Together (s : State) (k : Pure) (node : NodeId) (atoms : List Atom) (all : Pure) : Type 0 where
  pub kinds : all.kinds ≡ kinds_without s.kinds node
  pub written : all.written ≡ atoms
  pub starts : all.starts ≡ k.starts

put_all : (s : State) (k : Pure) (node : NodeId) (atoms slice : List Atom) (starts : List NodeId) (rest more all : Pure)
    → k.kinds ≡ s.kinds → slice ≡ atoms → starts ≡ k.starts
    → rest ≡ only_kinds (kinds_without k.kinds node) → more ≡ with_starts rest starts → all ≡ with_atoms more slice → Together s k node atoms all
put_all s k node atoms slice starts rest more all e same begin first second third =
    let whole = third ∙ (ap (λ (p : Pure). with_atoms p slice) second ∙ ap (λ (p : Pure). with_atoms (with_starts p starts) slice) first) in
    record {
      kinds = ap (λ (p : Pure). p.kinds) whole ∙ ap (λ (z : Kinds). kinds_without z node) e;
      written = ap (λ (p : Pure). p.written) whole ∙ same;
      starts = ap (λ (p : Pure). p.starts) whole ∙ begin;
    }

-- the state with what is known
abbrev with_known : State → Kinds → List Atom → State
with_known s kinds atoms = record s { kinds = kinds; atoms = atoms }

-- what is put together is what is left
pub record IsLeft (s : State) (node : NodeId) (all : Pure) : Type 0 where
  pub starts : HaveSameNodes all.starts (block_starts s.graph.edges)
  pub bounded : IsBounded (with_known s all.kinds all.written)
  pub atoms : AllByRecursion (IsWellFormed all.kinds) all.written
  pub forgets : Forgets node s (with_known s all.kinds all.written)
  pub told : (other : List Atom) → IsListWithout node s other → with_known s all.kinds all.written ≡ left_over s node other

is_left : (s : State) (k : Pure) (node : NodeId) (atoms : List Atom) (all : Pure)
    → HaveSameNodes k.starts (block_starts s.graph.edges) → Leaves s node atoms → Together s k node atoms all → IsLeft s node all
is_left s k node atoms all same left e =
    let is : with_known s all.kinds all.written ≡ left_over s node atoms =
    ap (λ (z : Kinds). with_known s z all.written) e.kinds ∙ ap (λ (z : List Atom). with_known s (kinds_without s.kinds node) z) e.written in
    record {
      starts = subst (λ (z : List NodeId). HaveSameNodes z (block_starts s.graph.edges)) (sym e.starts) same;
      bounded = subst IsBounded (sym is) left.bounded;
      atoms = subst (λ (z : State). AllByRecursion (IsWellFormed z.kinds) z.atoms) (sym is) left.well;
      forgets = subst (Forgets node s) (sym is) left.forgets;
      told = λ other list. is ∙ left.told other list;
    }

-- ---- from what the calls say

-- what is known of a state and of a node that may be forgotten
pub record IsAsked (s : State) (k : Pure) (node : NodeId) : Type 0 where
  pub kinds : k.kinds ≡ s.kinds
  pub starts : HaveSameNodes k.starts (block_starts s.graph.edges)
  pub follows : (f : Atom) → Follows k f ↔ Follows (pure_of s) f
  pub is_false : IsFalsePure k ↔ IsFalse s
  pub well : IsMade s
  pub there : IsNode s.kinds node
  pub not_null : node ≢ null
  pub not_false : IsFalse s → ⊥
  pub unnamed : IsUnnamed node s
  pub says : NormalSaysAll
  pub form : HasNormalForm k
  pub made_law : ForgetStaysMade
  pub one_law : ForgetIsDetermined

leaves_asked : (s : State) (k : Pure) (node : NodeId) (atoms : List Atom) → IsAsked s k node → IsForgottenOrFalse k node atoms → Leaves s node atoms
leaves_asked s k node atoms a f =
    what_is_left s k node atoms a.kinds a.follows a.is_false a.not_false a.there a.not_null a.unnamed a.well a.says a.form a.made_law a.one_law f

-- the atoms may be written beside the other nodes
pub atoms_fit : (s : State) (k : Pure) (node : NodeId) (atoms slice : List Atom) (starts : List NodeId) (rest more : Pure) → IsAsked s k node → IsForgottenOrFalse k node atoms
    → slice ≡ atoms → rest ≡ only_kinds (kinds_without k.kinds node) → more ≡ with_starts rest starts → AllByRecursion (IsWellFormed more.kinds) slice
atoms_fit s k node atoms slice starts rest more a f same first second =
    let kinds = ap (λ (p : Pure). p.kinds) second ∙ (ap (λ (p : Pure). p.kinds) first ∙ ap (λ (z : Kinds). kinds_without z node) a.kinds) in
    let left = leaves_asked s k node atoms a f in
    subst (λ (z : List Atom). AllByRecursion (IsWellFormed more.kinds) z) (sym same)
    (subst (λ (z : Kinds). AllByRecursion (IsWellFormed z) atoms) (sym kinds) left.well)

-- and the blocks
pub starts_fit : (s : State) (k : Pure) (node : NodeId) (starts : List NodeId) (rest : Pure) → IsFit k → k.kinds ≡ s.kinds → HaveSameNodes k.starts (block_starts s.graph.edges) → IsUnnamed node s
    → starts ≡ k.starts → rest ≡ only_kinds (kinds_without k.kinds node) → AllByRecursion (IsNode rest.kinds) starts
starts_fit s k node starts rest fit kinds same unnamed begin first =
    subst (λ (z : List NodeId). AllByRecursion (IsNode rest.kinds) z) (sym begin)
    (subst (λ (z : Kinds). AllByRecursion (IsNode z) k.starts) (sym (ap (λ (p : Pure). p.kinds) first)) (starts_left s k node kinds fit same unnamed))

-- all that is known then
pub all_left : (s : State) (k : Pure) (node : NodeId) (atoms slice : List Atom) (starts : List NodeId) (rest more all : Pure) → IsAsked s k node → IsForgottenOrFalse k node atoms
    → slice ≡ atoms → starts ≡ k.starts → rest ≡ only_kinds (kinds_without k.kinds node) → more ≡ with_starts rest starts → all ≡ with_atoms more slice → IsLeft s node all
all_left s k node atoms slice starts rest more all a f same begin first second third =
    is_left s k node atoms all a.starts (leaves_asked s k node atoms a f) (put_all s k node atoms slice starts rest more all a.kinds same begin first second third)
