-- Whether a node is named is a test.
use Rattle.std.proofs.Common.{◌≡◌, ◌↔◌, inl, inr, ℕ, zero, suc, List, [], ◌∷◌, Option, Some, None, Bool, true, false, ◌&&◌, ◌||◌, not, nat_eq, slice_get, Contains, refl, sym, ◌∙◌, ap, subst}
use Rattle.std.specs.List.{list_all}
use Rattle.mc_base.specs.declared.ids.EdgeId.{EdgeId}
use Rattle.mc_base.specs.declared.ids.NodeId.{NodeId}
use Rattle.mc_state.specs.declared.graph.edge.Edge.{Edge}
use Rattle.mc_state.specs.Graph.Edges.{nodes_of, known_nodes}
use Rattle.mc_state.specs.Graph.Graph.{Edges}
use Rattle.mc_state.specs.State.{State}
use Rattle.mc_state.specs.Facts.{IsUnnamed}
use Rattle.mc_rules_logic.specs.Fold.ChangeJudges.{is_listed, is_unnamed}
use Rattle.mc_apply_fold.proofs.ForgetLemmas.Lists.{is_yes}
use Rattle.mc_rules_logic.proofs.FoldLemmas.Ordered.{among_same}
use Rattle.mc_pure.proofs.Changing.{number, same_node, yes}
use Rattle.mc_rules_logic.proofs.FoldLemmas.Ordered.{among_cases, among_none, among_there}

both_of : (a b : Bool) → (a && b) ≡ true → (a ≡ true) × (b ≡ true)
both_of true b e = (refl, e)
both_of false b e = absurd (cc e)

both_yes : (a b : Bool) → a ≡ true → b ≡ true → (a && b) ≡ true
both_yes a b p q = ap (λ a. a && b) p ∙ q

second_yes : (a b : Bool) → b ≡ true → (a || b) ≡ true
second_yes true b e = refl
second_yes false b e = e

not_yes : (b : Bool) → (b ≡ true → ⊥) → not b ≡ true
not_yes true none = absurd (none refl)
not_yes false none = refl

never : (b : Bool) → not b ≡ true → b ≡ true → ⊥
never true e f = cc e
never false e f = cc f

module _ (n : NodeId) where
  listed_from : (ns : List NodeId) → is_listed n ns ≡ true → Contains ns n
  listed_from [] e = absurd (cc e)
  listed_from (m ∷ ns) e = at (listed_from ns) (nat_eq m.0 n.0) refl e
    where
      at : (is_listed n ns ≡ true → Contains ns n) → (b : Bool) → nat_eq m.0 n.0 ≡ b → (b || is_listed n ns) ≡ true → Contains (m ∷ ns) n
      at rest true is e = among_same m ns n (same_node m n (is_yes m.0 n.0 is))
      at rest false is e = among_there m ns n (rest e)

  listed_to : (ns : List NodeId) → Contains ns n → is_listed n ns ≡ true
  listed_to [] c = absurd (among_none n c)
  listed_to (m ∷ ns) c = elim (among_cases m ns n c) [
    | inl e ↦ rw (yes m.0 n.0 (number e)) refl
    | inr d ↦ second_yes (nat_eq m.0 n.0) (is_listed n ns) (listed_to ns d)
  ]

  var_listed : (env : List (Option NodeId)) (place : ℕ) → slice_get env place ≡ Some (Some n) → is_listed n (known_nodes env) ≡ true
  var_listed [] place e = absurd (cc e)
  var_listed (None ∷ env) zero e = absurd (cc e)
  var_listed (None ∷ env) (suc place) e = var_listed env place e
  var_listed (Some m ∷ env) zero e = let same : m ≡ n = cc e in rw (yes m.0 n.0 (number same)) refl
  var_listed (Some m ∷ env) (suc place) e = second_yes (nat_eq m.0 n.0) (is_listed n (known_nodes env)) (var_listed env place e)

  abbrev IsVar : List (Option NodeId) → Type 0
  IsVar env = (place : ℕ) × (slice_get env place ≡ Some (Some n))

  listed_var : (env : List (Option NodeId)) → is_listed n (known_nodes env) ≡ true → IsVar env
  listed_var [] e = absurd (cc e)
  listed_var (None ∷ env) e = let h = listed_var env e in (suc h.0, h.1)
  listed_var (Some m ∷ env) e = at (listed_var env) (nat_eq m.0 n.0) refl e
    where
      at : (is_listed n (known_nodes env) ≡ true → IsVar env) → (b : Bool) → nat_eq m.0 n.0 ≡ b → (b || is_listed n (known_nodes env)) ≡ true → IsVar (Some m ∷ env)
      at rest true is e = (0, ap (λ (k : NodeId). Some (Some k)) (same_node m n (is_yes m.0 n.0 is)))
      at rest false is e = let h = rest e in (suc h.0, h.1)

  abbrev leaves_out : EdgeId × Edge → Bool
  leaves_out e = not (is_listed n (nodes_of e.1))

  edges_from : (es : Edges) → list_all leaves_out es ≡ true → (place : ℕ) (id : EdgeId) (x : Edge) → slice_get es place ≡ Some (id, x) → Contains (nodes_of x) n → ⊥
  edges_from [] all place id x is c = absurd (cc is)
  edges_from (e ∷ es) all zero id x is c =
      let both = both_of (leaves_out e) (list_all leaves_out es) all in
      let same : e ≡ (id, x) = cc is in
      never (is_listed n (nodes_of e.1)) both.0 (listed_to (nodes_of e.1) (subst (λ (z : EdgeId × Edge). Contains (nodes_of z.1) n) (sym same) c))
  edges_from (e ∷ es) all (suc place) id x is c =
      let both = both_of (leaves_out e) (list_all leaves_out es) all in
      edges_from es both.1 place id x is c

  edges_to : (es : Edges) → ((place : ℕ) (id : EdgeId) (x : Edge) → slice_get es place ≡ Some (id, x) → Contains (nodes_of x) n → ⊥) → list_all leaves_out es ≡ true
  edges_to [] f = refl
  edges_to (e ∷ es) f =
      both_yes (leaves_out e) (list_all leaves_out es)
      (not_yes (is_listed n (nodes_of e.1)) (λ y. f 0 e.0 e.1 refl (listed_from (nodes_of e.1) y)))
      (edges_to es (λ place id x is. f (suc place) id x is))

pub unnamed_told : (n : NodeId) (s : State) → (is_unnamed n s ≡ true) ↔ IsUnnamed n s
unnamed_told n s = (to, from)
  where
    to : is_unnamed n s ≡ true → IsUnnamed n s
    to e =
        let both = both_of (not (is_listed n (known_nodes s.env))) (list_all (leaves_out n) s.graph.edges) e in
        record {
          vars = λ place is. never (is_listed n (known_nodes s.env)) both.0 (var_listed n s.env place is);
          edges = edges_from n s.graph.edges both.1;
        }

    from : IsUnnamed n s → is_unnamed n s ≡ true
    from u =
        both_yes (not (is_listed n (known_nodes s.env))) (list_all (leaves_out n) s.graph.edges)
        (not_yes (is_listed n (known_nodes s.env)) (λ y. let h = listed_var n s.env y in u.vars h.0 h.1))
        (edges_to n s.graph.edges u.edges)
