-- What stands for a state stands for one with nodes named for terms, where those have the terms' values.
use Rattle.std.proofs.Common.{◌≡◌, ◌≤◌, ◌+◌, ℕ, zero, suc, ℤ, pos, ◌+ℤ◌, ◌-ℤ◌, List, [], ◌∷◌, ◌++◌, Option, Some, map, length, slice_get, refl, ap, ap₂, sym, ◌∙◌, subst, arith, le_trans, lt_of_lt_of_le}
use Rattle.std.specs.Prelude.{Ok, Err, option_map}
use Rattle.std.specs.List.{AllByRecursion}
use Rattle.std.proofs.lemmas.Int.{ints}
use Rattle.mc_base.specs.declared.ids.NodeId.{NodeId}
use Rattle.mc_base.specs.declared.ids.PredId.{PredId}
use Rattle.mc_base.specs.declared.plain.Kind.{Kind}
use Rattle.mc_base.specs.declared.plain.Atom.{Atom}
use Rattle.mc_base.specs.declared.plain.Atom.TheVariants.{Eq}
use Rattle.mc_base.specs.declared.plain.VarInfo.{VarInfo}
use Rattle.mc_base.specs.Atoms.{IsTrueAtom}
use Rattle.mc_base.specs.Kinds.{InKind}
use Rattle.mc_base.specs.Nodes.{Valuation, at_node}
use Rattle.mc_flow.specs.Heap.Heap.{Region, IsAtAddresses}
use Rattle.mc_flow.specs.declared.defs.rules.Def.{Def}
use Rattle.mc_flow.specs.declared.defs.shapes.StructInfo.{StructInfo}
use Rattle.mc_state.specs.Known.{Test}
use Rattle.mc_state.specs.Premises.{Judged}
use Rattle.mc_state.specs.declared.terms.Term.{Term}
use Rattle.mc_state.specs.Fits.{IsWellMade}
use Rattle.mc_state.specs.Laws.{DerivedIsTrue}
use Rattle.mc_state.specs.Rules.{StandsForSome}
use Rattle.mc_state.specs.Stands.{StandsBy, AgreeBelow}
use Rattle.mc_state.specs.State.{State, next_node, numbered_kinds, with_nodes, with_atoms}
use Rattle.mc_state.specs.Terms.{plain, term_value}
use Rattle.mc_rules_logic.specs.Fold.Changed.{NamesSpare}
use Rattle.mc_rules_logic.specs.Fold.ChangeJudges.{naming_spare}
use Rattle.mc_rules_logic.specs.Fold.JudgedLaws.{SpareIsJudged}
use Rattle.mc_rules_logic.specs.Fold.Laws.{LawOfSpare}
use Rattle.mc_rules_logic.specs.Fold.MadeLaws.{SpareStaysMade}
use Rattle.mc_cover.specs.Terms.{equal_terms}
use Rattle.mc_joins.specs.Laws.{KnowsMade}
use Rattle.mc_joins.specs.Parts.{Basis, Named, nodes_of_kind, only_state, spare_node, own_node, node_of_term, behind, nodes_of_terms, nodes_of_args}
use Rattle.mc_joins.proofs.NamedKinds.{find_some}
use Rattle.mc_joins.proofs.Keeping.{bind_some, map_some, or_some}
use Rattle.mc_joins.proofs.Steady.{node_made}

-- nodes are named for terms in a state: what stands for the state goes on to stand, and the nodes are the terms
pub record NameStands (defs : List Def) (values : List (Option ℤ)) (region : Region) (s : State) (ts : List Term) (n : Named) : Type 0 where
  pub later : s.next ≤ n.state.next
  pub back : (u : Valuation) → StandsBy defs u values region n.state → StandsBy defs u values region s
  pub are : (u : Valuation) → StandsBy defs u values region n.state → map (at_node u) n.nodes ≡ map (term_value u) ts
  pub forth : (v : Valuation) → StandsBy defs v values region s → (w : Valuation) × AgreeBelow s.next v w × StandsBy defs w values region n.state

all_first : {X : Type 0} (P : X → Type 0) (xs ys : List X) → AllByRecursion P (xs ++ ys) → AllByRecursion P xs
all_first P [] ys a = tt
all_first P (x ∷ xs) ys a = (a.0, all_first P xs ys a.1)

all_last : {X : Type 0} (P : X → Type 0) (xs ys : List X) → AllByRecursion P (xs ++ ys) → AllByRecursion P ys
all_last P [] ys a = a
all_last P (x ∷ xs) ys a = all_last P xs ys a.1

map_more : {X Y : Type 0} (f : X → Y) (xs ys : List X) → map f (xs ++ ys) ≡ map f xs ++ map f ys
map_more f [] ys = refl
map_more f (x ∷ xs) ys = ap (λ r. f x ∷ r) (map_more f xs ys)

only_one : {X : Type 0} (place : ℕ) (x y : X) → slice_get (x ∷ []) place ≡ Some y → y ≡ x
only_one zero x y e = sym (cc e)
only_one (suc place) x y e = absurd (cc e)

own_value : (z y add : ℤ) → z ≡ y +ℤ (pos 0 -ℤ add) → y ≡ z +ℤ add
own_value z y add e = omega (arith, ints, e)

module _ (judged : SpareIsJudged) (stays : SpareStaysMade) (spare : LawOfSpare) (truth : DerivedIsTrue) (defs : List Def) (vars : List VarInfo) (structs : List StructInfo)
    (know : State → Test) (tells : KnowsMade defs vars structs know) (values : List (Option ℤ)) (region : Region) (addresses : IsAtAddresses region) where
  abbrev basis : Basis
  basis = record { know = know; defs = defs }

  abbrev Made : State → Type 0
  Made s = IsWellMade defs vars structs s

  abbrev NS : State → List Term → Named → Type 0
  NS s ts n = NameStands defs values region s ts n

  -- less stands where more does
  stands_before : (u : Valuation) (s : State) (kinds : List Kind) (atoms : List Atom) → StandsBy defs u values region (with_atoms (with_nodes s kinds) atoms) → StandsBy defs u values region s
  stands_before u s kinds atoms st = record {
    null = st.null;
    kinds = all_first (λ (k : NodeId × Kind). InKind k.1 (u k.0.0)) s.kinds (numbered_kinds s.next kinds) st.kinds;
    atoms = all_first (IsTrueAtom u) s.atoms atoms st.atoms;
    vars = st.vars;
    parts = st.parts;
  }

  own_stands : (s : State) (kind : Kind) (t : Term) (n : Named) → Made s
      → option_map (λ (m : NodeId). let r : Named = record { state = s; nodes = m ∷ [] } in r) (own_node basis s kind t) ≡ Some n → NS s (t ∷ []) n
  own_stands s kind t n made e =
      let got = map_some (λ (m : NodeId). let r : Named = record { state = s; nodes = m ∷ [] } in r) (own_node basis s kind t) n e in
      let found = find_some (λ (m : NodeId). equal_terms (know s) t (plain m)) (nodes_of_kind s kind) got.0 got.1 in
      let derived = (tells s made (Eq t.node got.0 (pos 0 -ℤ t.add))).0 found.1 in
      subst (NS s (t ∷ [])) got.2 (record {
        later = omega arith;
        back = λ u st. st;
        are = λ u st.
            let e : u t.node.0 ≡ u got.0.0 +ℤ (pos 0 -ℤ t.add) = truth defs u values region s (Eq t.node got.0 (pos 0 -ℤ t.add)) addresses st derived in
            ap (λ (z : ℤ). z ∷ []) (own_value (u t.node.0) (u got.0.0) t.add e);
        forth = λ v st. (v, λ m less. refl, st);
      })

  abbrev spared : State → State → Named
  spared s after = record { state = after; nodes = next_node s ∷ [] }

  abbrev more : State → Kind → Term → State
  more s kind t = with_atoms (with_nodes s (kind ∷ [])) (Eq (next_node s) t.node t.add ∷ [])

  named_stands : (s : State) (kind : Kind) (t : Term) → Made s → NamesSpare t.node t.add kind s (more s kind t ∷ []) → NS s (t ∷ []) (spared s (more s kind t))
  named_stands s kind t made i = record {
    later = let grows : s.next ≤ s.next + length (kind ∷ []) = omega arith in grows;
    back = λ u st. stands_before u s (kind ∷ []) (Eq (next_node s) t.node t.add ∷ []) st;
    are = λ u st. ap (λ (z : ℤ). z ∷ []) (all_last (IsTrueAtom u) s.atoms (Eq (next_node s) t.node t.add ∷ []) st.atoms).0;
    forth = λ v st. first v ((spare defs t.node t.add kind s (more s kind t ∷ []) made.bounded i).0 v values region addresses st);
  } where
    first : (v : Valuation) → StandsForSome defs s.next v values region (more s kind t ∷ []) → (w : Valuation) × AgreeBelow s.next v w × StandsBy defs w values region (more s kind t)
    first v f = (f.2, f.4, subst (λ (x : State). StandsBy defs f.2 values region x) (only_one f.0 (more s kind t) f.1 f.3) f.5)

  spare_stands : (s : State) (kind : Kind) (t : Term) (n : Named) → Made s → spare_node basis s kind t ≡ Some n → NS s (t ∷ []) n
  spare_stands s kind t n made e = at (naming_spare (know s) t.node t.add kind s) refl e
    where
      from : (u : State) → u ≡ more s kind t → NamesSpare t.node t.add kind s (u ∷ []) → NS s (t ∷ []) (spared s u)
      from u is i =
          subst (λ (x : State). NS s (t ∷ []) (spared s x)) (sym is) (named_stands s kind t made (subst (λ (x : State). NamesSpare t.node t.add kind s (x ∷ [])) is i))

      at : (o : Judged (List State)) → naming_spare (know s) t.node t.add kind s ≡ o → option_map (spared s) (only_state o) ≡ Some n → NS s (t ∷ []) n
      at (Ok []) is e = absurd (cc e)
      at (Ok (u ∷ [])) is e =
          let i = (judged (know s) t.node t.add kind s (tells s made) (u ∷ [])).0 is in
          let given : u ∷ [] ≡ more s kind t ∷ [] = i.gives in
          let same : spared s u ≡ n = cc e in
          subst (NS s (t ∷ [])) same (from u (cc given) i)
      at (Ok (u ∷ x ∷ us)) is e = absurd (cc e)
      at (Err k) is e = absurd (cc e)

  node_stands : (s : State) (kind : Kind) (t : Term) (n : Named) → Made s → node_of_term basis s kind t ≡ Some n → NS s (t ∷ []) n
  node_stands s kind t n made e =
      or_some (NS s (t ∷ [])) (option_map (λ (m : NodeId). let r : Named = record { state = s; nodes = m ∷ [] } in r) (own_node basis s kind t)) (spare_node basis s kind t) n
      (own_stands s kind t n made) (spare_stands s kind t n made) e

  both_stand : (s : State) (t : Term) (ts : List Term) (first rest : Named) → NS s (t ∷ []) first → NS first.state ts rest → NS s (t ∷ ts) (behind first.nodes rest)
  both_stand s t ts first rest one more = record {
    later = le_trans one.later more.later;
    back = λ u st. one.back u (more.back u st);
    are = λ u st. map_more (at_node u) first.nodes rest.nodes ∙ ap₂ (λ (xs ys : List ℤ). xs ++ ys) (one.are u (more.back u st)) (more.are u st);
    forth = λ v st.
        let a = one.forth v st in
        let b = more.forth a.0 a.2 in
        (b.0, λ m less. b.1 m (lt_of_lt_of_le less one.later) ∙ a.1 m less, b.2);
  }

  terms_stand : (s : State) (kinds : List Kind) (ts : List Term) (n : Named) → Made s → nodes_of_terms basis s kinds ts ≡ Some n → NS s ts n
  terms_stand s [] [] n made e =
      let empty : Named = record { state = s; nodes = [] } in
      let same : empty ≡ n = cc e in
      subst (NS s []) same (record { later = omega arith; back = λ u st. st; are = λ u st. refl; forth = λ v st. (v, λ m less. refl, st) })
  terms_stand s [] (t ∷ ts) n made e = absurd (cc e)
  terms_stand s (kind ∷ kinds) [] n made e = absurd (cc e)
  terms_stand s (kind ∷ kinds) (t ∷ ts) n made e =
      let first = bind_some (λ (first : Named). option_map (behind first.nodes) (nodes_of_terms basis first.state kinds ts)) (node_of_term basis s kind t) n e in
      let rest = map_some (behind first.0.nodes) (nodes_of_terms basis first.0.state kinds ts) n first.2 in
      let one = node_stands s kind t first.0 made first.1 in
      let more = terms_stand first.0.state kinds ts rest.0 (node_made judged stays defs vars structs know tells s kind t first.0 made first.1) rest.1 in
      subst (NS s (t ∷ ts)) rest.2 (both_stand s t ts first.0 rest.0 one more)

  -- so it is with the nodes of arguments
  pub args_stand : (pred : PredId) (s : State) (args : List Term) (n : Named) → Made s → nodes_of_args basis pred s args ≡ Some n → NS s args n
  args_stand pred s args n made e =
      let d = bind_some (λ (def : Def). nodes_of_terms basis s def.params args) (slice_get defs pred.0) n e in terms_stand s d.0.params args n made d.2
