-- Nodes that are named for terms have their kinds, and what fits goes on to fit.
use Rattle.std.proofs.Common.{◌≡◌, ◌<◌, ℕ, suc, List, [], ◌∷◌, ◌++◌, Bool, true, false, Option, Some, None, map, slice_get, refl, ap, sym, ◌∙◌, subst, inl, inr, arith, eq-eqb}
use Rattle.std.specs.Prelude.{◌==◌, ◌⊎◌, Ok, Err, cond, filter, find, option_map, if◌then◌else◌}
use Rattle.std.specs.List.{AllByRecursion}
use Rattle.std.proofs.lemmas.Bool.{ne_eqb}
use Rattle.mc_base.specs.declared.ids.NodeId.{NodeId}
use Rattle.mc_base.specs.declared.ids.PredId.{PredId}
use Rattle.mc_base.specs.declared.plain.Kind.{Kind}
use Rattle.mc_base.specs.declared.plain.Kind.TheVariants.{Int, Ptr}
use Rattle.mc_base.specs.declared.plain.Atom.TheVariants.{Eq}
use Rattle.mc_base.specs.declared.plain.VarInfo.{VarInfo}
use Rattle.mc_flow.specs.declared.defs.rules.Def.{Def}
use Rattle.mc_flow.specs.declared.defs.shapes.StructInfo.{StructInfo}
use Rattle.mc_state.specs.declared.graph.edge.Edge.{Edge}
use Rattle.mc_state.specs.declared.graph.edge.Edge.TheVariants.{Block, Ind, Seg}
use Rattle.mc_pure.specs.Pure.{Kinds, HasKind, kind_of}
use Rattle.mc_state.specs.Known.{Test, same_kind}
use Rattle.mc_state.specs.Premises.{Judged}
use Rattle.mc_state.specs.declared.terms.Term.{Term}
use Rattle.mc_state.specs.Fits.{HaveKinds, MayHaveKinds, ArgsFit, EdgeFitsDefs, EdgeFitsStructs, NodesAscend, IsBounded, IsWellMade}
use Rattle.mc_state.specs.Laws.{NewNodesHaveKinds}
use Rattle.mc_state.specs.State.{State, next_node, with_nodes, with_atoms}
use Rattle.mc_state.specs.Terms.{plain}
use Rattle.mc_rules_logic.specs.Fold.ChangeJudges.{naming_spare}
use Rattle.mc_rules_logic.specs.Fold.JudgedLaws.{SpareIsJudged}
use Rattle.mc_rules_logic.specs.Fold.MadeLaws.{SpareStaysMade}
use Rattle.mc_cover.specs.Terms.{equal_terms}
use Rattle.mc_joins.specs.Laws.{KnowsMade}
use Rattle.mc_joins.specs.Parts.{Basis, Named, nodes_of_kind, only_state, spare_node, own_node, node_of_term, behind, nodes_of_terms, nodes_of_args}
use Rattle.mc_joins.proofs.Members.{Has}
use Rattle.mc_joins.proofs.Keeping.{bind_some, map_some, or_some}
use Rattle.mc_joins.proofs.Steady.{node_made}

-- ---- what fits goes on to fit

-- each node keeps its kind
abbrev pub Grow : Kinds → Kinds → Type 0
Grow kinds others = (kind : Kind) (n : NodeId) → HasKind kinds kind n → HasKind others kind n

-- the edge fits the definitions and the structs
abbrev pub Fits : List Def → List StructInfo → Kinds → Edge → Type 0
Fits defs structs kinds e = EdgeFitsDefs defs kinds e × EdgeFitsStructs structs kinds e

module _ (kinds others : Kinds) (more : Grow kinds others) where
  pub have_grow : (ks : List Kind) (ns : List NodeId) → HaveKinds kinds ks ns → HaveKinds others ks ns
  have_grow [] [] h = tt
  have_grow [] (n ∷ ns) h = absurd h
  have_grow (k ∷ ks) [] h = absurd h
  have_grow (k ∷ ks) (n ∷ ns) h = (more k n h.0, have_grow ks ns h.1)

  pub may_grow : (ks : List Kind) (ns : List (Option NodeId)) → MayHaveKinds kinds ks ns → MayHaveKinds others ks ns
  may_grow [] [] h = tt
  may_grow [] (n ∷ ns) h = absurd h
  may_grow (k ∷ ks) [] h = absurd h
  may_grow (k ∷ ks) (None ∷ ns) h = (tt, may_grow ks ns h.1)
  may_grow (k ∷ ks) (Some n ∷ ns) h = (more k n h.0, may_grow ks ns h.1)

  pub fits_grow : (defs : List Def) (structs : List StructInfo) (e : Edge) → Fits defs structs kinds e → Fits defs structs others e
  fits_grow defs structs (Block at shape fields) h =
      ((more Ptr at h.0.0, h.0.1), (h.1.0, h.1.1, may_grow (map (λ x. x.kind) h.1.0.fields) fields h.1.2))
  fits_grow defs structs (Ind at pred args) h = ((more Ptr at h.0.0, (h.0.1.0, h.0.1.1, have_grow h.0.1.0.params args h.0.1.2)), tt)
  fits_grow defs structs (Seg at args pred stop ends) h = (
    (
      more Ptr at h.0.0,
      (h.0.1.0, h.0.1.1, have_grow h.0.1.0.params args h.0.1.2),
      more Ptr stop h.0.2,
      (h.0.3.0, h.0.3.1, have_grow h.0.3.0.params ends h.0.3.2),
    ),
    tt,
  )

-- ---- own nodes

cond_some : {X : Type 0} (b : Bool) (x : X) (o : Option X) (y : X) → cond b (Some x) o ≡ Some y → ((b ≡ true) × (y ≡ x)) ⊎ (o ≡ Some y)
cond_some true x o y e = inl (refl, sym (cc e))
cond_some false x o y e = inr e

pub find_some : {X : Type 0} (test : X → Bool) (xs : List X) (x : X) → find test xs ≡ Some x → Has xs x × (test x ≡ true)
find_some test [] x e = absurd (cc e)
find_some test (y ∷ ys) x e = elim (cond_some (test y) y (find test ys) x e) [
  | inl here ↦ (inl here.1, ap test here.1 ∙ here.0)
  | inr later ↦ let rest = find_some test ys x later in (inr rest.0, rest.1)
]

-- nodes that ascend are found by their numbers
rest_once : (k : NodeId × Kind) (kinds more : Kinds) (low high : ℕ) → NodesAscend low more high → k.0.0 < low
    → AllByRecursion (λ (j : NodeId × Kind). kind_of kinds j.0 ≡ Some j.1) more → AllByRecursion (λ (j : NodeId × Kind). kind_of (k ∷ kinds) j.0 ≡ Some j.1) more
rest_once k kinds [] low high a less h = tt
rest_once k kinds (j ∷ more) low high a less h =
    let first = a.0 in
    let apart : (k.0.0 == j.0.0) ≡ false = ne_eqb k.0.0 j.0.0 (let differ : k.0.0 ≡ j.0.0 → ⊥ = λ q. omega arith in differ) in (
      ap (λ (b : Bool). if b then Some k.1 else kind_of kinds j.0) apart ∙ h.0,
      rest_once k kinds more (suc j.0.0) high a.2 (omega arith) h.1,
    )

pub once : (low : ℕ) (kinds : Kinds) (high : ℕ) → NodesAscend low kinds high → AllByRecursion (λ (j : NodeId × Kind). kind_of kinds j.0 ≡ Some j.1) kinds
once low [] high a = tt
once low (k ∷ kinds) high a =
    let here : (k.0.0 == k.0.0) ≡ true = eq-eqb k.0.0 k.0.0 refl in (
      ap (λ (b : Bool). if b then Some k.1 else kind_of kinds k.0) here,
      rest_once k kinds kinds (suc k.0.0) high a.2 (let less : k.0.0 < suc k.0.0 = omega arith in less) (once (suc k.0.0) kinds high a.2),
    )

one_kind : (a b : Kind) → same_kind a b ≡ true → a ≡ b
one_kind Int Int e = refl
one_kind Int Ptr e = absurd (cc e)
one_kind Ptr Int e = absurd (cc e)
one_kind Ptr Ptr e = refl

of_kind : (all : Kinds) (kind : Kind) (kinds : Kinds) → AllByRecursion (λ (j : NodeId × Kind). kind_of all j.0 ≡ Some j.1) kinds → (n : NodeId)
    → Has (map (λ (k : NodeId × Kind). k.0) (filter (λ (k : NodeId × Kind). same_kind k.1 kind) kinds)) n → kind_of all n ≡ Some kind
of_kind all kind [] a n h = absurd h
of_kind all kind (k ∷ kinds) a n h = at (same_kind k.1 kind) refl (λ later. of_kind all kind kinds a.1 n later) h
  where
    at : (b : Bool) → same_kind k.1 kind ≡ b
        → (Has (map (λ (k : NodeId × Kind). k.0) (filter (λ (k : NodeId × Kind). same_kind k.1 kind) kinds)) n → kind_of all n ≡ Some kind)
        → Has (map (λ (k : NodeId × Kind). k.0) (cond b (k ∷ filter (λ (k : NodeId × Kind). same_kind k.1 kind) kinds) (filter (λ (k : NodeId × Kind). same_kind k.1 kind) kinds))) n
        → kind_of all n ≡ Some kind
    at true is rest (inl same) = ap (kind_of all) same ∙ a.0 ∙ ap (λ (x : Kind). Some x) (one_kind k.1 kind is)
    at true is rest (inr later) = rest later
    at false is rest h = rest h

pub listed_kind : (s : State) (kind : Kind) (n : NodeId) → IsBounded s → Has (nodes_of_kind s kind) n → HasKind s.kinds kind n
listed_kind s kind n bounded (inl same) = inl same
listed_kind s kind n bounded (inr h) = inr (of_kind s.kinds kind s.kinds (once 1 s.kinds s.next bounded.kinds) n h)

-- ---- named nodes

-- a node is named that has the kind, and the others keep theirs
pub record OneNamed (s : State) (kind : Kind) (n : Named) : Type 0 where
  pub node : NodeId
  pub only : n.nodes ≡ node ∷ []
  pub has : HasKind n.state.kinds kind node
  pub grows : Grow s.kinds n.state.kinds

module _ (judged : SpareIsJudged) (stays : SpareStaysMade) (new : NewNodesHaveKinds) (defs : List Def) (vars : List VarInfo) (structs : List StructInfo) (know : State → Test) (tells : KnowsMade defs vars structs know) where
  abbrev basis : Basis
  basis = record { know = know; defs = defs }

  abbrev Made : State → Type 0
  Made s = IsWellMade defs vars structs s

  abbrev spared : State → State → Named
  spared s after = record { state = after; nodes = next_node s ∷ [] }

  spare_named : (s : State) (kind : Kind) (t : Term) (n : Named) → Made s → spare_node basis s kind t ≡ Some n → OneNamed s kind n
  spare_named s kind t n made e = at (naming_spare (know s) t.node t.add kind s) refl e
    where
      from : (u : State) → u ≡ with_atoms (with_nodes s (kind ∷ [])) (Eq (next_node s) t.node t.add ∷ []) → spared s u ≡ n → OneNamed s kind n
      from u is same =
          let fresh = new s (kind ∷ []) made.bounded in
          let kinds : (with_nodes s (kind ∷ [])).kinds ≡ n.state.kinds = sym (ap (λ (x : State). x.kinds) is) ∙ ap (λ (m : Named). m.state.kinds) same in
          record {
            node = next_node s;
            only = sym (ap (λ (m : Named). m.nodes) same);
            has = subst (λ (ks : Kinds). HasKind ks kind (next_node s)) kinds fresh.0.0;
            grows = λ own m h. subst (λ (ks : Kinds). HasKind ks own m) kinds (fresh.1 own m h);
          }

      at : (o : Judged (List State)) → naming_spare (know s) t.node t.add kind s ≡ o → option_map (spared s) (only_state o) ≡ Some n → OneNamed s kind n
      at (Ok []) is e = absurd (cc e)
      at (Ok (u ∷ [])) is e =
          let i = (judged (know s) t.node t.add kind s (tells s made) (u ∷ [])).0 is in
          let given : u ∷ [] ≡ with_atoms (with_nodes s (kind ∷ [])) (Eq (next_node s) t.node t.add ∷ []) ∷ [] = i.gives in
          from u (cc given) (cc e)
      at (Ok (u ∷ x ∷ us)) is e = absurd (cc e)
      at (Err k) is e = absurd (cc e)

  own_named : (s : State) (kind : Kind) (t : Term) (n : Named) → Made s
      → option_map (λ (m : NodeId). let r : Named = record { state = s; nodes = m ∷ [] } in r) (own_node basis s kind t) ≡ Some n → OneNamed s kind n
  own_named s kind t n made e =
      let got = map_some (λ (m : NodeId). let r : Named = record { state = s; nodes = m ∷ [] } in r) (own_node basis s kind t) n e in
      let found = find_some (λ (m : NodeId). equal_terms (know s) t (plain m)) (nodes_of_kind s kind) got.0 got.1 in
      let kinds : s.kinds ≡ n.state.kinds = ap (λ (m : Named). m.state.kinds) got.2 in
      record {
        node = got.0;
        only = sym (ap (λ (m : Named). m.nodes) got.2);
        has = subst (λ (ks : Kinds). HasKind ks kind got.0) kinds (listed_kind s kind got.0 made.bounded found.0);
        grows = λ own m h. subst (λ (ks : Kinds). HasKind ks own m) kinds h;
      }

  node_named : (s : State) (kind : Kind) (t : Term) (n : Named) → Made s → node_of_term basis s kind t ≡ Some n → OneNamed s kind n
  node_named s kind t n made e =
      or_some (OneNamed s kind) (option_map (λ (m : NodeId). let r : Named = record { state = s; nodes = m ∷ [] } in r) (own_node basis s kind t)) (spare_node basis s kind t) n
      (own_named s kind t n made) (spare_named s kind t n made) e

  -- the nodes have the kinds, and the others keep theirs
  abbrev pub AreNamed : State → List Kind → Named → Type 0
  AreNamed s kinds n = Grow s.kinds n.state.kinds × HaveKinds n.state.kinds kinds n.nodes

  terms_named : (s : State) (kinds : List Kind) (ts : List Term) (n : Named) → Made s → nodes_of_terms basis s kinds ts ≡ Some n → AreNamed s kinds n
  terms_named s [] [] n made e =
      let empty : Named = record { state = s; nodes = [] } in
      let same : empty ≡ n = cc e in
      subst (λ (m : Named). AreNamed s [] m) same (λ kind m h. h, tt)
  terms_named s [] (t ∷ ts) n made e = absurd (cc e)
  terms_named s (kind ∷ kinds) [] n made e = absurd (cc e)
  terms_named s (kind ∷ kinds) (t ∷ ts) n made e =
      let first = bind_some (λ (first : Named). option_map (behind first.nodes) (nodes_of_terms basis first.state kinds ts)) (node_of_term basis s kind t) n e in
      let rest = map_some (behind first.0.nodes) (nodes_of_terms basis first.0.state kinds ts) n first.2 in
      let one = node_named s kind t first.0 made first.1 in
      let more = terms_named first.0.state kinds ts rest.0 (node_made judged stays defs vars structs know tells s kind t first.0 made first.1) rest.1 in
      let nodes : one.node ∷ rest.0.nodes ≡ n.nodes = ap (λ (ns : List NodeId). ns ++ rest.0.nodes) (sym one.only) ∙ ap (λ (m : Named). m.nodes) rest.2 in
      let kinds_are : rest.0.state.kinds ≡ n.state.kinds = ap (λ (m : Named). m.state.kinds) rest.2 in (
        λ own m h. subst (λ (ks : Kinds). HasKind ks own m) kinds_are (more.0 own m (one.grows own m h)),
        subst (λ (ns : List NodeId). HaveKinds n.state.kinds (kind ∷ kinds) ns) nodes
            (subst (λ (ks : Kinds). HaveKinds ks (kind ∷ kinds) (one.node ∷ rest.0.nodes)) kinds_are (more.0 kind one.node one.has, more.1)),
      )

  -- arguments fit, and the other nodes keep their kinds
  pub args_named : (pred : PredId) (s : State) (args : List Term) (n : Named) → Made s → nodes_of_args basis pred s args ≡ Some n
      → Grow s.kinds n.state.kinds × ArgsFit defs n.state.kinds pred n.nodes
  args_named pred s args n made e =
      let d = bind_some (λ (def : Def). nodes_of_terms basis s def.params args) (slice_get defs pred.0) n e in
      let named = terms_named s d.0.params args n made d.2 in
      (named.0, (d.0, d.1, named.1))
