-- A rule whose block is there and whose calls are made, with nodes for its names, folds into an Ind.
use Rattle.std.proofs.Common.{◌≡◌, inl, inr, ℕ, zero, suc, ℤ, ◌+ℤ◌, ◌-ℤ◌, neg_ℤ, true, Option, Some, None, List, [], ◌∷◌, ◌++◌, length, map, refl, sym, ◌∙◌, ap, subst, arith, append_assoc, length-append}
use Rattle.std.specs.Prelude.{option_to_list}
use Rattle.std.specs.List.{AllByRecursion}
use Rattle.std.proofs.lemmas.Int.{ints}
use Rattle.mc_base.specs.declared.ids.EdgeId.{EdgeId}
use Rattle.mc_base.specs.declared.ids.NodeId.{NodeId}
use Rattle.mc_base.specs.declared.ids.PredId.{PredId}
use Rattle.mc_base.specs.declared.ids.StructId.{StructId}
use Rattle.mc_base.specs.declared.plain.Atom.{Atom}
use Rattle.mc_base.specs.declared.plain.Atom.TheVariants as atom
use Rattle.mc_base.specs.declared.plain.Kind.{Kind}
use Rattle.mc_base.specs.declared.plain.Kind.TheVariants.{Ptr}
use Rattle.mc_flow.specs.declared.defs.rules.Call.{Call}
use Rattle.mc_flow.specs.declared.defs.rules.Def.{Def}
use Rattle.mc_flow.specs.declared.defs.rules.DefAtom.{DefAtom}
use Rattle.mc_flow.specs.declared.defs.rules.DefAtom.TheVariants.{Eq, Ne, In}
use Rattle.mc_flow.specs.Defs.Conditions.{IsDefs, RuleFits, numbers_from}
use Rattle.mc_flow.specs.Defs.Instances.{node_of, base_node, atom_of}
use Rattle.mc_state.specs.declared.graph.edge.Edge.{Edge}
use Rattle.mc_state.specs.declared.graph.edge.Edge.TheVariants.{Block, Ind}
use Rattle.mc_state.specs.Graph.Graph.{Edges, edge_with}
use Rattle.mc_pure.specs.Derived.{itself, turned, chained, shifted, differs, differs_along}
use Rattle.mc_state.specs.Named.{Looked, are_distinct, others}
use Rattle.mc_state.proofs.Named.{picks_from, looked_count}
use Rattle.mc_state.specs.declared.terms.Term.{Term}
use Rattle.mc_state.specs.Covers.{RuleTerms}
use Rattle.mc_state.specs.Facts.{IsFalse, Derives, AreEqual, AreAllEqual}
use Rattle.mc_state.specs.Fits.{HaveKinds}
use Rattle.mc_state.specs.State.{State}
use Rattle.mc_state.specs.Terms.{plain, term_of, base_term, atom_on}
use Rattle.mc_cover.proofs.Sound.{rule_fits}
use Rattle.mc_rules_logic.specs.Fold.Folded.{folded, FieldsMatch, BlocksMatch, CallsMatch, FoldsInd, ind_fold}
use Rattle.mc_follow.specs.Ending.Ending.{Written, AreSameTerms, AreAllSameTerms, AreNamed, IsMadeBy, IsLater}
use Rattle.mc_follow.proofs.EndingLemmas.Written.{derives, eq_as, ne_as, node_meets, term_meets}

-- the block of a rule is there, at an equal node, and these are its contents; without a block there are none
abbrev pub BlockIsThere : State → Option StructId → Term → List NodeId → Option EdgeId → Type 0
BlockIsThere s None at contents None = contents ≡ []
BlockIsThere s None at contents (Some id) = ⊥
BlockIsThere s (Some shape) at contents None = ⊥
BlockIsThere s (Some shape) at contents (Some id) =
    (b : NodeId) × (edge_with s.graph.edges id ≡ Some (Block b shape (map Some contents))) × AreSameTerms s at (plain b)

-- each call is made by an edge
abbrev pub CallsAreMade : State → List Term → List Call → List EdgeId → Type 0
CallsAreMade s names [] [] = Unit {0}
CallsAreMade s names [] (id ∷ ids) = ⊥
CallsAreMade s names (call ∷ calls) [] = ⊥
CallsAreMade s names (call ∷ calls) (id ∷ ids) =
    IsMadeBy s call.pred (term_of names call.at) (map (term_of names) call.args) id × CallsAreMade s names calls ids

-- ---- atoms of nodes that have the values of terms

module _ (s : State) (l ln b bn : NodeId) (la ba add : ℤ) (left : Written s (atom.Eq l ln la)) (right : Written s (atom.Eq b bn ba)) where
  eq_goes : Written s (atom.Eq ln bn ((ba +ℤ add) -ℤ la)) → Written s (atom.Eq l b add)
  eq_goes h =
      let number : (la +ℤ ((ba +ℤ add) -ℤ la)) +ℤ neg_ℤ ba ≡ add = omega (arith, ints) in
      eq_as s l b ((la +ℤ ((ba +ℤ add) -ℤ la)) +ℤ neg_ℤ ba) add number (chained (chained left h) (turned right))

  ne_goes : Written s (atom.Ne ln bn ((ba +ℤ add) -ℤ la)) → Written s (atom.Ne l b add)
  ne_goes h =
      let sum : ℤ = neg_ℤ (((ba +ℤ add) -ℤ la) +ℤ neg_ℤ ba) +ℤ neg_ℤ la in
      let number : neg_ℤ (neg_ℤ (((ba +ℤ add) -ℤ la) +ℤ neg_ℤ ba) +ℤ neg_ℤ la) ≡ add = omega (arith, ints) in
      ne_as s l b (neg_ℤ sum) add number (differs (differs_along (differs (differs_along h (turned right))) (turned left)))

in_goes : (s : State) (l ln : NodeId) (la lo hi : ℤ) → Written s (atom.Eq l ln la) → Written s (atom.In ln (lo -ℤ la) (hi -ℤ la)) → Written s (atom.In l lo hi)
in_goes s l ln la lo hi left h =
    let low : (lo -ℤ la) +ℤ la ≡ lo = omega (arith, ints) in
    let high : (hi -ℤ la) +ℤ la ≡ hi = omega (arith, ints) in
    subst (λ (z : ℤ). Written s (atom.In l lo z)) high (subst (λ (z : ℤ). Written s (atom.In l z ((hi -ℤ la) +ℤ la))) low (shifted left h))

-- the node of a name has the value of its term
name_same : (s : State) (kinds : List Kind) (ts : List Term) (ns : List NodeId) → AreNamed s kinds ts ns → (name : ℕ)
    → Written s (atom.Eq (node_of ns name) (term_of ts name).node (term_of ts name).add)
name_same s [] [] [] h name = itself (Ptr, inl refl)
name_same s [] [] (n ∷ ns) h name = absurd h
name_same s [] (t ∷ ts) ns h name = absurd h
name_same s (kind ∷ kinds) [] ns h name = absurd h
name_same s (kind ∷ kinds) (t ∷ ts) [] h name = absurd h
name_same s (kind ∷ kinds) (t ∷ ts) (n ∷ ns) h zero = h.0.1
name_same s (kind ∷ kinds) (t ∷ ts) (n ∷ ns) h (suc name) = name_same s kinds ts ns h.1 name

have_kinds : (s : State) (kinds : List Kind) (ts : List Term) (ns : List NodeId) → AreNamed s kinds ts ns → HaveKinds s.kinds kinds ns
have_kinds s [] [] [] h = tt
have_kinds s [] [] (n ∷ ns) h = absurd h
have_kinds s [] (t ∷ ts) ns h = absurd h
have_kinds s (kind ∷ kinds) [] ns h = absurd h
have_kinds s (kind ∷ kinds) (t ∷ ts) [] h = absurd h
have_kinds s (kind ∷ kinds) (t ∷ ts) (n ∷ ns) h = (h.0.0, have_kinds s kinds ts ns h.1)

-- the first nodes are those of the first terms
record Parts (s : State) (ts : List Term) (ns : List NodeId) : Type 0 where
  pub first : List NodeId
  pub others : List NodeId
  pub together : ns ≡ first ++ others
  pub count : length first ≡ length ts
  pub same : AreAllSameTerms s ts (map plain first)

parts : (s : State) (kinds : List Kind) (ts us : List Term) (ns : List NodeId) → AreNamed s kinds (ts ++ us) ns → Parts s ts ns
parts s kinds [] us ns h = record { first = []; others = ns; together = refl; count = refl; same = tt }
parts s [] (t ∷ ts) us ns h = absurd h
parts s (kind ∷ kinds) (t ∷ ts) us [] h = absurd h
parts s (kind ∷ kinds) (t ∷ ts) us (n ∷ ns) h =
    let rest = parts s kinds ts us ns h.1 in
    record {
      first = n ∷ rest.first;
      others = rest.others;
      together = ap (λ (l : List NodeId). n ∷ l) rest.together;
      count = ap suc rest.count;
      same = (term_meets s t n h.0.1, rest.same);
    }

-- `this`, the arguments and the others
record Front (s : State) (at : Term) (args : List Term) (ns : List NodeId) : Type 0 where
  pub this : NodeId
  pub nodes : List NodeId
  pub others : List NodeId
  pub together : ns ≡ this ∷ (nodes ++ others)
  pub count : length nodes ≡ length args
  pub same_at : AreSameTerms s at (plain this)
  pub same_args : AreAllSameTerms s args (map plain nodes)

front : (s : State) (kinds : List Kind) (at : Term) (args us : List Term) (ns : List NodeId) → AreNamed s kinds (at ∷ (args ++ us)) ns → Front s at args ns
front s [] at args us ns h = absurd h
front s (kind ∷ kinds) at args us [] h = absurd h
front s (kind ∷ kinds) at args us (n ∷ ns) h =
    let p = parts s kinds args us ns h.1 in
    record { this = n; nodes = p.first; others = p.others; together = ap (λ (l : List NodeId). n ∷ l) p.together; count = p.count; same_at = term_meets s at n h.0.1; same_args = p.same }

-- the term after others
term_behind : (xs rest : List Term) (x : Term) → term_of (xs ++ x ∷ rest) (length xs) ≡ x
term_behind [] rest x = refl
term_behind (y ∷ xs) rest x = term_behind xs rest x

looked_both : (es : Edges) (ids more : List EdgeId) (picked others : List Edge) → Looked es ids picked → Looked es more others → Looked es (ids ++ more) (picked ++ others)
looked_both es [] more [] others a b = b
looked_both es [] more (e ∷ picked) others a b = absurd a
looked_both es (id ∷ ids) more [] others a b = absurd a
looked_both es (id ∷ ids) more (e ∷ picked) others a b = (a.0, looked_both es ids more picked others a.1 b)

-- ---- the rule

-- what comes of it
pub record Folds (defs : List Def) (s : State) (pred : PredId) (at : Term) (args : List Term) (rule : ℕ) (ns : List NodeId) (block : Option EdgeId) (ids : List EdgeId) : Type 0 where
  pub node : NodeId
  pub nodes : List NodeId
  pub instance : FoldsInd defs (ind_fold pred rule ns block ids) s (folded s (others s.graph.edges (option_to_list block ++ ids)) (Ind node pred nodes) ∷ [])
  pub same_at : AreSameTerms s at (plain node)
  pub same_args : AreAllSameTerms s args (map plain nodes)

module _ (defs : List Def) (fit : IsDefs defs) (before s : State) (sound : IsFalse before → ⊥) (later : IsLater before s)
    (pred : PredId) (at : Term) (args : List Term) (by : RuleTerms defs before pred at args)
    (ns : List NodeId) (named : AreNamed s by.rule.names by.names ns) where
  -- what was entailed is written
  followed : (f : Atom) → Derives before f → Written s f
  followed f h = elim h [ inl a ↦ later.known f a | inr wrong ↦ absurd (sound wrong) ]

  name_is : (name : ℕ) → Written s (atom.Eq (node_of ns name) (term_of by.names name).node (term_of by.names name).add)
  name_is name = name_same s by.rule.names by.names ns named name

  base_is : (base : Option ℕ) → Written s (atom.Eq (base_node ns base) (base_term by.names base).node (base_term by.names base).add)
  base_is None = itself (Ptr, inl refl)
  base_is (Some name) = name_is name

  atom_goes : (a : DefAtom) → Derives before (atom_on by.names a) → Derives s (atom_of ns a)
  atom_goes (Eq left base add fixes) h =
      let l = term_of by.names left in
      let b = base_term by.names base in
      derives s _ (eq_goes s (node_of ns left) l.node (base_node ns base) b.node l.add b.add add (name_is left) (base_is base) (followed _ h))
  atom_goes (Ne left base add) h =
      let l = term_of by.names left in
      let b = base_term by.names base in
      derives s _ (ne_goes s (node_of ns left) l.node (base_node ns base) b.node l.add b.add add (name_is left) (base_is base) (followed _ h))
  atom_goes (In left lo hi) h =
      let l = term_of by.names left in
      derives s _ (in_goes s (node_of ns left) l.node l.add lo hi (name_is left) (followed _ h))

  atoms_go : (atoms : List DefAtom) → AllByRecursion (λ a. Derives before (atom_on by.names a)) atoms → AllByRecursion (λ a. Derives s (atom_of ns a)) atoms
  atoms_go [] h = tt
  atoms_go (a ∷ atoms) h = (atom_goes a h.0, atoms_go atoms h.1)

  -- the node of a name whose term is a node's
  name_meets : (name : ℕ) (t : Term) (n : NodeId) → term_of by.names name ≡ t → AreSameTerms s t (plain n) → AreEqual s (node_of ns name) n
  name_meets name t n is same =
      node_meets s (term_of by.names name) (node_of ns name) n (name_is name) (subst (λ (z : Term). AreSameTerms s z (plain n)) (sym is) same)

  -- each content's node is the field's
  fields_go : (xs : List Term) (cs : List NodeId) (rest : List Term) → by.names ≡ xs ++ (map plain cs ++ rest) → FieldsMatch s ns (numbers_from (length xs) (length cs)) (map Some cs)
  fields_go xs [] rest is = tt
  fields_go xs (c ∷ cs) rest is =
      let here : term_of by.names (length xs) ≡ plain c = ap (λ (l : List Term). term_of l (length xs)) is ∙ term_behind xs (map plain cs ++ rest) (plain c) in
      let kind_here = name_is (length xs) in
      let more = fields_go (xs ++ plain c ∷ []) cs rest (is ∙ sym (append_assoc xs (plain c ∷ []) (map plain cs ++ rest))) in
      let count : length (xs ++ plain c ∷ []) ≡ suc (length xs) = length-append xs (plain c ∷ []) ∙ omega arith in
      (alone_meets c (length xs) here kind_here, subst (λ (k : ℕ). FieldsMatch s ns (numbers_from k (length cs)) (map Some cs)) count more)
    where
      alone_meets : (c : NodeId) (name : ℕ) → term_of by.names name ≡ plain c → Written s (atom.Eq (node_of ns name) (term_of by.names name).node (term_of by.names name).add) → AreEqual s (node_of ns name) c
      alone_meets c name is h = derives s _ (subst (λ (z : Term). Written s (atom.Eq (node_of ns name) z.node z.add)) is h)

  rule : RuleFits defs by.def.params by.rule
  rule = rule_fits defs fit pred.0 by.def by.defined by.place by.rule by.listed

  contents_go : FieldsMatch s ns by.rule.contents (map Some by.contents)
  contents_go =
      let matched = fields_go (at ∷ args) by.contents by.fixed by.front in
      let first : length (at ∷ args) ≡ suc (length by.def.params) = ap suc by.count in
      let same : numbers_from (length (at ∷ args)) (length by.contents) ≡ by.rule.contents =
      ap (λ (k : ℕ). numbers_from k (length by.contents)) first ∙ (ap (λ (k : ℕ). numbers_from (suc (length by.def.params)) k) by.contents_count ∙ sym rule.names.contents) in
      subst (λ (l : List ℕ). FieldsMatch s ns l (map Some by.contents)) same matched

  this_is : term_of by.names 0 ≡ at
  this_is = ap (λ (l : List Term). term_of l 0) by.front

  blocks_go : (shape : Option StructId) (contents : List ℕ) (block : Option EdgeId) → FieldsMatch s ns contents (map Some by.contents) → BlockIsThere s shape at by.contents block
      → (blocks : List Edge) × Looked s.graph.edges (option_to_list block) blocks × BlocksMatch s ns shape contents blocks
  blocks_go None contents None fields h = ([], tt, tt)
  blocks_go None contents (Some id) fields h = absurd h
  blocks_go (Some shape) contents None fields h = absurd h
  blocks_go (Some shape) contents (Some id) fields h =
      (Block h.0 shape (map Some by.contents) ∷ [], (h.1, tt), (refl, name_meets 0 at h.0 this_is h.2, fields))

  args_meet : (names : List ℕ) (bs : List NodeId) → AreAllSameTerms s (map (term_of by.names) names) (map plain bs) → AreAllEqual s (map (node_of ns) names) bs
  args_meet [] [] h = tt
  args_meet [] (b ∷ bs) h = absurd h
  args_meet (name ∷ names) [] h = absurd h
  args_meet (name ∷ names) (b ∷ bs) h = (name_meets name (term_of by.names name) b refl h.0, args_meet names bs h.1)

  calls_go : (calls : List Call) (ids : List EdgeId) → CallsAreMade s by.names calls ids → (inds : List Edge) × Looked s.graph.edges ids inds × CallsMatch s ns calls inds
  calls_go [] [] h = ([], tt, tt)
  calls_go [] (id ∷ ids) h = absurd h
  calls_go (call ∷ calls) [] h = absurd h
  calls_go (call ∷ calls) (id ∷ ids) h =
      let rest = calls_go calls ids h.1 in
      let m = h.0 in (
        Ind m.node call.pred m.nodes ∷ rest.0,
        (m.there, rest.1),
        ((refl, name_meets call.at (term_of by.names call.at) m.node refl m.same_at, args_meet call.args m.nodes m.same_args), rest.2),
      )

  pub folds : (block : Option EdgeId) (ids : List EdgeId) → (IsFalse s → ⊥) → BlockIsThere s by.rule.block at by.contents block → CallsAreMade s by.names by.rule.calls ids
      → are_distinct (option_to_list block ++ ids) ≡ true → Folds defs s pred at args by.place ns block ids
  folds block ids consistent block_there made distinct =
      let b = blocks_go by.rule.block by.rule.contents block contents_go block_there in
      let c = calls_go by.rule.calls ids made in
      let f = front s by.rule.names at args (map plain by.contents ++ by.fixed) ns (subst (λ (l : List Term). AreNamed s by.rule.names l ns) by.front named) in
      let picked = picks_from s.graph.edges (option_to_list block ++ ids) (b.0 ++ c.0) distinct (looked_both s.graph.edges (option_to_list block) ids b.0 c.0 b.1 c.1) in
      record {
        node = f.this;
        nodes = f.nodes;
        instance = record {
          consistent = consistent;
          body = record {
            blocks = b.0;
            inds = c.0;
            left = others s.graph.edges (option_to_list block ++ ids);
            picks = picked;
            one_each = looked_count s.graph.edges ids c.0 c.1;
            def = by.def;
            defined = by.defined;
            by = by.rule;
            listed = by.listed;
            kinds = have_kinds s by.rule.names by.names ns named;
            this = f.this;
            args = f.nodes;
            others = f.others;
            front = f.together;
            count = f.count ∙ by.count;
            block_fits = b.2;
            calls_fit = c.2;
            atoms = atoms_go by.rule.atoms by.atoms;
          };
          gives = refl;
        };
        same_at = f.same_at;
        same_args = f.same_args;
      }
