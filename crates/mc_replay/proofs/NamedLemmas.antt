-- Nodes of terms, and what their naming keeps.
use Rattle.std.proofs.Common.{◌≡◌, ◌<◌, ◌≤◌, ◌+◌, ℕ, suc, Bool, true, false, List, [], ◌∷◌, ◌++◌, ℤ, Option, Result, Ok, Err, map, Some, None, length, drop, get_or, append-nil, refl, sym, ap, ap₂, subst, ◌∙◌, inl, inr, arith, eqb-true}
use Rattle.std.specs.Prelude.{◌==◌, find, filter, option_map, option_and_then}
use Rattle.std.specs.List.{AllByRecursion}
use Rattle.std.specs.Option.{option_or}
use Rattle.std.proofs.lemmas.List.{drop_more}
use Rattle.mc_base.specs.declared.ids.NodeId.{NodeId}
use Rattle.mc_base.specs.declared.plain.Kind.{Kind}
use Rattle.mc_base.specs.Nodes.{null}
use Rattle.mc_pure.specs.Pure.{Kinds, kind_of}
use Rattle.mc_pure.specs.Rows.{nodes_of}
use Rattle.mc_pure.specs.Derived.{Follows}
use Rattle.mc_pure.specs.Classes.{NormalSaysAll, EachHasNormalForm, EachIsDecided}
use Rattle.mc_pure.specs.Laws.{FollowsFromMore}
use Rattle.mc_state.specs.declared.terms.Term.{Term}
use Rattle.mc_state.specs.Facts.{IsFalse}
use Rattle.mc_state.specs.Fits.{NodesAscend}
use Rattle.mc_state.specs.Known.{Test, Tells, has_kind, is_kind, same_kind}
use Rattle.mc_state.specs.Laws.{NodesAreBelow}
use Rattle.mc_state.specs.State.{State, next_node, pure_of}
use Rattle.mc_state.specs.Terms.{plain}
use Rattle.mc_state.specs.Premises.{Judged, Changes}
use Rattle.mc_state.specs.declared.rule.LogicFault.{LogicFault}
use Rattle.mc_state.specs.declared.rule.LogicFault.TheVariants.{Premise}
use Rattle.mc_rules_logic.specs.Fold.Changed.{NamesSpare}
use Rattle.mc_rules_logic.specs.Fold.ChangeJudges.{naming_spare}
use Rattle.mc_rules_logic.specs.Fold.JudgedLaws.{SpareIsJudged}
use Rattle.mc_rules_logic.specs.Fold.MadeLaws.{SpareStaysMade}
use Rattle.mc_cover.specs.Terms.{equal_terms}
use Rattle.mc_cover.proofs.SearchLemmas.Left.{no_yes}
use Rattle.mc_kernel.proofs.OracleLemmas.Known.{made_rises, made_fits}
use Rattle.mc_joins.proofs.AtomsLemmas.Naming.{stays_true}
use Rattle.mc_joins.specs.Parts.{Basis, Named, own_node, only_state, node_of_term, nodes_of_terms, behind}
use Rattle.mc_replay.proofs.Finding.{drop_none}
use Rattle.mc_replay.specs.Named.{TellsFrom, GoodIsTold, NamingKeepsGood, NamingKeepsTests, is_own, with_named}

-- ---- own nodes

other_kind : (kinds : Kinds) (k : NodeId × Kind) (n : NodeId) → (k.0.0 == n.0) ≡ false → kind_of (k ∷ kinds) n ≡ kind_of kinds n
other_kind kinds k n is = rw is refl

own_kind : (kinds : Kinds) (k : NodeId × Kind) → kind_of (k ∷ kinds) k.0 ≡ Some k.1
own_kind kinds k = rw (same k.0.0) refl
  where
    same : (n : ℕ) → (n == n) ≡ true
    same n = grind arith

-- a node that is not 0 has the kind that is listed for it
kind_by : (kinds : Kinds) (kind : Kind) (n : NodeId) → 0 < n.0 → has_kind kinds kind n ≡ is_kind kind (kind_of kinds n)
unfolding has_kind
kind_by kinds kind n l = let differs : (n.0 == 0) ≡ false = no_yes (n.0 == 0) (λ t. let same = eqb-true n.0 0 t in omega arith) in rw differs refl

-- each listed node is of the kind that is listed for it
listed_kinds : (low : ℕ) (kinds : Kinds) (high : ℕ) → NodesAscend low kinds high → AllByRecursion (λ (k : NodeId × Kind). kind_of kinds k.0 ≡ Some k.1) kinds
listed_kinds low [] high a = tt
listed_kinds low (k ∷ kinds) high a = (own_kind kinds k, lift kinds (suc k.0.0) (omega arith) a.2 (listed_kinds (suc k.0.0) kinds high a.2))
  where
    lift : (rest : Kinds) (from : ℕ) → k.0.0 < from → NodesAscend from rest high → AllByRecursion (λ (j : NodeId × Kind). kind_of kinds j.0 ≡ Some j.1) rest
        → AllByRecursion (λ (j : NodeId × Kind). kind_of (k ∷ kinds) j.0 ≡ Some j.1) rest
    lift [] from l up all = tt
    lift (j ∷ rest) from l up all =
        let above = up.0 in
        (other_kind kinds k j.0 (no_yes (k.0.0 == j.0.0) (λ t. let same = eqb-true k.0.0 j.0.0 t in omega arith)) ∙ all.0, lift rest (suc j.0.0) (omega arith) up.2 all.1)

module _ (kind : Kind) (know : Test) (t : Term) where
  own_listed : (kinds rest : Kinds) (low high : ℕ) → 0 < low → NodesAscend low rest high → AllByRecursion (λ (k : NodeId × Kind). kind_of kinds k.0 ≡ Some k.1) rest
      → find (is_own know kinds kind t) (map (λ k. k.0) rest) ≡ find (λ n. equal_terms know t (plain n)) (map (λ k. k.0) (filter (λ k. same_kind k.1 kind) rest))
  own_listed kinds [] low high l up all = refl
  own_listed kinds (k ∷ rest) low high l up all =
      let above = up.0 in
      let own : has_kind kinds kind k.0 ≡ same_kind k.1 kind = kind_by kinds kind k.0 (omega arith) ∙ ap (is_kind kind) all.0 in
      at (same_kind k.1 kind) refl (equal_terms know t (plain k.0)) refl own (own_listed kinds rest (suc k.0.0) high (omega arith) up.2 all.1)
    where
      at : (b : Bool) → same_kind k.1 kind ≡ b → (q : Bool) → equal_terms know t (plain k.0) ≡ q → has_kind kinds kind k.0 ≡ same_kind k.1 kind
          → find (is_own know kinds kind t) (map (λ k. k.0) rest) ≡ find (λ n. equal_terms know t (plain n)) (map (λ k. k.0) (filter (λ k. same_kind k.1 kind) rest))
          → find (is_own know kinds kind t) (map (λ k. k.0) (k ∷ rest)) ≡ find (λ n. equal_terms know t (plain n)) (map (λ k. k.0) (filter (λ k. same_kind k.1 kind) (k ∷ rest)))
      at true is true eq own more = rw (own, is, eq) refl
      at true is false eq own more = rw (own, is, eq) more
      at false is q eq own more = rw (own, is) more

  null_own : (kinds : Kinds) → has_kind kinds kind null ≡ true
  unfolding has_kind
  null_own kinds = refl

pub own_found : (know : Test) (kind : Kind) (t : Term) (kinds : Kinds) (high : ℕ) → NodesAscend 1 kinds high
    → find (is_own know kinds kind t) (nodes_of kinds) ≡ find (λ n. equal_terms know t (plain n)) (null ∷ map (λ k. k.0) (filter (λ k. same_kind k.1 kind) kinds))
own_found know kind t kinds high a =
    at (equal_terms know t (plain null)) refl (null_own kind know t kinds) (own_listed kind know t kinds kinds 1 high (omega arith) a (listed_kinds 1 kinds high a))
  where
    at : (q : Bool) → equal_terms know t (plain null) ≡ q → has_kind kinds kind null ≡ true
        → find (is_own know kinds kind t) (map (λ k. k.0) kinds) ≡ find (λ n. equal_terms know t (plain n)) (map (λ k. k.0) (filter (λ k. same_kind k.1 kind) kinds))
        → find (is_own know kinds kind t) (null ∷ map (λ k. k.0) kinds) ≡ find (λ n. equal_terms know t (plain n)) (null ∷ map (λ k. k.0) (filter (λ k. same_kind k.1 kind) kinds))
    at true eq own more = rw (own, eq) refl
    at false eq own more = rw (own, eq) more

-- ---- naming

pub keeps_good : NormalSaysAll → FollowsFromMore → EachHasNormalForm → SpareStaysMade → NodesAreBelow → NamingKeepsGood
keeps_good says grows has stays below node add kind s after g i =
    let defs = g.made.0 in
    let vars = g.made.1 in
    let structs = g.made.2 in
    let made = g.made.3 in
    record {
      made = (defs, vars, structs, (stays defs vars structs node add kind s (after ∷ []) i made).0);
      consistent = λ wrong.
          elim (has (pure_of s) (made_rises defs vars structs s made) (made_fits defs vars structs s made)) [
            | inl never ↦ g.consistent never
            | inr form ↦ (let lies : Follows (pure_of s) _ = elim i.lies [ inl d ↦ d | inr false_is ↦ absurd (g.consistent false_is) ] in
                stays_true says grows (pure_of s) form.nf form.normal (next_node s) (λ there. let less = below s (next_node s) made.bounded there in omega arith)
                node i.there add kind lies (subst IsFalse (head i.gives) wrong))
          ];
    }
  where
    head : {a b : State} → (a ∷ []) ≡ (b ∷ []) → a ≡ b
    head e = cc

pub keeps_tests : SpareStaysMade → NamingKeepsTests
keeps_tests stays node add kind w s after t i =
    record { vars = t.vars; structs = t.structs; knows = t.knows; made = (stays w.defs t.vars t.structs node add kind s (after ∷ []) i t.made).0 }

pub good_told : EachIsDecided → GoodIsTold
good_told decided s g =
    let made = g.made.3 in
    decided (pure_of s) (made_rises g.made.0 g.made.1 g.made.2 s made) (made_fits g.made.0 g.made.1 g.made.2 s made)

-- ---- what comes of L8

module _ {A : Type 0} (judged : Judged A) (old new : A) (o : Result (Unit {0}) LogicFault) where
  pub changes_ok : (x : Unit {0}) → o ≡ Ok x → Changes judged old new o → judged ≡ Ok new
  changes_ok x is h = subst (λ (r : Result (Unit {0}) LogicFault). Changes judged old new r) is h

  pub changes_premise : (f : LogicFault) (k : ℕ) → o ≡ Err f → f ≡ Premise k → Changes judged old new o → (judged ≡ Err k) × (new ≡ old)
  changes_premise f k is named h =
      subst (λ (g : LogicFault). Changes judged old new (Err g)) named (subst (λ (r : Result (Unit {0}) LogicFault). Changes judged old new r) is h)

pub same_spare : (know : Test) (s : State) (n m : NodeId) (a b : ℤ) (k l : Kind) → n ≡ m → a ≡ b → k ≡ l → naming_spare know n a k s ≡ naming_spare know m b l s
same_spare know s n m a b k l nodes adds kinds =
    ap (λ (x : NodeId). naming_spare know x a k s) nodes ∙ (ap (λ (x : ℤ). naming_spare know m x k s) adds ∙ ap (λ (x : Kind). naming_spare know m b x s) kinds)

pub one_state : {a b : State} → (a ∷ []) ≡ (b ∷ []) → a ≡ b
one_state e = cc

module _ (w : Basis) (s : State) (kind : Kind) (t : Term) where
  own_by : Option NodeId → Option Named
  own_by o = option_map (λ n. with_named s (n ∷ [])) o

  spare_by : Judged (List State) → Option Named
  spare_by o = option_map (λ after. with_named after (next_node s ∷ [])) (only_state o)

  by_both : node_of_term w s kind t ≡ option_or (own_by (own_node w s kind t)) (spare_by (naming_spare (w.know s) t.node t.add kind s))
  unfolding own_by spare_by
  by_both = refl

  pub named_own : (n : NodeId) → Some n ≡ own_node w s kind t → Some (with_named s (n ∷ [])) ≡ node_of_term w s kind t
  unfolding own_by spare_by
  named_own n is = sym (by_both ∙ ap (λ (o : Option NodeId). option_or (own_by o) (spare_by (naming_spare (w.know s) t.node t.add kind s))) (sym is))

  pub named_spare : (after : State) (n : NodeId) → None ≡ own_node w s kind t → naming_spare (w.know s) t.node t.add kind s ≡ Ok (after ∷ []) → n ≡ next_node s
      → Some (with_named after (n ∷ [])) ≡ node_of_term w s kind t
  unfolding own_by spare_by
  named_spare after n none is next =
      ap (λ (m : NodeId). Some (with_named after (m ∷ []))) next
      ∙ sym (by_both ∙ ap₂ (λ (o : Option NodeId) (r : Judged (List State)). option_or (own_by o) (spare_by r)) (sym none) is)

  pub named_none : (k : ℕ) → None ≡ own_node w s kind t → naming_spare (w.know s) t.node t.add kind s ≡ Err k → None ≡ node_of_term w s kind t
  unfolding own_by spare_by
  named_none k none is = sym (by_both ∙ ap₂ (λ (o : Option NodeId) (r : Judged (List State)). option_or (own_by o) (spare_by r)) (sym none) is)

-- what is judged to be named is named
pub spare_is : SpareIsJudged → (w : Basis) (s after : State) → TellsFrom w s → (node : NodeId) (add : ℤ) (kind : Kind) → naming_spare (w.know s) node add kind s ≡ Ok (after ∷ [])
    → NamesSpare node add kind s (after ∷ [])
spare_is judged w s after t node add kind is = (judged (w.know s) node add kind s (t.knows s t.made) (after ∷ [])).0 is

pub spare_told : SpareIsJudged → (s after : State) (told : (know : Test) × Tells know s) (node : NodeId) (add : ℤ) (kind : Kind)
    → naming_spare told.0 node add kind s ≡ Ok (after ∷ []) → NamesSpare node add kind s (after ∷ [])
spare_told judged s after told node add kind is = (judged told.0 node add kind s told.1 (after ∷ [])).0 is

-- ---- terms one after the other

then_none : {X Y : Type 0} (f : X → Option Y) → ((x : X) → f x ≡ None) → (o : Option X) → option_and_then f o ≡ None
then_none f each None = refl
then_none f each (Some x) = each x

module _ (w : Basis) where
  after_first : List Kind → List Term → Named → Option Named
  after_first ks ts first = option_map (behind first.nodes) (nodes_of_terms w first.state ks ts)

  one_first : (s : State) (kind : Kind) (t : Term) (ks : List Kind) (ts : List Term) → nodes_of_terms w s (kind ∷ ks) (t ∷ ts) ≡ option_and_then (after_first ks ts) (node_of_term w s kind t)
  unfolding after_first
  one_first s kind t ks ts = refl

  pub unequal_none : (s : State) (ks : List Kind) (ts : List Term) → (length ks ≡ length ts → ⊥) → None ≡ nodes_of_terms w s ks ts
  unfolding after_first
  unequal_none s [] [] differ = absurd (differ refl)
  unequal_none s [] (t ∷ ts) differ = refl
  unequal_none s (kind ∷ ks) [] differ = refl
  unequal_none s (kind ∷ ks) (t ∷ ts) differ =
      sym (one_first s kind t ks ts
      ∙ then_none (after_first ks ts) (λ first. ap (option_map (behind first.nodes)) (sym (unequal_none first.state ks ts (λ e. differ (omega arith))))) (node_of_term w s kind t))

  two_behind : (ns : List NodeId) (n : NodeId) (o : Option Named) → option_map (behind ns) (option_map (behind (n ∷ [])) o) ≡ option_map (behind (ns ++ n ∷ [])) o
  two_behind ns n None = refl
  two_behind ns n (Some m) = ap (λ (z : List NodeId). Some (with_named m.state z)) (joined ns)
    where
      joined : (xs : List NodeId) → xs ++ (n ∷ m.nodes) ≡ (xs ++ n ∷ []) ++ m.nodes
      joined [] = refl
      joined (x ∷ xs) = ap (λ (z : List NodeId). x ∷ z) (joined xs)

  module _ (first s : State) (ks : List Kind) (ts : List Term) (ns : List NodeId) (i : ℕ) (kind : Kind) (t : Term) where
    both_more : i < length ks → i < length ts
        → nodes_of_terms w s (drop i ks) (drop i ts) ≡ option_and_then (after_first (drop (i + 1) ks) (drop (i + 1) ts)) (node_of_term w s (get_or ks i kind) (get_or ts i t))
    both_more l m =
        ap₂ (λ (x : List Kind) (y : List Term). nodes_of_terms w s x y) (drop_more ks i kind l) (drop_more ts i t m)
        ∙ one_first s (get_or ks i kind) (get_or ts i t) (drop (i + 1) ks) (drop (i + 1) ts)

    abbrev SoFar : Type 0
    SoFar = nodes_of_terms w first ks ts ≡ option_map (behind ns) (nodes_of_terms w s (drop i ks) (drop i ts))

    pub stops : i < length ks → i < length ts → SoFar → node_of_term w s (get_or ks i kind) (get_or ts i t) ≡ None → None ≡ nodes_of_terms w first ks ts
    stops l m so none =
        sym (so ∙ ap (option_map (behind ns)) (both_more l m ∙ ap (option_and_then (after_first (drop (i + 1) ks) (drop (i + 1) ts))) none))

    pub goes_on : i < length ks → i < length ts → SoFar → (after : State) (n : NodeId) (more : List NodeId)
        → node_of_term w s (get_or ks i kind) (get_or ts i t) ≡ Some (with_named after (n ∷ [])) → more ≡ ns ++ n ∷ []
        → nodes_of_terms w first ks ts ≡ option_map (behind more) (nodes_of_terms w after (drop (i + 1) ks) (drop (i + 1) ts))
    unfolding after_first
    goes_on l m so after n more is all =
        so
        ∙ (ap (option_map (behind ns)) (both_more l m ∙ ap (option_and_then (after_first (drop (i + 1) ks) (drop (i + 1) ts))) is)
        ∙ (two_behind ns n (nodes_of_terms w after (drop (i + 1) ks) (drop (i + 1) ts))
        ∙ ap (λ (z : List NodeId). option_map (behind z) (nodes_of_terms w after (drop (i + 1) ks) (drop (i + 1) ts))) (sym all)))

  pub ends : (first s : State) (ks : List Kind) (ts : List Term) (ns : List NodeId) (i : ℕ) → length ks ≤ i → length ts ≤ i
      → nodes_of_terms w first ks ts ≡ option_map (behind ns) (nodes_of_terms w s (drop i ks) (drop i ts)) → nodes_of_terms w first ks ts ≡ Some (with_named s ns)
  ends first s ks ts ns i l m so =
      so
      ∙ (ap₂ (λ (x : List Kind) (y : List Term). option_map (behind ns) (nodes_of_terms w s x y)) (drop_none ks i l) (drop_none ts i m)
      ∙ ap (λ (z : List NodeId). Some (with_named s z)) (append-nil ns))
