-- Whether nodes of terms can be named is read from the state as it is, where each term is of a node of its kind.
use Rattle.std.proofs.Common.{◌≡◌, ◌⊎◌, ℤ, pos, ◌-ℤ◌, Bool, true, false, List, [], ◌∷◌, Option, Ok, Err, Some, None, refl, sym, ap, subst, ◌∙◌, inl, inr, arith}
use Rattle.std.proofs.lemmas.Int.{ints}
use Rattle.std.specs.Prelude.{◌&&◌, is_some, option_map, option_and_then, slice_get}
use Rattle.mc_base.specs.declared.ids.NodeId.{NodeId}
use Rattle.mc_base.specs.declared.ids.PredId.{PredId}
use Rattle.mc_base.specs.declared.plain.Atom.{Atom}
use Rattle.mc_base.specs.declared.plain.Atom.TheVariants.{Eq, In}
use Rattle.mc_base.specs.declared.plain.Kind.{Kind}
use Rattle.mc_base.specs.declared.plain.Kind.TheVariants.{Int, Ptr}
use Rattle.mc_flow.specs.declared.defs.rules.Def.{Def}
use Rattle.mc_pure.specs.Pure as pure
use Rattle.mc_pure.specs.Pure.{Pure, HasKind, IsNode, low_of, high_of}
use Rattle.mc_pure.specs.Derived.{Follows, IsFalse, Derived, base, shifted, widened}
use Rattle.mc_pure.specs.Classes.{HasNormalForm, NormalSaysAll, EachHasNormalForm}
use Rattle.mc_pure.specs.Laws.{FollowsFromMore}
use Rattle.mc_pure.proofs.Placing.{place_of_kind}
use Rattle.mc_pure_ops.proofs.CanonLemmas.Nodes.{in_as}
use Rattle.mc_state.specs.declared.terms.Term.{Term}
use Rattle.mc_state.specs.Known.{has_kind}
use Rattle.mc_state.specs.Laws.{NodesAreBelow}
use Rattle.mc_state.specs.Lists.{on_some}
use Rattle.mc_state.specs.Premises.{Judged}
use Rattle.mc_state.specs.State.{State, next_node, pure_of, with_nodes, with_atoms}
use Rattle.mc_state.specs.Terms.{plain}
use Rattle.mc_state.proofs.Tests.{and_both, has_kind_from}
use Rattle.mc_rules_logic.specs.Fold.Changed.{NamesSpare}
use Rattle.mc_rules_logic.specs.Fold.ChangeJudges.{naming_spare}
use Rattle.mc_rules_logic.specs.Fold.JudgedLaws.{SpareIsJudged}
use Rattle.mc_rules_logic.specs.Fold.MadeLaws.{SpareStaysMade}
use Rattle.mc_cover.specs.Terms.{equal_terms, lies_in, all_lie_in}
use Rattle.mc_kernel.proofs.OracleLemmas.Known.{made_rises, made_fits}
use Rattle.mc_joins.proofs.AtomsLemmas.Naming.{kept, no_new_range, first_kind}
use Rattle.mc_joins.proofs.NamedKinds.{find_some, listed_kind}
use Rattle.mc_joins.specs.Parts.{Basis, Named, own_node, nodes_of_kind, node_of_term, nodes_of_terms, nodes_of_args, behind}
use Rattle.mc_replay.proofs.NamedLemmas.{named_own, named_spare, named_none, keeps_good, keeps_tests, one_state}
use Rattle.mc_replay.specs.Named.{IsGood, TellsFrom, NamableInRange, BothNamableInRange, of_kinds, on_params, with_named}

-- the laws on which it rests
pub record NamingLaws : Type 0 where
  pub says : NormalSaysAll
  pub grows : FollowsFromMore
  pub has : EachHasNormalForm
  pub judged : SpareIsJudged
  pub stays : SpareStaysMade
  pub below : NodesAreBelow

-- the range of a kind, a number less
abbrev range_of : Kind → NodeId → ℤ → Atom
range_of kind n add = In n (low_of kind -ℤ add) (high_of kind -ℤ add)

-- in a state that is good, what is entailed follows
follows : (s : State) → IsGood s → (f : Atom) → Derived (pure_of s) f → Follows (pure_of s) f
follows s g f (inl d) = d
follows s g f (inr wrong) = absurd (g.consistent wrong)

-- a node lies in the range of its kind
in_kind : (p : Pure) (kind : Kind) (n : NodeId) → HasKind p.kinds kind n → Follows p (In n (low_of kind) (high_of kind))
in_kind p kind n (inr is) = let at = place_of_kind p.kinds n kind is in base (pure.kind at.0 at.1)
in_kind p Int n (inl is) = subst (λ (m : NodeId). Follows p (In m (low_of Int) (high_of Int))) (sym is) (widened (base pure.zero) (omega (arith, ints)) (omega (arith, ints)))
in_kind p Ptr n (inl is) = subst (λ (m : NodeId). Follows p (In m (low_of Ptr) (high_of Ptr))) (sym is) (widened (base pure.zero) (omega (arith, ints)) (omega (arith, ints)))

module _ (laws : NamingLaws) (w : Basis) (s : State) where
  -- a state in which nodes may have been named: of the nodes that were there the same ranges are entailed
  pub record Grown (a : State) : Type 0 where
    pub told : TellsFrom w a
    pub good : IsGood a
    pub kinds : (kind : Kind) (n : NodeId) → HasKind s.kinds kind n → HasKind a.kinds kind n
    pub less : (n : NodeId) (l h : ℤ) → IsNode s.kinds n → Follows (pure_of a) (In n l h) → Follows (pure_of s) (In n l h)
    pub more : (n : NodeId) (l h : ℤ) → Follows (pure_of s) (In n l h) → Follows (pure_of a) (In n l h)

  pub at_first : TellsFrom w s → IsGood s → Grown s
  at_first t g = record { told = t; good = g; kinds = λ kind n h. h; less = λ n l h there d. d; more = λ n l h d. d }

  module _ (a : State) (grown : Grown a) (kind : Kind) (t : Term) where
    told : (f : Atom) → (w.know a f ≡ true) → Follows (pure_of a) f
    told f e = follows a grown.good f ((grown.told.knows a grown.told.made f).0 e)

    -- what has a node of its own lies in the range of its kind
    own_lies : (n : NodeId) → own_node w a kind t ≡ Some n → Follows (pure_of a) (range_of kind t.node t.add)
    own_lies n is =
        let found = find_some (λ (m : NodeId). equal_terms (w.know a) t (plain m)) (nodes_of_kind a kind) n is in
        let equal = told (Eq t.node n (pos 0 -ℤ t.add)) found.1 in
        let has = listed_kind a kind n grown.told.made.bounded found.0 in
        in_as (pure_of a) (shifted equal (in_kind (pure_of a) kind n has)) (omega (arith, ints)) (omega (arith, ints))

    -- after it is named the ranges are the same
    named_grown : IsNode s.kinds t.node → (after : State) → NamesSpare t.node t.add kind a (after ∷ []) → Grown after
    named_grown there after i = record {
      told = keeps_tests laws.stays t.node t.add kind w a after grown.told i;
      good = keeps_good laws.says laws.grows laws.has laws.stays laws.below t.node t.add kind a after grown.good i;
      kinds = λ own n h. subst (λ (z : State). HasKind z.kinds own n) (sym is) (first_kind a.kinds (next_node a, kind) own n (grown.kinds own n h));
      less = λ n l h old d.
          grown.less n l h old (elim form [
            | inl wrong ↦ absurd (grown.good.consistent wrong)
            | inr f ↦
                no_new_range laws.says laws.grows (pure_of a) f.nf f.normal (next_node a) fresh t.node i.there t.add kind lies n l h (old.0, grown.kinds old.0 n old.1)
                (subst (λ (z : State). Follows (pure_of z) (In n l h)) is d)
          ]);
      more = λ n l h d.
          subst (λ (z : State). Follows (pure_of z) (In n l h)) (sym is)
          (elim form [
            | inl wrong ↦ absurd (grown.good.consistent wrong)
            | inr f ↦
                kept laws.says laws.grows (pure_of a) f.nf f.normal (next_node a) fresh t.node i.there t.add kind lies (In n l h) (grown.more n l h d)
          ]);
    }
      where
        is : after ≡ with_atoms (with_nodes a (kind ∷ [])) (Eq (next_node a) t.node t.add ∷ [])
        is = one_state i.gives

        form : IsFalse (pure_of a) ⊎ HasNormalForm (pure_of a)
        form = laws.has (pure_of a) (made_rises w.defs grown.told.vars grown.told.structs a grown.told.made) (made_fits w.defs grown.told.vars grown.told.structs a grown.told.made)

        fresh : IsNode a.kinds (next_node a) → ⊥
        fresh there = let less = laws.below a (next_node a) grown.told.made.bounded there in omega arith

        lies : Follows (pure_of a) (range_of kind t.node t.add)
        lies = follows a grown.good (range_of kind t.node t.add) i.lies

  -- nodes are not named where a test fails; else they are, in a state that has grown
  pub data Can (b : Bool) (o : Option Named) : Type 0 where
    cannot : b ≡ false → o ≡ None → Can b o
    can : b ≡ true → (m : Named) → o ≡ Some m → Grown m.state → Can b o

  can_is : (b : Bool) (o : Option Named) → Can b o → is_some o ≡ b
  can_is b o (cannot not_so none) = ap (λ (x : Option Named). is_some x) none ∙ sym not_so
  can_is b o (can yes_is m is g) = ap (λ (x : Option Named). is_some x) is ∙ sym yes_is

  then_can : (b c : Bool) (o : Option Named) (f : Named → Option Named) → Can b o → ((m : Named) → Grown m.state → Can c (f m)) → Can (b && c) (option_and_then f o)
  then_can b c o f (cannot not_so none) rest = cannot (ap (λ (x : Bool). x && c) not_so) (ap (option_and_then f) none)
  then_can b c o f (can yes_is m is g) rest = at (rest m g)
    where
      at : Can c (f m) → Can (b && c) (option_and_then f o)
      at (cannot not_so none) = cannot (ap (λ (x : Bool). x && c) yes_is ∙ not_so) (ap (option_and_then f) is ∙ none)
      at (can also n found more) = can (ap (λ (x : Bool). x && c) yes_is ∙ also) n (ap (option_and_then f) is ∙ found) more

  behind_can : (ns : List NodeId) (c : Bool) (o : Option Named) → Can c o → Can c (option_map (behind ns) o)
  behind_can ns c o (cannot not_so none) = cannot not_so (ap (option_map (behind ns)) none)
  behind_can ns c o (can yes_is m is g) = can yes_is (behind ns m) (ap (option_map (behind ns)) is) g

  module _ (t0 : TellsFrom w s) (g0 : IsGood s) where
    one : (a : State) → Grown a → (kind : Kind) (t : Term) → HasKind s.kinds kind t.node → Can (lies_in (w.know s) kind t) (node_of_term w a kind t)
    one a grown kind t has = at (own_node w a kind t) refl
      where
        known : Follows (pure_of a) (range_of kind t.node t.add) → lies_in (w.know s) kind t ≡ true
        known d = (t0.knows s t0.made (range_of kind t.node t.add)).1 (inl (grown.less t.node _ _ (kind, has) d))

        names : (next : List State) → naming_spare (w.know a) t.node t.add kind a ≡ Ok next → NamesSpare t.node t.add kind a next
        names next is = (laws.judged (w.know a) t.node t.add kind a (grown.told.knows a grown.told.made) next).0 is

        named : lies_in (w.know s) kind t ≡ true → NamesSpare t.node t.add kind a (with_atoms (with_nodes a (kind ∷ [])) (Eq (next_node a) t.node t.add ∷ []) ∷ [])
        named lies = record {
          consistent = grown.good.consistent;
          there = (kind, grown.kinds kind t.node has);
          lies = inl (grown.more t.node _ _ (follows s g0 (range_of kind t.node t.add) ((t0.knows s t0.made (range_of kind t.node t.add)).0 lies)));
          one_kind = grown.kinds kind t.node has;
          gives = refl;
        }

        by_range : None ≡ own_node w a kind t → (b : Bool) → lies_in (w.know s) kind t ≡ b → (o : Judged (List State)) → naming_spare (w.know a) t.node t.add kind a ≡ o
            → Can (lies_in (w.know s) kind t) (node_of_term w a kind t)
        by_range none true lies o is =
            let i = named lies in
            can lies _
            (sym (named_spare w a kind t (with_atoms (with_nodes a (kind ∷ [])) (Eq (next_node a) t.node t.add ∷ [])) (next_node a) none
            ((laws.judged (w.know a) t.node t.add kind a (grown.told.knows a grown.told.made) _).1 i) refl))
            (named_grown a grown kind t (kind, has) _ i)
        by_range none false out (Ok next) is =
            let yes_is = known (follows a grown.good (range_of kind t.node t.add) (names next is).lies) in
            absurd (cc (sym out ∙ yes_is))
        by_range none false out (Err k) is = cannot out (sym (named_none w a kind t k none is))

        at : (o : Option NodeId) → own_node w a kind t ≡ o → Can (lies_in (w.know s) kind t) (node_of_term w a kind t)
        at (Some n) is = can (known (own_lies a grown kind t n is)) _ (sym (named_own w a kind t n (sym is))) grown
        at None is = by_range (sym is) (lies_in (w.know s) kind t) refl (naming_spare (w.know a) t.node t.add kind a) refl

    terms_can : (kinds : List Kind) (ts : List Term) (a : State) → Grown a → of_kinds s.kinds kinds ts ≡ true → Can (all_lie_in (w.know s) kinds ts) (nodes_of_terms w a kinds ts)
    terms_can [] [] a g h = can refl (with_named a []) refl g
    terms_can [] (t ∷ ts) a g h = absurd (cc h)
    terms_can (kind ∷ kinds) [] a g h = absurd (cc h)
    terms_can (kind ∷ kinds) (t ∷ ts) a g h =
        let both = and_both (has_kind s.kinds kind t.node) (of_kinds s.kinds kinds ts) h in
        then_can (lies_in (w.know s) kind t) (all_lie_in (w.know s) kinds ts) (node_of_term w a kind t) _
        (one a g kind t (has_kind_from s.kinds kind t.node both.0))
        (λ m more. behind_can m.nodes (all_lie_in (w.know s) kinds ts) (nodes_of_terms w m.state kinds ts) (terms_can kinds ts m.state more both.1))

    args_can : (pred : PredId) (args : List Term) (a : State) → Grown a → on_params (λ kinds. of_kinds s.kinds kinds args) w.defs pred ≡ true
        → Can (on_params (λ kinds. all_lie_in (w.know s) kinds args) w.defs pred) (nodes_of_args w pred a args)
    args_can pred args a g = at (slice_get w.defs pred.0)
      where
        at : (o : Option Def) → on_some (λ (def : Def). of_kinds s.kinds def.params args) o ≡ true
            → Can (on_some (λ (def : Def). all_lie_in (w.know s) def.params args) o) (option_and_then (λ (def : Def). nodes_of_terms w a def.params args) o)
        at None h = absurd (cc h)
        at (Some def) h = terms_can def.params args a g h

pub args_namable : NamingLaws → NamableInRange
args_namable laws w s t g pred args h = can_is laws w s _ _ (args_can laws w s t g pred args s (at_first laws w s t g) h)

pub both_namable : NamingLaws → BothNamableInRange
both_namable laws w s t g pred args ends h k =
    can_is laws w s _ _
    (then_can laws w s (on_params (λ kinds. all_lie_in (w.know s) kinds args) w.defs pred) (on_params (λ kinds. all_lie_in (w.know s) kinds ends) w.defs pred) (nodes_of_args w pred s args) _
    (args_can laws w s t g pred args s (at_first laws w s t g) h)
    (λ m more. args_can laws w s t g pred ends m.state more k))
