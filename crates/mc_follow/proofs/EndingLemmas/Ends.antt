-- A cover is made into an Ind, line by line, and a side branch ends.
use Rattle.std.proofs.Common.{◌≡◌, ◌⊎◌, inl, inr, ℕ, zero, suc, pos, Bool, true, false, not, ◌&&◌, ◌||◌, Option, Some, None, List, [], ◌∷◌, ◌++◌, Contains, length, map, refl, sym, ◌∙◌, ap, subst, arith, eqb-true}
use Rattle.std.specs.Prelude.{◌==◌, All, option_to_list}
use Rattle.std.specs.List.{AllByRecursion}
use Rattle.mc_base.specs.declared.ids.EdgeId.{EdgeId}
use Rattle.mc_base.specs.declared.ids.NodeId.{NodeId}
use Rattle.mc_base.specs.declared.ids.PredId.{PredId}
use Rattle.mc_base.specs.declared.ids.StructId.{StructId}
use Rattle.mc_base.specs.declared.plain.Atom.{Atom}
use Rattle.mc_base.specs.declared.plain.Atom.TheVariants.{Eq, Ne}
use Rattle.mc_base.specs.declared.plain.Kind.{Kind}
use Rattle.mc_base.specs.declared.plain.Kind.TheVariants.{Ptr}
use Rattle.mc_base.specs.declared.plain.VarInfo.{VarInfo}
use Rattle.mc_base.specs.Nodes.{null}
use Rattle.mc_flow.specs.declared.defs.rules.Call.{Call}
use Rattle.mc_flow.specs.declared.defs.rules.Def.{Def}
use Rattle.mc_flow.specs.declared.defs.rules.Rule.{Rule}
use Rattle.mc_flow.specs.declared.defs.shapes.StructInfo.{StructInfo}
use Rattle.mc_flow.specs.Defs.Conditions.{DefsFit, RuleFitsStructs, CallFits, content_kinds}
use Rattle.mc_state.specs.declared.graph.edge.Edge.{Edge}
use Rattle.mc_state.specs.declared.graph.edge.Edge.TheVariants.{Ind, Seg}
use Rattle.mc_state.specs.Graph.Graph.{Edges, Graph, IdsAscend, edge_with, without}
use Rattle.mc_state.specs.Named.{are_distinct, is_among, others}
use Rattle.mc_state.proofs.Named.{gone, kept_other}
use Rattle.mc_pure.specs.Classes.{EachIsDecided, TellsDerived}
use Rattle.mc_pure.specs.Derived as pure
use Rattle.mc_pure.specs.Pure.{HasKind}
use Rattle.mc_state.specs.declared.goal.Goal.{Goal}
use Rattle.mc_state.specs.declared.terms.Term.{Term}
use Rattle.mc_state.specs.Covers.{BlockIsTaken, Cover, CoverAt, CallsAreFound, IsByInd, IsBySeg, IsByRule}
use Rattle.mc_state.specs.Facts.{IsFalse}
use Rattle.mc_state.specs.Fits.{ArgsFit, IsWellMade}
use Rattle.mc_state.specs.State.{State, next_node, pure_of}
use Rattle.mc_state.specs.Terms.{plain, term_of, AreEqualTerms, AreAllEqualTerms, TermsLieIn}
use Rattle.mc_state.proofs.Ids.{ids_without}
use Rattle.mc_rules_logic.specs.Fold.Folded.{folded, ind_fold}
use Rattle.mc_rules_logic.proofs.FoldLemmas.Names.{kinds_there}
use Rattle.mc_rules_logic.specs.Fold.MadeLaws.{CloseSegStaysMade, FoldIndStaysMade, ForgetStaysMade, SpareStaysMade}
use Rattle.mc_rules_logic.specs.Listed.Lists.{ListsAreThere}
use Rattle.mc_follow.specs.Ending.Ending.{AreSameTerms, AreAllSameTerms, AreNamed, IsMadeBy, IsGrown, IsLater, CanEnd}
use Rattle.mc_follow.specs.Ending.Ending as ending
use Rattle.mc_follow.specs.Ending.Laws.{SidesCanEnd}
use Rattle.mc_follow.proofs.EndingLemmas.Edges.{is_new, next_none, stays}
use Rattle.mc_follow.proofs.EndingLemmas.Folding.{BlockIsThere, CallsAreMade, folds}
use Rattle.mc_follow.proofs.EndingLemmas.Forgetting.{forgets_zero, forgotten, forgotten_later, made_fits, made_rises, names_zero, none_is_next, zeroed}
use Rattle.mc_follow.proofs.EndingLemmas.Kinded.{AllKnown, HaveTermKinds, IsKinded, call_kinded, contents_kinded, each_known, end_kinded, goal_kinded, names_known, no_contents_kinded, rule_fits_structs}
use Rattle.mc_follow.proofs.EndingLemmas.Naming.{closes, meets, names}
use Rattle.mc_follow.proofs.EndingLemmas.Written.{all_same_grown, grown_on, later_on, named_grown, same_grown, spare, spare_grown, spare_named, still}

-- ---- edges that are there or not

pub there_or : (o : Option Edge) → (o ≡ None) ⊎ ((e : Edge) × (o ≡ Some e))
there_or None = inl refl
there_or (Some e) = inr (e, refl)

pub clash : (o : Option Edge) (e : Edge) → o ≡ None → o ≡ Some e → ⊥
clash o e none some = let two : None ≡ Some e = sym none ∙ some in cc two

pub same_id : (a b : EdgeId) → (a.0 == b.0) ≡ true → a ≡ b
same_id a b e = ap (λ (n : ℕ). record { 0 = n }) (eqb-true a.0 b.0 e)

-- an id is none of those of which something holds that does not hold of it
pub among_none : (P : EdgeId → Type 0) (id : EdgeId) (ids : List EdgeId) → (P id → ⊥) → AllByRecursion P ids → is_among id ids ≡ false
among_none P id [] never all = refl
among_none P id (other ∷ ids) never all = at (among_none P id ids never all.1) (other.0 == id.0) refl
  where
    at : is_among id ids ≡ false → (b : Bool) → (other.0 == id.0) ≡ b → (b || is_among id ids) ≡ false
    at rest true is = absurd (never (subst P (same_id other id is) all.0))
    at rest false is = rest

pub apart_more : (id : EdgeId) (ids : List EdgeId) → is_among id ids ≡ false → are_distinct ids ≡ true → are_distinct (id ∷ ids) ≡ true
apart_more id ids none distinct = ap (λ (b : Bool). not b && are_distinct ids) none ∙ distinct

-- an edge that is there without another was there
was_there : (es : Edges) (high : ℕ) (id other : EdgeId) (e : Edge) → IdsAscend 0 es high → edge_with (without es id) other ≡ Some e → edge_with es other ≡ Some e
was_there es high id other e a is = at (other.0 == id.0) refl
  where
    at : (b : Bool) → (other.0 == id.0) ≡ b → edge_with es other ≡ Some e
    at true same = absurd (clash (edge_with (without es id) other) e (ap (edge_with (without es id)) (same_id other id same) ∙ gone 0 es high id a) is)
    at false differ = sym (kept_other es id other differ) ∙ is

pub made_grown : (s t : State) → IsGrown s t → (pred : PredId) (at : Term) (args : List Term) (id : EdgeId) (m : IsMadeBy s pred at args id) → edge_with t.graph.edges id ≡ Some (Ind m.node pred m.nodes)
    → IsMadeBy t pred at args id
made_grown s t g pred at args id m there = record {
  node = m.node;
  nodes = m.nodes;
  there = there;
  same_at = same_grown s t g at (plain m.node) m.same_at;
  same_args = all_same_grown s t g args (map plain m.nodes) m.same_args;
}

pub lie_count : (s : State) (kinds : List Kind) (ts : List Term) → TermsLieIn s kinds ts → length kinds ≡ length ts
lie_count s [] [] a = refl
lie_count s [] (t ∷ ts) a = absurd a
lie_count s (kind ∷ kinds) [] a = absurd a
lie_count s (kind ∷ kinds) (t ∷ ts) a = ap suc (lie_count s kinds ts a.1)

module _ (decided : EachIsDecided) (lists : ListsAreThere) (spare_made : SpareStaysMade) (fold_made : FoldIndStaysMade) (close_made : CloseSegStaysMade) (forget_made : ForgetStaysMade)
    (structs : List StructInfo) (defs : List Def) (vars : List VarInfo) (fit : DefsFit structs defs) where
  abbrev Made : State → Type 0
  Made s = IsWellMade defs vars structs s

  -- a state is false or not
  false_or : (s : State) → Made s → IsFalse s ⊎ (IsFalse s → ⊥)
  false_or s made =
      let d = decided (pure_of s) (made_rises s made.bounded) (made_fits s made.bounded made.atoms) in
      at d.0 d.1 (d.0 (Ne null null (pos 0))) refl
    where
      at : (know : Atom → Bool) → TellsDerived (pure_of s) know → (b : Bool) → know (Ne null null (pos 0)) ≡ b → IsFalse s ⊎ (IsFalse s → ⊥)
      at know tells true e = elim ((tells (Ne null null (pos 0))).0 e) [ inl h ↦ inl (pure.apart h) | inr h ↦ inl h ]
      at know tells false e = inr (λ h. let g = (tells (Ne null null (pos 0))).1 (inr h) in let two : true ≡ false = sym g ∙ e in cc two)

  module _ (goal : Goal) (before : State) (made_before : Made before) (sound : IsFalse before → ⊥) where
    abbrev End : State → Type 0
    End s = CanEnd defs goal s

    -- where a state is false, the branch ends
    unless_false : (s : State) → Made s → ((IsFalse s → ⊥) → End s) → End s
    unless_false s made k = elim (false_or s made) [
      | inl wrong ↦ ending.as_false wrong
      | inr consistent ↦ k consistent
    ]

    -- what was entailed of terms is written
    same_from : (t : State) → IsLater before t → (x y : Term) → AreEqualTerms before x y → AreSameTerms t x y
    same_from t later x y h = elim h [ inl a ↦ later.known _ a | inr wrong ↦ absurd (sound wrong) ]

    all_same_from : (t : State) → IsLater before t → (xs ys : List Term) → AreAllEqualTerms before xs ys → AreAllSameTerms t xs ys
    all_same_from t later [] [] h = tt
    all_same_from t later [] (y ∷ ys) h = absurd h
    all_same_from t later (x ∷ xs) [] h = absurd h
    all_same_from t later (x ∷ xs) (y ∷ ys) h = (same_from t later x y h.0, all_same_from t later xs ys h.1)

    -- ---- terms get nodes

    names_made : (kinds : List Kind) (ts : List Term) → HaveTermKinds before.kinds kinds ts → TermsLieIn before kinds ts → (t : State) → IsLater before t → Made t
        → ((u : State) (ns : List NodeId) → IsGrown t u → Made u → u.graph ≡ t.graph → AreNamed u kinds ts ns → End u) → End t
    names_made [] [] has lie t later made k = k t [] (still t) made refl tt
    names_made [] (x ∷ ts) has lie t later made k = absurd has
    names_made (kind ∷ kinds) [] has lie t later made k = absurd has
    names_made (kind ∷ kinds) (x ∷ ts) has lie t later made k =
        unless_false t made (λ consistent.
        let u = spare t x.node x.add kind in
        let i = names before t sound later consistent kind x has.0 lie.0 in
        let grown = spare_grown t x.node x.add kind made.bounded in
        let made_then = (spare_made defs vars structs x.node x.add kind t (u ∷ []) i made).0 in
        let named = spare_named t x.node x.add kind x refl refl made.bounded in
        ending.behind u (ending.names x.node x.add kind i)
        (names_made kinds ts has.1 lie.1 u (later_on before t u later grown) made_then
        (λ v ns more made_last same all. k v (next_node t ∷ ns) (grown_on t u v grown more) made_last same
        ((more.kinds kind (next_node t) named.0, more.written (Eq (next_node t) x.node x.add) named.1), all))))

    -- ---- covers are made

    -- edges that may be taken
    record AreFree (es : Edges) (t : State) : Type 0 where
      pub high : ℕ
      pub ascend : IdsAscend 0 es high
      pub part : (id : EdgeId) (e : Edge) → edge_with es id ≡ Some e → edge_with before.graph.edges id ≡ Some e
      pub there : (id : EdgeId) (e : Edge) → edge_with es id ≡ Some e → edge_with t.graph.edges id ≡ Some e

    -- the edge is not left, and it was free or is new
    abbrev IsOwn : Edges → Edges → State → EdgeId → Type 0
    IsOwn es left t id = (edge_with left id ≡ None) × (edge_with es id ≡ None → edge_with t.graph.edges id ≡ None)

    -- edges are taken, and others are left
    record Takes (es left : Edges) (t u : State) : Type 0 where
      pub grown : IsGrown t u
      pub made : Made u
      pub free : AreFree left u
      pub less : (id : EdgeId) (e : Edge) → edge_with left id ≡ Some e → edge_with es id ≡ Some e
      pub outside : (id : EdgeId) (e : Edge) → edge_with t.graph.edges id ≡ Some e → edge_with es id ≡ None → edge_with u.graph.edges id ≡ Some e

    -- what is not free is not left
    not_left : (es left : Edges) (t u : State) → Takes es left t u → (id : EdgeId) → edge_with es id ≡ None → edge_with left id ≡ None
    not_left es left t u takes id none = elim (there_or (edge_with left id)) [
      | inl is ↦ is
      | inr e ↦ absurd (clash (edge_with es id) e.0 none (takes.less id e.0 e.1))
    ]

    takes_none : (es : Edges) (t : State) → Made t → AreFree es t → Takes es es t t
    takes_none es t made free = record { grown = still t; made = made; free = free; less = λ id e h. h; outside = λ id e h none. h }

    takes_on : (es mid left : Edges) (t u v : State) → Takes es mid t u → Takes mid left u v → Takes es left t v
    takes_on es mid left t u v a b = record {
      grown = grown_on t u v a.grown b.grown;
      made = b.made;
      free = b.free;
      less = λ id e h. a.less id e (b.less id e h);
      outside = λ id e h none. b.outside id e (a.outside id e h none) (not_left es mid t u a id none);
    }

    -- an edge that was taken is none that is left
    free_without : (es : Edges) (t : State) (id : EdgeId) → AreFree es t → AreFree (without es id) t
    free_without es t id f = record {
      high = f.high;
      ascend = ids_without 0 es f.high id f.ascend;
      part = λ other e h. f.part other e (was_there es f.high id other e f.ascend h);
      there = λ other e h. f.there other e (was_there es f.high id other e f.ascend h);
    }

    takes_one : (es : Edges) (t : State) (id : EdgeId) → Made t → AreFree es t → Takes es (without es id) t t
    takes_one es t id made f = record {
      grown = still t;
      made = made;
      free = free_without es t id f;
      less = λ other e h. was_there es f.high id other e f.ascend h;
      outside = λ other e h none. h;
    }

    -- one edge comes in the place of some that are no longer free
    folds_on : (es left : Edges) (t u : State) → Takes es left t u → (ids : List EdgeId) (new : Edge) → AllByRecursion (IsOwn es left t) ids → Made (folded u (others u.graph.edges ids) new)
        → Takes es left t (folded u (others u.graph.edges ids) new) × IsOwn es left t (record { 0 = u.graph.next })
    folds_on es left t u takes ids new own made = (
      record {
        grown = record { kinds = takes.grown.kinds; written = takes.grown.written };
        made = made;
        free = record { high = takes.free.high; ascend = takes.free.ascend; part = takes.free.part; there = λ id e h. left_stays id e h };
        less = takes.less;
        outside = λ id e h none. stays u.graph.edges ids u.graph.next new id e (outside_apart id e h none) (takes.outside id e h none);
      },
      (new_not_left, new_is_new),
    )
      where
        left_stays : (id : EdgeId) (e : Edge) → edge_with left id ≡ Some e → edge_with (folded u (others u.graph.edges ids) new).graph.edges id ≡ Some e
        left_stays id e h =
            stays u.graph.edges ids u.graph.next new id e (among_none (IsOwn es left t) id ids (λ o. clash (edge_with left id) e o.0 h) own) (takes.free.there id e h)

        outside_apart : (id : EdgeId) (e : Edge) → edge_with t.graph.edges id ≡ Some e → edge_with es id ≡ None → is_among id ids ≡ false
        outside_apart id e h none = among_none (IsOwn es left t) id ids (λ o. clash (edge_with t.graph.edges id) e (o.1 none) h) own

        next_free : edge_with u.graph.edges (record { 0 = u.graph.next }) ≡ None
        next_free = next_none 0 u.graph.edges u.graph.next takes.made.bounded.ids

        new_not_left : edge_with left (record { 0 = u.graph.next }) ≡ None
        new_not_left = elim (there_or (edge_with left (record { 0 = u.graph.next }))) [
          | inl is ↦ is
          | inr e ↦ absurd (clash (edge_with u.graph.edges (record { 0 = u.graph.next })) e.0 next_free (takes.free.there _ e.0 e.1))
        ]

        new_is_new : edge_with es (record { 0 = u.graph.next }) ≡ None → edge_with t.graph.edges (record { 0 = u.graph.next }) ≡ None
        new_is_new none = elim (there_or (edge_with t.graph.edges (record { 0 = u.graph.next }))) [
          | inl is ↦ is
          | inr e ↦ absurd (clash (edge_with u.graph.edges (record { 0 = u.graph.next })) e.0 next_free (takes.outside _ e.0 e.1 none))
        ]

    -- what is not left of some is not left of more
    all_own : (es mid left : Edges) (t u v : State) → Takes es mid t u → Takes mid left u v → (ids : List EdgeId) → AllByRecursion (IsOwn mid left u) ids → AllByRecursion (IsOwn es left t) ids
    all_own es mid left t u v a b [] owns = tt
    all_own es mid left t u v a b (id ∷ ids) owns = (
      (owns.0.0, λ none. was_none none (owns.0.1 (not_left es mid t u a id none))),
      all_own es mid left t u v a b ids owns.1,
    )
      where
        was_none : edge_with es id ≡ None → edge_with u.graph.edges id ≡ None → edge_with t.graph.edges id ≡ None
        was_none none later_none = elim (there_or (edge_with t.graph.edges id)) [
          | inl is ↦ is
          | inr e ↦ absurd (clash (edge_with u.graph.edges id) e.0 later_none (a.outside id e.0 e.1 none))
        ]

    -- a predicate is made of free edges
    abbrev Makes : (k : ℕ) → Type 0
    Makes k =
        (pred : PredId) (at : Term) (args : List Term) (es left : Edges) → CoverAt defs before k pred at args es left → IsKinded defs before.kinds pred at args
        → (t : State) → IsLater before t → Made t → AreFree es t
        → ((u : State) (id : EdgeId) → Takes es left t u → IsOwn es left t id → IsMadeBy u pred at args id → End u) → End t

    -- so are the calls of a rule, one after the other
    calls_made : (k : ℕ) → Makes k → (ks : List Kind) (names : List Term) → AllKnown before.kinds ks names → (calls : List Call) → AllByRecursion (CallFits defs ks) calls → (es left : Edges)
        → CallsAreFound (CoverAt defs before k) names calls es left → (t : State) → IsLater before t → Made t → AreFree es t
        → ((u : State) (ids : List EdgeId) → Takes es left t u → AllByRecursion (IsOwn es left t) ids → are_distinct ids ≡ true → CallsAreMade u names calls ids → End u) → End t
    calls_made k f ks names all [] fits es left found t later made free go =
        go t [] (subst (λ (l : Edges). Takes es l t t) (sym found) (takes_none es t made free)) tt refl tt
    calls_made k f ks names all (call ∷ calls) fits es left found t later made free go =
        let mid = found.0 in
        f call.pred (term_of names call.at) (map (term_of names) call.args) es mid found.1 (call_kinded before.kinds defs ks names call all fits.0) t later made free
        (λ u id takes own is.
        calls_made k f ks names all calls fits.1 mid left found.2 u (later_on before t u later takes.grown) takes.made takes.free
        (λ v ids more owns distinct are.
        let kept = more.outside id (Ind is.node call.pred is.nodes) is.there own.0 in
        go v (id ∷ ids) (takes_on es mid left t u v takes more)
        ((not_left mid left u v more id own.0, own.1), all_own es mid left t u v takes more ids owns)
        (apart_more id ids (among_none (IsOwn mid left u) id ids (λ o. clash (edge_with u.graph.edges id) _ (o.1 own.0) is.there) owns) distinct)
        (made_grown u v more.grown call.pred (term_of names call.at) (map (term_of names) call.args) id is kept, are)))

    -- the block of a rule is taken
    block_taken : (shape : Option StructId) (at : Term) (contents : List NodeId) (es mid : Edges) → BlockIsTaken before shape at contents es mid → (t : State) → IsLater before t → Made t → AreFree es t
        → (block : Option EdgeId) × BlockIsThere t shape at contents block × Takes es mid t t
        × AllByRecursion (λ id. (edge_with mid id ≡ None) × ((e : Edge) × (edge_with es id ≡ Some e))) (option_to_list block)
    block_taken None at contents es mid taken t later made free = (None, taken.0, subst (λ (l : Edges). Takes es l t t) (sym taken.1) (takes_none es t made free), tt)
    block_taken (Some shape) at contents es mid (id, b, is, same, left) t later made free = (
      Some id,
      (b, free.there id _ is, same_from t later at (plain b) same),
      subst (λ (l : Edges). Takes es l t t) (sym left) (takes_one es t id made free),
      ((ap (λ (l : Edges). edge_with l id) left ∙ gone 0 es free.high id free.ascend, (_, is)), tt),
    )

    -- where terms have got nodes, the edges are the same
    free_same : (es : Edges) (t u : State) → u.graph ≡ t.graph → AreFree es t → AreFree es u
    free_same es t u e f = record {
      high = f.high;
      ascend = f.ascend;
      part = f.part;
      there = λ id x h. subst (λ (g : Graph). edge_with g.edges id ≡ Some x) (sym e) (f.there id x h);
    }

    takes_from : (es left : Edges) (t u v : State) → IsGrown t u → u.graph ≡ t.graph → Takes es left u v → Takes es left t v
    takes_from es left t u v g e takes = record {
      grown = grown_on t u v g takes.grown;
      made = takes.made;
      free = takes.free;
      less = takes.less;
      outside = λ id x h none. takes.outside id x (subst (λ (g : Graph). edge_with g.edges id ≡ Some x) (sym e) h) none;
    }

    own_from : (es left : Edges) (t u : State) → u.graph ≡ t.graph → (id : EdgeId) → IsOwn es left u id → IsOwn es left t id
    own_from es left t u e id own = (own.0, λ none. subst (λ (g : Graph). edge_with g.edges id ≡ None) e (own.1 none))

    -- an edge that was free is its own
    taken_own : (es mid left : Edges) (t u : State) → Takes mid left t u → (id : EdgeId) (e : Edge) → edge_with mid id ≡ None → edge_with es id ≡ Some e → IsOwn es left t id
    taken_own es mid left t u takes id e none is = (not_left mid left t u takes id none, λ other. absurd (clash (edge_with es id) e other is))

    -- ---- by a rule

    all_by : {A : Type 0} (P : A → Type 0) (xs : List A) → All P xs → AllByRecursion P xs
    all_by P [] all = tt
    all_by P (x ∷ xs) all = (all 0 x (omega arith), all_by P xs (λ i d less. all (suc i) d (omega arith)))

    contents_by : (params : List Kind) (rule : Rule) → RuleFitsStructs structs defs params rule → (es mid : Edges) → ((id : EdgeId) (e : Edge) → edge_with es id ≡ Some e → edge_with before.graph.edges id ≡ Some e)
        → (at : Term) (contents : List NodeId) (o : Option StructId) → rule.block ≡ o → BlockIsTaken before o at contents es mid → HaveTermKinds before.kinds (content_kinds params rule) (map plain contents)
    contents_by params rule fits es mid part at contents None is taken =
        subst (λ (cs : List NodeId). HaveTermKinds before.kinds (content_kinds params rule) (map plain cs)) (sym taken.0)
        (no_contents_kinded structs defs vars fit before made_before params rule fits is)
    contents_by params rule fits es mid part at contents (Some shape) is (id, b, there, same, left) =
        contents_kinded structs defs vars fit before made_before params rule fits shape is id b contents (part id _ there)

    -- a block stays where others are taken
    block_stays : (mid left : Edges) (u v : State) → Takes mid left u v → (shape : Option StructId) (at : Term) (contents : List NodeId) (block : Option EdgeId)
        → AllByRecursion (λ id. edge_with mid id ≡ None) (option_to_list block) → BlockIsThere u shape at contents block → BlockIsThere v shape at contents block
    block_stays mid left u v takes None at contents None none there = there
    block_stays mid left u v takes None at contents (Some id) none there = absurd there
    block_stays mid left u v takes (Some shape) at contents None none there = absurd there
    block_stays mid left u v takes (Some shape) at contents (Some id) none there =
        (there.0, takes.outside id _ there.1 none.0, same_grown u v takes.grown at (plain there.0) there.2)

    -- the block and the edges of the calls are apart
    apart_by : (es mid left : Edges) (u v : State) → Takes mid left u v → (shape : Option StructId) (at : Term) (contents : List NodeId) (block : Option EdgeId) → BlockIsThere u shape at contents block
        → AllByRecursion (λ id. (edge_with mid id ≡ None) × ((e : Edge) × (edge_with es id ≡ Some e))) (option_to_list block)
        → (ids : List EdgeId) → AllByRecursion (IsOwn mid left u) ids → are_distinct ids ≡ true → are_distinct (option_to_list block ++ ids) ≡ true
    apart_by es mid left u v takes shape at contents None there own ids owns distinct = distinct
    apart_by es mid left u v takes None at contents (Some id) there own ids owns distinct = absurd there
    apart_by es mid left u v takes (Some shape) at contents (Some id) there own ids owns distinct =
        apart_more id ids (among_none (IsOwn mid left u) id ids (λ o. clash (edge_with u.graph.edges id) _ (o.1 own.0.0) there.1) owns) distinct

    block_own : (es mid left : Edges) (u v : State) → Takes mid left u v → (block : Option EdgeId)
        → AllByRecursion (λ id. (edge_with mid id ≡ None) × ((e : Edge) × (edge_with es id ≡ Some e))) (option_to_list block)
        → (ids : List EdgeId) → AllByRecursion (IsOwn es left u) ids → AllByRecursion (IsOwn es left u) (option_to_list block ++ ids)
    block_own es mid left u v takes None own ids owns = owns
    block_own es mid left u v takes (Some id) own ids owns = (taken_own es mid left u v takes id own.0.1.0 own.0.0 own.0.1.1, owns)

    block_none : (es mid : Edges) (block : Option EdgeId) → AllByRecursion (λ id. (edge_with mid id ≡ None) × ((e : Edge) × (edge_with es id ≡ Some e))) (option_to_list block)
        → AllByRecursion (λ id. edge_with mid id ≡ None) (option_to_list block)
    block_none es mid None own = tt
    block_none es mid (Some id) own = (own.0.0, tt)

    -- nothing but edges changes where a rule or a segment folds
    fold_grown : (u : State) (left : Edges) (new : Edge) → IsGrown u (folded u left new)
    fold_grown u left new = record { kinds = λ kind n h. h; written = λ f h. h }

    rule_made : (k : ℕ) → Makes k → (pred : PredId) (at : Term) (args : List Term) (es left : Edges) → IsByRule (CoverAt defs before k) defs before pred at args es left → IsKinded defs before.kinds pred at args
        → (t : State) → IsLater before t → Made t → AreFree es t
        → ((u : State) (id : EdgeId) → Takes es left t u → IsOwn es left t id → IsMadeBy u pred at args id → End u) → End t
    rule_made k f pred at args es left (by, mid, taken, found) asked t later made free go =
        let fits = rule_fits_structs structs defs fit pred.0 by.def by.defined by.place by.rule by.listed in
        let contents = contents_by by.def.params by.rule fits es mid free.part at by.contents by.rule.block refl taken in
        let known = names_known structs defs vars fit before made_before pred at args asked by contents in
        let kinded = each_known before.kinds by.rule.names by.names (lie_count before by.rule.names by.names by.kinds) known in
        names_made by.rule.names by.names kinded by.kinds t later made
        (λ u ns grown made_u same named.
        let later_u = later_on before t u later grown in
        let free_u = free_same es t u same free in
        let b = block_taken by.rule.block at by.contents es mid taken u later_u made_u free_u in
        calls_made k f by.rule.names by.names known by.rule.calls (all_by (CallFits defs by.rule.names) by.rule.calls fits.fits.calls) mid left found u later_u made_u b.2.free
        (λ v ids takes owns distinct are.
        unless_false v takes.made
        (λ consistent.
        let all = takes_on es mid left u u v b.2 takes in
        let later_v = later_on before u v later_u takes.grown in
        let named_v = named_grown u v takes.grown by.rule.names by.names ns named in
        let block_v = block_stays mid left u v takes by.rule.block at by.contents b.0 (block_none es mid b.0 b.3) b.1 in
        let apart = apart_by es mid left u v takes by.rule.block at by.contents b.0 b.1 b.3 ids owns distinct in
        let r = folds defs (structs, fit) before v sound later_v pred at args by ns named_v b.0 ids consistent block_v are apart in
        let gone_ids = option_to_list b.0 ++ ids in
        let new : Edge = Ind r.node pred r.nodes in
        let w : State = folded v (others v.graph.edges gone_ids) new in
        let made_w = (fold_made defs vars structs (ind_fold pred by.place ns b.0 ids) v (w ∷ []) (structs, fit) r.instance takes.made).0 in
        let own = block_own es mid left u v takes b.0 b.3 ids (all_own es mid left u u v b.2 takes ids owns) in
        let on = folds_on es left u v all gone_ids new own made_w in
        ending.behind w (ending.folds (ind_fold pred by.place ns b.0 ids) r.instance)
        (go w (record { 0 = v.graph.next }) (takes_from es left t u w grown same on.0) (own_from es left t u same (record { 0 = v.graph.next }) on.1)
        (record {
          node = r.node;
          nodes = r.nodes;
          there = is_new v.graph.edges gone_ids v.graph.next new takes.made.bounded.ids;
          same_at = same_grown v w (fold_grown v (others v.graph.edges gone_ids) new) at (plain r.node) r.same_at;
          same_args = all_same_grown v w (fold_grown v (others v.graph.edges gone_ids) new) args (map plain r.nodes) r.same_args;
        })))))

    -- ---- by a segment

    seg_made : (k : ℕ) → Makes k → (pred : PredId) (at : Term) (args : List Term) (es left : Edges) → IsBySeg (CoverAt defs before k) before pred at args es left
        → (t : State) → IsLater before t → Made t → AreFree es t
        → ((u : State) (id : EdgeId) → Takes es left t u → IsOwn es left t id → IsMadeBy u pred at args id → End u) → End t
    seg_made k f pred at args es left (id, b, bs, stop, ends, is, same_at, same_args, found) t later made free go =
        let mid = without es id in
        let none : edge_with mid id ≡ None = gone 0 es free.high id free.ascend in
        let one = takes_one es t id made free in
        let seg : Edge = Seg b bs pred stop ends in
        f pred (plain stop) (map plain ends) mid left found (end_kinded structs defs vars fit before made_before id b bs pred stop ends (free.part id seg is)) t later made one.free
        (λ u rest takes own by.
        unless_false u takes.made
        (λ consistent.
        let here : edge_with u.graph.edges id ≡ Some seg = takes.outside id seg (free.there id seg is) none in
        let apart = apart_more id (rest ∷ []) (among_none (IsOwn mid left t) id (rest ∷ []) (λ o. clash (edge_with t.graph.edges id) seg (o.1 none) (free.there id seg is)) (own, tt)) refl in
        let i = closes u id rest pred b bs stop ends consistent here by apart in
        let ids = id ∷ rest ∷ [] in
        let new : Edge = Ind b pred bs in
        let w : State = folded u (others u.graph.edges ids) new in
        let made_w = (close_made defs vars structs id rest u (w ∷ []) i takes.made).0 in
        let all = takes_on es mid left t t u one takes in
        let owns : AllByRecursion (IsOwn es left t) ids = (taken_own es mid left t u takes id seg none is, all_own es mid left t t u one takes (rest ∷ []) (own, tt)) in
        let on = folds_on es left t u all ids new owns made_w in
        let later_u = later_on before t u later takes.grown in
        ending.behind w (ending.closes id rest i)
        (go w (record { 0 = u.graph.next }) on.0 on.1
        (record {
          node = b;
          nodes = bs;
          there = is_new u.graph.edges ids u.graph.next new takes.made.bounded.ids;
          same_at = same_grown u w (fold_grown u (others u.graph.edges ids) new) at (plain b) (same_from u later_u at (plain b) same_at);
          same_args = all_same_grown u w (fold_grown u (others u.graph.edges ids) new) args (map plain bs) (all_same_from u later_u args (map plain bs) same_args);
        }))))

    -- ---- by an Ind

    ind_made : (pred : PredId) (at : Term) (args : List Term) (es left : Edges) → IsByInd before pred at args es left
        → (t : State) → IsLater before t → Made t → AreFree es t
        → ((u : State) (id : EdgeId) → Takes es left t u → IsOwn es left t id → IsMadeBy u pred at args id → End u) → End t
    ind_made pred at args es left (id, b, bs, is, same_at, same_args, rest) t later made free go =
        go t id (subst (λ (l : Edges). Takes es l t t) (sym rest) (takes_one es t id made free))
        (ap (λ (l : Edges). edge_with l id) rest ∙ gone 0 es free.high id free.ascend, λ none. absurd (clash (edge_with es id) _ none is))
        (record {
          node = b;
          nodes = bs;
          there = free.there id _ is;
          same_at = same_from t later at (plain b) same_at;
          same_args = all_same_from t later args (map plain bs) same_args;
        })

    makes : (k : ℕ) → Makes k
    makes zero pred at args es left found asked t later made free go = absurd found
    makes (suc k) pred at args es left (inl by) asked t later made free go = ind_made pred at args es left by t later made free go
    makes (suc k) pred at args es left (inr (inl by)) asked t later made free go = seg_made k (makes k) pred at args es left by t later made free go
    makes (suc k) pred at args es left (inr (inr by)) asked t later made free go = rule_made k (makes k) pred at args es left by asked t later made free go

  -- ---- the theorem

  ends : (s : State) (goal : Goal) (left : Edges) → Made s → HasKind s.kinds Ptr goal.at → ArgsFit defs s.kinds goal.pred goal.args
      → Cover defs s goal.pred (plain goal.at) (map plain goal.args) s.graph.edges left → CanEnd defs goal s
  ends s goal left made has args cover = elim (false_or s made) [
    | inl wrong ↦ ending.as_false wrong
    | inr sound ↦ begun sound
  ]
    where
      not_named : Contains (goal.at ∷ goal.args) (next_node s) → ⊥
      not_named c = none_is_next s made.bounded (goal.at ∷ goal.args) ((Ptr, has), kinds_there s.kinds args.0.params goal.args args.2) c

      begun : (IsFalse s → ⊥) → CanEnd defs goal s
      begun sound =
          let z = zeroed s made.bounded in
          let i = names_zero s made.bounded sound in
          let made_z = (spare_made defs vars structs null (pos 0) Ptr s (z ∷ []) i made).0 in
          ending.behind z (ending.names null (pos 0) Ptr i)
          (unless_false goal s made sound z made_z
          (λ consistent.
          let l = lists z (next_node s) (made_rises z made_z.bounded) (made_fits z made_z.bounded made_z.atoms) in
          let t = forgotten s made.bounded l.0 consistent in
          let f = forgets_zero s made.bounded l.0 consistent l.1 in
          let made_t = (forget_made defs vars structs (next_node s) z (t ∷ []) f made_z).0 in
          let later = forgotten_later s made.bounded l.0 consistent l.1 in
          let free : AreFree goal s made sound s.graph.edges t = record { high = s.graph.next; ascend = made.bounded.ids; part = λ id e h. h; there = λ id e h. h } in
          ending.behind t (ending.forgets (next_node s) not_named f)
          (makes goal s made sound cover.depth goal.pred (plain goal.at) (map plain goal.args) s.graph.edges left cover.found (goal_kinded structs defs vars fit s made goal.pred goal.at goal.args has args) t later made_t free
          (λ u id takes own by. unless_false goal s made sound u takes.made (λ consistent_u. ending.as_met id (meets u goal id consistent_u by))))))

pub sides_end : EachIsDecided → ListsAreThere → SpareStaysMade → FoldIndStaysMade → CloseSegStaysMade → ForgetStaysMade → SidesCanEnd
sides_end decided lists spare_made fold_made close_made forget_made structs defs vars fit s goal left made has args cover =
    ends decided lists spare_made fold_made close_made forget_made structs defs vars fit s goal left made has args cover
