-- What instructions lack at well-made states.
use Rattle.std.proofs.Common.{◌≡◌, ◌↔◌, ◌⊎◌, inl, inr, pos, Bool, true, false, List, [], ◌∷◌, Option, Some, None, map, refl, sym, ◌∙◌, ap, subst}
use Rattle.mc_base.specs.declared.ids.NodeId.{NodeId}
use Rattle.mc_base.specs.declared.ids.PointId.{PointId}
use Rattle.mc_base.specs.declared.ids.PredId.{PredId}
use Rattle.mc_base.specs.declared.plain.Kind.TheVariants.{Ptr}
use Rattle.mc_base.specs.declared.plain.Atom.TheVariants.{Ne}
use Rattle.mc_base.specs.Nodes.{null}
use Rattle.mc_cover.specs.First.{Choice, first_cover}
use Rattle.mc_cover.specs.Laws.{NoFirstNoCover}
use Rattle.mc_flow.specs.declared.defs.rules.Def.{Def}
use Rattle.mc_flow.specs.declared.graph.Flow.{Flow}
use Rattle.mc_flow.specs.declared.instr.Instr.{Instr}
use Rattle.mc_flow.specs.declared.instr.Instr.TheVariants as instr
use Rattle.mc_flow.specs.declared.instr.Operand.{Operand}
use Rattle.mc_flow.specs.declared.instr.Operand.TheVariants.{Var, Const}
use Rattle.mc_flow.specs.Valid.{IsValid}
use Rattle.mc_state.specs.Graph.Graph.{Edges}
use Rattle.mc_state.specs.Known.{Test, Tells}
use Rattle.mc_pure.specs.Derived.{apart}
use Rattle.mc_state.specs.Covers.{Cover}
use Rattle.mc_state.specs.Facts.{IsFalse}
use Rattle.mc_state.specs.State.{State, var_node}
use Rattle.mc_state.specs.Terms.{plain}
use Rattle.mc_rules_steps.specs.declared.gap.Gap.{Gap}
use Rattle.mc_rules_steps.specs.declared.gap.Gap.TheVariants.{Uninit, NoBlock, Reached, NoShape, UninitField, NotEmpty}
use Rattle.mc_rules_steps.specs.Fitting.{OperandFits, OperandsFit}
use Rattle.mc_rules_steps.specs.Judges.{operand_nodes, with_first}
use Rattle.mc_rules_steps.specs.JudgedLaws.{CausesAreOne}
use Rattle.mc_rules_steps.specs.Operands.{code_at, operand_node, with_operand, with_operands, AreNodesOf}
use Rattle.mc_rules_steps.specs.Unmet.{AreKnown, IsUnmet, Lacks, LacksShape, taken}
use Rattle.mc_gaps.specs.Unmet.Gaps.{gap_at}
use Rattle.mc_gaps.specs.Unmet.Laws.{GapsAreTold, IsNoShape}
use Rattle.mc_kernel.proofs.OracleLemmas.Decided.{Or, and_or}
use Rattle.mc_kernel.proofs.OracleLemmas.Known.{Made}
use Rattle.mc_kernel.proofs.OracleLemmas.Ranged.{kinds_at}

-- ---- the nodes of operands

-- the nodes, or none
abbrev HaveNodes : State → List Operand → Type 0
HaveNodes s os = (ns : List NodeId) × (operand_nodes s os ≡ Some ns)

nodes_or : (s : State) (os : List Operand) → HaveNodes s os ⊎ (operand_nodes s os ≡ None)
nodes_or s os = at (operand_nodes s os) refl
  where
    at : (o : Option (List NodeId)) → operand_nodes s os ≡ o → HaveNodes s os ⊎ (operand_nodes s os ≡ None)
    at None e = inr e
    at (Some ns) e = inl (ns, e)

nodes_to : (os : List Operand) (s : State) (ns : List NodeId) → AreNodesOf s os ns → operand_nodes s os ≡ Some ns
nodes_to [] s [] a = refl
nodes_to [] s (n ∷ ns) a = absurd a
nodes_to (o ∷ os) s [] a = absurd a
nodes_to (o ∷ os) s (n ∷ ns) a =
    ap (λ (z : Option NodeId). with_first z (operand_nodes (with_operand s o) os)) a.0
    ∙ ap (λ (z : Option (List NodeId)). with_first (Some n) z) (nodes_to os (with_operand s o) ns a.1)

-- the first and the others of a list that is there
record Parts (n : Option NodeId) (rest : Option (List NodeId)) (all : List NodeId) : Type 0 where
  pub first : NodeId
  pub others : List NodeId
  pub first_is : n ≡ Some first
  pub others_are : rest ≡ Some others
  pub together : all ≡ first ∷ others

parts_of : (n : Option NodeId) (rest : Option (List NodeId)) (all : List NodeId) → with_first n rest ≡ Some all → Parts n rest all
parts_of None rest all e = absurd (cc e)
parts_of (Some n) None all e = absurd (cc e)
parts_of (Some n) (Some rest) all e = record { first = n; others = rest; first_is = refl; others_are = refl; together = cc e }

nodes_from : (os : List Operand) (s : State) (ns : List NodeId) → operand_nodes s os ≡ Some ns → AreNodesOf s os ns
nodes_from [] s [] e = tt
nodes_from [] s (n ∷ ns) e = absurd (cc e)
nodes_from (o ∷ os) s [] e = let parts = parts_of (operand_node s o) (operand_nodes (with_operand s o) os) [] e in absurd (let clash : [] ≡ parts.first ∷ parts.others = parts.together in cc)
nodes_from (o ∷ os) s (n ∷ ns) e =
    let parts = parts_of (operand_node s o) (operand_nodes (with_operand s o) os) (n ∷ ns) e in
    let list : n ∷ ns ≡ parts.first ∷ parts.others = parts.together in
    let node : parts.first ≡ n = cc list in
    let rest : parts.others ≡ ns = cc list in (
      parts.first_is ∙ ap (λ (z : NodeId). Some z) node,
      nodes_from os (with_operand s o) ns (parts.others_are ∙ ap (λ (z : List NodeId). Some z) rest),
    )

-- ---- what is known

node_known_or : (o : Option NodeId) → Or ((n : NodeId) × (o ≡ Some n))
node_known_or None = inr (λ k. let e = k.1 in cc)
node_known_or (Some n) = inl (n, refl)

known_or : (s : State) (os : List Operand) → Or (AreKnown s os)
known_or s [] = inl tt
known_or s (Var y ∷ os) = and_or (node_known_or (var_node s y)) (known_or s os)
known_or s (Const c ∷ os) = known_or s os

false_or : (know : Test) (s : State) → Tells know s → Or (IsFalse s)
false_or know s tells = at (know (Ne null null (pos 0))) refl
  where
    at : (b : Bool) → know (Ne null null (pos 0)) ≡ b → Or (IsFalse s)
    at true e = elim ((tells (Ne null null (pos 0))).0 e) [ inl h ↦ inl (apart h) | inr h ↦ inl h ]
    at false e = inr (λ h. let g = (tells (Ne null null (pos 0))).1 (inr h) in let two : true ≡ false = sym g ∙ e in cc)

-- ---- instructions that ask for no shape

-- no shape is lacking
abbrev AsksNone : List Def → Instr → Type 0
AsksNone defs code = (s : State) (pred : PredId) (n : NodeId) → Lacks defs code s (NoShape pred n) → ⊥

-- the instruction asserts a predicate at an operand
record Asserts (code : Instr) : Type 0 where
  pub pred : PredId
  pub at : Operand
  pub args : List Operand
  pub next : PointId
  pub is : code ≡ instr.AssertShape pred at args next

asks : (defs : List Def) (code : Instr) → Asserts code ⊎ AsksNone defs code
asks defs (instr.AssertShape pred o os q) = inl (record { pred = pred; at = o; args = os; next = q; is = refl })
asks defs (instr.Skip q) = inr (λ s pred n h. h)
asks defs (instr.Copy x o q) = inr (λ s pred n h. h)
asks defs (instr.Undef xs q) = inr (λ s pred n h. h)
asks defs (instr.Input x q) = inr (λ s pred n h. h)
asks defs (instr.Add x o p q) = inr (λ s pred n h. h)
asks defs (instr.Sub x o p q) = inr (λ s pred n h. h)
asks defs (instr.Mul x o p q) = inr (λ s pred n h. h)
asks defs (instr.Load x y shape f q) = inr (λ s pred n h. h)
asks defs (instr.Store y shape f o q) = inr (λ s pred n h. h)
asks defs (instr.Malloc x shape q) = inr (λ s pred n h. h)
asks defs (instr.Free o q) = inr (λ s pred n h. h)
asks defs (instr.TestEq o p t f) = inr (λ s pred n h. h)
asks defs (instr.TestLe o p t f) = inr (λ s pred n h. h)
asks defs (instr.AssumeShape pred x os q) = inr (λ s pred n h. h)
asks defs (instr.AssertEmpty q) = inr (λ s pred n h. h)
asks defs instr.End = inr (λ s pred n h. h)
asks defs instr.Fail = inr (λ s pred n h. h)

-- ---- gaps

module _ (flow : Flow) (defs : List Def) (valid : IsValid flow defs)
    (test : State → Test) (tells : (s : State) → Made defs flow.vars flow.structs.list s → Tells (test s) s)
    (told : GapsAreTold) (one : CausesAreOne) (covers : NoFirstNoCover) (fits : OperandFits) (all_fit : OperandsFit) where
  abbrev pub IsMade : State → Type 0
  IsMade s = Made defs flow.vars flow.structs.list s

  -- what the instruction lacks, if anything
  abbrev pub Answer : PointId → State → Type 0
  Answer p s = (o : Option Gap) × ((gap : Gap) → (o ≡ Some gap) ↔ IsUnmet flow defs p s gap)

  module _ (p : PointId) (s : State) (made : IsMade s) where
    abbrev asked : Option Gap
    asked = gap_at (test s) defs flow p s

    found : (gap : Gap) → asked ≡ Some gap → Answer p s
    found gap e = (
      Some gap,
      λ other. (
        (λ f. subst (λ (g : Gap). IsUnmet flow defs p s g) (same other f) here),
        λ u. ap (λ (g : Gap). Some g) (one flow defs p s gap other here u),
      ),
    )
      where
        here : IsUnmet flow defs p s gap
        here = ((told (test s) flow defs p s gap valid made.bounded (tells s made)).0 e).0

        same : (other : Gap) → Some gap ≡ Some other → gap ≡ other
        same other f = cc

    -- nothing but a shape is lacking
    abbrev OnlyShapes : Type 0
    OnlyShapes = (gap : Gap) → IsNoShape gap → IsUnmet flow defs p s gap → ⊥

    only_shapes : asked ≡ None → OnlyShapes
    only_shapes e gap no_shape u =
        let f = (told (test s) flow defs p s gap valid made.bounded (tells s made)).1 (u, no_shape) in
        let two : None ≡ Some gap = sym e ∙ f in cc

    nothing : OnlyShapes → ((pred : PredId) (n : NodeId) → IsUnmet flow defs p s (NoShape pred n) → ⊥) → Answer p s
    nothing only never = (None, λ gap. ((λ e. let no : None ≡ Some gap = e in cc), λ u. absurd (none gap u)))
      where
        none : (gap : Gap) → IsUnmet flow defs p s gap → ⊥
        none (Uninit x) u = only (Uninit x) tt u
        none (NoBlock n) u = only (NoBlock n) tt u
        none Reached u = only Reached tt u
        none (NoShape pred n) u = never pred n u
        none (UninitField n f) u = only (UninitField n f) tt u
        none (NotEmpty flag) u = only (NotEmpty flag) tt u

    just : (gap : Gap) → IsUnmet flow defs p s gap → Answer p s
    just gap here = (
      Some gap,
      λ other. (
        (λ f. subst (λ (g : Gap). IsUnmet flow defs p s g) (same other f) here),
        λ u. ap (λ (g : Gap). Some g) (one flow defs p s gap other here u),
      ),
    )
      where
        same : (other : Gap) → Some gap ≡ Some other → gap ≡ other
        same other f = cc

    same_code : (code other : Instr) → Some code ≡ Some other → code ≡ other
    same_code code other e = cc

    module _ (only : OnlyShapes) (consistent : IsFalse s → ⊥) (pred : PredId) (o : Operand) (os : List Operand) (q : PointId) (at : code_at flow p ≡ Some (instr.AssertShape pred o os q)) where
      abbrev code : Instr
      code = instr.AssertShape pred o os q

      -- what is unmet here
      lacks_from : (own : PredId) (n : NodeId) → IsUnmet flow defs p s (NoShape own n) → AreKnown s (o ∷ os) × LacksShape defs s pred o os own n
      lacks_from own n u =
          let e = same_code u.code code (sym u.at ∙ at) in
          let h = u.lacks in
          (subst (λ (c : Instr). AreKnown s (taken c)) e h.0, subst (λ (c : Instr). Lacks defs c s (NoShape own n)) e h.1)

      lacks_to : (n : NodeId) → AreKnown s (o ∷ os) → LacksShape defs s pred o os pred n → IsUnmet flow defs p s (NoShape pred n)
      lacks_to n known h = record { consistent = consistent; code = code; at = at; lacks = (known, h) }

      module _ (known : AreKnown s (o ∷ os)) (n : NodeId) (here : operand_node s o ≡ Some n) where
        abbrev t : State
        t = with_operands (with_operand s o) os

        -- no list of arguments is there
        no_args : operand_nodes (with_operand s o) os ≡ None → Answer p s
        no_args e = just (NoShape pred n) (lacks_to n known (refl, here, λ args a left c. (let f = nodes_to os (with_operand s o) args a in let two : None ≡ Some args = sym e ∙ f in cc)))

        some_same : (a b : List NodeId) → Some a ≡ Some b → a ≡ b
        some_same a b e = cc

        node_same : (a b : NodeId) → Some a ≡ Some b → a ≡ b
        node_same a b e = cc

        module _ (args : List NodeId) (nodes : operand_nodes (with_operand s o) os ≡ Some args) where
          made_then : IsMade t
          made_then =
              let kinds = kinds_at flow defs valid p code at in
              let first = fits defs flow.vars flow.structs.list s Ptr o n made kinds.0 here in
              (all_fit defs flow.vars flow.structs.list os kinds.1.def.params (with_operand s o) args first.made kinds.1.args nodes).made

          abbrev first : Option Choice
          first = first_cover (test t) defs pred (plain n) (map plain args) s.graph.edges

          missed : (first ≡ None) ↔ ((left : Edges) → Cover defs t pred (plain n) (map plain args) s.graph.edges left → ⊥)
          missed = covers (test t) defs t pred (plain n) (map plain args) s.graph.edges s.graph.next (flow.structs.list, valid.definitions) (tells t made_then) made.bounded.ids

          none_there : first ≡ None → Answer p s
          none_there e =
              just (NoShape pred n) (lacks_to n known (
                refl,
                here,
                λ other a left c.
                    (let f = nodes_to os (with_operand s o) other a in
                    let same = some_same other args (sym f ∙ nodes) in
                    missed.0 e left (subst (λ (z : List NodeId). Cover defs t pred (plain n) (map plain z) s.graph.edges left) same c)),
              ))

          one_there : (c : Choice) → first ≡ Some c → Answer p s
          one_there c e = nothing only (λ own m u. (
              let h = (lacks_from own m u).1 in
              let same = node_same m n (sym h.1 ∙ here) in
              let f = missed.1 (λ left k. h.2 args (nodes_from os (with_operand s o) args nodes) left (subst (λ (z : NodeId). Cover defs t pred (plain z) (map plain args) s.graph.edges left) (sym same) k)) in
              let two : Some c ≡ None = sym e ∙ f in cc))

          by_cover : (c : Option Choice) → first ≡ c → Answer p s
          by_cover None e = none_there e
          by_cover (Some c) e = one_there c e

        by_args : Answer p s
        by_args = elim (nodes_or (with_operand s o) os) [ inr e ↦ no_args e | inl a ↦ by_cover a.0 a.1 (first_cover (test t) defs pred (plain n) (map plain a.0) s.graph.edges) refl ]

      by_node : AreKnown s (o ∷ os) → (m : Option NodeId) → operand_node s o ≡ m → Answer p s
      by_node known None e = nothing only (λ own n u. (let h = (lacks_from own n u).1 in let two : None ≡ Some n = sym e ∙ h.1 in cc))
      by_node known (Some n) e = by_args known n e

      asserted : Answer p s
      asserted = elim (known_or s (o ∷ os)) [
        | inr never ↦ nothing only (λ own n u. never (lacks_from own n u).0)
        | inl known ↦ by_node known (operand_node s o) refl
      ]

    by_code : OnlyShapes → (IsFalse s → ⊥) → (c : Option Instr) → code_at flow p ≡ c → Answer p s
    by_code only consistent None e = nothing only (λ pred n u. (let two : None ≡ Some u.code = sym e ∙ u.at in cc))
    by_code only consistent (Some code) e = elim (asks defs code) [
      | inl a ↦ asserted only consistent a.pred a.at a.args a.next (e ∙ ap (λ (c : Instr). Some c) a.is)
      | inr none ↦ nothing only (λ pred n u. none s pred n (subst (λ (c : Instr). Lacks defs c s (NoShape pred n)) (same_code u.code code (sym u.at ∙ e)) u.lacks.1))
    ]

    by_asked : (g : Option Gap) → asked ≡ g → Answer p s
    by_asked (Some gap) e = found gap e
    by_asked None e = elim (false_or (test s) s (tells s made)) [
      | inl wrong ↦ nothing (only_shapes e) (λ pred n u. u.consistent wrong)
      | inr consistent ↦ by_code (only_shapes e) consistent (code_at flow p) refl
    ]

    pub answer : Answer p s
    answer = by_asked asked refl
