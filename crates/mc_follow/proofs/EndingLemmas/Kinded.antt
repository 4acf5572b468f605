-- The kinds of the terms that the names of a rule stand for.
use Rattle.std.proofs.Common.{◌≡◌, inl, ◌<◌, ◌+◌, ℕ, zero, suc, Option, Some, None, List, [], ◌∷◌, ◌++◌, length, map, take, drop, slice_get, Bool, true, false, refl, sym, ◌∙◌, ap, subst, arith, append_assoc, length-append, eqb-true}
use Rattle.std.specs.Prelude.{◌==◌, option_map, if◌then◌else◌}
use Rattle.std.specs.List.{AllByRecursion}
use Rattle.std.proofs.lemmas.List.{length-map}
use Rattle.std.proofs.lemmas.Option.{slice_get_within}
use Rattle.mc_base.specs.declared.ids.EdgeId.{EdgeId}
use Rattle.mc_base.specs.declared.ids.NodeId.{NodeId}
use Rattle.mc_base.specs.declared.ids.PredId.{PredId}
use Rattle.mc_base.specs.declared.ids.StructId.{StructId}
use Rattle.mc_base.specs.declared.plain.Kind.{Kind}
use Rattle.mc_base.specs.declared.plain.Kind.TheVariants.{Ptr}
use Rattle.mc_base.specs.declared.plain.VarInfo.{VarInfo}
use Rattle.mc_flow.specs.declared.defs.rules.Call.{Call}
use Rattle.mc_flow.specs.declared.defs.rules.Def.{Def}
use Rattle.mc_flow.specs.declared.defs.rules.DefAtom.{DefAtom}
use Rattle.mc_flow.specs.declared.defs.rules.DefAtom.TheVariants.{Eq, Ne, In}
use Rattle.mc_flow.specs.declared.defs.rules.Rule.{Rule}
use Rattle.mc_flow.specs.declared.defs.shapes.StructInfo.{StructInfo}
use Rattle.mc_flow.specs.Defs.Conditions.{DefsFit, DefFits, RuleFitsStructs, CallFits, AtomsFit, BaseFits, content_kinds, kinds_of}
use Rattle.mc_state.specs.declared.graph.edge.Edge.{Edge}
use Rattle.mc_state.specs.declared.graph.edge.Edge.TheVariants.{Block, Seg}
use Rattle.mc_state.specs.Graph.Graph.{Edges, edge_with}
use Rattle.mc_pure.specs.Pure.{Kinds, HasKind}
use Rattle.mc_state.specs.declared.terms.Term.{Term}
use Rattle.mc_state.specs.Covers.{Fixes, RuleTerms}
use Rattle.mc_state.specs.Fits.{ArgsFit, HaveKinds, MayHaveKinds, EdgeFitsDefs, EdgeFitsStructs, IsWellMade}
use Rattle.mc_state.specs.State.{State}
use Rattle.mc_state.specs.Terms.{plain, term_of, base_term}
use Rattle.mc_cover.proofs.Options.{all_at}

-- a term for each kind, of that kind
abbrev pub HaveTermKinds : Kinds → List Kind → List Term → Type 0
HaveTermKinds kinds [] [] = Unit {0}
HaveTermKinds kinds [] (t ∷ ts) = ⊥
HaveTermKinds kinds (kind ∷ ks) [] = ⊥
HaveTermKinds kinds (kind ∷ ks) (t ∷ ts) = HasKind kinds kind t.node × HaveTermKinds kinds ks ts

-- a predicate is asked for at a pointer, with arguments of the parameters' kinds
abbrev pub IsKinded : List Def → Kinds → PredId → Term → List Term → Type 0
IsKinded defs kinds pred at args = HasKind kinds Ptr at.node × ((def : Def) → slice_get defs pred.0 ≡ Some def → HaveTermKinds kinds def.params args)

-- a rule that is listed fits, also its struct
pub rule_fits_structs : (structs : List StructInfo) (defs : List Def) → DefsFit structs defs → (p : ℕ) (def : Def) → slice_get defs p ≡ Some def → (place : ℕ) (rule : Rule) → slice_get def.rules place ≡ Some rule
    → RuleFitsStructs structs defs def.params rule
rule_fits_structs structs defs fit p def d place rule l = all_at (RuleFitsStructs structs defs def.params) def.rules place rule l (all_at (DefFits structs defs) defs p def d fit).rules

module _ (kinds : Kinds) where
  -- nodes as terms
  pub plain_kinds : (ks : List Kind) (ns : List NodeId) → HaveKinds kinds ks ns → HaveTermKinds kinds ks (map plain ns)
  plain_kinds [] [] h = tt
  plain_kinds [] (n ∷ ns) h = absurd h
  plain_kinds (k ∷ ks) [] h = absurd h
  plain_kinds (k ∷ ks) (n ∷ ns) h = (h.0, plain_kinds ks ns h.1)

  fields_kinds : (ks : List Kind) (ns : List NodeId) → MayHaveKinds kinds ks (map Some ns) → HaveTermKinds kinds ks (map plain ns)
  fields_kinds [] [] h = tt
  fields_kinds [] (n ∷ ns) h = absurd h
  fields_kinds (k ∷ ks) [] h = absurd h
  fields_kinds (k ∷ ks) (n ∷ ns) h = (h.0, fields_kinds ks ns h.1)

  -- two lists, one after the other
  both_kinds : (ks : List Kind) (xs ys : List Term) → HaveTermKinds kinds (take (length xs) ks) xs → HaveTermKinds kinds (take (length ys) (drop (length xs) ks)) ys
      → HaveTermKinds kinds (take (length (xs ++ ys)) ks) (xs ++ ys)
  both_kinds ks [] ys a b = b
  both_kinds [] (x ∷ xs) ys a b = absurd a
  both_kinds (k ∷ ks) (x ∷ xs) ys a b = (a.0, both_kinds ks xs ys a.1 b)

  -- the names before one have their kinds
  abbrev KnownBelow : List Kind → List Term → ℕ → Type 0
  KnownBelow ks names n = (i : ℕ) (kind : Kind) → i < n → slice_get ks i ≡ Some kind → HasKind kinds kind (term_of names i).node

  front_known : (ks : List Kind) (xs rest : List Term) → HaveTermKinds kinds (take (length xs) ks) xs → KnownBelow ks (xs ++ rest) (length xs)
  front_known ks [] rest h i kind less e = absurd (omega arith)
  front_known [] (x ∷ xs) rest h i kind less e = absurd (cc e)
  front_known (k ∷ ks) (x ∷ xs) rest h zero kind less e = let same : k ≡ kind = cc e in subst (λ (z : Kind). HasKind kinds z x.node) same h.0
  front_known (k ∷ ks) (x ∷ xs) rest h (suc i) kind less e = front_known ks xs rest h.1 i kind (omega arith) e

  base_known : (ks : List Kind) (names : List Term) (n : ℕ) → KnownBelow ks names n → (kind : Kind) (base : Option ℕ)
      → ((name : ℕ) → base ≡ Some name → (name < n) × (slice_get ks name ≡ Some kind)) → HasKind kinds kind (base_term names base).node
  base_known ks names n below kind None fits = inl refl
  base_known ks names n below kind (Some name) fits = let f = fits name refl in below name kind f.0 f.1

  -- those that atoms introduce have theirs
  fixed_known : (ks : List Kind) (names : List Term) (n : ℕ) (atoms : List DefAtom) → AtomsFit ks n atoms → AllByRecursion (Fixes names) atoms → KnownBelow ks names n → KnownBelow ks names (length ks)
  fixed_known ks names n [] fit sums below = subst (KnownBelow ks names) fit below
  fixed_known ks names n (Eq left base add true ∷ atoms) fit sums below = fixed_known ks names (suc n) atoms fit.1 sums.1 next
    where
      named : (name : ℕ) → base ≡ Some name → (name < n) × (slice_get ks name ≡ Some fit.0.0)
      named name e = subst (λ (o : Option ℕ). BaseFits ks n fit.0.0 o) e fit.0.3.0

      here : HasKind kinds fit.0.0 (term_of names left).node
      here = subst (λ (t : Term). HasKind kinds fit.0.0 t.node) (sym sums.0) (base_known ks names n below fit.0.0 base named)

      next : KnownBelow ks names (suc n)
      next i kind less e = at (i == n) refl
        where
          at : (b : Bool) → (i == n) ≡ b → HasKind kinds kind (term_of names i).node
          at true is =
              let one : left ≡ i = fit.0.1 ∙ sym (eqb-true i n is) in
              let same : fit.0.0 ≡ kind = (let two : Some fit.0.0 ≡ Some kind = sym fit.0.2 ∙ (ap (slice_get ks) one ∙ e) in cc two) in
              subst (λ (k : Kind). HasKind kinds k (term_of names i).node) same (subst (λ (j : ℕ). HasKind kinds fit.0.0 (term_of names j).node) one here)
          at false is = below i kind (grind arith) e
  fixed_known ks names n (Eq left base add false ∷ atoms) fit sums below = fixed_known ks names n atoms fit.1 sums.1 below
  fixed_known ks names n (Ne left base add ∷ atoms) fit sums below = fixed_known ks names n atoms fit.1 sums.1 below
  fixed_known ks names n (In left lo hi ∷ atoms) fit sums below = fixed_known ks names n atoms fit.1 sums.1 below

  -- all names have their kinds
  abbrev pub AllKnown : List Kind → List Term → Type 0
  AllKnown ks names = (i : ℕ) (kind : Kind) → slice_get ks i ≡ Some kind → HasKind kinds kind (term_of names i).node

  -- the same, one by one
  pub each_known : (ks : List Kind) (names : List Term) → length ks ≡ length names → AllKnown ks names → HaveTermKinds kinds ks names
  each_known [] [] e all = tt
  each_known [] (t ∷ names) e all = absurd (omega arith)
  each_known (k ∷ ks) [] e all = absurd (omega arith)
  each_known (k ∷ ks) (t ∷ names) e all = (all 0 k refl, each_known ks names (omega arith) (λ i kind is. all (suc i) kind is))

  args_known : (ks : List Kind) (names : List Term) (args : List ℕ) (params : List Kind) → AllKnown ks names → map (slice_get ks) args ≡ map Some params → HaveTermKinds kinds params (map (term_of names) args)
  args_known ks names [] [] all e = tt
  args_known ks names [] (p ∷ params) all e = absurd (cc e)
  args_known ks names (a ∷ args) [] all e = absurd (cc e)
  args_known ks names (a ∷ args) (p ∷ params) all e =
      let first : slice_get ks a ≡ Some p = cc e in
      let rest : map (slice_get ks) args ≡ map Some params = cc e in
      (all a p first, args_known ks names args params all rest)

  -- what a call asks for
  pub call_kinded : (defs : List Def) (ks : List Kind) (names : List Term) (call : Call) → AllKnown ks names → CallFits defs ks call → IsKinded defs kinds call.pred (term_of names call.at) (map (term_of names) call.args)
  call_kinded defs ks names call all f = (
    all call.at Ptr f.pointer,
    λ def d. (let two : Some f.def ≡ Some def = sym f.defined ∙ d in let same : f.def ≡ def = cc two in
        subst (λ (z : Def). HaveTermKinds kinds z.params (map (term_of names) call.args)) same (args_known ks names call.args f.def.params all f.args)),
  )

-- ---- the names of a rule

edge_has : (P : Edge → Type 0) (es : Edges) (id : EdgeId) (e : Edge) → AllByRecursion (λ x. P x.1) es → edge_with es id ≡ Some e → P e
edge_has P [] id e a is = absurd (cc is)
edge_has P (x ∷ es) id e a is = at (x.0.0 == id.0) (edge_has P es id e a.1) is
  where
    at : (b : Bool) → (edge_with es id ≡ Some e → P e) → (if b then Some x.1 else edge_with es id) ≡ Some e → P e
    at true rest is = let same : x.1 ≡ e = cc is in subst P same a.0
    at false rest is = rest is

module _ (structs : List StructInfo) (defs : List Def) (vars : List VarInfo) (fit : DefsFit structs defs) (s : State) (made : IsWellMade defs vars structs s) where
  -- the contents of a block that is there
  pub contents_kinded : (params : List Kind) (rule : Rule) → RuleFitsStructs structs defs params rule → (shape : StructId) → rule.block ≡ Some shape → (id : EdgeId) (b : NodeId) (contents : List NodeId)
      → edge_with s.graph.edges id ≡ Some (Block b shape (map Some contents)) → HaveTermKinds s.kinds (content_kinds params rule) (map plain contents)
  contents_kinded params rule fits shape is id b contents there =
      let block = edge_has (EdgeFitsStructs structs s.kinds) s.graph.edges id (Block b shape (map Some contents)) made.fits_program.blocks_fit there in
      let kinds : kinds_of structs (Some shape) ≡ Some (content_kinds params rule) = ap (kinds_of structs) (sym is) ∙ fits.block in
      let same : Some (map (λ f. f.kind) block.0.fields) ≡ Some (content_kinds params rule) = sym (ap (option_map (λ (info : StructInfo). map (λ f. f.kind) info.fields)) block.1) ∙ kinds in
      let one : map (λ f. f.kind) block.0.fields ≡ content_kinds params rule = cc same in
      fields_kinds s.kinds (content_kinds params rule) contents (subst (λ (ks : List Kind). MayHaveKinds s.kinds ks (map Some contents)) one block.2)

  pub no_contents_kinded : (params : List Kind) (rule : Rule) → RuleFitsStructs structs defs params rule → rule.block ≡ None → HaveTermKinds s.kinds (content_kinds params rule) []
  no_contents_kinded params rule fits is =
      let same : Some [] ≡ Some (content_kinds params rule) = ap (kinds_of structs) (sym is) ∙ fits.block in
      let one : [] ≡ content_kinds params rule = cc same in
      subst (λ (ks : List Kind). HaveTermKinds s.kinds ks []) one tt

  -- what a goal asks for
  pub goal_kinded : (pred : PredId) (at : NodeId) (args : List NodeId) → HasKind s.kinds Ptr at → ArgsFit defs s.kinds pred args → IsKinded defs s.kinds pred (plain at) (map plain args)
  goal_kinded pred at args has f = (
    has,
    λ def d. (let two : Some f.0 ≡ Some def = sym f.1 ∙ d in let same : f.0 ≡ def = cc two in
        subst (λ (z : Def). HaveTermKinds s.kinds z.params (map plain args)) same (plain_kinds s.kinds f.0.params args f.2)),
  )

  -- what is asked for at the end of a segment
  pub end_kinded : (id : EdgeId) (at : NodeId) (args : List NodeId) (pred : PredId) (stop : NodeId) (ends : List NodeId) → edge_with s.graph.edges id ≡ Some (Seg at args pred stop ends)
      → IsKinded defs s.kinds pred (plain stop) (map plain ends)
  end_kinded id at args pred stop ends there =
      let f = edge_has (EdgeFitsDefs defs s.kinds) s.graph.edges id (Seg at args pred stop ends) made.fits_defs there in
      goal_kinded pred stop ends f.2 f.3

  module _ (pred : PredId) (at : Term) (args : List Term) (asked : IsKinded defs s.kinds pred at args) (by : RuleTerms defs s pred at args)
      (contents : HaveTermKinds s.kinds (content_kinds by.def.params by.rule) (map plain by.contents)) where
    fits : RuleFitsStructs structs defs by.def.params by.rule
    fits = rule_fits_structs structs defs fit pred.0 by.def by.defined by.place by.rule by.listed

    front_kinded : HaveTermKinds s.kinds (take (length (at ∷ args)) by.rule.names) (at ∷ args)
    front_kinded =
        let count : suc (length by.def.params) ≡ length (at ∷ args) = ap suc (sym by.count) in
        let own : HaveTermKinds s.kinds (Ptr ∷ by.def.params) (at ∷ args) = (asked.0, asked.1 by.def by.defined) in
        subst (λ (ks : List Kind). HaveTermKinds s.kinds ks (at ∷ args)) (sym fits.fits.names.front ∙ ap (λ (n : ℕ). take n by.rule.names) count) own

    back_kinded : HaveTermKinds s.kinds (take (length (map plain by.contents)) (drop (length (at ∷ args)) by.rule.names)) (map plain by.contents)
    back_kinded =
        let first : suc (length by.def.params) ≡ length (at ∷ args) = ap suc (sym by.count) in
        let count : length by.rule.contents ≡ length (map plain by.contents) = sym (length-map by.contents plain ∙ by.contents_count) in
        subst (λ (ks : List Kind). HaveTermKinds s.kinds ks (map plain by.contents))
        (ap (λ (n : ℕ). take n (drop (suc (length by.def.params)) by.rule.names)) count ∙ ap (λ (n : ℕ). take (length (map plain by.contents)) (drop n by.rule.names)) first)
        contents

    abbrev first : List Term
    first = (at ∷ args) ++ map plain by.contents

    spelled : by.names ≡ first ++ by.fixed
    spelled = by.front ∙ sym (append_assoc (at ∷ args) (map plain by.contents) by.fixed)

    pub names_known : AllKnown s.kinds by.rule.names by.names
    names_known i kind e =
        let whole = both_kinds s.kinds by.rule.names (at ∷ args) (map plain by.contents) front_kinded back_kinded in
        let below = front_known s.kinds by.rule.names first by.fixed whole in
        let mine = subst (λ (ts : List Term). KnownBelow s.kinds by.rule.names ts (length first)) (sym spelled) below in
        let a : length first ≡ length (at ∷ args) + length (map plain by.contents) = length-append (at ∷ args) (map plain by.contents) in
        let b : length (map plain by.contents) ≡ length by.rule.contents = length-map by.contents plain ∙ by.contents_count in
        let c : length (at ∷ args) ≡ suc (length by.def.params) = ap suc by.count in
        let count : length first ≡ suc (length by.def.params) + length by.rule.contents = omega arith in
        let all = fixed_known s.kinds by.rule.names by.names (suc (length by.def.params) + length by.rule.contents) by.rule.atoms fits.fits.names.atoms by.sums
        (subst (λ (n : ℕ). KnownBelow s.kinds by.rule.names by.names n) count mine) in
        all i kind (slice_get_within by.rule.names i kind e) e
