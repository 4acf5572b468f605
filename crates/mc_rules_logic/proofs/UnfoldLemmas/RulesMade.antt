-- The block, the calls and the atoms of a rule fit at nodes of its names' kinds.
use Rattle.std.proofs.Common.{◌≡◌, ◌≤◌, ◌+◌, ℕ, zero, suc, ℤ, pos, true, false, Option, Some, None, List, [], ◌∷◌, map, take, drop, length, slice_get, refl, sym, ◌∙◌, ap, subst, inl, inr, arith, length-take, length-drop}
use Rattle.std.specs.Prelude.{All, option_map}
use Rattle.std.specs.List.{AllByRecursion}
use Rattle.std.proofs.lemmas.Int.{ints}
use Rattle.std.proofs.lemmas.List.{length-map}
use Rattle.mc_base.specs.declared.ids.NodeId.{NodeId}
use Rattle.mc_base.specs.declared.ids.StructId.{StructId}
use Rattle.mc_base.specs.declared.plain.Kind.{Kind}
use Rattle.mc_base.specs.declared.plain.Kind.TheVariants.{Int, Ptr}
use Rattle.mc_flow.specs.declared.defs.rules.Call.{Call}
use Rattle.mc_flow.specs.declared.defs.rules.Def.{Def}
use Rattle.mc_flow.specs.declared.defs.rules.DefAtom.{DefAtom}
use Rattle.mc_flow.specs.declared.defs.rules.DefAtom.TheVariants.{Eq, Ne, In}
use Rattle.mc_flow.specs.declared.defs.rules.Rule.{Rule}
use Rattle.mc_flow.specs.declared.defs.shapes.StructInfo.{StructInfo}
use Rattle.mc_flow.specs.Defs.Conditions.{numbers_from, kinds_of, content_kinds, BaseFits, OffsetFits, BoundsFit, AtomFits, AtomsFit, known_after, CallFits, RuleFits, RuleFitsStructs, DefFits, DefsFit}
use Rattle.mc_flow.specs.Defs.Conditions as conditions
use Rattle.mc_flow.specs.Defs.Instances.{node_of, base_node, atom_of}
use Rattle.mc_pure.specs.Pure.{Kinds, HasKind, IsOffset, IsBound, IsWellFormed}
use Rattle.mc_state.specs.Bodies.{call_edge, block_edges}
use Rattle.mc_state.specs.Fits.{HaveKinds, MayHaveKinds, EdgeFitsDefs}
use Rattle.mc_rules_logic.specs.Unfold.RuleLaws.{RuleOfFitting}
use Rattle.mc_rules_logic.specs.Unfold.Unfolded.{equal_atoms}
use Rattle.mc_rules_logic.specs.Unfold.WellMade.{EdgeFits, EqualsAreFormed, RulesAreMade}
use Rattle.mc_flow.proofs.DefsLemmas.SomeStructs.{all_at, all_head, all_tail, known_grows}

-- ---- lists
module _ {A : Type 0} where
  all_of : (P Q : A → Type 0) → ((x : A) → P x → Q x) → (xs : List A) → All P xs → AllByRecursion Q xs
  all_of P Q f [] a = tt
  all_of P Q f (x ∷ xs) a = (f x (all_head P x xs a), all_of P Q f xs (all_tail P x xs a))

-- ---- numbers
small_offset : IsOffset (pos 0)
small_offset = (omega (arith, ints), omega (arith, ints))

offset_fits : (kind : Kind) (add : ℤ) → OffsetFits kind add → IsOffset add
offset_fits Int add f = let lo = f.0 in let hi = f.1 in (omega (arith, ints), omega (arith, ints))
offset_fits Ptr add f = subst IsOffset (sym f) small_offset

bounds_fit : (lo hi : ℤ) → BoundsFit lo hi → IsBound lo × IsBound hi
bounds_fit lo hi (inl b) = let low = b.0 in let least = b.1.0 in let most = b.1.1 in ((omega (arith, ints), omega (arith, ints)), (omega (arith, ints), omega (arith, ints)))
bounds_fit lo hi (inr b) = let least = b.0.0 in let most = b.0.1 in let high = b.1 in ((omega (arith, ints), omega (arith, ints)), (omega (arith, ints), omega (arith, ints)))

names_enough : (names : List Kind) (known : ℕ) (atoms : List DefAtom) → AtomsFit names known atoms → known ≤ length names
names_enough names known [] f = let all : known ≡ length names = f in omega arith
names_enough names known (a ∷ atoms) f =
    let rest = names_enough names (known_after known a) atoms f.1 in
    let more = known_grows known a in
    omega arith

module _ (kinds : Kinds) where
  -- a name's node is of its kind
  pub name_kind : (names : List Kind) (nodes : List NodeId) (name : ℕ) (kind : Kind) → HaveKinds kinds names nodes → slice_get names name ≡ Some kind → HasKind kinds kind (node_of nodes name)
  name_kind [] nodes name kind h e = cc
  name_kind (k ∷ names) [] name kind h e = absurd h
  name_kind (k ∷ names) (n ∷ nodes) zero kind h e = let same : k ≡ kind = cc in subst (λ k. HasKind kinds k n) same h.0
  name_kind (k ∷ names) (n ∷ nodes) (suc name) kind h e = name_kind names nodes name kind h.1 e

  pub args_kinds : (names : List Kind) (nodes : List NodeId) (args : List ℕ) (params : List Kind) → HaveKinds kinds names nodes → conditions.ArgsFit names args params → HaveKinds kinds params (map (node_of nodes) args)
  args_kinds names nodes [] [] h e = tt
  args_kinds names nodes [] (p ∷ params) h e = absurd (cc e)
  args_kinds names nodes (a ∷ args) [] h e = absurd (cc e)
  args_kinds names nodes (a ∷ args) (p ∷ params) h e =
      let here : slice_get names a ≡ Some p = cc e in
      let rest : conditions.ArgsFit names args params = cc e in
      (name_kind names nodes a p h here, args_kinds names nodes args params h rest)

  -- nodes of the same kinds may be written equal
  equal_formed : (ks : List Kind) (as' bs : List NodeId) → HaveKinds kinds ks as' → HaveKinds kinds ks bs → AllByRecursion (IsWellFormed kinds) (equal_atoms as' bs)
  equal_formed [] [] bs h g = tt
  equal_formed [] (a ∷ as') bs h g = absurd h
  equal_formed (k ∷ ks) [] bs h g = absurd h
  equal_formed (k ∷ ks) (a ∷ as') [] h g = absurd g
  equal_formed (k ∷ ks) (a ∷ as') (b ∷ bs) h g = (((k, h.0, g.0), small_offset), equal_formed ks as' bs h.1 g.1)

  module _ (names : List Kind) (nodes : List NodeId) (have_kinds : HaveKinds kinds names nodes) where
    base_kind : (known : ℕ) (kind : Kind) (base : Option ℕ) → BaseFits names known kind base → HasKind kinds kind (base_node nodes base)
    base_kind known kind None f = inl refl
    base_kind known kind (Some name) f = name_kind names nodes name kind have_kinds f.1

    atom_formed : (known : ℕ) (a : DefAtom) → AtomFits names known a → IsWellFormed kinds (atom_of nodes a)
    atom_formed known (Eq left base add true) f = ((f.0, name_kind names nodes left f.0 have_kinds f.2, base_kind known f.0 base f.3.0), offset_fits f.0 add f.3.1)
    atom_formed known (Eq left base add false) f = ((f.0, name_kind names nodes left f.0 have_kinds f.1.1, base_kind known f.0 base f.2.0), offset_fits f.0 add f.2.1)
    atom_formed known (Ne left base add) f = ((f.0, name_kind names nodes left f.0 have_kinds f.1.1, base_kind known f.0 base f.2.0), offset_fits f.0 add f.2.1)
    atom_formed known (In left lo hi) f =
        let bounds = bounds_fit lo hi f.1 in
        ((Int, name_kind names nodes left Int have_kinds f.0.1), bounds.0, bounds.1)

    atoms_formed : (known : ℕ) (atoms : List DefAtom) → AtomsFit names known atoms → AllByRecursion (IsWellFormed kinds) (map (atom_of nodes) atoms)
    atoms_formed known [] f = tt
    atoms_formed known (a ∷ atoms) f = (atom_formed known a f.0, atoms_formed (known_after known a) atoms f.1)

    call_fits : (defs : List Def) (call : Call) → CallFits defs names call → EdgeFitsDefs defs kinds (call_edge nodes call)
    call_fits defs call f =
        (name_kind names nodes call.at Ptr have_kinds f.pointer, (f.def, f.defined, args_kinds names nodes call.args f.def.params have_kinds f.args))

  -- ---- a block
  shift : (n : NodeId) (nodes : List NodeId) (m count : ℕ) → map (λ name. Some (node_of (n ∷ nodes) name)) (numbers_from (suc m) count) ≡ map (λ name. Some (node_of nodes name)) (numbers_from m count)
  shift n nodes m zero = refl
  shift n nodes m (suc count) = ap (λ l. Some (node_of nodes m) ∷ l) (shift n nodes (suc m) count)

  contents_kinds : (names : List Kind) (nodes : List NodeId) (m count : ℕ) → HaveKinds kinds names nodes → m + count ≤ length names → MayHaveKinds kinds (take count (drop m names)) (map (λ name. Some (node_of nodes name)) (numbers_from m count))
  contents_kinds names nodes zero zero h le = tt
  contents_kinds [] nodes zero (suc count) h le = absurd (omega arith)
  contents_kinds (k ∷ names) [] zero (suc count) h le = absurd h
  contents_kinds (k ∷ names) (n ∷ nodes) zero (suc count) h le =
      let rest = contents_kinds names nodes zero count h.1 (omega arith) in
      (h.0, subst (MayHaveKinds kinds (take count names)) (sym (shift n nodes 0 count)) rest)
  contents_kinds [] nodes (suc m) count h le = absurd (omega arith)
  contents_kinds (k ∷ names) [] (suc m) count h le = absurd h
  contents_kinds (k ∷ names) (n ∷ nodes) (suc m) count h le =
      subst (MayHaveKinds kinds (take count (drop m names))) (sym (shift n nodes m count)) (contents_kinds names nodes m count h.1 (omega arith))

-- there is a kind for each content
content_count : (defs : List Def) (params : List Kind) (rule : Rule) → RuleFits defs params rule → length (content_kinds params rule) ≡ length rule.contents
content_count defs params rule f =
    let enough = names_enough rule.names (suc (length params) + length rule.contents) rule.atoms f.names.atoms in
    grind (arith, length-take, length-drop)

-- the kinds of a struct's fields
of_struct : (structs : List StructInfo) (shape : StructId) (ks : List Kind) (o : Option StructInfo) → slice_get structs shape.0 ≡ o → option_map (λ (info : StructInfo). map (λ f. f.kind) info.fields) o ≡ Some ks
    → (info : StructInfo) × (slice_get structs shape.0 ≡ Some info) × (map (λ f. f.kind) info.fields ≡ ks)
of_struct structs shape ks None there e = absurd (cc e)
of_struct structs shape ks (Some info) there e = (info, there, cc e)

module _ (defs : List Def) (structs : List StructInfo) (fit : DefsFit structs defs) where
  pub rule_fits : (p r : ℕ) (def : Def) (rule : Rule) → slice_get defs p ≡ Some def → slice_get def.rules r ≡ Some rule → RuleFitsStructs structs defs def.params rule
  rule_fits p r def rule at_p at_r =
      all_at (RuleFitsStructs structs defs def.params) def.rules r rule at_r (all_at (DefFits structs defs) defs p def at_p fit).rules

  -- two rules with blocks of one struct have as many contents
  same_count : (shape : StructId) (params params' : List Kind) (rule other : Rule) → rule.block ≡ Some shape → other.block ≡ Some shape → RuleFitsStructs structs defs params rule → RuleFitsStructs structs defs params' other → length rule.contents ≡ length other.contents
  same_count shape params params' rule other here there f g =
      let one : kinds_of structs (Some shape) ≡ Some (content_kinds params rule) = subst (λ b. kinds_of structs b ≡ Some (content_kinds params rule)) here f.block in
      let two : kinds_of structs (Some shape) ≡ Some (content_kinds params' other) = subst (λ b. kinds_of structs b ≡ Some (content_kinds params' other)) there g.block in
      let same : content_kinds params rule ≡ content_kinds params' other = cc (one, two) in
      sym (content_count defs params rule f.fits) ∙ ap length same ∙ content_count defs params' other g.fits

  module _ (p r : ℕ) (def : Def) (rule : Rule) (at_p : slice_get defs p ≡ Some def) (at_r : slice_get def.rules r ≡ Some rule)
      (kinds : Kinds) (nodes : List NodeId) (have_kinds : HaveKinds kinds rule.names nodes) where
    own : RuleFitsStructs structs defs def.params rule
    own = rule_fits p r def rule at_p at_r

    this_kind : HasKind kinds Ptr (node_of nodes 0)
    this_kind = at rule.names own.fits.names.front have_kinds
      where
        at : (names : List Kind) → take (suc (length def.params)) names ≡ Ptr ∷ def.params → HaveKinds kinds names nodes → HasKind kinds Ptr (node_of nodes 0)
        at [] e h = absurd (cc e)
        at (k ∷ names) e h = let same : k ≡ Ptr = cc e in name_kind kinds (k ∷ names) nodes 0 Ptr h (ap (λ k. Some k) same)

    fields_count : (shape : StructId) → rule.block ≡ Some shape → (p' r' : ℕ) (def' : Def) (other : Rule) → slice_get defs p' ≡ Some def' → slice_get def'.rules r' ≡ Some other → other.block ≡ Some shape
        → length (map (λ name. Some (node_of nodes name)) rule.contents) ≡ length other.contents
    fields_count shape is p' r' def' other at_p' at_r' there =
        length-map rule.contents (λ name. Some (node_of nodes name)) ∙ same_count shape def.params def'.params rule other is there own (rule_fits p' r' def' other at_p' at_r')

    fields_kinds : (shape : StructId) → rule.block ≡ Some shape → (info : StructInfo) × (slice_get structs shape.0 ≡ Some info) × MayHaveKinds kinds (map (λ f. f.kind) info.fields) (map (λ name. Some (node_of nodes name)) rule.contents)
    fields_kinds shape is =
        let block : kinds_of structs (Some shape) ≡ Some (content_kinds def.params rule) = subst (λ b. kinds_of structs b ≡ Some (content_kinds def.params rule)) is own.block in
        let info = of_struct structs shape (content_kinds def.params rule) (slice_get structs shape.0) refl block in
        let enough = names_enough rule.names (suc (length def.params) + length rule.contents) rule.atoms own.fits.names.atoms in
        let all = contents_kinds kinds rule.names nodes (suc (length def.params)) (length rule.contents) have_kinds enough in
        let named = subst (λ l. MayHaveKinds kinds (content_kinds def.params rule) (map (λ name. Some (node_of nodes name)) l)) (sym own.fits.names.contents) all in
        (info.0, info.1, subst (λ ks. MayHaveKinds kinds ks (map (λ name. Some (node_of nodes name)) rule.contents)) (sym info.2) named)

    block_fits : (block : Option StructId) → rule.block ≡ block → AllByRecursion (EdgeFits defs structs kinds) (block_edges nodes block rule.contents)
    block_fits None is = tt
    block_fits (Some shape) is = (((this_kind, fields_count shape is), fields_kinds shape is), tt)

pub rules_made : RulesAreMade
rules_made defs structs def rule p r kinds nodes fit at_p at_r have_kinds =
    let f = own defs structs fit p r def rule at_p at_r kinds nodes have_kinds in
    record {
      block = block_fits defs structs fit p r def rule at_p at_r kinds nodes have_kinds rule.block refl;
      calls = all_of (CallFits defs rule.names) (λ call. EdgeFitsDefs defs kinds (call_edge nodes call)) (call_fits kinds rule.names nodes have_kinds defs) rule.calls f.fits.calls;
      atoms = atoms_formed kinds rule.names nodes have_kinds (suc (length def.params) + length rule.contents) rule.atoms f.fits.names.atoms;
    }

pub equals_formed : EqualsAreFormed
equals_formed kinds params as' bs h g = equal_formed kinds params as' bs h g

pub rule_of_fitting : RuleOfFitting
rule_of_fitting structs defs p r def rule fit at_p at_r = rule_fits defs structs fit p r def rule at_p at_r
