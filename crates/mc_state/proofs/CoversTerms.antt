-- The values of the terms of a rule: they are values for its names, and those of its contents are the block's fields.
use Rattle.std.proofs.Common.{◌≡◌, ℕ, zero, suc, ℤ, pos, negsuc, ◌+ℤ◌, ◌-ℤ◌, Option, Some, None, List, [], ◌∷◌, ◌++◌, map, length, get_or, slice_get, refl, sym, ◌∙◌, ap, ap₂, subst, arith}
use Rattle.std.specs.Prelude.{◌≤ℤ◌, All}
use Rattle.std.specs.List.{AllByRecursion}
use Rattle.std.proofs.Math.ListN.{get_or-map}
use Rattle.std.proofs.lemmas.Int.{ints}
use Rattle.std.proofs.lemmas.List.{map-append, length-map}
use Rattle.std.proofs.lemmas.Option.{slice_get_within, get_or_from_slice_get}
use Rattle.mc_base.specs.declared.ids.NodeId.{NodeId}
use Rattle.mc_base.specs.declared.ids.PredId.{PredId}
use Rattle.mc_base.specs.declared.plain.Atom.{Atom}
use Rattle.mc_base.specs.declared.plain.Kind.{Kind}
use Rattle.mc_base.specs.declared.plain.Kind.TheVariants.{Int, Ptr}
use Rattle.mc_base.specs.Atoms.{IsTrueAtom}
use Rattle.mc_base.specs.Kinds.{InKind}
use Rattle.mc_base.specs.Nodes.{Valuation, at_node}
use Rattle.mc_flow.specs.Heap.Heap.{Region, IsAtAddresses}
use Rattle.mc_flow.specs.declared.defs.rules.Def.{Def}
use Rattle.mc_flow.specs.declared.defs.rules.DefAtom.{DefAtom}
use Rattle.mc_flow.specs.declared.defs.rules.DefAtom.TheVariants.{Eq, Ne, In}
use Rattle.mc_flow.specs.Defs.Conditions.{IsDefs, DefFits, RuleFitsStructs, numbers_from}
use Rattle.mc_flow.specs.Defs.Meaning.{RuleValues}
use Rattle.mc_flow.specs.Defs.Values as by_values
use Rattle.mc_flow.specs.Defs.Values.{value_of, base_of, InKinds}
use Rattle.mc_state.specs.declared.terms.Term.{Term}
use Rattle.mc_state.specs.State.{State}
use Rattle.mc_state.specs.Facts.{Derives}
use Rattle.mc_state.specs.Stands.{VarsMeet, StandsBy}
use Rattle.mc_state.specs.Laws.{DerivedIsTrue}
use Rattle.mc_state.specs.Terms.{plain, zero_term, term_value, AreEqualTerms, AreAllEqualTerms, TermLiesIn, TermsLieIn, term_of, base_term, atom_on}
use Rattle.mc_state.specs.Covers.{RuleTerms}

-- ---- names in a row
-- one name more in front
shifted : (z : ℤ) (zs : List ℤ) (n count : ℕ) → map (value_of (z ∷ zs)) (numbers_from (suc n) count) ≡ map (value_of zs) (numbers_from n count)
shifted z zs n zero = refl
shifted z zs n (suc count) = ap (λ ys. value_of zs n ∷ ys) (shifted z zs (suc n) count)

at_front : (middle back : List ℤ) → map (value_of (middle ++ back)) (numbers_from 0 (length middle)) ≡ middle
at_front [] back = refl
at_front (z ∷ middle) back = ap (λ ys. z ∷ ys) (shifted z (middle ++ back) 0 (length middle) ∙ at_front middle back)

-- the values of the numbers after the front are those after the front
behind : (front middle back : List ℤ) → map (value_of (front ++ (middle ++ back))) (numbers_from (length front) (length middle)) ≡ middle
behind [] middle back = at_front middle back
behind (z ∷ front) middle back = shifted z (front ++ (middle ++ back)) (length front) (length middle) ∙ behind front middle back

contents_behind : (front middle back names : List ℤ) (xs : List ℕ) (n : ℕ) → names ≡ front ++ (middle ++ back) → xs ≡ numbers_from n (length xs) → n ≡ length front → length xs ≡ length middle → map (value_of names) xs ≡ middle
contents_behind front middle back names xs n is numbers first count =
    ap₂ (λ ys zs. map (value_of ys) zs) is (numbers ∙ ap₂ numbers_from first count) ∙ behind front middle back

all_at : {A : Type 0} (P : A → Type 0) (xs : List A) (i : ℕ) (x : A) → slice_get xs i ≡ Some x → All P xs → P x
all_at P xs i x is all = subst P (get_or_from_slice_get xs i x x is) (all i x (slice_get_within xs i x is))

-- the fields of a block whose fields are all known
pub known_fields : (v : Valuation) (nodes : List NodeId) (zs : List (Option ℤ)) → VarsMeet v (map Some nodes) zs → zs ≡ map Some (map (at_node v) nodes)
known_fields v [] [] m = refl
known_fields v [] (z ∷ zs) m = absurd m
known_fields v (n ∷ nodes) [] m = absurd m
known_fields v (n ∷ nodes) (z ∷ zs) m = ap₂ (λ y ys. y ∷ ys) m.0 (known_fields v nodes zs m.1)

-- ---- terms
pub plain_value : (v : Valuation) (n : NodeId) → term_value v (plain n) ≡ v n.0
plain_value v n = omega (arith, ints)

pub plain_values : (v : Valuation) (nodes : List NodeId) → map (term_value v) (map plain nodes) ≡ map (at_node v) nodes
plain_values v [] = refl
plain_values v (n ∷ nodes) = ap₂ (λ y ys. y ∷ ys) (plain_value v n) (plain_values v nodes)

module _ (v : Valuation) (zero_is : v 0 ≡ pos 0) (names : List Term) where
  pub name_value : (name : ℕ) → value_of (map (term_value v) names) name ≡ term_value v (term_of names name)
  name_value name =
      let zero_value : pos 0 ≡ term_value v zero_term = omega (arith, ints) in
      ap (λ d. get_or (map (term_value v) names) name d) zero_value ∙ get_or-map (term_value v) names name zero_term

  pub name_values : (xs : List ℕ) → map (value_of (map (term_value v) names)) xs ≡ map (term_value v) (map (term_of names) xs)
  name_values [] = refl
  name_values (x ∷ xs) = ap₂ (λ y ys. y ∷ ys) (name_value x) (name_values xs)

  base_value : (base : Option ℕ) → base_of (map (term_value v) names) base ≡ term_value v (base_term names base)
  base_value None = omega (arith, ints)
  base_value (Some name) = name_value name

  -- an atom on the terms' nodes is the rule's atom on their values
  atom_true : (a : DefAtom) → IsTrueAtom v (atom_on names a) → by_values.IsTrueAtom (map (term_value v) names) a
  atom_true (Eq left base add fixes) t = rw (name_value left, base_value base) (omega (arith, ints))
  atom_true (Ne left base add) t = rw (name_value left, base_value base) (λ same. t (omega (arith, ints)))
  atom_true (In left lo hi) t = rw (name_value left) (omega (arith, ints), omega (arith, ints))

module _ (truth : DerivedIsTrue) (defs : List Def) (v : Valuation) (values : List (Option ℤ)) (whole : Region) (s : State) (addresses : IsAtAddresses whole) (st : StandsBy defs v values whole s) where
  true_atom : (f : Atom) → Derives s f → IsTrueAtom v f
  true_atom f d = truth defs v values whole s f addresses st d

  pub one_value : (t u : Term) → AreEqualTerms s t u → term_value v t ≡ term_value v u
  one_value t u e =
      let same : v t.node.0 ≡ v u.node.0 +ℤ (u.add -ℤ t.add) = true_atom _ e in
      omega (arith, ints)

  pub same_values : (ts us : List Term) → AreAllEqualTerms s ts us → map (term_value v) ts ≡ map (term_value v) us
  same_values [] [] e = refl
  same_values [] (u ∷ us) e = absurd e
  same_values (t ∷ ts) [] e = absurd e
  same_values (t ∷ ts) (u ∷ us) e = ap₂ (λ y ys. y ∷ ys) (one_value t u e.0) (same_values ts us e.1)

  in_kind : (kind : Kind) (t : Term) → TermLiesIn s kind t → InKind kind (term_value v t)
  in_kind Int t l =
      let within : ((negsuc 2147483647 -ℤ t.add) ≤ℤ v t.node.0) × (v t.node.0 ≤ℤ (pos 2147483647 -ℤ t.add)) = true_atom _ l in
      (omega (arith, ints), omega (arith, ints))
  in_kind Ptr t l =
      let within : ((pos 0 -ℤ t.add) ≤ℤ v t.node.0) × (v t.node.0 ≤ℤ (pos 4611686018427387903 -ℤ t.add)) = true_atom _ l in
      (omega (arith, ints), omega (arith, ints))

  pub in_kinds : (kinds : List Kind) (ts : List Term) → TermsLieIn s kinds ts → InKinds kinds (map (term_value v) ts)
  in_kinds [] [] l = tt
  in_kinds [] (t ∷ ts) l = absurd l
  in_kinds (kind ∷ kinds) [] l = absurd l
  in_kinds (kind ∷ kinds) (t ∷ ts) l = (in_kind kind t l.0, in_kinds kinds ts l.1)

  pub atoms_true : (names : List Term) (atoms : List DefAtom) → AllByRecursion (λ a. Derives s (atom_on names a)) atoms → AllByRecursion (by_values.IsTrueAtom (map (term_value v) names)) atoms
  atoms_true names [] d = tt
  atoms_true names (a ∷ atoms) d = (atom_true v st.null names a (true_atom (atom_on names a) d.0), atoms_true names atoms d.1)

  module _ (pred : PredId) (at : Term) (args : List Term) (by : RuleTerms defs s pred at args) where
    -- the values of `this`, the arguments, the contents and the rest
    pub split_names : map (term_value v) by.names ≡ term_value v at ∷ (map (term_value v) args ++ (map (term_value v) (map plain by.contents) ++ map (term_value v) by.fixed))
    split_names =
        ap (map (term_value v)) by.front
        ∙ ap (λ zs. term_value v at ∷ zs) (map-append (term_value v) args (map plain by.contents ++ by.fixed))
        ∙ ap (λ zs. term_value v at ∷ (map (term_value v) args ++ zs)) (map-append (term_value v) (map plain by.contents) by.fixed)

    abbrev pub rule_values : RuleValues defs pred (term_value v at) (map (term_value v) args)
    rule_values = record {
      def = by.def;
      defined = by.defined;
      rule = by.rule;
      place = by.place;
      listed = by.listed;
      names = map (term_value v) by.names;
      kinds = in_kinds by.rule.names by.names by.kinds;
      count = length-map args (term_value v) ∙ by.count;
      others = map (term_value v) (map plain by.contents) ++ map (term_value v) by.fixed;
      front = split_names;
      atoms = atoms_true by.names by.rule.atoms by.atoms;
    }

    -- `this` is the first name
    pub first_name : value_of (map (term_value v) by.names) 0 ≡ term_value v at
    first_name = ap (λ zs. value_of zs 0) split_names

    -- the contents are the nodes that are given for them
    pub contents_are : IsDefs defs → map (value_of (map (term_value v) by.names)) by.rule.contents ≡ map (at_node v) by.contents
    contents_are fit =
        let rules = (all_at (DefFits fit.0 defs) defs pred.0 by.def by.defined fit.1).rules in
        let rule_fits = all_at (RuleFitsStructs fit.0 defs by.def.params) by.def.rules by.place by.rule by.listed rules in
        let first : suc (length by.def.params) ≡ length (term_value v at ∷ map (term_value v) args) = ap suc (sym by.count ∙ sym (length-map args (term_value v))) in
        let count : length by.rule.contents ≡ length (map (term_value v) (map plain by.contents)) =
        sym by.contents_count ∙ sym (length-map by.contents plain) ∙ sym (length-map (map plain by.contents) (term_value v)) in
        contents_behind (term_value v at ∷ map (term_value v) args) (map (term_value v) (map plain by.contents)) (map (term_value v) by.fixed)
        (map (term_value v) by.names) by.rule.contents (suc (length by.def.params)) split_names rule_fits.fits.names.contents first count
        ∙ plain_values v by.contents
