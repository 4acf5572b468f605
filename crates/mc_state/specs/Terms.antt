-- Terms: nodes and numbers more.
use Rattle.std.specs.Prelude.{ℕ, List, [], ◌∷◌, ℤ, pos, ◌+ℤ◌, ◌-ℤ◌, Option, Some, None, get_or}
use Rattle.mc_base.specs.declared.ids.NodeId.{NodeId}
use Rattle.mc_base.specs.declared.plain.Kind.{Kind}
use Rattle.mc_base.specs.declared.plain.Atom as A
use Rattle.mc_base.specs.declared.plain.Atom.TheVariants as atom
use Rattle.mc_base.specs.Nodes.{Valuation, null}
use Rattle.mc_flow.specs.declared.defs.rules.DefAtom.{DefAtom}
use Rattle.mc_flow.specs.declared.defs.rules.DefAtom.TheVariants.{Eq, Ne, In}
use Rattle.mc_pure.specs.Derived.{LiesIn}
use Rattle.mc_state.specs.declared.terms.Term.{Term}
use Rattle.mc_state.specs.State.{State, pure_of}
use Rattle.mc_state.specs.Facts.{Derives}

-- a node alone
abbrev pub plain : NodeId → Term
plain n = record { node = n; add = pos 0 }

-- the term of zero
abbrev pub zero_term : Term
zero_term = plain null

-- the term and a number more
abbrev pub plus : Term → ℤ → Term
plus t c = record { node = t.node; add = t.add +ℤ c }

-- the number that a term stands for
abbrev pub term_value : Valuation → Term → ℤ
term_value v t = v t.node.0 +ℤ t.add

-- the terms are entailed equal
abbrev pub AreEqualTerms : State → Term → Term → Type 0
AreEqualTerms s t u = Derives s (atom.Eq t.node u.node (u.add -ℤ t.add))

-- the terms of two lists are, one by one
abbrev pub AreAllEqualTerms : State → List Term → List Term → Type 0
AreAllEqualTerms s [] [] = Unit {0}
AreAllEqualTerms s (t ∷ ts) (u ∷ us) = AreEqualTerms s t u × AreAllEqualTerms s ts us
AreAllEqualTerms s [] (u ∷ us) = ⊥
AreAllEqualTerms s (t ∷ ts) [] = ⊥

-- the term lies in the range of a kind
abbrev pub TermLiesIn : State → Kind → Term → Type 0
TermLiesIn s kind t = LiesIn (pure_of s) kind t.node t.add

-- one term for each kind, in its range
abbrev pub TermsLieIn : State → List Kind → List Term → Type 0
TermsLieIn s [] [] = Unit {0}
TermsLieIn s (kind ∷ kinds) (t ∷ ts) = TermLiesIn s kind t × TermsLieIn s kinds ts
TermsLieIn s [] (t ∷ ts) = ⊥
TermsLieIn s (kind ∷ kinds) [] = ⊥

-- the term of a name, and of the base of a sum
abbrev pub term_of : List Term → ℕ → Term
term_of names name = get_or names name zero_term

-- the term of the base of a sum: that of a name, or of zero
abbrev pub base_term : List Term → Option ℕ → Term
base_term names None = zero_term
base_term names (Some name) = term_of names name

-- the atom of a rule, as an atom about the nodes of the names' terms
abbrev pub atom_on : List Term → DefAtom → A.Atom
atom_on names (Eq left base add fixes) =
    atom.Eq (term_of names left).node (base_term names base).node (((base_term names base).add +ℤ add) -ℤ (term_of names left).add)
atom_on names (Ne left base add) =
    atom.Ne (term_of names left).node (base_term names base).node (((base_term names base).add +ℤ add) -ℤ (term_of names left).add)
atom_on names (In left lo hi) = atom.In (term_of names left).node (lo -ℤ (term_of names left).add) (hi -ℤ (term_of names left).add)
