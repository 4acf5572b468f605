-- The equalities of atoms, taken again and again: they settle after as many passes as there are names, and in one way.
use Rattle.std.proofs.Common.{◌≡◌, ◌⊎◌, ◌≤◌, ◌+◌, inl, inr, ℕ, zero, suc, pos, Option, Some, None, List, [], ◌∷◌, length, refl, ap, sym, ◌∙◌, arith}
use Rattle.std.specs.Prelude.{◌-ℤ◌}
use Rattle.mc_flow.specs.declared.defs.rules.DefAtom.{DefAtom}
use Rattle.mc_flow.specs.declared.defs.rules.DefAtom.TheVariants.{Eq, Ne, In}
use Rattle.mc_state.specs.declared.terms.Term.{Term}
use Rattle.mc_state.specs.Guess.{Partial, given, give, moved_by, base_given, give_base, by_atom, by_atoms, by_passes, Settles}
use Rattle.mc_cover.specs.Guessed.{settled}

-- the same names, some of which may have got terms
abbrev Extends : Partial → Partial → Type 0
Extends [] [] = Unit {0}
Extends [] (n ∷ ns) = ⊥
Extends (o ∷ os) [] = ⊥
Extends (None ∷ os) (n ∷ ns) = Extends os ns
Extends (Some t ∷ os) (n ∷ ns) = (n ≡ Some t) × Extends os ns

extends_self : (names : Partial) → Extends names names
extends_self [] = tt
extends_self (None ∷ names) = extends_self names
extends_self (Some t ∷ names) = (refl, extends_self names)

extends_both : (a b c : Partial) → Extends a b → Extends b c → Extends a c
extends_both [] [] c h k = k
extends_both [] (n ∷ b) c h k = absurd h
extends_both (o ∷ a) [] c h k = absurd h
extends_both (None ∷ a) (None ∷ b) [] h k = absurd k
extends_both (None ∷ a) (Some t ∷ b) [] h k = absurd k
extends_both (Some t ∷ a) (None ∷ b) [] h k = absurd k
extends_both (Some t ∷ a) (Some u ∷ b) [] h k = absurd k
extends_both (None ∷ a) (None ∷ b) (m ∷ c) h k = extends_both a b c h k
extends_both (None ∷ a) (Some t ∷ b) (m ∷ c) h k = extends_both a b c h k.1
extends_both (Some t ∷ a) (None ∷ b) (m ∷ c) h k = absurd (cc (h.0))
extends_both (Some t ∷ a) (Some u ∷ b) (m ∷ c) h k = (k.0 ∙ h.0, extends_both a b c h.1 k.1)

-- how many names have no term
open_names : Partial → ℕ
open_names [] = 0
open_names (None ∷ names) = suc (open_names names)
open_names (Some t ∷ names) = open_names names

open_le : (names : Partial) → open_names names ≤ length names
unfolding open_names
open_le [] = omega arith
open_le (None ∷ names) = let r = open_le names in omega arith
open_le (Some t ∷ names) = let r = open_le names in omega arith

open_less : (a b : Partial) → Extends a b → open_names b ≤ open_names a
unfolding open_names
open_less [] [] h = omega arith
open_less [] (n ∷ b) h = absurd h
open_less (o ∷ a) [] h = absurd h
open_less (None ∷ a) (None ∷ b) h = let r = open_less a b h in omega arith
open_less (None ∷ a) (Some t ∷ b) h = let r = open_less a b h in omega arith
open_less (Some t ∷ a) (None ∷ b) h = absurd (cc (h.0))
open_less (Some t ∷ a) (Some u ∷ b) h = let r = open_less a b h.1 in omega arith

-- where no name gets a term, nothing changes
open_same : (a b : Partial) → Extends a b → open_names a ≤ open_names b → b ≡ a
unfolding open_names
open_same [] [] h l = refl
open_same [] (n ∷ b) h l = absurd h
open_same (o ∷ a) [] h l = absurd h
open_same (None ∷ a) (None ∷ b) h l = ap (λ names. None ∷ names) (open_same a b h (omega arith))
open_same (None ∷ a) (Some t ∷ b) h l = let r = open_less a b h in absurd (omega arith)
open_same (Some t ∷ a) (None ∷ b) h l = absurd (cc (h.0))
open_same (Some t ∷ a) (Some u ∷ b) h l = ap (λ n. n ∷ b) h.0 ∙ ap (λ names. Some t ∷ names) (open_same a b h.1 l)

give_extends : (names : Partial) (name : ℕ) (new : Option Term) → Extends names (give names name new)
give_extends [] name new = tt
give_extends (None ∷ names) zero new = extends_self names
give_extends (Some t ∷ names) zero new = (refl, extends_self names)
give_extends (None ∷ names) (suc name) new = give_extends names name new
give_extends (Some t ∷ names) (suc name) new = (refl, give_extends names name new)

base_extends : (names : Partial) (base : Option ℕ) (new : Option Term) → Extends names (give_base names base new)
base_extends names None new = extends_self names
base_extends names (Some name) new = give_extends names name new

atom_extends : (names : Partial) (atom : DefAtom) → Extends names (by_atom names atom)
atom_extends names (Eq left base add fixes) =
    let new = moved_by add (base_given names base) in
    extends_both names (give names left new) (give_base (give names left new) base (moved_by (pos 0 -ℤ add) (given names left)))
    (give_extends names left new) (base_extends (give names left new) base (moved_by (pos 0 -ℤ add) (given names left)))
atom_extends names (Ne left base add) = extends_self names
atom_extends names (In left lo hi) = extends_self names

atoms_extend : (names : Partial) (atoms : List DefAtom) → Extends names (by_atoms names atoms)
atoms_extend names [] = extends_self names
atoms_extend names (atom ∷ atoms) = extends_both names (by_atom names atom) (by_atoms (by_atom names atom) atoms) (atom_extends names atom) (atoms_extend (by_atom names atom) atoms)

-- what has settled stays
settled_stays : (n : ℕ) (names : Partial) (atoms : List DefAtom) → by_atoms names atoms ≡ names → by_passes n names atoms ≡ names
settled_stays zero names atoms e = refl
settled_stays (suc n) names atoms e = ap (λ l. by_passes n l atoms) e ∙ settled_stays n names atoms e

at_most : (a b : ℕ) → (suc a ≤ b) ⊎ (b ≤ a)
at_most a zero = inr (omega arith)
at_most zero (suc b) = inl (omega arith)
at_most (suc a) (suc b) = elim (at_most a b) [ inl l ↦ inl (omega arith) | inr l ↦ inr (omega arith) ]

-- and so many passes settle
settles_within : (n : ℕ) (names : Partial) (atoms : List DefAtom) → open_names names ≤ n → by_atoms (by_passes n names atoms) atoms ≡ by_passes n names atoms
settles_within zero names atoms l = open_same names (by_atoms names atoms) (atoms_extend names atoms) (omega arith)
settles_within (suc n) names atoms l =
    elim (at_most (open_names (by_atoms names atoms)) (open_names names)) [
      | inl less ↦ settles_within n (by_atoms names atoms) atoms (omega arith)
      | inr none ↦ (
          let same = open_same names (by_atoms names atoms) (atoms_extend names atoms) none in
          let stays : by_atoms (by_atoms names atoms) atoms ≡ by_atoms names atoms = ap (λ l. by_atoms l atoms) same in
          let e = settled_stays n (by_atoms names atoms) atoms stays in
          ap (λ l. by_atoms l atoms) e ∙ (stays ∙ sym e))
    ]

passes_more : (p q : ℕ) (names : Partial) (atoms : List DefAtom) → (n : ℕ) → n ≡ p + q → by_passes n names atoms ≡ by_passes q (by_passes p names atoms) atoms
passes_more zero q names atoms n e = let same : n ≡ q = omega arith in ap (λ n. by_passes n names atoms) same
passes_more (suc p) q names atoms zero e = absurd (omega arith)
passes_more (suc p) q names atoms (suc n) e = passes_more p q (by_atoms names atoms) atoms n (omega arith)

pub settled_settles : (names : Partial) (atoms : List DefAtom) → Settles names atoms (settled names atoms)
settled_settles names atoms = (length names, refl, settles_within (length names) names atoms (open_le names))

pub settles_once : (names : Partial) (atoms : List DefAtom) (last : Partial) → Settles names atoms last → last ≡ settled names atoms
settles_once names atoms last (passes, is, stays) =
    let n = length names in
    let mine = settles_within n names atoms (open_le names) in
    let one = passes_more passes n names atoms (passes + n) refl ∙ (ap (λ l. by_passes n l atoms) (sym is) ∙ settled_stays n last atoms stays) in
    let two = passes_more n passes names atoms (passes + n) (omega arith) ∙ settled_stays passes (by_passes n names atoms) atoms mine in
    sym one ∙ two
