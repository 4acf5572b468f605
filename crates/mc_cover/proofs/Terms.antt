-- Tests of terms, and what is entailed of them.
use Rattle.std.proofs.Common.{◌≡◌, List, [], ◌∷◌, true, ◌-ℤ◌, refl}
use Rattle.std.specs.List.{AllByRecursion}
use Rattle.mc_base.specs.declared.plain.Kind.{Kind}
use Rattle.mc_base.specs.declared.plain.Atom.TheVariants as atom
use Rattle.mc_flow.specs.declared.defs.rules.DefAtom.{DefAtom}
use Rattle.mc_pure.specs.Pure.{low_of, high_of}
use Rattle.mc_state.specs.declared.terms.Term.{Term}
use Rattle.mc_state.specs.Facts.{Derives}
use Rattle.mc_state.specs.State.{State}
use Rattle.mc_state.specs.Terms.{AreEqualTerms, AreAllEqualTerms, TermLiesIn, TermsLieIn, atom_on}
use Rattle.mc_state.specs.Known.{Test, Tells}
use Rattle.mc_state.proofs.Tests.{and_both, and_yes, each_from, each_to}
use Rattle.mc_cover.specs.Terms.{equal_terms, all_equal_terms, lies_in, all_lie_in, atoms_known}

module _ (know : Test) (s : State) (tells : Tells know s) where
  pub equal_from : (t u : Term) → equal_terms know t u ≡ true → AreEqualTerms s t u
  equal_from t u e = (tells (atom.Eq t.node u.node (u.add -ℤ t.add))).0 e

  pub equal_to : (t u : Term) → AreEqualTerms s t u → equal_terms know t u ≡ true
  equal_to t u e = (tells (atom.Eq t.node u.node (u.add -ℤ t.add))).1 e

  pub all_equal_from : (ts us : List Term) → all_equal_terms know ts us ≡ true → AreAllEqualTerms s ts us
  all_equal_from [] [] e = tt
  all_equal_from [] (u ∷ us) e = absurd (cc e)
  all_equal_from (t ∷ ts) [] e = absurd (cc e)
  all_equal_from (t ∷ ts) (u ∷ us) e =
      let both = and_both (equal_terms know t u) (all_equal_terms know ts us) e in
      (equal_from t u both.0, all_equal_from ts us both.1)

  pub all_equal_to : (ts us : List Term) → AreAllEqualTerms s ts us → all_equal_terms know ts us ≡ true
  all_equal_to [] [] a = refl
  all_equal_to [] (u ∷ us) a = absurd a
  all_equal_to (t ∷ ts) [] a = absurd a
  all_equal_to (t ∷ ts) (u ∷ us) a = and_yes (equal_terms know t u) (all_equal_terms know ts us) (equal_to t u a.0) (all_equal_to ts us a.1)

  lies_from : (kind : Kind) (t : Term) → lies_in know kind t ≡ true → TermLiesIn s kind t
  lies_from kind t e = (tells (atom.In t.node (low_of kind -ℤ t.add) (high_of kind -ℤ t.add))).0 e

  lies_to : (kind : Kind) (t : Term) → TermLiesIn s kind t → lies_in know kind t ≡ true
  lies_to kind t e = (tells (atom.In t.node (low_of kind -ℤ t.add) (high_of kind -ℤ t.add))).1 e

  pub all_lie_from : (kinds : List Kind) (ts : List Term) → all_lie_in know kinds ts ≡ true → TermsLieIn s kinds ts
  all_lie_from [] [] e = tt
  all_lie_from [] (t ∷ ts) e = absurd (cc e)
  all_lie_from (kind ∷ kinds) [] e = absurd (cc e)
  all_lie_from (kind ∷ kinds) (t ∷ ts) e =
      let both = and_both (lies_in know kind t) (all_lie_in know kinds ts) e in
      (lies_from kind t both.0, all_lie_from kinds ts both.1)

  pub all_lie_to : (kinds : List Kind) (ts : List Term) → TermsLieIn s kinds ts → all_lie_in know kinds ts ≡ true
  all_lie_to [] [] a = refl
  all_lie_to [] (t ∷ ts) a = absurd a
  all_lie_to (kind ∷ kinds) [] a = absurd a
  all_lie_to (kind ∷ kinds) (t ∷ ts) a = and_yes (lies_in know kind t) (all_lie_in know kinds ts) (lies_to kind t a.0) (all_lie_to kinds ts a.1)

  pub atoms_from : (names : List Term) (atoms : List DefAtom) → atoms_known know names atoms ≡ true → AllByRecursion (λ a. Derives s (atom_on names a)) atoms
  atoms_from names atoms e = each_from (λ a. know (atom_on names a)) (λ a. Derives s (atom_on names a)) (λ a k. (tells (atom_on names a)).0 k) atoms e

  pub atoms_to : (names : List Term) (atoms : List DefAtom) → AllByRecursion (λ a. Derives s (atom_on names a)) atoms → atoms_known know names atoms ≡ true
  atoms_to names atoms d = each_to (λ a. know (atom_on names a)) (λ a. Derives s (atom_on names a)) (λ a k. (tells (atom_on names a)).1 k) atoms d
