-- Names that atoms introduce, and how far their terms are.
use Rattle.std.proofs.Common.{◌≡◌, ◌<◌, ◌+◌, ℕ, zero, suc, Bool, true, false, ◌&&◌, Option, Some, None, List, [], ◌∷◌, ◌++◌, length, drop, get_or, refl, ◌∙◌, ap, arith, append_assoc}
use Rattle.std.proofs.Math.Seq.{drop-cons}
use Rattle.std.specs.List.{AllByRecursion}
use Rattle.std.proofs.lemmas.Bool.{and_parts}
use Rattle.mc_flow.specs.declared.defs.rules.DefAtom.{DefAtom}
use Rattle.mc_flow.specs.declared.defs.rules.DefAtom.TheVariants.{Eq, Ne, In}
use Rattle.mc_state.specs.declared.terms.Term.{Term}
use Rattle.mc_state.specs.Terms.{plus, term_of, base_term, atom_on}
use Rattle.std.proofs.lemmas.List.{drop_more}
use Rattle.mc_state.specs.Known.{Test}
use Rattle.mc_cover.specs.Terms.{with_fixed, atoms_known}
use Rattle.mc_cover.specs.Search.Terms.{is_near, all_near, IntroducesFar, AddsSmall}
use Rattle.mc_cover.proofs.Fixed.{fixed_front}

and_no : (a b : Bool) → b ≡ false → (a && b) ≡ false
and_no true b e = e
and_no false b e = refl

far_list : (p rest : List Term) (t : Term) → is_near t.add ≡ false → all_near (p ++ t ∷ rest) ≡ false
far_list [] rest t far = ap (λ b. b && all_near rest) far
far_list (x ∷ p) rest t far = and_no (is_near x.add) (all_near (p ++ t ∷ rest)) (far_list p rest t far)

far_out : (p : List Term) (atom : DefAtom) (rest : List DefAtom) → IntroducesFar p atom → all_near (with_fixed p (atom ∷ rest)) ≡ false
far_out p (Eq left base add true) rest far =
    let s = fixed_front (p ++ plus (base_term p base) add ∷ []) rest in
    ap all_near (s.1 ∙ append_assoc p (plus (base_term p base) add ∷ []) s.0) ∙ far_list p s.0 (plus (base_term p base) add) far
far_out p (Eq left base add false) rest far = absurd far
far_out p (Ne left base add) rest far = absurd far
far_out p (In left lo hi) rest far = absurd far

pub far_rest : (names : List Term) (atoms : List DefAtom) (k : ℕ) (d : DefAtom) → k < length atoms → IntroducesFar names (get_or atoms k d) → all_near (with_fixed names (drop k atoms)) ≡ false
far_rest names atoms k d l far = rw (drop-cons atoms k d l) (far_out names (get_or atoms k d) (drop (suc k) atoms) far)

-- the term of a name is near where those of all names are
term_near : (names : List Term) (name : ℕ) → all_near names ≡ true → is_near (term_of names name).add ≡ true
term_near [] name h = refl
term_near (t ∷ names) zero h = (and_parts (is_near t.add) (all_near names) h).0
term_near (t ∷ names) (suc name) h = term_near names name (and_parts (is_near t.add) (all_near names) h).1

pub base_near : (names : List Term) (base : Option ℕ) → all_near names ≡ true → is_near (base_term names base).add ≡ true
base_near names None h = refl
base_near names (Some name) h = term_near names name h

pub each_small : (atoms : List DefAtom) (k : ℕ) (d : DefAtom) → k < length atoms → AllByRecursion AddsSmall atoms → AddsSmall (get_or atoms k d)
each_small [] k d l all = absurd (omega arith)
each_small (a ∷ atoms) zero d l all = all.0
each_small (a ∷ atoms) (suc k) d l all = each_small atoms k d (omega arith) all.1

-- one atom more is known
pub known_more : (know : Test) (names : List Term) (atoms : List DefAtom) (k : ℕ) (d : DefAtom) → k < length atoms → know (atom_on names (get_or atoms k d)) ≡ true → atoms_known know names (drop k atoms) ≡ atoms_known know names (drop (k + 1) atoms)
known_more know names atoms k d l e = ap (atoms_known know names) (drop_more atoms k d l) ∙ ap (λ b. b && atoms_known know names (drop (k + 1) atoms)) e
