-- The names that atoms introduce: the fold over the atoms gives each its sum, and nothing else does.
use Rattle.std.proofs.Common.{◌≡◌, ◌<◌, ◌+◌, ℕ, zero, suc, true, false, Option, Some, None, List, [], ◌∷◌, ◌++◌, length, refl, sym, ◌∙◌, ap, subst, arith, append-nil, append_assoc, length-append}
use Rattle.std.specs.List.{AllByRecursion}
use Rattle.std.proofs.lemmas.Option.{slice_get_within}
use Rattle.mc_base.specs.declared.plain.Kind.{Kind}
use Rattle.mc_flow.specs.declared.defs.rules.DefAtom.{DefAtom}
use Rattle.mc_flow.specs.declared.defs.rules.DefAtom.TheVariants.{Eq, Ne, In}
use Rattle.mc_flow.specs.Defs.Conditions.{AtomsFit, BaseFits}
use Rattle.mc_state.specs.declared.terms.Term.{Term}
use Rattle.mc_state.specs.State.{State}
use Rattle.mc_state.specs.Covers.{Fixes}
use Rattle.mc_state.specs.Terms.{plus, term_of, base_term, TermsLieIn}
use Rattle.mc_cover.specs.Terms.{with_fixed}

-- names in front keep their terms
term_front : (p rest : List Term) (name : ℕ) → name < length p → term_of (p ++ rest) name ≡ term_of p name
term_front [] rest name l = absurd (omega arith)
term_front (t ∷ p) rest zero l = refl
term_front (t ∷ p) rest (suc name) l = term_front p rest name (omega arith)

term_next : (p rest : List Term) (x : Term) (name : ℕ) → name ≡ length p → term_of (p ++ x ∷ rest) name ≡ x
term_next [] rest x zero e = refl
term_next [] rest x (suc name) e = absurd (omega arith)
term_next (t ∷ p) rest x zero e = absurd (omega arith)
term_next (t ∷ p) rest x (suc name) e = term_next p rest x name (omega arith)

base_front : (kinds : List Kind) (kind : Kind) (p rest : List Term) (base : Option ℕ) → BaseFits kinds (length p) kind base → base_term (p ++ rest) base ≡ base_term p base
base_front kinds kind p rest None fit = refl
base_front kinds kind p rest (Some name) fit = term_front p rest name fit.0

length_next : (p : List Term) (x : Term) → length (p ++ x ∷ []) ≡ suc (length p)
length_next p x = length-append p (x ∷ []) ∙ omega arith

-- the fold only adds names
pub fixed_front : (p : List Term) (atoms : List DefAtom) → (rest : List Term) × (with_fixed p atoms ≡ p ++ rest)
fixed_front p [] = ([], sym (append-nil p))
fixed_front p (Eq left base add true ∷ atoms) =
    let r = fixed_front (p ++ plus (base_term p base) add ∷ []) atoms in
    (plus (base_term p base) add ∷ r.0, r.1 ∙ append_assoc p (plus (base_term p base) add ∷ []) r.0)
fixed_front p (Eq left base add false ∷ atoms) = fixed_front p atoms
fixed_front p (Ne left base add ∷ atoms) = fixed_front p atoms
fixed_front p (In left lo hi ∷ atoms) = fixed_front p atoms

-- it gives each introduced name its sum
pub fixed_fixes : (kinds : List Kind) (p : List Term) (atoms : List DefAtom) (n : ℕ) → n ≡ length p → AtomsFit kinds n atoms → (whole : List Term) → whole ≡ with_fixed p atoms → AllByRecursion (Fixes whole) atoms
fixed_fixes kinds p [] n c fit whole e = tt
fixed_fixes kinds p (Eq left base add true ∷ atoms) n c fit whole e =
    let x : Term = plus (base_term p base) add in
    let r = fixed_front (p ++ x ∷ []) atoms in
    let is : whole ≡ p ++ x ∷ r.0 = e ∙ (r.1 ∙ append_assoc p (x ∷ []) r.0) in
    let next : term_of whole left ≡ x = ap (λ l. term_of l left) is ∙ term_next p r.0 x left (fit.0.1 ∙ c) in
    let bases = subst (λ k. BaseFits kinds k fit.0.0 base) c fit.0.3.0 in
    let same : base_term whole base ≡ base_term p base = ap (λ l. base_term l base) is ∙ base_front kinds fit.0.0 p (x ∷ r.0) base bases in
    (next ∙ ap (λ t. plus t add) (sym same), fixed_fixes kinds (p ++ x ∷ []) atoms (suc n) (ap suc c ∙ sym (length_next p x)) fit.1 whole e)
fixed_fixes kinds p (Eq left base add false ∷ atoms) n c fit whole e = (tt, fixed_fixes kinds p atoms n c fit.1 whole e)
fixed_fixes kinds p (Ne left base add ∷ atoms) n c fit whole e = (tt, fixed_fixes kinds p atoms n c fit.1 whole e)
fixed_fixes kinds p (In left lo hi ∷ atoms) n c fit whole e = (tt, fixed_fixes kinds p atoms n c fit.1 whole e)

none_more : (p fixed : List Term) (n : ℕ) → n ≡ length p → n ≡ length (p ++ fixed) → fixed ≡ []
none_more p [] n c e = refl
none_more p (x ∷ fixed) n c e = let l = length-append p (x ∷ fixed) in absurd (omega arith)

-- and where each introduced name has its sum, and there is a term for each kind, the names are those of the fold
pub fixed_once : (kinds : List Kind) (p fixed : List Term) (atoms : List DefAtom) (n : ℕ) → n ≡ length p → AtomsFit kinds n atoms → length kinds ≡ length (p ++ fixed) → AllByRecursion (Fixes (p ++ fixed)) atoms → p ++ fixed ≡ with_fixed p atoms
fixed_once kinds p fixed [] n c fit l f = ap (λ r. p ++ r) (none_more p fixed n c (fit ∙ l)) ∙ append-nil p
fixed_once kinds p [] (Eq left base add true ∷ atoms) n c fit l f =
    let inside : left < length kinds = slice_get_within kinds left fit.0.0 fit.0.2 in
    let e : length (p ++ []) ≡ length p + 0 = length-append p [] in
    let at : left ≡ n = fit.0.1 in
    absurd (omega arith)
fixed_once kinds p (x ∷ fixed) (Eq left base add true ∷ atoms) n c fit l f =
    let sum : Term = plus (base_term p base) add in
    let bases = subst (λ k. BaseFits kinds k fit.0.0 base) c fit.0.3.0 in
    let is : x ≡ sum = sym (term_next p fixed x left (fit.0.1 ∙ c)) ∙ (f.0 ∙ ap (λ t. plus t add) (base_front kinds fit.0.0 p (x ∷ fixed) base bases)) in
    let apart : p ++ x ∷ fixed ≡ (p ++ sum ∷ []) ++ fixed = ap (λ y. p ++ y ∷ fixed) is ∙ sym (append_assoc p (sum ∷ []) fixed) in
    apart ∙ fixed_once kinds (p ++ sum ∷ []) fixed atoms (suc n) (ap suc c ∙ sym (length_next p sum)) fit.1 (l ∙ ap length apart) (subst (λ l. AllByRecursion (Fixes l) atoms) apart f.1)
fixed_once kinds p fixed (Eq left base add false ∷ atoms) n c fit l f = fixed_once kinds p fixed atoms n c fit.1 l f.1
fixed_once kinds p fixed (Ne left base add ∷ atoms) n c fit l f = fixed_once kinds p fixed atoms n c fit.1 l f.1
fixed_once kinds p fixed (In left lo hi ∷ atoms) n c fit l f = fixed_once kinds p fixed atoms n c fit.1 l f.1

-- as many terms as kinds
pub lie_count : (s : State) (kinds : List Kind) (ts : List Term) → TermsLieIn s kinds ts → length kinds ≡ length ts
lie_count s [] [] a = refl
lie_count s [] (t ∷ ts) a = absurd a
lie_count s (kind ∷ kinds) [] a = absurd a
lie_count s (kind ∷ kinds) (t ∷ ts) a = ap suc (lie_count s kinds ts a.1)
