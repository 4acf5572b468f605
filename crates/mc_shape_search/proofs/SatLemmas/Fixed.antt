-- Values for names: those that atoms introduce are given by a fold, and tests say what the meaning asks.
use Rattle.std.proofs.Common.{◌≡◌, ◌≢◌, ◌<◌, ◌≤◌, ◌+◌, ℕ, zero, suc, ℤ, pos, negsuc, Bool, true, false, not, ◌&&◌, Option, Some, None, List, [], ◌∷◌, ◌++◌, length, map, take, drop, get_or, refl, sym, ◌∙◌, ap, subst, arith, append-nil, append_assoc, length-append}
use Rattle.std.proofs.Math.Seq.{drop-cons}
use Rattle.std.specs.Prelude.{◌+ℤ◌, ◌≤ℤ◌, int_le}
use lib.Signed.{mag}
use Rattle.std.specs.Ordering.{int_eq}
use Rattle.std.specs.List.{AllByRecursion}
use Rattle.std.proofs.lemmas.Int.{ints}
use Rattle.std.proofs.lemmas.Bool.{and_parts, and_from}
use Rattle.std.proofs.lemmas.Option.{slice_get_within}
use Rattle.mc_base.specs.declared.plain.Kind.{Kind}
use Rattle.mc_base.specs.declared.plain.Kind.TheVariants.{Int, Ptr}
use Rattle.mc_base.specs.Kinds.{InKind}
use Rattle.mc_flow.specs.declared.defs.rules.DefAtom.{DefAtom}
use Rattle.mc_flow.specs.declared.defs.rules.DefAtom.TheVariants.{Eq, Ne, In}
use Rattle.mc_flow.specs.Defs.Conditions.{AtomsFit, BaseFits, numbers_from}
use Rattle.mc_flow.specs.Defs.Values.{value_of, base_of, IsTrueAtom, InKinds}
use Rattle.mc_shape_search.specs.Sat.Names.{IsFar, IntroducesFar, in_kind, all_in_kinds, is_true, all_true, with_fixed}

-- ---- numbers that are far from every kind
pub far_differs : (z s : ℤ) → mag z < 9223372036854775808 → IsFar s → false ≡ int_eq z s
far_differs z s fits far = grind (arith, ints)

far_kind : (kind : Kind) (z : ℤ) → IsFar z → in_kind kind z ≡ false
far_kind Int z far = grind (arith, ints)
far_kind Ptr z far = grind (arith, ints)

and_false : (a b : Bool) → b ≡ false → (a && b) ≡ false
and_false true b e = e
and_false false b e = refl

far_list : (kinds : List Kind) (p rest : List ℤ) (z : ℤ) → IsFar z → all_in_kinds kinds (p ++ z ∷ rest) ≡ false
far_list [] [] rest z far = refl
far_list [] (x ∷ p) rest z far = refl
far_list (kind ∷ kinds) [] rest z far = rw (far_kind kind z far)
far_list (kind ∷ kinds) (x ∷ p) rest z far = and_false (in_kind kind x) (all_in_kinds kinds (p ++ z ∷ rest)) (far_list kinds p rest z far)

-- the fold only adds names
pub fixed_front : (p : List ℤ) (atoms : List DefAtom) → (rest : List ℤ) × (with_fixed p atoms ≡ p ++ rest)
fixed_front p [] = ([], sym (append-nil p))
fixed_front p (Eq left base add true ∷ atoms) =
    let r = fixed_front (p ++ (base_of p base +ℤ add) ∷ []) atoms in
    ((base_of p base +ℤ add) ∷ r.0, r.1 ∙ append_assoc p ((base_of p base +ℤ add) ∷ []) r.0)
fixed_front p (Eq left base add false ∷ atoms) = fixed_front p atoms
fixed_front p (Ne left base add ∷ atoms) = fixed_front p atoms
fixed_front p (In left lo hi ∷ atoms) = fixed_front p atoms

pub far_out : (p : List ℤ) (atom : DefAtom) (rest : List DefAtom) (kinds : List Kind) → IntroducesFar p atom → all_in_kinds kinds (with_fixed p (atom ∷ rest)) ≡ false
far_out p (Eq left base add true) rest kinds far =
    let s = fixed_front (p ++ (base_of p base +ℤ add) ∷ []) rest in
    ap (all_in_kinds kinds) (s.1 ∙ append_assoc p ((base_of p base +ℤ add) ∷ []) s.0) ∙ far_list kinds p s.0 (base_of p base +ℤ add) far
far_out p (Eq left base add false) rest kinds far = absurd far
far_out p (Ne left base add) rest kinds far = absurd far
far_out p (In left lo hi) rest kinds far = absurd far

-- ---- tests and what they say
int_is : (a b : ℤ) → int_eq a b ≡ true → a ≡ b
int_is a b h = grind (arith, ints)

is_int : (a b : ℤ) → a ≡ b → int_eq a b ≡ true
is_int a b h = grind (arith, ints)

not_true : (b : Bool) → not b ≡ true → b ≡ false
not_true true h = cc
not_true false h = refl

not_int : (a b : ℤ) → a ≢ b → not (int_eq a b) ≡ true
not_int a b h = grind (arith, ints, h)

le_is : (a b : ℤ) → int_le a b ≡ true → a ≤ℤ b
le_is a b h = grind (arith, ints)

is_le : (a b : ℤ) → a ≤ℤ b → int_le a b ≡ true
is_le a b h = grind (arith, ints)

pub kind_is : (kind : Kind) (z : ℤ) → in_kind kind z ≡ true → InKind kind z
kind_is Int z h = let p = and_parts (int_le (negsuc 2147483647) z) (int_le z (pos 2147483647)) h in (le_is (negsuc 2147483647) z p.0, le_is z (pos 2147483647) p.1)
kind_is Ptr z h = let p = and_parts (int_le (pos 0) z) (int_le z (pos 4611686018427387903)) h in (le_is (pos 0) z p.0, le_is z (pos 4611686018427387903) p.1)

pub is_kind : (kind : Kind) (z : ℤ) → InKind kind z → in_kind kind z ≡ true
is_kind Int z h = and_from (int_le (negsuc 2147483647) z) (int_le z (pos 2147483647)) (is_le (negsuc 2147483647) z h.0) (is_le z (pos 2147483647) h.1)
is_kind Ptr z h = and_from (int_le (pos 0) z) (int_le z (pos 4611686018427387903)) (is_le (pos 0) z h.0) (is_le z (pos 4611686018427387903) h.1)

pub kinds_are : (kinds : List Kind) (names : List ℤ) → all_in_kinds kinds names ≡ true → InKinds kinds names
kinds_are [] [] h = tt
kinds_are [] (z ∷ zs) h = cc
kinds_are (kind ∷ kinds) [] h = cc
kinds_are (kind ∷ kinds) (z ∷ zs) h = let p = and_parts (in_kind kind z) (all_in_kinds kinds zs) h in (kind_is kind z p.0, kinds_are kinds zs p.1)

pub are_kinds : (kinds : List Kind) (names : List ℤ) → InKinds kinds names → all_in_kinds kinds names ≡ true
are_kinds [] [] h = refl
are_kinds [] (z ∷ zs) h = absurd h
are_kinds (kind ∷ kinds) [] h = absurd h
are_kinds (kind ∷ kinds) (z ∷ zs) h = and_from (in_kind kind z) (all_in_kinds kinds zs) (is_kind kind z h.0) (are_kinds kinds zs h.1)

pub kinds_count : (kinds : List Kind) (names : List ℤ) → InKinds kinds names → length kinds ≡ length names
kinds_count [] [] h = refl
kinds_count [] (z ∷ zs) h = absurd h
kinds_count (kind ∷ kinds) [] h = absurd h
kinds_count (kind ∷ kinds) (z ∷ zs) h = ap suc (kinds_count kinds zs h.1)

pub other_count : (kinds : List Kind) (names : List ℤ) → length kinds ≢ length names → false ≡ all_in_kinds kinds names
other_count [] [] d = absurd (d refl)
other_count [] (z ∷ zs) d = refl
other_count (kind ∷ kinds) [] d = refl
other_count (kind ∷ kinds) (z ∷ zs) d = sym (and_false (in_kind kind z) (all_in_kinds kinds zs) (sym (other_count kinds zs (λ e. d (ap suc e)))))

atom_is : (names : List ℤ) (atom : DefAtom) → is_true names atom ≡ true → IsTrueAtom names atom
atom_is names (Eq left base add fixes) h = int_is (value_of names left) (base_of names base +ℤ add) h
atom_is names (Ne left base add) h =
    λ e. (let y = is_int (value_of names left) (base_of names base +ℤ add) e in let n = not_true (int_eq (value_of names left) (base_of names base +ℤ add)) h in cc)
atom_is names (In left lo hi) h = let p = and_parts (int_le lo (value_of names left)) (int_le (value_of names left) hi) h in (le_is lo (value_of names left) p.0, le_is (value_of names left) hi p.1)

is_atom : (names : List ℤ) (atom : DefAtom) → IsTrueAtom names atom → is_true names atom ≡ true
is_atom names (Eq left base add fixes) h = is_int (value_of names left) (base_of names base +ℤ add) h
is_atom names (Ne left base add) h = not_int (value_of names left) (base_of names base +ℤ add) h
is_atom names (In left lo hi) h = and_from (int_le lo (value_of names left)) (int_le (value_of names left) hi) (is_le lo (value_of names left) h.0) (is_le (value_of names left) hi h.1)

pub atoms_are : (names : List ℤ) (atoms : List DefAtom) → all_true names atoms ≡ true → AllByRecursion (IsTrueAtom names) atoms
atoms_are names [] h = tt
atoms_are names (a ∷ atoms) h = let p = and_parts (is_true names a) (all_true names atoms) h in (atom_is names a p.0, atoms_are names atoms p.1)

pub are_atoms : (names : List ℤ) (atoms : List DefAtom) → AllByRecursion (IsTrueAtom names) atoms → all_true names atoms ≡ true
are_atoms names [] h = refl
are_atoms names (a ∷ atoms) h = and_from (is_true names a) (all_true names atoms) (is_atom names a h.0) (are_atoms names atoms h.1)

-- ---- names are read where they stand
value_front : (p rest : List ℤ) (name : ℕ) → name < length p → value_of (p ++ rest) name ≡ value_of p name
value_front [] rest name l = absurd (omega arith)
value_front (t ∷ p) rest zero l = refl
value_front (t ∷ p) rest (suc name) l = value_front p rest name (omega arith)

value_next : (p rest : List ℤ) (x : ℤ) (name : ℕ) → name ≡ length p → value_of (p ++ x ∷ rest) name ≡ x
value_next [] rest x zero e = refl
value_next [] rest x (suc name) e = absurd (omega arith)
value_next (t ∷ p) rest x zero e = absurd (omega arith)
value_next (t ∷ p) rest x (suc name) e = value_next p rest x name (omega arith)

base_front : (kinds : List Kind) (kind : Kind) (p rest : List ℤ) (base : Option ℕ) → BaseFits kinds (length p) kind base → base_of (p ++ rest) base ≡ base_of p base
base_front kinds kind p rest None fit = refl
base_front kinds kind p rest (Some name) fit = value_front p rest name fit.0

length_next : (p : List ℤ) (x : ℤ) → length (p ++ x ∷ []) ≡ suc (length p)
length_next p x = length-append p (x ∷ []) ∙ omega arith

-- the values of consecutive names are what stands there
pub numbers_read : (p others : List ℤ) (n k : ℕ) → n ≡ length p → k ≤ length others → map (value_of (p ++ others)) (numbers_from n k) ≡ take k others
numbers_read p others n zero e l = refl
numbers_read p [] n (suc k) e l = absurd (omega arith)
numbers_read p (x ∷ others) n (suc k) e l =
    let here : value_of (p ++ x ∷ others) n ≡ x = value_next p others x n e in
    let apart : p ++ x ∷ others ≡ (p ++ x ∷ []) ++ others = sym (append_assoc p (x ∷ []) others) in
    let rest = numbers_read (p ++ x ∷ []) others (suc n) k (ap suc e ∙ sym (length_next p x)) (omega arith) in
    let moved : map (value_of (p ++ x ∷ others)) (numbers_from (suc n) k) ≡ take k others = ap (λ names. map (value_of names) (numbers_from (suc n) k)) apart ∙ rest in
    ap (λ y. y ∷ map (value_of (p ++ x ∷ others)) (numbers_from (suc n) k)) here ∙ ap (λ l. x ∷ l) moved

-- ---- the fold is the only way to make atoms true
none_more : (p fixed : List ℤ) (n : ℕ) → n ≡ length p → n ≡ length (p ++ fixed) → fixed ≡ []
none_more p [] n c e = refl
none_more p (x ∷ fixed) n c e = let l = length-append p (x ∷ fixed) in absurd (omega arith)

pub fixed_once : (kinds : List Kind) (p fixed : List ℤ) (atoms : List DefAtom) (n : ℕ) → n ≡ length p → AtomsFit kinds n atoms → length kinds ≡ length (p ++ fixed) → AllByRecursion (IsTrueAtom (p ++ fixed)) atoms → p ++ fixed ≡ with_fixed p atoms
fixed_once kinds p fixed [] n c fit l f = ap (λ r. p ++ r) (none_more p fixed n c (fit ∙ l)) ∙ append-nil p
fixed_once kinds p [] (Eq left base add true ∷ atoms) n c fit l f =
    let inside : left < length kinds = slice_get_within kinds left fit.0.0 fit.0.2 in
    let e : length (p ++ []) ≡ length p + 0 = length-append p [] in
    let at : left ≡ n = fit.0.1 in
    absurd (omega arith)
fixed_once kinds p (x ∷ fixed) (Eq left base add true ∷ atoms) n c fit l f =
    let sum : ℤ = base_of p base +ℤ add in
    let bases = subst (λ k. BaseFits kinds k fit.0.0 base) c fit.0.3.0 in
    let is : x ≡ sum = sym (value_next p fixed x left (fit.0.1 ∙ c)) ∙ (f.0 ∙ ap (λ t. t +ℤ add) (base_front kinds fit.0.0 p (x ∷ fixed) base bases)) in
    let apart : p ++ x ∷ fixed ≡ (p ++ sum ∷ []) ++ fixed = ap (λ y. p ++ y ∷ fixed) is ∙ sym (append_assoc p (sum ∷ []) fixed) in
    apart ∙ fixed_once kinds (p ++ sum ∷ []) fixed atoms (suc n) (ap suc c ∙ sym (length_next p sum)) fit.1 (l ∙ ap length apart) (subst (λ l. AllByRecursion (IsTrueAtom l) atoms) apart f.1)
fixed_once kinds p fixed (Eq left base add false ∷ atoms) n c fit l f = fixed_once kinds p fixed atoms n c fit.1 l f.1
fixed_once kinds p fixed (Ne left base add ∷ atoms) n c fit l f = fixed_once kinds p fixed atoms n c fit.1 l f.1
fixed_once kinds p fixed (In left lo hi ∷ atoms) n c fit l f = fixed_once kinds p fixed atoms n c fit.1 l f.1

-- as many names as are known by then, or more
pub known_within : (kinds : List Kind) (n : ℕ) (atoms : List DefAtom) → AtomsFit kinds n atoms → n ≤ length kinds
known_within kinds n [] fit = let e : n ≡ length kinds = fit in omega arith
known_within kinds n (Eq left base add true ∷ atoms) fit = let r = known_within kinds (suc n) atoms fit.1 in omega arith
known_within kinds n (Eq left base add false ∷ atoms) fit = known_within kinds n atoms fit.1
known_within kinds n (Ne left base add ∷ atoms) fit = known_within kinds n atoms fit.1
known_within kinds n (In left lo hi ∷ atoms) fit = known_within kinds n atoms fit.1

pub far_rest : (kinds : List Kind) (names : List ℤ) (atoms : List DefAtom) (k : ℕ) (d : DefAtom) → k < length atoms → IntroducesFar names (get_or atoms k d) → all_in_kinds kinds (with_fixed names (drop k atoms)) ≡ false
far_rest kinds names atoms k d l far = rw (drop-cons atoms k d l) (far_out names (get_or atoms k d) (drop (suc k) atoms) kinds far)
