-- Tables of names say what lists of names say.
use native.Mathlib.Omega.{arith}
use Rattle.std.proofs.Common.{◌≡◌, ℕ, List, [], ◌∷◌, ◌++◌, ◌||◌, Bool, true, false, refl, map, take, get_or, length, ◌<◌, suc, zero}
use Rattle.std.specs.Prelude.{Vec}
use Rattle.std.specs.declared.alloc.Global.{Global}
use Rattle.std.specs.declared.cmp.Ordering.{Ordering}
use Rattle.std.specs.declared.cmp.Ordering.TheVariants.{Less, Equal, Greater}
use Rattle.std.specs.Ordering.{nat_cmp, match_ordering}
use Rattle.std.specs.Cmp.Lexicographic.{slice_cmp}
use Rattle.std.specs.List.{list_any}
use Rattle.std.specs.BTreeMap.{is_at}
use Rattle.std.specs.BTreeSet.{insert_key}
use Rattle.std.proofs.lemmas.Map.Text.{is_eq-slice_cmp}
use Rattle.std.proofs.lemmas.Map.Lookups.{exact_bytes}
use Rattle.mc_c_syntax.specs.Ast.Names.{is_in, is_same}

abbrev pub Key : Type 0
Key = Vec ℕ Global

-- the names as lists of bytes
abbrev pub texts : List Key → List (List ℕ)
texts keys = map (λ (name : Key). name.items) keys

abbrev key_cmp : Key → Key → Ordering
key_cmp x y = slice_cmp nat_cmp x.items y.items

pub found : (text : List ℕ) (keys : List Key) → list_any (is_at (λ (k : Key). slice_cmp nat_cmp text k.items)) keys ≡ is_in (texts keys) text
found text [] = refl
found text (k ∷ keys) = let e = is_eq-slice_cmp text k.items in rw (e, found text keys) refl

or_same : (a b : Bool) → (a || b) ≡ (a || (a || b))
or_same true b = refl
or_same false b = refl

or_assoc : (a b c : Bool) → (a || (b || c)) ≡ ((a || b) || c)
or_assoc true b c = refl
or_assoc false b c = refl

or_swap : (a b c : Bool) → (a || (b || c)) ≡ (b || (a || c))
or_swap true true c = refl
or_swap true false c = refl
or_swap false true c = refl
or_swap false false c = refl

placed : (other : List ℕ) (key k : Key) (keys : List Key) (o : Ordering) → key_cmp key k ≡ o → is_in (texts (insert_key key_cmp keys key)) other ≡ (is_same other key.items || is_in (texts keys) other) → is_in (texts (match_ordering o (key ∷ k ∷ keys) (k ∷ keys) (k ∷ insert_key key_cmp keys key))) other ≡ (is_same other key.items || is_in (texts (k ∷ keys)) other)
placed other key k keys Less e more = refl
placed other key k keys Equal e more = rw (exact_bytes key.items k.items e) (or_same (is_same other k.items) (is_in (texts keys) other))
placed other key k keys Greater e more = rw more (or_swap (is_same other k.items) (is_same other key.items) (is_in (texts keys) other))

pub inserted : (other : List ℕ) (key : Key) (keys : List Key) → is_in (texts (insert_key key_cmp keys key)) other ≡ (is_same other key.items || is_in (texts keys) other)
inserted other key [] = refl
inserted other key (k ∷ keys) = placed other key k keys _ refl (inserted other key keys)

-- a test of a name among the first ones of a list, and of the next one
pub any_next : {D : Type 0} (test : List ℕ → Bool) (f : D → List ℕ) (ds : List D) (i : ℕ) (d : D) → i < length ds → d ≡ get_or ds i d → list_any test (map f (take (suc i) ds)) ≡ (test (f d) || list_any test (map f (take i ds)))
any_next test f [] i d below is = absurd (omega arith)
any_next test f (x ∷ ds) zero d below is = rw is refl
any_next test f (x ∷ ds) (suc i) d below is = let below' : i < length ds = omega arith in rw (any_next test f ds i d below' is) (or_swap (test (f x)) (test (f d)) (list_any test (map f (take i ds))))

pub any_of_both : (test : List ℕ → Bool) (xs ys : List (List ℕ)) → list_any test (xs ++ ys) ≡ (list_any test xs || list_any test ys)
any_of_both test [] ys = refl
any_of_both test (x ∷ xs) ys = rw (any_of_both test xs ys) (or_assoc (test x) (list_any test xs) (list_any test ys))

-- one more name among those that were added
pub one_more_name : {D : Type 0} (name : List ℕ) (f : D → List ℕ) (ds : List D) (i : ℕ) (d : D) (old now later : List (List ℕ)) → i < length ds → d ≡ get_or ds i d → is_in now name ≡ is_in (map f (take i ds) ++ old) name → is_in later name ≡ (is_same name (f d) || is_in now name) → is_in later name ≡ is_in (map f (take (suc i) ds) ++ old) name
one_more_name name f ds i d old now later below is before added = rw (added, before, any_of_both (is_same name) (map f (take i ds)) old, any_of_both (is_same name) (map f (take (suc i) ds)) old, any_next (is_same name) f ds i d below is) (or_assoc (is_same name (f d)) (list_any (is_same name) (map f (take i ds))) (list_any (is_same name) old))
