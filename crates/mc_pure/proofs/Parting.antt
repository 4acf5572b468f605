-- The disequalities of a list, and the list.
use Rattle.std.proofs.Common.{◌≡◌, ℕ, zero, suc, List, [], ◌∷◌, ◌++◌, Some, slice_get, true, false, refl, ap}
use Rattle.mc_base.specs.declared.plain.Atom.{Atom}
use Rattle.mc_base.specs.declared.plain.Atom.TheVariants.{Eq, Ne, In}
use Rattle.mc_pure.specs.Atoms.{is_apart, apart_of}

-- one more at the end
pub apart_more : (fs : List Atom) (f : Atom) → is_apart f ≡ true → apart_of (fs ++ f ∷ []) ≡ apart_of fs ++ f ∷ []
apart_more [] (Ne a b c) e = refl
apart_more [] (Eq a b c) e = cc
apart_more [] (In a l h) e = cc
apart_more (Ne a b c ∷ fs) f e = ap (λ (z : List Atom). Ne a b c ∷ z) (apart_more fs f e)
apart_more (Eq a b c ∷ fs) f e = apart_more fs f e
apart_more (In a l h ∷ fs) f e = apart_more fs f e

pub apart_same : (fs : List Atom) (f : Atom) → is_apart f ≡ false → apart_of (fs ++ f ∷ []) ≡ apart_of fs
apart_same [] (Ne a b c) e = cc
apart_same [] (Eq a b c) e = refl
apart_same [] (In a l h) e = refl
apart_same (Ne a b c ∷ fs) f e = ap (λ (z : List Atom). Ne a b c ∷ z) (apart_same fs f e)
apart_same (Eq a b c ∷ fs) f e = apart_same fs f e
apart_same (In a l h ∷ fs) f e = apart_same fs f e

-- each of them is in the list
pub from_apart : (fs : List Atom) (i : ℕ) (f : Atom) → slice_get (apart_of fs) i ≡ Some f → (j : ℕ) × (slice_get fs j ≡ Some f)
from_apart [] i f e = cc
from_apart (Ne a b c ∷ fs) zero f e = (zero, e)
from_apart (Ne a b c ∷ fs) (suc i) f e = let k = from_apart fs i f e in (suc k.0, k.1)
from_apart (Eq a b c ∷ fs) i f e = let k = from_apart fs i f e in (suc k.0, k.1)
from_apart (In a l h ∷ fs) i f e = let k = from_apart fs i f e in (suc k.0, k.1)

-- and each disequality of the list is one
pub to_apart : (fs : List Atom) (i : ℕ) (f : Atom) → is_apart f ≡ true → slice_get fs i ≡ Some f → (j : ℕ) × (slice_get (apart_of fs) j ≡ Some f)
to_apart [] i f t e = cc
to_apart (Ne a b c ∷ fs) zero f t e = (zero, e)
to_apart (Ne a b c ∷ fs) (suc i) f t e = let k = to_apart fs i f t e in (suc k.0, k.1)
to_apart (Eq a b c ∷ fs) zero f t e = let k : Eq a b c ≡ f = cc in cc (ap is_apart k)
to_apart (Eq a b c ∷ fs) (suc i) f t e = to_apart fs i f t e
to_apart (In a l h ∷ fs) zero f t e = let k : In a l h ≡ f = cc in cc (ap is_apart k)
to_apart (In a l h ∷ fs) (suc i) f t e = to_apart fs i f t e
