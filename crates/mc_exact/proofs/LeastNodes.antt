-- What is known is true by the valuation of least nodes.
use Rattle.std.proofs.Common.{◌≡◌, ◌≢◌, ◌⊎◌, ◌<◌, ◌≤◌, ◌+◌, ℕ, zero, suc, Bool, ℤ, pos, ◌+ℤ◌, ◌<ℤ◌, Option, Some, None, true, false, if◌then◌else◌, ◌≤ℤ◌, refl, sym, ap, ◌∙◌, subst, inl, inr, arith}
use Rattle.std.specs.Int.{int_max, int_min}
use Rattle.std.proofs.lemmas.Int.{ints, clamps}
use Rattle.mc_base.specs.declared.ids.NodeId.{NodeId}
use Rattle.mc_base.specs.declared.plain.Kind.{Kind}
use Rattle.mc_base.specs.declared.plain.Kind.TheVariants.{Int, Ptr}
use Rattle.mc_base.specs.declared.plain.Atom.{Atom}
use Rattle.mc_base.specs.declared.plain.Atom.TheVariants.{Eq, Ne, In}
use Rattle.mc_base.specs.Atoms.{IsTrueAtom}
use Rattle.mc_base.specs.Nodes.{Valuation, null}
use Rattle.mc_pure.specs.Pure as known
use Rattle.mc_pure.specs.Pure.{Pure, HasKind, IsNode, Base, kind_of, low_of, high_of}
use Rattle.mc_pure.specs.Classes.{TellsDerived}
use Rattle.mc_pure.specs.Derived.{Follows, IsFalse, Derived, base, itself, turned, chained, shifted, met, differs_along, raised, empty, apart}
use Rattle.mc_state.specs.Known.{Test, equal}
use Rattle.mc_exact.specs.Least.{IsNumber, ArePlain, IsPlainAtom, IsPlain, least_from, least, by_kind, least_valuation, LeastIsTrue, LeastSeparates}

abbrev node : ℕ → NodeId
node m = record { 0 = m }

less_or : (a b : ℤ) → (a <ℤ b) ⊎ (b ≤ℤ a)
less_or a b = grind (arith, ints)

between : (x lo hi : ℤ) → ((int_min hi x <ℤ int_max lo x) → ⊥) → (lo ≤ℤ x) × (x ≤ℤ hi)
between x lo hi full = (
  elim (less_or x lo) [ inl l ↦ absurd (full (omega (arith, ints, clamps))) | inr g ↦ g ],
  elim (less_or hi x) [ inl l ↦ absurd (full (omega (arith, ints, clamps))) | inr g ↦ g ],
)

pos_zero : (n : ℕ) → pos n ≡ pos 0 → n ≡ 0
pos_zero n e = omega (arith, ints)

at_least : (lo : ℤ) → lo ≤ℤ pos 0 → (l : ℕ) (x : ℤ) → x ≡ pos l → lo ≤ℤ x
at_least lo le l x e = let z : pos 0 ≤ℤ pos l = omega (arith, ints) in omega (arith, ints)

pinned : (x y : ℤ) → ((int_min y x <ℤ int_max y x) → ⊥) → x ≡ y
pinned x y full = let b = between x y y full in omega (arith, ints)

same_sum : (x y c : ℤ) → x ≡ y → c ≡ pos 0 → x ≡ y +ℤ c
same_sum x y c e z = omega (arith, ints)

same_back : (x y c : ℤ) → x ≡ y +ℤ c → c ≡ pos 0 → x ≡ y
same_back x y c e z = omega (arith, ints)

pos_inj : (m n : ℕ) → pos m ≡ pos n → m ≡ n
pos_inj m n e = omega (arith, ints)

at_most : (l n : ℕ) (x : ℤ) → l ≤ n → n < 4611686018427387904 → x ≡ pos l → x ≤ℤ pos 4611686018427387903
at_most l n x le small e = omega (arith, ints)

module _ (p : Pure) (know : Test) (tells : TellsDerived p know) where
  -- what is equal to a node, and what of an equal one
  equal_on : (a b d : NodeId) → Derived p (Eq a b (pos 0)) → Derived p (Eq b d (pos 0)) → Derived p (Eq a d (pos 0))
  equal_on a b d (inl x) (inl y) = let e : pos 0 +ℤ pos 0 ≡ pos 0 = refl in inl (chained x y)
  equal_on a b d (inr f) y = inr f
  equal_on a b d (inl x) (inr f) = inr f

  equal_back : (a b : NodeId) → Derived p (Eq a b (pos 0)) → Derived p (Eq b a (pos 0))
  equal_back a b (inl x) = inl (turned x)
  equal_back a b (inr f) = inr f

  found_from : (n : NodeId) → IsNode p.kinds n → (m fuel : ℕ) → m + fuel ≡ n.0 → Derived p (Eq n (node (least_from know n m fuel)) (pos 0))
  found_from n there m zero e = let z : m ≡ n.0 = omega arith in subst (λ (k : ℕ). Derived p (Eq n (node k) (pos 0))) (sym z) (inl (itself there))
  found_from n there m (suc fuel) e = tried (λ s. found_from n there (suc m) fuel s) (know (Eq n (node m) (pos 0))) refl
    where
      tried : ((suc m) + fuel ≡ n.0 → Derived p (Eq n (node (least_from know n (suc m) fuel)) (pos 0))) → (b : Bool) → know (Eq n (node m) (pos 0)) ≡ b → Derived p (Eq n (node (if b then m else least_from know n (suc m) fuel)) (pos 0))
      tried later true is = (tells (Eq n (node m) (pos 0))).0 is
      tried later false is = later (omega arith)

  least_equal : (n : NodeId) → IsNode p.kinds n → Derived p (Eq n (node (least know n)) (pos 0))
  least_equal n there = found_from n there 0 n.0 (omega arith)

  below_from : (n : NodeId) (k : ℕ) → Derived p (Eq n (node k) (pos 0)) → (m fuel : ℕ) → m ≤ k → least_from know n m fuel ≤ k
  below_from n k d m zero le = le
  below_from n k d m (suc fuel) le = tried (λ s. below_from n k d (suc m) fuel s) (know (Eq n (node m) (pos 0))) refl
    where
      tried : (suc m ≤ k → least_from know n (suc m) fuel ≤ k) → (b : Bool) → know (Eq n (node m) (pos 0)) ≡ b → (if b then m else least_from know n (suc m) fuel) ≤ k
      tried later true is = le
      tried later false is =
          let differ : m ≢ k = λ same. (let yes : know (Eq n (node k) (pos 0)) ≡ true = (tells (Eq n (node k) (pos 0))).1 d in let yes' : know (Eq n (node m) (pos 0)) ≡ true = subst (λ (z : ℕ). know (Eq n (node z) (pos 0)) ≡ true) (sym same) yes in cc) in
          later (omega arith)

  least_below : (n : NodeId) (k : ℕ) → Derived p (Eq n (node k) (pos 0)) → least know n ≤ k
  least_below n k d = below_from n k d 0 n.0 (omega arith)

  -- equal nodes have one least node
  least_one : (a b : NodeId) → IsNode p.kinds a → IsNode p.kinds b → Derived p (Eq a b (pos 0)) → least know a ≡ least know b
  least_one a b la lb d =
      let there = least_below a (least know b) (equal_on a b (node (least know b)) d (least_equal b lb)) in
      let back = least_below b (least know a) (equal_on b a (node (least know a)) (equal_back a b d) (least_equal a la)) in
      omega arith

  -- nodes of one least node are equal
  least_equals : (a b : NodeId) → IsNode p.kinds a → IsNode p.kinds b → least know a ≡ least know b → Derived p (Eq a b (pos 0))
  least_equals a b la lb e =
      let from : Derived p (Eq a (node (least know b)) (pos 0)) = subst (λ (k : ℕ). Derived p (Eq a (node k) (pos 0))) e (least_equal a la) in
      equal_on a (node (least know b)) b from (equal_back b (node (least know b)) (least_equal b lb))

  module _ (plain : IsPlain p) where
    abbrev v : Valuation
    v = least_valuation p know plain

    -- pointers have the numbers of their least nodes
    pointer_by : (n : NodeId) (o : Option Kind) (number : o ≡ Some Int → IsNumber p n) (l : ℕ) → o ≢ Some Int → by_kind p n o number l ≡ pos l
    pointer_by n None number l other = refl
    pointer_by n (Some Int) number l other = absurd (other refl)
    pointer_by n (Some Ptr) number l other = refl

    pub pointer_is : (n : NodeId) → HasKind p.kinds Ptr n → v n.0 ≡ pos (least know n)
    pointer_is n (inl is) = pointer_by n (kind_of p.kinds n) (plain.numbers n) (least know n) (λ other. (let none : kind_of p.kinds n ≡ None = subst (λ (m : NodeId). kind_of p.kinds m ≡ None) (sym is) plain.origin in cc))
    pointer_is n (inr is) = pointer_by n (kind_of p.kinds n) (plain.numbers n) (least know n) (λ other. cc)

    -- numbers have their own
    number_by : (n : NodeId) (o : Option Kind) (number : o ≡ Some Int → IsNumber p n) (l : ℕ) → o ≡ Some Int → Follows p (In n (by_kind p n o number l) (by_kind p n o number l))
    number_by n None number l is = cc
    number_by n (Some Int) number l is = (number refl).1
    number_by n (Some Ptr) number l is = cc

    zero_is : v 0 ≡ pos 0
    zero_is = pointer_is null (inl refl)

    number_is : (n : NodeId) → HasKind p.kinds Int n → Follows p (In n (v n.0) (v n.0))
    number_is n (inl is) = subst (λ (m : NodeId). Follows p (In m (v m.0) (v m.0))) (sym is) (subst (λ (k : ℤ). Follows p (In null k k)) (sym zero_is) (base known.zero))
    number_is n (inr is) = number_by n (kind_of p.kinds n) (plain.numbers n) (least know n) is

    module _ (fine : IsFalse p → ⊥) where
      -- a number lies in each of its ranges
      in_range : (n : NodeId) (lo hi : ℤ) → HasKind p.kinds Int n → Follows p (In n lo hi) → IsTrueAtom v (In n lo hi)
      in_range n lo hi is f =
          between (v n.0) lo hi (λ less. fine (empty less (met f (number_is n is))))

      -- a pointer that is an address is not null
      not_null : (n : NodeId) (hi : ℤ) → IsNode p.kinds n → HasKind p.kinds Ptr n → Follows p (In n (pos 1) hi) → v n.0 ≢ pos 0
      not_null n hi there is f e =
          let none : least know n ≡ 0 = pos_zero (least know n) (sym (pointer_is n is) ∙ e) in
          let equal : Derived p (Eq n null (pos 0)) = subst (λ (k : ℕ). Derived p (Eq n (node k) (pos 0))) none (least_equal n there) in
          elim equal [
            | inl x ↦ fine (empty {a = n} {lo = int_max (pos 1) (pos 0)} {hi = int_min hi (pos 0)} (omega (arith, ints, clamps)) (met f (shifted x (base known.zero))))
            | inr g ↦ fine g
          ]

      -- an address that is written of a pointer
      in_addresses : (n : NodeId) (lo hi : ℤ) → IsNode p.kinds n → HasKind p.kinds Ptr n → v n.0 ≤ℤ pos 4611686018427387903 → lo ≤ℤ pos 1 → pos 4611686018427387903 ≤ℤ hi → Follows p (In n lo hi) → IsTrueAtom v (In n lo hi)
      in_addresses n lo hi there is short low high f = (
        elim (less_or (pos 0) lo) [
          | inl l ↦ (let one : lo ≡ pos 1 = omega (arith, ints) in at_one (not_null n hi there is (subst (λ (k : ℤ). Follows p (In n k hi)) one f)) one (least know n) (pointer_is n is))
          | inr l ↦ at_least lo l (least know n) (v n.0) (pointer_is n is)
        ],
        omega (arith, ints),
      )
        where
          at_one : v n.0 ≢ pos 0 → lo ≡ pos 1 → (l : ℕ) → v n.0 ≡ pos l → lo ≤ℤ v n.0
          at_one other one zero e = absurd (other e)
          at_one other one (suc l) e = omega (arith, ints)

      -- ---- what is known from the beginning is true

      plain_eq : (a b : NodeId) (c : ℤ) → IsNode p.kinds a → IsNode p.kinds b → ArePlain p.kinds a b c → Follows p (Eq a b c) → IsTrueAtom v (Eq a b c)
      plain_eq a b c la lb (inl ints') f =
          let there = shifted f (number_is b ints'.1) in
          let at = number_is a ints'.0 in
          pinned (v a.0) (v b.0 +ℤ c) (λ less. fine (empty less (met there at)))
      plain_eq a b c la lb (inr ptrs) f =
          let same : Derived p (Eq a b (pos 0)) = inl (subst (λ (k : ℤ). Follows p (Eq a b k)) ptrs.2 f) in
          let one = least_one a b la lb same in
          let va = pointer_is a ptrs.0 in
          let vb = pointer_is b ptrs.1 in
          same_sum (v a.0) (v b.0) c (va ∙ ap pos one ∙ sym vb) ptrs.2

      plain_ne : (a b : NodeId) (c : ℤ) → IsNode p.kinds a → IsNode p.kinds b → ArePlain p.kinds a b c → Follows p (Ne a b c) → IsTrueAtom v (Ne a b c)
      plain_ne a b c la lb (inl ints') f e =
          let at : Follows p (In a (v b.0 +ℤ c) (v b.0 +ℤ c)) = subst (λ (k : ℤ). Follows p (In a k k)) e (number_is a ints'.0) in
          fine (empty {a = a} {lo = (v b.0 +ℤ c) +ℤ pos 1} {hi = v b.0 +ℤ c} (omega (arith, ints)) (raised f (number_is b ints'.1) at))
      plain_ne a b c la lb (inr ptrs) f e =
          let level : v a.0 ≡ v b.0 = same_back (v a.0) (v b.0) c e ptrs.2 in
          let one : least know a ≡ least know b = pos_inj (least know a) (least know b) (sym (pointer_is a ptrs.0) ∙ level ∙ pointer_is b ptrs.1) in
          elim (least_equals b a lb la (sym one)) [
            | inl x ↦ fine (apart (differs_along (subst (λ (k : ℤ). Follows p (Ne a b k)) ptrs.2 f) x))
            | inr g ↦ fine g
          ]

      -- nodes of plain atoms are there
      left_there : (a b : NodeId) (c : ℤ) → ArePlain p.kinds a b c → IsNode p.kinds a
      left_there a b c (inl ints') = (Int, ints'.0)
      left_there a b c (inr ptrs) = (Ptr, ptrs.0)

      right_there : (a b : NodeId) (c : ℤ) → ArePlain p.kinds a b c → IsNode p.kinds b
      right_there a b c (inl ints') = (Int, ints'.1)
      right_there a b c (inr ptrs) = (Ptr, ptrs.1)

      -- a pointer's number is one of its kind
      short_named : (n : NodeId) → HasKind p.kinds Ptr n → n.0 < 4611686018427387904 → v n.0 ≤ℤ pos 4611686018427387903
      short_named n is small =
          let below = least_below n n.0 (inl (itself (Ptr, is))) in
          let e = pointer_is n is in
          at_most (least know n) n.0 (v n.0) below small e

      short_of : (n : NodeId) → HasKind p.kinds Ptr n → v n.0 ≤ℤ pos 4611686018427387903
      short_of n (inl is) = short_named n (inl is) (let z : n.0 ≡ 0 = ap (λ (m : NodeId). m.0) is in omega arith)
      short_of n (inr is) = short_named n (inr is) (plain.small n Ptr is)

      plain_atom : (f : Atom) → IsPlainAtom p.kinds f → Follows p f → IsTrueAtom v f
      plain_atom (Eq a b c) is f = plain_eq a b c (left_there a b c is) (right_there a b c is) is f
      plain_atom (Ne a b c) is f = plain_ne a b c (left_there a b c is) (right_there a b c is) is f
      plain_atom (In a lo hi) (inl is) f = in_range a lo hi is f
      plain_atom (In a lo hi) (inr is) f = in_addresses a lo hi (Ptr, is.0) is.0 (short_of a is.0) is.1 is.2 f

      kind_true : (n : NodeId) (k : Kind) → kind_of p.kinds n ≡ Some k → Follows p (In n (low_of k) (high_of k)) → IsTrueAtom v (In n (low_of k) (high_of k))
      kind_true n Int is f = in_range n (low_of Int) (high_of Int) (inr is) f
      kind_true n Ptr is f = in_addresses n (low_of Ptr) (high_of Ptr) (Ptr, inr is) (inr is) (short_of n (inr is)) (omega (arith, ints)) (omega (arith, ints)) f

      base_true : (f : Atom) → Base p f → IsTrueAtom v f
      base_true f (known.written place e) = plain_atom f (plain.atoms place f e) (base (known.written place e))
      base_true _ known.zero = (omega (arith, ints, zero_is), omega (arith, ints, zero_is))
      base_true _ (known.kind {n} {k} place e) = kind_true n k (plain.named place n k e) (base (known.kind place e))
      base_true _ (known.block {a} place e) = plain_atom (known.address_atom a) (inr (plain.starts place a e, omega (arith, ints), omega (arith, ints))) (base (known.block place e))
      base_true _ (known.apart {a} {b} i j ne x y) = plain_atom (Ne a b (pos 0)) (inr (plain.starts i a x, plain.starts j b y, refl)) (base (known.apart i j ne x y))

pub least_is_true : LeastIsTrue
least_is_true p know plain tells fine f b = base_true p know tells plain fine f b

pub least_separates : LeastSeparates
least_separates p know plain a b tells ka kb e =
    least_equals p know tells a b (Ptr, ka) (Ptr, kb) (pos_inj (least know a) (least know b) (sym (pointer_is p know tells plain a ka) ∙ e ∙ pointer_is p know tells plain b kb))

-- ---- the least node, looked for from 0 on

-- none of the numbers before this one is that of the least node
abbrev pub IsAfter : Test → NodeId → ℕ → Type 0
IsAfter know n m = (more : ℕ) → m + more ≡ n.0 → least know n ≡ least_from know n m more

pub begins_after : (know : Test) (n : NodeId) → IsAfter know n 0
begins_after know n more e = let all : n.0 ≡ more = omega arith in ap (least_from know n 0) all

pub passes_after : (know : Test) (n : NodeId) (m : ℕ) → IsAfter know n m → equal know n (node m) ≡ false → IsAfter know n (m + 1)
passes_after know n m after differ more e =
    let one : m + 1 ≡ suc m = omega arith in
    let step : least_from know n m (suc more) ≡ least_from know n (suc m) more = ap (λ (b : Bool). if b then m else least_from know n (suc m) more) differ in
    after (suc more) (omega arith) ∙ step ∙ ap (λ (k : ℕ). least_from know n k more) (sym one)

pub found_at : (know : Test) (n : NodeId) (m : ℕ) → IsAfter know n m → m < n.0 → equal know n (node m) ≡ true → m ≡ least know n
found_at know n m after lt same =
    let more = rest m n.0 lt in
    sym (after (suc more.0) more.1 ∙ ap (λ (b : Bool). if b then m else least_from know n (suc m) more.0) same)
  where
    rest : (m n : ℕ) → m < n → (more : ℕ) × (m + suc more ≡ n)
    rest zero zero lt = absurd (omega arith)
    rest zero (suc n) lt = (n, omega arith)
    rest (suc m) zero lt = absurd (omega arith)
    rest (suc m) (suc n) lt =
        let r = rest m n (let l : suc m < suc n = lt in omega arith) in
        let sum : m + suc r.0 ≡ n = r.1 in
        (r.0, omega arith)

pub ends_at : (know : Test) (n : NodeId) → IsAfter know n n.0 → n.0 ≡ least know n
ends_at know n after = sym (after 0 (omega arith))
