-- Which fault is known of several.
use Rattle.std.proofs.Common.{◌≡◌, ℕ, List, [], ◌∷◌, ◌++◌, ◌<◌, ◌≤◌, refl, ap, arith, Bool, true, false, ◌⊎◌}
use Rattle.std.proofs.Common.{append_assoc}
use Rattle.std.proofs.Common.{inl, inr, sym, length, suc, zero}
use Rattle.std.proofs.lemmas.Option.{same_Some, none-some}
use Rattle.std.specs.Prelude.{Contains, Option, Some, None, cond, IsTrue, nat_lt, nat_le, ◌==◌, ◌&&◌, ◌||◌}
use Rattle.mc_base.specs.declared.text.place.Place.{Place}
use Rattle.mc_c_types.specs.declared.faults.Fault.{Fault}
use Rattle.mc_c_types.specs.declared.faults.FaultName.{FaultName}
use Rattle.mc_c_types.specs.declared.faults.FaultName.TheVariants as FaultName
use Rattle.mc_c_types.specs.First.{is_told, number_of, told_of}

-- the names have different numbers
pub number_of-injective : (a b : FaultName) → number_of a ≡ number_of b → a ≡ b
number_of-injective FaultName.Unknown FaultName.Unknown h = refl
number_of-injective FaultName.Mismatch FaultName.Mismatch h = refl
number_of-injective FaultName.Twice FaultName.Twice h = refl
number_of-injective FaultName.Recursion FaultName.Recursion h = refl
number_of-injective FaultName.NoEntry FaultName.NoEntry h = refl
number_of-injective FaultName.BadSizeof FaultName.BadSizeof h = refl
number_of-injective FaultName.Arity FaultName.Arity h = refl
number_of-injective a b h = grind arith

-- the chain of tests in is_told
tell : (l l' c c' n n' : ℕ) → Bool
tell l l' c c' n n' = nat_lt l l' || (l == l' && (nat_lt c c' || (c == c' && nat_le n n')))

tell-refl : (l c n : ℕ) → tell l l c c n n ≡ true
unfolding tell
tell-refl l c n = grind arith

-- what the tests say
Tells : (l l' c c' n n' : ℕ) → Type 0
Tells l l' c c' n n' = (l < l') ⊎ ((l ≡ l') × ((c < c') ⊎ ((c ≡ c') × (n ≤ n'))))

tell-says : (l l' c c' n n' : ℕ) → tell l l' c c' n n' ≡ true → Tells l l' c c' n n'
unfolding tell Tells
tell-says l l' c c' n n' p = grind arith

tell-from : (l l' c c' n n' : ℕ) → Tells l l' c c' n n' → tell l l' c c' n n' ≡ true
unfolding tell Tells
tell-from l l' c c' n n' p = grind arith

Tells-antisym : (l l' c c' n n' : ℕ) → Tells l l' c c' n n' → Tells l' l c' c n' n → (l ≡ l') × (c ≡ c') × (n ≡ n')
unfolding Tells
Tells-antisym l l' c c' n n' p q = (grind arith, grind arith, grind arith)

Tells-trans : (l l' l'' c c' c'' n n' n'' : ℕ) → Tells l l' c c' n n' → Tells l' l'' c' c'' n' n'' → Tells l l'' c c'' n n''
unfolding Tells
Tells-trans l l' l'' c c' c'' n n' n'' p q = grind arith

tell-total : (l l' c c' n n' : ℕ) → tell l l' c c' n n' ≡ false → tell l' l c' c n' n ≡ true
unfolding tell
tell-total l l' c c' n n' p = grind arith

-- ---- is_told orders the faults
pub is_told-refl : (f : Fault) → is_told f f ≡ true
unfolding tell
is_told-refl f = tell-refl f.place.line f.place.column (number_of f.name)

pub is_told-total : (f g : Fault) → is_told f g ≡ false → is_told g f ≡ true
unfolding tell
is_told-total f g p = tell-total f.place.line g.place.line f.place.column g.place.column (number_of f.name) (number_of g.name) p

pub is_told-trans : (f g h : Fault) → is_told f g ≡ true → is_told g h ≡ true → is_told f h ≡ true
unfolding tell
is_told-trans f g h p q =
    tell-from _ _ _ _ _ _
    (Tells-trans f.place.line g.place.line h.place.line f.place.column g.place.column h.place.column (number_of f.name) (number_of g.name) (number_of h.name)
    (tell-says _ _ _ _ _ _ p)
    (tell-says _ _ _ _ _ _ q))

fault_at : ℕ → ℕ → FaultName → Fault
fault_at line column name = record { name = name; place = record { line = line; column = column } }

fault_at-same : (l l' c c' : ℕ) (n n' : FaultName) → l ≡ l' → c ≡ c' → n ≡ n' → fault_at l c n ≡ fault_at l' c' n'
fault_at-same l l' c c' n n' p q r = rw p (rw q (rw r refl))

is_told-same : (f g : Fault) → (f.place.line ≡ g.place.line) × (f.place.column ≡ g.place.column) × (number_of f.name ≡ number_of g.name) → f ≡ g
unfolding fault_at
is_told-same f g h =
    fault_at-same f.place.line g.place.line f.place.column g.place.column f.name g.name h.0 h.1 (number_of-injective f.name g.name h.2)

pub is_told-antisym : (f g : Fault) → is_told f g ≡ true → is_told g f ≡ true → f ≡ g
unfolding tell
is_told-antisym f g p q =
    is_told-same f g
    (Tells-antisym f.place.line g.place.line f.place.column g.place.column (number_of f.name) (number_of g.name)
    (tell-says _ _ _ _ _ _ p)
    (tell-says _ _ _ _ _ _ q))

-- ---- the one that is known of several
pub told_of-append : (told : Option Fault) (xs ys : List Fault) → told_of told (xs ++ ys) ≡ told_of (told_of told xs) ys
told_of-append told [] ys = refl
told_of-append None (x ∷ xs) ys = told_of-append (Some x) xs ys
told_of-append (Some told) (x ∷ xs) ys = told_of-append (Some (cond (is_told told x) told x)) xs ys

-- ---- members of lists
pub contains_here : {X : Type 0} (x : X) (xs : List X) → Contains (x ∷ xs) x
contains_here x xs = (0, omega arith, refl)

pub contains_later : {X : Type 0} (x y : X) (xs : List X) → Contains xs x → Contains (y ∷ xs) x
contains_later x y xs h = (suc h.0, (let below = h.1 in omega arith), h.2)

pub contains_cases : {X : Type 0} (x y : X) (xs : List X) → Contains (y ∷ xs) x → (x ≡ y) ⊎ Contains xs x
contains_cases x y xs (zero, below, is) = inl (sym is)
contains_cases x y xs (suc k, below, is) = inr (k, omega arith, is)

pub contains_none : {X : Type 0} (x : X) → Contains [] x → ⊥
contains_none x h = omega (arith, h.1)

pub contains_nothing : {X : Type 0} (xs : List X) (x : X) → xs ≡ [] → Contains xs x → ⊥
contains_nothing xs x e h = contains_none x (rw e at h)

-- ---- the one that is known of one and these
pub record IsTold (told : Fault) (faults : List Fault) (f : Fault) : Type 0 where
  pub is_one : (f ≡ told) ⊎ Contains faults f
  pub before_it : is_told f told ≡ true
  pub before_all : (g : Fault) → Contains faults g → is_told f g ≡ true

told-step : (told x f : Fault) (xs : List Fault) (b : Bool) → is_told told x ≡ b → IsTold (cond b told x) xs f → IsTold told (x ∷ xs) f
told-step told x f xs true e h =
    record {
      is_one = elim h.is_one [ inl p ↦ inl p | inr p ↦ inr (contains_later f x xs p) ];
      before_it = h.before_it;
      before_all = λ g c.
          elim (contains_cases g x xs c) [ inl p ↦ rw p (is_told-trans f told x h.before_it e) | inr p ↦ h.before_all g p ];
    }
told-step told x f xs false e h =
    record {
      is_one = elim h.is_one [ inl p ↦ inr (rw p (contains_here x xs)) | inr p ↦ inr (contains_later f x xs p) ];
      before_it = is_told-trans f x told h.before_it (is_told-total told x e);
      before_all = λ g c. elim (contains_cases g x xs c) [ inl p ↦ rw p h.before_it | inr p ↦ h.before_all g p ];
    }

pub told_of-is : (told f : Fault) (xs : List Fault) → told_of (Some told) xs ≡ Some f → IsTold told xs f
told_of-is told f [] e =
    record {
      is_one = inl (sym (same_Some _ _ e));
      before_it = rw (same_Some _ _ e) (is_told-refl f);
      before_all = λ g c. absurd (contains_none g c);
    }
told_of-is told f (x ∷ xs) e = told-step told x f xs (is_told told x) refl (told_of-is (cond (is_told told x) told x) f xs e)

-- one is known where there is one
pub told_of-some : (told : Fault) (xs : List Fault) → (f : Fault) × (told_of (Some told) xs ≡ Some f)
told_of-some told [] = (told, refl)
told_of-some told (x ∷ xs) = told_of-some (cond (is_told told x) told x) xs

none_not_some : {P : Type 0} (o : Option Fault) → ((f : Fault) × (o ≡ Some f)) → o ≡ None → P
none_not_some o h e = absurd (none-some h.0 (let is = h.1 in cc))

pub told_of-none : (xs : List Fault) → told_of None xs ≡ None → xs ≡ []
told_of-none [] e = refl
told_of-none (x ∷ xs) e = none_not_some (told_of (Some x) xs) (told_of-some x xs) e

pub told_of-before : (fs : List Fault) (f g : Fault) → told_of None fs ≡ Some f → Contains fs g → is_told f g ≡ true
told_of-before [] f g e c = absurd (contains_none g c)
told_of-before (x ∷ xs) f g e c =
    let all = told_of-is x f xs e in elim (contains_cases g x xs c) [ inl p ↦ rw p all.before_it | inr p ↦ all.before_all g p ]

pub told_of-among : (fs : List Fault) (f : Fault) → told_of None fs ≡ Some f → Contains fs f
told_of-among [] f e = absurd (none-some f e)
told_of-among (x ∷ xs) f e =
    let all = told_of-is x f xs e in elim all.is_one [ inl p ↦ rw p (contains_here x xs) | inr p ↦ contains_later f x xs p ]

-- ---- what is noted of one and then of what it holds
pub told_then : (told : Option Fault) (a r : List Fault) → told_of (told_of told a) r ≡ told_of told (a ++ r)
told_then told a r = sym (told_of-append told a r)

pub told_one : (told : Option Fault) (a x r : List Fault) → told_of (told_of told a) (x ++ r) ≡ told_of told ((a ++ x) ++ r)
told_one told a x r = rw (append_assoc a x r) (told_then told a (x ++ r))

pub told_operands : (told : Option Fault) (a b x y r : List Fault) → told_of (told_of (told_of told a) b) (x ++ (y ++ r)) ≡ told_of told ((((a ++ b) ++ x) ++ y) ++ r)
told_operands told a b x y r =
    rw (append_assoc ((a ++ b) ++ x) y r)
    (rw (append_assoc (a ++ b) x (y ++ r))
    (rw (append_assoc a b (x ++ (y ++ r))) (rw (told_of-append told a (b ++ (x ++ (y ++ r)))) (told_then (told_of told a) b (x ++ (y ++ r))))))

pub told_three : (told : Option Fault) (a b c : List Fault) → told_of (told_of (told_of told a) b) c ≡ told_of told ((a ++ b) ++ c)
told_three told a b c = rw (told_of-append told (a ++ b) c) (rw (told_of-append told a b) refl)
