-- The runs of any machine: in how many steps they come to what.
use Rattle.std.proofs.Common.{◌≡◌, ℕ, zero, suc, List, refl, sym, ap, subst, inl, inr}
use Rattle.mc_flow.specs.Runs.{next, last, Final, ended, stopped, fault, Reaches}
use Rattle.mc_semantics.specs.Waiting.Runs.{Machine, Leads, ComesTo, IsDetermined}

module _ (C K : Type 0) (Steps : Machine C K) where
  pub reaches_end : (n : ℕ) (c d : C) (choices left : List K) (f : Final) → Leads Steps n c choices d left → Steps d left (last f) → Reaches Steps (suc n) c choices f
  reaches_end zero c d choices left f leads is = (let P : C → Type 0 = λ x. Steps x choices (last f) in let Q : List K → Type 0 = λ l. Steps d l (last f) in inl (subst P (sym leads.0) (subst Q (sym leads.1) is)))
  reaches_end (suc n) c d choices left f leads is = inr (leads.0, leads.1, leads.2, reaches_end n leads.0 d leads.1 left f leads.3 is)

  longer : (n : ℕ) (c : C) (choices : List K) (f : Final) → Reaches Steps n c choices f → Reaches Steps (suc n) c choices f
  longer zero c choices f run = absurd run
  longer (suc n) c choices f (inl is) = inl is
  longer (suc n) c choices f (inr on) = inr (on.0, on.1, on.2, longer n on.0 on.1 f on.3)

  pub reaches : (n : ℕ) (c : C) (choices : List K) (f : Final) → ComesTo Steps n c choices f → Reaches Steps (suc n) c choices f
  reaches n c choices ended comes = reaches_end n c comes.0 choices comes.1 ended comes.2 comes.3
  reaches zero c choices stopped comes = absurd comes
  reaches (suc n) c choices stopped comes = longer (suc n) c choices stopped (reaches_end n c comes.0 choices comes.1 stopped comes.2 comes.3)
  reaches zero c choices (fault kind place) comes = absurd comes
  reaches (suc n) c choices (fault kind place) comes = longer (suc n) c choices (fault kind place) (reaches_end n c comes.0 choices comes.1 (fault kind place) comes.2 comes.3)

  comes_first : (c : C) (choices : List K) (f : Final) → Steps c choices (last f) → (m : ℕ) × ComesTo Steps m c choices f
  comes_first c choices ended is = (0, (c, choices, (refl, refl), is))
  comes_first c choices stopped is = (1, (c, choices, (refl, refl), is))
  comes_first c choices (fault kind place) is = (1, (c, choices, (refl, refl), is))

  comes_later : (c d : C) (choices rest : List K) (f : Final) (m : ℕ) → Steps c choices (next d rest) → ComesTo Steps m d rest f → ComesTo Steps (suc m) c choices f
  comes_later c d choices rest ended m is comes = (comes.0, comes.1, (d, rest, is, comes.2), comes.3)
  comes_later c d choices rest stopped zero is comes = absurd comes
  comes_later c d choices rest stopped (suc m) is comes = (comes.0, comes.1, (d, rest, is, comes.2), comes.3)
  comes_later c d choices rest (fault kind place) zero is comes = absurd comes
  comes_later c d choices rest (fault kind place) (suc m) is comes = (comes.0, comes.1, (d, rest, is, comes.2), comes.3)

  pub comes : (n : ℕ) (c : C) (choices : List K) (f : Final) → Reaches Steps n c choices f → (m : ℕ) × ComesTo Steps m c choices f
  comes zero c choices f run = absurd run
  comes (suc n) c choices f (inl is) = comes_first c choices f is
  comes (suc n) c choices f (inr on) = (let m = comes n on.0 on.1 f on.3 in (suc m.0, comes_later c on.0 choices on.1 f m.0 on.2 m.1))

  -- a run in its steps
  abbrev Goes : ℕ → C → List K → Final → Type 0
  Goes n c choices f = (d : C) × (left : List K) × Leads Steps n c choices d left × Steps d left (last f)

  once : IsDetermined Steps → (n m : ℕ) (c : C) (choices : List K) (f g : Final) → Goes n c choices f → Goes m c choices g → (n ≡ m) × (f ≡ g)
  once same zero zero c choices f g one other =
      (let P : C → Type 0 = λ x. Steps x choices (last f) in let Q : List K → Type 0 = λ l. Steps one.0 l (last f) in
      let P' : C → Type 0 = λ x. Steps x choices (last g) in let Q' : List K → Type 0 = λ l. Steps other.0 l (last g) in
      let e : last f ≡ last g = same c choices (last f) (last g) (subst P (sym one.2.0) (subst Q (sym one.2.1) one.3)) (subst P' (sym other.2.0) (subst Q' (sym other.2.1) other.3)) in (refl, cc))
  once same zero (suc m) c choices f g one other =
      (let P : C → Type 0 = λ x. Steps x choices (last f) in let Q : List K → Type 0 = λ l. Steps one.0 l (last f) in
      let e : last f ≡ next other.2.0 other.2.1 = same c choices (last f) (next other.2.0 other.2.1) (subst P (sym one.2.0) (subst Q (sym one.2.1) one.3)) other.2.2 in cc)
  once same (suc n) zero c choices f g one other =
      (let P : C → Type 0 = λ x. Steps x choices (last g) in let Q : List K → Type 0 = λ l. Steps other.0 l (last g) in
      let e : last g ≡ next one.2.0 one.2.1 = same c choices (last g) (next one.2.0 one.2.1) (subst P (sym other.2.0) (subst Q (sym other.2.1) other.3)) one.2.2 in cc)
  once same (suc n) (suc m) c choices f g one other =
      (let e : next other.2.0 other.2.1 ≡ next one.2.0 one.2.1 = same c choices (next other.2.0 other.2.1) (next one.2.0 one.2.1) other.2.2 one.2.2 in
      let first : other.2.0 ≡ one.2.0 = cc in
      let second : other.2.1 ≡ one.2.1 = cc in
      let P : C → Type 0 = λ x. Leads Steps m x other.2.1 other.0 other.1 in
      let Q : List K → Type 0 = λ l. Leads Steps m one.2.0 l other.0 other.1 in
      let later = once same n m one.2.0 one.2.1 f g (one.0, one.1, one.2.3, one.3) (other.0, other.1, subst Q second (subst P first other.2.3), other.3) in (ap suc later.0, later.1))

  -- the steps of a run before the one that tells its end: the last step is one but for an end
  abbrev before : Final → ℕ → ℕ
  before ended n = n
  before stopped zero = zero
  before stopped (suc n) = n
  before (fault kind place) zero = zero
  before (fault kind place) (suc n) = n

  goes : (n : ℕ) (c : C) (choices : List K) (f : Final) → ComesTo Steps n c choices f → Goes (before f n) c choices f
  goes n c choices ended is = is
  goes zero c choices stopped is = absurd is
  goes (suc n) c choices stopped is = is
  goes zero c choices (fault kind place) is = absurd is
  goes (suc n) c choices (fault kind place) is = is

  same_number : (n m : ℕ) (c : C) (choices : List K) (f : Final) → ComesTo Steps n c choices f → ComesTo Steps m c choices f → before f n ≡ before f m → n ≡ m
  same_number n m c choices ended one other e = e
  same_number zero m c choices stopped one other e = absurd one
  same_number (suc n) zero c choices stopped one other e = absurd other
  same_number (suc n) (suc m) c choices stopped one other e = ap suc e
  same_number zero m c choices (fault kind place) one other e = absurd one
  same_number (suc n) zero c choices (fault kind place) one other e = absurd other
  same_number (suc n) (suc m) c choices (fault kind place) one other e = ap suc e

  pub one_end : IsDetermined Steps → (n m : ℕ) (c : C) (choices : List K) (f g : Final) → ComesTo Steps n c choices f → ComesTo Steps m c choices g → (n ≡ m) × (f ≡ g)
  one_end same n m c choices f g one other =
      (let both = once same (before f n) (before g m) c choices f g (goes n c choices f one) (goes m c choices g other) in
      let P : Final → Type 0 = λ x. ComesTo Steps m c choices x in
      let E : Final → Type 0 = λ x. before f n ≡ before x m in
      (same_number n m c choices f one (subst P (sym both.1) other) (subst E (sym both.1) both.0), both.1))
