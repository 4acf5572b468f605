-- Where no function reaches a caller of its own, the functions have ranks.
use Rattle.std.proofs.Common.{◌≡◌, ◌⊎◌, ◌+◌, ◌<◌, ℕ, zero, suc, List, [], ◌∷◌, Bool, true, false, refl, sym, subst, inl, inr, arith}
use Rattle.std.specs.Prelude.{Contains}
use lib.Pointwise.{bytes_decides}
use Rattle.mc_c_syntax.specs.Ast.Names.{is_same}
use Rattle.mc_c_syntax.specs.Ast.Trees.{UnitTree}
use Rattle.mc_c_types.specs.Calls.{CallSite, Reaches, itself, through, call_sites}
use Rattle.mc_c_types.specs.Typing.{IsWellTyped, recursion_at}
use Rattle.mc_c_check.specs.Ranks.{AreRanks, HasRanks}
use Rattle.mc_c_types.proofs.Orders.{contains_here, contains_later, contains_cases, contains_none}

-- ---- whether a function is reached
abbrev Decides : List CallSite → List ℕ → List ℕ → Type 0
Decides sites goal x = Reaches sites x goal ⊎ (Reaches sites x goal → ⊥)

-- no call of it leads there
abbrev LeadsNowhere : List CallSite → List CallSite → List ℕ → List ℕ → Type 0
LeadsNowhere sites some goal x = (site : CallSite) → Contains some site → site.caller ≡ x → Reaches sites site.callee.text goal → ⊥

module _ (sites : List CallSite) (rank : List ℕ → ℕ) (ranks : AreRanks sites rank) (goal : List ℕ) where
  refuted : (x : List ℕ) → is_same x goal ≡ false → LeadsNowhere sites sites goal x → Reaches sites x goal → ⊥
  refuted x other none itself = (let same : is_same goal goal ≡ true = (bytes_decides goal goal).1 refl in cc)
  refuted x other none (through site made more) = none site made refl more

  -- after the first of some calls
  behind_first : (some : List CallSite) (site : CallSite) (x : List ℕ) → LeadsNowhere sites some goal x → (site.caller ≡ x → Reaches sites site.callee.text goal → ⊥) → LeadsNowhere sites (site ∷ some) goal x
  behind_first some site x none first other made e reaches =
      elim (contains_cases other site some made) [
        | inl p ↦ (let P : CallSite → Type 0 = λ s. (s.caller ≡ x) → Reaches sites s.callee.text goal → ⊥ in (subst P (sym p) first) e reaches)
        | inr p ↦ none other p e reaches
      ]

  abbrev Scanned : List CallSite → List ℕ → Type 0
  Scanned some x = Reaches sites x goal ⊎ LeadsNowhere sites some goal x

  one_more : (some : List CallSite) (site : CallSite) (x : List ℕ) (b : Bool) → is_same site.caller x ≡ b → Contains sites site → (site.caller ≡ x → Decides sites goal site.callee.text) → Scanned some x → Scanned (site ∷ some) x
  one_more some site x b same made decide (inl found) = inl found
  one_more some site x false same made decide (inr none) =
      inr (behind_first some site x none (λ e reaches. let is : is_same site.caller x ≡ true = (bytes_decides site.caller x).1 e in cc))
  one_more some site x true same made decide (inr none) =
      (let e : site.caller ≡ x = (bytes_decides site.caller x).0 same in
      elim (decide e) [
        | inl found ↦ inl (let P : List ℕ → Type 0 = λ y. Reaches sites y goal in subst P e (through site made found))
        | inr isnt ↦ inr (behind_first some site x none (λ f. isnt))
      ])

  scanned : (some : List CallSite) (x : List ℕ) (n : ℕ) → rank x < suc n → ((site : CallSite) → Contains some site → Contains sites site) → ((y : List ℕ) → rank y < n → Decides sites goal y) → Scanned some x
  scanned [] x n lt within decide = inr (λ site made e reaches. contains_none site made)
  scanned (site ∷ some) x n lt within decide =
      one_more some site x (is_same site.caller x) refl (within site (contains_here site some))
      (λ e. decide site.callee.text (let below = ranks site (within site (contains_here site some)) in let P : List ℕ → Type 0 = λ y. rank site.callee.text < rank y in let under : rank site.callee.text < rank x = subst P e below in omega arith))
      (scanned some x n lt (λ other made. within other (contains_later other site some made)) decide)

  first_or_later : (x : List ℕ) (b : Bool) → is_same x goal ≡ b → Scanned sites x → Decides sites goal x
  first_or_later x true same later = inl (let P : List ℕ → Type 0 = λ y. Reaches sites y goal in subst P (sym ((bytes_decides x goal).0 same)) itself)
  first_or_later x false same (inl found) = inl found
  first_or_later x false same (inr none) = inr (λ reaches. refuted x same none reaches)

  decided : (n : ℕ) (x : List ℕ) → rank x < n → Decides sites goal x
  decided zero x lt = absurd (omega arith)
  decided (suc n) x lt = first_or_later x (is_same x goal) refl (scanned sites x n lt (λ site made. made) (λ y small. decided n y small))

-- ---- ranks
abbrev NeverBack : List CallSite → Type 0
NeverBack sites = (site : CallSite) → Contains sites site → Reaches sites site.callee.text site.caller → ⊥

more_reach : (first : CallSite) (sites : List CallSite) (x y : List ℕ) → Reaches sites x y → Reaches (first ∷ sites) x y
more_reach first sites x y itself = itself
more_reach first sites x y (through site made more) = through site (contains_later site first sites made) (more_reach first sites site.callee.text y more)

-- what reaches the caller of a new call is raised above what it calls
abbrev raised : (rank : List ℕ → ℕ) (above : ℕ) (sites : List CallSite) (goal x : List ℕ) → Decides sites goal x → ℕ
raised rank above sites goal x (inl found) = rank x + suc above
raised rank above sites goal x (inr isnt) = rank x

module _ (first : CallSite) (sites : List CallSite) (never : NeverBack (first ∷ sites)) (rank : List ℕ → ℕ) (ranks : AreRanks sites rank) where
  decide : (x : List ℕ) → Decides sites first.caller x
  decide x = decided sites rank ranks first.caller (suc (rank x)) x (omega arith)

  abbrev above : ℕ
  above = rank first.callee.text

  old_call : (site : CallSite) → Contains sites site → (one : Decides sites first.caller site.callee.text) (other : Decides sites first.caller site.caller)
      → raised rank above sites first.caller site.callee.text one < raised rank above sites first.caller site.caller other
  old_call site made (inl one) (inl other) =
      (let below = ranks site made in let both : rank site.callee.text + suc (rank first.callee.text) < rank site.caller + suc (rank first.callee.text) = omega arith in both)
  old_call site made (inl one) (inr isnt) = absurd (isnt (through site made one))
  old_call site made (inr none) (inl other) =
      (let below = ranks site made in let one : rank site.callee.text < rank site.caller + suc (rank first.callee.text) = omega arith in one)
  old_call site made (inr none) (inr isnt) = ranks site made

  new_call : (one : Decides sites first.caller first.callee.text) (other : Decides sites first.caller first.caller)
      → raised rank above sites first.caller first.callee.text one < raised rank above sites first.caller first.caller other
  new_call (inl one) other = absurd (never first (contains_here first sites) (more_reach first sites first.callee.text first.caller one))
  new_call (inr none) (inl other) = (let one : rank first.callee.text < rank first.caller + suc (rank first.callee.text) = omega arith in one)
  new_call (inr none) (inr isnt) = absurd (isnt itself)

  with_first : (new : List ℕ → ℕ) × AreRanks (first ∷ sites) new
  with_first = (
    λ x. raised rank above sites first.caller x (decide x),
    λ site made. elim (contains_cases site first sites made) [
      | inl p ↦ (let P : CallSite → Type 0 = λ s. raised rank above sites first.caller s.callee.text (decide s.callee.text) < raised rank above sites first.caller s.caller (decide s.caller) in
          subst P (sym p) (new_call (decide first.callee.text) (decide first.caller)))
      | inr p ↦ old_call site p (decide site.callee.text) (decide site.caller)
    ],
  )

ranked : (sites : List CallSite) → NeverBack sites → (rank : List ℕ → ℕ) × AreRanks sites rank
ranked [] never = (λ x. 0, λ site made. absurd (contains_none site made))
ranked (first ∷ sites) never =
    (let before = ranked sites (λ site made reaches. never site (contains_later site first sites made) (more_reach first sites site.callee.text site.caller reaches)) in
    with_first first sites never before.0 before.1)

pub typed_ranks : (unit : UnitTree) (entry : List ℕ) → IsWellTyped unit entry → HasRanks unit
typed_ranks unit entry typed =
    ranked (call_sites unit) (λ site made reaches. typed.no_recursion (recursion_at site) (record { site = site; made = made; returns = reaches; told = refl }))
