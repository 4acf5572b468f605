-- When programs are well typed, and what their first fault is.
use Rattle.std.proofs.Common.{◌≡◌, ℕ, List, [], ◌∷◌, ◌++◌, ◌<◌, ◌≤◌, ◌⊎◌, refl, sym, ap, arith, Bool, true, false, inl, inr}
use Rattle.std.specs.Prelude.{Option, Some, None, IsTrue, Contains, map, nat_lt}
use Rattle.std.specs.List.{list_any, list_all}
use Rattle.mc_c_syntax.specs.Ast.Trees.{UnitTree}
use Rattle.mc_c_types.specs.Calls.{CallSite, call_sites, Reaches, itself, through}
use Rattle.mc_c_types.specs.Faults.{plain_faults}
use Rattle.mc_c_types.specs.First.{is_told, told_of}
use Rattle.mc_c_types.specs.Tables.{Tables, tables_of}
use Rattle.mc_c_types.specs.Typing.{recursion_at, IsRecursion, is_entry, HasEntry, Breaks, plainly, by_recursion, entry_fault, HasFault, breaks, no_entry, IsWellTyped, IsFirstFault, IsFaultless, IsToldOnce}
use Rattle.mc_c_types.specs.declared.faults.Fault.{Fault}
use Rattle.mc_c_types.proofs.Orders.{is_told-refl, is_told-antisym, is_told-trans, is_told-total, told_of-is, told_of-some, IsTold, contains_here, contains_later, contains_cases, contains_none, contains_nothing, told_of-before, told_of-among}

-- ---- the laws
well_typed_breaks : (unit : UnitTree) (entry : List ℕ) → IsWellTyped unit entry → (fault : Fault) → ¬ Breaks unit fault
well_typed_breaks unit entry w fault (plainly h) = contains_nothing (plain_faults unit) fault w.plain h
well_typed_breaks unit entry w fault (by_recursion h) = w.no_recursion fault h

well_typed_forward : (unit : UnitTree) (entry : List ℕ) → IsWellTyped unit entry → (fault : Fault) → ¬ HasFault unit entry fault
well_typed_forward unit entry w fault (breaks h) = well_typed_breaks unit entry w fault h
well_typed_forward unit entry w fault (no_entry none absent) = absent w.entered

no_plain : (fs : List Fault) → ((fault : Fault) → ¬ Contains fs fault) → fs ≡ []
no_plain [] h = refl
no_plain (f ∷ fs) h = absurd (h f (contains_here f fs))

entered_if : (b : Bool) → ¬ ¬ IsTrue b → IsTrue b
entered_if true h = refl
entered_if false h = absurd (h (λ p. grind arith))

well_typed_backward : (unit : UnitTree) (entry : List ℕ) → ((fault : Fault) → ¬ HasFault unit entry fault) → IsWellTyped unit entry
well_typed_backward unit entry h =
    record {
      plain = no_plain (plain_faults unit) (λ fault c. h fault (breaks (plainly c)));
      no_recursion = λ fault r. h fault (breaks (by_recursion r));
      entered = entered_if (list_any (is_entry entry) (tables_of unit).functions) (λ absent. h entry_fault (no_entry (λ fault b. h fault (breaks b)) absent));
    }

pub is_faultless : (unit : UnitTree) (entry : List ℕ) → IsFaultless unit entry
is_faultless unit entry = record { forward = well_typed_forward unit entry; backward = well_typed_backward unit entry }

pub is_told_once : (unit : UnitTree) (entry : List ℕ) → IsToldOnce unit entry
is_told_once unit entry =
    record {
      once = λ f g p q. is_told-antisym f g (p.first g q.is_one) (q.first f p.is_one);
      none = λ f p w. well_typed_forward unit entry w f p.is_one;
    }

-- ---- how to see that a call is no recursion: callees have lower ranks
abbrev pub IsRanked : List CallSite → (List ℕ → ℕ) → Type 0
IsRanked sites rank = (site : CallSite) → Contains sites site → rank site.callee.text < rank site.caller

-- the same as a test
abbrev pub ranks : List CallSite → (List ℕ → ℕ) → Bool
ranks sites rank = list_all (λ site. nat_lt (rank site.callee.text) (rank site.caller)) sites

pub ranked_all : (sites : List CallSite) (rank : List ℕ → ℕ) → ranks sites rank ≡ true → IsRanked sites rank
ranked_all [] rank e site h = absurd (contains_none site h)
ranked_all (x ∷ sites) rank e site h =
    elim (contains_cases site x sites h) [ inl p ↦ rw p (grind arith) | inr p ↦ (let more = ranked_all sites rank (grind arith) in more site p) ]

pub ranked_reaches : (sites : List CallSite) (rank : List ℕ → ℕ) → IsRanked sites rank → {f g : List ℕ} → Reaches sites f g → rank g ≤ rank f
ranked_reaches sites rank ranked itself = omega arith
ranked_reaches sites rank ranked (through site made more) =
    let below = ranked site made in let rest = ranked_reaches sites rank ranked more in omega arith

pub ranked_calls : (unit : UnitTree) (rank : List ℕ → ℕ) → IsRanked (call_sites unit) rank → (fault : Fault) → ¬ IsRecursion unit fault
ranked_calls unit rank ranked fault r =
    let below = ranked r.site r.made in let rest = ranked_reaches (call_sites unit) rank ranked r.returns in omega arith

pub no_calls : (unit : UnitTree) → call_sites unit ≡ [] → (fault : Fault) → ¬ IsRecursion unit fault
no_calls unit none fault r = contains_nothing (call_sites unit) r.site none r.made

-- ---- how to see which fault is the first
-- that calls are recursion is looked for among all calls
all_recursions : (sites : List CallSite) (site : CallSite) → Contains sites site → Contains (map recursion_at sites) (recursion_at site)
all_recursions [] site h = absurd (contains_none site h)
all_recursions (x ∷ sites) site h =
    elim (contains_cases site x sites h) [ inl p ↦ rw p (contains_here (recursion_at x) (map recursion_at sites)) | inr p ↦ contains_later (recursion_at site) (recursion_at x) (map recursion_at sites) (all_recursions sites site p) ]

-- the first of the plain faults, where no call is a recursion
pub plain_first : (unit : UnitTree) (entry : List ℕ) (f : Fault) → told_of None (plain_faults unit) ≡ Some f → ((g : Fault) → ¬ IsRecursion unit g) → IsFirstFault unit entry f
plain_first unit entry f e none =
    record { is_one = breaks (plainly (told_of-among (plain_faults unit) f e)); first = λ g h. plain_before g h } where
      is_broken : Breaks unit f
      is_broken = plainly (told_of-among (plain_faults unit) f e)

      plain_before : (g : Fault) → HasFault unit entry g → IsTrue (is_told f g)
      plain_before g (breaks (plainly h)) = told_of-before (plain_faults unit) f g e h
      plain_before g (breaks (by_recursion h)) = absurd (none g h)
      plain_before g (no_entry nothing absent) = absurd (nothing f is_broken)

-- the first of all calls, where it is a recursion and there is no plain fault
pub recursion_first : (unit : UnitTree) (entry : List ℕ) (f : Fault) → plain_faults unit ≡ [] → told_of None (map recursion_at (call_sites unit)) ≡ Some f → IsRecursion unit f → IsFirstFault unit entry f
recursion_first unit entry f plain e is =
    record { is_one = breaks (by_recursion is); first = λ g h. recursion_before g h } where
      recursion_before : (g : Fault) → HasFault unit entry g → IsTrue (is_told f g)
      recursion_before g (breaks (plainly h)) = absurd (contains_nothing (plain_faults unit) g plain h)
      recursion_before g (breaks (by_recursion h)) =
          rw h.told (told_of-before (map recursion_at (call_sites unit)) f (recursion_at h.site) e (all_recursions (call_sites unit) h.site h.made))
      recursion_before g (no_entry nothing absent) = absurd (nothing f (by_recursion is))

-- the missing entry, where there is no other fault
pub entry_first : (unit : UnitTree) (entry : List ℕ) → plain_faults unit ≡ [] → ((g : Fault) → ¬ IsRecursion unit g) → ¬ HasEntry unit entry → IsFirstFault unit entry entry_fault
entry_first unit entry plain none absent =
    record { is_one = no_entry nothing_else absent; first = λ g h. entry_before g h } where
      nothing_else : (g : Fault) → ¬ Breaks unit g
      nothing_else g (plainly h) = contains_nothing (plain_faults unit) g plain h
      nothing_else g (by_recursion h) = none g h

      entry_before : (g : Fault) → HasFault unit entry g → IsTrue (is_told entry_fault g)
      entry_before g (breaks h) = absurd (nothing_else g h)
      entry_before g (no_entry n a) = refl
