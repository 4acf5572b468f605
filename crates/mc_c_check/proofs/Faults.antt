-- What is known of all faults.
use Rattle.std.proofs.Common.{◌≡◌, ℕ, List, [], ◌∷◌, ◌++◌, ◌+◌, ◌<◌, refl, sym, ap, ◌∙◌, inl, inr, map, flat_map, take, get_or, length, Bool, true, false, Bor}
use Rattle.std.proofs.lemmas.Option.{none-some, same_Some}
use Rattle.std.proofs.lemmas.List.{take_more}
use Rattle.std.specs.Prelude.{Contains, IsTrue, Option, Some, None}
use Rattle.std.specs.List.{list_any}
use Rattle.mc_c_syntax.specs.declared.ast.trees.Function.{Function}
use Rattle.mc_c_syntax.specs.Ast.Views.{function_of}
use Rattle.mc_c_syntax.specs.Ast.Trees.{UnitTree}
use Rattle.mc_c_check.specs.Collected.{functions_held}
use Rattle.mc_c_types.specs.Calls.{call_sites, item_sites}
use Rattle.mc_c_types.specs.Faults.{plain_faults}
use Rattle.mc_c_types.specs.First.{is_told, told_of}
use Rattle.mc_c_types.specs.Tables.{Tables, tables_of}
use Rattle.mc_c_types.specs.Typing.{Breaks, plainly, by_recursion, HasFault, breaks, no_entry, HasEntry, is_entry, entry_fault, IsFirstFault, IsWellTyped}
use Rattle.mc_c_types.specs.declared.faults.Fault.{Fault}
use Rattle.mc_c_check.specs.declared.graph.Edge.{Edge}
use Rattle.mc_c_check.specs.Graphs.{edge_of, fault_at, Leads}
use Rattle.mc_c_check.specs.Told.{IsBehind, IsFirstBroken, IsToldOfRules, IsToldWith}
use Rattle.mc_c_check.proofs.Members.{contains_front, contains_back, contains_either, get_same}
use Rattle.mc_c_check.proofs.Repeats.{any_mapped, tree_of}
use Rattle.mc_c_check.proofs.Recursions.{callers_known, loop_recursion, recursion_loop}
use Rattle.mc_c_types.proofs.Orders.{contains_here, contains_cases, contains_none, is_told-refl, is_told-total, is_told-trans, told_of-among, told_of-before, told_of-some}

-- ---- what is known of plain faults
pub record Plain (faults : List Fault) (told : Option Fault) : Type 0 where
  pub among : (f : Fault) → told ≡ Some f → Contains faults f
  pub behind : (f : Fault) → Contains faults f → IsBehind told f

pub plain_told : (faults : List Fault) → Plain faults (told_of None faults)
plain_told [] = record { among = λ f e. absurd (none-some f e); behind = λ f h. absurd (contains_none f h) }
plain_told (x ∷ xs) =
    let known = told_of-some x xs in
    rw known.1
    record { among = λ f e. told_of-among (x ∷ xs) f (known.1 ∙ e); behind = λ f h. told_of-before (x ∷ xs) known.0 f known.1 h }

-- ---- the calls, one after another
pub told_first : (edges : List Edge) (before : Option Fault) → IsToldWith edges [] before before
told_first edges before =
    record {
      among = λ f e. inl e;
      kept = λ f e. rw e (is_told-refl f);
      first = λ f h. absurd (contains_none h.edge h.made);
    }

-- a call that changes nothing
pub told_skipped : (edges : List Edge) (x : Edge) (told : Option Fault) → (Leads edges x.callee x.caller → IsBehind told (fault_at x)) → IsToldWith edges (x ∷ []) told told
told_skipped edges x told skipped =
    record {
      among = λ f e. inl e;
      kept = λ f e. rw e (is_told-refl f);
      first = λ f l. elim (contains_cases l.edge x [] l.made) [ inl p ↦ rw l.told (rw p (skipped (rw p at l.returns))) | inr p ↦ absurd (contains_none l.edge p) ];
    }

-- a fault that stands before what is known stands before all that is after that
stands_before : (told : Option Fault) (x f : Fault) → (IsBehind told x → ⊥) → IsBehind told f → IsTrue (is_told x f)
stands_before None x f new h = absurd h
stands_before (Some g) x f new h = is_told-trans x g f (is_told-total g x (no_test (is_told g x) new)) h where
  no_test : (b : Bool) → (b ≡ true → ⊥) → b ≡ false
  no_test true never = absurd (never refl)
  no_test false never = refl

-- a call whose fault is known from then on
pub told_replaced : (edges : List Edge) (x : Edge) (told : Option Fault) → Leads edges x.callee x.caller → (IsBehind told (fault_at x) → ⊥) → IsToldWith edges (x ∷ []) told (Some (fault_at x))
told_replaced edges x told returns new =
    record {
      among = λ f e. inr (record { edge = x; made = contains_here x []; returns = returns; told = sym (same_Some (fault_at x) f e) });
      kept = λ f e. stands_before told (fault_at x) f new (rw e (is_told-refl f));
      first = λ f l. elim (contains_cases l.edge x [] l.made) [ inl p ↦ rw l.told (rw p (is_told-refl (fault_at x))) | inr p ↦ absurd (contains_none l.edge p) ];
    }

behind_all : (before after : Option Fault) (f : Fault) → ((g : Fault) → before ≡ Some g → IsBehind after g) → IsBehind before f → IsBehind after f
behind_all None after f kept h = absurd h
behind_all (Some g) None f kept h = absurd (kept g refl)
behind_all (Some g) (Some t) f kept h = is_told-trans t g f (kept g refl) h

-- some calls, and then others
told_then : (edges xs ys : List Edge) (before told after : Option Fault) → IsToldWith edges xs before told → IsToldWith edges ys told after → IsToldWith edges (xs ++ ys) before after
told_then edges xs ys before told after g h =
    record {
      among = λ f e. elim (h.among f e) [
        | inl p ↦ elim (g.among f p) [
          | inl q ↦ inl q
          | inr l ↦ inr (record { edge = l.edge; made = contains_front l.edge xs ys l.made; returns = l.returns; told = l.told })
        ]
        | inr l ↦ inr (record { edge = l.edge; made = contains_back l.edge xs ys l.made; returns = l.returns; told = l.told })
      ];
      kept = λ f e. behind_all told after f h.kept (g.kept f e);
      first = λ f l. elim (contains_either l.edge xs ys l.made) [
        | inl p ↦ behind_all told after f h.kept (g.first f (record { edge = l.edge; made = p; returns = l.returns; told = l.told }))
        | inr p ↦ h.first f (record { edge = l.edge; made = p; returns = l.returns; told = l.told })
      ];
    }

pub told_next : (edges : List Edge) (i : ℕ) (x : Edge) (before told after : Option Fault) → i < length edges → x ≡ get_or edges i x
    → IsToldWith edges (take i edges) before told → IsToldWith edges (x ∷ []) told after → IsToldWith edges (take (i + 1) edges) before after
told_next edges i x before told after below is g h = rw (take_more edges i x below) (rw (sym is) (told_then edges (take i edges) (x ∷ []) before told after g h))

pub told_got : (edges : List Edge) (i : ℕ) (d : Edge) (before told after : Option Fault) → i < length edges
    → IsToldWith edges (take i edges) before told → IsToldWith edges (get_or edges i d ∷ []) told after → IsToldWith edges (take (i + 1) edges) before after
told_got edges i d before told after below g h = told_next edges i (get_or edges i d) before told after below (get_same edges i d (get_or edges i d) below) g h

-- ---- the broken rules
abbrev edges_of : UnitTree → List Edge
edges_of unit = map (edge_of (tables_of unit).functions) (call_sites unit)

all_behind : (unit : UnitTree) (before after : Option Fault) → Plain (plain_faults unit) before → IsToldWith (edges_of unit) (edges_of unit) before after
    → (f : Fault) → Breaks unit f → IsBehind after f
all_behind unit before after p h f (plainly c) = behind_all before after f h.kept (p.behind f c)
all_behind unit before after p h f (by_recursion r) = h.first f (recursion_loop unit (tables_of unit).functions f r)

pub rules_told : (unit : UnitTree) (before after : Option Fault) → Plain (plain_faults unit) before → IsToldWith (edges_of unit) (edges_of unit) before after → IsToldOfRules unit after
rules_told unit before None p h = λ f b. all_behind unit before None p h f b
rules_told unit before (Some f) p h =
    record {
      broken = elim (h.among f refl) [
        | inl e ↦ plainly (p.among f e)
        | inr l ↦ by_recursion (loop_recursion unit (tables_of unit).functions f (callers_known unit) l)
      ];
      first = λ g b. all_behind unit before (Some f) p h g b;
    }

-- the same for what the code holds
pub rules_answer : (unit items : UnitTree) (t : Tables) (before after : Option Fault) → t ≡ tables_of unit → items ≡ unit
    → before ≡ told_of None (plain_faults unit)
    → IsToldWith (map (edge_of t.functions) (flat_map item_sites items)) (map (edge_of t.functions) (flat_map item_sites items)) before after
    → IsToldOfRules unit after
rules_answer unit items t before after same whole plain h =
    rules_told unit before after (rw plain (plain_told (plain_faults unit))) (rw same at (rw whole at h))

-- ---- the whole answer
pub broken_answer : (unit : UnitTree) (entry : List ℕ) (f : Fault) → IsFirstBroken unit f → IsFirstFault unit entry f
broken_answer unit entry f h = record { is_one = breaks h.broken; first = λ g b. first_of_all g b } where
  first_of_all : (g : Fault) → HasFault unit entry g → IsTrue (is_told f g)
  first_of_all g (breaks b) = h.first g b
  first_of_all g (no_entry none absent) = absurd (none f h.broken)

no_plain : (fs : List Fault) → ((f : Fault) → Contains fs f → ⊥) → fs ≡ []
no_plain [] h = refl
no_plain (f ∷ fs) h = absurd (h f (contains_here f fs))

pub well_typed : (unit : UnitTree) (entry : List ℕ) → ((f : Fault) → ¬ Breaks unit f) → HasEntry unit entry → IsWellTyped unit entry
well_typed unit entry none entered =
    record {
      plain = no_plain (plain_faults unit) (λ f c. none f (plainly c));
      no_recursion = λ f r. none f (by_recursion r);
      entered = entered;
    }

pub entry_missing : (unit : UnitTree) (entry : List ℕ) → ((f : Fault) → ¬ Breaks unit f) → ¬ HasEntry unit entry → IsFirstFault unit entry entry_fault
entry_missing unit entry none absent = record { is_one = no_entry none absent; first = λ g b. first_of_all g b } where
  first_of_all : (g : Fault) → HasFault unit entry g → IsTrue (is_told entry_fault g)
  first_of_all g (breaks b) = absurd (none g b)
  first_of_all g (no_entry n a) = refl

-- what is looked for among functions, of which the code has references
pub entered : (entry : List ℕ) (fs : List (Bor Function)) (unit : UnitTree) (t : Tables) (found : Bool) → t ≡ tables_of unit → functions_held fs ≡ t.functions
    → found ≡ list_any (λ f. is_entry entry (function_of f.now)) fs → found ≡ list_any (is_entry entry) (tables_of unit).functions
entered entry fs unit t found same held e =
    e ∙ sym (any_mapped (is_entry entry) tree_of fs) ∙ ap (list_any (is_entry entry)) (held ∙ ap (λ s. s.functions) same)
