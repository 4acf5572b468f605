-- Programs whose variables are in scope where they are written.
use Rattle.std.specs.Prelude.{◌≡◌, ◌<◌, ◌≤◌, ◌++◌, ℕ, List, [], ◌∷◌, Option, Some, None, Contains, length, slice_get}
use Rattle.mc_semantics.specs.Resolved.Programs.{Action, assign, add, subtract, call, Simple, Initial, Start, nothing, declares}
use Rattle.mc_semantics.specs.Resolved.Programs.{performs, Stmt, declaration, block, empty, simple, free, assert, assume}
use Rattle.mc_semantics.specs.Resolved.Programs.{assume_shape, assert_shape, assert_empty, if_only, if_else, while_loop, do_loop}
use Rattle.mc_semantics.specs.Resolved.Programs.{for_loop, break_loop, continue_loop, returns, Stmts, no_more, then, Function, Program}

-- one of the function's variables, of which it has so many, that is in scope
abbrev pub IsIn : (count : ℕ) → List ℕ → ℕ → Type 0
IsIn count scope x = (x < count) × Contains scope x

-- no variable belongs to two blocks that are open
abbrev pub AreNew : List ℕ → List ℕ → Type 0
AreNew xs scope = (x : ℕ) → Contains xs x → Contains scope x → ⊥

-- ---- what is written is in scope
abbrev pub WritesIn : ℕ → List ℕ → Action → Type 0
WritesIn count scope (assign l right) = IsIn count scope l.variable
WritesIn count scope (add l e) = IsIn count scope l.variable
WritesIn count scope (subtract l e) = IsIn count scope l.variable
WritesIn count scope (call c) = Unit {0}

abbrev pub DeclareIn : ℕ → List ℕ → List Initial → Type 0
DeclareIn count scope [] = Unit {0}
DeclareIn count scope (item ∷ items) = IsIn count scope item.variable × DeclareIn count scope items

abbrev pub StartsIn : ℕ → List ℕ → Start → Type 0
StartsIn count scope nothing = Unit {0}
StartsIn count scope (declares place items) = DeclareIn count scope items
StartsIn count scope (performs x) = WritesIn count scope x.action

abbrev pub FinishesIn : ℕ → List ℕ → Option Simple → Type 0
FinishesIn count scope None = Unit {0}
FinishesIn count scope (Some x) = WritesIn count scope x.action

-- a block and the head of a `for` bring their own variables into scope
abbrev mutual
  pub IsScopedIn : ℕ → List ℕ → Stmt → Type 0
  IsScopedIn count scope (declaration place items) = DeclareIn count scope items
  IsScopedIn count scope (block xs ss) = AreNew xs scope × AreScopedIn count (xs ++ scope) ss
  IsScopedIn count scope empty = Unit {0}
  IsScopedIn count scope (simple x) = WritesIn count scope x.action
  IsScopedIn count scope (free place e) = Unit {0}
  IsScopedIn count scope (assert place c) = Unit {0}
  IsScopedIn count scope (assume place c) = Unit {0}
  IsScopedIn count scope (assume_shape place predicate x args) = IsIn count scope x
  IsScopedIn count scope (assert_shape place predicate a args) = Unit {0}
  IsScopedIn count scope (assert_empty place) = Unit {0}
  IsScopedIn count scope (if_only place c a) = IsScopedIn count scope a
  IsScopedIn count scope (if_else place c a b) = IsScopedIn count scope a × IsScopedIn count scope b
  IsScopedIn count scope (while_loop place c a) = IsScopedIn count scope a
  IsScopedIn count scope (do_loop place a c) = IsScopedIn count scope a
  IsScopedIn count scope (for_loop h a) =
      AreNew h.variables scope × StartsIn count (h.variables ++ scope) h.start
      × FinishesIn count (h.variables ++ scope) h.last × IsScopedIn count (h.variables ++ scope) a
  IsScopedIn count scope (break_loop place) = Unit {0}
  IsScopedIn count scope (continue_loop place) = Unit {0}
  IsScopedIn count scope (returns place right) = Unit {0}

  pub AreScopedIn : ℕ → List ℕ → Stmts → Type 0
  AreScopedIn count scope no_more = Unit {0}
  AreScopedIn count scope (then a more) = IsScopedIn count scope a × AreScopedIn count scope more

-- ---- functions and programs
-- some variables belong to no block, the parameters among them: these are in scope everywhere
pub record IsScoped (f : Function) : Type 0 where
  pub own : List ℕ
  pub parameters : (x : ℕ) → x < f.parameters → Contains own x
  pub counted : f.parameters ≤ length f.locals
  pub body : AreScopedIn (length f.locals) own f.body

abbrev pub AreScoped : Program → Type 0
AreScoped p = (n : ℕ) (f : Function) → slice_get p.functions n ≡ Some f → IsScoped f
