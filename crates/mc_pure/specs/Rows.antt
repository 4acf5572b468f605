-- The normal form as a list of rows, and one change of it.
use Rattle.std.specs.Prelude.{◌≡◌, ◌≢◌, ℕ, ℤ, pos, negsuc, ◌+ℤ◌, ◌-ℤ◌, ◌≤ℤ◌, ◌<ℤ◌, ◌⊎◌, ◌≤◌, ◌<◌, ◌+◌, List, [], ◌∷◌, Some, slice_get, cond, nat_eq, map}
use Rattle.mc_base.specs.declared.ids.NodeId.{NodeId}
use Rattle.mc_base.specs.declared.plain.Atom.{Atom}
use Rattle.mc_base.specs.declared.plain.Atom.TheVariants.{Eq, Ne, In}
use Rattle.mc_base.specs.Nodes.{null}
use Rattle.mc_pure.specs.declared.rows.Row.{Row}
use Rattle.mc_pure.specs.declared.rows.Change.{Change}
use Rattle.mc_pure.specs.declared.rows.Outcome.{Outcome}
use Rattle.mc_pure.specs.declared.rows.Outcome.TheVariants.{Same, Changed, False}
use Rattle.mc_pure.specs.Pure.{Pure, Kinds, IsNode, Base}
use Rattle.mc_pure.specs.Derived.{Follows, IsFalse}
use Rattle.mc_pure.specs.Normal.{low, high, Holds}

-- node 0, and the nodes that have kinds
abbrev pub nodes_of : Kinds → List NodeId
nodes_of kinds = null ∷ map (λ k. k.0) kinds

-- a node in a class of its own
abbrev pub lone_row : NodeId → ℤ → ℤ → Row
lone_row a lo hi = record { node = a; rep = a; off = pos 0; lo = lo; hi = hi }

-- the row of a node
abbrev pub row_at : List Row → NodeId → Row
row_at [] a = record { node = a; rep = a; off = pos 0; lo = pos 0; hi = pos 0 }
row_at (r ∷ rs) a = cond (nat_eq r.node.0 a.0) r (row_at rs a)

abbrev pub At : List Row → Row → Type 0
At rows r = (i : ℕ) × (slice_get rows i ≡ Some r)

abbrev pub Has : List Row → NodeId → Type 0
Has rows a = (r : Row) × At rows r × (r.node ≡ a)

-- a number of 64 bits
abbrev pub IsLong : ℤ → Type 0
IsLong x = (negsuc 9223372036854775807 ≤ℤ x) × (x ≤ℤ pos 9223372036854775807)

-- a row's numbers are
abbrev pub IsLongRow : Row → Type 0
IsLongRow r = IsLong r.off × IsLong r.lo × IsLong r.hi

-- within 2 to the 64
abbrev pub IsTight : ℤ → Type 0
IsTight x = (negsuc 18446744073709551615 ≤ℤ x) × (x ≤ℤ pos 18446744073709551616)

-- within 2 to the 65
abbrev pub IsShort : ℤ → Type 0
IsShort x = (negsuc 36893488147419103231 ≤ℤ x) × (x ≤ℤ pos 36893488147419103232)

-- within 2 to the 67
abbrev pub IsSmall : ℤ → Type 0
IsSmall x = (negsuc 147573952589676412927 ≤ℤ x) × (x ≤ℤ pos 147573952589676412928)

pub record RowSound (p : Pure) (r : Row) : Type 0 where
  pub node : IsNode p.kinds r.node
  pub equal : Follows p (Eq r.node r.rep r.off)
  pub within : Follows p (In r.node (low r) (high r))
  pub full : r.lo ≤ℤ r.hi
  pub above : negsuc 4611686018427387903 ≤ℤ r.lo
  pub below : r.hi ≤ℤ pos 4611686018427387903
  pub above' : negsuc 4611686018427387903 ≤ℤ low r
  pub below' : high r ≤ℤ pos 4611686018427387903
  pub least : r.rep.0 ≤ r.node.0
  -- a single number is null's class
  pub pinned : r.lo ≡ r.hi → r.rep ≡ null
  pub zero : r.rep ≡ null → (r.lo ≡ pos 0) × (r.hi ≡ pos 0)

abbrev pub Over : (N : NodeId → Type 0) → Atom → Type 0
Over N (Eq a b c) = N a × N b
Over N (Ne a b c) = N a × N b
Over N (In a l h) = N a

-- what the rows say follows
pub record IsSound (p : Pure) (rows : List Row) : Type 0 where
  pub each : (r : Row) → At rows r → RowSound p r
  pub coherent : (r s : Row) → At rows r → At rows s → r.rep ≡ s.rep → (r.lo ≡ s.lo) × (r.hi ≡ s.hi)
  pub all : (a : NodeId) → IsNode p.kinds a → Has rows a
  pub once : (r s : Row) → At rows r → At rows s → r.node ≡ s.node → r ≡ s
  pub known : (f : Atom) → Base p f → Over (IsNode p.kinds) f
  pub aligned : map (λ r. r.node) rows ≡ nodes_of p.kinds

-- class `gone` goes into class `keep`: gone = keep + by, and keep lies in [lo, hi]
abbrev pub changed : NodeId → NodeId → ℤ → ℤ → ℤ → Row → Row
changed gone keep by lo hi r =
    cond (nat_eq r.rep.0 gone.0) (record { node = r.node; rep = keep; off = r.off +ℤ by; lo = lo; hi = hi })
    (cond (nat_eq r.rep.0 keep.0) (record { node = r.node; rep = r.rep; off = r.off; lo = lo; hi = hi }) r)

abbrev pub changed_by : Change → Row → Row
changed_by c r = changed c.gone c.keep c.by c.lo c.hi r

-- each row's numbers have 64 bits after a change
abbrev pub StayLong : Change → List Row → Type 0
StayLong c rows = (r : Row) → At rows r → IsLongRow (changed_by c r)

-- a change leaves the first rows as they are
abbrev pub StayBelow : Change → List Row → ℕ → Type 0
StayBelow c rows n = (i : ℕ) (r : Row) → i < n → slice_get rows i ≡ Some r → changed_by c r ≡ r

abbrev pub span : ℤ → ℕ
span (pos n) = n
span (negsuc n) = 0

-- what falls with each change
abbrev pub weight : List Row → ℕ
weight [] = 0
weight (r ∷ rs) = (r.rep.0 + span (r.hi -ℤ r.lo)) + weight rs

-- what makes a change legal
pub record CanPut (p : Pure) (rows : List Row) (gone keep : NodeId) (by lo hi : ℤ) : Type 0 where
  pub equal : Follows p (Eq gone keep by)
  pub within : Follows p (In keep lo hi)
  pub full : lo ≤ℤ hi
  pub above : negsuc 4611686018427387903 ≤ℤ lo
  pub below : hi ≤ℤ pos 4611686018427387903
  pub gone_fits : (q : Row) → At rows q → q.rep ≡ gone → (q.lo ≤ℤ (lo +ℤ by)) × ((hi +ℤ by) ≤ℤ q.hi)
  pub keep_fits : (q : Row) → At rows q → q.rep ≡ keep → (q.lo ≤ℤ lo) × (hi ≤ℤ q.hi)
  pub order : keep.0 ≤ gone.0
  pub pinned : lo ≡ hi → keep ≡ null
  pub zero : keep ≡ null → (lo ≡ pos 0) × (hi ≡ pos 0)
  pub less : (q : Row) × At rows q × (q.rep ≡ gone) × ((keep.0 < gone.0) ⊎ ((q.lo <ℤ (lo +ℤ by)) ⊎ ((hi +ℤ by) <ℤ q.hi)))

abbrev pub view : List Row → NodeId → Row
view rows a = row_at rows a

-- the atom needs no change
abbrev pub Settled : Pure → List Row → Atom → Type 0
Settled p rows (Eq a b c) = Holds p (view rows) (Eq a b c)
Settled p rows (In a l h) = Holds p (view rows) (In a l h)
Settled p rows (Ne a b c) =
    ((view rows a).rep ≡ (view rows b).rep → (view rows a).off ≢ (view rows b).off +ℤ c)
    × ((view rows b).lo ≡ (view rows b).hi → (low (view rows a) ≢ low (view rows b) +ℤ c) × (high (view rows a) ≢ low (view rows b) +ℤ c))
    × ((view rows a).lo ≡ (view rows a).hi → (low (view rows a) ≢ low (view rows b) +ℤ c) × (low (view rows a) ≢ high (view rows b) +ℤ c))

-- equalities and ranges, which stay settled
abbrev pub IsTie : Atom → Type 0
IsTie (Eq a b c) = Unit {0}
IsTie (In a l h) = Unit {0}
IsTie (Ne a b c) = ⊥

abbrev pub Keeps : Pure → (before now : List Row) → Type 0
Keeps p before now = (f : Atom) → IsTie f → Settled p before f → Settled p now f

-- one change, after which each row that differs is of one class
pub record Lighter (p : Pure) (before now : List Row) (class : NodeId) : Type 0 where
  pub sound : IsSound p now
  pub less : weight now < weight before
  pub keeps : Keeps p before now
  pub within : (a : NodeId) → IsNode p.kinds a → (row_at now a ≡ row_at before a) ⊎ ((row_at now a).rep ≡ class)

-- one step that settles P
abbrev pub Stepped : (p : Pure) (before now : List Row) (P : Type 0) → Outcome → Type 0
Stepped p before now P Same = (now ≡ before) × P
Stepped p before now P (Changed class) = Lighter p before now class
Stepped p before now P False = IsFalse p
