-- What the small steps answer.
use Rattle.std.specs.Prelude.{◌≡◌, ◌≢◌, ℕ, ℤ, pos, ◌+ℤ◌, ◌-ℤ◌, ◌≤ℤ◌, ◌<ℤ◌, ◌⊎◌, ◌<◌, ◌≤◌, neg_ℤ, List, ◌∷◌, Some, slice_get, map}
use Rattle.std.specs.Int.{int_max, int_min}
use Rattle.mc_base.specs.declared.ids.NodeId.{NodeId}
use Rattle.mc_base.specs.declared.plain.Atom.{Atom}
use Rattle.mc_base.specs.declared.plain.Atom.TheVariants.{Eq, Ne, In}
use Rattle.mc_base.specs.Nodes.{null}
use Rattle.mc_pure.specs.declared.rows.Row.{Row}
use Rattle.mc_pure.specs.declared.rows.Change.{Change}
use Rattle.mc_pure.specs.declared.rows.Span.{Span}
use Rattle.mc_pure.specs.declared.rows.Outcome.{Outcome}
use Rattle.mc_pure.specs.declared.rows.Outcome.TheVariants.{Same, Changed, False}
use Rattle.mc_pure.specs.declared.steps.Split.{Split}
use Rattle.mc_pure.specs.declared.steps.Split.TheVariants.{Nothing, Clash, Left, Right}
use Rattle.mc_pure.specs.declared.steps.Step.{Step}
use Rattle.mc_pure.specs.declared.steps.Step.TheVariants.{Stay, Empty, To}
use Rattle.mc_base.specs.declared.plain.Kind.{Kind}
use Rattle.mc_pure.specs.declared.scope.Scope.{Scope}
use Rattle.mc_pure.specs.Atoms.{apart_of}
use Rattle.mc_pure.specs.Scopes.{IsWithin}
use Rattle.mc_pure.specs.Pure.{Pure, Kinds, Base, low_of, high_of, kind_atom, address_atom}
use Rattle.mc_pure.specs.Normal.{Apart}
use Rattle.mc_pure.specs.Rows.{changed_by, StayLong, row_at, lone_row, IsSound, IsTight, IsTie, Keeps, Settled}

-- class `gone`, which is one number, goes into null's class
pub record IsPin (gone : NodeId) (by : ℤ) (c : Change) : Type 0 where
  pub gone_is : c.gone ≡ gone
  pub keep_is : c.keep ≡ null
  pub by_is : c.by ≡ by
  pub lo_is : c.lo ≡ pos 0
  pub hi_is : c.hi ≡ pos 0

-- the class of a row, cut to [lo, hi]
pub record IsCut (r : Row) (lo hi : ℤ) (c : Change) : Type 0 where
  pub gone_is : c.gone ≡ r.rep
  pub keep_is : c.keep ≡ r.rep
  pub by_is : c.by ≡ pos 0
  pub lo_is : c.lo ≡ lo
  pub hi_is : c.hi ≡ hi

abbrev pub CutTo : Row → ℤ → ℤ → Step → Type 0
CutTo r lo hi Stay = (lo ≤ℤ r.lo) × (r.hi ≤ℤ hi)
CutTo r lo hi Empty = hi <ℤ lo
CutTo r lo hi (To c) =
    (lo ≤ℤ hi) × ((r.lo <ℤ lo) ⊎ (hi <ℤ r.hi)) × (((lo ≡ hi) × IsPin r.rep lo c) ⊎ ((lo ≢ hi) × IsCut r lo hi c))

-- a row's node is found to lie in [l, h]
abbrev pub CutIs : Row → ℤ → ℤ → Step → Type 0
CutIs r l h = CutTo r (int_max r.lo (l -ℤ r.off)) (int_min r.hi (h -ℤ r.off))

pub record IsJoin (up down : Row) (b lo hi : ℤ) (c : Change) : Type 0 where
  pub gone_is : c.gone ≡ up.rep
  pub keep_is : c.keep ≡ down.rep
  pub by_is : c.by ≡ b
  pub lo_is : c.lo ≡ lo
  pub hi_is : c.hi ≡ hi

abbrev pub JoinTo : Row → Row → ℤ → ℤ → ℤ → Step → Type 0
JoinTo up down b lo hi Stay = ⊥
JoinTo up down b lo hi Empty = hi <ℤ lo
JoinTo up down b lo hi (To c) =
    (lo ≤ℤ hi)
    × (((lo ≡ hi) × (down.rep ≢ null) × IsPin up.rep (lo +ℤ b) c) ⊎ (((lo ≡ hi) → down.rep ≡ null) × IsJoin up down b lo hi c))

-- up.rep is down.rep plus b
abbrev pub JoinIs : Row → Row → ℤ → Step → Type 0
JoinIs up down b = JoinTo up down b (int_max down.lo (up.lo -ℤ b)) (int_min down.hi (up.hi -ℤ b))

abbrev pub SmallStep : Step → (ℤ → Type 0) → Type 0
SmallStep Stay P = Unit {0}
SmallStep Empty P = Unit {0}
SmallStep (To c) P = P c.by

-- each row's numbers have 64 bits after a step
abbrev pub StepStaysLong : Step → List Row → Type 0
StepStaysLong Stay rows = Unit {0}
StepStaysLong Empty rows = Unit {0}
StepStaysLong (To c) rows = StayLong c rows

-- a class goes into one whose least node is not greater, and null's class stays 0
abbrev pub IsDownward : Step → Type 0
IsDownward Stay = Unit {0}
IsDownward Empty = Unit {0}
IsDownward (To c) = (c.keep.0 ≤ c.gone.0) × (c.keep ≡ null → (c.lo ≡ pos 0) × (c.hi ≡ pos 0))

abbrev pub ActIs : Step → (before now : List Row) → Outcome → Type 0
ActIs Stay before now Same = now ≡ before
ActIs Stay before now (Changed class) = ⊥
ActIs Stay before now False = ⊥
ActIs Empty before now Same = ⊥
ActIs Empty before now (Changed class) = ⊥
ActIs Empty before now False = Unit {0}
ActIs (To c) before now Same = ⊥
ActIs (To c) before now (Changed class) = (now ≡ map (changed_by c) before) × (class ≡ c.keep)
ActIs (To c) before now False = ⊥

-- the range without one number, where that is an end
abbrev pub WithoutIs : Span → ℤ → Span → Type 0
WithoutIs r v s =
    ((v ≡ r.lo) × (s.lo ≡ r.lo +ℤ pos 1) × (s.hi ≡ r.hi))
    ⊎ (((v ≡ r.hi) × (s.lo ≡ r.lo) × (s.hi ≡ r.hi -ℤ pos 1))
    ⊎ ((v ≢ r.lo) × (v ≢ r.hi) × (s.lo ≡ r.lo) × (s.hi ≡ r.hi)))

-- a row whose numbers are small
pub record IsTame (r : Row) : Type 0 where
  pub off : IsTight r.off
  pub lo : IsTight r.lo
  pub hi : IsTight r.hi

-- what makes two nodes one class
abbrev pub LinkIs : Row → Row → ℤ → Step → Type 0
LinkIs r t c Stay = (r.rep ≡ t.rep) × (r.off ≡ t.off +ℤ c)
LinkIs r t c Empty =
    ((r.rep ≡ t.rep) × (r.off ≢ t.off +ℤ c))
    ⊎ (JoinIs r t ((t.off +ℤ c) -ℤ r.off) Empty ⊎ JoinIs t r (neg_ℤ ((t.off +ℤ c) -ℤ r.off)) Empty)
LinkIs r t c (To g) =
    ((t.rep.0 < r.rep.0) × JoinIs r t ((t.off +ℤ c) -ℤ r.off) (To g))
    ⊎ ((r.rep.0 < t.rep.0) × JoinIs t r (neg_ℤ ((t.off +ℤ c) -ℤ r.off)) (To g))

-- what a disequality asks of two rows
abbrev pub SplitIs : Row → Row → ℤ → Split → Type 0
SplitIs r t c Nothing =
    ((r.rep ≡ t.rep) × (r.off ≢ t.off +ℤ c))
    ⊎ ((r.rep ≢ t.rep) × (t.lo ≢ t.hi) × (r.lo ≢ r.hi))
SplitIs r t c Clash = (r.rep ≡ t.rep) × (r.off ≡ t.off +ℤ c)
SplitIs r t c (Left s) =
    (r.rep ≢ t.rep) × (t.lo ≡ t.hi)
    × WithoutIs (record { lo = r.lo +ℤ r.off; hi = r.hi +ℤ r.off }) ((t.lo +ℤ t.off) +ℤ c) s
SplitIs r t c (Right s) =
    (r.rep ≢ t.rep) × (t.lo ≢ t.hi) × (r.lo ≡ r.hi)
    × WithoutIs (record { lo = t.lo +ℤ t.off; hi = t.hi +ℤ t.off }) ((r.lo +ℤ r.off) -ℤ c) s

-- nothing is to be done
abbrev pub IsStable : Pure → List Row → Type 0
IsStable p rows = (f : Atom) → Base p f → Settled p rows f

-- the equalities and ranges are settled
abbrev pub HasTies : Pure → List Row → Type 0
HasTies p rows = (f : Atom) → IsTie f → Base p f → Settled p rows f

-- a disequality of two rows, moved along classes
abbrev pub MovedRows : (x y : Row) (d : ℤ) (a b : Row) (c : ℤ) → Type 0
MovedRows x y d a b c = (x.rep ≡ a.rep) × (y.rep ≡ b.rep) × (c +ℤ (b.off +ℤ x.off) ≡ d +ℤ (y.off +ℤ a.off))

abbrev pub MovedAtom : List Row → Atom → (a b : Row) (c : ℤ) → Type 0
MovedAtom rows (Ne x y d) a b c = MovedRows (row_at rows x) (row_at rows y) d a b c
    ⊎ MovedRows (row_at rows x) (row_at rows y) d b a (neg_ℤ c)
MovedAtom rows (Eq x y d) a b c = ⊥
MovedAtom rows (In x l h) a b c = ⊥

-- each node alone, in its kind's range
abbrev pub kind_row : NodeId × Kind → Row
kind_row k = lone_row k.0 (low_of k.1) (high_of k.1)

abbrev pub start_rows : Kinds → List Row
start_rows kinds = lone_row null (pos 0) (pos 0) ∷ map kind_row kinds

-- the ranges of the kinds are settled
pub record HasKinds (p : Pure) (rows : List Row) : Type 0 where
  pub zero : Settled p rows (In null (pos 0) (pos 0))
  pub kinds : (i : ℕ) (n : NodeId) (k : Kind) → slice_get p.kinds i ≡ Some (n, k) → Settled p rows (kind_atom n k)

-- steps that leave an atom settled
pub record Enforced (p : Pure) (before now : List Row) (P : Type 0) : Type 0 where
  pub sound : IsSound p now
  pub keeps : Keeps p before now
  pub settled : P

-- the first equalities and ranges of the written atoms are settled
abbrev pub TiesBelow : Pure → List Row → ℕ → Type 0
TiesBelow p rows n = (i : ℕ) (f : Atom) → i < n → slice_get p.written i ≡ Some f → IsTie f → Settled p rows f

abbrev pub Ties : Pure → List Row → Type 0
Ties p rows = (i : ℕ) (f : Atom) → slice_get p.written i ≡ Some f → IsTie f → Settled p rows f

-- the first blocks start at addresses
abbrev pub AddressesBelow : Pure → List Row → ℕ → Type 0
AddressesBelow p rows n = (i : ℕ) (a : NodeId) → i < n → slice_get p.starts i ≡ Some a → Settled p rows (address_atom a)

abbrev pub Addresses : Pure → List Row → Type 0
Addresses p rows = (i : ℕ) (a : NodeId) → slice_get p.starts i ≡ Some a → Settled p rows (address_atom a)

-- the first written disequalities are settled
abbrev pub WrittenBelow : Pure → List Row → ℕ → Type 0
WrittenBelow p rows n = (i : ℕ) (f : Atom) → i < n → slice_get (apart_of p.written) i ≡ Some f → Settled p rows f

abbrev pub Written : Pure → List Row → Type 0
Written p rows = (i : ℕ) (f : Atom) → slice_get (apart_of p.written) i ≡ Some f → Settled p rows f

-- two blocks start apart
abbrev pub PairSettled : Pure → List Row → (i j : ℕ) → Type 0
PairSettled p rows i j =
    (a b : NodeId) → i ≢ j → slice_get p.starts i ≡ Some a → slice_get p.starts j ≡ Some b
    → Settled p rows (Ne a b (pos 0))

-- a block starts apart from the first others
abbrev pub StartBelow : Pure → List Row → (i n : ℕ) → Type 0
StartBelow p rows i n = (j : ℕ) → j < n → PairSettled p rows i j

-- a block starts apart from all others
abbrev pub StartSettled : Pure → List Row → ℕ → Type 0
StartSettled p rows i = (j : ℕ) → PairSettled p rows i j

-- where it is looked at
abbrev pub StartWithin : Pure → List Row → Scope → ℕ → Type 0
StartWithin p rows scope i =
    (a : NodeId) → slice_get p.starts i ≡ Some a → IsWithin scope (row_at rows a) → StartSettled p rows i

-- the first blocks that are looked at start apart from all others
abbrev pub StartsBelow : Pure → List Row → Scope → ℕ → Type 0
StartsBelow p rows scope n = (i : ℕ) → i < n → StartWithin p rows scope i

abbrev pub Starts : Pure → List Row → Scope → Type 0
Starts p rows scope = (i : ℕ) → StartWithin p rows scope i

-- an atom known from the beginning gives the disequality of two rows
abbrev pub IsGiven : Pure → List Row → (a b : Row) (c : ℤ) → Type 0
IsGiven p rows a b c = (f : Atom) × Base p f × MovedAtom rows f a b c

-- a written disequality does
abbrev pub IsGivenByWritten : Pure → List Row → (a b : Row) (c : ℤ) → Type 0
IsGivenByWritten p rows a b c =
    (i : ℕ) × (f : Atom) × (slice_get (apart_of p.written) i ≡ Some f) × MovedAtom rows f a b c

-- that of the starts of two blocks does
abbrev pub IsGivenByPair : Pure → List Row → (i j : ℕ) → (a b : Row) (c : ℤ) → Type 0
IsGivenByPair p rows i j a b c =
    (x y : NodeId) × (i ≢ j) × (slice_get p.starts i ≡ Some x) × (slice_get p.starts j ≡ Some y)
    × MovedRows (row_at rows x) (row_at rows y) (pos 0) a b c

abbrev pub IsGivenByStart : Pure → List Row → ℕ → (a b : Row) (c : ℤ) → Type 0
IsGivenByStart p rows i a b c = (j : ℕ) × IsGivenByPair p rows i j a b c

abbrev pub IsGivenByStarts : Pure → List Row → (a b : Row) (c : ℤ) → Type 0
IsGivenByStarts p rows a b c = (i : ℕ) × IsGivenByStart p rows i a b c

-- what makes a disequality hold: the ranges, or an atom known from the beginning
abbrev pub DiffersAt : Pure → List Row → Row → Row → ℤ → Type 0
DiffersAt p rows a b c = Apart a b c ⊎ IsGiven p rows a b c
