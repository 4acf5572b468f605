-- Expressions and conditions without faults are of the kinds that are wanted.
use Rattle.std.proofs.Common.{◌≡◌, ◌≤◌, ℕ, zero, suc, pos, true, refl, sym, subst, List, [], ◌++◌, length, arith}
use Rattle.std.proofs.lemmas.Int.{ints}
use Rattle.mc_base.specs.declared.plain.Kind.{Kind}
use Rattle.mc_base.specs.declared.plain.Kind.TheVariants.{Int as int_kind, Ptr}
use Rattle.mc_base.specs.Kinds.{InKind}
use Rattle.mc_base.specs.Text.Numbers.{max_number}
use Rattle.mc_c_syntax.specs.declared.ast.trees.Comparison.{Comparison}
use Rattle.mc_c_syntax.specs.declared.ast.trees.Comparison.TheVariants.{Equal, Unequal, Below, AtMost, Above, AtLeast}
use Rattle.mc_c_syntax.specs.Ast.Trees as tree
use Rattle.mc_c_grammar.specs.Numbers.Numbers.{expression_numbers, condition_numbers}
use Rattle.mc_c_types.specs.Types.{fits, number_type, is_int, is_pointer, are_comparable}
use Rattle.mc_c_types.specs.Tables.{Tables, Variable, kind_of}
use Rattle.mc_c_types.specs.Faults.{value_type, expression_faults, no_int, no_pointer, comparison_faults, condition_faults, left_type, first_place}
use Rattle.mc_c_types.specs.declared.faults.Fault.{Fault}
use Rattle.mc_c_types.specs.declared.faults.FaultName.TheVariants.{Mismatch}
use Rattle.mc_c_types.specs.declared.types.VariableType.{VariableType}
use Rattle.mc_c_types.specs.declared.types.VariableType.TheVariants.{Int, Pointer, Anything}
use Rattle.mc_c_types.specs.declared.types.ValueType.TheVariants.{Typed, Null}
use Rattle.mc_semantics.specs.Resolved.Programs.{number}
use Rattle.mc_semantics.specs.Resolved.Resolving.{Naming, resolved_expression, resolved_condition, resolved_left}
use Rattle.mc_lower_laws.specs.Valid.Kinds.{Here, IsOf, AreCompared, IsCondition, IsLeft}
use Rattle.mc_lower_laws.proofs.ScopedLemmas.Faultless.{none_left, none_right}
use Rattle.mc_lower_laws.proofs.KindsLemmas.Types.{Each, each_left, each_right, IsDefinite, IsDefiniteValue, definite, agreed, false_true, kept, fitting, fitting_pointer, fitting_both}
use Rattle.mc_lower_laws.proofs.KindsLemmas.Known.{AreShaped, AreSeen, placed}

abbrev pub AreSmall : List ℕ → Type 0
AreSmall ns = Each (λ k. k ≤ max_number) ns

-- ---- numbers
pub in_int : (k : ℕ) → k ≤ max_number → InKind int_kind (pos k)
in_int k small = omega (arith, ints, small)

number_is : (h : Here) (wanted : VariableType) (k : ℕ) → IsDefinite wanted → k ≤ max_number → fits wanted (number_type k) ≡ true → IsOf h (kind_of wanted) (number k)
number_is h Int k known small e = in_int k small
number_is h (Pointer s) zero known small e = refl
number_is h (Pointer s) (suc k) known small e = absurd (false_true e)
number_is h Anything k known small e = absurd known

null_is : (h : Here) (wanted : VariableType) → IsDefinite wanted → fits wanted Null ≡ true → IsOf h (kind_of wanted) (number 0)
null_is h Int known e = absurd (false_true e)
null_is h (Pointer s) known e = refl
null_is h Anything known e = absurd known

-- ---- expressions
-- where expressions stand
pub record Sees (n : Naming) (h : Here) (vs : List Variable) : Type 0 where
  pub shaped : AreShaped n.tables h
  pub seen : AreSeen n h vs

kind_is_int : (wanted : VariableType) → IsDefinite wanted → fits wanted (Typed Int) ≡ true → kind_of wanted ≡ int_kind
kind_is_int wanted known e = agreed wanted Int known tt e

left_is : (n : Naming) (h : Here) (vs : List Variable) (l : tree.Left) (kind : Kind) → kind ≡ kind_of (left_type n.tables vs l) → IsLeft h (kind_of (left_type n.tables vs l)) (resolved_left n vs l)
    → IsLeft h kind (resolved_left n vs l)
left_is n h vs l kind e is = subst (λ k. IsLeft h k (resolved_left n vs l)) (sym e) is

fits_int : (t : Tables) (vs : List Variable) (e : tree.Expr) → no_int t vs e ≡ [] → fits Int (value_type t vs e) ≡ true
fits_int t vs e none = kept (is_int (value_type t vs e)) Mismatch (first_place e) none

-- two operands without faults
record AreInts (t : Tables) (vs : List Variable) (a b : tree.Expr) : Type 0 where
  left : fits Int (value_type t vs a) ≡ true
  right : fits Int (value_type t vs b) ≡ true
  left_faultless : expression_faults t vs a ≡ []
  right_faultless : expression_faults t vs b ≡ []

are_ints : (t : Tables) (vs : List Variable) (a b : tree.Expr) → no_int t vs a ++ no_int t vs b ++ expression_faults t vs a ++ expression_faults t vs b ≡ [] → AreInts t vs a b
are_ints t vs a b none =
    let x : List Fault = no_int t vs a in
    let y : List Fault = no_int t vs b in
    let u : List Fault = expression_faults t vs a in
    let v : List Fault = expression_faults t vs b in
    let first : ((x ++ y) ++ u) ≡ [] = none_left ((x ++ y) ++ u) v none in
    let ints : (x ++ y) ≡ [] = none_left (x ++ y) u first in
    record {
      left = fits_int t vs a (none_left x y ints);
      right = fits_int t vs b (none_right x y ints);
      left_faultless = none_right (x ++ y) u first;
      right_faultless = none_right ((x ++ y) ++ u) v none;
    }

pub small_left : (ms ns : List ℕ) → AreSmall (ms ++ ns) → AreSmall ms
small_left ms ns small = each_left (λ k. k ≤ max_number) ms ns small

pub small_right : (ms ns : List ℕ) → AreSmall (ms ++ ns) → AreSmall ns
small_right ms ns small = each_right (λ k. k ≤ max_number) ms ns small

pub of_kind : (n : Naming) (h : Here) (vs : List Variable) → Sees n h vs → (wanted : VariableType) (e : tree.Expr) → IsDefinite wanted → AreSmall (expression_numbers e)
    → expression_faults n.tables vs e ≡ [] → fits wanted (value_type n.tables vs e) ≡ true → IsOf h (kind_of wanted) (resolved_expression n vs e)
of_kind n h vs sees wanted (tree.number k p) known small none fit = number_is h wanted k known small.0 fit
of_kind n h vs sees wanted (tree.null p) known small none fit = null_is h wanted known fit
of_kind n h vs sees wanted (tree.input p) known small none fit = kind_is_int wanted known fit
of_kind n h vs sees wanted (tree.value l) known small none fit =
    let at = placed n h vs l sees.shaped sees.seen none in
    left_is n h vs l (kind_of wanted) (agreed wanted (left_type n.tables vs l) known (definite _ (left_type n.tables vs l) at.proper) fit) at.is
of_kind n h vs sees wanted (tree.minus p a) known small none fit = (
  kind_is_int wanted known fit,
  of_kind n h vs sees Int a tt small (none_right (no_int n.tables vs a) (expression_faults n.tables vs a) none)
      (fits_int n.tables vs a (none_left (no_int n.tables vs a) (expression_faults n.tables vs a) none)),
)
of_kind n h vs sees wanted (tree.parens p a) known small none fit = of_kind n h vs sees wanted a known small none fit
of_kind n h vs sees wanted (tree.times a b) known small none fit =
    let r = are_ints n.tables vs a b none in (
      kind_is_int wanted known fit,
      of_kind n h vs sees Int a tt (small_left (expression_numbers a) (expression_numbers b) small) r.left_faultless r.left,
      of_kind n h vs sees Int b tt (small_right (expression_numbers a) (expression_numbers b) small) r.right_faultless r.right,
    )
of_kind n h vs sees wanted (tree.plus a b) known small none fit =
    let r = are_ints n.tables vs a b none in (
      kind_is_int wanted known fit,
      of_kind n h vs sees Int a tt (small_left (expression_numbers a) (expression_numbers b) small) r.left_faultless r.left,
      of_kind n h vs sees Int b tt (small_right (expression_numbers a) (expression_numbers b) small) r.right_faultless r.right,
    )
of_kind n h vs sees wanted (tree.difference a b) known small none fit =
    let r = are_ints n.tables vs a b none in (
      kind_is_int wanted known fit,
      of_kind n h vs sees Int a tt (small_left (expression_numbers a) (expression_numbers b) small) r.left_faultless r.left,
      of_kind n h vs sees Int b tt (small_right (expression_numbers a) (expression_numbers b) small) r.right_faultless r.right,
    )

-- ---- what an expression can be
number_definite : (k : ℕ) → IsDefiniteValue (number_type k)
number_definite zero = tt
number_definite (suc k) = tt

pub value_definite : (n : Naming) (h : Here) (vs : List Variable) → Sees n h vs → (e : tree.Expr) → expression_faults n.tables vs e ≡ [] → IsDefiniteValue (value_type n.tables vs e)
value_definite n h vs sees (tree.number k p) none = number_definite k
value_definite n h vs sees (tree.null p) none = tt
value_definite n h vs sees (tree.input p) none = tt
value_definite n h vs sees (tree.value l) none = definite (length n.tables.structs) (left_type n.tables vs l) (placed n h vs l sees.shaped sees.seen none).proper
value_definite n h vs sees (tree.minus p e) none = tt
value_definite n h vs sees (tree.parens p e) none = value_definite n h vs sees e none
value_definite n h vs sees (tree.times a b) none = tt
value_definite n h vs sees (tree.plus a b) none = tt
value_definite n h vs sees (tree.difference a b) none = tt

pub an_int : (n : Naming) (h : Here) (vs : List Variable) → Sees n h vs → (e : tree.Expr) → AreSmall (expression_numbers e)
    → no_int n.tables vs e ≡ [] → expression_faults n.tables vs e ≡ [] → IsOf h int_kind (resolved_expression n vs e)
an_int n h vs sees e small int none = of_kind n h vs sees Int e tt small none (fits_int n.tables vs e int)

pub a_pointer : (n : Naming) (h : Here) (vs : List Variable) → Sees n h vs → (e : tree.Expr) → AreSmall (expression_numbers e)
    → expression_faults n.tables vs e ≡ [] → no_pointer n.tables vs e ≡ [] → IsOf h Ptr (resolved_expression n vs e)
a_pointer n h vs sees e small none pointer =
    let w = fitting_pointer (value_type n.tables vs e) (value_definite n h vs sees e none) (kept (is_pointer (value_type n.tables vs e)) Mismatch (first_place e) pointer) in
    of_kind n h vs sees (Pointer w.struct) e tt small none w.fits

some_kind : (n : Naming) (h : Here) (vs : List Variable) → Sees n h vs → (e : tree.Expr) → AreSmall (expression_numbers e)
    → expression_faults n.tables vs e ≡ [] → (kind : Kind) × IsOf h kind (resolved_expression n vs e)
some_kind n h vs sees e small none =
    let w = fitting (value_type n.tables vs e) (value_definite n h vs sees e none) in
    (kind_of w.type, of_kind n h vs sees w.type e w.definite small none w.fits)

-- ---- conditions
one_kind : (n : Naming) (h : Here) (vs : List Variable) → Sees n h vs → (a b : tree.Expr) → AreSmall (expression_numbers a) → AreSmall (expression_numbers b)
    → expression_faults n.tables vs a ≡ [] → expression_faults n.tables vs b ≡ [] → are_comparable (value_type n.tables vs a) (value_type n.tables vs b) ≡ true
    → (kind : Kind) × IsOf h kind (resolved_expression n vs a) × IsOf h kind (resolved_expression n vs b)
one_kind n h vs sees a b first second left right e =
    let w = fitting_both (value_type n.tables vs a) (value_type n.tables vs b) (value_definite n h vs sees a left) (value_definite n h vs sees b right) e in
    (kind_of w.type, of_kind n h vs sees w.type a w.definite first left w.left_fits, of_kind n h vs sees w.type b w.definite second right w.right_fits)

two_ints : (n : Naming) (h : Here) (vs : List Variable) → Sees n h vs → (a b : tree.Expr) → AreSmall (expression_numbers a) → AreSmall (expression_numbers b)
    → expression_faults n.tables vs a ≡ [] → expression_faults n.tables vs b ≡ [] → no_int n.tables vs a ++ no_int n.tables vs b ≡ []
    → IsOf h int_kind (resolved_expression n vs a) × IsOf h int_kind (resolved_expression n vs b)
two_ints n h vs sees a b first second left right e =
    (an_int n h vs sees a first (none_left (no_int n.tables vs a) (no_int n.tables vs b) e) left, an_int n h vs sees b second (none_right (no_int n.tables vs a) (no_int n.tables vs b) e) right)

compared : (n : Naming) (h : Here) (vs : List Variable) → Sees n h vs → (c : Comparison) (a b : tree.Expr) → AreSmall (expression_numbers a) → AreSmall (expression_numbers b)
    → expression_faults n.tables vs a ≡ [] → expression_faults n.tables vs b ≡ [] → comparison_faults n.tables vs c a b ≡ []
    → AreCompared h c (resolved_expression n vs a) (resolved_expression n vs b)
compared n h vs sees Equal a b first second left right e =
    one_kind n h vs sees a b first second left right (kept (are_comparable (value_type n.tables vs a) (value_type n.tables vs b)) Mismatch (first_place b) e)
compared n h vs sees Unequal a b first second left right e =
    one_kind n h vs sees a b first second left right (kept (are_comparable (value_type n.tables vs a) (value_type n.tables vs b)) Mismatch (first_place b) e)
compared n h vs sees Below a b first second left right e = two_ints n h vs sees a b first second left right e
compared n h vs sees AtMost a b first second left right e = two_ints n h vs sees a b first second left right e
compared n h vs sees Above a b first second left right e = two_ints n h vs sees a b first second left right e
compared n h vs sees AtLeast a b first second left right e = two_ints n h vs sees a b first second left right e

pub condition_is : (n : Naming) (h : Here) (vs : List Variable) → Sees n h vs → (c : tree.Cond) → AreSmall (condition_numbers c) → condition_faults n.tables vs c ≡ []
    → IsCondition h (resolved_condition n vs c)
condition_is n h vs sees (tree.plain e) small none = some_kind n h vs sees e small none
condition_is n h vs sees (tree.compare c a b) small none =
    let u : List Fault = expression_faults n.tables vs a in
    let v : List Fault = expression_faults n.tables vs b in
    let w : List Fault = comparison_faults n.tables vs c a b in
    let both : (u ++ v) ≡ [] = none_left (u ++ v) w none in
    compared n h vs sees c a b (small_left (expression_numbers a) (expression_numbers b) small) (small_right (expression_numbers a) (expression_numbers b) small)
    (none_left u v both) (none_right u v both) (none_right (u ++ v) w none)
condition_is n h vs sees (tree.negation p c) small none = condition_is n h vs sees c small none
condition_is n h vs sees (tree.enclosed p c) small none = condition_is n h vs sees c small none
condition_is n h vs sees (tree.both c d) small none = (
  condition_is n h vs sees c (small_left (condition_numbers c) (condition_numbers d) small) (none_left (condition_faults n.tables vs c) (condition_faults n.tables vs d) none),
  condition_is n h vs sees d (small_right (condition_numbers c) (condition_numbers d) small) (none_right (condition_faults n.tables vs c) (condition_faults n.tables vs d) none),
)
condition_is n h vs sees (tree.either c d) small none = (
  condition_is n h vs sees c (small_left (condition_numbers c) (condition_numbers d) small) (none_left (condition_faults n.tables vs c) (condition_faults n.tables vs d) none),
  condition_is n h vs sees d (small_right (condition_numbers c) (condition_numbers d) small) (none_right (condition_faults n.tables vs c) (condition_faults n.tables vs d) none),
)
