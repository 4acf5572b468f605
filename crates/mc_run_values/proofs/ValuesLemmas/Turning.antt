-- Each turn leads to what is left after it.
use Rattle.std.proofs.Common.{◌≡◌, ◌∙◌, ◌⊎◌, inl, inr, ◌++◌, ℕ, ℤ, List, [], ◌∷◌, Option, Some, Bor, pos, refl, sym, ap, subst}
use Rattle.mc_base.specs.declared.plain.FaultKind.{FaultKind}
use Rattle.mc_flow.specs.Heap.Choices.{Choice}
use Rattle.mc_flow.specs.Heap.Heap.{Heap}
use Rattle.mc_flow.specs.declared.defs.shapes.StructInfo.{StructInfo}
use Rattle.mc_semantics.specs.Values.{Found, faulty, found, Evaluated, evaluated, fault_of, value_of, operated, AfterLeft, IsInput}
use Rattle.mc_semantics.specs.Resolved.Configs.{Values}
use Rattle.mc_semantics.specs.Resolved.Programs.{Left, Expr, number, input, value, minus, times, plus, difference}
use Rattle.mc_semantics.specs.Resolved.Values.{Evaluates, left_value}
use Rattle.mc_semantics.specs.Resolved.Views.{expression_of}
use Rattle.mc_semantics.specs.declared.resolved.program.Expression.{Expression}
use Rattle.mc_run_values.specs.declared.values.numbers.Operation.{Operation}
use Rattle.mc_run_values.specs.declared.values.numbers.Operation.TheVariants.{Times, Plus, Difference}
use Rattle.mc_run_values.specs.declared.values.refusal.Evaluated as code
use Rattle.mc_run_values.specs.declared.values.refusal.Evaluated.TheVariants as answers
use Rattle.mc_run_values.specs.declared.values.turns.Pending.{Pending}
use Rattle.mc_run_values.specs.declared.values.turns.Hand.{Hand}
use Rattle.mc_run_values.specs.declared.values.turns.Turn.{Turn}
use Rattle.mc_run_values.specs.Values.Asking.{AsksBehind, ValueAsks}
use Rattle.mc_run_values.specs.Values.Models.{IsAnswered, operation_of}
use Rattle.mc_run_values.specs.Values.Turns.{Asks, Comes, Gets, IsTurn, Leads}
use Rattle.mc_run_values.proofs.ValuesLemmas.Faulty.{faults}

-- ---- an expression at hand
asks_of_value : (values : Values) (heap : Heap) (e : Bor Expression) (v : Option ℤ) (ps : List Pending) (used rest left : List Choice)
    → Evaluates values heap (expression_of e.now) (used ++ rest) (value_of v rest) → Asks values heap (Hand.Value v) ps rest left → Asks values heap (Hand.Expression e) ps (used ++ rest) left
asks_of_value values heap e v ps used rest left has (inl h) = absurd h
asks_of_value values heap e v ps used rest left has (inr h) =
    inr (h.0, subst (λ (one : Evaluated). Evaluates values heap (expression_of e.now) (used ++ rest) one) (sym h.1) has, h.2)

comes_of_value : (values : Values) (heap : Heap) (e : Bor Expression) (v : Option ℤ) (ps : List Pending) (used rest : List Choice) (r : Evaluated)
    → Evaluates values heap (expression_of e.now) (used ++ rest) (value_of v rest) → Comes values heap (Hand.Value v) ps rest r → Comes values heap (Hand.Expression e) ps (used ++ rest) r
comes_of_value values heap e v ps used rest r has h =
    (h.0, subst (λ (one : Evaluated). Evaluates values heap (expression_of e.now) (used ++ rest) one) (sym h.1) has, h.2)

-- it has a value without a choice
value_found : (structs : List StructInfo) (values : Values) (heap : Heap) (e : Bor Expression) (v : Option ℤ) (ps : List Pending) (lines : List (List ℕ))
    → ((choices : List Choice) → Evaluates values heap (expression_of e.now) choices (value_of v choices)) → IsTurn structs values heap (Hand.Expression e) ps lines (Turn.Goes (Hand.Value v)) ps lines
value_found structs values heap e v ps lines has =
    ([], refl, λ rest r h. comes_of_value values heap e v ps [] rest r (has rest) h, λ rest left h. asks_of_value values heap e v ps [] rest left (has rest) h)

fault_found : (structs : List StructInfo) (values : Values) (heap : Heap) (e : Bor Expression) (kind : FaultKind) (ps qs : List Pending) (lines : List (List ℕ))
    → ((choices : List Choice) → Evaluates values heap (expression_of e.now) choices (fault_of kind)) → IsTurn structs values heap (Hand.Expression e) ps lines (Turn.Ends (answers.Fault kind)) qs lines
fault_found structs values heap e kind ps qs lines has = ([], refl, λ rest. (fault_of kind, has rest, faults values heap kind ps))

-- with the equation of the expression
pub number_found : (structs : List StructInfo) (values : Values) (heap : Heap) (e : Bor Expression) (n : ℕ) (z : ℤ) (ps : List Pending) (lines : List (List ℕ)) → expression_of e.now ≡ number n → z ≡ pos n
    → IsTurn structs values heap (Hand.Expression e) ps lines (Turn.Goes (Hand.Value (Some z))) ps lines
number_found structs values heap e n z ps lines is same =
    value_found structs values heap e (Some z) ps lines (λ choices. subst (λ (x : Expr). Evaluates values heap x choices (value_of (Some z) choices)) (sym is) (ap (λ (y : ℤ). value_of (Some y) choices) same))

pub left_found : (structs : List StructInfo) (values : Values) (heap : Heap) (e : Bor Expression) (l : Left) (v : Option ℤ) (ps : List Pending) (lines : List (List ℕ)) → expression_of e.now ≡ value l → found v ≡ left_value values heap l
    → IsTurn structs values heap (Hand.Expression e) ps lines (Turn.Goes (Hand.Value v)) ps lines
left_found structs values heap e l v ps lines is same =
    value_found structs values heap e v ps lines (λ choices. subst (λ (x : Expr). Evaluates values heap x choices (value_of v choices)) (sym is) (ap (λ (f : Found). evaluated f choices) same))

pub left_fails : (structs : List StructInfo) (values : Values) (heap : Heap) (e : Bor Expression) (l : Left) (kind : FaultKind) (ps qs : List Pending) (lines : List (List ℕ)) → expression_of e.now ≡ value l → faulty kind ≡ left_value values heap l
    → IsTurn structs values heap (Hand.Expression e) ps lines (Turn.Ends (answers.Fault kind)) qs lines
left_fails structs values heap e l kind ps qs lines is same =
    fault_found structs values heap e kind ps qs lines (λ choices. subst (λ (x : Expr). Evaluates values heap x choices (fault_of kind)) (sym is) (ap (λ (f : Found). evaluated f choices) same))

-- an input
pub input_entered : (structs : List StructInfo) (values : Values) (heap : Heap) (e : Bor Expression) (ps : List Pending) (old new : List (List ℕ)) (answer : code.Evaluated) (turn : Turn) → expression_of e.now ≡ input
    → IsAnswered structs IsInput (λ choices left. left ≡ choices) old answer new → Gets answer turn → IsTurn structs values heap (Hand.Expression e) ps old turn ps new
input_entered structs values heap e ps old new (answers.Value v) turn is h gets =
    subst (λ (t : Turn). IsTurn structs values heap (Hand.Expression e) ps old t ps new) (sym gets) (
      h.0,
      h.1,
      λ rest r g. comes_of_value values heap e v ps h.0 rest r (subst (λ (x : Expr). Evaluates values heap x (h.0 ++ rest) (value_of v rest)) (sym is) (h.2 rest)) g,
      λ rest left g. asks_of_value values heap e v ps h.0 rest left (subst (λ (x : Expr). Evaluates values heap x (h.0 ++ rest) (value_of v rest)) (sym is) (h.2 rest)) g,
    )
input_entered structs values heap e ps old new (answers.Fault kind) turn is h gets =
    subst (λ (t : Turn). IsTurn structs values heap (Hand.Expression e) ps old t ps new) (sym gets) (
      h.0,
      h.1,
      λ rest. (fault_of kind, subst (λ (x : Expr). Evaluates values heap x (h.0 ++ rest) (fault_of kind)) (sym is) (h.2 rest), faults values heap kind ps),
    )
input_entered structs values heap e ps old new (answers.Unanswered why) turn is h gets =
    subst (λ (t : Turn). IsTurn structs values heap (Hand.Expression e) ps old t ps new) (sym gets) (
      h.0,
      (h.1.0, h.1.1, λ rest. inl (subst (λ (x : Expr). ValueAsks values heap x (h.1.0 ++ rest) rest) (sym is) (h.1.2 rest))),
      h.2,
    )

-- `-`
minus_asks : (values : Values) (heap : Heap) (e p : Bor Expression) (ps : List Pending) (rest left : List Choice) → expression_of e.now ≡ minus (expression_of p.now)
    → Asks values heap (Hand.Expression p) (Pending.Apply Difference (Some (pos 0)) ∷ ps) rest left → Asks values heap (Hand.Expression e) ps rest left
minus_asks values heap e p ps rest left is (inl h) = inl (subst (λ (x : Expr). ValueAsks values heap x rest left) (sym is) h)
minus_asks values heap e p ps rest left is (inr (one, g, inl h)) = absurd h
minus_asks values heap e p ps rest left is (inr (one, g, inr (two, a, k))) =
    inr (two, subst (λ (x : Expr). Evaluates values heap x rest two) (sym is) (one, g, a), k)

pub minus_entered : (structs : List StructInfo) (values : Values) (heap : Heap) (e p : Bor Expression) (ps qs : List Pending) (lines : List (List ℕ)) → expression_of e.now ≡ minus (expression_of p.now)
    → qs ≡ Pending.Apply Difference (Some (pos 0)) ∷ ps → IsTurn structs values heap (Hand.Expression e) ps lines (Turn.Goes (Hand.Expression p)) qs lines
minus_entered structs values heap e p ps qs lines is next =
    subst (λ (behind : List Pending). IsTurn structs values heap (Hand.Expression e) ps lines (Turn.Goes (Hand.Expression p)) behind lines) (sym next) (
      [],
      refl,
      λ rest r h. (h.2.0, subst (λ (x : Expr). Evaluates values heap x rest h.2.0) (sym is) (h.0, h.1, h.2.1), h.2.2),
      λ rest left h. minus_asks values heap e p ps rest left is h,
    )

-- an operation, which begins with its left side
abbrev Operates : Values → Heap → Operation → Expr → Expr → Expr → Type 0
Operates values heap o x a b =
    ((choices : List Choice) (r : Evaluated) → ((one : Evaluated) × Evaluates values heap a choices one × AfterLeft (operation_of o) (λ rest two. Evaluates values heap b rest two) one r) → Evaluates values heap x choices r)
    × ((choices left : List Choice) → ValueAsks values heap a choices left ⊎ AsksBehind values heap a choices (λ rest. ValueAsks values heap b rest left) → ValueAsks values heap x choices left)

operation_asks : (values : Values) (heap : Heap) (o : Operation) (e p q : Bor Expression) (ps : List Pending) (rest left : List Choice) → Operates values heap o (expression_of e.now) (expression_of p.now) (expression_of q.now)
    → Asks values heap (Hand.Expression p) (Pending.Right o q ∷ ps) rest left → Asks values heap (Hand.Expression e) ps rest left
operation_asks values heap o e p q ps rest left is (inl h) = inl (is.1 rest left (inl h))
operation_asks values heap o e p q ps rest left is (inr (fault_of kind, g, inl h)) = absurd h
operation_asks values heap o e p q ps rest left is (inr (value_of v more, g, inl h)) = inl (is.1 rest left (inr (v, more, g, h)))
operation_asks values heap o e p q ps rest left is (inr (one, g, inr (two, a, k))) = inr (two, is.0 rest two (one, g, a), k)

operation_entered : (structs : List StructInfo) (values : Values) (heap : Heap) (o : Operation) (e p q : Bor Expression) (ps : List Pending) (lines : List (List ℕ)) → Operates values heap o (expression_of e.now) (expression_of p.now) (expression_of q.now)
    → IsTurn structs values heap (Hand.Expression e) ps lines (Turn.Goes (Hand.Expression p)) (Pending.Right o q ∷ ps) lines
operation_entered structs values heap o e p q ps lines is = (
  [],
  refl,
  λ rest r h. (h.2.0, is.0 rest h.2.0 (h.0, h.1, h.2.1), h.2.2),
  λ rest left h. operation_asks values heap o e p q ps rest left is h,
)

-- with the equation of the expression
pub times_entered : (structs : List StructInfo) (values : Values) (heap : Heap) (e p q : Bor Expression) (ps qs : List Pending) (lines : List (List ℕ)) → expression_of e.now ≡ times (expression_of p.now) (expression_of q.now)
    → qs ≡ Pending.Right Times q ∷ ps → IsTurn structs values heap (Hand.Expression e) ps lines (Turn.Goes (Hand.Expression p)) qs lines
times_entered structs values heap e p q ps qs lines is next =
    subst (λ (behind : List Pending). IsTurn structs values heap (Hand.Expression e) ps lines (Turn.Goes (Hand.Expression p)) behind lines) (sym next) (operation_entered structs values heap Times e p q ps lines (subst (λ (x : Expr). Operates values heap Times x (expression_of p.now) (expression_of q.now)) (sym is) (λ choices r h. h, λ choices left h. h)))

pub plus_entered : (structs : List StructInfo) (values : Values) (heap : Heap) (e p q : Bor Expression) (ps qs : List Pending) (lines : List (List ℕ)) → expression_of e.now ≡ plus (expression_of p.now) (expression_of q.now)
    → qs ≡ Pending.Right Plus q ∷ ps → IsTurn structs values heap (Hand.Expression e) ps lines (Turn.Goes (Hand.Expression p)) qs lines
plus_entered structs values heap e p q ps qs lines is next =
    subst (λ (behind : List Pending). IsTurn structs values heap (Hand.Expression e) ps lines (Turn.Goes (Hand.Expression p)) behind lines) (sym next) (operation_entered structs values heap Plus e p q ps lines (subst (λ (x : Expr). Operates values heap Plus x (expression_of p.now) (expression_of q.now)) (sym is) (λ choices r h. h, λ choices left h. h)))

pub difference_entered : (structs : List StructInfo) (values : Values) (heap : Heap) (e p q : Bor Expression) (ps qs : List Pending) (lines : List (List ℕ)) → expression_of e.now ≡ difference (expression_of p.now) (expression_of q.now)
    → qs ≡ Pending.Right Difference q ∷ ps → IsTurn structs values heap (Hand.Expression e) ps lines (Turn.Goes (Hand.Expression p)) qs lines
difference_entered structs values heap e p q ps qs lines is next =
    subst (λ (behind : List Pending). IsTurn structs values heap (Hand.Expression e) ps lines (Turn.Goes (Hand.Expression p)) behind lines) (sym next) (operation_entered structs values heap Difference e p q ps lines (subst (λ (x : Expr). Operates values heap Difference x (expression_of p.now) (expression_of q.now)) (sym is) (λ choices r h. h, λ choices left h. h)))

-- ---- a value at hand
-- nothing waits for it
pub value_ends : (structs : List StructInfo) (values : Values) (heap : Heap) (v : Option ℤ) (ps qs : List Pending) (lines : List (List ℕ)) → ps ≡ []
    → IsTurn structs values heap (Hand.Value v) ps lines (Turn.Ends (answers.Value v)) qs lines
value_ends structs values heap v [] qs lines none = ([], refl, λ rest. (value_of v rest, refl, refl))
value_ends structs values heap v (p ∷ ps) qs lines none = absurd (cc)

right_asks : (values : Values) (heap : Heap) (o : Operation) (q : Bor Expression) (v : Option ℤ) (ps : List Pending) (rest left : List Choice)
    → Asks values heap (Hand.Expression q) (Pending.Apply o v ∷ ps) rest left → Asks values heap (Hand.Value v) (Pending.Right o q ∷ ps) rest left
right_asks values heap o q v ps rest left (inl h) = inr (value_of v rest, refl, inl h)
right_asks values heap o q v ps rest left (inr (one, g, inl h)) = absurd h
right_asks values heap o q v ps rest left (inr (one, g, inr (two, a, k))) = inr (value_of v rest, refl, inr (two, (one, g, a), k))

-- the right side of an operation waits for it
pub right_begins : (structs : List StructInfo) (values : Values) (heap : Heap) (o : Operation) (q : Bor Expression) (v : Option ℤ) (all ps qs : List Pending) (lines : List (List ℕ)) → all ≡ Pending.Right o q ∷ ps → qs ≡ Pending.Apply o v ∷ ps
    → IsTurn structs values heap (Hand.Value v) all lines (Turn.Goes (Hand.Expression q)) qs lines
right_begins structs values heap o q v all ps qs lines top next =
    subst (λ (before : List Pending). IsTurn structs values heap (Hand.Value v) before lines (Turn.Goes (Hand.Expression q)) qs lines) (sym top) (subst (λ (behind : List Pending). IsTurn structs values heap (Hand.Value v) (Pending.Right o q ∷ ps) lines (Turn.Goes (Hand.Expression q)) behind lines) (sym next) (
      [],
      refl,
      λ rest r h. (value_of v rest, refl, (h.2.0, (h.0, h.1, h.2.1), h.2.2)),
      λ rest left h. right_asks values heap o q v ps rest left h,
    ))

apply_asks : (values : Values) (heap : Heap) (o : Operation) (a v w : Option ℤ) (ps : List Pending) (rest left : List Choice) → value_of w rest ≡ operated (operation_of o) a v rest
    → Asks values heap (Hand.Value w) ps rest left → Asks values heap (Hand.Value v) (Pending.Apply o a ∷ ps) rest left
apply_asks values heap o a v w ps rest left is (inl h) = absurd h
apply_asks values heap o a v w ps rest left is (inr (one, g, k)) = inr (value_of v rest, refl, inr (one, g ∙ is, k))

-- an operation waits for it with its left value
pub operation_applied : (structs : List StructInfo) (values : Values) (heap : Heap) (o : Operation) (a v w : Option ℤ) (all ps : List Pending) (lines : List (List ℕ)) → all ≡ Pending.Apply o a ∷ ps
    → ((choices : List Choice) → value_of w choices ≡ operated (operation_of o) a v choices) → IsTurn structs values heap (Hand.Value v) all lines (Turn.Goes (Hand.Value w)) ps lines
operation_applied structs values heap o a v w all ps lines top is =
    subst (λ (before : List Pending). IsTurn structs values heap (Hand.Value v) before lines (Turn.Goes (Hand.Value w)) ps lines) (sym top) (
      [],
      refl,
      λ rest r h. (value_of v rest, refl, (h.0, h.1 ∙ is rest, h.2)),
      λ rest left h. apply_asks values heap o a v w ps rest left (is rest) h,
    )

pub operation_fails : (structs : List StructInfo) (values : Values) (heap : Heap) (o : Operation) (a v : Option ℤ) (kind : FaultKind) (all ps qs : List Pending) (lines : List (List ℕ)) → all ≡ Pending.Apply o a ∷ ps
    → ((choices : List Choice) → fault_of kind ≡ operated (operation_of o) a v choices) → IsTurn structs values heap (Hand.Value v) all lines (Turn.Ends (answers.Fault kind)) qs lines
operation_fails structs values heap o a v kind all ps qs lines top is =
    subst (λ (before : List Pending). IsTurn structs values heap (Hand.Value v) before lines (Turn.Ends (answers.Fault kind)) qs lines) (sym top) ([], refl, λ rest. (value_of v rest, refl, (fault_of kind, is rest, faults values heap kind ps)))

-- ---- a whole expression
begun_asks : (values : Values) (heap : Heap) (e : Bor Expression) (rest left : List Choice) → Asks values heap (Hand.Expression e) [] rest left → ValueAsks values heap (expression_of e.now) rest left
begun_asks values heap e rest left (inl h) = h
begun_asks values heap e rest left (inr h) = absurd h.2

pub expression_begun : (structs : List StructInfo) (values : Values) (heap : Heap) (e : Bor Expression) (ps : List Pending) (lines : List (List ℕ)) → ps ≡ []
    → Leads structs (λ choices r. Evaluates values heap (expression_of e.now) choices r) (Comes values heap (Hand.Expression e) ps) (λ choices left. ValueAsks values heap (expression_of e.now) choices left) (Asks values heap (Hand.Expression e) ps) lines lines
expression_begun structs values heap e [] lines none = (
  [],
  refl,
  λ rest r h. subst (λ (one : Evaluated). Evaluates values heap (expression_of e.now) rest one) (sym h.2) h.1,
  λ rest left h. begun_asks values heap e rest left h,
)
expression_begun structs values heap e (p ∷ ps) lines none = absurd (cc)
