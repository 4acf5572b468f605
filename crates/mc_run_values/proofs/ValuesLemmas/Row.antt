-- Arguments that are evaluated one after the other.
use Rattle.std.proofs.Common.{◌≡◌, ◌∙◌, inl, inr, ◌-◌, ◌≤◌, ◌++◌, ℕ, ℤ, List, [], ◌∷◌, Option, length, get_or, map, take, drop, refl, sym, ap, subst, append_assoc, arith}
use Rattle.std.proofs.lemmas.List.{append-nil, take_rest}
use Rattle.mc_base.specs.declared.plain.FaultKind.{FaultKind}
use Rattle.mc_flow.specs.Heap.Choices.{Choice}
use Rattle.mc_flow.specs.Heap.Heap.{Heap}
use Rattle.mc_flow.specs.declared.defs.shapes.StructInfo.{StructInfo}
use Rattle.mc_semantics.specs.Values.{fault_of, value_of}
use Rattle.mc_semantics.specs.Steps.{Arguments, no_arguments, arguments, put_before}
use Rattle.mc_semantics.specs.Resolved.Programs.{Expr}
use Rattle.mc_semantics.specs.Resolved.Configs.{Values}
use Rattle.mc_semantics.specs.Resolved.Steps.{EvaluateAll}
use Rattle.mc_semantics.specs.Resolved.Views.{expression_of}
use Rattle.mc_semantics.specs.declared.resolved.program.Expression.{Expression}
use Rattle.mc_semantics.specs.Waiting.Requests.{an_input}
use Rattle.mc_run_values.specs.declared.values.refusal.Refusal.{Refusal}
use Rattle.mc_run_values.specs.declared.values.refusal.Evaluated.TheVariants as one
use Rattle.mc_run_values.specs.Values.Asking.{ArgumentsAsk}
use Rattle.mc_run_values.specs.Values.Models.{IsEvaluated}
use Rattle.mc_run_values.proofs.ValuesLemmas.SoFar.{behind, ComesSoFar}
use Rattle.mc_run_values.specs.Values.Taking.{IsRefusedBehind, WithTaken}
use Rattle.mc_run_values.proofs.ValuesLemmas.Taking.{takes_more}

behind_none : (r : Arguments) → r ≡ behind [] r
behind_none (no_arguments kind) = refl
behind_none (arguments vs rest) = refl

behind_one : (vs : List (Option ℤ)) (v : Option ℤ) (r : Arguments) → behind vs (put_before v r) ≡ behind (vs ++ v ∷ []) r
behind_one vs v (no_arguments kind) = refl
behind_one vs v (arguments ws rest) = ap (λ (all : List (Option ℤ)). arguments all rest) (sym (append_assoc vs (v ∷ []) ws))

pub row_begins : (structs : List StructInfo) (values : Values) (heap : Heap) (es : List Expr) (lines : List (List ℕ)) → ComesSoFar structs values heap es [] es lines lines
row_begins structs values heap es lines = (
  [],
  refl,
  λ rest r h. subst (λ (all : Arguments). EvaluateAll (record { values = values; heap = heap }) es rest all) (behind_none r) h,
  λ rest asked h. h,
)

-- one more value is there
row_goes_on : (structs : List StructInfo) (values : Values) (heap : Heap) (es : List Expr) (vs : List (Option ℤ)) (e : Expr) (left : List Expr) (v : Option ℤ) (old middle new : List (List ℕ))
    → ComesSoFar structs values heap es vs (e ∷ left) old middle → IsEvaluated structs values heap e middle (one.Value v) new → ComesSoFar structs values heap es (vs ++ v ∷ []) left old new
row_goes_on structs values heap es vs e left v old middle new h i = (
  h.0 ++ i.0,
  takes_more structs old middle new h.0 i.0 h.1 i.1,
  λ rest r g.
      subst (λ (cs : List Choice). EvaluateAll (record { values = values; heap = heap }) es cs (behind (vs ++ v ∷ []) r)) (sym (append_assoc h.0 i.0 rest)) (subst (λ (all : Arguments). EvaluateAll (record { values = values; heap = heap }) es (h.0 ++ (i.0 ++ rest)) all) (behind_one vs v r) (h.2 (i.0 ++ rest) (put_before v r) (value_of v rest, i.2 rest, (r, g, refl)))),
  λ rest asked g. subst (λ (cs : List Choice). ArgumentsAsk values heap es cs asked) (sym (append_assoc h.0 i.0 rest)) (h.3 (i.0 ++ rest) asked (inr (v, rest, i.2 rest, g))),
)

row_faults : (structs : List StructInfo) (values : Values) (heap : Heap) (es : List Expr) (vs : List (Option ℤ)) (e : Expr) (left : List Expr) (kind : FaultKind) (old middle new : List (List ℕ))
    → ComesSoFar structs values heap es vs (e ∷ left) old middle → IsEvaluated structs values heap e middle (one.Fault kind) new
    → WithTaken structs old new (λ choices rest. EvaluateAll (record { values = values; heap = heap }) es choices (no_arguments kind))
row_faults structs values heap es vs e left kind old middle new h i = (
  h.0 ++ i.0,
  takes_more structs old middle new h.0 i.0 h.1 i.1,
  λ rest. subst (λ (cs : List Choice). EvaluateAll (record { values = values; heap = heap }) es cs (no_arguments kind)) (sym (append_assoc h.0 i.0 rest)) (h.2 (i.0 ++ rest) (no_arguments kind) (fault_of kind, i.2 rest, refl)),
)

row_refused : (structs : List StructInfo) (values : Values) (heap : Heap) (es : List Expr) (vs : List (Option ℤ)) (e : Expr) (left : List Expr) (why : Refusal) (old middle new : List (List ℕ))
    → ComesSoFar structs values heap es vs (e ∷ left) old middle → IsEvaluated structs values heap e middle (one.Unanswered why) new
    → IsRefusedBehind structs an_input old why new (λ choices asked. ArgumentsAsk values heap es choices asked)
row_refused structs values heap es vs e left why old middle new h i = (
  i.0,
  (
    h.0 ++ i.1.0,
    takes_more structs old middle i.0 h.0 i.1.0 h.1 i.1.1,
    λ rest. subst (λ (cs : List Choice). ArgumentsAsk values heap es cs rest) (sym (append_assoc h.0 i.1.0 rest)) (h.3 (i.1.0 ++ rest) rest (inl (i.1.2 rest))),
  ),
  i.2,
)

row_ends : (structs : List StructInfo) (values : Values) (heap : Heap) (es : List Expr) (vs : List (Option ℤ)) (old new : List (List ℕ)) → ComesSoFar structs values heap es vs [] old new
    → WithTaken structs old new (λ choices rest. EvaluateAll (record { values = values; heap = heap }) es choices (arguments vs rest))
row_ends structs values heap es vs old new h = (
  h.0,
  h.1,
  λ rest. subst (λ (all : List (Option ℤ)). EvaluateAll (record { values = values; heap = heap }) es (h.0 ++ rest) (arguments all rest)) (append-nil vs) (h.2 rest (arguments [] rest) refl),
)

-- ---- the same for expressions in code, of which the first is at hand
first_mapped : (items : List Expression) (x : Expression) → 1 ≤ length items → x ≡ get_or items 0 x → map expression_of items ≡ expression_of x ∷ map expression_of (take (length items - 1) (drop 1 items))
first_mapped [] x some here = absurd (omega arith)
first_mapped (y ∷ ys) x some here =
    ap (λ (z : Expression). expression_of z ∷ map expression_of ys) (sym here)
    ∙ ap (λ (more : List Expression). expression_of x ∷ map expression_of more) (sym (take_rest (y ∷ ys) 1))

pub goes_on : (structs : List StructInfo) (values : Values) (heap : Heap) (es : List Expr) (vs : List (Option ℤ)) (items : List Expression) (x : Expression) (v : Option ℤ) (old middle new : List (List ℕ))
    → 1 ≤ length items → x ≡ get_or items 0 x → ComesSoFar structs values heap es vs (map expression_of items) old middle → IsEvaluated structs values heap (expression_of x) middle (one.Value v) new
    → ComesSoFar structs values heap es (vs ++ v ∷ []) (map expression_of (take (length items - 1) (drop 1 items))) old new
goes_on structs values heap es vs items x v old middle new some here h i =
    row_goes_on structs values heap es vs (expression_of x) (map expression_of (take (length items - 1) (drop 1 items))) v old middle new (subst (λ (left : List Expr). ComesSoFar structs values heap es vs left old middle) (first_mapped items x some here) h) i

pub faults_there : (structs : List StructInfo) (values : Values) (heap : Heap) (es : List Expr) (vs : List (Option ℤ)) (items : List Expression) (x : Expression) (kind : FaultKind) (old middle new : List (List ℕ))
    → 1 ≤ length items → x ≡ get_or items 0 x → ComesSoFar structs values heap es vs (map expression_of items) old middle → IsEvaluated structs values heap (expression_of x) middle (one.Fault kind) new
    → WithTaken structs old new (λ choices rest. EvaluateAll (record { values = values; heap = heap }) es choices (no_arguments kind))
faults_there structs values heap es vs items x kind old middle new some here h i =
    row_faults structs values heap es vs (expression_of x) (map expression_of (take (length items - 1) (drop 1 items))) kind old middle new (subst (λ (left : List Expr). ComesSoFar structs values heap es vs left old middle) (first_mapped items x some here) h) i

pub refused_there : (structs : List StructInfo) (values : Values) (heap : Heap) (es : List Expr) (vs : List (Option ℤ)) (items : List Expression) (x : Expression) (why : Refusal) (old middle new : List (List ℕ))
    → 1 ≤ length items → x ≡ get_or items 0 x → ComesSoFar structs values heap es vs (map expression_of items) old middle → IsEvaluated structs values heap (expression_of x) middle (one.Unanswered why) new
    → IsRefusedBehind structs an_input old why new (λ choices asked. ArgumentsAsk values heap es choices asked)
refused_there structs values heap es vs items x why old middle new some here h i =
    row_refused structs values heap es vs (expression_of x) (map expression_of (take (length items - 1) (drop 1 items))) why old middle new (subst (λ (left : List Expr). ComesSoFar structs values heap es vs left old middle) (first_mapped items x some here) h) i

pub all_evaluated : (structs : List StructInfo) (values : Values) (heap : Heap) (es : List Expr) (vs : List (Option ℤ)) (items : List Expression) (old new : List (List ℕ)) → length items ≡ 0 → ComesSoFar structs values heap es vs (map expression_of items) old new
    → WithTaken structs old new (λ choices rest. EvaluateAll (record { values = values; heap = heap }) es choices (arguments vs rest))
all_evaluated structs values heap es vs [] old new none h = row_ends structs values heap es vs old new h
all_evaluated structs values heap es vs (x ∷ xs) old new none h = absurd (omega arith)
