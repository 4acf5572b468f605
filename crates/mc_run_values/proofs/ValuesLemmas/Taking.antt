-- Choices that are taken one after the other.
use Rattle.std.proofs.Common.{ℕ, List, [], ◌∷◌, ◌++◌, sym, subst, append_assoc}
use Rattle.mc_flow.specs.Heap.Choices.{Choice}
use Rattle.mc_flow.specs.declared.defs.shapes.StructInfo.{StructInfo}
use Rattle.mc_semantics.specs.Values.{Evaluated, fault_of, value_of}
use Rattle.mc_run_values.specs.declared.values.refusal.Evaluated as code
use Rattle.mc_run_values.specs.declared.values.refusal.Evaluated.TheVariants.{Value, Fault, Unanswered}
use Rattle.mc_run_values.specs.Values.Models.{IsAnswered}
use Rattle.mc_run_values.specs.Values.Taking.{Takes}
use Rattle.mc_run_values.specs.Values.Turns.{Leads}

pub takes_more : (structs : List StructInfo) (old middle new : List (List ℕ)) (used more : List Choice) → Takes structs old used middle → Takes structs middle more new → Takes structs old (used ++ more) new
takes_more structs old middle new [] more h i = subst (λ lines. Takes structs lines more new) h i
takes_more structs [] middle new (c ∷ used) more h i = absurd h
takes_more structs (line ∷ old) middle new (c ∷ used) more h i = (h.0, takes_more structs old middle new used more h.1 i)

-- ways one after the other
pub leads_on : (structs : List StructInfo) (A B C : List Choice → Evaluated → Type 0) (P Q R : List Choice → List Choice → Type 0) (old middle new : List (List ℕ))
    → Leads structs A B P Q old middle → Leads structs B C Q R middle new → Leads structs A C P R old new
leads_on structs A B C P Q R old middle new h i = (
  h.0 ++ i.0,
  takes_more structs old middle new h.0 i.0 h.1 i.1,
  λ rest r c. subst (λ cs. A cs r) (sym (append_assoc h.0 i.0 rest)) (h.2 (i.0 ++ rest) r (i.2 rest r c)),
  λ rest left c. subst (λ cs. P cs left) (sym (append_assoc h.0 i.0 rest)) (h.3 (i.0 ++ rest) left (i.3 rest left c)),
)

-- a way to an answer
pub leads_to : (structs : List StructInfo) (A B : List Choice → Evaluated → Type 0) (P Q : List Choice → List Choice → Type 0) (old middle new : List (List ℕ)) (answer : code.Evaluated)
    → Leads structs A B P Q old middle → IsAnswered structs B Q middle answer new → IsAnswered structs A P old answer new
leads_to structs A B P Q old middle new (Value v) h i = (
  h.0 ++ i.0,
  takes_more structs old middle new h.0 i.0 h.1 i.1,
  λ rest. subst (λ cs. A cs (value_of v rest)) (sym (append_assoc h.0 i.0 rest)) (h.2 (i.0 ++ rest) (value_of v rest) (i.2 rest)),
)
leads_to structs A B P Q old middle new (Fault kind) h i = (
  h.0 ++ i.0,
  takes_more structs old middle new h.0 i.0 h.1 i.1,
  λ rest. subst (λ cs. A cs (fault_of kind)) (sym (append_assoc h.0 i.0 rest)) (h.2 (i.0 ++ rest) (fault_of kind) (i.2 rest)),
)
leads_to structs A B P Q old middle new (Unanswered why) h i = (
  i.0,
  (
    h.0 ++ i.1.0,
    takes_more structs old middle i.0 h.0 i.1.0 h.1 i.1.1,
    λ rest. subst (λ cs. P cs rest) (sym (append_assoc h.0 i.1.0 rest)) (h.3 (i.1.0 ++ rest) rest (i.1.2 rest)),
  ),
  i.2,
)
