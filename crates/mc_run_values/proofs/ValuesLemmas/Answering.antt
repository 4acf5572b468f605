-- What a script answers to a request.
use Rattle.std.proofs.Common.{◌≡◌, ℕ, ℤ, true, false, List, [], ◌∷◌, Option, Some, None, refl, sym, subst}
use Rattle.std.specs.Prelude.{MatchOption, is_some}
use Rattle.mc_base.specs.Kinds.{InKind}
use Rattle.mc_base.specs.declared.plain.Kind.TheVariants.{Int}
use Rattle.mc_flow.specs.Heap.Choices.{Choice, input, malloc}
use Rattle.mc_flow.specs.Heap.Heap.{Heap}
use Rattle.mc_semantics.specs.Values.{IsInput, value_of}
use Rattle.mc_flow.specs.declared.defs.shapes.StructInfo.{StructInfo}
use Rattle.mc_semantics.specs.Waiting.Requests.{Request, IsAllowed, an_address, an_input}
use Rattle.mc_run_values.specs.Script.Scripts.{Answers, missing, unreadable, chosen}
use Rattle.mc_run_values.specs.declared.values.refusal.Refusal.{Refusal}
use Rattle.mc_run_values.specs.declared.values.refusal.Refusal.TheVariants.{Missing, Unreadable, NotAllowed}
use Rattle.mc_run_values.specs.declared.values.refusal.Allocated.{Allocated}
use Rattle.mc_run_values.specs.declared.values.refusal.Allocated.TheVariants.{Address, Unanswered}
use Rattle.mc_run_values.specs.Values.Memory.{IsAdded, IsAllocated}
use Rattle.mc_run_values.specs.Values.Taking.{IsRefused, IsRefusedBehind, Takes, WithTaken}

pub missing_refused : (structs : List StructInfo) (request : Request) (old new : List (List ℕ)) → Answers structs old missing new → IsRefused structs request old Missing new
missing_refused structs request [] new h = h.1
missing_refused structs request (line ∷ lines) new h = absurd h.0

pub unreadable_refused : (structs : List StructInfo) (request : Request) (old new : List (List ℕ)) → Answers structs old unreadable new → IsRefused structs request old Unreadable new
unreadable_refused structs request [] new h = let e = h.0 in cc
unreadable_refused structs request (line ∷ lines) new h = h

pub choice_refused : (structs : List StructInfo) (request : Request) (old new : List (List ℕ)) (c : Choice) → Answers structs old (chosen c) new → (IsAllowed request c → ⊥) → IsRefused structs request old NotAllowed new
choice_refused structs request [] new c h bad = let e = h.0 in cc
choice_refused structs request (line ∷ lines) new c h bad = ((c, h.0, bad), h.1)

pub one_taken : (structs : List StructInfo) (old new : List (List ℕ)) (c : Choice) → Answers structs old (chosen c) new → Takes structs old (c ∷ []) new
one_taken structs [] new c h = let e = h.0 in cc
one_taken structs (line ∷ lines) new c h = h

-- nothing was taken before
pub refused_here : (structs : List StructInfo) (request : Request) (old new : List (List ℕ)) (why : Refusal) (Asks : List Choice → List Choice → Type 0)
    → ((rest : List Choice) → Asks rest rest) → IsRefused structs request old why new → IsRefusedBehind structs request old why new Asks
refused_here structs request old new why Asks here refused = (old, ([], refl, here), refused)

-- ---- an input
pub input_answered : (structs : List StructInfo) (old new : List (List ℕ)) (c : Choice) (value : Option ℤ) → Answers structs old (chosen c) new
    → MatchOption value (IsAllowed an_input c → ⊥) (λ v. (c ≡ input v) × InKind Int v) → is_some value ≡ true
    → WithTaken structs old new (λ choices rest. IsInput choices (value_of value rest))
input_answered structs old new c None h m there = cc
input_answered structs old new c (Some v) h m there = (
  c ∷ [],
  one_taken structs old new c h,
  λ rest. subst (λ (given : Choice). IsInput (given ∷ rest) (value_of (Some v) rest)) (sym m.0) (m.1, refl),
)

pub input_refused : (structs : List StructInfo) (old new : List (List ℕ)) (c : Choice) (value : Option ℤ) → Answers structs old (chosen c) new
    → MatchOption value (IsAllowed an_input c → ⊥) (λ v. (c ≡ input v) × InKind Int v) → is_some value ≡ false
    → IsRefusedBehind structs an_input old NotAllowed new (λ choices left. left ≡ choices)
input_refused structs old new c None h m there =
    refused_here structs an_input old new NotAllowed (λ (choices left : List Choice). left ≡ choices) (λ rest. refl) (choice_refused structs an_input old new c h m)
input_refused structs old new c (Some v) h m there = cc

-- ---- an address
pub address_added : (structs : List StructInfo) (shape fields : ℕ) (before after : Heap) (at : ℕ) (answer : Allocated) (old new : List (List ℕ)) (c : Choice) → Answers structs old (chosen c) new
    → c ≡ malloc at → IsAdded shape fields before at answer after → IsAllocated structs shape fields before old answer after new
address_added structs shape fields before after at (Address given) old new c h is (same, allowed, made) =
    subst (λ (n : ℕ). IsAllocated structs shape fields before old (Address n) after new) (sym same) (subst (λ (d : Choice). Takes structs old (d ∷ []) new) is (one_taken structs old new c h), allowed, made)
address_added structs shape fields before after at (Unanswered why) old new c h is (same, bad, kept) =
    subst (λ (w : Refusal). IsAllocated structs shape fields before old (Unanswered w) after new) (sym same) (choice_refused structs (an_address before) old new c h (subst (λ (d : Choice). IsAllowed (an_address before) d → ⊥) (sym is) bad), kept)
