-- A point of a valid flow graph makes a step, is its end, or waits for a choice.
use Rattle.std.proofs.Common.{◌≡◌, ◌<◌, ℕ, zero, suc, ℤ, List, [], ◌∷◌, Option, Some, None, Bool, true, false, refl, sym, ◌∙◌, subst, inl, inr, length, arith}
use Rattle.std.specs.Prelude.{All, slice_get, if◌then◌else◌, ◌==◌, int_le}
use Rattle.std.specs.Ordering.{int_eq}
use Rattle.std.proofs.lemmas.Option.{slice_get_cases}
use Rattle.mc_base.specs.declared.ids.PointId.{PointId}
use Rattle.mc_base.specs.declared.ids.PredId.{PredId}
use Rattle.mc_base.specs.declared.ids.StructId.{StructId}
use Rattle.mc_base.specs.declared.ids.VarId.{VarId}
use Rattle.mc_base.specs.declared.plain.FaultKind.{FaultKind}
use Rattle.mc_base.specs.declared.plain.Kind.TheVariants.{Int}
use Rattle.mc_base.specs.declared.text.place.Place.{Place}
use Rattle.mc_base.specs.Kinds.{InKind}
use Rattle.mc_base.specs.declared.plain.FaultKind.TheVariants.{Null}
use Rattle.mc_flow.specs.Runs.{next, last, ended, fault}
use Rattle.mc_flow.specs.Heap.Access.{field_at}
use Rattle.mc_flow.specs.Heap.Adding.{AreFree, part_of}
use Rattle.mc_flow.specs.Heap.Choices.{Choice, input, malloc, shape}
use Rattle.mc_flow.specs.Heap.Heap.{Block, Heap, IsAddress, region_of}
use Rattle.mc_flow.specs.declared.defs.rules.Def.{Def}
use Rattle.mc_flow.specs.declared.defs.shapes.Structs.{Structs}
use Rattle.mc_flow.specs.Defs.Meaning.{Sat}
use Rattle.mc_flow.specs.declared.graph.Flow.{Flow}
use Rattle.mc_flow.specs.declared.graph.Point.{Point}
use Rattle.mc_flow.specs.declared.instr.Instr.{Instr}
use Rattle.mc_flow.specs.declared.instr.Instr.TheVariants.{Skip, Copy, Undef, Input, Add, Sub, Mul, Load, Store, Malloc, Free, TestEq, TestLe, AssumeShape, AssertShape, AssertEmpty, End, Fail}
use Rattle.mc_flow.specs.Steps.{Config, Result, at_point, start, copied, computed, found, loaded, written, put, stored, freed_at, freed, tested, Takes, Allocates, AddsShape, Assumes, Demands, Asserts, StepOf, StepAt, Step}
use Rattle.mc_flow.specs.Valid.{IsValid, targets}
use Rattle.mc_flow.specs.Values.{address, value_in, value_of, values_of}
use Rattle.mc_semantics.specs.Waiting.Flows.{InstructionAsks, PointAsks, Asks}
use Rattle.mc_semantics.specs.Waiting.Runs.{Leads, HasEnded, MakesStep, IsOneOf}
use Rattle.mc_semantics.specs.Waiting.Requests.{Request, an_input, an_address, a_shape, IsUnanswered, Waits}
use Rattle.mc_semantics.proofs.WaitingLemmas.Deciding.{either_way, StepsOr, none_of_three}

-- ---- one of the two
abbrev Asking : List Def → Instr → Config → List Choice → Request → List Choice → Type 0
Asking defs code c choices request left = (left ≡ choices) × InstructionAsks defs code c request

takes_or : (defs : List Def) (x : VarId) (q : PointId) (c : Config) (choices : List Choice) → (StepsOr (Takes x q c choices) (Asking defs (Input x q) c choices) → ⊥) → ⊥
takes_or defs x q c [] k = k (inr (record { request = an_input; left = []; asks = (refl, refl); unanswered = tt }))
takes_or defs x q c (input v ∷ choices) k = either_way (InKind Int v) (λ d. elim d [
  | inl ok ↦ k (inl (_, (ok, refl)))
  | inr isnt ↦ k (inr (record { request = an_input; left = input v ∷ choices; asks = (refl, refl); unanswered = isnt }))
])
takes_or defs x q c (malloc n ∷ choices) k = k (inr (record { request = an_input; left = malloc n ∷ choices; asks = (refl, refl); unanswered = λ y. y }))
takes_or defs x q c (shape v blocks ∷ choices) k = k (inr (record { request = an_input; left = shape v blocks ∷ choices; asks = (refl, refl); unanswered = λ y. y }))

allocates_or : (structs : Structs) (defs : List Def) (x : VarId) (s : StructId) (q : PointId) (c : Config) (choices : List Choice) → (StepsOr (Allocates structs x s q c choices) (Asking defs (Malloc x s q) c choices) → ⊥) → ⊥
allocates_or structs defs x s q c [] k = k (inr (record { request = an_address c.heap; left = []; asks = (refl, refl); unanswered = tt }))
allocates_or structs defs x s q c (malloc zero ∷ choices) k = k (inl (_, refl))
allocates_or structs defs x s q c (malloc (suc n) ∷ choices) k = either_way (IsAddress (suc n) × (region_of c.heap (suc n) ≡ None)) (λ d. elim d [
  | inl ok ↦ k (inl (_, (ok.0, ok.1, refl)))
  | inr isnt ↦ k (inr (record { request = an_address c.heap; left = malloc (suc n) ∷ choices; asks = (refl, refl); unanswered = isnt }))
])
allocates_or structs defs x s q c (input v ∷ choices) k = k (inr (record { request = an_address c.heap; left = input v ∷ choices; asks = (refl, refl); unanswered = λ y. y }))
allocates_or structs defs x s q c (shape v blocks ∷ choices) k = k (inr (record { request = an_address c.heap; left = shape v blocks ∷ choices; asks = (refl, refl); unanswered = λ y. y }))

adds_or : (defs : List Def) (pred : PredId) (args : List ℤ) (x : VarId) (q : PointId) (c : Config) (choices : List Choice) (Asks : Request → List Choice → Type 0) → Asks (a_shape defs pred args c.heap) choices
    → (StepsOr (AddsShape defs pred args x q c choices) Asks → ⊥) → ⊥
adds_or defs pred args x q c [] Asks asks k = k (inr (record { request = a_shape defs pred args c.heap; left = []; asks = asks; unanswered = tt }))
adds_or defs pred args x q c (shape v blocks ∷ choices) Asks asks k = either_way (AreFree c.heap blocks × Sat defs pred v args (part_of blocks)) (λ d. elim d [
  | inl ok ↦ k (inl (_, (ok.0, ok.1, refl)))
  | inr isnt ↦ k (inr (record { request = a_shape defs pred args c.heap; left = shape v blocks ∷ choices; asks = asks; unanswered = isnt }))
])
adds_or defs pred args x q c (input v ∷ choices) Asks asks k = k (inr (record { request = a_shape defs pred args c.heap; left = input v ∷ choices; asks = asks; unanswered = λ y. y }))
adds_or defs pred args x q c (malloc n ∷ choices) Asks asks k = k (inr (record { request = a_shape defs pred args c.heap; left = malloc n ∷ choices; asks = asks; unanswered = λ y. y }))

assumes_or : (defs : List Def) (pred : PredId) (x : VarId) (q : PointId) (place : Place) (c : Config) (choices : List Choice) (o : Option (List ℤ)) (Asks : Request → List Choice → Type 0)
    → ((args : List ℤ) → o ≡ Some args → Asks (a_shape defs pred args c.heap) choices) → (StepsOr (Assumes defs pred x q place c choices o) Asks → ⊥) → ⊥
assumes_or defs pred x q place c choices None Asks asks k = k (inl (_, refl))
assumes_or defs pred x q place c choices (Some args) Asks asks k = adds_or defs pred args x q c choices Asks (asks args refl) k

demands_or : (P : Type 0) (kind : FaultKind) (q : PointId) (place : Place) (c : Config) (choices : List Choice) (Asks : Request → List Choice → Type 0) → (StepsOr (Demands P kind q place c choices) Asks → ⊥) → ⊥
demands_or P kind q place c choices Asks k = either_way P (λ d. elim d [ inl is ↦ k (inl (_, inl (is, refl))) | inr isnt ↦ k (inl (_, inr (isnt, refl))) ])

asserts_or : (defs : List Def) (pred : PredId) (q : PointId) (place : Place) (c : Config) (choices : List Choice) (v : Option ℤ) (args : Option (List ℤ)) (Asks : Request → List Choice → Type 0) → (StepsOr (Asserts defs pred q place c choices v args) Asks → ⊥) → ⊥
asserts_or defs pred q place c choices None args Asks k = k (inl (_, refl))
asserts_or defs pred q place c choices (Some v) None Asks k = k (inl (_, refl))
asserts_or defs pred q place c choices (Some v) (Some args) Asks k = demands_or _ _ q place c choices Asks k

pub instruction_or : (structs : Structs) (defs : List Def) (place : Place) (code : Instr) (c : Config) (choices : List Choice) → (StepsOr (StepOf structs defs place code c choices) (Asking defs code c choices) → ⊥) → ⊥
instruction_or structs defs place (Skip q) c choices k = k (inl (_, refl))
instruction_or structs defs place (Copy x o q) c choices k = k (inl (_, refl))
instruction_or structs defs place (Undef xs q) c choices k = k (inl (_, refl))
instruction_or structs defs place (Input x q) c choices k = takes_or defs x q c choices k
instruction_or structs defs place (Add x o p q) c choices k = k (inl (_, refl))
instruction_or structs defs place (Sub x o p q) c choices k = k (inl (_, refl))
instruction_or structs defs place (Mul x o p q) c choices k = k (inl (_, refl))
instruction_or structs defs place (Load x y s f q) c choices k = k (inl (_, refl))
instruction_or structs defs place (Store y s f o q) c choices k = k (inl (_, refl))
instruction_or structs defs place (Malloc x s q) c choices k = allocates_or structs defs x s q c choices k
instruction_or structs defs place (Free o q) c choices k = k (inl (_, refl))
instruction_or structs defs place (TestEq o p t f) c choices k = k (inl (_, refl))
instruction_or structs defs place (TestLe o p t f) c choices k = k (inl (_, refl))
instruction_or structs defs place (AssumeShape pred x os q) c choices k =
    assumes_or defs pred x q place c choices (values_of c.vars os) (Asking defs (AssumeShape pred x os q) c choices) (λ args e. (refl, (args, e, refl))) k
instruction_or structs defs place (AssertShape pred o os q) c choices k = asserts_or defs pred q place c choices _ _ _ k
instruction_or structs defs place (AssertEmpty q) c choices k = demands_or _ _ q place c choices _ k
instruction_or structs defs place End c choices k = k (inl (_, refl))
instruction_or structs defs place Fail c choices k = k (inl (_, refl))

-- ---- never both
module _ (request : Request) (left choices : List Choice) (same : left ≡ choices) (w : IsUnanswered request left) where
  unanswered_as : (wanted : Request) → request ≡ wanted → IsUnanswered wanted choices
  unanswered_as wanted e = (let P : Request → Type 0 = λ q. IsUnanswered q choices in let Q : List Choice → Type 0 = λ l. IsUnanswered request l in subst P e (subst Q same w))

takes_alone : (x : VarId) (q : PointId) (c : Config) (choices : List Choice) (r : Result) → IsUnanswered an_input choices → Takes x q c choices r → ⊥
takes_alone x q c [] r u is = is
takes_alone x q c (input v ∷ choices) r u is = u is.0
takes_alone x q c (malloc n ∷ choices) r u is = is
takes_alone x q c (shape v blocks ∷ choices) r u is = is

allocates_alone : (structs : Structs) (x : VarId) (s : StructId) (q : PointId) (c : Config) (choices : List Choice) (r : Result) → IsUnanswered (an_address c.heap) choices → Allocates structs x s q c choices r → ⊥
allocates_alone structs x s q c [] r u is = is
allocates_alone structs x s q c (malloc zero ∷ choices) r u is = u tt
allocates_alone structs x s q c (malloc (suc n) ∷ choices) r u is = u (is.0, is.1)
allocates_alone structs x s q c (input v ∷ choices) r u is = is
allocates_alone structs x s q c (shape v blocks ∷ choices) r u is = is

adds_alone : (defs : List Def) (pred : PredId) (args : List ℤ) (x : VarId) (q : PointId) (c : Config) (choices : List Choice) (r : Result) → IsUnanswered (a_shape defs pred args c.heap) choices → AddsShape defs pred args x q c choices r → ⊥
adds_alone defs pred args x q c [] r u is = is
adds_alone defs pred args x q c (shape v blocks ∷ choices) r u is = u (is.0, is.1)
adds_alone defs pred args x q c (input v ∷ choices) r u is = is
adds_alone defs pred args x q c (malloc n ∷ choices) r u is = is

pub instruction_alone : (structs : Structs) (defs : List Def) (place : Place) (code : Instr) (c : Config) (choices : List Choice) (request : Request) (left : List Choice) (r : Result) → IsUnanswered request left
    → StepOf structs defs place code c choices r → Asking defs code c choices request left → ⊥
instruction_alone structs defs place (Input x q) c choices request left r w is asks = takes_alone x q c choices r (unanswered_as request left choices asks.0 w an_input asks.1) is
instruction_alone structs defs place (Malloc x s q) c choices request left r w is asks = allocates_alone structs x s q c choices r (unanswered_as request left choices asks.0 w (an_address c.heap) asks.1) is
instruction_alone structs defs place (AssumeShape pred x os q) c choices request left r w is asks =
    (let P : Option (List ℤ) → Type 0 = λ o. Assumes defs pred x q place c choices o r in
    adds_alone defs pred asks.1.0 x q c choices r (unanswered_as request left choices asks.0 w (a_shape defs pred asks.1.0 c.heap) asks.1.2) (subst P asks.1.1 is))
instruction_alone structs defs place (Skip q) c choices request left r w is asks = asks.1
instruction_alone structs defs place (Copy x o q) c choices request left r w is asks = asks.1
instruction_alone structs defs place (Undef xs q) c choices request left r w is asks = asks.1
instruction_alone structs defs place (Add x o p q) c choices request left r w is asks = asks.1
instruction_alone structs defs place (Sub x o p q) c choices request left r w is asks = asks.1
instruction_alone structs defs place (Mul x o p q) c choices request left r w is asks = asks.1
instruction_alone structs defs place (Load x y s f q) c choices request left r w is asks = asks.1
instruction_alone structs defs place (Store y s f o q) c choices request left r w is asks = asks.1
instruction_alone structs defs place (Free o q) c choices request left r w is asks = asks.1
instruction_alone structs defs place (TestEq o p t f) c choices request left r w is asks = asks.1
instruction_alone structs defs place (TestLe o p t f) c choices request left r w is asks = asks.1
instruction_alone structs defs place (AssertShape pred o os q) c choices request left r w is asks = asks.1
instruction_alone structs defs place (AssertEmpty q) c choices request left r w is asks = asks.1
instruction_alone structs defs place End c choices request left r w is asks = asks.1
instruction_alone structs defs place Fail c choices request left r w is asks = asks.1

-- ---- where a step leads
-- the point is one of so many
abbrev IsWithin : ℕ → Result → Type 0
IsWithin count (next d rest) = d.point < count
IsWithin count (last f) = Unit {0}

module _ (count : ℕ) where
  equal_within : (r s : Result) → s ≡ r → IsWithin count r → IsWithin count s
  equal_within r s e h = (let P : Result → Type 0 = λ x. IsWithin count x in subst P (sym e) h)

  if_within : (b : Bool) (r s : Result) → IsWithin count r → IsWithin count s → IsWithin count (if b then r else s)
  if_within true r s one other = one
  if_within false r s one other = other

  copied_within : (x : VarId) (q : PointId) (place : Place) (c : Config) (choices : List Choice) (o : Option ℤ) → q.0 < count → IsWithin count (copied x q place c choices o)
  copied_within x q place c choices None lt = tt
  copied_within x q place c choices (Some v) lt = lt

  computed_within : (operation : ℤ → ℤ → ℤ) (x : VarId) (q : PointId) (place : Place) (c : Config) (choices : List Choice) (a b : Option ℤ) → q.0 < count → IsWithin count (computed operation x q place c choices a b)
  computed_within operation x q place c choices None b lt = tt
  computed_within operation x q place c choices (Some a) None lt = tt
  computed_within operation x q place c choices (Some a) (Some b) lt = lt

  found_within : (x : VarId) (q : PointId) (place : Place) (c : Config) (choices : List Choice) (o : Option (Option ℤ)) → q.0 < count → IsWithin count (found x q place c choices o)
  found_within x q place c choices None lt = tt
  found_within x q place c choices (Some None) lt = tt
  found_within x q place c choices (Some (Some v)) lt = lt

  loaded_within : (x : VarId) (s : StructId) (f : ℕ) (q : PointId) (place : Place) (c : Config) (choices : List Choice) (o : Option ℤ) → q.0 < count → IsWithin count (loaded x s f q place c choices o)
  loaded_within x s f q place c choices None lt = tt
  loaded_within x s f q place c choices (Some p) lt =
      if_within (address p == 0) (last (fault Null place)) (found x q place c choices (field_at (region_of c.heap (address p)) s.0 f)) tt (found_within x q place c choices (field_at (region_of c.heap (address p)) s.0 f) lt)

  put_within : (q : PointId) (place : Place) (c : Config) (choices : List Choice) (o : Option Heap) → q.0 < count → IsWithin count (put q place c choices o)
  put_within q place c choices None lt = tt
  put_within q place c choices (Some heap) lt = lt

  stored_within : (s : StructId) (f : ℕ) (q : PointId) (place : Place) (c : Config) (choices : List Choice) (v base : Option ℤ) → q.0 < count → IsWithin count (stored s f q place c choices v base)
  stored_within s f q place c choices None base lt = tt
  stored_within s f q place c choices (Some v) None lt = tt
  stored_within s f q place c choices (Some v) (Some p) lt =
      if_within (address p == 0) (last (fault Null place)) (put q place c choices (written c.heap (address p) s f v (region_of c.heap (address p)))) tt (put_within q place c choices (written c.heap (address p) s f v (region_of c.heap (address p))) lt)

  freed_at_within : (q : PointId) (place : Place) (c : Config) (choices : List Choice) (at : ℕ) (o : Option Block) → q.0 < count → IsWithin count (freed_at q place c choices at o)
  freed_at_within q place c choices at None lt = tt
  freed_at_within q place c choices at (Some block) lt = lt

  freed_within : (q : PointId) (place : Place) (c : Config) (choices : List Choice) (o : Option ℤ) → q.0 < count → IsWithin count (freed q place c choices o)
  freed_within q place c choices None lt = tt
  freed_within q place c choices (Some p) lt =
      if_within (address p == 0) (next (at_point q c) choices) (freed_at q place c choices (address p) (region_of c.heap (address p))) lt (freed_at_within q place c choices (address p) (region_of c.heap (address p)) lt)

  tested_within : (test : ℤ → ℤ → Bool) (t f : PointId) (place : Place) (c : Config) (choices : List Choice) (a b : Option ℤ) → t.0 < count → f.0 < count → IsWithin count (tested test t f place c choices a b)
  tested_within test t f place c choices None b one other = tt
  tested_within test t f place c choices (Some a) None one other = tt
  tested_within test t f place c choices (Some a) (Some b) one other = if_within (test a b) (next (at_point t c) choices) (next (at_point f c) choices) one other

  takes_within : (x : VarId) (q : PointId) (c : Config) (choices : List Choice) (r : Result) → q.0 < count → Takes x q c choices r → IsWithin count r
  takes_within x q c [] r lt is = absurd is
  takes_within x q c (input v ∷ choices) r lt is = equal_within _ r is.1 lt
  takes_within x q c (malloc n ∷ choices) r lt is = absurd is
  takes_within x q c (shape v blocks ∷ choices) r lt is = absurd is

  allocates_within : (structs : Structs) (x : VarId) (s : StructId) (q : PointId) (c : Config) (choices : List Choice) (r : Result) → q.0 < count → Allocates structs x s q c choices r → IsWithin count r
  allocates_within structs x s q c [] r lt is = absurd is
  allocates_within structs x s q c (malloc zero ∷ choices) r lt is = equal_within _ r is lt
  allocates_within structs x s q c (malloc (suc n) ∷ choices) r lt is = equal_within _ r is.2 lt
  allocates_within structs x s q c (input v ∷ choices) r lt is = absurd is
  allocates_within structs x s q c (shape v blocks ∷ choices) r lt is = absurd is

  assumes_within : (defs : List Def) (pred : PredId) (x : VarId) (q : PointId) (place : Place) (c : Config) (choices : List Choice) (o : Option (List ℤ)) (r : Result) → q.0 < count → Assumes defs pred x q place c choices o r → IsWithin count r
  assumes_within defs pred x q place c choices None r lt is = equal_within (last _) r is tt
  assumes_within defs pred x q place c [] (Some args) r lt is = absurd is
  assumes_within defs pred x q place c (shape v blocks ∷ choices) (Some args) r lt is = equal_within _ r is.2 lt
  assumes_within defs pred x q place c (input v ∷ choices) (Some args) r lt is = absurd is
  assumes_within defs pred x q place c (malloc n ∷ choices) (Some args) r lt is = absurd is

  demands_within : (P : Type 0) (kind : FaultKind) (q : PointId) (place : Place) (c : Config) (choices : List Choice) (r : Result) → q.0 < count → Demands P kind q place c choices r → IsWithin count r
  demands_within P kind q place c choices r lt (inl is) = equal_within _ r is.1 lt
  demands_within P kind q place c choices r lt (inr is) = equal_within (last _) r is.1 tt

  asserts_within : (defs : List Def) (pred : PredId) (q : PointId) (place : Place) (c : Config) (choices : List Choice) (v : Option ℤ) (args : Option (List ℤ)) (r : Result) → q.0 < count → Asserts defs pred q place c choices v args r → IsWithin count r
  asserts_within defs pred q place c choices None args r lt is = equal_within (last _) r is tt
  asserts_within defs pred q place c choices (Some v) None r lt is = equal_within (last _) r is tt
  asserts_within defs pred q place c choices (Some v) (Some args) r lt is = demands_within _ _ q place c choices r lt is

  step_within : (structs : Structs) (defs : List Def) (place : Place) (code : Instr) (c : Config) (choices : List Choice) (r : Result) → All (λ q. q.0 < count) (targets code) → StepOf structs defs place code c choices r → IsWithin count r
  step_within structs defs place (Skip q) c choices r goes is = equal_within _ r is (goes 0 q (omega arith))
  step_within structs defs place (Copy x o q) c choices r goes is = equal_within _ r is (copied_within x q place c choices _ (goes 0 q (omega arith)))
  step_within structs defs place (Undef xs q) c choices r goes is = equal_within _ r is (goes 0 q (omega arith))
  step_within structs defs place (Input x q) c choices r goes is = takes_within x q c choices r (goes 0 q (omega arith)) is
  step_within structs defs place (Add x o p q) c choices r goes is = equal_within _ r is (computed_within _ x q place c choices _ _ (goes 0 q (omega arith)))
  step_within structs defs place (Sub x o p q) c choices r goes is = equal_within _ r is (computed_within _ x q place c choices _ _ (goes 0 q (omega arith)))
  step_within structs defs place (Mul x o p q) c choices r goes is = equal_within _ r is (computed_within _ x q place c choices _ _ (goes 0 q (omega arith)))
  step_within structs defs place (Load x y s f q) c choices r goes is = equal_within _ r is (loaded_within x s f q place c choices (value_in c.vars y) (goes 0 q (omega arith)))
  step_within structs defs place (Store y s f o q) c choices r goes is = equal_within _ r is (stored_within s f q place c choices (value_of c.vars o) (value_in c.vars y) (goes 0 q (omega arith)))
  step_within structs defs place (Malloc x s q) c choices r goes is = allocates_within structs x s q c choices r (goes 0 q (omega arith)) is
  step_within structs defs place (Free o q) c choices r goes is = equal_within _ r is (freed_within q place c choices (value_of c.vars o) (goes 0 q (omega arith)))
  step_within structs defs place (TestEq o p t f) c choices r goes is = equal_within _ r is (tested_within int_eq t f place c choices (value_of c.vars o) (value_of c.vars p) (goes 0 t (omega arith)) (goes 1 f (omega arith)))
  step_within structs defs place (TestLe o p t f) c choices r goes is = equal_within _ r is (tested_within int_le t f place c choices (value_of c.vars o) (value_of c.vars p) (goes 0 t (omega arith)) (goes 1 f (omega arith)))
  step_within structs defs place (AssumeShape pred x os q) c choices r goes is = assumes_within defs pred x q place c choices _ r (goes 0 q (omega arith)) is
  step_within structs defs place (AssertShape pred o os q) c choices r goes is = asserts_within defs pred q place c choices _ _ r (goes 0 q (omega arith)) is
  step_within structs defs place (AssertEmpty q) c choices r goes is = demands_within _ _ q place c choices r (goes 0 q (omega arith)) is
  step_within structs defs place End c choices r goes is = equal_within (last _) r is tt
  step_within structs defs place Fail c choices r goes is = equal_within (last _) r is tt

-- ---- a step is determined
pub joined : {X : Type 0} {x y z : X} → x ≡ z → y ≡ z → x ≡ y
joined e f = e ∙ sym f

pub takes_once : (x : VarId) (q : PointId) (c : Config) (choices : List Choice) (r s : Result) → Takes x q c choices r → Takes x q c choices s → r ≡ s
takes_once x q c [] r s i j = absurd i
takes_once x q c (input v ∷ choices) r s i j = joined i.1 j.1
takes_once x q c (malloc n ∷ choices) r s i j = absurd i
takes_once x q c (shape v blocks ∷ choices) r s i j = absurd i

pub allocates_once : (structs : Structs) (x : VarId) (t : StructId) (q : PointId) (c : Config) (choices : List Choice) (r s : Result) → Allocates structs x t q c choices r → Allocates structs x t q c choices s → r ≡ s
allocates_once structs x t q c [] r s i j = absurd i
allocates_once structs x t q c (malloc zero ∷ choices) r s i j = joined i j
allocates_once structs x t q c (malloc (suc n) ∷ choices) r s i j = joined i.2 j.2
allocates_once structs x t q c (input v ∷ choices) r s i j = absurd i
allocates_once structs x t q c (shape v blocks ∷ choices) r s i j = absurd i

pub assumes_once : (defs : List Def) (pred : PredId) (x : VarId) (q : PointId) (place : Place) (c : Config) (choices : List Choice) (o : Option (List ℤ)) (r s : Result) → Assumes defs pred x q place c choices o r → Assumes defs pred x q place c choices o s → r ≡ s
assumes_once defs pred x q place c choices None r s i j = joined i j
assumes_once defs pred x q place c [] (Some args) r s i j = absurd i
assumes_once defs pred x q place c (shape v blocks ∷ choices) (Some args) r s i j = joined i.2 j.2
assumes_once defs pred x q place c (input v ∷ choices) (Some args) r s i j = absurd i
assumes_once defs pred x q place c (malloc n ∷ choices) (Some args) r s i j = absurd i

pub demands_once : (P : Type 0) (kind : FaultKind) (q : PointId) (place : Place) (c : Config) (choices : List Choice) (r s : Result) → Demands P kind q place c choices r → Demands P kind q place c choices s → r ≡ s
demands_once P kind q place c choices r s (inl i) (inl j) = joined i.1 j.1
demands_once P kind q place c choices r s (inl i) (inr j) = absurd (j.0 i.0)
demands_once P kind q place c choices r s (inr i) (inl j) = absurd (i.0 j.0)
demands_once P kind q place c choices r s (inr i) (inr j) = joined i.1 j.1

pub asserts_once : (defs : List Def) (pred : PredId) (q : PointId) (place : Place) (c : Config) (choices : List Choice) (v : Option ℤ) (args : Option (List ℤ)) (r s : Result) → Asserts defs pred q place c choices v args r → Asserts defs pred q place c choices v args s → r ≡ s
asserts_once defs pred q place c choices None args r s i j = joined i j
asserts_once defs pred q place c choices (Some v) None r s i j = joined i j
asserts_once defs pred q place c choices (Some v) (Some args) r s i j = demands_once _ _ q place c choices r s i j

pub step_once : (structs : Structs) (defs : List Def) (place : Place) (code : Instr) (c : Config) (choices : List Choice) (r s : Result) → StepOf structs defs place code c choices r → StepOf structs defs place code c choices s → r ≡ s
step_once structs defs place (Skip q) c choices r s i j = joined i j
step_once structs defs place (Copy x o q) c choices r s i j = joined i j
step_once structs defs place (Undef xs q) c choices r s i j = joined i j
step_once structs defs place (Input x q) c choices r s i j = takes_once x q c choices r s i j
step_once structs defs place (Add x o p q) c choices r s i j = joined i j
step_once structs defs place (Sub x o p q) c choices r s i j = joined i j
step_once structs defs place (Mul x o p q) c choices r s i j = joined i j
step_once structs defs place (Load x y t f q) c choices r s i j = joined i j
step_once structs defs place (Store y t f o q) c choices r s i j = joined i j
step_once structs defs place (Malloc x t q) c choices r s i j = allocates_once structs x t q c choices r s i j
step_once structs defs place (Free o q) c choices r s i j = joined i j
step_once structs defs place (TestEq o p t f) c choices r s i j = joined i j
step_once structs defs place (TestLe o p t f) c choices r s i j = joined i j
step_once structs defs place (AssumeShape pred x os q) c choices r s i j = assumes_once defs pred x q place c choices _ r s i j
step_once structs defs place (AssertShape pred o os q) c choices r s i j = asserts_once defs pred q place c choices _ _ r s i j
step_once structs defs place (AssertEmpty q) c choices r s i j = demands_once _ _ q place c choices r s i j
step_once structs defs place End c choices r s i j = joined i j
step_once structs defs place Fail c choices r s i j = joined i j

-- ---- points of a flow graph
pub at_once : (structs : Structs) (defs : List Def) (o : Option Point) (c : Config) (choices : List Choice) (r s : Result) → StepAt structs defs o c choices r → StepAt structs defs o c choices s → r ≡ s
at_once structs defs None c choices r s i j = absurd i
at_once structs defs (Some p) c choices r s i j = step_once structs defs p.place p.code c choices r s i j

pub determined : (flow : Flow) (defs : List Def) (c : Config) (choices : List Choice) (r s : Result) → Step flow defs c choices r → Step flow defs c choices s → r ≡ s
determined flow defs c choices r s i j = at_once flow.structs defs (slice_get flow.points c.point) c choices r s i j

at_or : (flow : Flow) (defs : List Def) (o : Option Point) (c : Config) (choices : List Choice) → (p : Point) × (o ≡ Some p) → (StepsOr (StepAt flow.structs defs o c choices) (λ request left. (left ≡ choices) × PointAsks defs o c request) → ⊥) → ⊥
at_or flow defs None c choices there k = cc
at_or flow defs (Some p) c choices there k = instruction_or flow.structs defs p.place p.code c choices k

at_alone : (flow : Flow) (defs : List Def) (o : Option Point) (c : Config) (choices : List Choice) (r : Result) → StepAt flow.structs defs o c choices r → (request : Request) (left : List Choice) → IsUnanswered request left → left ≡ choices → PointAsks defs o c request → ⊥
at_alone flow defs None c choices r is request left w e asks = asks
at_alone flow defs (Some p) c choices r is request left w e asks = instruction_alone flow.structs defs p.place p.code c choices request left r w is (e, asks)

alone : (flow : Flow) (defs : List Def) (c : Config) (choices : List Choice) (r : Result) → Step flow defs c choices r → Waits (Asks flow defs c choices) → ⊥
alone flow defs c choices r is waits = at_alone flow defs (slice_get flow.points c.point) c choices r is waits.request waits.left waits.unanswered waits.asks.0 waits.asks.1

point_there : (flow : Flow) (at : ℕ) → at < length flow.points → (p : Point) × (slice_get flow.points at ≡ Some p)
point_there flow at lt = elim (slice_get_cases flow.points at).1 [ inl h ↦ (h.0, h.2) | inr h ↦ (let past = h.0 in absurd (omega arith)) ]

one_of : (flow : Flow) (defs : List Def) (c : Config) (choices : List Choice) → c.point < length flow.points → IsOneOf (MakesStep (Step flow defs) c choices) (HasEnded (Step flow defs) c choices) (Waits (Asks flow defs c choices))
one_of flow defs c choices lt = record {
  some = λ none. at_or flow defs (slice_get flow.points c.point) c choices (point_there flow c.point lt) (λ s. none_of_three (Step flow defs) (Asks flow defs c choices) c choices none.0 none.1 none.2 s);
  not_both = λ made at_end. made.2 (determined flow defs c choices made.0 (last ended) made.1 at_end);
  nor_first = λ made waits. alone flow defs c choices made.0 made.1 waits;
  nor_second = λ at_end waits. alone flow defs c choices (last ended) at_end waits;
}

at_within : (flow : Flow) (defs : List Def) → IsValid flow defs → (o : Option Point) (c : Config) (choices : List Choice) (r : Result) → slice_get flow.points c.point ≡ o → StepAt flow.structs defs o c choices r → IsWithin (length flow.points) r
at_within flow defs valid None c choices r e is = absurd is
at_within flow defs valid (Some p) c choices r e is =
    step_within (length flow.points) flow.structs defs p.place p.code c choices r (λ k d lt. ((valid.points c.point p e).follows k d lt).0) is

reached : (flow : Flow) (defs : List Def) → IsValid flow defs → (n : ℕ) (c d : Config) (choices left : List Choice) → c.point < length flow.points → Leads (Step flow defs) n c choices d left → d.point < length flow.points
reached flow defs valid zero c d choices left lt leads = (let P : Config → Type 0 = λ x. x.point < length flow.points in subst P leads.0 lt)
reached flow defs valid (suc n) c d choices left lt leads =
    reached flow defs valid n leads.0 d leads.1 left (at_within flow defs valid (slice_get flow.points c.point) c choices (next leads.0 leads.1) refl leads.2) leads.3

pub one_of_three : (flow : Flow) (defs : List Def) → IsValid flow defs → (n : ℕ) (choices left : List Choice) (c : Config) → Leads (Step flow defs) n (start flow) choices c left
    → IsOneOf (MakesStep (Step flow defs) c left) (HasEnded (Step flow defs) c left) (Waits (Asks flow defs c left))
one_of_three flow defs valid n choices left c leads = one_of flow defs c left (reached flow defs valid n (start flow) c choices left valid.begins leads)
