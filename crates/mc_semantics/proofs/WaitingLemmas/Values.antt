-- An expression has a value or waits for an input, and so do arguments one after the other.
use Rattle.std.proofs.Common.{◌≡◌, ◌⊎◌, ℤ, List, [], ◌∷◌, Option, Some, refl, subst, inl, inr}
use Rattle.mc_base.specs.declared.plain.Kind.TheVariants.{Int as int_kind}
use Rattle.mc_base.specs.declared.text.place.Place.{Place}
use Rattle.mc_base.specs.Kinds.{InKind}
use Rattle.mc_flow.specs.Runs.{last, fault}
use Rattle.mc_flow.specs.Heap.Choices.{Choice, input as choose_input, malloc as choose_malloc, shape as choose_shape}
use Rattle.mc_c_syntax.specs.Ast.Trees.{Expr, number, null, input, value, minus, parens, times, plus, difference}
use Rattle.mc_semantics.specs.Configs.{Result}
use Rattle.mc_semantics.specs.Laws.{ValuesAreDetermined}
use Rattle.mc_semantics.specs.Values.{Here, Evaluated, fault_of, value_of, IsInput, right_operand, AfterLeft, Evaluates}
use Rattle.mc_semantics.specs.Steps.{put_before, AfterValue, WithValue, Arguments, no_arguments, AfterFirst, EvaluateAll}
use Rattle.mc_semantics.specs.Waiting.Requests.{Request, an_input, IsUnanswered}
use Rattle.mc_semantics.specs.Waiting.Trees.{AsksBehind, ValueAsks, ArgumentsAsk}
use Rattle.mc_semantics.proofs.WaitingLemmas.Deciding.{either_way, StepsOr}

-- ---- one of the two
answered : (v : ℤ) (choices : List Choice) → InKind int_kind v ⊎ (¬ InKind int_kind v) → ((one : Evaluated) × IsInput (choose_input v ∷ choices) one) ⊎ IsUnanswered an_input (choose_input v ∷ choices)
answered v choices (inl is) = inl (value_of (Some v) choices, (is, refl))
answered v choices (inr isnt) = inr isnt

input_or : (choices : List Choice) → (((one : Evaluated) × IsInput choices one) ⊎ IsUnanswered an_input choices → ⊥) → ⊥
input_or [] k = k (inr tt)
input_or (choose_input v ∷ choices) k = either_way (InKind int_kind v) (λ d. k (answered v choices d))
input_or (choose_malloc n ∷ choices) k = k (inr (λ x. x))
input_or (choose_shape v blocks ∷ choices) k = k (inr (λ x. x))

-- a value, or an input that is waited for
abbrev pub ValueOr : (Evaluated → Type 0) → (List Choice → Type 0) → Type 0
ValueOr Comes Asks = ((one : Evaluated) × Comes one) ⊎ ((left : List Choice) × Asks left × IsUnanswered an_input left)

abbrev OnBoth : Here → (ℤ → ℤ → ℤ) → Expr → Expr → List Choice → Evaluated → Type 0
OnBoth h operation a b choices r = (one : Evaluated) × Evaluates h a choices one × AfterLeft operation (λ rest two. Evaluates h b rest two) one r

abbrev AskBoth : Here → Expr → Expr → List Choice → List Choice → Type 0
AskBoth h a b choices left = ValueAsks h a choices left ⊎ AsksBehind h a choices (λ rest. ValueAsks h b rest left)

behind_left : (h : Here) (operation : ℤ → ℤ → ℤ) (a b : Expr) (choices : List Choice) → ((rest : List Choice) → (ValueOr (Evaluates h b rest) (ValueAsks h b rest) → ⊥) → ⊥)
    → (one : Evaluated) → Evaluates h a choices one → (ValueOr (OnBoth h operation a b choices) (AskBoth h a b choices) → ⊥) → ⊥
behind_left h operation a b choices right (fault_of kind) is k = k (inl (fault_of kind, (fault_of kind, is, refl)))
behind_left h operation a b choices right (value_of v rest) is k =
    right rest (λ o. k (elim o [
      | inl two ↦ inl (right_operand operation v two.0, (value_of v rest, is, (two.0, two.1, refl)))
      | inr w ↦ inr (w.0, inr (v, rest, is, w.1), w.2)
    ]))

operated_or : (h : Here) (operation : ℤ → ℤ → ℤ) (a b : Expr) (choices : List Choice) → ((ValueOr (Evaluates h a choices) (ValueAsks h a choices) → ⊥) → ⊥)
    → ((rest : List Choice) → (ValueOr (Evaluates h b rest) (ValueAsks h b rest) → ⊥) → ⊥) → (ValueOr (OnBoth h operation a b choices) (AskBoth h a b choices) → ⊥) → ⊥
operated_or h operation a b choices left right k =
    left (λ o. elim o [ inl one ↦ behind_left h operation a b choices right one.0 one.1 k | inr w ↦ k (inr (w.0, inl w.1, w.2)) ])

pub value_or : (h : Here) (e : Expr) (choices : List Choice) → (ValueOr (Evaluates h e choices) (ValueAsks h e choices) → ⊥) → ⊥
value_or h (number n p) choices k = k (inl (_, refl))
value_or h (null p) choices k = k (inl (_, refl))
value_or h (input p) choices k = input_or choices (λ o. k (elim o [ inl one ↦ inl one | inr w ↦ inr (choices, refl, w) ]))
value_or h (value l) choices k = k (inl (_, refl))
value_or h (minus p e) choices k = value_or h e choices (λ o. k (elim o [ inl one ↦ inl (_, (one.0, one.1, refl)) | inr w ↦ inr w ]))
value_or h (parens p e) choices k = value_or h e choices k
value_or h (times a b) choices k = operated_or h _ a b choices (value_or h a choices) (λ rest. value_or h b rest) k
value_or h (plus a b) choices k = operated_or h _ a b choices (value_or h a choices) (λ rest. value_or h b rest) k
value_or h (difference a b) choices k = operated_or h _ a b choices (value_or h a choices) (λ rest. value_or h b rest) k

-- all arguments, or an input that is waited for
abbrev pub ArgumentsOr : Here → List Expr → List Choice → Type 0
ArgumentsOr h es choices = ((all : Arguments) × EvaluateAll h es choices all) ⊎ ((left : List Choice) × ArgumentsAsk h es choices left × IsUnanswered an_input left)

behind_first : (h : Here) (e : Expr) (es : List Expr) (choices : List Choice) → ((rest : List Choice) → (ArgumentsOr h es rest → ⊥) → ⊥) → (one : Evaluated) → Evaluates h e choices one → (ArgumentsOr h (e ∷ es) choices → ⊥) → ⊥
behind_first h e es choices more (fault_of kind) is k = k (inl (no_arguments kind, (fault_of kind, is, refl)))
behind_first h e es choices more (value_of v rest) is k =
    more rest (λ o. k (elim o [
      | inl others ↦ inl (put_before v others.0, (value_of v rest, is, (others.0, others.1, refl)))
      | inr w ↦ inr (w.0, inr (v, rest, is, w.1), w.2)
    ]))

pub arguments_or : (h : Here) (es : List Expr) (choices : List Choice) → (ArgumentsOr h es choices → ⊥) → ⊥
arguments_or h [] choices k = k (inl (_, refl))
arguments_or h (e ∷ es) choices k =
    value_or h e choices (λ o. elim o [ inl one ↦ behind_first h e es choices (λ rest. arguments_or h es rest) one.0 one.1 k | inr w ↦ k (inr (w.0, inl w.1, w.2)) ])

-- a step that begins with a value
module _ (h : Here) (e : Expr) (place : Place) (choices : List Choice) (go : Option ℤ → List Choice → Result → Type 0) (Asks : Request → List Choice → Type 0) where
  step_behind : ((v : Option ℤ) (rest : List Choice) → Evaluates h e choices (value_of v rest) → (StepsOr (go v rest) Asks → ⊥) → ⊥) → (one : Evaluated) → Evaluates h e choices one → (StepsOr (WithValue h e place choices go) Asks → ⊥) → ⊥
  step_behind each (fault_of kind) is k = k (inl (last (fault kind place), (fault_of kind, is, refl)))
  step_behind each (value_of v rest) is k = each v rest is (λ s. k (elim s [ inl r ↦ inl (r.0, (value_of v rest, is, r.1)) | inr w ↦ inr w ]))

  pub with_value_or : ((left : List Choice) → ValueAsks h e choices left → Asks an_input left)
      → ((v : Option ℤ) (rest : List Choice) → Evaluates h e choices (value_of v rest) → (StepsOr (go v rest) Asks → ⊥) → ⊥) → (StepsOr (WithValue h e place choices go) Asks → ⊥) → ⊥
  with_value_or asks each k =
      value_or h e choices (λ o. elim o [
        | inl one ↦ step_behind each one.0 one.1 k
        | inr w ↦ k (inr (record { request = an_input; left = w.0; asks = asks w.0 w.1; unanswered = w.2 }))
      ])

-- ---- never both
pub no_input : (choices left : List Choice) (one : Evaluated) → IsInput choices one → left ≡ choices → IsUnanswered an_input left → ⊥
no_input choices left one is e w = (let P : List Choice → Type 0 = λ l. IsUnanswered an_input l in answers choices one is (subst P e w))
  where
    answers : (all : List Choice) (r : Evaluated) → IsInput all r → IsUnanswered an_input all → ⊥
    answers [] r i u = i
    answers (choose_input v ∷ rest) r i u = u i.0
    answers (choose_malloc n ∷ rest) r i u = i
    answers (choose_shape v blocks ∷ rest) r i u = i

module _ (same : ValuesAreDetermined) where
  not_behind : (h : Here) (operation : ℤ → ℤ → ℤ) (b : Expr) (v : Option ℤ) (rest left : List Choice) (one r : Evaluated) → one ≡ value_of v rest
      → ((two : Evaluated) → Evaluates h b rest two → ⊥) → AfterLeft operation (λ l two. Evaluates h b l two) one r → ⊥
  not_behind h operation b v rest left one r e never is =
      let P : Evaluated → Type 0 = λ x. AfterLeft operation (λ l two. Evaluates h b l two) x r in
      let there : AfterLeft operation (λ l two. Evaluates h b l two) (value_of v rest) r = subst P e is in
      never there.0 there.1

  not_both : (h : Here) (operation : ℤ → ℤ → ℤ) (a b : Expr) (choices left : List Choice) (r : Evaluated)
      → ((one : Evaluated) → Evaluates h a choices one → ValueAsks h a choices left → ⊥)
      → ((rest : List Choice) (two : Evaluated) → Evaluates h b rest two → ValueAsks h b rest left → ⊥)
      → OnBoth h operation a b choices r → AskBoth h a b choices left → ⊥
  not_both h operation a b choices left r first second is (inl asks) = first is.0 is.1 asks
  not_both h operation a b choices left r first second is (inr asks) =
      not_behind h operation b asks.0 asks.1 left is.0 r (same h a choices is.0 (value_of asks.0 asks.1) is.1 asks.2) (λ two comes. second asks.1 two comes asks.3) is.2

  pub value_alone : (h : Here) (e : Expr) (choices left : List Choice) (one : Evaluated) → IsUnanswered an_input left → Evaluates h e choices one → ValueAsks h e choices left → ⊥
  value_alone h (number n p) choices left one w is asks = asks
  value_alone h (null p) choices left one w is asks = asks
  value_alone h (input p) choices left one w is asks = no_input choices left one is asks w
  value_alone h (value l) choices left one w is asks = asks
  value_alone h (minus p e) choices left one w is asks = value_alone h e choices left is.0 w is.1 asks
  value_alone h (parens p e) choices left one w is asks = value_alone h e choices left one w is asks
  value_alone h (times a b) choices left one w is asks = not_both h _ a b choices left one (λ x i. value_alone h a choices left x w i) (λ rest x i. value_alone h b rest left x w i) is asks
  value_alone h (plus a b) choices left one w is asks = not_both h _ a b choices left one (λ x i. value_alone h a choices left x w i) (λ rest x i. value_alone h b rest left x w i) is asks
  value_alone h (difference a b) choices left one w is asks = not_both h _ a b choices left one (λ x i. value_alone h a choices left x w i) (λ rest x i. value_alone h b rest left x w i) is asks

  pub arguments_alone : (h : Here) (es : List Expr) (choices left : List Choice) (all : Arguments) → IsUnanswered an_input left → EvaluateAll h es choices all → ArgumentsAsk h es choices left → ⊥
  arguments_alone h [] choices left all w is asks = asks
  arguments_alone h (e ∷ es) choices left all w is (inl asks) = value_alone h e choices left is.0 w is.1 asks
  arguments_alone h (e ∷ es) choices left all w is (inr asks) =
      let P : Evaluated → Type 0 = λ x. AfterFirst (λ rest others. EvaluateAll h es rest others) x all in
      let there : AfterFirst (λ rest others. EvaluateAll h es rest others) (value_of asks.0 asks.1) all = subst P (same h e choices is.0 (value_of asks.0 asks.1) is.1 asks.2) is.2 in
      arguments_alone h es asks.1 left there.0 w there.1 asks.3

  -- a step that begins with a value
  pub with_value_alone : (h : Here) (e : Expr) (place : Place) (choices left : List Choice) (go : Option ℤ → List Choice → Result → Type 0) (r : Result) → IsUnanswered an_input left
      → WithValue h e place choices go r → ValueAsks h e choices left → ⊥
  with_value_alone h e place choices left go r w is asks = value_alone h e choices left is.0 w is.1 asks

  -- and goes on with what is after it
  pub with_value_behind : (h : Here) (e : Expr) (place : Place) (choices : List Choice) (go : Option ℤ → List Choice → Result → Type 0) (r : Result) (v : Option ℤ) (rest : List Choice)
      → WithValue h e place choices go r → Evaluates h e choices (value_of v rest) → go v rest r
  with_value_behind h e place choices go r v rest is comes =
      let P : Evaluated → Type 0 = λ x. AfterValue place go x r in
      subst P (same h e choices is.0 (value_of v rest) is.1 comes) is.2
