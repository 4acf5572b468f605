-- Back positions as a test.
use Rattle.std.proofs.Common.{◌≡◌, ◌<◌, ℕ, List, Bool, true, false, Option, Some, None, length, refl, sym, ap, ◌∙◌, eqb-true, eq-eqb, arith}
use Rattle.std.specs.Prelude.{◌==◌, nat_lt, slice_get, if◌then◌else◌}
use Rattle.std.specs.List.{list_all, AllByRecursion}
use Rattle.mc_base.specs.declared.ids.PredId.{PredId}
use Rattle.mc_flow.specs.declared.defs.rules.Call.{Call}
use Rattle.mc_flow.specs.declared.defs.rules.Def.{Def}
use Rattle.mc_flow.specs.declared.defs.rules.Rule.{Rule}
use Rattle.mc_state.specs.Back.{is_back_call, IsBackPosition, is_back_of}
use Rattle.mc_state.specs.Lists.{on_some}
use Rattle.mc_state.specs.Told.{BackIsTold}
use Rattle.mc_state.proofs.Tests.{and_both, and_yes, each_from, each_to}

-- a call has `this` there, if it is one of the predicate
abbrev IsBackCall : PredId → ℕ → Call → Type 0
IsBackCall pred i call = call.pred ≡ pred → slice_get call.args i ≡ Some 0

zero_there : (o : Option ℕ) → on_some (λ name. name == 0) o ≡ true → o ≡ Some 0
zero_there None e = absurd (cc e)
zero_there (Some name) e = ap (λ n. Some n) (eqb-true name 0 e)

call_from : (pred : PredId) (i : ℕ) (call : Call) → is_back_call pred i call ≡ true → IsBackCall pred i call
call_from pred i call e own =
    zero_there (slice_get call.args i) (sym (ap (λ b. if b then on_some (λ name. name == 0) (slice_get call.args i) else true) (eq-eqb call.pred.0 pred.0 (ap (λ (p : PredId). p.0) own))) ∙ e)

call_to : (pred : PredId) (i : ℕ) (call : Call) → IsBackCall pred i call → is_back_call pred i call ≡ true
call_to pred i call back = at (call.pred.0 == pred.0) refl
  where
    at : (b : Bool) → (call.pred.0 == pred.0) ≡ b → (if b then on_some (λ name. name == 0) (slice_get call.args i) else true) ≡ true
    at true same = ap (on_some (λ name. name == 0)) (back (ap (λ n. record { 0 = n }) (eqb-true call.pred.0 pred.0 same)))
    at false same = refl

lt_from : (a b : ℕ) → nat_lt a b ≡ true → a < b
lt_from a b e = grind arith

lt_to : (a b : ℕ) → a < b → nat_lt a b ≡ true
lt_to a b h = grind arith

module _ (pred : PredId) (i : ℕ) where
  def_from : (def : Def) → is_back_of pred i def ≡ true → (i < length def.params) × AllByRecursion (λ (rule : Rule). AllByRecursion (IsBackCall pred i) rule.calls) def.rules
  def_from def e =
      let both = and_both (nat_lt i (length def.params)) (list_all (λ (rule : Rule). list_all (is_back_call pred i) rule.calls) def.rules) e in
      (lt_from i (length def.params) both.0, each_from _ _ (λ (rule : Rule) own. each_from (is_back_call pred i) (IsBackCall pred i) (call_from pred i) rule.calls own) def.rules both.1)

  def_to : (def : Def) → i < length def.params → AllByRecursion (λ (rule : Rule). AllByRecursion (IsBackCall pred i) rule.calls) def.rules → is_back_of pred i def ≡ true
  def_to def inside all =
      and_yes (nat_lt i (length def.params)) (list_all (λ (rule : Rule). list_all (is_back_call pred i) rule.calls) def.rules) (lt_to i (length def.params) inside)
      (each_to _ _ (λ (rule : Rule) own. each_to (is_back_call pred i) (IsBackCall pred i) (call_to pred i) rule.calls own) def.rules all)

  back_from : (defs : List Def) (o : Option Def) → slice_get defs pred.0 ≡ o → on_some (is_back_of pred i) o ≡ true → IsBackPosition defs pred i
  back_from defs None there e = absurd (cc e)
  back_from defs (Some def) there e = let both = def_from def e in record { def = def; defined = there; inside = both.0; all_back = both.1 }

pub back_told : BackIsTold
back_told defs pred i =
    (back_from pred i defs (slice_get defs pred.0) refl, λ back. ap (on_some (is_back_of pred i)) back.defined ∙ def_to pred i back.def back.inside back.all_back)
