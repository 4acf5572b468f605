-- Back positions: the parameters by which a segment may be unfolded from its end.
use Rattle.std.specs.Prelude.{◌≡◌, ◌==◌, ◌&&◌, ◌<◌, ℕ, nat_lt, Bool, true, List, Some, length, slice_get, if◌then◌else◌}
use Rattle.std.specs.List.{list_all, AllByRecursion}
use Rattle.mc_base.specs.declared.ids.PredId.{PredId}
use Rattle.mc_flow.specs.declared.defs.rules.Call.{Call}
use Rattle.mc_flow.specs.declared.defs.rules.Def.{Def}
use Rattle.mc_state.specs.Lists.{on_some}

-- a call, if it is one of the predicate, has `this`, which is name 0, as its argument at a position
abbrev pub is_back_call : PredId → ℕ → Call → Bool
is_back_call pred i call = if call.pred.0 == pred.0 then on_some (λ name. name == 0) (slice_get call.args i) else true

-- a back position of a predicate: in each of its rules, each call of the predicate itself has `this` as its argument there
pub record IsBackPosition (defs : List Def) (pred : PredId) (i : ℕ) : Type 0 where
  pub def : Def
  pub defined : slice_get defs pred.0 ≡ Some def
  pub inside : i < length def.params
  pub all_back : AllByRecursion (λ rule. AllByRecursion (λ call. call.pred ≡ pred → slice_get call.args i ≡ Some 0) rule.calls) def.rules

-- the same of a definition, as a test
abbrev pub is_back_of : PredId → ℕ → Def → Bool
is_back_of pred i def = nat_lt i (length def.params) && list_all (λ rule. list_all (is_back_call pred i) rule.calls) def.rules

-- a position is a back position, as a test
abbrev pub is_back : List Def → PredId → ℕ → Bool
is_back defs pred i = on_some (is_back_of pred i) (slice_get defs pred.0)
