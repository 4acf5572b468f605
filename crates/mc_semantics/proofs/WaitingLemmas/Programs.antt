-- Runs of well typed programs never stop for want of a definition.
use Rattle.std.proofs.Common.{◌≡◌, ◌<◌, ℕ, zero, suc, List, [], Option, Some, None, refl, subst, inl, inr, arith}
use Rattle.std.specs.Prelude.{flat_map}
use Rattle.mc_flow.specs.Runs.{next, last, ended}
use Rattle.mc_flow.specs.Heap.Choices.{Choice}
use Rattle.mc_flow.specs.declared.defs.rules.Def.{Def}
use Rattle.mc_c_syntax.specs.Ast.Trees.{FunctionTree, UnitTree}
use Rattle.mc_c_types.specs.Faults.{plain_faults, table_faults}
use Rattle.mc_c_types.specs.Tables.{Tables, called_function, item_functions, tables_of}
use Rattle.mc_c_types.specs.Typing.{IsWellTyped}
use Rattle.mc_semantics.specs.Configs.{Program, Values, Tasks, done, Config, Result}
use Rattle.mc_semantics.specs.Laws.{ArrivalsAreDetermined, ValuesAreDetermined}
use Rattle.mc_semantics.specs.Moves.{moved, Arrives, here, there}
use Rattle.mc_semantics.specs.Steps.{Step, program_of, start}
use Rattle.mc_semantics.specs.Waiting.Requests.{Waits}
use Rattle.mc_semantics.specs.Waiting.Runs.{Leads, HasEnded, MakesStep, IsOneOf}
use Rattle.mc_semantics.specs.Waiting.Trees.{TaskAsks, Asks}
use Rattle.mc_semantics.proofs.WaitingLemmas.Arriving.{tasks_weight, IsLess, less}
use Rattle.mc_semantics.proofs.WaitingLemmas.Deciding.{StepsOr, none_of_three}
use Rattle.mc_semantics.proofs.WaitingLemmas.Faultless.{none_right, AreFaultless, items_all, found_one}
use Rattle.mc_semantics.proofs.WaitingLemmas.Fine.{Fine}
use Rattle.mc_semantics.proofs.WaitingLemmas.Keeping.{FineThere, fine_moved, fine_step, fine_body}
use Rattle.mc_semantics.proofs.WaitingLemmas.Standing.{does_or, does_alone}

-- ---- the next step is reached
abbrev ComesThere : Tables → Values → Tasks → Type 0
ComesThere t v ts = (w : Values) × (us : Tasks) × Arrives t v ts w us × Fine t us × (moved t w us ≡ None)

on : (t : Tables) (v : Values) (ts : Tasks) (n : ℕ) (o : Option (Values × Tasks)) → moved t v ts ≡ o → Fine t ts → FineThere t o → IsLess n o
    → ((w : Values) (us : Tasks) → tasks_weight us < n → Fine t us → ComesThere t w us) → ComesThere t v ts
on t v ts n None e fine later lighter more = (v, ts, here e, fine, e)
on t v ts n (Some p) e fine later lighter more = (let a = more p.0 p.1 lighter later in (a.0, a.1, there e a.2, a.3, a.4))

arrives : (n : ℕ) (t : Tables) (v : Values) (ts : Tasks) → tasks_weight ts < n → Fine t ts → ComesThere t v ts
arrives zero t v ts lt fine = absurd (omega arith)
arrives (suc n) t v ts lt fine =
    on t v ts (tasks_weight ts) (moved t v ts) refl fine (fine_moved t v ts fine) (less t v ts) (λ w us small f. arrives n t w us (omega arith) f)

-- ---- a configuration
steps_or_waits : (p : Program) (c : Config) (choices : List Choice) → Fine p.tables c.tasks → (StepsOr (Step p c choices) (Asks p c choices) → ⊥) → ⊥
steps_or_waits p c choices fine k =
    (let a = arrives (suc (tasks_weight c.tasks)) p.tables c.values c.tasks (omega arith) fine in
    does_or p a.0 c.heap a.1 choices a.3 a.4 (λ s. k (elim s [
      | inl r ↦ inl (r.0, (a.0, a.1, a.2, r.1))
      | inr w ↦ inr (record { request = w.request; left = w.left; asks = (a.0, a.1, a.2, w.asks); unanswered = w.unanswered })
    ])))

abbrev pub StepsAreDetermined : Type 0
StepsAreDetermined = (program : Program) (config : Config) (choices : List Choice) (one other : Result) → Step program config choices one → Step program config choices other → one ≡ other

never_both : ValuesAreDetermined → ArrivalsAreDetermined → (p : Program) (c : Config) (choices : List Choice) (r : Result) → Step p c choices r → Waits (Asks p c choices) → ⊥
never_both same arrived p c choices r is waits =
    (let asks = waits.asks in
    let both = arrived p.tables c.values asks.0 is.0 c.tasks asks.1 is.1 asks.2 is.2 in
    let P : Values → Type 0 = λ v. TaskAsks p v c.heap asks.1 choices waits.request waits.left in
    let Q : Tasks → Type 0 = λ ts. TaskAsks p is.0 c.heap ts choices waits.request waits.left in
    does_alone same waits.request waits.left waits.unanswered p is.0 c.heap is.1 choices r is.3 (subst Q both.1 (subst P both.0 asks.3)))

one_of : ValuesAreDetermined → ArrivalsAreDetermined → StepsAreDetermined → (p : Program) (c : Config) (choices : List Choice) → Fine p.tables c.tasks
    → IsOneOf (MakesStep (Step p) c choices) (HasEnded (Step p) c choices) (Waits (Asks p c choices))
one_of same arrived once p c choices fine = record {
  some = λ no. steps_or_waits p c choices fine (λ s. none_of_three (Step p) (Asks p c choices) c choices no.0 no.1 no.2 s);
  not_both = λ made at_end. made.2 (once p c choices made.0 (last ended) made.1 at_end);
  nor_first = λ made waits. never_both same arrived p c choices made.0 made.1 waits;
  nor_second = λ at_end waits. never_both same arrived p c choices (last ended) at_end waits;
}

-- ---- a run
reached : (p : Program) → AreFaultless p.tables → (n : ℕ) (c d : Config) (choices left : List Choice) → Fine p.tables c.tasks → Leads (Step p) n c choices d left → Fine p.tables d.tasks
reached p bodies zero c d choices left fine leads = (let P : Config → Type 0 = λ x. Fine p.tables x.tasks in subst P leads.0 fine)
reached p bodies (suc n) c d choices left fine leads =
    reached p bodies n leads.0 d leads.1 left (fine_step p bodies c choices (next leads.0 leads.1) fine leads.2) leads.3

bodies_of : (unit : UnitTree) → plain_faults unit ≡ [] → AreFaultless (tables_of unit)
bodies_of unit e name f found =
    found_one (tables_of unit) _ (flat_map item_functions unit) f (items_all (tables_of unit) unit (none_right (table_faults unit (tables_of unit)) _ e)) found

pub one_of_three : ValuesAreDetermined → ArrivalsAreDetermined → StepsAreDetermined → (unit : UnitTree) (entry : List ℕ) (defs : List Def) (f : FunctionTree) → IsWellTyped unit entry → called_function (tables_of unit) entry ≡ Some f
    → (n : ℕ) (choices left : List Choice) (c : Config) → Leads (Step (program_of unit defs)) n (start (program_of unit defs) f) choices c left
    → IsOneOf (MakesStep (Step (program_of unit defs)) c left) (HasEnded (Step (program_of unit defs)) c left) (Waits (Asks (program_of unit defs) c left))
one_of_three same arrived once unit entry defs f typed found n choices left c leads =
    (let bodies = bodies_of unit typed.plain in
    let begins = fine_body (tables_of unit) f done f.body refl (bodies entry f found) tt in
    one_of same arrived once (program_of unit defs) c left (reached (program_of unit defs) bodies n (start (program_of unit defs) f) c choices left begins leads))
