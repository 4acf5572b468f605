-- From the faults of a flow graph to those of a program of trees.
use Rattle.std.proofs.Common.{◌≡◌, inl, inr, ℕ, zero, suc, List, Option, Some, None, refl, sym, subst, ◌∙◌}
use Rattle.std.specs.Prelude.{slice_get}
use Rattle.std.proofs.lemmas.Option.{same_Some}
use Rattle.mc_base.specs.declared.plain.FaultKind.{FaultKind}
use Rattle.mc_base.specs.declared.text.place.Place.{Place}
use Rattle.mc_flow.specs.Heap.Choices.{Choice}
use Rattle.mc_flow.specs.Runs.{next, last, fault, Reaches}
use Rattle.mc_flow.specs.Steps as flow
use Rattle.mc_c_syntax.specs.Ast.Trees.{FunctionTree, UnitTree}
use Rattle.mc_flow.specs.declared.defs.rules.Def.{Def}
use Rattle.mc_c_types.specs.Tables.{Tables, called_function, tables_of}
use Rattle.mc_c_types.specs.Typing.{IsWellTyped}
use Rattle.mc_c_grammar.specs.Places.Places.{AreDistinct, declared_places}
use Rattle.mc_semantics.specs.Resolved.Programs.{Function}
use Rattle.mc_semantics.specs.Resolved.Resolving.{resolved_program}
use Rattle.mc_semantics.specs.Resolved.Running.{RunAlike, program}
use Rattle.mc_semantics.specs.Resolved.Steps.{Step, start as begin}
use Rattle.mc_lower_spec.specs.Graphs.{Graph, Role, plain, head, merge, stop}
use Rattle.mc_lower_spec.specs.Lowering.{IsLowering}
use Rattle.mc_lower_spec.specs.Runs.{FlowStep, told, RunsMatch}
use Rattle.mc_lower_spec.specs.Scopes.{AreScoped}
use Rattle.mc_lower_laws.specs.Faults.{FlowFaultsAreIn}

-- steps and faults are told as they are
told_next : (role : Option Role) (d : flow.Config) (rest : List Choice) → ◌≡◌ {A = flow.Result} (next d rest) (told role (next d rest))
told_next (Some stop) d rest = refl
told_next (Some plain) d rest = refl
told_next (Some head) d rest = refl
told_next (Some merge) d rest = refl
told_next None d rest = refl

told_fault : (role : Option Role) (kind : FaultKind) (place : Place) → ◌≡◌ {A = flow.Result} (last (fault kind place)) (told role (last (fault kind place)))
told_fault (Some stop) kind place = refl
told_fault (Some plain) kind place = refl
told_fault (Some head) kind place = refl
told_fault (Some merge) kind place = refl
told_fault None kind place = refl

told_run : (g : Graph) (n : ℕ) (c : flow.Config) (choices : List Choice) (kind : FaultKind) (place : Place) → Reaches (flow.Step g.flow g.program.defs) n c choices (fault kind place)
    → Reaches (FlowStep g) n c choices (fault kind place)
told_run g zero c choices kind place run = run
told_run g (suc n) c choices kind place (inl step) = inl (last (fault kind place), step, told_fault (slice_get g.roles c.point) kind place)
told_run g (suc n) c choices kind place (inr (d, rest, step, run)) =
    inr (d, rest, (next d rest, step, told_next (slice_get g.roles c.point) d rest), told_run g n d rest kind place run)

pub flow_faults : ((unit : UnitTree) (defs : List Def) (entry : List ℕ) → IsWellTyped unit entry → AreDistinct (declared_places unit) → AreScoped (resolved_program (tables_of unit) defs entry))
    → ((g : Graph) (entry : Function) (out count : ℕ) → IsLowering g entry out count → AreScoped g.program → RunsMatch g entry)
    → ((t : Tables) (defs : List Def) (entry : List ℕ) (f : FunctionTree) → called_function t entry ≡ Some f → RunAlike t defs entry f)
    → (unit : UnitTree) (defs : List Def) (entry : List ℕ) (f : FunctionTree) (g : Graph) (start : Function) (out count : ℕ)
    → IsWellTyped unit entry → AreDistinct (declared_places unit) → called_function (tables_of unit) entry ≡ Some f
    → g.program ≡ resolved_program (tables_of unit) defs entry → IsLowering g start out count → FlowFaultsAreIn g.flow defs (program (tables_of unit) defs) f
flow_faults scoped graphs alike unit defs entry f g start out count typed distinct called same lowering n choices kind place run =
    let r : RunAlike (tables_of unit) defs entry f = alike (tables_of unit) defs entry f called in
    let begins : slice_get (resolved_program (tables_of unit) defs entry).functions (resolved_program (tables_of unit) defs entry).entry ≡ Some start =
    subst (λ p. slice_get p.functions p.entry ≡ Some start) same lowering.there in
    let one : r.function ≡ start = same_Some r.function start (sym r.there ∙ begins) in
    let match : RunsMatch g start = graphs g start out count lowering (subst AreScoped (sym same) (scoped unit defs entry typed distinct)) in
    let own = subst (λ p. Reaches (flow.Step g.flow p.defs) n (flow.start g.flow) choices (fault kind place)) (sym same) run in
    let there = (match choices (fault kind place)).1 (n, told_run g n (flow.start g.flow) choices kind place own) in
    let resolved = subst (λ p. Reaches (Step p) there.0 (begin start) choices (fault kind place)) same there.1 in
    let renamed = subst (λ (h : Function). Reaches (Step (resolved_program (tables_of unit) defs entry)) there.0 (begin h) choices (fault kind place)) (sym one) resolved in
    (there.0, (r.ends there.0 choices (fault kind place)).1 renamed)
