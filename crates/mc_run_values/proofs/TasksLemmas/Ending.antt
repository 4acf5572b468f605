-- A run of moves ends, and comes to one state alone.
use Rattle.std.proofs.Common.{◌≡◌, ℕ, ◌<◌, zero, suc, Option, Some, None, refl, sym, ap, subst, ◌∙◌, arith}
use Rattle.mc_semantics.specs.Resolved.Configs.{Values, Tasks, done}
use Rattle.mc_semantics.specs.Resolved.Moves.{moved, Arrives, here, there}
use Rattle.mc_run_values.proofs.TasksLemmas.Falling.{weight, moved-falls}

-- what a state comes to
abbrev pub Ends : Values → Tasks → Type 0
Ends values tasks = (later : Values) × (ready : Tasks) × Arrives values tasks later ready

by_move : (n : ℕ) (values : Values) (tasks : Tasks) (o : Option (Values × Tasks)) → moved values tasks ≡ o
    → ((later : Values) (next : Tasks) → moved values tasks ≡ Some (later, next) → Ends later next) → Ends values tasks
by_move n values tasks None h more = (values, tasks, here h)
by_move n values tasks (Some (later, next)) h more =
    let rest : Ends later next = more later next h in
    (rest.0, rest.1, there h rest.2)

within : (n : ℕ) (values : Values) (tasks : Tasks) → weight tasks < n → Ends values tasks
within zero values tasks h = absurd (omega arith)
within (suc n) values tasks h =
    by_move n values tasks (moved values tasks) refl (λ later next e. within n later next (omega (arith, moved-falls values tasks later next e)))

pub all_end : (values : Values) (tasks : Tasks) → Ends values tasks
all_end values tasks = within (suc (weight tasks)) values tasks (omega arith)

-- the state of a move
abbrev values_in : Values → Option (Values × Tasks) → Values
values_in values None = values
values_in values (Some p) = p.0

abbrev tasks_in : Option (Values × Tasks) → Tasks
tasks_in None = done
tasks_in (Some p) = p.1

pub one_end : (values later other : Values) (tasks ready same : Tasks) → Arrives values tasks later ready → Arrives values tasks other same → (later ≡ other) × (ready ≡ same)
one_end values later other tasks ready same (here r) (here s) = (refl, refl)
one_end values later other tasks ready same (here r) (there m b) = absurd (let e : None ≡ Some _ = sym r ∙ m in cc)
one_end values later other tasks ready same (there m a) (here s) = absurd (let e : None ≡ Some _ = sym s ∙ m in cc)
one_end values later other tasks ready same (there {later = v} {next = t} m a) (there {later = w} {next = u} n b) =
    let e = sym m ∙ n in
    let P : Values → Type 0 = λ x. Arrives x u other same in
    let Q : Tasks → Type 0 = λ x. Arrives v x other same in
    one_end v later other t ready same a (subst Q (sym (ap tasks_in e)) (subst P (sym (ap (values_in values) e)) b))
