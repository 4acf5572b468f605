-- Where the answer of a condition leads, in code.
use Rattle.std.specs.Prelude.{◌≡◌, Bool, List, if◌then◌else◌}
use Rattle.mc_semantics.specs.Resolved.Configs.{Tasks, Branch, go_on, fails, stops}
use Rattle.mc_run_values.specs.Tasks.Left.{Branches, asked, left}
use Rattle.mc_run_values.specs.declared.tasks.tasks.Task.{Task}
use Rattle.mc_run_values.specs.declared.tasks.leading.Decided.{Decided}
use Rattle.mc_run_values.specs.declared.tasks.leading.Led.{Led}

-- the branch of an answer
abbrev pub chosen : Bool → Branches → Branch
chosen answer branches = if answer then branches.0 else branches.1

-- where the condition led, the tasks being left then
abbrev pub led_to : Decided → Tasks → Branch
led_to Decided.GoesOn tasks = go_on tasks
led_to (Decided.Fails p) tasks = fails p
led_to Decided.Stops tasks = stops

-- from this stack the answer leads into its branch, or gives an answer of the condition around, which leads there
abbrev pub Leads : List Task → Bool → Branches → Led → List Task → Type 0
Leads before answer branches (Led.To decided) after = led_to decided (left after) ≡ chosen answer branches
Leads before answer branches (Led.Around outer) after =
    (after ≡ before) × (chosen outer (asked before) ≡ chosen answer branches)
