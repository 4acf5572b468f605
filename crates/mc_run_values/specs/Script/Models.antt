-- What the types of the code mean.
use Rattle.std.specs.Prelude.{ℕ, List, ◌++◌, Option, Some, map, option_map}
use Rattle.mc_flow.specs.Heap.Choices as model
use Rattle.mc_flow.specs.Heap.Heap.{Block}
use Rattle.mc_run_values.specs.declared.script.script.NewBlock.{NewBlock}
use Rattle.mc_run_values.specs.declared.script.script.Choice as code
use Rattle.mc_run_values.specs.declared.script.script.Choice.TheVariants as choices
use Rattle.mc_run_values.specs.declared.script.script.Asked.{Asked}
use Rattle.mc_run_values.specs.declared.script.script.Asked.TheVariants as asked
use Rattle.mc_run_values.specs.Script.Scripts.{Answered, missing, unreadable, chosen}

-- a block at its address, each of its fields with a value
abbrev pub block : NewBlock → ℕ × Block
block b = (b.address, record { shape = b.shape.0; fields = map Some b.fields })

abbrev pub choice : code.Choice → model.Choice
choice (choices.Input v) = model.input v
choice (choices.Malloc n) = model.malloc n
choice (choices.Shape s) = model.shape s.value (map block s.blocks)

abbrev pub answered : Asked → Answered
answered asked.Missing = missing
answered asked.Unreadable = unreadable
answered (asked.Choice c) = chosen (choice c)

-- the list after a front, if it is there
abbrev pub prefixed : {T : Type 0} → List T → Option (List T) → Option (List T)
prefixed front behind = option_map (λ list. front ++ list) behind
