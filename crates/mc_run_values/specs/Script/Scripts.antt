-- The choices that a script gives.
use Rattle.std.specs.Prelude.{◌≡◌, ◌⊎◌, ℕ, ℤ, pos, List, [], ◌∷◌, Option, Some, None, map, position, option_map, option_and_then, string_bytes}
use Rattle.mc_flow.specs.Heap.Choices.{Choice, input, malloc, shape}
use Rattle.mc_flow.specs.Heap.Heap.{Block}
use Rattle.mc_flow.specs.declared.defs.shapes.StructInfo.{StructInfo}
use Rattle.mc_c_syntax.specs.Ast.Names.{is_same}
use Rattle.mc_run_values.specs.declared.script.line.NamedBlock.{NamedBlock}
use Rattle.mc_run_values.specs.declared.script.line.ScriptLine.{ScriptLine}
use Rattle.mc_run_values.specs.declared.script.line.ScriptLine.TheVariants.{Input, Malloc, Shape}
use Rattle.mc_run_values.specs.Script.Lines.{SpellsLine}

-- ---- what a line means for a program with these structs
-- a block at its address, of the struct of its name, each field with its value; none where there is no such struct
abbrev pub block_in : List StructInfo → NamedBlock → Option (ℕ × Block)
block_in structs b =
    option_map (λ n. (b.address, record { shape = n; fields = map Some b.fields }))
    (position (λ s. is_same s.name (string_bytes b.shape)) structs)

abbrev pub blocks_in : List StructInfo → List NamedBlock → Option (List (ℕ × Block))
blocks_in structs [] = Some []
blocks_in structs (b ∷ bs) = option_and_then (λ entry. option_map (λ entries. entry ∷ entries) (blocks_in structs bs)) (block_in structs b)

abbrev pub choice_in : List StructInfo → ScriptLine → Option Choice
choice_in structs (Input v) = Some (input v)
choice_in structs (Malloc n) = Some (malloc n)
choice_in structs (Shape v blocks) = option_map (λ entries. shape v entries) (blocks_in structs blocks)

-- the bytes spell a line that means this choice
abbrev pub IsChoice : List StructInfo → List ℕ → Choice → Type 0
IsChoice structs bytes choice = (line : ScriptLine) × SpellsLine bytes line × (choice_in structs line ≡ Some choice)

-- ---- what a script answers
-- no line is left; a line that means no choice; a choice
pub data Answered : Type 0 where
  missing : Answered
  unreadable : Answered
  chosen : Choice → Answered

-- the bytes spell no line, or a line that means no choice
abbrev pub IsNoChoice : List StructInfo → List ℕ → Type 0
IsNoChoice structs bytes = ((line : ScriptLine) → SpellsLine bytes line → ⊥)
    ⊎ ((line : ScriptLine) × SpellsLine bytes line × (choice_in structs line ≡ None))

-- what a line answers: its choice, or that it means none
abbrev pub IsAnswer : List StructInfo → List ℕ → Answered → Type 0
IsAnswer structs line missing = ⊥
IsAnswer structs line unreadable = IsNoChoice structs line
IsAnswer structs line (chosen c) = IsChoice structs line c

-- what the first of these lines answers, and the lines after it; without a line the choice is missing
abbrev pub Answers : List StructInfo → List (List ℕ) → Answered → List (List ℕ) → Type 0
Answers structs [] answer left = (answer ≡ missing) × (left ≡ [])
Answers structs (line ∷ lines) answer left = IsAnswer structs line answer × (left ≡ lines)
