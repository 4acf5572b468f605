-- Lines of scripts by which malloc answers.
use Rattle.std.specs.Prelude.{◌++◌, ℕ, List, map, codes}
use Rattle.std.specs.Fmt.{decimal}

-- the line of a script for an answer of malloc
abbrev pub malloc_line : ℕ → List ℕ
malloc_line n = codes "[\"malloc\"," ++ (decimal n ++ codes "]")

-- the lines for several answers
abbrev pub malloc_lines : List ℕ → List (List ℕ)
malloc_lines answers = map malloc_line answers
