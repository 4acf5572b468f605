-- The written lines of scripts are read as what they say.
use Rattle.std.proofs.Common.{◌≡◌, ◌∙◌, ◌<◌, ◌^◌, ℕ, List, [], ◌∷◌, ◌++◌, Some, map, refl, sym, ap, append-nil, lit≤}
use Rattle.std.specs.List.{AllByRecursion}
use Rattle.std.specs.Prelude.{IsUtf8, codes, decimal, option_and_then}
use Rattle.std.proofs.lemmas.Fmt.{IsAscii-decimal}
use Rattle.std.proofs.lemmas.Str.{IsUtf8-append, IsUtf8-from_ascii}
use Rattle.json.specs.Json.{if_last, value}
use Rattle.json.specs.Lex.{tokens}
use Rattle.json.specs.Print.{escape_byte, print}
use Rattle.json.specs.Tree.{HasNumbers, json_tokens}
use Rattle.json.proofs.Printed.Decimals.{IsNumber-decimal}
use Rattle.json.proofs.Printed.Tokens.{tokens-print}
use Rattle.json.proofs.Printed.Trees.{ArePrintable-json_tokens, value-json_tokens}
use Rattle.json.proofs.Printed.Utf8.{IsUtf8-are_ascii}
use Rattle.serde_json.specs.Data.{Data}
use Rattle.serde_json.specs.Read.{max_depth, of_json, read}
use Rattle.serde_json.specs.Written.{compact_text, outline}
use Rattle.serde_json.proofs.Numbers.{number_of-decimal}
use Rattle.serde_json.proofs.Texts.{print-outline}
use Rattle.mc_flow.specs.Heap.Choices.{malloc}
use Rattle.mc_flow.specs.declared.defs.shapes.StructInfo.{StructInfo}
use Rattle.mc_exact.specs.Scripts.{malloc_line, malloc_lines}
use Rattle.mc_run_values.specs.declared.script.line.ScriptLine.TheVariants.{Malloc}
use Rattle.mc_run_values.specs.Script.Lines.{SpellsLine, line_data}
use Rattle.mc_run_values.specs.Values.Taking.{Takes}

-- the array of an answer of malloc
abbrev malloc_data : ℕ → Data
malloc_data n = line_data (Malloc n)

compactly : (n : ℕ) → compact_text (malloc_data n) ≡ malloc_line n
unfolding escape_byte
compactly n = refl

printed : (n : ℕ) → print (json_tokens (outline (malloc_data n))) ≡ malloc_line n
printed n = print-outline (malloc_data n) ∙ compactly n

numbers : (n : ℕ) → n < 2 ^ 64 → HasNumbers (outline (malloc_data n))
numbers n small = (tt, (IsNumber-decimal n small, tt))

lexed : (n : ℕ) → n < 2 ^ 64 → tokens (malloc_line n) ≡ json_tokens (outline (malloc_data n))
lexed n small =
    let j = outline (malloc_data n) in
    ap tokens (sym (printed n)) ∙ tokens-print (json_tokens j) (ArePrintable-json_tokens j (numbers n small))

meant : (n : ℕ) → n < 2 ^ 64 → of_json (outline (malloc_data n)) ≡ Some (malloc_data n)
meant n small = rw (number_of-decimal n small) refl

reads : (n : ℕ) → n < 2 ^ 64 → read (malloc_line n) ≡ Some (malloc_data n)
reads n small =
    let j = outline (malloc_data n) in
    ap (λ o. option_and_then of_json (option_and_then (λ p. if_last p.0 p.1) o))
    (ap (value max_depth) (lexed n small ∙ sym (append-nil (json_tokens j))) ∙ value-json_tokens j max_depth [] (lit≤ tt))
    ∙ meant n small

utf8 : (n : ℕ) → n < 2 ^ 64 → IsUtf8 (malloc_line n)
utf8 n small =
    IsUtf8-append (codes "[\"malloc\",") (decimal n ++ codes "]") (IsUtf8-are_ascii (codes "[\"malloc\",") refl)
    (IsUtf8-append (decimal n) (codes "]") (IsUtf8-from_ascii (decimal n) (IsAscii-decimal n small)) (IsUtf8-are_ascii (codes "]") refl))

spelled : (n : ℕ) → n < 2 ^ 64 → SpellsLine (malloc_line n) (Malloc n)
spelled n small = (malloc_data n, (utf8 n small, reads n small), refl, tt)

pub scripts_taken : (structs : List StructInfo) (answers : List ℕ) → AllByRecursion (λ answer. answer < 2 ^ 64) answers → Takes structs (malloc_lines answers) (map malloc answers) []
scripts_taken structs [] small = refl
scripts_taken structs (n ∷ answers) small = ((Malloc n, spelled n small.0, refl), scripts_taken structs answers small.1)
