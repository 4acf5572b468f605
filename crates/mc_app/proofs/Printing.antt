-- What is printed is the text of an answer, or the front of it.
use Rattle.std.proofs.Common.{◌≡◌, ◌++◌, inr, ℕ, List, length, take, sym, ap, ◌∙◌, arith, ◌≤◌}
use Rattle.std.specs.Prelude.{Result, Ok, Err, Option, ⊤}
use Rattle.std.proofs.lemmas.List.{take_all}
use Rattle.mc_outside.specs.declared.outside.FileFault.{FileFault}
use Rattle.mc_outside.specs.Outside.{Adds, AddsIfTold}
use Rattle.mc_app.specs.declared.answer.Answer.{Answer}
use Rattle.mc_app.specs.Printing.{text_of}
use Rattle.mc_load.specs.Inputs.Inputs.{Holds}
use Rattle.mc_app.specs.Analyses.{IsTarget}
use Rattle.mc_app.specs.Answers.{HoldsDocument, IsWhyWords, PrintsPart, document_of}

-- how much of the bytes was added
added : (old bytes new : List ℕ) (r : Result ⊤ FileFault) → Adds old bytes new r → (n : ℕ) × (new ≡ old ++ take n bytes)
added old bytes new (Ok u) a = (length bytes, a ∙ ap (λ xs. old ++ xs) (sym (take_all (length bytes) bytes (let le : length bytes ≤ length bytes = omega arith in le))))
added old bytes new (Err f) a = a

pub part_of_answer : (holds after : Holds) (words : List (List ℕ)) (a : Answer) (old new : Option (List ℕ)) (r : Result ⊤ FileFault) → IsWhyWords holds words a
    → ((name : List ℕ) → IsTarget words name → HoldsDocument holds after name (document_of a)) → AddsIfTold old (text_of a) new r → PrintsPart holds after words old new
part_of_answer holds after words a old new r why leaves adds = λ before told.
    let w = adds before told in
    let n = added before (text_of a) w.0 r w.2 in
    (w.0, w.1, inr (a, n.0, why, leaves, n.1))
