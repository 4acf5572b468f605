-- A call that adds all the bytes where it is Ok, and else changes nothing.
use Rattle.std.proofs.Common.{◌≡◌, ◌++◌, ◌∙◌, [], ℕ, List, Option, Some, Result, Ok, Err, OnOk, OnErr, ap, sym, refl, unwrap_or}
use Rattle.std.specs.Prelude.{⊤}
use Rattle.std.proofs.lemmas.List.{append-nil}
use Rattle.mc_outside.specs.declared.outside.FileFault.{FileFault}
use Rattle.mc_outside.specs.Outside.{AddsIfTold}

pub adds_or_stays : (old : Option (List ℕ)) (bytes : List ℕ) (new : Option (List ℕ)) (result : Result ⊤ FileFault) → OnOk result (new ≡ Some (unwrap_or old [] ++ bytes)) → OnErr result (new ≡ old) → AddsIfTold old bytes new result
adds_or_stays old bytes new (Ok _) added stays before told =
    (before ++ bytes, added ∙ ap (λ o. Some (unwrap_or o [] ++ bytes)) told, refl)
adds_or_stays old bytes new (Err _) added stays before told =
    (before, stays ∙ told, (0, sym (append-nil before)))
