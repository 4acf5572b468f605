-- Documents of both forms are read as certificates and as chains are.
use Rattle.std.proofs.Common.{◌≡◌, ℕ, suc, List, [], ◌∷◌, refl}
use Rattle.std.specs.Prelude.{Result, Ok, Err}
use Rattle.mc_lines.specs.declared.cert.line.Line.{Line}
use Rattle.mc_flow.specs.declared.defs.rules.Def.{Def}
use Rattle.mc_flow.specs.declared.graph.Flow.{Flow}
use Rattle.mc_state.specs.Premises.{Judged, then_give}
use Rattle.mc_kernel.specs.Readings as certificates
use Rattle.mc_joins.specs.Chains.InOrder.{behind, in_order}
use Rattle.mc_joins.specs.Chains.Judges as chains
use Rattle.mc_joins.specs.Chains.Judges.{Lore}
use Rattle.mc_judge.specs.Documents.{Document, certificate, chain, read_line}

-- what is read, as a document
abbrev pub as_document : {A : Type 0} → (A → Document) → Result A (ℕ × ℕ) → Result Document (ℕ × ℕ)
as_document make (Ok r) = Ok (make r)
as_document make (Err refusal) = Err refusal

-- where it is read, so is the one that it is made of
pub from_read : {A : Type 0} → (make : A → Document) (x : Result A (ℕ × ℕ)) (d : Document) → as_document make x ≡ Ok d
    → (r : A) × (x ≡ Ok r) × (make r ≡ d)
from_read make (Ok r) d e = (r, refl, cc e)
from_read make (Err refusal) d e = absurd (cc e)

module _ (k : Lore) (flow : Flow) (defs : List Def) where
  pub certificates_are_read : (n : ℕ) (lines : List Line) (r : certificates.Reading)
      → in_order (read_line k flow defs) n lines (certificate r)
      ≡ as_document certificate (certificates.reading_lines k.lines k.formed flow defs n lines r)
  certificates_are_read n [] r = refl
  certificates_are_read n (l ∷ lines) r =
      at (certificates.reading_line k.lines k.formed flow defs l r) (λ (next : certificates.Reading). certificates_are_read (suc n) lines next)
    where
      at : (j : Judged certificates.Reading)
          → ((next : certificates.Reading) → in_order (read_line k flow defs) (suc n) lines (certificate next)
          ≡ as_document certificate (certificates.reading_lines k.lines k.formed flow defs (suc n) lines next))
          → behind n (then_give certificate j) (in_order (read_line k flow defs) (suc n) lines)
          ≡ as_document certificate (certificates.behind n j (certificates.reading_lines k.lines k.formed flow defs (suc n) lines))
      at (Ok next) later = later next
      at (Err premise) later = refl

  pub chains_are_read : (n : ℕ) (lines : List Line) (r : chains.Reading)
      → in_order (read_line k flow defs) n lines (chain r) ≡ as_document chain (chains.reading_lines k flow defs n lines r)
  chains_are_read n [] r = refl
  chains_are_read n (l ∷ lines) r =
      at (chains.reading_line k flow defs l r) (λ (next : chains.Reading). chains_are_read (suc n) lines next)
    where
      at : (j : Judged chains.Reading)
          → ((next : chains.Reading) → in_order (read_line k flow defs) (suc n) lines (chain next)
          ≡ as_document chain (chains.reading_lines k flow defs (suc n) lines next))
          → behind n (then_give chain j) (in_order (read_line k flow defs) (suc n) lines)
          ≡ as_document chain (behind n j (chains.reading_lines k flow defs (suc n) lines))
      at (Ok next) later = later next
      at (Err premise) later = refl
