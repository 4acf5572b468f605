-- Lines that are applied to open documents.
use Rattle.std.proofs.Common.{◌≡◌, List, sym, ◌∙◌, ap, subst}
use Rattle.std.specs.Prelude.{Result, Ok, Err}
use Rattle.mc_lines.specs.declared.cert.line.Line.{Line}
use Rattle.mc_flow.specs.declared.defs.rules.Def.{Def}
use Rattle.mc_flow.specs.declared.graph.Flow.{Flow}
use Rattle.mc_flow.specs.Valid.{IsValid}
use Rattle.mc_state.specs.Premises.{then_give}
use Rattle.mc_kernel.specs.Readings as certificates
use Rattle.mc_kernel.specs.Reading.Documents.{IsJudge, IsKept as IsKeptReading}
use Rattle.mc_kernel.specs.Reading.Laws.{LinesKeep}
use Rattle.mc_document.specs.declared.proof.fault.ApplyFault.{ApplyFault}
use Rattle.mc_document.specs.declared.proof.fault.ApplyFault.TheVariants.{Premise, NoMemory}
use Rattle.mc_document.specs.Proof.Positions as proofs
use Rattle.mc_document.specs.Proof.Positions.{Position}
use Rattle.mc_joins.specs.Chains.Judges as chains
use Rattle.mc_joins.specs.Chains.Judges.{Lore}
use Rattle.mc_joins.specs.Chains.Laws.{IsRight}
use Rattle.mc_joins.specs.Chains.Read.{IsKept}
use Rattle.mc_joins.specs.Chains.ReadLaws.{LinesKeepChains}
use Rattle.mc_judge.specs.declared.judge.open.OpenDocument.TheVariants as opened
use Rattle.mc_judge.specs.declared.passes.passes.Passes.{Passes}
use Rattle.mc_judge.specs.Documents.{certificate, chain, IsRefusedHere, IsTaken, Takes}
use Rattle.mc_judge.specs.Passes.Positions as passes
use Rattle.mc_judge.specs.Passes.Positions.{passes_of}

-- what holds of a flow graph and definitions holds of equal ones
move : (P : Flow → List Def → Type 0) (f g : Flow) (d e : List Def) → f ≡ g → d ≡ e → P f d → P g e
move P f g d e p q x = subst (λ (ds : List Def). P g ds) q (subst (λ (h : Flow). P h d) p x)

-- ---- certificates

module _ (keep : LinesKeep) (l : Line) (old new : Position) (valid : IsValid old.flow old.defs) where
  certificate_is : proofs.IsApplied l old new → IsTaken l (opened.Certificate old) (opened.Certificate new)
  certificate_is applied k flow defs (chain r) s = absurd s.stands
  certificate_is applied k flow defs (certificate r) s =
      let a = applied k.lines k.formed r s.stands in
      let kept = keep k.lines k.formed old.flow old.defs l r a.0 valid s.stands.judge s.stands.kept a.1 in
      let flows : old.flow ≡ new.flow = ap (λ (p : Position). p.flow) a.2 in
      let all : old.defs ≡ new.defs = ap (λ (p : Position). p.defs) a.2 in (
        certificate a.0,
        move (λ (f : Flow) (ds : List Def). then_give certificate (certificates.reading_line k.lines k.formed f ds l r) ≡ Ok (certificate a.0))
            old.flow flow old.defs defs s.flow_is s.defs_are (ap (then_give certificate) a.1),
        record {
          flow_is = sym flows ∙ s.flow_is;
          defs_are = sym all ∙ s.defs_are;
          stands = record {
            judge = move (λ (f : Flow) (ds : List Def). IsJudge k.lines k.formed f ds) old.flow new.flow old.defs new.defs flows all s.stands.judge;
            kept = move (λ (f : Flow) (ds : List Def). IsKeptReading f ds a.0) old.flow new.flow old.defs new.defs flows all kept;
            here = move (λ (f : Flow) (ds : List Def). proofs.position_of f ds a.0 ≡ new) old.flow new.flow old.defs new.defs flows all a.2;
          };
        },
      )

  certificate_not : (n : _) → proofs.IsRefusedHere l old n → IsRefusedHere l (opened.Certificate old) n
  certificate_not n bad k flow defs (chain r) s = absurd s.stands
  certificate_not n bad k flow defs (certificate r) s =
      move (λ (f : Flow) (ds : List Def). then_give certificate (certificates.reading_line k.lines k.formed f ds l r) ≡ Err n)
      old.flow flow old.defs defs s.flow_is s.defs_are (ap (then_give certificate) (bad k.lines k.formed r s.stands))

  pub certificate_takes : (result : Result Unit ApplyFault) → proofs.Applies l old new result
      → Takes l (opened.Certificate old) (opened.Certificate new) result
  certificate_takes (Ok done) applies = certificate_is applies
  certificate_takes (Err (Premise n)) applies = certificate_not n applies.0
  certificate_takes (Err NoMemory) applies = tt

-- ---- chains

module _ (keep : LinesKeepChains) (l : Line) (old new : Passes) (valid : IsValid old.proof.flow old.proof.defs) where
  chain_is : passes.IsApplied l old new → IsTaken l (opened.Chain old) (opened.Chain new)
  chain_is applied k flow defs (certificate r) s = absurd s.stands
  chain_is applied k flow defs (chain r) s =
      let a = applied k r s.stands in
      let kept = keep k old.proof.flow old.proof.defs l r a.0 valid s.stands.right s.stands.kept a.1 in
      let flows : old.proof.flow ≡ new.proof.flow = ap (λ (p : Passes). p.proof.flow) a.2 in
      let all : old.proof.defs ≡ new.proof.defs = ap (λ (p : Passes). p.proof.defs) a.2 in (
        chain a.0,
        move (λ (f : Flow) (ds : List Def). then_give chain (chains.reading_line k f ds l r) ≡ Ok (chain a.0))
            old.proof.flow flow old.proof.defs defs s.flow_is s.defs_are (ap (then_give chain) a.1),
        record {
          flow_is = sym flows ∙ s.flow_is;
          defs_are = sym all ∙ s.defs_are;
          stands = record {
            right = move (λ (f : Flow) (ds : List Def). IsRight k f ds) old.proof.flow new.proof.flow old.proof.defs new.proof.defs flows all s.stands.right;
            kept = move (λ (f : Flow) (ds : List Def). IsKept f ds a.0) old.proof.flow new.proof.flow old.proof.defs new.proof.defs flows all kept;
            here = move (λ (f : Flow) (ds : List Def). passes_of f ds a.0 ≡ new) old.proof.flow new.proof.flow old.proof.defs new.proof.defs flows all a.2;
          };
        },
      )

  chain_not : (n : _) → passes.IsRefusedHere l old n → IsRefusedHere l (opened.Chain old) n
  chain_not n bad k flow defs (certificate r) s = absurd s.stands
  chain_not n bad k flow defs (chain r) s =
      move (λ (f : Flow) (ds : List Def). then_give chain (chains.reading_line k f ds l r) ≡ Err n)
      old.proof.flow flow old.proof.defs defs s.flow_is s.defs_are (ap (then_give chain) (bad k r s.stands))

  pub chain_takes : (result : Result Unit ApplyFault) → passes.Applies l old new result → Takes l (opened.Chain old) (opened.Chain new) result
  chain_takes (Ok done) applies = chain_is applies
  chain_takes (Err (Premise n)) applies = chain_not n applies.0
  chain_takes (Err NoMemory) applies = tt
