-- The branches that a reading begins with are made.
use Rattle.std.proofs.Common.{List, [], ◌∷◌, map, length}
use Rattle.std.specs.Prelude.{None, replicate}
use Rattle.mc_base.specs.declared.plain.VarInfo.{VarInfo}
use Rattle.mc_flow.specs.declared.defs.rules.Def.{Def}
use Rattle.mc_flow.specs.declared.graph.Flow.{Flow}
use Rattle.mc_pure.specs.Pure.{Kinds}
use Rattle.mc_state.specs.Fits.{MayHaveKinds}
use Rattle.mc_state.specs.Laws.{UnknownIsBounded}
use Rattle.mc_kernel.specs.Branches.{Head, begins, entry_path, roots}
use Rattle.mc_kernel.specs.Reading.Documents.{IsMade}
use Rattle.mc_document.specs.Proof.Stacks.{AreMade, HeadsAreMade}

unknown_kinds : (kinds : Kinds) (vars : List VarInfo) → MayHaveKinds kinds (map (λ x. x.kind) vars) (replicate (length vars) None)
unknown_kinds kinds [] = tt
unknown_kinds kinds (x ∷ vars) = (tt, unknown_kinds kinds vars)

entry_made : UnknownIsBounded → (flow : Flow) (defs : List Def) → IsMade flow defs (entry_path flow)
entry_made unknown flow defs = record {
  bounded = unknown (length flow.vars);
  atoms = tt;
  fits_defs = tt;
  fits_program = record { vars_fit = unknown_kinds [] flow.vars; blocks_fit = tt };
}

heads_made : (flow : Flow) (defs : List Def) (heads : List Head) → HeadsAreMade flow defs heads → AreMade flow defs (map (λ (h : Head). begins h.0 h.1) heads)
heads_made flow defs [] a = tt
heads_made flow defs (h ∷ heads) a = (a.0, heads_made flow defs heads a.1)

pub roots_made : UnknownIsBounded → (flow : Flow) (defs : List Def) (heads : List Head) → HeadsAreMade flow defs heads → AreMade flow defs (roots flow heads)
roots_made unknown flow defs heads a = (entry_made unknown flow defs, heads_made flow defs heads a)
