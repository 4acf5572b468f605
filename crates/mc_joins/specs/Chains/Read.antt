-- What comes of a chain whose lines are read one after the other.
use Rattle.std.specs.Prelude.{◌≡◌, ◌||◌, ℕ, List, [], ◌∷◌, ◌++◌, Ok, Contains, length}
use Rattle.std.specs.List.{AllByRecursion}
use Rattle.mc_lines.specs.declared.cert.line.Line.{Line}
use Rattle.mc_flow.specs.declared.defs.rules.Def.{Def}
use Rattle.mc_flow.specs.declared.graph.Flow.{Flow}
use Rattle.mc_state.specs.Known.{Test}
use Rattle.mc_state.specs.State.{State}
use Rattle.mc_kernel.specs.Branches.{Head, Path}
use Rattle.mc_kernel.specs.Reading.Documents.{IsMade}
use Rattle.mc_kernel.specs.Readings.{marked}
use Rattle.mc_joins.specs.Parts.{Basis}
use Rattle.mc_joins.specs.Chains.Chains.{IsLegalChain, IsFinal, IsPassLine, changes, changes_some, last_pass, over}
use Rattle.mc_joins.specs.Chains.InOrder.{IsRefused}
use Rattle.mc_joins.specs.Chains.Judges.{Lore, Reading, Verdict, begun_chain, finished, passing, reading_chain, reading_line, verdict_of}
use Rattle.mc_joins.specs.Chains.Laws.{Made}

-- ---- chains of which some lines are read

-- the states of cuts are at cuts and well made, and so are the states of open branches
pub record IsKept (flow : Flow) (defs : List Def) (r : Reading) : Type 0 where
  pub heads : AllByRecursion (λ h. Contains r.cuts h.0 × Made flow defs h.1) r.heads
  pub branches : AllByRecursion (IsMade flow defs) r.branches

-- a line of a pass is read at the first open branch: it is an instance there over the states of cuts as they are; what it
-- gives comes in the branch's place, and the states of cuts are what it makes of them
pub record IsReadAt (flow : Flow) (w : Basis) (l : Line) (r new : Reading) : Type 0 where
  pub in_pass : r.stage ≡ passing
  pub first : Path
  pub others : List Path
  pub open_are : r.branches ≡ first ∷ others
  pub next : List Path
  pub heads : List Head
  pub instance : IsPassLine flow w r.round (over r.cuts r.heads) l first next heads
  pub gives : new ≡ record r { heads = heads; branches = next ++ others; stuck = r.stuck ++ marked l first; changed = r.changed || changes l }

-- ---- whole chains

-- the lines after its header are read, to the end, and the chain is this then
pub record EndsAs (k : Lore) (flow : Flow) (defs : List Def) (lines : List Line) (last : Reading) : Type 0 where
  pub read : reading_chain k flow defs lines ≡ Ok last
  pub ended : last.stage ≡ finished

-- the lines after its header are read, and the chain has not ended
pub record IsOpen (k : Lore) (flow : Flow) (defs : List Def) (lines : List Line) : Type 0 where
  pub last : Reading
  pub read : reading_chain k flow defs lines ≡ Ok last
  pub not_ended : last.stage ≡ finished → ⊥

-- the lines after its header are read, and this is said of the chain
pub record IsSaid (k : Lore) (flow : Flow) (defs : List Def) (lines : List Line) (v : Verdict) : Type 0 where
  pub last : Reading
  pub read : reading_chain k flow defs lines ≡ Ok last
  pub says : verdict_of last ≡ v

-- a line after its header is refused: the lines before it are read, and of its premises this is the first that is unmet
abbrev pub IsRefusedChain : Lore → Flow → List Def → List Line → ℕ → ℕ → Type 0
IsRefusedChain k flow defs lines number premise = IsRefused (reading_line k flow defs) 2 begun_chain lines number premise

-- what a legal chain is once it is read: its cuts, the states of cuts after its last pass, the number of that pass, its
-- stuck branches, and whether it has changed the states of cuts
abbrev pub at_end : {know : State → Test} {flow : Flow} {defs : List Def} {lines : List Line} → IsLegalChain know flow defs lines → Reading
at_end c = record {
  stage = finished;
  cuts = c.cuts;
  heads = c.heads;
  round = length c.passes;
  branches = [];
  stuck = c.stuck;
  changed = changes_some (last_pass c.passes);
}

-- a final legal chain of one pass with these stuck branches
pub record HasOnePass (know : State → Test) (flow : Flow) (defs : List Def) (lines : List Line) (stuck : List Path) : Type 0 where
  pub chain : IsLegalChain know flow defs lines
  pub one : length chain.passes ≡ 1
  pub final : IsFinal chain.passes
  pub stuck_are : chain.stuck ≡ stuck
