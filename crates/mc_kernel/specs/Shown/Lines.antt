-- Lines of documents that stand out of place, cuts that are none, and a pass with a head before it.
use Rattle.std.specs.Prelude.{◌≡◌, ℕ, Bool, [], ◌∷◌, Ok, Err}
use Rattle.mc_lines.specs.declared.cert.line.Line.{Line}
use Rattle.mc_flow.specs.Defs.Examples.{defs}
use Rattle.mc_state.specs.declared.line.Form.{Form}
use Rattle.mc_state.specs.declared.line.Form.TheVariants.{Certificate, Chain}
use Rattle.mc_state.specs.declared.raw_state.RawState.{RawState}
use Rattle.mc_state.specs.RawStates.{state_of}
use Rattle.mc_kernel.specs.Branches.{begins, entry_path}
use Rattle.mc_kernel.specs.Examples.{at, loop_flow, loop_state}
use Rattle.mc_kernel.specs.Judges.{Knowledge}
use Rattle.mc_kernel.specs.Readings.{Reading, heading, ruling, finished, begun, reading_line}

-- a line fails a premise where these lines of a document of the loop are read, whatever its rules are judged by
abbrev pub Refuses : Reading → Line → ℕ → Type 0
Refuses r l premise = (k : Knowledge) (well : RawState → Bool) → reading_line k well loop_flow defs l r ≡ Err premise

-- by a line such a document becomes this one
abbrev pub Becomes : Reading → Line → Reading → Type 0
Becomes r l new = (k : Knowledge) (well : RawState → Bool) → reading_line k well loop_flow defs l r ≡ Ok new

-- ["cut",1] is read
abbrev pub one_cut : Form → Reading
one_cut form = record (begun form) { cuts = at 1 ∷ [] }

-- ["cut",1] and ["cut",5] are read, and a head at 5
abbrev pub one_head : Form → Reading
one_head form = record (begun form) { stage = heading; cuts = at 1 ∷ at 5 ∷ []; heads = (at 5, loop_state) ∷ [] }

-- the pass of a chain is read, and the entry and the head are open
abbrev pub one_pass : Reading
one_pass = record (one_head Chain) { stage = ruling; branches = entry_path loop_flow ∷ begins (at 5) (state_of loop_state) ∷ [] }

-- every branch of that pass is closed
abbrev pub closed_pass : Reading
closed_pass = record (one_head Chain) { stage = ruling }

-- the end of a certificate is read
abbrev pub one_end : Reading
one_end = record (one_cut Certificate) { stage = finished }
