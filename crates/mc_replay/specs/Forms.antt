-- Forms of which both sides' edges may be.
use Rattle.std.specs.Prelude.{Bool}
use Rattle.mc_state.specs.declared.graph.edge.Edge.{Edge}
use Rattle.mc_joins.specs.Steps.{are_blocks, are_inds, are_segs}
use Rattle.mc_replay.specs.declared.forms.Form.{Form}
use Rattle.mc_replay.specs.declared.forms.Form.TheVariants.{Blocks, Inds, Segs}

-- two edges are of a form
abbrev pub is_form : Form → Edge → Edge → Bool
is_form Blocks e f = are_blocks e f
is_form Inds e f = are_inds e f
is_form Segs e f = are_segs e f
