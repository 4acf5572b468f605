-- What the length of a program says of its flow graphs.
use Rattle.std.proofs.Common.{◌<◌, ◌≤◌, ℕ, [], refl, length, arith}
use Rattle.mc_flow.specs.declared.defs.shapes.Structs.{Structs}
use Rattle.mc_semantics.specs.declared.resolved.program.Resolved.{Resolved}
use Rattle.mc_lower_spec.specs.Length.Lengths.{IsLength}
use Rattle.mc_semantics.specs.Resolved.Views.{program_of}
use Rattle.mc_lower.specs.declared.lowering.Lowered.{Lowered}
use Rattle.mc_lower.specs.Finished.{AreTooLong, IsFlowOf}

pub are_too_long : (program : Resolved) (structs : Structs) (n : ℕ) → IsLength program n → 10000 < n → AreTooLong program structs
are_too_long program structs n right more = λ g defs entry out count is same lowering. let l = right g defs entry out count is lowering in omega (arith, more, l.least)

pub few_there : (program : Resolved) (structs : Structs) (n : ℕ) (x : Lowered) → IsLength program n → n ≤ 10000 → IsFlowOf program structs x → length x.flow.points ≤ 10000
few_there program structs n x right less flow =
    let f = flow [] in
    let l = right (record { program = program_of program []; flow = x.flow; owners = f.0; roles = f.1; stops = x.stops }) [] f.2 f.3 f.4 refl f.5 in
    let most = l.most less in omega (arith, less, most)
