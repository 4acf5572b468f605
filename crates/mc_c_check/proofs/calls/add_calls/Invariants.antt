use Rattle.std.proofs.Common.{◌≡◌, ◌++◌, map, drop}
use Rattle.mc_c_types.specs.Held.{tables_held}
use Rattle.mc_c_check.specs.Collected.{names_held}
use Rattle.mc_c_check.specs.Graphs.{edge_of}
use Rattle.mc_c_check.proofs.calls.add_calls.Given as goal

abbrev pub invariant-loop-name : goal.invariant-loop-name
invariant-loop-name l =
    l.edges ++ map (edge_of (tables_held l.tables).functions) (map (λ n. record { caller = l.fn.caller; callee = n }) (names_held (drop l.name-index l.callees))) ≡ l.initial.edges ++ map (edge_of (tables_held l.tables).functions) (map (λ n. record { caller = l.fn.caller; callee = n }) (names_held l.callees))
