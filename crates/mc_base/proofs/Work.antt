-- Less work.
use Rattle.std.proofs.Common.{ℕ, ◌+◌, ◌<◌, ◌≤◌, arith}
use Rattle.std.proofs.lemmas.Nat.{mul-le}
use Rattle.mc_base.specs.Trees.{work}

-- as many nodes, of which fewer are at hand
pub less_at_hand : (here waiting next rest : ℕ) → next + rest ≤ here + waiting → next < here → work next rest < work here waiting
less_at_hand here waiting next rest all less = omega (arith, mul-le (next + rest) (next + rest) (here + waiting) (here + waiting) all all)
