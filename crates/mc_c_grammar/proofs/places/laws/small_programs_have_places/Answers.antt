use Rattle.std.proofs.Common.{⊎_elim, arith}
use Rattle.mc_c_grammar.specs.Places.Examples.{at}
use Rattle.mc_c_grammar.proofs.places.laws.small_programs_have_places.Goals as goal

pub returns-clause-twice : goal.returns-clause-twice
returns-clause-twice c = λ up. ⊎_elim (λ line. omega arith) (λ column. omega arith) (up 3 4 (at 0) (omega arith) (omega arith))
