use Rattle.std.proofs.Common.{refl}
use Rattle.std.specs.Prelude.{[], ◌∷◌, codes}
use Rattle.mc_c_types.specs.Calls.{CallSite, itself, through}
use Rattle.mc_c_types.specs.Examples.{named, calls_itself, calls_in_a_ring}
use Rattle.mc_c_types.proofs.Wells.{recursion_first}
use Rattle.mc_c_types.proofs.Orders.{contains_here, contains_later}
use Rattle.mc_c_types.proofs.examples.examples_of_recursion.Goals as goal

abbrev f_calls_f : CallSite
f_calls_f = record { caller = codes "f"; callee = named (codes "f") 1 18 }

abbrev g_calls_f : CallSite
g_calls_f = record { caller = codes "g"; callee = named (codes "f") 1 27 }

abbrev f_calls_g : CallSite
f_calls_g = record { caller = codes "f"; callee = named (codes "g") 2 18 }

abbrev main_calls_f : CallSite
main_calls_f = record { caller = codes "main"; callee = named (codes "f") 2 21 }

pub returns-clause-itself : goal.returns-clause-itself
returns-clause-itself c = recursion_first calls_itself _ _ refl refl (record { site = f_calls_f; made = contains_here f_calls_f (main_calls_f ∷ []); returns = itself; told = refl })

pub returns-clause-ring : goal.returns-clause-ring
returns-clause-ring c = recursion_first calls_in_a_ring _ _ refl refl (record { site = g_calls_f; made = contains_here g_calls_f (f_calls_g ∷ []); returns = through f_calls_g (contains_later f_calls_g g_calls_f (f_calls_g ∷ []) (contains_here f_calls_g [])) itself; told = refl })
