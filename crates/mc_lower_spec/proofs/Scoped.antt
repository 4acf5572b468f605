-- What is written in the worked programs is in scope.
use Rattle.std.proofs.Common.{◌≡◌, ℕ, zero, suc, [], ◌∷◌, Some, refl, subst, arith}
use Rattle.std.specs.Prelude.{slice_get}
use Rattle.std.proofs.lemmas.Option.{same_Some}
use Rattle.mc_semantics.specs.Resolved.Programs.{Function}
use Rattle.mc_lower_spec.specs.Examples.{while_main, while_graph, for_main, for_graph}
use Rattle.mc_lower_spec.specs.Scopes.{AreNew, IsScoped, AreScoped}

no_function : (n : ℕ) (f : Function) → slice_get {X = Function} [] n ≡ Some f → ⊥
no_function n f e = absurd (cc)

only_function : (f : Function) → IsScoped f → (n : ℕ) (h : Function) → slice_get (f ∷ []) n ≡ Some h → IsScoped h
only_function f scoped zero h e = subst IsScoped (same_Some f h e) scoped
only_function f scoped (suc n) h e = absurd (no_function n h e)

new_in_block : AreNew (2 ∷ 1 ∷ []) (0 ∷ [])
new_in_block x (zero, l, e) (zero, m, k) = omega (arith, e, k)
new_in_block x (zero, l, e) (suc j, m, k) = omega (arith, m)
new_in_block x (suc zero, l, e) (zero, m, k) = omega (arith, e, k)
new_in_block x (suc zero, l, e) (suc j, m, k) = omega (arith, m)
new_in_block x (suc (suc i), l, e) there = omega (arith, l)

new_in_head : AreNew (0 ∷ []) (1 ∷ [])
new_in_head x (zero, l, e) (zero, m, k) = omega (arith, e, k)
new_in_head x (zero, l, e) (suc j, m, k) = omega (arith, m)
new_in_head x (suc i, l, e) there = omega (arith, l)

nothing_new : AreNew [] (1 ∷ [])
nothing_new x there scope = omega (arith, there.1)

while_body : IsScoped while_main
while_body = record {
  own = 0 ∷ [];
  parameters = λ x less. absurd (omega (arith, less));
  counted = omega arith;
  body = (
    ((omega arith, (0, omega arith, refl)), tt),
    ((new_in_block, (((omega arith, (1, omega arith, refl)), tt), (tt, (((omega arith, (0, omega arith, refl)), tt), (tt, tt))))), tt),
  );
}

pub while_scoped : AreScoped while_graph.program
while_scoped n f e = only_function while_main while_body n f e

for_body : IsScoped for_main
for_body = record {
  own = 1 ∷ [];
  parameters = λ x less. absurd (omega (arith, less));
  counted = omega arith;
  body = (
    (new_in_head, ((omega arith, (0, omega arith, refl)), tt), (omega arith, (0, omega arith, refl)), (tt, ((omega arith, (1, omega arith, refl)), tt))),
    ((nothing_new, tt, tt, tt), tt),
  );
}

pub for_scoped : AreScoped for_graph.program
for_scoped n f e = only_function for_main for_body n f e
