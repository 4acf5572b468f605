-- The flow graphs of small programs are their lowerings.
use Rattle.std.proofs.Common.{◌≡◌, refl, arith, [], ◌∷◌}
use Rattle.std.specs.Prelude.{None, Some}
use Rattle.mc_base.specs.declared.plain.Kind.TheVariants.{Int}
use Rattle.mc_lower_spec.specs.Graphs.{var, appends, undefines, undefines_none, creates, is_made, uses_first}
use Rattle.mc_lower_spec.specs.Graphs.{uses_again, leaves}
use Rattle.mc_lower_spec.specs.Values.{takes, walks, walks_none, of_number, of_variable, of_operation, of_input}
use Rattle.mc_lower_spec.specs.Values.{of_field, of_minus, of_times, of_plus, of_difference, evaluates_none}
use Rattle.mc_lower_spec.specs.Values.{evaluates_next, compares, tests_plain, tests_compare, tests_negation}
use Rattle.mc_lower_spec.specs.Values.{tests_both, tests_either, tests_always, tests_once, puts_variable}
use Rattle.mc_lower_spec.specs.Values.{puts_field}
use Rattle.mc_lower_spec.specs.Lowering.{Makes, sets_operand, sets_computed, sets_allocated, assigns_variable}
use Rattle.mc_lower_spec.specs.Lowering.{assigns_field, assigns_allocated, changes_variable, changes_field}
use Rattle.mc_lower_spec.specs.Lowering.{receives, receives_none, passes, passes_none, awaits, awaits_none}
use Rattle.mc_lower_spec.specs.Lowering.{is_variable, is_constant, are_none, are_arguments, calls}
use Rattle.mc_lower_spec.specs.Lowering.{performs_assign, performs_result, performs_add, performs_subtract}
use Rattle.mc_lower_spec.specs.Lowering.{performs_call, declares_none, declares_undefined, declares_value}
use Rattle.mc_lower_spec.specs.Lowering.{starts_nothing, starts_declaring, finishes, finishes_none}
use Rattle.mc_lower_spec.specs.Lowering.{declarations, blocks, empties, simples, frees, asserts, assumes}
use Rattle.mc_lower_spec.specs.Lowering.{shapes_assumed, shapes_asserted, emptiness_asserted, ifs, ifs_else}
use Rattle.mc_lower_spec.specs.Lowering.{whiles, dos, fors, breaks, continues, returns_nothing, returns_value}
use Rattle.mc_lower_spec.specs.Lowering.{returns_result, lowers_none, lowers_next, answers, answers_none, falls}
use Rattle.mc_lower_spec.specs.Lowering.{falls_in_main, makes}
use Rattle.mc_lower_spec.specs.Examples.{calls_graph, calls_main, commands_graph, commands_main}
use Rattle.mc_lower_spec.specs.Examples.{conditions_graph, conditions_main, do_graph, do_main, fields_graph}
use Rattle.mc_lower_spec.specs.Examples.{fields_main, for_graph, for_main, returns_graph, returns_main}
use Rattle.mc_lower_spec.specs.Examples.{run_function, run_graph, values_graph, values_main, while_graph}
use Rattle.mc_lower_spec.specs.Examples.{while_main}
use Rattle.mc_lower_spec.proofs.Making.{listed_made, below_made}

not_main : None ≡ Some Int → ⊥
not_main e = absurd (cc)

pub values_made : Makes values_graph values_main 11 4
values_made =
    makes (appends (record { there = refl; is = refl })) (answers (creates refl refl))
    (lowers_next (declarations (declares_value refl (creates refl refl) (performs_assign (assigns_variable
    (is_made {v = var 1} refl (omega arith)) (sets_computed of_input (appends (record { there = refl; is = refl })) undefines_none))) declares_none))
    (lowers_next (declarations (declares_undefined refl (creates refl refl) (appends (record { there = refl; is = refl })) declares_none))
    (lowers_next (simples (performs_assign (assigns_variable (is_made {v = var 2} refl (omega arith))
    (sets_computed (of_plus (of_variable (is_made {v = var 1} refl (omega arith))) (of_operation (of_times of_number
    (of_variable (is_made {v = var 1} refl (omega arith)))) (takes (uses_first (creates refl refl)) (appends
    (record { there = refl; is = refl }))))) (appends (record { there = refl; is = refl })) (undefines
    (appends (record { there = refl; is = refl }))))))) (lowers_next (simples (performs_assign
    (assigns_variable (is_made {v = var 2} refl (omega arith)) (sets_computed (of_difference (of_operation
    (of_minus (of_variable (is_made {v = var 2} refl (omega arith)))) (takes (uses_again (is_made {v = var 3} refl
    (omega arith))) (appends (record { there = refl; is = refl })))) of_number) (appends (record { there = refl; is = refl }))
    (undefines (appends (record { there = refl; is = refl }))))))) (lowers_next (simples (performs_add
    (changes_variable (of_variable (is_made {v = var 2} refl (omega arith))) (is_made {v = var 1} refl (omega arith))
    (appends (record { there = refl; is = refl })) undefines_none))) lowers_none)))))
    (falls_in_main (refl, refl) (is_made {v = var 0} refl (omega arith)) (appends (record { there = refl; is = refl }))) (record { there = refl; is = refl })

pub fields_made : Makes fields_graph fields_main 16 7
fields_made =
    makes (appends (record { there = refl; is = refl })) (answers (creates refl refl))
    (lowers_next (declarations (declares_value refl (creates refl refl) (performs_assign (assigns_variable
    (is_made {v = var 1} refl (omega arith)) (sets_allocated refl (appends (record { there = refl; is = refl }))))) declares_none))
    (lowers_next (simples (performs_assign (assigns_field (of_operation (of_field (is_made {v = var 1} refl
    (omega arith)) walks_none refl) (takes (uses_first (creates refl refl)) (appends (record { there = refl; is = refl }))))
    (puts_field (is_made {v = var 1} refl (omega arith)) (walks refl (takes (uses_first (creates refl refl))
    (appends (record { there = refl; is = refl }))) walks_none) (appends (record { there = refl; is = refl }))
    (undefines (appends (record { there = refl; is = refl }))))))) (lowers_next (simples (performs_subtract
    (changes_field of_number (is_made {v = var 1} refl (omega arith)) (walks refl (takes (uses_first (creates refl refl))
    (appends (record { there = refl; is = refl }))) (walks refl (takes (uses_again (is_made {v = var 3} refl
    (omega arith))) (appends (record { there = refl; is = refl }))) walks_none)) refl (takes (uses_first
    (creates refl refl)) (appends (record { there = refl; is = refl }))) (takes (uses_first (creates refl refl))
    (appends (record { there = refl; is = refl }))) (appends (record { there = refl; is = refl })) (undefines
    (appends (record { there = refl; is = refl })))))) (lowers_next (simples (performs_assign
    (assigns_allocated refl (uses_again (is_made {v = var 4} refl (omega arith))) (appends (record { there = refl; is = refl }))
    (puts_field (is_made {v = var 1} refl (omega arith)) walks_none (appends (record { there = refl; is = refl }))
    (undefines (appends (record { there = refl; is = refl }))))))) lowers_none))))
    (falls_in_main (refl, refl) (is_made {v = var 0} refl (omega arith)) (appends (record { there = refl; is = refl }))) (record { there = refl; is = refl })

pub conditions_made : Makes conditions_graph conditions_main 15 4
conditions_made =
    makes (appends (record { there = refl; is = refl })) (answers (creates refl refl))
    (lowers_next (declarations (declares_undefined refl (creates refl refl) (appends (record { there = refl; is = refl })) declares_none))
    (lowers_next (declarations (declares_undefined refl (creates refl refl) (appends (record { there = refl; is = refl })) declares_none))
    (lowers_next (ifs_else (tests_either (tests_negation (tests_both (tests_compare (of_variable (is_made {v = var 1} refl
    (omega arith))) of_number (compares (record { there = refl; is = refl }) undefines_none undefines_none))
    (tests_plain (of_operation (of_field (is_made {v = var 2} refl (omega arith)) walks_none refl) (takes
    (uses_first (creates refl refl)) (appends (record { there = refl; is = refl })))) (compares (record { there = refl; is = refl })
    (undefines (appends (record { there = refl; is = refl }))) (undefines (appends (record { there = refl; is = refl })))))))
    (tests_compare (of_operation of_input (takes (uses_again (is_made {v = var 3} refl (omega arith)))
    (appends (record { there = refl; is = refl })))) of_number (compares (record { there = refl; is = refl })
    (undefines (appends (record { there = refl; is = refl }))) (undefines (appends (record { there = refl; is = refl }))))))
    (simples (performs_assign (assigns_variable (is_made {v = var 1} refl (omega arith)) (sets_operand of_number
    (appends (record { there = refl; is = refl })))))) empties (appends (record { there = refl; is = refl }))) lowers_none)))
    (falls_in_main (refl, refl) (is_made {v = var 0} refl (omega arith)) (appends (record { there = refl; is = refl }))) (record { there = refl; is = refl })

pub while_made : Makes while_graph while_main 13 4
while_made =
    makes (appends (record { there = refl; is = refl })) (answers (creates refl refl))
    (lowers_next (declarations (declares_undefined refl (creates refl refl) (appends (record { there = refl; is = refl })) declares_none))
    (lowers_next (whiles (appends (record { there = refl; is = refl })) (tests_plain (of_variable (is_made {v = var 1} refl
    (omega arith))) (compares (record { there = refl; is = refl }) undefines_none undefines_none)) (blocks
    (lowers_next (declarations (declares_undefined refl (creates refl refl) (appends (record { there = refl; is = refl })) declares_none))
    (lowers_next (ifs (tests_plain (of_variable (is_made {v = var 2} refl (omega arith))) (compares (record { there = refl; is = refl }) undefines_none undefines_none))
    (breaks refl (leaves (listed_made (2 ∷ 1 ∷ [])) (undefines (appends (record { there = refl; is = refl })))))
    (appends (record { there = refl; is = refl }))) (lowers_next (declarations (declares_undefined refl
    (creates refl refl) (appends (record { there = refl; is = refl })) declares_none)) (lowers_next (continues refl
    (leaves (listed_made (2 ∷ 1 ∷ [])) (undefines (appends (record { there = refl; is = refl }))))) lowers_none))))
    (leaves (listed_made (2 ∷ 1 ∷ [])) (undefines (appends (record { there = refl; is = refl }))))) (appends
    (record { there = refl; is = refl }))) lowers_none))
    (falls_in_main (refl, refl) (is_made {v = var 0} refl (omega arith)) (appends (record { there = refl; is = refl }))) (record { there = refl; is = refl })

pub do_made : Makes do_graph do_main 11 2
do_made =
    makes (appends (record { there = refl; is = refl })) (answers (creates refl refl))
    (lowers_next (dos {i = 7} {e = 9} (appends (record { there = refl; is = refl })) (blocks (lowers_next (ifs
    (tests_plain (of_operation of_input (takes (uses_first (creates refl refl)) (appends (record { there = refl; is = refl }))))
    (compares (record { there = refl; is = refl }) (undefines (appends (record { there = refl; is = refl })))
    (undefines (appends (record { there = refl; is = refl }))))) (continues refl (leaves (listed_made ([])) undefines_none))
    (appends (record { there = refl; is = refl }))) lowers_none) (leaves (listed_made ([])) undefines_none))
    (appends (record { there = refl; is = refl })) (tests_plain of_number (compares (record { there = refl; is = refl }) undefines_none undefines_none))
    (appends (record { there = refl; is = refl }))) lowers_none)
    (falls_in_main (refl, refl) (is_made {v = var 0} refl (omega arith)) (appends (record { there = refl; is = refl }))) (record { there = refl; is = refl })

pub for_made : Makes for_graph for_main 15 3
for_made =
    makes (appends (record { there = refl; is = refl })) (answers (creates refl refl))
    (lowers_next (fors {i = 7} {e = 9} (starts_declaring (declares_value refl (creates refl refl)
    (performs_assign (assigns_variable (is_made {v = var 1} refl (omega arith)) (sets_operand of_number
    (appends (record { there = refl; is = refl }))))) declares_none)) (appends (record { there = refl; is = refl }))
    (tests_once (tests_compare (of_variable (is_made {v = var 1} refl (omega arith))) of_number (compares
    (record { there = refl; is = refl }) undefines_none undefines_none))) (ifs_else (tests_compare
    (of_variable (is_made {v = var 1} refl (omega arith))) of_number (compares (record { there = refl; is = refl }) undefines_none undefines_none)) empties
    (declarations (declares_value refl (creates refl refl) (performs_assign (assigns_variable (is_made {v = var 2} refl
    (omega arith)) (sets_operand of_number (appends (record { there = refl; is = refl }))))) declares_none))
    (appends (record { there = refl; is = refl }))) (appends (record { there = refl; is = refl })) (finishes
    (performs_add (changes_variable of_number (is_made {v = var 1} refl (omega arith)) (appends (record { there = refl; is = refl })) undefines_none)))
    (appends (record { there = refl; is = refl })) (leaves (listed_made (0 ∷ [])) (undefines (appends (record { there = refl; is = refl })))))
    (lowers_next (fors {i = 12} {e = 13} starts_nothing (appends (record { there = refl; is = refl })) tests_always
    (breaks refl (leaves (listed_made ([])) undefines_none)) (appends (record { there = refl; is = refl })) finishes_none
    (appends (record { there = refl; is = refl })) (leaves (listed_made ([])) undefines_none)) lowers_none))
    (falls_in_main (refl, refl) (is_made {v = var 0} refl (omega arith)) (appends (record { there = refl; is = refl }))) (record { there = refl; is = refl })

pub commands_made : Makes commands_graph commands_main 16 4
commands_made =
    makes (appends (record { there = refl; is = refl })) (answers (creates refl refl))
    (lowers_next (declarations (declares_undefined refl (creates refl refl) (appends (record { there = refl; is = refl })) declares_none))
    (lowers_next (shapes_assumed (is_made {v = var 1} refl (omega arith)) (are_arguments is_constant are_none)
    (appends (record { there = refl; is = refl }))) (lowers_next (frees (of_operation (of_field (is_made {v = var 1} refl
    (omega arith)) walks_none refl) (takes (uses_first (creates refl refl)) (appends (record { there = refl; is = refl }))))
    (appends (record { there = refl; is = refl })) (undefines (appends (record { there = refl; is = refl }))))
    (lowers_next (asserts (tests_plain (of_variable (is_made {v = var 1} refl (omega arith))) (compares
    (record { there = refl; is = refl }) undefines_none undefines_none)) (record { there = refl; is = refl }))
    (lowers_next (assumes (tests_compare (of_operation of_input (takes (uses_first (creates refl refl))
    (appends (record { there = refl; is = refl })))) of_number (compares (record { there = refl; is = refl })
    (undefines (appends (record { there = refl; is = refl }))) (undefines (appends (record { there = refl; is = refl })))))
    (record { there = refl; is = refl })) (lowers_next (shapes_asserted (is_variable (is_made {v = var 1} refl
    (omega arith))) are_none (appends (record { there = refl; is = refl }))) (lowers_next (emptiness_asserted
    (appends (record { there = refl; is = refl }))) lowers_none)))))))
    (falls_in_main (refl, refl) (is_made {v = var 0} refl (omega arith)) (appends (record { there = refl; is = refl }))) (record { there = refl; is = refl })

pub calls_made : Makes calls_graph calls_main 20 8
calls_made =
    makes (appends (record { there = refl; is = refl })) (answers (creates refl refl))
    (lowers_next (declarations (declares_value refl (creates refl refl) (performs_result (calls refl (receives refl
    (creates refl refl) receives_none) (evaluates_next of_number evaluates_none) (passes (appends (record { there = refl; is = refl })) passes_none) undefines_none
    (awaits (creates refl refl) (appends (record { there = refl; is = refl }))) (lowers_next (declarations
    (declares_undefined refl (creates refl refl) (appends (record { there = refl; is = refl })) declares_none))
    (lowers_next (whiles (appends (record { there = refl; is = refl })) (tests_plain of_number (compares
    (record { there = refl; is = refl }) undefines_none undefines_none)) (blocks (lowers_next (returns_value
    (is_made {v = var 3} refl (omega arith)) (sets_computed (of_plus (of_variable (is_made {v = var 2} refl
    (omega arith))) of_number) (appends (record { there = refl; is = refl })) undefines_none)) lowers_none)
    (leaves (listed_made ([])) undefines_none)) (appends (record { there = refl; is = refl }))) lowers_none))
    (below_made 2) (appends (record { there = refl; is = refl }))) (puts_variable (is_made {v = var 1} refl
    (omega arith)) (appends (record { there = refl; is = refl })) undefines_none) (undefines (appends (record { there = refl; is = refl })))) declares_none))
    (lowers_next (simples (performs_call (calls refl (receives refl (creates refl refl) receives_none)
    (evaluates_next (of_variable (is_made {v = var 1} refl (omega arith))) evaluates_none) (passes (appends
    (record { there = refl; is = refl })) passes_none) undefines_none (awaits (creates refl refl) (appends
    (record { there = refl; is = refl }))) (lowers_next (declarations (declares_undefined refl (creates refl refl)
    (appends (record { there = refl; is = refl })) declares_none)) (lowers_next (whiles (appends (record { there = refl; is = refl }))
    (tests_plain of_number (compares (record { there = refl; is = refl }) undefines_none undefines_none))
    (blocks (lowers_next (returns_value (is_made {v = var 6} refl (omega arith)) (sets_computed (of_plus
    (of_variable (is_made {v = var 5} refl (omega arith))) of_number) (appends (record { there = refl; is = refl })) undefines_none)) lowers_none)
    (leaves (listed_made ([])) undefines_none)) (appends (record { there = refl; is = refl }))) lowers_none))
    (below_made 2) (appends (record { there = refl; is = refl }))))) lowers_none))
    (falls_in_main (refl, refl) (is_made {v = var 0} refl (omega arith)) (appends (record { there = refl; is = refl }))) (record { there = refl; is = refl })

pub returns_made : Makes returns_graph returns_main 14 6
returns_made =
    makes (appends (record { there = refl; is = refl })) (answers (creates refl refl))
    (lowers_next (declarations (declares_undefined refl (creates refl refl) (appends (record { there = refl; is = refl })) declares_none))
    (lowers_next (blocks (lowers_next (declarations (declares_value refl (creates refl refl) (performs_assign
    (assigns_variable (is_made {v = var 2} refl (omega arith)) (sets_operand (of_variable (is_made {v = var 2} refl
    (omega arith))) (appends (record { there = refl; is = refl }))))) declares_none)) lowers_none) (leaves
    (listed_made (1 ∷ [])) (undefines (appends (record { there = refl; is = refl }))))) (lowers_next (simples
    (performs_call (calls refl receives_none evaluates_none passes_none undefines_none awaits_none
    (lowers_next returns_nothing lowers_none) (below_made 0) (appends (record { there = refl; is = refl })))))
    (lowers_next (returns_result (is_made {v = var 0} refl (omega arith)) (calls refl (receives refl (creates refl refl) receives_none)
    (evaluates_next (of_operation of_input (takes (uses_first (creates refl refl)) (appends (record { there = refl; is = refl })))) evaluates_none)
    (passes (appends (record { there = refl; is = refl })) passes_none) (undefines (appends (record { there = refl; is = refl })))
    (awaits (creates refl refl) (appends (record { there = refl; is = refl }))) (lowers_next (returns_value
    (is_made {v = var 5} refl (omega arith)) (sets_operand (of_variable (is_made {v = var 3} refl (omega arith)))
    (appends (record { there = refl; is = refl })))) lowers_none) (below_made 1) (appends (record { there = refl; is = refl })))
    (appends (record { there = refl; is = refl })) (undefines (appends (record { there = refl; is = refl })))) lowers_none))))
    (falls_in_main (refl, refl) (is_made {v = var 0} refl (omega arith)) (appends (record { there = refl; is = refl }))) (record { there = refl; is = refl })

pub run_made : Makes run_graph run_function 1 0
run_made =
    makes (appends (record { there = refl; is = refl })) answers_none
    lowers_none
    (falls (λ h. not_main h.1)) (record { there = refl; is = refl })
