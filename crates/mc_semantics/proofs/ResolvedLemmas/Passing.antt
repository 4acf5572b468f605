-- A function begins with the same values, and the function that is called is the same.
use Rattle.std.proofs.Common.{◌≡◌, ◌<◌, ℕ, zero, suc, ℤ, ◌+◌, Bool, true, false, not, ◌&&◌, cond, List, [], ◌∷◌, ◌++◌, Option, Some, None, map, length, refl, sym, ap, subst, ◌∙◌, arith, slice_get}
use Rattle.std.specs.Prelude.{find, filter, option_map, reverse}
use Rattle.std.specs.Option.{option_map_or}
use Rattle.std.proofs.lemmas.List.Folds.{find_at}
use Rattle.mc_base.specs.declared.text.place.Place.{Place}
use Rattle.mc_flow.specs.declared.defs.rules.Def.{Def}
use Rattle.mc_c_syntax.specs.Ast.Names.{is_same}
use Rattle.mc_c_syntax.specs.Ast.Trees as tree
use Rattle.mc_c_types.specs.Tables.{Tables, Variable, parameters_of, is_defined, called_function}
use Rattle.mc_c_types.specs.Scopes.{Scope, visible}
use Rattle.mc_semantics.specs.Configs as named
use Rattle.mc_semantics.specs.Configs.{is_place}
use Rattle.mc_semantics.specs.Moves as named_moves
use Rattle.mc_semantics.specs.Steps as named_steps
use Rattle.mc_semantics.specs.Resolved.Configs.{Values, held, Tasks}
use Rattle.mc_semantics.specs.Resolved.Moves.{in_a_row}
use Rattle.mc_semantics.specs.Resolved.Steps.{passed}
use Rattle.mc_semantics.specs.Resolved.Resolving.{local_of, statements_variables, body_statements, function_variables, number_in, defined_functions, function_number, parameter_scope, resolved_statements, resolved_function, resolved_program}
use Rattle.mc_semantics.specs.Resolved.Running.{IsKnown, AreKnown, Agree, naming, SameTasks}
use Rattle.mc_semantics.proofs.ResolvedLemmas.Holding.{place_of, place_self, same_or_not}
use Rattle.mc_semantics.proofs.ResolvedLemmas.Knowing.{known_both, known_left, known_right, all_known, reverse_known}
use Rattle.mc_semantics.proofs.ResolvedLemmas.Moving.{row_same}

-- ---- what the parameters hold
passed_length : (k : ℕ) (locals : List Variable) (vs : List ℤ) → length (passed k (map local_of locals) vs) ≡ length locals
passed_length k [] vs = refl
passed_length zero (x ∷ locals) vs = ap suc (passed_length zero locals vs)
passed_length (suc k) (x ∷ locals) [] = ap suc (passed_length k locals [])
passed_length (suc k) (x ∷ locals) (v ∷ vs) = ap suc (passed_length k locals vs)

-- what is held after the first variable
held_later : (v : Option ℤ) (values : Values) (n : ℕ) → held (v ∷ values) (1 + n) ≡ held values n
held_later v values n = let e : 1 + n ≡ suc n = omega arith in rw e refl

-- a variable that is known after the first one
known_later : (x : Variable) (locals : List Variable) (p : Place) → is_place x.place p ≡ false → IsKnown (x ∷ locals) p → IsKnown locals p
known_later x locals p miss known =
    let P : Bool → Type 0 = λ b. cond (not b) (1 + number_in locals p) 0 < length (x ∷ locals) in
    let more : 1 + number_in locals p < length (x ∷ locals) = subst P miss known in omega (arith, more)

number_later : (x : Variable) (locals : List Variable) (p : Place) → is_place x.place p ≡ false → number_in (x ∷ locals) p ≡ 1 + number_in locals p
number_later x locals p miss = rw miss refl

number_first : (x : Variable) (locals : List Variable) (p : Place) → is_place x.place p ≡ true → number_in (x ∷ locals) p ≡ 0
number_first x locals p hit = rw hit refl

-- where no parameter is left, or no argument, all is undefined
nothing_passed : (locals : List Variable) (vs : List ℤ) (p : Place) → IsKnown locals p → held (passed zero (map local_of locals) vs) (number_in locals p) ≡ None
nothing_passed [] vs p known = absurd (omega (arith, known))
nothing_passed (x ∷ locals) vs p known = same_or_not (is_place x.place p)
    (λ hit. rw (number_first x locals p hit) refl)
    (λ miss. rw (number_later x locals p miss) (held_later None (passed zero (map local_of locals) vs) (number_in locals p) ∙ nothing_passed locals vs p (known_later x locals p miss known)))

none_left : (k : ℕ) (locals : List Variable) (p : Place) → IsKnown locals p → held (passed k (map local_of locals) []) (number_in locals p) ≡ None
none_left k [] p known = absurd (omega (arith, known))
none_left zero (x ∷ locals) p known = nothing_passed (x ∷ locals) [] p known
none_left (suc k) (x ∷ locals) p known = same_or_not (is_place x.place p)
    (λ hit. rw (number_first x locals p hit) refl)
    (λ miss. rw (number_later x locals p miss) (held_later None (passed k (map local_of locals) []) (number_in locals p) ∙ none_left k locals p (known_later x locals p miss known)))

passed_same : (ps more : List Variable) (vs : List ℤ) (p : Place) → IsKnown (ps ++ more) p
    → held (passed (length ps) (map local_of (ps ++ more)) vs) (number_in (ps ++ more) p) ≡ named_steps.passed ps vs p
passed_same [] more vs p known = nothing_passed more vs p known
passed_same (x ∷ ps) more [] p known = none_left (suc (length ps)) (x ∷ ps ++ more) p known
passed_same (x ∷ ps) more (v ∷ vs) p known = same_or_not (is_place x.place p)
    (λ hit. let e : x.place ≡ p = place_of x.place p hit in
    let own : is_place p x.place ≡ true = subst (λ z. is_place p z ≡ true) (sym e) (place_self p) in
    rw (number_first x (ps ++ more) p hit, own) refl)
    (λ miss. let other : is_place p x.place ≡ false = same_or_not (is_place p x.place)
    (λ hit. let e : p ≡ x.place = place_of p x.place hit in
    let bad : true ≡ false = sym (place_self x.place) ∙ subst (λ z. is_place x.place z ≡ false) e miss in absurd (grind (arith, bad)))
    (λ m. m) in
    rw (number_later x (ps ++ more) p miss, other)
    (held_later (Some v) (passed (length ps) (map local_of (ps ++ more)) vs) (number_in (ps ++ more) p) ∙ passed_same ps more vs p (known_later x (ps ++ more) p miss known)))

pub passed_agree : (ps more : List Variable) (vs : List ℤ) → Agree (ps ++ more) (named_steps.passed ps vs) (passed (length ps) (map local_of (ps ++ more)) vs)
passed_agree ps more vs = record { same_length = passed_length (length ps) (ps ++ more) vs; same = λ p known. passed_same ps more vs p known }

pub started_agree : (locals : List Variable) → Agree locals named.no_values (passed 0 (map local_of locals) [])
started_agree locals = record { same_length = passed_length 0 locals []; same = λ p known. nothing_passed locals [] p known }

-- ---- bodies
body_same : (t : Tables) (defs : List Def) (locals : List Variable) (s : Scope) (b : Option tree.BodyTree) {rest : named.Tasks} {more : Tasks} → AreKnown locals (visible s)
    → AreKnown locals (statements_variables t (option_map_or (λ body. tree.stmts_of body.statements) b tree.no_more)) → SameTasks t defs locals rest more
    → SameTasks t defs locals (option_map_or (λ body. named_moves.in_a_row t s (tree.stmts_of body.statements) rest) b rest)
    (in_a_row (resolved_statements (naming t defs locals) s (option_map_or (λ body. tree.stmts_of body.statements) b tree.no_more)) more)
body_same t defs locals s None known new same = same
body_same t defs locals s (Some body) known new same = row_same t defs locals s (tree.stmts_of body.statements) known new same

pub function_same : (t : Tables) (defs : List Def) (f : tree.FunctionTree) {rest : named.Tasks} {more : Tasks} → SameTasks t defs (function_variables t f) rest more
    → SameTasks t defs (function_variables t f) (named_steps.body_of t f rest) (in_a_row (resolved_function t defs f).body more)
function_same t defs f same =
    let all : AreKnown (function_variables t f) (function_variables t f) = all_known (function_variables t f) in
    let ps : AreKnown (function_variables t f) (parameters_of t f) = known_left (function_variables t f) (parameters_of t f) (statements_variables t (body_statements f)) all in
    let own : AreKnown (function_variables t f) (reverse (parameters_of t f) ++ []) = known_both (function_variables t f) (reverse (parameters_of t f)) [] (reverse_known (function_variables t f) (parameters_of t f) ps) tt in
    body_same t defs (function_variables t f) (parameter_scope t f) f.body own
    (known_right (function_variables t f) (parameters_of t f) (statements_variables t (body_statements f)) all) same

-- ---- the function that is called
found_there : {X : Type 0} (p q : X → Bool) (xs : List X) → find (λ x. p x && q x) xs ≡ find q (filter p xs)
found_there p q [] = refl
found_there p q (x ∷ xs) = go (p x) (found_there p q xs)
  where
    go : (b : Bool) → find (λ x. p x && q x) xs ≡ find q (filter p xs) → cond (b && q x) (Some x) (find (λ x. p x && q x) xs) ≡ find q (cond b (x ∷ filter p xs) (filter p xs))
    go false later = later
    go true later = ap (cond (q x) (Some x)) later

slice_get_map : {X Y : Type 0} (f : X → Y) (xs : List X) (n : ℕ) → slice_get (map f xs) n ≡ option_map f (slice_get xs n)
slice_get_map f [] n = refl
slice_get_map f (x ∷ xs) zero = refl
slice_get_map f (x ∷ xs) (suc n) = slice_get_map f xs n

pub called_same : (t : Tables) (defs : List Def) (entry name : List ℕ)
    → slice_get (resolved_program t defs entry).functions (function_number t name) ≡ option_map (resolved_function t defs) (called_function t name)
called_same t defs entry name =
    slice_get_map (resolved_function t defs) (defined_functions t) (function_number t name)
    ∙ ap (option_map (resolved_function t defs)) (sym (find_at (λ f. is_same f.name.text name) (defined_functions t)) ∙ sym (found_there is_defined (λ f. is_same f.name.text name) t.functions))
