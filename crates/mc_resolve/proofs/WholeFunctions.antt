-- A function, and a program, part by part.
use Rattle.std.proofs.Common.{◌≡◌, ℕ, List, Option, map, length, ap, sym, ◌∙◌}
use Rattle.std.specs.List.{position_or_len}
use Rattle.std.specs.Prelude.{option_map}
use Rattle.mc_c_syntax.specs.Ast.Names.{is_same}
use Rattle.std.proofs.lemmas.List.{length-map}
use Rattle.mc_base.specs.declared.plain.Kind.{Kind}
use Rattle.mc_flow.specs.declared.defs.rules.Def.{Def}
use Rattle.mc_c_syntax.specs.Ast.Trees as tree
use Rattle.mc_c_types.specs.Scopes.{Scope}
use Rattle.mc_c_types.specs.Tables.{Tables, Variable, kind_of, listed_parameters, returned_type, variable_of}
use Rattle.mc_semantics.specs.Resolved.Programs.{Function, Local, Program, Stmts}
use Rattle.mc_semantics.specs.Resolved.Resolving.{body_statements, defined_functions, function_number, function_variables, local_of, naming_of, parameter_scope, resolved_function, resolved_program, resolved_statements}
use Rattle.mc_resolve.specs.Named.{defined_names}
use Rattle.mc_resolve.proofs.FunctionNumbers.{function_number_of}

abbrev pub function_with : List ℕ → List Local → ℕ → Option Kind → Stmts → Function
function_with name locals parameters result body = record { name = name; locals = locals; parameters = parameters; result = result; body = body }

pub function_resolved : (t : Tables) (defs : List Def) (f : tree.FunctionTree) (vs : List Variable) (s : Scope) (ss : tree.Stmts)
    (name : List ℕ) (locals : List Local) (parameters : ℕ) (result : Option Kind) (body : Stmts)
    → vs ≡ function_variables t f → s ≡ parameter_scope t f → ss ≡ body_statements f
    → name ≡ f.name.text → locals ≡ map local_of vs → parameters ≡ length (listed_parameters f.parameters) → result ≡ option_map kind_of (returned_type t f.returned)
    → body ≡ resolved_statements (record { tables = t; defs = defs; locals = vs }) s ss
    → function_with name locals parameters result body ≡ resolved_function t defs f
function_resolved t defs f vs s ss name locals parameters result body is around rest named held counted kind made =
    ap (λ (x : List ℕ). function_with x locals parameters result body) named
    ∙ ap (λ (x : List Local). function_with f.name.text x parameters result body) (held ∙ ap (λ (xs : List Variable). map local_of xs) is)
    ∙ ap (λ (x : ℕ). function_with f.name.text (map local_of (function_variables t f)) x result body)
    (counted ∙ sym (length-map (listed_parameters f.parameters) (λ p. variable_of t p.base p.declarator)))
    ∙ ap (λ (x : Option Kind). function_with f.name.text (map local_of (function_variables t f)) (resolved_function t defs f).parameters x body) kind
    ∙ ap (λ (x : Stmts). function_with f.name.text (map local_of (function_variables t f)) (resolved_function t defs f).parameters (resolved_function t defs f).result x)
    (made
    ∙ ap (λ (xs : List Variable). resolved_statements (record { tables = t; defs = defs; locals = xs }) s ss) is
    ∙ ap (λ (x : Scope). resolved_statements (naming_of t defs f) x ss) around
    ∙ ap (λ (x : tree.Stmts). resolved_statements (naming_of t defs f) (parameter_scope t f) x) rest)

abbrev pub program_with : List Function → ℕ → List Def → Program
program_with functions entry defs = record { functions = functions; entry = entry; defs = defs }

pub program_resolved : (t u : Tables) (defs given : List Def) (functions : List Function) (names : List (List ℕ)) (number : ℕ) (name entry : List ℕ)
    → t ≡ u → given ≡ defs → functions ≡ map (resolved_function t given) (defined_functions t) → names ≡ defined_names t → number ≡ position_or_len (λ n. is_same n name) names → name ≡ entry
    → program_with functions number defs ≡ resolved_program u defs entry
program_resolved t u defs given functions names number name entry same known made named found is =
    ap (λ (fs : List Function). program_with fs number defs) (made ∙ ap (λ ds. map (resolved_function t ds) (defined_functions t)) known)
    ∙ ap (λ (x : ℕ). program_with (map (resolved_function t defs) (defined_functions t)) x defs) (found ∙ function_number_of t names name named ∙ ap (function_number t) is)
    ∙ ap (λ (x : Tables). resolved_program x defs entry) same
