-- What is noted of shape commands.
use Rattle.std.proofs.Common.{◌≡◌, ℕ, List, [], ◌∷◌, ◌++◌, ◌≤◌, refl, ap, sym, ◌∙◌, append_assoc, drop, flat_map, length, map, cond}
use Rattle.std.proofs.lemmas.List.{drop_all}
use Rattle.std.proofs.lemmas.Option.{none-some}
use Rattle.std.specs.Prelude.{Option, Some, None}
use Rattle.mc_base.specs.declared.plain.Kind.{Kind}
use Rattle.mc_base.specs.declared.text.place.Place.{Place}
use Rattle.mc_flow.specs.declared.defs.rules.Def.{Def}
use Rattle.mc_c_syntax.specs.declared.ast.trees.Argument.{Argument}
use Rattle.mc_c_syntax.specs.declared.ast.trees.Name.{Name}
use Rattle.mc_c_syntax.specs.Ast.Trees.{UnitTree}
use Rattle.mc_c_types.specs.Faults.{variable_type}
use Rattle.mc_c_types.specs.First.{is_told, told_of}
use Rattle.mc_c_types.specs.Scopes.{Scope, visible}
use Rattle.mc_c_types.specs.Shapes.{ShapeUse, argument_given, bind_faults, given_faults, item_uses, use_faults, variable_given}
use Rattle.mc_c_types.specs.Tables.{Tables, Variable, tables_of}
use Rattle.mc_c_types.specs.declared.faults.Fault.{Fault}
use Rattle.mc_c_types.specs.declared.types.ValueType.{ValueType}
use Rattle.mc_c_types.specs.declared.types.ValueType.TheVariants.{Typed}
use Rattle.mc_c_types.specs.declared.types.VariableType.{VariableType}
use Rattle.mc_c_walk.specs.Gives.{part_uses}
use Rattle.mc_c_walk.specs.Visits.{assumed, asserted}

append_none : {X : Type 0} (xs : List X) → xs ++ [] ≡ xs
append_none [] = refl
append_none (x ∷ xs) = ap (λ more. x ∷ more) (append_none xs)

-- ---- arguments
no_given : (kinds : List Kind) → given_faults kinds [] ≡ []
no_given [] = refl
no_given (kind ∷ kinds) = refl

pub no_more_given : (vs : List Variable) (kinds : List Kind) (arguments : List Argument) (i : ℕ) → length arguments ≤ i → given_faults kinds (map (argument_given vs) (drop i arguments)) ≡ []
no_more_given vs kinds arguments i past = ap (λ more. given_faults kinds (map (argument_given vs) more)) (drop_all i arguments past) ∙ no_given kinds

-- ---- one shape command
one_use : (defs : List Def) (o a : Option Fault) (given command : ShapeUse) → given ≡ command → a ≡ told_of o (use_faults defs given) → a ≡ told_of o (flat_map (use_faults defs) (command ∷ []))
one_use defs o a given command e h = h ∙ ap (λ u. told_of o (use_faults defs u)) e ∙ sym (ap (told_of o) (append_none (use_faults defs command)))

pub assumed_use : (defs : List Def) (s : Scope) (vs : List Variable) (o a : Option Fault) (at : Place) (predicate x : Name) (type : VariableType) (arguments items : List Argument)
    → vs ≡ visible s → type ≡ variable_type vs x → arguments ≡ items
    → a ≡ told_of o (use_faults defs (record { predicate = predicate; start = record { type = Typed type; place = x.place }; arguments = map (argument_given vs) arguments }))
    → a ≡ told_of o (flat_map (use_faults defs) (part_uses s (assumed at predicate x items)))
assumed_use defs s vs o a at predicate x type arguments items p q r h =
    one_use defs o a
    (record { predicate = predicate; start = record { type = Typed type; place = x.place }; arguments = map (argument_given vs) arguments })
    (record { predicate = predicate; start = variable_given (visible s) x; arguments = map (argument_given (visible s)) items })
    (ap (λ t. record { predicate = predicate; start = record { type = Typed t; place = x.place }; arguments = map (argument_given vs) arguments }) q
    ∙ ap (λ l. record { predicate = predicate; start = variable_given vs x; arguments = map (argument_given vs) l }) r
    ∙ ap (λ ws. record { predicate = predicate; start = variable_given ws x; arguments = map (argument_given ws) items }) p)
    h

pub asserted_use : (defs : List Def) (s : Scope) (vs : List Variable) (o a : Option Fault) (at : Place) (predicate : Name) (x : Argument) (type : ValueType) (place : Place) (arguments items : List Argument)
    → vs ≡ visible s → type ≡ (argument_given vs x).type → place ≡ (argument_given vs x).place → arguments ≡ items
    → a ≡ told_of o (use_faults defs (record { predicate = predicate; start = record { type = type; place = place }; arguments = map (argument_given vs) arguments }))
    → a ≡ told_of o (flat_map (use_faults defs) (part_uses s (asserted at predicate x items)))
asserted_use defs s vs o a at predicate x type place arguments items p q q' r h =
    one_use defs o a
    (record { predicate = predicate; start = record { type = type; place = place }; arguments = map (argument_given vs) arguments })
    (record { predicate = predicate; start = argument_given (visible s) x; arguments = map (argument_given (visible s)) items })
    (ap (λ t. record { predicate = predicate; start = record { type = t; place = place }; arguments = map (argument_given vs) arguments }) q
    ∙ ap (λ t. record { predicate = predicate; start = record { type = (argument_given vs x).type; place = t }; arguments = map (argument_given vs) arguments }) q'
    ∙ ap (λ l. record { predicate = predicate; start = argument_given vs x; arguments = map (argument_given vs) l }) r
    ∙ ap (λ ws. record { predicate = predicate; start = argument_given ws x; arguments = map (argument_given ws) items }) p)
    h

-- ---- rows of rows
flat_append : {X Y : Type 0} (f : X → List Y) (xs ys : List X) → flat_map f (xs ++ ys) ≡ flat_map f xs ++ flat_map f ys
flat_append f [] ys = refl
flat_append f (x ∷ xs) ys = ap (λ more. f x ++ more) (flat_append f xs ys) ∙ sym (append_assoc (f x) (flat_map f xs) (flat_map f ys))

pub flat_twice : {X Y Z : Type 0} (g : Y → List Z) (f : X → List Y) (xs : List X) → flat_map g (flat_map f xs) ≡ flat_map (λ x. flat_map g (f x)) xs
flat_twice g f [] = refl
flat_twice g f (x ∷ xs) = flat_append g (f x) (flat_map f xs) ∙ ap (λ more. flat_map g (f x) ++ more) (flat_twice g f xs)

-- ---- a whole program
pub misfits : (unit items : UnitTree) (t : Tables) (defs : List Def) (o a : Option Fault) → t ≡ tables_of unit → items ≡ unit → o ≡ None
    → a ≡ told_of o (flat_map (λ item. flat_map (use_faults defs) (item_uses t item)) items) → a ≡ told_of None (bind_faults unit defs)
misfits unit items t defs o a p q r h =
    h
    ∙ ap (λ n. told_of n (flat_map (λ item. flat_map (use_faults defs) (item_uses t item)) items)) r
    ∙ ap (λ s. told_of None (flat_map (λ item. flat_map (use_faults defs) (item_uses s item)) items)) p
    ∙ ap (λ i. told_of None (flat_map (λ item. flat_map (use_faults defs) (item_uses (tables_of unit) item)) i)) q
    ∙ sym (ap (told_of None) (flat_twice (use_faults defs) (item_uses (tables_of unit)) unit))

-- none is known only where there is none
some_told : (told : Fault) (xs : List Fault) → None ≡ told_of (Some told) xs → ⊥
some_told told [] e = none-some told e
some_told told (x ∷ xs) e = some_told (cond (is_told told x) told x) xs e

pub none_told : (xs : List Fault) → None ≡ told_of None xs → xs ≡ []
none_told [] e = refl
none_told (x ∷ xs) e = absurd (some_told x xs e)
