-- Statements without faults can be lowered.
use Rattle.std.proofs.Common.{◌≡◌, ℕ, Bool, true, false, List, [], ◌∷◌, ◌++◌, Option, is_none, map, flat_map, refl}
use Rattle.mc_c_syntax.specs.declared.ast.trees.Base.{Base}
use Rattle.mc_c_syntax.specs.Ast.Trees as tree
use Rattle.mc_flow.specs.declared.defs.shapes.Structs.{Structs}
use Rattle.mc_base.specs.declared.text.place.Place.{Place}
use Rattle.mc_c_types.specs.Tables.{Variable, type_in, variable_of as declared_variable}
use Rattle.mc_c_types.specs.Scopes.{Scope, visible, inside, declare, behind, behind_start}
use Rattle.mc_c_types.specs.Faults.{Context, unless, no_pointer, expression_faults, condition_faults, value_faults, variable_faults, shape_argument_faults, declarator_faults, item_faults, items_faults, start_faults, maybe_condition_faults, maybe_simple_faults, head_faults, statement_faults, statements_faults}
use Rattle.mc_c_types.specs.declared.faults.Fault.{Fault}
use Rattle.mc_c_types.specs.declared.faults.FaultName.TheVariants.{Mismatch, Twice}
use Rattle.mc_c_types.specs.declared.types.VariableType.{VariableType}
use Rattle.mc_lower_spec.specs.Length.Lengths.{start_declared, declared}
use Rattle.mc_semantics.specs.Resolved.Resolving.{Naming, start_variables, statement_variables, statements_variables, number_in, resolved_items, resolved_start, resolved_statement, resolved_statements}
use Rattle.mc_lower_laws.proofs.ScopedLemmas.Lists.{contains_head}
use Rattle.mc_lower_laws.proofs.ScopedLemmas.Faultless.{none_left, none_right, AreIn}
use Rattle.mc_lower_laws.specs.Lowerable.Lowerable.{AreLowerableItems, IsLowerableStart, IsLowerable, AreLowerable}
use Rattle.mc_lower_laws.proofs.LowerableLemmas.Named.{AreCounted, expression_made, condition_made, condition_made_perhaps, value_lowerable, returned_lowerable, action_lowerable, last_lowerable, named_made, argument_made, arguments_made}
use Rattle.mc_lower_laws.proofs.LowerableLemmas.Scoping.{AreKnown, known_left, known_right, declared_in, behind_in, start_behind_in}

-- where a statement stands
abbrev context : Naming → Option VariableType → Bool → Context
context n result loop = record { tables = n.tables; result = result; in_loop = loop }

-- ---- declarations
items_lowerable : (n : Naming) (structs : Structs) (made : List ℕ) (s : Scope) (base : Base) (items : List tree.InitialTree) → AreCounted structs n.tables
    → AreKnown n.locals (map (λ item. declared_variable n.tables base item.declarator) items) → AreIn n.locals made (visible s) → items_faults n.tables base s items ≡ []
    → AreLowerableItems structs made (resolved_items n s base items)
items_lowerable n structs made s base [] counts known seen e = tt
items_lowerable n structs made s base (item ∷ items) counts known seen e =
    let v : Variable = declared_variable n.tables base item.declarator in
    let more : List Variable = map (λ other. declared_variable n.tables base other.declarator) items in
    let x : List Fault = item_faults n.tables base s item in
    let y : List Fault = items_faults n.tables base (declare s v) items in
    let before : List Fault = declarator_faults n.tables base item.declarator ++ unless (is_none (type_in s.own item.declarator.name.text)) Twice item.declarator.name.place in
    let value : List Fault = value_faults n.tables (visible (declare s v)) v.type item.value in
    let now : AreKnown n.locals (v ∷ []) = known_left n.locals (v ∷ []) more known in
    let later = declared_in n made s v (now (number_in n.locals v.place) (contains_head (number_in n.locals v.place) [])) seen in (
      value_lowerable n structs (number_in n.locals v.place ∷ made) (visible (declare s v)) v.type item.value counts later (none_right before value (none_left x y e)),
      items_lowerable n structs (number_in n.locals v.place ∷ made) (declare s v) base items counts (known_right n.locals (v ∷ []) more known) later (none_right x y e),
    )

start_lowerable : (n : Naming) (structs : Structs) (made : List ℕ) (s : Scope) (start : tree.Start) → AreCounted structs n.tables → AreKnown n.locals (start_variables n.tables start)
    → AreIn n.locals made (visible s) → start_faults n.tables s start ≡ [] → IsLowerableStart structs made (resolved_start n s start)
start_lowerable n structs made s tree.nothing counts known seen e = tt
start_lowerable n structs made s (tree.declares d) counts known seen e = items_lowerable n structs made (inside s) d.base d.items counts known seen e
start_lowerable n structs made s (tree.performs x) counts known seen e = action_lowerable n structs made (visible s) x counts seen e

in_loop_is : (b : Bool) (p : Place) → unless b Mismatch p ≡ [] → b ≡ true
in_loop_is true p e = refl
in_loop_is false p e = absurd (cc)

-- ---- statements
mutual
  pub statement_lowerable : (n : Naming) (structs : Structs) (result : Option VariableType) (loop : Bool) (made : List ℕ) (s : Scope) (a : tree.Stmt) → AreCounted structs n.tables
      → AreKnown n.locals (statement_variables n.tables a) → AreIn n.locals made (visible s) → statement_faults (context n result loop) s a ≡ []
      → IsLowerable structs loop made (resolved_statement n s a)
  statement_lowerable n structs result loop made s (tree.declaration d) counts known seen e = items_lowerable n structs made s d.base d.items counts known seen e
  statement_lowerable n structs result loop made s (tree.block p ss) counts known seen e = statements_lowerable n structs result loop made (inside s) ss counts known seen e
  statement_lowerable n structs result loop made s (tree.empty p) counts known seen e = tt
  statement_lowerable n structs result loop made s (tree.simple x) counts known seen e = action_lowerable n structs made (visible s) x counts seen e
  statement_lowerable n structs result loop made s (tree.free p x) counts known seen e =
      expression_made n made (visible s) x seen (none_left (expression_faults n.tables (visible s) x) (no_pointer n.tables (visible s) x) e)
  statement_lowerable n structs result loop made s (tree.assert p c) counts known seen e = condition_made n made (visible s) c seen e
  statement_lowerable n structs result loop made s (tree.assume p c) counts known seen e = condition_made n made (visible s) c seen e
  statement_lowerable n structs result loop made s (tree.assume_shape p predicate x args) counts known seen e =
      let first : List Fault = variable_faults (visible s) x in
      let more : List Fault = flat_map (shape_argument_faults (visible s)) args in
      (named_made n made (visible s) x seen (none_left first more e), arguments_made n made (visible s) args seen (none_right first more e))
  statement_lowerable n structs result loop made s (tree.assert_shape p predicate a args) counts known seen e =
      let first : List Fault = shape_argument_faults (visible s) a in
      let more : List Fault = flat_map (shape_argument_faults (visible s)) args in
      (argument_made n made (visible s) a seen (none_left first more e), arguments_made n made (visible s) args seen (none_right first more e))
  statement_lowerable n structs result loop made s (tree.assert_empty p) counts known seen e = tt
  statement_lowerable n structs result loop made s (tree.if_only p c a) counts known seen e =
      let x : List Fault = condition_faults n.tables (visible s) c in
      let y : List Fault = statement_faults (context n result loop) s a in
      (condition_made n made (visible s) c seen (none_left x y e), statement_lowerable n structs result loop made s a counts known seen (none_right x y e))
  statement_lowerable n structs result loop made s (tree.if_else p c a b) counts known seen e =
      let x : List Fault = condition_faults n.tables (visible s) c in
      let y : List Fault = statement_faults (context n result loop) s a in
      let z : List Fault = statement_faults (context n result loop) (behind n.tables s a) b in
      let first = known_left n.locals (statement_variables n.tables a) (statement_variables n.tables b) known in
      let second = known_right n.locals (statement_variables n.tables a) (statement_variables n.tables b) known in (
        condition_made n made (visible s) c seen (none_left x y (none_left (x ++ y) z e)),
        statement_lowerable n structs result loop made s a counts first seen (none_right x y (none_left (x ++ y) z e)),
        statement_lowerable n structs result loop (declared (resolved_statement n s a) ++ made) (behind n.tables s a) b counts second (behind_in n made s a first seen) (none_right (x ++ y) z e),
      )
  statement_lowerable n structs result loop made s (tree.while_loop p c a) counts known seen e =
      let x : List Fault = condition_faults n.tables (visible s) c in
      let y : List Fault = statement_faults (context n result true) s a in
      (condition_made n made (visible s) c seen (none_left x y e), statement_lowerable n structs result true made s a counts known seen (none_right x y e))
  statement_lowerable n structs result loop made s (tree.do_loop p a c) counts known seen e =
      let x : List Fault = statement_faults (context n result true) s a in
      let y : List Fault = condition_faults n.tables (visible (behind n.tables s a)) c in (
        statement_lowerable n structs result true made s a counts known seen (none_left x y e),
        condition_made n (declared (resolved_statement n s a) ++ made) (visible (behind n.tables s a)) c (behind_in n made s a known seen) (none_right x y e),
      )
  statement_lowerable n structs result loop made s (tree.for_loop h a) counts known seen e =
      let inner : Scope = behind_start n.tables s h.start in
      let heading : List Fault = head_faults n.tables s h in
      let repeating : List Fault = statement_faults (context n result true) inner a in
      let x : List Fault = start_faults n.tables s h.start in
      let y : List Fault = maybe_condition_faults n.tables (visible inner) h.condition in
      let z : List Fault = maybe_simple_faults n.tables (visible inner) h.last in
      let head_none : (x ++ y ++ z) ≡ [] = none_left heading repeating e in
      let both : (x ++ y) ≡ [] = none_left (x ++ y) z head_none in
      let first = known_left n.locals (start_variables n.tables h.start) (statement_variables n.tables a) known in
      let second = known_right n.locals (start_variables n.tables h.start) (statement_variables n.tables a) known in
      let now : List ℕ = start_declared (resolved_start n s h.start) ++ made in
      let started : AreIn n.locals now (visible inner) = start_behind_in n made s h.start first seen in (
        start_lowerable n structs made s h.start counts first seen (none_left x y both),
        condition_made_perhaps n now (visible inner) h.condition started (none_right x y both),
        last_lowerable n structs now (visible inner) h.last counts started (none_right (x ++ y) z head_none),
        statement_lowerable n structs result true now inner a counts second started (none_right heading repeating e),
      )
  statement_lowerable n structs result loop made s (tree.break_loop p) counts known seen e = in_loop_is loop p e
  statement_lowerable n structs result loop made s (tree.continue_loop p) counts known seen e = in_loop_is loop p e
  statement_lowerable n structs result loop made s (tree.returns p right) counts known seen e = returned_lowerable n structs made (visible s) result p right counts seen e

  pub statements_lowerable : (n : Naming) (structs : Structs) (result : Option VariableType) (loop : Bool) (made : List ℕ) (s : Scope) (ss : tree.Stmts) → AreCounted structs n.tables
      → AreKnown n.locals (statements_variables n.tables ss) → AreIn n.locals made (visible s) → statements_faults (context n result loop) s ss ≡ []
      → AreLowerable structs loop made (resolved_statements n s ss)
  statements_lowerable n structs result loop made s tree.no_more counts known seen e = tt
  statements_lowerable n structs result loop made s (tree.then a more) counts known seen e =
      let x : List Fault = statement_faults (context n result loop) s a in
      let y : List Fault = statements_faults (context n result loop) (behind n.tables s a) more in
      let first = known_left n.locals (statement_variables n.tables a) (statements_variables n.tables more) known in
      let second = known_right n.locals (statement_variables n.tables a) (statements_variables n.tables more) known in (
        statement_lowerable n structs result loop made s a counts first seen (none_left x y e),
        statements_lowerable n structs result loop (declared (resolved_statement n s a) ++ made) (behind n.tables s a) more counts second (behind_in n made s a first seen) (none_right x y e),
      )
