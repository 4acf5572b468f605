-- What is visible is made, statement by statement.
use Rattle.std.proofs.Common.{◌≡◌, ◌<◌, ⊎_elim, ℕ, List, [], ◌∷◌, ◌++◌, map, length, refl, sym, ap, ap₂, subst, ◌∙◌, Contains}
use Rattle.std.proofs.lemmas.List.Elements.{Contains-append_left, Contains-append_right}
use Rattle.mc_c_syntax.specs.declared.ast.trees.Base.{Base}
use Rattle.mc_c_syntax.specs.Ast.Trees as tree
use Rattle.mc_c_types.specs.Tables.{Variable, variable_of as declared_variable}
use Rattle.mc_c_types.specs.Scopes.{Scope, visible, inside, declare, behind, behind_start, behind_declaration}
use Rattle.mc_lower_spec.specs.Length.Lengths.{items_declared, start_declared, declared, all_declared}
use Rattle.mc_semantics.specs.Resolved.Resolving.{Naming, start_variables, statement_variables, statements_variables, number_in, numbers_in, resolved_items, resolved_start, resolved_statement, resolved_statements}
use Rattle.mc_lower_laws.proofs.ScopedLemmas.Lists.{contains_head, contains_tail, contains_cases, contains_none, number_left, number_right, number_cases, numbers_append}
use Rattle.mc_lower_laws.proofs.ScopedLemmas.Loose.{loose, behind_is, head_is, start_among, among}
use Rattle.mc_lower_laws.proofs.ScopedLemmas.Faultless.{AreIn}
use Rattle.mc_lower_laws.proofs.ScopedLemmas.Scoping.{owned_in}

-- ---- numbers of variables
pub wider : (locals : List Variable) (more made : List ℕ) (vs : List Variable) → AreIn locals made vs → AreIn locals (more ++ made) vs
wider locals more made vs are x there = let one = are x there in (one.0, Contains-append_right more made x one.1)

both_in : (locals : List Variable) (made : List ℕ) (xs ys : List Variable) → AreIn locals made xs → AreIn locals made ys → AreIn locals made (xs ++ ys)
both_in locals made xs ys first second x there = ⊎_elim (λ l. first x l) (λ r. second x r) (number_cases locals xs ys x there)

left_in : (locals : List Variable) (made : List ℕ) (xs ys : List Variable) → AreIn locals made (xs ++ ys) → AreIn locals made xs
left_in locals made xs ys are x there = are x (number_left locals xs ys x there)

right_in : (locals : List Variable) (made : List ℕ) (xs ys : List Variable) → AreIn locals made (xs ++ ys) → AreIn locals made ys
right_in locals made xs ys are x there = are x (number_right locals xs ys x there)

-- the variables that are declared are the function's
abbrev pub AreKnown : List Variable → List Variable → Type 0
AreKnown locals vs = (x : ℕ) → Contains (numbers_in locals vs) x → x < length locals

pub known_left : (locals xs ys : List Variable) → AreKnown locals (xs ++ ys) → AreKnown locals xs
known_left locals xs ys known x there = known x (number_left locals xs ys x there)

pub known_right : (locals xs ys : List Variable) → AreKnown locals (xs ++ ys) → AreKnown locals ys
known_right locals xs ys known x there = known x (number_right locals xs ys x there)

-- ---- what is declared
items_are : (n : Naming) (s : Scope) (base : Base) (items : List tree.InitialTree)
    → items_declared (resolved_items n s base items) ≡ numbers_in n.locals (map (λ item. declared_variable n.tables base item.declarator) items)
items_are n s base [] = refl
items_are n s base (item ∷ items) =
    let v : Variable = declared_variable n.tables base item.declarator in
    ap (λ xs. number_in n.locals v.place ∷ xs) (items_are n (declare s v) base items)

pub start_is : (n : Naming) (s : Scope) (start : tree.Start) → start_declared (resolved_start n s start) ≡ numbers_in n.locals (start_variables n.tables start)
start_is n s tree.nothing = refl
start_is n s (tree.declares d) = items_are n (inside s) d.base d.items
start_is n s (tree.performs x) = refl

joined : (locals xs ys : List Variable) (ns ms : List ℕ) → ns ≡ numbers_in locals xs → ms ≡ numbers_in locals ys → ns ++ ms ≡ numbers_in locals (xs ++ ys)
joined locals xs ys ns ms first second = ap₂ (λ a b. a ++ b) first second ∙ sym (numbers_append locals xs ys)

mutual
  pub declared_is : (n : Naming) (s : Scope) (a : tree.Stmt) → declared (resolved_statement n s a) ≡ numbers_in n.locals (statement_variables n.tables a)
  declared_is n s (tree.declaration d) = items_are n s d.base d.items
  declared_is n s (tree.block p ss) = row_is n (inside s) ss
  declared_is n s (tree.empty p) = refl
  declared_is n s (tree.simple x) = refl
  declared_is n s (tree.free p e) = refl
  declared_is n s (tree.assert p c) = refl
  declared_is n s (tree.assume p c) = refl
  declared_is n s (tree.assume_shape p predicate x args) = refl
  declared_is n s (tree.assert_shape p predicate a args) = refl
  declared_is n s (tree.assert_empty p) = refl
  declared_is n s (tree.if_only p c a) = declared_is n s a
  declared_is n s (tree.if_else p c a b) =
      joined n.locals (statement_variables n.tables a) (statement_variables n.tables b) (declared (resolved_statement n s a)) (declared (resolved_statement n (behind n.tables s a) b))
      (declared_is n s a) (declared_is n (behind n.tables s a) b)
  declared_is n s (tree.while_loop p c a) = declared_is n s a
  declared_is n s (tree.do_loop p a c) = declared_is n s a
  declared_is n s (tree.for_loop h a) =
      joined n.locals (start_variables n.tables h.start) (statement_variables n.tables a) (start_declared (resolved_start n s h.start))
      (declared (resolved_statement n (behind_start n.tables s h.start) a))
      (start_is n s h.start) (declared_is n (behind_start n.tables s h.start) a)
  declared_is n s (tree.break_loop p) = refl
  declared_is n s (tree.continue_loop p) = refl
  declared_is n s (tree.returns p r) = refl

  pub row_is : (n : Naming) (s : Scope) (ss : tree.Stmts) → all_declared (resolved_statements n s ss) ≡ numbers_in n.locals (statements_variables n.tables ss)
  row_is n s tree.no_more = refl
  row_is n s (tree.then a more) =
      joined n.locals (statement_variables n.tables a) (statements_variables n.tables more) (declared (resolved_statement n s a))
      (all_declared (resolved_statements n (behind n.tables s a) more))
      (declared_is n s a) (row_is n (behind n.tables s a) more)

-- ---- scopes after
-- after a declarator
pub declared_in : (n : Naming) (made : List ℕ) (s : Scope) (v : Variable) → number_in n.locals v.place < length n.locals → AreIn n.locals made (visible s)
    → AreIn n.locals (number_in n.locals v.place ∷ made) (visible (declare s v))
declared_in n made s v known seen =
    let k : ℕ = number_in n.locals v.place in
    owned_in n.locals (k ∷ made) s (v ∷ [])
    (λ x there. let one = seen x there in (one.0, contains_tail k made x one.1))
    (λ x there. ⊎_elim
    (λ e. let P : ℕ → Type 0 = λ z. (z < length n.locals) × Contains (k ∷ made) z in subst P e (known, contains_head k made))
    (λ none. absurd (contains_none x none))
    (contains_cases k [] x there))

-- after a statement
pub behind_in : (n : Naming) (made : List ℕ) (s : Scope) (a : tree.Stmt) → AreKnown n.locals (statement_variables n.tables a) → AreIn n.locals made (visible s)
    → AreIn n.locals (declared (resolved_statement n s a) ++ made) (visible (behind n.tables s a))
behind_in n made s a known seen =
    let ks : List ℕ = numbers_in n.locals (statement_variables n.tables a) in
    let P : Scope → Type 0 = λ r. AreIn n.locals (ks ++ made) (visible r) in
    let Q : List ℕ → Type 0 = λ xs. AreIn n.locals (xs ++ made) (visible (behind n.tables s a)) in
    subst Q (sym (declared_is n s a))
    (subst P (sym (behind_is n.tables s a))
    (owned_in n.locals (ks ++ made) s (loose n.tables a) (wider n.locals ks made (visible s) seen)
    (λ x there. let own = among n.locals n.tables a x there in (known x own, Contains-append_left ks made x own))))

-- after the first part of a `for`
pub start_behind_in : (n : Naming) (made : List ℕ) (s : Scope) (start : tree.Start) → AreKnown n.locals (start_variables n.tables start) → AreIn n.locals made (visible s)
    → AreIn n.locals (start_declared (resolved_start n s start) ++ made) (visible (behind_start n.tables s start))
start_behind_in n made s tree.nothing known seen = seen
start_behind_in n made s (tree.declares d) known seen =
    let ks : List ℕ = numbers_in n.locals (start_variables n.tables (tree.declares d)) in
    let heads : List Variable = (behind_declaration n.tables (inside s) d).own in
    let P : List Variable → Type 0 = λ vs. AreIn n.locals (ks ++ made) vs in
    let Q : List ℕ → Type 0 = λ xs. AreIn n.locals (xs ++ made) (visible (behind_start n.tables s (tree.declares d))) in
    let new : AreIn n.locals (ks ++ made) heads = subst P (sym (head_is n.tables s (tree.declares d)))
    (λ x there. let own = start_among n.locals n.tables (tree.declares d) x there in (known x own, Contains-append_left ks made x own)) in
    let wide : AreIn n.locals (ks ++ made) (visible s) = wider n.locals ks made (visible s) seen in
    let inner : AreIn n.locals (ks ++ made) (s.heads ++ s.own) = left_in n.locals (ks ++ made) (s.heads ++ s.own) s.outer wide in
    subst Q (sym (start_is n s (tree.declares d)))
    (both_in n.locals (ks ++ made) (heads ++ s.heads ++ s.own) s.outer
    (both_in n.locals (ks ++ made) (heads ++ s.heads) s.own
    (both_in n.locals (ks ++ made) heads s.heads new (left_in n.locals (ks ++ made) s.heads s.own inner))
    (right_in n.locals (ks ++ made) s.heads s.own inner))
    (right_in n.locals (ks ++ made) (s.heads ++ s.own) s.outer wide))
start_behind_in n made s (tree.performs x) known seen = seen
