-- The rules of moves, tests for equality, shapes and ends are judged by their instances.
use Rattle.std.proofs.Common.{◌≡◌, List, [], ◌∷◌, true, Option, Some, None, refl, ap, ap₂, ◌∙◌, pos}
use Rattle.std.specs.Prelude.{not, Ok}
use Rattle.mc_base.specs.declared.ids.NodeId.{NodeId}
use Rattle.mc_base.specs.declared.ids.PointId.{PointId}
use Rattle.mc_base.specs.declared.plain.Atom.TheVariants.{Eq, Ne}
use Rattle.mc_flow.specs.declared.graph.Flow.{Flow}
use Rattle.mc_flow.specs.declared.instr.Operand.{Operand}
use Rattle.mc_state.specs.Graph.Graph.{Edges}
use Rattle.mc_state.specs.Known.{Test, Tells, is_false}
use Rattle.mc_state.specs.Premises.{Judged, need}
use Rattle.mc_state.proofs.Numbered.{need_ok, need_yes, have_ok}
use Rattle.mc_state.proofs.Tests.{not_false, is_sound}
use Rattle.mc_state.specs.State.{State, with_var, with_atom, next_node}
use Rattle.mc_rules_steps.specs.Next.{Next}
use Rattle.mc_rules_steps.specs.Instructions.{skip_of, copy_of, undef_of, input_of, malloc_of, test_eq_of, assume_of, assert_of, empty_of, is_end}
use Rattle.mc_rules_steps.specs.Judges.{skipping, copying, forgetting, taking, allocating, testing_equal, with_first, operand_nodes, with_shape, assuming, side_branch, asserting, ending, has_none, emptying}
use Rattle.mc_rules_steps.specs.Operands.{code_at, operand_node, with_operand, with_operands, AreNodesOf}
use Rattle.mc_rules_steps.specs.Steps.{moved_to, S1Is, S2Is, S3Is, S4Is, S10Is, S13Is, S15Is, S16Is, S17Is, S18Is}
use Rattle.mc_rules_steps.proofs.Forms.{ok_is, ok_to, skip_is, copy_is, undef_is, input_is, malloc_is, test_eq_is, assume_is, assert_is, empty_is, end_is}

-- ---- the nodes of many operands

first_there : (o : Option NodeId) (ns : Option (List NodeId)) (all : List NodeId) → with_first o ns ≡ Some all → (n : NodeId) × (rest : List NodeId) × (o ≡ Some n) × (ns ≡ Some rest) × (all ≡ n ∷ rest)
first_there None ns all e = absurd (cc e)
first_there (Some n) None all e = absurd (cc e)
first_there (Some n) (Some rest) all e = (n, rest, refl, refl, cc e)

pub nodes_from : (os : List Operand) (s : State) (ns : List NodeId) → operand_nodes s os ≡ Some ns → AreNodesOf s os ns
nodes_from [] s [] e = tt
nodes_from [] s (n ∷ ns) e = absurd (cc e)
nodes_from (o ∷ os) s [] e = let parts = first_there (operand_node s o) (operand_nodes (with_operand s o) os) [] e in absurd (let clash : [] ≡ parts.0 ∷ parts.1 = parts.4 in cc)
nodes_from (o ∷ os) s (n ∷ ns) e =
    let parts = first_there (operand_node s o) (operand_nodes (with_operand s o) os) (n ∷ ns) e in
    let list : n ∷ ns ≡ parts.0 ∷ parts.1 = parts.4 in
    let node : parts.0 ≡ n = cc list in
    let rest : parts.1 ≡ ns = cc list in
    (parts.2 ∙ ap (λ n. Some n) node, nodes_from os (with_operand s o) ns (parts.3 ∙ ap (λ l. Some l) rest))

pub nodes_to : (os : List Operand) (s : State) (ns : List NodeId) → AreNodesOf s os ns → operand_nodes s os ≡ Some ns
nodes_to [] s [] h = refl
nodes_to [] s (n ∷ ns) h = absurd h
nodes_to (o ∷ os) s [] h = absurd h
nodes_to (o ∷ os) s (n ∷ ns) h = ap₂ with_first h.0 (nodes_to os (with_operand s o) ns h.1)

no_edge : (es : Edges) → has_none es ≡ true → es ≡ []
no_edge [] e = refl
no_edge (x ∷ es) e = absurd (cc e)

module _ (know : Test) (flow : Flow) (p : PointId) (s : State) (tells : Tells know s) (next : List Next) where
  pub skip_from : skipping know (code_at flow p) s ≡ Ok next → S1Is flow p s next
  skip_from e =
      let one = have_ok 1 (skip_of (code_at flow p)) _ next e in
      let two = need_ok 2 _ _ next one.2 in
      record { q = one.0; at = skip_is (code_at flow p) one.0 one.1; consistent = not_false know s tells two.0; gives = ok_is _ next two.1 }

  pub skip_to : S1Is flow p s next → skipping know (code_at flow p) s ≡ Ok next
  skip_to i =
      let here : skip_of (code_at flow p) ≡ Some i.q = ap skip_of i.at in
      let sound : not (is_false know) ≡ true = is_sound know s tells i.consistent in
      rw here (rw sound (ok_to _ next i.gives))

  pub copy_from : copying know (code_at flow p) s ≡ Ok next → S2Is flow p s next
  copy_from e =
      let one = have_ok 1 (copy_of (code_at flow p)) _ next e in
      let i = one.0 in
      let two = need_ok 2 _ _ next one.2 in
      let three = have_ok 3 (operand_node s i.from) _ next two.1 in
      record { x = i.x; from = i.from; q = i.q; at = copy_is (code_at flow p) i one.1; consistent = not_false know s tells two.0; n = three.0; known = three.1; gives = ok_is _ next three.2 }

  pub copy_to : S2Is flow p s next → copying know (code_at flow p) s ≡ Ok next
  copy_to i =
      let here : copy_of (code_at flow p) ≡ Some (record { x = i.x; from = i.from; q = i.q }) = ap copy_of i.at in
      let sound : not (is_false know) ≡ true = is_sound know s tells i.consistent in
      let known : operand_node s i.from ≡ Some i.n = i.known in
      rw here (rw sound (rw known (ok_to _ next i.gives)))

  pub undef_from : forgetting know (code_at flow p) s ≡ Ok next → S3Is flow p s next
  undef_from e =
      let one = have_ok 1 (undef_of (code_at flow p)) _ next e in
      let i = one.0 in
      let two = need_ok 2 _ _ next one.2 in
      record { xs = i.0; q = i.1; at = undef_is (code_at flow p) i one.1; consistent = not_false know s tells two.0; gives = ok_is _ next two.1 }

  pub undef_to : S3Is flow p s next → forgetting know (code_at flow p) s ≡ Ok next
  undef_to i =
      let here : undef_of (code_at flow p) ≡ Some (i.xs, i.q) = ap undef_of i.at in
      let sound : not (is_false know) ≡ true = is_sound know s tells i.consistent in
      rw here (rw sound (ok_to _ next i.gives))

  pub input_from : taking know (code_at flow p) s ≡ Ok next → S4Is flow p s next
  input_from e =
      let one = have_ok 1 (input_of (code_at flow p)) _ next e in
      let i = one.0 in
      let two = need_ok 2 _ _ next one.2 in
      record { x = i.0; q = i.1; at = input_is (code_at flow p) i one.1; consistent = not_false know s tells two.0; gives = ok_is _ next two.1 }

  pub input_to : S4Is flow p s next → taking know (code_at flow p) s ≡ Ok next
  input_to i =
      let here : input_of (code_at flow p) ≡ Some (i.x, i.q) = ap input_of i.at in
      let sound : not (is_false know) ≡ true = is_sound know s tells i.consistent in
      rw here (rw sound (ok_to _ next i.gives))

  pub malloc_from : allocating know flow (code_at flow p) s ≡ Ok next → S10Is flow p s next
  malloc_from e =
      let one = have_ok 1 (malloc_of (code_at flow p)) _ next e in
      let i = one.0 in
      let two = need_ok 2 _ _ next one.2 in
      record { x = i.x; shape = i.shape; q = i.q; at = malloc_is (code_at flow p) i one.1; consistent = not_false know s tells two.0; gives = ok_is _ next two.1 }

  pub malloc_to : S10Is flow p s next → allocating know flow (code_at flow p) s ≡ Ok next
  malloc_to i =
      let here : malloc_of (code_at flow p) ≡ Some (record { x = i.x; shape = i.shape; q = i.q }) = ap malloc_of i.at in
      let sound : not (is_false know) ≡ true = is_sound know s tells i.consistent in
      rw here (rw sound (ok_to _ next i.gives))

  pub equal_from : testing_equal know (code_at flow p) s ≡ Ok next → S13Is flow p s next
  equal_from e =
      let one = have_ok 1 (test_eq_of (code_at flow p)) _ next e in
      let i = one.0 in
      let two = need_ok 2 _ _ next one.2 in
      let three = have_ok 3 (operand_node s i.o) _ next two.1 in
      let four = have_ok 4 (operand_node (with_operand s i.o) i.o') _ next three.2 in
      record {
        o = i.o;
        o' = i.o';
        t = i.t;
        f = i.f;
        at = test_eq_is (code_at flow p) i one.1;
        consistent = not_false know s tells two.0;
        a = three.0;
        left_known = three.1;
        b = four.0;
        right_known = four.1;
        before = with_operand (with_operand s i.o) i.o';
        operands = refl;
        gives = ok_is _ next four.2;
      }

  pub equal_to : S13Is flow p s next → testing_equal know (code_at flow p) s ≡ Ok next
  equal_to i =
      let here : test_eq_of (code_at flow p) ≡ Some (record { o = i.o; o' = i.o'; t = i.t; f = i.f }) = ap test_eq_of i.at in
      let sound : not (is_false know) ≡ true = is_sound know s tells i.consistent in
      let left : operand_node s i.o ≡ Some i.a = i.left_known in
      let right : operand_node (with_operand s i.o) i.o' ≡ Some i.b = i.right_known in
      let made = λ (t : State). moved_to i.t (with_atom t (Eq i.a i.b (pos 0))) ∷ moved_to i.f (with_atom t (Ne i.a i.b (pos 0))) ∷ [] in
      rw here (rw sound (rw left (rw right (ok_to _ next (i.gives ∙ ap made i.operands)))))

  pub assume_from : assuming know (code_at flow p) s ≡ Ok next → S15Is flow p s next
  assume_from e =
      let one = have_ok 1 (assume_of (code_at flow p)) _ next e in
      let i = one.0 in
      let two = need_ok 2 _ _ next one.2 in
      let three = have_ok 3 (operand_nodes s i.os) _ next two.1 in
      record {
        pred = i.pred;
        x = i.x;
        os = i.os;
        q = i.q;
        at = assume_is (code_at flow p) i one.1;
        consistent = not_false know s tells two.0;
        args = three.0;
        known = nodes_from i.os s three.0 three.1;
        before = with_operands s i.os;
        operands = refl;
        gives = ok_is _ next three.2;
      }

  pub assume_to : S15Is flow p s next → assuming know (code_at flow p) s ≡ Ok next
  assume_to i =
      let here : assume_of (code_at flow p) ≡ Some (record { pred = i.pred; x = i.x; os = i.os; q = i.q }) = ap assume_of i.at in
      let sound : not (is_false know) ≡ true = is_sound know s tells i.consistent in
      let known : operand_nodes s i.os ≡ Some i.args = nodes_to i.os s i.args i.known in
      let made = λ (t : State). moved_to i.q (with_var (with_shape i.pred i.args t) i.x (Some (next_node t))) ∷ [] in
      rw here (rw sound (rw known (ok_to _ next (i.gives ∙ ap made i.operands))))

  pub assert_from : asserting know p (code_at flow p) s ≡ Ok next → S16Is flow p s next
  assert_from e =
      let one = have_ok 1 (assert_of (code_at flow p)) _ next e in
      let i = one.0 in
      let two = need_ok 2 _ _ next one.2 in
      let three = have_ok 3 (operand_node s i.o) _ next two.1 in
      let four = have_ok 4 (operand_nodes (with_operand s i.o) i.os) _ next three.2 in
      record {
        pred = i.pred;
        o = i.o;
        os = i.os;
        q = i.q;
        at = assert_is (code_at flow p) i one.1;
        consistent = not_false know s tells two.0;
        n = three.0;
        known = three.1;
        args = four.0;
        args_known = nodes_from i.os (with_operand s i.o) four.0 four.1;
        goal = _;
        goal_is = refl;
        side = side_branch p i.pred three.0 four.0 (with_operands (with_operand s i.o) i.os);
        side_is = refl;
        gives = ok_is _ next four.2;
      }

  pub assert_to : S16Is flow p s next → asserting know p (code_at flow p) s ≡ Ok next
  assert_to i =
      let here : assert_of (code_at flow p) ≡ Some (record { pred = i.pred; o = i.o; os = i.os; q = i.q }) = ap assert_of i.at in
      let sound : not (is_false know) ≡ true = is_sound know s tells i.consistent in
      let node : operand_node s i.o ≡ Some i.n = i.known in
      let args : operand_nodes (with_operand s i.o) i.os ≡ Some i.args = nodes_to i.os (with_operand s i.o) i.args i.args_known in
      let side : i.side ≡ side_branch p i.pred i.n i.args (with_operands (with_operand s i.o) i.os) =
      i.side_is ∙ ap (λ goal. record { point = p; goal = Some goal; state = with_operands (with_operand s i.o) i.os }) i.goal_is in
      rw here (rw sound (rw node (rw args (ok_to _ next (i.gives ∙ ap (λ (n : Next). n ∷ moved_to i.q s ∷ []) side)))))

  pub end_from : ending know (code_at flow p) s ≡ Ok next → S17Is flow p s next
  end_from e =
      let one = need_ok 1 (is_end (code_at flow p)) _ next e in
      let two = need_ok 2 _ _ next one.1 in
      record { at = end_is (code_at flow p) one.0; consistent = not_false know s tells two.0; gives = ok_is _ next two.1 }

  pub end_to : S17Is flow p s next → ending know (code_at flow p) s ≡ Ok next
  end_to i =
      let here : is_end (code_at flow p) ≡ true = ap is_end i.at in
      let sound : not (is_false know) ≡ true = is_sound know s tells i.consistent in
      rw here (rw sound (ok_to _ next i.gives))

  pub empty_from : emptying know (code_at flow p) s ≡ Ok next → S18Is flow p s next
  empty_from e =
      let one = have_ok 1 (empty_of (code_at flow p)) _ next e in
      let two = need_ok 2 _ _ next one.2 in
      let three = need_ok 3 s.whole _ next two.1 in
      let four = need_ok 4 (has_none s.graph.edges) _ next three.1 in
      record {
        q = one.0;
        at = empty_is (code_at flow p) one.0 one.1;
        consistent = not_false know s tells two.0;
        whole = three.0;
        none = no_edge s.graph.edges four.0;
        gives = ok_is _ next four.1;
      }

  pub empty_to : S18Is flow p s next → emptying know (code_at flow p) s ≡ Ok next
  empty_to i =
      let here : empty_of (code_at flow p) ≡ Some i.q = ap empty_of i.at in
      let sound : not (is_false know) ≡ true = is_sound know s tells i.consistent in
      let none : has_none s.graph.edges ≡ true = ap has_none i.none in
      let given : Judged (List Next) = Ok (moved_to i.q s ∷ []) in
      rw here (rw sound (need_yes 3 s.whole (need 4 (has_none s.graph.edges) given) i.whole ∙ need_yes 4 (has_none s.graph.edges) given none ∙ ok_to _ next i.gives))
