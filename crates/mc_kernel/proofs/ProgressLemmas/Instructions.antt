-- The line of an instruction that lacks nothing is an instance, or the one that unfolds what it accesses.
use Rattle.std.proofs.Common.{◌≡◌, inl, inr, ℕ, ℤ, List, [], ◌∷◌, map, Bool, true, false, not, Option, Some, None, pos, slice_get, refl, sym, ap, ◌∙◌, eqb-true}
use Rattle.std.specs.Prelude.{◌==◌, cond, ◌&&◌, option_and_then, option_map, if◌then◌else◌}
use Rattle.std.specs.List.{find, list_all, list_any}
use Rattle.mc_base.specs.declared.ids.EdgeId.{EdgeId}
use Rattle.mc_base.specs.declared.ids.NodeId.{NodeId}
use Rattle.mc_base.specs.declared.ids.PointId.{PointId}
use Rattle.mc_base.specs.declared.ids.StructId.{StructId}
use Rattle.mc_base.specs.declared.ids.VarId.{VarId}
use Rattle.mc_base.specs.declared.plain.Kind.{Kind}
use Rattle.mc_base.specs.declared.plain.Kind.TheVariants.{Int, Ptr}
use Rattle.mc_base.specs.declared.plain.Atom.TheVariants.{Eq}
use Rattle.mc_base.specs.Nodes.{null}
use Rattle.mc_state.specs.declared.line.InstrRule.{InstrRule}
use Rattle.mc_state.specs.declared.line.InstrRule.TheVariants.{S1, S2, S3, S4, S5, S6, S7, S8, S9, S10, S11, S12, S13, S14, S15, S16, S17, S18}
use Rattle.mc_lines.specs.declared.cert.line.Line.{Line}
use Rattle.mc_lines.specs.declared.cert.line.Line.TheVariants as line
use Rattle.mc_flow.specs.declared.defs.rules.Def.{Def}
use Rattle.mc_flow.specs.declared.graph.Flow.{Flow}
use Rattle.mc_flow.specs.declared.graph.Point.{Point}
use Rattle.mc_flow.specs.declared.instr.Instr.{Instr}
use Rattle.mc_flow.specs.declared.instr.Instr.TheVariants as instr
use Rattle.mc_flow.specs.declared.instr.Operand.{Operand}
use Rattle.mc_flow.specs.declared.instr.Operand.TheVariants.{Var, Const}
use Rattle.mc_flow.specs.Valid.{FitsKinds, IsField, IsOperand}
use Rattle.mc_state.specs.declared.graph.edge.Edge.{Edge}
use Rattle.mc_state.specs.declared.graph.edge.Edge.TheVariants.{Block, Ind, Seg}
use Rattle.mc_state.specs.Graph.Edges.{fields_of, start_of}
use Rattle.mc_state.specs.Graph.Graph.{Edges, block_starts, edge_with}
use Rattle.mc_state.specs.Known.{Test, Tells, equal, is_false}
use Rattle.mc_pure.specs.Derived.{itself}
use Rattle.mc_pure.specs.Laws.{BlockAtNull}
use Rattle.mc_state.specs.Facts.{IsFalse}
use Rattle.mc_state.specs.State.{State, pure_of, var_node}
use Rattle.mc_rules_steps.specs.declared.gap.Gap.{Gap}
use Rattle.mc_rules_steps.specs.declared.gap.Gap.TheVariants.{Uninit, NoBlock, Reached, UninitField, NotEmpty}
use Rattle.mc_rules_steps.specs.Instructions.{skip_of, copy_of, undef_of, input_of, add_of, sub_of, mul_of, load_of, store_of, malloc_of, free_of, test_eq_of, test_le_of, assume_of, assert_of, empty_of, is_end}
use Rattle.mc_rules_steps.specs.Judges.{stepping, is_shaped_at, is_block_at, flat_node, known_field, has_none, operand_nodes}
use Rattle.mc_rules_steps.specs.JudgedLaws.{AreGiven, FieldsAreThere, StepsAreJudged}
use Rattle.mc_rules_steps.specs.Steps.{StepIs}
use Rattle.mc_rules_steps.specs.Next.{Next}
use Rattle.mc_rules_steps.specs.Operands.{HasBlock, code_at, operand_node, with_operand}
use Rattle.mc_rules_steps.specs.Unmet.{IsUnmet, taken}
use Rattle.mc_gaps.specs.Unmet.Gaps.{first_unknown, may_unfold, lacks, gap_if, block_gap, is_unknown, lacks_field, or_else, field_gap, free_gap, lacking, unknown_or, gap_of, gap_at}
use Rattle.mc_gaps.specs.Unmet.Laws.{GapsAreTold}
use Rattle.mc_kernel.specs.Branches.{Path, Setting, MayStep, path_of}
use Rattle.mc_kernel.specs.Instances.{accessed, accessed_by, accessed_outside}
use Rattle.mc_kernel.specs.Oracle.Judges.{JudgesAreThere}
use Rattle.std.specs.Option.{option_or}
use Rattle.mc_rules_steps.specs.Sums.{Ranges}
use Rattle.mc_kernel.specs.Progress.Asked.{CodeLinesAreRight, IsRight, at_block, at_code, at_node, at_start, false_or_null, freed_node, freeing, from_start, starts_at}
use Rattle.mc_kernel.specs.Progress.Asked.{instance as code_line}
use Rattle.mc_kernel.proofs.ProgressLemmas.Unfolding.{EdgeLaws, node_right, right_for}
use Rattle.mc_kernel.specs.Reading.Documents.{IsMade}
use Rattle.mc_kernel.specs.Progress.Progress.{IsInside}
use Rattle.mc_kernel.proofs.ProgressLemmas.Judged.{Found, Gives, NoneFound, and_two, and_split, either, found_or, have_gives, item_at, need_gives}
use Rattle.mc_kernel.proofs.ProgressLemmas.Operands.{all_known, first_known, still_known, two_known}

-- what lower crates prove
pub record Laws : Type 0 where
  pub at_edges : EdgeLaws
  pub judges : JudgesAreThere
  pub at_null : BlockAtNull
  pub fields : FieldsAreThere
  pub steps : StepsAreJudged
  pub told : GapsAreTold

-- a gap where the test holds
gap_given : (test : Bool) (gap : Gap) → test ≡ true → gap_if test gap ≡ Some gap
gap_given test gap e = ap (λ (z : Bool). gap_if z gap) e

module _ (laws : Laws) (know : Test) (range : Ranges) (flow : Flow) (defs : List Def) (g : Setting) (b : Path) (made : IsMade flow defs b) (may : MayStep g b)
    (given : AreGiven know range flow defs b.point b.state) (no_first : false_or_null know b.state.graph.edges ≡ None)
    (met : (gap : Gap) → IsUnmet flow defs b.point b.state gap → ⊥) where
  abbrev s : State
  s = b.state

  abbrev es : Edges
  es = b.state.graph.edges

  abbrev Right : Option Line → Type 0
  Right asked = IsRight flow defs g b asked

  tells : Tells know s
  tells = given.tells

  sound : is_false know ≡ false
  sound = at (is_false know) refl
    where
      at : (z : Bool) → is_false know ≡ z → is_false know ≡ false
      at false e = e
      at true e =
          let two : Some line.L12 ≡ None = sym (ap (λ (z : Bool). if z then Some line.L12 else at_start know null es) e) ∙ no_first in
          absurd (cc two)

  consistent : not (is_false know) ≡ true
  consistent = ap not sound

  -- ---- rules

  module _ (asked : Option Line) where
    -- a rule of instructions
    by_instance : (rule : InstrRule) (steps : List Next) → asked ≡ Some (line.Step rule) → StepIs rule flow b.point b.state steps → Right asked
    by_instance rule steps is i = record { line = line.Step rule; is = is; is_such = refl; next = map path_of steps; instance = (may, (steps, i, refl)) }

    by_rule : (rule : InstrRule) → asked ≡ Some (line.Step rule) → Gives (stepping know range flow rule b.point b.state) → Right asked
    by_rule rule is gives = by_instance rule gives.0 is ((laws.steps know range flow defs rule b.point b.state given gives.0).0 gives.1)

  -- ---- the instruction at the point

  module _ (code : Instr) (at : code_at flow b.point ≡ Some code) where
    abbrev Asked : Option Line
    Asked = at_code know defs s code

    -- it lacks nothing
    lacks_none : (gap : Gap) → gap_of know defs s code ≡ Some gap → ⊥
    lacks_none gap e = met gap ((laws.told know flow defs b.point s gap given.valid made.bounded tells).0 told).0
      where
        told : gap_at know defs flow b.point s ≡ Some gap
        told =
            ap (λ (z : Bool). if z then None else option_and_then (gap_of know defs s) (code_at flow b.point)) sound
            ∙ ap (option_and_then (gap_of know defs s)) at ∙ e

    known : first_unknown s (taken code) ≡ None
    known = by (first_unknown s (taken code)) refl
      where
        by : (x : Option VarId) → first_unknown s (taken code) ≡ x → first_unknown s (taken code) ≡ None
        by None e = e
        by (Some x) e = absurd (lacks_none (Uninit x) (ap (λ (z : Option VarId). unknown_or z (lacking know defs code s)) e))

    no_gap : (gap : Gap) → lacking know defs code s ≡ Some gap → ⊥
    no_gap gap e = lacks_none gap (ap (λ (z : Option VarId). unknown_or z (lacking know defs code s)) known ∙ e)

    -- its own line
    own_line : (l : Line) → code_line know s code ≡ Some l → Asked ≡ Some l
    own_line l e = ap (λ (z : Option Line). option_or z (option_and_then (at_node know defs es) (accessed_by s (Some code)))) e

    -- or the one that unfolds what it accesses
    unfolded : (n : NodeId) → accessed_by s (Some code) ≡ Some n → code_line know s code ≡ None → (list_any (may_unfold know defs n) es ≡ false → ⊥) → Right Asked
    unfolded n accesses none some =
        let own : accessed flow b ≡ Some n = ap (λ (z : _). accessed_outside z (accessed_by s (code_at flow b.point))) may.plain ∙ ap (accessed_by s) at ∙ accesses in
        let same : Asked ≡ at_node know defs es n =
        ap (λ (z : Option Line). option_or z (option_and_then (at_node know defs es) (accessed_by s (Some code)))) none ∙ ap (option_and_then (at_node know defs es)) accesses in
        elim (node_right laws.at_edges know flow defs g b made may.open_still tells sound n own) [
          | inl r ↦ right_for flow defs g b Asked (at_node know defs es n) same r
          | inr never ↦ absurd (some never)
        ]

    -- where no edge passes a test, and none may be unfolded
    all_lack : (test : EdgeId × Edge → Bool) (n : NodeId) → list_any test es ≡ false → list_any (may_unfold know defs n) es ≡ false → lacks test know defs n es ≡ true
    all_lack test n none never = and_two (not (list_any test es)) (not (list_any (may_unfold know defs n) es)) (ap not none) (ap not never)

  -- ---- blocks

  -- where the block is found
  module _ (n : NodeId) (shape : StructId) (f : Found (is_shaped_at know n shape) es) where
    there : edge_with es f.item.0 ≡ Some f.item.1
    there = laws.at_edges.found s (is_shaped_at know n shape) f.item made.bounded f.found

    -- the edge is a block of the struct
    block_of : (e : Edge) → is_shaped_at know n shape (f.item.0, e) ≡ true → edge_with es f.item.0 ≡ Some e
        → (block : HasBlock s n shape) × (fields_of e ≡ block.fields)
    block_of (Block at own fields) passes is =
        let both = and_split (shape.0 == own.0) (equal know n at) passes in
        let same : own ≡ shape = ap (λ (z : ℕ). let x : StructId = record { 0 = z } in x) (sym (eqb-true shape.0 own.0 both.0)) in
        let block : HasBlock s n shape = record {
          id = f.item.0;
          at = at;
          fields = fields;
          there = is ∙ ap (λ (z : StructId). Some (Block at z fields)) same;
          equal = (tells (Eq n at (pos 0))).0 both.1;
        } in
        (block, refl)
    block_of (Ind at pred args) passes is = absurd (cc passes)
    block_of (Seg at args pred stop ends) passes is = absurd (cc passes)

    -- it has each field of the struct
    field_there : (field : ℕ) (kind : Kind) → IsField flow.structs shape field kind → slice_get (fields_of f.item.1) field ≡ None → ⊥
    field_there field kind is none =
        let block = block_of f.item.1 f.passes there in
        let item = item_at block.0.fields field (laws.fields flow s n shape field kind block.0 made.fits_program is) in
        let two : None ≡ Some item.0 = sym none ∙ ap (λ (z : List (Option NodeId)). slice_get z field) block.1 ∙ item.1 in
        cc two

  -- a Load
  module _ (x y : VarId) (shape : StructId) (field : ℕ) (q : PointId) (at : code_at flow b.point ≡ Some (instr.Load x y shape field q)) (n : NodeId) (is : var_node s y ≡ Some n) where
    abbrev load : Instr
    load = instr.Load x y shape field q

    load_lacks : (gap : Gap) → field_gap know defs shape field es n ≡ Some gap → ⊥
    load_lacks gap e = no_gap load at gap (ap (option_and_then (field_gap know defs shape field es)) is ∙ e)

    load_nothing : NoneFound (is_shaped_at know n shape) es → Right (at_code know defs s load)
    load_nothing none =
        unfolded load at n is
        (ap (option_and_then (at_block know shape (line.Step S8) es)) is ∙ ap (λ (z : Bool). if z then Some (line.Step S8) else None) none.none)
        (λ never.
        load_lacks (NoBlock n)
        (ap (λ (z : Option Gap). or_else z (gap_if (list_any (lacks_field know n shape field) es) (UninitField n field)))
        (gap_given _ (NoBlock n) (all_lack load at (is_shaped_at know n shape) n none.none never))))

    module _ (f : Found (is_shaped_at know n shape) es) where
      load_field : (m : NodeId) → known_field f.item.1 field ≡ Some m → Right (at_code know defs s load)
      load_field m e =
          by_rule (at_code know defs s load) S8
          (own_line load at (line.Step S8)
          (ap (option_and_then (at_block know shape (line.Step S8) es)) is ∙ ap (λ (z : Bool). if z then Some (line.Step S8) else None) (f.listed (is_shaped_at know n shape) f.passes)))
          (have_gives 1 (load_of (code_at flow b.point)) _ (record { x = x; y = y; shape = shape; f = field; q = q }) (ap load_of at)
          (need_gives 2 (not (is_false know)) _ consistent
          (have_gives 3 (var_node s y) _ n is
          (have_gives 4 (find (is_shaped_at know n shape) es) _ f.item f.found
          (have_gives 5 (known_field f.item.1 field) _ m e (_, refl))))))

      load_unknown : is_unknown (slice_get (fields_of f.item.1) field) ≡ true → ⊥
      load_unknown e =
          load_lacks (UninitField n field)
          (ap (λ (z : Option Gap). or_else z (gap_if (list_any (lacks_field know n shape field) es) (UninitField n field))) no_block
          ∙ gap_given _ (UninitField n field) (f.listed (lacks_field know n shape field) (and_two (is_shaped_at know n shape f.item) _ f.passes e)))
        where
          no_block : block_gap know defs shape es n ≡ None
          no_block = ap (λ (z : Bool). gap_if (not z && not (list_any (may_unfold know defs n) es)) (NoBlock n)) (f.listed (is_shaped_at know n shape) f.passes)

      load_found : (kind : Kind) → IsField flow.structs shape field kind → Right (at_code know defs s load)
      load_found kind fits = by (slice_get (fields_of f.item.1) field) refl
        where
          by : (o : Option (Option NodeId)) → slice_get (fields_of f.item.1) field ≡ o → Right (at_code know defs s load)
          by None e = absurd (field_there n shape f field kind fits e)
          by (Some None) e = absurd (load_unknown (ap is_unknown e))
          by (Some (Some m)) e = load_field m (ap flat_node e)

    by_load : (kind : Kind) → IsField flow.structs shape field kind → Right (at_code know defs s load)
    by_load kind fits = elim (found_or (is_shaped_at know n shape) es) [ inl f ↦ load_found f kind fits | inr none ↦ load_nothing none ]

  -- a Store
  module _ (y : VarId) (shape : StructId) (field : ℕ) (from : Operand) (q : PointId) (at : code_at flow b.point ≡ Some (instr.Store y shape field from q))
      (m : NodeId) (value : operand_node s from ≡ Some m) (n : NodeId) (is : var_node s y ≡ Some n) where
    abbrev store : Instr
    store = instr.Store y shape field from q

    store_nothing : NoneFound (is_shaped_at know n shape) es → Right (at_code know defs s store)
    store_nothing none =
        unfolded store at n is
        (ap (option_and_then (at_block know shape (line.Step S9) es)) is ∙ ap (λ (z : Bool). if z then Some (line.Step S9) else None) none.none)
        (λ never.
        no_gap store at (NoBlock n)
        (ap (option_and_then (block_gap know defs shape es)) is ∙ gap_given _ (NoBlock n) (all_lack store at (is_shaped_at know n shape) n none.none never)))

    store_found : Found (is_shaped_at know n shape) es → Right (at_code know defs s store)
    store_found f =
        by_rule (at_code know defs s store) S9
        (own_line store at (line.Step S9)
        (ap (option_and_then (at_block know shape (line.Step S9) es)) is ∙ ap (λ (z : Bool). if z then Some (line.Step S9) else None) (f.listed (is_shaped_at know n shape) f.passes)))
        (have_gives 1 (store_of (code_at flow b.point)) _ (record { y = y; shape = shape; f = field; from = from; q = q }) (ap store_of at)
        (need_gives 2 (not (is_false know)) _ consistent
        (have_gives 3 (operand_node s from) _ m value
        (have_gives 4 (var_node s y) _ n is
        (have_gives 5 (find (is_shaped_at know n shape) es) _ f.item f.found (_, refl))))))

    by_store : Right (at_code know defs s store)
    by_store = elim (found_or (is_shaped_at know n shape) es) [ inl f ↦ store_found f | inr none ↦ store_nothing none ]

  -- a Free, of null
  freed_null : (o : Operand) (q : PointId) (n : NodeId) → code_at flow b.point ≡ Some (instr.Free o q) → operand_node s o ≡ Some n → freed_node s o ≡ Some n
      → equal know n null ≡ true → Right (at_code know defs s (instr.Free o q))
  freed_null o q n at is freed zero =
      by_rule (at_code know defs s (instr.Free o q)) S11
      (own_line (instr.Free o q) at (line.Step S11)
      (ap (option_and_then (freeing know es)) freed ∙ ap (λ (z : Bool). if z then Some (line.Step S11) else if list_any (is_block_at know n) es then Some (line.Step S12) else None) zero))
      (have_gives 1 (free_of (code_at flow b.point)) _ (o, q) (ap free_of at)
      (need_gives 2 (not (is_false know)) _ consistent
      (have_gives 3 (operand_node s o) _ n is
      (need_gives 4 (equal know n null) _ zero (_, refl)))))

  -- and of a block
  module _ (x : VarId) (q : PointId) (at : code_at flow b.point ≡ Some (instr.Free (Var x) q)) (n : NodeId) (is : var_node s x ≡ Some n) (other : equal know n null ≡ false) where
    abbrev free : Instr
    free = instr.Free (Var x) q

    freed_line : code_line know s free ≡ (if list_any (is_block_at know n) es then Some (line.Step S12) else None)
    freed_line =
        ap (option_and_then (freeing know es)) is ∙ ap (λ (z : Bool). if z then Some (line.Step S11) else if list_any (is_block_at know n) es then Some (line.Step S12) else None) other

    freed_nothing : NoneFound (is_block_at know n) es → Right (at_code know defs s free)
    freed_nothing none =
        unfolded free at n is (freed_line ∙ ap (λ (z : Bool). if z then Some (line.Step S12) else None) none.none)
        (λ never.
        no_gap free at (NoBlock n)
        (ap (option_and_then (free_gap know defs es)) is
        ∙ gap_given _ (NoBlock n)
        (and_two (not (equal know n null)) (lacks (is_block_at know n) know defs n es) (ap not other) (all_lack free at (is_block_at know n) n none.none never))))

    freed_found : Found (is_block_at know n) es → Right (at_code know defs s free)
    freed_found f =
        by_rule (at_code know defs s free) S12
        (own_line free at (line.Step S12) (freed_line ∙ ap (λ (z : Bool). if z then Some (line.Step S12) else None) (f.listed (is_block_at know n) f.passes)))
        (have_gives 1 (free_of (code_at flow b.point)) _ (Var x, q) (ap free_of at)
        (need_gives 2 (not (is_false know)) _ consistent
        (have_gives 3 (operand_node s (Var x)) _ n is
        (have_gives 4 (find (is_block_at know n) es) _ f.item f.found (_, refl)))))

    by_block : Right (at_code know defs s free)
    by_block = elim (found_or (is_block_at know n) es) [ inl f ↦ freed_found f | inr none ↦ freed_nothing none ]

  by_free : (o : Operand) (q : PointId) → code_at flow b.point ≡ Some (instr.Free o q) → IsOperand flow.vars Ptr o → Right (at_code know defs s (instr.Free o q))
  by_free (Var x) q at fits =
      let one = (first_known s (Var x) [] (known (instr.Free (Var x) q) at)).0 in
      elim (either (equal know one.0 null)) [ inl zero ↦ freed_null (Var x) q one.0 at one.1 one.1 zero | inr other ↦ by_block x q at one.0 one.1 other ]
  by_free (Const c) q at fits =
      freed_null (Const c) q null at (ap (λ (z : ℤ). operand_node s (Const z)) fits) (ap (λ (z : ℤ). freed_node s (Const z)) fits)
      ((tells (Eq null null (pos 0))).1 (inl (itself (Int, inl refl))))

  -- an AssertEmpty
  module _ (q : PointId) (at : code_at flow b.point ≡ Some (instr.AssertEmpty q)) where
    abbrev assert : Instr
    assert = instr.AssertEmpty q

    -- the edges are all that is allocated, and start at null
    empty : (s.whole ≡ true) × (list_all (λ e. equal know (start_of e.1) null) es ≡ true)
    empty = elim (either (s.whole && list_all (λ e. equal know (start_of e.1) null) es)) [
      | inl e ↦ and_split s.whole (list_all (λ e. equal know (start_of e.1) null) es) e
      | inr e ↦ absurd (no_gap assert at (NotEmpty s.whole) (gap_given _ (NotEmpty s.whole) (ap not e)))
    ]

    -- no edge but a block does
    no_start : (e : EdgeId × Edge) → find (starts_at know null) es ≡ Some e → ⊥
    no_start e found =
        let same : false_or_null know es ≡ option_and_then from_start (Some e) =
        ap (λ (z : Bool). if z then Some line.L12 else at_start know null es) sound ∙ ap (option_and_then from_start) found in
        by e (sym same ∙ no_first) found
      where
        by : (e : EdgeId × Edge) → from_start e ≡ None → find (starts_at know null) es ≡ Some e → ⊥
        by (id, Ind n pred args) none found = cc none
        by (id, Seg n args pred stop ends) none found = cc none
        by (id, Block n shape fields) none found = elim (found_or (starts_at know null) es) [
          | inl f ↦
              let same : f.item ≡ (id, Block n shape fields) = same_edge f.item (id, Block n shape fields) (sym f.found ∙ found) in
              let two : starts_at know null (id, Block n shape fields) ≡ true = ap (starts_at know null) (sym same) ∙ f.passes in
              cc two
          | inr lost ↦ let two : None ≡ Some (id, Block n shape fields) = sym lost.found ∙ found in cc two
        ]
          where
            same_edge : (x y : EdgeId × Edge) → Some x ≡ Some y → x ≡ y
            same_edge x y e = cc

    -- so there is none
    first_null : (e : EdgeId × Edge) (rest : Edges) → es ≡ e ∷ rest → equal know (start_of e.1) null ≡ true → ⊥
    first_null (id, Ind n pred args) rest first zero =
        no_start (id, Ind n pred args) (ap (find (starts_at know null)) first ∙ ap (λ (z : Bool). cond z (Some (id, Ind n pred args)) (find (starts_at know null) rest)) zero)
    first_null (id, Seg n args pred stop ends) rest first zero =
        no_start (id, Seg n args pred stop ends)
        (ap (find (starts_at know null)) first ∙ ap (λ (z : Bool). cond z (Some (id, Seg n args pred stop ends)) (find (starts_at know null) rest)) zero)
    first_null (id, Block n shape fields) rest first zero =
        let start : slice_get (block_starts es) 0 ≡ Some n = ap (λ (z : Edges). slice_get (block_starts z) 0) first in
        let wrong : IsFalse s = laws.at_null (pure_of s) 0 n start ((tells (Eq n null (pos 0))).0 zero) in
        let two : true ≡ false = sym ((tells (_)).1 (inr wrong)) ∙ sound in
        cc two

    none_there : es ≡ []
    none_there = by es refl
      where
        by : (z : Edges) → es ≡ z → es ≡ []
        by [] e = e
        by (first ∷ rest) e =
            let here : list_all (λ z. equal know (start_of z.1) null) (first ∷ rest) ≡ true = ap (list_all (λ z. equal know (start_of z.1) null)) (sym e) ∙ empty.1 in
            absurd (first_null first rest e (and_split (equal know (start_of first.1) null) _ here).0)

    by_empty : Right (at_code know defs s assert)
    by_empty =
        by_rule (at_code know defs s assert) S18 refl
        (have_gives 1 (empty_of (code_at flow b.point)) _ q (ap empty_of at)
        (need_gives 2 (not (is_false know)) _ consistent
        (need_gives 3 s.whole _ empty.0
        (need_gives 4 (has_none es) _ (ap has_none none_there) (_, refl)))))

  -- ---- all instructions

  by_code : (code : Instr) → code_at flow b.point ≡ Some code → FitsKinds flow.vars flow.structs defs code → Right (at_code know defs s code)
  by_code (instr.Skip q) at fits =
      by_rule _ S1 refl (have_gives 1 (skip_of (code_at flow b.point)) _ q (ap skip_of at) (need_gives 2 (not (is_false know)) _ consistent (_, refl)))
  by_code (instr.Copy x o q) at fits =
      let one = (first_known s o [] (known _ at)).0 in
      by_rule _ S2 refl
      (have_gives 1 (copy_of (code_at flow b.point)) _ (record { x = x; from = o; q = q }) (ap copy_of at)
      (need_gives 2 (not (is_false know)) _ consistent
      (have_gives 3 (operand_node s o) _ one.0 one.1 (_, refl))))
  by_code (instr.Undef xs q) at fits =
      by_rule _ S3 refl (have_gives 1 (undef_of (code_at flow b.point)) _ (xs, q) (ap undef_of at) (need_gives 2 (not (is_false know)) _ consistent (_, refl)))
  by_code (instr.Input x q) at fits =
      by_rule _ S4 refl (have_gives 1 (input_of (code_at flow b.point)) _ (x, q) (ap input_of at) (need_gives 2 (not (is_false know)) _ consistent (_, refl)))
  by_code (instr.Add x o o' q) at fits =
      let two = two_known s o o' (known _ at) in
      by_rule _ S5 refl
      (have_gives 1 (add_of (code_at flow b.point)) _ (record { x = x; o = o; o' = o'; q = q }) (ap add_of at)
      (need_gives 2 (not (is_false know)) _ consistent
      (have_gives 3 (operand_node s o) _ two.0.0 two.0.1
      (have_gives 4 (operand_node (with_operand s o) o') _ two.1.0 two.1.1 (_, refl)))))
  by_code (instr.Sub x o o' q) at fits =
      let two = two_known s o o' (known _ at) in
      by_rule _ S6 refl
      (have_gives 1 (sub_of (code_at flow b.point)) _ (record { x = x; o = o; o' = o'; q = q }) (ap sub_of at)
      (need_gives 2 (not (is_false know)) _ consistent
      (have_gives 3 (operand_node s o) _ two.0.0 two.0.1
      (have_gives 4 (operand_node (with_operand s o) o') _ two.1.0 two.1.1 (_, refl)))))
  by_code (instr.Mul x o o' q) at fits =
      let two = two_known s o o' (known _ at) in
      by_rule _ S7 refl
      (have_gives 1 (mul_of (code_at flow b.point)) _ (record { x = x; o = o; o' = o'; q = q }) (ap mul_of at)
      (need_gives 2 (not (is_false know)) _ consistent
      (have_gives 3 (operand_node s o) _ two.0.0 two.0.1
      (have_gives 4 (operand_node (with_operand s o) o') _ two.1.0 two.1.1 (_, refl)))))
  by_code (instr.Load x y shape field q) at fits =
      let base = (first_known s (Var y) [] (known _ at)).0 in
      by_load x y shape field q at base.0 base.1 fits.0 fits.3
  by_code (instr.Store y shape field o q) at fits =
      let value = first_known s o (Var y ∷ []) (known _ at) in
      let base = (first_known s (Var y) [] value.1).0 in
      by_store y shape field o q at value.0.0 value.0.1 base.0 base.1
  by_code (instr.Malloc x shape q) at fits =
      by_rule _ S10 refl
      (have_gives 1 (malloc_of (code_at flow b.point)) _ (record { x = x; shape = shape; q = q }) (ap malloc_of at)
      (need_gives 2 (not (is_false know)) _ consistent (_, refl)))
  by_code (instr.Free o q) at fits = by_free o q at fits
  by_code (instr.TestEq o o' t f) at fits =
      let two = two_known s o o' (known _ at) in
      by_rule _ S13 refl
      (have_gives 1 (test_eq_of (code_at flow b.point)) _ (record { o = o; o' = o'; t = t; f = f }) (ap test_eq_of at)
      (need_gives 2 (not (is_false know)) _ consistent
      (have_gives 3 (operand_node s o) _ two.0.0 two.0.1
      (have_gives 4 (operand_node (with_operand s o) o') _ two.1.0 two.1.1 (_, refl)))))
  by_code (instr.TestLe o o' t f) at fits =
      let two = two_known s o o' (known _ at) in
      by_rule _ S14 refl
      (have_gives 1 (test_le_of (code_at flow b.point)) _ (record { o = o; o' = o'; t = t; f = f }) (ap test_le_of at)
      (need_gives 2 (not (is_false know)) _ consistent
      (have_gives 3 (operand_node s o) _ two.0.0 two.0.1
      (have_gives 4 (operand_node (with_operand s o) o') _ two.1.0 two.1.1 (_, refl)))))
  by_code (instr.AssumeShape pred x os q) at fits =
      let args = all_known s os (known _ at) in
      by_rule _ S15 refl
      (have_gives 1 (assume_of (code_at flow b.point)) _ (record { pred = pred; x = x; os = os; q = q }) (ap assume_of at)
      (need_gives 2 (not (is_false know)) _ consistent
      (have_gives 3 (operand_nodes s os) _ args.0 args.1 (_, refl))))
  by_code (instr.AssertShape pred o os q) at fits =
      let one = first_known s o os (known _ at) in
      let args = all_known (with_operand s o) os (still_known s o os one.1) in
      by_rule _ S16 refl
      (have_gives 1 (assert_of (code_at flow b.point)) _ (record { pred = pred; o = o; os = os; q = q }) (ap assert_of at)
      (need_gives 2 (not (is_false know)) _ consistent
      (have_gives 3 (operand_node s o) _ one.0.0 one.0.1
      (have_gives 4 (operand_nodes (with_operand s o) os) _ args.0 args.1 (_, refl)))))
  by_code (instr.AssertEmpty q) at fits = by_empty q at
  by_code instr.End at fits =
      by_rule _ S17 refl (need_gives 1 (is_end (code_at flow b.point)) _ (ap is_end at) (need_gives 2 (not (is_false know)) _ consistent (_, refl)))
  by_code instr.Fail at fits = absurd (no_gap instr.Fail at Reached refl)

  pub at_point : IsInside flow b → Right (option_and_then (at_code know defs s) (code_at flow b.point))
  at_point inside =
      let point = item_at flow.points b.point.0 inside in
      let at : code_at flow b.point ≡ Some point.0.code = ap (option_map (λ (z : Point). z.code)) point.1 in
      right_for flow defs g b (option_and_then (at_code know defs s) (code_at flow b.point)) (at_code know defs s point.0.code) (ap (option_and_then (at_code know defs s)) at)
      (by_code point.0.code at (given.valid.points b.point.0 point.0 point.1).kinds)

-- whatever tells what is entailed
pub code_lines_are_right : Laws → CodeLinesAreRight
code_lines_are_right laws know flow defs g b valid made inside may tells no_first met =
    let judge = laws.judges flow defs valid in
    let given = (judge.2.asked b made).given in
    let own : AreGiven know judge.0.range flow defs b.point b.state = record { valid = valid; made = made; tells = tells; ranges = given.ranges } in
    at_point laws know judge.0.range flow defs g b made may own no_first met inside
