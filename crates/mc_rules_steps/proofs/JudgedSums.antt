-- The rules of sums, differences, products and comparisons are judged by their instances.
use Rattle.std.proofs.Common.{◌≡◌, ◌++◌, List, [], ◌∷◌, Bool, true, false, Option, Some, None, refl, ap, ap₂, sym, ◌∙◌, subst, arith, ℤ, pos, negsuc, ◌+ℤ◌, ◌-ℤ◌, ◌≤ℤ◌}
use Rattle.std.specs.Prelude.{◌&&◌, not, Ok, int_le, if◌then◌else◌}
use Rattle.std.proofs.lemmas.Int.{ints}
use Rattle.mc_base.specs.declared.ids.NodeId.{NodeId}
use Rattle.mc_base.specs.declared.ids.PointId.{PointId}
use Rattle.mc_base.specs.declared.ids.VarId.{VarId}
use Rattle.mc_base.specs.declared.plain.Kind.TheVariants.{Int}
use Rattle.mc_base.specs.declared.plain.Atom.{Atom}
use Rattle.mc_base.specs.declared.plain.Atom.TheVariants.{In}
use Rattle.mc_flow.specs.declared.defs.rules.Def.{Def}
use Rattle.mc_flow.specs.declared.graph.Flow.{Flow}
use Rattle.mc_flow.specs.declared.instr.Instr.{Instr}
use Rattle.mc_flow.specs.declared.instr.Instr.TheVariants as instr
use Rattle.mc_flow.specs.declared.instr.Operand.{Operand}
use Rattle.mc_flow.specs.Valid.{IsValid, IsOperand}
use Rattle.mc_flow.specs.Values.{wrapped}
use Rattle.mc_state.specs.Known.{Test, Tells, is_false}
use Rattle.mc_state.proofs.Numbered.{need_ok, have_ok}
use Rattle.mc_state.proofs.Tests.{not_false, is_sound}
use Rattle.mc_pure.specs.Pure.{Pure}
use Rattle.mc_pure.specs.Derived.{HasRange}
use Rattle.mc_base.specs.declared.ranges.Range.{Range}
use Rattle.mc_base.specs.Ranges.Ends.{IsBetween}
use Rattle.mc_base.specs.Ranges.Range.{IsOutcome, IsLeastIntRange}
use Rattle.mc_state.specs.Facts.{IsFalse}
use Rattle.mc_state.specs.Fits.{IsWellMade}
use Rattle.mc_state.specs.State.{State, pure_of, with_var, with_nodes, with_atoms, next_node}
use Rattle.mc_rules_steps.specs.Next.{Next}
use Rattle.mc_rules_steps.specs.Fitting.{ends_of}
use Rattle.mc_rules_steps.specs.Instructions.{ResultParts, add_of, sub_of, mul_of, test_le_of}
use Rattle.mc_rules_steps.specs.Judges.{computing, adding, subtracting, multiplying, testing_at_most}
use Rattle.mc_rules_steps.specs.Operands.{code_at, operand_node, with_operand}
use Rattle.mc_rules_steps.specs.Steps.{moved_to, is_single, in_range, range_atoms, sum_offsets, difference_offsets, no_offsets, Computes, S5Is, S6Is, S7Is, S14Is}
use Rattle.mc_rules_steps.specs.Sums.{Ends, Ranges, are_ints, int_atoms, Operation, sum, difference, product, result_atoms, with_result, at_most_atoms, above_atoms, AreInts, IsLeast, AreLeast, ranged, HaveRanges}
use Rattle.mc_rules_steps.proofs.Forms.{ok_is, ok_to, add_is, sub_is, mul_is, test_le_is}
use Rattle.mc_rules_steps.proofs.Products.{low_product, high_product, products_between}
use Rattle.mc_rules_steps.proofs.LeastRanges.{least_range_is_one, least_range_has_number, least_range_is_of_ints}
use Rattle.mc_rules_steps.proofs.LowerLaws.{MadeLaws}
use Rattle.mc_rules_steps.proofs.Moving.{fits_at}
use Rattle.mc_rules_steps.proofs.Tests.{le_of}
use Rattle.mc_rules_steps.proofs.WellMade.{two_made}

-- the range of ends that are ints
abbrev range_of : (r : Ends) → AreInts r → Range
range_of r i = let low = i.0 in let mid = i.1 in let high = i.2 in record { lo = r.lo; hi = r.hi; low_end = (omega (arith, ints), omega (arith, ints)); high_end = (omega (arith, ints), omega (arith, ints)) }

pub same_ends : (p : Pure) (n : NodeId) (range : Range) (r : Ends) → HasRange p n range.lo range.hi → HasRange p n r.lo r.hi → ends_of range ≡ r
same_ends p n range r h g = let both = least_range_is_one p n range.lo range.hi r.lo r.hi h g in ap₂ (λ a b. record { lo = a; hi = b }) both.0 both.1

above_true : (a b : ℤ) → a ≤ℤ b → int_le a b ≡ true
above_true a b h = grind (arith, ints)

-- ---- the least range of a set

-- both ends are in the set, and all of it is between them
pub record Spans (In : ℤ → Type 0) (r : Ends) : Type 0 where
  pub low : In r.lo
  pub high : In r.hi
  pub between : (z : ℤ) → In z → IsBetween r.lo r.hi z

module _ (In' : ℤ → Type 0) (r : Ends) (spans : Spans In' r) where
  -- a number of the set that is no `int`, where the ends are none
  outside : (b : Bool) → are_ints r ≡ b → b ≡ false → (z : ℤ) × In' z × (((negsuc 2147483647 ≤ℤ z) × (z ≤ℤ pos 2147483647)) → ⊥)
  outside b is e = at (int_le (negsuc 2147483647) r.lo) (int_le r.hi (pos 2147483647)) refl refl (is ∙ e)
    where
      at : (low high : Bool) → int_le (negsuc 2147483647) r.lo ≡ low → int_le r.hi (pos 2147483647) ≡ high → are_ints r ≡ false → (z : ℤ) × In' z × (((negsuc 2147483647 ≤ℤ z) × (z ≤ℤ pos 2147483647)) → ⊥)
      at false high l h f = (r.lo, spans.low, λ int. let low = int.0 in let wrong : true ≡ false = sym (above_true (negsuc 2147483647) r.lo low) ∙ l in cc)
      at true false l h f = (r.hi, spans.high, λ int. let up = int.1 in let wrong : true ≡ false = sym (above_true r.hi (pos 2147483647) up) ∙ h in cc)
      at true true l h f = let both : are_ints r ≡ true = ap₂ (λ a b. a && b) l h in let wrong : true ≡ false = sym both ∙ f in cc

  ints_from : are_ints r ≡ true → (negsuc 2147483647 ≤ℤ r.lo) × (r.hi ≤ℤ pos 2147483647)
  ints_from e = at (int_le (negsuc 2147483647) r.lo) (int_le r.hi (pos 2147483647)) refl refl e
    where
      at : (low high : Bool) → int_le (negsuc 2147483647) r.lo ≡ low → int_le r.hi (pos 2147483647) ≡ high → (low && high) ≡ true → (negsuc 2147483647 ≤ℤ r.lo) × (r.hi ≤ℤ pos 2147483647)
      at false high l h f = cc
      at true false l h f = cc
      at true true l h f = (le_of (negsuc 2147483647) r.lo l, le_of r.hi (pos 2147483647) h)

  not_crossed : r.lo ≤ℤ r.hi
  not_crossed = (spans.between r.lo spans.low).1

  -- the set has a least range, and what is written of it
  pub record Least (n : NodeId) : Type 0 where
    pub range : Option Range
    pub least : IsLeastIntRange In' range
    pub atoms : int_atoms n r ≡ in_range n range

  has_least : (n : NodeId) → Least n
  has_least n = at (are_ints r) refl
    where
      at : (b : Bool) → are_ints r ≡ b → Least n
      at false e = record { range = None; least = outside false e refl; atoms = ap (λ b. if b then In n r.lo r.hi ∷ [] else []) e }
      at true e =
          let inside = ints_from e in
          let low = inside.0 in
          let high = inside.1 in
          let mid = not_crossed in
          let range : Range = record { lo = r.lo; hi = r.hi; low_end = (omega (arith, ints), omega (arith, ints)); high_end = (omega (arith, ints), omega (arith, ints)) } in
          record {
            range = Some range;
            least = (
              record {
                all = spans.between;
                least = λ a b bounds z there.
                    let from = (bounds r.lo spans.low).0 in
                    let upto = (bounds r.hi spans.high).1 in
                    let over = there.0 in
                    let under = there.1 in
                    (omega (arith, ints), omega (arith, ints));
              },
              (mid, (low, omega (arith, ints)), (omega (arith, ints), high)),
            );
            atoms = ap (λ b. if b then In n r.lo r.hi ∷ [] else []) e;
          }

  -- and each least range is it
  pub least_atoms : (n : NodeId) (range : Option Range) → IsLeastIntRange In' range → int_atoms n r ≡ in_range n range
  least_atoms n None leaves = at (are_ints r) refl
    where
      at : (b : Bool) → are_ints r ≡ b → int_atoms n r ≡ []
      at false e = ap (λ b. if b then In n r.lo r.hi ∷ [] else []) e
      at true e =
          let ends = ints_from e in
          let low = ends.0 in
          let high = ends.1 in
          let inside = spans.between leaves.0 leaves.1 in
          let over = inside.0 in
          let under = inside.1 in
          absurd (leaves.2 (omega (arith, ints), omega (arith, ints)))
  least_atoms n (Some g) h =
      let low = h.0.all r.lo spans.low in
      let high = h.0.all r.hi spans.high in
      let mid = h.1.0 in
      let first = h.0.least r.lo r.hi spans.between g.lo (omega (arith, ints), mid) in
      let last = h.0.least r.lo r.hi spans.between g.hi (mid, omega (arith, ints)) in
      let a = low.0 in
      let b = high.1 in
      let c = first.0 in
      let d = last.1 in
      let lo : g.lo ≡ r.lo = omega (arith, ints) in
      let hi : g.hi ≡ r.hi = omega (arith, ints) in
      let int_lo = h.1.1.0 in
      let int_hi = h.1.2.1 in
      let under : negsuc 2147483647 ≤ℤ r.lo = omega (arith, ints) in
      let over : r.hi ≤ℤ pos 2147483647 = omega (arith, ints) in
      let both : are_ints r ≡ true = ap₂ (λ a b. a && b) (above_true (negsuc 2147483647) r.lo under) (above_true r.hi (pos 2147483647) over) in
      ap (λ b. if b then In n r.lo r.hi ∷ [] else []) both ∙ ap₂ (λ a b. In n a b ∷ []) (sym lo) (sym hi)

-- ---- ranges of operands

-- a node's range is the least, and one of ints
abbrev HasInts : Ranges → State → NodeId → Type 0
HasInts range s n = AreInts (range s n) × IsLeast range s n

-- the ranges of two operands are
abbrev HaveInts : Ranges → Operand → Operand → State → Type 0
HaveInts range o o' s =
    (a b : NodeId) → operand_node s o ≡ Some a → operand_node (with_operand s o) o' ≡ Some b
    → HasInts range (with_operand (with_operand s o) o') a × HasInts range (with_operand (with_operand s o) o') b

-- where the operands are of kind Int
ints_of : (laws : MadeLaws) (range : Ranges) (flow : Flow) (defs : List Def) (s : State) (o o' : Operand) → IsWellMade defs flow.vars flow.structs.list s → IsOperand flow.vars Int o → IsOperand flow.vars Int o' → AreLeast range o o' s → HaveInts range o o' s
ints_of laws range flow defs s o o' made fits fits' least a b left right =
    let before = with_operand (with_operand s o) o' in
    let two = two_made laws defs flow.vars flow.structs.list s Int o o' a b made fits fits' left right in
    let are = least a b left right in (
      (least_range_is_of_ints (pure_of before) a (range before a) two.left are.0, are.0),
      (least_range_is_of_ints (pure_of before) b (range before b) two.right are.1, are.1),
    )

-- ---- operations

-- the ends of an operation's results span its results
abbrev pub SpansResults : Operation → Type 0
SpansResults op = (left right : Range) → left.lo ≤ℤ left.hi → right.lo ≤ℤ right.hi → Spans (IsOutcome op.apply left right) (op.ends (ends_of left) (ends_of right))

pub sums_span : SpansResults sum
sums_span left right p q =
    record {
      low = (left.lo, right.lo, (omega (arith, ints), p), (omega (arith, ints), q), refl);
      high = (left.hi, right.hi, (p, omega (arith, ints)), (q, omega (arith, ints)), refl);
      between = λ z m.
          let x = m.0 in
          let y = m.1 in
          let a = m.2.0 in
          let b = m.2.1 in
          let c = m.3.0 in
          let d = m.3.1 in
          let e : z ≡ x +ℤ y = m.4 in
          (omega (arith, ints), omega (arith, ints));
    }

pub differences_span : SpansResults difference
differences_span left right p q =
    record {
      low = (left.lo, right.hi, (omega (arith, ints), p), (q, omega (arith, ints)), refl);
      high = (left.hi, right.lo, (p, omega (arith, ints)), (omega (arith, ints), q), refl);
      between = λ z m.
          let x = m.0 in
          let y = m.1 in
          let a = m.2.0 in
          let b = m.2.1 in
          let c = m.3.0 in
          let d = m.3.1 in
          let e : z ≡ x -ℤ y = m.4 in
          (omega (arith, ints), omega (arith, ints));
    }

pub products_span : SpansResults product
products_span left right p q = record { low = low_product left right p q; high = high_product left right p q; between = products_between left right }

-- offsets of ranges as the rules write them
abbrev pub IsOffsets : Operation → (NodeId → NodeId → NodeId → Range → Range → List Atom) → Type 0
IsOffsets op offsets = (n a b : NodeId) (left right : Range) → offsets n a b left right ≡ op.offsets n a b (ends_of left) (ends_of right)

module _ (op : Operation) (offsets : NodeId → NodeId → NodeId → Range → Range → List Atom) (same : IsOffsets op offsets) where
  -- what the rules write is what is judged
  all_atoms : (n a b : NodeId) (left right : Range) (results : Option Range) → int_atoms n (op.ends (ends_of left) (ends_of right)) ≡ in_range n results
      → range_atoms op.apply n left right results ++ offsets n a b left right ≡ result_atoms op n (ends_of left) (ends_of right) ++ op.offsets n a b (ends_of left) (ends_of right)
  all_atoms n a b left right results e =
      ap₂ (λ xs ys. xs ++ ys)
      (ap (λ l. if is_single left && is_single right then In n (wrapped (op.apply left.lo right.lo)) (wrapped (op.apply left.lo right.lo)) ∷ [] else l) (sym e)) (same n a b left right)

  -- what an instance gives, by the ends of its ranges
  pub computed_is : SpansResults op → (x : VarId) (o o' : Operand) (q : PointId) (s : State) (next : List Next) (m : Computes op.apply offsets x o o' q s next)
      → next ≡ moved_to q (with_result op x m.a m.b (ends_of m.left) (ends_of m.right) (with_operand (with_operand s o) o')) ∷ []
  computed_is spans x o o' q s next m =
      let before = with_operand (with_operand s o) o' in
      let left_mid = least_range_has_number (pure_of before) m.a m.left.lo m.left.hi m.left_range in
      let right_mid = least_range_has_number (pure_of before) m.b m.right.lo m.right.hi m.right_range in
      let new = λ (t : State). moved_to q (with_atoms (with_var (with_nodes t (Int ∷ [])) x (Some (next_node t)))
      (range_atoms op.apply (next_node t) m.left m.right m.results ++ offsets (next_node t) m.a m.b m.left m.right)) ∷ [] in
      let n = next_node before in
      let written = least_atoms (IsOutcome op.apply m.left m.right) (op.ends (ends_of m.left) (ends_of m.right)) (spans m.left m.right left_mid right_mid) n m.results m.results_range in
      m.gives ∙ ap new m.operands
      ∙ ap (λ l. moved_to q (with_atoms (with_var (with_nodes before (Int ∷ [])) x (Some n)) l) ∷ []) (all_atoms n m.a m.b m.left m.right m.results written)

  module _ (spans : SpansResults op) (know : Test) (range : Ranges) (s : State) (tells : Tells know s) (next : List Next) where
    from : (i : ResultParts) → ((IsFalse s → ⊥) → HaveInts range i.o i.o' s) → computing op know range (Some i) s ≡ Ok next → (IsFalse s → ⊥) × Computes op.apply offsets i.x i.o i.o' i.q s next
    from i have_ints e =
        let two = need_ok 2 _ _ next e in
        let three = have_ok 3 (operand_node s i.o) _ next two.1 in
        let a = three.0 in
        let four = have_ok 4 (operand_node (with_operand s i.o) i.o') _ next three.2 in
        let b = four.0 in
        let before = with_operand (with_operand s i.o) i.o' in
        let ranges = have_ints (not_false know s tells two.0) a b three.1 four.1 in
        let l = range before a in
        let r = range before b in
        let left = range_of l ranges.0.0 in
        let right = range_of r ranges.1.0 in
        let n = next_node before in
        let least = has_least (IsOutcome op.apply left right) (op.ends l r) (spans left right ranges.0.0.1 ranges.1.0.1) n in (
          not_false know s tells two.0,
          record {
            a = a;
            left_known = three.1;
            b = b;
            right_known = four.1;
            left = left;
            left_range = ranges.0.1;
            right = right;
            right_range = ranges.1.1;
            results = least.range;
            results_range = least.least;
            before = before;
            operands = refl;
            gives = ok_is _ next four.2
                ∙ ap (λ l. moved_to i.q (with_atoms (with_var (with_nodes before (Int ∷ [])) i.x (Some n)) l) ∷ []) (sym (all_atoms n a b left right least.range least.atoms));
          },
        )

    to : (i : ResultParts) → ((IsFalse s → ⊥) → HaveInts range i.o i.o' s) → (IsFalse s → ⊥) → Computes op.apply offsets i.x i.o i.o' i.q s next → computing op know range (Some i) s ≡ Ok next
    to i have_ints consistent m =
        let before = with_operand (with_operand s i.o) i.o' in
        let sound : not (is_false know) ≡ true = is_sound know s tells consistent in
        let left_is : operand_node s i.o ≡ Some m.a = m.left_known in
        let right_is : operand_node (with_operand s i.o) i.o' ≡ Some m.b = m.right_known in
        let ranges = have_ints consistent m.a m.b m.left_known m.right_known in
        let l = range before m.a in
        let r = range before m.b in
        let ls : ends_of m.left ≡ l = same_ends (pure_of before) m.a m.left l m.left_range ranges.0.1 in
        let rs : ends_of m.right ≡ r = same_ends (pure_of before) m.b m.right r m.right_range ranges.1.1 in
        let made = λ (l r : Ends). moved_to i.q (with_result op i.x m.a m.b l r before) ∷ [] in
        rw sound (rw left_is (rw right_is (ok_to _ next (computed_is spans i.x i.o i.o' i.q s next m ∙ ap₂ made ls rs))))

module _ (laws : MadeLaws) (know : Test) (range : Ranges) (flow : Flow) (defs : List Def) (p : PointId) (s : State) (valid : IsValid flow defs) (well : IsWellMade defs flow.vars flow.structs.list s) (tells : Tells know s) (ranges : HaveRanges range flow p s) (next : List Next) where
  -- the operands of an instruction of two numbers
  given : (code : Instr) (o o' : Operand) → code_at flow p ≡ Some code → ranged code ≡ Some (o, o') → IsOperand flow.vars Int o → IsOperand flow.vars Int o' → (IsFalse s → ⊥) → HaveInts range o o' s
  given code o o' at is fits fits' consistent = ints_of laws range flow defs s o o' well fits fits' (ranges code o o' at is consistent)

  pub add_from : adding know range (code_at flow p) s ≡ Ok next → S5Is flow p s next
  add_from e =
      let one = have_ok 1 (add_of (code_at flow p)) _ next e in
      let i = one.0 in
      let at = add_is (code_at flow p) i one.1 in
      let made = from sum sum_offsets (λ n a b left right. refl) sums_span know range s tells next i (let fits = fits_at flow defs p (instr.Add i.x i.o i.o' i.q) valid at in given (instr.Add i.x i.o i.o' i.q) i.o i.o' at refl fits.1 fits.2) one.2 in
      record { x = i.x; o = i.o; o' = i.o'; q = i.q; at = at; consistent = made.0; computes = made.1 }

  pub add_to : S5Is flow p s next → adding know range (code_at flow p) s ≡ Ok next
  add_to i =
      let parts : ResultParts = record { x = i.x; o = i.o; o' = i.o'; q = i.q } in
      let here : add_of (code_at flow p) ≡ Some parts = ap add_of i.at in
      ap (λ o. computing sum know range o s) here
      ∙ to sum sum_offsets (λ n a b left right. refl) sums_span know range s tells next parts (let fits = fits_at flow defs p (instr.Add i.x i.o i.o' i.q) valid i.at in given (instr.Add i.x i.o i.o' i.q) i.o i.o' i.at refl fits.1 fits.2) i.consistent i.computes

  pub sub_from : subtracting know range (code_at flow p) s ≡ Ok next → S6Is flow p s next
  sub_from e =
      let one = have_ok 1 (sub_of (code_at flow p)) _ next e in
      let i = one.0 in
      let at = sub_is (code_at flow p) i one.1 in
      let made = from difference difference_offsets (λ n a b left right. refl) differences_span know range s tells next i (let fits = fits_at flow defs p (instr.Sub i.x i.o i.o' i.q) valid at in given (instr.Sub i.x i.o i.o' i.q) i.o i.o' at refl fits.1 fits.2) one.2 in
      record { x = i.x; o = i.o; o' = i.o'; q = i.q; at = at; consistent = made.0; computes = made.1 }

  pub sub_to : S6Is flow p s next → subtracting know range (code_at flow p) s ≡ Ok next
  sub_to i =
      let parts : ResultParts = record { x = i.x; o = i.o; o' = i.o'; q = i.q } in
      let here : sub_of (code_at flow p) ≡ Some parts = ap sub_of i.at in
      ap (λ o. computing difference know range o s) here
      ∙ to difference difference_offsets (λ n a b left right. refl) differences_span know range s tells next parts (let fits = fits_at flow defs p (instr.Sub i.x i.o i.o' i.q) valid i.at in given (instr.Sub i.x i.o i.o' i.q) i.o i.o' i.at refl fits.1 fits.2) i.consistent i.computes

  pub mul_from : multiplying know range (code_at flow p) s ≡ Ok next → S7Is flow p s next
  mul_from e =
      let one = have_ok 1 (mul_of (code_at flow p)) _ next e in
      let i = one.0 in
      let at = mul_is (code_at flow p) i one.1 in
      let made = from product no_offsets (λ n a b left right. refl) products_span know range s tells next i (let fits = fits_at flow defs p (instr.Mul i.x i.o i.o' i.q) valid at in given (instr.Mul i.x i.o i.o' i.q) i.o i.o' at refl fits.1 fits.2) one.2 in
      record { x = i.x; o = i.o; o' = i.o'; q = i.q; at = at; consistent = made.0; computes = made.1 }

  pub mul_to : S7Is flow p s next → multiplying know range (code_at flow p) s ≡ Ok next
  mul_to i =
      let parts : ResultParts = record { x = i.x; o = i.o; o' = i.o'; q = i.q } in
      let here : mul_of (code_at flow p) ≡ Some parts = ap mul_of i.at in
      ap (λ o. computing product know range o s) here
      ∙ to product no_offsets (λ n a b left right. refl) products_span know range s tells next parts (let fits = fits_at flow defs p (instr.Mul i.x i.o i.o' i.q) valid i.at in given (instr.Mul i.x i.o i.o' i.q) i.o i.o' i.at refl fits.1 fits.2) i.consistent i.computes

  pub at_most_from : testing_at_most know range (code_at flow p) s ≡ Ok next → S14Is flow p s next
  at_most_from e =
      let one = have_ok 1 (test_le_of (code_at flow p)) _ next e in
      let i = one.0 in
      let at = test_le_is (code_at flow p) i one.1 in
      let two = need_ok 2 _ _ next one.2 in
      let three = have_ok 3 (operand_node s i.o) _ next two.1 in
      let a = three.0 in
      let four = have_ok 4 (operand_node (with_operand s i.o) i.o') _ next three.2 in
      let b = four.0 in
      let before = with_operand (with_operand s i.o) i.o' in
      let fits = fits_at flow defs p (instr.TestLe i.o i.o' i.t i.f) valid at in
      let have_ints = given (instr.TestLe i.o i.o' i.t i.f) i.o i.o' at refl fits.0 fits.1 (not_false know s tells two.0) a b three.1 four.1 in
      record {
        o = i.o;
        o' = i.o';
        t = i.t;
        f = i.f;
        at = at;
        consistent = not_false know s tells two.0;
        a = a;
        left_known = three.1;
        b = b;
        right_known = four.1;
        before = before;
        operands = refl;
        left = range_of (range before a) have_ints.0.0;
        left_range = have_ints.0.1;
        right = range_of (range before b) have_ints.1.0;
        right_range = have_ints.1.1;
        gives = ok_is _ next four.2;
      }

  pub at_most_to : S14Is flow p s next → testing_at_most know range (code_at flow p) s ≡ Ok next
  at_most_to i =
      let here : test_le_of (code_at flow p) ≡ Some (record { o = i.o; o' = i.o'; t = i.t; f = i.f }) = ap test_le_of i.at in
      let sound : not (is_false know) ≡ true = is_sound know s tells i.consistent in
      let left_is : operand_node s i.o ≡ Some i.a = i.left_known in
      let right_is : operand_node (with_operand s i.o) i.o' ≡ Some i.b = i.right_known in
      let before = with_operand (with_operand s i.o) i.o' in
      let fits = fits_at flow defs p (instr.TestLe i.o i.o' i.t i.f) valid i.at in
      let have_ints = given (instr.TestLe i.o i.o' i.t i.f) i.o i.o' i.at refl fits.0 fits.1 i.consistent i.a i.b i.left_known i.right_known in
      let l = range before i.a in
      let r = range before i.b in
      let left_range = subst (λ (t : State). HasRange (pure_of t) i.a i.left.lo i.left.hi) i.operands i.left_range in
      let right_range = subst (λ (t : State). HasRange (pure_of t) i.b i.right.lo i.right.hi) i.operands i.right_range in
      let ls : ends_of i.left ≡ l = same_ends (pure_of before) i.a i.left l left_range have_ints.0.1 in
      let rs : ends_of i.right ≡ r = same_ends (pure_of before) i.b i.right r right_range have_ints.1.1 in
      let made = λ (t : State) (l r : Ends). moved_to i.t (with_atoms t (at_most_atoms i.a i.b l r)) ∷ moved_to i.f (with_atoms t (above_atoms i.a i.b l r)) ∷ [] in
      rw here (rw sound (rw left_is (rw right_is (ok_to _ next
      (i.gives ∙ ap (λ t. made t (ends_of i.left) (ends_of i.right)) i.operands ∙ ap₂ (made before) ls rs)))))
