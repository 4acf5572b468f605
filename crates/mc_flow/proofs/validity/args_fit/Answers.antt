use Rattle.std.proofs.Common.{◌≡◌, ◌+◌, ◌<◌, ◌↔◌, ℕ, List, [], ◌∷◌, length, get_or, drop, refl, add-one, arith}
use Rattle.std.proofs.Math.Seq.{drop-cons}
use Rattle.std.specs.List.{AllZip}
use Rattle.mc_base.specs.declared.plain.Kind.{Kind}
use Rattle.mc_flow.specs.declared.instr.Operand.{Operand}
use Rattle.mc_flow.specs.Valid.{IsOperand}
use Rattle.mc_flow.proofs.validity.args_fit.Goals as goal

-- lists that go together have one length
zip_length : {A B : Type 0} (R : A → B → Type 0) (xs : List A) (ys : List B) → AllZip R xs ys → length xs ≡ length ys
zip_length R [] [] a = refl
zip_length R [] (y ∷ ys) a = absurd a
zip_length R (x ∷ xs) [] a = absurd a
zip_length R (x ∷ xs) (y ∷ ys) a = let more = zip_length R xs ys a.1 in omega arith

-- the items at an index go together: the rests do where those after do
zip_more : {A B : Type 0} (R : A → B → Type 0) (xs : List A) (ys : List B) (i : ℕ) (d : A) (e : B) → i < length xs → length xs ≡ length ys → R (get_or xs i d) (get_or ys i e)
    → AllZip R (drop i xs) (drop i ys) ↔ AllZip R (drop (i + 1) xs) (drop (i + 1) ys)
zip_more R xs ys i d e lt same here =
    let le : i < length ys = omega arith in
    rw (drop-cons xs i d lt, drop-cons ys i e le, add-one) (λ a. a.1, λ a. (here, a))

pub returns-then-args-params : goal.returns-then-args-params
returns-then-args-params c = (
  λ t. absurd (grind arith),
  λ a. absurd (c.if-args-params.true (zip_length (λ (o : Operand) (kind : Kind). IsOperand c.args.vars.now kind o) c.args.args.now c.args.params.now a)),
)

pub loop-i-preserved : goal.loop-i-preserved
loop-i-preserved c =
    let fits : Operand → Kind → Type 0 = λ o kind. IsOperand c.args.vars.now kind o in
    let before = c.loop-i.invariant.1 in
    let more = zip_more fits c.args.args.now c.args.params.now c.loop-i.i _ _ c.loop-i-test.true c.loop-i.invariant.0 (c.is_operand.ensures.0 c.if-not-is_operand.false) in
    (c.loop-i.invariant.0, (λ a. more.0 (before.0 a), λ a. before.1 (more.1 a)))
