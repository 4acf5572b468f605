-- What an instruction is whose parts are given, and what judged rules give.
use Rattle.std.proofs.Common.{◌≡◌, List, true, Option, Some, refl, sym, ap}
use Rattle.std.specs.Prelude.{Ok}
use Rattle.mc_base.specs.declared.ids.PointId.{PointId}
use Rattle.mc_base.specs.declared.ids.VarId.{VarId}
use Rattle.mc_flow.specs.declared.instr.Operand.{Operand}
use Rattle.mc_flow.specs.declared.instr.Instr.{Instr}
use Rattle.mc_flow.specs.declared.instr.Instr.TheVariants as instr
use Rattle.mc_state.specs.Premises.{Judged}
use Rattle.mc_rules_steps.specs.Next.{Next}
use Rattle.mc_rules_steps.specs.Instructions.{CopyParts, ResultParts, LoadParts, StoreParts, MallocParts, TestParts, AssumeParts, AssertParts, skip_of, copy_of, undef_of, input_of, add_of, sub_of, mul_of, load_of, store_of, malloc_of, free_of, test_eq_of, test_le_of, assume_of, assert_of, empty_of, is_end}

-- the successors that are given are the ones
pub ok_is : (made next : List Next) → ◌≡◌ {A = Judged (List Next)} (Ok made) (Ok next) → next ≡ made
ok_is made next e = cc e

pub ok_to : (made next : List Next) → next ≡ made → ◌≡◌ {A = Judged (List Next)} (Ok made) (Ok next)
ok_to made next e = ap (λ l. Ok l) (sym e)

pub skip_is : (o : Option Instr) (q : PointId) → skip_of o ≡ Some q → o ≡ Some (instr.Skip q)
skip_is (Some (instr.Skip q')) q e = let same : q' ≡ q = cc e in ap (λ q. Some (instr.Skip q)) same
skip_is other q e = absurd (cc e)

pub copy_is : (o : Option Instr) (g : CopyParts) → copy_of o ≡ Some g → o ≡ Some (instr.Copy g.x g.from g.q)
copy_is (Some (instr.Copy x from q)) g e =
    let same : ◌≡◌ {A = CopyParts} (record { x = x; from = from; q = q }) g = cc e in
    ap (λ (g : CopyParts). Some (instr.Copy g.x g.from g.q)) same
copy_is other g e = absurd (cc e)

pub undef_is : (o : Option Instr) (g : List VarId × PointId) → undef_of o ≡ Some g → o ≡ Some (instr.Undef g.0 g.1)
undef_is (Some (instr.Undef xs q)) g e =
    let same : ◌≡◌ {A = List VarId × PointId} (xs, q) g = cc e in
    ap (λ (g : List VarId × PointId). Some (instr.Undef g.0 g.1)) same
undef_is other g e = absurd (cc e)

pub input_is : (o : Option Instr) (g : VarId × PointId) → input_of o ≡ Some g → o ≡ Some (instr.Input g.0 g.1)
input_is (Some (instr.Input x q)) g e =
    let same : ◌≡◌ {A = VarId × PointId} (x, q) g = cc e in
    ap (λ (g : VarId × PointId). Some (instr.Input g.0 g.1)) same
input_is other g e = absurd (cc e)

pub add_is : (o : Option Instr) (g : ResultParts) → add_of o ≡ Some g → o ≡ Some (instr.Add g.x g.o g.o' g.q)
add_is (Some (instr.Add x o o' q)) g e =
    let same : ◌≡◌ {A = ResultParts} (record { x = x; o = o; o' = o'; q = q }) g = cc e in
    ap (λ (g : ResultParts). Some (instr.Add g.x g.o g.o' g.q)) same
add_is other g e = absurd (cc e)

pub sub_is : (o : Option Instr) (g : ResultParts) → sub_of o ≡ Some g → o ≡ Some (instr.Sub g.x g.o g.o' g.q)
sub_is (Some (instr.Sub x o o' q)) g e =
    let same : ◌≡◌ {A = ResultParts} (record { x = x; o = o; o' = o'; q = q }) g = cc e in
    ap (λ (g : ResultParts). Some (instr.Sub g.x g.o g.o' g.q)) same
sub_is other g e = absurd (cc e)

pub mul_is : (o : Option Instr) (g : ResultParts) → mul_of o ≡ Some g → o ≡ Some (instr.Mul g.x g.o g.o' g.q)
mul_is (Some (instr.Mul x o o' q)) g e =
    let same : ◌≡◌ {A = ResultParts} (record { x = x; o = o; o' = o'; q = q }) g = cc e in
    ap (λ (g : ResultParts). Some (instr.Mul g.x g.o g.o' g.q)) same
mul_is other g e = absurd (cc e)

pub load_is : (o : Option Instr) (g : LoadParts) → load_of o ≡ Some g → o ≡ Some (instr.Load g.x g.y g.shape g.f g.q)
load_is (Some (instr.Load x y shape f q)) g e =
    let same : ◌≡◌ {A = LoadParts} (record { x = x; y = y; shape = shape; f = f; q = q }) g = cc e in
    ap (λ (g : LoadParts). Some (instr.Load g.x g.y g.shape g.f g.q)) same
load_is other g e = absurd (cc e)

pub store_is : (o : Option Instr) (g : StoreParts) → store_of o ≡ Some g → o ≡ Some (instr.Store g.y g.shape g.f g.from g.q)
store_is (Some (instr.Store y shape f from q)) g e =
    let same : ◌≡◌ {A = StoreParts} (record { y = y; shape = shape; f = f; from = from; q = q }) g = cc e in
    ap (λ (g : StoreParts). Some (instr.Store g.y g.shape g.f g.from g.q)) same
store_is other g e = absurd (cc e)

pub malloc_is : (o : Option Instr) (g : MallocParts) → malloc_of o ≡ Some g → o ≡ Some (instr.Malloc g.x g.shape g.q)
malloc_is (Some (instr.Malloc x shape q)) g e =
    let same : ◌≡◌ {A = MallocParts} (record { x = x; shape = shape; q = q }) g = cc e in
    ap (λ (g : MallocParts). Some (instr.Malloc g.x g.shape g.q)) same
malloc_is other g e = absurd (cc e)

pub free_is : (o : Option Instr) (g : Operand × PointId) → free_of o ≡ Some g → o ≡ Some (instr.Free g.0 g.1)
free_is (Some (instr.Free from q)) g e =
    let same : ◌≡◌ {A = Operand × PointId} (from, q) g = cc e in
    ap (λ (g : Operand × PointId). Some (instr.Free g.0 g.1)) same
free_is other g e = absurd (cc e)

pub test_eq_is : (o : Option Instr) (g : TestParts) → test_eq_of o ≡ Some g → o ≡ Some (instr.TestEq g.o g.o' g.t g.f)
test_eq_is (Some (instr.TestEq o o' t f)) g e =
    let same : ◌≡◌ {A = TestParts} (record { o = o; o' = o'; t = t; f = f }) g = cc e in
    ap (λ (g : TestParts). Some (instr.TestEq g.o g.o' g.t g.f)) same
test_eq_is other g e = absurd (cc e)

pub test_le_is : (o : Option Instr) (g : TestParts) → test_le_of o ≡ Some g → o ≡ Some (instr.TestLe g.o g.o' g.t g.f)
test_le_is (Some (instr.TestLe o o' t f)) g e =
    let same : ◌≡◌ {A = TestParts} (record { o = o; o' = o'; t = t; f = f }) g = cc e in
    ap (λ (g : TestParts). Some (instr.TestLe g.o g.o' g.t g.f)) same
test_le_is other g e = absurd (cc e)

pub assume_is : (o : Option Instr) (g : AssumeParts) → assume_of o ≡ Some g → o ≡ Some (instr.AssumeShape g.pred g.x g.os g.q)
assume_is (Some (instr.AssumeShape pred x os q)) g e =
    let same : ◌≡◌ {A = AssumeParts} (record { pred = pred; x = x; os = os; q = q }) g = cc e in
    ap (λ (g : AssumeParts). Some (instr.AssumeShape g.pred g.x g.os g.q)) same
assume_is other g e = absurd (cc e)

pub assert_is : (o : Option Instr) (g : AssertParts) → assert_of o ≡ Some g → o ≡ Some (instr.AssertShape g.pred g.o g.os g.q)
assert_is (Some (instr.AssertShape pred o os q)) g e =
    let same : ◌≡◌ {A = AssertParts} (record { pred = pred; o = o; os = os; q = q }) g = cc e in
    ap (λ (g : AssertParts). Some (instr.AssertShape g.pred g.o g.os g.q)) same
assert_is other g e = absurd (cc e)

pub empty_is : (o : Option Instr) (q : PointId) → empty_of o ≡ Some q → o ≡ Some (instr.AssertEmpty q)
empty_is (Some (instr.AssertEmpty q')) q e = let same : q' ≡ q = cc e in ap (λ q. Some (instr.AssertEmpty q)) same
empty_is other q e = absurd (cc e)

pub end_is : (o : Option Instr) → is_end o ≡ true → o ≡ Some instr.End
end_is (Some instr.End) e = refl
end_is other e = absurd (cc e)
