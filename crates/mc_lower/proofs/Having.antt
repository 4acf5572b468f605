-- What is known of a flow graph while it is made, and what expressions need of it.
use Rattle.std.proofs.Common.{◌≡◌, ◌<◌, ◌+◌, ◌++◌, ℕ, zero, suc, List, [], ◌∷◌, Option, Some, None, refl, sym, ap, ◌∙◌, subst, length, map, get_or, arith, inl, inr, add-one}
use Rattle.std.proofs.lemmas.List.{append-nil, append_assoc}
use Rattle.std.proofs.lemmas.List.Elements.{Contains-append_cases, Contains-append_left, Contains-append_right}
use Rattle.std.proofs.lemmas.Option.{same_Some}
use Rattle.std.specs.Prelude.{Contains, slice_get}
use Rattle.std.specs.List.{AllZip}
use Rattle.mc_c_syntax.specs.declared.ast.trees.Comparison.{Comparison}
use Rattle.mc_c_syntax.specs.declared.ast.trees.Comparison.TheVariants.{Equal, Unequal, Below, AtMost, Above, AtLeast}
use Rattle.mc_base.specs.declared.plain.Kind.{Kind}
use Rattle.mc_flow.specs.declared.defs.shapes.Structs.{Structs}
use Rattle.mc_semantics.specs.declared.resolved.program.Argument.{Argument as ArgumentCode}
use Rattle.mc_semantics.specs.declared.resolved.program.Expression.{Expression}
use Rattle.mc_semantics.specs.declared.resolved.program.FieldAt.{FieldAt as FieldCode}
use Rattle.mc_semantics.specs.Resolved.Programs.{FieldAt, Expr, number, input, value, minus, times, plus, difference, Local, Program, Function}
use Rattle.mc_semantics.specs.Resolved.Programs.{Cond, plain, compare, negation, both, either, Argument, variable, constant}
use Rattle.mc_semantics.specs.Resolved.Views.{argument_of, condition_of, expression_of, field_of}
use Rattle.mc_lower_laws.specs.Valid.Kinds.{Here, LeadsTo, IsOf, AreCompared, IsCondition, IsConditionPerhaps}
use Rattle.mc_lower.specs.declared.builder.Builder.{Builder}
use Rattle.mc_lower.specs.declared.builder.Label.{Label}
use Rattle.mc_lower.specs.declared.conditions.Work.{Work as Tested}
use Rattle.mc_lower.specs.declared.lines.Awaited.{Awaited}
use Rattle.mc_lower.specs.declared.variables.Owner.{Owner as OwnerCode}
use Rattle.mc_lower.specs.declared.variables.Variable.{Variable}
use Rattle.mc_lower_laws.specs.Lowerable.Lowerable.{NamesOnly, AllNameOnly, TestsOnly, TestsOnlyPerhaps, IsMadeArgument, AreMadeArguments}
use Rattle.mc_lower.specs.Once.{IsNew}
use Rattle.mc_lower.specs.Knowns.{Known, State, IsThere, known, lasting, owners_of, with_block, with_label, with_local, with_owners}
use Rattle.mc_lower.specs.Ready.{HasKind, HaveKinds, IsReady, AreReady, IsTestReady, AreTestsReady, IsTestReadyPerhaps, IsArgumentReady, AreArgumentsReady, Still, in_state, locals_to}

-- ---- owners
pub owners_last : (vs : List Variable) (v : Variable) → owners_of (vs ++ v ∷ []) ≡ owners_of vs ++ lasting v.owner
owners_last [] v = append-nil (lasting v.owner)
owners_last (u ∷ vs) v = ap (λ l. lasting u.owner ++ l) (owners_last vs v) ∙ sym (append_assoc (lasting u.owner) (owners_of vs) (lasting v.owner))

nothing_in : {A : Type 0} (x : A) → Contains [] x → ⊥
nothing_in x found = let low = found.1 in absurd (omega arith)

only_in : {A : Type 0} (y x : A) → Contains (y ∷ []) x → y ≡ x
only_in y x (zero, low, is) = is
only_in y x (suc k, low, is) = absurd (omega arith)

lasting_is : (p o : OwnerCode) → Contains (lasting p) o → p ≡ o
lasting_is (OwnerCode.Local i x) o found = only_in _ o found
lasting_is (OwnerCode.Result i) o found = only_in _ o found
lasting_is (OwnerCode.Temporary j kind) o found = absurd (nothing_in o found)

pub none_owned : (vs : List Variable) (o : OwnerCode) → ((i : ℕ) (v : Variable) → slice_get vs i ≡ Some v → v.owner ≡ o → ⊥) → Contains (owners_of vs) o → ⊥
none_owned [] o none found = nothing_in o found
none_owned (v ∷ vs) o none found =
    elim (Contains-append_cases (lasting v.owner) (owners_of vs) o found) [
      | inl here ↦ none 0 v refl (lasting_is v.owner o here)
      | inr later ↦ none_owned vs o (λ i u there is. none (suc i) u there is) later
    ]

-- an owner is new who is not among these
pub new_if : (vs : List Variable) (o : OwnerCode) → lasting o ≡ o ∷ [] → (Contains (owners_of vs) o → ⊥) → IsNew vs o
new_if [] o is none i v there same = let never : None ≡ Some v = there in absurd (cc never)
new_if (u ∷ vs) o is none zero v there same =
    let one : lasting u.owner ≡ o ∷ [] = ap (λ (z : Variable). lasting z.owner) (same_Some u v there) ∙ ap lasting same ∙ is in
    none (Contains-append_left (lasting u.owner) (owners_of vs) o (subst (λ l. Contains l o) (sym one) (0, omega arith, refl)))
new_if (u ∷ vs) o is none (suc i) v there same = new_if vs o is (λ found. none (Contains-append_right (lasting u.owner) (owners_of vs) o found)) i v there same

abbrev with_these : Builder → List OwnerCode → Known
with_these b os =
    record {
      source = record { program = b.program.now; structs = b.structs.now };
      state = record { owners = os; blocks = length b.blocks.items; occurrences = length b.lines.outs.items };
      waiting = b.lines.waiting;
    }

-- what is known after a variable was put last
pub made_last : (b : Builder) (vs : List Variable) (v : Variable) → vs ≡ b.variables.list.items ++ v ∷ [] → with_these b (owners_of vs) ≡ with_owners (lasting v.owner) (known b)
made_last b vs v is = ap (with_these b) (ap owners_of is ∙ owners_last b.variables.list.items v)

pub with_none : (b : Builder) → known b ≡ with_owners [] (known b)
with_none b = ap (with_these b) (sym (append-nil (owners_of b.variables.list.items)))

pub received_same : (old now new : Known) (i n : ℕ) → new ≡ with_local i n now → now ≡ with_owners (locals_to i n) old
    → new ≡ with_owners (locals_to i (n + 1)) old
received_same old now new i n last first =
    last ∙ ap (λ k. with_local i n k) first
    ∙ ap (λ os. record { source = old.source; state = record { owners = os; blocks = old.state.blocks; occurrences = old.state.occurrences }; waiting = old.waiting })
    (append_assoc old.state.owners (locals_to i n) (OwnerCode.Local i n ∷ []) ∙ ap (λ m. old.state.owners ++ locals_to i m) (sym (add-one n)))

-- ---- what holds of each item of a list
pub kind_at : (structs : Structs) (fs : List FieldCode) (at : ℕ) (d : FieldCode) → HaveKinds structs (map field_of fs) → at < length fs → HasKind structs (field_of (get_or fs at d))
kind_at structs [] at d kinds low = absurd (omega arith)
kind_at structs (f ∷ fs) zero d kinds low = kinds.0
kind_at structs (f ∷ fs) (suc at) d kinds low = kind_at structs fs at d kinds.1 (omega arith)

pub ready_at : (k : Known) (i : ℕ) (es : List Expression) (at : ℕ) (e : Expression) → AreReady k i (map expression_of es) → slice_get es at ≡ Some e → IsReady k i (expression_of e)
ready_at k i [] at e ready there = let never : None ≡ Some e = there in absurd (cc never)
ready_at k i (x ∷ es) zero e ready there = subst (λ y. IsReady k i (expression_of y)) (same_Some x e there) ready.0
ready_at k i (x ∷ es) (suc at) e ready there = ready_at k i es at e ready.1 there

pub argument_at : (k : Known) (i : ℕ) (args : List ArgumentCode) (at : ℕ) (d : ArgumentCode) → AreArgumentsReady k i (map argument_of args) → at < length args → IsArgumentReady k i (argument_of (get_or args at d))
argument_at k i [] at d ready low = absurd (omega arith)
argument_at k i (x ∷ args) zero d ready low = ready.0
argument_at k i (x ∷ args) (suc at) d ready low = argument_at k i args at d ready.1 (omega arith)

-- ---- what is made is ready
abbrev pub AreThere : Known → ℕ → List ℕ → Type 0
AreThere k i made = (x : ℕ) → Contains made x → IsThere k i x

abbrev pub within : Known → Program → Function → Here
within k p f = record { structs = k.source.structs; program = p; function = f }

pub fields_ready : (structs : Structs) (from kind : Kind) (fs : List FieldAt) → LeadsTo structs from fs kind → HaveKinds structs fs
fields_ready structs from kind [] leads = tt
fields_ready structs from kind (f ∷ fs) leads = ((leads.1.0, leads.1.1), fields_ready structs leads.1.0 kind fs leads.1.2)

pub expression_ready : (k : Known) (i : ℕ) (made : List ℕ) (p : Program) (f : Function) (kind : Kind) (e : Expr) → AreThere k i made → NamesOnly made e
    → IsOf (within k p f) kind e → IsReady k i e
expression_ready k i made p f kind (number n) there names of = tt
expression_ready k i made p f kind input there names of = tt
expression_ready k i made p f kind (value l) there names of = (there l.variable names, fields_ready k.source.structs of.0 kind l.fields of.2)
expression_ready k i made p f kind (minus e) there names of = expression_ready k i made p f _ e there names of.1
expression_ready k i made p f kind (times a b) there names of = (expression_ready k i made p f _ a there names.0 of.1, expression_ready k i made p f _ b there names.1 of.2)
expression_ready k i made p f kind (plus a b) there names of = (expression_ready k i made p f _ a there names.0 of.1, expression_ready k i made p f _ b there names.1 of.2)
expression_ready k i made p f kind (difference a b) there names of = (expression_ready k i made p f _ a there names.0 of.1, expression_ready k i made p f _ b there names.1 of.2)

pub expressions_ready : (k : Known) (i : ℕ) (made : List ℕ) (p : Program) (f : Function) (es : List Expr) (ls : List Local) → AreThere k i made → AllNameOnly made es
    → AllZip (λ e l. IsOf (within k p f) l.kind e) es ls → AreReady k i es
expressions_ready k i made p f [] ls there names of = tt
expressions_ready k i made p f (e ∷ es) [] there names of = absurd of
expressions_ready k i made p f (e ∷ es) (l ∷ ls) there names of =
    (expression_ready k i made p f l.kind e there names.0 of.0, expressions_ready k i made p f es ls there names.1 of.1)

compared_ready : (k : Known) (i : ℕ) (made : List ℕ) (p : Program) (f : Function) (c : Comparison) (a b : Expr) → AreThere k i made → NamesOnly made a → NamesOnly made b
    → AreCompared (within k p f) c a b → IsReady k i a × IsReady k i b
compared_ready k i made p f Equal a b there names more of = (expression_ready k i made p f of.0 a there names of.1, expression_ready k i made p f of.0 b there more of.2)
compared_ready k i made p f Unequal a b there names more of = (expression_ready k i made p f of.0 a there names of.1, expression_ready k i made p f of.0 b there more of.2)
compared_ready k i made p f Below a b there names more of = (expression_ready k i made p f _ a there names of.0, expression_ready k i made p f _ b there more of.1)
compared_ready k i made p f AtMost a b there names more of = (expression_ready k i made p f _ a there names of.0, expression_ready k i made p f _ b there more of.1)
compared_ready k i made p f Above a b there names more of = (expression_ready k i made p f _ a there names of.0, expression_ready k i made p f _ b there more of.1)
compared_ready k i made p f AtLeast a b there names more of = (expression_ready k i made p f _ a there names of.0, expression_ready k i made p f _ b there more of.1)

pub test_ready : (k : Known) (i : ℕ) (made : List ℕ) (p : Program) (f : Function) (c : Cond) → AreThere k i made → TestsOnly made c
    → IsCondition (within k p f) c → IsTestReady k i c
test_ready k i made p f (plain place e) there names of = expression_ready k i made p f of.0 e there names of.1
test_ready k i made p f (compare place c a b) there names of = compared_ready k i made p f c a b there names.0 names.1 of
test_ready k i made p f (negation c) there names of = test_ready k i made p f c there names of
test_ready k i made p f (both c d) there names of = (test_ready k i made p f c there names.0 of.0, test_ready k i made p f d there names.1 of.1)
test_ready k i made p f (either c d) there names of = (test_ready k i made p f c there names.0 of.0, test_ready k i made p f d there names.1 of.1)

pub test_ready_perhaps : (k : Known) (i : ℕ) (made : List ℕ) (p : Program) (f : Function) (c : Option Cond) → AreThere k i made → TestsOnlyPerhaps made c
    → IsConditionPerhaps (within k p f) c → IsTestReadyPerhaps k i c
test_ready_perhaps k i made p f None there names of = tt
test_ready_perhaps k i made p f (Some c) there names of = test_ready k i made p f c there names of

pub argument_ready : (k : Known) (i : ℕ) (made : List ℕ) (a : Argument) → AreThere k i made → IsMadeArgument made a → IsArgumentReady k i a
argument_ready k i made (variable x) there names = there x names
argument_ready k i made (constant c) there names = tt

pub arguments_ready : (k : Known) (i : ℕ) (made : List ℕ) (args : List Argument) → AreThere k i made → AreMadeArguments made args → AreArgumentsReady k i args
arguments_ready k i made [] there names = tt
arguments_ready k i made (a ∷ args) there names = (argument_ready k i made a there names.0, arguments_ready k i made args there names.1)

-- ---- what is ready stays ready
pub still_ready : (k : Known) (s : State) (i : ℕ) (e : Expr) → Still k.state s → IsReady k i e → IsReady (in_state k s) i e
still_ready k s i (number n) still ready = tt
still_ready k s i input still ready = tt
still_ready k s i (value l) still ready = (still.owners _ ready.0, ready.1)
still_ready k s i (minus e) still ready = still_ready k s i e still ready
still_ready k s i (times a b) still ready = (still_ready k s i a still ready.0, still_ready k s i b still ready.1)
still_ready k s i (plus a b) still ready = (still_ready k s i a still ready.0, still_ready k s i b still ready.1)
still_ready k s i (difference a b) still ready = (still_ready k s i a still ready.0, still_ready k s i b still ready.1)

pub all_still_ready : (k : Known) (s : State) (i : ℕ) (es : List Expr) → Still k.state s → AreReady k i es → AreReady (in_state k s) i es
all_still_ready k s i [] still ready = tt
all_still_ready k s i (e ∷ es) still ready = (still_ready k s i e still ready.0, all_still_ready k s i es still ready.1)

-- whatever labels wait
abbrev pub other_waiting : List Awaited → Known → Known
other_waiting ws k = record { source = k.source; state = k.state; waiting = ws }

pub ready_waiting : (k : Known) (ws : List Awaited) (i : ℕ) (e : Expr) → IsReady k i e → IsReady (other_waiting ws k) i e
ready_waiting k ws i (number n) ready = tt
ready_waiting k ws i input ready = tt
ready_waiting k ws i (value l) ready = ready
ready_waiting k ws i (minus e) ready = ready_waiting k ws i e ready
ready_waiting k ws i (times a b) ready = (ready_waiting k ws i a ready.0, ready_waiting k ws i b ready.1)
ready_waiting k ws i (plus a b) ready = (ready_waiting k ws i a ready.0, ready_waiting k ws i b ready.1)
ready_waiting k ws i (difference a b) ready = (ready_waiting k ws i a ready.0, ready_waiting k ws i b ready.1)

pub all_ready_waiting : (k : Known) (ws : List Awaited) (i : ℕ) (es : List Expr) → AreReady k i es → AreReady (other_waiting ws k) i es
all_ready_waiting k ws i [] ready = tt
all_ready_waiting k ws i (e ∷ es) ready = (ready_waiting k ws i e ready.0, all_ready_waiting k ws i es ready.1)

pub test_waiting : (k : Known) (ws : List Awaited) (i : ℕ) (c : Cond) → IsTestReady k i c → IsTestReady (other_waiting ws k) i c
test_waiting k ws i (plain place e) ready = ready_waiting k ws i e ready
test_waiting k ws i (compare place c a b) ready = (ready_waiting k ws i a ready.0, ready_waiting k ws i b ready.1)
test_waiting k ws i (negation c) ready = test_waiting k ws i c ready
test_waiting k ws i (both c d) ready = (test_waiting k ws i c ready.0, test_waiting k ws i d ready.1)
test_waiting k ws i (either c d) ready = (test_waiting k ws i c ready.0, test_waiting k ws i d ready.1)

tests_waiting : (k : Known) (ws : List Awaited) (i : ℕ) (work : List Tested) → AreTestsReady k i work → AreTestsReady (other_waiting ws k) i work
tests_waiting k ws i [] ready = tt
tests_waiting k ws i (t ∷ work) ready = (test_waiting k ws i (condition_of t.condition.now) ready.0, tests_waiting k ws i work ready.1)

-- under a label that waits first, and over it
pub tests_under : (k m : Known) (l : Label) (i : ℕ) (work : List Tested) → k ≡ with_label l m → AreTestsReady k i work → AreTestsReady m i work
tests_under k m l i work is ready = tests_waiting (with_label l m) m.waiting i work (subst (λ x. AreTestsReady x i work) is ready)

pub tests_over : (k m : Known) (l : Label) (i : ℕ) (work : List Tested) → k ≡ with_label l m → AreTestsReady m i work → AreTestsReady k i work
tests_over k m l i work is ready = subst (λ x. AreTestsReady x i work) (sym is) (tests_waiting m (with_label l m).waiting i work ready)

pub test_over : (k m : Known) (l : Label) (i : ℕ) (c : Cond) → k ≡ with_label l m → IsTestReady m i c → IsTestReady k i c
test_over k m l i c is ready = subst (λ x. IsTestReady x i c) (sym is) (test_waiting m (with_label l m).waiting i c ready)

pub test_under : (k m : Known) (l : Label) (i : ℕ) (c : Cond) → k ≡ with_label l m → IsTestReady k i c → IsTestReady m i c
test_under k m l i c is ready = test_waiting (with_label l m) m.waiting i c (subst (λ x. IsTestReady x i c) is ready)

-- ---- blocks and occurrences
abbrev pub with_blocks : Builder → ℕ → Known
with_blocks b n =
    record {
      source = record { program = b.program.now; structs = b.structs.now };
      state = record { owners = owners_of b.variables.list.items; blocks = n; occurrences = length b.lines.outs.items };
      waiting = b.lines.waiting;
    }

pub one_block_more : (b : Builder) (n : ℕ) → n ≡ suc (length b.blocks.items) → with_blocks b n ≡ with_block (known b)
one_block_more b n is = ap (λ m. with_blocks b m) is

pub low_one : (n : ℕ) → 0 < suc n
low_one n = omega arith
