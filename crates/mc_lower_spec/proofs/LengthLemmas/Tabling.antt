-- The table of a program, and its length.
use Rattle.std.proofs.Common.{◌≡◌, ◌≤◌, ◌+◌, ℕ, zero, suc, List, [], ◌∷◌, Some, None, option_map, map, length, refl, sym, ap, ◌∙◌, subst, arith, inl, inr}
use Rattle.std.proofs.lemmas.Option.{same_Some, slice_get-map, slice_get_within}
use Rattle.std.specs.Prelude.{slice_get, slice_index}
use Rattle.mc_semantics.specs.declared.resolved.program.Function.{Function as FunctionCode}
use Rattle.mc_semantics.specs.declared.resolved.program.Resolved.{Resolved}
use Rattle.mc_semantics.specs.Resolved.Programs.{Function, Program}
use Rattle.mc_semantics.specs.Resolved.Views.{function_of, program_of}
use Rattle.mc_lower_spec.specs.Lowering.{IsLowering, IsMain}
use Rattle.mc_lower_spec.proofs.LengthLemmas.Firsts.{AllTo}
use Rattle.mc_lower_spec.proofs.LengthLemmas.Whole.{whole}
use Rattle.mc_lower_spec.specs.Length.Lengths.{IsFalling, IsLength, IsSoMany, IsTable, below, calling_rest, stretch_all}

mapped : {A B : Type 0} (h : A → B) (xs : List A) (i : ℕ) (y : B) → slice_get (map h xs) i ≡ Some y → (x : A) × (slice_get xs i ≡ Some x) × (h x ≡ y)
mapped h [] i y there = absurd (cc there)
mapped h (x ∷ xs) zero y there = (x, refl, same_Some (h x) y there)
mapped h (x ∷ xs) (suc i) y there = mapped h xs i y there

-- each entry is right
pub all_right : (table : List ℕ) (functions : List FunctionCode) (n : ℕ) → length functions ≤ n → AllTo (λ i f. IsSoMany (slice_index table i) (calling_rest table (function_of f))) n functions
    → IsTable table (map function_of functions)
all_right table functions n enough all = λ i f there.
    let (x, at, same) = mapped function_of functions i f there in
    let within = slice_get_within functions i x at in
    subst (λ z. IsSoMany (slice_index table i) (calling_rest table z)) same (all i x (omega (arith, within, enough)) at)

-- one entry more
pub right_to : (table : List ℕ) (functions : List FunctionCode) (n m : ℕ) (f : FunctionCode) → m ≡ n + 1 → slice_get functions n ≡ Some f → IsSoMany (slice_index table n) (calling_rest table (function_of f))
    → AllTo (λ i f. IsSoMany (slice_index table i) (calling_rest table (function_of f))) n functions → AllTo (λ i f. IsSoMany (slice_index table i) (calling_rest table (function_of f))) m functions
right_to table functions n m f next there is all = λ i x less at.
    elim (Rattle.std.proofs.lemmas.Bool.cases_lt i n) [
      | inl early ↦ all i x early at
      | inr late ↦
          let here : n ≡ i = omega (arith, late, less, next) in
          let same : f ≡ x = same_Some f x (sym there ∙ ap (λ j. slice_get functions j) here ∙ at) in
          subst (λ j. IsSoMany (slice_index table j) (calling_rest table (function_of x))) here (subst (λ z. IsSoMany (slice_index table n) (calling_rest table (function_of z))) same is)
    ]

pub falls_in_main : (f : Function) → IsMain f → IsFalling f 1
falls_in_main f is = (λ again. refl, λ never. absurd (never is))

pub falls_nowhere : (f : Function) → (IsMain f → ⊥) → IsFalling f 0
falls_nowhere f never = (λ is. absurd (never is), λ again. refl)

pub no_entry : (program : Resolved) → slice_get program.functions.items program.entry ≡ None → IsLength program 0
no_entry program absent = λ g defs f out count is lowering.
    let there : slice_get (program_of program defs).functions (program_of program defs).entry ≡ Some f = subst (λ (p : Program). slice_get p.functions p.entry ≡ Some f) is lowering.there in
    let none : slice_get (map function_of program.functions.items) program.entry ≡ None = slice_get-map function_of program.functions.items program.entry ∙ ap (λ o. option_map function_of o) absent in
    absurd (cc (there, none))

same_body : (table : List ℕ) (f : Function) (parameters : ℕ) → parameters ≡ 0 → stretch_all table (below parameters) [] f.body ≡ stretch_all table [] [] f.body
same_body table f parameters alone = ap (λ n. stretch_all table (below n) [] f.body) alone

pub so_long : (program : Resolved) (entry : FunctionCode) (table : List ℕ) (n d : ℕ) → slice_get program.functions.items program.entry ≡ Some entry → IsTable table (map function_of program.functions.items)
    → IsFalling (function_of entry) d → n ≡ stretch_all table (below entry.parameters) [] (function_of entry).body + (2 + d) → IsLength program n
so_long program entry table n d there right falling counted = λ g defs f out count is lowering.
    let at : slice_get (program_of program defs).functions (program_of program defs).entry ≡ Some f = subst (λ (p : Program). slice_get p.functions p.entry ≡ Some f) is lowering.there in
    let own : slice_get (map function_of program.functions.items) program.entry ≡ Some (function_of entry) = slice_get-map function_of program.functions.items program.entry ∙ ap (λ o. option_map function_of o) there in
    let same : f ≡ function_of entry = same_Some f (function_of entry) (sym at ∙ own) in
    let lowered : IsLowering g (function_of entry) out count = subst (λ z. IsLowering g z out count) same lowering in
    let table_there : IsTable table g.program.functions = subst (λ (p : Program). IsTable table p.functions) (sym is) right in
    let m = whole g table (function_of entry) out count d table_there lowered falling in
    let alone : entry.parameters ≡ 0 = lowered.alone in
    let body = same_body table (function_of entry) entry.parameters alone in
    record { least = omega (arith, m.least, counted, body); most = λ few. let y = m.most (omega (arith, few, counted, body)) in omega (arith, y, counted, body) }
