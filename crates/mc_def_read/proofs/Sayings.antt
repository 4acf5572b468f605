-- Steps of the judge.
use native.Mathlib.Omega.{arith}
use Rattle.std.proofs.Common.{◌≡◌, ℕ, zero, suc, ◌+◌, ◌-◌, ◌≤◌, ◌==◌, List, [], ◌∷◌, ◌++◌, length, take, drop, get_or, refl, ap, sym, ◌∙◌, subst, Bool, true, false, map}
use Rattle.std.specs.Prelude.{Option, Some, None, Result, Ok, Err, position, slice_get, slice_set, is_some, replicate}
use Rattle.std.proofs.lemmas.Bool.Decides.{nat_tests}
use Rattle.mc_base.specs.declared.plain.Kind.{Kind}
use Rattle.mc_c_syntax.specs.declared.ast.trees.Name.{Name}
use Rattle.mc_c_syntax.specs.Ast.Names.{is_same}
use Rattle.mc_flow.specs.declared.defs.shapes.StructInfo.{StructInfo}
use Rattle.mc_flow.specs.declared.defs.shapes.FieldInfo.{FieldInfo}
use Rattle.mc_def_read.specs.Scopes.{with_name}
use Rattle.mc_flow.specs.Defs.Conditions.{numbers_from}
use Rattle.mc_def_parse.specs.declared.fault.DefFault.{DefFault}
use Rattle.mc_def_parse.specs.declared.fault.DefFault.TheVariants.{Refused, NoMemory}
use Rattle.mc_def_parse.specs.declared.tree.Content.{Content}
use Rattle.mc_def_parse.specs.declared.tree.Block.{Block}
use Rattle.mc_def_read.specs.Judging.{at_end, Judged, ◌>>=◌, Finds, Scope, Held, number_in, holds, contents, placed, holders, block_of, nothing_held, call_with, call_at}

pub finds_same : {A B : Type 0} (judged other : Judged A) (of : B → A) (r : Result B DefFault) → judged ≡ other → Finds other of r → Finds judged of r
finds_same judged other of (Ok b) e f = e ∙ f
finds_same judged other of (Err (Refused r)) e f = e ∙ f
finds_same judged other of (Err NoMemory) e f = tt

-- ---- calls
pub first_rest : {X : Type 0} (xs : List X) (x : X) → 1 ≤ length xs → x ≡ get_or xs 0 x → xs ≡ x ∷ take (length xs - 1) (drop 1 xs)
first_rest [] x some is = absurd (omega arith)
first_rest {X} (y ∷ xs) x some is = let e : suc (length xs) - 1 ≡ length xs = omega arith in rw (e, is) (ap (λ ys. y ∷ ys) (sym (whole xs))) where
  whole : (ys : List X) → take (length ys) ys ≡ ys
  whole [] = refl
  whole (z ∷ ys) = ap (λ zs. z ∷ zs) (whole ys)

pub mapped_long : {X Y : Type 0} (f : X → Y) (xs : List X) → length xs ≡ length (map f xs)
mapped_long f [] = refl
mapped_long f (x ∷ xs) = ap (λ n. suc n) (mapped_long f xs)

same_test : (m n : ℕ) → m ≡ n → (m == n) ≡ true
same_test m n e = grind (arith, nat_tests)

pub call_with_more : (scope : Scope) (pred : ℕ) (ps : List Kind) (p x : Name) (xs rest : List Name) → xs ≡ x ∷ rest → length rest ≡ length ps → call_with scope pred ps p xs ≡ call_at scope pred ps x rest
call_with_more scope pred ps p x xs rest e same = rw e (rw (same_test (length rest) (length ps) same) refl)

-- ---- blocks
pub holds_ok : (fields : List (List ℕ)) (held : Held) (number : ℕ) (c : Content) (i : ℕ) → position (λ name. is_same name c.field.text) fields ≡ Some i → slice_get held.fields i ≡ Some None → is_some (number_in held.names c.name.text) ≡ false → holds fields held number c ≡ Ok (record { names = held.names ++ c.name.text ∷ []; fields = slice_set held.fields i (Some number) })
holds_ok fields held number c i e f g = rw (e, f, g) refl

pub contents_fails : {B C : Type 0} (fields : List (List ℕ)) (held : Held) (n : ℕ) (c : Content) (list rest : List Content) (whole : Judged Held) (of : B → Held) (of' : C → Held) (fault : DefFault) → whole ≡ contents fields held n list → list ≡ c ∷ rest → Finds (holds fields held n c) of (Err fault) → Finds whole of' (Err fault)
contents_fails fields held n c list rest whole of of' (Refused r) w e f = w ∙ ap (contents fields held n) e ∙ ap (λ j. j >>= (λ next. contents fields next (suc n) rest)) f
contents_fails fields held n c list rest whole of of' NoMemory w e f = tt

-- ---- numbers
pub numbers_push : (first n : ℕ) → numbers_from first n ++ (first + n) ∷ [] ≡ numbers_from first (suc n)
numbers_push first zero = let e : first + 0 ≡ first = omega arith in rw e refl
numbers_push first (suc n) = let e : first + suc n ≡ suc first + n = omega arith in rw e (ap (λ ns. first ∷ ns) (numbers_push (suc first) n))

pub numbers_next : (first n : ℕ) → numbers_from first n ++ (first + n) ∷ [] ≡ numbers_from first (n + 1)
numbers_next first n = let e : n + 1 ≡ suc n = omega arith in rw e (numbers_push first n)

pub drop_get : {X : Type 0} (xs : List X) (i : ℕ) (x : X) → slice_get xs i ≡ Some x → drop i xs ≡ x ∷ drop (i + 1) xs
drop_get [] i x e = absurd (cc)
drop_get (y ∷ xs) zero x e = let same : y ≡ x = cc in rw same refl
drop_get (y ∷ xs) (suc i) x e = let n : suc i + 1 ≡ suc (i + 1) = omega arith in rw n (drop_get xs i x e)

pub placed_step : (b : Block) (s : Scope) (fields fs : List FieldInfo) (held hs : List (Option ℕ)) (f : FieldInfo) (n : ℕ) (c : Content) → fields ≡ f ∷ fs → held ≡ Some n ∷ hs → slice_get b.contents n ≡ Some c → placed b s fields held ≡ placed b (with_name s f.kind c.name.text) fs hs
placed_step b s fields fs held hs f n c e h there = rw (e, h) (rw there refl)

pub placed_none : (b : Block) (s : Scope) (fields fs : List FieldInfo) (held hs : List (Option ℕ)) (f : FieldInfo) (n : ℕ) → fields ≡ f ∷ fs → held ≡ Some n ∷ hs → slice_get b.contents n ≡ None → placed b s fields held ≡ Err (at_end b)
placed_none b s fields fs held hs f n e h there = rw (e, h) (rw there refl)

pub placed_missing : (b : Block) (s : Scope) (fields fs : List FieldInfo) (held hs : List (Option ℕ)) (f : FieldInfo) → fields ≡ f ∷ fs → held ≡ None ∷ hs → placed b s fields held ≡ Err (at_end b)
placed_missing b s fields fs held hs f e h = rw (e, h) refl

pub drop_none : {X : Type 0} (xs : List X) (i : ℕ) → slice_get xs i ≡ None → drop i xs ≡ []
drop_none [] zero e = refl
drop_none [] (suc i) e = refl
drop_none (x ∷ xs) zero e = absurd (cc)
drop_none (x ∷ xs) (suc i) e = drop_none xs i e

pub placed_short : (b : Block) (s : Scope) (fields fs : List FieldInfo) (held : List (Option ℕ)) (f : FieldInfo) → fields ≡ f ∷ fs → held ≡ [] → placed b s fields held ≡ Err (at_end b)
placed_short b s fields fs held f e h = rw (e, h) refl

abbrev names_of : StructInfo → List (List ℕ)
names_of info = map (λ field. field.name) info.fields

pub nothing_is : (front own : List (List ℕ)) (kinds : List Kind) (info : StructInfo) (held : Held) → own ≡ [] → held ≡ record { names = front ++ []; fields = replicate (length info.fields) None } → held ≡ nothing_held (record { names = front ++ own; kinds = kinds }) info
nothing_is front own kinds info held e h = rw e h

-- the contents of a block
pub holders_are : (scope : Scope) (info : StructInfo) (b : Block) (names : List (List ℕ)) (held : Held) (list : List Content) (j : Judged Held) → contents names held 0 list ≡ j → names ≡ names_of info → held ≡ nothing_held scope info → list ≡ b.contents → holders scope info b ≡ (j >>= (λ (x : Held). Ok x.fields))
holders_are scope info b names held list j f e h l =
    let g = subst (λ (ns : List (List ℕ)). contents ns held 0 list ≡ j) e f in
    let k = subst (λ (x : Held). contents (names_of info) x 0 list ≡ j) h g in
    let m = subst (λ (cs : List Content). contents (names_of info) (nothing_held scope info) 0 cs ≡ j) l k in
    ap (λ (i : Judged Held). i >>= (λ (x : Held). Ok x.fields)) m

pub holders_fail : {B C : Type 0} (scope : Scope) (info : StructInfo) (b : Block) (names : List (List ℕ)) (held : Held) (list : List Content) (of : B → Held) (of' : C → List (Option ℕ)) (fault : DefFault) → Finds (contents names held 0 list) of (Err fault) → names ≡ names_of info → held ≡ nothing_held scope info → list ≡ b.contents → Finds (holders scope info b) of' (Err fault)
holders_fail scope info b names held list of of' NoMemory f e h l = tt
holders_fail scope info b names held list of of' (Refused r) f e h l = holders_are scope info b names held list (Err r) f e h l

pub holders_end : (scope : Scope) (info : StructInfo) (b : Block) (names : List (List ℕ)) (held done : Held) (list : List Content) → contents names held 0 list ≡ Ok done → names ≡ names_of info → held ≡ nothing_held scope info → list ≡ b.contents → holders scope info b ≡ Ok done.fields
holders_end scope info b names held done list f e h l = holders_are scope info b names held list (Ok done) f e h l
