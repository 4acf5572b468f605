-- Definitions whose blocks agree fit some structs: each struct has the fields that the first rule with a block of it has.
use Rattle.std.proofs.Common.{◌≡◌, ℕ, zero, suc, ◌+◌, ◌<◌, ◌≤◌, ◌⊎◌, Bool, true, false, cond, Option, Some, None, List, [], ◌∷◌, map, take, drop, length, get_or, slice_get, refl, sym, ◌∙◌, ap, subst, inl, inr, arith, length-take, length-drop}
use Rattle.std.specs.Prelude.{All, nat_eq, unwrap_or, option_map}
use Rattle.std.proofs.lemmas.Bool.Decides.{nat_tests}
use Rattle.mc_base.specs.declared.ids.StructId.{StructId}
use Rattle.mc_base.specs.declared.plain.Kind.{Kind}
use Rattle.mc_flow.specs.declared.defs.rules.Def.{Def}
use Rattle.mc_flow.specs.declared.defs.rules.DefAtom.{DefAtom}
use Rattle.mc_flow.specs.declared.defs.rules.DefAtom.TheVariants.{Eq, Ne, In}
use Rattle.mc_flow.specs.declared.defs.rules.Rule.{Rule}
use Rattle.mc_flow.specs.declared.defs.shapes.FieldInfo.{FieldInfo}
use Rattle.mc_flow.specs.declared.defs.shapes.StructInfo.{StructInfo}
use Rattle.mc_flow.specs.Defs.Conditions.{numbers_from, kinds_of, content_kinds, known_after, AtomsFit, HasNames, RuleFitsStructs, DefFits, IsDefs, Agree, RuleFitsAlone, DefFitsAlone}

-- ---- lists
module _ {A : Type 0} where
  pub all_tail : (P : A → Type 0) (x : A) (xs : List A) → All P (x ∷ xs) → All P xs
  all_tail P x xs a = λ k d lt. a (suc k) d (omega arith)

  pub all_head : (P : A → Type 0) (x : A) (xs : List A) → All P (x ∷ xs) → P x
  all_head P x xs a = a 0 x (omega arith)

  pub all_nil : (P : A → Type 0) → All P []
  all_nil P = λ k d lt. absurd (omega arith)

  pub all_cons : (P : A → Type 0) (x : A) (xs : List A) → P x → All P xs → All P (x ∷ xs)
  all_cons P x xs p a = λ k d lt. go P x xs p a k d lt
    where
      go : (P : A → Type 0) (x : A) (xs : List A) → P x → All P xs → (k : ℕ) (d : A) → k < length (x ∷ xs) → P (get_or (x ∷ xs) k d)
      go P x xs p a zero d lt = p
      go P x xs p a (suc k) d lt = a k d (omega arith)

  pub all_at : (P : A → Type 0) (xs : List A) (i : ℕ) (x : A) → slice_get xs i ≡ Some x → All P xs → P x
  all_at P [] i x e a = cc
  all_at P (y ∷ ys) zero x e a = let is : y ≡ x = cc in subst P is (all_head P y ys a)
  all_at P (y ∷ ys) (suc i) x e a = all_at P ys i x e (all_tail P y ys a)

  get_at : (xs : List A) (i : ℕ) (d : A) → i < length xs → slice_get xs i ≡ Some (get_or xs i d)
  get_at [] i d lt = absurd (omega arith)
  get_at (x ∷ xs) zero d lt = refl
  get_at (x ∷ xs) (suc i) d lt = get_at xs i d (omega arith)

  -- what holds of each element at its place holds of each
  all_from : (P : A → Type 0) (xs : List A) → ((i : ℕ) (x : A) → slice_get xs i ≡ Some x → P x) → All P xs
  all_from P xs f = λ k d lt. f k (get_or xs k d) (get_at xs k d lt)

  total_of : (A → ℕ) → List A → ℕ
  total_of f [] = 0
  total_of f (x ∷ xs) = f x + total_of f xs

  one_below : (f : A → ℕ) (xs : List A) (i : ℕ) (x : A) → slice_get xs i ≡ Some x → f x ≤ total_of f xs
  unfolding total_of
  one_below f [] i x e = cc
  one_below f (y ∷ ys) zero x e = let is : f y ≡ f x = cc in omega arith
  one_below f (y ∷ ys) (suc i) x e = let le = one_below f ys i x e in omega (arith, le)

get_numbers : {B : Type 0} (f : ℕ → B) (i n s : ℕ) → s < n → slice_get (map f (numbers_from i n)) s ≡ Some (f (i + s))
get_numbers f i zero s lt = absurd (omega arith)
get_numbers f i (suc n) zero lt = let e : i ≡ i + 0 = omega arith in ap (λ m. Some (f m)) e
get_numbers f i (suc n) (suc s) lt =
    let e : suc i + s ≡ i + suc s = omega arith in get_numbers f (suc i) n s (omega arith) ∙ ap (λ m. Some (f m)) e

-- ---- the names of a rule
pub known_grows : (known : ℕ) (a : DefAtom) → known ≤ known_after known a
known_grows known (Eq left base add true) = omega arith
known_grows known (Eq left base add false) = omega arith
known_grows known (Ne left base add) = omega arith
known_grows known (In left lo hi) = omega arith

pub known_within : (names : List Kind) (known : ℕ) (atoms : List DefAtom) → AtomsFit names known atoms → known ≤ length names
known_within names known [] fit = omega arith
known_within names known (a ∷ atoms) fit =
    let rest = known_within names (known_after known a) atoms fit.1 in
    let step = known_grows known a in omega (arith, rest, step)

nil_of_length : {A : Type 0} (xs : List A) → length xs ≡ 0 → xs ≡ []
nil_of_length [] e = refl
nil_of_length (x ∷ xs) e = absurd (omega arith)

none_taken : (names : List Kind) (p : ℕ) (contents : List ℕ) → suc p + length contents ≤ length names → take (length contents) (drop (suc p) names) ≡ [] → contents ≡ []
none_taken names p contents le e =
    let count : length (take (length contents) (drop (suc p) names)) ≡ 0 = ap length e in
    nil_of_length contents (omega (arith, count, length-take (length contents) (drop (suc p) names), length-drop (suc p) names))

bare_of : (structs : List StructInfo) (params : List Kind) (rule : Rule) → HasNames params rule → kinds_of structs rule.block ≡ Some (content_kinds params rule) → rule.block ≡ None → rule.contents ≡ []
bare_of structs params rule names block none =
    let e : Some [] ≡ Some (content_kinds params rule) = ap (kinds_of structs) (sym none) ∙ block in
    let nothing : content_kinds params rule ≡ [] = cc in
    none_taken rule.names (length params) rule.contents (known_within rule.names _ rule.atoms names.atoms) nothing

-- ---- definitions that fit structs fit alone
agree_of : (structs : List StructInfo) (p : List Kind) (r : Rule) (q : List Kind) (o : Rule) → kinds_of structs r.block ≡ Some (content_kinds p r) → kinds_of structs o.block ≡ Some (content_kinds q o) → Agree p r q o
agree_of structs p r q o e f = λ shape is same.
    let left : kinds_of structs (Some shape) ≡ Some (content_kinds p r) = ap (kinds_of structs) (sym is) ∙ e in
    let right : kinds_of structs (Some shape) ≡ Some (content_kinds q o) = ap (kinds_of structs) (sym same) ∙ f in
    cc

pub fit_alone : (defs : List Def) → IsDefs defs → All (DefFitsAlone defs) defs
fit_alone defs d =
    all_from (DefFitsAlone defs) defs (λ i def at.
    let fits = all_at (DefFits d.0 defs) defs i def at d.1 in
    record {
      some = fits.some;
      rules = all_from (RuleFitsAlone defs def.params) def.rules (λ j rule in_def.
          let one = all_at (RuleFitsStructs d.0 defs def.params) def.rules j rule in_def fits.rules in
          record {
            fits = one.fits;
            bare = bare_of d.0 def.params rule one.fits.names one.block;
            agrees = all_from (λ e. All (λ o. Agree def.params rule e.params o) e.rules) defs (λ k e there.
                let others = all_at (DefFits d.0 defs) defs k e there d.1 in
                all_from (λ o. Agree def.params rule e.params o) e.rules (λ l o in_e.
                agree_of d.0 def.params rule e.params o one.block (all_at (RuleFitsStructs d.0 defs e.params) e.rules l o in_e others.rules).block));
          });
    })

-- ---- definitions that fit alone fit the structs that they show
is_shape : Option StructId → ℕ → Bool
is_shape None s = false
is_shape (Some shape) s = nat_eq shape.0 s

either : {A : Type 0} → Option A → Option A → Option A
either None y = y
either (Some x) y = Some x

in_rules : List Kind → ℕ → List Rule → Option (List Kind)
in_rules params s [] = None
in_rules params s (r ∷ rs) = cond (is_shape r.block s) (Some (content_kinds params r)) (in_rules params s rs)

in_defs : ℕ → List Def → Option (List Kind)
in_defs s [] = None
in_defs s (d ∷ ds) = either (in_rules d.params s d.rules) (in_defs s ds)

module _ (s : ℕ) (kinds : List Kind) where
  abbrev Shows : List Kind → Rule → Type 0
  Shows params r = is_shape r.block s ≡ true → content_kinds params r ≡ kinds

  rules_show : (params : List Kind) (rs : List Rule) → All (Shows params) rs → (in_rules params s rs ≡ None) ⊎ (in_rules params s rs ≡ Some kinds)
  unfolding in_rules
  rules_show params [] a = inl refl
  rules_show params (r ∷ rs) a =
      elim (is_shape r.block s) as (λ b. is_shape r.block s ≡ b → (cond b (Some (content_kinds params r)) (in_rules params s rs) ≡ None) ⊎ (cond b (Some (content_kinds params r)) (in_rules params s rs) ≡ Some kinds)) [
        | true ↦ λ e. inr (ap Some (all_head (Shows params) r rs a e))
        | false ↦ λ e. rules_show params rs (all_tail (Shows params) r rs a)
      ] refl

  rules_found : (params : List Kind) (rs : List Rule) → All (Shows params) rs → (i : ℕ) (r : Rule) → slice_get rs i ≡ Some r → is_shape r.block s ≡ true → in_rules params s rs ≡ Some kinds
  unfolding in_rules
  rules_found params [] a i r at is = cc
  rules_found params (o ∷ rs) a zero r at is =
      let same : o ≡ r = cc in
      let here : is_shape o.block s ≡ true = ap (λ (x : Rule). is_shape x.block s) same ∙ is in
      ap (λ b. cond b (Some (content_kinds params o)) (in_rules params s rs)) here ∙ ap Some (all_head (Shows params) o rs a here)
  rules_found params (o ∷ rs) a (suc i) r at is =
      elim (is_shape o.block s) as (λ b. is_shape o.block s ≡ b → cond b (Some (content_kinds params o)) (in_rules params s rs) ≡ Some kinds) [
        | true ↦ λ e. ap Some (all_head (Shows params) o rs a e)
        | false ↦ λ e. rules_found params rs (all_tail (Shows params) o rs a) i r at is
      ] refl

  abbrev DefShows : Def → Type 0
  DefShows d = All (Shows d.params) d.rules

  defs_found : (ds : List Def) → All DefShows ds → (i : ℕ) (d : Def) → slice_get ds i ≡ Some d → (j : ℕ) (r : Rule) → slice_get d.rules j ≡ Some r → is_shape r.block s ≡ true → in_defs s ds ≡ Some kinds
  unfolding in_defs either
  defs_found [] a i d at j r in_d is = cc
  defs_found (e ∷ ds) a zero d at j r in_d is =
      let same : e ≡ d = cc in
      ap (λ x. either x (in_defs s ds)) (rules_found e.params e.rules (all_head DefShows e ds a) j r (ap (λ (x : Def). slice_get x.rules j) same ∙ in_d) is)
  defs_found (e ∷ ds) a (suc i) d at j r in_d is =
      elim (rules_show e.params e.rules (all_head DefShows e ds a)) [
        | inl none ↦ ap (λ x. either x (in_defs s ds)) none ∙ defs_found ds (all_tail DefShows e ds a) i d at j r in_d is
        | inr found ↦ ap (λ x. either x (in_defs s ds)) found
      ]

field_with : Kind → FieldInfo
field_with kind = record { name = []; kind = kind }

struct_with : List Kind → StructInfo
struct_with kinds = record { name = []; fields = map field_with kinds }

kinds_back : (kinds : List Kind) → map (λ (field : FieldInfo). field.kind) (map field_with kinds) ≡ kinds
unfolding field_with
kinds_back [] = refl
kinds_back (k ∷ ks) = ap (λ xs. k ∷ xs) (kinds_back ks)

rule_bound : Rule → ℕ
rule_bound r = elim r.block [ None ↦ 0 | Some shape ↦ suc shape.0 ]

def_bound : Def → ℕ
def_bound d = total_of rule_bound d.rules

shown : List Def → List StructInfo
shown defs = map (λ s. struct_with (unwrap_or (in_defs s defs) [])) (numbers_from 0 (total_of def_bound defs))

within : (defs : List Def) (i : ℕ) (d : Def) → slice_get defs i ≡ Some d → (j : ℕ) (r : Rule) → slice_get d.rules j ≡ Some r → (shape : StructId) → r.block ≡ Some shape → shape.0 < total_of def_bound defs
unfolding def_bound rule_bound
within defs i d at j r in_d shape is =
    let outer = one_below def_bound defs i d at in
    let inner = one_below rule_bound d.rules j r in_d in
    let here : rule_bound r ≡ suc shape.0 = rw is refl in
    omega (arith, outer, inner, here)

is_itself : (block : Option StructId) (shape : StructId) → block ≡ Some shape → is_shape block shape.0 ≡ true
unfolding is_shape
is_itself None shape e = cc
is_itself (Some t) shape e = let same : t ≡ shape = cc in rw same (grind (arith, nat_tests))

same_shape : (block : Option StructId) (shape : StructId) → is_shape block shape.0 ≡ true → block ≡ Some shape
unfolding is_shape
same_shape None shape e = cc
same_shape (Some t) shape e = let same : t.0 ≡ shape.0 = grind (arith, nat_tests) in ap (λ n. Some (record { 0 = n })) same

shown_has : (defs : List Def) → All (DefFitsAlone defs) defs → (i : ℕ) (d : Def) → slice_get defs i ≡ Some d → (j : ℕ) (r : Rule) → slice_get d.rules j ≡ Some r → (shape : StructId) → r.block ≡ Some shape → kinds_of (shown defs) (Some shape) ≡ Some (content_kinds d.params r)
unfolding shown struct_with
shown_has defs all i d at j r in_d shape is =
    let one = all_at (RuleFitsAlone defs d.params) d.rules j r in_d (all_at (DefFitsAlone defs) defs i d at all).rules in
    let found : in_defs shape.0 defs ≡ Some (content_kinds d.params r) =
    defs_found shape.0 (content_kinds d.params r) defs
    (all_from (DefShows shape.0 (content_kinds d.params r)) defs (λ k e there.
    all_from (Shows shape.0 (content_kinds d.params r) e.params) e.rules (λ l o in_e yes.
    sym (all_at (λ x. Agree d.params r e.params x) e.rules l o in_e (all_at (λ e. All (λ x. Agree d.params r e.params x) e.rules) defs k e there one.agrees) shape is (same_shape o.block shape yes)))))
    i d at j r in_d (is_itself r.block shape is) in
    let made = get_numbers (λ s. struct_with (unwrap_or (in_defs s defs) [])) 0 (total_of def_bound defs) shape.0 (within defs i d at j r in_d shape is) in
    let number : 0 + shape.0 ≡ shape.0 = omega arith in
    let here : slice_get (shown defs) shape.0 ≡ Some (struct_with (content_kinds d.params r)) =
    made ∙ ap (λ n. Some (struct_with (unwrap_or (in_defs n defs) []))) number ∙ ap (λ o. Some (struct_with (unwrap_or o []))) found in
    ap (option_map (λ (info : StructInfo). map (λ (field : FieldInfo). field.kind) info.fields)) here ∙ ap Some (kinds_back (content_kinds d.params r))

block_of : (defs : List Def) → All (DefFitsAlone defs) defs → (i : ℕ) (d : Def) → slice_get defs i ≡ Some d → (j : ℕ) (r : Rule) → slice_get d.rules j ≡ Some r → (block : Option StructId) → r.block ≡ block → kinds_of (shown defs) block ≡ Some (content_kinds d.params r)
block_of defs all i d at j r in_d None is =
    let one = all_at (RuleFitsAlone defs d.params) d.rules j r in_d (all_at (DefFitsAlone defs) defs i d at all).rules in
    ap (λ (contents : List ℕ). Some (take (length contents) (drop (suc (length d.params)) r.names))) (sym (one.bare is))
block_of defs all i d at j r in_d (Some shape) is = shown_has defs all i d at j r in_d shape is

pub fit_some : (defs : List Def) → All (DefFitsAlone defs) defs → IsDefs defs
fit_some defs all = (
  shown defs,
  all_from (DefFits (shown defs) defs) defs (λ i d at.
      let fits = all_at (DefFitsAlone defs) defs i d at all in
      record {
        some = fits.some;
        rules = all_from (RuleFitsStructs (shown defs) defs d.params) d.rules (λ j r in_d.
            record { block = block_of defs all i d at j r in_d r.block refl; fits = (all_at (RuleFitsAlone defs d.params) d.rules j r in_d fits.rules).fits });
      }),
)
