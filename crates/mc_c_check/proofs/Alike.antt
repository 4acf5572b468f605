-- Prototypes that say nothing new.
use Rattle.std.proofs.Common.{◌≡◌, ◌++◌, ℕ, List, [], ◌∷◌, ◌<◌, zero, suc, arith, refl, ap, sym, subst, ◌∙◌, map, get_or, length, reverse, Bool, true, false, ◌||◌, ◌&&◌, cond, not, Bor}
use Rattle.std.proofs.lemmas.List.{reverse-append}
use Rattle.std.proofs.lemmas.Option.{get_or_from_slice_get, slice_get_within}
use Rattle.std.specs.Cmp.Lexicographic.{bytes_decides}
use Rattle.std.specs.Prelude.{Option, Some, None, filter, is_some, option_map, slice_get}
use Rattle.std.specs.List.{list_any}
use Rattle.mc_c_syntax.specs.declared.ast.trees.Body.{Body}
use Rattle.mc_c_syntax.specs.declared.ast.trees.Function.{Function}
use Rattle.mc_c_syntax.specs.Ast.Trees.{FunctionTree}
use Rattle.mc_c_syntax.specs.Ast.Names.{is_same}
use Rattle.mc_c_syntax.specs.Ast.Views.{body_of, function_of}
use Rattle.mc_c_types.specs.Faults.{is_other, prototype_faults, unless}
use Rattle.mc_c_types.specs.First.{is_told, told_of}
use Rattle.mc_c_types.specs.Tables.{Tables, is_defined, listed_parameters, parameters_of, returned_type, same_result, same_type}
use Rattle.mc_c_types.specs.Types.{all_agree}
use Rattle.mc_c_types.specs.declared.faults.Fault.{Fault}
use Rattle.mc_c_types.specs.declared.faults.FaultName.TheVariants.{Mismatch}
use Rattle.mc_c_check.specs.Collected.{functions_held}
use Rattle.mc_c_check.specs.Prototypes.{AreAlike, IsRepeat}
use Rattle.mc_c_check.specs.Told.{IsBehind}
use Rattle.mc_c_check.proofs.Agreements.{type_of, types_of}
use Rattle.mc_c_check.proofs.Repeats.{any_mapped, any_seen, tree_of}

-- ---- functions that are alike
defined_of : (o : Option Body) → is_some (option_map body_of o) ≡ is_some o
defined_of None = refl
defined_of (Some b) = refl

same_name : (a b : List ℕ) → is_same a b ≡ true → a ≡ b
same_name a b same = (bytes_decides a b).0 same

pub are_alike : (t : Tables) (f g : Function) → is_same f.name.text g.name.text ≡ true → is_some f.body ≡ is_some g.body
    → returned_type t (function_of f).returned ≡ returned_type t (function_of g).returned
    → map (type_of t) (listed_parameters (function_of f).parameters) ≡ map (type_of t) (listed_parameters (function_of g).parameters) → AreAlike t (function_of f) (function_of g)
are_alike t f g name defined result parameters h =
    ap (λ n. is_same h.name.text n && not (is_defined h && is_defined (function_of f)) && not (same_type t h (function_of f))) (same_name f.name.text g.name.text name)
    ∙ ap (λ b. is_same h.name.text g.name.text && not (is_defined h && b) && not (same_type t h (function_of f))) (defined_of f.body ∙ defined ∙ sym (defined_of g.body))
    ∙ ap (λ b. is_same h.name.text g.name.text && not (is_defined h && is_defined (function_of g)) && not b) types where
      types : same_type t h (function_of f) ≡ same_type t h (function_of g)
      types =
          ap (λ r. same_result (returned_type t h.returned) r && all_agree (map (λ v. v.type) (parameters_of t h)) (map (λ v. v.type) (parameters_of t (function_of f)))) result
          ∙ ap (λ ts. same_result (returned_type t h.returned) (returned_type t (function_of g).returned) && all_agree (map (λ v. v.type) (parameters_of t h)) ts)
          (types_of t (listed_parameters (function_of f).parameters) ∙ parameters ∙ sym (types_of t (listed_parameters (function_of g).parameters)))

-- ---- what is among more
or_later : (a b : Bool) → b ≡ true → (a || b) ≡ true
or_later true b e = refl
or_later false b e = e

or_more : (p : Bool) (a b : Bool) → (a ≡ true → b ≡ true) → (p || a) ≡ true → (p || b) ≡ true
or_more true a b more e = refl
or_more false a b more e = more e

kept_step : {X : Type 0} (p : X → Bool) (x : X) (some all : List X) (b : Bool) → (list_any p some ≡ true → list_any p all ≡ true)
    → list_any p (cond b (x ∷ some) some) ≡ true → (p x || list_any p all) ≡ true
kept_step p x some all true more e = or_more (p x) (list_any p some) (list_any p all) more e
kept_step p x some all false more e = or_later (p x) (list_any p all) (more e)

any_kept : {X : Type 0} (p q : X → Bool) (xs : List X) → list_any p (filter q xs) ≡ true → list_any p xs ≡ true
any_kept p q [] e = e
any_kept p q (x ∷ xs) e = kept_step p x (filter q xs) xs (q x) (any_kept p q xs) e

-- one of a list is among all
any_at : {X Y : Type 0} (p : Y → Bool) (f : X → Y) (xs : List X) (k : ℕ) (x : X) → k < length xs → get_or xs k x ≡ x → p (f x) ≡ true → list_any p (map f xs) ≡ true
any_at p f [] k x below is e = absurd (omega arith)
any_at p f (y ∷ xs) zero x below is e = rw is (rw e refl)
any_at p f (y ∷ xs) (suc k) x below is e = or_later (p (f y)) (list_any p (map f xs)) (any_at p f xs k x (omega arith) is e)

-- a function that is like one of these
pub repeats_one : (t : Tables) (f : FunctionTree) (fs : List (Bor Function)) (k : ℕ) (x : Bor Function) → Some x ≡ slice_get fs k → AreAlike t f (tree_of x) → IsRepeat t f (functions_held fs)
repeats_one t f fs k x at alike h e =
    any_at (is_other t h) tree_of fs k x (slice_get_within fs k x (sym at)) (get_or_from_slice_get fs k x x (sym at)) (sym (alike h) ∙ e)

-- ---- what is compared with
pub same_faults : (t : Tables) (before others fs : List FunctionTree) → ((h : FunctionTree) → list_any (is_other t h) before ≡ list_any (is_other t h) others)
    → prototype_faults t before fs ≡ prototype_faults t others fs
same_faults t before others [] same = refl
same_faults t before others (f ∷ fs) same =
    ap (λ b. unless (not b) Mismatch f.name.place ++ prototype_faults t (f ∷ before) fs) (same f)
    ∙ ap (λ r. unless (not (list_any (is_other t f) others)) Mismatch f.name.place ++ r) (same_faults t (f ∷ before) (f ∷ others) fs (λ h. ap (λ b. is_other t h f || b) (same h)))

nothing_new : (a b : Bool) → (a ≡ true → b ≡ true) → b ≡ (a || b)
nothing_new true b more = more refl
nothing_new false b more = refl

-- a function that is like one of its name before it need not be kept
pub left_out : (t : Tables) (seen others : List (Bor Function)) (x : Bor Function) (fs : List FunctionTree) → others ≡ filter (λ f. is_same f.now.name.text x.now.name.text) seen
    → IsRepeat t (tree_of x) (functions_held others) → prototype_faults t (map tree_of (reverse seen)) fs ≡ prototype_faults t (map tree_of (reverse (seen ++ x ∷ []))) fs
left_out t seen others x fs named repeat =
    rw (reverse-append seen (x ∷ []))
    (same_faults t (map tree_of (reverse seen)) (tree_of x ∷ map tree_of (reverse seen)) fs
    (λ h. nothing_new (is_other t h (tree_of x)) (list_any (is_other t h) (map tree_of (reverse seen)))
    (λ other. any_seen (is_other t h) tree_of seen
    ∙ any_kept (λ g. is_other t h (tree_of g)) (λ f. is_same f.now.name.text x.now.name.text) seen
    (subst (λ gs. list_any (λ g. is_other t h (tree_of g)) gs ≡ true) named (sym (any_mapped (is_other t h) tree_of others) ∙ repeat h other)))))

-- ---- what is known already
behind_step : (told fault : Fault) (b : Bool) → is_told told fault ≡ true → told_of (Some told) [] ≡ told_of (Some told) (unless b fault.name fault.place)
behind_step told fault true e = refl
behind_step told fault false e = rw e refl

pub behind_all : (told : Option Fault) (fault : Fault) (b : Bool) → IsBehind told fault → told ≡ told_of told (unless b fault.name fault.place)
behind_all None fault b e = absurd e
behind_all (Some told) fault b e = behind_step told fault b e
