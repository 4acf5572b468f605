-- The numbers that atoms of definitions add are small.
use Rattle.std.proofs.Common.{◌≡◌, ◌≢◌, ℕ, suc, ◌+◌, ℤ, pos, negsuc, Bool, true, false, Some, List, [], ◌∷◌, length, slice_get, subst, arith}
use Rattle.std.specs.Prelude.{All, ◌≤ℤ◌}
use Rattle.std.specs.List.{AllByRecursion}
use Rattle.std.proofs.lemmas.Int.{ints}
use Rattle.std.proofs.lemmas.Option.{get_or_from_slice_get, slice_get_within}
use Rattle.mc_base.specs.declared.plain.Kind.{Kind}
use Rattle.mc_base.specs.declared.plain.Kind.TheVariants.{Int, Ptr}
use Rattle.mc_flow.specs.declared.defs.rules.Def.{Def}
use Rattle.mc_flow.specs.declared.defs.rules.DefAtom.{DefAtom}
use Rattle.mc_flow.specs.declared.defs.rules.DefAtom.TheVariants.{Eq, Ne, In}
use Rattle.mc_flow.specs.declared.defs.rules.Rule.{Rule}
use Rattle.mc_flow.specs.Defs.Conditions.{IsDefs, DefFits, RuleFitsStructs, AtomsFit, OffsetFits, known_after}
use Rattle.mc_cover.specs.Search.Terms.{IsSmall, AddsSmall}

all_at : {A : Type 0} (P : A → Type 0) (xs : List A) (i : ℕ) (x : A) → slice_get xs i ≡ Some x → All P xs → P x
all_at P xs i x is all = subst P (get_or_from_slice_get xs i x x is) (all i x (slice_get_within xs i x is))

offset_small : (kind : Kind) (add : ℤ) → OffsetFits kind add → IsSmall add
offset_small Int add h = let a = h.0 in let b = h.1 in (omega (arith, ints), omega (arith, ints))
offset_small Ptr add h = let e : add ≡ pos 0 = h in (omega (arith, ints), omega (arith, ints))

small : (names : List Kind) (known : ℕ) (atoms : List DefAtom) → AtomsFit names known atoms → AllByRecursion AddsSmall atoms
small names known [] fit = tt
small names known (Eq left base add true ∷ atoms) fit = (offset_small fit.0.0 add fit.0.3.1, small names (suc known) atoms fit.1)
small names known (Eq left base add false ∷ atoms) fit = (offset_small fit.0.0 add fit.0.2.1, small names known atoms fit.1)
small names known (Ne left base add ∷ atoms) fit = (offset_small fit.0.0 add fit.0.2.1, small names known atoms fit.1)
small names known (In left lo hi ∷ atoms) fit = (tt, small names known atoms fit.1)

pub adds_small : (defs : List Def) (p place : ℕ) (def : Def) (rule : Rule) → IsDefs defs → slice_get defs p ≡ Some def → slice_get def.rules place ≡ Some rule → AllByRecursion AddsSmall rule.atoms
adds_small defs p place def rule fit d l =
    let rules = (all_at (DefFits fit.0 defs) defs p def d fit.1).rules in
    let fits = (all_at (RuleFitsStructs fit.0 defs def.params) def.rules place rule l rules).fits in
    small rule.names (suc (length def.params) + length rule.contents) rule.atoms fits.names.atoms
