-- What is declared without faults has a known type.
use Rattle.std.proofs.Common.{◌≡◌, ◌<◌, ℕ, Bool, true, false, cond, ◌&&◌, not, List, [], ◌∷◌, length, Option, Some, None, option_map, is_some, find, refl, sym}
use Rattle.std.specs.List.{position_or_len}
use Rattle.std.specs.Prelude.{unwrap_or}
use Rattle.std.specs.Bool.{nat_lt}
use Rattle.std.proofs.lemmas.Bool.{and_parts, ltb-true}
use Rattle.mc_base.specs.declared.ids.StructId.{StructId}
use Rattle.mc_base.specs.declared.text.place.Place.{Place}
use Rattle.mc_c_syntax.specs.declared.ast.trees.Base.{Base}
use Rattle.mc_c_syntax.specs.declared.ast.trees.Declarator.{Declarator}
use Rattle.mc_c_syntax.specs.Ast.Names.{is_same}
use Rattle.mc_c_syntax.specs.Ast.Trees.{StructTree}
use Rattle.mc_c_types.specs.Types.{is_declarable}
use Rattle.mc_c_types.specs.Tables.{Tables, Alias, struct_number, struct_meaning, alias_in, is_undefined, meaning_of, declared_type, variable_of}
use Rattle.mc_c_types.specs.Faults.{base_faults, type_faults, declarator_faults, declarator_place, unless}
use Rattle.mc_c_types.specs.declared.faults.FaultName.TheVariants.{Unknown, Mismatch}
use Rattle.mc_c_types.specs.declared.types.VariableType.TheVariants.{Int, Pointer, Anything}
use Rattle.mc_c_types.specs.declared.types.BaseType.{BaseType}
use Rattle.mc_c_types.specs.declared.types.BaseType.TheVariants.{Typed, Struct, Undefined}
use Rattle.mc_lower_laws.proofs.ScopedLemmas.Faultless.{none_left, none_right}
use Rattle.mc_lower_laws.proofs.KindsLemmas.Types.{Each, IsProper, false_true, kept}

-- what a base means, with so many structs; after a `*` a struct is defined
abbrev pub IsMeant : ℕ → Option Place → BaseType → Type 0
IsMeant count star (Typed type) = IsProper count type
IsMeant count star (Struct s) = s.0 < count
IsMeant count None Undefined = Unit {0}
IsMeant count (Some p) Undefined = ⊥

-- what the typedefs mean
abbrev pub AreMeant : ℕ → List Alias → Type 0
AreMeant count aliases = Each (λ a. IsMeant count None a.meaning) aliases

pub alias_meant : (count : ℕ) (aliases : List Alias) (name : List ℕ) → AreMeant count aliases → is_some (alias_in aliases name) ≡ true
    → IsMeant count None (unwrap_or (alias_in aliases name) (Typed Anything))
alias_meant count [] name all e = absurd (false_true e)
alias_meant count (a ∷ aliases) name all e = at (is_same a.name name) (find (λ b. is_same b.name name) aliases) (λ more. alias_meant count aliases name all.1 more) e
  where
    at : (b : Bool) (rest : Option Alias) → (is_some (option_map (λ b. b.meaning) rest) ≡ true → IsMeant count None (unwrap_or (option_map (λ b. b.meaning) rest) (Typed Anything)))
        → is_some (option_map (λ b. b.meaning) (cond b (Some a) rest)) ≡ true → IsMeant count None (unwrap_or (option_map (λ b. b.meaning) (cond b (Some a) rest)) (Typed Anything))
    at true rest later f = all.0
    at false rest later f = later f

-- ---- structs
numbered : (count k : ℕ) (b : Bool) → nat_lt k count ≡ b → IsMeant count None (struct_meaning (option_map (λ n. let s : StructId = record { 0 = n } in s) (cond b (Some k) None)))
numbered count k true e = ltb-true k count e
numbered count k false e = tt

pub struct_meant : (structs : List StructTree) (name : List ℕ) → IsMeant (length structs) None (struct_meaning (struct_number structs name))
struct_meant structs name =
    let k : ℕ = position_or_len (λ s. is_same s.name.text name) structs in
    numbered (length structs) k (nat_lt k (length structs)) refl

struct_defined : (o : Option StructId) → is_some o ≡ true → is_undefined (struct_meaning o) ≡ false
struct_defined None e = absurd (false_true e)
struct_defined (Some s) e = refl

-- a struct that is known is meant after a `*` too
pub starred : (count : ℕ) (p : Place) (b : BaseType) → IsMeant count None b → is_undefined b ≡ false → IsMeant count (Some p) b
starred count p (Typed type) meant e = meant
starred count p (Struct s) meant e = meant
starred count p Undefined meant e = absurd (false_true (sym e))

not_so : (b : Bool) → not b ≡ true → b ≡ false
not_so true e = absurd (false_true e)
not_so false e = refl

-- ---- bases
-- where the typedefs are of known types
pub base_meant : (t : Tables) → AreMeant (length t.structs) t.aliases → (base : Base) (star : Option Place) → base_faults t base star ≡ [] → IsMeant (length t.structs) star (meaning_of t base)
base_meant t aliases (Base.Int p) star e = tt
base_meant t aliases (Base.Struct p name) None e = struct_meant t.structs name.text
base_meant t aliases (Base.Struct p name) (Some q) e =
    starred (length t.structs) q (struct_meaning (struct_number t.structs name.text)) (struct_meant t.structs name.text)
    (struct_defined (struct_number t.structs name.text) (kept (is_some (struct_number t.structs name.text)) Unknown name.place e))
base_meant t aliases (Base.Alias name) None e = alias_meant (length t.structs) t.aliases name.text aliases (kept (is_some (alias_in t.aliases name.text)) Unknown name.place e)
base_meant t aliases (Base.Alias name) (Some q) e =
    let both = and_parts _ _ (kept (is_some (alias_in t.aliases name.text) && not (is_undefined (meaning_of t (Base.Alias name)))) Unknown name.place e) in
    starred (length t.structs) q (meaning_of t (Base.Alias name)) (alias_meant (length t.structs) t.aliases name.text aliases both.0)
    (not_so (is_undefined (meaning_of t (Base.Alias name))) both.1)

-- ---- declarators
pub declared_proper : (count : ℕ) (b : BaseType) (star : Option Place) → IsMeant count star b → is_declarable b star ≡ true → IsProper count (declared_type b star)
declared_proper count (Typed Int) None meant e = tt
declared_proper count (Typed Int) (Some p) meant e = absurd (false_true e)
declared_proper count (Typed (Pointer s)) None meant e = meant
declared_proper count (Typed (Pointer s)) (Some p) meant e = absurd (false_true e)
declared_proper count (Typed Anything) star meant e = absurd meant
declared_proper count (Struct s) None meant e = absurd (false_true e)
declared_proper count (Struct s) (Some p) meant e = meant
declared_proper count Undefined None meant e = absurd (false_true e)
declared_proper count Undefined (Some p) meant e = absurd meant

pub type_proper : (t : Tables) → AreMeant (length t.structs) t.aliases → (base : Base) (star : Option Place) (place : Place) → type_faults t base star place ≡ []
    → IsProper (length t.structs) (declared_type (meaning_of t base) star)
type_proper t aliases base star place e =
    declared_proper (length t.structs) (meaning_of t base) star
    (base_meant t aliases base star (none_left (base_faults t base star) (unless (is_declarable (meaning_of t base) star) Mismatch place) e))
    (kept (is_declarable (meaning_of t base) star) Mismatch place (none_right (base_faults t base star) (unless (is_declarable (meaning_of t base) star) Mismatch place) e))

pub declarator_proper : (t : Tables) → AreMeant (length t.structs) t.aliases → (base : Base) (d : Declarator) → declarator_faults t base d ≡ [] → IsProper (length t.structs) (variable_of t base d).type
declarator_proper t aliases base d e = type_proper t aliases base d.pointer (declarator_place d) e
