-- What the typedefs of a program without faults mean.
use Rattle.std.proofs.Common.{◌≡◌, ◌⊎◌, inl, inr, ⊎_elim, ℕ, Bool, true, false, cond, ◌&&◌, ◌||◌, not, List, [], ◌∷◌, ◌++◌, map, flat_map, length, Option, Some, None, option_map, is_some, is_none, find, refl, sym, ap, subst, ◌∙◌, append_assoc, append-nil, eqb-true, eq-eqb}
use Rattle.std.specs.List.{list_any}
use Rattle.std.specs.Prelude.{unwrap_or}
use Rattle.std.proofs.lemmas.Bool.{and_parts, and_from}
use Rattle.mc_base.specs.declared.text.place.Place.{Place}
use Rattle.mc_c_syntax.specs.declared.ast.trees.Base.{Base}
use Rattle.mc_c_syntax.specs.declared.ast.trees.Declarator.{Declarator}
use Rattle.mc_c_syntax.specs.declared.ast.trees.Name.{Name}
use Rattle.mc_c_syntax.specs.Ast.Grammar.{introduced}
use Rattle.mc_c_syntax.specs.Ast.Names.{is_same, is_in}
use Rattle.mc_c_syntax.specs.Ast.Trees as tree
use Rattle.mc_c_types.specs.Types.{is_declarable}
use Rattle.mc_c_types.specs.Tables.{Tables, Alias, alias_in, is_undefined, meaning_of, base_meaning, alias_meaning, aliased_meaning, aliases_behind, aliases_of}
use Rattle.mc_c_types.specs.Faults.{base_faults, alias_faults, aliased_base, aliased_faults, item_tree_faults, declarator_place, unless}
use Rattle.mc_c_types.specs.declared.faults.Fault.{Fault}
use Rattle.mc_c_types.specs.declared.faults.FaultName.TheVariants.{Unknown, Mismatch}
use Rattle.mc_c_types.specs.declared.types.VariableType.TheVariants.{Anything}
use Rattle.mc_c_types.specs.declared.types.BaseType.{BaseType}
use Rattle.mc_c_types.specs.declared.types.BaseType.TheVariants.{Typed}
use Rattle.mc_lower_laws.proofs.ScopedLemmas.Faultless.{none_left, none_right}
use Rattle.mc_lower_laws.specs.Kinds.Typedefs.{IsKnownBase, IsKnownAliased, IsKnownItem, AreKnownItems}
use Rattle.mc_lower_laws.proofs.KindsLemmas.Types.{each_both, false_true, kept}
use Rattle.mc_lower_laws.proofs.KindsLemmas.Meanings.{IsMeant, AreMeant, base_meant, declared_proper}

turned : (a b : List ℕ) → is_same a b ≡ true → is_same b a ≡ true
turned [] [] e = refl
turned [] (y ∷ ys) e = absurd (false_true e)
turned (x ∷ xs) [] e = absurd (false_true e)
turned (x ∷ xs) (y ∷ ys) e =
    let parts = and_parts _ _ e in
    and_from _ _ (eq-eqb y x (sym (eqb-true x y parts.0))) (turned xs ys parts.1)

-- ---- names of typedefs
-- the first of a name stays the first
same_first : (earlier bs : List Alias) (name : List ℕ) → is_some (alias_in earlier name) ≡ true → alias_in (earlier ++ bs) name ≡ alias_in earlier name
same_first [] bs name e = absurd (false_true e)
same_first (a ∷ earlier) bs name e =
    at (is_same a.name name) (find (λ b. is_same b.name name) (earlier ++ bs)) (find (λ b. is_same b.name name) earlier) (λ more. same_first earlier bs name more) e
  where
    at : (b : Bool) (longer rest : Option Alias) → (is_some (option_map (λ c. c.meaning) rest) ≡ true → option_map (λ c. c.meaning) longer ≡ option_map (λ c. c.meaning) rest)
        → is_some (option_map (λ c. c.meaning) (cond b (Some a) rest)) ≡ true → option_map (λ c. c.meaning) (cond b (Some a) longer) ≡ option_map (λ c. c.meaning) (cond b (Some a) rest)
    at true longer rest later f = refl
    at false longer rest later f = later f

still_there : (earlier bs : List Alias) (name : List ℕ) → is_some (alias_in bs name) ≡ true → is_some (alias_in (earlier ++ bs) name) ≡ true
still_there [] bs name e = e
still_there (a ∷ earlier) bs name e = at (is_same a.name name) (find (λ b. is_same b.name name) (earlier ++ bs)) (still_there earlier bs name e)
  where
    at : (b : Bool) (rest : Option Alias) → is_some (option_map (λ c. c.meaning) rest) ≡ true → is_some (option_map (λ c. c.meaning) (cond b (Some a) rest)) ≡ true
    at true rest later = refl
    at false rest later = later

-- each of the names is a typedef's
abbrev Covers : List Alias → List (List ℕ) → Type 0
Covers earlier names = (name : List ℕ) → is_in names name ≡ true → is_some (alias_in earlier name) ≡ true

abbrev made : BaseType → List Declarator → List Alias
made b ds = map (λ d. record { name = d.name.text; meaning = alias_meaning b d.pointer }) ds

made_covers : (b : BaseType) (ds : List Declarator) → Covers (made b ds) (map (λ d. d.name.text) ds)
made_covers b [] name e = absurd (false_true e)
made_covers b (d ∷ ds) name e = at (is_same name d.name.text) (is_same d.name.text name) (λ f. turned name d.name.text f) (find (λ a. is_same a.name name) (made b ds)) (λ f. made_covers b ds name f) e
  where
    at : (c r : Bool) → (c ≡ true → r ≡ true) → (rest : Option Alias) → (list_any (is_same name) (map (λ d. d.name.text) ds) ≡ true → is_some (option_map (λ a. a.meaning) rest) ≡ true)
        → (c || list_any (is_same name) (map (λ d. d.name.text) ds)) ≡ true
        → is_some (option_map (λ a. a.meaning) (cond r (Some (record { name = d.name.text; meaning = alias_meaning b d.pointer })) rest)) ≡ true
    at c true turn rest later f = refl
    at true false turn rest later f = absurd (false_true (turn refl))
    at false false turn rest later f = later f

either_in : (names others : List (List ℕ)) (name : List ℕ) → is_in (names ++ others) name ≡ true → (is_in names name ≡ true) ⊎ (is_in others name ≡ true)
either_in [] others name e = inr e
either_in (w ∷ names) others name e = at (is_same name w) (either_in names others name) e
  where
    at : (c : Bool) → (is_in (names ++ others) name ≡ true → (is_in names name ≡ true) ⊎ (is_in others name ≡ true)) → (c || is_in (names ++ others) name) ≡ true
        → ((c || is_in names name) ≡ true) ⊎ (is_in others name ≡ true)
    at true later f = inl refl
    at false later f = later f

covers_behind : (structs : List tree.StructTree) (earlier : List Alias) (names : List (List ℕ)) (item : tree.ItemTree) → Covers earlier names → Covers (aliases_behind structs earlier item) (introduced item ++ names)
covers_behind structs earlier names (tree.structure s) covers = covers
covers_behind structs earlier names (tree.function f) covers = covers
covers_behind structs earlier names (tree.typedef t) covers = λ name e.
    ⊎_elim
    (λ new. still_there earlier (made (aliased_meaning structs earlier t.aliased) t.declarators) name (made_covers (aliased_meaning structs earlier t.aliased) t.declarators name new))
    (λ old. ap is_some (same_first earlier (made (aliased_meaning structs earlier t.aliased) t.declarators) name (covers name old)) ∙ covers name old)
    (either_in (map (λ d. d.name.text) t.declarators) names name e)

-- ---- the typedefs before a typedef decide what it means
-- the typedefs of a program begin with these
abbrev BeginsWith : Tables → List Alias → Type 0
BeginsWith t earlier = (more : List Alias) × (t.aliases ≡ earlier ++ more)

abbrev before : Tables → List Alias → Tables
before t earlier = record { structs = t.structs; aliases = earlier; functions = t.functions }

same_alias : (t : Tables) (earlier : List Alias) (name : List ℕ) → BeginsWith t earlier → is_some (alias_in earlier name) ≡ true → alias_in t.aliases name ≡ alias_in earlier name
same_alias t earlier name (more, same) e = ap (λ all. alias_in all name) same ∙ same_first earlier more name e

-- with what a name means first, the faults of a base
abbrev named_faults : Option BaseType → Option Place → Place → List Fault
named_faults meaning None place = unless (is_some meaning) Unknown place
named_faults meaning (Some star) place = unless (is_some meaning && not (is_undefined (unwrap_or meaning (Typed Anything)))) Unknown place

named_is : (t : Tables) (name : Name) (star : Option Place) → base_faults t (Base.Alias name) star ≡ named_faults (alias_in t.aliases name.text) star name.place
named_is t name None = refl
named_is t name (Some p) = refl

faults_before : (t : Tables) (earlier : List Alias) (names : List (List ℕ)) (base : Base) (star : Option Place) → BeginsWith t earlier → Covers earlier names → IsKnownBase names base
    → base_faults t base star ≡ [] → base_faults (before t earlier) base star ≡ []
faults_before t earlier names (Base.Int p) star begins covers known e = refl
faults_before t earlier names (Base.Struct p name) star begins covers known e = e
faults_before t earlier names (Base.Alias name) star begins covers known e =
    let same = same_alias t earlier name.text begins (covers name.text known) in
    named_is (before t earlier) name star ∙ ap (λ o. named_faults o star name.place) (sym same) ∙ sym (named_is t name star) ∙ e

meaning_before : (t : Tables) (earlier : List Alias) (names : List (List ℕ)) (base : Base) → BeginsWith t earlier → Covers earlier names → IsKnownBase names base → meaning_of t base ≡ base_meaning t.structs earlier base
meaning_before t earlier names (Base.Int p) begins covers known = refl
meaning_before t earlier names (Base.Struct p name) begins covers known = refl
meaning_before t earlier names (Base.Alias name) begins covers known = ap (λ o. unwrap_or o (Typed Anything)) (same_alias t earlier name.text begins (covers name.text known))

-- ---- what a typedef makes
aliased_known : (names : List (List ℕ)) (a : tree.AliasedTree) → IsKnownAliased names a → IsKnownBase names (aliased_base a)
aliased_known names (tree.of_base base) known = known
aliased_known names (tree.of_struct s) known = tt

aliased_is : (structs : List tree.StructTree) (earlier : List Alias) (a : tree.AliasedTree) → aliased_meaning structs earlier a ≡ base_meaning structs earlier (aliased_base a)
aliased_is structs earlier (tree.of_base base) = refl
aliased_is structs earlier (tree.of_struct s) = refl

one_meant : (count : ℕ) (b : BaseType) (star : Option Place) → IsMeant count star b → (is_none star || is_declarable b star) ≡ true → IsMeant count None (alias_meaning b star)
one_meant count b None meant e = meant
one_meant count b (Some p) meant e = declared_proper count b (Some p) meant e

made_meant : (t : Tables) (earlier : List Alias) (names : List (List ℕ)) (base : Base) (ds : List Declarator) → BeginsWith t earlier → Covers earlier names → IsKnownBase names base
    → AreMeant (length t.structs) earlier → flat_map (alias_faults t base) ds ≡ [] → AreMeant (length t.structs) (made (base_meaning t.structs earlier base) ds)
made_meant t earlier names base [] begins covers known meant e = tt
made_meant t earlier names base (d ∷ ds) begins covers known meant e =
    let b : BaseType = meaning_of t base in
    let x : List Fault = base_faults t base d.pointer in
    let y : List Fault = unless (is_none d.pointer || is_declarable b d.pointer) Mismatch (declarator_place d) in
    let z : List Fault = flat_map (alias_faults t base) ds in
    let own : (x ++ y) ≡ [] = none_left (x ++ y) z e in
    let fits : (is_none d.pointer || is_declarable b d.pointer) ≡ true = kept (is_none d.pointer || is_declarable b d.pointer) Mismatch (declarator_place d) (none_right x y own) in (
      one_meant (length t.structs) (base_meaning t.structs earlier base) d.pointer
          (base_meant (before t earlier) meant base d.pointer (faults_before t earlier names base d.pointer begins covers known (none_left x y own)))
          (subst (λ c. (is_none d.pointer || is_declarable c d.pointer) ≡ true) (meaning_before t earlier names base begins covers known) fits),
      made_meant t earlier names base ds begins covers known meant (none_right (x ++ y) z e),
    )

behind_meant : (t : Tables) (earlier : List Alias) (names : List (List ℕ)) (item : tree.ItemTree) → BeginsWith t earlier → Covers earlier names → IsKnownItem names item
    → AreMeant (length t.structs) earlier → item_tree_faults t item ≡ [] → AreMeant (length t.structs) (aliases_behind t.structs earlier item)
behind_meant t earlier names (tree.structure s) begins covers known meant e = meant
behind_meant t earlier names (tree.function f) begins covers known meant e = meant
behind_meant t earlier names (tree.typedef d) begins covers known meant e =
    let base : Base = aliased_base d.aliased in
    let new = made_meant t earlier names base d.declarators begins covers (aliased_known names d.aliased known) meant
    (none_right (aliased_faults t d.aliased) (flat_map (alias_faults t base) d.declarators) e) in
    each_both (λ a. IsMeant (length t.structs) None a.meaning) earlier (made (aliased_meaning t.structs earlier d.aliased) d.declarators) meant
    (subst (λ b. AreMeant (length t.structs) (made b d.declarators)) (sym (aliased_is t.structs earlier d.aliased)) new)

-- ---- all typedefs
behind_grows : (structs : List tree.StructTree) (earlier : List Alias) (item : tree.ItemTree) → (more : List Alias) × (aliases_behind structs earlier item ≡ earlier ++ more)
behind_grows structs earlier (tree.structure s) = ([], sym (append-nil earlier))
behind_grows structs earlier (tree.function f) = ([], sym (append-nil earlier))
behind_grows structs earlier (tree.typedef d) = (made (aliased_meaning structs earlier d.aliased) d.declarators, refl)

grows : (structs : List tree.StructTree) (earlier : List Alias) (items : List tree.ItemTree) → (more : List Alias) × (aliases_of structs earlier items ≡ earlier ++ more)
grows structs earlier [] = ([], sym (append-nil earlier))
grows structs earlier (item ∷ items) =
    let one = behind_grows structs earlier item in
    let rest = grows structs (aliases_behind structs earlier item) items in
    (one.0 ++ rest.0, rest.1 ∙ ap (λ bs. bs ++ rest.0) one.1 ∙ append_assoc earlier one.0 rest.0)

pub all_meant : (t : Tables) (earlier : List Alias) (names : List (List ℕ)) (items : List tree.ItemTree) → t.aliases ≡ aliases_of t.structs earlier items → Covers earlier names → AreKnownItems names items
    → AreMeant (length t.structs) earlier → flat_map (item_tree_faults t) items ≡ [] → AreMeant (length t.structs) t.aliases
all_meant t earlier names [] same covers known meant e = subst (λ all. AreMeant (length t.structs) all) (sym same) meant
all_meant t earlier names (item ∷ items) same covers known meant e =
    let whole = grows t.structs earlier (item ∷ items) in
    all_meant t (aliases_behind t.structs earlier item) (introduced item ++ names) items same (covers_behind t.structs earlier names item covers) known.1
    (behind_meant t earlier names item (whole.0, same ∙ whole.1) covers known.0 meant (none_left (item_tree_faults t item) (flat_map (item_tree_faults t) items) e))
    (none_right (item_tree_faults t item) (flat_map (item_tree_faults t) items) e)

pub none_covered : Covers [] []
none_covered name e = absurd (false_true e)
