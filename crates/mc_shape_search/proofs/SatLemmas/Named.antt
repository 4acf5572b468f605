-- The rule of a mark, taken apart: its names are those that the meaning of definitions asks for, and no others.
use Rattle.std.proofs.Common.{◌≡◌, ◌⊎◌, inl, inr, ◌≤◌, ◌+◌, ◌-◌, ℕ, zero, suc, ℤ, pos, negsuc, Bool, true, false, ◌&&◌, ◌||◌, Option, Some, None, List, [], ◌∷◌, ◌++◌, length, map, take, drop, refl, sym, ◌∙◌, ap, subst, arith, append_assoc, length-append, eq-eqb}
use Rattle.std.specs.Prelude.{◌==◌, All, is_some, option_map, option_and_then, option_to_list, slice_get, if◌then◌else◌}
use Rattle.std.specs.FinMap as map
use Rattle.std.specs.List.{AllByRecursion}
use Rattle.std.proofs.lemmas.Bool.{and_parts, and_from, eqb-true, ne_eqb}
use Rattle.std.proofs.lemmas.Option.{slice_get_within, get_or_from_slice_get}
use Rattle.mc_base.specs.declared.ids.StructId.{StructId}
use Rattle.mc_base.specs.declared.plain.Kind.{Kind}
use Rattle.mc_flow.specs.Heap.Heap.{Block, Heap, Region, region_of}
use Rattle.mc_flow.specs.Heap.Access.{fields_at}
use Rattle.mc_flow.specs.Heap.Parts.{IsCell}
use Rattle.mc_flow.specs.declared.defs.rules.Def.{Def}
use Rattle.mc_flow.specs.declared.defs.rules.Rule.{Rule}
use Rattle.mc_flow.specs.declared.defs.shapes.StructInfo.{StructInfo}
use Rattle.mc_flow.specs.Defs.Conditions.{DefsFit, DefFits, RuleFitsStructs, content_kinds, kinds_of, numbers_from}
use Rattle.mc_flow.specs.Defs.Meaning.{RuleValues, BlockMeets}
use Rattle.mc_flow.specs.Defs.Values.{value_of, IsTrueAtom}
use Rattle.mc_shape_search.specs.Search.Search.{takes_this}
use Rattle.mc_shape_search.specs.declared.sat.goals.Goal.{Goal}
use Rattle.mc_shape_search.specs.declared.sat.goals.Mark.{Mark}
use Rattle.mc_shape_search.specs.Sat.Answers.{region_at}
use Rattle.mc_shape_search.specs.Sat.Marks.{address_of, block_for, all_defined, held_at, contents_at, taken, names_at, names_fit, names_with, names_for, same_block, named_by, named_at, fits}
use Rattle.mc_shape_search.specs.Sat.Names.{all_in_kinds, all_true}
use Rattle.mc_shape_search.proofs.SatLemmas.Fixed.{fixed_front, fixed_once, numbers_read, kinds_are, are_kinds, kinds_count, atoms_are, are_atoms, known_within}

-- ---- options
module _ {T U : Type 0} where
  then_some : (f : T → Option U) (o : Option T) (u : U) → option_and_then f o ≡ Some u → (t : T) × (o ≡ Some t) × (f t ≡ Some u)
  then_some f None u e = cc
  then_some f (Some t) u e = (t, refl, e)

  map_some : (f : T → U) (o : Option T) (u : U) → option_map f o ≡ Some u → (t : T) × (o ≡ Some t) × (f t ≡ u)
  map_some f None u e = cc
  map_some f (Some t) u e = (t, refl, cc)

module _ {T : Type 0} where
  if_is : (b : Bool) (o : Option T) (x : T) → (if b then o else None) ≡ Some x → (b ≡ true) × (o ≡ Some x)
  if_is true o x e = (refl, e)
  if_is false o x e = cc

  there : (o : Option T) → is_some o ≡ true → (x : T) × (o ≡ Some x)
  there None e = cc
  there (Some x) e = (x, refl)

all_at : {A : Type 0} (P : A → Type 0) (xs : List A) (i : ℕ) (x : A) → slice_get xs i ≡ Some x → All P xs → P x
all_at P xs i x is all = subst P (get_or_from_slice_get xs i x x is) (all i x (slice_get_within xs i x is))

-- ---- the values of fields
pub defined_is : (fields : List (Option ℤ)) (values : List ℤ) → all_defined fields ≡ Some values → fields ≡ map (λ v. Some v) values
defined_is [] values e = let n : [] ≡ values = cc in ap (map (λ v. Some v)) n
defined_is (None ∷ fields) values e = cc
defined_is (Some v ∷ fields) values e =
    let r = map_some (λ vs. v ∷ vs) (all_defined fields) values e in
    ap (λ l. Some v ∷ l) (defined_is fields r.0 r.1) ∙ ap (map (λ v. Some v)) r.2

pub is_defined : (values : List ℤ) → all_defined (map (λ v. Some v) values) ≡ Some values
is_defined [] = refl
is_defined (v ∷ values) = ap (option_map (λ vs. v ∷ vs)) (is_defined values)

map_both : (f : ℕ → ℤ) (xs : List ℕ) → map (λ n. Some (f n)) xs ≡ map (λ v. Some v) (map f xs)
map_both f [] = refl
map_both f (x ∷ xs) = ap (λ l. Some (f x) ∷ l) (map_both f xs)

make : ℕ → List (Option ℤ) → Block
make shape fields = record { shape = shape; fields = fields }

fields_if : (b : Bool) (all fields : List (Option ℤ)) → (if b then Some all else None) ≡ Some fields → (b ≡ true) × (all ≡ fields)
fields_if true all fields e = (refl, cc)
fields_if false all fields e = cc

-- the block whose fields are seen
fields_are : (o : Option Block) (shape : ℕ) (fields : List (Option ℤ)) → fields_at o shape ≡ Some fields → o ≡ Some (record { shape = shape; fields = fields })
unfolding make
fields_are None shape fields e = cc
fields_are (Some b) shape fields e =
    let r = fields_if (b.shape == shape) b.fields fields e in
    ap (λ s. Some (make s b.fields)) (eqb-true b.shape shape r.0) ∙ ap (λ f. Some (make shape f)) r.1

are_fields : (o : Option Block) (shape : ℕ) (fields : List (Option ℤ)) → o ≡ Some (record { shape = shape; fields = fields }) → fields_at o shape ≡ Some fields
are_fields o shape fields e = ap (λ x. fields_at x shape) e ∙ ap (λ b. if b then Some fields else None) (eq-eqb shape shape refl)

-- what the block of a rule holds, found at its address
pub record Held (heap : Heap) (value : ℤ) (shape : StructId) (contents : List ℤ) : Type 0 where
  pub at : ℕ
  pub is : value ≡ pos at
  pub block : region_of heap at ≡ Some (record { shape = shape.0; fields = map (λ v. Some v) contents })

pub held_is : (heap : Heap) (value : ℤ) (shape : StructId) (contents : List ℤ) → held_at heap shape (address_of value) ≡ Some contents → Held heap value shape contents
held_is heap (negsuc n) shape contents e = cc
held_is heap (pos at) shape contents e =
    let r = then_some all_defined (fields_at (map.get heap at) shape.0) contents e in
    record { at = at; is = refl; block = fields_are (map.get heap at) shape.0 r.0 r.1 ∙ ap (λ f. Some (record { shape = shape.0; fields = f })) (defined_is r.0 contents r.2) }

pub is_held : (heap : Heap) (value : ℤ) (shape : StructId) (contents : List ℤ) → Held heap value shape contents → held_at heap shape (address_of value) ≡ Some contents
is_held heap value shape contents h =
    let seen : fields_at (map.get heap h.at) shape.0 ≡ Some (map (λ v. Some v) contents) = are_fields (map.get heap h.at) shape.0 (map (λ v. Some v) contents) h.block in
    ap (λ v. held_at heap shape (address_of v)) h.is ∙ (ap (option_and_then all_defined) seen ∙ is_defined contents)

-- ---- the rule of a mark
same_is : (a b : Option ℕ) → same_block a b ≡ true → a ≡ b
same_is None None e = refl
same_is None (Some b) e = cc
same_is (Some a) None e = cc
same_is (Some a) (Some b) e = ap Some (eqb-true a b e)

is_same : (a : Option ℕ) → same_block a a ≡ true
is_same None = refl
is_same (Some a) = eq-eqb a a refl

pub record Parts (heap : Heap) (defs : List Def) (g : Goal) (m : Mark) : Type 0 where
  pub def : Def
  pub defined : slice_get defs g.pred.0 ≡ Some def
  pub rule : Rule
  pub listed : slice_get def.rules m.rule ≡ Some rule
  pub block : block_for rule.block g.at ≡ m.block
  pub contents : List ℤ
  pub held : contents_at heap g.at rule.block ≡ Some contents
  pub fit : names_fit g def rule contents (names_at g rule contents) ≡ true
  pub named : named_at heap defs g m ≡ Some (record { rule = rule; names = names_at g rule contents })

pub parts : (heap : Heap) (defs : List Def) (g : Goal) (m : Mark) → fits heap defs g m ≡ true → Parts heap defs g m
parts heap defs g m f =
    let n = there (named_at heap defs g m) f in
    let d = then_some (λ def. option_and_then (named_by heap g m.block def) (slice_get def.rules m.rule)) (slice_get defs g.pred.0) n.0 n.1 in
    let r = then_some (named_by heap g m.block d.0) (slice_get d.0.rules m.rule) n.0 d.2 in
    let s = if_is (same_block (block_for r.0.block g.at) m.block) (option_map (λ names. record { rule = r.0; names = names }) (names_for heap g d.0 r.0)) n.0 r.2 in
    let k = map_some (λ names. record { rule = r.0; names = names }) (names_for heap g d.0 r.0) n.0 s.1 in
    let c = then_some (names_with g d.0 r.0) (contents_at heap g.at r.0.block) k.0 k.1 in
    let w = if_is (names_fit g d.0 r.0 c.0 (names_at g r.0 c.0)) (Some (names_at g r.0 c.0)) k.0 c.2 in
    let same : k.0 ≡ names_at g r.0 c.0 = cc in
    record {
      def = d.0;
      defined = d.1;
      rule = r.0;
      listed = r.1;
      block = same_is (block_for r.0.block g.at) m.block s.0;
      contents = c.0;
      held = c.1;
      fit = w.0;
      named = n.1 ∙ (ap Some (sym k.2) ∙ ap (λ names. Some (record { rule = r.0; names = names })) same);
    }

-- and put together again
pub named_from : (heap : Heap) (defs : List Def) (g : Goal) (m : Mark) (def : Def) (rule : Rule) (contents : List ℤ) → slice_get defs g.pred.0 ≡ Some def → slice_get def.rules m.rule ≡ Some rule → block_for rule.block g.at ≡ m.block
    → contents_at heap g.at rule.block ≡ Some contents → names_fit g def rule contents (names_at g rule contents) ≡ true → named_at heap defs g m ≡ Some (record { rule = rule; names = names_at g rule contents })
named_from heap defs g m def rule contents d r b c f =
    let same : same_block (block_for rule.block g.at) m.block ≡ true = ap (λ x. same_block x m.block) b ∙ is_same m.block in
    let names : names_for heap g def rule ≡ Some (names_at g rule contents) = ap (option_and_then (names_with g def rule)) c ∙ ap (λ x. if x then Some (names_at g rule contents) else None) f in
    ap (option_and_then (λ def. option_and_then (named_by heap g m.block def) (slice_get def.rules m.rule))) d
    ∙ (ap (option_and_then (named_by heap g m.block def)) r
    ∙ (ap (λ x. if x then option_map (λ names. record { rule = rule; names = names }) (names_for heap g def rule) else None) same ∙ ap (option_map (λ names. record { rule = rule; names = names })) names))

-- ---- what the conditions of definitions say of a rule
pub rule_fits : (structs : List StructInfo) (defs : List Def) → DefsFit structs defs → (pred place : ℕ) (def : Def) (rule : Rule) → slice_get defs pred ≡ Some def → slice_get def.rules place ≡ Some rule → RuleFitsStructs structs defs def.params rule
rule_fits structs defs fit pred place def rule d r =
    all_at (RuleFitsStructs structs defs def.params) def.rules place rule r ((all_at (DefFits structs defs) defs pred def d fit).rules)

no_length : {A : Type 0} (xs : List A) → length xs ≡ 0 → xs ≡ []
no_length [] e = refl
no_length (x ∷ xs) e = absurd (omega arith)

taken_length : {A : Type 0} (n : ℕ) (xs : List A) → n ≤ length xs → length (take n xs) ≡ n
taken_length zero xs l = refl
taken_length (suc n) [] l = absurd (omega arith)
taken_length (suc n) (x ∷ xs) l = ap suc (taken_length n xs (omega arith))

dropped_length : {A : Type 0} (n : ℕ) (xs : List A) → n + length (drop n xs) ≡ length xs → length (drop n xs) ≡ length xs - n
dropped_length n xs e = omega arith

drop_length : {A : Type 0} (n : ℕ) (xs : List A) → n ≤ length xs → n + length (drop n xs) ≡ length xs
drop_length zero xs l = omega arith
drop_length (suc n) [] l = absurd (omega arith)
drop_length (suc n) (x ∷ xs) l = let r = drop_length n xs (omega arith) in omega arith

-- a rule without a block has no contents
bare : (structs : List StructInfo) (params : List Kind) (rule : Rule) (o : Option StructId) → rule.block ≡ o → kinds_of structs o ≡ Some (content_kinds params rule) → suc (length params) + length rule.contents ≤ length rule.names → o ≡ None → length rule.contents ≡ 0
bare structs params rule (Some s) e k l n = cc
bare structs params rule None e k l n =
    let none : [] ≡ content_kinds params rule = cc in
    let d = drop_length (suc (length params)) rule.names (omega arith) in
    let t = taken_length (length rule.contents) (drop (suc (length params)) rule.names) (omega arith) in
    let z : 0 ≡ length (content_kinds params rule) = ap length none in
    sym t ∙ sym z

-- ---- what meets the meaning
take_front : {A : Type 0} (xs ys : List A) → take (length xs) (xs ++ ys) ≡ xs
take_front [] ys = refl
take_front (x ∷ xs) ys = ap (λ l. x ∷ l) (take_front xs ys)

rejoin : {A : Type 0} (n : ℕ) (xs : List A) → n ≤ length xs → xs ≡ take n xs ++ drop n xs
rejoin zero xs l = refl
rejoin (suc n) [] l = absurd (omega arith)
rejoin (suc n) (x ∷ xs) l = ap (λ l. x ∷ l) (rejoin n xs (omega arith))

map_length : {A B : Type 0} (f : A → B) (xs : List A) → length (map f xs) ≡ length xs
map_length f [] = refl
map_length f (x ∷ xs) = ap suc (map_length f xs)

pub record FitParts (g : Goal) (def : Def) (rule : Rule) (contents names : List ℤ) : Type 0 where
  pub args : length g.args ≡ length def.params
  pub counted : length contents ≡ length rule.contents
  pub kinds : all_in_kinds rule.names names ≡ true
  pub atoms : all_true names rule.atoms ≡ true

pub fit_parts : (g : Goal) (def : Def) (rule : Rule) (contents names : List ℤ) → names_fit g def rule contents names ≡ true → FitParts g def rule contents names
fit_parts g def rule contents names f =
    let a = and_parts (length g.args == length def.params) (length contents == length rule.contents && (all_in_kinds rule.names names && all_true names rule.atoms)) f in
    let b = and_parts (length contents == length rule.contents) (all_in_kinds rule.names names && all_true names rule.atoms) a.1 in
    let c = and_parts (all_in_kinds rule.names names) (all_true names rule.atoms) b.1 in
    record { args = eqb-true (length g.args) (length def.params) a.0; counted = eqb-true (length contents) (length rule.contents) b.0; kinds = c.0; atoms = c.1 }

parts_fit : (g : Goal) (def : Def) (rule : Rule) (contents names : List ℤ) → FitParts g def rule contents names → names_fit g def rule contents names ≡ true
parts_fit g def rule contents names p =
    and_from (length g.args == length def.params) (length contents == length rule.contents && (all_in_kinds rule.names names && all_true names rule.atoms)) (eq-eqb (length g.args) (length def.params) p.args)
    (and_from (length contents == length rule.contents) (all_in_kinds rule.names names && all_true names rule.atoms) (eq-eqb (length contents) (length rule.contents) p.counted)
    (and_from (all_in_kinds rule.names names) (all_true names rule.atoms) p.kinds p.atoms))

-- the names begin with the value, the arguments and the contents
pub names_begin : (g : Goal) (rule : Rule) (contents : List ℤ) → (rest : List ℤ) × (names_at g rule contents ≡ g.at ∷ (g.args ++ (contents ++ rest)))
names_begin g rule contents =
    let f = fixed_front (g.at ∷ (g.args ++ contents)) rule.atoms in
    (f.0, f.1 ∙ ap (λ l. g.at ∷ l) (append_assoc g.args contents f.0))

abbrev pub values_of : (heap : Heap) (defs : List Def) (g : Goal) (m : Mark) → Parts heap defs g m → RuleValues defs g.pred g.at g.args
values_of heap defs g m p =
    record {
      def = p.def;
      defined = p.defined;
      rule = p.rule;
      place = m.rule;
      listed = p.listed;
      names = names_at g p.rule p.contents;
      kinds = kinds_are p.rule.names (names_at g p.rule p.contents) (fit_parts g p.def p.rule p.contents (names_at g p.rule p.contents) p.fit).kinds;
      count = (fit_parts g p.def p.rule p.contents (names_at g p.rule p.contents) p.fit).args;
      others = p.contents ++ (names_begin g p.rule p.contents).0;
      front = (names_begin g p.rule p.contents).1;
      atoms = atoms_are (names_at g p.rule p.contents) p.rule.atoms (fit_parts g p.def p.rule p.contents (names_at g p.rule p.contents) p.fit).atoms;
    }

-- the contents are read from the names
contents_read : (structs : List StructInfo) (heap : Heap) (defs : List Def) → DefsFit structs defs → (g : Goal) (m : Mark) (p : Parts heap defs g m) → map (value_of (names_at g p.rule p.contents)) p.rule.contents ≡ p.contents
contents_read structs heap defs fit g m p =
    let f = fit_parts g p.def p.rule p.contents (names_at g p.rule p.contents) p.fit in
    let r = rule_fits structs defs fit g.pred.0 m.rule p.def p.rule p.defined p.listed in
    let b = names_begin g p.rule p.contents in
    let k = length p.rule.contents in
    let others = p.contents ++ b.0 in
    let long : length others ≡ length p.contents + length b.0 = length-append p.contents b.0 in
    let enough : k ≤ length others = (let e = f.counted in omega arith) in
    let read = numbers_read (g.at ∷ g.args) others (suc (length p.def.params)) k (ap suc (sym f.args)) enough in
    ap (map (value_of (names_at g p.rule p.contents))) r.fits.names.contents
    ∙ (ap (λ names. map (value_of names) (numbers_from (suc (length p.def.params)) k)) b.1
    ∙ (read ∙ (ap (λ n. take n others) (sym f.counted) ∙ take_front p.contents b.0)))

none_at : (region : Region) (o : Option ℕ) (at : ℕ) → o ≡ None → region_at region (option_to_list o ++ []) at ≡ None
none_at region o at e = ap (λ x. region_at region (option_to_list x ++ []) at) e

one_at : (region : Region) (o : Option ℕ) (own at : ℕ) → o ≡ Some own → region_at region (option_to_list o ++ []) at ≡ (if own == at then region at else None)
one_at region o own at e = ap (λ x. region_at region (option_to_list x ++ []) at) e ∙ ap (λ b. if b then region at else None) (or_false (own == at))
  where
    or_false : (b : Bool) → (b || false) ≡ b
    or_false true = refl
    or_false false = refl

block_at : (heap : Heap) (value : ℤ) (contents : List ℤ) (numbers : List ℕ) (names : List ℤ) (o : Option StructId) (taken : Option ℕ) → contents_at heap value o ≡ Some contents → block_for o value ≡ taken → map (value_of names) numbers ≡ contents → value_of names 0 ≡ value
    → BlockMeets o numbers names (region_at (region_of heap) (option_to_list taken ++ []))
block_at heap value contents numbers names None taken c b r v = record { none = λ at. none_at (region_of heap) taken at (sym b) }
block_at heap value contents numbers names (Some shape) taken c b r v =
    let h = held_is heap value shape contents c in
    let t : taken ≡ Some h.at = sym b ∙ ap address_of h.is in
    let fields : map (λ n. Some (value_of names n)) numbers ≡ map (λ v. Some v) contents = map_both (value_of names) numbers ∙ ap (map (λ v. Some v)) r in (
      h.at,
      v ∙ h.is,
      record {
        here = one_at (region_of heap) taken h.at h.at t ∙ (ap (λ b. if b then region_of heap h.at else None) (eq-eqb h.at h.at refl) ∙ (h.block ∙ ap (λ f. Some (record { shape = shape.0; fields = f })) (sym fields)));
        only = λ other d. one_at (region_of heap) taken h.at other t ∙ ap (λ b. if b then region_of heap other else None) (ne_eqb h.at other (λ e. d (sym e)));
      },
    )

-- a mark's block is its rule's
pub block_meets : (structs : List StructInfo) (heap : Heap) (defs : List Def) → DefsFit structs defs → (g : Goal) (m : Mark) (p : Parts heap defs g m) → BlockMeets p.rule.block p.rule.contents (names_at g p.rule p.contents) (region_at (region_of heap) (taken (m ∷ [])))
block_meets structs heap defs fit g m p =
    block_at heap g.at p.contents p.rule.contents (names_at g p.rule p.contents) p.rule.block m.block p.held p.block (contents_read structs heap defs fit g m p)
    (ap (λ l. value_of l 0) (names_begin g p.rule p.contents).1)

-- ---- and back
pub record IsNamed (heap : Heap) (defs : List Def) (g : Goal) (by : RuleValues defs g.pred g.at g.args) (block : Region) : Type 0 where
  pub named : named_at heap defs g (record { rule = by.place; block = block_for by.rule.block g.at }) ≡ Some (record { rule = by.rule; names = by.names })
  pub takes : (id : ℕ) → takes_this (block_for by.rule.block g.at) id ≡ is_some (block id)

bool_cases : (b : Bool) → (b ≡ true) ⊎ (b ≡ false)
bool_cases true = inl refl
bool_cases false = inr refl

-- a cell is at its address alone
cell_takes : (region : Region) (at : ℕ) (b : Block) → IsCell region at b → (id : ℕ) → (at == id) ≡ is_some (region id)
cell_takes region at b c id =
    elim (bool_cases (at == id)) [
      | inl y ↦ y ∙ sym (ap (λ x. is_some (region x)) (sym (eqb-true at id y)) ∙ ap is_some c.here)
      | inr n ↦ n ∙ sym (ap is_some (c.only id (λ q. (let z : (at == id) ≡ true = eq-eqb at id (sym q) in cc))))
    ]

block_takes : (value : ℤ) (numbers : List ℕ) (names : List ℤ) (block : Region) (o : Option StructId) → BlockMeets o numbers names block → value_of names 0 ≡ value → (id : ℕ) → takes_this (block_for o value) id ≡ is_some (block id)
block_takes value numbers names block None meets v id = sym (ap is_some (meets.none id))
block_takes value numbers names block (Some shape) (at, is, cell) v id =
    ap (λ z. takes_this (address_of z) id) (sym v ∙ is) ∙ cell_takes block at (record { shape = shape.0; fields = map (λ n. Some (value_of names n)) numbers }) cell id

contents_found : (heap : Heap) (value : ℤ) (numbers : List ℕ) (names : List ℤ) (block : Region) (o : Option StructId) → BlockMeets o numbers names block → value_of names 0 ≡ value → ((id : ℕ) (b : Block) → block id ≡ Some b → region_of heap id ≡ Some b) → (o ≡ None → numbers ≡ [])
    → contents_at heap value o ≡ Some (map (value_of names) numbers)
contents_found heap value numbers names block None meets v within none = ap (λ l. Some (map (value_of names) l)) (sym (none refl))
contents_found heap value numbers names block (Some shape) (at, is, cell) v within none =
    let b : Block = record { shape = shape.0; fields = map (λ n. Some (value_of names n)) numbers } in
    is_held heap value shape (map (value_of names) numbers)
    (record { at = at; is = sym v ∙ is; block = within at b cell.here ∙ ap (λ f. Some (record { shape = shape.0; fields = f })) (map_both (value_of names) numbers) })

pub named_back : (structs : List StructInfo) (heap : Heap) (defs : List Def) → DefsFit structs defs → (g : Goal) (by : RuleValues defs g.pred g.at g.args) (block : Region) → BlockMeets by.rule.block by.rule.contents by.names block → ((id : ℕ) (b : Block) → block id ≡ Some b → region_of heap id ≡ Some b) → IsNamed heap defs g by block
named_back structs heap defs fit g by block meets within =
    let m : Mark = record { rule = by.place; block = block_for by.rule.block g.at } in
    let r = rule_fits structs defs fit g.pred.0 by.place by.def by.rule by.defined by.listed in
    let k = length by.rule.contents in
    let n = suc (length by.def.params) in
    let contents = map (value_of by.names) by.rule.contents in
    let first : value_of by.names 0 ≡ g.at = ap (λ l. value_of l 0) by.front in
    let lens : length by.rule.names ≡ length by.names = kinds_count by.rule.names by.names by.kinds in
    let known : n + k ≤ length by.rule.names = known_within by.rule.names (n + k) by.rule.atoms r.fits.names.atoms in
    let nil : by.rule.block ≡ None → by.rule.contents ≡ [] = λ e. no_length by.rule.contents (bare structs by.def.params by.rule by.rule.block refl r.block known e) in
    let held = contents_found heap g.at by.rule.contents by.names block by.rule.block meets first within nil in
    let all : length by.names ≡ suc (length (g.args ++ by.others)) = ap length by.front in
    let both : length (g.args ++ by.others) ≡ length g.args + length by.others = length-append g.args by.others in
    let count : length g.args ≡ length by.def.params = by.count in
    let enough : k ≤ length by.others = omega arith in
    let read : contents ≡ take k by.others =
    ap (map (value_of by.names)) r.fits.names.contents ∙ (ap (λ names. map (value_of names) (numbers_from n k)) by.front ∙ numbers_read (g.at ∷ g.args) by.others n k (ap suc (sym count)) enough) in
    let fixed = drop k by.others in
    let parted : by.names ≡ (g.at ∷ (g.args ++ contents)) ++ fixed =
    by.front ∙ ap (λ l. g.at ∷ l) (ap (λ l. g.args ++ l) (rejoin k by.others enough ∙ ap (λ l. l ++ fixed) (sym read)) ∙ sym (append_assoc g.args contents fixed)) in
    let own : length contents ≡ k = map_length (value_of by.names) by.rule.contents in
    let front : n + k ≡ length (g.at ∷ (g.args ++ contents)) = (let e = length-append g.args contents in omega arith) in
    let once : (g.at ∷ (g.args ++ contents)) ++ fixed ≡ names_at g by.rule contents =
    fixed_once by.rule.names (g.at ∷ (g.args ++ contents)) fixed by.rule.atoms (n + k) front r.fits.names.atoms (lens ∙ ap length parted) (subst (λ l. AllByRecursion (IsTrueAtom l) by.rule.atoms) parted by.atoms) in
    let same : by.names ≡ names_at g by.rule contents = parted ∙ once in
    let p : FitParts g by.def by.rule contents (names_at g by.rule contents) = record {
      args = count;
      counted = own;
      kinds = ap (all_in_kinds by.rule.names) (sym same) ∙ are_kinds by.rule.names by.names by.kinds;
      atoms = ap (λ l. all_true l by.rule.atoms) (sym same) ∙ are_atoms by.names by.rule.atoms by.atoms;
    } in
    record {
      named = named_from heap defs g m by.def by.rule contents by.defined by.listed refl held (parts_fit g by.def by.rule contents (names_at g by.rule contents) p) ∙ ap (λ l. Some (record { rule = by.rule; names = l })) (sym same);
      takes = block_takes g.at by.rule.contents by.names block by.rule.block meets first;
    }

block_there : (heap : Heap) (value : ℤ) (contents : List ℤ) (o : Option StructId) (taken : Option ℕ) → contents_at heap value o ≡ Some contents → block_for o value ≡ taken → (at : ℕ) → taken ≡ Some at → (b : Block) × (map.get heap at ≡ Some b)
block_there heap value contents None taken c e at t = cc
block_there heap value contents (Some shape) taken c e at t =
    let h = held_is heap value shape contents c in
    let same : Some h.at ≡ Some at = sym (ap address_of h.is) ∙ (e ∙ t) in
    let own : at ≡ h.at = cc in
    (record { shape = shape.0; fields = map (λ v. Some v) contents }, ap (map.get heap) own ∙ h.block)

-- what a mark takes is a block
pub taken_block : (heap : Heap) (defs : List Def) (g : Goal) (m : Mark) → Parts heap defs g m → (at : ℕ) → m.block ≡ Some at → (b : Block) × (map.get heap at ≡ Some b)
taken_block heap defs g m p at e = block_there heap g.at p.contents p.rule.block m.block p.held p.block at e
