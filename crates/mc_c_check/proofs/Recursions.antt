-- Recursion, by numbers and by names.
use Rattle.std.proofs.Common.{◌≡◌, ℕ, List, [], ◌∷◌, ◌+◌, ◌<◌, ◌≤◌, refl, sym, ap, ◌∙◌, arith, inl, inr, zero, suc, map, flat_map, length, Bool, true, false, cond, not}
use Rattle.std.specs.Prelude.{All, Contains, Option, Some, None}
use lib.Pointwise.{bytes_decides}
use Rattle.mc_c_syntax.specs.Ast.Names.{is_same}
use Rattle.mc_c_syntax.specs.Ast.Trees.{BodyTree, FunctionTree, ItemTree, structure, typedef, function, UnitTree, stmts_of}
use Rattle.mc_c_types.specs.Calls.{CallSite, Reaches, itself, through, body_sites, item_sites, call_sites, statements_calls}
use Rattle.mc_c_types.specs.Tables.{item_functions}
use Rattle.mc_c_types.specs.Typing.{IsRecursion}
use Rattle.mc_c_types.specs.declared.faults.Fault.{Fault}
use Rattle.mc_c_check.specs.Graphs.{number_in, edge_of, IsWithin, Leads, here, along, IsLoop}
use Rattle.mc_c_check.proofs.Members.{contains_front, contains_back, contains_either, contains_mapped, contains_origin}
use Rattle.mc_c_types.proofs.Orders.{contains_here, contains_cases, contains_none}

-- ---- numbers
-- a name of one function has a number
number_step : (b : Bool) (n len : ℕ) → n < len → cond (not b) (1 + n) 0 < suc len
number_step true n len below = omega arith
number_step false n len below = omega arith

same_first : (b : Bool) (n len : ℕ) → b ≡ true → cond (not b) (1 + n) 0 < suc len
same_first b n len e = rw e (omega arith)

pub number_known : (fs : List FunctionTree) (f : FunctionTree) (name : List ℕ) → Contains fs f → f.name.text ≡ name → number_in fs name < length fs
number_known [] f name h e = absurd (contains_none f h)
number_known (g ∷ fs) f name h e =
    elim (contains_cases f g fs h) [
      | inl p ↦ same_first (is_same g.name.text name) (number_in fs name) (length fs) ((bytes_decides g.name.text name).1 (rw (sym p) e))
      | inr p ↦ number_step (is_same g.name.text name) (number_in fs name) (length fs) (number_known fs f name p e)
    ]

number_below : (b : Bool) (n len : ℕ) → n ≤ len → cond (not b) (1 + n) 0 ≤ suc len
number_below true n len below = omega arith
number_below false n len below = omega arith

pub number_within : (fs : List FunctionTree) (name : List ℕ) → number_in fs name ≤ length fs
number_within [] name = omega arith
number_within (f ∷ fs) name = number_below (is_same f.name.text name) (number_in fs name) (length fs) (number_within fs name)

pub all_within : (fs : List FunctionTree) (sites : List CallSite) (count : ℕ) → length fs ≡ count → All (IsWithin (count + 1)) (map (edge_of fs) sites)
all_within fs [] count e k d below = absurd (omega arith)
all_within fs (site ∷ sites) count e zero d below =
    let caller = number_within fs site.caller in let callee = number_within fs site.callee.text in (omega arith, omega arith)
all_within fs (site ∷ sites) count e (suc k) d below = all_within fs sites count e k d (omega arith)

-- names of one number are one, where it is a function's
numbers_step : (t x y : List ℕ) (b c : Bool) (m n len : ℕ) → is_same t x ≡ b → is_same t y ≡ c
    → (m ≡ n → n < len → x ≡ y)
    → cond (not b) (1 + m) 0 ≡ cond (not c) (1 + n) 0 → cond (not c) (1 + n) 0 < suc len → x ≡ y
numbers_step t x y true true m n len p q more e below = sym ((bytes_decides t x).0 p) ∙ (bytes_decides t y).0 q
numbers_step t x y true false m n len p q more e below = absurd (omega arith)
numbers_step t x y false true m n len p q more e below = absurd (omega arith)
numbers_step t x y false false m n len p q more e below = more (omega arith) (omega arith)

pub numbers_same : (fs : List FunctionTree) (x y : List ℕ) → number_in fs x ≡ number_in fs y → number_in fs y < length fs → x ≡ y
numbers_same [] x y e below = absurd (omega arith)
numbers_same (f ∷ fs) x y e below =
    numbers_step f.name.text x y (is_same f.name.text x) (is_same f.name.text y) (number_in fs x) (number_in fs y) (length fs) refl refl (numbers_same fs x y) e below

-- ---- callers are functions
record Caller (fs : List FunctionTree) (site : CallSite) : Type 0 where
  pub of : FunctionTree
  pub among : Contains fs of
  pub is : of.name.text ≡ site.caller

body_caller : (f : FunctionTree) (body : Option BodyTree) (site : CallSite) → Contains (body_sites f.name.text body) site → f.name.text ≡ site.caller
body_caller f None site h = absurd (contains_none site h)
body_caller f (Some body) site h =
    let o = contains_origin (λ name. record { caller = f.name.text; callee = name }) site (statements_calls (stmts_of body.statements)) h in sym (ap (λ s. s.caller) o.is)

item_caller : (item : ItemTree) (site : CallSite) → Contains (item_sites item) site → Caller (item_functions item) site
item_caller (structure s) site h = absurd (contains_none site h)
item_caller (typedef t) site h = absurd (contains_none site h)
item_caller (function f) site h = record { of = f; among = contains_here f []; is = body_caller f f.body site h }

unit_caller : (unit : UnitTree) (site : CallSite) → Contains (call_sites unit) site → Caller (flat_map item_functions unit) site
unit_caller [] site h = absurd (contains_none site h)
unit_caller (item ∷ unit) site h =
    elim (contains_either site (item_sites item) (call_sites unit) h) [
      | inl p ↦ (let c = item_caller item site p in record { of = c.of; among = contains_front c.of (item_functions item) (flat_map item_functions unit) c.among; is = c.is })
      | inr p ↦ (let c = unit_caller unit site p in record { of = c.of; among = contains_back c.of (item_functions item) (flat_map item_functions unit) c.among; is = c.is })
    ]

-- the callers of some calls have numbers
abbrev pub AreKnown : List FunctionTree → List CallSite → Type 0
AreKnown fs sites = (site : CallSite) → Contains sites site → number_in fs site.caller < length fs

pub callers_known : (unit : UnitTree) → AreKnown (flat_map item_functions unit) (call_sites unit)
callers_known unit site h =
    let c = unit_caller unit site h in number_known (flat_map item_functions unit) c.of site.caller c.among c.is

-- ---- what leads and what reaches
pub reaches_leads : (fs : List FunctionTree) (sites : List CallSite) → {x y : List ℕ} → Reaches sites x y → Leads (map (edge_of fs) sites) (number_in fs x) (number_in fs y)
reaches_leads fs sites itself = here
reaches_leads fs sites (through site made more) =
    along (edge_of fs site) (contains_mapped (edge_of fs) site sites made) (reaches_leads fs sites more)

pub leads_reaches : (fs : List FunctionTree) (sites : List CallSite) → AreKnown fs sites → {n m : ℕ} → Leads (map (edge_of fs) sites) n m
    → (x y : List ℕ) → number_in fs x ≡ n → number_in fs y ≡ m → m < length fs → Reaches sites x y
leads_reaches fs sites known here x y p q below =
    let same : x ≡ y = numbers_same fs x y (p ∙ sym q) (rw q below) in rw same itself
leads_reaches fs sites known (along edge made more) x y p q below =
    let o = contains_origin (edge_of fs) edge sites made in
    let same : x ≡ o.of.caller = numbers_same fs x o.of.caller (p ∙ ap (λ e. e.caller) o.is) (known o.of o.among) in
    rw same (through o.of o.among (leads_reaches fs sites known more o.of.callee.text y (sym (ap (λ e. e.callee) o.is)) q below))

-- ---- the faults
pub recursion_loop : (unit : UnitTree) (fs : List FunctionTree) (f : Fault) → IsRecursion unit f → IsLoop (map (edge_of fs) (call_sites unit)) (map (edge_of fs) (call_sites unit)) f
recursion_loop unit fs f r =
    record {
      edge = edge_of fs r.site;
      made = contains_mapped (edge_of fs) r.site (call_sites unit) r.made;
      returns = reaches_leads fs (call_sites unit) r.returns;
      told = r.told;
    }

pub loop_recursion : (unit : UnitTree) (fs : List FunctionTree) (f : Fault) → AreKnown fs (call_sites unit) → IsLoop (map (edge_of fs) (call_sites unit)) (map (edge_of fs) (call_sites unit)) f → IsRecursion unit f
loop_recursion unit fs f known h =
    let o = contains_origin (edge_of fs) h.edge (call_sites unit) h.made in
    record {
      site = o.of;
      made = o.among;
      returns =
          leads_reaches fs (call_sites unit) known h.returns o.of.callee.text o.of.caller (sym (ap (λ e. e.callee) o.is)) (sym (ap (λ e. e.caller) o.is)) (rw (ap (λ e. e.caller) o.is) (known o.of o.among));
      told = rw (sym (ap (λ e. e.place) o.is)) h.told;
    }
