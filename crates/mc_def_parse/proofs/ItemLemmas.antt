-- The transitions of items.
use Rattle.std.proofs.Common.{◌≡◌, ℕ, true, false, List, [], ◌∷◌, refl}
use Rattle.mc_base.specs.declared.plain.Kind.{Kind}
use Rattle.mc_base.specs.declared.text.token.Token.{Token}
use Rattle.mc_c_syntax.specs.declared.ast.trees.Name.{Name}
use Rattle.mc_c_syntax.specs.Ast.Names.{Tokens, IsNumber, name_of}
use Rattle.mc_c_syntax.specs.Ast.Readers.{IsStuckAt}
use Rattle.mc_def_parse.specs.Symbols.{symbol_of}
use Rattle.mc_def_parse.specs.declared.symbols.Symbol.{Symbol}
use Rattle.mc_def_parse.specs.declared.tree.Sum.{Sum}
use Rattle.mc_def_parse.specs.declared.tree.Relation.{Relation}
use Rattle.mc_def_parse.specs.declared.tree.Relation.TheVariants.{Fixes, Equals, Differs}
use Rattle.mc_def_parse.specs.declared.tree.Bound.{Bound}
use Rattle.mc_def_parse.specs.declared.tree.Bound.TheVariants.{AtMost, AtLeast}
use Rattle.mc_def_parse.specs.declared.tree.Item.{Item}
use Rattle.mc_def_parse.specs.declared.tree.Item.TheVariants.{Call, Relates, Bounds}
use Rattle.mc_def_parse.specs.declared.item.ItemReader.TheVariants as ItemReader
use Rattle.mc_def_parse.specs.Grammar.{Is, IsKind, plain, unsigned, signed, number, name, added, taken, last_name, next_name, IsItem, call, fixes, relates, bounds}
use Rattle.mc_def_parse.specs.Steps.{Takes, BySymbol}
use Rattle.mc_def_parse.specs.Readers.{Stops, SumStops, BoundStops, NamesStop, NameThenStops, FixedStops, NameStopsBy, NameStops, NumberStops, signed_sum, moved_sum, signed_bound, BaseStopsBy, CompletesItem}
use Rattle.mc_c_syntax.proofs.AstLemmas.Numbers.{one_number}
use Rattle.mc_def_parse.proofs.Steps.{number_symbol}

-- ---- the start
int_forward : {item : Item} {token : Token} {tokens rest : Tokens} → Is Symbol.Int token → IsItem item (token ∷ tokens) rest → CompletesItem ItemReader.Int tokens rest item
int_forward i (call n o x more close stop) = absurd (cc)
int_forward i (fixes {kind = Kind.Int} k x e s stop) = (x, (e, (_, _, s, stop, refl)))
int_forward i (fixes {kind = Kind.Ptr} k x e s stop) = let n = k.name in absurd (cc)
int_forward i (relates n e s stop) = absurd (cc)
int_forward i (bounds n b m stop) = absurd (cc)

int_backward : {item : Item} {token : Token} (tokens : Tokens) {rest : Tokens} → Is Symbol.Int token → CompletesItem ItemReader.Int tokens rest item → IsItem item (token ∷ tokens) rest
int_backward [] i n = absurd n
int_backward (x ∷ []) i n = absurd n.1
int_backward (x ∷ equal ∷ tokens) i (n, (e, (s, stop, sum, semi, same))) = rw same (fixes {kind = Kind.Int} i n e sum semi)

pub start_int : {token : Token} → Is Symbol.Int token → Takes (CompletesItem ItemReader.Start) (CompletesItem ItemReader.Int) token
start_int i = record { forward = λ tokens rest x n. int_forward i n; backward = λ tokens rest x l. int_backward tokens i l }

pub name_forward : {item : Item} {token : Token} {tokens rest : Tokens} → Is Symbol.Name token → IsItem item (token ∷ tokens) rest → NameStops (name_of token) tokens rest item
name_forward i (call n o x more close stop) = rw o (x, (_, _, _, more, close, stop, refl))
name_forward i (fixes {kind = Kind.Int} k x e s stop) = absurd (cc)
name_forward i (fixes {kind = Kind.Ptr} k x e s stop) = rw x (k.text, (e, (_, _, s, stop, refl)))
name_forward i (relates {r = Fixes kind} n e s stop) = absurd e
name_forward i (relates {r = Equals} n e s stop) = rw e (_, _, s, stop, refl)
name_forward i (relates {r = Differs} n e s stop) = rw e (_, _, s, stop, refl)
name_forward i (bounds {b = AtMost} n e m stop) = rw e (_, _, m, stop, refl)
name_forward i (bounds {b = AtLeast} n e m stop) = rw e (_, _, m, stop, refl)

from_arguments : {item : Item} {token opening : Token} (tokens : Tokens) {rest : Tokens} → Is Symbol.Name token → Is Symbol.Open opening → NameThenStops (name_of token) [] tokens rest item → IsItem item (token ∷ opening ∷ tokens) rest
from_arguments [] i o n = absurd n
from_arguments (x ∷ tokens) i o (n, (all, close, stop, more, c, s, same)) = rw same (call i o n more c s)

from_pointer : {item : Item} {token x : Token} (tokens : Tokens) {rest : Tokens} → IsKind Kind.Ptr token → Is Symbol.Name x → FixedStops Kind.Ptr (name_of x) tokens rest item → IsItem item (token ∷ x ∷ tokens) rest
from_pointer [] k n f = absurd f
from_pointer (equal ∷ tokens) k n (e, (s, stop, sum, semi, same)) = rw same (fixes {kind = Kind.Ptr} k n e sum semi)

from_by : {item : Item} {token next : Token} {tokens rest : Tokens} (symbol : Symbol) → Is Symbol.Name token → symbol_of next ≡ symbol → NameStopsBy (name_of token) symbol next tokens rest item → IsItem item (token ∷ next ∷ tokens) rest
from_by Symbol.Open i e n = from_arguments _ i e n
from_by Symbol.Equal i e (s, stop, sum, semi, same) = rw same (relates {r = Equals} i e sum semi)
from_by Symbol.Unequal i e (s, stop, sum, semi, same) = rw same (relates {r = Differs} i e sum semi)
from_by Symbol.AtMost i e (m, stop, num, semi, same) = rw same (bounds {b = AtMost} i e num semi)
from_by Symbol.AtLeast i e (m, stop, num, semi, same) = rw same (bounds {b = AtLeast} i e num semi)
from_by Symbol.Name i e n = from_pointer _ (record { name = i; text = n.0 }) e n.1
from_by symbol i e n = absurd n

pub name_backward : {item : Item} {token : Token} (tokens : Tokens) {rest : Tokens} → Is Symbol.Name token → NameStops (name_of token) tokens rest item → IsItem item (token ∷ tokens) rest
name_backward [] i n = absurd n
name_backward (next ∷ tokens) i n = from_by (symbol_of next) i refl n

pub start_name : {token : Token} → Is Symbol.Name token → Takes (CompletesItem ItemReader.Start) (NameStops (name_of token)) token
start_name i = record { forward = λ tokens rest x n. name_forward i n; backward = λ tokens rest x l. name_backward tokens i l }

no_start : {item : Item} {token : Token} {tokens rest : Tokens} → (Is Symbol.Int token → ⊥) → (Is Symbol.Name token → ⊥) → IsItem item (token ∷ tokens) rest → ⊥
no_start int nam (call n o x more close stop) = nam n
no_start int nam (fixes {kind = Kind.Int} k x e s stop) = int k
no_start int nam (fixes {kind = Kind.Ptr} k x e s stop) = nam k.name
no_start int nam (relates n e s stop) = nam n
no_start int nam (bounds n b m stop) = nam n

pub start_stuck : {token : Token} → (Is Symbol.Int token → ⊥) → (Is Symbol.Name token → ⊥) → IsStuckAt (CompletesItem ItemReader.Start) token
start_stuck int nam = λ tokens rest x n. no_start int nam n

-- ---- arguments
comma_forward : {p : Name} {xs : List Name} {item : Item} {token : Token} {tokens rest : Tokens} → Is Symbol.Comma token → NamesStop p xs (token ∷ tokens) rest item → NameThenStops p xs tokens rest item
comma_forward i (all, close, stop, last_name, c, s, same) = absurd (cc)
comma_forward i (all, close, stop, next_name comma x more, c, s, same) = (x, (all, close, stop, more, c, s, same))

comma_backward : {p : Name} {xs : List Name} {item : Item} {token : Token} (tokens : Tokens) {rest : Tokens} → Is Symbol.Comma token → NameThenStops p xs tokens rest item → NamesStop p xs (token ∷ tokens) rest item
comma_backward [] i n = absurd n
comma_backward (x ∷ tokens) i (n, (all, close, stop, more, c, s, same)) = (all, close, stop, next_name i n more, c, s, same)

pub names_comma : (p : Name) (xs : List Name) {token : Token} → Is Symbol.Comma token → Takes (NamesStop p xs) (NameThenStops p xs) token
names_comma p xs i = record { forward = λ tokens rest x n. comma_forward i n; backward = λ tokens rest x l. comma_backward tokens i l }

close_forward : {p : Name} {xs : List Name} {item : Item} {token : Token} {tokens rest : Tokens} → Is Symbol.Close token → NamesStop p xs (token ∷ tokens) rest item → Stops (Call p xs) tokens rest item
close_forward i (all, close, stop, last_name, c, s, same) = (s, (refl, same))
close_forward i (all, close, stop, next_name comma x more, c, s, same) = absurd (cc)

close_backward : {p : Name} {xs : List Name} {item : Item} {token : Token} (tokens : Tokens) {rest : Tokens} → Is Symbol.Close token → Stops (Call p xs) tokens rest item → NamesStop p xs (token ∷ tokens) rest item
close_backward [] i n = absurd n
close_backward {p} {xs} {item} {token} (stop ∷ tokens) i (s, (behind, same)) = rw behind (xs, token, stop, last_name, i, s, same)

pub names_close : (p : Name) (xs : List Name) {token : Token} → Is Symbol.Close token → Takes (NamesStop p xs) (Stops (Call p xs)) token
names_close p xs i = record { forward = λ tokens rest x n. close_forward i n; backward = λ tokens rest x l. close_backward tokens i l }

no_names : {p : Name} {xs : List Name} {item : Item} {token : Token} {tokens rest : Tokens} → (Is Symbol.Comma token → ⊥) → (Is Symbol.Close token → ⊥) → NamesStop p xs (token ∷ tokens) rest item → ⊥
no_names a b (all, close, stop, last_name, c, s, same) = b c
no_names a b (all, close, stop, next_name comma x more, c, s, same) = a comma

pub names_stuck : (p : Name) (xs : List Name) {token : Token} → (Is Symbol.Comma token → ⊥) → (Is Symbol.Close token → ⊥) → IsStuckAt (NamesStop p xs) token
names_stuck p xs a b = λ tokens rest x n. no_names a b n

-- ---- sums
minus_forward : {x : Name} {r : Relation} {item : Item} {token : Token} {tokens rest : Tokens} → Is Symbol.Minus token → SumStops x r (token ∷ tokens) rest item → NumberStops (signed_sum x r token.place) tokens rest item
minus_forward i (s, stop, number (unsigned k), semi, same) = let e = number_symbol k in absurd (cc)
minus_forward i (s, stop, number (signed m k), semi, same) = (_, k, (semi, (refl, same)))
minus_forward i (s, stop, name n, semi, same) = absurd (cc)
minus_forward i (s, stop, added n a k, semi, same) = absurd (cc)
minus_forward i (s, stop, taken n a k, semi, same) = absurd (cc)

minus_backward : {x : Name} {r : Relation} {item : Item} {token : Token} (tokens : Tokens) {rest : Tokens} → Is Symbol.Minus token → NumberStops (signed_sum x r token.place) tokens rest item → SumStops x r (token ∷ tokens) rest item
minus_backward [] i n = absurd n
minus_backward (digits ∷ []) i (v, k, n) = absurd n
minus_backward (digits ∷ stop ∷ tokens) i (v, k, (semi, (behind, same))) = rw behind (_, stop, number (signed i k), semi, same)

pub sum_minus : (x : Name) (r : Relation) {token : Token} → Is Symbol.Minus token → Takes (SumStops x r) (NumberStops (signed_sum x r token.place)) token
sum_minus x r i = record { forward = λ tokens rest y n. minus_forward i n; backward = λ tokens rest y l. minus_backward tokens i l }

base_forward : {x : Name} {r : Relation} {item : Item} {token : Token} {tokens rest : Tokens} → Is Symbol.Name token → SumStops x r (token ∷ tokens) rest item → BySymbol (BaseStopsBy x r (name_of token)) tokens rest item
base_forward i (s, stop, number (unsigned k), semi, same) = let e = number_symbol k in absurd (cc)
base_forward i (s, stop, number (signed m k), semi, same) = absurd (cc)
base_forward i (s, stop, name n, semi, same) = rw semi (refl, same)
base_forward i (s, stop, added n a k, semi, same) = rw a (_, k, (semi, (refl, same)))
base_forward i (s, stop, taken n a k, semi, same) = rw a (_, k, (semi, (refl, same)))

from_offset : {x : Name} {r : Relation} {item : Item} {token plus : Token} (tokens : Tokens) {rest : Tokens} → Is Symbol.Name token → Is Symbol.Plus plus → NumberStops (moved_sum x r (name_of token) false) tokens rest item → SumStops x r (token ∷ plus ∷ tokens) rest item
from_offset [] i p n = absurd n
from_offset (digits ∷ []) i p (v, k, n) = absurd n
from_offset (digits ∷ stop ∷ tokens) i p (v, k, (semi, (behind, same))) = rw behind (_, stop, added i p k, semi, same)

from_taken : {x : Name} {r : Relation} {item : Item} {token minus : Token} (tokens : Tokens) {rest : Tokens} → Is Symbol.Name token → Is Symbol.Minus minus → NumberStops (moved_sum x r (name_of token) true) tokens rest item → SumStops x r (token ∷ minus ∷ tokens) rest item
from_taken [] i p n = absurd n
from_taken (digits ∷ []) i p (v, k, n) = absurd n
from_taken (digits ∷ stop ∷ tokens) i p (v, k, (semi, (behind, same))) = rw behind (_, stop, taken i p k, semi, same)

from_base : {x : Name} {r : Relation} {item : Item} {token next : Token} {tokens rest : Tokens} (symbol : Symbol) → Is Symbol.Name token → symbol_of next ≡ symbol → BaseStopsBy x r (name_of token) symbol next tokens rest item → SumStops x r (token ∷ next ∷ tokens) rest item
from_base Symbol.Plus i e n = from_offset _ i e n
from_base Symbol.Minus i e n = from_taken _ i e n
from_base Symbol.Semicolon i e n = rw n.0 (_, _, name i, e, n.1)
from_base symbol i e n = absurd n

base_backward : {x : Name} {r : Relation} {item : Item} {token : Token} (tokens : Tokens) {rest : Tokens} → Is Symbol.Name token → BySymbol (BaseStopsBy x r (name_of token)) tokens rest item → SumStops x r (token ∷ tokens) rest item
base_backward [] i n = absurd n
base_backward (next ∷ tokens) i n = from_base (symbol_of next) i refl n

pub sum_base : (x : Name) (r : Relation) {token : Token} → Is Symbol.Name token → Takes (SumStops x r) (BySymbol (BaseStopsBy x r (name_of token))) token
sum_base x r i = record { forward = λ tokens rest y n. base_forward i n; backward = λ tokens rest y l. base_backward tokens i l }

abbrev pub plain_sum : Name → Relation → ℕ → Token → Item
plain_sum x r n digits = Relates x r (Sum.Number (plain n digits))

unsigned_forward : {x : Name} {r : Relation} {item : Item} {token : Token} {v : ℕ} {tokens rest : Tokens} → IsNumber token v → SumStops x r (token ∷ tokens) rest item → Stops (plain_sum x r v token) tokens rest item
unsigned_forward h (s, stop, number (unsigned k), semi, same) = rw (one_number h k) (semi, (refl, same))
unsigned_forward h (s, stop, number (signed m k), semi, same) = let e = number_symbol h in absurd (cc)
unsigned_forward h (s, stop, name n, semi, same) = let e = number_symbol h in absurd (cc)
unsigned_forward h (s, stop, added n a k, semi, same) = let e = number_symbol h in absurd (cc)
unsigned_forward h (s, stop, taken n a k, semi, same) = let e = number_symbol h in absurd (cc)

unsigned_backward : {x : Name} {r : Relation} {item : Item} {token : Token} {v : ℕ} (tokens : Tokens) {rest : Tokens} → IsNumber token v → Stops (plain_sum x r v token) tokens rest item → SumStops x r (token ∷ tokens) rest item
unsigned_backward [] h n = absurd n
unsigned_backward (stop ∷ tokens) h (semi, (behind, same)) = rw behind (_, stop, number (unsigned h), semi, same)

pub sum_number : (x : Name) (r : Relation) {token : Token} {v : ℕ} → IsNumber token v → Takes (SumStops x r) (Stops (plain_sum x r v token)) token
sum_number x r h = record { forward = λ tokens rest y n. unsigned_forward h n; backward = λ tokens rest y l. unsigned_backward tokens h l }

no_sum : {x : Name} {r : Relation} {item : Item} {token : Token} {tokens rest : Tokens} → (Is Symbol.Minus token → ⊥) → (Is Symbol.Name token → ⊥) → ((n : ℕ) → IsNumber token n → ⊥) → SumStops x r (token ∷ tokens) rest item → ⊥
no_sum a b c (s, stop, number (unsigned k), semi, same) = c _ k
no_sum a b c (s, stop, number (signed m k), semi, same) = a m
no_sum a b c (s, stop, name n, semi, same) = b n
no_sum a b c (s, stop, added n p k, semi, same) = b n
no_sum a b c (s, stop, taken n p k, semi, same) = b n

pub sum_stuck : (x : Name) (r : Relation) {token : Token} → (Is Symbol.Minus token → ⊥) → (Is Symbol.Name token → ⊥) → ((n : ℕ) → IsNumber token n → ⊥) → IsStuckAt (SumStops x r) token
sum_stuck x r a b c = λ tokens rest y n. no_sum a b c n

-- ---- bounds
limit_forward : {x : Name} {b : Bound} {item : Item} {token : Token} {tokens rest : Tokens} → Is Symbol.Minus token → BoundStops x b (token ∷ tokens) rest item → NumberStops (signed_bound x b token.place) tokens rest item
limit_forward i (m, stop, unsigned k, semi, same) = let e = number_symbol k in absurd (cc)
limit_forward i (m, stop, signed s k, semi, same) = (_, k, (semi, (refl, same)))

limit_backward : {x : Name} {b : Bound} {item : Item} {token : Token} (tokens : Tokens) {rest : Tokens} → Is Symbol.Minus token → NumberStops (signed_bound x b token.place) tokens rest item → BoundStops x b (token ∷ tokens) rest item
limit_backward [] i n = absurd n
limit_backward (digits ∷ []) i (v, k, n) = absurd n
limit_backward (digits ∷ stop ∷ tokens) i (v, k, (semi, (behind, same))) = rw behind (_, stop, signed i k, semi, same)

pub bound_minus : (x : Name) (b : Bound) {token : Token} → Is Symbol.Minus token → Takes (BoundStops x b) (NumberStops (signed_bound x b token.place)) token
bound_minus x b i = record { forward = λ tokens rest y n. limit_forward i n; backward = λ tokens rest y l. limit_backward tokens i l }

plain_forward : {x : Name} {b : Bound} {item : Item} {token : Token} {v : ℕ} {tokens rest : Tokens} → IsNumber token v → BoundStops x b (token ∷ tokens) rest item → Stops (Bounds x b (plain v token)) tokens rest item
plain_forward h (m, stop, unsigned k, semi, same) = rw (one_number h k) (semi, (refl, same))
plain_forward h (m, stop, signed s k, semi, same) = let e = number_symbol h in absurd (cc)

plain_backward : {x : Name} {b : Bound} {item : Item} {token : Token} {v : ℕ} (tokens : Tokens) {rest : Tokens} → IsNumber token v → Stops (Bounds x b (plain v token)) tokens rest item → BoundStops x b (token ∷ tokens) rest item
plain_backward [] h n = absurd n
plain_backward (stop ∷ tokens) h (semi, (behind, same)) = rw behind (_, stop, unsigned h, semi, same)

pub bound_number : (x : Name) (b : Bound) {token : Token} {v : ℕ} → IsNumber token v → Takes (BoundStops x b) (Stops (Bounds x b (plain v token))) token
bound_number x b h = record { forward = λ tokens rest y n. plain_forward h n; backward = λ tokens rest y l. plain_backward tokens h l }

no_bound : {x : Name} {b : Bound} {item : Item} {token : Token} {tokens rest : Tokens} → (Is Symbol.Minus token → ⊥) → ((n : ℕ) → IsNumber token n → ⊥) → BoundStops x b (token ∷ tokens) rest item → ⊥
no_bound a c (m, stop, unsigned k, semi, same) = c _ k
no_bound a c (m, stop, signed s k, semi, same) = a s

pub bound_stuck : (x : Name) (b : Bound) {token : Token} → (Is Symbol.Minus token → ⊥) → ((n : ℕ) → IsNumber token n → ⊥) → IsStuckAt (BoundStops x b) token
bound_stuck x b a c = λ tokens rest y n. no_bound a c n
