-- What a token does to a line.
use Rattle.std.proofs.Common.{◌≡◌, ℕ, List, [], ◌∷◌, ◌⊎◌, inl, inr, refl, sym, ◌∙◌, subst, IsTrue}
use Rattle.std.specs.Prelude.{codes}
use Rattle.std.specs.Bool.{IsFalse}
use Rattle.mc_base.specs.declared.text.token.Token.{Token}
use Rattle.mc_base.specs.declared.text.token.TokenKind.{TokenKind}
use Rattle.mc_c_syntax.specs.declared.ast.class.Class.{Class}
use Rattle.mc_c_syntax.specs.declared.ast.trees.Name.{Name}
use Rattle.mc_c_syntax.specs.declared.ast.trees.Base.TheVariants as Base
use Rattle.mc_c_syntax.specs.Ast.Trees.{Left, DeclarationTree, SimpleTree, InitialTree, Start, nothing}
use Rattle.mc_c_syntax.specs.Ast.Names.{Tokens, IsMark, IsWord, IsName, IsAlias, name_of, is_in, is_reserved}
use Rattle.mc_c_syntax.specs.Ast.Classes.{IsClass}
use Rattle.mc_c_syntax.specs.Ast.Grammar.{Fields, none, more, IsLeft, named, int, tagged, alias, star, no_star, declarator, IsInitial, bare, with_value, IsDeclaration, declared, without, with_some, IsSimple, assigned, adding, subtracting, incremented, decremented, incremented_first, decremented_first, performed, IsStart, starts_empty, starts_declaring, starts_performing}
use Rattle.mc_c_syntax.specs.Ast.Readers.{Takes, Closes, IsStuckAt}
use Rattle.mc_c_parse_expr.specs.Turns.{in_turn}
use Rattle.mc_c_parse_simple.specs.Phrases.{Next, next, ended, Either}
use Rattle.mc_c_parse_simple.specs.Declarations.{BehindBase, behind_initials}
use Rattle.mc_c_parse_simple.specs.Simples.{Simples}
use Rattle.mc_c_parse_simple.proofs.Phrases.{SameAt, takes_along, closes_along, stuck_along}
use Rattle.mc_c_parse_body.specs.Phrases.{Starts}
use Rattle.mc_c_parse_body.specs.Lines.{DeclarationLine, SimpleLine, BehindName, token_of, IsLineStep}
use Rattle.mc_c_parse_body.specs.declared.line.LineStep.{LineStep}
use Rattle.mc_c_parse_body.proofs.Unique.{class_of_mark, class_of_word, class_of_name}

pub line_step_along : (later : Tokens → Tokens → Start → Type 0) {now other : Tokens → Tokens → Start → Type 0} {token : Token} (step : LineStep) → SameAt now other token → IsLineStep other later token step → IsLineStep now later token step
line_step_along later LineStep.Taken s h = takes_along s h
line_step_along later (LineStep.Closed start) s h = closes_along s h
line_step_along later LineStep.Stuck s h = stuck_along s h

-- with which tokens declarations and simple statements begin
pub declaration_opens : {aliases : List (List ℕ)} {d : DeclarationTree} {token : Token} {tokens rest : Tokens} (class : Class) → IsClass token class → IsDeclaration aliases d (token ∷ tokens) rest → (class ≡ Class.Int) ⊎ ((class ≡ Class.Struct) ⊎ (class ≡ Class.Name))
declaration_opens {token = token} class is (declared (int w) i m s) = inl (class_of_word class Class.Int token tt is w)
declaration_opens {token = token} class is (declared (tagged w n) i m s) = inr (inl (class_of_word class Class.Struct token tt is w))
declaration_opens {token = token} class is (declared (alias a) i m s) = inr (inr (class_of_name class token is a.name))

left_opens : {l : Left} {token : Token} {tokens rest : Tokens} → IsLeft l (token ∷ tokens) rest → IsName token
left_opens (named n f) = n

pub simple_opens : {aliases : List (List ℕ)} {s : SimpleTree} {token : Token} {tokens rest : Tokens} (class : Class) → IsClass token class → IsSimple aliases s (token ∷ tokens) rest → (class ≡ Class.Name) ⊎ ((class ≡ Class.PlusPlus) ⊎ (class ≡ Class.MinusMinus))
simple_opens {token = token} class is (assigned l m r) = inl (class_of_name class token is (left_opens l))
simple_opens {token = token} class is (adding l m r) = inl (class_of_name class token is (left_opens l))
simple_opens {token = token} class is (subtracting l m r) = inl (class_of_name class token is (left_opens l))
simple_opens {token = token} class is (incremented l m) = inl (class_of_name class token is (left_opens l))
simple_opens {token = token} class is (decremented l m) = inl (class_of_name class token is (left_opens l))
simple_opens {token = token} class is (incremented_first m l) = inr (inl (class_of_mark class Class.PlusPlus token tt is m))
simple_opens {token = token} class is (decremented_first m l) = inr (inr (class_of_mark class Class.MinusMinus token tt is m))
simple_opens {token = token} class is (performed (without n b a)) = inl (class_of_name class token is n)
simple_opens {token = token} class is (performed (with_some n b e m a)) = inl (class_of_name class token is n)

-- no declaration begins with a token of such a class
pub no_declaration : {aliases : List (List ℕ)} {d : DeclarationTree} {token : Token} {tokens rest : Tokens} (class : Class) → IsClass token class → (class ≡ Class.Int → ⊥) → (class ≡ Class.Struct → ⊥) → (class ≡ Class.Name → ⊥) → IsDeclaration aliases d (token ∷ tokens) rest → ⊥
no_declaration class is no_int no_struct no_name d = elim (declaration_opens class is d) [ inl e ↦ no_int e | inr f ↦ elim f [ inl g ↦ no_struct g | inr h ↦ no_name h ] ]

-- no simple statement begins with a token of such a class
pub no_simple : {aliases : List (List ℕ)} {s : SimpleTree} {token : Token} {tokens rest : Tokens} (class : Class) → IsClass token class → (class ≡ Class.Name → ⊥) → (class ≡ Class.PlusPlus → ⊥) → (class ≡ Class.MinusMinus → ⊥) → IsSimple aliases s (token ∷ tokens) rest → ⊥
no_simple class is no_name no_plus no_minus s = elim (simple_opens class is s) [ inl e ↦ no_name e | inr f ↦ elim f [ inl g ↦ no_plus g | inr h ↦ no_minus h ] ]

pub line_semicolon : (aliases : List (List ℕ)) {token : Token} → IsMark (codes ";") token → Closes (Starts aliases) token nothing
line_semicolon aliases {token} is = record { forward = go; backward = λ tokens. starts_empty is }
  where
    go : (tokens rest : Tokens) (start : Start) → IsStart aliases start (token ∷ tokens) rest → (rest ≡ tokens) × (start ≡ nothing)
    go tokens rest start (starts_empty s) = (refl, refl)
    go tokens rest start (starts_declaring d) = absurd (no_declaration Class.Semicolon is (λ e. cc) (λ e. cc) (λ e. cc) d)
    go tokens rest start (starts_performing s p) = absurd (no_simple Class.Semicolon is (λ e. cc) (λ e. cc) (λ e. cc) s)

pub line_int : (aliases : List (List ℕ)) {token : Token} → IsWord (codes "int") token → Takes [] (Starts aliases) (DeclarationLine (BehindBase aliases (Base.Int token.place))) token
line_int aliases {token} is = record { forward = go; backward = back }
  where
    go : (tokens rest : Tokens) (start : Start) → IsStart aliases start (token ∷ tokens) rest → DeclarationLine (BehindBase aliases (Base.Int token.place)) tokens rest start ⊎ ((rest ≡ token ∷ tokens) × IsTrue (is_in [] token.text))
    go tokens rest start (starts_empty s) = absurd (let e : Class.Semicolon ≡ Class.Int = class_of_word Class.Semicolon Class.Int token tt s is in cc)
    go tokens rest start (starts_declaring (declared (int w) i m s)) = inl (in_turn (in_turn i (behind_initials m s)) ended)
    go tokens rest start (starts_declaring (declared (tagged w n) i m s)) = absurd (let e : Class.Struct ≡ Class.Int = class_of_word Class.Struct Class.Int token tt w is in cc)
    go tokens rest start (starts_declaring (declared (alias a) i m s)) = absurd (let e : Class.Name ≡ Class.Int = class_of_word Class.Name Class.Int token tt a.name is in cc)
    go tokens rest start (starts_performing s p) = absurd (no_simple Class.Int is (λ e. cc) (λ e. cc) (λ e. cc) s)

    back : (tokens rest : Tokens) (start : Start) → DeclarationLine (BehindBase aliases (Base.Int token.place)) tokens rest start → IsStart aliases start (token ∷ tokens) rest
    back tokens rest start (in_turn (in_turn i (behind_initials m s)) ended) = starts_declaring (declared (int is) i m s)

pub line_struct : (aliases : List (List ℕ)) {token : Token} → IsWord (codes "struct") token → Takes [] (Starts aliases) (Next IsName (λ name. DeclarationLine (BehindBase aliases (Base.Struct token.place (name_of name))))) token
line_struct aliases {token} is = record { forward = go; backward = back }
  where
    go : (tokens rest : Tokens) (start : Start) → IsStart aliases start (token ∷ tokens) rest → Next IsName (λ name. DeclarationLine (BehindBase aliases (Base.Struct token.place (name_of name)))) tokens rest start ⊎ ((rest ≡ token ∷ tokens) × IsTrue (is_in [] token.text))
    go tokens rest start (starts_empty s) = absurd (let e : Class.Semicolon ≡ Class.Struct = class_of_word Class.Semicolon Class.Struct token tt s is in cc)
    go tokens rest start (starts_declaring (declared (int w) i m s)) = absurd (let e : Class.Int ≡ Class.Struct = class_of_word Class.Int Class.Struct token tt w is in cc)
    go tokens rest start (starts_declaring (declared (tagged w n) i m s)) = inl (next n (in_turn (in_turn i (behind_initials m s)) ended))
    go tokens rest start (starts_declaring (declared (alias a) i m s)) = absurd (let e : Class.Name ≡ Class.Struct = class_of_word Class.Name Class.Struct token tt a.name is in cc)
    go tokens rest start (starts_performing s p) = absurd (no_simple Class.Struct is (λ e. cc) (λ e. cc) (λ e. cc) s)

    back : (tokens rest : Tokens) (start : Start) → Next IsName (λ name. DeclarationLine (BehindBase aliases (Base.Struct token.place (name_of name)))) tokens rest start → IsStart aliases start (token ∷ tokens) rest
    back tokens rest start (next n (in_turn (in_turn i (behind_initials m s)) ended)) = starts_declaring (declared (tagged is n) i m s)

-- the token that a name was
pub same_token : (token : Token) → IsName token → token_of (name_of token) ≡ token
same_token token is = let k = is.kind in λ i. record { kind = sym k i; text = token.text; place = token.place }

pub line_alias : (aliases : List (List ℕ)) {token : Token} → IsAlias aliases token → Takes [] (Starts aliases) (Either (DeclarationLine (BehindBase aliases (Base.Alias (name_of token)))) (SimpleLine (BehindName aliases (name_of token)))) token
line_alias aliases {token} is = record { forward = go; backward = back }
  where
    go : (tokens rest : Tokens) (start : Start) → IsStart aliases start (token ∷ tokens) rest → Either (DeclarationLine (BehindBase aliases (Base.Alias (name_of token)))) (SimpleLine (BehindName aliases (name_of token))) tokens rest start ⊎ ((rest ≡ token ∷ tokens) × IsTrue (is_in [] token.text))
    go tokens rest start (starts_empty s) = absurd (let e : Class.Semicolon ≡ Class.Name = class_of_name Class.Semicolon token s is.name in cc)
    go tokens rest start (starts_declaring (declared (int w) i m s)) = absurd (let e : Class.Int ≡ Class.Name = class_of_name Class.Int token w is.name in cc)
    go tokens rest start (starts_declaring (declared (tagged w n) i m s)) = absurd (let e : Class.Struct ≡ Class.Name = class_of_name Class.Struct token w is.name in cc)
    go tokens rest start (starts_declaring (declared (alias a) i m s)) = inl (inl (in_turn (in_turn i (behind_initials m s)) ended))
    go tokens rest start (starts_performing {s = s} {semicolon = semicolon} p m) = inl (inr (in_turn (subst (λ (t : Token). IsSimple aliases s (t ∷ tokens) (semicolon ∷ rest)) (sym (same_token token is.name)) p) (next m ended)))

    back : (tokens rest : Tokens) (start : Start) → Either (DeclarationLine (BehindBase aliases (Base.Alias (name_of token)))) (SimpleLine (BehindName aliases (name_of token))) tokens rest start → IsStart aliases start (token ∷ tokens) rest
    back tokens rest start (inl (in_turn (in_turn i (behind_initials m s)) ended)) = starts_declaring (declared (alias is) i m s)
    back tokens rest start (inr (in_turn {x = s} {mid = mid} p (next {token = semicolon} m ended))) = starts_performing (subst (λ (t : Token). IsSimple aliases s (t ∷ tokens) (semicolon ∷ rest)) (same_token token is.name) p) m

-- where neither a `;` nor a declaration can begin
pub line_other : (aliases : List (List ℕ)) {token : Token} → ¬ IsMark (codes ";") token → ((d : DeclarationTree) (tokens rest : Tokens) → IsDeclaration aliases d (token ∷ tokens) rest → ⊥) → SameAt (Starts aliases) (SimpleLine (Simples aliases)) token
line_other aliases {token} no_semicolon no_base = record { forward = go; backward = back }
  where
    go : (tokens rest : Tokens) (start : Start) → IsStart aliases start (token ∷ tokens) rest → SimpleLine (Simples aliases) (token ∷ tokens) rest start
    go tokens rest start (starts_empty s) = absurd (no_semicolon s)
    go tokens rest start (starts_declaring {d = d} h) = absurd (no_base d tokens rest h)
    go tokens rest start (starts_performing s m) = in_turn s (next m ended)

    back : (tokens rest : Tokens) (start : Start) → SimpleLine (Simples aliases) (token ∷ tokens) rest start → IsStart aliases start (token ∷ tokens) rest
    back tokens rest start (in_turn s (next m ended)) = starts_performing s m

-- a name that is no type begins a simple statement
pub line_name : (aliases : List (List ℕ)) {token : Token} → IsName token → (IsTrue (is_in aliases token.text) → ⊥) → Takes [] (Starts aliases) (SimpleLine (λ tokens rest s. IsSimple aliases s (token ∷ tokens) rest)) token
line_name aliases {token} is no_alias = record { forward = go; backward = back }
  where
    go : (tokens rest : Tokens) (start : Start) → IsStart aliases start (token ∷ tokens) rest → SimpleLine (λ tokens rest s. IsSimple aliases s (token ∷ tokens) rest) tokens rest start ⊎ ((rest ≡ token ∷ tokens) × IsTrue (is_in [] token.text))
    go tokens rest start (starts_empty s) = absurd (let e : Class.Semicolon ≡ Class.Name = class_of_name Class.Semicolon token s is in cc)
    go tokens rest start (starts_declaring (declared (int w) i m s)) = absurd (let e : Class.Int ≡ Class.Name = class_of_name Class.Int token w is in cc)
    go tokens rest start (starts_declaring (declared (tagged w n) i m s)) = absurd (let e : Class.Struct ≡ Class.Name = class_of_name Class.Struct token w is in cc)
    go tokens rest start (starts_declaring (declared (alias a) i m s)) = absurd (no_alias a.known)
    go tokens rest start (starts_performing s m) = inl (in_turn s (next m ended))

    back : (tokens rest : Tokens) (start : Start) → SimpleLine (λ tokens rest s. IsSimple aliases s (token ∷ tokens) rest) tokens rest start → IsStart aliases start (token ∷ tokens) rest
    back tokens rest start (in_turn s (next m ended)) = starts_performing s m

-- the token after the name with which a simple statement begins
data Second (token : Token) : Type 0 where
  arrow : IsMark (codes "->") token → Second token
  equals : IsMark (codes "=") token → Second token
  plus_equals : IsMark (codes "+=") token → Second token
  minus_equals : IsMark (codes "-=") token → Second token
  plus_plus : IsMark (codes "++") token → Second token
  minus_minus : IsMark (codes "--") token → Second token
  opened : IsMark (codes "(") token → Second token

fields_second : {start l : Left} {token mark : Token} {tokens rest : Tokens} → (IsMark (codes "->") token → Second token) → (mark ≡ token → Second token) → Fields start (token ∷ tokens) l (mark ∷ rest) → Second token
fields_second on_arrow on_mark none = on_mark refl
fields_second on_arrow on_mark (more a m f) = on_arrow a

second_of : {l : Left} {first token mark : Token} {tokens rest : Tokens} → (IsMark (codes "->") token → Second token) → (mark ≡ token → Second token) → IsLeft l (first ∷ token ∷ tokens) (mark ∷ rest) → Second token
second_of on_arrow on_mark (named n f) = fields_second on_arrow on_mark f

moved : {a : List ℕ} {mark token : Token} → mark ≡ token → IsMark a mark → IsMark a token
moved {a = a} e is = subst (λ (t : Token). IsMark a t) e is

simple_second : {aliases : List (List ℕ)} {s : SimpleTree} {first token : Token} {tokens rest : Tokens} → first.kind ≡ TokenKind.Name → IsSimple aliases s (first ∷ token ∷ tokens) rest → Second token
simple_second is (assigned l m r) = second_of arrow (λ e. equals (moved e m)) l
simple_second is (adding l m r) = second_of arrow (λ e. plus_equals (moved e m)) l
simple_second is (subtracting l m r) = second_of arrow (λ e. minus_equals (moved e m)) l
simple_second is (incremented l m) = second_of arrow (λ e. plus_plus (moved e m)) l
simple_second is (decremented l m) = second_of arrow (λ e. minus_minus (moved e m)) l
simple_second {first = first} is (incremented_first m l) = absurd (let e : TokenKind.Mark ≡ TokenKind.Name = sym m.kind ∙ is in cc)
simple_second {first = first} is (decremented_first m l) = absurd (let e : TokenKind.Mark ≡ TokenKind.Name = sym m.kind ∙ is in cc)
simple_second is (performed (without n b a)) = opened b
simple_second is (performed (with_some n b e m a)) = opened b

second_no_name : {token : Token} → IsName token → Second token → ⊥
second_no_name {token} is (arrow m) = let e : Class.Arrow ≡ Class.Name = class_of_name Class.Arrow token m is in cc
second_no_name {token} is (equals m) = let e : Class.Assign ≡ Class.Name = class_of_name Class.Assign token m is in cc
second_no_name {token} is (plus_equals m) = let e : Class.PlusAssign ≡ Class.Name = class_of_name Class.PlusAssign token m is in cc
second_no_name {token} is (minus_equals m) = let e : Class.MinusAssign ≡ Class.Name = class_of_name Class.MinusAssign token m is in cc
second_no_name {token} is (plus_plus m) = let e : Class.PlusPlus ≡ Class.Name = class_of_name Class.PlusPlus token m is in cc
second_no_name {token} is (minus_minus m) = let e : Class.MinusMinus ≡ Class.Name = class_of_name Class.MinusMinus token m is in cc
second_no_name {token} is (opened m) = let e : Class.OpenParen ≡ Class.Name = class_of_name Class.OpenParen token m is in cc

second_no_star : {token : Token} → IsMark (codes "*") token → Second token → ⊥
second_no_star {token} is (arrow m) = let e : Class.Arrow ≡ Class.Star = class_of_mark Class.Arrow Class.Star token tt m is in cc
second_no_star {token} is (equals m) = let e : Class.Assign ≡ Class.Star = class_of_mark Class.Assign Class.Star token tt m is in cc
second_no_star {token} is (plus_equals m) = let e : Class.PlusAssign ≡ Class.Star = class_of_mark Class.PlusAssign Class.Star token tt m is in cc
second_no_star {token} is (minus_equals m) = let e : Class.MinusAssign ≡ Class.Star = class_of_mark Class.MinusAssign Class.Star token tt m is in cc
second_no_star {token} is (plus_plus m) = let e : Class.PlusPlus ≡ Class.Star = class_of_mark Class.PlusPlus Class.Star token tt m is in cc
second_no_star {token} is (minus_minus m) = let e : Class.MinusMinus ≡ Class.Star = class_of_mark Class.MinusMinus Class.Star token tt m is in cc
second_no_star {token} is (opened m) = let e : Class.OpenParen ≡ Class.Star = class_of_mark Class.OpenParen Class.Star token tt m is in cc

-- after the name of a type a name or `*` is no part of a simple statement
pub simple_stuck_name : (aliases : List (List ℕ)) (name : Name) {token : Token} → IsName token → IsStuckAt (SimpleLine (BehindName aliases name)) token
simple_stuck_name aliases name is tokens rest start (in_turn s m) = second_no_name is (simple_second refl s)

pub simple_stuck_star : (aliases : List (List ℕ)) (name : Name) {token : Token} → IsMark (codes "*") token → IsStuckAt (SimpleLine (BehindName aliases name)) token
simple_stuck_star aliases name is tokens rest start (in_turn s m) = second_no_star is (simple_second refl s)

initial_opens : {aliases : List (List ℕ)} {i : InitialTree} {token : Token} {tokens rest : Tokens} → IsInitial aliases i (token ∷ tokens) rest → IsMark (codes "*") token ⊎ IsName token
initial_opens (bare (declarator (star m) n)) = inl m
initial_opens (bare (declarator no_star n)) = inr n
initial_opens (with_value (declarator (star m) n) a r) = inl m
initial_opens (with_value (declarator no_star n) a r) = inr n

-- after the name of a type only a name or `*` goes on with a declaration
pub declaration_stuck : (aliases : List (List ℕ)) (name : Name) {token : Token} → ¬ IsName token → ¬ IsMark (codes "*") token → IsStuckAt (DeclarationLine (BehindBase aliases (Base.Alias name))) token
declaration_stuck aliases name no_name no_mark tokens rest start (in_turn (in_turn i b) e) = elim (initial_opens i) [ inl m ↦ no_mark m | inr n ↦ no_name n ]

-- the token that a free name is
pub token_is_name : (name : Name) → IsFalse (is_reserved name.text) → IsName (token_of name)
token_is_name name is_free = record { kind = refl; free = is_free }
