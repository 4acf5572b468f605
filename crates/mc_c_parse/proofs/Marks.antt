-- A token is of one class.
use native.Mathlib.Omega.{arith}
use Rattle.std.proofs.Common.{◌≡◌, refl}
use Rattle.std.specs.Prelude.{codes}
use Rattle.mc_base.specs.declared.text.token.Token.{Token}
use Rattle.mc_base.specs.declared.text.token.TokenKind.TheVariants as TokenKind
use Rattle.mc_c_syntax.specs.declared.ast.class.Class.{Class}
use Rattle.mc_c_syntax.specs.Ast.Names.{IsMark, IsWord, IsName}
use Rattle.mc_c_syntax.specs.Ast.Classes.{IsClass}

pub only_star : {token : Token} (class : Class) → IsClass token class → IsMark (codes "*") token → class ≡ Class.Star
only_star Class.Star c w = refl
only_star class c w = grind arith

pub only_comma : {token : Token} (class : Class) → IsClass token class → IsMark (codes ",") token → class ≡ Class.Comma
only_comma Class.Comma c w = refl
only_comma class c w = grind arith

pub only_semicolon : {token : Token} (class : Class) → IsClass token class → IsMark (codes ";") token → class ≡ Class.Semicolon
only_semicolon Class.Semicolon c w = refl
only_semicolon class c w = grind arith

pub only_open_brace : {token : Token} (class : Class) → IsClass token class → IsMark (codes "{") token → class ≡ Class.OpenBrace
only_open_brace Class.OpenBrace c w = refl
only_open_brace class c w = grind arith

pub only_close_brace : {token : Token} (class : Class) → IsClass token class → IsMark (codes "}") token → class ≡ Class.CloseBrace
only_close_brace Class.CloseBrace c w = refl
only_close_brace class c w = grind arith

pub only_open_paren : {token : Token} (class : Class) → IsClass token class → IsMark (codes "(") token → class ≡ Class.OpenParen
only_open_paren Class.OpenParen c w = refl
only_open_paren class c w = grind arith

pub only_close_paren : {token : Token} (class : Class) → IsClass token class → IsMark (codes ")") token → class ≡ Class.CloseParen
only_close_paren Class.CloseParen c w = refl
only_close_paren class c w = grind arith

pub only_int : {token : Token} (class : Class) → IsClass token class → IsWord (codes "int") token → class ≡ Class.Int
only_int Class.Int c w = refl
only_int class c w = grind arith

pub only_struct : {token : Token} (class : Class) → IsClass token class → IsWord (codes "struct") token → class ≡ Class.Struct
only_struct Class.Struct c w = refl
only_struct class c w = grind arith

pub only_typedef : {token : Token} (class : Class) → IsClass token class → IsWord (codes "typedef") token → class ≡ Class.Typedef
only_typedef Class.Typedef c w = refl
only_typedef class c w = grind arith

pub only_static : {token : Token} (class : Class) → IsClass token class → IsWord (codes "static") token → class ≡ Class.Static
only_static Class.Static c w = refl
only_static class c w = grind arith

pub only_void : {token : Token} (class : Class) → IsClass token class → IsWord (codes "void") token → class ≡ Class.Void
only_void Class.Void c w = refl
only_void class c w = grind arith

pub only_name : {token : Token} (class : Class) → IsClass token class → IsName token → class ≡ Class.Name
only_name Class.Name c w = refl
only_name class c w = grind arith

pub no_int : Class.Int ≡ Class.Name → ⊥
no_int e = cc

pub no_struct : Class.Struct ≡ Class.Name → ⊥
no_struct e = cc

pub only_end : (token : Token) (class : Class) → IsClass token class → token.kind ≡ TokenKind.End → class ≡ Class.End
only_end token Class.End c w = refl
only_end token class c w = grind arith
