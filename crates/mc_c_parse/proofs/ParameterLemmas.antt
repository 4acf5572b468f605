-- The transitions of parameters.
use native.Mathlib.Omega.{arith}
use Rattle.std.proofs.Common.{◌≡◌, ℕ, List, [], ◌∷◌, ◌++◌, refl, inl}
use Rattle.std.specs.Prelude.{codes}
use Rattle.mc_base.specs.declared.text.place.Place.{Place}
use Rattle.mc_base.specs.declared.text.token.Token.{Token}
use Rattle.mc_base.specs.declared.text.token.TokenKind.TheVariants as TokenKind
use Rattle.mc_c_syntax.specs.declared.ast.class.Class.{Class}
use Rattle.mc_c_syntax.specs.Ast.Names.{Tokens, IsMark, IsWord}
use Rattle.mc_c_syntax.specs.Ast.Classes.{IsClass}
use Rattle.mc_c_syntax.specs.Ast.Readers.{Takes, Closes, IsStuckAt}
use Rattle.mc_c_syntax.specs.declared.ast.trees.Parameter.{Parameter}
use Rattle.mc_c_syntax.specs.Ast.Trees.{ParametersTree, unnamed, void, listed}
use Rattle.mc_c_syntax.specs.Ast.Grammar.{IsParameter, parameter, last_parameter, next_parameter, no_parameters, void_parameters, some_parameters}
use Rattle.mc_c_parse.specs.declared.base.BaseReader.TheVariants as BaseReader
use Rattle.mc_c_parse.specs.declared.parameter.ParameterReader.{ParameterReader}
use Rattle.mc_c_parse.specs.Threads.{Then}
use Rattle.mc_c_parse.specs.Parameters.{CompletesParameter, IsVoidEnd, void_end, EndsParameters, IsParametersEnd}
use Rattle.mc_c_parse.proofs.Threads.{SameAt}
use Rattle.mc_c_parse.proofs.Marks.{only_close_paren, only_comma, only_void}
use Rattle.mc_c_parse.proofs.Bases.{mark_no_base, void_no_base}

-- within a parameter after these
abbrev pub NextParameter : List (List ℕ) → List Parameter → Tokens → Tokens → ParametersTree → Type 0
NextParameter aliases ps = Then (CompletesParameter aliases (ParameterReader.Base BaseReader.Start)) (λ p. EndsParameters aliases (ps ++ p ∷ []))

-- a parameter is its base and its declarator
splits : {aliases : List (List ℕ)} {p : Parameter} {tokens rest : Tokens} → IsParameter aliases p tokens rest → CompletesParameter aliases (ParameterReader.Base BaseReader.Start) tokens rest p
splits (parameter b d) = (_, _, b, (_, _, d, (refl, refl)))

joins : {aliases : List (List ℕ)} {p : Parameter} {tokens rest : Tokens} → CompletesParameter aliases (ParameterReader.Base BaseReader.Start) tokens rest p → IsParameter aliases p tokens rest
joins (base, mid, b, (d, behind, one, e)) = rw (e.0, e.1) (parameter b one)

mark_no_parameter : {aliases : List (List ℕ)} {p : Parameter} {token : Token} {tokens rest : Tokens} → token.kind ≡ TokenKind.Mark → IsParameter aliases p (token ∷ tokens) rest → ⊥
mark_no_parameter m (parameter b d) = mark_no_base m b

void_no_parameter : {aliases : List (List ℕ)} {p : Parameter} {token : Token} {tokens rest : Tokens} → IsWord (codes "void") token → IsParameter aliases p (token ∷ tokens) rest → ⊥
void_no_parameter w (parameter b d) = void_no_base w b

closes_at_once : {aliases : List (List ℕ)} {token : Token} {all : ParametersTree} {tokens rest : Tokens} → IsMark (codes ")") token → IsParametersEnd aliases (token ∷ tokens) rest all → (rest ≡ tokens) × (all ≡ unnamed)
closes_at_once w (after, no_parameters, k) = (refl, refl)
closes_at_once w (after, void_parameters v, k) = grind arith
closes_at_once w (after, some_parameters p more, k) = absurd (mark_no_parameter w.kind p)

pub parameters_none : (aliases : List (List ℕ)) {token : Token} → IsMark (codes ")") token → Closes (IsParametersEnd aliases) token unnamed
parameters_none aliases {token} w = record { forward = λ tokens rest all n. closes_at_once w n; backward = λ tokens. (token, no_parameters, w) }

behind_void : {aliases : List (List ℕ)} {token : Token} {all : ParametersTree} {tokens rest : Tokens} → IsWord (codes "void") token → IsParametersEnd aliases (token ∷ tokens) rest all → IsVoidEnd token.place tokens rest all
behind_void w (after, no_parameters, k) = grind arith
behind_void w (after, void_parameters v, k) = void_end k
behind_void w (after, some_parameters p more, k) = absurd (void_no_parameter w p)

before_end : {aliases : List (List ℕ)} {token : Token} {all : ParametersTree} {tokens rest : Tokens} → IsWord (codes "void") token → IsVoidEnd token.place tokens rest all → IsParametersEnd aliases (token ∷ tokens) rest all
before_end w (void_end k) = (_, void_parameters w, k)

pub parameters_void : (aliases : List (List ℕ)) {token : Token} → IsWord (codes "void") token → Takes [] (IsParametersEnd aliases) (IsVoidEnd token.place) token
parameters_void aliases w = record { forward = λ tokens rest all n. inl (behind_void w n); backward = λ tokens rest all e. before_end w e }

first : {aliases : List (List ℕ)} {token : Token} {all : ParametersTree} {tokens rest : Tokens} (class : Class) → IsClass token class → (class ≡ Class.CloseParen → ⊥) → (class ≡ Class.Void → ⊥) → IsParametersEnd aliases (token ∷ tokens) rest all → NextParameter aliases [] (token ∷ tokens) rest all
first class c not_close not_void (after, no_parameters, k) = absurd (not_close (only_close_paren class c k))
first class c not_close not_void (after, void_parameters v, k) = absurd (not_void (only_void class c v))
first class c not_close not_void (after, some_parameters p more, k) = (_, _, splits p, (_, after, more, k, refl))

from_first : {aliases : List (List ℕ)} {all : ParametersTree} {tokens rest : Tokens} → NextParameter aliases [] tokens rest all → IsParametersEnd aliases tokens rest all
from_first (p, mid, one, (ps, after, more, k, e)) = rw e (after, some_parameters (joins one) more, k)

pub parameters_first : (aliases : List (List ℕ)) {token : Token} (class : Class) → IsClass token class → (class ≡ Class.CloseParen → ⊥) → (class ≡ Class.Void → ⊥) → SameAt (IsParametersEnd aliases) (NextParameter aliases []) token
parameters_first aliases class c not_close not_void = record { forward = λ tokens rest all n. first class c not_close not_void n; backward = λ tokens rest all n. from_first n }

ends : {place : Place} {token : Token} {all : ParametersTree} {tokens rest : Tokens} → IsVoidEnd place (token ∷ tokens) rest all → (rest ≡ tokens) × (all ≡ void place)
ends (void_end k) = (refl, refl)

pub void_close : {place : Place} {token : Token} → IsMark (codes ")") token → Closes (IsVoidEnd place) token (void place)
void_close w = record { forward = λ tokens rest all n. ends n; backward = λ tokens. void_end w }

no_end : {place : Place} {token : Token} {all : ParametersTree} {tokens rest : Tokens} (class : Class) → IsClass token class → (class ≡ Class.CloseParen → ⊥) → IsVoidEnd place (token ∷ tokens) rest all → ⊥
no_end class c not_close (void_end k) = not_close (only_close_paren class c k)

pub void_stuck : {place : Place} {token : Token} (class : Class) → IsClass token class → (class ≡ Class.CloseParen → ⊥) → IsStuckAt (IsVoidEnd place) token
void_stuck class c not_close = λ tokens rest all n. no_end class c not_close n

behind_comma : {aliases : List (List ℕ)} {token : Token} {ps : List Parameter} {all : ParametersTree} {tokens rest : Tokens} → IsMark (codes ",") token → EndsParameters aliases ps (token ∷ tokens) rest all → NextParameter aliases ps tokens rest all
behind_comma w (qs, after, last_parameter, k, e) = grind arith
behind_comma w (qs, after, next_parameter v p more, k, e) = (_, _, splits p, (qs, after, more, k, e))

pub parameters_comma : (aliases : List (List ℕ)) {token : Token} (ps : List Parameter) → IsMark (codes ",") token → Takes [] (EndsParameters aliases ps) (NextParameter aliases ps) token
parameters_comma aliases ps w = record { forward = λ tokens rest all n. inl (behind_comma w n); backward = λ tokens rest all n. (n.3.0, n.3.1, next_parameter w (joins n.2) n.3.2, n.3.3, n.3.4) }

closes : {aliases : List (List ℕ)} {token : Token} {ps : List Parameter} {all : ParametersTree} {tokens rest : Tokens} → IsMark (codes ")") token → EndsParameters aliases ps (token ∷ tokens) rest all → (rest ≡ tokens) × (all ≡ listed ps)
closes w (qs, after, last_parameter, k, e) = (refl, e)
closes w (qs, after, next_parameter v p more, k, e) = grind arith

pub parameters_close : (aliases : List (List ℕ)) {token : Token} (ps : List Parameter) → IsMark (codes ")") token → Closes (EndsParameters aliases ps) token (listed ps)
parameters_close aliases {token} ps w = record { forward = λ tokens rest all n. closes w n; backward = λ tokens. (ps, token, last_parameter, w, refl) }

no_more : {aliases : List (List ℕ)} {token : Token} {ps : List Parameter} {all : ParametersTree} {tokens rest : Tokens} (class : Class) → IsClass token class → (class ≡ Class.Comma → ⊥) → (class ≡ Class.CloseParen → ⊥) → EndsParameters aliases ps (token ∷ tokens) rest all → ⊥
no_more class c not_comma not_close (qs, after, last_parameter, k, e) = not_close (only_close_paren class c k)
no_more class c not_comma not_close (qs, after, next_parameter v p more, k, e) = not_comma (only_comma class c v)

pub parameters_stuck : (aliases : List (List ℕ)) {token : Token} (ps : List Parameter) (class : Class) → IsClass token class → (class ≡ Class.Comma → ⊥) → (class ≡ Class.CloseParen → ⊥) → IsStuckAt (EndsParameters aliases ps) token
parameters_stuck aliases ps class c not_comma not_close = λ tokens rest all n. no_more class c not_comma not_close n
