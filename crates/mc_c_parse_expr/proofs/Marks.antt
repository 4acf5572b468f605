-- A token is one mark.
use Rattle.mc_c_parse_expr.specs.Primaries.{primary_marks}
use Rattle.mc_c_parse_expr.specs.Expressions.{expression_marks}
use Rattle.std.proofs.Common.{◌≡◌, ◌||◌, ℕ, List, Bool, true, false, refl, ap, sym, ◌∙◌, IsTrue}
use Rattle.std.specs.Prelude.{codes}
use Rattle.mc_base.specs.declared.text.token.Token.{Token}
use Rattle.mc_c_syntax.specs.Ast.Names.{IsMark, IsWord, IsName, IsNumber, is_in, is_same, is_reserved}

pub clash : {token : Token} (a b : List ℕ) → is_same a a ≡ true → is_same a b ≡ false → IsMark a token → IsMark b token → ⊥
clash a b same other m n = let e = sym same ∙ ap (is_same a) (sym m.text ∙ n.text) ∙ other in cc

-- a token of these marks is not another mark
pub not_in : {token : Token} (marks : List (List ℕ)) (mark : List ℕ) → is_in marks mark ≡ false → IsTrue (is_in marks token.text) → IsMark mark token → ⊥
not_in marks mark other known m = let e = sym known ∙ ap (is_in marks) m.text ∙ other in cc

-- a token that is a mark is of these
pub is_of : {token : Token} (marks : List (List ℕ)) (mark : List ℕ) → is_in marks mark ≡ true → IsMark mark token → IsTrue (is_in marks token.text)
is_of marks mark known m = ap (is_in marks) m.text ∙ known

pub mark_number : {token : Token} {mark : List ℕ} {n : ℕ} → IsMark mark token → IsNumber token n → ⊥
mark_number m h = let e = sym m.kind ∙ h.kind in cc

pub mark_word : {token : Token} {mark word : List ℕ} → IsMark mark token → IsWord word token → ⊥
mark_word m h = let e = sym m.kind ∙ h.kind in cc

pub mark_name : {token : Token} {mark : List ℕ} → IsMark mark token → IsName token → ⊥
mark_name m h = let e = sym m.kind ∙ h.kind in cc

pub number_word : {token : Token} {word : List ℕ} {n : ℕ} → IsNumber token n → IsWord word token → ⊥
number_word m h = let e = sym m.kind ∙ h.kind in cc

pub number_name : {token : Token} {n : ℕ} → IsNumber token n → IsName token → ⊥
number_name m h = let e = sym m.kind ∙ h.kind in cc

pub word_name : {token : Token} (word : List ℕ) → is_reserved word ≡ true → IsWord word token → IsName token → ⊥
word_name word known m h = let e = sym known ∙ ap is_reserved (sym m.text) ∙ h.free in cc

pub word_clash : {token : Token} (a b : List ℕ) → is_same a a ≡ true → is_same a b ≡ false → IsWord a token → IsWord b token → ⊥
word_clash a b same other m n = let e = sym same ∙ ap (is_same a) (sym m.text ∙ n.text) ∙ other in cc

in_last : (a b c d : Bool) → (d || false) ≡ true → (a || (b || (c || (d || false)))) ≡ true
in_last true b c d h = refl
in_last false true c d h = refl
in_last false false true d h = refl
in_last false false false d h = h

pub known_more : (text : List ℕ) → IsTrue (is_in primary_marks text) → IsTrue (is_in expression_marks text)
known_more text h = in_last (is_same text (codes "+")) (is_same text (codes "-")) (is_same text (codes "*")) (is_same text (codes "->")) h
