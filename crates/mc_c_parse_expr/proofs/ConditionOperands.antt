-- How operands of conditions begin.
use Rattle.std.proofs.Common.{◌≡◌, List, [], ◌∷◌, Option, Some, None, refl, sym, ◌∙◌, subst}
use Rattle.std.specs.Prelude.{codes}
use Rattle.mc_base.specs.declared.text.place.Place.{Place}
use Rattle.mc_base.specs.declared.text.token.Token.{Token}
use Rattle.mc_c_syntax.specs.declared.ast.class.Class.{Class}
use Rattle.mc_c_syntax.specs.declared.ast.trees.LeftValue.{LeftValue}
use Rattle.mc_c_syntax.specs.declared.ast.trees.Condition.{Condition}
use Rattle.mc_c_syntax.specs.Ast.Trees.{Left, Expr, value, input, parens, Cond, plain, compare, negation, enclosed, both, either}
use Rattle.mc_c_syntax.specs.Ast.Views.{left_of}
use Rattle.mc_c_syntax.specs.Ast.Names.{Tokens, IsMark, IsWord, IsName, name_of}
use Rattle.mc_c_syntax.specs.Ast.Classes.{IsClass}
use Rattle.mc_c_syntax.specs.Ast.Grammar.{Fields, named, negative, numeral, null_word, input_call, variable, in_parens, product, IsSum, sum_of, IsProper, IsBang, bang_bang, bang_variable, bang_input, bang_parens, IsOne, plain_one, comparison, negated, condition_parens, Boths, no_both, one_more, all_of, Eithers, no_either, or_else, IsCondition, any_of}
use Rattle.mc_c_syntax.specs.Ast.Readers.{IsStuckAt}
use Rattle.mc_c_parse_expr.specs.declared.primary.Primary.{Primary}
use Rattle.mc_c_parse_expr.specs.declared.condition.ConditionPending.{ConditionPending}
use Rattle.mc_c_parse_expr.specs.declared.condition.ConditionGroup.{ConditionGroup}
use Rattle.mc_c_parse_expr.specs.Turns.{InTurn, in_turn, marked, Moves}
use Rattle.mc_c_parse_expr.specs.Primaries.{CompletesPrimary, behind_left, behind_input}
use Rattle.mc_c_parse_expr.specs.Expressions.{BehindOperand}
use Rattle.mc_c_parse_expr.specs.Conditions.{nothing, IsDenied, denied_bang, denied_variable, denied_input, denied_parens, IsOperand, Joins, joins, MaybeCompared, alone, compared, BehindParens, BehindCondition, AtConditionOperand, BeginsDenied}
use Rattle.mc_c_parse_expr.proofs.Classes.{bang_is, before_is, name_is, input_is}
use Rattle.mc_c_parse_expr.proofs.Marks.{clash, mark_number, mark_word, mark_name, word_name}
use Rattle.mc_c_parse_expr.proofs.Operands.{StartsNone, no_unary}
use Rattle.mc_c_parse_expr.proofs.Turns.{SameAt}

-- no expression begins with `!`
bang_starts_none : StartsNone Class.Bang
bang_starts_none = record { minus = λ e. cc; before = λ e. cc; name = λ e. cc; number = λ n e. cc; null = λ e. cc; input = λ e. cc }

no_sum : {token : Token} {tokens rest : Tokens} {e : Expr} → IsMark (codes "!") token → IsSum e (token ∷ tokens) rest → ⊥
no_sum m (sum_of (product u f) ts) = no_unary bang_starts_none m u

-- what stands after a `!`
data Bang (token : Token) (c : Cond) (tokens rest : Tokens) : Type 0 where
  bang : {d : Cond} → c ≡ negation token.place d → IsDenied d tokens rest → Bang token c tokens rest

bang_forward : {token : Token} {c : Cond} {tokens rest : Tokens} → IsBang c (token ∷ tokens) rest → Bang token c tokens rest
bang_forward (bang_bang m b) = bang refl (denied_bang b)
bang_forward (bang_variable m l) = bang refl (denied_variable l)
bang_forward (bang_input m w b a) = bang refl (denied_input w b a)
bang_forward (bang_parens m b c a) = bang refl (denied_parens b c a)

bang_mark : {token : Token} {c : Cond} {tokens rest : Tokens} → IsBang c (token ∷ tokens) rest → IsMark (codes "!") token
bang_mark (bang_bang m b) = m
bang_mark (bang_variable m l) = m
bang_mark (bang_input m w b a) = m
bang_mark (bang_parens m b c a) = m

bang_backward : {token : Token} {c : Cond} {tokens rest : Tokens} → IsMark (codes "!") token → IsDenied c tokens rest → IsBang (negation token.place c) (token ∷ tokens) rest
bang_backward m (denied_bang b) = bang_bang m b
bang_backward m (denied_variable l) = bang_variable m l
bang_backward m (denied_input w b a) = bang_input m w b a
bang_backward m (denied_parens b c a) = bang_parens m b c a

one_bang : {token : Token} {c : Cond} {tokens rest : Tokens} → IsMark (codes "!") token → IsOne c (token ∷ tokens) rest → Bang token c tokens rest
one_bang m (plain_one s) = absurd (no_sum m s)
one_bang m (comparison s k t) = absurd (no_sum m s)
one_bang m (negated b) = bang_forward b
one_bang m (condition_parens n c a p) = absurd (clash (codes "!") (codes "(") refl refl m n)

denied_bang_at : {token : Token} {c : Cond} {tokens rest : Tokens} → IsMark (codes "!") token → IsDenied c (token ∷ tokens) rest → Bang token c tokens rest
denied_bang_at m (denied_bang b) = bang_forward b
denied_bang_at m (denied_variable (named n f)) = absurd (mark_name m n)
denied_bang_at m (denied_input w b a) = absurd (mark_word m w)
denied_bang_at m (denied_parens n c a) = absurd (clash (codes "!") (codes "(") refl refl m n)

operand_bang : (bangs : List Place) {token : Token} {c : Cond} {tokens rest : Tokens} → IsMark (codes "!") token → IsOperand bangs c (token ∷ tokens) rest → Bang token c tokens rest
operand_bang [] m o = one_bang m o
operand_bang (place ∷ places) m o = denied_bang_at m o

bang_operand : (bangs : List Place) {token : Token} {c : Cond} {tokens rest : Tokens} → IsBang c (token ∷ tokens) rest → IsOperand bangs c (token ∷ tokens) rest
bang_operand [] b = negated b
bang_operand (place ∷ places) b = denied_bang b

-- `!`
deny_with : (gs : List ConditionGroup) {pending : ConditionPending} {place : Place} {d : Cond} {mid rest : Tokens} {x : Cond} → Joins pending (negation place d) (BehindCondition gs) mid rest x → Joins (record { either = pending.either; both = pending.both; bangs = place ∷ pending.bangs }) d (BehindCondition gs) mid rest x
deny_with gs (joins bs es b) = joins bs es b

deny_joins : (gs : List ConditionGroup) {pending : ConditionPending} {token : Token} {c : Cond} {tokens mid rest : Tokens} {x : Cond} → Bang token c tokens mid → Joins pending c (BehindCondition gs) mid rest x → AtConditionOperand gs (record { either = pending.either; both = pending.both; bangs = token.place ∷ pending.bangs }) tokens rest x
deny_joins gs {pending} {mid = mid} {rest = rest} {x = x} (bang q o) j =
    let P : Cond → Type 0 = λ v. Joins pending v (BehindCondition gs) mid rest x in
    in_turn o (deny_with gs (subst P q j))

deny_forward : (gs : List ConditionGroup) {pending : ConditionPending} {token : Token} {tokens rest : Tokens} {x : Cond} → IsMark (codes "!") token → AtConditionOperand gs pending (token ∷ tokens) rest x → AtConditionOperand gs (record { either = pending.either; both = pending.both; bangs = token.place ∷ pending.bangs }) tokens rest x
deny_forward gs {pending} m (in_turn o j) = deny_joins gs (operand_bang pending.bangs m o) j

deny_backward : (gs : List ConditionGroup) {pending : ConditionPending} {token : Token} {tokens rest : Tokens} {x : Cond} → IsMark (codes "!") token → AtConditionOperand gs (record { either = pending.either; both = pending.both; bangs = token.place ∷ pending.bangs }) tokens rest x → AtConditionOperand gs pending (token ∷ tokens) rest x
deny_backward gs {pending} m (in_turn o (joins bs es b)) = in_turn (bang_operand pending.bangs (bang_backward m o)) (joins bs es b)

pub deny_moves : (gs : List ConditionGroup) (pending : ConditionPending) (bangs : List Place) (token : Token) → IsMark (codes "!") token → bangs ≡ token.place ∷ pending.bangs → Moves (AtConditionOperand gs pending) (AtConditionOperand gs (record { either = pending.either; both = pending.both; bangs = bangs })) token
deny_moves gs pending bangs token m e =
    let P : List Place → Type 0 = λ bs. Moves (AtConditionOperand gs pending) (AtConditionOperand gs (record { either = pending.either; both = pending.both; bangs = bs })) token in
    subst P (sym e) (record { forward = λ tokens rest x h. deny_forward gs m h; backward = λ tokens rest x h. deny_backward gs m h })

-- an expression that begins with `(`
data InParens (token : Token) (e : Expr) (tokens rest : Tokens) : Type 0 where
  inside : {a : Expr} {after : Token} {more : Tokens} → IsSum a tokens (after ∷ more) → IsMark (codes ")") after → BehindOperand (parens token.place a) more rest e → InParens token e tokens rest

sum_parens : {token : Token} {e : Expr} {tokens rest : Tokens} → IsMark (codes "(") token → IsSum e (token ∷ tokens) rest → InParens token e tokens rest
sum_parens m (sum_of (product (negative n u) f) ts) = absurd (clash (codes "(") (codes "-") refl refl m n)
sum_parens m (sum_of (product (numeral n) f) ts) = absurd (mark_number m n)
sum_parens m (sum_of (product (null_word w) f) ts) = absurd (mark_word m w)
sum_parens m (sum_of (product (input_call w b a) f) ts) = absurd (mark_word m w)
sum_parens m (sum_of (product (variable (named n g)) f) ts) = absurd (mark_name m n)
sum_parens m (sum_of (product (in_parens n s c) f) ts) = inside s c (in_turn f ts)

parens_sum : {token after : Token} {a e : Expr} {tokens more rest : Tokens} → IsMark (codes "(") token → IsSum a tokens (after ∷ more) → IsMark (codes ")") after → BehindOperand (parens token.place a) more rest e → IsSum e (token ∷ tokens) rest
parens_sum m s c (in_turn f ts) = sum_of (product (in_parens m s c) f) ts

-- a condition that is a plain expression is a sum
eithers_plain : {a c : Cond} {e : Expr} {tokens rest : Tokens} → Eithers a tokens c rest → c ≡ plain e → (a ≡ plain e) × (tokens ≡ rest)
eithers_plain no_either q = (q, refl)
eithers_plain (or_else m o es) q = absurd (let r = eithers_plain es q in let s = r.0 in cc)

boths_plain : {a c : Cond} {e : Expr} {tokens rest : Tokens} → Boths a tokens c rest → c ≡ plain e → (a ≡ plain e) × (tokens ≡ rest)
boths_plain no_both q = (q, refl)
boths_plain (one_more m o es) q = absurd (let r = boths_plain es q in let s = r.0 in cc)

bang_plain : {c : Cond} {e : Expr} {tokens rest : Tokens} → IsBang c tokens rest → c ≡ plain e → ⊥
bang_plain (bang_bang m b) q = cc
bang_plain (bang_variable m l) q = cc
bang_plain (bang_input m w b a) q = cc
bang_plain (bang_parens m b c a) q = cc

one_plain : {c : Cond} {e : Expr} {tokens rest : Tokens} → IsOne c tokens rest → c ≡ plain e → IsSum e tokens rest
one_plain {e = e} {tokens = tokens} {rest = rest} (plain_one {e = a} s) q = let r : a ≡ e = cc in let P : Expr → Type 0 = λ v. IsSum v tokens rest in subst P r s
one_plain (comparison s k t) q = absurd (cc)
one_plain (negated b) q = absurd (bang_plain b q)
one_plain (condition_parens n c a p) q = absurd (cc)

plain_sum : {c : Cond} {e : Expr} {tokens rest : Tokens} → IsCondition c tokens rest → c ≡ plain e → IsSum e tokens rest
plain_sum {e = e} {tokens = tokens} {rest = rest} (any_of {a = a} {mid = mid} (all_of {mid = first} o bs) es) q =
    let r = eithers_plain es q in
    let s = boths_plain bs r.0 in
    let P : Tokens → Type 0 = λ m. IsSum e tokens m in
    subst P (s.1 ∙ r.1) (one_plain o s.0)

proper_parens : {pending : ConditionPending} {place : Place} (c : Cond) {ends : Cond → Tokens → Tokens → Cond → Type 0} {tokens rest : Tokens} {x : Cond} → IsProper c → Joins pending (enclosed place c) ends tokens rest x → BehindParens pending place c ends tokens rest x
proper_parens (plain e) p j = absurd p
proper_parens (compare k a b) p j = j
proper_parens (negation q c) p j = j
proper_parens (enclosed q c) p j = j
proper_parens (both a b) p j = j
proper_parens (either a b) p j = j

-- `(`, where no `!` stands before it
abbrev plainly : Option Condition → Option Condition → ConditionPending
plainly e b = record { either = e; both = b; bangs = [] }

sum_open : (gs : List ConditionGroup) (e b : Option Condition) {token : Token} {a : Expr} {tokens mid rest : Tokens} {x : Cond} → InParens token a tokens mid → MaybeCompared (plainly e b) a (BehindCondition gs) mid rest x → AtConditionOperand (record { place = token.place; outer = plainly e b } ∷ gs) nothing tokens rest x
sum_open gs e b (inside {more = more} s c f) j = in_turn (plain_one s) (joins no_both no_either (more, marked c, in_turn f j))

one_open : (gs : List ConditionGroup) (e b : Option Condition) {token : Token} {c : Cond} {tokens mid rest : Tokens} {x : Cond} → IsMark (codes "(") token → IsOne c (token ∷ tokens) mid → Joins (plainly e b) c (BehindCondition gs) mid rest x → AtConditionOperand (record { place = token.place; outer = plainly e b } ∷ gs) nothing tokens rest x
one_open gs e b m (plain_one s) j = sum_open gs e b (sum_parens m s) (alone j)
one_open gs e b m (comparison {c = k} s q t) j = sum_open gs e b (sum_parens m s) (compared {comparison = k} q t j)
one_open gs e b m (negated d) j = absurd (clash (codes "(") (codes "!") refl refl m (bang_mark d))
one_open gs e b m (condition_parens {c = c} {rest = more} n (any_of (all_of o bs) es) a p) j = in_turn o (joins bs es (more, marked a, proper_parens c p j))

sum_close : (gs : List ConditionGroup) (e b : Option Condition) {token after : Token} {a u : Expr} {tokens more mid rest : Tokens} {x : Cond} → IsMark (codes "(") token → IsSum a tokens (after ∷ more) → IsMark (codes ")") after → BehindOperand (parens token.place a) more mid u → MaybeCompared (plainly e b) u (BehindCondition gs) mid rest x → AtConditionOperand gs (plainly e b) (token ∷ tokens) rest x
sum_close gs e b m s c f (alone j) = in_turn (plain_one (parens_sum m s c f)) j
sum_close gs e b m s c f (compared {comparison = k} q t j) = in_turn (comparison {c = k} (parens_sum m s c f) q t) j

parens_close : (gs : List ConditionGroup) (e b : Option Condition) (d : Cond) {token after : Token} {tokens more rest : Tokens} {x : Cond} → IsMark (codes "(") token → IsCondition d tokens (after ∷ more) → IsMark (codes ")") after → BehindParens (plainly e b) token.place d (BehindCondition gs) more rest x → AtConditionOperand gs (plainly e b) (token ∷ tokens) rest x
parens_close gs e b (plain a) m s c (in_turn f j) = sum_close gs e b m (plain_sum s refl) c f j
parens_close gs e b (compare k u v) m s c j = in_turn (condition_parens m s c tt) j
parens_close gs e b (negation q d) m s c j = in_turn (condition_parens m s c tt) j
parens_close gs e b (enclosed q d) m s c j = in_turn (condition_parens m s c tt) j
parens_close gs e b (both u v) m s c j = in_turn (condition_parens m s c tt) j
parens_close gs e b (either u v) m s c j = in_turn (condition_parens m s c tt) j

one_close : (gs : List ConditionGroup) (e b : Option Condition) {token : Token} {tokens rest : Tokens} {x : Cond} → IsMark (codes "(") token → AtConditionOperand (record { place = token.place; outer = plainly e b } ∷ gs) nothing tokens rest x → AtConditionOperand gs (plainly e b) (token ∷ tokens) rest x
one_close gs e b m (in_turn o (joins {d = d} bs es (more, marked c, j))) = parens_close gs e b d m (any_of (all_of o bs) es) c j

-- and where one does
abbrev denying : Option Condition → Option Condition → Place → List Place → ConditionPending
denying e b place places = record { either = e; both = b; bangs = place ∷ places }

denied_open : (gs : List ConditionGroup) (e b : Option Condition) (place : Place) (places : List Place) {token : Token} {c : Cond} {tokens mid rest : Tokens} {x : Cond} → IsMark (codes "(") token → IsDenied c (token ∷ tokens) mid → Joins (denying e b place places) c (BehindCondition gs) mid rest x → AtConditionOperand (record { place = token.place; outer = denying e b place places } ∷ gs) nothing tokens rest x
denied_open gs e b place places m (denied_bang d) j = absurd (clash (codes "(") (codes "!") refl refl m (bang_mark d))
denied_open gs e b place places m (denied_variable (named n f)) j = absurd (mark_name m n)
denied_open gs e b place places m (denied_input w p a) j = absurd (mark_word m w)
denied_open gs e b place places m (denied_parens {rest = more} n (any_of (all_of o bs) es) a) j = in_turn o (joins bs es (more, marked a, j))

denied_close : (gs : List ConditionGroup) (e b : Option Condition) (place : Place) (places : List Place) {token : Token} {tokens rest : Tokens} {x : Cond} → IsMark (codes "(") token → AtConditionOperand (record { place = token.place; outer = denying e b place places } ∷ gs) nothing tokens rest x → AtConditionOperand gs (denying e b place places) (token ∷ tokens) rest x
denied_close gs e b place places m (in_turn o (joins bs es (more, marked c, j))) = in_turn (denied_parens m (any_of (all_of o bs) es) c) j

open_forward : (gs : List ConditionGroup) (e b : Option Condition) (bangs : List Place) {token : Token} {tokens rest : Tokens} {x : Cond} → IsMark (codes "(") token → AtConditionOperand gs (record { either = e; both = b; bangs = bangs }) (token ∷ tokens) rest x → AtConditionOperand (record { place = token.place; outer = record { either = e; both = b; bangs = bangs } } ∷ gs) nothing tokens rest x
open_forward gs e b [] m (in_turn o j) = one_open gs e b m o j
open_forward gs e b (place ∷ places) m (in_turn o j) = denied_open gs e b place places m o j

open_backward : (gs : List ConditionGroup) (e b : Option Condition) (bangs : List Place) {token : Token} {tokens rest : Tokens} {x : Cond} → IsMark (codes "(") token → AtConditionOperand (record { place = token.place; outer = record { either = e; both = b; bangs = bangs } } ∷ gs) nothing tokens rest x → AtConditionOperand gs (record { either = e; both = b; bangs = bangs }) (token ∷ tokens) rest x
open_backward gs e b [] m h = one_close gs e b m h
open_backward gs e b (place ∷ places) m h = denied_close gs e b place places m h

pub open_moves : (gs all : List ConditionGroup) (pending fresh : ConditionPending) (token : Token) → IsMark (codes "(") token → all ≡ record { place = token.place; outer = pending } ∷ gs → fresh ≡ nothing → Moves (AtConditionOperand gs pending) (AtConditionOperand all fresh) token
open_moves gs all pending fresh token m e f =
    let P : List ConditionGroup → Type 0 = λ a. Moves (AtConditionOperand gs pending) (AtConditionOperand a fresh) token in
    let Q : ConditionPending → Type 0 = λ p. Moves (AtConditionOperand gs pending) (AtConditionOperand (record { place = token.place; outer = pending } ∷ gs) p) token in
    subst P (sym e) (subst Q (sym f) (record { forward = λ tokens rest x h. open_forward gs pending.either pending.both pending.bangs m h; backward = λ tokens rest x h. open_backward gs pending.either pending.both pending.bangs m h }))

-- an expression, where no `!` stands before it
sum_forward : (gs : List ConditionGroup) (e b : Option Condition) {token : Token} {tokens rest : Tokens} {x : Cond} → (IsMark (codes "!") token → ⊥) → (IsMark (codes "(") token → ⊥) → AtConditionOperand gs (plainly e b) (token ∷ tokens) rest x → InTurn (λ tokens rest a. IsSum a tokens rest) (λ a. MaybeCompared (plainly e b) a (BehindCondition gs)) (token ∷ tokens) rest x
sum_forward gs e b k p (in_turn (plain_one s) j) = in_turn s (alone j)
sum_forward gs e b k p (in_turn (comparison {c = mark} s q t) j) = in_turn s (compared {comparison = mark} q t j)
sum_forward gs e b k p (in_turn (negated d) j) = absurd (k (bang_mark d))
sum_forward gs e b k p (in_turn (condition_parens n c a q) j) = absurd (p n)

sum_backward : (gs : List ConditionGroup) (e b : Option Condition) {tokens rest : Tokens} {x : Cond} → InTurn (λ tokens rest a. IsSum a tokens rest) (λ a. MaybeCompared (plainly e b) a (BehindCondition gs)) tokens rest x → AtConditionOperand gs (plainly e b) tokens rest x
sum_backward gs e b (in_turn s (alone j)) = in_turn (plain_one s) j
sum_backward gs e b (in_turn s (compared {comparison = mark} q t j)) = in_turn (comparison {c = mark} s q t) j

pub sum_same : (gs : List ConditionGroup) (e b : Option Condition) (bangs : List Place) (token : Token) → bangs ≡ [] → (IsMark (codes "!") token → ⊥) → (IsMark (codes "(") token → ⊥) → SameAt (AtConditionOperand gs (record { either = e; both = b; bangs = bangs })) (InTurn (λ tokens rest a. IsSum a tokens rest) (λ a. MaybeCompared (record { either = e; both = b; bangs = bangs }) a (BehindCondition gs))) token
sum_same gs e b bangs token q k p =
    let P : List Place → Type 0 = λ bs. SameAt (AtConditionOperand gs (record { either = e; both = b; bangs = bs })) (InTurn (λ tokens rest a. IsSum a tokens rest) (λ a. MaybeCompared (record { either = e; both = b; bangs = bs }) a (BehindCondition gs))) token in
    subst P (sym q) (record { forward = λ tokens rest x h. sum_forward gs e b k p h; backward = λ tokens rest x h. sum_backward gs e b h })

-- what stands after `!`
variable_forward : {l : LeftValue} {token : Token} {tokens rest : Tokens} {c : Cond} → IsName token → left_of l ≡ record { name = name_of token; fields = [] } → IsDenied c (token ∷ tokens) rest → (e : Expr) × (c ≡ plain e) × CompletesPrimary (Primary.Left l) tokens rest e
variable_forward m q (denied_bang b) = absurd (mark_name (bang_mark b) m)
variable_forward {tokens = tokens} {rest = rest} m q (denied_variable {l = all} (named n f)) = (value all, refl, behind_left (let P : Left → Type 0 = λ l. Fields l tokens all rest in subst P (sym q) f))
variable_forward m q (denied_input w b a) = absurd (word_name (codes "input") refl w m)
variable_forward m q (denied_parens n c a) = absurd (mark_name n m)

variable_backward : {l : LeftValue} {token : Token} {tokens rest : Tokens} {e : Expr} → IsName token → left_of l ≡ record { name = name_of token; fields = [] } → CompletesPrimary (Primary.Left l) tokens rest e → IsDenied (plain e) (token ∷ tokens) rest
variable_backward {tokens = tokens} {rest = rest} m q (behind_left {all = all} f) = denied_variable (named m (let P : Left → Type 0 = λ l. Fields l tokens all rest in subst P q f))

pub variable_denied : (l : LeftValue) (token : Token) → IsName token → left_of l ≡ record { name = name_of token; fields = [] } → BeginsDenied token (Some (Primary.Left l))
variable_denied l token m q = record {
  forward = λ tokens rest x h. variable_forward m q h;
  backward = λ tokens rest x h. let P : Cond → Type 0 = λ c. IsDenied c (token ∷ tokens) rest in subst P (sym h.1) (variable_backward m q h.2);
}

input_forward : {token : Token} {tokens rest : Tokens} {c : Cond} → IsWord (codes "input") token → IsDenied c (token ∷ tokens) rest → (e : Expr) × (c ≡ plain e) × CompletesPrimary (Primary.Input token.place) tokens rest e
input_forward m (denied_bang b) = absurd (mark_word (bang_mark b) m)
input_forward m (denied_variable (named n f)) = absurd (word_name (codes "input") refl m n)
input_forward {token = token} m (denied_input w b a) = (input token.place, refl, behind_input b a)
input_forward m (denied_parens n c a) = absurd (mark_word n m)

input_backward : {token : Token} {tokens rest : Tokens} {e : Expr} → IsWord (codes "input") token → CompletesPrimary (Primary.Input token.place) tokens rest e → IsDenied (plain e) (token ∷ tokens) rest
input_backward m (behind_input b a) = denied_input m b a

pub input_denied : (token : Token) → IsWord (codes "input") token → BeginsDenied token (Some (Primary.Input token.place))
input_denied token m = record {
  forward = λ tokens rest x h. input_forward m h;
  backward = λ tokens rest x h. let P : Cond → Type 0 = λ c. IsDenied c (token ∷ tokens) rest in subst P (sym h.1) (input_backward m h.2);
}

no_denied : {token : Token} {tokens rest : Tokens} {c : Cond} → (IsMark (codes "!") token → ⊥) → (IsMark (codes "(") token → ⊥) → (IsName token → ⊥) → (IsWord (codes "input") token → ⊥) → IsDenied c (token ∷ tokens) rest → ⊥
no_denied k p n i (denied_bang b) = k (bang_mark b)
no_denied k p n i (denied_variable (named m f)) = n m
no_denied k p n i (denied_input w b a) = i w
no_denied k p n i (denied_parens m c a) = p m

pub denied_stuck : (class : Class) (token : Token) → (class ≡ Class.Bang → ⊥) → (class ≡ Class.OpenParen → ⊥) → (class ≡ Class.Name → ⊥) → (class ≡ Class.Input → ⊥) → IsClass token class → BeginsDenied token None
denied_stuck class token k p n i h = λ tokens rest x d. no_denied (λ m. k (bang_is class token m h)) (λ m. p (before_is class token m h)) (λ m. n (name_is class token m h)) (λ m. i (input_is class token m h)) d

-- an operand after some `!`
operand_denied : (bangs : List Place) → (bangs ≡ [] → ⊥) → {c : Cond} {tokens rest : Tokens} → IsOperand bangs c tokens rest → IsDenied c tokens rest
operand_denied [] filled o = absurd (filled refl)
operand_denied (place ∷ places) filled o = o

denied_operand : (bangs : List Place) → (bangs ≡ [] → ⊥) → {c : Cond} {tokens rest : Tokens} → IsDenied c tokens rest → IsOperand bangs c tokens rest
denied_operand [] filled o = absurd (filled refl)
denied_operand (place ∷ places) filled o = o

primary_forward : (gs : List ConditionGroup) {pending : ConditionPending} {p : Primary} {token : Token} {tokens rest : Tokens} {x : Cond} → (pending.bangs ≡ [] → ⊥) → BeginsDenied token (Some p) → AtConditionOperand gs pending (token ∷ tokens) rest x → InTurn (CompletesPrimary p) (λ e. Joins pending (plain e) (BehindCondition gs)) tokens rest x
primary_forward gs {pending} {tokens = tokens} {rest = rest} {x = x} filled m (in_turn {x = c} {mid = mid} o j) =
    let h = m.forward tokens mid c (operand_denied pending.bangs filled o) in
    let P : Cond → Type 0 = λ v. Joins pending v (BehindCondition gs) mid rest x in
    in_turn h.2 (subst P h.1 j)

primary_backward : (gs : List ConditionGroup) {pending : ConditionPending} {p : Primary} {token : Token} {tokens rest : Tokens} {x : Cond} → (pending.bangs ≡ [] → ⊥) → BeginsDenied token (Some p) → InTurn (CompletesPrimary p) (λ e. Joins pending (plain e) (BehindCondition gs)) tokens rest x → AtConditionOperand gs pending (token ∷ tokens) rest x
primary_backward gs {pending} {tokens = tokens} filled m (in_turn {x = e} {mid = mid} c j) = in_turn (denied_operand pending.bangs filled (m.backward tokens mid (plain e) (e, refl, c))) j

pub primary_moves : (gs : List ConditionGroup) (pending : ConditionPending) (p : Primary) (token : Token) → (pending.bangs ≡ [] → ⊥) → BeginsDenied token (Some p) → Moves (AtConditionOperand gs pending) (InTurn (CompletesPrimary p) (λ e. Joins pending (plain e) (BehindCondition gs))) token
primary_moves gs pending p token filled m = record { forward = λ tokens rest x h. primary_forward gs filled m h; backward = λ tokens rest x h. primary_backward gs filled m h }

primary_none : (gs : List ConditionGroup) {pending : ConditionPending} {token : Token} {tokens rest : Tokens} {x : Cond} → (pending.bangs ≡ [] → ⊥) → BeginsDenied token None → AtConditionOperand gs pending (token ∷ tokens) rest x → ⊥
primary_none gs {pending} {tokens = tokens} filled m (in_turn {x = c} {mid = mid} o j) = m tokens mid c (operand_denied pending.bangs filled o)

pub primary_stuck : (gs : List ConditionGroup) (pending : ConditionPending) (token : Token) → (pending.bangs ≡ [] → ⊥) → BeginsDenied token None → IsStuckAt (AtConditionOperand gs pending) token
primary_stuck gs pending token filled m tokens rest x h = primary_none gs filled m h
