-- How conditions go on.
use Rattle.std.proofs.Common.{◌≡◌, ℕ, List, [], ◌∷◌, Bool, true, false, ◌||◌, Some, None, refl, sym, subst, IsTrue, ◌⊎◌, inl, inr}
use Rattle.std.specs.Prelude.{codes}
use Rattle.mc_base.specs.declared.text.token.Token.{Token}
use Rattle.mc_c_syntax.specs.declared.ast.class.Class.{Class}
use Rattle.mc_c_syntax.specs.declared.ast.trees.Condition.{Condition}
use Rattle.mc_c_syntax.specs.declared.ast.trees.Comparison.{Comparison}
use Rattle.mc_c_syntax.specs.declared.ast.trees.Comparison.TheVariants.{Equal, Unequal, Below, AtMost, Above, AtLeast}
use Rattle.mc_c_syntax.specs.Ast.Trees.{Expr, Cond, plain, compare, both, either}
use Rattle.mc_c_syntax.specs.Ast.Views.{condition_of}
use Rattle.mc_c_syntax.specs.Ast.Names.{Tokens, IsMark, is_in, is_same, mark_of}
use Rattle.mc_c_syntax.specs.Ast.Grammar.{IsSum, Boths, no_both, one_more, all_of, Eithers, no_either, or_else}
use Rattle.mc_c_syntax.specs.Ast.Readers.{Takes, Finds, IsStuckAt, IsSame}
use Rattle.mc_c_parse_expr.specs.declared.condition.ConditionPending.{ConditionPending}
use Rattle.mc_c_parse_expr.specs.declared.condition.ConditionGroup.{ConditionGroup}
use Rattle.mc_c_parse_expr.specs.declared.condition.ConditionSpot.{ConditionSpot}
use Rattle.mc_c_parse_expr.specs.declared.condition.ConditionStep.{ConditionStep}
use Rattle.mc_c_parse_expr.specs.Turns.{InTurn, in_turn, marked}
use Rattle.mc_c_parse_expr.specs.Primaries.{primary_marks}
use Rattle.mc_c_parse_expr.specs.Expressions.{expression_marks}
use Rattle.mc_c_parse_expr.specs.Conditions as Specs
use Rattle.mc_c_parse_expr.specs.Conditions.{denied, Joins, joins, MaybeCompared, alone, compared, BehindClose, BehindCondition, AtConditionOperand, AtConditionSpot, AtEither, StepsCondition, IsEnclosed, condition_marks}
use Rattle.mc_c_parse_expr.proofs.Classes.{compare_is}
use Rattle.mc_c_parse_expr.proofs.Marks.{clash, not_in, is_of, known_more}
use Rattle.mc_c_parse_expr.proofs.Turns.{SameAt, same_takes, same_finds, same_stuck, EndsAt}

condition_ends : (gs : List ConditionGroup) (c : Cond) (token : Token) (tokens rest : Tokens) (x : Cond) → (IsMark (codes ")") token → ⊥) → BehindCondition gs c (token ∷ tokens) rest x → rest ≡ token ∷ tokens
condition_ends [] c token tokens rest x other h = h.0
condition_ends (g ∷ gs) c token tokens rest x other (more, marked m, h) = absurd (other m)

open_group_stuck : (gs : List ConditionGroup) (c : Cond) (token : Token) (tokens rest : Tokens) (x : Cond) → (gs ≡ [] → ⊥) → (IsMark (codes ")") token → ⊥) → BehindCondition gs c (token ∷ tokens) rest x → ⊥
open_group_stuck [] c token tokens rest x filled other h = filled refl
open_group_stuck (g ∷ gs) c token tokens rest x filled other (more, marked m, h) = other m

either_ends : {ends : Cond → Tokens → Tokens → Cond → Type 0} {c : Cond} {token : Token} {tokens rest : Tokens} {x : Cond} → (IsMark (codes "||") token → ⊥) → InTurn (λ tokens rest d. Eithers c tokens d rest) ends (token ∷ tokens) rest x → ends c (token ∷ tokens) rest x
either_ends o (in_turn no_either b) = b
either_ends o (in_turn (or_else m t ts) b) = absurd (o m)

without_and : {ends : Cond → Tokens → Tokens → Cond → Type 0} {pending : ConditionPending} {c : Cond} {token : Token} {tokens rest : Tokens} {x : Cond} → (IsMark (codes "&&") token → ⊥) → Joins pending c ends (token ∷ tokens) rest x → InTurn (λ tokens rest d. Eithers (Specs.either_of pending.either (Specs.both_of pending.both (denied pending.bangs c))) tokens d rest) ends (token ∷ tokens) rest x
without_and a (joins no_both es b) = in_turn es b
without_and a (joins (one_more m o bs) es b) = absurd (a m)

with_either : {ends : Cond → Tokens → Tokens → Cond → Type 0} {pending : ConditionPending} {c : Cond} {tokens rest : Tokens} {x : Cond} → InTurn (λ tokens rest d. Eithers (Specs.either_of pending.either (Specs.both_of pending.both (denied pending.bangs c))) tokens d rest) ends tokens rest x → Joins pending c ends tokens rest x
with_either (in_turn es b) = joins no_both es b

joins_end : (gs : List ConditionGroup) {pending : ConditionPending} {c : Cond} {token : Token} {tokens rest : Tokens} {x : Cond} → (IsMark (codes "&&") token → ⊥) → (IsMark (codes "||") token → ⊥) → (IsMark (codes ")") token → ⊥) → Joins pending c (BehindCondition gs) (token ∷ tokens) rest x → rest ≡ token ∷ tokens
joins_end gs a o p h = condition_ends gs _ _ _ _ _ p (either_ends {ends = BehindCondition gs} o (without_and a h))

-- after the operand, where no `&&` stands
pub either_same : (gs below : List ConditionGroup) (pending : ConditionPending) (c w : Cond) (token : Token) → below ≡ gs → (IsMark (codes "&&") token → ⊥) → w ≡ Specs.either_of pending.either (Specs.both_of pending.both (denied pending.bangs c)) → SameAt (Joins pending c (BehindCondition gs)) (AtEither below w) token
either_same gs below pending c w token b a e =
    let P : List ConditionGroup → Type 0 = λ g. SameAt (Joins pending c (BehindCondition gs)) (AtEither g w) token in
    let Q : Cond → Type 0 = λ v. SameAt (Joins pending c (BehindCondition gs)) (AtEither gs v) token in
    subst P (sym b) (subst Q (sym e) (record { forward = λ tokens rest x h. without_and a h; backward = λ tokens rest x h. with_either h }))

-- `&&`
and_forward : (gs : List ConditionGroup) {pending : ConditionPending} {c : Cond} {a : Condition} {token : Token} {tokens rest : Tokens} {x : Cond} → IsMark (codes "&&") token → condition_of a ≡ Specs.both_of pending.both (denied pending.bangs c) → Joins pending c (BehindCondition gs) (token ∷ tokens) rest x → AtConditionOperand gs (record { either = pending.either; both = Some a; bangs = [] }) tokens rest x ⊎ ((rest ≡ token ∷ tokens) × IsTrue (is_in condition_marks token.text))
and_forward gs m q (joins no_both es b) = inr (condition_ends gs _ _ _ _ _ (clash (codes "&&") (codes ")") refl refl m) (either_ends {ends = BehindCondition gs} (clash (codes "&&") (codes "||") refl refl m) (in_turn es b)), is_of condition_marks (codes "&&") refl m)
and_forward gs m q (joins {b = t} {mid = mid} (one_more {b = v} {mid = behind} n o bs) es b) = inl (in_turn o (joins (let P : Cond → Type 0 = λ y. Boths (both y v) behind t mid in subst P (sym q) bs) es b))

and_backward : (gs : List ConditionGroup) {pending : ConditionPending} {c : Cond} {a : Condition} {token : Token} {tokens rest : Tokens} {x : Cond} → IsMark (codes "&&") token → condition_of a ≡ Specs.both_of pending.both (denied pending.bangs c) → AtConditionOperand gs (record { either = pending.either; both = Some a; bangs = [] }) tokens rest x → Joins pending c (BehindCondition gs) (token ∷ tokens) rest x
and_backward gs m q (in_turn {x = v} {mid = behind} o (joins {b = t} {mid = mid} bs es b)) = joins (one_more m o (let P : Cond → Type 0 = λ y. Boths (both y v) behind t mid in subst P q bs)) es b

pub and_takes : (gs : List ConditionGroup) (pending : ConditionPending) (c : Cond) (a : Condition) (token : Token) → IsMark (codes "&&") token → condition_of a ≡ Specs.both_of pending.both (denied pending.bangs c) → Takes condition_marks (Joins pending c (BehindCondition gs)) (AtConditionOperand gs (record { either = pending.either; both = Some a; bangs = [] })) token
and_takes gs pending c a token m q = record { forward = λ tokens rest x h. and_forward gs m q h; backward = λ tokens rest x h. and_backward gs m q h }

-- `||`
or_forward : (gs : List ConditionGroup) {w : Cond} {a : Condition} {token : Token} {tokens rest : Tokens} {x : Cond} → IsMark (codes "||") token → condition_of a ≡ w → AtEither gs w (token ∷ tokens) rest x → AtConditionOperand gs (record { either = Some a; both = None; bangs = [] }) tokens rest x ⊎ ((rest ≡ token ∷ tokens) × IsTrue (is_in condition_marks token.text))
or_forward gs m q (in_turn no_either b) = inr (condition_ends gs _ _ _ _ _ (clash (codes "||") (codes ")") refl refl m) b, is_of condition_marks (codes "||") refl m)
or_forward gs m q (in_turn {x = t} {mid = mid} (or_else {b = v} {mid = behind} n (all_of o bs) es) b) = inl (in_turn o (joins bs (let P : Cond → Type 0 = λ y. Eithers (either y v) behind t mid in subst P (sym q) es) b))

or_backward : (gs : List ConditionGroup) {w : Cond} {a : Condition} {token : Token} {tokens rest : Tokens} {x : Cond} → IsMark (codes "||") token → condition_of a ≡ w → AtConditionOperand gs (record { either = Some a; both = None; bangs = [] }) tokens rest x → AtEither gs w (token ∷ tokens) rest x
or_backward gs m q (in_turn o (joins {b = v} {d = t} {mid = behind} {more = mid} bs es b)) = in_turn (or_else m (all_of o bs) (let P : Cond → Type 0 = λ y. Eithers (either y v) behind t mid in subst P q es)) b

pub or_takes : (gs : List ConditionGroup) (w : Cond) (a : Condition) (token : Token) → IsMark (codes "||") token → condition_of a ≡ w → Takes condition_marks (AtEither gs w) (AtConditionOperand gs (record { either = Some a; both = None; bangs = [] })) token
or_takes gs w a token m q = record { forward = λ tokens rest x h. or_forward gs m q h; backward = λ tokens rest x h. or_backward gs m q h }

-- after a whole condition, outside all parentheses
none_finds : (w : Cond) (token : Token) → (IsMark (codes "||") token → ⊥) → Finds (AtEither [] w) token w
none_finds w token o = record { forward = λ tokens rest x h. either_ends {ends = BehindCondition []} o h; backward = λ tokens. in_turn no_either (refl, refl) }

pub end_finds : (gs : List ConditionGroup) (w v : Cond) (token : Token) → gs ≡ [] → v ≡ w → (IsMark (codes "||") token → ⊥) → Finds (AtEither gs w) token v
end_finds gs w v token e f o =
    let P : List ConditionGroup → Type 0 = λ g. Finds (AtEither g w) token v in
    let Q : Cond → Type 0 = λ y. Finds (AtEither [] w) token y in
    subst P (sym e) (subst Q (sym f) (none_finds w token o))

-- and within some
pub end_stuck : (gs : List ConditionGroup) (w : Cond) (token : Token) → (gs ≡ [] → ⊥) → (IsMark (codes "||") token → ⊥) → (IsMark (codes ")") token → ⊥) → IsStuckAt (AtEither gs w) token
end_stuck gs w token filled o p tokens rest x h = open_group_stuck gs w token tokens rest x filled p (either_ends {ends = BehindCondition gs} o h)

-- `)`
close_forward : (g : ConditionGroup) (gs : List ConditionGroup) (w : Cond) (token : Token) (tokens rest : Tokens) (x : Cond) → BehindCondition (g ∷ gs) w (token ∷ tokens) rest x → BehindClose g.outer.bangs g.outer g.place w (BehindCondition gs) tokens rest x
close_forward g gs w token tokens rest x (more, marked m, h) = h

close_takes : (g : ConditionGroup) (gs : List ConditionGroup) (w : Cond) (spot : ConditionSpot) (token : Token) → IsMark (codes ")") token → IsEnclosed g.outer.bangs g.place w spot → Takes condition_marks (AtEither (g ∷ gs) w) (AtConditionSpot spot gs g.outer) token
close_takes g gs w spot token m s = record {
  forward = λ tokens rest x h. inl ((s gs g.outer).backward tokens rest x (close_forward g gs w token tokens rest x (either_ends {ends = BehindCondition (g ∷ gs)} (clash (codes ")") (codes "||") refl refl m) h)));
  backward = λ tokens rest x h. in_turn no_either (tokens, marked m, (s gs g.outer).forward tokens rest x h);
}

pub close_takes_at : (all gs below : List ConditionGroup) (g : ConditionGroup) (w : Cond) (spot : ConditionSpot) (token : Token) → all ≡ g ∷ gs → below ≡ gs → IsMark (codes ")") token → IsEnclosed g.outer.bangs g.place w spot → Takes condition_marks (AtEither all w) (AtConditionSpot spot below g.outer) token
close_takes_at all gs below g w spot token e f m s =
    let P : List ConditionGroup → Type 0 = λ a. Takes condition_marks (AtEither a w) (AtConditionSpot spot below g.outer) token in
    let Q : List ConditionGroup → Type 0 = λ b. Takes condition_marks (AtEither (g ∷ gs) w) (AtConditionSpot spot b g.outer) token in
    subst P (sym e) (subst Q (sym f) (close_takes g gs w spot token m s))

pub steps_same : {now other : Tokens → Tokens → Cond → Type 0} {token : Token} (behind : Tokens → Tokens → Cond → Type 0) (step : ConditionStep) → SameAt now other token → StepsCondition other behind token step → StepsCondition now behind token step
steps_same behind ConditionStep.Taken s t = same_takes s t
steps_same behind (ConditionStep.Found e) s t = same_finds s t
steps_same behind ConditionStep.Stuck s t = same_stuck s t

-- comparisons
compare_known : (k : Comparison) → is_in condition_marks (mark_of k) ≡ true
compare_known Equal = refl
compare_known Unequal = refl
compare_known Below = refl
compare_known AtMost = refl
compare_known Above = refl
compare_known AtLeast = refl

compare_outside : (k : Comparison) → is_in expression_marks (mark_of k) ≡ false
compare_outside Equal = refl
compare_outside Unequal = refl
compare_outside Below = refl
compare_outside AtMost = refl
compare_outside Above = refl
compare_outside AtLeast = refl

in_first : (a b c d m : Bool) → (a || (b || (c || (d || false)))) ≡ true → (a || (b || (c || (d || m)))) ≡ true
in_first true b c d m h = refl
in_first false true c d m h = refl
in_first false false true d m h = refl
in_first false false false true m h = refl
in_first false false false false m h = absurd (cc)

known_too : (text : List ℕ) → IsTrue (is_in expression_marks text) → IsTrue (is_in condition_marks text)
known_too text h = in_first (is_same text (codes "+")) (is_same text (codes "-")) (is_same text (codes "*")) (is_same text (codes "->")) _ h

joins_ends_at : (gs : List ConditionGroup) (pending : ConditionPending) (c : Cond) (token : Token) (tokens rest : Tokens) (x : Cond) → IsTrue (is_in expression_marks token.text) → Joins pending c (BehindCondition gs) (token ∷ tokens) rest x → (rest ≡ token ∷ tokens) × IsTrue (is_in condition_marks token.text)
joins_ends_at gs pending c token tokens rest x known h =
    (joins_end gs (not_in expression_marks (codes "&&") refl known) (not_in expression_marks (codes "||") refl known) (not_in expression_marks (codes ")") refl known) h, known_too token.text known)

maybe_ends_at : (gs : List ConditionGroup) {pending : ConditionPending} {e : Expr} {token : Token} {tokens rest : Tokens} {x : Cond} → IsTrue (is_in expression_marks token.text) → MaybeCompared pending e (BehindCondition gs) (token ∷ tokens) rest x → (rest ≡ token ∷ tokens) × IsTrue (is_in condition_marks token.text)
maybe_ends_at gs known (alone j) = joins_ends_at gs _ _ _ _ _ _ known j
maybe_ends_at gs known (compared {comparison = k} m s j) = absurd (not_in expression_marks (mark_of k) (compare_outside k) known m)

pub sum_ends_at : (gs : List ConditionGroup) (pending : ConditionPending) (token : Token) → EndsAt expression_marks condition_marks (λ e. MaybeCompared pending e (BehindCondition gs)) token
sum_ends_at gs pending token known e tokens rest x h = maybe_ends_at gs known h

pub compared_ends_at : (gs : List ConditionGroup) (pending : ConditionPending) (f : Expr → Cond) (token : Token) → EndsAt expression_marks condition_marks (λ e. Joins pending (f e) (BehindCondition gs)) token
compared_ends_at gs pending f token known e tokens rest x h = joins_ends_at gs pending (f e) token tokens rest x known h

pub primary_ends_at : (gs : List ConditionGroup) (pending : ConditionPending) (token : Token) → EndsAt primary_marks condition_marks (λ e. Joins pending (plain e) (BehindCondition gs)) token
primary_ends_at gs pending token known e tokens rest x h = joins_ends_at gs pending (plain e) token tokens rest x (known_more token.text known) h

-- a comparison's mark
compare_forward : (gs : List ConditionGroup) {pending : ConditionPending} {e : Expr} {k : Comparison} {first : Tokens → Tokens → Expr → Type 0} {token : Token} {tokens rest : Tokens} {x : Cond} → IsMark (mark_of k) token → (IsMark (codes "&&") token → ⊥) → (IsMark (codes "||") token → ⊥) → (IsMark (codes ")") token → ⊥) → IsSame first (λ tokens rest e. IsSum e tokens rest) → MaybeCompared pending e (BehindCondition gs) (token ∷ tokens) rest x → InTurn first (λ b. Joins pending (compare k e b) (BehindCondition gs)) tokens rest x ⊎ ((rest ≡ token ∷ tokens) × IsTrue (is_in condition_marks token.text))
compare_forward gs {k = k} m a o p s (alone j) = inr (joins_end gs a o p j, is_of condition_marks (mark_of k) (compare_known k) m)
compare_forward gs {pending} {e} {k} {token = token} {rest = rest} {x = x} m a o p s (compared {comparison = k'} {b = b} {tokens = tokens} {mid = mid} n t j) =
    let same : Class.Compare k ≡ Class.Compare k' = compare_is k' (Class.Compare k) token n m in
    let r : k' ≡ k = cc in
    let P : Comparison → Type 0 = λ c. Joins pending (compare c e b) (BehindCondition gs) mid rest x in
    inl (in_turn (s.backward tokens mid b t) (subst P r j))

compare_backward : (gs : List ConditionGroup) {pending : ConditionPending} {e : Expr} {k : Comparison} {first : Tokens → Tokens → Expr → Type 0} {token : Token} {tokens rest : Tokens} {x : Cond} → IsMark (mark_of k) token → IsSame first (λ tokens rest e. IsSum e tokens rest) → InTurn first (λ b. Joins pending (compare k e b) (BehindCondition gs)) tokens rest x → MaybeCompared pending e (BehindCondition gs) (token ∷ tokens) rest x
compare_backward gs {k = k} {tokens = tokens} m s (in_turn {x = b} {mid = mid} t j) = compared {comparison = k} m (s.forward tokens mid b t) j

pub compare_takes : (gs : List ConditionGroup) (pending : ConditionPending) (e : Expr) (k : Comparison) (first : Tokens → Tokens → Expr → Type 0) (token : Token) → IsMark (mark_of k) token → (IsMark (codes "&&") token → ⊥) → (IsMark (codes "||") token → ⊥) → (IsMark (codes ")") token → ⊥) → IsSame first (λ tokens rest e. IsSum e tokens rest) → Takes condition_marks (MaybeCompared pending e (BehindCondition gs)) (InTurn first (λ b. Joins pending (compare k e b) (BehindCondition gs))) token
compare_takes gs pending e k first token m a o p s = record { forward = λ tokens rest x h. compare_forward gs m a o p s h; backward = λ tokens rest x h. compare_backward gs m s h }

alone_forward : {ends : Cond → Tokens → Tokens → Cond → Type 0} {pending : ConditionPending} {e : Expr} {token : Token} {tokens rest : Tokens} {x : Cond} → ((k : Comparison) → IsMark (mark_of k) token → ⊥) → MaybeCompared pending e ends (token ∷ tokens) rest x → Joins pending (plain e) ends (token ∷ tokens) rest x
alone_forward other (alone j) = j
alone_forward other (compared {comparison = k} m s j) = absurd (other k m)

pub alone_same : (gs : List ConditionGroup) (pending : ConditionPending) (e : Expr) (token : Token) → ((k : Comparison) → IsMark (mark_of k) token → ⊥) → SameAt (MaybeCompared pending e (BehindCondition gs)) (Joins pending (plain e) (BehindCondition gs)) token
alone_same gs pending e token other = record { forward = λ tokens rest x h. alone_forward other h; backward = λ tokens rest x h. alone h }
