-- Every expression that is begun can be completed.
use Rattle.std.proofs.Common.{ℕ, List, [], ◌∷◌, ◌++◌, append_assoc, refl, sym, subst}
use Rattle.std.specs.Prelude.{codes}
use Rattle.mc_base.specs.declared.text.place.Place.{Place}
use Rattle.mc_base.specs.declared.text.token.Token.{Token}
use Rattle.mc_base.specs.declared.text.token.TokenKind.TheVariants as TokenKind
use Rattle.mc_c_syntax.specs.Ast.Trees.{Expr, parens, null, input}
use Rattle.mc_c_syntax.specs.Ast.Names.{Tokens, IsMark, IsName}
use Rattle.mc_c_syntax.specs.Ast.Grammar.{none, IsUnary, null_word, no_factor, no_term}
use Rattle.mc_c_syntax.specs.Ast.Readers.{CanEnd}
use Rattle.mc_c_parse_expr.specs.declared.primary.Primary.{Primary}
use Rattle.mc_c_parse_expr.specs.declared.expression.Pending.{Pending}
use Rattle.mc_c_parse_expr.specs.declared.expression.Group.{Group}
use Rattle.mc_c_parse_expr.specs.declared.expression.Spot.{Spot}
use Rattle.mc_c_parse_expr.specs.declared.expression.ExpressionReader.{ExpressionReader}
use Rattle.mc_c_parse_expr.specs.Turns.{InTurn, in_turn, marked}
use Rattle.mc_c_parse_expr.specs.Primaries.{CompletesPrimary, behind_left, behind_arrow, behind_input, behind_open}
use Rattle.mc_c_parse_expr.specs.Expressions.{negated, product_of, sum_of, GoesOn, goes_on, Behind, AtSpot, CompletesExpression}

abbrev pub somewhere : Place
somewhere = record { line = 1; column = 1 }

abbrev pub mark_token : List ℕ → Token
mark_token mark = record { kind = TokenKind.Mark; text = mark; place = somewhere }

abbrev pub word_token : List ℕ → Token
word_token word = record { kind = TokenKind.Name; text = word; place = somewhere }

pub is_mark : (mark : List ℕ) → IsMark mark (mark_token mark)
is_mark mark = record { kind = refl; text = refl }

pub null_reads : (tokens : Tokens) → IsUnary (null somewhere) (word_token (codes "NULL") ∷ tokens) tokens
null_reads tokens = null_word (record { kind = refl; text = refl })

-- one thing, and from there the next
pub turn_ends : {X Y : Type 0} {first : Tokens → Tokens → X → Type 0} {next : X → Tokens → Tokens → Y → Type 0} → (f : CanEnd first) → CanEnd (next f.tree) → CanEnd (InTurn first next)
turn_ends {first = first} {next = next} f n = record {
  more = f.more ++ n.more;
  tree = n.tree;
  completes = λ rest. let P : Tokens → Type 0 = λ tokens. InTurn first next tokens rest n.tree in subst P (sym (append_assoc f.more n.more rest)) (in_turn (f.completes (n.more ++ rest)) (n.completes rest));
}

goes_can_end : {pending : Pending} {u : Expr} {ends : Expr → Tokens → Tokens → Expr → Type 0} → CanEnd (ends (sum_of pending.sum (product_of pending.factor (negated pending.minuses u)))) → CanEnd (GoesOn pending u ends)
goes_can_end b = record { more = b.more; tree = b.tree; completes = λ rest. goes_on no_factor no_term (b.completes rest) }

group_can_end : (g : Group) (gs : List Group) (s : Expr) → CanEnd (GoesOn g.outer (parens g.place s) (Behind gs)) → CanEnd (Behind (g ∷ gs) s)
group_can_end g gs s b = record { more = mark_token (codes ")") ∷ b.more; tree = b.tree; completes = λ rest. (b.more ++ rest, marked (is_mark (codes ")")), b.completes rest) }

behind_can_end : (gs : List Group) (s : Expr) → CanEnd (Behind gs s)
behind_can_end [] s = record { more = []; tree = s; completes = λ rest. (refl, refl) }
behind_can_end (g ∷ gs) s = group_can_end g gs s (goes_can_end (behind_can_end gs (sum_of g.outer.sum (product_of g.outer.factor (negated g.outer.minuses (parens g.place s))))))

-- after an operand
pub unary_can_end : (gs : List Group) (pending : Pending) (u : Expr) → CanEnd (GoesOn pending u (Behind gs))
unary_can_end gs pending u = goes_can_end (behind_can_end gs (sum_of pending.sum (product_of pending.factor (negated pending.minuses u))))

pub x_is_name : IsName (word_token (codes "x"))
x_is_name = record { kind = refl; free = refl }

pub primary_can_end : (p : Primary) → CanEnd (CompletesPrimary p)
primary_can_end (Primary.Left l) = record { more = []; tree = _; completes = λ rest. behind_left none }
primary_can_end (Primary.Arrow l) = record { more = word_token (codes "x") ∷ []; tree = _; completes = λ rest. behind_arrow x_is_name none }
primary_can_end (Primary.Input place) = record { more = mark_token (codes "(") ∷ mark_token (codes ")") ∷ []; tree = input place; completes = λ rest. behind_input (is_mark (codes "(")) (is_mark (codes ")")) }
primary_can_end (Primary.InputOpen place) = record { more = mark_token (codes ")") ∷ []; tree = input place; completes = λ rest. behind_open (is_mark (codes ")")) }

null_can_end : CanEnd (λ tokens rest u. IsUnary u tokens rest)
null_can_end = record { more = word_token (codes "NULL") ∷ []; tree = null somewhere; completes = λ rest. null_reads rest }

spot_can_end : (spot : Spot) (gs : List Group) (pending : Pending) → CanEnd (AtSpot spot gs pending)
spot_can_end Spot.Operand gs pending = turn_ends null_can_end (unary_can_end gs pending null_can_end.tree)
spot_can_end (Spot.Primary p) gs pending = let f = primary_can_end p in turn_ends f (unary_can_end gs pending f.tree)
spot_can_end (Spot.Unary u) gs pending = unary_can_end gs pending _

pub expression_can_end : (r : ExpressionReader) → CanEnd (CompletesExpression r)
expression_can_end r = spot_can_end r.spot r.groups r.pending
