-- Every condition that is begun can be completed.
use Rattle.std.proofs.Common.{List, [], ◌∷◌, ◌++◌, refl}
use Rattle.std.specs.Prelude.{codes}
use Rattle.mc_base.specs.declared.text.place.Place.{Place}
use Rattle.mc_c_syntax.specs.Ast.Trees.{Expr, null, value, parens, Cond, plain, compare, negation, enclosed, both, either}
use Rattle.mc_c_syntax.specs.Ast.Names.{Tokens, name_of}
use Rattle.mc_c_syntax.specs.Ast.Grammar.{named, none, sum_of, product, no_factor, no_term, plain_one, no_both, no_either}
use Rattle.mc_c_syntax.specs.Ast.Readers.{CanEnd}
use Rattle.mc_c_parse_expr.specs.declared.condition.ConditionPending.{ConditionPending}
use Rattle.mc_c_parse_expr.specs.declared.condition.ConditionGroup.{ConditionGroup}
use Rattle.mc_c_parse_expr.specs.declared.condition.ConditionSpot.{ConditionSpot}
use Rattle.mc_c_parse_expr.specs.declared.condition.ConditionReader.{ConditionReader}
use Rattle.mc_c_parse_expr.specs.Turns.{in_turn, marked}
use Rattle.mc_c_parse_expr.specs.Conditions.{denied, both_of, either_of, denied_variable, IsOperand, Joins, joins, MaybeCompared, alone, BehindParens, BehindClose, BehindCondition, AtConditionSpot, CompletesCondition}
use Rattle.mc_c_parse_expr.proofs.Ends.{somewhere, mark_token, word_token, is_mark, x_is_name, null_reads, turn_ends, primary_can_end, expression_can_end}

abbrev joined : ConditionPending → Cond → Cond
joined pending c = either_of pending.either (both_of pending.both (denied pending.bangs c))

joins_can_end : {pending : ConditionPending} {c : Cond} {ends : Cond → Tokens → Tokens → Cond → Type 0} → CanEnd (ends (joined pending c)) → CanEnd (Joins pending c ends)
joins_can_end b = record { more = b.more; tree = b.tree; completes = λ rest. joins no_both no_either (b.completes rest) }

maybe_can_end : {pending : ConditionPending} {e : Expr} {ends : Cond → Tokens → Tokens → Cond → Type 0} → CanEnd (Joins pending (plain e) ends) → CanEnd (MaybeCompared pending e ends)
maybe_can_end b = record { more = b.more; tree = b.tree; completes = λ rest. alone (b.completes rest) }

parens_can_end : (pending : ConditionPending) (place : Place) (c : Cond) (ends : Cond → Tokens → Tokens → Cond → Type 0) → ((d : Cond) → CanEnd (ends d)) → CanEnd (BehindParens pending place c ends)
parens_can_end pending place (plain e) ends b = let m = maybe_can_end (joins_can_end (b (joined pending (plain (parens place e))))) in record { more = m.more; tree = m.tree; completes = λ rest. in_turn (in_turn no_factor no_term) (m.completes rest) }
parens_can_end pending place (compare k u v) ends b = joins_can_end (b _)
parens_can_end pending place (negation q c) ends b = joins_can_end (b _)
parens_can_end pending place (enclosed q c) ends b = joins_can_end (b _)
parens_can_end pending place (both u v) ends b = joins_can_end (b _)
parens_can_end pending place (either u v) ends b = joins_can_end (b _)

close_can_end : (bangs : List Place) (pending : ConditionPending) (place : Place) (c : Cond) (ends : Cond → Tokens → Tokens → Cond → Type 0) → ((d : Cond) → CanEnd (ends d)) → CanEnd (BehindClose bangs pending place c ends)
close_can_end [] pending place c ends b = parens_can_end pending place c ends b
close_can_end (bang ∷ bangs) pending place c ends b = joins_can_end (b _)

group_can_end : (g : ConditionGroup) (gs : List ConditionGroup) (c : Cond) → CanEnd (BehindClose g.outer.bangs g.outer g.place c (BehindCondition gs)) → CanEnd (BehindCondition (g ∷ gs) c)
group_can_end g gs c b = record { more = mark_token (codes ")") ∷ b.more; tree = b.tree; completes = λ rest. (b.more ++ rest, marked (is_mark (codes ")")), b.completes rest) }

behind_can_end : (gs : List ConditionGroup) (c : Cond) → CanEnd (BehindCondition gs c)
behind_can_end [] c = record { more = []; tree = c; completes = λ rest. (refl, refl) }
behind_can_end (g ∷ gs) c = group_can_end g gs c (close_can_end g.outer.bangs g.outer g.place c (BehindCondition gs) (λ d. behind_can_end gs d))

operand_joins : (gs : List ConditionGroup) (pending : ConditionPending) (c : Cond) → CanEnd (Joins pending c (BehindCondition gs))
operand_joins gs pending c = joins_can_end (behind_can_end gs (joined pending c))

operand_can_end : (bangs : List Place) → CanEnd (λ tokens rest c. IsOperand bangs c tokens rest)
operand_can_end [] = record { more = word_token (codes "NULL") ∷ []; tree = plain (null somewhere); completes = λ rest. plain_one (sum_of (product (null_reads rest) no_factor) no_term) }
operand_can_end (place ∷ places) = record { more = word_token (codes "x") ∷ []; tree = plain (value (record { name = name_of (word_token (codes "x")); fields = [] })); completes = λ rest. denied_variable (named x_is_name none) }

spot_can_end : (spot : ConditionSpot) (gs : List ConditionGroup) (pending : ConditionPending) → CanEnd (AtConditionSpot spot gs pending)
spot_can_end ConditionSpot.Operand gs pending = let f = operand_can_end pending.bangs in turn_ends f (operand_joins gs pending f.tree)
spot_can_end (ConditionSpot.Primary p) gs pending = let f = primary_can_end p in turn_ends f (operand_joins gs pending (plain f.tree))
spot_can_end (ConditionSpot.Sum r) gs pending = let f = expression_can_end r in turn_ends f (maybe_can_end (operand_joins gs pending (plain f.tree)))
spot_can_end (ConditionSpot.Compared side r) gs pending = let f = expression_can_end r in turn_ends f (operand_joins gs pending _)
spot_can_end (ConditionSpot.Whole w) gs pending = operand_joins gs pending _

pub condition_can_end : (r : ConditionReader) → CanEnd (CompletesCondition r)
condition_can_end r = spot_can_end r.spot r.groups r.pending
