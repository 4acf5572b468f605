-- Right sides, declarations and simple statements that alike tokens spell.
use Rattle.std.proofs.Common.{◌≡◌, ℕ, List, [], ◌∷◌, ◌++◌, Option, Some, None, refl, ap, map}
use Rattle.std.specs.Option.{option_map}
use Rattle.mc_base.specs.declared.text.place.Place.{Place}
use Rattle.mc_c_syntax.specs.declared.ast.trees.Base.{Base}
use Rattle.mc_c_syntax.specs.declared.ast.trees.Declarator.{Declarator}
use Rattle.mc_c_syntax.specs.declared.ast.trees.Cast.{Cast}
use Rattle.mc_c_syntax.specs.declared.ast.trees.Size.{Size}
use Rattle.mc_c_syntax.specs.declared.ast.trees.Size.TheVariants.{OfType, OfParens, OfValue}
use Rattle.mc_c_syntax.specs.declared.ast.trees.Argument.{Argument}
use Rattle.mc_c_syntax.specs.Ast.Trees.{Expr, CallTree, Right, expression, result_of, allocation, InitialTree, DeclarationTree, SimpleTree, assign, add, subtract, increment, decrement, increment_first, decrement_first, call}
use Rattle.mc_c_syntax.specs.Ast.Names.{Tokens}
use Rattle.mc_c_syntax.specs.Ast.Grammar.{MoreExpressions, last, next, IsCall, without, with_some, IsBase, int, tagged, alias, IsStar, star, no_star, IsDeclarator, declarator, IsCast, no_cast, cast, IsSize, of_type, of_parens, of_value, IsRight, sum, called, allocated, IsInitial, bare, with_value, MoreInitials, last_initial, next_initial, IsDeclaration, declared, IsSimple, assigned, adding, subtracting, incremented, decremented, incremented_first, decremented_first, performed, IsArgument, name_argument, null_argument, number_argument, negative_argument, MoreArguments, last_argument, next_argument}
use Rattle.mc_c_grammar.specs.Printed.Aside.{nowhere, expression_aside, call_aside, base_aside, star_aside, declarator_aside, cast_aside, size_aside, right_aside, initial_aside, declaration_aside, simple_aside, argument_aside}
use Rattle.mc_c_grammar.proofs.PrintedLemmas.Alike.{Alike, alike, Again, again, and_then, and_close, and_end, mark_again, word_again, name_again, alias_again, number_again, named_again, ap_two, one_more}
use Rattle.mc_c_grammar.proofs.PrintedLemmas.AlikeExpressions.{left_again, sum_again}

pub expressions_again : {es fs all : List Expr} {ts rest us : Tokens} → MoreExpressions es ts all rest → Alike ts us → map expression_aside es ≡ map expression_aside fs → Again (λ y vs left. MoreExpressions fs vs y left) (map expression_aside) all rest us
expressions_again last r e = again last r e
expressions_again {es} {fs} (next {e = x} is one path) (alike s r) e =
    and_then (sum_again one r) λ y mid d q f. and_then (expressions_again {fs = fs ++ y ∷ []} path q (one_more expression_aside x y es fs e f)) λ z left d' q' g. again (next (mark_again s is) d d') q' g

pub call_again : {x : CallTree} {ts rest us : Tokens} → IsCall x ts rest → Alike ts us → Again IsCall call_aside x rest us
call_again (without is before after) (alike s (alike t (alike u r))) =
    again (without (name_again s is) (mark_again t before) (mark_again u after)) r (ap {B = CallTree} (λ f. record { function = f; arguments = [] }) (named_again s is))
call_again (with_some is before one path after) (alike s (alike t r)) =
    and_then (sum_again one r) λ y mid d q e. and_close (expressions_again {fs = y ∷ []} path q (ap (λ x. x ∷ []) e)) λ z b left d' u q' f.
    again (with_some (name_again s is) (mark_again t before) d d' (mark_again u after)) q' (ap_two {C = CallTree} (λ g es. record { function = g; arguments = es }) (named_again s is) f)

pub base_again : {aliases : List (List ℕ)} {x : Base} {ts rest us : Tokens} → IsBase aliases x ts rest → Alike ts us → Again (IsBase aliases) base_aside x rest us
base_again (int is) (alike s r) = again (int (word_again s is)) r refl
base_again (tagged is name) (alike s (alike t r)) = again (tagged (word_again s is) (name_again t name)) r (ap (Base.Struct nowhere) (named_again t name))
base_again (alias is) (alike s r) = again (alias (alias_again s is)) r (ap Base.Alias (named_again s is.name))

pub star_again : {x : Option Place} {ts rest us : Tokens} → IsStar x ts rest → Alike ts us → Again IsStar star_aside x rest us
star_again (star is) (alike s r) = again (star (mark_again s is)) r refl
star_again no_star r = again no_star r refl

pub declarator_again : {x : Declarator} {ts rest us : Tokens} → IsDeclarator x ts rest → Alike ts us → Again IsDeclarator declarator_aside x rest us
declarator_again (declarator pointer name) r =
    and_close (star_again pointer r) λ p b left d s q e. again (declarator d (name_again s name)) q (ap_two {C = Declarator} (λ p n. record { pointer = p; name = n }) e (named_again s name))

cast_again : {aliases : List (List ℕ)} {x : Option Cast} {ts rest us : Tokens} → IsCast aliases x ts rest → Alike ts us → Again (IsCast aliases) (option_map cast_aside) x rest us
cast_again no_cast r = again no_cast r refl
cast_again (cast before base pointer after) (alike s r) =
    and_then (base_again base r) λ y mid d q e. and_close (star_again pointer q) λ z b left d' t q' f.
    again (cast (mark_again s before) d d' (mark_again t after)) q' (ap_two {C = Option Cast} (λ base pointer. Some (record { place = nowhere; base = base; pointer = pointer })) e f)

size_again : {aliases : List (List ℕ)} {x : Size} {ts rest us : Tokens} → IsSize aliases x ts rest → Alike ts us → Again (IsSize aliases) size_aside x rest us
size_again (of_type is before base after) (alike s (alike t r)) =
    and_close (base_again base r) λ y b left d u q e. again (of_type (word_again s is) (mark_again t before) d (mark_again u after)) q (ap (OfType nowhere) e)
size_again (of_parens is before times name after) (alike s (alike t (alike u (alike v (alike w r))))) =
    again (of_parens (word_again s is) (mark_again t before) (mark_again u times) (name_again v name) (mark_again w after)) r (ap (OfParens nowhere) (named_again v name))
size_again (of_value is times name) (alike s (alike t (alike u r))) =
    again (of_value (word_again s is) (mark_again t times) (name_again u name)) r (ap (OfValue nowhere) (named_again u name))

pub right_again : {aliases : List (List ℕ)} {x : Right} {ts rest us : Tokens} → IsRight aliases x ts rest → Alike ts us → Again (IsRight aliases) right_aside x rest us
right_again (sum inner) r = and_then (sum_again inner r) λ y left d q e. again (sum d) q (ap expression e)
right_again (called inner) r = and_then (call_again inner r) λ y left d q e. again (called d) q (ap result_of e)
right_again (allocated kind is before size after) r =
    and_end (cast_again kind r) λ y word b mid d s t q e. and_close (size_again size q) λ z a left d' u q' f.
    again (allocated d (word_again s is) (mark_again t before) d' (mark_again u after)) q' (ap_two {C = Right} (λ cast size. allocation (record { cast = cast; place = nowhere; size = size })) e f)

pub initial_again : {aliases : List (List ℕ)} {x : InitialTree} {ts rest us : Tokens} → IsInitial aliases x ts rest → Alike ts us → Again (IsInitial aliases) initial_aside x rest us
initial_again (bare inner) r = and_then (declarator_again inner r) λ y left d q e. again (bare d) q (ap {B = InitialTree} (λ d. record { declarator = d; value = None }) e)
initial_again (with_value inner is right) r =
    and_close (declarator_again inner r) λ y b mid d s q e. and_then (right_again right q) λ z left d' q' f.
    again (with_value d (mark_again s is) d') q' (ap_two {C = InitialTree} (λ d v. record { declarator = d; value = Some v }) e f)

initials_again : {aliases : List (List ℕ)} {es fs all : List InitialTree} {ts rest us : Tokens} → MoreInitials aliases es ts all rest → Alike ts us → map initial_aside es ≡ map initial_aside fs → Again (λ y vs left. MoreInitials aliases fs vs y left) (map initial_aside) all rest us
initials_again last_initial r e = again last_initial r e
initials_again {es = es} {fs = fs} (next_initial {i = x} is one path) (alike s r) e =
    and_then (initial_again one r) λ y mid d q f. and_then (initials_again {fs = fs ++ y ∷ []} path q (one_more initial_aside x y es fs e f)) λ z left d' q' g. again (next_initial (mark_again s is) d d') q' g

pub declaration_again : {aliases : List (List ℕ)} {x : DeclarationTree} {ts rest us : Tokens} → IsDeclaration aliases x ts rest → Alike ts us → Again (IsDeclaration aliases) declaration_aside x rest us
declaration_again (declared base one path is) r =
    and_then (base_again base r) λ y mid d q e. and_then (initial_again one q) λ z behind d' q' f. and_close (initials_again {fs = z ∷ []} path q' (ap (λ x. x ∷ []) f)) λ all b left d'' s q'' g.
    again (declared d d' d'' (mark_again s is)) q'' (ap_two {C = DeclarationTree} (λ base items. record { base = base; items = items }) e g)

pub simple_again : {aliases : List (List ℕ)} {x : SimpleTree} {ts rest us : Tokens} → IsSimple aliases x ts rest → Alike ts us → Again (IsSimple aliases) simple_aside x rest us
simple_again (assigned left is right) r =
    and_close (left_again left r) λ y b mid d s q e. and_then (right_again right q) λ z left d' q' f. again (assigned d (mark_again s is) d') q' (ap_two assign e f)
simple_again (adding left is right) r =
    and_close (left_again left r) λ y b mid d s q e. and_then (sum_again right q) λ z left d' q' f. again (adding d (mark_again s is) d') q' (ap_two add e f)
simple_again (subtracting left is right) r =
    and_close (left_again left r) λ y b mid d s q e. and_then (sum_again right q) λ z left d' q' f. again (subtracting d (mark_again s is) d') q' (ap_two subtract e f)
simple_again (incremented left is) r = and_close (left_again left r) λ y b left d s q e. again (incremented d (mark_again s is)) q (ap increment e)
simple_again (decremented left is) r = and_close (left_again left r) λ y b left d s q e. again (decremented d (mark_again s is)) q (ap decrement e)
simple_again (incremented_first is left) (alike s r) = and_then (left_again left r) λ y left d q e. again (incremented_first (mark_again s is) d) q (ap (increment_first nowhere) e)
simple_again (decremented_first is left) (alike s r) = and_then (left_again left r) λ y left d q e. again (decremented_first (mark_again s is) d) q (ap (decrement_first nowhere) e)
simple_again (performed inner) r = and_then (call_again inner r) λ y left d q e. again (performed d) q (ap call e)

pub argument_again : {x : Argument} {ts rest us : Tokens} → IsArgument x ts rest → Alike ts us → Again IsArgument argument_aside x rest us
argument_again (name_argument is) (alike s r) = again (name_argument (name_again s is)) r (ap Argument.Name (named_again s is))
argument_again (null_argument is) (alike s r) = again (null_argument (word_again s is)) r refl
argument_again (number_argument is) (alike s r) = again (number_argument (number_again s is)) r refl
argument_again (negative_argument is number) (alike s (alike t r)) = again (negative_argument (mark_again s is) (number_again t number)) r refl

pub arguments_again : {es fs all : List Argument} {ts rest us : Tokens} → MoreArguments es ts all rest → Alike ts us → map argument_aside es ≡ map argument_aside fs → Again (λ y vs left. MoreArguments fs vs y left) (map argument_aside) all rest us
arguments_again last_argument r e = again last_argument r e
arguments_again {es = es} {fs = fs} (next_argument {a = x} is one path) (alike s r) e =
    and_then (argument_again one r) λ y mid d q f. and_then (arguments_again {fs = fs ++ y ∷ []} path q (one_more argument_aside x y es fs e f)) λ z left d' q' g. again (next_argument (mark_again s is) d d') q' g
