-- Places of tokens, in their order.
use Rattle.std.proofs.Common.{arith, ◌≡◌, List, [], ◌∷◌, ◌++◌, sym, ◌∙◌, subst, All}
use Rattle.std.proofs.lemmas.List.{append_assoc}
use Rattle.std.proofs.lemmas.List.Elements.{All-nil, All-cons}
use Rattle.std.proofs.lemmas.List.Kept.{AllPairs-cons}
use Rattle.mc_base.specs.declared.text.place.Place.{Place}
use Rattle.mc_base.specs.declared.text.token.Token.{Token}
use Rattle.mc_c_syntax.specs.Ast.Names.{Tokens}
use Rattle.mc_c_grammar.specs.Places.Places.{IsBefore, AreAscending}
use Rattle.mc_c_grammar.proofs.PlacesLemmas.Lexed.{AreBehind, AreInOrder}

abbrev pub Places : Type 0
Places = List Place

-- the places are those of some of the tokens, in their order
pub data AreWithin : Places → Tokens → Type 0 where
  nowhere : AreWithin [] []
  past : {token : Token} {tokens : Tokens} {places : Places} → AreWithin places tokens → AreWithin places (token ∷ tokens)
  here : {token : Token} {tokens : Tokens} {places : Places} → AreWithin places tokens → AreWithin (token.place ∷ places) (token ∷ tokens)

-- they ascend where the tokens do
all_behind : (p : Place) {places : Places} {tokens : Tokens} → AreWithin places tokens → AreBehind p tokens → All (IsBefore p) places
all_behind p nowhere behind = All-nil (IsBefore p)
all_behind p (past within) behind = all_behind p within behind.1
all_behind p (here {token = token} {places = places} within) behind = All-cons (IsBefore p) token.place places behind.0 (all_behind p within behind.1)

no_pairs : AreAscending []
no_pairs = λ i j d less small. absurd (omega arith)

pub within_ascends : {places : Places} {tokens : Tokens} → AreWithin places tokens → AreInOrder tokens → AreAscending places
within_ascends nowhere order = no_pairs
within_ascends (past within) order = within_ascends within order.1
within_ascends (here {token = token} {places = places} within) order = AllPairs-cons IsBefore token.place places (all_behind token.place within order.0) (within_ascends within order.1)

-- what a list is grown by, with its places
pub data Grown {X : Type 0} (places_of : List X → Places) (old all : List X) (tokens : Tokens) (more : Places) : Type 0 where
  grown : (new : List X) → all ≡ old ++ new → AreWithin (places_of new ++ more) tokens → Grown places_of old all tokens more

-- by one more before
pub grown_by : {X : Type 0} {places_of : List X → Places} {old all : List X} {mid tokens : Tokens} {more : Places} (x : X) → Grown places_of (old ++ x ∷ []) all mid more → ((new : List X) → AreWithin (places_of new ++ more) mid → AreWithin (places_of (x ∷ new) ++ more) tokens) → Grown places_of old all tokens more
grown_by {old = old} x (grown new e w) go = grown (x ∷ new) (e ∙ append_assoc old (x ∷ []) new) (go new w)

-- a list that grew from one
pub from_one : {X : Type 0} {places_of : List X → Places} {x : X} {all : List X} {mid tokens : Tokens} {more : Places} → Grown places_of (x ∷ []) all mid more → ((new : List X) → AreWithin (places_of new ++ more) mid → AreWithin (places_of (x ∷ new) ++ more) tokens) → AreWithin (places_of all ++ more) tokens
from_one {places_of = places_of} {tokens = tokens} {more = more} (grown new e w) go = subst (λ l. AreWithin (places_of l ++ more) tokens) (sym e) (go new w)

-- and from none
pub from_none : {X : Type 0} {places_of : List X → Places} {all : List X} {tokens : Tokens} {more : Places} → Grown places_of [] all tokens more → AreWithin (places_of all ++ more) tokens
from_none {places_of = places_of} {tokens = tokens} {more = more} (grown new e w) = subst (λ l. AreWithin (places_of l ++ more) tokens) (sym e) w

-- of two parts, one after the other
pub in_turn : (one other more : Places) {tokens : Tokens} → AreWithin (one ++ (other ++ more)) tokens → AreWithin ((one ++ other) ++ more) tokens
in_turn one other more {tokens = tokens} within = subst (λ places. AreWithin places tokens) (sym (append_assoc one other more)) within
