-- Programs token by token.
use native.Mathlib.Omega.{arith}
use Rattle.std.proofs.Common.{◌≡◌, ℕ, List, [], ◌∷◌, ◌++◌, ◌<◌, ◌≤◌, ◌+◌, zero, suc, None, Option, refl, sym, subst, ap, ◌∙◌, map, take, drop, get_or, length, append_assoc}
use Rattle.mc_base.specs.declared.text.token.Token.{Token}
use Rattle.mc_base.specs.declared.text.token.TokenKind.TheVariants as TokenKind
use Rattle.mc_c_syntax.specs.Lex.Readings.{EndsOnce}
use Rattle.mc_c_syntax.specs.declared.ast.trees.Item.{Item}
use Rattle.mc_c_syntax.specs.Ast.Names.{Tokens}
use Rattle.mc_c_syntax.specs.Ast.Trees.{UnitTree}
use Rattle.mc_c_syntax.specs.Ast.Views.{item_of}
use Rattle.mc_c_syntax.specs.Ast.Grammar.{IsUnit}
use Rattle.mc_c_parse.specs.declared.item.ItemReader.{ItemReader}
use Rattle.mc_c_parse.specs.Units.{types_behind, ItemsFrom, Goes, IsDone}
use Rattle.mc_c_parse.specs.declared.fault.ParseFault.{ParseFault}
use Rattle.mc_c_parse.specs.declared.fault.ParseFault.TheVariants.{Unexpected, LeftOut, NoMemory}
use Rattle.mc_c_parse.specs.Faults.{CanBegin, StopsAt, IsOnlyUnit, IsFaultAt, IsFaultOf}
use Rattle.mc_c_parse.proofs.Ends.{nothing_behind}
use Rattle.mc_c_parse.proofs.Viable.{CanFinish}

-- what completes the reader is what a program has after these tokens
pub record Behind (before : Tokens) (now : Tokens → UnitTree → Type 0) : Type 0 where
  pub forward : (more : Tokens) (all : UnitTree) → IsUnit all (before ++ more) → now more all
  pub backward : (more : Tokens) (all : UnitTree) → now more all → IsUnit all (before ++ more)

pub behind_none : (items : List Item) (current : Option ItemReader) → items ≡ [] → current ≡ None → Behind [] (ItemsFrom (types_behind [] (map item_of items)) (map item_of items) current)
behind_none items current e f = rw (e, f) (record { forward = λ more all u. u; backward = λ more all u. u })

pub behind_next : {now later : Tokens → UnitTree → Type 0} (before : Tokens) (token : Token) → Behind before now → Goes now later token → Behind (before ++ token ∷ []) later
behind_next before token b g = record {
  forward = λ more all u. g.forward more all (b.forward (token ∷ more) all (subst (λ tokens. IsUnit all tokens) (append_assoc before (token ∷ []) more) u));
  backward = λ more all u. subst (λ tokens. IsUnit all tokens) (sym (append_assoc before (token ∷ []) more)) (b.backward (token ∷ more) all (g.backward more all u));
}

take_suc : (tokens : Tokens) (i : ℕ) (token : Token) → i < length tokens → token ≡ get_or tokens i token → take (suc i) tokens ≡ take i tokens ++ token ∷ []
take_suc [] i token below is = absurd (omega arith)
take_suc (t ∷ tokens) zero token below is = rw is refl
take_suc (t ∷ tokens) (suc i) token below is = let below' : i < length tokens = omega arith in rw (take_suc tokens i token below' is) refl

pub take_next : (tokens : Tokens) (i : ℕ) (token : Token) → i < length tokens → token ≡ get_or tokens i token → take (i + 1) tokens ≡ take i tokens ++ token ∷ []
take_next tokens i token below is = let e : i + 1 ≡ suc i = omega arith in rw e (take_suc tokens i token below is)

pub split_at : (tokens : Tokens) (i : ℕ) (token : Token) → i < length tokens → token ≡ get_or tokens i token → tokens ≡ take i tokens ++ token ∷ drop (suc i) tokens
split_at [] i token below is = absurd (omega arith)
split_at (t ∷ tokens) zero token below is = rw is refl
split_at (t ∷ tokens) (suc i) token below is = let below' : i < length tokens = omega arith in ap (λ ts. t ∷ ts) (split_at tokens i token below' is)

take_all : (tokens : Tokens) (i : ℕ) → length tokens ≤ i → take i tokens ≡ tokens
take_all [] zero above = refl
take_all [] (suc i) above = refl
take_all (t ∷ tokens) zero above = absurd (omega arith)
take_all (t ∷ tokens) (suc i) above = let above' : length tokens ≤ i = omega arith in ap (λ ts. t ∷ ts) (take_all tokens i above')

pub viable : {now : Tokens → UnitTree → Type 0} (before : Tokens) → Behind before now → CanFinish now → CanBegin before
viable before b f = record { more = f.more; unit = f.tree; spells = b.backward f.more f.tree f.completes }

pub stops : {now : Tokens → UnitTree → Type 0} (before : Tokens) (token : Token) → Behind before now → ((more : Tokens) (all : UnitTree) → now (token ∷ more) all → ⊥) → CanBegin (before ++ token ∷ []) → ⊥
stops before token b stuck can = stuck can.more can.unit (b.forward (token ∷ can.more) can.unit (subst (λ tokens. IsUnit can.unit tokens) (append_assoc before (token ∷ []) can.more) can.spells))

pub stops_at : {now : Tokens → UnitTree → Type 0} (tokens : Tokens) (i : ℕ) (token : Token) → i < length tokens → token ≡ get_or tokens i token → Behind (take i tokens) now → CanFinish now → ((more : Tokens) (all : UnitTree) → now (token ∷ more) all → ⊥) → StopsAt tokens (take i tokens) token
stops_at tokens i token below is b f stuck = record { after = drop (suc i) tokens; split = split_at tokens i token below is; viable = viable (take i tokens) b f; stuck = stops (take i tokens) token b stuck }

last_is_last : (before : Tokens) (token : Token) (after : Tokens) → EndsOnce (before ++ token ∷ after) → token.kind ≡ TokenKind.End → after ≡ []
last_is_last [] token [] ends is = refl
last_is_last [] token (t ∷ after) ends is = absurd (ends.0 is)
last_is_last (b ∷ []) token after ends is = last_is_last [] token after ends.1 is
last_is_last (b ∷ c ∷ before) token after ends is = last_is_last (c ∷ before) token after ends.1 is

pub only_unit : {now : Tokens → UnitTree → Type 0} (tokens : Tokens) (i : ℕ) (token : Token) (unit : UnitTree) → EndsOnce tokens → i < length tokens → token ≡ get_or tokens i token → Behind (take i tokens) now → IsDone now token unit → IsOnlyUnit unit tokens
only_unit tokens i token unit ends below is b done =
    let split = split_at tokens i token below is in
    let none = last_is_last (take i tokens) token (drop (suc i) tokens) (subst EndsOnce split ends) done.end in
    let whole : take i tokens ++ token ∷ [] ≡ tokens = sym (split ∙ ap (λ after. take i tokens ++ token ∷ after) none) in
    record {
      spells = subst (λ ts. IsUnit unit ts) whole (b.backward (token ∷ []) unit done.backward);
      only = λ other u. (done.forward [] other (b.forward (token ∷ []) other (subst (λ ts. IsUnit other ts) (sym whole) u))).1;
    }

-- a reader after the whole text can't be completed
pub never : {now : Tokens → UnitTree → Type 0} (tokens : Tokens) (i : ℕ) → EndsOnce tokens → length tokens ≤ i → Behind (take i tokens) now → CanFinish now → ⊥
never tokens i ends above b f =
    let u = b.backward f.more f.tree f.completes in
    f.some (nothing_behind tokens f.more ends (subst (λ ts. IsUnit f.tree (ts ++ f.more)) (take_all tokens i above) u))

pub fault_of : (tokens before : Tokens) (token : Token) (fault : ParseFault) → StopsAt tokens before token → IsFaultAt before token fault → IsFaultOf tokens fault
fault_of tokens before token (Unexpected place) stop is = (before, token, stop, is)
fault_of tokens before token (LeftOut text place) stop is = (before, token, stop, is)
fault_of tokens before token NoMemory stop is = tt
