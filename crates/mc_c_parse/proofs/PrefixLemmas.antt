-- Which tokens some program begins with.
use native.Mathlib.Omega.{arith}
use Rattle.std.proofs.Common.{◌≡◌, ℕ, [], ◌∷◌, ◌++◌, ◌<◌, Some, None, Option, Bool, true, false, sym, subst, take, drop, get_or, length, append_assoc, suc, zero}
use Rattle.std.specs.Prelude.{is_some, MatchBool}
use Rattle.mc_base.specs.declared.text.token.Token.{Token}
use Rattle.mc_base.specs.declared.text.token.TokenKind.TheVariants as TokenKind
use Rattle.mc_c_syntax.specs.Lex.Readings.{EndsOnce}
use Rattle.mc_c_syntax.specs.Ast.Names.{Tokens}
use Rattle.mc_c_syntax.specs.Ast.Trees.{UnitTree}
use Rattle.mc_c_syntax.specs.Ast.Grammar.{IsUnit}
use Rattle.mc_c_parse.specs.declared.unit.UnitReader.{UnitReader}
use Rattle.mc_c_parse.specs.Units.{GoesThrough, RunIs, CanGoOn}
use Rattle.mc_c_parse.specs.Faults.{CanBegin, HasNoEnd}
use Rattle.mc_c_parse.proofs.Viable.{Bodies, can_unit}
use Rattle.mc_c_parse.proofs.WholeLemmas.{Behind, split_at}

pub run_decides : (now : Tokens → UnitTree → Type 0) (tokens : Tokens) → Bodies → (reader : Option UnitReader) → RunIs now tokens reader → MatchBool (is_some reader) (CanGoOn now tokens) (CanGoOn now tokens → ⊥)
run_decides now tokens bodies (Some reader) r = let f = can_unit bodies reader in record { more = f.more; tree = f.tree; completes = r.1.backward f.more f.tree f.completes }
run_decides now tokens bodies None r = λ can. r can.more can.tree can.completes

pub run_stops : {now : Tokens → UnitTree → Type 0} (first second : Tokens) → Behind [] now → ((more : Tokens) (all : UnitTree) → now (first ++ more) all → ⊥) → CanBegin (first ++ second) → ⊥
run_stops first second b stuck can = stuck (second ++ can.more) can.unit (b.forward (first ++ (second ++ can.more)) can.unit (subst (λ tokens. IsUnit can.unit tokens) (append_assoc first second can.more) can.spells))

goes_back : {now later : Tokens → UnitTree → Type 0} (first second : Tokens) → Behind [] now → GoesThrough now later first → CanGoOn later second → CanBegin (first ++ second)
goes_back first second b g can = record { more = can.more; unit = can.tree; spells = subst (λ tokens. IsUnit can.tree tokens) (sym (append_assoc first second can.more)) (b.backward (first ++ (second ++ can.more)) can.tree (g.backward (second ++ can.more) can.tree can.completes)) }

goes_on : {now later : Tokens → UnitTree → Type 0} (first second : Tokens) → Behind [] now → GoesThrough now later first → CanBegin (first ++ second) → CanGoOn later second
goes_on first second b g can = record { more = can.more; tree = can.unit; completes = g.forward (second ++ can.more) can.unit (b.forward (first ++ (second ++ can.more)) can.unit (subst (λ tokens. IsUnit can.unit tokens) (append_assoc first second can.more) can.spells)) }

pub begins : {now later : Tokens → UnitTree → Type 0} (first second : Tokens) → Behind [] now → GoesThrough now later first → (can : Bool) → MatchBool can (CanGoOn later second) (CanGoOn later second → ⊥) → MatchBool can (CanBegin (first ++ second)) (CanBegin (first ++ second) → ⊥)
begins first second b g true m = goes_back first second b g m
begins first second b g false m = λ can. m (goes_on first second b g can)

-- tokens of which none is the end
pub no_end_at : (tokens : Tokens) (i : ℕ) (token : Token) → HasNoEnd tokens → i < length tokens → token ≡ get_or tokens i token → token.kind ≡ TokenKind.End → ⊥
no_end_at [] i token h below is e = absurd (omega arith)
no_end_at (t ∷ tokens) zero token h below is e = h.0 (rw (← is) e)
no_end_at (t ∷ tokens) (suc i) token h below is e = let below' : i < length tokens = omega arith in no_end_at tokens i token h.1 below' is e

pub no_end_before : (before : Tokens) (token : Token) (after : Tokens) → EndsOnce (before ++ token ∷ after) → HasNoEnd before
no_end_before [] token after ends = tt
no_end_before (b ∷ []) token after ends = (ends.0, tt)
no_end_before (b ∷ c ∷ before) token after ends = (ends.0, no_end_before (c ∷ before) token after ends.1)

pub no_end_first : (first : Tokens) (last : Token) → HasNoEnd (first ++ last ∷ []) → HasNoEnd first
no_end_first [] last h = tt
no_end_first (b ∷ first) last h = (h.0, no_end_first first last h.1)

-- a reader is stuck within tokens
pub stuck_within : {now later : Tokens → UnitTree → Type 0} (tokens : Tokens) (i : ℕ) (token : Token) → i < length tokens → token ≡ get_or tokens i token → GoesThrough now later (take i tokens) → ((more : Tokens) (all : UnitTree) → later (token ∷ more) all → ⊥) → (more : Tokens) (all : UnitTree) → now (tokens ++ more) all → ⊥
stuck_within {now = now} tokens i token below is g stuck more all n =
    let split = split_at tokens i token below is in
    let n' : now ((take i tokens ++ token ∷ drop (suc i) tokens) ++ more) all = subst (λ ts. now (ts ++ more) all) split n in
    stuck (drop (suc i) tokens ++ more) all (g.forward (token ∷ (drop (suc i) tokens ++ more)) all (subst (λ ts. now ts all) (append_assoc (take i tokens) (token ∷ drop (suc i) tokens) more) n'))

pub no_end_within : (tokens : Tokens) (i : ℕ) (token : Token) → EndsOnce tokens → i < length tokens → token ≡ get_or tokens i token → HasNoEnd (take i tokens)
no_end_within tokens i token ends below is = no_end_before (take i tokens) token (drop (suc i) tokens) (subst EndsOnce (split_at tokens i token below is) ends)
