-- A text is read once, and refused once.
use Rattle.std.proofs.Common.{◌≡◌, ◌++◌, ◌∙◌, ◌⊎◌, ℕ, List, [], ◌∷◌, ap, sym, subst, append_assoc, inl, inr, refl}
use Rattle.std.specs.Prelude.{Some, Ok, Err}
use Rattle.mc_base.specs.declared.text.token.Token.{Token}
use Rattle.mc_c_syntax.specs.declared.lex.fault.LexFault.{LexFault}
use Rattle.mc_c_syntax.specs.Lex.Readings.{Reading, Lexes}
use Rattle.mc_c_syntax.specs.Ast.Names.{Tokens}
use Rattle.mc_c_syntax.specs.Ast.Trees.{UnitTree}
use Rattle.mc_c_syntax.specs.Ast.Grammar.{IsUnit}
use Rattle.mc_c_parse.specs.declared.fault.ParseFault.{ParseFault}
use Rattle.mc_c_parse.specs.declared.fault.ParseFault.TheVariants.{Unexpected, LeftOut, NoMemory}
use Rattle.mc_c_parse.specs.Faults.{CanBegin, StopsAt, IsLeftOut, IsFaultOf}
use Rattle.mc_c_types.specs.Typing.{IsWellTyped, IsFirstFault, IsToldOnce}
use Rattle.mc_load.specs.declared.read.cause.Refusal.{Refusal}
use Rattle.mc_load.specs.Read.Causes.{lexical_refusal, grammatical_refusal, typing_refusal}
use Rattle.mc_load.specs.Read.Programs.{IsReadAs, IsProgramOf}
use Rattle.mc_load.specs.Read.Refusals.{IsRefused, by_bytes, by_tokens, by_types}

-- ---- what the laws below say
abbrev pub ReadingsOnce : Type 0
ReadingsOnce = (text : List ℕ) (one other : Reading) → Lexes text one → Lexes text other → one ≡ other

abbrev pub TreesOnce : Type 0
TreesOnce = (tokens : Tokens) (one other : UnitTree) → IsUnit one tokens → IsUnit other tokens → one ≡ other

abbrev pub FaultsOnce : Type 0
FaultsOnce = (unit : UnitTree) (entry : List ℕ) → IsToldOnce unit entry

-- ---- readings
some_same : {X : Type 0} (x y : X) → Some x ≡ Some y → x ≡ y
some_same x y e = cc

same_tokens : ReadingsOnce → (text : List ℕ) (one other : List Token) → Lexes text (Ok one) → Lexes text (Ok other) → one ≡ other
same_tokens once text one other a b = let e = once text (Ok one) (Ok other) a b in cc

same_fault : ReadingsOnce → (text : List ℕ) (one other : LexFault) → Lexes text (Err one) → Lexes text (Err other) → one ≡ other
same_fault once text one other a b = let e = once text (Err one) (Err other) a b in cc

no_fault : ReadingsOnce → (text : List ℕ) (tokens : List Token) (fault : LexFault) → Lexes text (Ok tokens) → Lexes text (Err fault) → ⊥
no_fault once text tokens fault a b = let e = once text (Ok tokens) (Err fault) a b in cc

pub read_once : ReadingsOnce → TreesOnce → (text : List ℕ) (one other : UnitTree) → IsReadAs text one → IsReadAs text other → one ≡ other
read_once readings trees text one other a b =
    let same = same_tokens readings text a.tokens b.tokens a.lexes b.lexes in
    trees b.tokens one other (subst (λ (ts : Tokens). IsUnit one ts) same a.spells) b.spells

-- ---- where tokens stop
begins_shorter : (front more : Tokens) → CanBegin (front ++ more) → CanBegin front
begins_shorter front more can = record {
  more = more ++ can.more;
  unit = can.unit;
  spells = subst (λ (ts : Tokens). IsUnit can.unit ts) (append_assoc front more can.more) can.spells;
}

-- the second list begins with the first and this token
abbrev GoesBehind : Tokens → Token → Tokens → Type 0
GoesBehind before token other = (more : Tokens) × (other ≡ (before ++ token ∷ []) ++ more)

abbrev Meets : Tokens → Token → Tokens → Token → Type 0
Meets before token other next = ((before ≡ other) × (token ≡ next)) ⊎ (GoesBehind before token other ⊎ GoesBehind other next before)

head_same : (x y : Token) (xs ys : Tokens) → x ∷ xs ≡ y ∷ ys → x ≡ y
head_same x y xs ys e = cc

tail_same : (x y : Token) (xs ys : Tokens) → x ∷ xs ≡ y ∷ ys → xs ≡ ys
tail_same x y xs ys e = cc

meets_behind : (x y : Token) (before : Tokens) (token : Token) (other : Tokens) (next : Token) → x ≡ y → Meets before token other next → Meets (x ∷ before) token (y ∷ other) next
meets_behind x y before token other next e m = elim m [
  | inl same ↦ let b = same.0 in let t = same.1 in inl (let l : x ∷ before ≡ y ∷ other = cc in l, t)
  | inr far ↦ elim far [
    | inl behind ↦ let b = behind.1 in inr (inl (behind.0, let l : y ∷ other ≡ ((x ∷ before) ++ token ∷ []) ++ behind.0 = cc in l))
    | inr front ↦ let b = front.1 in inr (inr (front.0, let l : x ∷ before ≡ ((y ∷ other) ++ next ∷ []) ++ front.0 = cc in l))
  ]
]

meets : (before : Tokens) (token : Token) (after other : Tokens) (next : Token) (last : Tokens) → before ++ token ∷ after ≡ other ++ next ∷ last → Meets before token other next
meets [] token after [] next last e = inl (refl, head_same token next after last e)
meets [] token after (y ∷ other) next last e = inr (inl (other, let same = head_same token y after (other ++ next ∷ last) e in ap (λ t. t ∷ other) (sym same)))
meets (x ∷ before) token after [] next last e = inr (inr (before, let same = head_same x next (before ++ token ∷ after) last e in ap (λ t. t ∷ before) same))
meets (x ∷ before) token after (y ∷ other) next last e =
    meets_behind x y before token other next (head_same x y (before ++ token ∷ after) (other ++ next ∷ last) e)
    (meets before token after other next last (tail_same x y (before ++ token ∷ after) (other ++ next ∷ last) e))

not_behind : {tokens before other : Tokens} {token next : Token} → StopsAt tokens before token → StopsAt tokens other next → GoesBehind before token other → ⊥
not_behind {tokens} {before} {other} {token} {next} a b behind =
    a.stuck (begins_shorter (before ++ token ∷ []) behind.0 (subst (λ (ts : Tokens). CanBegin ts) behind.1 b.viable))

stops_once : {tokens before other : Tokens} {token next : Token} → StopsAt tokens before token → StopsAt tokens other next → (before ≡ other) × (token ≡ next)
stops_once {tokens} {before} {other} {token} {next} a b = elim (meets before token a.after other next b.after (sym a.split ∙ b.split)) [
  | inl same ↦ same
  | inr far ↦ elim far [ inl behind ↦ absurd (not_behind a b behind) | inr front ↦ absurd (not_behind b a front) ]
]

left_out_moves : {before other : Tokens} {token next : Token} → before ≡ other → token ≡ next → IsLeftOut before token → IsLeftOut other next
left_out_moves {before} {other} {token} {next} b t is = subst (λ (x : Token). IsLeftOut other x) t (subst (λ (ts : Tokens). IsLeftOut ts token) b is)

-- tokens have one fault at most, and none where they spell a program
pub parse_fault_once : (tokens : Tokens) (f g : ParseFault) (one other : Refusal) → IsFaultOf tokens f → IsFaultOf tokens g → grammatical_refusal f ≡ Some one → grammatical_refusal g ≡ Some other → one ≡ other
parse_fault_once tokens (Unexpected p) (Unexpected q) one other a b d e =
    let same = stops_once a.2 b.2 in
    let t = same.1 in let x = a.3.0 in let y = b.3.0 in
    let pq : p ≡ q = x ∙ ap (λ (t : Token). t.place) t ∙ sym y in
    cc
parse_fault_once tokens (Unexpected p) (LeftOut text q) one other a b d e =
    let same = stops_once b.2 a.2 in
    absurd (a.3.1 (left_out_moves same.0 same.1 b.3.2))
parse_fault_once tokens (Unexpected p) NoMemory one other a b d e = cc
parse_fault_once tokens (LeftOut text p) (Unexpected q) one other a b d e =
    let same = stops_once a.2 b.2 in
    absurd (b.3.1 (left_out_moves same.0 same.1 a.3.2))
parse_fault_once tokens (LeftOut text p) (LeftOut word q) one other a b d e =
    let same = stops_once a.2 b.2 in
    let t = same.1 in
    let pq : p ≡ q = a.3.0 ∙ ap (λ (t : Token). t.place) t ∙ sym b.3.0 in
    let tw : text ≡ word = a.3.1 ∙ ap (λ (t : Token). t.text) t ∙ sym b.3.1 in
    cc
parse_fault_once tokens (LeftOut text p) NoMemory one other a b d e = cc
parse_fault_once tokens NoMemory g one other a b d e = cc

stops_spelled : {tokens before : Tokens} {token : Token} (unit : UnitTree) → IsUnit unit tokens → StopsAt tokens before token → ⊥
stops_spelled {tokens} {before} {token} unit spells stops =
    stops.stuck (record {
      more = stops.after;
      unit = unit;
      spells = subst (λ (ts : Tokens). IsUnit unit ts) (stops.split ∙ sym (append_assoc before (token ∷ []) stops.after)) spells;
    })

pub no_parse_fault : (tokens : Tokens) (unit : UnitTree) (fault : ParseFault) (refusal : Refusal) → IsUnit unit tokens → IsFaultOf tokens fault → grammatical_refusal fault ≡ Some refusal → ⊥
no_parse_fault tokens unit (Unexpected p) refusal spells is told = stops_spelled unit spells is.2
no_parse_fault tokens unit (LeftOut text p) refusal spells is told = stops_spelled unit spells is.2
no_parse_fault tokens unit NoMemory refusal spells is told = cc

-- ---- refusals
read_without_fault : ReadingsOnce → (text : List ℕ) (unit : UnitTree) (tokens : Tokens) (fault : ParseFault) (refusal : Refusal) → IsReadAs text unit → Lexes text (Ok tokens) → IsFaultOf tokens fault → grammatical_refusal fault ≡ Some refusal → ⊥
read_without_fault readings text unit tokens fault refusal read lexes is told =
    let same = same_tokens readings text read.tokens tokens read.lexes lexes in
    no_parse_fault tokens unit fault refusal (subst (λ (ts : Tokens). IsUnit unit ts) same read.spells) is told

pub not_refused : ReadingsOnce → TreesOnce → FaultsOnce → (text entry : List ℕ) (unit : UnitTree) (refusal : Refusal) → IsProgramOf text entry unit → IsRefused text entry refusal → ⊥
not_refused readings trees faults text entry unit refusal program (by_bytes fault lexes told) = no_fault readings text program.read.tokens fault program.read.lexes lexes
not_refused readings trees faults text entry unit refusal program (by_tokens tokens fault lexes is told) = read_without_fault readings text unit tokens fault refusal program.read lexes is told
not_refused readings trees faults text entry unit refusal program (by_types other fault read first told) =
    let same = read_once readings trees text unit other program.read read in
    (faults other entry).none fault first (subst (λ (u : UnitTree). IsWellTyped u entry) same program.typed)

pub refused_once : ReadingsOnce → TreesOnce → FaultsOnce → (text entry : List ℕ) (one other : Refusal) → IsRefused text entry one → IsRefused text entry other → one ≡ other
refused_once readings trees faults text entry one other (by_bytes f lexes told) (by_bytes g reads says) =
    let same = same_fault readings text f g lexes reads in
    some_same one other (sym told ∙ ap lexical_refusal same ∙ says)
refused_once readings trees faults text entry one other (by_bytes f lexes told) (by_tokens tokens g reads is says) = absurd (no_fault readings text tokens f reads lexes)
refused_once readings trees faults text entry one other (by_bytes f lexes told) (by_types unit g read first says) = absurd (no_fault readings text read.tokens f read.lexes lexes)
refused_once readings trees faults text entry one other (by_tokens tokens f lexes is told) (by_bytes g reads says) = absurd (no_fault readings text tokens g lexes reads)
refused_once readings trees faults text entry one other (by_tokens tokens f lexes is told) (by_tokens more g reads has says) =
    let same = same_tokens readings text tokens more lexes reads in
    parse_fault_once more f g one other (subst (λ (ts : Tokens). IsFaultOf ts f) same is) has told says
refused_once readings trees faults text entry one other (by_tokens tokens f lexes is told) (by_types unit g read first says) = absurd (read_without_fault readings text unit tokens f one read lexes is told)
refused_once readings trees faults text entry one other (by_types unit f read first told) (by_bytes g reads says) = absurd (no_fault readings text read.tokens g read.lexes reads)
refused_once readings trees faults text entry one other (by_types unit f read first told) (by_tokens tokens g lexes is says) = absurd (read_without_fault readings text unit tokens g other read lexes is says)
refused_once readings trees faults text entry one other (by_types unit f read first told) (by_types tree g reads has says) =
    let same = read_once readings trees text unit tree read reads in
    let fault = (faults tree entry).once f g (subst (λ (u : UnitTree). IsFirstFault u entry f) same first) has in
    sym told ∙ ap typing_refusal fault ∙ says
