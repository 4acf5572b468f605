-- Files token by token.
use native.Mathlib.Omega.{arith}
use Rattle.std.proofs.Common.{◌≡◌, ℕ, List, [], ◌∷◌, ◌++◌, ◌<◌, ◌≤◌, ◌+◌, zero, suc, refl, sym, subst, ap, ◌∙◌, take, drop, get_or, length, append_assoc}
use Rattle.mc_base.specs.declared.text.token.Token.{Token}
use Rattle.mc_base.specs.declared.text.token.TokenKind.TheVariants as TokenKind
use Rattle.mc_c_syntax.specs.Lex.Readings.{EndsOnce}
use Rattle.mc_c_syntax.specs.Ast.Names.{Tokens}
use Rattle.mc_c_syntax.specs.Ast.Readers.{Closes, IsStuckAt}
use Rattle.mc_def_parse.specs.declared.tree.DefText.{DefText}
use Rattle.mc_def_parse.specs.declared.file.FileReader.{FileReader}
use Rattle.mc_def_parse.specs.declared.file.At.TheVariants as At
use Rattle.mc_def_parse.specs.Grammar.{MoreDefs}
use Rattle.mc_def_parse.specs.Files.{CompletesFile}
use Rattle.mc_def_parse.specs.Steps.{Takes}
use Rattle.mc_def_parse.specs.Faults.{IsStop, IsOnlyFile}
use Rattle.mc_def_parse.proofs.Ends.{nothing_behind}
use Rattle.mc_def_parse.proofs.Viable.{CanFinish}

-- what completes the reader is what a file has after these tokens
pub record Behind (before : Tokens) (now : Tokens → Tokens → List DefText → Type 0) : Type 0 where
  pub forward : (more rest : Tokens) (all : List DefText) → MoreDefs [] (before ++ more) rest all → now more rest all
  pub backward : (more rest : Tokens) (all : List DefText) → now more rest all → MoreDefs [] (before ++ more) rest all

pub behind_none : (reader : FileReader) → reader.at ≡ At.Outside → reader.done ≡ [] → Behind [] (CompletesFile reader)
behind_none reader e f = rw (e, f) (record { forward = λ more rest all u. u; backward = λ more rest all u. u })

pub behind_next : {now later : Tokens → Tokens → List DefText → Type 0} (before : Tokens) (token : Token) → Behind before now → Takes now later token → Behind (before ++ token ∷ []) later
behind_next before token b g = record {
  forward = λ more rest all u. g.forward more rest all (b.forward (token ∷ more) rest all (subst (λ tokens. MoreDefs [] tokens rest all) (append_assoc before (token ∷ []) more) u));
  backward = λ more rest all u. subst (λ tokens. MoreDefs [] tokens rest all) (sym (append_assoc before (token ∷ []) more)) (b.backward (token ∷ more) rest all (g.backward more rest all u));
}

take_suc : (tokens : Tokens) (i : ℕ) (token : Token) → i < length tokens → token ≡ get_or tokens i token → take (suc i) tokens ≡ take i tokens ++ token ∷ []
take_suc [] i token below is = absurd (omega arith)
take_suc (t ∷ tokens) zero token below is = rw is refl
take_suc (t ∷ tokens) (suc i) token below is = let below' : i < length tokens = omega arith in rw (take_suc tokens i token below' is) refl

pub take_next : (tokens : Tokens) (i : ℕ) (token : Token) → i < length tokens → token ≡ get_or tokens i token → take (i + 1) tokens ≡ take i tokens ++ token ∷ []
take_next tokens i token below is = let e : i + 1 ≡ suc i = omega arith in rw e (take_suc tokens i token below is)

split_at : (tokens : Tokens) (i : ℕ) (token : Token) → i < length tokens → token ≡ get_or tokens i token → tokens ≡ take i tokens ++ token ∷ drop (suc i) tokens
split_at [] i token below is = absurd (omega arith)
split_at (t ∷ tokens) zero token below is = rw is refl
split_at (t ∷ tokens) (suc i) token below is = let below' : i < length tokens = omega arith in ap (λ ts. t ∷ ts) (split_at tokens i token below' is)

take_all : (tokens : Tokens) (i : ℕ) → length tokens ≤ i → take i tokens ≡ tokens
take_all [] zero above = refl
take_all [] (suc i) above = refl
take_all (t ∷ tokens) zero above = absurd (omega arith)
take_all (t ∷ tokens) (suc i) above = let above' : length tokens ≤ i = omega arith in ap (λ ts. t ∷ ts) (take_all tokens i above')

pub stops_at : {now : Tokens → Tokens → List DefText → Type 0} (tokens : Tokens) (i : ℕ) (token : Token) → i < length tokens → token ≡ get_or tokens i token → Behind (take i tokens) now → CanFinish now → IsStuckAt now token → IsStop tokens token.place
stops_at tokens i token below is b f stuck = (
  take i tokens,
  token,
  record {
    after = drop (suc i) tokens;
    split = split_at tokens i token below is;
    viable = record { more = f.more ++ []; file = f.tree; spells = b.backward (f.more ++ []) [] f.tree (f.completes []) };
    stuck = λ can. stuck can.more [] can.file (b.forward (token ∷ can.more) [] can.file (subst (λ ts. MoreDefs [] ts [] can.file) (append_assoc (take i tokens) (token ∷ []) can.more) can.spells));
  },
  refl,
)

last_is_last : (before : Tokens) (token : Token) (after : Tokens) → EndsOnce (before ++ token ∷ after) → token.kind ≡ TokenKind.End → after ≡ []
last_is_last [] token [] ends is = refl
last_is_last [] token (t ∷ after) ends is = absurd (ends.0 is)
last_is_last (b ∷ []) token after ends is = last_is_last [] token after ends.1 is
last_is_last (b ∷ c ∷ before) token after ends is = last_is_last (c ∷ before) token after ends.1 is

pub only_file : {now : Tokens → Tokens → List DefText → Type 0} (tokens : Tokens) (i : ℕ) (token : Token) (file : List DefText) → EndsOnce tokens → i < length tokens → token ≡ get_or tokens i token → Behind (take i tokens) now → Closes now token file × (token.kind ≡ TokenKind.End) → IsOnlyFile file tokens
only_file tokens i token file ends below is b (done, end) =
    let closed = b.backward (token ∷ []) [] file (done.backward []) in
    let split = split_at tokens i token below is in
    let none = last_is_last (take i tokens) token (drop (suc i) tokens) (subst EndsOnce split ends) end in
    let whole : take i tokens ++ token ∷ [] ≡ tokens = sym (split ∙ ap (λ after. take i tokens ++ token ∷ after) none) in
    record {
      spells = subst (λ ts. MoreDefs [] ts [] file) whole closed;
      only = λ other u. (done.forward [] [] other (b.forward (token ∷ []) [] other (subst (λ ts. MoreDefs [] ts [] other) (sym whole) u))).1;
    }

no_more : (more : Tokens) → more ++ [] ≡ [] → more ≡ []
no_more [] e = refl
no_more (token ∷ more) e = absurd (cc)

-- a reader after the whole text can't be completed
pub never : {now : Tokens → Tokens → List DefText → Type 0} (tokens : Tokens) (i : ℕ) → EndsOnce tokens → length tokens ≤ i → Behind (take i tokens) now → CanFinish now → ⊥
never tokens i ends above b f =
    let u = b.backward (f.more ++ []) [] f.tree (f.completes []) in
    let none = nothing_behind tokens (f.more ++ []) ends (subst (λ ts. MoreDefs [] (ts ++ (f.more ++ [])) [] f.tree) (take_all tokens i above) u) in
    f.some (no_more f.more none)
