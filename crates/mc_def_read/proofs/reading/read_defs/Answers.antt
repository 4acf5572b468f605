use Rattle.std.proofs.Common.{List, subst, sym}
use Rattle.std.specs.Prelude.{Ok}
use Rattle.std.proofs.lemmas.Result.{err_from_is_err_and}
use Rattle.mc_base.specs.declared.text.token.Token.{Token}
use Rattle.mc_c_syntax.specs.Lex.Readings.{Lexes}
use Rattle.mc_def_parse.specs.declared.tree.DefText.{DefText}
use Rattle.mc_def_parse.specs.Grammar.{IsFile}
use Rattle.mc_def_parse.specs.Faults.{IsOnlyFile}
use Rattle.mc_def_read.proofs.Exits.{at_token, at_last}
use Rattle.mc_def_read.proofs.reading.read_defs.Goals as goal

pub definitions-requires : goal.definitions-requires
definitions-requires c = (c.deref.result.now, subst (λ (f : List DefText). IsFile f c.deref.result.now) (sym c.as_slice.ensures) c.in_ok-file.ensures.read.spells)

pub returns-in_err-tokens-clause-read : goal.returns-in_err-tokens-clause-read
returns-in_err-tokens-clause-read c =
    let p = err_from_is_err_and c.from_residual.result c.from_residual.ensures.1 in
    rw (p.1, p.2) (c.in_err-tokens.ensures.read c.args.structs.now.list)

pub returns-in_err-file-clause-read : goal.returns-in_err-file-clause-read
returns-in_err-file-clause-read c =
    let p = err_from_is_err_and c.from_residual-in_err-file.result c.from_residual-in_err-file.ensures.1 in
    let lexed = subst (λ (ts : List Token). Lexes c.args.bytes.now (Ok ts)) (sym c.deref.ensures.value) c.in_ok-tokens.ensures.read in
    rw (p.1, p.2) (at_token c.args.bytes.now c.args.structs.now.list c.deref.result.now c.in_err-file.field-0.0 lexed c.in_err-file.ensures.refused)

pub returns-clause-read : goal.returns-clause-read
returns-clause-read c =
    let lexed = subst (λ (ts : List Token). Lexes c.args.bytes.now (Ok ts)) (sym c.deref.ensures.value) c.in_ok-tokens.ensures.read in
    let only = subst (λ (f : List DefText). IsOnlyFile f c.deref.result.now) (sym c.as_slice.ensures) c.in_ok-file.ensures.read in
    at_last c.args.bytes.now c.args.structs.now.list c.deref.result.now c.as_slice.result.now c.definitions.result lexed only c.definitions.ensures.found
