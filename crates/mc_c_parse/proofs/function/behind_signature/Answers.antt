use Rattle.std.proofs.Common.{Option}
use Rattle.mc_c_syntax.specs.Ast.Trees.{BodyTree}
use Rattle.mc_c_syntax.specs.Ast.Views.{parameters_of}
use Rattle.mc_c_parse.proofs.FunctionLemmas.{body_semicolon, body_enters, body_stuck}
use Rattle.mc_c_parse.proofs.Threads.{then_gives}
use Rattle.mc_c_parse.proofs.function.behind_signature.Goals as goal

pub returns-in-Semicolon : goal.returns-in-Semicolon
returns-in-Semicolon c = λ aliases. rw c.function_of.ensures (then_gives _ (body_semicolon aliases (rw c.in-Semicolon.is at c.requires)))

pub returns-in_ok-reader-in-OpenBrace : goal.returns-in_ok-reader-in-OpenBrace
returns-in_ok-reader-in-OpenBrace c = λ aliases. rw c.in_ok-reader-in-OpenBrace.ensures.ok (body_enters aliases (λ (b : Option BodyTree). record { static_place = c.args.signature.static_place; returned = c.args.signature.header.returned; name = c.args.signature.header.name; parameters = parameters_of c.args.signature.parameters; body = b }) c.new-fresh.result (rw c.in-OpenBrace.is at c.requires) (c.new-fresh.ensures aliases))

pub returns-in_default : goal.returns-in_default
returns-in_default c = λ aliases tokens rest x n. body_stuck aliases _ c.requires c.in_default.not-Semicolon c.in_default.not-OpenBrace tokens n.1 n.0 n.2
