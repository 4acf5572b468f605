use Rattle.mc_c_parse_simple.proofs.Phrases.{next_takes}
use Rattle.mc_c_parse_body.specs.Phrases.{first_of}
use Rattle.mc_c_parse_body.specs.States.{AtState}
use Rattle.mc_c_parse_body.proofs.Tokens.{of_class, phrase_stuck}
use Rattle.mc_c_parse_body.proofs.step.expect.Goals as goal

pub returns-then-begins_with : goal.returns-then-begins_with
returns-then-begins_with c = λ aliases. rw c.behind-reader.ensures (next_takes (of_class c.args.token.now (first_of c.args.phrase) (c.begins_with.ensures.first c.if-begins_with.true) c.requires))

pub returns-else-begins_with : goal.returns-else-begins_with
returns-else-begins_with c = λ aliases. phrase_stuck (AtState aliases c.args.reader.now.nest c.args.reader.now.state) c.args.phrase c.args.class c.args.token.now c.requires (c.begins_with.ensures.other c.if-begins_with.false)
