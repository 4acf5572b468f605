use Rattle.mc_cover.proofs.SearchLemmas.Near.{far_lie}
use Rattle.mc_cover.proofs.search.laws.terms_are_near.Goals as goal

pub returns : goal.returns
returns c = λ know tells. far_lie c.args.state.now c.known-pure.result.now c.known-pure.ensures.follows c.normal_forms_say_all.ensures c.has_normal_form.ensures c.requires know tells
