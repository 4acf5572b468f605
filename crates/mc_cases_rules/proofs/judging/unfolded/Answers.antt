use Rattle.mc_cases_rules.proofs.judging.unfolded.Goals as goal

pub unfolding-states-requires : goal.unfolding-states-requires
unfolding-states-requires c = record { vars = c.args.flow.now.vars; structs = c.args.flow.now.structs.list; fit = c.requires.valid.definitions; made = c.requires.made }
