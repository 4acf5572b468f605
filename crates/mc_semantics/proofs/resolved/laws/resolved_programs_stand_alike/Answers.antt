use Rattle.mc_semantics.proofs.ResolvedLemmas.Computing.{held_alike, value_forth, value_back}
use Rattle.mc_semantics.proofs.ResolvedLemmas.Moving.{arrive_forth, arrive_back}
use Rattle.mc_semantics.proofs.resolved.laws.resolved_programs_stand_alike.Goals as goal

pub returns-clause-values : goal.returns-clause-values
returns-clause-values c = λ t defs locals vs values numbered heap agree known. record {
  names = λ name. held_alike t defs locals vs values numbered heap name agree known;
  expressions = λ e choices one. (
    value_forth t defs locals vs values numbered heap agree known e choices one,
    value_back t defs locals vs values numbered heap agree known e choices one,
  );
}

pub returns-clause-arrivals : goal.returns-clause-arrivals
returns-clause-arrivals x = λ t defs c d m. record {
  forth = λ values ts path. arrive_forth t defs path m.locals d.values d.tasks m.values m.tasks;
  back = λ numbered us path. arrive_back t defs path m.locals c.values c.tasks m.values m.tasks;
}
