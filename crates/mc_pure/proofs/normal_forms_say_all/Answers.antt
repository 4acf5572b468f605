use Rattle.mc_pure.proofs.Completeness.{complete}
use Rattle.mc_pure.proofs.normal_forms_say_all.Goals as goal

pub returns : goal.returns
returns c = λ p nf n f d. complete p nf n {f = f} d
