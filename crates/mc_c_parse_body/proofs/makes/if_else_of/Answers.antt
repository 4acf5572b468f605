use Rattle.std.proofs.Common.{refl}
use Rattle.mc_c_parse_body.proofs.Seen.{if_else_made}
use Rattle.mc_c_parse_body.proofs.makes.if_else_of.Goals as goal

pub returns : goal.returns
returns c = if_else_made c.args.place c.args.condition c.args.first c.in_ok-new.field-0 c.args.first.value c.args.second refl c.in_ok-new.ensures.ok
