use Rattle.mc_c_parse.proofs.Bases.{base_int, base_struct, base_alias, base_stuck}
use Rattle.mc_c_parse.proofs.base.base_start.Goals as goal

pub returns-in-Int : goal.returns-in-Int
returns-in-Int c = λ aliases known. base_int (rw c.in-Int.is at c.requires)

pub returns-in-Struct : goal.returns-in-Struct
returns-in-Struct c = λ aliases known. base_struct (rw c.in-Struct.is at c.requires)

pub returns-in_ok-name_at-in-Name : goal.returns-in_ok-name_at-in-Name
returns-in_ok-name_at-in-Name c = λ aliases known. rw c.in_ok-name_at-in-Name.ensures (base_alias (record { name = rw c.in-Name.is at c.requires; known = rw known c.if-alias.true }))

pub returns-in_default : goal.returns-in_default
returns-in_default c = λ aliases known. base_stuck _ c.requires c.in_default.not-Int c.in_default.not-Struct (λ is. absurd (c.in_default.not-Name is))
