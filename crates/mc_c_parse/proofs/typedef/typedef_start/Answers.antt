use Rattle.mc_c_parse.proofs.ItemLemmas.{typedef_int, typedef_struct, typedef_alias, typedef_stuck}
use Rattle.mc_c_parse.proofs.Threads.{takes_same, then_closes}
use Rattle.mc_c_parse.proofs.Marks.{no_int, no_struct}
use Rattle.mc_c_parse.proofs.typedef.typedef_start.Goals as goal

pub returns-in-Int : goal.returns-in-Int
returns-in-Int c = λ aliases known. takes_same (then_closes _ (typedef_int aliases (rw c.in-Int.is at c.requires))) (c.names_of.ensures aliases)

pub returns-in-Struct : goal.returns-in-Struct
returns-in-Struct c = λ aliases known. typedef_struct aliases _ (rw c.in-Struct.is at c.requires)

pub returns-in_ok-name_at-in-Name : goal.returns-in_ok-name_at-in-Name
returns-in_ok-name_at-in-Name c = λ aliases known. takes_same (then_closes _ (typedef_alias aliases (record { name = (rw c.in-Name.is at c.requires); known = rw known c.if-alias.true }))) (rw c.in_ok-name_at-in-Name.ensures at (c.names_of-then-alias.ensures aliases))

pub returns-else-alias : goal.returns-else-alias
returns-else-alias c = λ aliases known tokens rest x n. typedef_stuck aliases _ c.requires (λ is. absurd (no_int (rw is at c.in-Name.is))) (λ is. absurd (no_struct (rw is at c.in-Name.is))) (λ is. rw known c.if-alias.false) tokens n.1 n.0 n.2

pub returns-in_default : goal.returns-in_default
returns-in_default c = λ aliases known tokens rest x n. typedef_stuck aliases _ c.requires c.in_default.not-Int c.in_default.not-Struct (λ is. absurd (c.in_default.not-Name is)) tokens n.1 n.0 n.2
