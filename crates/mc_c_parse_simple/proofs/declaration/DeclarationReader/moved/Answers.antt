use Rattle.mc_c_parse_simple.proofs.declaration.DeclarationReader.moved.Goals as goal

pub returns-in-Start : goal.returns-in-Start
returns-in-Start c = λ aliases. rw c.in-Start.is (c.start.ensures aliases)

pub returns-in-Pointer : goal.returns-in-Pointer
returns-in-Pointer c = λ aliases. rw c.in-Pointer.is (c.behind_star.ensures aliases)

pub returns-in-Named : goal.returns-in-Named
returns-in-Named c = λ aliases. rw c.in-Named.is (c.behind_declarator.ensures aliases)

pub unreachable-requires : goal.unreachable-requires
unreachable-requires c = c.requires.beside (rw c.in-Value.is tt)
