use Rattle.mc_c_parse.proofs.typedef.names_of.Goals as goal

pub returns : goal.returns
returns c = λ aliases. rw (c.new.ensures.none, c.new.ensures.starts) (record { forward = λ tokens rest t n. n; backward = λ tokens rest t n. n })
