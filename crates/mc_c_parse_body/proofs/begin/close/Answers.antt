use Rattle.mc_c_parse_body.specs.Frames.{body_of}
use Rattle.mc_c_parse_body.proofs.FrameTurns.{body_closed, frame_closed, nothing_of}
use Rattle.mc_c_parse_body.proofs.begin.close.Goals as goal

pub returns-in-None : goal.returns-in-None
returns-in-None c = λ aliases. rw c.replace.ensures.value (body_closed aliases c.args.reader.now.nest.frames.items (body_of c.args.reader.now.nest) c.args.token.now c.requires.kind (nothing_of c.args.reader.now.nest.frames.items (let here = c.args.reader.now.nest.frames.ok in let none = c.in-None.ensures.cases.0 in cc)))

pub returns-in-Some : goal.returns-in-Some
returns-in-Some c = λ aliases. frame_closed aliases c.close_frame.new.reader c.args.reader.now.nest.frames.items c.pop.new.self.items c.in-Some.frame (body_of c.args.reader.now.nest) c.args.token.now c.close_frame.result c.in-Some.ensures.items (c.close_frame.ensures aliases)
