use Rattle.std.proofs.Common.{◌≡◌, sym, ◌∙◌}
use Rattle.mc_c_syntax.specs.Ast.Views.{statement_of}
use Rattle.mc_c_parse_body.specs.Frames.{frames_of, body_of}
use Rattle.mc_c_parse_body.specs.declared.frames.Frame.{Frame}
use Rattle.mc_c_parse_body.proofs.FrameTurns.{block_closed, frame_no_close}
use Rattle.mc_c_parse_body.proofs.begin.close_frame.Goals as goal

pub returns-in-Block : goal.returns-in-Block
returns-in-Block c = λ aliases. rw (c.requires.ready, c.in-Block.is) (block_closed aliases (frames_of c.args.reader.now.nest) c.in-Block.place c.in-Block.statements (body_of c.args.reader.now.nest) (statement_of c.block_of-block.result) c.args.token.now c.requires.kind c.block_of-block.ensures)

pub returns-in-If : goal.returns-in-If
returns-in-If c = λ aliases. frame_no_close aliases c.args.frame (frames_of c.args.reader.now.nest) (body_of c.args.reader.now.nest) (λ place before e. let q : Frame.If c.in-If.field-0 c.in-If.field-1 ≡ Frame.Block place before = sym c.in-If.is ∙ e in cc) c.requires.kind

pub returns-in-Else : goal.returns-in-Else
returns-in-Else c = λ aliases. frame_no_close aliases c.args.frame (frames_of c.args.reader.now.nest) (body_of c.args.reader.now.nest) (λ place before e. let q : Frame.Else c.in-Else.field-0 c.in-Else.field-1 c.in-Else.field-2 ≡ Frame.Block place before = sym c.in-Else.is ∙ e in cc) c.requires.kind

pub returns-in-While : goal.returns-in-While
returns-in-While c = λ aliases. frame_no_close aliases c.args.frame (frames_of c.args.reader.now.nest) (body_of c.args.reader.now.nest) (λ place before e. let q : Frame.While c.in-While.field-0 c.in-While.field-1 ≡ Frame.Block place before = sym c.in-While.is ∙ e in cc) c.requires.kind

pub returns-in-Do : goal.returns-in-Do
returns-in-Do c = λ aliases. frame_no_close aliases c.args.frame (frames_of c.args.reader.now.nest) (body_of c.args.reader.now.nest) (λ place before e. let q : Frame.Do c.in-Do.field-0 ≡ Frame.Block place before = sym c.in-Do.is ∙ e in cc) c.requires.kind

pub returns : goal.returns
returns c = λ aliases. frame_no_close aliases c.args.frame (frames_of c.args.reader.now.nest) (body_of c.args.reader.now.nest) (λ place before e. let q : Frame.For c.in-For.field-0 ≡ Frame.Block place before = sym c.in-For.is ∙ e in cc) c.requires.kind
