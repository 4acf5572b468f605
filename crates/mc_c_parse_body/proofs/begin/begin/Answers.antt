use Rattle.mc_c_syntax.specs.declared.ast.class.Class.TheVariants as Class
use Rattle.mc_c_parse_simple.proofs.Phrases.{takes_to}
use Rattle.mc_c_parse_body.specs.Frames.{Around}
use Rattle.mc_c_parse_body.specs.declared.frames.Frame.{Frame}
use Rattle.mc_c_parse_body.proofs.Tokens.{of_class, if_ok_map}
use Rattle.mc_c_parse_body.proofs.StateTurns.{body_step_along}
use Rattle.mc_c_parse_body.proofs.Beginnings.{opened_takes, opens_line}
use Rattle.mc_c_parse_body.proofs.FrameTurns.{later_within}
use Rattle.mc_c_parse_body.proofs.Seen.{assert_empty_seen, break_seen, continue_seen}
use Rattle.mc_c_parse_body.proofs.begin.begin.Goals as goal

pub returns-in_ok-enter-in-OpenBrace : goal.returns-in_ok-enter-in-OpenBrace
returns-in_ok-enter-in-OpenBrace c = λ aliases e. rw c.requires.ready (later_within aliases c.enter.new.self c.args.reader.now.nest (Frame.Block c.args.token.now.place c.new-statements.result) c.args.token.now c.in_ok-enter-in-OpenBrace.ensures.0 c.in_ok-enter-in-OpenBrace.ensures.1 (rw c.new-statements.ensures.items (opened_takes aliases (Around aliases c.args.reader.now.nest) Class.OpenBrace (of_class c.args.token.now Class.OpenBrace c.in-OpenBrace.is c.requires.kind))))

pub returns-in_ok-enter-in-Do : goal.returns-in_ok-enter-in-Do
returns-in_ok-enter-in-Do c = λ aliases e. rw c.requires.ready (later_within aliases c.enter-in-Do.new.self c.args.reader.now.nest (Frame.Do c.args.token.now.place) c.args.token.now c.in_ok-enter-in-Do.ensures.0 c.in_ok-enter-in-Do.ensures.1 (opened_takes aliases (Around aliases c.args.reader.now.nest) Class.Do (of_class c.args.token.now Class.Do c.in-Do.is c.requires.kind)))

pub returns-in-Free : goal.returns-in-Free
returns-in-Free c = λ aliases e. if_ok_map c.begin_free.result (λ step h. rw h.0 (takes_to (opened_takes aliases (Around aliases c.args.reader.now.nest) Class.Free (of_class c.args.token.now Class.Free c.in-Free.is c.requires.kind)) (h.1 aliases))) c.begin_free.ensures

pub returns-in-Assert : goal.returns-in-Assert
returns-in-Assert c = λ aliases e. if_ok_map c.begin_condition.result (λ step h. rw h.0 (takes_to (opened_takes aliases (Around aliases c.args.reader.now.nest) Class.Assert (of_class c.args.token.now Class.Assert c.in-Assert.is c.requires.kind)) (h.1 aliases))) c.begin_condition.ensures

pub returns-in-Assume : goal.returns-in-Assume
returns-in-Assume c = λ aliases e. if_ok_map c.begin_condition-in-Assume.result (λ step h. rw h.0 (takes_to (opened_takes aliases (Around aliases c.args.reader.now.nest) Class.Assume (of_class c.args.token.now Class.Assume c.in-Assume.is c.requires.kind)) (h.1 aliases))) c.begin_condition-in-Assume.ensures

pub returns-in-If : goal.returns-in-If
returns-in-If c = λ aliases e. if_ok_map c.begin_condition-in-If.result (λ step h. rw h.0 (takes_to (opened_takes aliases (Around aliases c.args.reader.now.nest) Class.If (of_class c.args.token.now Class.If c.in-If.is c.requires.kind)) (h.1 aliases))) c.begin_condition-in-If.ensures

pub returns-in-While : goal.returns-in-While
returns-in-While c = λ aliases e. if_ok_map c.begin_condition-in-While.result (λ step h. rw h.0 (takes_to (opened_takes aliases (Around aliases c.args.reader.now.nest) Class.While (of_class c.args.token.now Class.While c.in-While.is c.requires.kind)) (h.1 aliases))) c.begin_condition-in-While.ensures

pub returns-in-For : goal.returns-in-For
returns-in-For c = λ aliases e. rw (c.begin_for.ensures.step, c.begin_for.ensures.becomes) (opened_takes aliases (Around aliases c.args.reader.now.nest) Class.For (of_class c.args.token.now Class.For c.in-For.is c.requires.kind))

pub returns-in-AssumeShape : goal.returns-in-AssumeShape
returns-in-AssumeShape c = λ aliases e. rw (c.begin_shape.ensures.step, c.begin_shape.ensures.becomes) (opened_takes aliases (Around aliases c.args.reader.now.nest) Class.AssumeShape (of_class c.args.token.now Class.AssumeShape c.in-AssumeShape.is c.requires.kind))

pub returns-in-AssertShape : goal.returns-in-AssertShape
returns-in-AssertShape c = λ aliases e. rw (c.begin_shape-in-AssertShape.ensures.step, c.begin_shape-in-AssertShape.ensures.becomes) (opened_takes aliases (Around aliases c.args.reader.now.nest) Class.AssertShape (of_class c.args.token.now Class.AssertShape c.in-AssertShape.is c.requires.kind))

pub returns-in-AssertEmpty : goal.returns-in-AssertEmpty
returns-in-AssertEmpty c = λ aliases e. rw (c.begin_word.ensures.step, c.begin_word.ensures.becomes, assert_empty_seen) (opened_takes aliases (Around aliases c.args.reader.now.nest) Class.AssertEmpty (of_class c.args.token.now Class.AssertEmpty c.in-AssertEmpty.is c.requires.kind))

pub returns-in-Break : goal.returns-in-Break
returns-in-Break c = λ aliases e. rw (c.begin_word-in-Break.ensures.step, c.begin_word-in-Break.ensures.becomes, break_seen) (opened_takes aliases (Around aliases c.args.reader.now.nest) Class.Break (of_class c.args.token.now Class.Break c.in-Break.is c.requires.kind))

pub returns-in-Continue : goal.returns-in-Continue
returns-in-Continue c = λ aliases e. rw (c.begin_word-in-Continue.ensures.step, c.begin_word-in-Continue.ensures.becomes, continue_seen) (opened_takes aliases (Around aliases c.args.reader.now.nest) Class.Continue (of_class c.args.token.now Class.Continue c.in-Continue.is c.requires.kind))

pub returns-in-Return : goal.returns-in-Return
returns-in-Return c = λ aliases e. rw (c.begin_return.ensures.step, c.begin_return.ensures.becomes, c.requires.ready) (opened_takes aliases (Around aliases c.args.reader.now.nest) Class.Return (of_class c.args.token.now Class.Return c.in-Return.is c.requires.kind))

pub returns-in_default : goal.returns-in_default
returns-in_default c = λ aliases e. if_ok_map c.begin_line.result (λ step h. body_step_along aliases c.begin_line.new.reader step (opens_line aliases (Around aliases c.args.reader.now.nest) c.args.class c.requires.kind c.in_default.not-OpenBrace c.in_default.not-Do c.in_default.not-Free c.in_default.not-Assert c.in_default.not-Assume c.in_default.not-If c.in_default.not-While c.in_default.not-AssumeShape c.in_default.not-AssertShape c.in_default.not-AssertEmpty c.in_default.not-For c.in_default.not-Break c.in_default.not-Continue c.in_default.not-Return) h) (c.begin_line.ensures aliases e)
