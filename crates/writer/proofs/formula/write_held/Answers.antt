-- The text is written where the output is no shorter than its size.
-- Assumes nothing.
use native.Mathlib.Omega.{arith}
use Rattle.writer.proofs.AnswerLaws.{told-no-room, told-room, told-written}
use Rattle.writer.proofs.formula.write_held.Goals as goal

pub text_size-requires : goal.text_size-requires
text_size-requires c = c.requires

pub returns-then-out-text_size : goal.returns-then-out-text_size
returns-then-out-text_size c = λ φ h. told-no-room _ _ _ (c.text_size.ensures φ h) c.if-out-text_size.true

pub write_text-n-requires-clause-held : goal.write_text-n-requires-clause-held
write_text-n-requires-clause-held c = c.requires

pub write_text-n-requires-clause-room : goal.write_text-n-requires-clause-room
write_text-n-requires-clause-room c = λ φ h. told-room _ _ _ (c.text_size.ensures φ h) (omega arith)

pub returns : goal.returns
returns c = λ φ h. told-written _ _ _ (c.text_size.ensures φ h) (omega arith) _ _ (c.write_text-n.ensures φ h)
