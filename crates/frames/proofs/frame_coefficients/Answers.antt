-- `frames::frame_coefficients` meets its contract: what both frames promise.
use Rattle.frames.specs.Frames.{coefficient_frame_refusal}
use Rattle.frames.proofs.frame_coefficients.Goals as goal

pub returns : goal.returns
unfolding coefficient_frame_refusal
returns c = record { answer = c.frame.ensures.answer; answers_after = c.frame.ensures.answers_after }
