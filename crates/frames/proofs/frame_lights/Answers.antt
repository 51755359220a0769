-- `frames::frame_lights` meets its contract: what both frames promise.
use Rattle.frames.specs.Frames.{light_frame_refusal}
use Rattle.frames.proofs.frame_lights.Goals as goal

pub returns : goal.returns
unfolding light_frame_refusal
returns c = record { answer = c.frame.ensures.answer; answers_after = c.frame.ensures.answers_after }
