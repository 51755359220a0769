-- `rays::meet_refusal` meets its contract: the first test that holds gives its row's number.
use Rattle.names.specs.Refusals.{refusals}
use Rattle.rays.specs.Rays.{meet_refusal}
use Rattle.rays.proofs.meet_refusal.Goals as goal

pub returns-then-bad_triangle : goal.returns-then-bad_triangle
unfolding meet_refusal
returns-then-bad_triangle c = rw (← c.bad_triangle.ensures) (search refusals depth 6)

pub returns-then-bad_ray : goal.returns-then-bad_ray
unfolding meet_refusal
returns-then-bad_ray c =
    rw (← c.bad_triangle.ensures, ← c.bad_ray.ensures) (search refusals depth 6)

pub returns : goal.returns
unfolding meet_refusal
returns c =
    rw (← c.bad_triangle.ensures, ← c.bad_ray.ensures) (search refusals depth 6)
