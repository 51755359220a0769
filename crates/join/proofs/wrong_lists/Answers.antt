-- `join::wrong_lists` is the definition; the products stay small, since n is at most `voxel_limit`. Assumes nothing.
use mathlib.Core.Path.{refl}
use Rattle.join.specs.Join.{wrong_join_lists}
use Rattle.join.proofs.wrong_lists.Goals as goal

pub returns : goal.returns
unfolding wrong_join_lists
returns c = refl
