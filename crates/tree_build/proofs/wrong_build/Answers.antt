-- `tree_build::wrong_build` meets its contract: the code is the definition, and no product is above the points' number.
use Rattle.tree_build.specs.Build.{wrong_build}
use borrow.Author.Rules.{rules}
use Rattle.tree_build.proofs.wrong_build.Goals as goal

pub returns : goal.returns
unfolding wrong_build
returns c = search rules
