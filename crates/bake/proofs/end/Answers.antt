-- Where the last voxel is passed the bake is finished, elsewhere nothing is written.
use mathlib.Core.Path.{refl, sym, ◌∙◌}
use Rattle.words.specs.WordsLaws.{entries_length}
use Rattle.bake.proofs.end.Goals as goal

pub returns-then-reached-n : goal.returns-then-reached-n
returns-then-reached-n c = record {
  over = λ e. c.finish.ensures;
  short = λ n. absurd (n (c.if-reached-n.true ∙ c.requires.tidy.1 ∙ sym (entries_length c.args.active.now _)));
}

pub returns-else-reached-n : goal.returns-else-reached-n
returns-else-reached-n c = record {
  over = λ e. absurd (c.if-reached-n.false (e ∙ entries_length c.args.active.now _ ∙ sym c.requires.tidy.1));
  short = λ n. (refl, refl);
}
