-- `samples::inner::count`: what is cast lies between 1 and 4,096. Assumes nothing.
use Rattle.std.proofs.Common.{arith}
use lib.Ieee.{of_bits}
use Rattle.samples.specs.CastLaws.{below_power, one_above}
use Rattle.samples.proofs.inner.count.Goals as goal

pub truncating_f32_to_u64-requires : goal.truncating_f32_to_u64-requires
unfolding of_bits
truncating_f32_to_u64-requires c = record {
  lower_bound = one_above c.args.target c.if-target.true;
  upper_bound = below_power 12 64 (omega arith) c.args.target c.if-target-2.true;
}
