-- How many boxes runs of 0, 1, 4, 5, 8 and 9 triangles have; what the call answers for scenes of 0, 1, 4 and 5 triangles and of absent ones, and what it refuses;
-- and the whole tree of triangle Q. The triangles are document 01's triangle Q, raised.
use Rattle.std.specs.Prelude.{◌≡◌, refl, cond, List, [], ◌∷◌, ◌++◌, ℕ, length, replicate, Float}
use Rattle.std.proofs.Common.{sym, ◌∙◌, arith}
use Rattle.std.proofs.Math.ListN.{get_or-eq_default}
use Rattle.std.specs.Float.Ieee as Ieee
use Rattle.std.specs.Float.{nan}
use Rattle.names.specs.Bits.{lit, zero32, half32, one32, two32}
use Rattle.names.specs.Refusals.{first_of, unless_refused}
use Rattle.lists.specs.Some.{some}
use Rattle.limits.specs.Limits.{within, bad_points}
use Rattle.floats.specs.Choice.{larger_of, smaller_of}
use Rattle.vectors.specs.Vectors.{add_v, sub_v, dot_v, cross_v, larger_v, smaller_v}
use Rattle.triangle.specs.Meet.{absent_of}
use Rattle.triangle.specs.Places.{triangle_at}
use Rattle.boxes.specs.Boxes.{bounds_at, padded_of}
use Rattle.tree.specs.Tree.{count_at, left_at, right_at, present_at}
use Rattle.tree.specs.TreeFigures.{raised_to}
use Rattle.tree_order.specs.Order.{key_at, on_axis, lowest_keys, highest_keys, spread_of_keys, widest_of, put_in, put_all, along_widest, halved_within, present_below, order_of}
use Rattle.tree_build.specs.declared.TreeBuilt.{TreeBuilt}
use Rattle.tree_build.specs.Built.{run_bounds, boxes_within, boxes_for, leaf, KeptBeside}
use Rattle.tree_build.specs.Build.{wrong_build, build_refusal, built_of, BuildAnswered}
use Rattle.tree_build.specs.BuildLaws.{SameBuild, build_answered_once}

pub box_figures : boxes_for 0 ∷ boxes_for 1 ∷ boxes_for 4 ∷ boxes_for 5 ∷ boxes_for 8 ∷ boxes_for 9 ∷ [] ≡ 0 ∷ 1 ∷ 1 ∷ 3 ∷ 3 ∷ 5 ∷ []
unfolding boxes_within
box_figures = refl

-- ---- what the call answers

abbrev built : ℕ → ℕ → ℕ → TreeBuilt
built k n m = record { refusal = k; boxes = n; places = m }

-- of sides 0, and so absent
abbrev absent : List Float
absent = replicate 9 zero32

abbrev four : List Float
four = raised_to two32 ++ raised_to one32 ++ raised_to half32 ++ raised_to zero32

-- no triangle and no room; Q; four; five; absent ones. Refused: a number left over, and one place, one box's numbers, one box's words too few, 3; a point at NaN, 5
pub answer_figures :
    built_of [] 0 0 0
    ∷ built_of (raised_to zero32) 6 3 1
    ∷ built_of four 24 12 4
    ∷ built_of (four ++ raised_to one32) 30 15 5
    ∷ built_of (absent ++ absent) 12 6 2
    ∷ built_of (raised_to zero32 ++ (zero32 ∷ [])) 12 6 2
    ∷ built_of (raised_to zero32) 6 3 0
    ∷ built_of (raised_to zero32) 5 3 1
    ∷ built_of (raised_to zero32) 6 2 1
    ∷ built_of (raised_to nan) 6 3 1
    ∷ []
    ≡ built 0 0 0 ∷ built 0 1 1 ∷ built 0 1 4 ∷ built 0 3 5 ∷ built 0 0 0 ∷ built 3 0 0 ∷ built 3 0 0 ∷ built 3 0 0 ∷ built 3 0 0 ∷ built 5 0 0 ∷ []
unfolding built_of build_refusal wrong_build first_of unless_refused bad_points some within boxes_within raised_to order_of present_below halved_within along_widest put_all put_in widest_of spread_of_keys lowest_keys highest_keys on_axis key_at present_at absent_of triangle_at larger_of smaller_of add_v sub_v dot_v cross_v larger_v smaller_v Ieee.of_bits Ieee.of_fields Ieee.odd Ieee.neg Ieee.le Ieee.lt Ieee.eq Ieee.is_nan Ieee.add Ieee.sub Ieee.mul Ieee.round Ieee.sum Ieee.units Ieee.size Ieee.span Ieee.climb
answer_figures = refl

-- 4,097 triangles are refused 4; of 4,096 only the points are asked, and there is room for them in lists of 24,576, 12,288 and 4,096
pub limit_figures : (points : List Float)
    → (length points ≡ 36873 → build_refusal points 24582 12291 4097 ≡ 4) × (length points ≡ 36864 → build_refusal points 24576 12288 4096 ≡ cond (bad_points points) 5 0)
unfolding build_refusal wrong_build first_of
limit_figures points = (λ e. rw e refl, λ e. rw e refl)

-- ---- the tree of Q

abbrev Q : List Float
Q = raised_to zero32

-- its points reach from 0 to 1 on x and y, and its box by 1e-5 further
abbrev box_q : List Float
box_q = lit 0xb727c5ac ∷ lit 0xb727c5ac ∷ lit 0xb727c5ac ∷ lit 0x3f800054 ∷ lit 0x3f800054 ∷ lit 0x3727c5ac ∷ []

past : {A : Type 0} (d : A) (l m : List A) (n : ℕ) → length l ≡ n → length m ≡ n → KeptBeside d l m 0 n
past d l m n e f =
    record {
      same = f ∙ sym e;
      below = λ k h. absurd (omega arith);
      above = λ k h. get_or-eq_default m d {n = k} (omega arith) ∙ sym (get_or-eq_default l d {n = k} (omega arith));
    }

-- one leaf, one triangle, which is the scene's first, and its padded box
pub Q_built : BuildAnswered Q (replicate 6 zero32) (replicate 3 7) (7 ∷ []) (built 0 1 1) box_q (1 ∷ 0 ∷ 0 ∷ []) (0 ∷ [])
unfolding run_bounds bounds_at padded_of count_at left_at right_at built_of build_refusal wrong_build first_of unless_refused bad_points some within boxes_within raised_to order_of present_below halved_within present_at absent_of triangle_at larger_of smaller_of add_v sub_v dot_v cross_v larger_v smaller_v Ieee.of_bits Ieee.of_fields Ieee.odd Ieee.neg Ieee.le Ieee.lt Ieee.eq Ieee.is_nan Ieee.add Ieee.sub Ieee.mul Ieee.round Ieee.sum Ieee.units Ieee.size Ieee.span Ieee.climb
Q_built =
    record {
      answer = refl;
      order_after = refl;
      tree = λ h. leaf {count = 1} (omega arith) (omega arith) (record { bounds = refl; number = refl; left = refl; right = refl });
      boxes_kept_is = past nan _ _ 6 refl refl;
      nodes_kept_is = past 0 _ _ 3 refl refl;
    }

-- and no other
pub Q_alone : (r : TreeBuilt) (boxes : List Float) (nodes order : List ℕ) → BuildAnswered Q (replicate 6 zero32) (replicate 3 7) (7 ∷ []) r boxes nodes order
    → SameBuild r (built 0 1 1) boxes box_q nodes (1 ∷ 0 ∷ 0 ∷ []) order (0 ∷ [])
Q_alone r boxes nodes order a = build_answered_once Q (replicate 6 zero32) (replicate 3 7) (7 ∷ []) r (built 0 1 1) boxes box_q nodes (1 ∷ 0 ∷ 0 ∷ []) order (0 ∷ []) a Q_built
