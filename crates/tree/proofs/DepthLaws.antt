-- In an accepted tree every box has one depth: the marks of the test, made with lists that are long enough, are the depths. Assumes nothing.
use Rattle.std.specs.Prelude.{◌≡◌, refl, List, ℕ, zero, suc, ◌/◌, ◌<◌, length, get_or, set, Float}
use Rattle.std.proofs.Common.{arith, length-set}
use Rattle.std.proofs.lemmas.List.{length-replicate}
use Rattle.tree.specs.Tree.{box_count, Deep, AcceptedTree}
use Rattle.tree.specs.Test.{depths_to}
use Rattle.tree.specs.MarkLaws.{Start, blank, blank_zero, first_mark}
use Rattle.tree.proofs.FoundLaws.{deep_marked}
use Rattle.tree.proofs.HeldLaws.{reached, mark_deep, held_good}

module _ (points boxes : List Float) (nodes order : List ℕ) (t : AcceptedTree points boxes nodes order) where
  abbrev depths : List ℕ
  depths = set (blank (suc (box_count nodes))) 0 1

  abbrev seen : List ℕ
  seen = blank (length points / 9)

  start : Start points nodes depths seen
  start =
      record {
        depths_long = rw (length-set (blank (suc (box_count nodes))) 0 1, length-replicate {A = ℕ} (suc (box_count nodes)) 0) (omega arith);
        depths_start = first_mark (box_count nodes);
        seen_long = rw (length-replicate {A = ℕ} (length points / 9) 0) (omega arith);
        seen_start = blank_zero (length points / 9);
      }

  -- it has one
  pub depth_there : (i : ℕ) → i < box_count nodes → (d : ℕ) × Deep nodes i d
  depth_there i h = by (get_or (depths_to nodes depths i) i 0) refl
    where
      by : (x : ℕ) → get_or (depths_to nodes depths i) i 0 ≡ x → (d : ℕ) × Deep nodes i d
      by zero e = absurd (reached points boxes nodes order depths seen start t i h e)
      by (suc d) e = (d, mark_deep points boxes nodes order depths seen start t i (omega arith) i d e)

  -- and no other
  pub depth_one : (i d e : ℕ) → i < box_count nodes → Deep nodes i d → Deep nodes i e → d ≡ e
  depth_one i d e h p q =
      let good = held_good points boxes nodes order depths seen start t in
      let a = (deep_marked points boxes nodes order depths seen start good (omega arith) p).mark in
      let b = (deep_marked points boxes nodes order depths seen start good (omega arith) q).mark in
      omega arith
