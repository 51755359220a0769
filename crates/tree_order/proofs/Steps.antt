-- How the loops go by one, and what a list holds of which two parts were lent one after the other.
use mathlib.Core.Path.{◌≡◌, refl, ap, ◌∙◌}
use mathlib.Core.List.{List, ◌++◌, map, append-nil}
use Prim.Native.Nat.{ℕ, ◌+◌, ◌-◌, ◌≤◌, ◌<◌}
use native.Mathlib.Numerals.{add-one}
use native.Mathlib.Omega.{arith}
use lib.ListN.{length, get_or, set, take, drop, length-drop, drop_of_length-le}
use lib.Seq.{get_or-take, length_front, drop-cons, take-suc-set, append_snoc, take_all, take_at, drop_at, length-take-le}
use lib.Ieee.{Float}
use Rattle.std.proofs.lemmas.Grind.{get_or_after_one}
use Rattle.vectors.specs.Vectors.{larger_v, smaller_v}
use Rattle.vectors.specs.declared.Vec3.{Vec3}
use Rattle.hits.specs.Hits.{paired}
use Rattle.hits.specs.PairedLaws.{stored}
use Rattle.tree_order.specs.Order.{key_at, lowest_keys, highest_keys}
use Rattle.tree_order.specs.Ranks.{run_rank, place_of, ranked}
use Rattle.tree_order.specs.RankLaws.{order_place_within}
use Rattle.tree_order.specs.HalveLaws.{halved_few, halved_cut}
use Rattle.tree_order.specs.OrderLaws.{right_places}

-- ---- the lowest_keys and the highest_keys, one triangle on

module _ (points : List Float) (run : List ℕ) (v : Vec3) (k : ℕ) where
  pub lowest_next : k < length run → lowest_keys points v (drop k run) ≡ lowest_keys points (smaller_v v (key_at points (get_or run k 0))) (drop (k + 1) run)
  unfolding lowest_keys
  lowest_next h = rw (add-one k, drop-cons run k 0 h) refl

  pub highest_next : k < length run → highest_keys points v (drop k run) ≡ highest_keys points (larger_v v (key_at points (get_or run k 0))) (drop (k + 1) run)
  unfolding highest_keys
  highest_next h = rw (add-one k, drop-cons run k 0 h) refl

  pub lowest_end : length run ≤ k → lowest_keys points v (drop k run) ≡ v
  unfolding lowest_keys
  lowest_end h = rw (drop_of_length-le run h) refl

  pub highest_end : length run ≤ k → highest_keys points v (drop k run) ≡ v
  unfolding highest_keys
  highest_end h = rw (drop_of_length-le run h) refl

-- a triangle of the run behind its first
pub behind_first : (run : List ℕ) (k : ℕ) → k < length run - 1 → get_or (take (length run - 1) (drop 1 run)) k 0 ≡ get_or run (k + 1) 0
behind_first run k h =
    let e : 1 + k ≡ k + 1 = omega arith in
    get_or-take (length run - 1) (drop 1 run) k 0 h ∙ get_or_after_one run k 0 ∙ ap (λ (i : ℕ). get_or run i 0) e

-- ---- keys and ranks, one triangle on

module _ (key : ℕ → Float) (run : List ℕ) (k : ℕ) where
  pub ranked_next : (keys : List Float) (ranks : List ℕ) → k < length run → k < length keys → k < length ranks
      → paired (take (k + 1) (set keys k (key (get_or run k 0)))) (take (k + 1) (set ranks k (run_rank k (get_or run k 0)))) ++ ranked key (k + 1) (drop (k + 1) run)
      ≡ paired (take k keys) (take k ranks) ++ ranked key k (drop k run)
  unfolding ranked
  ranked_next keys ranks h p q =
      rw (stored keys ranks k (key (get_or run k 0)) (run_rank k (get_or run k 0)) p q, drop-cons run k 0 h, add-one k)
      (append_snoc (paired (take k keys) (take k ranks)) _ _)

  pub ranked_end : (keys : List Float) (ranks : List ℕ) → length run ≤ k → length keys ≤ k → length ranks ≤ k
      → paired (take k keys) (take k ranks) ++ ranked key k (drop k run) ≡ paired keys ranks
  unfolding ranked
  ranked_end keys ranks h p q = rw (drop_of_length-le run h, take_all k keys p, take_all k ranks q) (append-nil _)

-- ---- places, one rank on

module _ (ranks run : List ℕ) (k : ℕ) where
  pub places_next : k < length ranks → k < length run
      → take (k + 1) (set run k (place_of (get_or ranks k 0))) ++ map place_of (drop (k + 1) ranks) ≡ take k run ++ map place_of (drop k ranks)
  places_next h p = rw (add-one k, take-suc-set run k (place_of (get_or ranks k 0)) p, drop-cons ranks k 0 h) (append_snoc (take k run) _ _)

  pub places_end : length ranks ≤ k → length run ≤ k → take k run ++ map place_of (drop k ranks) ≡ run
  places_end h p = rw (drop_of_length-le ranks h, take_all k run p) (append-nil _)

-- ---- two parts of a list, lent one after the other

-- when its first part is back and holds x
abbrev first_back : List ℕ → ℕ → List ℕ → List ℕ
first_back l half x = x ++ drop half l

module _ (l x : List ℕ) (half : ℕ) (w : half ≤ length l) (e : length x ≡ length (take half l)) where
  long : length x ≡ half
  long = e ∙ length-take-le half l w

  rest : length (first_back l half x) - half ≡ length (drop half l)
  rest = omega (arith, length-drop half l, length_front l x half e)

  -- what is lent second is the second part
  pub second_lent_lem : take (length (first_back l half x) - half) (drop half (first_back l half x)) ≡ drop half l
  second_lent_lem = rw (drop_at x (drop half l) half long) (take_all (length (first_back l half x) - half) (drop half l) (omega (arith, rest)))

  -- when that is back and holds y
  pub both_back : (y : List ℕ) → take half (first_back l half x) ++ (y ++ drop (length (first_back l half x) - half) (drop half (first_back l half x))) ≡ x ++ y
  both_back y =
      rw (
        take_at x (drop half l) half long,
        drop_at x (drop half l) half long,
        drop_of_length-le (drop half l) {i = length (first_back l half x) - half} (omega (arith, rest)),
        append-nil y,
      ) refl

-- ---- for the attributes of the code

pub ruleset key_steps = (behind_first, order_place_within, lowest_next, highest_next, lowest_end, highest_end)

pub ruleset halving = (second_lent_lem, both_back, halved_few, halved_cut, right_places)
