-- Two accepted trees of one scene give the same bits, of results of the public call tree_sun: the contract with the one tree is the contract with the other, so that
-- answer, light and scratch are the same, and where no ray is traced the lists of hits too.
use Rattle.std.specs.Prelude.{◌≡◌, refl, true, false, List, ℕ, length, Float}
use Rattle.std.proofs.Common.{sym, ap, ◌∙◌}
use Rattle.names.specs.Refusals.{unless_refused}
use Rattle.names.specs.Scene.{tree_scene}
use Rattle.vectors.specs.declared.Vec3.{Vec3}
use Rattle.grid.specs.Grid.{voxels}
use Rattle.grid.specs.declared.Axes.{Axes}
use Rattle.grid.specs.declared.Corners.{Corners}
use Rattle.words.specs.Words.{entries_of}
use Rattle.tree.specs.Tree.{AcceptedTree}
use Rattle.sun.specs.declared.Sunned.{Sunned}
use Rattle.sun.specs.Sun.{TreeSunAnswered}
use Rattle.sun.specs.SunLaws.{SameSun, sun_answered_once, sun_ready}
use Rattle.tree_alike.proofs.SunUnread.{light_unread, scratch_unread}
use Rattle.tree_alike.specs.RefusalsAlike.{sun_refusals_alike}

module _ (axes : Axes) (corners : Corners) (points : List Float) (uses kinds : List ℕ) (numbers : List Float) (direction : Vec3) (active : List ℕ) (light scratch distances : List Float)
    (places : List ℕ) where
  -- a call through this tree answers r and leaves these lists
  abbrev SunThrough : List Float → List ℕ → List ℕ → Sunned → List Float → List Float → List Float → List ℕ → Type 0
  SunThrough boxes nodes order r light' scratch' distances' places' =
      TreeSunAnswered axes corners points uses kinds numbers boxes nodes order direction active light scratch distances places r light' scratch' distances' places'

  -- the tree of a call that is not refused is accepted
  pub sun_tree_accepted : (boxes : List Float) (nodes order : List ℕ) (r : Sunned) (light' scratch' distances' : List Float) (places' : List ℕ)
      → SunThrough boxes nodes order r light' scratch' distances' places' → r.refusal ≡ 0 → AcceptedTree points boxes nodes order
  sun_tree_accepted boxes nodes order r light' scratch' distances' places' f z =
      (sun_ready false axes corners (tree_scene points uses kinds numbers boxes nodes order) direction active (length light) (length scratch) (length distances) (length places) (sym f.answer ∙ z)).tree_stands refl

  module _ (boxes boxes' : List Float) (nodes order nodes' order' : List ℕ) (accepted : AcceptedTree points boxes nodes order) (accepted' : AcceptedTree points boxes' nodes' order') where
    -- whatever a call through the one tree comes to, a call through the other may come to
    pub sun_through_either : (r : Sunned) (light' scratch' distances' : List Float) (places' : List ℕ)
        → SunThrough boxes' nodes' order' r light' scratch' distances' places' → SunThrough boxes nodes order r light' scratch' distances' places'
    sun_through_either r light' scratch' distances' places' f =
        let entries = entries_of active (voxels axes) in
        record {
          answer = f.answer ∙ sym (sun_refusals_alike points uses kinds numbers boxes boxes' nodes order nodes' order' accepted accepted' axes corners direction active _ _ _ _);
          rays = f.rays;
          light_after = f.light_after
              ∙ ap (λ (l : List Float). unless_refused r.refusal l light)
              (sym (light_unread true points uses kinds numbers boxes boxes' nodes order nodes' order' axes corners direction entries));
          scratch_after = f.scratch_after
              ∙ ap (λ (l : List Float). unless_refused r.refusal l scratch)
              (sym (scratch_unread true points uses kinds numbers boxes boxes' nodes order nodes' order' axes corners direction entries scratch));
          distances_kept = f.distances_kept;
          places_kept = f.places_kept;
          distances_long_is = f.distances_long_is;
          places_long_lem = f.places_long_lem;
        }

    -- and it comes to one thing
    pub trees_sun : (r₁ r₂ : Sunned) (l₁ s₁ d₁ l₂ s₂ d₂ : List Float) (p₁ p₂ : List ℕ) → SunThrough boxes nodes order r₁ l₁ s₁ d₁ p₁ → SunThrough boxes' nodes' order' r₂ l₂ s₂ d₂ p₂
        → SameSun r₁ r₂ l₁ l₂ s₁ s₂ d₁ d₂ p₁ p₂
    trees_sun r₁ r₂ l₁ s₁ d₁ l₂ s₂ d₂ p₁ p₂ f g =
        sun_answered_once false axes corners (tree_scene points uses kinds numbers boxes nodes order) direction active light scratch distances places r₁ r₂ l₁ s₁ d₁ l₂ s₂ d₂ p₁ p₂ f
        (sun_through_either r₂ l₂ s₂ d₂ p₂ g)
