-- A span of the order: so many places from one on. A leaf's run is one; what a visit of it comes to is going through its places. Assumes nothing.
use Rattle.std.specs.Prelude.{Option, None, Some, ◌≡◌, refl, List, [], ◌∷◌, ◌++◌, ℕ, zero, suc, ◌+◌, ◌*◌, ◌≤◌, ◌<◌, length, get_or, Float}
use Rattle.std.proofs.Common.{sym, ap, ◌∙◌}
use Rattle.vectors.specs.declared.Ray.{Ray}
use Rattle.triangle.specs.Missed.{AllMiss}
use Rattle.scan.specs.declared.PlacedHit.{PlacedHit}
use Rattle.tree.specs.Tree.{first_at, place_at}
use Rattle.tree_walk.specs.Boxed.{boxed_at}
use Rattle.tree_walk.specs.Turned.{Turned}
use Rattle.tree_walk.specs.Walk.{run_visit}
use Rattle.tree_walk.specs.FoldLaws.{fold_of, fold_append}

abbrev pub span_places : List ℕ → ℕ → ℕ → List ℕ
span_places order first zero = []
span_places order first (suc k) = span_places order first k ++ (get_or order (first + k) 0 ∷ [])

-- what going through it needs to stay within the lists
pub record SpanFits (points : List Float) (uses kinds order : List ℕ) (turned : List Float) (first count : ℕ) : Type 0 where
  pub points_fit : length points ≡ length uses * 9
  pub use_fits : (p : ℕ) → p < length uses → get_or uses p 0 < length kinds
  pub span_fits : first + count ≤ length order
  pub place_fits : (l : ℕ) → first ≤ l → l < first + count → get_or order l 0 < length uses
  pub turned_fits : Turned points order turned

-- what is its first hit from place k of the order up to another: none where all are missed; otherwise the hit and where its triangle stands in the order, and all before it are missed
abbrev pub SpanFirst : List Float → List ℕ → List ℕ → List ℕ → Ray → ℕ → ℕ → Option (ℕ × PlacedHit) → Type 0
SpanFirst points uses kinds order ray k end None = AllMiss (λ l. boxed_at points uses kinds ray (get_or order l 0)) k end
SpanFirst points uses kinds order ray k end (Some f) =
    (k ≤ f.0) × (f.0 < end) × AllMiss (λ l. boxed_at points uses kinds ray (get_or order l 0)) k f.0
    × (f.1.place ≡ get_or order f.0 0) × (boxed_at points uses kinds ray f.1.place ≡ Some f.1.hit)

-- a leaf's visit
pub run_span : {S : Type 0} (step : S → ℕ → S) (nodes order : List ℕ) (i k : ℕ) (held : S) → run_visit step nodes order i k held ≡ fold_of step held (span_places order (first_at nodes i) k)
unfolding run_visit place_at
run_span step nodes order i zero held = refl
run_span step nodes order i (suc k) held =
    ap (λ x. step x (get_or order (first_at nodes i + k) 0)) (run_span step nodes order i k held)
    ∙ sym (fold_append step held (span_places order (first_at nodes i) k) (get_or order (first_at nodes i + k) 0 ∷ []))
