-- An answer from its parts: on a refusal zeros, an empty part; where nothing is refused what was found.
use Rattle.std.proofs.Common.{◌≡◌, ℕ, ◌+◌, ◌-◌, ◌*◌, ◌≤◌, Bool, true, false, cond, length, List, [], Ok, Err, Result, get_or, take, drop, sym, refl, ◌∙◌, ap₂, arith}
use lib.Ieee.{Float, nan}
use Rattle.names.specs.Bits.{zero32}
use Rattle.names.specs.declared.refusal.Refusal.{Refusal}
use Rattle.names.specs.AnswersLaws.{number_nonzero}
use Rattle.names.specs.Refusals.{kept, given}
use Rattle.lists.specs.Laid.{voxel_part}
use Rattle.vectors.specs.declared.Vec3.{Vec3}
use Rattle.grid.specs.declared.Axes.{Axes}
use Rattle.grid.specs.declared.Corners.{Corners}
use Rattle.lookup.specs.declared.LightAt.{LightAt}
use Rattle.lookup.specs.declared.CoefficientsAt.{CoefficientsAt}
use Rattle.lookup.specs.declared.Cells.{Cells}
use Rattle.lookup.specs.Place.{cells_of, blended_of}
use Rattle.lookup.specs.PlaceLaws.{blended_same}
use Rattle.lookup.specs.LookupLaws.{granted, granted_end}
use Rattle.lookup.specs.Lookup.{light_refusal, light_blend, light_at_of, coefficient_refusal, coefficient_blend, no_numbers, coefficients_at_of, part_refusal, part_of, light_from, coefficients_from, LookedUp, LightLookedUp, CoefficientsLookedUp}

module _ (a : Axes) (c : Corners) (l : List Float) (p : Vec3) where
  pub light_refused : (k : ℕ) → (k ≡ 0 → ⊥) → k ≡ light_refusal a c l p → ◌≡◌ {A = LightAt} (record { refusal = k; light = zero32 }) (light_at_of a c l p)
  unfolding light_at_of
  light_refused k n e = rw (sym e) (ap₂ (λ (r : ℕ) (x : Float). record { refusal = r; light = x }) refl (kept k _ zero32 n))

  pub light_found : (x : Float) → 0 ≡ light_refusal a c l p → x ≡ light_blend l (cells_of a c p) → ◌≡◌ {A = LightAt} (record { refusal = 0; light = x }) (light_at_of a c l p)
  unfolding light_at_of
  light_found x e f = rw (sym e) (ap₂ (λ (r : ℕ) (y : Float). record { refusal = r; light = y }) refl (f ∙ given 0 _ zero32 refl))

  pub coefficients_refused : (k : ℕ) → (k ≡ 0 → ⊥) → k ≡ coefficient_refusal a c l p → ◌≡◌ {A = CoefficientsAt} (record { refusal = k; numbers = no_numbers }) (coefficients_at_of a c l p)
  unfolding coefficients_at_of
  coefficients_refused k n e = rw (sym e) (ap₂ (λ (r : ℕ) (x : List Float). record { refusal = r; numbers = x }) refl (kept k _ no_numbers n))

  pub coefficients_found : (x : List Float) → 0 ≡ coefficient_refusal a c l p → x ≡ coefficient_blend l (cells_of a c p) → ◌≡◌ {A = CoefficientsAt} (record { refusal = 0; numbers = x }) (coefficients_at_of a c l p)
  unfolding coefficients_at_of
  coefficients_found x e f = rw (sym e) (ap₂ (λ (r : ℕ) (y : List Float). record { refusal = r; numbers = y }) refl (f ∙ given 0 _ no_numbers refl))

  -- as C is told it
  pub light_told : (r : Result Float Refusal) → LookedUp (light_refusal a c l p) (light_blend l (cells_of a c p)) r → LightLookedUp a c l p (light_from r)
  light_told (Ok x) h = record { answer = light_found x h.number_is h.there }
  light_told (Err r) h = record { answer = light_refused _ (number_nonzero r) h.number_is }

  pub coefficients_told : (r : Result (List Float) Refusal) → LookedUp (coefficient_refusal a c l p) (coefficient_blend l (cells_of a c p)) r
      → CoefficientsLookedUp a c l p (coefficients_from r)
  coefficients_told (Ok x) h = record { answer = coefficients_found x h.number_is h.there }
  coefficients_told (Err r) h = record { answer = coefficients_refused _ (number_nonzero r) h.number_is }

-- lights stand one a cell
pub lights_one : (l : List Float) (c : Cells) → blended_of c (λ i. get_or l (i * 1 + 0) nan) ≡ light_blend l c
lights_one l c = blended_same c _ _ (λ i. let e : i * 1 + 0 ≡ i = omega arith in rw e)

-- the part that is shown where nothing is refused, and the empty one
pub shown : (a : Axes) (v s : List Float) (i : ℕ) (b : Bool) (x : List Float)
    → 0 ≡ part_refusal a v s i b
    → cond b s v ≡ x
    → take (i * 16 + 16 - i * 16) (drop (i * 16) x) ≡ part_of a v s i b
unfolding part_of
shown a v s i b x e f =
    let d : i * 16 + 16 - i * 16 ≡ 16 = omega arith in rw (d, sym f) (given _ (voxel_part 16 i (cond b s v)) [] (sym e))

pub part_within : (a : Axes) (v s : List Float) (i : ℕ) (b : Bool) (x : List Float) → cond b s v ≡ x → part_refusal a v s i b ≡ 0 → i * 16 + 16 ≤ length x
part_within a v s i b x f e = let g = granted_end a v s i (granted a v s i b e) in go b f g.0 g.1
  where
    go : (d : Bool) → cond d s v ≡ x → i * 16 + 16 ≤ length v → i * 16 + 16 ≤ length s → i * 16 + 16 ≤ length x
    go true h p q = rw (sym h) q
    go false h p q = rw (sym h) p

pub hidden : (a : Axes) (v s : List Float) (i : ℕ) (b : Bool) → (part_refusal a v s i b ≡ 0 → ⊥) → [] ≡ part_of a v s i b
unfolding part_of
hidden a v s i b n = kept _ _ [] n
