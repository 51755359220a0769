-- What the answers over C mean: each contract leaves one answer, a struct holds the values of the enum that the public call answers, and the sixteen
-- numbers from the start on are the part that the public call lends.
use Rattle.std.specs.Prelude.{◌≡◌, refl, Bool, true, false, cond, List, [], ℕ, ◌*◌, eqb, take, drop, Float}
use Rattle.std.proofs.Common.{sym, ap, ap₂, ◌∙◌}
use Rattle.names.specs.Refusals.{unless_refused}
use Rattle.names.specs.Scene.{Scene}
use Rattle.vectors.specs.declared.Ray.{Ray}
use Rattle.vectors.specs.declared.Triangle.{Triangle}
use Rattle.grid.specs.declared.Axes.{Axes}
use Rattle.rays.specs.Rays.{Values, values_of_met, values_of_found, MeetAnswered, NearestAnswered}
use Rattle.rays.specs.declared.Met.{Met}
use Rattle.rays.specs.declared.Found.{Found}
use Rattle.lookup.specs.Lookup.{part_refusal, part_of}
use Rattle.geaidnosa.specs.declared.RayHit.{RayHit}
use Rattle.geaidnosa.specs.declared.PartStart.{PartStart}
use Rattle.geaidnosa.specs.Exports.{values_of, MeetTold, NearestTold, chosen, PartTold}

-- ---- one answer

-- the struct that holds the values, and that it holds no others
abbrev hit_of : Values → RayHit
hit_of w = record { refusal = w.number; hit = w.hit; place = w.place; t = w.t; u = w.u; v = w.v; front = w.front }

pub values_once : (r s : RayHit) → values_of r ≡ values_of s → r ≡ s
values_once r s e = ap hit_of e

pub meet_told_once : (ray : Ray) (triangle : Triangle) (r s : RayHit) → MeetTold ray triangle r → MeetTold ray triangle s → r ≡ s
meet_told_once ray triangle r s a b = values_once r s (a.values ∙ sym b.values)

pub nearest_told_once : (scene : Scene) (ray : Ray) (r s : RayHit) → NearestTold scene ray r → NearestTold scene ray s → r ≡ s
nearest_told_once scene ray r s a b = values_once r s (a.values ∙ sym b.values)

pub part_told_once : (axes : Axes) (volume scratch : List Float) (index unblurred : ℕ) (r s : PartStart)
    → PartTold axes volume scratch index unblurred r → PartTold axes volume scratch index unblurred s → r ≡ s
part_told_once axes volume scratch index unblurred r s a b =
    let f : r.refusal ≡ s.refusal = a.refusal ∙ sym b.refusal in
    same r s f (a.start ∙ rw f (sym b.start))
  where
    same : (x y : PartStart) → x.refusal ≡ y.refusal → x.start ≡ y.start → x ≡ y
    same x y h k = ap₂ (λ (n m : ℕ). record { refusal = n; start = m }) h k

-- ---- a hit

-- the struct holds the values of the enum that the public call answers on the same arguments
pub meet_told_same : (ray : Ray) (triangle : Triangle) (m : Met) (r : RayHit) → MeetAnswered ray triangle m → MeetTold ray triangle r
    → values_of r ≡ values_of_met m
meet_told_same ray triangle m r a b = b.values ∙ sym a.values

pub nearest_told_same : (scene : Scene) (ray : Ray) (f : Found) (r : RayHit) → NearestAnswered scene ray f → NearestTold scene ray r
    → values_of r ≡ values_of_found f
nearest_told_same scene ray f r a b = b.values ∙ sym a.values

-- ---- the part

-- the part that the public call lends is the sixteen numbers from the start on, of the list chosen
pub part_told : (axes : Axes) (volume scratch : List Float) (index unblurred : ℕ) (r : PartStart) → PartTold axes volume scratch index unblurred r
    → part_of axes volume scratch index (chosen unblurred)
    ≡ unless_refused r.refusal (take 16 (drop r.start (cond (chosen unblurred) scratch volume))) []
unfolding part_of unless_refused
part_told axes volume scratch index unblurred r h =
    let n = part_refusal axes volume scratch index (chosen unblurred) in
    let l = cond (chosen unblurred) scratch volume in
    rw (h.start, h.refusal) (by (eqb n 0) l)
  where
    by : (b : Bool) (l : List Float) → cond b (take 16 (drop (index * 16) l)) [] ≡ cond b (take 16 (drop (cond b (index * 16) 0) l)) []
    by true l = refl
    by false l = refl
