-- When a ray meets a triangle. `hit_met` of triangle says that the numbers of a hit pass every test; here numbers that pass every test are a hit. So a
-- hit is answered exactly when document 01 says, and a miss exactly when some test fails. Assumes nothing.
use Rattle.std.specs.Prelude.{◌≡◌, refl, Option, None, Some, ◌↔◌}
use Rattle.std.proofs.Common.{sym, ◌∙◌}
use Rattle.std.proofs.lemmas.Bool.{false≢true}
use Rattle.vectors.specs.declared.Ray.{Ray}
use Rattle.vectors.specs.declared.Triangle.{Triangle}
use Rattle.triangle.specs.declared.Hit.{Hit}
use Rattle.triangle.specs.Meet.{front_of, judged_of, meet_of}
use Rattle.triangle.specs.Laws.{HitPasses, hit_met}

-- each of the tests, in the definition's order, of the solved numbers
pub passing_hit : (ray : Ray) (triangle : Triangle) (h : Hit) → HitPasses ray triangle h → meet_of ray triangle ≡ Some h
unfolding meet_of judged_of front_of
passing_hit ray triangle h p =
    rw (p.present, p.steep, ← p.distance, ← p.first, ← p.second, ← p.side, p.u_from, p.u_to, p.v_from, p.sum_to, p.not_below, p.not_above, p.finite)

-- a hit with these numbers is answered exactly when they pass
pub hit_exactly : (ray : Ray) (triangle : Triangle) (h : Hit) → (meet_of ray triangle ≡ Some h) ↔ HitPasses ray triangle h
hit_exactly ray triangle h = (hit_met ray triangle h, passing_hit ray triangle h)

-- a hit is not a miss
hit_missed : (h : Hit) → Some h ≡ None → ⊥
hit_missed h e = false≢true cc

-- and a miss exactly when no numbers pass
pub miss_exactly : (ray : Ray) (triangle : Triangle) → (meet_of ray triangle ≡ None) ↔ ((h : Hit) → HitPasses ray triangle h → ⊥)
miss_exactly ray triangle = (λ e h p. hit_missed h (sym (passing_hit ray triangle h p) ∙ e), λ n. go (meet_of ray triangle) refl n)
  where
    go : (m : Option Hit) → meet_of ray triangle ≡ m → ((h : Hit) → HitPasses ray triangle h → ⊥) → meet_of ray triangle ≡ None
    go None e n = e
    go (Some h) e n = absurd (n h (hit_met ray triangle h e))
