-- `gather::inner::write_sixteen` meets its contract: a list of sixteen that is written four by four holds what is written and nothing else.
use mathlib.Core.Path.{◌≡◌, refl}
use mathlib.Core.List.{List, [], ◌∷◌}
use Prim.Native.Nat.{ℕ, ◌+◌}
use native.Mathlib.Omega.{arith}
use lib.ListN.{length}
use lib.Ieee.{Float}
use Rattle.names.specs.Bits.{zero32}
use Rattle.vectors.specs.declared.Vec3.{Vec3}
use Rattle.harmonics.specs.declared.Coefficients.{Coefficients}
use Rattle.gather.specs.Gather.{with_four, sixteen_of}
use Rattle.gather.proofs.inner.write_sixteen.Goals as goal

-- the first four of a list that has four and n more
four : (n : ℕ) (l : List Float) → length l ≡ 4 + n
    → (m : List Float) × (length m ≡ n) × ((v : Vec3) (w : Float) → with_four l 0 v w ≡ v.x ∷ v.y ∷ v.z ∷ w ∷ m)
unfolding with_four
four n [] h = absurd (omega arith)
four n (a ∷ []) h = absurd (omega arith)
four n (a ∷ b ∷ []) h = absurd (omega arith)
four n (a ∷ b ∷ c ∷ []) h = absurd (omega arith)
four n (a ∷ b ∷ c ∷ d ∷ m) h = (m, omega arith, λ v w. refl)

none : (l : List Float) → length l ≡ 0 → l ≡ []
none [] h = refl
none (a ∷ l) h = absurd (omega arith)

laid : (l : List Float) (c : Coefficients) (light seen : Float) → length l ≡ 16
    → with_four (with_four (with_four (with_four l 0 c.c0 light) 4 c.c1 seen) 8 c.c2 zero32) 12 c.c3 zero32 ≡ sixteen_of c light seen
unfolding with_four sixteen_of
laid l c light seen h =
    let p = four 12 l h in
    let q = four 8 p.0 p.1 in
    let r = four 4 q.0 q.1 in
    let t = four 0 r.0 r.1 in
    rw (p.2 c.c0 light, q.2 c.c1 seen, r.2 c.c2 zero32, t.2 c.c3 zero32, none t.0 t.1)

pub returns : goal.returns
returns c =
    rw (c.write_four-4.ensures, c.write_four-3.ensures, c.write_four-2.ensures, c.write_four.ensures)
    (laid _ c.args.coefficients c.args.light c.args.seen c.requires)
