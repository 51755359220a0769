-- "no call refused" is no empty hope: after an accepted call the next, with the same input and an allowance for one voxel, is not refused. What the
-- fill and the gather write lies within ±2^96, the lists keep their lengths, the answered progress knows its rays, and a finished bake's volume is not
-- tested.
use Rattle.std.specs.Prelude.{◌≡◌, Bool, cond, ltb, length, get_or, take, drop, Float}
use Rattle.std.proofs.Math.Path.{refl}
use Rattle.std.proofs.Common.{sym, ◌∙◌, arith, eq-or-lt_of_le, lit≤, eq-eqb, ne_eqb, lt-ltb, le-ltb}
use Rattle.std.proofs.Math.Bool.{true, false, and-false}
use Rattle.std.proofs.Math.Logic.{⊎_elim}
use mathlib.Core.List.{List, [], ◌∷◌, ◌++◌}
use Prim.Native.Nat.{ℕ, zero, suc, ◌+◌, ◌-◌, ◌*◌, ◌≤◌, ◌<◌}
use Rattle.std.specs.Float.Ieee as Ieee
use Rattle.std.specs.Float.{nan}
use Rattle.std.specs.Float.Ieee.{of_bits}
use Rattle.names.specs.Bits.{zero32, one32}
use Rattle.names.specs.Numbers.{colour_limit, light_limit, coefficient_limit}
use Rattle.lists.specs.Fold.{length_tab}
use Rattle.bounds.specs.BoundsLaws.{at_most_up, at_most_of_test, test_of_at_most, colour_value, light_value, coefficient_value}
use Rattle.lists.specs.Some.{some}
use Rattle.lists.specs.Laid.{laid, replaced, length_laid, length_replaced}
use Rattle.limits.specs.Limits.{within, outside, bad_colour, bad_ambient, bad_light, bad_sky, bad_lights, bad_coefficients}
use Rattle.words.specs.Words.{unused_set}
use Rattle.limits.specs.LimitsLaws.{either, any_of_three, within_between, vector_row, lights_row}
use Rattle.limits.specs.declared.Ambient.{Ambient}
use Rattle.means.specs.Box.{mean_of}
use Rattle.spread.specs.declared.Progress.{Progress}
use Rattle.spread.specs.Spread.{Stage, stage, Walked, filled, started, any_active, ended, accepted, call}
use Rattle.spread.proofs.Walks.{Walks, walks, none, skip, stop, taken, walk_to}
use Rattle.spread.specs.Demand.{Lasts}
use Rattle.ends.specs.Ends.{ambient_voxel, ambient_at, mean_over}
use Rattle.ends.specs.EndsLaws.{length_ambient}
use Rattle.gather.specs.Gather.{gathered_of}
use Rattle.gather.specs.GatherLaws.{length_gathered}
use Rattle.intake.specs.Intake.{BakeInput, voxel_numbers, voxel_count, bad_lighting, bad_volume, bad_contents, bake_refusal, GoodProgress}
use Rattle.intake.specs.IntakeLaws.{BakePassed, Fits, fits, none_refused, still_passed}
use Rattle.demand.specs.Bake.{gather_input, bake_of, bake_call}
use Rattle.demand.specs.Calls.{accepted_call, answers_refusal}
use Rattle.demand.proofs.Demanded.{good_knows, bake_demand}
use Rattle.demand.specs.Lasting.{GathersWithin}

-- ---- tests of a list whose parts are known

module _ {A : Type 0} (f : A → Bool) where
  none_append : (l m : List A) → some f l ≡ false → some f m ≡ false → some f (l ++ m) ≡ false
  unfolding some
  none_append [] m p q = q
  none_append (x ∷ l) m p q =
      let s = (either (f x) (some f l)).0 p in (either (f x) (some f (l ++ m))).1 (s.0, none_append l m s.1 q)

  none_take : (n : ℕ) (l : List A) → some f l ≡ false → some f (take n l) ≡ false
  unfolding some
  none_take zero l p = refl
  none_take (suc n) [] p = refl
  none_take (suc n) (x ∷ l) p = let s = (either (f x) (some f l)).0 p in (either (f x) (some f (take n l))).1 (s.0, none_take n l s.1)

  none_drop : (n : ℕ) (l : List A) → some f l ≡ false → some f (drop n l) ≡ false
  unfolding some
  none_drop zero l p = p
  none_drop (suc n) [] p = refl
  none_drop (suc n) (x ∷ l) p = none_drop n l ((either (f x) (some f l)).0 p).1

  none_replaced : (size i : ℕ) (x v : List A) → some f x ≡ false → some f v ≡ false → some f (replaced size i x v) ≡ false
  unfolding replaced
  none_replaced size i x v p q =
      none_append (take (i * size) v) _ (none_take (i * size) v q) (none_append x _ p (none_drop (i * size + size) v q))

  none_laid : (g : ℕ → List A) (k i : ℕ) → ((j : ℕ) → j < i + k → some f (g j) ≡ false) → some f (laid g k i) ≡ false
  unfolding laid some
  none_laid g zero i h = refl
  none_laid g (suc k) i h = none_append (g i) _ (h i (omega arith)) (none_laid g k (i + 1) (λ j l. h j (omega arith)))

-- ---- what the fill writes

wider : (x : Float) → within colour_limit x ≡ true → within coefficient_limit x ≡ true
wider x h =
    let p = (within_between colour_limit x).0 h in
    (within_between coefficient_limit x).1
    (test_of_at_most x coefficient_limit 1 96 coefficient_value
    (at_most_up x 1 16 1 96 (lit≤ tt) (at_most_of_test x colour_limit 1 16 colour_value p.0 p.1)))

brighter : (x : Float) → within light_limit x ≡ true → within coefficient_limit x ≡ true
brighter x h =
    let p = (within_between light_limit x).0 h in
    (within_between coefficient_limit x).1
    (test_of_at_most x coefficient_limit 1 96 coefficient_value
    (at_most_up x 1 64 1 96 (lit≤ tt) (at_most_of_test x light_limit 1 64 light_value p.0 p.1)))

one_within : within coefficient_limit one32 ≡ true
unfolding within of_bits Ieee.neg Ieee.le Ieee.lt Ieee.eq
one_within = refl

zero_within : within coefficient_limit zero32 ≡ true
unfolding within of_bits Ieee.neg Ieee.le Ieee.lt Ieee.eq
zero_within = refl

ambient_within : (a : Ambient) (light : Float) → bad_ambient a ≡ false → within light_limit light ≡ true → bad_coefficients (ambient_voxel a light) ≡ false
unfolding bad_ambient bad_coefficients some ambient_voxel
ambient_within a light h l =
    let p = (either _ (bad_colour a.c3)).0 h in
    let q = (any_of_three (bad_colour a.c0) (bad_colour a.c1) (bad_colour a.c2)).0 p.0 in
    let c₀ = (vector_row colour_limit a.c0).0 q.0 in
    let c₁ = (vector_row colour_limit a.c1).0 q.1 in
    let c₂ = (vector_row colour_limit a.c2).0 q.2 in
    let c₃ = (vector_row colour_limit a.c3).0 p.1 in
    rw (
      wider _ c₀.0,
      wider _ c₀.1,
      wider _ c₀.2,
      brighter light l,
      wider _ c₁.0,
      wider _ c₁.1,
      wider _ c₁.2,
      one_within,
      wider _ c₂.0,
      wider _ c₂.1,
      wider _ c₂.2,
      zero_within,
      wider _ c₃.0,
      wider _ c₃.1,
      wider _ c₃.2,
    ) refl

-- ---- what a walk leaves

-- a volume of the right length that holds good coefficients
record Good (b : BakeInput) (v : List Float) : Type 0 where
  long : length v ≡ voxel_count b * voxel_numbers
  within : bad_coefficients v ≡ false

module _ (b : BakeInput) (gathers : GathersWithin b) where
  fits_place : (i n m : ℕ) → i < n → m ≡ n * voxel_numbers → i * voxel_numbers + voxel_numbers ≤ m
  fits_place i n m h e = omega arith

  walk_good : {k i l : ℕ} {v : List Float} {w : Walked Float} → Walks (bake_of b) k i l v w → i + k ≡ voxel_count b → Good b v → Good b w.volume
  unfolding bad_coefficients
  walk_good none h g = g
  walk_good (skip e s) h g = walk_good s (omega arith) g
  walk_good (stop e f) h g = g
  walk_good (taken {i = i} {v = v} e f s) h g =
      walk_good s (omega arith)
      (record {
        long = length_replaced voxel_numbers i (gathered_of (gather_input b) i) v (length_gathered (gather_input b) i)
            (fits_place i (voxel_count b) (length v) (omega arith) g.long) ∙ g.long;
        within = none_replaced (outside coefficient_limit) voxel_numbers i (gathered_of (gather_input b) i) v (gathers i (omega arith)) g.within;
      })

  -- ---- what an accepted call leaves

  not_under_way : (v : List Float) (n : ℕ) → bad_volume v n n ≡ false
  unfolding bad_volume
  not_under_way v n = rw (le-ltb n n (omega arith), and-false (ltb 0 n)) refl

  good_volume : (v : List Float) (p n : ℕ) → bad_coefficients v ≡ false → bad_volume v p n ≡ false
  unfolding bad_volume
  good_volume v p n h = rw (h, and-false _) refl

  module _ (s : Stage Float) (a : ℕ) (p : BakePassed b s a) where
    ambient_good : (j : ℕ) → j < voxel_count b → bad_coefficients (ambient_at b.ambient b.lights j) ≡ false
    unfolding bad_contents bad_lighting
    ambient_good j l =
        ambient_within b.ambient (get_or b.lights j nan)
        ((any_of_three (bad_light b.light) (bad_ambient b.ambient) (bad_sky b.sky)).0 p.lighting).1
        ((lights_row b.lights).0 ((any_of_three (unused_set b.active (voxel_count b)) (bad_lights b.lights) _).0 p.contents).1 j (omega (arith, (fits b s a p).lights)))

    -- whichever voxels are gathered, and the others ambient
    pub unblurred_good : (has : ℕ → Bool)
        → bad_coefficients (laid (λ i. cond (has i) (gathered_of (gather_input b) i) (ambient_at b.ambient b.lights i)) (voxel_count b) 0) ≡ false
    unfolding bad_coefficients
    unblurred_good has = none_laid (outside coefficient_limit) _ (voxel_count b) 0 (λ j l. go (has j) j (omega arith))
      where
        go : (x : Bool) (j : ℕ) → j < voxel_count b → bad_coefficients (cond x (gathered_of (gather_input b) j) (ambient_at b.ambient b.lights j)) ≡ false
        go true j l = gathers j l
        go false j l = ambient_good j l

    start_good : s.progress.next < voxel_count b → Good b (started (bake_of b) s.progress.next s.volume)
    unfolding filled bad_contents bad_volume bad_coefficients
    start_good h = go s.progress.next refl
      where
        f : Fits b s a
        f = fits b s a p

        go : (q : ℕ) → s.progress.next ≡ q → Good b (started (bake_of b) q s.volume)
        go zero e =
            record {
              long = length_laid voxel_numbers (ambient_at b.ambient b.lights) (λ i. length_ambient b.ambient _) (voxel_count b) 0;
              within =
                  none_laid (outside coefficient_limit) (ambient_at b.ambient b.lights) (voxel_count b) 0 (λ j l. ambient_good j (omega arith));
            }
        go (suc q) e =
            let c = ((any_of_three (unused_set b.active (voxel_count b)) (bad_lights b.lights) _).0 p.contents).2 in
            rw (ne_eqb (suc q) 0 (λ z. omega arith))
            (record {
              long = f.volume;
              within = rw (lt-ltb 0 s.progress.next (omega arith), lt-ltb s.progress.next (voxel_count b) h) at c;
            })

    -- the lists keep their lengths, and short of the end the volume holds good coefficients
    record Left (t : Stage Float) : Type 0 where
      volume : length t.volume ≡ voxel_count b * voxel_numbers
      scratch : length t.scratch ≡ voxel_count b * voxel_numbers
      good : bad_volume t.volume t.progress.next (voxel_count b) ≡ false

    mean_long : (v : List Float) → length (mean_over b.axes v) ≡ length v
    unfolding mean_of
    mean_long v = length_tab _ (length v) 0

    ended_left : (q : Progress) (v : List Float) → q.next ≤ voxel_count b → Good b v → Left (ended (bake_of b) q v s.scratch)
    ended_left q v h g =
        ⊎_elim
        (λ e. rw (eq-eqb q.next (voxel_count b) e) (over e (any_active (bake_of b).active (bake_of b).count)))
        (λ l.
        rw (ne_eqb q.next (voxel_count b) (λ z. omega arith))
        (record {
          volume = g.long;
          scratch = (fits b s a p).scratch;
          good = good_volume v q.next (voxel_count b) g.within;
        }))
        (eq-or-lt_of_le h)
      where
        over : q.next ≡ voxel_count b → (t : Bool) → Left (cond t (stage q (mean_over b.axes v) v) (stage q v s.scratch))
        over e true =
            record {
              volume = mean_long v ∙ g.long;
              scratch = g.long;
              good = rw e (not_under_way (mean_over b.axes v) (voxel_count b));
            }
        over e false =
            record {
              volume = g.long;
              scratch = (fits b s a p).scratch;
              good = rw e (not_under_way v (voxel_count b));
            }

    accepted_left : Left (accepted (bake_of b) a s).stage
    unfolding bad_contents
    accepted_left =
        ⊎_elim
        (λ e.
        rw (eq-eqb s.progress.next (voxel_count b) e)
        (record {
          volume = (fits b s a p).volume;
          scratch = (fits b s a p).scratch;
          good = ((any_of_three (unused_set b.active (voxel_count b)) (bad_lights b.lights) _).0 p.contents).2;
        }))
        (λ l.
        let w = walks (bake_of b) (voxel_count b - s.progress.next) s.progress.next a (started (bake_of b) s.progress.next s.volume) in
        rw (ne_eqb s.progress.next (voxel_count b) (λ z. omega arith))
        (ended_left _ _ (omega (arith, walk_to (bake_of b) w)) (walk_good w (omega arith) (start_good l))))
        (eq-or-lt_of_le (fits b s a p).progress.within)

-- an accepted call leaves a progress that row 9 accepts
pub call_leaves : (b : BakeInput) (s : Stage Float) (a : ℕ) → bake_refusal b s a ≡ 0 → GoodProgress b (bake_call b s a).stage.progress
call_leaves b s a e = (good_knows b _).1 ((bake_demand b s a e).knows a s (answers_refusal b s a ∙ e)).1

-- the next call is not refused, whatever its allowance from one voxel's on, where what the gather writes lies within ±2^96 whenever some call is
-- accepted
pub bake_lasts : (b : BakeInput) → ((s : Stage Float) (a : ℕ) → BakePassed b s a → GathersWithin b) → Lasts (bake_of b)
bake_lasts b gathers s a next e h =
    let p = (none_refused b s a).0 e in
    let f = fits b s a p in
    let l : Left b (gathers s a p) s a p (call (bake_of b) a s).stage = rw (accepted_call b s a e) (accepted_left b (gathers s a p) s a p) in
    (none_refused b _ next).1 (still_passed b s a _ next p (l.volume ∙ sym f.volume) (l.scratch ∙ sym f.scratch) (call_leaves b s a e) h l.good)
