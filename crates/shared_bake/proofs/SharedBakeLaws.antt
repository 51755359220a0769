-- Results of public calls over shares do what is demanded. Each share's calls end as the unbroken bake over its voxels, of which the joins take the unblurred
-- volumes; these joined are the whole bake's (crate shares). No join and no blur is refused, since what an accepted bake writes lies within ±2^96.
use Rattle.std.specs.Prelude.{◌≡◌, Bool, true, false, not, ◌||◌, ℕ, zero, suc, ◌+◌, ◌-◌, ◌*◌, ◌≤◌, length, Float}
use Rattle.std.proofs.Math.Path.{refl, ap, ap₂}
use Rattle.std.proofs.Common.{sym, ◌∙◌, suc-mul, le-div_iff_mul-le, eq-eqb}
use Rattle.std.proofs.Math.Bool.{cond}
use mathlib.Core.List.{List, [], ◌∷◌, map}
use native.Mathlib.Omega.{arith}
use Rattle.std.proofs.Math.Nat.{add-zero}
use Rattle.names.specs.Refusals.{given}
use Rattle.names.specs.Passed.{passes}
use Rattle.grid.specs.Grid.{AxesWithin}
use Rattle.limits.specs.Limits.{bad_lights, bad_coefficients}
use Rattle.limits.specs.LimitsLaws.{axes_row, either, any_of_three}
use Rattle.marks.specs.Marks.{is_marked}
use Rattle.words.specs.Words.{entries_of, unused_set, Tidy}
use Rattle.spread.specs.declared.Progress.{Progress}
use Rattle.spread.specs.Spread.{progress_of, at_zero, Stage, stage, Bake, unblurred, unbroken, costs, run, sum, EachAtLeast, NoneRefused}
use Rattle.spread.specs.Demand.{Sized, rounded_up, all_active}
use Rattle.spread.proofs.Walks.{costs_least, costs_most}
use Rattle.shares.specs.Shares.{Share, bake_by, holders, Parted, joined_by, unblurred_in, joined_all, added_over}
use Rattle.shares.specs.SharesLaws.{unblurred_in_lem, length_unblurred, length_joined, either_of, two_joined, same_voxels, same_unbroken, all_joined_lem, rays_add_up}
use Rattle.join.specs.Join.{Joined}
use Rattle.join.specs.JoinLaws.{join_accepted}
use Rattle.ends.specs.Ends.{mean_over}
use Rattle.blurs.specs.Blurs.{wrong_blur_lists, coefficient_blur_rows, coefficient_blur_refusal}
use Rattle.intake.specs.Intake.{BakeInput, input_for, voxel_numbers, voxel_count, bake_cost, wrong_bake_lists, bad_contents, bake_refusal}
use Rattle.intake.specs.IntakeLaws.{BakePassed, progress_row, good_at_zero, fits, none_refused}
use Rattle.demand.specs.Bake.{bake_of, bake_call}
use Rattle.demand.specs.Calls.{answers_refusal}
use Rattle.demand.proofs.Demanded.{good_knows, bake_fair, bake_demand}
use Rattle.bake.specs.Baked.{Baked}
use Rattle.bake.specs.GoesOn.{accepted_unblurred, never_refused}
use Rattle.bake.specs.Results.{Result, handed_on, lending, Successive, allowances_of, refusals_of, reported_by, rays_below, DemandOfResults}
use Rattle.bake.specs.ResultsLaws.{demand_of_results}
use Rattle.shared_bake.specs.SharedBake.{sharing_for, sharing, ShareBake, calls_of, end_of, BakedToEnd, EachBaked, has_voxel, as_share, unblurred_of, JoinedShare, JoinedOnto, last_joined, shares_of, Shared, all_joined, all_known, some_active, EndsUnbroken, DemandOfShares, AsOne, Brought, by_calls, by_join}

-- the sum of one number
alone : (n : ℕ) → sum (n ∷ []) ≡ n
unfolding sum
alone n = add-zero n

-- ---- calls that are not refused

accepted_call : {i : BakeInput} {s : Stage Float} {c : Result} {d : List Float} {p : List ℕ}
    → Baked i s c.allowance c.answer c.volume c.scratch d c.distances p c.places → c.answer.refusal ≡ 0 → BakePassed i s c.allowance
accepted_call {i} {s} {c} f z = (none_refused i s c.allowance).0 (sym (answers_refusal i s c.allowance) ∙ sym f.refusal ∙ z)

-- their allowances hold a voxel's cost
allowances_hold : (b : BakeInput) (s : Stage Float) (d : List Float) (p : List ℕ) (results : List Result) → Successive b s d p results
    → NoneRefused (refusals_of results) → EachAtLeast (bake_cost b) (allowances_of results)
allowances_hold b s d p [] h n = tt
allowances_hold b s d p (c ∷ rest) h n =
    let i = lending b d p in
    ((fits i s c.allowance (accepted_call {c = c} h.0 n.0)).allowance, allowances_hold b (handed_on c) c.distances c.places rest h.1 n.1)

-- ---- a share's first call: with the words of any mask in place of its own an input that is accepted at progress zero is accepted

pub share_accepted : (b : BakeInput) (mask : List ℕ) (s : Stage Float) (a : ℕ) → Tidy mask (voxel_count b) → s.progress ≡ at_zero → bake_refusal b s a ≡ 0
    → bake_refusal (sharing b mask) s a ≡ 0
unfolding wrong_bake_lists bad_contents
share_accepted b mask s a t z e =
    let p = (none_refused b s a).0 e in
    let c = (any_of_three (unused_set b.active (voxel_count b)) (bad_lights b.lights) _).0 p.contents in
    let long : length mask ≡ length b.active = t.long ∙ sym (fits b s a p).active.long in
    (none_refused (sharing b mask) s a).1
    (record {
      axes = p.axes;
      grid = p.grid;
      lists = rw long p.lists;
      few = p.few;
      points = p.points;
      materials = p.materials;
      lighting = p.lighting;
      lamps = p.lamps;
      tree = p.tree;
      progress = (progress_row (sharing b mask) s.progress).1 (good_at_zero (sharing b mask) s.progress z);
      allowance = p.allowance;
      contents = (any_of_three _ _ _).1 (t.clean, c.1, c.2);
    })

-- ---- so such bakes there are: whatever mask stands in place of its own, an input that is accepted at progress zero is baked to the end by one call

all_at_once : (n : ℕ) → rounded_up n (suc n) ≤ 1
all_at_once n = go (rounded_up n (suc n)) refl
  where
    go : (q : ℕ) → rounded_up n (suc n) ≡ q → q ≤ 1
    go zero e = omega arith
    go (suc zero) e = omega arith
    go (suc (suc q)) e = absurd (omega (arith, (le-div_iff_mul-le {k = suc n} {x = 2} {y = n + (suc n - 1)} (omega arith)).0 (omega (arith, e))))

pub can_be_baked : (b : BakeInput) (mask : List ℕ) (s : Stage Float) (d : List Float) (p : List ℕ) (a : ℕ) → Tidy mask (voxel_count b) → s.progress ≡ at_zero
    → length d ≡ b.distances
    → length p ≡ b.places
    → bake_refusal b s a ≡ 0
    → (x : ShareBake) × (x.mask ≡ mask) × BakedToEnd b x
unfolding run
can_be_baked b mask s d p a t z k l e =
    let i = lending (sharing b mask) d p in
    let same : i ≡ sharing b mask = ap₂ (input_for b.solid b.axes b.corners b.scene b.light b.ambient b.sky b.lamps mask b.lights) k l in
    let accepted : bake_refusal i s a ≡ 0 = ap (λ (j : BakeInput). bake_refusal j s a) same ∙ share_accepted b mask s a t z e in
    let n = all_active (bake_of i) in
    let m = suc n * bake_cost b in
    let enough : bake_cost b ≤ m = omega (arith, suc-mul n (bake_cost b)) in
    let unrefused = never_refused i s a accepted (m ∷ []) (enough, tt) in
    let c = bake_call i s m in
    let first : Result
    = record {
      allowance = m;
      answer = record { refusal = c.refusal; progress = c.stage.progress; rays = c.rays };
      volume = c.stage.volume;
      scratch = c.stage.scratch;
      distances = d;
      places = p;
    } in (
      record { solid = b.solid; mask = mask; begun = s; distances = d; places = p; first = first; rest = [] },
      refl,
      record {
        calls = (
          record {
            refusal = refl;
            progress = refl;
            rays = refl;
            volume = refl;
            scratch = refl;
            hits = record { distances = λ q. refl; places = λ q. refl };
            distances_long_is = refl;
            places_long_lem = refl;
          },
          tt,
        );
        from_zero = z;
        unrefused = (unrefused.0, tt);
        to_end = (bake_demand i s a accepted).calls (suc n) (m ∷ []) s (omega arith) (omega arith, tt) (omega arith) (all_at_once n) z unrefused;
      },
    )

-- ---- the numbers of a mask's voxels

-- what is shown of an input that some call accepts, whichever voxels are gathered: all numbers lie within ±2^96
record Accepted (b : BakeInput) : Type 0 where
  axes_within : AxesWithin b.axes
  good : (t : Share Float) → bad_coefficients (unblurred (bake_by (bake_of b) t)) ≡ false

module _ (b : BakeInput) where
  -- the voxels of a mask as a share, and the bake over it
  abbrev mask_share : List ℕ → Share Float
  mask_share mask = record { has = has_voxel b mask; refusal = (bake_of b).refusal }

  abbrev over : List ℕ → Bake Float
  over mask = bake_by (bake_of b) (mask_share mask)

  sized : Accepted b → Sized (bake_of b)
  sized a = (bake_fair b a.axes_within).sized

  length_over : Accepted b → (mask : List ℕ) → length (unblurred (over mask)) ≡ voxel_count b * voxel_numbers
  length_over a mask = length_unblurred (bake_of b) (sized a) (mask_share mask)

  -- a join of them is not refused, and is that of the definition
  join_one : Accepted b → {mask : List ℕ} {numbers joined x joined' : List Float} {answer : ℕ} → Tidy mask (voxel_count b) → numbers ≡ unblurred (over mask) → joined ≡ x
      → length x ≡ voxel_count b * voxel_numbers
      → Joined b.axes mask numbers joined answer joined'
      → (answer ≡ 0) × (joined' ≡ joined_by voxel_numbers (voxel_count b) (has_voxel b mask) (unblurred (over mask)) x)
  join_one a {mask} {numbers} {joined} {answer = answer} t e f l j =
      let z : answer ≡ 0
      = j.answer ∙ join_accepted b.axes mask numbers joined
      (record {
        axes_within = a.axes_within;
        share_tidy = t;
        unblurred_fits = ap length e ∙ length_over a mask;
        joined_fits = ap length f ∙ l;
        unblurred_good = ap bad_coefficients e ∙ a.good (mask_share mask);
      }) in
      (z, j.joined_after ∙ sym (given answer _ joined z) ∙ ap₂ (joined_by voxel_numbers (voxel_count b) (has_voxel b mask)) e f)

  -- ---- one share's calls

  abbrev input_by : ShareBake → BakeInput
  input_by s = lending (sharing_for s.solid b s.mask) s.distances s.places

  module _ (s : ShareBake) (h : BakedToEnd b s) where
    begins : BakePassed (input_by s) s.begun s.first.allowance
    begins = accepted_call {c = s.first} h.calls.0 h.unrefused.0

    demanded : DemandOfResults (input_by s) s.begun s.first s.rest
    demanded =
        demand_of_results (sharing_for s.solid b s.mask) s.begun s.distances s.places s.first s.rest h.calls (ap (λ (q : Progress). q.next) h.from_zero)
        (allowances_hold (sharing_for s.solid b s.mask) s.begun s.distances s.places (calls_of s) h.calls h.unrefused)
        h.unrefused.0

    -- they end as the unbroken bake over its voxels
    ended : end_of s ≡ unbroken (over s.mask) s.begun.scratch
    unfolding unbroken unblurred costs
    ended = demanded.end h.to_end

    unblurred_left : unblurred_of b s ≡ unblurred (over s.mask)
    unblurred_left = ap (unblurred_in (over s.mask)) ended ∙ unblurred_in_lem (over s.mask) s.begun.scratch

    known : (end_of s).progress.rays ≡ costs (over s.mask) (voxel_count b) 0
    unfolding costs
    known = demanded.rays_known ∙ ap (λ (n : ℕ). costs (over s.mask) n 0) h.to_end

    reported : sum (reported_by (calls_of s)) ≡ costs (over s.mask) (voxel_count b) 0
    unfolding costs
    reported = demanded.sums h.to_end

    mask_tidy : Tidy s.mask (voxel_count b)
    mask_tidy = (fits (input_by s) s.begun s.first.allowance begins).active

    accepted_share : Accepted b
    unfolding unblurred
    accepted_share =
        record {
          axes_within = (fits (input_by s) s.begun s.first.allowance begins).axes;
          good = λ t. accepted_unblurred (input_by s) s.begun s.first.allowance begins t.has;
        }

  -- ---- all shares

  -- the joins are those of the definition, and none is refused
  joins_all : (joined x : List Float) → joined ≡ x → length x ≡ voxel_count b * voxel_numbers → (rest : List JoinedShare)
      → EachBaked b (map (λ (j : JoinedShare). j.share) rest)
      → JoinedOnto b joined rest
      → NoneRefused (map (λ (j : JoinedShare). j.answer) rest)
      × (last_joined joined rest ≡ joined_all (bake_of b) (map (as_share b) (map (λ (j : JoinedShare). j.share) rest)) x)
  unfolding joined_all unblurred
  joins_all joined x e l [] h k = (tt, e)
  joins_all joined x e l (j ∷ rest) h k =
      let s = j.share in
      let a = accepted_share s h.0 in
      let one = join_one a (mask_tidy s h.0) (unblurred_left s h.0) e l k.0 in
      let long = length_joined voxel_numbers (voxel_count b) (has_voxel b s.mask) (unblurred (over s.mask)) x (length_over a s.mask) l in
      let r = joins_all j.joined _ one.1 long rest h.1 k.1 in
      ((one.0, r.0), r.1)

  -- a number of each share that comes to its rays comes to the rays of all
  counted_all : (f : ShareBake → ℕ) → ((s : ShareBake) → BakedToEnd b s → f s ≡ costs (over s.mask) (voxel_count b) 0) → (shares : List ShareBake) → EachBaked b shares
      → sum (map f shares) ≡ added_over (λ t. costs (bake_by (bake_of b) t) (voxel_count b) 0) (map (as_share b) shares)
  unfolding sum costs
  counted_all f e [] h = refl
  counted_all f e (s ∷ rest) h = ap₂ (λ (x y : ℕ). x + y) (e s h.0) (counted_all f e rest h.1)

-- ---- all of it

-- a blur of lists that fit is not refused
blur_accepted : (b : BakeInput) (volume scratch : List Float) → AxesWithin b.axes → length volume ≡ voxel_count b * voxel_numbers
    → length scratch ≡ voxel_count b * voxel_numbers → bad_coefficients volume ≡ false → coefficient_blur_refusal b.axes volume scratch ≡ 0
unfolding coefficient_blur_refusal wrong_blur_lists
blur_accepted b volume scratch a l m g =
    passes (coefficient_blur_rows b.axes volume scratch)
    ((axes_row b.axes).1 a, ((either _ _).1 (ap not (eq-eqb _ _ l), ap not (eq-eqb _ _ m)), (g, tt)))

module _ (b : BakeInput) where
  -- the bake over all active voxels, as a share
  abbrev every_voxel : Share Float
  every_voxel = record { has = (bake_of b).active; refusal = (bake_of b).refusal }

  -- how the unbroken bake ends, where any voxel is active and where none is
  abbrev at_end : Progress
  at_end = progress_of (voxel_count b) (rays_below b (voxel_count b))

  ends_blurred : (scratch : List Float) → some_active b ≡ true → unbroken (bake_of b) scratch ≡ stage at_end (mean_over b.axes (unblurred (bake_of b))) (unblurred (bake_of b))
  unfolding unbroken
  ends_blurred scratch t = rw t refl

  ends_unblurred : (scratch : List Float) → some_active b ≡ false → unbroken (bake_of b) scratch ≡ stage at_end (unblurred (bake_of b)) scratch
  unfolding unbroken
  ends_unblurred scratch t = rw t refl

  -- so end the unblurred numbers of an accepted bake
  ends_unbroken : Accepted b → {numbers : List Float} {rays : ℕ} → numbers ≡ unblurred (bake_of b) → rays ≡ rays_below b (voxel_count b) → EndsUnbroken b numbers rays
  ends_unbroken a {numbers} e k =
      let z = sized b a in
      let fair = bake_fair b a.axes_within in
      let reached = ap (progress_of (voxel_count b)) k in
      record {
        joined = e;
        blurred = λ t scratch l r volume' scratch' p.
            let long : length numbers ≡ voxel_count b * voxel_numbers = ap length e ∙ length_unblurred (bake_of b) z every_voxel in
            let fine : bad_coefficients numbers ≡ false = ap bad_coefficients e ∙ a.good every_voxel in
            let n : r ≡ 0 = p.answer ∙ blur_accepted b numbers scratch a.axes_within long l fine in
            let v : volume' ≡ mean_over b.axes (unblurred (bake_of b)) = p.volume_after_is ∙ sym (given r _ _ n) ∙ ap (mean_over b.axes) e in
            let s : scratch' ≡ unblurred (bake_of b) = p.scratch_after ∙ sym (given r _ _ n) ∙ e in
            (n, ap (λ (q : Progress). stage q volume' scratch') reached ∙ ap₂ (stage at_end) v s ∙ sym (ends_blurred scratch t));
        unblurred_end = λ t scratch. ap₂ (λ (q : Progress) (v : List Float). stage q v scratch) reached e ∙ sym (ends_unblurred scratch t);
        known = k;
        good =
            (good_knows b _).1
            (record {
              within = omega arith;
              least = rw k (costs_least (bake_of b) fair.most fair.least (voxel_count b) 0);
              most = rw k (costs_most (bake_of b) fair.most fair.least (voxel_count b) 0);
            });
      }

module _ (b : BakeInput) (first : ShareBake) (rest : List JoinedShare) (h : Shared b first rest) where
  abbrev one : BakedToEnd b first
  one = h.baked.0

  joined_all_lem : NoneRefused (map (λ (j : JoinedShare). j.answer) rest) × (all_joined b first rest ≡ unblurred (bake_of b))
  unfolding unblurred
  joined_all_lem =
      let a = accepted_share b first one in
      let r = joins_all b (unblurred_of b first) (unblurred (over b first.mask)) (unblurred_left b first one) (length_over b a first.mask) rest h.baked.1 h.joins in
      (r.0, r.1 ∙ all_joined_lem (bake_of b) (sized b a) (as_share b first) (map (as_share b) (map (λ (j : JoinedShare). j.share) rest)) h.parted)

  counted : (f : ShareBake → ℕ) → ((s : ShareBake) → BakedToEnd b s → f s ≡ costs (over b s.mask) (voxel_count b) 0)
      → sum (map f (shares_of first rest)) ≡ rays_below b (voxel_count b)
  counted f e = counted_all b f e (shares_of first rest) h.baked ∙ rays_add_up (bake_of b) (map (as_share b) (shares_of first rest)) h.parted

  all_known_lem : all_known b first rest ≡ rays_below b (voxel_count b)
  all_known_lem = counted (λ s. (end_of s).progress.rays) (λ s w. known b s w)

  pub demand_of_shares : DemandOfShares b first rest
  demand_of_shares =
      record {
        none = joined_all_lem.0;
        whole = ends_unbroken b (accepted_share b first one) joined_all_lem.1 all_known_lem;
        rays = counted (λ s. sum (reported_by (calls_of s))) (λ s w. reported b s w);
      }

  -- a share of every active voxel is parted
  whole_parted : (whole : ShareBake) → whole.mask ≡ b.active → Parted (bake_of b) (as_share b whole ∷ [])
  unfolding holders
  whole_parted whole e i l = add-zero _ ∙ ap (λ (m : List ℕ). cond {A = ℕ} (is_marked (entries_of m (voxel_count b)) i) 1 0) e

  whole_ended : (whole : ShareBake) → whole.mask ≡ b.active → BakedToEnd b whole → end_of whole ≡ unbroken (bake_of b) whole.begun.scratch
  whole_ended whole e w =
      ended b whole w
      ∙ same_unbroken (bake_of b) (sized b (accepted_share b first one)) (mask_share b whole.mask) whole.begun.scratch (λ i l. ap (λ (m : List ℕ). is_marked (entries_of m (voxel_count b)) i) e)

  -- and counts the rays of all
  as_whole : (f : ShareBake → ℕ) → ((s : ShareBake) → BakedToEnd b s → f s ≡ costs (over b s.mask) (voxel_count b) 0)
      → (whole : ShareBake) → whole.mask ≡ b.active → BakedToEnd b whole → f whole ≡ rays_below b (voxel_count b)
  as_whole f c whole e w =
      sym (alone (f whole)) ∙ counted_all b f c (whole ∷ []) (w, tt) ∙ rays_add_up (bake_of b) (as_share b whole ∷ []) (whole_parted whole e)

  pub as_one : (whole : ShareBake) → whole.mask ≡ b.active → BakedToEnd b whole → AsOne b first rest whole
  as_one whole e w =
      let d = demand_of_shares in
      let end = whole_ended whole e w in
      record {
        blurred = λ t scratch l r volume' scratch' p.
            let same : stage (progress_of (voxel_count b) (all_known b first rest)) volume' scratch' ≡ end_of whole
            = (d.whole.blurred t scratch l r volume' scratch' p).1 ∙ ends_blurred b scratch t ∙ sym (ends_blurred b whole.begun.scratch t) ∙ sym end in
            (ap (λ (x : Stage Float). x.volume) same, ap (λ (x : Stage Float). x.scratch) same);
        unblurred_end = λ t. ap (λ (x : Stage Float). x.volume) (d.whole.unblurred_end t whole.begun.scratch ∙ sym end);
        rays = d.rays ∙ sym (as_whole (λ s. sum (reported_by (calls_of s))) (λ s v. reported b s v) whole e w);
        known = d.whole.known ∙ sym (as_whole (λ s. (end_of s).progress.rays) (λ s v. known b s v) whole e w);
      }

-- ---- shares of shares

module _ (b : BakeInput) where
  -- what is brought is what the definition has for the mask's voxels
  record Brings (mask : List ℕ) (numbers : List Float) (rays : ℕ) : Type 0 where
    accepted : Accepted b
    tidy : Tidy mask (voxel_count b)
    are : numbers ≡ unblurred (over b mask)
    fired : rays ≡ costs (over b mask) (voxel_count b) 0

  abbrev unblurred_over : List ℕ → List Float
  unblurred_over mask = unblurred (over b mask)

  -- a join of what two bring
  joins_two : {onto share : List ℕ} {numbers unblurred joined : List Float} {m n answer : ℕ} → Brings onto numbers m → Brings share unblurred n
      → Joined b.axes share unblurred numbers answer joined
      → (answer ≡ 0) × (joined ≡ joined_by voxel_numbers (voxel_count b) (has_voxel b share) (unblurred_over share) (unblurred_over onto))
  joins_two {onto} p q j = join_one b q.accepted q.tidy q.are p.are (length_over b p.accepted onto) j

  brings : {mask : List ℕ} {numbers : List Float} {rays : ℕ} → Brought b mask numbers rays → Brings mask numbers rays
  unfolding unblurred holders sum
  brings (by_calls s h) = record { accepted = accepted_share b s h; tidy = mask_tidy b s h; are = unblurred_left b s h; fired = known b s h }
  brings (by_join {mask} {onto} {share} p q halves answer j) =
      let x = brings p in
      let y = brings q in
      let z = sized b x.accepted in
      record {
        accepted = x.accepted;
        tidy = halves.tidy;
        are =
            (joins_two x y j).1
            ∙ two_joined (bake_of b) z (mask_share b share) (mask_share b onto)
            ∙ same_voxels (over b mask) (record { ambient = z.ambient; gathered = z.gathered }) (either_of (bake_of b) z (mask_share b share) (mask_share b onto)) (λ i l. either_has (has_voxel b onto i) (has_voxel b share i) (has_voxel b mask i) (halves.parted i l));
        fired = total x.fired y.fired (rays_add_up (over b mask) (mask_share b onto ∷ mask_share b share ∷ []) (λ i l. shared i (halves.parted i l)));
      }
    where
      shared : (i : ℕ) → cond (has_voxel b onto i) 1 0 + cond (has_voxel b share i) 1 0 ≡ cond (has_voxel b mask i) 1 0
          → holders (mask_share b onto ∷ mask_share b share ∷ []) i ≡ cond (has_voxel b mask i) 1 0
      shared i e = omega arith

      total : {m n k l o : ℕ} → m ≡ k → n ≡ l → sum (k ∷ l ∷ []) ≡ o → m + n ≡ o
      total e f g = omega arith

      either_has : (x y z : Bool) → cond x 1 0 + cond y 1 0 ≡ cond z 1 0 → y || x ≡ z
      either_has true true true e = refl
      either_has true true false e = absurd (omega arith)
      either_has true false true e = refl
      either_has true false false e = absurd (omega arith)
      either_has false true true e = refl
      either_has false true false e = absurd (omega arith)
      either_has false false true e = absurd (omega arith)
      either_has false false false e = refl

  -- no join of what is brought is refused
  pub brought_joins : {onto share : List ℕ} {numbers unblurred joined : List Float} {m n answer : ℕ} → Brought b onto numbers m → Brought b share unblurred n
      → Joined b.axes share unblurred numbers answer joined → answer ≡ 0
  brought_joins p q j = (joins_two (brings p) (brings q) j).0

  -- what is brought for the whole mask, to whatever depth it was shared, ends as the unbroken bake
  pub brought_whole : {numbers : List Float} {rays : ℕ} → Brought b b.active numbers rays → EndsUnbroken b numbers rays
  unfolding unblurred costs
  brought_whole p = let x = brings p in ends_unbroken b x.accepted x.are x.fired
