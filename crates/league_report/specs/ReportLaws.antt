-- What the report says: a line a file and then one line, of all lights put together or of a refusal; how the league goes by a file; how a turn goes; that no
-- counter can overflow; and that no input gives a line of zeros. Assumes nothing.
use Rattle.std.specs.Prelude.{◌≡◌, refl, Bool, true, false, cond, ◌⊎◌, List, [], ◌∷◌, ◌++◌, ℕ, zero, suc, ◌+◌, ◌-◌, ◌*◌, ◌<◌, ◌≤◌, ltb, leb, eqb, length, take, drop, replicate, Float, Option, None, Some, Result, Ok, Err}
use Rattle.std.proofs.Common.{sym, ap, inl, inr, append_assoc, append-nil, arith, length-append, le-leb, leb-false, ltb-false}
use Rattle.std.proofs.Math.Dec.{eqb-suc-zero}
use Rattle.std.proofs.lemmas.Bool.{eqb-false}
use Rattle.names.specs.declared.refusal.Refusal.{Refusal}
use Rattle.names.specs.declared.refusal.Refusal.TheVariants.{League as LeagueRefusal}
use Rattle.names.specs.Answers.{number_of}
use Rattle.names.specs.Numbers.{length_limit, files_limit}
use Rattle.names.specs.Refusals.{first_of}
use Rattle.lists.specs.Fold.{tab}
use Rattle.lists.specs.Some.{some}
use Rattle.limits.specs.LimitsLaws.{either}
use Rattle.bytes_le.specs.Bytes.{u32_at}
use Rattle.volume_file.specs.VolumeFile.{light_at, faulty}
use Rattle.light_units.specs.Units.{light_outside}
use Rattle.light_figures.specs.LightFigures.{sum_of, lowest_of, highest_of, in_band, figures_of, units_each, light_figures}
use Rattle.light_figures.specs.FiguresLaws.{lights_joined, bands_voxels}
use Rattle.league_report.specs.declared.League.{League}
use Rattle.league_report.specs.FileLights.{lights_refusal}
use Rattle.league_report.specs.FileLightsLaws.{units_inside, length_each, lights_sized}
use Rattle.league_report.specs.Report.{all_lights, league_of, LeagueWithin, league_with, opening_of, Line, figures, refused, last_line, place_after, cut_off, after_file, after_opening, report_from, report_of}

-- ---- one file more

pub all_next : (files : List (List Float)) (x : List Float) → all_lights (files ++ x ∷ []) ≡ all_lights files ++ x
unfolding all_lights
all_next [] x = append-nil x
all_next (y ∷ files) x = rw (all_next files x) (sym (append_assoc y (all_lights files) x))

-- figures joined file by file are those of all lights as one list
pub league_next : (files : List (List Float)) (x : List Float) → league_of (files ++ x ∷ []) ≡ league_with (league_of files) (light_figures x)
unfolding league_of league_with
league_next files x = rw (all_next files x, lights_joined (all_lights files) x, length-append files (x ∷ [])) refl

-- ---- the whole report

-- after these files
pub data Reported : List (List Float) → List Line → Type 0 where
  -- the input ends: one line over all their lights
  ended : {files : List (List Float)} → Reported files (last_line files ∷ [])
  -- 18 or 12, and the place of the next
  stopped : {files : List (List Float)} {k : ℕ} → (k ≡ 18) ⊎ (k ≡ 12) → Reported files (refused k (place_after files) ∷ [])
  -- the line of the next, and so on after it
  further : {files : List (List Float)} (x : List Float) {lines : List Line} → Reported (files ++ x ∷ []) lines → Reported files (figures (place_after files) (light_figures x) ∷ lines)

abbrev first_number : Bool → Bool → Bool → ℕ
first_number a b c = cond a 18 (cond b 12 (cond c 18 0))

refusal_of : (file : List ℕ) → (lights_refusal file ≡ 0 → ⊥) → (lights_refusal file ≡ 18) ⊎ (lights_refusal file ≡ 12)
unfolding lights_refusal first_of
refusal_of file n = go (ltb length_limit (length file)) (faulty file) (some light_outside (light_at file)) n
  where
    go : (a b c : Bool) → (first_number a b c ≡ 0 → ⊥) → (first_number a b c ≡ 18) ⊎ (first_number a b c ≡ 12)
    go true b c n = inl refl
    go false true c n = inr refl
    go false false true n = inl refl
    go false false false n = absurd (n refl)

file_reported : (files : List (List Float)) (file : List ℕ) (rest : List Line) → Reported (files ++ light_at file ∷ []) rest → Reported files (after_file files file rest)
unfolding after_file
file_reported files file rest r = go (eqb (lights_refusal file) 0) refl
  where
    go : (b : Bool) → eqb (lights_refusal file) 0 ≡ b
        → Reported files (cond b (figures (place_after files) (light_figures (light_at file)) ∷ rest) (refused (lights_refusal file) (place_after files) ∷ []))
    go true e = further (light_at file) r
    go false e = stopped (refusal_of file (eqb-false (lights_refusal file) 0 e))

-- the tests of an opening, and what it is by them
abbrev chain : Bool → Bool → Bool → Bool → ℕ → Result (Option ℕ) Refusal
chain a b c d n = cond a (Ok None) (cond b (Err LeagueRefusal) (cond c (Err LeagueRefusal) (cond d (Err LeagueRefusal) (Ok (Some n)))))

-- an opening is refused by 18 alone
opening_refused : (files : ℕ) (head : List ℕ) (r : Refusal) → opening_of files head ≡ Err r → number_of r ≡ 18
unfolding opening_of
opening_refused files head r e = go (eqb (length head) 0) (leb files_limit files) (ltb (length head) 4) (ltb length_limit (u32_at head 0)) (u32_at head 0) e
  where
    go : (a b c d : Bool) (n : ℕ) → chain a b c d n ≡ Err r → number_of r ≡ 18
    go true b c d n f = cc
    go false true c d n f = let q : r ≡ LeagueRefusal = cc in rw q refl
    go false false true d n f = let q : r ≡ LeagueRefusal = cc in rw q refl
    go false false false true n f = let q : r ≡ LeagueRefusal = cc in rw q refl
    go false false false false n f = cc

opening_reported : (files : List (List Float)) (next : List ℕ → List ℕ → List Line) (o : Result (Option ℕ) Refusal) (s : List ℕ)
    → ((r : Refusal) → o ≡ Err r → number_of r ≡ 18) → ((file rest : List ℕ) → Reported files (next file rest)) → Reported files (after_opening files next o s)
unfolding after_opening
opening_reported files next (Ok None) s n h = ended
opening_reported files next (Err r) s n h = stopped (inl (n r refl))
opening_reported files next (Ok (Some n)) s _ h = go (ltb (length s) n)
  where
    go : (b : Bool) → Reported files (cond b (cut_off files) (next (take n s) (drop n s)))
    go true = stopped (inl refl)
    go false = h (take n s) (drop n s)

pub report_lines : (left : ℕ) (files : List (List Float)) (s : List ℕ) → Reported files (report_from left files s)
unfolding report_from
report_lines zero files s = go (eqb (length s) 0)
  where
    go : (b : Bool) → Reported files (cond b (last_line files ∷ []) (cut_off files))
    go true = ended
    go false = stopped (inl refl)
report_lines (suc left) files s =
    opening_reported files _ (opening_of (length files) (take 4 s)) (drop 4 s) (opening_refused (length files) (take 4 s))
    (λ file rest. file_reported files file (report_from left (files ++ light_at file ∷ []) rest) (report_lines left (files ++ light_at file ∷ []) rest))

-- a turn of the program: what is kept is league_of of the files so far, and not their lights
pub report_turn : (left : ℕ) (files : List (List Float)) (s : List ℕ) → length files + left ≡ files_limit
    → report_from left files s
    ≡ after_opening files (λ file rest. after_file files file (report_from (left - 1) (files ++ light_at file ∷ []) rest)) (opening_of (length files) (take 4 s)) (drop 4 s)
unfolding report_from after_opening opening_of
report_turn zero files [] h = refl
report_turn zero files (x ∷ s) h = rw (eqb-suc-zero (length s), eqb-suc-zero (length (take 3 s)), le-leb files_limit (length files) (omega arith)) refl
report_turn (suc left) files s h =
    let e : left ≡ suc left - 1 = omega arith in
    ap (λ (k : ℕ). after_opening files (λ file rest. after_file files file (report_from k (files ++ light_at file ∷ []) rest)) (opening_of (length files) (take 4 s)) (drop 4 s)) e

-- a length stands before a file that may come, and is within the limit
pub length_within : (files n : ℕ) (head : List ℕ) → Ok (Some n) ≡ opening_of files head → (files < files_limit) × (n ≤ length_limit)
unfolding opening_of
length_within files n head e =
    go (eqb (length head) 0) (leb files_limit files) (ltb (length head) 4) (ltb length_limit (u32_at head 0)) refl refl e
  where
    go : (a b c d : Bool) → leb files_limit files ≡ b → ltb length_limit (u32_at head 0) ≡ d → Ok (Some n) ≡ chain a b c d (u32_at head 0) → (files < files_limit) × (n ≤ length_limit)
    go true b c d p q f = cc
    go false true c d p q f = cc
    go false false true d p q f = cc
    go false false false true p q f = cc
    go false false false false p q f = let m : n ≡ u32_at head 0 = cc in (leb-false files_limit files p, omega (arith, ltb-false length_limit (u32_at head 0) q))

-- "none gives one line of zeros"
pub report_none : report_of [] ≡ figures 0 (record { voxels = 0; sum = 0; lowest = 0; highest = 0; bands = replicate 16 0 }) ∷ []
unfolding report_from after_opening opening_of league_of all_lights units_each figures_of sum_of lowest_of highest_of in_band tab
report_none = refl

-- ---- how large the league gets

-- every light of every file is inside, and no file has more than 65,536
pub data FilesFit : List (List Float) → Type 0 where
  none : FilesFit []
  one : {x : List Float} {files : List (List Float)} → some light_outside x ≡ false → length x ≤ length_limit → FilesFit files → FilesFit (x ∷ files)

some_append : (a b : List Float) → some light_outside a ≡ false → some light_outside b ≡ false → some light_outside (a ++ b) ≡ false
unfolding some
some_append [] b p q = q
some_append (x ∷ a) b p q =
    let e = (either (light_outside x) (some light_outside a)).0 p in
    (either (light_outside x) (some light_outside (a ++ b))).1 (e.0, some_append a b e.1 q)

all_inside : {files : List (List Float)} → FilesFit files → some light_outside (all_lights files) ≡ false
unfolding all_lights some
all_inside none = refl
all_inside (one {x} {files} p q r) = some_append x (all_lights files) p (all_inside r)

all_few : {files : List (List Float)} → FilesFit files → length (all_lights files) ≤ length files * length_limit
unfolding all_lights
all_few none = omega arith
all_few (one {x} {files} p q r) = rw (length-append x (all_lights files)) (omega (arith, all_few r))

-- up to 65,536 files: 2^32 voxels, 2^56 units and 2^32 in a band are never passed, and a u64 holds 2^64
pub league_within : (files : List (List Float)) → FilesFit files → length files ≤ files_limit → LeagueWithin (league_of files)
unfolding league_of figures_of
league_within files f h =
    let few = all_few f in
    record {
      files = h;
      voxels = omega (arith, length_each (all_lights files));
      sized = lights_sized (all_lights files) (all_inside f) (omega arith);
    }

pub sum_below : (g : League) → LeagueWithin g → g.total.sum ≤ 72057594037927936
sum_below g w = omega (arith, w.sized.sum, w.sized.voxels)

-- "the bands add up to the voxels", in the last line too
pub league_bands : (files : List (List Float)) → FilesFit files → sum_of (league_of files).total.bands ≡ (league_of files).total.voxels
unfolding league_of
league_bands files f = bands_voxels (units_each (all_lights files)) (units_inside (all_lights files) (all_inside f))
