-- The league report over an input: "volume files one after another, each after a u32 length of at most 65,536". A line a file, then one over all files; or,
-- instead of that one, a refusal with the place of the file that was begun. Definitions only: specs/ReportLaws.antt says what they mean.
use Rattle.std.specs.Prelude.{cond, List, [], ◌∷◌, ◌++◌, ℕ, zero, suc, ◌+◌, ◌*◌, ◌≤◌, ltb, leb, eqb, length, take, drop, Float, Option, None, Some, Result, Ok, Err}
use Rattle.names.specs.declared.refusal.Refusal.{Refusal}
use Rattle.names.specs.declared.refusal.Refusal.TheVariants.{League as LeagueRefusal}
use Rattle.names.specs.Answers.{number_of}
use Rattle.names.specs.Numbers.{length_limit, files_limit}
use Rattle.bytes_le.specs.Bytes.{u32_at}
use Rattle.volume_file.specs.VolumeFile.{light_at}
use Rattle.light_figures.specs.declared.LightFigures.{LightFigures}
use Rattle.light_figures.specs.LightFigures.{light_figures, joined_figures, FiguresSized}
use Rattle.league_report.specs.declared.League.{League}
use Rattle.league_report.specs.FileLights.{lights_refusal}

-- ---- what is said of the files so far

-- the lights of all files as one list
unfoldable pub all_lights : List (List Float) → List Float
all_lights [] = []
all_lights (x ∷ files) = x ++ all_lights files

-- how many files, and the figures of all their lights put together
unfoldable pub league_of : List (List Float) → League
league_of files = record { files = length files; total = light_figures (all_lights files) }

-- how large it gets: 65,536 files of at most as many voxels
pub record LeagueWithin (g : League) : Type 0 where
  pub files : g.files ≤ files_limit
  pub voxels : g.total.voxels ≤ g.files * length_limit
  pub sized : FiguresSized g.total

-- one file more, of these figures
unfoldable pub league_with : League → LightFigures → League
league_with g f = record { files = g.files + 1; total = joined_figures g.total f }

-- ---- what stands before a file

-- the length, by up to four bytes, of which there are fewer only where the input ends: none is the end; and 18 for a file too many, a length cut off or one
-- above the limit
unfoldable pub opening_of : ℕ → List ℕ → Result (Option ℕ) Refusal
opening_of files head =
    cond (eqb (length head) 0) (Ok None)
    (cond (leb files_limit files) (Err LeagueRefusal)
    (cond (ltb (length head) 4) (Err LeagueRefusal)
    (cond (ltb length_limit (u32_at head 0)) (Err LeagueRefusal)
    (Ok (Some (u32_at head 0))))))

-- ---- the report

pub data Line : Type 0 where
  -- place or count of files, and figures
  figures : ℕ → LightFigures → Line
  -- number and place
  refused : ℕ → ℕ → Line

abbrev pub last_line : List (List Float) → Line
last_line files = figures (league_of files).files (league_of files).total

-- "place in the input counted from 1"
abbrev pub place_after : List (List Float) → ℕ
place_after files = length files + 1

-- the file that was begun, refused
abbrev pub cut_off : List (List Float) → List Line
cut_off files = refused 18 (place_after files) ∷ []

-- a file that was read whole, and the lines after it
unfoldable pub after_file : List (List Float) → List ℕ → List Line → List Line
after_file files file rest =
    cond (eqb (lights_refusal file) 0)
    (figures (place_after files) (light_figures (light_at file)) ∷ rest)
    (refused (lights_refusal file) (place_after files) ∷ [])

-- what follows an opening, in what is left of the input; `next` gives the lines of a file and of what is left after it
unfoldable pub after_opening : List (List Float) → (List ℕ → List ℕ → List Line) → Result (Option ℕ) Refusal → List ℕ → List Line
after_opening files next (Ok None) s = last_line files ∷ []
after_opening files next (Ok (Some n)) s = cond (ltb (length s) n) (cut_off files) (next (take n s) (drop n s))
after_opening files next (Err r) s = refused (number_of r) (place_after files) ∷ []

-- the lines after these files, where `left` more may come
unfoldable pub report_from : ℕ → List (List Float) → List ℕ → List Line
report_from zero files s = cond (eqb (length s) 0) (last_line files ∷ []) (cut_off files)
report_from (suc left) files s =
    after_opening files (λ file rest. after_file files file (report_from left (files ++ light_at file ∷ []) rest)) (opening_of (length files) (take 4 s)) (drop 4 s)

abbrev pub report_of : List ℕ → List Line
report_of s = report_from files_limit [] s
