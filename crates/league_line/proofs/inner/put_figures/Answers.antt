-- The runs of bytes make the line.
use Rattle.std.proofs.Common.{◌≡◌, [], ◌∷◌, length, append_assoc, arith}
use Rattle.league_line.specs.Text.{text_of}
use Rattle.league_line.specs.TextLaws.{spaced_append}
use Rattle.league_line.proofs.Runs.{stored_behind, tab_whole}
use Rattle.league_line.proofs.inner.put_figures.Goals as goal

pub returns : goal.returns
unfolding text_of
returns c =
    let f = c.args.figures in
    let b : length f.bands ≡ 16 = omega arith in (
      rw (
        stored_behind c.put_numbers-end.new.line c.put_numbers-end.result 10 (omega arith),
        c.put_numbers-end.ensures.0,
        c.put_numbers-at.ensures.0,
        c.put_decimal-at.ensures.0,
        tab_whole f.bands 16 b,
        spaced_append (f.voxels ∷ f.sum ∷ f.lowest ∷ f.highest ∷ []) f.bands,
      ) (simp append_assoc),
      omega arith,
    )
