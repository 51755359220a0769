-- `means::inner::means_in` is the definition for each of the N: the bounds are those of the box, each sum is its walk by rows from +0, and the count is
-- the product of its sides. Assumes nothing.
use mathlib.Core.Path.{◌≡◌, sym, ap, ap₂, ◌∙◌}
use mathlib.Core.List.{List}
use Prim.Native.Nat.{ℕ, ◌-◌, ◌*◌}
use lib.IntN.{pos}
use lib.ListN.{get_or, replicate, get_or-replicate}
use lib.Ieee.{Float, nan, binary32, div, of_int}
use Rattle.names.specs.Bits.{zero32}
use Rattle.lists.specs.Fold.{tab}
use Rattle.means.specs.declared.Span.{Span}
use Rattle.means.specs.Box.{mean_in}
use Rattle.means.specs.Sums.{span_of, span_is, box_sum}
use Rattle.means.specs.BoxLaws.{mean_by_rows}
use Rattle.means.proofs.Abreast.{each_same, get_or_each}
use Rattle.means.proofs.inner.means_in.Goals as goal

-- each of the n
module _ (n : ℕ) (src : List Float) (stride w h d x y z : ℕ) {columns rows planes : Span} {s : List Float} {k : Float} where
  whole : columns ≡ span_of x w → rows ≡ span_of y h → planes ≡ span_of z d
      → s ≡ tab (λ j. box_sum src stride j w h columns rows planes (get_or (replicate n zero32) j nan)) n 0
      → k ≡ of_int binary32 (pos ((planes.past - planes.first) * ((rows.past - rows.first) * (columns.past - columns.first))))
      → tab (λ j. div binary32 (get_or s j nan) k) n 0 ≡ tab (λ j. mean_in src stride j w h d x y z) n 0
  whole ec er ep es ek =
      each_same n _ _
      (λ j p.
      ap₂ (div binary32) (ap (λ (l : List Float). get_or l j nan) es ∙ get_or_each n _ j p ∙ ap (box_sum src stride j w h columns rows planes) (get_or-replicate n j zero32 nan p)) ek
      ∙ rw (ec, er, ep) (sym (mean_by_rows src stride j w h d x y z)))

pub returns : goal.returns
returns g c =
    let a = c.args in
    let planes = c.near-planes in
    let rows = c.near-rows in
    let columns = c.near-columns in
    c.shares.ensures
    ∙ whole g.row.N a.src.now a.stride a.w a.h a.d a.x a.y a.z
    (span_is columns.result a.x a.w columns.ensures.0 columns.ensures.1)
    (span_is rows.result a.y a.h rows.ensures.0 rows.ensures.1)
    (span_is planes.result a.z a.d planes.ensures.0 planes.ensures.1)
    c.box_sums-sums.ensures c.cells.ensures
