-- `tree_order::inner::along_widest`: the ranks of the keys in order hold the places of the run in order.
use Rattle.std.proofs.Common.{◌≡◌, List, sym, ap, ◌∙◌, length, map, arith}
use Rattle.hits.specs.Hits.{Struck, places_of}
use Rattle.hits.specs.PairedLaws.{paired_places}
use Rattle.tree_order.specs.Order.{key_on, along_widest}
use Rattle.tree_order.specs.Ranks.{place_of}
use Rattle.tree_order.specs.RankLaws.{ranked_sorted}
use Rattle.tree_order.proofs.inner.along_widest.Goals as goal

pub returns : goal.returns
unfolding along_widest
returns c =
    let x = c.put_ranks in
    let z = c.in_order in
    let even : length z.new.distances ≡ length z.new.places = omega arith in
    c.put_places.ensures
    ∙ ap (map place_of) (sym (paired_places z.new.distances z.new.places even))
    ∙ ap (λ (hs : List Struck). map place_of (places_of hs)) z.ensures
    ∙ rw (x.ensures, ← c.spread.ensures, ← c.widest-axis.ensures)
    (ranked_sorted (key_on c.args.points.now _) c.args.points.now c.args.run.now c.requires.0.few c.requires.1)
