-- `scan::inner::transmittance` meets its contract. A hit that stops light is the whole answer; otherwise the product is taken over the places of all hits, each
-- of which stands in the list of uses.
use mathlib.Core.Path.{◌≡◌, sym, ◌∙◌}
use mathlib.Core.Bool.{true}
use native.Mathlib.Omega.{arith}
use Rattle.panels.specs.Panels.{kind_at, stops_light}
use Rattle.scan.specs.OpaqueLaws.{opaque_dark}
use Rattle.scan.proofs.Collected.{collected_none, collected_over, collected_room, collected_more, collected_below, collected_passes}
use Rattle.scan.proofs.inner.transmittance.Goals as goal

pub loop-i-init : goal.loop-i-init
loop-i-init c = record { ahead = λ h. h; within = omega arith; at_most = omega arith; collected = collected_none _ _ _ _ }

pub loop-i-preserved-in-None : goal.loop-i-preserved-in-None
loop-i-preserved-in-None c =
    let at = c.loop-i.invariant in
    record {
      ahead = λ h. h;
      within = omega arith;
      at_most = at.within;
      collected = collected_over _ _ _ _ _ _ at.collected _ (omega (arith, at.ahead c.loop-i-test.true)) c.in-None.ensures;
    }

pub returns-then-stops_light : goal.returns-then-stops_light
returns-then-stops_light c =
    let first = c.in-Some.ensures in
    let dark : stops_light (kind_at c.args.uses.now c.args.kinds.now c.in-Some.met.place) ≡ true =
    rw c.kind_at.ensures at (sym c.stops_light.ensures ∙ c.if-stops_light.true) in
    sym (opaque_dark _ _ _ _ (omega (arith, first.1, c.loop-i.invariant.within)) first.3 dark)

pub bounds-distances-m : goal.bounds-distances-m
bounds-distances-m c =
    let at = c.loop-i in
    (collected_room _ _ _ _ _ _ at.invariant.collected c.requires.sound c.requires.hits_fit at.auto.distances at.auto.places _ at.invariant.within _ c.in-Some.ensures _ c.kind_at.ensures c.if-stops_light.ensures).0

pub bounds-places-m : goal.bounds-places-m
bounds-places-m c =
    let at = c.loop-i in
    (collected_room _ _ _ _ _ _ at.invariant.collected c.requires.sound c.requires.hits_fit at.auto.distances at.auto.places _ at.invariant.within _ c.in-Some.ensures _ c.kind_at.ensures c.if-stops_light.ensures).1

pub loop-i-preserved : goal.loop-i-preserved
loop-i-preserved c =
    let at = c.loop-i in
    let first = c.in-Some.ensures in
    record {
      ahead = λ h. omega (arith, c.min-end.ensures);
      within = omega (arith, c.min-end.ensures);
      at_most = omega (arith, first.1, at.invariant.within);
      collected = collected_more _ _ _ _ _ _ at.invariant.collected c.requires.sound c.requires.hits_fit at.auto.distances at.auto.places _ at.invariant.within _ first _ c.kind_at.ensures c.if-stops_light.ensures;
    }

pub product-requires-clause-by_index_2 : goal.product-requires-clause-by_index_2
product-requires-clause-by_index_2 c =
    let at = c.loop-i in
    let o = c.in_order in
    collected_below _ _ _ _ _ _ at.invariant.collected (omega (arith, at.invariant.at_most)) _ _ o.auto.distances o.auto.places o.ensures _

pub returns : goal.returns
returns c =
    let at = c.loop-i in
    let o = c.in_order in
    c.product.ensures ∙ collected_passes _ _ _ _ _ _ at.invariant.collected (omega (arith, at.invariant.at_most)) _ _ o.auto.distances o.auto.places o.ensures _
