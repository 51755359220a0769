-- `tree_walk::inner::span_collect` meets its contract. The loop's invariant: the first m of the two lists are what the triangles of the span before place k come to.
use mathlib.Core.Path.{refl, ap, ◌∙◌}
use native.Mathlib.Omega.{arith}
use lib.ListN.{length-set}
use Rattle.hits.specs.PairedLaws.{stored}
use Rattle.tree_walk.specs.Collect.{came}
use Rattle.tree_walk.proofs.Going.{span_room, collect_clear, collect_dark, collect_ends}
use Rattle.tree_walk.proofs.inner.span_collect.Goals as goal

pub returns-then-stops_light : goal.returns-then-stops_light
returns-then-stops_light c =
    let at = c.loop-j.invariant in
    (collect_dark _ _ _ _ _ _ _ _ _ at.from at.met _ _ c.in-Some.ensures _ c.kind_at.ensures c.if-stops_light.ensures _ refl, tt)

pub bounds-distances-m : goal.bounds-distances-m
bounds-distances-m c =
    let at = c.loop-j.invariant in
    rw c.loop-j.auto.distances (span_room _ _ _ _ _ _ _ c.requires.span_fits _ _ _ at.from c.in-Some.ensures _ c.kind_at.ensures c.if-stops_light.ensures _ _ _ _ c.requires.room_for at.few).0

pub bounds-places-m : goal.bounds-places-m
bounds-places-m c =
    let at = c.loop-j.invariant in
    rw c.loop-j.auto.places (span_room _ _ _ _ _ _ _ c.requires.span_fits _ _ _ at.from c.in-Some.ensures _ c.kind_at.ensures c.if-stops_light.ensures _ _ _ _ c.requires.room_for at.few).1

pub loop-j-preserved : goal.loop-j-preserved
loop-j-preserved c =
    let l = c.loop-j in
    let at = l.invariant in
    let first = c.in-Some.ensures in
    let room = span_room _ _ _ _ _ _ _ c.requires.span_fits _ _ _ at.from first _ c.kind_at.ensures c.if-stops_light.ensures _ _ _ _ c.requires.room_for at.few in
    record {
      from = omega (arith, first.0);
      to = omega (arith, first.1);
      few = omega (arith, first.0);
      distances = omega (arith, room.0, l.auto.distances, length-set l.distances l.m c.in-Some.met.hit.t);
      places = omega (arith, room.1, l.auto.places, length-set l.places l.m c.in-Some.met.place);
      met =
          ap came (stored l.distances l.places l.m _ _ (rw l.auto.distances room.0) (rw l.auto.places room.1))
          ∙ collect_clear _ _ _ _ _ _ _ _ _ at.from at.met _ _ first _ c.kind_at.ensures c.if-stops_light.ensures;
    }

pub returns : goal.returns
returns c =
    let at = c.loop-j.invariant in (
      collect_ends _ _ _ _ _ _ _ _ _ at.from at.met _ at.to c.in_default.ensures,
      (omega arith, omega (arith, c.loop-j.auto.distances), omega (arith, c.loop-j.auto.places)),
    )
