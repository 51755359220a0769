-- The same of results of the public call tree_bake: answer, volume and scratch are bit for bit the same, and where no ray is fired the lists of hits too. Document 02, C-20,
-- has demand 3 of a bake through a tree, "the tree handed on unchanged". It need not be: calls each with an accepted tree of its own are calls with any one of them.
use Rattle.std.specs.Prelude.{◌≡◌, refl, true, false, List, [], ◌∷◌, map, ℕ, length, Float}
use Rattle.std.proofs.Common.{sym, ap, ◌∙◌}
use Rattle.names.specs.Numbers.{voxel_cost}
use Rattle.names.specs.Scene.{tree_scene}
use Rattle.grid.specs.declared.Axes.{Axes}
use Rattle.grid.specs.declared.Corners.{Corners}
use Rattle.limits.specs.declared.Light.{Light}
use Rattle.limits.specs.declared.Ambient.{Ambient}
use Rattle.limits.specs.Limits.{lamp_count}
use Rattle.tree.specs.Tree.{AcceptedTree}
use Rattle.spread.specs.Spread.{Stage, Called, EachAtLeast, NoneRefused}
use Rattle.intake.specs.Intake.{BakeInput, input_of}
use Rattle.intake.specs.IntakeLaws.{fits, none_refused}
use Rattle.demand.specs.Bake.{bake_call}
use Rattle.demand.specs.Calls.{answers_refusal}
use Rattle.bake.specs.declared.BakeAnswer.{BakeAnswer}
use Rattle.bake.specs.Baked.{Baked}
use Rattle.bake.specs.BakedLaws.{SameBaked, baked_once}
use Rattle.bake.specs.Results.{Result, handed_on, Successive, allowances_of, refusals_of, DemandOfResults}
use Rattle.bake.specs.ResultsLaws.{demand_of_results}
use Rattle.tree_alike.specs.BakeUnread.{call_unread}
use Rattle.tree_alike.specs.RefusalsAlike.{bake_refusals_alike}

module _ (axes : Axes) (corners : Corners) (points : List Float) (uses kinds : List ℕ) (numbers : List Float) (light : Light) (ambient : Ambient) (sky lamps : List Float) (active : List ℕ)
    (lights : List Float) where
  -- what a call through this tree is handed, with hit lists so long
  abbrev pub through_tree : List Float → List ℕ → List ℕ → ℕ → ℕ → BakeInput
  through_tree boxes nodes order distances places =
      input_of axes corners (tree_scene points uses kinds numbers boxes nodes order) light ambient sky lamps active lights distances places

  -- the tree of a call that is not refused is accepted
  pub bake_tree_accepted : (boxes : List Float) (nodes order : List ℕ) (distances places : ℕ) (s : Stage Float) (a : ℕ) (r : BakeAnswer) (v x d d' : List Float) (p p' : List ℕ)
      → Baked (through_tree boxes nodes order distances places) s a r v x d d' p p' → r.refusal ≡ 0 → AcceptedTree points boxes nodes order
  bake_tree_accepted boxes nodes order distances places s a r v x d d' p p' f z =
      let i = through_tree boxes nodes order distances places in
      (fits i s a ((none_refused i s a).0 (sym (answers_refusal i s a) ∙ sym f.refusal ∙ z))).tree refl

  module _ (boxes boxes' : List Float) (nodes order nodes' order' : List ℕ) (accepted : AcceptedTree points boxes nodes order) (accepted' : AcceptedTree points boxes' nodes' order')
      (distances places : ℕ) where
    abbrev one : BakeInput
    one = through_tree boxes nodes order distances places

    abbrev other : BakeInput
    other = through_tree boxes' nodes' order' distances places

    -- a call comes to the same
    pub calls_alike : (s : Stage Float) (a : ℕ) → bake_call one s a ≡ bake_call other s a
    calls_alike s a =
        call_unread true points uses kinds numbers boxes boxes' nodes order nodes' order' false axes corners light ambient sky lamps active lights distances places s a
        (bake_refusals_alike points uses kinds numbers boxes boxes' nodes order nodes' order' accepted accepted' axes corners light ambient sky lamps active lights distances places s a)

    -- whatever a call through the one tree comes to, a call through the other may come to
    pub bake_through_either : (s : Stage Float) (a : ℕ) (r : BakeAnswer) (v x d d' : List Float) (p p' : List ℕ) → Baked other s a r v x d d' p p' → Baked one s a r v x d d' p p'
    bake_through_either s a r v x d d' p p' f =
        let e = sym (calls_alike s a) in
        record {
          refusal = f.refusal ∙ ap (λ (c : Called Float). c.refusal) e;
          progress = f.progress ∙ ap (λ (c : Called Float). c.stage.progress) e;
          rays = f.rays ∙ ap (λ (c : Called Float). c.rays) e;
          volume = f.volume ∙ ap (λ (c : Called Float). c.stage.volume) e;
          scratch = f.scratch ∙ ap (λ (c : Called Float). c.stage.scratch) e;
          hits = f.hits;
          distances_long_is = f.distances_long_is;
          places_long_lem = f.places_long_lem;
        }

    -- and it comes to one thing
    pub trees_bake : (s : Stage Float) (a : ℕ) (d : List Float) (p : List ℕ) (r r' : BakeAnswer) (v v' x x' e e' : List Float) (q q' : List ℕ)
        → Baked one s a r v x d e p q
        → Baked other s a r' v' x' d e' p q'
        → SameBaked r r' v v' x x' e e' q q'
    trees_bake s a d p r r' v v' x x' e e' q q' f g = baked_once one s a d p r r' v v' x x' e e' q q' f (bake_through_either s a r' v' x' d e' p q' g)

  -- ---- spread over calls each with a tree of its own

  -- a call's tree and its result
  pub record TreeResult : Type 0 where
    pub boxes : List Float
    pub nodes : List ℕ
    pub order : List ℕ
    pub result : Result

  -- results of calls from the stage s on with the hit lists d and p, each through its own tree: each satisfies the public contract, and is handed on to the next, all
  -- else unchanged
  abbrev pub ThroughTrees : Stage Float → List Float → List ℕ → List TreeResult → Type 0
  ThroughTrees s d p [] = Unit
  ThroughTrees s d p (t ∷ rest) =
      let c = t.result in
      Baked (through_tree t.boxes t.nodes t.order (length d) (length p)) s c.allowance c.answer c.volume c.scratch d c.distances p c.places
      × ThroughTrees (handed_on c) c.distances c.places rest

  abbrev pub EachTreeAccepted : List TreeResult → Type 0
  EachTreeAccepted [] = Unit
  EachTreeAccepted (t ∷ rest) = AcceptedTree points t.boxes t.nodes t.order × EachTreeAccepted rest

  abbrev pub results_of : List TreeResult → List Result
  results_of results = map (λ (t : TreeResult). t.result) results

  -- where no call is refused each tree is accepted
  pub unrefused_trees : (s : Stage Float) (d : List Float) (p : List ℕ) (results : List TreeResult) → ThroughTrees s d p results → NoneRefused (refusals_of (results_of results))
      → EachTreeAccepted results
  unrefused_trees s d p [] h n = tt
  unrefused_trees s d p (t ∷ rest) h n =
      let c = t.result in (
        bake_tree_accepted t.boxes t.nodes t.order (length d) (length p) s c.allowance c.answer c.volume c.scratch d c.distances p c.places h.0 n.0,
        unrefused_trees (handed_on c) c.distances c.places rest h.1 n.1,
      )

  module _ (boxes : List Float) (nodes order : List ℕ) (accepted : AcceptedTree points boxes nodes order) where
    -- they are results of calls through any one accepted tree
    pub trees_successive : (distances places : ℕ) (s : Stage Float) (d : List Float) (p : List ℕ) (results : List TreeResult) → ThroughTrees s d p results → EachTreeAccepted results
        → Successive (through_tree boxes nodes order distances places) s d p (results_of results)
    trees_successive distances places s d p [] h n = tt
    trees_successive distances places s d p (t ∷ rest) h n =
        let c = t.result in (
          bake_through_either boxes t.boxes nodes order t.nodes t.order accepted n.0 (length d) (length p) s c.allowance c.answer c.volume c.scratch d c.distances p c.places h.0,
          trees_successive distances places (handed_on c) c.distances c.places rest h.1 n.1,
        )

    -- so they do what demand 3 asks of calls through that tree, the first one's or another: at the end they have its unbroken bake bit for bit
    pub demand_of_trees : (s : Stage Float) (d : List Float) (p : List ℕ) (first : TreeResult) (rest : List TreeResult) → ThroughTrees s d p (first ∷ rest)
        → EachTreeAccepted (first ∷ rest)
        → s.progress.next ≡ 0
        → EachAtLeast (voxel_cost (lamp_count lamps)) (allowances_of (results_of (first ∷ rest)))
        → first.result.answer.refusal ≡ 0
        → DemandOfResults (through_tree boxes nodes order (length d) (length p)) s first.result (results_of rest)
    demand_of_trees s d p first rest h n o m r =
        demand_of_results (through_tree boxes nodes order (length d) (length p)) s d p first.result (results_of rest) (trees_successive (length d) (length p) s d p (first ∷ rest) h n) o m r
