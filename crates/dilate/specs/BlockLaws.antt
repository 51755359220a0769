-- A block, dilated: each step widens by one place what a mark reaches, in one word and in many; and blocks dilated one after the other are the grid dilated
-- along its middle axis.
use Rattle.std.specs.Prelude.{◌≡◌, refl, ◌⊎◌, Bool, true, cond, List, ℕ, zero, suc, ◌+◌, ◌-◌, ◌*◌, ◌/◌, ◌%◌, ◌^◌, ◌≤◌, ◌<◌, max, eqb, length, get_or}
use Rattle.std.proofs.Common.{sym, ap, ap₂, ◌∙◌, subst, inl, inr, arith, zero-mul, suc-mul, mul-le-mul_right, add-mul, mul_assoc, le_refl, ext_get_or, eqb-true, eq-eqb}
use Rattle.std.proofs.Math.Nat.{max-zero}
use Rattle.lists.specs.Fold.{place, inside}
use Rattle.lists.specs.Any.{any_in, any_out}
use Rattle.grid.specs.declared.Axes.{Axes}
use Rattle.grid.specs.Grid.{voxels, index_of, x_of, y_of, z_of}
use Rattle.grid.specs.GridLaws.{index_within_lem, index_of_coordinates, x_within, y_within, z_within}
use Rattle.words.specs.Words.{bit_of, bit_at, entries_of, Tidy, Holds}
use Rattle.words.specs.BitLaws.{alike, below_or_from, low_bit, bit_shifted}
use Rattle.words.specs.WordsLaws.{bit_says, bit_at_lt, entries_length, entries_at, clean_bits, bits_clean}
use Rattle.dilate.specs.Active.{active_of}
use Rattle.dilate.specs.ActiveLaws.{near_out, near_in}
use Rattle.dilate.specs.ByAxes.{line_has, dilate_middle, middle_x, middle_z, dilate_by_axes}
use Rattle.dilate.specs.ByAxesLaws.{middle_length, middle_entry_lem, voxels_x, voxels_z, dilated_mask}
use Rattle.dilate.specs.ByBlocks.{above_word, below_word, Run, Ored, Merged, FromAbove, FromBelow, MarkedNear, SpreadTo, BlockSpread, BlockDilated, BlocksDilated}
use Rattle.dilate.specs.RunLaws.{max_one_left, max_one_right, one_of_max, or_bit, no_high_bit, up_bit, up_none}

-- ---- what a mark reaches

module _ (s m : ℕ) (f : ℕ → ℕ) where
  pub spread_none : SpreadTo s m 0 0 f f
  spread_none =
      record {
        marked_near = λ r c hr hc e. (c, hc, omega arith, omega arith, e);
        near_marked = λ r c hr hc n. let k : n.0 ≡ c = omega (arith, n.2, n.3) in sym (ap (λ (x : ℕ). f (x * s + r)) k) ∙ n.4;
      }

  module _ (a b : ℕ) (g h : ℕ → ℕ) (bits : (j : ℕ) → g j < 2) (old : SpreadTo s m a b f g) where
    -- one place further down
    pub spread_above : FromAbove s m g h → SpreadTo s m (a + 1) b f h
    spread_above step =
        record {
          marked_near = λ r c hr hc e. go r c hr hc e (below_or_from (c * s + r + s) m);
          near_marked = λ r c hr hc n. back r c hr hc n (below_or_from (c + a) n.0);
        }
      where
        up : (r c : ℕ) → c * s + r + s ≡ suc c * s + r
        up r c = omega (arith, suc-mul c s)

        wider : (r c : ℕ) → MarkedNear f s m a b r c → MarkedNear f s m (a + 1) b r c
        wider r c n = (n.0, n.1, omega (arith, n.2), n.3, n.4)

        go : (r c : ℕ) → r < s → c * s + r < m → h (c * s + r) ≡ 1 → (c * s + r + s < m) ⊎ (m ≤ c * s + r + s) → MarkedNear f s m (a + 1) b r c
        go r c hr hc e (inr p) = wider r c (old.marked_near r c hr hc (sym (step.last (c * s + r) hc p) ∙ e))
        go r c hr hc e (inl p) = which (one_of_max (g (c * s + r)) (g (c * s + r + s)) (bits (c * s + r)) (sym (step.taken (c * s + r) p) ∙ e))
          where
            which : (g (c * s + r) ≡ 1) ⊎ (g (c * s + r + s) ≡ 1) → MarkedNear f s m (a + 1) b r c
            which (inl q) = wider r c (old.marked_near r c hr hc q)
            which (inr q) =
                let n : MarkedNear f s m a b r (suc c) = old.marked_near r (suc c) hr (omega (arith, up r c)) (sym (ap g (up r c)) ∙ q) in
                (n.0, n.1, omega (arith, n.2), omega (arith, n.3), n.4)

        -- marked here, marked after
        stays : (r c : ℕ) → c * s + r < m → g (c * s + r) ≡ 1 → (c * s + r + s < m) ⊎ (m ≤ c * s + r + s) → h (c * s + r) ≡ 1
        stays r c hc q (inr p) = step.last (c * s + r) hc p ∙ q
        stays r c hc q (inl p) = step.taken (c * s + r) p ∙ max_one_left (g (c * s + r)) (g (c * s + r + s)) (bits (c * s + r + s)) q

        back : (r c : ℕ) → r < s → c * s + r < m → (n : MarkedNear f s m (a + 1) b r c) → (c + a < n.0) ⊎ (n.0 ≤ c + a) → h (c * s + r) ≡ 1
        back r c hr hc n (inr p) = stays r c hc (old.near_marked r c hr hc (n.0, n.1, p, n.3, n.4)) (below_or_from (c * s + r + s) m)
        back r c hr hc n (inl p) =
            let le : suc c ≤ n.0 = omega arith in
            let hs : suc c * s + r < m = omega (arith, n.1, mul-le-mul_right s le) in
            let q : g (suc c * s + r) ≡ 1 = old.near_marked r (suc c) hr hs (n.0, n.1, omega (arith, n.2), omega arith, n.4) in
            step.taken (c * s + r) (omega (arith, up r c)) ∙ max_one_right (g (c * s + r)) (g (c * s + r + s)) (bits (c * s + r)) (ap g (up r c) ∙ q)

    -- one place further up
    pub spread_below : FromBelow s m g h → SpreadTo s m a (b + 1) f h
    spread_below step = record { marked_near = go; near_marked = λ r c hr hc n. back r c hr hc n (below_or_from (n.0 + b) c) }
      where
        up : (r c : ℕ) → suc c * s + r ≡ c * s + r + s
        up r c = omega (arith, suc-mul c s)

        low : (r : ℕ) → r < s → 0 * s + r < s
        low r h = omega (arith, zero-mul s)

        wider : (r c : ℕ) → MarkedNear f s m a b r c → MarkedNear f s m a (b + 1) r c
        wider r c n = (n.0, n.1, n.2, omega (arith, n.3), n.4)

        go : (r c : ℕ) → r < s → c * s + r < m → h (c * s + r) ≡ 1 → MarkedNear f s m a (b + 1) r c
        go r zero hr hc e = wider r 0 (old.marked_near r 0 hr hc (sym (step.first (0 * s + r) hc (low r hr)) ∙ e))
        go r (suc c) hr hc e = which (one_of_max (g (c * s + r + s)) (g (c * s + r)) (bits (c * s + r + s)) (sym (step.taken (c * s + r) (omega (arith, up r c))) ∙ sym (ap h (up r c)) ∙ e))
          where
            which : (g (c * s + r + s) ≡ 1) ⊎ (g (c * s + r) ≡ 1) → MarkedNear f s m a (b + 1) r (suc c)
            which (inl q) = wider r (suc c) (old.marked_near r (suc c) hr hc (ap g (up r c) ∙ q))
            which (inr q) =
                let n : MarkedNear f s m a b r c = old.marked_near r c hr (omega (arith, up r c)) q in
                (n.0, n.1, omega (arith, n.2), omega (arith, n.3), n.4)

        stays : (r c : ℕ) → r < s → c * s + r < m → g (c * s + r) ≡ 1 → h (c * s + r) ≡ 1
        stays r zero hr hc q = step.first (0 * s + r) hc (low r hr) ∙ q
        stays r (suc c) hr hc q =
            ap h (up r c) ∙ step.taken (c * s + r) (omega (arith, up r c)) ∙ max_one_left (g (c * s + r + s)) (g (c * s + r)) (bits (c * s + r)) (sym (ap g (up r c)) ∙ q)

        back : (r c : ℕ) → r < s → c * s + r < m → (n : MarkedNear f s m a (b + 1) r c) → (n.0 + b < c) ⊎ (c ≤ n.0 + b) → h (c * s + r) ≡ 1
        back r c hr hc n (inr p) = stays r c hr hc (old.near_marked r c hr hc (n.0, n.1, n.2, p, n.4))
        back r zero hr hc n (inl p) = absurd (omega arith)
        back r (suc c) hr hc n (inl p) =
            let q : g (c * s + r) ≡ 1 = old.near_marked r c hr (omega (arith, up r c)) (n.0, n.1, omega arith, omega (arith, n.3), n.4) in
            ap h (up r c) ∙ step.taken (c * s + r) (omega (arith, up r c)) ∙ max_one_right (g (c * s + r + s)) (g (c * s + r)) (bits (c * s + r + s)) q

-- of the same bits
pub spread_same : (s m a b : ℕ) (f g f' g' : ℕ → ℕ) → ((j : ℕ) → j < m → f j ≡ f' j) → ((j : ℕ) → j < m → g j ≡ g' j) → SpreadTo s m a b f g → SpreadTo s m a b f' g'
spread_same s m a b f g f' g' p q old =
    record {
      marked_near = λ r c hr hc e. let n = old.marked_near r c hr hc (q (c * s + r) hc ∙ e) in (n.0, n.1, n.2, n.3, sym (p (n.0 * s + r) n.1) ∙ n.4);
      near_marked = λ r c hr hc n. sym (q (c * s + r) hc) ∙ old.near_marked r c hr hc (n.0, n.1, n.2, n.3, p (n.0 * s + r) n.1 ∙ n.4);
    }

-- ---- a block of one word's bits

module _ (s m v : ℕ) (z : (j : ℕ) → m ≤ j → bit_of v j ≡ 0) where
  shifted_down : (j : ℕ) → bit_of (above_word s v) j ≡ max (bit_of v j) (bit_of v (j + s))
  shifted_down j = let e : s + j ≡ j + s = omega arith in or_bit v (v / 2 ^ s) j ∙ ap (max (bit_of v j)) (bit_shifted v s j ∙ ap (bit_of v) e)

  pub word_above : FromAbove s m (bit_of v) (bit_of (above_word s v))
  word_above =
      record {
        taken = λ j h. shifted_down j;
        last = λ j h k. shifted_down j ∙ ap (max (bit_of v j)) (z (j + s) k) ∙ max-zero (bit_of v j);
      }

  pub word_above_beyond : (j : ℕ) → m ≤ j → bit_of (above_word s v) j ≡ 0
  word_above_beyond j h = shifted_down j ∙ ap₂ max (z j h) (z (j + s) (omega arith))

-- with any bits from m on
pub word_below : (s m v : ℕ) → m ≤ 64 → FromBelow s m (bit_of v) (bit_of (below_word s v))
word_below s m v l =
    record {
      taken = λ j h.
          let e : j + s ≡ s + j = omega arith in
          or_bit v (v * 2 ^ s % 2 ^ 64) (j + s)
          ∙ ap (max (bit_of v (j + s))) (ap (bit_of (v * 2 ^ s % 2 ^ 64)) e ∙ up_bit v s j (omega arith));
      first = λ j h k. or_bit v (v * 2 ^ s % 2 ^ 64) j ∙ ap (max (bit_of v j)) (up_none v s j k) ∙ max-zero (bit_of v j);
    }

-- and cut to the block
pub word_cut : (s m a b v w : ℕ) {r : ℕ} → SpreadTo s m a b (bit_of v) (bit_of w) → r ≡ w % 2 ^ m → SpreadTo s m a b (bit_of v) (bit_of r)
word_cut s m a b v w {r} old e =
    spread_same s m a b (bit_of v) (bit_of w) (bit_of v) (bit_of r) (λ j h. refl) (λ j h. sym (ap (λ (x : ℕ). bit_of x j) e ∙ low_bit w m j h)) old

pub word_beyond : (m w : ℕ) {r : ℕ} → r ≡ w % 2 ^ m → (j : ℕ) → m ≤ j → bit_of r j ≡ 0
word_beyond m w e j h = ap (λ (x : ℕ). bit_of x j) e ∙ no_high_bit w m j h

-- in the words
pub block_by_word : (before after : List ℕ) (o s m bits marks : ℕ) → Run before o m bits → SpreadTo s m 2 2 (bit_of bits) (bit_of marks) → ((j : ℕ) → m ≤ j → bit_of marks j ≡ 0)
    → Ored before after o marks → BlockDilated before after o s m
block_by_word before after o s m bits marks run old z set =
    record {
      spread = record {
        marked_near = λ r c hr hc e.
            go r c hr hc (one_of_max (bit_at before (o + (c * s + r))) (bit_of marks (c * s + r)) (bit_at_lt before (o + (c * s + r))) (sym (set.there (c * s + r)) ∙ e));
        near_marked = λ r c hr hc n.
            set.there (c * s + r)
            ∙ max_one_right (bit_at before (o + (c * s + r))) (bit_of marks (c * s + r)) (bit_at_lt before (o + (c * s + r)))
            (old.near_marked r c hr hc (n.0, n.1, n.2, n.3, run.there (n.0 * s + r) n.1 ∙ n.4));
      };
      below = set.below;
      above = λ x h.
          let d : o + (x - o) ≡ x = omega arith in
          sym (ap (bit_at after) d) ∙ set.there (x - o) ∙ ap₂ max (ap (bit_at before) d) (z (x - o) (omega arith)) ∙ max-zero (bit_at before x);
    }
  where
    go : (r c : ℕ) → r < s → c * s + r < m → (bit_at before (o + (c * s + r)) ≡ 1) ⊎ (bit_of marks (c * s + r) ≡ 1) → MarkedNear (λ j. bit_at before (o + j)) s m 2 2 r c
    go r c hr hc (inl e) = (c, hc, omega arith, omega arith, e)
    go r c hr hc (inr e) = let n = old.marked_near r c hr hc e in (n.0, n.1, n.2, n.3, sym (run.there (n.0 * s + r) n.1) ∙ n.4)

-- ---- a block of more

module _ (before after : List ℕ) (o s n : ℕ) where
  merged_above : Merged before after o (o + s) 0 n → FromAbove s (s + n) (λ j. bit_at before (o + j)) (λ j. bit_at after (o + j))
  merged_above m =
      record {
        taken = λ j h. let e : o + s + j ≡ o + (j + s) = omega arith in m.taken j (omega arith) (omega arith) ∙ ap (λ (x : ℕ). max (bit_at before (o + j)) (bit_at before x)) e;
        last = λ j h k. m.above (o + j) (omega arith);
      }

  merged_below : Merged before after (o + s) o 0 n → FromBelow s (s + n) (λ j. bit_at before (o + j)) (λ j. bit_at after (o + j))
  merged_below m =
      record {
        taken = λ j h.
            let e : o + s + j ≡ o + (j + s) = omega arith in
            sym (ap (bit_at after) e) ∙ m.taken j (omega arith) (omega arith) ∙ ap (λ (x : ℕ). max (bit_at before x) (bit_at before (o + j))) e;
        first = λ j h k. m.below (o + j) (omega arith);
      }

pub block_none : (words : List ℕ) (o s m : ℕ) → BlockSpread words words o s m 0 0
block_none words o s m = record { spread = spread_none s m (λ j. bit_at words (o + j)); below = λ x h. refl; above = λ x h. refl }

module _ (before now after : List ℕ) (o s n a b : ℕ) (old : BlockSpread before now o s (s + n) a b) where
  pub block_above : Merged now after o (o + s) 0 n → BlockSpread before after o s (s + n) (a + 1) b
  block_above m =
      record {
        spread =
            spread_above s (s + n) (λ j. bit_at before (o + j)) a b (λ j. bit_at now (o + j)) (λ j. bit_at after (o + j)) (λ j. bit_at_lt now (o + j)) old.spread
            (merged_above now after o s n m);
        below = λ x h. m.below x (omega arith) ∙ old.below x h;
        above = λ x h. m.above x (omega arith) ∙ old.above x h;
      }

  pub block_below : Merged now after (o + s) o 0 n → BlockSpread before after o s (s + n) a (b + 1)
  block_below m =
      record {
        spread =
            spread_below s (s + n) (λ j. bit_at before (o + j)) a b (λ j. bit_at now (o + j)) (λ j. bit_at after (o + j)) (λ j. bit_at_lt now (o + j)) old.spread
            (merged_below now after o s n m);
        below = λ x h. m.below x (omega arith) ∙ old.below x h;
        above = λ x h. m.above x (omega arith) ∙ old.above x h;
      }

-- ---- one block after the other

pub blocks_none : (words : List ℕ) (s m : ℕ) → BlocksDilated words words s m 0
blocks_none words s m = record { spread = λ b h. absurd (omega arith); above = λ x h. refl }

pub blocks_next : (before now after : List ℕ) (s m k : ℕ) → BlocksDilated before now s m k → BlockDilated now after (k * m) s m → BlocksDilated before after s m (k + 1)
blocks_next before now after s m k old new =
    record {
      spread = λ b h. go b h (below_or_from b k);
      above = λ x h. new.above x (omega (arith, next)) ∙ old.above x (omega (arith, next));
    }
  where
    next : (k + 1) * m ≡ k * m + m
    next = let e : k + 1 ≡ suc k = omega arith in ap (λ (x : ℕ). x * m) e ∙ suc-mul k m

    go : (b : ℕ) → b < k + 1 → (b < k) ⊎ (k ≤ b) → SpreadTo s m 2 2 (λ j. bit_at before (b * m + j)) (λ j. bit_at after (b * m + j))
    go b h (inl p) =
        spread_same s m 2 2 (λ j. bit_at before (b * m + j)) (λ j. bit_at now (b * m + j)) (λ j. bit_at before (b * m + j)) (λ j. bit_at after (b * m + j))
        (λ j q. refl) (λ j q. sym (new.below (b * m + j) (omega (arith, suc-mul b m, mul-le-mul_right m p)))) (old.spread b p)
    go b h (inr p) =
        let e : k ≡ b = omega arith in
        spread_same s m 2 2 (λ j. bit_at now (k * m + j)) (λ j. bit_at after (k * m + j)) (λ j. bit_at before (b * m + j)) (λ j. bit_at after (b * m + j))
        (λ j q. old.above (k * m + j) (omega arith) ∙ ap (λ (x : ℕ). bit_at before (x * m + j)) e) (λ j q. ap (λ (x : ℕ). bit_at after (x * m + j)) e) new.spread

-- lines of one place are dilated as they are
pub blocks_single : (words : List ℕ) (s k : ℕ) → BlocksDilated words words s s k
blocks_single words s k =
    record {
      spread = λ b h. record {
        marked_near = λ r c hr hc e. (c, hc, omega arith, omega arith, e);
        near_marked = λ r c hr hc n. sym (ap (λ (x : ℕ). bit_at words (b * s + (x * s + r))) (only r n.0 n.1 ∙ sym (only r c hc))) ∙ n.4;
      };
      above = λ x h. refl;
    }
  where
    only : (r c : ℕ) → c * s + r < s → c ≡ 0
    only r zero h = refl
    only r (suc c) h = absurd (omega (arith, suc-mul c s))

-- a block has all places of its lines, and lies in the grid
pub block_whole : (view : Axes) → 0 < view.height → view.width + (view.height - 1) * view.width ≡ view.height * view.width
block_whole view h =
    let e : view.height ≡ suc (view.height - 1) = omega arith in
    let n : ℕ = view.height - 1 in
    omega (arith, suc-mul n view.width) ∙ sym (ap (λ (x : ℕ). x * view.width) e)

pub block_inside : (view : Axes) (m k : ℕ) → m ≡ view.height * view.width → k < view.depth → k * m + m ≤ voxels view
block_inside view m k whole h =
    let e : view.depth * m ≡ view.depth * (view.height * view.width) = ap (λ (x : ℕ). view.depth * x) whole in
    omega (arith, inside k view.depth m m h (le_refl m), mul_assoc view.depth view.height view.width)

-- all blocks of a grid
module _ (view : Axes) (before after : List ℕ) (m : ℕ) (whole : m ≡ view.height * view.width) (pw : 0 < view.width) (ph : 0 < view.height) (t : Tidy before (voxels view)) where
  abbrev entries : List ℕ
  entries = entries_of before (voxels view)

  in_block : (r c o : ℕ) → o * m + (c * view.width + r) ≡ index_of view r c o
  in_block r c o =
      let e : o * m ≡ o * (view.height * view.width) = ap (λ (x : ℕ). o * x) whole in
      omega (arith, add-mul (o * view.height) c view.width, mul_assoc o view.height view.width)

  module _ (new : BlocksDilated before after view.width m view.depth) where
    block_entry : (r c o : ℕ) → r < view.width → c < view.height → o < view.depth → bit_at after (index_of view r c o) ≡ cond (line_has view entries r c o) 1 0
    block_entry r c o hr hc ho =
        sym (bit_says (bit_at after (index_of view r c o)) (bit_at_lt after (index_of view r c o)))
        ∙ ap (λ (b : Bool). cond {A = ℕ} b 1 0) (alike (eqb (bit_at after (index_of view r c o)) 1) (line_has view entries r c o) there back)
      where
        here : c * view.width + r < m
        here = omega (arith, whole, place {a = c} {m = view.height} {b = r} {n = view.width} hc hr)

        on_line : (k : ℕ) → k * view.width + r < m → k < view.height
        on_line k h = go (below_or_from k view.height)
          where
            go : (k < view.height) ⊎ (view.height ≤ k) → k < view.height
            go (inl p) = p
            go (inr p) = absurd (omega (arith, whole, mul-le-mul_right view.width p))

        entry : (k : ℕ) → k < view.height → get_or entries (index_of view r k o) 0 ≡ bit_at before (o * m + (k * view.width + r))
        entry k h = entries_at before (voxels view) (index_of view r k o) (index_within_lem view r k o hr h ho) ∙ sym (ap (bit_at before) (in_block r k o))

        there : eqb (bit_at after (index_of view r c o)) 1 ≡ true → line_has view entries r c o ≡ true
        there e =
            let n = (new.spread o ho).marked_near r c hr here (ap (bit_at after) (in_block r c o) ∙ eqb-true (bit_at after (index_of view r c o)) 1 e) in
            let hk : n.0 < view.height = on_line n.0 n.1 in
            any_in _ view.height 0 n.0 (omega arith) (omega arith) (near_in n.0 c (eq-eqb (get_or entries (index_of view r n.0 o) 0) 1 (entry n.0 hk ∙ n.4)) n.2 n.3)

        back : line_has view entries r c o ≡ true → eqb (bit_at after (index_of view r c o)) 1 ≡ true
        back e =
            let a = any_out _ view.height 0 e in
            let k : ℕ = a.0 in
            let hk : k < view.height = omega (arith, a.2) in
            let inside : k * view.width + r < m = omega (arith, whole, place {a = k} {m = view.height} {b = r} {n = view.width} hk hr) in
            let p = near_out k c a.3 in
            let one : bit_at before (o * m + (k * view.width + r)) ≡ 1 = sym (entry k hk) ∙ eqb-true (get_or entries (index_of view r k o) 0) 1 p.0 in
            eq-eqb (bit_at after (index_of view r c o)) 1 (sym (ap (bit_at after) (in_block r c o)) ∙ (new.spread o ho).near_marked r c hr here (k, inside, p.1, p.2, one))

    pub blocks_middle : length after ≡ length before → Holds after (voxels view) (dilate_middle view entries)
    blocks_middle l =
        record {
          tidy = record {
            long = l ∙ t.long;
            clean = bits_clean after (voxels view) (λ i h. new.above i (omega (arith, rest, h)) ∙ clean_bits before (voxels view) t i h);
          };
          same =
              ext_get_or 0 (entries_of after (voxels view)) (dilate_middle view entries) (entries_length after (voxels view) ∙ sym (middle_length view entries)) (λ i h.
              at i (omega (arith, entries_length after (voxels view))));
        }
      where
        rest : view.depth * m ≡ voxels view
        rest = ap (λ (x : ℕ). view.depth * x) whole ∙ sym (mul_assoc view.depth view.height view.width)

        at : (i : ℕ) → i < voxels view → get_or (entries_of after (voxels view)) i 0 ≡ get_or (dilate_middle view entries) i 0
        at i h =
            let hx = x_within view i pw in
            let hy = y_within view i ph in
            let hz = z_within view i pw ph h in
            entries_at after (voxels view) i h ∙ ap (bit_at after) (sym (index_of_coordinates view i))
            ∙ block_entry (x_of view i) (y_of view i) (z_of view i) hx hy hz
            ∙ sym (middle_entry_lem view entries (x_of view i) (y_of view i) (z_of view i) hx hy hz)
            ∙ ap (λ (x : ℕ). get_or (dilate_middle view entries) x 0) (index_of_coordinates view i)

-- ---- along x, then y, then z

module _ (axes : Axes) (w : List ℕ) where
  pub tidy_x : Tidy w (voxels axes) → Tidy w (voxels (middle_x axes))
  tidy_x t = subst (Tidy w) (sym (voxels_x axes)) t

  pub tidy_z : Tidy w (voxels axes) → Tidy w (voxels (middle_z axes))
  tidy_z t = subst (Tidy w) (sym (voxels_z axes)) t

  pub along_x_lem : {w1 : List ℕ} → Holds w1 (voxels (middle_x axes)) (dilate_middle (middle_x axes) (entries_of w (voxels (middle_x axes))))
      → Holds w1 (voxels axes) (dilate_middle (middle_x axes) (entries_of w (voxels axes)))
  along_x_lem {w1} h = subst (λ (n : ℕ). Holds w1 n (dilate_middle (middle_x axes) (entries_of w n))) (voxels_x axes) h

  pub along_z_lem : {w1 : List ℕ} → Holds w1 (voxels (middle_z axes)) (dilate_middle (middle_z axes) (entries_of w (voxels (middle_z axes))))
      → Holds w1 (voxels axes) (dilate_middle (middle_z axes) (entries_of w (voxels axes)))
  along_z_lem {w1} h = subst (λ (n : ℕ). Holds w1 n (dilate_middle (middle_z axes) (entries_of w n))) (voxels_z axes) h

pub along_all : (axes : Axes) (w w1 w2 : List ℕ) {w3 : List ℕ}
    → Holds w1 (voxels axes) (dilate_middle (middle_x axes) (entries_of w (voxels axes)))
    → Holds w2 (voxels axes) (dilate_middle axes (entries_of w1 (voxels axes)))
    → Holds w3 (voxels axes) (dilate_middle (middle_z axes) (entries_of w2 (voxels axes)))
    → Holds w3 (voxels axes) (dilate_by_axes axes (entries_of w (voxels axes)))
unfolding dilate_by_axes
along_all axes w w1 w2 x y z =
    record {
      tidy = z.tidy;
      same = z.same ∙ ap (dilate_middle (middle_z axes)) (y.same ∙ ap (dilate_middle axes) x.same);
    }

-- the axes of a mask in words that is a copy of another
pub along_axes : (axes : Axes) (occupied : List ℕ) → 0 < axes.width → 0 < axes.height → {copy after : List ℕ} → copy ≡ occupied
    → Holds after (voxels axes) (dilate_by_axes axes (entries_of copy (voxels axes))) → Holds after (voxels axes) (active_of axes (entries_of occupied (voxels axes)))
along_axes axes occupied pw ph e h =
    record {
      tidy = h.tidy;
      same = h.same ∙ ap (λ (l : List ℕ). dilate_by_axes axes (entries_of l (voxels axes))) e ∙ dilated_mask axes (entries_of occupied (voxels axes)) pw ph;
    }
