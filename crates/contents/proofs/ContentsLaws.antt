-- What good contents say: which entries may stand where, that the five required ones stand first, and where the bodies then lie.
use Rattle.std.specs.Prelude.{◌≡◌, refl, Bool, true, false, cond, ◌&&◌, List, ℕ, zero, suc, ◌+◌, ◌-◌, ◌*◌, ◌<◌, ◌≤◌, leb, ltb, eqb, length}
use Rattle.std.proofs.Common.{sym, ◌∙◌, arith, eqb-true, leb-true, ltb-true, eq-eqb, le-leb, lt-ltb, ne_eqb}
use Rattle.std.proofs.lemmas.Bool.{false≢true}
use Rattle.std.proofs.Math.Bool.{and-eq-true_iff}
use Rattle.std.proofs.Math.Nat.{sub-zero}
use Rattle.lists.specs.Fold.{ahead}
use Rattle.contents.specs.Contents.{marked, entries_at, bodies_from, headed, entry_kind_at, offset_at, length_at, kind_of, body_fits, entry_good, contents_from, contents_good}
use Rattle.contents.specs.declared.Kind.TheVariants.{Light, Coefficients, Active, Occupied, Corners, Foreign, Refused}
use Rattle.contents.specs.Laid.{Laid}
use Rattle.contents.specs.ContentsLaws.{Fit, light, coefficients, active, occupied, corners, foreign, long_of, Entry, Headed}

pub fit_found : (k i long n : ℕ) → body_fits (kind_of k) i long n ≡ true → Fit k i long n
unfolding body_fits kind_of
fit_found k i long n e = go (eqb k 1) (eqb k 2) (eqb k 3) (eqb k 4) (eqb k 5) (leb 128 k && leb k 255) refl refl refl refl refl refl e
  where
    go : (b₁ b₂ b₃ b₄ b₅ b₆ : Bool) → eqb k 1 ≡ b₁ → eqb k 2 ≡ b₂ → eqb k 3 ≡ b₃ → eqb k 4 ≡ b₄ → eqb k 5 ≡ b₅ → leb 128 k && leb k 255 ≡ b₆
        → body_fits (cond b₁ Light (cond b₂ Coefficients (cond b₃ Active (cond b₄ Occupied (cond b₅ Corners (cond b₆ Foreign Refused)))))) i long n ≡ true → Fit k i long n
    go true b₂ b₃ b₄ b₅ b₆ e₁ e₂ e₃ e₄ e₅ e₆ f = let p = (and-eq-true_iff (eqb i 0) (eqb long (n * 4))).0 f in light (eqb-true k 1 e₁) (eqb-true i 0 p.0) (eqb-true long (n * 4) p.1)
    go false true b₃ b₄ b₅ b₆ e₁ e₂ e₃ e₄ e₅ e₆ f = let p = (and-eq-true_iff (eqb i 1) (eqb long (n * 64))).0 f in coefficients (eqb-true k 2 e₂) (eqb-true i 1 p.0) (eqb-true long (n * 64) p.1)
    go false false true b₄ b₅ b₆ e₁ e₂ e₃ e₄ e₅ e₆ f = let p = (and-eq-true_iff (eqb i 2) (eqb long n)).0 f in active (eqb-true k 3 e₃) (eqb-true i 2 p.0) (eqb-true long n p.1)
    go false false false true b₅ b₆ e₁ e₂ e₃ e₄ e₅ e₆ f = let p = (and-eq-true_iff (eqb i 3) (eqb long n)).0 f in occupied (eqb-true k 4 e₄) (eqb-true i 3 p.0) (eqb-true long n p.1)
    go false false false false true b₆ e₁ e₂ e₃ e₄ e₅ e₆ f = let p = (and-eq-true_iff (eqb i 4) (eqb long 24)).0 f in corners (eqb-true k 5 e₅) (eqb-true i 4 p.0) (eqb-true long 24 p.1)
    go false false false false false true e₁ e₂ e₃ e₄ e₅ e₆ f = let p = (and-eq-true_iff (leb 128 k) (leb k 255)).0 e₆ in foreign (leb-true 128 k p.0) (leb-true k 255 p.1) (leb-true 5 i f)
    go false false false false false false e₁ e₂ e₃ e₄ e₅ e₆ f = absurd (false≢true f)

pub fit_given : (k i long n : ℕ) → Fit k i long n → body_fits (kind_of k) i long n ≡ true
unfolding body_fits kind_of
fit_given k i long n (light p q r) = rw (p, q, eq-eqb long (n * 4) r)
fit_given k i long n (coefficients p q r) = rw (p, q, eq-eqb long (n * 64) r)
fit_given k i long n (active p q r) = rw (p, q, eq-eqb long n r)
fit_given k i long n (occupied p q r) = rw (p, q, eq-eqb long n r)
fit_given k i long n (corners p q r) = rw (p, q, eq-eqb long 24 r)
fit_given k i long n (foreign p q r) =
    rw (ne_eqb k 1 (λ e. omega arith), ne_eqb k 2 (λ e. omega arith), ne_eqb k 3 (λ e. omega arith), ne_eqb k 4 (λ e. omega arith), ne_eqb k 5 (λ e. omega arith), le-leb 128 k p, le-leb k 255 q) (le-leb 5 i r)

-- the first five places are those of kinds 1 to 5
pub fit_kind : (k i long n : ℕ) → Fit k i long n → i < 5 → k ≡ i + 1
fit_kind k i long n (light p q r) h = omega arith
fit_kind k i long n (coefficients p q r) h = omega arith
fit_kind k i long n (active p q r) h = omega arith
fit_kind k i long n (occupied p q r) h = omega arith
fit_kind k i long n (corners p q r) h = omega arith
fit_kind k i long n (foreign p q r) h = absurd (omega arith)

pub fit_long : (k i long n : ℕ) → Fit k i long n → i < 5 → long ≡ long_of i n
fit_long k i long n (light p q r) h = rw q r
fit_long k i long n (coefficients p q r) h = rw q r
fit_long k i long n (active p q r) h = rw q r
fit_long k i long n (occupied p q r) h = rw q r
fit_long k i long n (corners p q r) h = rw q r
fit_long k i long n (foreign p q r) h = absurd (omega arith)

-- ---- the entries in turn

pub contents_step : (s : List ℕ) (n to i previous start : ℕ) → i < to
    → contents_from s n (to - i) i previous start
    ≡ entry_good (entry_kind_at s i) previous (offset_at s i) start (length_at s i) i n && contents_from s n (to - (i + 1)) (i + 1) (entry_kind_at s i) (start + length_at s i)
unfolding contents_from
contents_step s n to i previous start h = rw (ahead i to h) refl

pub entry_found : (s : List ℕ) (n to i previous start : ℕ) → i < to → contents_from s n (to - i) i previous start ≡ true → Entry s n to i previous start
unfolding entry_good
entry_found s n to i previous start h e =
    let k : ℕ = entry_kind_at s i in
    let p = (and-eq-true_iff (entry_good k previous (offset_at s i) start (length_at s i) i n) _).0 (sym (contents_step s n to i previous start h) ∙ e) in
    let q = (and-eq-true_iff (ltb previous k) (eqb (offset_at s i) start && body_fits (kind_of k) i (length_at s i) n)).0 p.0 in
    let r = (and-eq-true_iff (eqb (offset_at s i) start) (body_fits (kind_of k) i (length_at s i) n)).0 q.1 in
    record {
      above = ltb-true previous k q.0;
      offset = eqb-true (offset_at s i) start r.0;
      fit = fit_found k i (length_at s i) n r.1;
      rest = p.1;
    }

pub entry_given : (s : List ℕ) (n to i previous start : ℕ) → i < to → Entry s n to i previous start → contents_from s n (to - i) i previous start ≡ true
unfolding entry_good
entry_given s n to i previous start h e =
    contents_step s n to i previous start h
    ∙ rw (lt-ltb previous (entry_kind_at s i) e.above, eq-eqb (offset_at s i) start e.offset, fit_given (entry_kind_at s i) i (length_at s i) n e.fit) e.rest

-- however many entries are left, the bodies end within the file
pub ends_within : (s : List ℕ) (n k i previous start : ℕ) → contents_from s n k i previous start ≡ true → start ≤ length s
unfolding contents_from
ends_within s n zero i previous start e = omega (arith, eqb-true start (length s) e)
ends_within s n (suc k) i previous start e =
    let p = (and-eq-true_iff (entry_good (entry_kind_at s i) previous (offset_at s i) start (length_at s i) i n) _).0 e in
    omega (arith, ends_within s n k (i + 1) (entry_kind_at s i) (start + length_at s i) p.1)

-- ---- where the five bodies lie in a file of n voxels

pub contents_laid : (s : List ℕ) (n : ℕ) → 5 ≤ entries_at s → contents_good s (entries_at s) n ≡ true → Laid s n
contents_laid s n h e =
    let c : ℕ = entries_at s in
    let b : ℕ = bodies_from c in
    let z : contents_from s n (c - 0) 0 0 b ≡ true = rw sub-zero e in
    let e₀ = entry_found s n c 0 0 b (omega arith) z in
    let e₁ = entry_found s n c 1 (entry_kind_at s 0) (b + length_at s 0) (omega arith) e₀.rest in
    let e₂ = entry_found s n c 2 (entry_kind_at s 1) (b + length_at s 0 + length_at s 1) (omega arith) e₁.rest in
    let e₃ = entry_found s n c 3 (entry_kind_at s 2) (b + length_at s 0 + length_at s 1 + length_at s 2) (omega arith) e₂.rest in
    let e₄ = entry_found s n c 4 (entry_kind_at s 3) (b + length_at s 0 + length_at s 1 + length_at s 2 + length_at s 3) (omega arith) e₃.rest in
    let l₀ : length_at s 0 ≡ n * 4 = fit_long (entry_kind_at s 0) 0 (length_at s 0) n e₀.fit (omega arith) in
    let l₁ : length_at s 1 ≡ n * 64 = fit_long (entry_kind_at s 1) 1 (length_at s 1) n e₁.fit (omega arith) in
    let l₂ : length_at s 2 ≡ n = fit_long (entry_kind_at s 2) 2 (length_at s 2) n e₂.fit (omega arith) in
    let l₃ : length_at s 3 ≡ n = fit_long (entry_kind_at s 3) 3 (length_at s 3) n e₃.fit (omega arith) in
    let l₄ : length_at s 4 ≡ 24 = fit_long (entry_kind_at s 4) 4 (length_at s 4) n e₄.fit (omega arith) in
    let k₄ : entry_kind_at s 4 ≡ 5 = fit_kind (entry_kind_at s 4) 4 (length_at s 4) n e₄.fit (omega arith) in
    let end : b + length_at s 0 + length_at s 1 + length_at s 2 + length_at s 3 + length_at s 4 ≡ b + n * 70 + 24 = omega (arith, l₀, l₁, l₂, l₃, l₄) in
    let rest : contents_from s n (c - 5) 5 5 (b + n * 70 + 24) ≡ true = rw (k₄, end) at e₄.rest in
    record {
      light = e₀.offset;
      volume = e₁.offset ∙ omega (arith, l₀);
      active = e₂.offset ∙ omega (arith, l₀, l₁);
      occupied = e₃.offset ∙ omega (arith, l₀, l₁, l₂);
      corners = e₄.offset ∙ omega (arith, l₀, l₁, l₂, l₃);
      within = ends_within s n (c - 5) 5 5 (b + n * 70 + 24) rest;
      kind₀ = fit_kind (entry_kind_at s 0) 0 (length_at s 0) n e₀.fit (omega arith);
      kind₁ = fit_kind (entry_kind_at s 1) 1 (length_at s 1) n e₁.fit (omega arith);
      kind₂ = fit_kind (entry_kind_at s 2) 2 (length_at s 2) n e₂.fit (omega arith);
      kind₃ = fit_kind (entry_kind_at s 3) 3 (length_at s 3) n e₃.fit (omega arith);
      kind₄ = k₄;
      long₀ = l₀;
      long₁ = l₁;
      long₂ = l₂;
      long₃ = l₃;
      long₄ = l₄;
      rest = rest;
    }

pub headed_found : (s : List ℕ) → headed s ≡ true → Headed s
unfolding headed
headed_found s e =
    let p = (and-eq-true_iff (leb 12 (length s)) _).0 e in
    let q = (and-eq-true_iff (marked s) _).0 p.1 in
    let r = (and-eq-true_iff (leb 5 (entries_at s)) _).0 q.1 in
    let t = (and-eq-true_iff (leb (entries_at s) 16) _).0 r.1 in
    record {
      long = leb-true 12 (length s) p.0;
      mark = q.0;
      least = leb-true 5 (entries_at s) r.0;
      most = leb-true (entries_at s) 16 t.0;
      contents = leb-true (bodies_from (entries_at s)) (length s) t.1;
    }

pub headed_given : (s : List ℕ) → Headed s → headed s ≡ true
unfolding headed
headed_given s h =
    rw (le-leb 12 (length s) h.long, h.mark, le-leb 5 (entries_at s) h.least, le-leb (entries_at s) 16 h.most)
    (le-leb (bodies_from (entries_at s)) (length s) h.contents)
