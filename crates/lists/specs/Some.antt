-- Whether a test holds of some element of a list; how that goes by one element; and what it says.
use Rattle.std.specs.Prelude.{◌≡◌, Bool, ◌||◌, get_or, drop}
use Rattle.std.proofs.Math.Path.{refl}
use Rattle.std.proofs.Common.{sym, ◌∙◌, add-one, drop_of_length-le}
use Rattle.std.proofs.Math.Bool.{true, false, or-true}
use Rattle.std.proofs.lemmas.Bool.{false≢true}
use mathlib.Core.List.{List, [], ◌∷◌}
use Prim.Native.Nat.{ℕ, zero, suc, ◌+◌, ◌≤◌, ◌<◌}
use native.Mathlib.Omega.{arith}
use Rattle.std.proofs.Math.ListN.{length}
use Rattle.std.proofs.Math.Seq.{drop-cons}

module _ {A : Type 0} where
  unfoldable pub some : (A → Bool) → List A → Bool
  some f [] = false
  some f (x ∷ l) = f x || some f l

  -- ---- a scan from the left, of what is left at i

  pub some_step : (f : A → Bool) (l : List A) (i : ℕ) (d : A) → i < length l → some f (drop i l) ≡ f (get_or l i d) || some f (drop (i + 1) l)
  unfolding some
  some_step f l i d h = rw (add-one, drop-cons l i d)

  pub some_found : (f : A → Bool) (l : List A) (i : ℕ) (d : A) → i < length l → f (get_or l i d) ≡ true → some f (drop i l) ≡ true
  some_found f l i d h e = rw (some_step f l i d h, e)

  pub some_next : (f : A → Bool) (l : List A) (i : ℕ) (d : A) → i < length l → f (get_or l i d) ≡ false → some f (drop i l) ≡ some f (drop (i + 1) l)
  some_next f l i d h e = rw (some_step f l i d h, e)

  pub some_end : (f : A → Bool) (l : List A) (i : ℕ) → length l ≤ i → some f (drop i l) ≡ false
  unfolding some
  some_end f l i h = rw (drop_of_length-le l h)

  -- a scan that goes to the end: what it has found, or finds in what is left

  pub some_more : (f : A → Bool) (l : List A) (i : ℕ) (d : A) (a : Bool) → i < length l → a || some f (drop i l) ≡ (a || f (get_or l i d)) || some f (drop (i + 1) l)
  some_more f l i d true h = refl
  some_more f l i d false h = some_step f l i d h

  pub some_all : (f : A → Bool) (l : List A) (i : ℕ) (a : Bool) → length l ≤ i → a || some f (drop i l) ≡ a
  some_all f l i true h = refl
  some_all f l i false h = some_end f l i h

  -- ---- what it says

  -- there is such an element
  pub some_out : (f : A → Bool) (l : List A) (d : A) → some f l ≡ true → (i : ℕ) × (i < length l) × (f (get_or l i d) ≡ true)
  unfolding some
  some_out f [] d e = absurd (false≢true e)
  some_out f (x ∷ l) d e = go (f x) refl (λ h. some_out f l d (rw h at e))
    where
      go : (b : Bool) → f x ≡ b → (f x ≡ false → (i : ℕ) × (i < length l) × (f (get_or l i d) ≡ true)) → (i : ℕ) × (i < suc (length l)) × (f (get_or (x ∷ l) i d) ≡ true)
      go true h r = (0, omega arith, h)
      go false h r = let s = r h in (suc s.0, omega (arith, s.1), s.2)

  pub some_in : (f : A → Bool) (l : List A) (i : ℕ) (d : A) → i < length l → f (get_or l i d) ≡ true → some f l ≡ true
  unfolding some
  some_in f [] i d h e = absurd (omega arith)
  some_in f (x ∷ l) zero d h e = rw e
  some_in f (x ∷ l) (suc i) d h e = rw (some_in f l i d (omega arith) e) (or-true (f x))

  -- there is none
  pub none_out : (f : A → Bool) (l : List A) (d : A) → some f l ≡ false → (i : ℕ) → i < length l → f (get_or l i d) ≡ false
  none_out f l d e i h = go (f (get_or l i d)) refl
    where
      go : (b : Bool) → f (get_or l i d) ≡ b → f (get_or l i d) ≡ false
      go false p = p
      go true p = absurd (false≢true (sym e ∙ some_in f l i d h p))

  pub none_in : (f : A → Bool) (l : List A) (d : A) → ((i : ℕ) → i < length l → f (get_or l i d) ≡ false) → some f l ≡ false
  none_in f l d n = go (some f l) refl
    where
      go : (b : Bool) → some f l ≡ b → some f l ≡ false
      go false p = p
      go true p = let s = some_out f l d p in absurd (false≢true (sym (n s.0 s.1) ∙ s.2))
