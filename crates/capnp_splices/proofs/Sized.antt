-- The sections that the elements of a list have as structs, and rows of bits and of numbers that are filled one after another.
use Rattle.std.proofs.Common.{◌≡◌, ◌≢◌, ℕ, zero, suc, ◌+◌, ◌*◌, ◌<◌, ◌≤◌, refl, sym, ap, ap₂, ◌∙◌, Bool, false, arith, List, ◌∷◌, length, take, drop, replicate, set, ◌++◌}
use Rattle.std.proofs.lemmas.List.{append_assoc, length-append, length-take}
use Rattle.std.proofs.Math.Seq.{drop-append-add, take-append-add, drop-append_seam}
use Rattle.capnp_wire.specs.Edits.{with_number}
use Rattle.capnp_wire.specs.Encoding.{spelled_number}
use Rattle.capnp_wire.specs.Facts.Bytes.{length_spelled}
use Rattle.capnp_wire.specs.Facts.Parts.{tree_count_only_tree_le, width_bound}
use Rattle.capnp_wire.specs.Reading.{element_struct}
use Rattle.capnp_wire.specs.StructLists.{element_pointers, element_words}
use Rattle.capnp_wire.specs.Tree.{Tree, Null, Struct, Voids, Bits, Numbers, Pointers, Composite, FaultLeaf, Structs, NoStructs, MoreStructs, nth_struct, tree_count}
use Rattle.capnp_wire.specs.WellFormed.{AreElements, IsWellFormed}
use Rattle.capnp_splices.specs.Splices.{bits_by, bytes_by}
use Rattle.capnp_splices.proofs.Filled.{filled_all, filled_here, filled_none, filled_other, filled_to}

-- ---- elements as structs ----

structs_sized : (d p : ℕ) (es : Structs) (i : ℕ) → AreElements d p es → (length (nth_struct es i).bytes ≤ 8 * d) × (tree_count (nth_struct es i).pointers ≤ p)
structs_sized d p NoStructs i h = (omega arith, omega arith)
structs_sized d p (MoreStructs bytes ps es) zero h = (omega (arith, h.1), omega (arith, h.2))
structs_sized d p (MoreStructs bytes ps es) (suc i) h = structs_sized d p es i h.4

-- an element has no more than its list says that its elements take
pub element_sized : (t : Tree) (i : ℕ) → IsWellFormed t → (length (element_struct t i).bytes ≤ 8 * element_words t) × (tree_count (element_struct t i).pointers ≤ element_pointers t)
element_sized Null i h = (omega arith, omega arith)
element_sized (Struct bytes ps) i h = (omega arith, omega arith)
element_sized (Voids n) i h = (omega arith, omega arith)
element_sized (Bits bs) i h = (omega arith, omega arith)
element_sized (Numbers w bytes) i h = (omega (arith, length-take w (drop (i * w) bytes), width_bound w h.1), omega arith)
element_sized (Pointers ps) i h = (omega arith, tree_count_only_tree_le ps i)
element_sized (Composite d p es) i h = structs_sized d p es i h.4
element_sized (FaultLeaf k) i h = (omega arith, omega arith)

-- ---- bits ----

at_zero : {A : Type 0} (f : ℕ → A) (a : ℕ) → f (a + 0) ≡ f a
at_zero f a = ap f (omega arith)

at_suc : {A : Type 0} (f : ℕ → A) (a i : ℕ) → f (suc a + i) ≡ f (a + suc i)
at_suc f a i = ap f (omega arith)

bits_same : (f g : ℕ → Bool) (a n : ℕ) → ((i : ℕ) → i < n → f (a + i) ≡ g (a + i)) → bits_by f a n ≡ bits_by g a n
bits_same f g a zero h = refl
bits_same f g a (suc n) h =
    ap₂ (λ b bs. b ∷ bs) (sym (at_zero f a) ∙ (h 0 (omega arith) ∙ at_zero g a))
    (bits_same f g (suc a) n (λ i b. at_suc f a i ∙ (h (suc i) (omega (arith, b)) ∙ sym (at_suc g a i))))

bits_put : (f g : ℕ → Bool) (a n j : ℕ) (v : Bool) → ((i : ℕ) → i < n → i ≢ j → g (a + i) ≡ f (a + i)) → (j < n → g (a + j) ≡ v) → bits_by g a n ≡ set (bits_by f a n) j v
bits_put f g a zero j v others here = refl
bits_put f g a (suc n) zero v others here =
    ap₂ (λ b bs. b ∷ bs) (sym (at_zero g a) ∙ here (omega arith))
    (bits_same g f (suc a) n (λ i b. at_suc g a i ∙ (others (suc i) (omega (arith, b)) (λ e. omega (arith, e)) ∙ sym (at_suc f a i))))
bits_put f g a (suc n) (suc j) v others here =
    ap₂ (λ b bs. b ∷ bs) (sym (at_zero g a) ∙ (others 0 (omega arith) (λ e. omega (arith, e)) ∙ at_zero f a))
    (bits_put f g (suc a) n j v
    (λ i b other. at_suc g a i ∙ (others (suc i) (omega (arith, b)) (λ e. other (omega (arith, e))) ∙ sym (at_suc f a i)))
    (λ b. at_suc g a j ∙ here (omega (arith, b))))

all_false : (a n : ℕ) → bits_by (λ _. false) a n ≡ replicate n false
all_false a zero = refl
all_false a (suc n) = ap (λ bs. false ∷ bs) (all_false (suc a) n)

pub bits_none : (f : ℕ → Bool) (n : ℕ) → bits_by (filled_to 0 f false) 0 n ≡ replicate n false
bits_none f n = bits_same (filled_to 0 f false) (λ _. false) 0 n (λ i h. filled_none f false (0 + i)) ∙ all_false 0 n

pub bits_more : (f : ℕ → Bool) (n j : ℕ) → set (bits_by (filled_to j f false) 0 n) j (f j) ≡ bits_by (filled_to (j + 1) f false) 0 n
bits_more f n j =
    sym (bits_put (filled_to j f false) (filled_to (j + 1) f false) 0 n j (f j)
    (λ i b other. filled_other f false j (0 + i) (λ e. other (omega (arith, e))))
    (λ b. ap (filled_to (j + 1) f false) (omega arith) ∙ filled_here f false j))

pub bits_all : (f : ℕ → Bool) (n : ℕ) → bits_by (filled_to n f false) 0 n ≡ bits_by f 0 n
bits_all f n = bits_same (filled_to n f false) f 0 n (λ i h. filled_all f false n (0 + i) (omega (arith, h)))

pub length_bits : (f : ℕ → Bool) (a n : ℕ) → length (bits_by f a n) ≡ n
length_bits f a zero = refl
length_bits f a (suc n) = ap suc (length_bits f (suc a) n)

-- ---- numbers ----

module _ (w : ℕ) where
  bytes_same : (f g : ℕ → ℕ) (a n : ℕ) → ((i : ℕ) → i < n → f (a + i) ≡ g (a + i)) → bytes_by w f a n ≡ bytes_by w g a n
  bytes_same f g a zero h = refl
  bytes_same f g a (suc n) h =
      ap₂ (λ x r. spelled_number w x ++ r) (sym (at_zero f a) ∙ (h 0 (omega arith) ∙ at_zero g a))
      (bytes_same f g (suc a) n (λ i b. at_suc f a i ∙ (h (suc i) (omega (arith, b)) ∙ sym (at_suc g a i))))

  pub length_bytes : (f : ℕ → ℕ) (a n : ℕ) → length (bytes_by w f a n) ≡ w * n
  length_bytes f a zero = omega arith
  length_bytes f a (suc n) = omega (arith, length-append (spelled_number w (f a)) (bytes_by w f (suc a) n), length_spelled w (f a), length_bytes f (suc a) n)

  -- the first is replaced, and one behind it
  put_first : (x : ℕ) (r : List ℕ) (y : ℕ) → with_number w 0 y (spelled_number w x ++ r) ≡ spelled_number w y ++ r
  put_first x r y =
      ap (λ k. take k (spelled_number w x ++ r) ++ (spelled_number w y ++ drop (k + w) (spelled_number w x ++ r))) {x = 0 * w} {y = 0} (omega arith)
      ∙ ap (λ z. spelled_number w y ++ z) (ap (λ k. drop k (spelled_number w x ++ r)) {x = 0 + w} {y = length (spelled_number w x)} (omega (arith, length_spelled w x)) ∙ drop-append_seam (spelled_number w x) r)

  put_later : (x : ℕ) (r : List ℕ) (j y : ℕ) → with_number w (suc j) y (spelled_number w x ++ r) ≡ spelled_number w x ++ with_number w j y r
  put_later x r j y =
      ap₂ (λ p q. p ++ (spelled_number w y ++ q))
      (ap (λ k. take k (spelled_number w x ++ r)) {x = suc j * w} {y = length (spelled_number w x) + j * w} (omega (arith, length_spelled w x)) ∙ take-append-add (spelled_number w x) r (j * w))
      (ap (λ k. drop k (spelled_number w x ++ r)) {x = suc j * w + w} {y = length (spelled_number w x) + (j * w + w)} (omega (arith, length_spelled w x)) ∙ drop-append-add (spelled_number w x) r (j * w + w))
      ∙ append_assoc (spelled_number w x) (take (j * w) r) (spelled_number w y ++ drop (j * w + w) r)

  bytes_put : (f g : ℕ → ℕ) (a n j v : ℕ) → j < n → ((i : ℕ) → i < n → i ≢ j → g (a + i) ≡ f (a + i)) → g (a + j) ≡ v → with_number w j v (bytes_by w f a n) ≡ bytes_by w g a n
  bytes_put f g a zero j v b others here = absurd (omega (arith, b))
  bytes_put f g a (suc n) zero v b others here =
      put_first (f a) (bytes_by w f (suc a) n) v
      ∙ ap₂ (λ x r. spelled_number w x ++ r) (sym here ∙ at_zero g a)
      (bytes_same f g (suc a) n (λ i c. at_suc f a i ∙ (sym (others (suc i) (omega (arith, c)) (λ e. omega (arith, e))) ∙ sym (at_suc g a i))))
  bytes_put f g a (suc n) (suc j) v b others here =
      put_later (f a) (bytes_by w f (suc a) n) j v
      ∙ ap₂ (λ x r. spelled_number w x ++ r) (sym (at_zero f a) ∙ (sym (others 0 (omega arith) (λ e. omega (arith, e))) ∙ at_zero g a))
      (bytes_put f g (suc a) n j v (omega (arith, b))
      (λ i c other. at_suc g a i ∙ (others (suc i) (omega (arith, c)) (λ e. other (omega (arith, e))) ∙ sym (at_suc f a i)))
      (at_suc g a j ∙ here))

  no_number : spelled_number w 0 ≡ replicate w 0
  no_number = zeros w
    where
      zeros : (k : ℕ) → spelled_number k 0 ≡ replicate k 0
      zeros zero = refl
      zeros (suc k) = ap (λ bs. 0 ∷ bs) (zeros k)

  all_zero : (a n : ℕ) → bytes_by w (λ _. 0) a n ≡ replicate (w * n) 0
  all_zero a zero = ap (λ k. replicate k 0) {x = 0} {y = w * 0} (omega arith)
  all_zero a (suc n) = ap₂ (λ x r. x ++ r) no_number (all_zero (suc a) n) ∙ (both w (w * n) ∙ ap (λ k. replicate k 0) {x = w + w * n} {y = w * suc n} (omega arith))
    where
      both : (k m : ℕ) → replicate {A = ℕ} k 0 ++ replicate m 0 ≡ replicate (k + m) 0
      both zero m = ap (λ k. replicate k 0) {x = m} {y = 0 + m} (omega arith)
      both (suc k) m = ap (λ bs. 0 ∷ bs) (both k m) ∙ ap (λ k. replicate k 0) {x = suc (k + m)} {y = suc k + m} (omega arith)

  pub bytes_none : (f : ℕ → ℕ) (n : ℕ) → bytes_by w (filled_to 0 f 0) 0 n ≡ replicate (w * n) 0
  bytes_none f n = bytes_same (filled_to 0 f 0) (λ _. 0) 0 n (λ i h. filled_none f 0 (0 + i)) ∙ all_zero 0 n

  pub bytes_more : (f : ℕ → ℕ) (n j : ℕ) → j < n → with_number w j (f j) (bytes_by w (filled_to j f 0) 0 n) ≡ bytes_by w (filled_to (j + 1) f 0) 0 n
  bytes_more f n j b =
      bytes_put (filled_to j f 0) (filled_to (j + 1) f 0) 0 n j (f j) b
      (λ i c other. filled_other f 0 j (0 + i) (λ e. other (omega (arith, e))))
      (ap (filled_to (j + 1) f 0) (omega arith) ∙ filled_here f 0 j)

  pub bytes_all : (f : ℕ → ℕ) (n : ℕ) → bytes_by w (filled_to n f 0) 0 n ≡ bytes_by w f 0 n
  bytes_all f n = bytes_same (filled_to n f 0) f 0 n (λ i h. filled_all f 0 n (0 + i) (omega (arith, h)))
