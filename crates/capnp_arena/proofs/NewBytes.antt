-- The bytes of a new list of bytes.
use Rattle.std.proofs.Common.{◌≡◌, ℕ, ◌+◌, ◌*◌, sym, ap, ◌∙◌, arith, refl, List, [], ◌++◌, drop, length, replicate, slice_set, take}
use Rattle.std.proofs.lemmas.List.{append-nil, drop_all, take-replicate, take-take}
use Rattle.capnp_wire.specs.Edits.{zero_list}
use Rattle.capnp_wire.specs.Place.{bytes_at}
use Rattle.capnp_wire.specs.Tree.{Bits, Composite, FaultLeaf, Null, Numbers, Pointers, Struct, Tree, Voids}
use Rattle.capnp_wire.specs.declared.size.ElementSize.TheVariants.{Byte}
use Rattle.capnp_arena.specs.Forest.{Forest, tree}
use Rattle.capnp_arena.specs.Shape.{ListIn, shape_at}
use Rattle.capnp_arena.proofs.BlobReads.{bytes_here}

abbrev number_bytes : Tree → List ℕ
number_bytes Null = []
number_bytes (Struct bytes ps) = []
number_bytes (Voids n) = []
number_bytes (Bits bs) = []
number_bytes (Numbers w bytes) = bytes
number_bytes (Pointers ps) = []
number_bytes (Composite d p es) = []
number_bytes (FaultLeaf k) = []

module _ (bytes : List ℕ) (w : ℕ) (f : Forest bytes w) (a n : ℕ) (e : shape_at bytes w ≡ ListIn a 2 n) (t : tree bytes w ≡ zero_list Byte n) where
  pub new_bytes : bytes_at bytes a n ≡ replicate n 0
  new_bytes = ap number_bytes (sym (bytes_here bytes w f a 2 n e refl) ∙ t)

first_bytes : (bytes : List ℕ) (a n : ℕ) → bytes_at bytes a (n + 1) ≡ replicate (n + 1) 0 → bytes_at bytes a n ≡ replicate n 0
first_bytes bytes a n h =
    sym (take-take n (n + 1) (drop (8 * a) bytes) (omega arith)) ∙ ap (take n) h ∙ take-replicate n (n + 1) 0 (omega arith)

-- and those of a new text, without the zero that ends it
pub text_bytes : (bytes : List ℕ) (w : ℕ) → Forest bytes w → (a n : ℕ) → shape_at bytes w ≡ ListIn a 2 (n + 1) → tree bytes w ≡ zero_list Byte (n + 1) → bytes_at bytes a n ≡ replicate n 0
text_bytes bytes w f a n e t = first_bytes bytes a n (new_bytes bytes w f a (n + 1) e t)

-- all the bytes of a list with another one written
pub byte_left : (bytes : List ℕ) (a n i v : ℕ) (now : List ℕ) → now ≡ bytes_at bytes a n → length now ≡ n
    → Numbers 1 (slice_set now i v ++ drop n (bytes_at bytes a n)) ≡ Numbers 1 (slice_set (bytes_at bytes a n) i v)
byte_left bytes a n i v now is long =
    let none : drop n now ≡ [] = drop_all n now (omega (arith, long)) in
    ap (λ x. Numbers 1 (slice_set now i v ++ x)) (ap (drop n) (sym is) ∙ none) ∙ ap (Numbers 1) (append-nil (slice_set now i v)) ∙ ap (λ x. Numbers 1 (slice_set x i v)) is

-- and those of a new one
pub new_left : (bytes : List ℕ) (w : ℕ) (f : Forest bytes w) (a n i v : ℕ) (e : shape_at bytes w ≡ ListIn a 2 n) (t : tree bytes w ≡ zero_list Byte n) (now : List ℕ) → now ≡ bytes_at bytes a n → length now ≡ n
    → Numbers 1 (slice_set now i v ++ drop n (bytes_at bytes a n)) ≡ Numbers 1 (slice_set (replicate n 0) i v)
new_left bytes w f a n i v e t now is long =
    byte_left bytes a n i v now is long ∙ ap (λ x. Numbers 1 (slice_set x i v)) (new_bytes bytes w f a n e t)
