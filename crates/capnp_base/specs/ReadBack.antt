-- What is set is what is read: of texts, of data and of untyped pointers.
use Rattle.std.proofs.Common.{◌≡◌, ℕ, ◌-◌, List, [], ◌∷◌, ◌++◌, length, take, get_or, refl, ◌∙◌, ap, arith, Result, Ok, Err, IsOkAnd, Bor}
use Rattle.std.proofs.lemmas.List.{length-append}
use Rattle.capnp_wire.specs.Tree.{Numbers}
use Rattle.capnp_wire.specs.Reading.{as_data, as_text}
use Rattle.capnp_wire.specs.Standing.{bytes_read, tree_of}
use Rattle.capnp_base.specs.AnyPointer.{IsUntypedRead, pointer_of}
use Rattle.capnp_base.specs.Text.{text_read, text_tree}
use Rattle.capnp_base.specs.declared.text.Reader.{Reader as Text}
use Rattle.capnp_base.specs.declared.any_pointer.Reader.{Reader as Pointer}
use Rattle.capnp_device.specs.declared.error.Error.{Error}

last_is_zero : (bytes : List ℕ) → get_or (bytes ++ 0 ∷ []) (length bytes) 1 ≡ 0
last_is_zero [] = refl
last_is_zero (b ∷ bs) = last_is_zero bs

front_is_kept : (bytes : List ℕ) → take (length bytes) (bytes ++ 0 ∷ []) ≡ bytes
front_is_kept [] = refl
front_is_kept (b ∷ bs) = ap (λ t. b ∷ t) (front_is_kept bs)

-- a text's bytes and the zero that ends it are read as the text
pub as_text_text_tree : (bytes : List ℕ) → as_text (text_tree bytes) ≡ Ok bytes
as_text_text_tree bytes =
    let count : length (bytes ++ 0 ∷ []) - 1 ≡ length bytes = omega (arith, length-append bytes (0 ∷ [])) in
    rw count (rw (last_is_zero bytes) (rw (front_is_kept bytes) refl))

text_was_read : (bytes : List ℕ) (r : Result Text Error) → text_read r ≡ Ok bytes → IsOkAnd r (λ y. y.0.now ≡ bytes)
text_was_read bytes (Ok y) h = cc
text_was_read bytes (Err e) h = absurd cc

pub text_read_back : (x : Text) (levels : ℕ) (r : Result Text Error) → text_read r ≡ as_text (text_tree x.0.now) → IsOkAnd r (λ y. y.0.now ≡ x.0.now)
text_read_back x levels r h = text_was_read x.0.now r (h ∙ as_text_text_tree x.0.now)

pub data_read_back : (x : Bor (List ℕ)) (levels : ℕ) (r : Result (Bor (List ℕ)) Error) → bytes_read r ≡ as_data (Numbers 1 x.now) → IsOkAnd r (λ y. y.now ≡ x.now)
data_read_back x levels (Ok y) h = cc
data_read_back x levels (Err e) h = absurd cc

pub pointer_read_back : (x : Pointer) (levels : ℕ) (r : Result Pointer Error) → IsUntypedRead (tree_of (pointer_of x)) levels r → IsOkAnd r (λ y. tree_of (pointer_of y) ≡ tree_of (pointer_of x))
pointer_read_back x levels (Ok y) h = h.0
pointer_read_back x levels (Err e) h = h
