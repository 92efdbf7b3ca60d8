-- Worked rows of broken messages: what is printed of them, or why nothing is.
use Rattle.std.specs.Prelude.{ℕ, ◌≡◌, refl, List, [], ◌∷◌, ◌++◌, false, Err, codes, replicate}
use Rattle.std.specs.Fmt.{digits}
use Rattle.capnp_wire.specs.Place.{tree_at}
use Rattle.capnp_device.specs.declared.error.ErrorKind.TheVariants.{BadPointer, TextNotTerminated, TooDeep, CapabilityPointer}
use Rattle.capnp_records.specs.Text.{Out, said_text}
use Rattle.capnp_records.proofs.RowWords.{lists, printed, z8}

-- a byte list that is read as structs
bytes_as_structs : printed (lists ++ 1 ∷ 0 ∷ 0 ∷ 0 ∷ 18 ∷ 0 ∷ 0 ∷ 0 ∷ 5 ∷ 255 ∷ replicate 6 0) 7 false ≡ said_text (codes "(items = [(a = 5), (a = 255)])")
unfolding tree_at digits
bytes_as_structs = refl

self_feeding_pointer : printed (0 ∷ 0 ∷ 0 ∷ 0 ∷ 1 ∷ 0 ∷ 1 ∷ 0 ∷ 1 ∷ replicate 7 0 ++ 248 ∷ 255 ∷ 255 ∷ 255 ∷ 1 ∷ 0 ∷ 1 ∷ 0 ∷ []) 6 false ≡ Err TooDeep
unfolding tree_at
self_feeding_pointer = refl

pointer_to_itself : printed (248 ∷ 255 ∷ 255 ∷ 255 ∷ 1 ∷ 0 ∷ 0 ∷ 0 ∷ []) 0 false ≡ Err BadPointer
unfolding tree_at
pointer_to_itself = refl

abbrev tagged : List ℕ → Out
tagged tag = printed (lists ++ 1 ∷ 0 ∷ 0 ∷ 0 ∷ 15 ∷ 0 ∷ 0 ∷ 0 ∷ tag ++ 5 ∷ replicate 7 0) 7 false

tag_of_one : tagged (4 ∷ 0 ∷ 0 ∷ 0 ∷ 1 ∷ 0 ∷ 0 ∷ 0 ∷ []) ≡ said_text (codes "(items = [(a = 5)])")
unfolding tree_at digits
tag_of_one = refl

tag_of_a_list : tagged (9 ∷ 0 ∷ 0 ∷ 0 ∷ 1 ∷ 0 ∷ 0 ∷ 0 ∷ []) ≡ Err BadPointer
unfolding tree_at
tag_of_a_list = refl

tag_of_too_many : tagged (8 ∷ 0 ∷ 0 ∷ 0 ∷ 1 ∷ 0 ∷ 0 ∷ 0 ∷ []) ≡ Err BadPointer
unfolding tree_at
tag_of_too_many = refl

tag_of_no_words : tagged (8 ∷ 0 ∷ 0 ∷ 0 ∷ 0 ∷ 0 ∷ 0 ∷ 0 ∷ []) ≡ said_text (codes "(items = [(a = 0), (a = 0)])")
unfolding tree_at digits
tag_of_no_words = refl

tag_past_the_format : tagged (0 ∷ 0 ∷ 0 ∷ 128 ∷ 0 ∷ 0 ∷ 0 ∷ 0 ∷ []) ≡ Err BadPointer
unfolding tree_at
tag_past_the_format = refl

abbrev blobs : ℕ → Out
blobs low = printed (0 ∷ 0 ∷ 0 ∷ 0 ∷ 0 ∷ 0 ∷ 4 ∷ 0 ∷ z8 ++ low ∷ replicate 7 0 ++ 5 ∷ 0 ∷ 0 ∷ 0 ∷ 18 ∷ 0 ∷ 0 ∷ 0 ∷ z8 ++ 97 ∷ 98 ∷ replicate 6 0) 7 false

capability_in_data : blobs 3 ≡ Err CapabilityPointer
unfolding tree_at
capability_in_data = refl

text_not_terminated : blobs 0 ≡ Err TextNotTerminated
unfolding tree_at
text_not_terminated = refl

capability_untyped : printed (0 ∷ 0 ∷ 0 ∷ 0 ∷ 2 ∷ 0 ∷ 2 ∷ 0 ∷ 0 ∷ 0 ∷ 1 ∷ replicate 13 0 ++ 3 ∷ replicate 15 0) 3 false ≡ said_text (codes "(id = 0, tag = (n = 0, u0 = (), any = <opaque pointer>))")
unfolding tree_at digits
capability_untyped = refl
