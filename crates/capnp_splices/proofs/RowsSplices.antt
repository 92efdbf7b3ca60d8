-- Worked rows: lists that are spliced, of each kind of element.
use Rattle.std.specs.Prelude.{◌≡◌, refl, ℕ, [], ◌∷◌, ◌++◌, List, true, false, Some, None}
use Rattle.capnp_device.specs.declared.error.ErrorKind.TheVariants.{BadPointer, SizePastFormat, WrongElementSize}
use Rattle.capnp_wire.specs.Tree.{Tree, Null, Voids, Bits, Numbers, Pointers, Composite, FaultLeaf, Trees, NoTrees, MoreTrees, NoStructs, MoreStructs}
use Rattle.capnp_wire.specs.declared.fault.Fault.TheVariants as fault
use Rattle.capnp_wire.specs.declared.size.ElementSize.TheVariants as size
use Rattle.capnp_wire.specs.declared.size.StructSize.{StructSize}
use Rattle.capnp_splices.specs.Splices.{Splice, splice_refusal, spliced_list}

-- elements of the second list come in front of the one at an index, in the place of so many
abbrev splice : Tree → ℕ → ℕ → Tree → Splice
splice old at removed added = record { old = old; added = added; at = at; removed = removed }

abbrev sized : ℕ → ℕ → StructSize
sized d p = record { data_words = d; pointers = p }

abbrev one : Tree → Trees
one t = MoreTrees t NoTrees

abbrev row : Tree → Tree → Tree → Trees
row a b c = MoreTrees a (MoreTrees b (one c))

-- a word whose first byte is this
abbrev word : ℕ → List ℕ
word b = b ∷ 0 ∷ 0 ∷ 0 ∷ 0 ∷ 0 ∷ 0 ∷ 0 ∷ []

-- ---- numbers ----

abbrev shorts : Tree
shorts = Numbers 2 (1 ∷ 0 ∷ 2 ∷ 0 ∷ 3 ∷ 1 ∷ [])

appended : spliced_list size.TwoBytes (sized 0 0) (splice shorts 3 0 (Numbers 2 (9 ∷ 7 ∷ []))) ≡ Numbers 2 (1 ∷ 0 ∷ 2 ∷ 0 ∷ 3 ∷ 1 ∷ 9 ∷ 7 ∷ [])
appended = refl

inserted_first : spliced_list size.TwoBytes (sized 0 0) (splice shorts 0 0 (Numbers 2 (9 ∷ 7 ∷ []))) ≡ Numbers 2 (9 ∷ 7 ∷ 1 ∷ 0 ∷ 2 ∷ 0 ∷ 3 ∷ 1 ∷ [])
inserted_first = refl

inserted_before_the_last : spliced_list size.TwoBytes (sized 0 0) (splice shorts 2 0 (Numbers 2 (9 ∷ 7 ∷ []))) ≡ Numbers 2 (1 ∷ 0 ∷ 2 ∷ 0 ∷ 9 ∷ 7 ∷ 3 ∷ 1 ∷ [])
inserted_before_the_last = refl

the_second_removed : spliced_list size.TwoBytes (sized 0 0) (splice shorts 1 1 (Numbers 2 [])) ≡ Numbers 2 (1 ∷ 0 ∷ 3 ∷ 1 ∷ [])
the_second_removed = refl

all_removed : spliced_list size.TwoBytes (sized 0 0) (splice shorts 0 3 (Numbers 2 [])) ≡ Numbers 2 []
all_removed = refl

into_an_empty_list : spliced_list size.EightBytes (sized 0 0) (splice (Numbers 8 []) 0 0 (Numbers 8 (word 5))) ≡ Numbers 8 (word 5)
into_an_empty_list = refl

two_in_the_place_of_one : spliced_list size.Byte (sized 0 0) (splice (Numbers 1 (1 ∷ 2 ∷ 3 ∷ [])) 1 1 (Numbers 1 (8 ∷ 9 ∷ []))) ≡ Numbers 1 (1 ∷ 8 ∷ 9 ∷ 3 ∷ [])
two_in_the_place_of_one = refl

-- numbers behind those that a newer schema wrote as structs: these keep the word and the pointer that are not known
numbers_behind_structs :
    spliced_list size.FourBytes (sized 0 0) (splice (Composite 2 1 (MoreStructs (word 1 ++ word 2) (one (Voids 4)) NoStructs)) 1 0 (Numbers 4 (6 ∷ 0 ∷ 0 ∷ 1 ∷ [])))
    ≡ Composite 2 1 (MoreStructs (word 1 ++ word 2) (one (Voids 4)) (MoreStructs (6 ∷ 0 ∷ 0 ∷ 1 ∷ 0 ∷ 0 ∷ 0 ∷ 0 ∷ word 0) (one Null) NoStructs))
numbers_behind_structs = refl

-- ---- bits and nothing ----

bits : spliced_list size.Bit (sized 0 0) (splice (Bits (true ∷ false ∷ true ∷ [])) 1 1 (Bits (true ∷ true ∷ []))) ≡ Bits (true ∷ true ∷ true ∷ true ∷ [])
bits = refl

voids : spliced_list size.Void (sized 0 0) (splice (Voids 5) 1 2 (Voids 9)) ≡ Voids 12
voids = refl

-- ---- pointers ----

pointers : spliced_list size.Pointer (sized 0 0) (splice (Pointers (row (Voids 1) Null (Voids 3))) 2 0 (Pointers (one (Voids 9)))) ≡ Pointers (MoreTrees (Voids 1) (row Null (Voids 9) (Voids 3)))
pointers = refl

pointers_behind_structs :
    spliced_list size.Pointer (sized 0 0) (splice (Composite 1 1 (MoreStructs (word 7) (one (Voids 4)) NoStructs)) 1 0 (Pointers (one (Voids 9))))
    ≡ Composite 1 1 (MoreStructs (word 7) (one (Voids 4)) (MoreStructs (word 0) (one (Voids 9)) NoStructs))
pointers_behind_structs = refl

-- ---- structs: the largest of all sizes, and nothing is cut ----

structs :
    spliced_list size.InlineComposite (sized 1 0) (splice (Composite 1 1 (MoreStructs (word 1) (one (Voids 1)) (MoreStructs (word 2) (one Null) NoStructs))) 1 0 (Composite 2 0 (MoreStructs (word 3 ++ word 4) NoTrees NoStructs)))
    ≡ Composite 2 1 (MoreStructs (word 1 ++ word 0) (one (Voids 1)) (MoreStructs (word 3 ++ word 4) (one Null) (MoreStructs (word 2 ++ word 0) (one Null) NoStructs)))
structs = refl

a_larger_schema : spliced_list size.InlineComposite (sized 2 1) (splice (Composite 1 0 (MoreStructs (word 1) NoTrees NoStructs)) 0 0 (Composite 0 0 NoStructs)) ≡ Composite 2 1 (MoreStructs (word 1 ++ word 0) (one Null) NoStructs)
a_larger_schema = refl

-- a list that an older schema wrote
numbers_as_structs : spliced_list size.InlineComposite (sized 1 1) (splice (Numbers 1 (7 ∷ 8 ∷ [])) 0 1 (Composite 0 0 NoStructs)) ≡ Composite 1 1 (MoreStructs (word 8) (one Null) NoStructs)
numbers_as_structs = refl

-- ---- refusals ----

abbrev broken : Tree
broken = FaultLeaf fault.BadPointer

bits_in_structs : splice_refusal size.Void (sized 0 0) (splice (Bits (true ∷ [])) 0 0 (Voids 1)) ≡ Some WrongElementSize
bits_in_structs = refl

past_the_format : splice_refusal size.Void (sized 0 0) (splice (Voids 0x1FFFFFFF) 0 0 (Voids 1)) ≡ Some SizePastFormat
past_the_format = refl

the_most : splice_refusal size.Void (sized 0 0) (splice (Voids 0x1FFFFFFF) 0 1 (Voids 1)) ≡ None
the_most = refl

a_carried_fault : splice_refusal size.Pointer (sized 0 0) (splice (Pointers (row Null broken Null)) 0 1 (Pointers NoTrees)) ≡ Some BadPointer
a_carried_fault = refl

-- what is taken out is not looked at
a_fault_removed : splice_refusal size.Pointer (sized 0 0) (splice (Pointers (row Null broken Null)) 1 1 (Pointers NoTrees)) ≡ None
a_fault_removed = refl
