-- What the reads of a pointer answer is the value of its tree, whatever levels are left.
use Rattle.std.proofs.Common.{ℕ, ◌≡◌, refl, List, Bool, true, false, cond, ◌==◌, Result, Ok, Err, ap, sym, ◌∙◌}
use Rattle.std.proofs.lemmas.Bool.{true≢false}
use Rattle.capnp_wire.specs.Tree as tree
use Rattle.capnp_device.specs.declared.error.ErrorKind.{ErrorKind}
use Rattle.capnp_device.specs.declared.error.ErrorKind.TheVariants.{TooDeep, WrongPointerKind, WrongElementSize}
use Rattle.capnp_wire.specs.Reading.{as_data, as_list, as_struct, as_text, is_null_tree, reads_bits, reads_numbers, reads_pointers, reads_structs, reads_voids, with_level}
use Rattle.capnp_wire.specs.Tree.{StructTree, Tree}
use Rattle.capnp_wire.specs.declared.size.ElementSize.{ElementSize}
use Rattle.capnp_schema.specs.Schema.{Schemas}
use Rattle.capnp_schema.specs.Types.{DataType, ListType, SchemaType, StructType, TextType, element_size}
use Rattle.capnp_records.specs.Facts.ListValues.{below_of}
use Rattle.capnp_records.specs.Facts.Readers as readers
use Rattle.capnp_records.specs.Reading.{elements_value, of_read, reads, value_of}
use Rattle.capnp_records.specs.Record as value
use Rattle.capnp_records.specs.Record.{Endless}

pub null_is : (x : Tree) → is_null_tree x ≡ true → x ≡ tree.Null
null_is tree.Null h = refl
null_is (tree.Struct bytes ps) h = absurd (true≢false (sym h))
null_is (tree.Voids n) h = absurd (true≢false (sym h))
null_is (tree.Bits bs) h = absurd (true≢false (sym h))
null_is (tree.Numbers w bytes) h = absurd (true≢false (sym h))
null_is (tree.Pointers ps) h = absurd (true≢false (sym h))
null_is (tree.Composite d p es) h = absurd (true≢false (sym h))
null_is (tree.FaultLeaf k) h = absurd (true≢false (sym h))

-- a null is missing
pub null_missing : (set : Schemas) (x : Tree) (t : SchemaType) → is_null_tree x ≡ true → value_of set x Endless t ≡ value.Missing Endless
null_missing set x t h = ap (λ y. value_of set y Endless t) (null_is x h)

pub text_there : (set : Schemas) (x : Tree) (bytes : List ℕ) → is_null_tree x ≡ false → as_text x ≡ Ok bytes → value_of set x Endless TextType ≡ value.Text bytes
text_there set x bytes h e = readers.text_read set x Endless h ∙ ap (of_read value.Text) e

pub data_there : (set : Schemas) (x : Tree) (bytes : List ℕ) → is_null_tree x ≡ false → as_data x ≡ Ok bytes → value_of set x Endless DataType ≡ value.Data bytes
data_there set x bytes h e = readers.data_read set x Endless h ∙ ap (of_read value.Data) e

-- ---- structs ----

entered : {A : Type 0} (l : ℕ) (r : Result A ErrorKind) (a : A) → with_level l r ≡ Ok a → r ≡ Ok a
entered l r a e = go (l == 0) e
  where
    go : (q : Bool) → cond q (Err TooDeep) r ≡ Ok a → r ≡ Ok a
    go true e = absurd (refused e)
      where
        refused : Err TooDeep ≡ Ok a → ⊥
        refused e = cc
    go false e = e

struct_at_one : (x : Tree) (l : ℕ) (s : StructTree) → as_struct x l ≡ Ok s → as_struct x 1 ≡ Ok s
struct_at_one tree.Null l s e = entered l _ s e
struct_at_one (tree.Struct bytes ps) l s e = entered l _ s e
struct_at_one (tree.Voids n) l s e = entered l _ s e
struct_at_one (tree.Bits bs) l s e = entered l _ s e
struct_at_one (tree.Numbers w bytes) l s e = entered l _ s e
struct_at_one (tree.Pointers ps) l s e = entered l _ s e
struct_at_one (tree.Composite d p es) l s e = entered l _ s e
struct_at_one (tree.FaultLeaf k) l s e = e

pub struct_there : (set : Schemas) (x : Tree) (l b g : ℕ) (s : StructTree) → is_null_tree x ≡ false → as_struct x l ≡ Ok s → value_of set x Endless (StructType b g) ≡ value.Struct (reads set s b)
struct_there set x l b g s h e = readers.struct_is_read set x Endless b g h ∙ ap (of_read (λ (y : StructTree). value.Struct (reads set y b))) (struct_at_one x l s e)

-- ---- lists ----

record IsListAt (x y : Tree) (at_one : Result Tree ErrorKind) : Type 0 where
  same : y ≡ x
  at_one_is : at_one ≡ Ok x

abbrev list_ok : Tree → Result Tree ErrorKind
list_ok x = Ok x

abbrev list_refused : ErrorKind → Result Tree ErrorKind
list_refused kind = Err kind

refused_size : {kind : ErrorKind} {y : Tree} → list_refused kind ≡ list_ok y → ⊥
refused_size e = cc

ok_same : {x y : Tree} → list_ok x ≡ list_ok y → x ≡ y
ok_same e = cc

of_size : (q : Bool) (x y : Tree) → cond q (Ok x) (Err WrongElementSize) ≡ Ok y → IsListAt x y (cond q (Ok x) (Err WrongElementSize))
of_size true x y e = record { same = sym (ok_same e); at_one_is = refl }
of_size false x y e = absurd (refused_size e)

list_at_one : (size : ElementSize) (x y : Tree) (l : ℕ) → is_null_tree x ≡ false → as_list size x l ≡ Ok y → IsListAt x y (as_list size x 1)
list_at_one size tree.Null y l h e = absurd (true≢false h)
list_at_one size (tree.Struct bytes ps) y l h e = absurd (refused_size (entered l (Err WrongPointerKind) y e))
list_at_one size (tree.Voids n) y l h e = of_size (reads_voids size) (tree.Voids n) y (entered l _ y e)
list_at_one size (tree.Bits bs) y l h e = of_size (reads_bits size) (tree.Bits bs) y (entered l _ y e)
list_at_one size (tree.Numbers w bytes) y l h e = of_size (reads_numbers size w) (tree.Numbers w bytes) y (entered l _ y e)
list_at_one size (tree.Pointers ps) y l h e = of_size (reads_pointers size) (tree.Pointers ps) y (entered l _ y e)
list_at_one size (tree.Composite d p es) y l h e = of_size (reads_structs size d p) (tree.Composite d p es) y (entered l _ y e)
list_at_one size (tree.FaultLeaf k) y l h e = absurd (refused_size e)

pub list_same : (size : ElementSize) (x y : Tree) (l : ℕ) → is_null_tree x ≡ false → as_list size x l ≡ Ok y → y ≡ x
list_same size x y l h e = (list_at_one size x y l h e).same

pub list_there : (set : Schemas) (size : ElementSize) (x y : Tree) (l : ℕ) (t : SchemaType) → is_null_tree x ≡ false → as_list size x l ≡ Ok y → element_size t ≡ size →
    value_of set x Endless (ListType t) ≡ elements_value set y (below_of set y) Endless t
list_there set size x y l t h e is =
    readers.list_value set x Endless t h
    ∙ (ap (of_read (λ (_ : Tree). elements_value set x (below_of set x) Endless t)) (ap (λ z. as_list z x 1) is ∙ (list_at_one size x y l h e).at_one_is)
    ∙ ap (λ z. elements_value set z (below_of set z) Endless t) (sym (list_at_one size x y l h e).same))
