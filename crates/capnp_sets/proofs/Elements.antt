-- Elements of lists as they are read: what is there is no fault, and a fault has its cause.
use Rattle.std.proofs.Common.{ℕ, ◌+◌, ◌-◌, ◌≡◌, ◌∙◌, arith, ap, refl, subst, sym, List, [], ◌∷◌, ◌++◌, map, Ok, Err, Result}
use Rattle.capnp_device.specs.declared.error.ErrorKind.{ErrorKind}
use Rattle.capnp_wire.specs.Reading.{element_levels, element_pointer, element_struct, with_level}
use Rattle.capnp_wire.specs.Standing.{levels_of, list_levels, list_of, struct_levels, struct_of, tree_of}
use Rattle.capnp_wire.specs.Tree.{StructTree}
use Rattle.capnp_wire.specs.declared.list_reader.ListReader.{ListReader}
use Rattle.capnp_wire.specs.declared.pointer_reader.PointerReader.{PointerReader}
use Rattle.capnp_wire.specs.declared.struct_reader.StructReader.{StructReader}
use Rattle.capnp_schema.specs.Meta.{meta_structs, meta, meta_struct}
use Rattle.capnp_schema.specs.Schema.{VoidValue}
use Rattle.capnp_schema.specs.Types.{SchemaType}
use Rattle.capnp_records.specs.Default.{read_of}
use Rattle.capnp_records.specs.Facts.Readers.{element_is_read}
use Rattle.capnp_records.specs.Reading.{of_read, struct_record, value_of}
use Rattle.capnp_records.specs.Record as value
use Rattle.capnp_records.specs.Record.{Left, Value}
use Rattle.capnp_sets.specs.Causes.{HasCause, SetRead}
use Rattle.capnp_sets.specs.Steps.Handles.{meta_record_in}
use Rattle.capnp_sets.specs.Parts.{unless_fault}
use Rattle.capnp_sets.proofs.AppliedReads.{only_cause}
use Rattle.capnp_sets.proofs.RowsRead.{element_seen}

-- what the calls of a list's reader answer for an element is the read of the element
module _ (b : ℕ) (l : ListReader) (i : ℕ) where
  abbrev seen_by : Result StructTree ErrorKind → Value
  seen_by x = read_of meta VoidValue (meta_struct b) (of_read (λ (y : StructTree). value.Struct (struct_record meta (Left (list_levels l - 1)) y b)) x)

  pub struct_there : (s : StructReader) → Ok (struct_of s) ≡ with_level (list_levels l) (Ok (element_struct (list_of l) i)) → struct_levels s + 1 ≡ list_levels l → value.Struct (meta_record_in b s) ≡ element_seen (meta_struct b) l i
  struct_there s e levels =
      ap (λ m. value.Struct (struct_record meta (Left m) (struct_of s) b)) (omega (arith, levels))
      ∙ (ap seen_by e ∙ ap (read_of meta VoidValue (meta_struct b)) (sym (element_is_read meta (list_of l) (list_levels l) (meta_struct b) i)))

  pub struct_refused : (kind : ErrorKind) → Err kind ≡ with_level (list_levels l) (Ok (element_struct (list_of l) i)) → value.Fault kind ≡ element_seen (meta_struct b) l i
  struct_refused kind e = ap seen_by e ∙ ap (read_of meta VoidValue (meta_struct b)) (sym (element_is_read meta (list_of l) (list_levels l) (meta_struct b) i))

  module _ (p : PointerReader) (tree : tree_of p ≡ element_pointer (list_of l) i (list_levels l)) (levels : levels_of p ≡ element_levels (list_of l) (list_levels l)) where
    pub pointer_seen : read_of meta VoidValue (meta_structs b) (value_of meta (tree_of p) (Left (levels_of p)) (meta_structs b)) ≡ element_seen (meta_structs b) l i
    pointer_seen =
        ap (λ x. read_of meta VoidValue (meta_structs b) (value_of meta x (Left (levels_of p)) (meta_structs b))) tree
        ∙ (ap (λ n. read_of meta VoidValue (meta_structs b) (value_of meta (element_pointer (list_of l) i (list_levels l)) (Left n) (meta_structs b))) levels
        ∙ ap (read_of meta VoidValue (meta_structs b)) (sym (element_is_read meta (list_of l) (list_levels l) (meta_structs b) i)))

module _ {A : Type 0} (t : SchemaType) (f : Value → SetRead A) (l : ListReader) (i : ℕ) where
  abbrev one_read : SetRead A
  one_read = unless_fault f (element_seen t l i)

  -- an element that was read stands for what its value stands for, which is no fault
  pub element_made : (v : Value) (a : A) → v ≡ element_seen t l i → unless_fault f v ≡ f v → f v ≡ Ok a → one_read ≡ Ok a
  element_made v a seen there here = ap (unless_fault f) (sym seen) ∙ (there ∙ here)

  -- the causes of its value stand in it
  pub element_caused : (v : Value) (kind : ErrorKind) → v ≡ element_seen t l i → unless_fault f v ≡ f v → HasCause (f v) kind → HasCause one_read kind
  element_caused v kind seen there here = subst (λ (x : SetRead A). HasCause x kind) (sym (ap (unless_fault f) (sym seen) ∙ there)) here

  -- and where there is none, the refusal of its read
  pub element_refused : (kind : ErrorKind) → value.Fault kind ≡ element_seen t l i → HasCause one_read kind
  element_refused kind seen = only_cause kind one_read (ap (unless_fault f) (sym seen))

-- one more in a list of what was made
pub map_more : {A B : Type 0} (f : A → B) (xs ys : List A) (x : A) → ys ≡ xs ++ x ∷ [] → map f ys ≡ map f xs ++ f x ∷ []
map_more {A = A} f xs ys x e = ap (map f) e ∙ go xs
  where
    go : (zs : List A) → map f (zs ++ x ∷ []) ≡ map f zs ++ f x ∷ []
    go [] = refl
    go (z ∷ zs) = ap (λ ws. f z ∷ ws) (go zs)
