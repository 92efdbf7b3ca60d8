-- What is put or found under a layer of a type is put or found under the type.
use Rattle.std.proofs.Common.{ℕ, ◌≡◌, refl, [], ◌∷◌, List, true, false, Option, Some, None, Ok, sym, subst}
use Rattle.std.specs.Borrow.{Bor}
use Rattle.capnp_wire.specs.Reading.{as_list, as_struct, is_null_tree}
use Rattle.capnp_wire.specs.Standing.{list_of, struct_of}
use Rattle.capnp_wire.specs.Tree.{Tree}
use Rattle.capnp_wire.specs.declared.list_reader.ListReader.{ListReader}
use Rattle.capnp_wire.specs.declared.size.ElementSize.{ElementSize}
use Rattle.capnp_wire.specs.declared.struct_reader.StructReader.{StructReader}
use Rattle.capnp_schema.specs.Schema.{Schemas}
use Rattle.capnp_schema.specs.StructHandles.{generic_of, number_of, set_of}
use Rattle.capnp_schema.specs.Types.{DataType, ListType, SchemaType, TextType, element_size, is_pointer}
use Rattle.capnp_schema.specs.declared.schema.structs.StructSchema.{StructSchema}
use Rattle.capnp_records.specs.Reading.{reads, value_of}
use Rattle.capnp_records.specs.Record as value
use Rattle.capnp_records.specs.Record.{Endless, Value}
use Rattle.capnp_dynamic_readers.specs.Typed.{struct_type}
use Rattle.capnp_call.specs.Seen.{step_seen}
use Rattle.capnp_call.specs.declared.calls.Step.{Step}
use Rattle.capnp_diffs.specs.Changes.{CanStand, Clears, whole_change}
use Rattle.capnp_diffs.specs.Steps.Adding.{Adds, IsFoundAt, one_change}
use Rattle.capnp_diffs.specs.Steps.Leaves.{data_value, list_value, text_value}
use Rattle.capnp_diffs.specs.declared.change.Change.{Change as FoundChange}
use Rattle.capnp_diffs.proofs.Behind.{list_same, list_there, struct_there}

pub text_stands : (o : Option (Bor (List ℕ))) → CanStand TextType (text_value o)
text_stands None = refl
text_stands (Some bytes) = tt

pub data_stands : (o : Option (Bor (List ℕ))) → CanStand DataType (data_value o)
data_stands None = refl
data_stands (Some bytes) = tt

module _ (set : Schemas) (s t : SchemaType) (is : s ≡ t) (x : Tree) (w : Value) (at_x : value_of set x Endless s ≡ w) where
  pub stands_layer : CanStand s w → CanStand t (value_of set x Endless t)
  stands_layer stands = subst (λ z. CanStand z (value_of set x Endless z)) is (subst (CanStand s) (sym at_x) stands)

  pub put_layer : (step : Step) (path : List Step) (old new : List FoundChange) → Adds set path old new (whole_change (step_seen step) s w ∷ []) → Adds set path old new (whole_change (step_seen step) t (value_of set x Endless t) ∷ [])
  put_layer step path old new adds =
      subst (λ z. Adds set path old new (whole_change (step_seen step) z (value_of set x Endless z) ∷ [])) is
      (subst (λ v. Adds set path old new (whole_change (step_seen step) s v ∷ [])) (sym at_x) adds)

-- nothing stands there, so it is cleared
module _ (set : Schemas) (t : SchemaType) (x : Tree) (missing : value_of set x Endless t ≡ value.Missing Endless) where
  pub stands_missing : is_pointer t ≡ true → CanStand t (value_of set x Endless t)
  stands_missing pointer = subst (CanStand t) (sym missing) pointer

  pub put_missing : (step : Step) (path : List Step) (old new : List FoundChange) → Adds set path old new (one_change step Clears) → Adds set path old new (whole_change (step_seen step) t (value_of set x Endless t) ∷ [])
  put_missing step path old new adds = subst (λ v. Adds set path old new (whole_change (step_seen step) t v ∷ [])) (sym missing) adds

module _ (set : Schemas) (step : Step) (path : List Step) (old new : List FoundChange) where
  pub found_layer : (s t : SchemaType) (x y : Tree) → s ≡ t → IsFoundAt set step s (value_of set x Endless s) (value_of set y Endless s) path old new → IsFoundAt set step t (value_of set x Endless t) (value_of set y Endless t) path old new
  found_layer s t x y is found = subst (λ z. IsFoundAt set step z (value_of set x Endless z) (value_of set y Endless z) path old new) is found

  pub found_schema : (schema : StructSchema) (t : SchemaType) (x y : Tree) → set_of schema ≡ set → struct_type schema ≡ t →
      IsFoundAt (set_of schema) step (struct_type schema) (value_of (set_of schema) x Endless (struct_type schema)) (value_of (set_of schema) y Endless (struct_type schema)) path old new →
      IsFoundAt set step t (value_of set x Endless t) (value_of set y Endless t) path old new
  found_schema schema t x y at_set is found =
      found_layer (struct_type schema) t x y is
      (subst (λ z. IsFoundAt z step (struct_type schema) (value_of z x Endless (struct_type schema)) (value_of z y Endless (struct_type schema)) path old new) at_set found)

-- ---- what is read out of a pointer that is not null ----

module _ (set : Schemas) (x : Tree) (n : ℕ) (there : is_null_tree x ≡ false) where
  module _ (schema : StructSchema) (r : StructReader) (t : SchemaType) (at_set : set_of schema ≡ set) (is : struct_type schema ≡ t) (read : as_struct x n ≡ Ok (struct_of r)) where
    struct_read : value_of set x Endless (struct_type schema) ≡ value.Struct (reads set (struct_of r) (number_of schema))
    struct_read = struct_there set x n (number_of schema) (generic_of schema) (struct_of r) there read

    pub struct_stands : CanStand t (value_of set x Endless t)
    struct_stands = stands_layer set (struct_type schema) t is x _ struct_read tt

    pub struct_put_there : (step : Step) (path : List Step) (old new : List FoundChange) →
        Adds (set_of schema) path old new (whole_change (step_seen step) (struct_type schema) (value.Struct (reads (set_of schema) (struct_of r) (number_of schema))) ∷ []) →
        Adds set path old new (whole_change (step_seen step) t (value_of set x Endless t) ∷ [])
    struct_put_there step path old new adds =
        put_layer set (struct_type schema) t is x _ struct_read step path old new
        (subst (λ z. Adds z path old new (whole_change (step_seen step) (struct_type schema) (value.Struct (reads z (struct_of r) (number_of schema))) ∷ [])) at_set adds)

  module _ (e : SchemaType) (l : ListReader) (size : ElementSize) (sized : element_size e ≡ size) (read : as_list size x n ≡ Ok (list_of l)) where
    pub list_same_there : list_of l ≡ x
    list_same_there = list_same size x (list_of l) n there read

    pub list_value_there : value_of set x Endless (ListType e) ≡ list_value set e (Some l)
    list_value_there = list_there set size x (list_of l) n e there read sized

    module _ (t : SchemaType) (is : ListType e ≡ t) where
      pub list_stands : CanStand t (value_of set x Endless t)
      list_stands = stands_layer set (ListType e) t is x _ list_value_there tt

      pub list_put_there : (step : Step) (path : List Step) (old new : List FoundChange) → Adds set path old new (whole_change (step_seen step) (ListType e) (list_value set e (Some l)) ∷ []) →
          Adds set path old new (whole_change (step_seen step) t (value_of set x Endless t) ∷ [])
      list_put_there step path old new adds = put_layer set (ListType e) t is x _ list_value_there step path old new adds
