-- What a set's record stands for, by what its three lists were read as.
use Rattle.std.proofs.Common.{◌≡◌, ◌∙◌, ap, refl, subst, sym, List, Ok, Some}
use Rattle.capnp_device.specs.declared.error.ErrorKind.{ErrorKind}
use Rattle.capnp_schema.specs.Meta.{meta, meta_struct}
use Rattle.capnp_schema.specs.Schema.{Brand, Enum, Node, Schemas}
use Rattle.capnp_schema.specs.StructHandles.{number_of}
use Rattle.capnp_records.specs.Reading.{struct_record}
use Rattle.capnp_records.specs.Record as value
use Rattle.capnp_records.specs.Record.{Left, Record, Value}
use Rattle.capnp_dynamic_readers.specs.Handles.{reader_of, schema_of}
use Rattle.capnp_dynamic_readers.specs.Seen.{record_seen}
use Rattle.capnp_dynamic_readers.specs.declared.dynamic_struct.Reader.{Reader as StructHandle}
use Rattle.capnp_wire.specs.Standing.{struct_levels, struct_of}
use Rattle.capnp_wire.specs.declared.struct_reader.StructReader.{StructReader}
use Rattle.capnp_wire.specs.declared.list_reader.ListReader.{ListReader}
use Rattle.capnp_sets.specs.Causes.{HasCause, SetRead}
use Rattle.capnp_sets.specs.Fields.{node_meant}
use Rattle.capnp_sets.specs.Handles.{IsMetaRecord}
use Rattle.capnp_sets.specs.Steps.Handles.{list_in, meta_record_in}
use Rattle.capnp_sets.specs.Lists.{brand_of, brands_in, elements_of, enum_meant, has_cause, lists_meant, made_set, read_or_none, set_meant}
use Rattle.capnp_sets.specs.Parts.{meta_read_at, struct, structs}
use Rattle.capnp_sets.proofs.AppliedReads.{cause_left, cause_right, made}
use Rattle.capnp_sets.proofs.Faults.{fault_list}

-- a handle of brand 0 stands on the record of its sections
pub root_in : (h : StructHandle) (r : StructReader) → IsMetaRecord 0 h → r ≡ reader_of h → meta_record_in 0 r ≡ record_seen h
root_in h r is same =
    ap (meta_record_in 0) same
    ∙ (ap (λ n. struct_record meta (Left (struct_levels (reader_of h))) (struct_of (reader_of h)) n) (sym is.number)
    ∙ ap (λ (z : Schemas). struct_record z (Left (struct_levels (reader_of h))) (struct_of (reader_of h)) (number_of (schema_of h))) (sym is.set))

pub root_cause : (h : StructHandle) (r : StructReader) (kind : ErrorKind) → IsMetaRecord 0 h → r ≡ reader_of h → has_cause (meta_record_in 0 r) kind → has_cause (record_seen h) kind
root_cause h r kind is same cause = subst (λ (x : Record). has_cause x kind) (root_in h r is same) cause

module _ (r : Record) where
  -- the list of a set's records of brands, as it was read
  abbrev brand_list : Value → SetRead (List Brand)
  brand_list v = structs 6 (brand_of (elements_of v)) v

  abbrev enum_list : Value → SetRead (List Enum)
  enum_list v = structs 8 (enum_meant (elements_of v)) (meta_read_at 0 2 r)

  pub brands_refused : (kind : ErrorKind) → value.Fault kind ≡ meta_read_at 0 1 r → has_cause r kind
  unfolding set_meant
  brands_refused kind h = cause_left _ _ kind (cause_right _ _ kind (fault_list (meta_struct 6) (struct (brand_of (brands_in r))) (meta_read_at 0 1 r) kind h))

  pub node_refused : (kind : ErrorKind) → HasCause (structs 1 node_meant (meta_read_at 0 0 r)) kind → has_cause r kind
  unfolding set_meant
  node_refused kind h = cause_left _ _ kind (cause_left _ _ kind (cause_right _ _ kind h))

  pub brand_refused : (l : ListReader) (kind : ErrorKind) → list_in (meta_struct 6) l ≡ meta_read_at 0 1 r → HasCause (brand_list (list_in (meta_struct 6) l)) kind → has_cause r kind
  unfolding set_meant
  brand_refused l kind e h = cause_left _ _ kind (cause_right _ _ kind (subst (λ (v : Value). HasCause (brand_list v) kind) e h))

  pub enum_refused : (l : ListReader) (kind : ErrorKind) → list_in (meta_struct 6) l ≡ meta_read_at 0 1 r → HasCause (enum_list (list_in (meta_struct 6) l)) kind → has_cause r kind
  unfolding set_meant
  enum_refused l kind e h = cause_right _ _ kind (subst (λ (v : Value). HasCause (enum_list v) kind) e h)

  pub set_made : (l : ListReader) (nodes : List Node) (brands : List Brand) (enums : List Enum) → list_in (meta_struct 6) l ≡ meta_read_at 0 1 r → structs 1 node_meant (meta_read_at 0 0 r) ≡ Ok nodes →
      brand_list (list_in (meta_struct 6) l) ≡ Ok brands → enum_list (list_in (meta_struct 6) l) ≡ Ok enums → lists_meant r ≡ Some (made_set nodes brands enums)
  unfolding set_meant
  set_made l nodes brands enums e n b x =
      ap read_or_none (made (made (made refl n) (subst (λ (v : Value). brand_list v ≡ Ok brands) e b)) (subst (λ (v : Value). enum_list v ≡ Ok enums) e x))
