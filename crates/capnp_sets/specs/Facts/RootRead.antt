-- The root of a message, read as a struct, and the set that its record stands for.
use Rattle.std.proofs.Common.{ℕ, ◌+◌, ◌≡◌, ◌≢◌, ◌∙◌, arith, ap, ap₂, inl, subst, sym, IfErr, IfOk, List, Ok, Err, Result, Some}
use Rattle.capnp_device.specs.declared.error.Error.{Error}
use Rattle.capnp_device.specs.declared.error.ErrorKind.{ErrorKind}
use Rattle.capnp_device.specs.declared.error.ErrorKind.TheVariants.{OutOfMemory}
use Rattle.capnp_wire.specs.Reading.{as_struct}
use Rattle.capnp_wire.specs.Standing.{struct_levels, struct_of}
use Rattle.capnp_wire.specs.Stream.{message_tree_of}
use Rattle.capnp_wire.specs.Tree.{StructTree, Tree}
use Rattle.capnp_wire.specs.declared.struct_reader.StructReader.{StructReader}
use Rattle.capnp_schema.specs.Meta.{meta}
use Rattle.capnp_schema.specs.Schema.{Schemas}
use Rattle.capnp_schema.specs.StructHandles.{number_of}
use Rattle.capnp_records.specs.Reading.{struct_record}
use Rattle.capnp_records.specs.Record.{Left, Record}
use Rattle.capnp_dynamic_readers.specs.Handles.{reader_of, schema_of}
use Rattle.capnp_dynamic_readers.specs.Seen.{record_seen}
use Rattle.capnp_dynamic_readers.specs.declared.dynamic_struct.Reader.{Reader as StructHandle}
use Rattle.capnp_sets.specs.Handles.{IsMetaRecord}
use Rattle.capnp_sets.specs.Lists.{IsSchemaSetRefusal, has_cause, lists_meant}
use Rattle.capnp_sets.specs.Message.{IsMessageRefusal, IsRootRefusal, message_set, root_record, root_set, root_struct}

-- the root of these bytes was read as this struct
abbrev pub IsRoot : List ℕ → StructTree → Type 0
IsRoot bytes s = Ok s ≡ root_struct (message_tree_of bytes)

pub root_entered : (bytes : List ℕ) (root x : Tree) (n : ℕ) (s : StructTree) → Ok root ≡ message_tree_of bytes → x ≡ root → n ≡ 64 → Ok s ≡ as_struct x n → IsRoot bytes s
root_entered bytes root x n s whole tree_is levels_are read = (read ∙ ap₂ as_struct tree_is levels_are) ∙ ap root_struct whole

-- a handle of brand 0 on a struct that has 63 levels left stands on the record of a root
pub root_seen : (h : StructHandle) (r : StructReader) (n : ℕ) → reader_of h ≡ r → IsMetaRecord 0 h → struct_levels r + 1 ≡ n → n ≡ 64 → record_seen h ≡ root_record (struct_of r)
root_seen h r n reader is levels levels_are =
    let left : struct_levels r ≡ 63 = omega (arith, levels, levels_are) in
    ap (λ (z : Schemas). struct_record z (Left (struct_levels (reader_of h))) (struct_of (reader_of h)) (number_of (schema_of h))) is.set
    ∙ (ap (λ b. struct_record meta (Left (struct_levels (reader_of h))) (struct_of (reader_of h)) b) is.number
    ∙ (ap (λ (x : StructReader). struct_record meta (Left (struct_levels x)) (struct_of x) 0) reader
    ∙ ap (λ m. struct_record meta (Left m) (struct_of r) 0) left))

module _ (bytes : List ℕ) (s : StructTree) (h : StructHandle) (root : IsRoot bytes s) (seen : record_seen h ≡ root_record s) where
  record_set : root_set (root_struct (message_tree_of bytes)) ≡ lists_meant (record_seen h)
  record_set = ap root_set (sym root) ∙ ap lists_meant (sym seen)

  record_refused : (e : Error) → IsSchemaSetRefusal (record_seen h) e → IsMessageRefusal bytes e
  record_refused e f = subst (λ (r : Result StructTree ErrorKind). IsRootRefusal r e) root (subst (λ (r : Record). IsSchemaSetRefusal r e) seen f)

-- what a call answers of that record, said of the bytes
pub set_read : {A : Type 0} (made : Result A Error) (lists : A → Schemas) (bytes : List ℕ) (s : StructTree) (h : StructHandle) → IsRoot bytes s → record_seen h ≡ root_record s →
    IfOk made (λ a. lists_meant (record_seen h) ≡ Some (lists a)) → IfOk made (λ a. message_set bytes ≡ Some (lists a))
set_read (Ok a) lists bytes s h root seen e = record_set bytes s h root seen ∙ e
set_read (Err error) lists bytes s h root seen e = tt

pub lists_refused : {A : Type 0} (made : Result A Error) (bytes : List ℕ) (s : StructTree) (h : StructHandle) → IsRoot bytes s → record_seen h ≡ root_record s →
    IfErr made (λ e. e.kind ≢ OutOfMemory → has_cause (record_seen h) e.kind) → IfErr made (λ e. e.kind ≢ OutOfMemory → IsMessageRefusal bytes e)
lists_refused (Ok a) bytes s h root seen f = tt
lists_refused (Err error) bytes s h root seen f = λ m. record_refused bytes s h root seen error (inl (f m))

pub set_refused : {A : Type 0} (made : Result A Error) (bytes : List ℕ) (s : StructTree) (h : StructHandle) → IsRoot bytes s → record_seen h ≡ root_record s →
    IfErr made (λ e. e.kind ≢ OutOfMemory → IsSchemaSetRefusal (record_seen h) e) → IfErr made (λ e. e.kind ≢ OutOfMemory → IsMessageRefusal bytes e)
set_refused (Ok a) bytes s h root seen f = tt
set_refused (Err error) bytes s h root seen f = λ m. record_refused bytes s h root seen error (f m)
