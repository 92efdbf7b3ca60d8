-- What is written of a value of a set is that of the part that it is seen as.
use Rattle.std.proofs.Common.{ap, refl, subst, sym, ◌∙◌, ◌≡◌, ℕ, List, Bool, true, false, Ok, Err}
use Rattle.capnp_device.specs.declared.error.ErrorKind.{ErrorKind}
use Rattle.capnp_schema.specs.Schema.{Schemas, node_of}
use Rattle.capnp_schema.specs.StructHandles.{number_of, set_of}
use Rattle.capnp_records.specs.Text.{Out}
use Rattle.capnp_float_texts.specs.Printed.{printed_float_text}
use Rattle.capnp_float_texts.specs.Texts.{float_text_of}
use Rattle.capnp_dynamic_readers.specs.Handles.{schema_of}
use Rattle.capnp_dynamic_readers.specs.Seen.{record_seen, value_seen}
use Rattle.capnp_dynamic_readers.specs.Shown.{struct_printed, type_seen}
use Rattle.capnp_dynamic_readers.specs.Typed.{IsOf, struct_type}
use Rattle.capnp_dynamic_readers.specs.declared.dynamic_struct.Reader.{Reader as StructHandle}
use Rattle.capnp_dynamic_readers.specs.declared.dynamic_value.Reader.{Reader as DynamicValue}
use Rattle.capnp_dynamic_readers.specs.declared.dynamic_value.Reader.TheVariants as dynamic
use Rattle.capnp_show_engine.specs.Show.{struct_or_group}
use Rattle.capnp_patch.specs.Gets.{Reached, reached_text, value_part_seen}
use Rattle.capnp_queries.proofs.FloatRefusals.{reached_refused}
use Rattle.capnp_queries.specs.Shown.{IsReachedShown, IsReachedTooLong, IsTooLong, IsWritten, raw_bytes, reached_float_text}

printed_is : (q : Bool) (h : StructHandle) → struct_printed q h ≡ struct_or_group q (record_seen h)
printed_is true h = refl
printed_is false h = refl

pub part_text : (set : Schemas) (floats indented : Bool) (v : DynamicValue) → IsOf set (type_seen v) v → printed_float_text floats indented v ≡ reached_float_text set floats indented (Ok (value_part_seen v))
part_text set floats indented dynamic.Void is = refl
part_text set floats indented (dynamic.Bool b) is = refl
part_text set floats indented (dynamic.Int8 x) is = refl
part_text set floats indented (dynamic.Int16 x) is = refl
part_text set floats indented (dynamic.Int32 x) is = refl
part_text set floats indented (dynamic.Int64 x) is = refl
part_text set floats indented (dynamic.UInt8 x) is = refl
part_text set floats indented (dynamic.UInt16 x) is = refl
part_text set floats indented (dynamic.UInt32 x) is = refl
part_text set floats indented (dynamic.UInt64 x) is = refl
part_text set floats indented (dynamic.Enum e) is = ap (λ (y : Schemas). float_text_of y floats indented (type_seen (dynamic.Enum e)) (value_seen (dynamic.Enum e))) is.1
part_text set floats indented (dynamic.Text t) is = refl
part_text set floats indented (dynamic.«Data» bytes) is = refl
part_text set floats indented (dynamic.Struct s) is =
    ap (float_text_of (set_of (schema_of s)) floats indented (struct_type (schema_of s))) (printed_is (node_of (set_of (schema_of s)) (number_of (schema_of s))).is_group s)
    ∙ ap (λ (y : Schemas). float_text_of y floats indented (struct_type (schema_of s)) (struct_or_group (node_of y (number_of (schema_of s))).is_group (record_seen s))) is.1
part_text set floats indented (dynamic.List l) is = ap (λ (y : Schemas). float_text_of y floats indented (type_seen (dynamic.List l)) (value_seen (dynamic.List l))) is.0
part_text set floats indented (dynamic.AnyPointer p) is = refl

module _ (set : Schemas) (floats raw indented : Bool) (limit : ℕ) (v : DynamicValue) (typed : IsOf set (type_seen v) v) (y : Reached) (is : Ok (value_part_seen v) ≡ y) where
  pub shown_is : (written : List ℕ) → IsWritten (raw_bytes raw (value_seen v)) limit (printed_float_text floats indented v) written → IsReachedShown set floats raw indented limit y written
  shown_is written h =
      subst (λ (z : Reached). IsReachedShown set floats raw indented limit z written) is
      (subst (λ (o : Out). IsWritten (raw_bytes raw (value_seen v)) limit o written) (part_text set floats indented v typed) h)

  pub too_long_is : IsTooLong (raw_bytes raw (value_seen v)) limit (printed_float_text floats indented v) → IsReachedTooLong set floats raw indented limit y
  too_long_is h =
      subst (λ (z : Reached). IsReachedTooLong set floats raw indented limit z) is
      (subst (λ (o : Out). IsTooLong (raw_bytes raw (value_seen v)) limit o) (part_text set floats indented v typed) h)

  pub refused_is : (kind : ErrorKind) → printed_float_text floats indented v ≡ Err kind → reached_text set indented y ≡ Err kind
  refused_is kind h = ap (reached_text set indented) (sym is) ∙ reached_refused set floats indented (Ok (value_part_seen v)) kind (sym (part_text set floats indented v typed) ∙ h)

pub unreached_too_long : (set : Schemas) (floats raw indented : Bool) (limit : ℕ) (y : Reached) (kind : ErrorKind) → Err kind ≡ y → IsReachedTooLong set floats raw indented limit y
unreached_too_long set floats raw indented limit y kind is = subst (λ (z : Reached). IsReachedTooLong set floats raw indented limit z) is (tt {0})
