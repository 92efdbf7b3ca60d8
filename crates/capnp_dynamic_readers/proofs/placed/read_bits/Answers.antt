-- Signed numbers in two's complement.
use Rattle.std.proofs.Common.{ap, sym, bit_xor, w32, w64, to_z, of_z, arith, ◌∙◌}
use Rattle.std.specs.Int.{w16, cast_signed}
use Rattle.std.proofs.lemmas.Int.{of_z-to_z}
use Rattle.capnp_base.specs.declared.introspect.TypeVariant.{TypeVariant}
use Rattle.capnp_wire.specs.Standing.{struct_of}
use Rattle.capnp_schema.specs.SlotValue.{bits_at}
use Rattle.capnp_schema.specs.Types.{width, seen_variant}
use Rattle.capnp_records.specs.Reading.{number_value}
use Rattle.capnp_records.specs.Record as value
use Rattle.capnp_dynamic_readers.proofs.placed.read_bits.Goals as goal

pub returns-in-Int16-clause-value : goal.returns-in-Int16-clause-value
returns-in-Int16-clause-value c =
    ap value.Number (ap (λ x. to_z w16 (of_z w16 x)) c.cast_signed-in-Int16.ensures ∙ (ap (cast_signed w16) (of_z-to_z w16 c.pair_at.result (omega (arith, c.pair_at.type_inv))) ∙ ap (cast_signed w16) c.pair_at.ensures))
    ∙ ap (λ (v : TypeVariant). number_value (seen_variant v) (bit_xor (bits_at (struct_of c.args.reader.now).bytes c.args.start (width (seen_variant v))) c.args.mask)) (sym c.in-Int16.is)

pub returns-in-Int32-clause-value : goal.returns-in-Int32-clause-value
returns-in-Int32-clause-value c =
    ap value.Number (ap (λ x. to_z w32 (of_z w32 x)) c.cast_signed-in-Int32.ensures ∙ (ap (cast_signed w32) (of_z-to_z w32 c.half_at.result (omega (arith, c.half_at.type_inv))) ∙ ap (cast_signed w32) c.half_at.ensures))
    ∙ ap (λ (v : TypeVariant). number_value (seen_variant v) (bit_xor (bits_at (struct_of c.args.reader.now).bytes c.args.start (width (seen_variant v))) c.args.mask)) (sym c.in-Int32.is)

pub returns-in-Int64-clause-value : goal.returns-in-Int64-clause-value
returns-in-Int64-clause-value c =
    ap value.Number (ap (λ x. to_z w64 (of_z w64 x)) c.cast_signed-in-Int64.ensures ∙ (ap (cast_signed w64) (of_z-to_z w64 c.word_at.result (omega (arith, c.word_at.type_inv))) ∙ ap (cast_signed w64) c.word_at.ensures))
    ∙ ap (λ (v : TypeVariant). number_value (seen_variant v) (bit_xor (bits_at (struct_of c.args.reader.now).bytes c.args.start (width (seen_variant v))) c.args.mask)) (sym c.in-Int64.is)
