-- The member that a struct's discriminant names is the active one of its record.
use Rattle.std.proofs.Common.{ℕ, zero, suc, ◌*◌, ◌≡◌, ◌==◌, refl, false, Option, Some, None, arith, ap, subst, ◌∙◌}
use Rattle.capnp_wire.specs.Tree.{StructTree}
use Rattle.capnp_schema.specs.Discriminant.{discriminant_of, first_bit}
use Rattle.capnp_schema.specs.FieldLists.{IsFound}
use Rattle.capnp_schema.specs.Query.{member_of}
use Rattle.capnp_schema.specs.Schema.{Node}
use Rattle.capnp_schema.specs.SlotValue.{bits_at}
use Rattle.capnp_schema.specs.StructHandles.{number_of, set_of, struct_node, struct_records}
use Rattle.capnp_schema.specs.declared.schema.fields.Field.{Field}
use Rattle.capnp_schema.specs.declared.schema.structs.StructSchema.{StructSchema}
use Rattle.capnp_records.specs.Part.{which_of}
use Rattle.capnp_records.specs.Reading.{struct_record}
use Rattle.capnp_records.specs.Record.{Levels}
use Rattle.capnp_dynamic_readers.specs.Facts.HasWhich.{not_zero, which_counted}

-- where there is a discriminant members are counted
counted : (n : Node) (first : ℕ) → Some first ≡ discriminant_of n → ((n.discriminant_count == 0) ≡ false) × (first ≡ 16 * n.discriminant_offset)
counted n first some = go n.discriminant_count refl
  where
    go : (c : ℕ) → n.discriminant_count ≡ c → ((n.discriminant_count == 0) ≡ false) × (first ≡ 16 * n.discriminant_offset)
    go zero e = let gone : Some first ≡ None = some ∙ ap (λ k. first_bit k n.discriminant_offset) e in absurd cc
    go (suc m) e = let same : Some first ≡ Some (16 * n.discriminant_offset) = some ∙ ap (λ k. first_bit k n.discriminant_offset) e in (not_zero n.discriminant_count (λ z. omega (arith, z, e)), cc)

-- and the one of the number that stands there is active
pub member_active : (s : StructSchema) (l : Levels) (x : StructTree) (first d : ℕ) (answer : Option Field) → Some first ≡ discriminant_of (struct_node s) → d ≡ bits_at x.bytes first 16 →
    IsFound s (member_of (struct_records s) d) answer → IsFound s (which_of (struct_record (set_of s) l x (number_of s))) answer
member_active s l x first d answer some stands found =
    let of = counted (struct_node s) first some in
    subst (λ (o : Option ℕ). IsFound s o answer) (which_counted (set_of s) l x (number_of s) d of.0 (stands ∙ ap (λ k. bits_at x.bytes k 16) of.1)) found
