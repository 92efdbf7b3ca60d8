-- The walk keeps that in all brands before, fields are apart from one another and from the discriminant.
-- A field that is found breaks rule 11 or 12 there.
use Rattle.std.proofs.Common.{ℕ, ◌<◌, length, arith}
use Rattle.capnp_schema.specs.Schema.{fields_of, field_at}
use Rattle.capnp_schema.specs.Accepted.{FieldsApart, DiscriminantApart}
use Rattle.capnp_schema.specs.Entries.{lists_seen}
use Rattle.capnp_schema.proofs.Checking.BrandRefusals.{refused_at_field, refused_at_discriminant}
use Rattle.capnp_schema.proofs.Checking.FieldWalk.{one_more}
use Rattle.capnp_schema.proofs.FieldCounts.{index_fits}
use Rattle.capnp_schema.proofs.check.footprints.find_meeting.Goals as goal

pub overflow_cast-field : goal.overflow_cast-field
overflow_cast-field c = let lt = index_fits (lists_seen c.args.lists.now) c.loop-brand.brand c.in-Some.field c.requires c.in-Some.ensures.field in omega arith

pub returns-in-Some : goal.returns-in-Some
returns-in-Some c = refused_at_field (lists_seen c.args.lists.now) c.refusal.result c.loop-brand.brand c.in-Some.field c.refusal.ensures c.in-Some.ensures

pub overflow_cast-field-in-Some-discriminant_field : goal.overflow_cast-field-in-Some-discriminant_field
overflow_cast-field-in-Some-discriminant_field c = let lt = index_fits (lists_seen c.args.lists.now) c.loop-brand.brand c.in-Some-discriminant_field.field c.requires c.in-Some-discriminant_field.ensures.field in omega arith

pub returns-in-Some-discriminant_field : goal.returns-in-Some-discriminant_field
returns-in-Some-discriminant_field c = refused_at_discriminant (lists_seen c.args.lists.now) c.refusal-in-Some-discriminant_field.result c.loop-brand.brand c.in-Some-discriminant_field.field c.refusal-in-Some-discriminant_field.ensures c.in-Some-discriminant_field.ensures

pub loop-brand-preserved : goal.loop-brand-preserved
loop-brand-preserved c = record {
  fields = λ b i lt. one_more (λ (b : ℕ). (i : ℕ) → i < length (fields_of (lists_seen c.args.lists.now) b) → FieldsApart (lists_seen c.args.lists.now) b i (field_at (lists_seen c.args.lists.now) b i)) c.loop-brand.brand (λ b less i. c.loop-brand.invariant.fields b i less) c.in_default.ensures b lt i;
  discriminants = λ b i lt. one_more (λ (b : ℕ). (i : ℕ) → i < length (fields_of (lists_seen c.args.lists.now) b) → DiscriminantApart (lists_seen c.args.lists.now) b (field_at (lists_seen c.args.lists.now) b i)) c.loop-brand.brand (λ b less i. c.loop-brand.invariant.discriminants b i less) c.in_default-discriminant_field.ensures b lt i;
}
