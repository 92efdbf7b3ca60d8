-- Refusals of the rules about brands.
use Rattle.std.proofs.Common.{ℕ, ◌≡◌, ◌<◌, length, sym, subst}
use Rattle.capnp_device.specs.declared.error.Error.{Error}
use Rattle.capnp_device.specs.declared.error.ErrorKind.TheVariants as error
use Rattle.capnp_device.specs.declared.error.SchemaTable.TheVariants.{Brand as InBrands}
use Rattle.capnp_schema.specs.Schema.{Schemas}
use Rattle.capnp_schema.specs.Accepted.{GroupStands, FieldsApart, DiscriminantApart}
use Rattle.capnp_schema.specs.Broken.{IsRefusalOf, IsKindOf, FieldBreaks, group_parent, fields_meet, discriminant_met}

pub refused_at_group : (set : Schemas) (e : Error) (g : ℕ) → e.kind ≡ error.Schema InBrands 65535 8 g → g < length set.brands → (GroupStands set g → ⊥) → IsRefusalOf set e
refused_at_group set e g is lt broken = subst (IsKindOf set) (sym is) (group_parent g lt broken)

pub refused_at_field : (set : Schemas) (e : Error) (b i : ℕ) → e.kind ≡ error.Schema InBrands i 11 b → FieldBreaks set (FieldsApart set b i) b i → IsRefusalOf set e
refused_at_field set e b i is broken = subst (IsKindOf set) (sym is) (fields_meet b i broken)

pub refused_at_discriminant : (set : Schemas) (e : Error) (b i : ℕ) → e.kind ≡ error.Schema InBrands i 12 b → FieldBreaks set (DiscriminantApart set b) b i → IsRefusalOf set e
refused_at_discriminant set e b i is broken = subst (IsKindOf set) (sym is) (discriminant_met b i broken)
