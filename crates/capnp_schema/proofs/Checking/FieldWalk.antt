-- What the check of one field says of the rules, and all fields of all brands by one after another.
use Rattle.std.proofs.Common.{ℕ, ◌≡◌, ◌<◌, ◌+◌, ⊎_elim, true, false, length, slice_get, Some, refl, sym, subst, arith}
use Rattle.std.specs.Bool.{Decides}
use Rattle.std.proofs.lemmas.Bool.{cases_lt}
use Rattle.std.proofs.lemmas.Bool.Decides.{not_from_Decides}
use Rattle.std.proofs.lemmas.Option.{slice_get_within}
use Rattle.capnp_device.specs.declared.error.SchemaTable.{SchemaTable}
use Rattle.capnp_device.specs.declared.error.SchemaTable.TheVariants.{Brand as InBrands}
use Rattle.capnp_device.specs.declared.error.ErrorKind.{ErrorKind}
use Rattle.capnp_device.specs.declared.error.ErrorKind.TheVariants as error
use Rattle.capnp_schema.specs.Schema.{Schemas, Node, TypedField, node_of, fields_of, field_at}
use Rattle.capnp_schema.specs.Steps.Entries.{brand_node}
use Rattle.capnp_schema.specs.Accepted.{DefaultIsOfType, HasNamedType, NamesOwnGroup, SlotLiesInside}
use Rattle.capnp_schema.specs.Broken.{FieldBreaks, IsBroken, field_type, slot_outside, default_kind, group_type, IsKindOf}
use Rattle.capnp_schema.specs.Steps.Checking.Fields.{FieldStands}
use Rattle.capnp_schema.proofs.FoundEntries.{found_field, found_node}

-- a refusal that names a broken rule
pub refused : (set : Schemas) (kind : ErrorKind) (rule : ℕ) (table : SchemaTable) (entry field : ℕ) → kind ≡ error.Schema table field rule entry → IsBroken set rule table entry field → IsKindOf set kind
refused set kind rule table entry field is broken = subst (IsKindOf set) (sym is) broken

module _ (set : Schemas) (b i : ℕ) (f : TypedField) (in_brands : b < length set.brands) (found : Some f ≡ slice_get (fields_of set b) i) where
  breaks : (P : TypedField → Type 0) → (P f → ⊥) → FieldBreaks set P b i
  breaks P broken = record { brand = in_brands; field = slice_get_within (fields_of set b) i f (sym found); broken = λ h. broken (subst P (found_field set b i f found) h) }

  pub breaks_names : Decides false (HasNamedType set f) → IsBroken set 1 InBrands b i
  breaks_names d = field_type b i (breaks (HasNamedType set) (not_from_Decides false d refl))

  pub breaks_inside : (n : Node) → Some n ≡ brand_node set b → Decides false (SlotLiesInside n f) → IsBroken set 4 InBrands b i
  breaks_inside n is d = slot_outside b i (breaks (SlotLiesInside (node_of set b)) (λ h. not_from_Decides false d refl (subst (λ (m : Node). SlotLiesInside m f) (found_node set b n is) h)))

  pub breaks_default : Decides false (DefaultIsOfType f) → IsBroken set 5 InBrands b i
  breaks_default d = default_kind b i (breaks DefaultIsOfType (not_from_Decides false d refl))

  pub breaks_group : Decides false (NamesOwnGroup set f) → IsBroken set 7 InBrands b i
  breaks_group d = group_type b i (breaks (NamesOwnGroup set) (not_from_Decides false d refl))

  pub stands : (n : Node) → Some n ≡ brand_node set b → Decides true (HasNamedType set f) → Decides true (SlotLiesInside n f) → Decides true (DefaultIsOfType f) → Decides true (NamesOwnGroup set f) → FieldStands set (node_of set b) (field_at set b i)
  stands n is names inside default group = subst (λ m. FieldStands set m (field_at set b i)) (sym (found_node set b n is)) (subst (FieldStands set n) (sym (found_field set b i f found)) (record {
    names = names.0 refl;
    inside = inside.0 refl;
    default = default.0 refl;
    group = group.0 refl;
  }))

-- one more
pub one_more : (P : ℕ → Type 0) (n : ℕ) → ((k : ℕ) → k < n → P k) → P n → (k : ℕ) → k < n + 1 → P k
one_more P n before here k h = ⊎_elim (λ lt. before k lt) (λ le. let e : n ≡ k = omega arith in subst P e here) (cases_lt k n)
