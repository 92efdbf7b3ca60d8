-- Groups are cleared one field after another.
use Rattle.std.proofs.Common.{ℕ, zero, suc, ◌+◌, ◌<◌, ◌≡◌, refl, List, [], ◌∷◌, Bool, true, false, not, nat_lt, cond, length, map, position, slice_get, Option, Some, None, arith, ap, sym, subst, ◌∙◌}
use Rattle.std.proofs.lemmas.Bool.{true≢false}
use Rattle.std.specs.List.{position_or_len}
use Rattle.std.specs.Option.{unwrap_or}
use Rattle.capnp_wire.specs.Tree.{StructTree}
use Rattle.capnp_schema.specs.Footprint.{Spot}
use Rattle.capnp_schema.specs.FieldLists.{index_of, field_schema, typed_of}
use Rattle.capnp_schema.specs.Query.{is_member_of}
use Rattle.capnp_schema.specs.Accepted.{IsGroupOf}
use Rattle.capnp_schema.specs.Ranges.{HasRanges}
use Rattle.capnp_schema.specs.Schema.{Field as FieldSeen, Schemas, TypedField, no_field}
use Rattle.capnp_schema.specs.StructHandles.{IsStruct, number_of, set_of}
use Rattle.capnp_schema.specs.Types.{struct_number}
use Rattle.capnp_schema.specs.declared.schema.fields.Field.{Field}
use Rattle.capnp_schema.specs.declared.schema.structs.StructSchema.{StructSchema}
use Rattle.capnp_records.specs.Facts.FieldWrite.{fits_after, writes_refl, writes_trans, writes_wider}
use Rattle.capnp_records.specs.Laws.{GroupClearStaysInside}
use Rattle.capnp_records.specs.Writes.Overlay.{cleared_group, cleared_member}
use Rattle.capnp_records.specs.Writes.Slots.{Fits, Writes}
use Rattle.capnp_slots.specs.Fields.{IsRoomFor, Keeps, field_brand, field_set, names_of, switched_to}
use Rattle.capnp_slots.specs.Groups.{IsGroupAt, KeepsSize, group_without}
use Rattle.capnp_slots.specs.Steps.Groups.{cleared_option, cleared_through}

-- ---- sizes ----

pub keeps_size : (inside : Spot → Bool) (s s' : StructTree) → Keeps inside s s' → KeepsSize s s'
keeps_size inside s s' k = record { writes = writes_wider inside _ s s' (λ p e. refl) k.writes; formed = k.formed }

pub keeps_refl : (s : StructTree) → KeepsSize s s
keeps_refl s = record { writes = writes_refl _ s; formed = λ h. h }

pub keeps_trans : (s m s' : StructTree) → KeepsSize s m → KeepsSize m s' → KeepsSize s s'
keeps_trans s m s' v w = record { writes = writes_trans _ s m s' v.writes w.writes; formed = λ h. w.formed (v.formed h) }

pub fits_kept : (set : Schemas) (b : ℕ) (s s' : StructTree) → KeepsSize s s' → Fits set b s → Fits set b s'
fits_kept set b s s' k fits = fits_after _ set b s s' k.writes fits

-- ---- the fields that are cleared, by their indices ----

-- the entry of an index
abbrev pub entry : List TypedField → ℕ → TypedField
entry fs i = unwrap_or (slice_get fs i) no_field

abbrev pub records : List TypedField → List FieldSeen
records fs = map (λ (f : TypedField). f.field) fs

-- an index below a count
abbrev below : ℕ → ℕ → Option ℕ
below k n = cond (nat_lt k n) (Some k) None

below_zero : (n : ℕ) → below 0 (suc n) ≡ Some 0
below_zero n = ap (λ q. cond q (Some 0) None) (lt_true 0 (suc n) (omega arith))
  where
    lt_true : (m n : ℕ) → m < n → nat_lt m n ≡ true
    lt_true m n a = grind (arith, a)

pub lt_suc : (k n : ℕ) → nat_lt k n ≡ nat_lt (1 + k) (suc n)
lt_suc k n = grind arith

module _ (clear : TypedField → StructTree → StructTree) where
  later_member : (f : TypedField) (fs : List TypedField) (k n : ℕ) (s : StructTree) → cleared_option (λ i. clear (entry fs i)) (below k n) s ≡ cleared_option (λ i. clear (entry (f ∷ fs) i)) (below (1 + k) (suc n)) s
  later_member f fs k n s = go (nat_lt k n) (nat_lt (1 + k) (suc n)) (lt_suc k n)
    where
      next : suc k ≡ 1 + k
      next = omega arith

      go : (q r : Bool) → q ≡ r → cleared_option (λ i. clear (entry fs i)) (cond q (Some k) None) s ≡ cleared_option (λ i. clear (entry (f ∷ fs) i)) (cond r (Some (1 + k)) None) s
      go true true e = ap (λ i. clear (entry (f ∷ fs) i) s) next
      go false false e = refl
      go true false e = absurd (true≢false e)
      go false true e = absurd (true≢false (sym e))

  pub member_is_cleared : (fs : List TypedField) (s : StructTree) → cleared_member clear fs s ≡ cleared_option (λ i. clear (entry fs i)) (position (is_member_of 0) (records fs)) s
  member_is_cleared [] s = refl
  member_is_cleared (f ∷ fs) s = go (member_is_cleared fs s) (is_member_of 0 f.field)
    where
      k : ℕ
      k = position_or_len (is_member_of 0) (records fs)

      go : cleared_member clear fs s ≡ cleared_option (λ i. clear (entry fs i)) (below k (length (records fs))) s → (q : Bool) → (elim q as (λ _. StructTree) [ true ↦ clear f s | false ↦ cleared_member clear fs s ]) ≡ cleared_option (λ i. clear (entry (f ∷ fs) i)) (below (cond (not q) (1 + k) 0) (suc (length (records fs)))) s
      go rest true = sym (ap (λ o. cleared_option (λ i. clear (entry (f ∷ fs) i)) o s) (below_zero (length (records fs))))
      go rest false = rest ∙ later_member f fs k (length (records fs)) s

-- ---- a group ----

pub cleared_none : (groups : ℕ) (set : Schemas) (b : ℕ) (s : StructTree) → groups ≡ 0 → s ≡ cleared_through groups set b s
unfolding cleared_through
cleared_none zero set b s e = refl
cleared_none (suc n) set b s e = absurd (omega arith)

pub cleared_whole : (set : Schemas) (b : ℕ) (s : StructTree) → cleared_through (length set.brands) set b s ≡ cleared_group set b s
unfolding cleared_through
cleared_whole set b s = refl

-- ---- a field's group ----

pub group_whole : (f : Field) (g : StructSchema) (n : ℕ) (s m s' : StructTree) → IsGroupAt f g → n ≡ length (field_set f).brands → m ≡ switched_to f s → s' ≡ cleared_through n (set_of g) (number_of g) m → s' ≡ group_without f s
group_whole f g n s m s' is count switch e =
    e ∙ (ap (λ (z : Schemas). cleared_through n z (number_of g) m) is.set
    ∙ (ap (λ k. cleared_through n (field_set f) k m) is.number
    ∙ (ap (cleared_through n (field_set f) (struct_number (typed_of f).type)) switch
    ∙ (ap (λ k. cleared_through k (field_set f) (struct_number (typed_of f).type) (switched_to f s)) count
    ∙ cleared_whole (field_set f) (struct_number (typed_of f).type) (switched_to f s)))))

pub group_kept : (f : Field) (g : StructSchema) (s m s' : StructTree) → IsStruct (field_schema f) → HasRanges (field_set f) → GroupClearStaysInside → IsGroupAt f g → IsRoomFor f s →
    s' ≡ group_without f s → KeepsSize s m → KeepsSize m s' → Keeps (names_of f) s s'
group_kept f g s m s' is ranges stays at room e first then = record {
  writes = subst (λ (x : StructTree). Writes (names_of f) s x) (sym e)
      (stays (field_set f) (field_brand f) (index_of f) (struct_number (typed_of f).type) (record { accepted = is.accepted; ranges = ranges; brand = is.number; index = f.inside })
      (subst (IsGroupOf (typed_of f).field.kind (typed_of f).type) at.number at.names) s room);
  formed = λ h. then.formed (first.formed h);
}
