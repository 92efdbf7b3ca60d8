-- A refusal in a field, a group or a union of two structs has its cause in what the structs compare.
use Rattle.std.proofs.Common.{ℕ, ◌+◌, ◌<◌, ◌≤◌, ◌≡◌, ◌∙◌, [], length, true, false, Some, None, ap, ap₂, sym, subst}
use Rattle.std.proofs.lemmas.Bool.{eq-eqb, true≢false}
use Rattle.capnp_device.specs.declared.error.ErrorKind.{ErrorKind}
use Rattle.capnp_device.specs.declared.error.ErrorKind.TheVariants.{FieldNotFound, TooDeep}
use Rattle.capnp_wire.specs.Standing.{list_levels, list_of, struct_levels, struct_of}
use Rattle.capnp_wire.specs.Tree.{StructTree, Tree, empty_struct, nth_tree}
use Rattle.capnp_wire.specs.declared.list_reader.ListReader.{ListReader}
use Rattle.capnp_wire.specs.declared.struct_reader.StructReader.{StructReader}
use Rattle.capnp_schema.specs.FieldLists.{IsFieldOf, field_schema, index_of, typed_of}
use Rattle.capnp_schema.specs.Schema.{Schemas, TypedField, field_at, fields_of, is_member, node_of}
use Rattle.capnp_schema.specs.Discriminant.{discriminant_of}
use Rattle.capnp_schema.specs.StructHandles.{number_of, set_of, struct_field}
use Rattle.capnp_schema.specs.Types.{SchemaType, struct_brand, struct_number}
use Rattle.capnp_schema.specs.declared.schema.fields.Field.{Field}
use Rattle.capnp_schema.specs.declared.schema.structs.StructSchema.{StructSchema}
use Rattle.capnp_records.specs.Part.{is_active, which_of}
use Rattle.capnp_records.specs.Reading.{reads}
use Rattle.capnp_records.specs.Record.{Active, NoUnion, Parts, Record, Unknown}
use Rattle.capnp_dynamic_readers.specs.Handles.{reader_of, schema_of}
use Rattle.capnp_dynamic_readers.specs.Planned.{IsActiveMember}
use Rattle.capnp_dynamic_readers.specs.declared.dynamic_struct.Reader.{Reader as StructHandle}
use Rattle.capnp_diffs.specs.Changes.{row_changes}
use Rattle.capnp_diffs.specs.Refusals as cause
use Rattle.capnp_diffs.specs.Refusals.{Fields, IsCompared, IsRefusal, Lists, NewField, NewPointer, Pointers, Structs, most_groups, pair_of}
use Rattle.capnp_diffs.specs.Steps.Adding.{elements_in, union_held, whole_record}
use Rattle.capnp_diffs.specs.Steps.Refusing.{HaveOtherNumbers, IsPutRefusal, IsRefusedAt, IsRefusedWhere}
use Rattle.capnp_diffs.proofs.Parts.{AtGroup, AtPointer}
use Rattle.capnp_diffs.proofs.Refused.{unlike_rows}
use Rattle.capnp_diffs.proofs.Unions.{found_index, found_none, which_active, whole_which}

-- ---- a field ----

module _ (set : Schemas) (c : ℕ) (f : TypedField) (s : StructTree) (l : ℕ) (q : StructTree) (m : ℕ) (k : ErrorKind) where
  pub inside_slot : (index : ℕ) → AtPointer f.field.kind f.type index → (z : Schemas) (t : SchemaType) → z ≡ set → t ≡ f.type →
      (x : Tree) (n : ℕ) (y : Tree) (j : ℕ) → x ≡ nth_tree s.pointers index → n ≡ l → y ≡ nth_tree q.pointers index → j ≡ m →
      IsRefusedAt z c (Pointers t x n y j) k → IsRefusedAt set c (Fields f s l q m) k
  inside_slot index at z t is_set is_type x n y j is_x is_n is_y is_j r p at_set compared =
      r p (at_set ∙ sym is_set)
      (subst (λ u. IsCompared p c (Pointers u x n y j)) (sym is_type)
      (subst (λ u. IsCompared p c (Pointers f.type u n y j)) (sym is_x)
      (subst (λ u. IsCompared p c (Pointers f.type (nth_tree s.pointers index) u y j)) (sym is_n)
      (subst (λ u. IsCompared p c (Pointers f.type (nth_tree s.pointers index) l u j)) (sym is_y)
      (subst (λ u. IsCompared p c (Pointers f.type (nth_tree s.pointers index) l (nth_tree q.pointers index) u)) (sym is_j)
      (cause.InSlot c f s l q m compared index at.default at.kind at.pointer))))))

  pub inside_group : (g : ℕ) → AtGroup f.field.kind f.type g → (z : Schemas) (b inside : ℕ) → z ≡ set → b ≡ g → inside ≡ c + 1 → IsRefusedAt z inside (Structs b s l q m) k → IsRefusedAt set c (Fields f s l q m) k
  inside_group g at z b inside is_set is_number is_inside r p at_set compared =
      r p (at_set ∙ sym is_set) (subst (λ n. IsCompared p n (Structs b s l q m)) (sym is_inside) (subst (λ d. IsCompared p (c + 1) (Structs d s l q m)) (at.brand ∙ sym is_number) (cause.InGroup c f s l q m compared at.node at.kind)))

  pub too_many_groups : (g : ℕ) → AtGroup f.field.kind f.type g → (k ≡ TooDeep) × (most_groups ≤ c) → IsRefusedAt set c (Fields f s l q m) k
  too_many_groups g at (is_kind, many) p at_set compared = subst (IsRefusal p) (sym is_kind) (cause.TooManyGroups c f s l q m compared at.node at.kind many)

-- a member that becomes active
module _ (set : Schemas) (c : ℕ) (f : TypedField) (q : StructTree) (m : ℕ) (k : ErrorKind) where
  pub inside_new_slot : (index : ℕ) → AtPointer f.field.kind f.type index → (t : SchemaType) → t ≡ f.type → (y : Tree) (j : ℕ) → y ≡ nth_tree q.pointers index → j ≡ m →
      IsRefusedWhere (NewPointer t y j) k → IsRefusedAt set c (NewField f q m) k
  inside_new_slot index at t is_type y j is_y is_j r p at_set compared =
      r p c
      (subst (λ u. IsCompared p c (NewPointer u y j)) (sym is_type)
      (subst (λ u. IsCompared p c (NewPointer f.type u j)) (sym is_y)
      (subst (λ u. IsCompared p c (NewPointer f.type (nth_tree q.pointers index) u)) (sym is_j)
      (cause.InNewSlot c f q m compared index at.default at.kind at.pointer))))

  pub inside_new_group : (g : ℕ) → AtGroup f.field.kind f.type g → (z : Schemas) (b inside : ℕ) → z ≡ set → b ≡ g → inside ≡ c + 1 → (s : StructTree) (l : ℕ) → s ≡ empty_struct → l ≡ 0 →
      IsRefusedAt z inside (Structs b s l q m) k → IsRefusedAt set c (NewField f q m) k
  inside_new_group g at z b inside is_set is_number is_inside s l is_empty is_level r p at_set compared =
      r p (at_set ∙ sym is_set)
      (subst (λ n. IsCompared p n (Structs b s l q m)) (sym is_inside)
      (subst (λ d. IsCompared p (c + 1) (Structs d s l q m)) (at.brand ∙ sym is_number)
      (subst (λ u. IsCompared p (c + 1) (Structs (struct_number f.type) u l q m)) (sym is_empty)
      (subst (λ n. IsCompared p (c + 1) (Structs (struct_number f.type) empty_struct n q m)) (sym is_level)
      (cause.InNewGroup c f q m compared at.node at.kind)))))

  pub too_many_new_groups : (g : ℕ) → AtGroup f.field.kind f.type g → (k ≡ TooDeep) × (most_groups ≤ c) → IsRefusedAt set c (NewField f q m) k
  too_many_new_groups g at (is_kind, many) p at_set compared = subst (IsRefusal p) (sym is_kind) (cause.TooManyNewGroups c f q m compared at.node at.kind many)

-- ---- the fields of two structs ----

not_active : (r : Record) (j : ℕ) → is_active (union_held r) j ≡ false → which_of r ≡ Some j → ⊥
not_active (Parts vs NoUnion) j inactive e = none_some e
  where
    none_some : {n : ℕ} → None ≡ Some n → ⊥
    none_some e = cc
not_active (Parts vs (Active i v)) j inactive e = true≢false (sym (eq-eqb j i (sym (same e))) ∙ inactive)
  where
    same : {n o : ℕ} → Some n ≡ Some o → n ≡ o
    same e = cc
not_active (Parts vs (Unknown n)) j inactive e = none_some e
  where
    none_some : {n : ℕ} → None ≡ Some n → ⊥
    none_some e = cc

-- a field of a schema by its handle
field_is : (s : StructSchema) (i : ℕ) (f : Field) → IsFieldOf s i f → typed_of f ≡ field_at (set_of s) (number_of s) i
field_is s i f here = ap₂ (λ (z : StructSchema) (n : ℕ). struct_field z n) here.schema here.index

module _ (s : StructSchema) (c : ℕ) (old new : StructReader) (k : ErrorKind) where
  abbrev both : cause.Compared
  both = Structs (number_of s) (struct_of old) (struct_levels old) (struct_of new) (struct_levels new)

  -- a field that stands on both sides is compared where the structs are
  by_field : (f : Field) (i : ℕ) → IsFieldOf s i f →
      ((p : cause.Pair) → p.set ≡ set_of s → IsCompared p c both → IsCompared p c (Fields (field_at (set_of s) (number_of s) i) (struct_of old) (struct_levels old) (struct_of new) (struct_levels new))) →
      IsRefusedAt (set_of (field_schema f)) c (Fields (typed_of f) (struct_of old) (struct_levels old) (struct_of new) (struct_levels new)) k → IsRefusedAt (set_of s) c both k
  by_field f i here compare r p at compared =
      r p (at ∙ ap set_of (sym here.schema))
      (subst (λ g. IsCompared p c (Fields g (struct_of old) (struct_levels old) (struct_of new) (struct_levels new))) (sym (field_is s i f here)) (compare p at compared))

  pub plain_refused : (f : Field) (i : ℕ) (list : StructSchema) → list ≡ s → IsFieldOf list i f → is_member (typed_of f).field ≡ false →
      IsRefusedAt (set_of (field_schema f)) c (Fields (typed_of f) (struct_of old) (struct_levels old) (struct_of new) (struct_levels new)) k → IsRefusedAt (set_of s) c both k
  plain_refused f i list is_list here plain = by_field f i here_in (λ p at compared.
      subst (λ (z : Schemas). IsCompared p c (Fields (field_at z (number_of s) i) (struct_of old) (struct_levels old) (struct_of new) (struct_levels new))) at
      (cause.Plain c (number_of s) (struct_of old) (struct_levels old) (struct_of new) (struct_levels new) compared i
      (subst (λ (z : Schemas). i < length (fields_of z (number_of s))) (sym at) here_in.inside)
      (subst (λ (z : Schemas). is_member (field_at z (number_of s) i).field ≡ false) (sym at) (ap (λ (x : TypedField). is_member x.field) (sym (field_is s i f here_in)) ∙ plain))))
    where
      here_in : IsFieldOf s i f
      here_in = subst (λ (z : StructSchema). IsFieldOf z i f) is_list here

  module _ (f : Field) (here : IsFieldOf s (index_of f) f) (is : IsActiveMember s (struct_of new) (Some f)) where
    in_new : which_of (reads (set_of s) (struct_of new) (number_of s)) ≡ Some (index_of f)
    unfolding whole_record
    in_new = found_index s (which_of (whole_record (set_of s) new (number_of s))) f (whole_which s new (Some f) is)

    pub kept_refused : is_active (union_held (whole_record (set_of s) old (number_of s))) (index_of f) ≡ true →
        IsRefusedAt (set_of (field_schema f)) c (Fields (typed_of f) (struct_of old) (struct_levels old) (struct_of new) (struct_levels new)) k → IsRefusedAt (set_of s) c both k
    unfolding whole_record
    kept_refused active = by_field f (index_of f) here (λ p at compared.
        subst (λ (z : Schemas). IsCompared p c (Fields (field_at z (number_of s) (index_of f)) (struct_of old) (struct_levels old) (struct_of new) (struct_levels new))) at
        (cause.Member c (number_of s) (struct_of old) (struct_levels old) (struct_of new) (struct_levels new) compared (index_of f)
        (subst (λ (z : Schemas). which_of (reads z (struct_of old) (number_of s)) ≡ Some (index_of f)) (sym at) (which_active (whole_record (set_of s) old (number_of s)) (index_of f) active))
        (subst (λ (z : Schemas). which_of (reads z (struct_of new) (number_of s)) ≡ Some (index_of f)) (sym at) in_new)))

    pub switch_refused : is_active (union_held (whole_record (set_of s) old (number_of s))) (index_of f) ≡ false →
        IsRefusedAt (set_of (field_schema f)) c (NewField (typed_of f) (struct_of new) (struct_levels new)) k → IsRefusedAt (set_of s) c both k
    unfolding whole_record
    switch_refused inactive r p at compared =
        r p (at ∙ ap set_of (sym here.schema))
        (subst (λ g. IsCompared p c (NewField g (struct_of new) (struct_levels new))) (sym (field_is s (index_of f) f here))
        (subst (λ (z : Schemas). IsCompared p c (NewField (field_at z (number_of s) (index_of f)) (struct_of new) (struct_levels new))) at
        (cause.NewMember c (number_of s) (struct_of old) (struct_levels old) (struct_of new) (struct_levels new) compared (index_of f)
        (λ e. not_active (whole_record (set_of s) old (number_of s)) (index_of f) inactive (subst (λ (z : Schemas). which_of (reads z (struct_of old) (number_of s)) ≡ Some (index_of f)) at e))
        (subst (λ (z : Schemas). which_of (reads z (struct_of new) (number_of s)) ≡ Some (index_of f)) (sym at) in_new))))

  pub unknown_refused : IsActiveMember s (struct_of new) None → (k ≡ FieldNotFound) × HaveOtherNumbers s old new → IsRefusedAt (set_of s) c both k
  unfolding whole_record
  unknown_refused is (is_kind, others) p at compared =
      subst (IsRefusal p) (sym is_kind)
      (cause.NoMember c (number_of s) (struct_of old) (struct_levels old) (struct_of new) (struct_levels new) compared
      (subst (λ (z : Schemas). which_of (reads z (struct_of new) (number_of s)) ≡ None) (sym at) (found_none s (which_of (whole_record (set_of s) new (number_of s))) (whole_which s new None is)))
      others.first
      (subst (λ (z : Schemas). discriminant_of (node_of z (number_of s)) ≡ Some others.first) (sym at) others.is) others.differ)

-- ---- lists by their readers ----

pub rows_refused : (set : Schemas) (c : ℕ) (l m : ListReader) (k : ErrorKind) (e : SchemaType) (w : Tree) → list_of m ≡ w → struct_brand e ≡ None → (row_changes set e 0 (elements_in set l e) (elements_in set m e) ≡ [] → ⊥) →
    IsPutRefusal w k → IsRefusedAt set c (Lists e (list_of l) (list_levels l) (list_of m) (list_levels m)) k
unfolding elements_in
rows_refused set c l m k e w same plain differ put = unlike_rows set c (list_of l) (list_levels l) (list_of m) (list_levels m) k e w same plain differ put

-- ---- the root ----

pub root_refused : (old new : StructHandle) (s : StructSchema) (r q : StructReader) (k : ErrorKind) → s ≡ schema_of new → r ≡ reader_of old → q ≡ reader_of new →
    IsRefusedAt (set_of s) 0 (Structs (number_of s) (struct_of r) (struct_levels r) (struct_of q) (struct_levels q)) k → IsRefusal (pair_of old new) k
root_refused old new s r q k is_schema is_old is_new refused =
    refused (pair_of old new) (ap set_of (sym is_schema))
    (subst (λ (z : StructSchema). IsCompared (pair_of old new) 0 (Structs (number_of z) (struct_of r) (struct_levels r) (struct_of q) (struct_levels q))) (sym is_schema)
    (subst (λ (z : StructReader). IsCompared (pair_of old new) 0 (Structs (number_of (schema_of new)) (struct_of z) (struct_levels z) (struct_of q) (struct_levels q))) (sym is_old)
    (subst (λ (z : StructReader). IsCompared (pair_of old new) 0 (Structs (number_of (schema_of new)) (struct_of (reader_of old)) (struct_levels (reader_of old)) (struct_of z) (struct_levels z))) (sym is_new) cause.Both)))
