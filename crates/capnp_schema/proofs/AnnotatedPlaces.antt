-- The annotations of structs, fields, enums and enumerants of an accepted set: each has its type, and they are few.
use Rattle.std.proofs.Common.{ℕ, zero, suc, ◌≡◌, ◌<◌, ◌^◌, ⊎_elim, List, [], ◌∷◌, length, map, slice_get, Option, Some, None, Vec, refl, sym, ap, ◌∙◌, subst}
use Rattle.std.specs.Option.{unwrap_or, option_map}
use Rattle.std.specs.declared.alloc.Global.{Global}
use Rattle.std.proofs.lemmas.Bool.{cases_lt}
use Rattle.std.proofs.lemmas.Option.{slice_get_within, slice_get_past, slice_get-get_or, unwrap_or-slice_get, slice_get-map, same_Some}
use Rattle.capnp_base.specs.declared.introspect.«Type».{«Type» as TypeHandle}
use Rattle.capnp_schema.specs.declared.record.EnumerantRecord.{EnumerantRecord}
use Rattle.capnp_schema.specs.Types.{SchemaType, seen_type}
use Rattle.capnp_schema.specs.Schema.{Schemas, Node, Brand, Enum, Enumerant, Field, Annotation, TypedField, no_node, no_brand, no_enum, no_field, typed_fields, node_of, node_at, brand_at, enum_at, field_at, fields_of, seen_enumerant}
use Rattle.capnp_schema.specs.Accepted.{IsAccepted, EnumHasTypes, HasFewAnnotations, HasFewEnumerants, HasFewFields}
use Rattle.capnp_schema.specs.Annotated.{with_types, annotations_of, child_types, no_enumerant, enumerant_at, struct_annotations, field_annotations, enum_annotations, enumerant_annotations}
use Rattle.capnp_schema.proofs.AnnotatedLemmas.{annotations_are}
use Rattle.capnp_schema.proofs.EntryWalk.{entry_has, seen_at}
use Rattle.capnp_schema.proofs.GroupTargets.{node_past}
use Rattle.capnp_schema.specs.Facts.Fields.{typed_nothing}

-- two lists that go by one list of lengths
pub same_lengths : {A B : Type 0} (xs : List (List A)) (ys : List (List B)) (i : ℕ) (x : List A) (y : List B) → map length xs ≡ map length ys → Some x ≡ slice_get xs i → Some y ≡ slice_get ys i → length x ≡ length y
same_lengths xs ys i x y e at_x at_y = same_Some (length x) (length y)
    (ap (option_map length) at_x ∙ sym (slice_get-map length xs i) ∙ ap (λ zs. slice_get zs i) e ∙ slice_get-map length ys i ∙ ap (option_map length) (sym at_y))

-- a list past the end of the other has no lengths either
pub none_lengths : {A B : Type 0} (xs : List (List A)) (ys : List (List B)) (i : ℕ) (y : List B) → map length xs ≡ map length ys → None ≡ slice_get xs i → Some y ≡ slice_get ys i → ⊥
none_lengths xs ys i y e at_x at_y =
    let h : None ≡ Some (length y) = ap (option_map length) at_x ∙ sym (slice_get-map length xs i) ∙ ap (λ zs. slice_get zs i) e ∙ slice_get-map length ys i ∙ ap (option_map length) (sym at_y) in cc

pub brand_found : (set : Schemas) (b : ℕ) (x : Brand) → Some x ≡ slice_get set.brands b → brand_at set b ≡ x
brand_found set b x e = ap (λ o. unwrap_or o (no_brand set)) (sym e)

pub node_found : (set : Schemas) (b : ℕ) (x : Brand) (n : Node) → Some x ≡ slice_get set.brands b → Some n ≡ slice_get set.nodes x.node → node_of set b ≡ n
node_found set b x n e is = ap (λ (y : Brand). node_at set y.node) (brand_found set b x e) ∙ ap (λ o. unwrap_or o no_node) (sym is)

pub enum_found : (set : Schemas) (e : ℕ) (x : Enum) → Some x ≡ slice_get set.enums e → enum_at set e ≡ x
enum_found set e x is = ap (λ o. unwrap_or o no_enum) (sym is)

pub field_found : (set : Schemas) (b i : ℕ) (f : TypedField) → Some f ≡ slice_get (fields_of set b) i → field_at set b i ≡ f
field_found set b i f e = ap (λ o. unwrap_or o no_field) (sym e)

no_types_for : (xs : List Annotation) → [] ≡ with_types xs []
no_types_for [] = refl
no_types_for (x ∷ xs) = refl

-- the field of a typed field
field_of : (fs : List Field) (ts : List SchemaType) (i : ℕ) (f : TypedField) → Some f ≡ slice_get (typed_fields fs ts) i → Some f.field ≡ slice_get fs i
field_of [] ts i f e = cc
field_of (g ∷ fs) [] i f e = cc
field_of (g ∷ fs) (t ∷ ts) zero f e = ap (option_map (λ (x : TypedField). x.field)) e
field_of (g ∷ fs) (t ∷ ts) (suc i) f e = field_of fs ts i f e

module _ (set : Schemas) (accepted : IsAccepted set) where
  -- ---- structs ----

  pub own_types : (b : ℕ) (x : Brand) (n : Node) → Some x ≡ slice_get set.brands b → Some n ≡ slice_get set.nodes x.node → length x.annotation_types.own ≡ length n.annotations
  own_types b x n e is =
      let there = (accepted.rule2.brands b (slice_get_within set.brands b x (sym e))).types.1.0 in
      ap (λ (y : Brand). length y.annotation_types.own) (sym (brand_found set b x e)) ∙ there ∙ ap (λ (m : Node). length m.annotations) (node_found set b x n e is)

  pub few_own : (i : ℕ) (n : Node) → Some n ≡ slice_get set.nodes i → length n.annotations < 2 ^ 29
  few_own i n is = (entry_has HasFewFields set.nodes i n accepted.rule3.counts.nodes is).annotations.0

  pub struct_whole : (b : ℕ) → b < length set.brands → annotations_of (struct_annotations set b) ≡ (node_of set b).annotations
  struct_whole b h = annotations_are (node_of set b).annotations (brand_at set b).annotation_types.own (accepted.rule2.brands b h).types.1.0

  pub struct_whole_everywhere : (b : ℕ) → annotations_of (struct_annotations set b) ≡ (node_of set b).annotations
  struct_whole_everywhere b = ⊎_elim (struct_whole b)
      (λ past. subst (λ (n : Node). annotations_of (with_types n.annotations (brand_at set b).annotation_types.own) ≡ n.annotations) (sym (node_past set b past)) refl)
      (cases_lt b (length set.brands))

  pub struct_is : (b : ℕ) (x : Brand) (n : Node) → Some x ≡ slice_get set.brands b → Some n ≡ slice_get set.nodes x.node → with_types n.annotations x.annotation_types.own ≡ struct_annotations set b
  struct_is b x n e is = ap (λ (m : Node). with_types m.annotations x.annotation_types.own) (sym (node_found set b x n e is)) ∙ ap (λ (y : Brand). with_types (node_of set b).annotations y.annotation_types.own) (sym (brand_found set b x e))

  pub no_struct : (b : ℕ) → None ≡ slice_get set.brands b → [] ≡ struct_annotations set b
  no_struct b e = no_types_for (node_of set b).annotations ∙ ap (λ o. with_types (node_of set b).annotations (unwrap_or o (no_brand set)).annotation_types.own) e

  -- ---- fields ----

  in_brands : (b i : ℕ) (f : TypedField) → Some f ≡ slice_get (fields_of set b) i → b < length set.brands
  in_brands b i f at = ⊎_elim (λ h. h) (λ past. absurd (gone (slice_get_past set.brands b past))) (cases_lt b (length set.brands))
    where
      gone : slice_get set.brands b ≡ None → ⊥
      gone e = let none : fields_of set b ≡ [] = ap (λ o. typed_fields (node_of set b).fields (unwrap_or o (no_brand set)).field_types) e ∙ typed_nothing (node_of set b).fields in
          let there : Some f ≡ None = at ∙ ap (λ fs. slice_get fs i) none in cc

  node_there : (b : ℕ) → b < length set.brands → Some (node_of set b) ≡ slice_get set.nodes (brand_at set b).node
  node_there b h =
      let lt = (accepted.rule2.brands b h).node in
      ap Some (unwrap_or-slice_get set.nodes (brand_at set b).node no_node) ∙ sym (slice_get-get_or set.nodes (brand_at set b).node no_node lt)

  pub few_at : (b i : ℕ) (f : TypedField) → Some f ≡ slice_get (fields_of set b) i → length f.field.annotations < 2 ^ 29
  few_at b i f at =
      let each = entry_has HasFewFields set.nodes (brand_at set b).node (node_of set b) accepted.rule3.counts.nodes (node_there b (in_brands b i f at)) in
      entry_has (λ (g : Field). HasFewAnnotations g.annotations) (node_of set b).fields i f.field each.annotations.1 (field_of (node_of set b).fields (brand_at set b).field_types i f at)

  child_list : (xs : List (List SchemaType)) (ys : List (List Annotation)) (i : ℕ) (y : List Annotation) → map length xs ≡ map length ys → Some y ≡ slice_get ys i → length (unwrap_or (slice_get xs i) []) ≡ length y
  child_list xs ys i y e at = by_entry (slice_get xs i) refl
    where
      by_entry : (o : Option (List SchemaType)) → slice_get xs i ≡ o → length (unwrap_or o []) ≡ length y
      by_entry None is = absurd (none_lengths xs ys i y e (sym is) at)
      by_entry (Some x) is = same_lengths xs ys i x y e (sym is) at

  pub field_types : (b i : ℕ) (f : TypedField) → Some f ≡ slice_get (fields_of set b) i → length (child_types (brand_at set b).annotation_types i) ≡ length f.field.annotations
  field_types b i f at = child_list (brand_at set b).annotation_types.children (map (λ (g : Field). g.annotations) (node_of set b).fields) i f.field.annotations
      (accepted.rule2.brands b (in_brands b i f at)).types.1.1
      (ap (option_map (λ (g : Field). g.annotations)) (field_of (node_of set b).fields (brand_at set b).field_types i f at) ∙ sym (slice_get-map (λ (g : Field). g.annotations) (node_of set b).fields i))

  pub field_whole : (b i : ℕ) → annotations_of (field_annotations set b i) ≡ (field_at set b i).field.annotations
  field_whole b i = by_field (slice_get (fields_of set b) i) refl
    where
      by_field : (o : Option TypedField) → slice_get (fields_of set b) i ≡ o → annotations_of (with_types (unwrap_or o no_field).field.annotations (child_types (brand_at set b).annotation_types i)) ≡ (unwrap_or o no_field).field.annotations
      by_field None e = refl
      by_field (Some f) e = annotations_are f.field.annotations (child_types (brand_at set b).annotation_types i) (field_types b i f (sym e))

  -- ---- enums ----

  pub enum_types : (e : ℕ) (x : Enum) → Some x ≡ slice_get set.enums e → length x.annotation_types.own ≡ length x.annotations
  enum_types e x is = (entry_has EnumHasTypes set.enums e x accepted.rule2.enums is).0

  pub enum_whole : (e : ℕ) → annotations_of (enum_annotations set e) ≡ (enum_at set e).annotations
  enum_whole e = by_enum (slice_get set.enums e) refl
    where
      by_enum : (o : Option Enum) → slice_get set.enums e ≡ o → annotations_of (with_types (unwrap_or o no_enum).annotations (unwrap_or o no_enum).annotation_types.own) ≡ (unwrap_or o no_enum).annotations
      by_enum None is = refl
      by_enum (Some x) is = annotations_are x.annotations x.annotation_types.own (enum_types e x (sym is))

  pub enumerant_types : (e i : ℕ) (x : Enum) (y : Enumerant) → Some x ≡ slice_get set.enums e → Some y ≡ slice_get x.enumerants i → length (child_types x.annotation_types i) ≡ length y.annotations
  enumerant_types e i x y is at = child_list x.annotation_types.children (map (λ (z : Enumerant). z.annotations) x.enumerants) i y.annotations
      (entry_has EnumHasTypes set.enums e x accepted.rule2.enums is).1
      (ap (option_map (λ (z : Enumerant). z.annotations)) at ∙ sym (slice_get-map (λ (z : Enumerant). z.annotations) x.enumerants i))

  pub few_of_enumerant : (e i : ℕ) (x : Enum) (y : Enumerant) → Some x ≡ slice_get set.enums e → Some y ≡ slice_get x.enumerants i → length y.annotations < 2 ^ 29
  few_of_enumerant e i x y is at = entry_has (λ (z : Enumerant). HasFewAnnotations z.annotations) x.enumerants i y (entry_has HasFewEnumerants set.enums e x accepted.rule3.counts.enums is).annotations.1 at

  pub enumerant_whole : (e i : ℕ) → annotations_of (enumerant_annotations set e i) ≡ (enumerant_at set e i).annotations
  enumerant_whole e i = by_enum (slice_get set.enums e) refl
    where
      by_enumerant : (x : Enum) → Some x ≡ slice_get set.enums e → (o : Option Enumerant) → slice_get x.enumerants i ≡ o
          → annotations_of (with_types (unwrap_or o no_enumerant).annotations (child_types x.annotation_types i)) ≡ (unwrap_or o no_enumerant).annotations
      by_enumerant x is None at = refl
      by_enumerant x is (Some y) at = annotations_are y.annotations (child_types x.annotation_types i) (enumerant_types e i x y is (sym at))

      by_enum : (o : Option Enum) → slice_get set.enums e ≡ o
          → annotations_of (with_types (unwrap_or (slice_get (unwrap_or o no_enum).enumerants i) no_enumerant).annotations (child_types (unwrap_or o no_enum).annotation_types i)) ≡ (unwrap_or (slice_get (unwrap_or o no_enum).enumerants i) no_enumerant).annotations
      by_enum None is = refl
      by_enum (Some x) is = by_enumerant x (sym is) (slice_get x.enumerants i) refl

-- ---- as they are found ----

pub child_seen : (children : List (Vec TypeHandle Global)) (types : Vec TypeHandle Global) (i : ℕ) → Some types ≡ slice_get children i → Some (map seen_type types.items) ≡ slice_get (map (λ (ts : Vec TypeHandle Global). map seen_type ts.items) children) i
child_seen children types i e = seen_at (λ (ts : Vec TypeHandle Global). map seen_type ts.items) children i types e

pub no_child_seen : (children : List (Vec TypeHandle Global)) (i : ℕ) → None ≡ slice_get children i → None ≡ slice_get (map (λ (ts : Vec TypeHandle Global). map seen_type ts.items) children) i
no_child_seen children i e = ap (option_map (λ (ts : Vec TypeHandle Global). map seen_type ts.items)) e ∙ sym (slice_get-map (λ (ts : Vec TypeHandle Global). map seen_type ts.items) children i)

pub no_brand_field : (set : Schemas) (b i : ℕ) → None ≡ slice_get set.brands b → [] ≡ field_annotations set b i
no_brand_field set b i e = no_types_for (field_at set b i).field.annotations ∙ ap (λ o. with_types (field_at set b i).field.annotations (child_types (unwrap_or o (no_brand set)).annotation_types i)) e

pub no_child_field : (set : Schemas) (b i : ℕ) (x : Brand) → Some x ≡ slice_get set.brands b → None ≡ slice_get x.annotation_types.children i → [] ≡ field_annotations set b i
no_child_field set b i x e none = no_types_for (field_at set b i).field.annotations ∙ ap (λ o. with_types (field_at set b i).field.annotations (unwrap_or o [])) none
    ∙ ap (λ (y : Brand). with_types (field_at set b i).field.annotations (child_types y.annotation_types i)) (sym (brand_found set b x e))

pub field_is : (set : Schemas) (b i : ℕ) (x : Brand) (f : TypedField) (ts : List SchemaType) → Some x ≡ slice_get set.brands b → Some f ≡ slice_get (fields_of set b) i → Some ts ≡ slice_get x.annotation_types.children i → with_types f.field.annotations ts ≡ field_annotations set b i
field_is set b i x f ts e at is = ap (λ (g : TypedField). with_types g.field.annotations ts) (sym (field_found set b i f at)) ∙ ap (λ o. with_types (field_at set b i).field.annotations (unwrap_or o [])) is
    ∙ ap (λ (y : Brand). with_types (field_at set b i).field.annotations (child_types y.annotation_types i)) (sym (brand_found set b x e))

pub enumerant_is : (set : Schemas) (e i : ℕ) (x : Enum) (y : Enumerant) (ts : List SchemaType) → Some x ≡ slice_get set.enums e → Some y ≡ slice_get x.enumerants i → Some ts ≡ slice_get x.annotation_types.children i → with_types y.annotations ts ≡ enumerant_annotations set e i
enumerant_is set e i x y ts is at here = ap (λ o. with_types (unwrap_or o no_enumerant).annotations ts) at ∙ ap (λ o. with_types (unwrap_or (slice_get x.enumerants i) no_enumerant).annotations (unwrap_or o [])) here
    ∙ ap (λ (z : Enum). with_types (unwrap_or (slice_get z.enumerants i) no_enumerant).annotations (child_types z.annotation_types i)) (sym (enum_found set e x is))

-- a child's types are as many as its list of types
pub child_types_length : (children : List (List SchemaType)) (ts : List SchemaType) (i : ℕ) → Some ts ≡ slice_get children i → length ts ≡ length (unwrap_or (slice_get children i) [])
child_types_length children ts i e = ap (λ o. length (unwrap_or o [])) e

pub field_has_types : (set : Schemas) → IsAccepted set → (b i : ℕ) (x : Brand) (f : TypedField) (ts : List SchemaType) → Some x ≡ slice_get set.brands b → Some f ≡ slice_get (fields_of set b) i → Some ts ≡ slice_get x.annotation_types.children i → length ts ≡ length f.field.annotations
field_has_types set accepted b i x f ts e at is = child_types_length x.annotation_types.children ts i is ∙ ap (λ (y : Brand). length (child_types y.annotation_types i)) (sym (brand_found set b x e)) ∙ field_types set accepted b i f at

pub enumerant_has_types : (set : Schemas) → IsAccepted set → (e i : ℕ) (x : Enum) (y : Enumerant) (ts : List SchemaType) → Some x ≡ slice_get set.enums e → Some y ≡ slice_get x.enumerants i → Some ts ≡ slice_get x.annotation_types.children i → length ts ≡ length y.annotations
enumerant_has_types set accepted e i x y ts is at here = child_types_length x.annotation_types.children ts i here ∙ enumerant_types set accepted e i x y is at

pub enumerant_seen : (enumerants : List EnumerantRecord) (y : EnumerantRecord) (i : ℕ) → Some y ≡ slice_get enumerants i → Some (seen_enumerant y) ≡ slice_get (map seen_enumerant enumerants) i
enumerant_seen enumerants y i e = ap (option_map seen_enumerant) e ∙ sym (slice_get-map seen_enumerant enumerants i)
