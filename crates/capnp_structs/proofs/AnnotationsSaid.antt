-- Annotations with their records, one after another.
use Rattle.std.proofs.Common.{ℕ, ◌+◌, ◌≤◌, List, ◌∷◌, ◌++◌, drop, length, slice_get, Option, Some, None, ◌≡◌, ◌∙◌, ap, subst, sym}
use Rattle.std.specs.Option.{option_map}
use Rattle.std.proofs.lemmas.List.{drop_more, length-map}
use Rattle.std.proofs.lemmas.Option.{get_or_from_slice_get, slice_get-map, slice_get_within}
use Rattle.capnp_device.specs.declared.error.ErrorKind.{ErrorKind}
use Rattle.capnp_schema.specs.Annotated.{TypedAnnotation, annotations_of}
use Rattle.capnp_schema.specs.Schema.{Schemas, Annotation, VoidValue, seen_annotation, seen_annotations, seen_value, Value as SchemaValue}
use Rattle.capnp_schema.specs.Types.{SchemaType}
use Rattle.capnp_schema.specs.declared.record.AnnotationRecord.{AnnotationRecord}
use Rattle.capnp_records.specs.Text.{Out, after}
use Rattle.capnp_dynamic_readers.specs.Pieces.{IsAppended}
use Rattle.capnp_structs.specs.Limits.{HasRefusedAmong, IsRefused, IsStopped}
use Rattle.capnp_structs.specs.Values.{annotation_head, annotation_text, annotations_text, stored_text}
use Rattle.capnp_structs.specs.declared.values.Numbers.TheVariants.{Integers}
use Rattle.capnp_structs.proofs.Appended.{IsLeft, left_all, left_more, led}
use Rattle.capnp_structs.proofs.Lines.{none_left}
use Rattle.capnp_structs.proofs.Stopped.{stopped_led}

-- ---- the record of an annotation ----

-- there are as many records as annotations
pub as_many : (xs : List TypedAnnotation) (rs : List AnnotationRecord) → annotations_of xs ≡ seen_annotations rs → length xs ≡ length rs
as_many xs rs same = sym (length-map xs (λ (x : TypedAnnotation). x.annotation)) ∙ (ap length same ∙ length-map rs seen_annotation)

abbrev value_there : Option Annotation → SchemaValue
value_there None = VoidValue
value_there (Some a) = a.value

-- at an index stands the value of the annotation there
pub value_at : (xs : List TypedAnnotation) (rs : List AnnotationRecord) (i : ℕ) (x : TypedAnnotation) (r : AnnotationRecord) → annotations_of xs ≡ seen_annotations rs → slice_get xs i ≡ Some x → slice_get rs i ≡ Some r →
    seen_value r.value ≡ x.annotation.value
value_at xs rs i x r same at there =
    let of_list : slice_get (annotations_of xs) i ≡ Some x.annotation = slice_get-map (λ (z : TypedAnnotation). z.annotation) xs i ∙ ap (option_map (λ (z : TypedAnnotation). z.annotation)) at in
    let of_records : slice_get (seen_annotations rs) i ≡ Some (seen_annotation r) = slice_get-map seen_annotation rs i ∙ ap (option_map seen_annotation) there in
    ap value_there (sym of_records ∙ (ap (λ (zs : List Annotation). slice_get zs i) (sym same) ∙ of_list))

-- ---- one annotation, and those that are left ----

pub annotation_put : (set : Schemas) (x : TypedAnnotation) (z : Schemas) (t : SchemaType) (v : SchemaValue) (id : ℕ) (old mid new : List ℕ) → z ≡ set → t ≡ x.type → v ≡ x.annotation.value → id ≡ x.annotation.id →
    mid ≡ old ++ annotation_head id → IsAppended mid (stored_text Integers z t v) new → IsAppended old (annotation_text set x) new
annotation_put set x z t v id old mid new same_set same_type same_value same_id head put =
    led (annotation_head x.annotation.id) (stored_text Integers set x.type x.annotation.value) old mid new (head ∙ ap (λ (n : ℕ). old ++ annotation_head n) same_id)
    (subst (λ (w : SchemaValue). IsAppended mid (stored_text Integers set x.type w) new) same_value
    (subst (λ (u : SchemaType). IsAppended mid (stored_text Integers set u v) new) same_type
    (subst (λ (y : Schemas). IsAppended mid (stored_text Integers y t v) new) same_set put)))

pub annotation_stopped : (limit : ℕ) (set : Schemas) (x : TypedAnnotation) (z : Schemas) (t : SchemaType) (v : SchemaValue) (id : ℕ) (old mid : List ℕ) (kind : ErrorKind) → z ≡ set → t ≡ x.type → v ≡ x.annotation.value →
    id ≡ x.annotation.id → mid ≡ old ++ annotation_head id → IsStopped limit mid (stored_text Integers z t v) (IsRefused Integers z t v) kind →
    IsStopped limit old (annotation_text set x) (IsRefused Integers set x.type x.annotation.value) kind
annotation_stopped limit set x z t v id old mid kind same_set same_type same_value same_id head h =
    stopped_led limit (annotation_head x.annotation.id) (stored_text Integers set x.type x.annotation.value) old mid kind (head ∙ ap (λ (n : ℕ). old ++ annotation_head n) same_id) (λ r. r)
    (subst (λ (w : SchemaValue). IsStopped limit mid (stored_text Integers set x.type w) (IsRefused Integers set x.type w) kind) same_value
    (subst (λ (u : SchemaType). IsStopped limit mid (stored_text Integers set u v) (IsRefused Integers set u v) kind) same_type
    (subst (λ (y : Schemas). IsStopped limit mid (stored_text Integers y t v) (IsRefused Integers y t v) kind) same_set h)))

-- the first of those that are left
pub first_annotation : (set z : Schemas) (xs : List TypedAnnotation) (i : ℕ) (x : TypedAnnotation) (start : List ℕ) (whole : Out) (text : List ℕ) → slice_get xs i ≡ Some x → z ≡ set →
    IsLeft start whole text (annotations_text set (drop i xs)) → IsLeft start whole text (after (annotation_text z x) (annotations_text set (drop (i + 1) xs)))
first_annotation set z xs i x start whole text at same before =
    let here : drop i xs ≡ x ∷ drop (i + 1) xs = drop_more xs i x (slice_get_within xs i x at) ∙ ap (λ (y : TypedAnnotation). y ∷ drop (i + 1) xs) (get_or_from_slice_get xs i x x at) in
    subst (λ (y : Schemas). IsLeft start whole text (after (annotation_text y x) (annotations_text set (drop (i + 1) xs)))) (sym same)
    (subst (λ (ys : List TypedAnnotation). IsLeft start whole text (annotations_text set ys)) here before)

pub one_refused : (set z : Schemas) (xs : List TypedAnnotation) (i : ℕ) (x : TypedAnnotation) → slice_get xs i ≡ Some x → z ≡ set → IsRefused Integers z x.type x.annotation.value → HasRefusedAmong set xs
one_refused set z xs i x at same r = (i, x, at, subst (λ (y : Schemas). IsRefused Integers y x.type x.annotation.value) same r)

-- annotations of what is the same set
pub among_here : (limit : ℕ) (set set' : Schemas) (xs xs' : List TypedAnnotation) (old : List ℕ) (kind : ErrorKind) → set ≡ set' → xs ≡ xs' → IsStopped limit old (annotations_text set xs) (HasRefusedAmong set xs) kind →
    IsStopped limit old (annotations_text set' xs') (HasRefusedAmong set' xs') kind
among_here limit set set' xs xs' old kind same_set same h =
    subst (λ (ys : List TypedAnnotation). IsStopped limit old (annotations_text set' ys) (HasRefusedAmong set' ys) kind) same
    (subst (λ (z : Schemas). IsStopped limit old (annotations_text z xs) (HasRefusedAmong z xs) kind) same_set h)

pub next_annotation : (set z : Schemas) (xs : List TypedAnnotation) (i : ℕ) (x : TypedAnnotation) (start : List ℕ) (whole : Out) (text text' : List ℕ) → slice_get xs i ≡ Some x → z ≡ set →
    IsLeft start whole text (annotations_text set (drop i xs)) → IsAppended text (annotation_text z x) text' → IsLeft start whole text' (annotations_text set (drop (i + 1) xs))
next_annotation set z xs i x start whole text text' at same before put =
    left_more start whole (annotation_text z x) (annotations_text set (drop (i + 1) xs)) text text' (first_annotation set z xs i x start whole text at same before) put

pub no_annotation_left : (set : Schemas) (xs : List TypedAnnotation) (i : ℕ) (start : List ℕ) (whole : Out) (text : List ℕ) → length xs ≤ i → IsLeft start whole text (annotations_text set (drop i xs)) → IsAppended start whole text
no_annotation_left set xs i start whole text past before = left_all start whole (annotations_text set (drop i xs)) text (ap (annotations_text set) (none_left xs i past)) before
