-- Annotations with their types, by index.
use Rattle.std.proofs.Common.{position, ℕ, zero, suc, ◌≡◌, ◌<◌, ◌==◌, ◌+◌, not, Bool, List, [], ◌∷◌, length, map, slice_get, get_or, min, Option, Some, None, refl, sym, ap, ◌∙◌, cond, arith}
use Rattle.std.specs.List.{position_or_len}
use Rattle.std.proofs.lemmas.List.{length-map}
use Rattle.std.proofs.lemmas.List.Quantifiers.{position-Some}
use Rattle.capnp_base.specs.declared.introspect.«Type».{«Type» as TypeHandle}
use Rattle.capnp_schema.specs.declared.record.AnnotationRecord.{AnnotationRecord}
use Rattle.capnp_schema.specs.Types.{SchemaType, seen_type}
use Rattle.capnp_schema.specs.Schema.{Annotation, seen_annotation, seen_annotations}
use Rattle.capnp_schema.specs.Query.{annotation_of}
use Rattle.capnp_schema.specs.Annotated.{TypedAnnotation, with_types, annotations_of, entry_at, first_of_id}

-- as many as there are of both
pub length_in : (xs : List AnnotationRecord) (ts : List TypeHandle) → length (with_types (seen_annotations xs) (map seen_type ts)) ≡ min (length xs) (length ts)
length_in [] ts = omega arith
length_in (x ∷ xs) [] = omega arith
length_in (x ∷ xs) (t ∷ ts) = omega (arith, length_in xs ts)

-- the entry at an index
pub entry_in : (xs : List AnnotationRecord) (ts : List TypeHandle) (i : ℕ) (d : AnnotationRecord) (e : TypeHandle) → i < length xs → i < length ts
    → slice_get (with_types (seen_annotations xs) (map seen_type ts)) i ≡ Some (record { annotation = seen_annotation (get_or xs i d); type = seen_type (get_or ts i e) })
entry_in [] ts i d e h k = absurd (omega arith)
entry_in (x ∷ xs) [] i d e h k = absurd (omega arith)
entry_in (x ∷ xs) (t ∷ ts) zero d e h k = refl
entry_in (x ∷ xs) (t ∷ ts) (suc i) d e h k = entry_in xs ts i d e (omega arith) (omega arith)

-- the place of an id among the records
same_place : (xs : List AnnotationRecord) (id : ℕ) → position_or_len (λ (x : AnnotationRecord). x.id == id) xs ≡ position_or_len (λ (a : Annotation). a.id == id) (seen_annotations xs)
same_place [] id = refl
same_place (x ∷ xs) id = ap (λ n. cond (not (x.id == id)) (1 + n) 0) (same_place xs id)

same_length : (xs : List AnnotationRecord) → length (seen_annotations xs) ≡ length xs
same_length [] = refl
same_length (x ∷ xs) = ap suc (same_length xs)

pub position_seen : (xs : List AnnotationRecord) (id : ℕ) → position (λ (x : AnnotationRecord). x.id == id) xs ≡ annotation_of (seen_annotations xs) id
position_seen xs id = rw (same_place xs id, same_length xs) refl

-- the annotations, where each has a type
pub annotations_are : (xs : List Annotation) (ts : List SchemaType) → length ts ≡ length xs → annotations_of (with_types xs ts) ≡ xs
annotations_are [] ts h = refl
annotations_are (x ∷ xs) [] h = absurd (omega arith)
annotations_are (x ∷ xs) (t ∷ ts) h = ap (λ ys. x ∷ ys) (annotations_are xs ts (omega arith))

-- ---- the first of an id ----

pub position_inside : {A : Type 0} (p : A → Bool) (xs : List A) (i : ℕ) → position p xs ≡ Some i → i < length xs
position_inside p [] i e = cc
position_inside p (x ∷ xs) i e = (position-Some p (x ∷ xs) i x e).0

module _ (xs : List AnnotationRecord) (ts : List TypeHandle) (id : ℕ) (each : length ts ≡ length xs) where
  place_in : annotation_of (annotations_of (with_types (seen_annotations xs) (map seen_type ts))) id ≡ position (λ (x : AnnotationRecord). x.id == id) xs
  place_in = ap (λ ys. annotation_of ys id) (annotations_are (seen_annotations xs) (map seen_type ts) (length-map ts seen_type ∙ each ∙ sym (same_length xs))) ∙ sym (position_seen xs id)

  pub find_inside : (i : ℕ) (o : Option ℕ) → o ≡ position (λ (x : AnnotationRecord). x.id == id) xs → o ≡ Some i → i < length (with_types (seen_annotations xs) (map seen_type ts))
  find_inside i o e is = let inside = position_inside (λ (x : AnnotationRecord). x.id == id) xs i (sym e ∙ is) in omega (arith, length_in xs ts)

  pub find_some : (i : ℕ) (o : Option ℕ) (y : TypedAnnotation) → o ≡ position (λ (x : AnnotationRecord). x.id == id) xs → o ≡ Some i → slice_get (with_types (seen_annotations xs) (map seen_type ts)) i ≡ Some y → Some y ≡ first_of_id (with_types (seen_annotations xs) (map seen_type ts)) id
  find_some i o y e is at = sym (ap (entry_at (with_types (seen_annotations xs) (map seen_type ts))) (place_in ∙ sym e ∙ is) ∙ at)

  pub find_none : (o : Option ℕ) → o ≡ position (λ (x : AnnotationRecord). x.id == id) xs → o ≡ None → None ≡ first_of_id (with_types (seen_annotations xs) (map seen_type ts)) id
  find_none o e is = sym (ap (entry_at (with_types (seen_annotations xs) (map seen_type ts))) (place_in ∙ sym e ∙ is))

pub same_parts : (xs ys : List AnnotationRecord) (ts us : List TypeHandle) → xs ≡ ys → ts ≡ us → with_types (seen_annotations xs) (map seen_type ts) ≡ with_types (seen_annotations ys) (map seen_type us)
same_parts xs ys ts us e q = ap (λ zs. with_types (seen_annotations zs) (map seen_type ts)) e ∙ ap (λ vs. with_types (seen_annotations ys) (map seen_type vs)) q
