-- Lists one after another, as the definitions have it.
use Rattle.std.proofs.Common.{ℕ, ◌≡◌, refl, List, [], ◌∷◌, ◌++◌, length, get_or, take, drop, arith, inl, inr, ap, subst, sym, ◌∙◌}
use Rattle.std.proofs.lemmas.List.{map-append, take-append-drop}
use Rattle.capnp_device.specs.declared.error.ErrorKind.{ErrorKind}
use Rattle.capnp_device.specs.declared.error.ErrorKind.TheVariants.{TooDeep}
use Rattle.capnp_wire.specs.Reading.{list_length}
use Rattle.capnp_wire.specs.Tree.{Tree}
use Rattle.capnp_wire.specs.declared.size.ElementSize.{ElementSize}
use Rattle.capnp_wire.specs.declared.size.StructSize.{StructSize}
use Rattle.capnp_splices.specs.Splices.{Splice, splice_refusal, spliced_list}
use Rattle.capnp_schema.specs.Schema.{Schemas}
use Rattle.capnp_schema.specs.Types.{SchemaType}
use Rattle.capnp_records.specs.Call.{Source}
use Rattle.capnp_dynamic_readers.specs.declared.dynamic_value.Reader.{Reader as DynamicValue}
use Rattle.capnp_slots.specs.SetValues.{source_of}
use Rattle.capnp_records.specs.Given.{given_element}
use Rattle.capnp_records.specs.Writes.Contents.{new_list}
use Rattle.capnp_slots.specs.Sources.{IsSetRefusal}
use Rattle.capnp_edits.specs.Added.{IsOne}
use Rattle.capnp_edits.specs.Changes.{Append, AreListed, AreRefused, IsChangeRefusal, IsChanged, IsSpliceRefusal, Place, added_deep, both, first_deep, first_refused, joined, none, not_added, not_joined, not_spliced, one, one_refused, second_deep, second_refused, unspliced}
use Rattle.capnp_edit_calls.specs.ChangesSeen.{sources_of}
use Rattle.capnp_edit_calls.specs.Steps.Joins.{IsJoinRefusal, IsJoined, IsMadeJoinRefusal}

abbrev put : Tree → Tree → ℕ → Splice
put t u n = record { old = t; added = u; at = n; removed = 0 }

pub same_list : (z z' : ElementSize) (size size' : StructSize) (t u u' : Tree) (n : ℕ) → z ≡ z' → size ≡ size' → u ≡ u' → n ≡ list_length t → spliced_list z size (put t u n) ≡ spliced_list z' size' (joined t u')
same_list z z' size size' t u u' n e f g h =
    ap (λ x. spliced_list x size (put t u n)) e ∙ (ap (λ x. spliced_list z' x (put t u n)) f ∙ (ap (λ x. spliced_list z' size' (put t x n)) g ∙ ap (λ k. spliced_list z' size' (put t u' k)) h))

pub same_refusal : (z z' : ElementSize) (size size' : StructSize) (t u u' : Tree) (n : ℕ) → z ≡ z' → size ≡ size' → u ≡ u' → n ≡ list_length t → splice_refusal z size (put t u n) ≡ splice_refusal z' size' (joined t u')
same_refusal z z' size size' t u u' n e f g h =
    ap (λ x. splice_refusal x size (put t u n)) e ∙ (ap (λ x. splice_refusal z' x (put t u n)) f ∙ (ap (λ x. splice_refusal z' size' (put t x n)) g ∙ ap (λ k. splice_refusal z' size' (put t u' k)) h))

-- ---- values in two parts ----

pub in_two : (values : List DynamicValue) (n : ℕ) → sources_of values ≡ sources_of (take n values) ++ sources_of (drop n values)
in_two values n = ap sources_of (sym (take-append-drop n values)) ∙ map-append source_of (take n values) (drop n values)

pub listed_both : (set : Schemas) (e : SchemaType) (values : List DynamicValue) (n : ℕ) (t u w : Tree) → AreListed set e (sources_of (take n values)) t → AreListed set e (sources_of (drop n values)) u → IsJoined set e t u w →
    AreListed set e (sources_of values) w
listed_both set e values n t u w front back j =
    subst (λ (ss : List Source). AreListed set e ss w) (sym (in_two values n))
    (subst (AreListed set e (sources_of (take n values) ++ sources_of (drop n values))) (sym j.list) (both (sources_of (take n values)) (sources_of (drop n values)) t u front back j.formed))

pub refused_first : (set : Schemas) (e : SchemaType) (values : List DynamicValue) (n : ℕ) (kind : ErrorKind) → AreRefused set e (sources_of (take n values)) kind → AreRefused set e (sources_of values) kind
refused_first set e values n kind h =
    subst (λ (ss : List Source). AreRefused set e ss kind) (sym (in_two values n)) (first_refused (sources_of (take n values)) (sources_of (drop n values)) kind h)

pub refused_second : (set : Schemas) (e : SchemaType) (values : List DynamicValue) (n : ℕ) (t : Tree) (kind : ErrorKind) → AreListed set e (sources_of (take n values)) t → AreRefused set e (sources_of (drop n values)) kind → AreRefused set e (sources_of values) kind
refused_second set e values n t kind front h =
    subst (λ (ss : List Source). AreRefused set e ss kind) (sym (in_two values n)) (second_refused (sources_of (take n values)) (sources_of (drop n values)) t kind front h)

-- no values, and one
pub listed_none : (set : Schemas) (e : SchemaType) (values : List DynamicValue) → length values ≡ 0 → (t : Tree) → t ≡ new_list set e 0 → AreListed set e (sources_of values) t
listed_none set e [] h t is = subst (AreListed set e []) (sym is) none
listed_none set e (v ∷ values) h t is = absurd (omega (arith, h))

pub listed_one : (set : Schemas) (e : SchemaType) (values : List DynamicValue) (v : DynamicValue) → length values ≡ 1 → v ≡ get_or values 0 v → (t : Tree) → IsOne set e (source_of v) t → AreListed set e (sources_of values) t
listed_one set e [] v h is t made = absurd (omega (arith, h))
listed_one set e (x ∷ []) v h is t made = one (source_of x) t (subst (λ y. IsOne set e (source_of y) t) is made)
listed_one set e (x ∷ y ∷ values) v h is t made = absurd (omega (arith, h))

pub refused_one : (set : Schemas) (e : SchemaType) (values : List DynamicValue) (v : DynamicValue) → length values ≡ 1 → v ≡ get_or values 0 v → (kind : ErrorKind) → IsSetRefusal (given_element set e (source_of v)) kind → AreRefused set e (sources_of values) kind
refused_one set e [] v h is kind r = absurd (omega (arith, h))
refused_one set e (x ∷ []) v h is kind r = one_refused (source_of x) kind (subst (λ y. IsSetRefusal (given_element set e (source_of y)) kind) is r)
refused_one set e (x ∷ y ∷ values) v h is kind r = absurd (omega (arith, h))

-- ---- refusals ----

too_deep : (set : Schemas) (e : SchemaType) (s : Splice) (kind : ErrorKind) → kind ≡ TooDeep → IsSpliceRefusal set e s TooDeep → IsSpliceRefusal set e s kind
too_deep set e s kind is h = subst (IsSpliceRefusal set e s) (sym is) h

join_refusal : (set : Schemas) (e : SchemaType) (t u : Tree) (kind : ErrorKind) → IsMadeJoinRefusal set e t u kind → IsSpliceRefusal set e (joined t u) kind
join_refusal set e t u kind (inl h) = too_deep set e (joined t u) kind h.0 (first_deep h.1)
join_refusal set e t u kind (inr (inl h)) = too_deep set e (joined t u) kind h.0 (second_deep h.1)
join_refusal set e t u kind (inr (inr h)) = unspliced kind h

pub refused_both : (set : Schemas) (e : SchemaType) (values : List DynamicValue) (n : ℕ) (t u : Tree) (kind : ErrorKind) → AreListed set e (sources_of (take n values)) t → AreListed set e (sources_of (drop n values)) u → IsMadeJoinRefusal set e t u kind →
    AreRefused set e (sources_of values) kind
refused_both set e values n t u kind front back h =
    subst (λ (ss : List Source). AreRefused set e ss kind) (sym (in_two values n))
    (not_joined (sources_of (take n values)) (sources_of (drop n values)) t u kind front back (join_refusal set e t u kind h))

-- ---- values behind a list ----

abbrev behind : Tree → Place
behind t = record { at = list_length t; removed = 0 }

pub appended_list : (set : Schemas) (e : SchemaType) (ss : List Source) (t u w : Tree) → AreListed set e ss u → IsJoined set e t u w → IsChanged set e t (Append ss) w
appended_list set e ss t u w listed j = record {
  place = behind t;
  found = refl;
  added = u;
  is_added = listed;
  formed = j.formed;
  list = j.list;
  sound = j.sound;
}

pub not_listed : (set : Schemas) (e : SchemaType) (ss : List Source) (t : Tree) (kind : ErrorKind) → AreRefused set e ss kind → IsChangeRefusal set e t (Append ss) kind
not_listed set e ss t kind h = not_added (behind t) kind refl h

pub not_appended : (set : Schemas) (e : SchemaType) (ss : List Source) (t u : Tree) (kind : ErrorKind) → AreListed set e ss u → IsJoinRefusal set e t u kind → IsChangeRefusal set e t (Append ss) kind
not_appended set e ss t u kind listed (inl h) = subst (IsChangeRefusal set e t (Append ss)) (sym h.0) (added_deep (behind t) u refl listed h.1)
not_appended set e ss t u kind listed (inr h) = not_spliced (behind t) u kind refl listed h
