-- What edits make of lists is read as what they make of their elements.
use Rattle.std.proofs.Common.{◌≡◌, ℕ, ◌+◌, ◌-◌, refl, sym, ap, ap₂, subst, ◌∙◌, Bool, true, false, cond, nat_lt, arith, List, [], ◌∷◌, ◌++◌, Result, Ok, Err}
use Rattle.std.specs.Prelude.{min}
use Rattle.capnp_device.specs.declared.error.ErrorKind.{ErrorKind}
use Rattle.capnp_device.specs.declared.error.ErrorKind.TheVariants.{NoSuchElement}
use Rattle.capnp_wire.specs.Reading.{list_length}
use Rattle.capnp_wire.specs.Tree.{Tree}
use Rattle.capnp_schema.specs.Accepted.{IsAccepted, NamesEntries}
use Rattle.capnp_schema.specs.Ranges.{HasWidths}
use Rattle.capnp_schema.specs.Schema.{Schemas}
use Rattle.capnp_schema.specs.Types.{ListType, SchemaType}
use Rattle.capnp_records.specs.Call.{Source}
use Rattle.capnp_records.specs.Facts.ListValues.{ListRead, count_values_from, list_read}
use Rattle.capnp_records.specs.Facts.NewTrees.{initn_value}
use Rattle.capnp_records.specs.Given.{given_element}
use Rattle.capnp_records.specs.Operation.{new_element}
use Rattle.capnp_records.specs.Part.{value_count}
use Rattle.capnp_records.specs.Reading.{value_of}
use Rattle.capnp_records.specs.Record as value
use Rattle.capnp_records.specs.Record.{Endless, MoreValues, NoValues, Values, values_from}
use Rattle.capnp_records.specs.Steps.Stand.{seen_element}
use Rattle.capnp_edits.specs.Added.{added_values, given_value}
use Rattle.capnp_edits.specs.Changes.{Append, AreListed, Edit, Insert, IsAdded, Place, Remove, Resize, both, edited_values, joined, least_size, none, one, place_of, splice_at}
use Rattle.capnp_edits.specs.Edits.{append_values, appended, first_values, spliced, values_behind}
use Rattle.capnp_edits.specs.Laws.{EditLaw, ListedLaw}
use Rattle.capnp_edits.proofs.OneValue.{one_value}
use Rattle.capnp_edits.proofs.SplicedValues.{spliced_values}

-- ---- rows ----

first_all : (vs : Values) → first_values (value_count vs) vs ≡ vs
first_all NoValues = refl
first_all (MoreValues v vs) = ap (MoreValues v) (first_all vs)

none_behind : (vs : Values) → values_behind (value_count vs) vs ≡ NoValues
none_behind NoValues = refl
none_behind (MoreValues v vs) = none_behind vs

with_nothing : (vs : Values) → append_values vs NoValues ≡ vs
with_nothing NoValues = refl
with_nothing (MoreValues v vs) = ap (MoreValues v) (with_nothing vs)

appended_is : (added vs : Values) → appended added vs ≡ append_values vs added
appended_is added vs =
    ap₂ append_values (first_all vs)
    (ap (append_values added) (ap (λ k. values_behind k vs) {x = value_count vs + 0} {y = value_count vs} (omega arith) ∙ none_behind vs) ∙ with_nothing added)

added_both : (set : Schemas) (e : SchemaType) (ss us : List Source) → added_values set e (ss ++ us) ≡ append_values (added_values set e ss) (added_values set e us)
added_both set e [] us = refl
added_both set e (s ∷ ss) us = ap (MoreValues (given_value (given_element set e s))) (added_both set e ss us)

-- a list has as many values as elements
counted : (set : Schemas) (e : SchemaType) (t : Tree) (vs : Values) → value_of set t Endless (ListType e) ≡ value.Elements vs → list_length t ≡ value_count vs
counted set e t vs is =
    let r : ListRead set t e vs = list_read set t e vs is in
    sym (count_values_from (seen_element set t e) 0 (list_length t)) ∙ ap value_count r.same

-- ---- lists of values ----

listed : (set : Schemas) (e : SchemaType) → IsAccepted set → NamesEntries set e → HasWidths e → (ss : List Source) (t : Tree) → AreListed set e ss t → value_of set t Endless (ListType e) ≡ value.Elements (added_values set e ss)
listed set e accepted entries widths ss t none = initn_value set e 0
listed set e accepted entries widths ss t (one s x h) = one_value set accepted e entries s x h
listed set e accepted entries widths ss t (both fs bs x y g h formed) =
    let first : value_of set x Endless (ListType e) ≡ value.Elements (added_values set e fs) = listed set e accepted entries widths fs x g in
    let second : value_of set y Endless (ListType e) ≡ value.Elements (added_values set e bs) = listed set e accepted entries widths bs y h in
    spliced_values set e (least_size set e) (joined x y) (added_values set e fs) (added_values set e bs) widths formed first second
    ∙ ap value.Elements
    (ap (λ n. spliced n 0 (added_values set e bs) (added_values set e fs)) (counted set e x (added_values set e fs) first)
    ∙ (appended_is (added_values set e bs) (added_values set e fs) ∙ sym (added_both set e fs bs)))

pub listed_values : ListedLaw
listed_values set e sources t accepted entries widths h = listed set e accepted entries widths sources t h

-- ---- edits ----

abbrev found : Place → Result Place ErrorKind
found p = Ok p

abbrev added_by : Schemas → SchemaType → Edit → (length : ℕ) → Values
added_by set e (Append ss) n = added_values set e ss
added_by set e (Insert i s) n = MoreValues (given_value (given_element set e s)) NoValues
added_by set e (Remove i) n = NoValues
added_by set e (Resize m) n = values_from (λ _. new_element set e) 0 (m - n)

abbrev refused : ErrorKind → Result Place ErrorKind
refused kind = Err kind

no_place : (p : Place) (kind : ErrorKind) → refused kind ≡ found p → ⊥
no_place p kind h = cc

same_place : (p q : Place) → found p ≡ found q → p ≡ q
same_place p q h = cc

-- what is added, as values
added_read : (set : Schemas) (e : SchemaType) → IsAccepted set → NamesEntries set e → HasWidths e → (edit : Edit) (n : ℕ) (t : Tree) → IsAdded set e edit n t → value_of set t Endless (ListType e) ≡ value.Elements (added_by set e edit n)
added_read set e accepted entries widths (Append ss) n t h = listed set e accepted entries widths ss t h
added_read set e accepted entries widths (Insert i s) n t h = one_value set accepted e entries s t h
added_read set e accepted entries widths (Remove i) n t h = ap (λ x. value_of set x Endless (ListType e)) h ∙ initn_value set e 0
added_read set e accepted entries widths (Resize m) n t h = ap (λ x. value_of set x Endless (ListType e)) h ∙ initn_value set e (m - n)

spliced_is : (set : Schemas) (e : SchemaType) (edit : Edit) (p : Place) (vs : Values) → place_of edit (value_count vs) ≡ found p → spliced p.at p.removed (added_by set e edit (value_count vs)) vs ≡ edited_values set e edit vs
spliced_is set e (Append ss) p vs h = ap (λ (q : Place). spliced q.at q.removed (added_values set e ss) vs) (sym (same_place (record { at = value_count vs; removed = 0 }) p h))
spliced_is set e (Insert i s) p vs h = go (nat_lt (value_count vs) i) h
  where
    go : (b : Bool) → cond b (refused NoSuchElement) (found (record { at = i; removed = 0 })) ≡ found p → spliced p.at p.removed (MoreValues (given_value (given_element set e s)) NoValues) vs ≡ edited_values set e (Insert i s) vs
    go true h = absurd (no_place p NoSuchElement h)
    go false h = ap (λ (q : Place). spliced q.at q.removed (MoreValues (given_value (given_element set e s)) NoValues) vs) (sym (same_place (record { at = i; removed = 0 }) p h))
spliced_is set e (Remove i) p vs h = go (nat_lt i (value_count vs)) h
  where
    go : (b : Bool) → cond b (found (record { at = i; removed = 1 })) (refused NoSuchElement) ≡ found p → spliced p.at p.removed NoValues vs ≡ edited_values set e (Remove i) vs
    go true h = ap (λ (q : Place). spliced q.at q.removed NoValues vs) (sym (same_place (record { at = i; removed = 1 }) p h))
    go false h = absurd (no_place p NoSuchElement h)
spliced_is set e (Resize n) p vs h = ap (λ (q : Place). spliced q.at q.removed (values_from (λ _. new_element set e) 0 (n - value_count vs)) vs) (sym (same_place (record { at = min n (value_count vs); removed = value_count vs - n }) p h))

pub values_are_edited : EditLaw
values_are_edited set e old edit new vs accepted entries widths c is =
    let n : list_length old ≡ value_count vs = counted set e old vs is in
    ap (λ x. value_of set x Endless (ListType e)) c.list
    ∙ (spliced_values set e (least_size set e) (splice_at old c.added c.place) vs (added_by set e edit (list_length old)) widths c.formed is (added_read set e accepted entries widths edit (list_length old) c.added c.is_added)
    ∙ ap value.Elements
    (ap (λ k. spliced c.place.at c.place.removed (added_by set e edit k) vs) n
    ∙ spliced_is set e edit c.place vs (subst (λ k. place_of edit k ≡ found c.place) n c.found)))
