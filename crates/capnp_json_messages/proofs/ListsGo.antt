-- The elements of an array, one behind the other, in a list.
use Rattle.std.proofs.Common.{ℕ, suc, ◌≡◌, ◌+◌, ◌<◌, ◌≤◌, ◌^◌, Bool, List, Option, None, Some, Ok, refl, arith, ap, sym, subst, ◌∙◌}
use Rattle.capnp_wire.specs.Tree.{Tree}
use Rattle.capnp_schema.specs.Schema.{Schemas}
use Rattle.capnp_schema.specs.Types.{SchemaType}
use Rattle.capnp_records.specs.Operation.{new_element}
use Rattle.capnp_records.specs.Part.{nth_value, value_count, with_value}
use Rattle.capnp_records.specs.Record.{Value, Values, values_from}
use Rattle.capnp_records.specs.Writes.Contents.{new_list}
use Rattle.capnp_json_text.specs.Laws.{StandsInSteps}
use Rattle.capnp_json_text.specs.Values.{Element, Elements, NoElement, elements_of, following_item, json_at}
use Rattle.capnp_json_fields.specs.declared.fields.DataForm.TheVariants.{Array}
use Rattle.capnp_from_json.specs.Errors.{Read}
use Rattle.capnp_from_json.specs.LeafReads.{under}
use Rattle.capnp_from_json.specs.Leaves.{OfElement}
use Rattle.capnp_from_json.specs.Records.{Rules, element_count, elements_of_json, first_of_two}
use Rattle.capnp_from_json.specs.declared.error.Error.{Error}
use Rattle.capnp_from_json.specs.declared.reading.Reading.{Reading}
use Rattle.capnp_from_json.proofs.Refusals.{error_same}
use Rattle.capnp_json_messages.specs.Put.{HasNew, IsListOf}
use Rattle.capnp_json_messages.specs.Steps.Walks.{ListRead, elements_json}
use Rattle.capnp_json_messages.specs.Walks.{AreRules, ElementRead, IsRefused, element_json}
use Rattle.capnp_json_messages.proofs.ElementPuts.{count_put, put_other}
use Rattle.capnp_json_messages.proofs.Fronts.{front_all, front_more, front_refused, in_front, nothing_first}
use Rattle.capnp_json_messages.proofs.NewLists.{new_count, new_is_list, new_value}

-- the elements from an item on
abbrev pub items : Reading → Option (List ℕ) → Elements
items reading at = elements_of (json_at reading.whole) at

-- a list as the elements so far left it: the others are new, and what is read of them all is what it has and what is read from
-- the next on
pub record ListSoFar (set : Schemas) (e : SchemaType) (reading : Reading) (levels : ℕ) (is_float : Bool) (first next : Option (List ℕ)) (index : ℕ) (x : Tree) : Type 0 where
  pub values : Values
  pub list : IsListOf set e x values
  pub count : index + element_count (items reading next) ≡ value_count values
  pub few : value_count values < 2 ^ 29
  pub fresh : (k : ℕ) → index ≤ k → k < value_count values → nth_value values k ≡ new_element set e
  pub goes_on : (rules : Rules) → AreRules set reading.strict rules → elements_json reading levels e is_float first rules ≡ in_front values index (elements_json reading levels e is_float next rules)

module _ (set : Schemas) (e : SchemaType) (reading : Reading) (levels : ℕ) (is_float : Bool) (first : Option (List ℕ)) where
  pub list_begin : (x : Tree) → x ≡ new_list set e (element_count (items reading first)) → element_count (items reading first) < 2 ^ 29 → ListSoFar set e reading levels is_float first first 0 x
  list_begin x is few = go (element_count (items reading first)) refl
    where
      go : (n : ℕ) → n ≡ element_count (items reading first) → ListSoFar set e reading levels is_float first first 0 x
      go n same = record {
        values = values_from (λ _. new_element set e) 0 n;
        list = subst (λ (y : Tree). IsListOf set e y (values_from (λ _. new_element set e) 0 n)) (sym (is ∙ ap (new_list set e) (sym same))) (new_is_list set e n);
        count = omega (arith, same, new_count set e n);
        few = omega (arith, few, same, new_count set e n);
        fresh = λ k from h. new_value set e n k (omega (arith, h, new_count set e n));
        goes_on = λ rules are. nothing_first (values_from (λ _. new_element set e) 0 n) (elements_json reading levels e is_float first rules);
      }

  module _ (steps : StandsInSteps) (bytes : List ℕ) (at : Option (List ℕ)) (index : ℕ) (x : Tree) (is : at ≡ Some bytes) (so_far : ListSoFar set e reading levels is_float first at index x) where
    -- the first of what is left
    here : items reading at ≡ Element (json_at reading.whole bytes) (items reading (following_item bytes))
    here = ap (items reading) is ∙ steps.elements (json_at reading.whole) bytes

    one_here : element_count (items reading at) ≡ suc (element_count (items reading (following_item bytes)))
    one_here = ap element_count here

    pub index_inside : index < value_count so_far.values
    index_inside = omega (arith, so_far.count, one_here)

    pub index_few : index + 1 < 2 ^ 32
    index_few = omega (arith, index_inside, so_far.few)

    pub list_has : HasNew set e x index
    list_has = record { values = so_far.values; list = so_far.list; inside = index_inside; as_new = so_far.fresh index (omega arith) index_inside }

    all_is : (rules : Rules) → AreRules set reading.strict rules
        → elements_json reading levels e is_float first rules ≡ in_front so_far.values index (first_of_two (element_json reading levels e is_float bytes rules) (elements_json reading levels e is_float (following_item bytes) rules))
    all_is rules are = so_far.goes_on rules are ∙ ap (λ (es : Elements). in_front so_far.values index (elements_of_json rules es levels (under e OfElement is_float Array))) here

    pub list_stop : (error : Error) → IsRefused set reading.strict (element_json reading levels e is_float bytes) error → IsRefused set reading.strict (elements_json reading levels e is_float first) error
    list_stop error h = λ rules are.
        error_same (elements_json reading levels e is_float first rules)
        (in_front so_far.values index (first_of_two (element_json reading levels e is_float bytes rules) (elements_json reading levels e is_float (following_item bytes) rules))) error (all_is rules are)
        (front_refused so_far.values index (element_json reading levels e is_float bytes rules) (elements_json reading levels e is_float (following_item bytes) rules) error (h rules are))

    pub list_next : (x' : Tree) (next : Option (List ℕ)) → next ≡ following_item bytes → ElementRead set e index reading.strict (element_json reading levels e is_float bytes) x x'
        → ListSoFar set e reading levels is_float first next (index + 1) x'
    list_next x' next next_is read =
        let counted : value_count (with_value so_far.values index read.value) ≡ value_count so_far.values = count_put so_far.values index read.value in
        let left : element_count (items reading next) ≡ element_count (items reading (following_item bytes)) = ap (λ (o : Option (List ℕ)). element_count (items reading o)) next_is in
        record {
          values = with_value so_far.values index read.value;
          list = read.puts so_far.values so_far.list index_inside (so_far.fresh index (omega arith) index_inside);
          count = omega (arith, so_far.count, one_here, left, counted);
          few = omega (arith, so_far.few, counted);
          fresh = λ k from h. put_other so_far.values index k read.value (λ same. omega (arith, from, same)) ∙ so_far.fresh k (omega (arith, from)) (omega (arith, h, counted));
          goes_on = λ rules are.
              all_is rules are
              ∙ (ap (λ (r : Read Value). in_front so_far.values index (first_of_two r (elements_json reading levels e is_float (following_item bytes) rules))) (read.is rules are)
              ∙ (front_more so_far.values index read.value (elements_json reading levels e is_float (following_item bytes) rules) index_inside
              ∙ (ap (λ (n : ℕ). in_front (with_value so_far.values index read.value) n (elements_json reading levels e is_float (following_item bytes) rules)) (let p : suc index ≡ index + 1 = omega arith in p)
              ∙ ap (λ (o : Option (List ℕ)). in_front (with_value so_far.values index read.value) (index + 1) (elements_json reading levels e is_float o rules)) (sym next_is))));
        }

  pub list_end : StandsInSteps → (at : Option (List ℕ)) (index : ℕ) (x : Tree) → at ≡ None → ListSoFar set e reading levels is_float first at index x
      → ListRead set e reading.strict (elements_json reading levels e is_float first) x
  list_end steps at index x is so_far =
      let none : items reading at ≡ NoElement = ap (items reading) is ∙ steps.no_elements (json_at reading.whole) in
      let zero_left : element_count (items reading at) ≡ 0 = ap element_count none in
      let all : index ≡ value_count so_far.values = omega (arith, so_far.count, zero_left) in
      record {
        values = so_far.values;
        list = so_far.list;
        is = λ rules are. so_far.goes_on rules are
            ∙ (ap (λ (es : Elements). in_front so_far.values index (elements_of_json rules es levels (under e OfElement is_float Array))) none
            ∙ ap Ok (front_all so_far.values index all));
      }
