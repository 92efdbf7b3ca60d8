-- What the structs of a list say, one after another.
use Rattle.std.proofs.Common.{ℕ, ◌+◌, ◌-◌, ◌<◌, ◌≤◌, ◌≡◌, ◌∙◌, suc, arith, ap, sym, [], ◌∷◌, Ok, Err}
use Rattle.capnp_device.specs.declared.error.ErrorKind.{ErrorKind}
use Rattle.capnp_wire.specs.Reading.{list_length}
use Rattle.capnp_wire.specs.Standing.{list_of}
use Rattle.capnp_records.specs.Record as value
use Rattle.capnp_records.specs.Record.{Record, Value, values_from}
use Rattle.capnp_request.specs.declared.handles.RequestList.{RequestList}
use Rattle.capnp_request.specs.Steps.Handles.{IsListOf, values_left}
use Rattle.capnp_request.specs.Steps.Seen.{element_in, element_seen, list_seen}
use Rattle.capnp_request.specs.Parts.{element_read}
use Rattle.capnp_request.specs.Reading.{each_said, in_struct, list_said}
use Rattle.capnp_request.specs.Terms.{Said}

abbrev pub length_of : RequestList → ℕ
length_of l = list_length (list_of l.elements)

module _ {A : Type 0} (l : RequestList) (b : ℕ) (f : Record → A) where
  abbrev pub says : Value → Said A
  says v = in_struct Err (λ r. Ok (f r)) v

  -- the whole list
  pub said_all : list_said b f (list_seen l) ≡ Ok (each_said b f (values_left l 0))
  unfolding values_left
  said_all = let e : length_of l ≡ length_of l - 0 = omega arith in ap (λ n. Ok (each_said b f (values_from (element_in l) 0 n))) e

  -- the next one before those that are left
  pub said_more : (i : ℕ) → IsListOf b l → i < length_of l → each_said b f (values_left l i) ≡ says (element_seen l i) ∷ each_said b f (values_left l (i + 1))
  unfolding values_left
  said_more i is inside =
      let e : length_of l - i ≡ suc (length_of l - (i + 1)) = omega (arith, inside) in
      let next : suc i ≡ i + 1 = omega arith in
      let read : element_read b (element_in l i) ≡ element_seen l i = ap (λ n. element_read n (element_in l i)) (sym is.number) in
      ap (λ n. each_said b f (values_from (element_in l) i n)) e
      ∙ (ap (λ v. says v ∷ each_said b f (values_from (element_in l) (suc i) (length_of l - (i + 1)))) read
      ∙ ap (λ j. says (element_seen l i) ∷ each_said b f (values_from (element_in l) j (length_of l - (i + 1)))) next)

  pub said_record : (i : ℕ) (r : Record) → IsListOf b l → i < length_of l → value.Struct r ≡ element_seen l i → each_said b f (values_left l i) ≡ Ok (f r) ∷ each_said b f (values_left l (i + 1))
  said_record i r is inside e = said_more i is inside ∙ ap (λ v. says v ∷ each_said b f (values_left l (i + 1))) (sym e)

  pub said_fault : (i : ℕ) (kind : ErrorKind) → IsListOf b l → i < length_of l → value.Fault kind ≡ element_seen l i → each_said b f (values_left l i) ≡ Err kind ∷ each_said b f (values_left l (i + 1))
  said_fault i kind is inside e = said_more i is inside ∙ ap (λ v. says v ∷ each_said b f (values_left l (i + 1))) (sym e)

  pub said_none : (i : ℕ) → length_of l ≤ i → each_said b f (values_left l i) ≡ []
  unfolding values_left
  said_none i past = let e : length_of l - i ≡ 0 = omega (arith, past) in ap (λ n. each_said b f (values_from (element_in l) i n)) e
