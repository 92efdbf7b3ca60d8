-- A walk over a list of structs gives what the definition gives for each.
use Rattle.std.proofs.Common.{ℕ, ◌+◌, ◌<◌, ◌≤◌, ◌≡◌, ◌∙◌, ap, arith, length, sym, Bool, List, [], ◌∷◌, ◌++◌, Result, Ok, Err}
use Rattle.std.proofs.lemmas.List.{append-nil}
use Rattle.capnp_device.specs.declared.error.ErrorKind.{ErrorKind}
use Rattle.capnp_records.specs.Record as value
use Rattle.capnp_records.specs.Record.{Record}
use Rattle.capnp_request.specs.Steps.Seen.{element_seen}
use Rattle.capnp_request.specs.declared.handles.RequestList.{RequestList}
use Rattle.capnp_request.specs.Conversion.{Converted, field_of, fields_of}
use Rattle.capnp_request.specs.Steps.ConvertedSeen.{seen_converted}
use Rattle.capnp_request.specs.Steps.Handles.{IsListOf, values_left}
use Rattle.capnp_request.specs.Reading.{each_said, field_said}
use Rattle.capnp_request.specs.Steps.StructsSeen.{seen_fields}
use Rattle.capnp_request.specs.Terms.{FieldTerm, Said, SchemaNode}
use Rattle.capnp_request.specs.Work.{Bound, Named, Work, each_read}
use Rattle.capnp_request.specs.declared.fields.ConvertedField.{ConvertedField}
use Rattle.capnp_request.proofs.ListsSaid.{length_of, said_fault, said_none, said_record}
use Rattle.capnp_request.proofs.StructsMade.{fields_more}
use Rattle.capnp_request.proofs.Works.{ahead, field_more, field_refused, read_more, read_refused}

-- ---- the same work for each ----

module _ {A B : Type 0} (b : ℕ) (g : Record → A) (f : A → Work B) (l : RequestList) (is : IsListOf b l) (i : ℕ) (ys : List B) (s : Named) (whole : Result (List B × Named) ErrorKind)
    (left : ahead ys (each_read f (each_said b g (values_left l i)) s) ≡ whole) where
  abbrev walked : List (Said A) → Result (List B × Named) ErrorKind
  walked xs = ahead ys (each_read f xs s)

  pub element_refused : (kind : ErrorKind) → i < length_of l → value.Fault kind ≡ element_seen l i → whole ≡ Err kind
  element_refused kind within e = sym left ∙ ap walked (said_fault l b g i kind is within e)

  pub item_refused : (r : Record) (kind : ErrorKind) → i < length_of l → value.Struct r ≡ element_seen l i → f (g r) s ≡ Err kind → whole ≡ Err kind
  item_refused r kind within e h = sym left ∙ (ap walked (said_record l b g i r is within e) ∙ read_refused f (g r) (each_said b g (values_left l (i + 1))) s s ys kind h)

  pub item_given : (r : Record) (y : B) (after : Named) → i < length_of l → value.Struct r ≡ element_seen l i → f (g r) s ≡ Ok (y, after) →
      ahead (ys ++ y ∷ []) (each_read f (each_said b g (values_left l (i + 1))) after) ≡ whole
  item_given r y after within e h = sym (read_more f (g r) (each_said b g (values_left l (i + 1))) s after ys y h) ∙ (sym (ap walked (said_record l b g i r is within e)) ∙ left)

  pub all_given : length_of l ≤ i → whole ≡ Ok (ys, s)
  all_given past = sym left ∙ (ap walked (said_none l b g i past) ∙ ap (λ xs. Ok (xs, s)) (append-nil ys))

-- ---- fields, by index ----

module _ (nodes : List SchemaNode) (strict : Bool) (inside : List Bound) (n : ℕ) (l : RequestList) (is : IsListOf 8 l) (i : ℕ) (fs : List ConvertedField) (s : Named) (whole : Result (List Converted × Named) ErrorKind)
    (left : ahead (seen_fields n 0 fs) (fields_of nodes strict inside n i (each_said 8 field_said (values_left l i)) s) ≡ whole) where
  abbrev walked_fields : List (Said FieldTerm) → Result (List Converted × Named) ErrorKind
  walked_fields xs = ahead (seen_fields n 0 fs) (fields_of nodes strict inside n i xs s)

  pub field_unread : (kind : ErrorKind) → i < length_of l → value.Fault kind ≡ element_seen l i → whole ≡ Err kind
  field_unread kind within e = sym left ∙ ap walked_fields (said_fault l 8 field_said i kind is within e)

  pub field_unmade : (r : Record) (kind : ErrorKind) → i < length_of l → value.Struct r ≡ element_seen l i → field_of nodes strict inside n i (field_said r) s ≡ Err kind → whole ≡ Err kind
  field_unmade r kind within e h =
      sym left ∙ (ap walked_fields (said_record l 8 field_said i r is within e) ∙ field_refused nodes inside strict n i (field_said r) (each_said 8 field_said (values_left l (i + 1))) s (seen_fields n 0 fs) kind h)

  pub field_made : (r : Record) (f : ConvertedField) (after : Named) (all : List ConvertedField) → i < length_of l → value.Struct r ≡ element_seen l i → field_of nodes strict inside n i (field_said r) s ≡ Ok (seen_converted n i f, after) →
      length fs ≡ i → all ≡ fs ++ f ∷ [] → ahead (seen_fields n 0 all) (fields_of nodes strict inside n (i + 1) (each_said 8 field_said (values_left l (i + 1))) after) ≡ whole
  field_made r f after all within e h count more =
      let at : 0 + length fs ≡ i = omega (arith, count) in
      ap (λ xs. ahead xs (fields_of nodes strict inside n (i + 1) (each_said 8 field_said (values_left l (i + 1))) after)) (ap (seen_fields n 0) more ∙ fields_more n 0 fs f i at)
      ∙ (sym (field_more nodes inside strict n i (field_said r) (each_said 8 field_said (values_left l (i + 1))) s after (seen_fields n 0 fs) (seen_converted n i f) h)
      ∙ (sym (ap walked_fields (said_record l 8 field_said i r is within e)) ∙ left))

  pub all_made : length_of l ≤ i → whole ≡ Ok (seen_fields n 0 fs, s)
  all_made past = sym left ∙ (ap walked_fields (said_none l 8 field_said i past) ∙ ap (λ xs. Ok (xs, s)) (append-nil (seen_fields n 0 fs)))
