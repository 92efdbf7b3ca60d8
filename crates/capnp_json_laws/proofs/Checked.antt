-- Names of a set that the check of names passed are distinct.
use Rattle.std.proofs.Common.{◌≡◌, ◌≢◌, ℕ, zero, suc, ◌≤◌, inl, inr, Bool, true, false, List, [], ◌∷◌, length, map, slice_get, Some, None, refl, ap, sym, ◌∙◌, arith}
use Rattle.std.specs.Option.{unwrap_or}
use Rattle.std.proofs.lemmas.Bool.{cases_lt}
use Rattle.std.proofs.lemmas.Option.{slice_get_past}
use Rattle.capnp_schema.specs.Accepted.{IsAccepted}
use Rattle.capnp_schema.specs.Schema.{Enumerant, Field, Schemas, brand_at, enum_at, node_at, node_of, no_enum, no_node}
use Rattle.capnp_json_fields.specs.Marks.{is_annotated}
use Rattle.capnp_json_fields.specs.Names.{enumerant_name, field_name, name_id}
use Rattle.capnp_json_names.specs.Distinct.{HasJsonNames, NoneMeetWhereApart}
use Rattle.capnp_json_names.specs.Labels.{AreApart, Label, enumerant_label, enumerant_labels, field_label, field_labels}
use Rattle.capnp_json_laws.specs.Distinct.{CheckedNamesAreDistinct, HasOwnEnumerants}
use Rattle.capnp_json_laws.proofs.Distinct.{fields_apart, of_its_node, own_name, own_text}

mapped_get : {A B : Type 0} (f : A → B) (xs : List A) (i : ℕ) (x : A) → slice_get xs i ≡ Some x → slice_get (map f xs) i ≡ Some (f x)
mapped_get f [] i x e = let no : ⊥ = cc in absurd no
mapped_get f (y ∷ ys) zero x e = let same : y ≡ x = cc in ap (λ z. Some (f z)) same
mapped_get f (y ∷ ys) (suc i) x e = mapped_get f ys i x e

same_index : (i j : ℕ) → (i ≢ j → ⊥) → i ≡ j
same_index i j apart = elim (cases_lt i j) [
  | inl less ↦ absurd (apart (λ e. omega arith))
  | inr more ↦ elim (cases_lt j i) [ inl less ↦ absurd (apart (λ e. omega arith)) | inr same ↦ omega arith ]
]

-- of labels that are apart those of one name, of which an annotation gives one, stand at one index
one_given : (labels : List Label) (i j : ℕ) (x y : Label) → AreApart labels → slice_get labels i ≡ Some x → slice_get labels j ≡ Some y → x.is_given ≡ true → x.name ≡ y.name → i ≡ j
one_given labels i j x y apart at_i at_j given same =
    same_index i j (λ other. apart i j (record { first = x; second = y; at_first = at_i; at_second = at_j; given = given; same = same; apart = other }))

-- ---- fields ----

field_index : (fs : List Field) (i j : ℕ) (f g : Field) → AreApart (field_labels fs) → slice_get fs i ≡ Some f → slice_get fs j ≡ Some g → is_annotated name_id f.annotations ≡ true → field_name f ≡ field_name g → i ≡ j
field_index fs i j f g apart at_i at_j given same =
    one_given (field_labels fs) i j (field_label f) (field_label g) apart (mapped_get field_label fs i f at_i) (mapped_get field_label fs j g at_j) given same

-- past the nodes there are no fields
past_nodes : (set : Schemas) (n : ℕ) → length set.nodes ≤ n → (node_at set n).fields ≡ []
past_nodes set n past = ap (λ o. (unwrap_or o no_node).fields) (slice_get_past set.nodes n past)

fields_by : (set : Schemas) (b i j : ℕ) (f g : Field) (p q : Bool) → IsAccepted set → AreApart (field_labels (node_of set b).fields) → slice_get (node_of set b).fields i ≡ Some f → slice_get (node_of set b).fields j ≡ Some g
    → is_annotated name_id f.annotations ≡ p → is_annotated name_id g.annotations ≡ q → field_name f ≡ field_name g → i ≡ j
fields_by set b i j f g true q accepted apart at_i at_j is_f is_g same = field_index (node_of set b).fields i j f g apart at_i at_j is_f same
fields_by set b i j f g false true accepted apart at_i at_j is_f is_g same = sym (field_index (node_of set b).fields j i g f apart at_j at_i is_g (sym same))
fields_by set b i j f g false false accepted apart at_i at_j is_f is_g same = fields_apart set accepted b i j f g at_i at_j (sym (own_name f is_f) ∙ same ∙ own_name g is_g)

fields_distinct : (set : Schemas) → IsAccepted set → HasJsonNames set → (b i j : ℕ) (f g : Field) → slice_get (node_of set b).fields i ≡ Some f → slice_get (node_of set b).fields j ≡ Some g → field_name f ≡ field_name g → i ≡ j
fields_distinct set accepted names b i j f g at_i at_j same = elim (cases_lt (brand_at set b).node (length set.nodes)) [
  | inl inside ↦
      fields_by set b i j f g (is_annotated name_id f.annotations) (is_annotated name_id g.annotations) accepted (names.fields (brand_at set b).node inside) at_i at_j refl refl same
  | inr past ↦
      let gone : None ≡ Some f = ap (λ (xs : List Field). slice_get xs i) (sym (past_nodes set (brand_at set b).node past)) ∙ at_i in
      let no : ⊥ = cc in absurd no
]

-- ---- enumerants ----

enumerant_index : (xs : List Enumerant) (i j : ℕ) (x y : Enumerant) → AreApart (enumerant_labels xs) → slice_get xs i ≡ Some x → slice_get xs j ≡ Some y → is_annotated name_id x.annotations ≡ true → enumerant_name x ≡ enumerant_name y → i ≡ j
enumerant_index xs i j x y apart at_i at_j given same =
    one_given (enumerant_labels xs) i j (enumerant_label x) (enumerant_label y) apart (mapped_get enumerant_label xs i x at_i) (mapped_get enumerant_label xs j y at_j) given same

past_enums : (set : Schemas) (e : ℕ) → length set.enums ≤ e → (enum_at set e).enumerants ≡ []
past_enums set e past = ap (λ o. (unwrap_or o no_enum).enumerants) (slice_get_past set.enums e past)

enumerants_by : (set : Schemas) (e i j : ℕ) (x y : Enumerant) (p q : Bool) → HasOwnEnumerants set → AreApart (enumerant_labels (enum_at set e).enumerants) → slice_get (enum_at set e).enumerants i ≡ Some x
    → slice_get (enum_at set e).enumerants j ≡ Some y → is_annotated name_id x.annotations ≡ p → is_annotated name_id y.annotations ≡ q → enumerant_name x ≡ enumerant_name y → i ≡ j
enumerants_by set e i j x y true q own apart at_i at_j is_x is_y same = enumerant_index (enum_at set e).enumerants i j x y apart at_i at_j is_x same
enumerants_by set e i j x y false true own apart at_i at_j is_x is_y same = sym (enumerant_index (enum_at set e).enumerants j i y x apart at_j at_i is_y (sym same))
enumerants_by set e i j x y false false own apart at_i at_j is_x is_y same =
    own e i j x y at_i at_j is_x is_y (sym (own_text name_id x.name x.annotations is_x) ∙ same ∙ own_text name_id y.name y.annotations is_y)

enumerants_distinct : (set : Schemas) → HasJsonNames set → HasOwnEnumerants set → (e i j : ℕ) (x y : Enumerant) → slice_get (enum_at set e).enumerants i ≡ Some x → slice_get (enum_at set e).enumerants j ≡ Some y
    → enumerant_name x ≡ enumerant_name y → i ≡ j
enumerants_distinct set names own e i j x y at_i at_j same = elim (cases_lt e (length set.enums)) [
  | inl inside ↦
      enumerants_by set e i j x y (is_annotated name_id x.annotations) (is_annotated name_id y.annotations) own (names.enumerants e inside) at_i at_j refl refl same
  | inr past ↦
      let gone : None ≡ Some x = ap (λ (xs : List Enumerant). slice_get xs i) (sym (past_enums set e past)) ∙ at_i in
      let no : ⊥ = cc in absurd no
]

pub checked_names : NoneMeetWhereApart → CheckedNamesAreDistinct
checked_names law set accepted none own =
    let names : HasJsonNames set = (law set).0 none in
    record {
      fields = λ b i j f g at_i at_j same.
          fields_distinct set accepted names b i j f g (of_its_node (node_of set b).fields (brand_at set b).field_types i f at_i) (of_its_node (node_of set b).fields (brand_at set b).field_types j g at_j) same;
      enumerants = enumerants_distinct set names own;
    }
