-- The node, the brand and the fields of an entry, by their numbers.
use Rattle.std.proofs.Common.{ℕ, zero, suc, ◌+◌, ◌<◌, ◌≡◌, ◌∙◌, ap, arith, refl, subst, List, [], ◌∷◌, ◌++◌, length, slice_get, Some, Ok}
use Rattle.std.specs.Option.{unwrap_or}
use Rattle.std.proofs.lemmas.List.{length-append}
use Rattle.capnp_schema.specs.Schema.{Brand, Field, Node, Schemas, no_brand, no_node, node_of, typed_fields}
use Rattle.capnp_schema.specs.Types.{SchemaType}
use Rattle.capnp_request.specs.Terms.{FieldTerm, Said}
use Rattle.capnp_request.specs.Work.{Bound, Entry}
use Rattle.capnp_request_meaning.specs.Meaning.{AreFieldsFrom, AreNodesFrom, IsFieldOf, IsNodeOf, Numbers}
use Rattle.capnp_request_meaning.proofs.ListsFound.{same_some}

-- ---- an entry's node and brand ----

pub record MadeAt (k : Numbers) (ns : List Node) (bs : List Brand) (e : Entry) (i number : ℕ) : Type 0 where
  pub earlier : List Entry
  pub before : List Node
  pub node : Node
  pub brand : Brand
  pub numbered : slice_get ns i ≡ Some node
  pub branded : slice_get bs i ≡ Some brand
  pub count : length before ≡ number
  pub is : IsNodeOf k earlier before e node brand

made_from : (k : Numbers) (earlier : List Entry) (before : List Node) (es : List Entry) (ns : List Node) (bs : List Brand) (i : ℕ) (e : Entry) → AreNodesFrom k earlier before es ns bs → slice_get es i ≡ Some e → MadeAt k ns bs e i (length before + i)
made_from k earlier before (x ∷ es) (n ∷ ns) (b ∷ bs) zero e h there =
    record { earlier = earlier; before = before; node = n; brand = b; numbered = refl; branded = refl; count = omega arith; is = subst (λ y. IsNodeOf k earlier before y n b) (same_some there) h.0 }
made_from k earlier before (x ∷ es) (n ∷ ns) (b ∷ bs) (suc i) e h there =
    let rest : MadeAt k ns bs e i (length (before ++ n ∷ []) + i) = made_from k (earlier ++ x ∷ []) (before ++ n ∷ []) es ns bs i e h.1 there in
    let longer : length (before ++ n ∷ []) ≡ length before + 1 = length-append before (n ∷ []) in
    record { earlier = rest.earlier; before = rest.before; node = rest.node; brand = rest.brand; numbered = rest.numbered; branded = rest.branded; count = omega (arith, rest.count, longer); is = rest.is }
made_from k earlier before [] [] [] i e h there = absurd (cc)
made_from k earlier before es ns bs i e h there = absurd h

pub made_at : (k : Numbers) (es : List Entry) (ns : List Node) (bs : List Brand) (i : ℕ) (e : Entry) → AreNodesFrom k [] [] es ns bs → slice_get es i ≡ Some e → MadeAt k ns bs e i i
made_at k es ns bs i e h there =
    let made : MadeAt k ns bs e i (0 + i) = made_from k [] [] es ns bs i e h there in
    record { earlier = made.earlier; before = made.before; node = made.node; brand = made.brand; numbered = made.numbered; branded = made.branded; count = omega (arith, made.count); is = made.is }

pub brands_counted : (k : Numbers) (earlier : List Entry) (before : List Node) (es : List Entry) (ns : List Node) (bs : List Brand) → AreNodesFrom k earlier before es ns bs → length es ≡ length bs
brands_counted k earlier before [] [] [] h = refl
brands_counted k earlier before (e ∷ es) (n ∷ ns) (b ∷ bs) h = ap (λ i. suc i) (brands_counted k (earlier ++ e ∷ []) (before ++ n ∷ []) es ns bs h.1)
brands_counted k earlier before es ns bs h = absurd h

-- brand i is of node i
pub brand_node : (set : Schemas) (i : ℕ) (n : Node) (b : Brand) → slice_get set.brands i ≡ Some b → b.node ≡ i → slice_get set.nodes i ≡ Some n → node_of set i ≡ n
brand_node set i n b branded number numbered =
    ap (λ o. unwrap_or (slice_get set.nodes (unwrap_or o (no_brand set)).node) no_node) branded
    ∙ (ap (λ l. unwrap_or (slice_get set.nodes l) no_node) number ∙ ap (λ o. unwrap_or o no_node) numbered)

-- ---- fields ----

pub record FieldAt (k : Numbers) (inside : List Bound) (n i j : ℕ) (fs : List (Said FieldTerm)) (gs : List Field) (us : List SchemaType) : Type 0 where
  pub term : FieldTerm
  pub field : Field
  pub type : SchemaType
  pub types : List SchemaType
  pub said : slice_get fs j ≡ Some (Ok term)
  pub there : slice_get gs j ≡ Some field
  pub typed : slice_get us j ≡ Some type
  pub is : IsFieldOf k inside n (i + j) term field type types

field_number : (k : Numbers) (inside : List Bound) (n i j : ℕ) (f : FieldTerm) (g : Field) (u : SchemaType) (ts : List SchemaType) → IsFieldOf k inside n i f g u ts → i ≡ j → IsFieldOf k inside n j f g u ts
field_number k inside n i j f g u ts h e = subst (λ l. IsFieldOf k inside n l f g u ts) e h

module _ (k : Numbers) (inside : List Bound) (n : ℕ) where
  pub field_found : (i j : ℕ) (fs : List (Said FieldTerm)) (gs : List Field) (us : List SchemaType) (ts : List (List SchemaType)) → AreFieldsFrom k inside n i fs gs us ts → j < length gs → FieldAt k inside n i j fs gs us
  field_found i zero (Ok f ∷ fs) (g ∷ gs) (u ∷ us) (t ∷ ts) h less =
      record { term = f; field = g; type = u; types = t; said = refl; there = refl; typed = refl; is = field_number k inside n i (i + 0) f g u t h.0 (omega arith) }
  field_found i (suc j) (Ok f ∷ fs) (g ∷ gs) (u ∷ us) (t ∷ ts) h less =
      let rest : FieldAt k inside n (i + 1) j fs gs us = field_found (i + 1) j fs gs us ts h.1 (omega (arith, less)) in
      record { term = rest.term; field = rest.field; type = rest.type; types = rest.types; said = rest.said; there = rest.there; typed = rest.typed; is = field_number k inside n ((i + 1) + j) (i + suc j) rest.term rest.field rest.type rest.types rest.is (omega arith) }
  field_found i j [] [] [] [] h less = absurd (omega (arith, less))
  field_found i j fs gs us ts h less = absurd h

  pub fields_counted : (i : ℕ) (fs : List (Said FieldTerm)) (gs : List Field) (us : List SchemaType) (ts : List (List SchemaType)) → AreFieldsFrom k inside n i fs gs us ts → length fs ≡ length gs
  fields_counted i [] [] [] [] h = refl
  fields_counted i (Ok f ∷ fs) (g ∷ gs) (u ∷ us) (t ∷ ts) h = ap (λ l. suc l) (fields_counted (i + 1) fs gs us ts h.1)
  fields_counted i fs gs us ts h = absurd h

pub typed_at : (gs : List Field) (us : List SchemaType) (j : ℕ) (g : Field) (u : SchemaType) → slice_get gs j ≡ Some g → slice_get us j ≡ Some u → slice_get (typed_fields gs us) j ≡ Some (record { field = g; type = u })
typed_at [] us j g u a b = absurd (cc)
typed_at (x ∷ gs) [] j g u a b = absurd (cc)
typed_at (x ∷ gs) (y ∷ us) zero g u a b = ap (λ (f : Field). Some (record { field = f; type = y })) (same_some a) ∙ ap (λ (t : SchemaType). Some (record { field = g; type = t })) (same_some b)
typed_at (x ∷ gs) (y ∷ us) (suc j) g u a b = typed_at gs us j g u a b

pub typed_below : (gs : List Field) (us : List SchemaType) (j : ℕ) → j < length (typed_fields gs us) → j < length gs
typed_below [] us j h = absurd (omega (arith, h))
typed_below (x ∷ gs) [] j h = absurd (omega (arith, h))
typed_below (x ∷ gs) (y ∷ us) zero h = omega arith
typed_below (x ∷ gs) (y ∷ us) (suc j) h = let rest : j < length gs = typed_below gs us j (omega (arith, h)) in omega (arith, rest)
