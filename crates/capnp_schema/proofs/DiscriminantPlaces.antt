-- Where a brand's discriminant stands, by the plan of the member of value 0.
use Rattle.std.proofs.Common.{ℕ, zero, suc, ◌+◌, ◌*◌, ◌%◌, ◌<◌, ◌≤◌, ◌≡◌, refl, List, Bool, true, false, Option, Some, None, length, slice_get, IfSome, arith, ap, sym, subst, ◌∙◌, ⊎_elim}
use Rattle.std.specs.Option.{option_map, unwrap_or}
use Rattle.std.proofs.lemmas.Bool.{cases_lt}
use Rattle.std.proofs.lemmas.List.{length-map}
use Rattle.std.proofs.Math.Nat.{mul-mod_right}
use Rattle.std.proofs.lemmas.Option.{slice_get_past}
use Rattle.capnp_schema.specs.Accepted.{DiscriminantFits, HasEachMember, IsAccepted}
use Rattle.capnp_schema.specs.Discriminant.{discriminant_of, first_bit}
use Rattle.capnp_schema.specs.Facts.Fields.{brand_there, member_counted, of_node, typed_field}
use Rattle.capnp_schema.specs.Plan.{member_plan, plan_of}
use Rattle.capnp_schema.specs.Query.{is_member_of, member_of, records_of}
use Rattle.capnp_schema.specs.Schema.{Brand, Field, Node, Schemas, TypedField, brand_at, field_at, fields_of, is_member, no_brand, no_node, node_at, node_of}
use Rattle.capnp_schema.proofs.LookUps.{records_inside}
use Rattle.capnp_schema.proofs.MemberTables.{field_of, found_first, is_of, of_value}
use Rattle.capnp_schema.proofs.StructLookUps.{position_inside}

-- where a union has members, one of them has value 0
first_of : (n : Node) → HasEachMember n → 0 < n.discriminant_count → (k : ℕ) × (f : Field) × (slice_get n.fields k ≡ Some f) × (is_member f ≡ true) × (member_of n.fields 0 ≡ Some k)
first_of n each counted =
    let (k, f, here, same) = field_of n each 0 counted in
    let is : is_member_of 0 f ≡ true = of_value 0 f same (omega arith) in (
      k,
      f,
      here,
      (is_of 0 f is).0,
      found_first (is_member_of 0) n.fields k f here is (λ j g less there test. let j_is : j ≡ k = each.apart.once j k g f there here (is_of 0 g test).0 ((is_of 0 g test).1 ∙ sym same) in omega arith),
    )

module _ (set : Schemas) (accepted : IsAccepted set) (b : ℕ) where
  -- a brand whose node has members is there
  brand_counted : (m : ℕ) → (node_of set b).discriminant_count ≡ suc m → b < length set.brands
  brand_counted m e = ⊎_elim (λ inside. inside) (λ past. absurd (none past)) (cases_lt b (length set.brands))
    where
      none : length set.brands ≤ b → ⊥
      none past =
          let gone : brand_at set b ≡ no_brand set = ap (λ (o : Option Brand). unwrap_or o (no_brand set)) (slice_get_past set.brands b past) in
          let empty : node_of set b ≡ no_node = ap (λ (x : Brand). node_at set x.node) gone ∙ ap (λ (o : Option Node). unwrap_or o no_node) (slice_get_past set.nodes (length set.nodes) (omega arith)) in
          let count = ap (λ (n : Node). n.discriminant_count) empty in
          omega (arith, count, e)

  first_member : (m : ℕ) → (node_of set b).discriminant_count ≡ suc m → (k : ℕ) × (f : Field) × (slice_get (node_of set b).fields k ≡ Some f) × (is_member f ≡ true) × (member_of (records_of set b) 0 ≡ Some k)
  first_member m e =
      let b_in : b < length set.brands = brand_counted m e in
      let (k, f, here, member, is) = first_of (node_of set b) (of_node set accepted HasEachMember accepted.rule9 b b_in) (omega (arith, e)) in
      (k, f, here, member, ap (λ (fs : List Field). member_of fs 0) (records_inside set accepted b b_in) ∙ is)

  first_is_member : (m i : ℕ) → (node_of set b).discriminant_count ≡ suc m → Some i ≡ member_of (records_of set b) 0 → i < length (fields_of set b) → is_member (field_at set b i).field ≡ true
  first_is_member m i e found inside =
      let (k, f, here, member, is) = first_member m e in
      let same : Some i ≡ Some k = found ∙ is in
      let k_is : k ≡ i = cc in
      let field : Some f ≡ Some (field_at set b i).field = sym here ∙ (ap (slice_get (node_of set b).fields) k_is ∙ typed_field (node_of set b).fields (brand_at set b).field_types i inside) in
      let f_is : f ≡ (field_at set b i).field = cc in
      ap is_member (sym f_is) ∙ member

  none_first : (m : ℕ) → (node_of set b).discriminant_count ≡ suc m → None ≡ member_of (records_of set b) 0 → ⊥
  none_first m e found =
      let (k, f, here, member, is) = first_member m e in
      let same : None ≡ Some k = found ∙ is in
      cc

  by_count : (c : ℕ) → (node_of set b).discriminant_count ≡ c → discriminant_of (node_of set b) ≡ first_bit c (node_of set b).discriminant_offset
  by_count c e = ap (λ c. first_bit c (node_of set b).discriminant_offset) e

  -- without a member of value 0 there is no union
  pub no_union : None ≡ member_of (records_of set b) 0 → None ≡ discriminant_of (node_of set b)
  no_union found = go (node_of set b).discriminant_count refl
    where
      go : (c : ℕ) → (node_of set b).discriminant_count ≡ c → None ≡ discriminant_of (node_of set b)
      go zero e = sym (by_count zero e)
      go (suc m) e = absurd (none_first m e found)

  -- and its plan has the discriminant's place
  pub first_place : (i : ℕ) → Some i ≡ member_of (records_of set b) 0 → (o : Option (ℕ × ℕ)) → o ≡ (plan_of set b (field_at set b i)).member → option_map (λ (m : ℕ × ℕ). m.0) o ≡ discriminant_of (node_of set b)
  first_place i found o is = ap (option_map (λ (m : ℕ × ℕ). m.0)) is ∙ go (node_of set b).discriminant_count refl
    where
      n : Node
      n = node_of set b

      inside : i < length (fields_of set b)
      inside = let within = position_inside (is_member_of 0) (records_of set b) i found in omega (arith, within, length-map (fields_of set b) (λ (f : TypedField). f.field))

      at : Bool → Option ℕ
      at q = option_map (λ (m : ℕ × ℕ). m.0) (member_plan q (node_of set b) (field_at set b i).field)

      none : (q : Bool) → is_member (field_at set b i).field ≡ q → (node_of set b).discriminant_count ≡ zero → at (is_member (field_at set b i).field) ≡ None
      none true q e = let counted = member_counted set accepted b i (brand_there set b i inside) inside q in absurd (omega (arith, counted, e))
      none false q e = ap at q

      go : (c : ℕ) → (node_of set b).discriminant_count ≡ c → at (is_member (field_at set b i).field) ≡ discriminant_of (node_of set b)
      go zero e = none (is_member (field_at set b i).field) refl e ∙ sym (by_count zero e)
      go (suc m) e = ap at (first_is_member m i e found inside) ∙ sym (by_count (suc m) e)

  -- it lies inside the data section
  pub discriminant_inside : (o : Option ℕ) → o ≡ discriminant_of (node_of set b) → IfSome o (λ first. first + 16 ≤ 64 * (node_of set b).data_word_count)
  discriminant_inside o is = subst Inside (sym is) (go (node_of set b).discriminant_count refl)
    where
      Inside : Option ℕ → Type 0
      Inside o = IfSome o (λ first. first + 16 ≤ 64 * (node_of set b).data_word_count)

      go : (c : ℕ) → (node_of set b).discriminant_count ≡ c → Inside (discriminant_of (node_of set b))
      go zero e = subst Inside (sym (by_count zero e)) tt
      go (suc m) e =
          let lies = of_node set accepted DiscriminantFits accepted.rule10 b (brand_counted m e) (omega (arith, e)) in
          subst Inside (sym (by_count (suc m) e)) (omega (arith, lies))

-- and starts at a whole number of 16 bits
pub discriminant_aligned : (n : Node) (o : Option ℕ) → o ≡ discriminant_of n → IfSome o (λ first. first % 16 ≡ 0)
discriminant_aligned n o is = subst (λ (o : Option ℕ). IfSome o (λ first. first % 16 ≡ 0)) (sym is) (go n.discriminant_count n.discriminant_offset)
  where
    go : (c offset : ℕ) → IfSome (first_bit c offset) (λ first. first % 16 ≡ 0)
    go zero offset = tt
    go (suc m) offset = mul-mod_right 16 offset
