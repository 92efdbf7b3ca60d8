-- A request that passes a bound is not converted: in the set that it would be converted to, no such bound is passed.
use Rattle.std.proofs.Common.{ℕ, zero, suc, ◌+◌, ◌<◌, ◌≤◌, ◌≡◌, ◌∙◌, ◌⊎◌, ◌==◌, ap, arith, inl, inr, refl, subst, sym, Bool, true, false, List, [], ◌∷◌, ◌++◌, length, map, slice_get, Some, None, Ok}
use Rattle.std.proofs.lemmas.Bool.{cases_order, eq-eqb}
use Rattle.std.proofs.lemmas.List.{length-append, length-map}
use Rattle.std.proofs.lemmas.Option.{slice_get_within}
use Rattle.capnp_schema.specs.Schema.{Enum, Schemas}
use Rattle.capnp_schema.specs.Types.{SchemaType}
use Rattle.capnp_request.specs.Names.{dotted_of}
use Rattle.capnp_request.specs.Scopes.{node_named}
use Rattle.capnp_request.specs.Terms.{EnumTerm, ListTerm, RequestTerm, Said, SchemaNode, StructTerm}
use Rattle.capnp_request.specs.Types.{bound_count, enum_position, lists_in, number_where}
use Rattle.capnp_request.specs.Work.{Bound, Entry, GroupOf, MarkedType, Place, Whole}
use Rattle.capnp_request_meaning.specs.Laws.{BoundsAreRefused}
use Rattle.capnp_request_meaning.specs.Meaning.{EnumAt, EntryAt, IsBoundBy, IsEnumOf, IsSetOf, IsTypeOf, Numbers, numbers_in, without_types}
use Rattle.capnp_request_meaning.specs.Passed.{AreLed, DeepLists, IsBoundMuch, IsCertain, IsEnumNameLong, IsNestedDeep, IsPassed, LongEnumName, LongName, ManyBound, ManyEntries, ManyEnums, IsEnumMore, numbers_of}
use Rattle.capnp_request_meaning.specs.Plain.{AreNodesPlain}
use Rattle.capnp_request_meaning.proofs.EntriesMatched.{AreBeside, ArePaired, BothGroups, BothWhole, IsMatched, SameEntry, StandsThere, enum_of_number, matched, paired, stands_there}
use Rattle.capnp_request_meaning.proofs.GroupsOnce.{group_is_one}
use Rattle.capnp_request_meaning.proofs.ListsFound.{before_or_last, same_some, there_below}
use Rattle.capnp_request_meaning.proofs.SetsMeant.{IsFirstOf, reached_first, set_meant}
use Rattle.capnp_request_meaning.proofs.TermsMatched.{bounds_counted, bounds_same, brand_same, scopes_at, type_same}
use Rattle.capnp_request_meaning.proofs.TypesMatched.{SameBounds, SameEnums, SameKinds, SameMarked, SameStructs, SameType, bounds_back, one_bound, whole_is_one}

-- ---- as many at least ----

abbrev IsNotIn : ℕ → List ℕ → Type 0
IsNotIn x [] = Unit {0}
IsNotIn x (y ∷ ys) = (x ≡ y → ⊥) × IsNotIn x ys

abbrev AreApart : List ℕ → Type 0
AreApart [] = Unit {0}
AreApart (x ∷ xs) = IsNotIn x xs × AreApart xs

abbrev AllBelow : ℕ → List ℕ → Type 0
AllBelow n [] = Unit {0}
AllBelow n (x ∷ xs) = (x < n) × AllBelow n xs

-- those below the last number
record Fewer (n : ℕ) (xs : List ℕ) : Type 0 where
  numbers : List ℕ
  apart : AreApart numbers
  below : AllBelow n numbers
  among : (z : ℕ) → IsNotIn z xs → IsNotIn z numbers
  count : length xs ≤ suc (length numbers)

below_last : (n : ℕ) (xs : List ℕ) → IsNotIn n xs → AllBelow (suc n) xs → AllBelow n xs
below_last n [] not below = tt
below_last n (x ∷ xs) not below = (go (cases_order x n), below_last n xs not.1 below.1)
  where
    go : (x ≡ n) ⊎ ((x < n) ⊎ (n < x)) → x < n
    go (inl e) = absurd (not.0 (sym e))
    go (inr (inl less)) = less
    go (inr (inr more)) = absurd (omega (arith, more, below.0))

fewer : (n : ℕ) (xs : List ℕ) → AreApart xs → AllBelow (suc n) xs → Fewer n xs
fewer n [] apart below = record { numbers = []; apart = tt; below = tt; among = λ z h. tt; count = omega arith }
fewer n (x ∷ xs) apart below = go (cases_order x n) (fewer n xs apart.1 below.1)
  where
    with_first : x < n → Fewer n xs → Fewer n (x ∷ xs)
    with_first less rest = record { numbers = x ∷ rest.numbers; apart = (rest.among x apart.0, rest.apart); below = (less, rest.below); among = λ z h. (h.0, rest.among z h.1); count = omega (arith, rest.count) }

    go : (x ≡ n) ⊎ ((x < n) ⊎ (n < x)) → Fewer n xs → Fewer n (x ∷ xs)
    go (inl e) rest = record { numbers = xs; apart = apart.1; below = below_last n xs (subst (λ y. IsNotIn y xs) e apart.0) below.1; among = λ z h. h.1; count = omega arith }
    go (inr (inl less)) rest = with_first less rest
    go (inr (inr more)) rest = absurd (omega (arith, more, below.0))

apart_fit : (n : ℕ) (xs : List ℕ) → AreApart xs → AllBelow n xs → length xs ≤ n
apart_fit zero [] apart below = omega arith
apart_fit zero (x ∷ xs) apart below = absurd (omega (arith, below.0))
apart_fit (suc n) xs apart below = let f : Fewer n xs = fewer n xs apart below in let rest : length f.numbers ≤ n = apart_fit n f.numbers f.apart f.below in omega (arith, f.count, rest)

-- numbers that stand for others, no two for one
module _ (R : ℕ → ℕ → Type 0) (one : (i j y : ℕ) → R i y → R j y → i ≡ j) (bound : ℕ) where
  record Images (i count : ℕ) : Type 0 where
    numbers : List ℕ
    counted : length numbers ≡ count
    apart : AreApart numbers
    below : AllBelow bound numbers
    none : (j : ℕ) (y : ℕ) → j < i → R j y → IsNotIn y numbers

  images : (count i : ℕ) → ((j : ℕ) → j < count → (y : ℕ) × R (i + j) y × (y < bound)) → Images i count
  images zero i h = record { numbers = []; counted = refl; apart = tt; below = tt; none = λ j y less is. tt }
  images (suc count) i h =
      let first : (y : ℕ) × R (i + 0) y × (y < bound) = h 0 (omega arith) in
      let start : i + 0 ≡ i = omega arith in
      let here : R i first.0 = subst (λ x. R x first.0) start first.1 in
      let rest : Images (suc i) count = images count (suc i) (λ j less. let next : (y : ℕ) × R (i + suc j) y × (y < bound) = h (suc j) (omega (arith, less)) in let same : i + suc j ≡ suc i + j = omega arith in (next.0, subst (λ x. R x next.0) same next.1, next.2)) in
      record {
        numbers = first.0 ∷ rest.numbers;
        counted = ap (λ n. suc n) rest.counted;
        apart = (rest.none i first.0 (omega arith) here, rest.apart);
        below = (first.2, rest.below);
        none = λ j y less is. (λ e. let same : j ≡ i = one j i y is (subst (λ x. R i x) (sym e) here) in omega (arith, less, same), rest.none j y (omega (arith, less)) is);
      }

  all_fit : (count : ℕ) → ((j : ℕ) → j < count → (y : ℕ) × R j y × (y < bound)) → count ≤ bound
  all_fit count h =
      let all : Images 0 count = images count 0 (λ j less. let start : j ≡ 0 + j = omega arith in let next : (y : ℕ) × R j y × (y < bound) = h j less in (next.0, subst (λ x. R x next.0) start next.1, next.2)) in
      let fit : length all.numbers ≤ bound = apart_fit bound all.numbers all.apart all.below in
      omega (arith, fit, all.counted)

-- ---- one entry for each ----

place_of : (k : Numbers) (i p l : ℕ) (e f : Entry) → slice_get k.entries i ≡ Some e → slice_get k.entries i ≡ Some f → e.place ≡ GroupOf p l → f.place ≡ Whole → ⊥
place_of k i p l e f a b group whole = let h : GroupOf p l ≡ Whole = sym group ∙ (ap (λ (x : Entry). x.place) (same_some (sym a ∙ b)) ∙ whole) in absurd (cc)

abbrev parent_in : Place → ℕ
parent_in Whole = 0
parent_in (GroupOf p l) = p

abbrev field_in : Place → ℕ
field_in Whole = 0
field_in (GroupOf p l) = l

module _ (r : RequestTerm) (k l : Numbers) (led : AreLed r k) where
  one_entry : (a c b : ℕ) → SameEntry k l a b → SameEntry k l c b → a ≡ c
  one_entry a c b (BothWhole a2 b2 e f here there whole other node bound) (BothWhole c2 b3 e2 f2 here2 there2 whole2 other2 node2 bound2) =
      let same : f2 ≡ f = same_some (sym there2 ∙ there) in
      let back : SameBounds l k f.bound e.bound = bounds_back k l e.bound f.bound bound in
      let back2 : SameBounds l k f.bound e2.bound = bounds_back k l e2.bound f.bound (subst (λ (x : Entry). SameBounds k l e2.bound x.bound) same bound2) in
      let nodes : e.node ≡ e2.node = node ∙ (ap (λ (x : Entry). x.node) (sym same) ∙ sym node2) in
      whole_is_one k.entries led.distinct a c e e2 here here2 whole whole2 nodes (one_bound l k led.distinct led.distinct_enums f.bound e.bound e2.bound back back2)
  one_entry a c b (BothWhole a2 b2 e f here there whole other node bound) (BothGroups c2 b3 p q i e2 f2 here2 there2 place place2 node2 bound2 parents) = absurd (place_of l b q i f2 f there2 there place2 other)
  one_entry a c b (BothGroups a2 b2 p q i e f here there place place2 node bound parents) (BothWhole c2 b3 e2 f2 here2 there2 whole2 other2 node2 bound2) = absurd (place_of l b q i f f2 there there2 place2 other2)
  one_entry a c b (BothGroups a2 b2 p q i e f here there place place2 node bound parents) (BothGroups c2 b3 p3 q3 i3 e3 f3 here3 there3 place3 place4 node3 bound3 parents3) =
      let same : f3 ≡ f = same_some (sym there3 ∙ there) in
      let places : GroupOf q3 i3 ≡ GroupOf q i = sym place4 ∙ (ap (λ (x : Entry). x.place) same ∙ place2) in
      let parent : p ≡ p3 = one_entry p p3 q parents (subst (λ x. SameEntry k l p3 x) (ap parent_in places) parents3) in
      let index : i3 ≡ i = ap field_in places in
      group_is_one k.entries led.distinct_groups a c p i e e3 here here3 place (place3 ∙ (ap (λ x. GroupOf x i3) (sym parent) ∙ ap (λ x. GroupOf p x) index))

lists_alike : (k l : Numbers) (t u : MarkedType) → SameMarked k l t u → lists_in t.type ≡ lists_in u.type
lists_alike k l t u h = go t.type u.type h.type
  where
    go : (x y : SchemaType) → SameType k l x y → lists_in x ≡ lists_in y
    go x y (SameKinds x2 y2 lists kinds no_struct no_enum) = lists
    go x y (SameEnums x2 y2 id lists first second a b) = lists
    go x y (SameStructs x2 y2 e f lists first second a b node whole other bound) = lists

same_scopes : {xs ys : List Bound} → ◌≡◌ {A = Said (List Bound)} (Ok xs) (Ok ys) → xs ≡ ys
same_scopes e = cc

same_ok : {xs ys : List ℕ} → ◌≡◌ {A = Said (List ℕ)} (Ok xs) (Ok ys) → xs ≡ ys
same_ok e = cc

-- an id without a number is none of these
not_numbered : (ids : List ℕ) (id k i : ℕ) → enum_position ids id k ≡ None → slice_get ids i ≡ Some id → ⊥
not_numbered [] id k i none there = absurd (cc)
not_numbered (x ∷ ids) id k zero none there = go (x == id) (eq-eqb x id (same_some there)) none
  where
    go : (q : Bool) → q ≡ true → number_where q k (enum_position ids id (k + 1)) ≡ None → ⊥
    go true e h = absurd (cc)
    go false e h = absurd (cc)
not_numbered (x ∷ ids) id k (suc i) none there = go (x == id) (not_numbered ids id (k + 1) i) none
  where
    go : (q : Bool) → (enum_position ids id (k + 1) ≡ None → slice_get ids i ≡ Some id → ⊥) → number_where q k (enum_position ids id (k + 1)) ≡ None → ⊥
    go true rest h = absurd (cc)
    go false rest h = rest h there

-- ---- bounds ----

module _ (r : RequestTerm) (strict : Bool) (set : Schemas) (entries : List Entry) (enums : List ℕ) (beside : AreBeside r strict set entries enums) where
  abbrev is : IsSetOf r strict set
  is = beside.is

  abbrev led : AreLed r (numbers_of r strict entries enums)
  led = beside.led

  abbrev k : Numbers
  k = numbers_of r strict entries enums

  abbrev l : Numbers
  l = numbers_in r strict is.entries set

  entry_image : (a : ℕ) → a < length entries → (b : ℕ) × SameEntry k l a b × (b < length is.entries)
  entry_image a less = go (matched r strict set entries enums beside (EntryAt a) (led.reached a here.0 here.1))
    where
      here : (e : Entry) × (slice_get entries a ≡ Some e)
      here = there_below entries a less

      go : IsMatched k l (EntryAt a) → (b : ℕ) × SameEntry k l a b × (b < length is.entries)
      go (EntryAt b, h) = let p : ArePaired k l a b = paired k l a b h in (b, h, slice_get_within is.entries b p.two p.other)
      go (EnumAt b, h) = absurd h

  never_many_entries : 65536 < length entries → ⊥
  never_many_entries many =
      let fit : length entries ≤ length is.entries = all_fit (SameEntry k l) (one_entry r k l led) (length is.entries) (length entries) entry_image in
      omega (arith, many, fit, is.few)

  -- as many enums, and one more, are among those of the set
  module _ (h : IsEnumMore r k) where
    abbrev more : List ℕ
    more = enums ++ h.id ∷ []

    abbrev IsOfId : ℕ → ℕ → Type 0
    IsOfId a b = (id : ℕ) × (slice_get more a ≡ Some id) × (slice_get l.enums b ≡ Some id)

    more_once : (i j id : ℕ) → slice_get more i ≡ Some id → slice_get more j ≡ Some id → i ≡ j
    more_once i j id a b = go (before_or_last enums h.id i id a) (before_or_last enums h.id j id b)
      where
        go : (slice_get enums i ≡ Some id) ⊎ ((i ≡ length enums) × (h.id ≡ id)) → (slice_get enums j ≡ Some id) ⊎ ((j ≡ length enums) × (h.id ≡ id)) → i ≡ j
        go (inl x) (inl y) = led.distinct_enums i j id x y
        go (inl x) (inr y) = absurd (not_numbered enums h.id 0 i h.more (x ∙ ap (λ z. Some z) (sym y.1)))
        go (inr x) (inl y) = absurd (not_numbered enums h.id 0 j h.more (y ∙ ap (λ z. Some z) (sym x.1)))
        go (inr x) (inr y) = x.0 ∙ sym y.0

    one_enum : (i j b : ℕ) → IsOfId i b → IsOfId j b → i ≡ j
    one_enum i j b x y = let same : x.0 ≡ y.0 = same_some (sym x.2 ∙ y.2) in more_once i j y.0 (x.1 ∙ ap (λ z. Some z) same) y.1

    last_image : (b : ℕ) × (slice_get l.enums b ≡ Some h.id)
    last_image =
        let there : StandsThere r strict set entries enums beside h.inside (EnumTerm h.id) = stands_there r strict set entries enums beside h.inside (EnumTerm h.id) h.stands in
        (there.type.1.0, there.type.1.2)

    enum_image : (a id : ℕ) → slice_get enums a ≡ Some id → (b : ℕ) × (slice_get l.enums b ≡ Some id)
    enum_image a id here = go (matched r strict set entries enums beside (EnumAt a) (led.reached_enums a id here))
      where
        go : IsMatched k l (EnumAt a) → (b : ℕ) × (slice_get l.enums b ≡ Some id)
        go (EntryAt b, m) = absurd m
        go (EnumAt b, m) = (b, m.2 ∙ (sym m.1 ∙ here))

    more_image : (a : ℕ) → a < length more → (b : ℕ) × IsOfId a b × (b < length l.enums)
    more_image a less = go (before_or_last enums h.id a here.0 here.1)
      where
        here : (id : ℕ) × (slice_get more a ≡ Some id)
        here = there_below more a less

        go : (slice_get enums a ≡ Some here.0) ⊎ ((a ≡ length enums) × (h.id ≡ here.0)) → (b : ℕ) × IsOfId a b × (b < length l.enums)
        go (inl old) = let image : (b : ℕ) × (slice_get l.enums b ≡ Some here.0) = enum_image a here.0 old in (image.0, (here.0, here.1, image.1), slice_get_within l.enums image.0 here.0 image.1)
        go (inr new) = let at : slice_get l.enums last_image.0 ≡ Some here.0 = last_image.1 ∙ ap (λ z. Some z) new.1 in (last_image.0, (here.0, here.1, at), slice_get_within l.enums last_image.0 here.0 at)

    never_more_enums : ⊥
    never_more_enums =
        let fit : length more ≤ length l.enums = all_fit IsOfId one_enum (length l.enums) (length more) more_image in
        let longer : length more ≡ length enums + 1 = length-append enums (h.id ∷ []) in
        let count : length l.enums ≡ length set.enums = length-map set.enums (λ (e : Enum). e.id) in
        let many : 4294967295 ≤ length enums = h.many in
        let e : (x : Enum) × (slice_get set.enums 4294967295 ≡ Some x) = there_below set.enums 4294967295 (omega (arith, fit, longer, count, many)) in
        let first : IsFirstOf l 4294967295 = reached_first r l (EnumAt 4294967295) (is.reached_enums 4294967295 e.0 e.1) in
        omega (arith, first.few)

  never_bound_much : IsBoundMuch r k → ⊥
  never_bound_much h =
      let there : StandsThere r strict set entries enums beside h.inside (StructTerm h.id h.brand) = stands_there r strict set entries enums beside h.inside (StructTerm h.id h.brand) h.stands in
      let type : IsTypeOf l there.outside (StructTerm h.id h.brand) there.type.0 = there.type.1 in
      let shapes : map without_types h.bound ≡ map without_types type.2 = same_scopes (sym h.scopes ∙ scopes_at r.nodes l is.bound h.id type.2 type.0 type.3) in
      let same : SameBounds k l h.bound type.2 = bounds_same k l (IsBoundBy k h.inside h.brand) (IsBoundBy l there.outside h.brand) (brand_same r.nodes k l led.bound is.bound h.inside there.outside there.same h.brand there.plain_inner) h.bound type.2 shapes h.binds type.4 in
      let count : bound_count h.bound ≡ bound_count type.2 = bounds_counted k l h.bound type.2 same in
      let few : bound_count type.2 ≤ 1024 = type.5 in
      omega (arith, count, few, h.many)

  never_deep : IsNestedDeep r k → ⊥
  never_deep h =
      let there : StandsThere r strict set entries enums beside h.inside (ListTerm h.element) = stands_there r strict set entries enums beside h.inside (ListTerm h.element) h.stands in
      let type : IsTypeOf l there.outside (ListTerm h.element) there.type.0 = there.type.1 in
      let same : SameMarked k l h.type type.0 = type_same r.nodes k l led.bound is.bound h.inside there.outside there.same h.element there.plain_inner h.type type.0 h.is type.2 in
      let lists : lists_in h.type.type ≡ lists_in type.0.type = lists_alike k l h.type type.0 same in
      let few : lists_in type.0.type < 18446744073709551615 = type.3 in
      omega (arith, lists, few, h.deep)

  never_long_enum : IsEnumNameLong k → ⊥
  never_long_enum h = go (matched r strict set entries enums beside (EnumAt h.number) (led.reached_enums h.number h.id h.numbered))
    where
      go : IsMatched k l (EnumAt h.number) → ⊥
      go (EntryAt b, m) = absurd m
      go (EnumAt b, m) =
          let id : h.id ≡ m.0 = same_some (sym h.numbered ∙ m.1) in
          let e : (x : Enum) × (x.id ≡ m.0) × IsEnumOf l x = enum_of_number l set.enums b m.0 is.enums m.2 in
          let node : h.is.node ≡ e.2.node = same_some (sym h.is.first ∙ (ap (λ x. node_named r.nodes x) (id ∙ sym e.1) ∙ e.2.first)) in
          let display : h.is.display ≡ e.2.display = same_ok (sym h.is.said ∙ (ap (λ (n : SchemaNode). n.display_name) node ∙ e.2.said)) in
          let name : h.name ≡ e.0.display_name = h.is.is ∙ (ap dotted_of display ∙ sym e.2.name) in
          let count : length h.name ≡ length e.0.display_name = ap (λ xs. length xs) name in
          omega (arith, count, e.2.short, h.long)

never_passed : (r : RequestTerm) (strict : Bool) (set : Schemas) → IsSetOf r strict set → AreNodesPlain r.nodes → (p : IsPassed r strict) → IsCertain r strict p → ⊥
never_passed r strict set is are_plain (ManyEntries entries enums led many) certain = never_many_entries r strict set entries enums (record { is = is; are_plain = are_plain; led = led }) many
never_passed r strict set is are_plain (ManyBound entries enums led much) certain = never_bound_much r strict set entries enums (record { is = is; are_plain = are_plain; led = led }) much
never_passed r strict set is are_plain (ManyEnums entries enums led more) certain = never_more_enums r strict set entries enums (record { is = is; are_plain = are_plain; led = led }) more
never_passed r strict set is are_plain (LongName entries enums led long) certain = certain
never_passed r strict set is are_plain (LongEnumName entries enums led long) certain = never_long_enum r strict set entries enums (record { is = is; are_plain = are_plain; led = led }) long
never_passed r strict set is are_plain (DeepLists entries enums led deep) certain = never_deep r strict set entries enums (record { is = is; are_plain = are_plain; led = led }) deep

pub bounds_refused : BoundsAreRefused
bounds_refused r strict are_plain passed certain set notes e = never_passed r strict set (set_meant r strict set notes e) are_plain passed certain
