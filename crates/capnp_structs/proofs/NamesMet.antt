-- The names that were met, one brand after another, and whether a brand's own name finds it.
use Rattle.std.proofs.Common.{ℕ, suc, ◌+◌, ◌^◌, ◌<◌, ◌≤◌, List, [], ◌∷◌, ◌++◌, Bool, true, false, not, ◌&&◌, ◌==◌, cond, nat_lt, drop, length, Option, Some, None, bytes_eq, ◌≡◌, ◌∙◌, add-one, ap, arith, refl, rules, subst, sym}
use Rattle.std.specs.Bool.{if◌then◌else◌}
use Rattle.std.specs.Borrow.{Bor}
use Rattle.std.specs.HashMap.{HashMap, UpdatesBy}
use Rattle.std.specs.Map.{lookup}
use Rattle.std.specs.Option.{IfSome, is_none, is_some, option_or}
use Rattle.std.proofs.lemmas.Bool.{le-ltb}
use Rattle.std.proofs.lemmas.Bool.Decides.{nat_tests}
use Rattle.std.proofs.lemmas.Cmp.{nat_list_eq_equiv}
use Rattle.std.proofs.lemmas.List.{drop_more}
use Rattle.std.proofs.lemmas.Map.Text.{hash_map_updates_str}
use Rattle.std.proofs.lemmas.Slice.Eq.{bytes_eq-Decides}
use Rattle.capnp_schema.specs.ByName.{brand_among, brand_named, numbered_brand}
use Rattle.capnp_schema.specs.Schema.{Schemas, Brand, no_brand, node_of}
use Rattle.capnp_structs.specs.Names.{has_name, is_number, number_line, struct_line}
use Rattle.capnp_structs.specs.Steps.Names.{AreNamesBelow, IsNameMet, brand_met}

-- ---- numbers ----

chosen : {A : Type 0} (q : Bool) (x y : A) → q ≡ true → (if q then x else y) ≡ x
chosen q x y e = ap (λ z. if z then x else y) e

passed : {A : Type 0} (q : Bool) (x y : A) → q ≡ false → (if q then x else y) ≡ y
passed q x y e = ap (λ z. if z then x else y) e

-- a number of 32 bits finds itself, and none that differs
same_number : (i : ℕ) → (i == i) ≡ true
same_number i = grind (arith, nat_tests)

other_number : (b i : ℕ) → (b ≡ i → ⊥) → (b == i) ≡ false
other_number b i other = grind (arith, nat_tests)

itself : (i : ℕ) → i < 2 ^ 32 → is_number (numbered_brand (Some i)) i ≡ true
itself i few =
    let here : numbered_brand (Some i) ≡ Some i = search rules in
    ap (λ (o : Option ℕ). is_number o i) here ∙ same_number i

differs_by : (t : Bool) (b i : ℕ) → (b ≡ i → ⊥) → is_number (if t then Some b else None) i ≡ false
differs_by true b i other = other_number b i other
differs_by false b i other = refl

differs : (o : Option ℕ) (i : ℕ) → IfSome o (λ b. b ≡ i → ⊥) → is_number (numbered_brand o) i ≡ false
differs None i other = refl
differs (Some b) i other = differs_by (nat_lt b (2 ^ 32)) b i other

-- past 32 bits nothing is found
pub none_past : (set : Schemas) (i : ℕ) → 2 ^ 32 ≤ i → struct_line set i ≡ []
none_past set i past = ap (number_line set) (passed (nat_lt i (2 ^ 32)) (Some i) None (le-ltb i (2 ^ 32) past))

-- ---- brands from one on ----

abbrev is_called : Schemas → ℕ → List ℕ → Bool
is_called set b name = not (node_of set b).is_group && bytes_eq name (node_of set b).display_name

-- the brands from one on are that brand and those behind it
among_from : (set : Schemas) (i : ℕ) (q : List ℕ) → i < length set.brands →
    brand_among set (drop i set.brands) i q ≡ (if is_called set i q then Some i else brand_among set (drop (i + 1) set.brands) (i + 1) q)
among_from set i q inside =
    ap (λ (bs : List Brand). brand_among set bs i q) (drop_more set.brands i (no_brand set) inside)
    ∙ ap (λ (n : ℕ). if is_called set i q then Some i else brand_among set (drop (i + 1) set.brands) n q) (sym (add-one i))

-- what they find is none before them
least_by : (t : Bool) (i : ℕ) (o : Option ℕ) → IfSome o (λ b. suc i ≤ b) → IfSome (if t then Some i else o) (λ b. i ≤ b)
least_by true i o least = omega arith
least_by false i None least = tt
least_by false i (Some b) least = omega arith

least : (set : Schemas) (xs : List Brand) (i : ℕ) (q : List ℕ) → IfSome (brand_among set xs i q) (λ b. i ≤ b)
least set [] i q = tt
least set (x ∷ xs) i q = least_by (is_called set i q) i (brand_among set xs (suc i) q) (least set xs (suc i) q)

-- ---- one brand more ----

-- what was met stands below an index, and what is left behind it
apart : (o later : Option ℕ) (i : ℕ) → IfSome o (λ b. b < i) → IfSome later (λ b. i + 1 ≤ b) → IfSome (option_or o later) (λ b. b ≡ i → ⊥)
apart None None i below above = tt
apart None (Some b) i below above = λ e. omega arith
apart (Some b) later i below above = λ e. omega arith

still_below : (o : Option ℕ) (i : ℕ) → IfSome o (λ b. b < i) → IfSome o (λ b. b < i + 1)
still_below None i below = tt
still_below (Some b) i below = omega arith

one_below : (o : Option ℕ) (t : Bool) (i : ℕ) → IfSome o (λ b. b < i) → IfSome (option_or o (cond t (Some i) None)) (λ b. b < i + 1)
one_below None true i below = omega arith
one_below None false i below = tt
one_below (Some b) t i below = omega arith

one_found : (o later : Option ℕ) (t : Bool) (i : ℕ) → option_or o (if t then Some i else later) ≡ option_or (option_or o (cond t (Some i) None)) later
one_found None later true i = refl
one_found None later false i = refl
one_found (Some b) later t i = refl

-- ---- a group ----

pub group_unnamed : {S : Type 0} (set : Schemas) (i : ℕ) (met : HashMap (Bor (List ℕ)) ℕ S) → i < length set.brands → i < 2 ^ 32 → (node_of set i).is_group ≡ true → AreNamesBelow set i met →
    number_line set (Some i) ≡ []
group_unnamed set i met inside few group names =
    let name : List ℕ = (node_of set i).display_name in
    let none : is_called set i name ≡ false = ap (λ (g : Bool). not g && bytes_eq name name) group in
    let found = names.found name (omega (arith, few)) ∙ ap (option_or (brand_met met name)) (among_from set i name inside ∙ passed (is_called set i name) _ _ none) in
    let other = apart (brand_met met name) (brand_among set (drop (i + 1) set.brands) (i + 1) name) i (names.below name) (least set (drop (i + 1) set.brands) (i + 1) name) in
    ap (λ (t : Bool). cond t (name ++ 10 ∷ []) []) (ap (λ (o : Option ℕ). is_number (numbered_brand o) i) found ∙ differs (option_or (brand_met met name) (brand_among set (drop (i + 1) set.brands) (i + 1) name)) i other)

pub group_met : {S : Type 0} (set : Schemas) (i : ℕ) (met : HashMap (Bor (List ℕ)) ℕ S) → i < length set.brands → (node_of set i).is_group ≡ true → AreNamesBelow set i met → AreNamesBelow set (i + 1) met
group_met set i met inside group names = record {
  found = λ q few.
      let none : is_called set i q ≡ false = ap (λ (g : Bool). not g && bytes_eq q (node_of set i).display_name) group in
      names.found q (omega (arith, few)) ∙ ap (option_or (brand_met met q)) (among_from set i q inside ∙ passed (is_called set i q) _ _ none);
  below = λ q. still_below (brand_met met q) i (names.below q);
}

-- ---- a struct ----

pub struct_met : {S : Type 0} (set : Schemas) (i : ℕ) (met new : HashMap (Bor (List ℕ)) ℕ S) → i < length set.brands → (node_of set i).is_group ≡ false → AreNamesBelow set i met →
    IsNameMet i (node_of set i).display_name met new → AreNamesBelow set (i + 1) new
struct_met set i met new inside struct names one = record {
  found = λ q few.
      let t : Bool = bytes_eq q (node_of set i).display_name in
      let later : Option ℕ = brand_among set (drop (i + 1) set.brands) (i + 1) q in
      let called : is_called set i q ≡ t = ap (λ (g : Bool). not g && t) struct in
      names.found q (omega (arith, few))
      ∙ (ap (option_or (brand_met met q)) (among_from set i q inside ∙ ap (λ (c : Bool). if c then Some i else later) called)
      ∙ (one_found (brand_met met q) later t i ∙ ap (λ (o : Option ℕ). option_or o later) (sym (one q))));
  below = λ q.
      let t : Bool = bytes_eq q (node_of set i).display_name in
      subst (λ (o : Option ℕ). IfSome o (λ b. b < i + 1)) (sym (one q)) (one_below (brand_met met q) t i (names.below q));
}

-- its name finds it where it was not met before
first_by : (o later : Option ℕ) (i : ℕ) → i < 2 ^ 32 → IfSome o (λ b. b < i) → is_number (numbered_brand (option_or o (Some i))) i ≡ is_none o
first_by None later i few below = itself i few
first_by (Some b) later i few below = differs (Some b) i (λ e. omega arith)

named_itself : (set : Schemas) (i : ℕ) → (node_of set i).is_group ≡ false → is_called set i (node_of set i).display_name ≡ true
named_itself set i struct =
    let name : List ℕ = (node_of set i).display_name in
    ap (λ (g : Bool). not g && bytes_eq name name) struct ∙ (bytes_eq-Decides name name).1 refl

pub struct_named : {S : Type 0} (set : Schemas) (i : ℕ) (met : HashMap (Bor (List ℕ)) ℕ S) → i < length set.brands → i < 2 ^ 32 → (node_of set i).is_group ≡ false → AreNamesBelow set i met →
    has_name set i ≡ is_none (brand_met met (node_of set i).display_name)
struct_named set i met inside few struct names =
    let name : List ℕ = (node_of set i).display_name in
    let later : Option ℕ = brand_among set (drop (i + 1) set.brands) (i + 1) name in
    let found = names.found name (omega (arith, few)) ∙ ap (option_or (brand_met met name)) (among_from set i name inside ∙ chosen (is_called set i name) _ _ (named_itself set i struct)) in
    ap (λ (o : Option ℕ). is_number (numbered_brand o) i) found ∙ first_by (brand_met met name) later i few (names.below name)

pub line_of : {S : Type 0} (set : Schemas) (i : ℕ) (met : HashMap (Bor (List ℕ)) ℕ S) (first : Bool) → i < length set.brands → i < 2 ^ 32 → (node_of set i).is_group ≡ false → AreNamesBelow set i met →
    first ≡ is_none (brand_met met (node_of set i).display_name) → number_line set (Some i) ≡ cond first ((node_of set i).display_name ++ 10 ∷ []) []
line_of set i met first inside few struct names e =
    ap (λ (t : Bool). cond t ((node_of set i).display_name ++ 10 ∷ []) []) (struct_named set i met inside few struct names ∙ sym e)

-- ---- at the start, and past 32 bits ----

pub none_met : {S : Type 0} (set : Schemas) (met : HashMap (Bor (List ℕ)) ℕ S) → met.entries ≡ [] → AreNamesBelow set 0 met
none_met set met empty = record {
  found = λ q few. ap (λ (o : Option ℕ). option_or o (brand_named set q)) (sym (nothing q));
  below = λ q. subst (λ (o : Option ℕ). IfSome o (λ b. b < 0)) (sym (nothing q)) tt;
}
  where
    nothing : (q : List ℕ) → brand_met met q ≡ None
    nothing q = ap (λ es. lookup (λ k. bytes_eq q k.now) es) empty

pub past_met : {S : Type 0} (set : Schemas) (i : ℕ) (met : HashMap (Bor (List ℕ)) ℕ S) → 2 ^ 32 ≤ i → AreNamesBelow set i met → AreNamesBelow set (i + 1) met
past_met set i met past names = record {
  found = λ q few. absurd (omega (arith, past, few));
  below = λ q. still_below (brand_met met q) i (names.below q);
}

-- ---- one name more ----

none_by : (o : Option ℕ) → is_some o ≡ false → o ≡ None
none_by None e = refl
none_by (Some b) e = absurd (cc e)

or_none : (o : Option ℕ) → o ≡ option_or o None
or_none None = refl
or_none (Some b) = refl

module _ {S : Type 0} (met new : HashMap (Bor (List ℕ)) ℕ S) (b : ℕ) (name : List ℕ) where
  met_by : (q : List ℕ) (t : Bool) → bytes_eq name q ≡ t → is_some (brand_met met name) ≡ false → cond t (Some b) (brand_met met q) ≡ option_or (brand_met met q) (cond t (Some b) None)
  met_by q true e unmet =
      let same : name ≡ q = (bytes_eq-Decides name q).0 e in
      ap (λ (o : Option ℕ). option_or o (Some b)) (sym (ap (brand_met met) (sym same) ∙ none_by (brand_met met name) unmet))
  met_by q false e unmet = or_none (brand_met met q)

  pub name_met : UpdatesBy (λ (x y : Bor (List ℕ)). bytes_eq x.now y.now) (λ (k : Bor (List ℕ)). bytes_eq name k.now) met new (Some b) → is_some (brand_met met name) ≡ false → IsNameMet b name met new
  name_met put unmet = λ q.
      hash_map_updates_str name met new (Some b) put q
      ∙ (met_by q (bytes_eq name q) refl unmet ∙ ap (λ (t : Bool). option_or (brand_met met q) (cond t (Some b) None)) (nat_list_eq_equiv.symm name q))
