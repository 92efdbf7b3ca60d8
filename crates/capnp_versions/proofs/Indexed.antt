-- A table of the names of all brands.
use Rattle.std.proofs.Common.{ℕ, suc, ◌^◌, ◌<◌, ◌≤◌, List, [], ◌∷◌, Bool, true, false, not, ◌&&◌, cond, nat_lt, drop, length, Option, Some, None, bytes_eq, ◌≡◌, ◌∙◌, ⊎_elim, ap, arith, refl, subst, sym}
use Rattle.std.specs.Bool.{if◌then◌else◌}
use Rattle.std.specs.Borrow.{Bor}
use Rattle.std.specs.HashMap.{HashMap}
use Rattle.std.specs.Option.{IfSome, is_some, option_or}
use Rattle.std.proofs.lemmas.Bool.{cases_lt, le-ltb}
use Rattle.std.proofs.lemmas.Bool.Decides.{nat_tests}
use Rattle.std.proofs.lemmas.List.{drop_all}
use Rattle.std.proofs.lemmas.Slice.Eq.{bytes_eq-Decides}
use Rattle.capnp_schema.specs.ByName.{brand_among, numbered_brand}
use Rattle.capnp_schema.specs.Schema.{Brand, Node, Schemas, node_of}
use Rattle.capnp_schema.specs.StructHandles.{number_of, set_of, struct_node}
use Rattle.capnp_schema.specs.declared.schema.structs.StructSchema.{StructSchema}
use Rattle.capnp_structs.specs.Steps.Names.{AreNamesBelow, IsNameMet, brand_met}
use Rattle.capnp_versions.specs.Steps.Index.{AreAllNames}

-- the node of a brand's schema
pub node_here : (set : Schemas) (s : StructSchema) (b : ℕ) (n : Node) → n ≡ struct_node s → set_of s ≡ set → number_of s ≡ b → node_of set b ≡ n
node_here set s b n is of_set number = sym (is ∙ (ap (λ (z : Schemas). node_of z (number_of s)) of_set ∙ ap (node_of set) number))

-- ---- a name that was met before ----

some_stays : (o p : Option ℕ) → is_some o ≡ true → o ≡ option_or o p
some_stays None p e = absurd (cc e)
some_stays (Some b) p e = refl

none_more : (o : Option ℕ) → o ≡ option_or o None
none_more None = refl
none_more (Some b) = refl

pub met_before : {S : Type 0} (met : HashMap (Bor (List ℕ)) ℕ S) (b : ℕ) (name : List ℕ) → is_some (brand_met met name) ≡ true → IsNameMet b name met met
met_before met b name was = λ q. at q (bytes_eq q name) refl
  where
    at : (q : List ℕ) (t : Bool) → bytes_eq q name ≡ t → brand_met met q ≡ option_or (brand_met met q) (cond t (Some b) None)
    at q true e =
        let same : q ≡ name = (bytes_eq-Decides q name).0 e in
        some_stays (brand_met met q) (Some b) (ap (λ (x : List ℕ). is_some (brand_met met x)) same ∙ was)
    at q false e = none_more (brand_met met q)

-- ---- all names ----

-- what brands from one on find is none before them
least_by : (t : Bool) (i : ℕ) (o : Option ℕ) → IfSome o (λ b. suc i ≤ b) → IfSome (if t then Some i else o) (λ b. i ≤ b)
least_by true i o least = omega arith
least_by false i None least = tt
least_by false i (Some b) least = omega arith

least : (set : Schemas) (xs : List Brand) (i : ℕ) (q : List ℕ) → IfSome (brand_among set xs i q) (λ b. i ≤ b)
least set [] i q = tt
least set (x ∷ xs) i q = least_by (not (node_of set i).is_group && bytes_eq q (node_of set i).display_name) i (brand_among set xs (suc i) q) (least set xs (suc i) q)

-- a number of 32 bits that was met is found, and none past them
numbered : (o later : Option ℕ) → IfSome o (λ b. b < 2 ^ 32) → IfSome later (λ b. 2 ^ 32 ≤ b) → numbered_brand (option_or o later) ≡ o
numbered None None below past = refl
numbered None (Some b) below past = ap (λ (z : Bool). if z then Some b else None) (le-ltb b (2 ^ 32) past)
numbered (Some b) later below past = let few : nat_lt b (2 ^ 32) ≡ true = grind (arith, nat_tests, below) in ap (λ (z : Bool). if z then Some b else None) few

wider : (o : Option ℕ) (m n : ℕ) → m ≤ n → IfSome o (λ b. b < m) → IfSome o (λ b. b < n)
wider None m n le below = tt
wider (Some b) m n le below = omega (arith, le, below)

module _ {S : Type 0} (set : Schemas) (n : ℕ) (index : HashMap (Bor (List ℕ)) ℕ S) (names : AreNamesBelow set n index) (inside : n ≤ length set.brands) (few : n ≤ 2 ^ 32) (whole : n < 2 ^ 32 → n ≡ length set.brands) where
  -- what was not met has no number of 32 bits
  past : (q : List ℕ) → IfSome (brand_among set (drop n set.brands) n q) (λ b. 2 ^ 32 ≤ b)
  past q = ⊎_elim (λ lt. none (whole lt)) (λ le. most (omega (arith, le, few))) (cases_lt n (2 ^ 32))
    where
      none : n ≡ length set.brands → IfSome (brand_among set (drop n set.brands) n q) (λ b. 2 ^ 32 ≤ b)
      none e = subst (λ (bs : List Brand). IfSome (brand_among set bs n q) (λ b. 2 ^ 32 ≤ b)) (sym (drop_all n set.brands (omega (arith, e)))) tt

      most : n ≡ 2 ^ 32 → IfSome (brand_among set (drop n set.brands) n q) (λ b. 2 ^ 32 ≤ b)
      most e = subst (λ (m : ℕ). IfSome (brand_among set (drop n set.brands) n q) (λ b. m ≤ b)) e (least set (drop n set.brands) n q)

  pub all_named : AreAllNames set index
  all_named = record {
    found = λ q. sym (ap numbered_brand (names.found q few) ∙ numbered (brand_met index q) (brand_among set (drop n set.brands) n q) (wider (brand_met index q) n (2 ^ 32) few (names.below q)) (past q));
    inside = λ q. wider (brand_met index q) n (length set.brands) inside (names.below q);
  }

pub named_count : {S : Type 0} (set : Schemas) (m n : ℕ) (index : HashMap (Bor (List ℕ)) ℕ S) → m ≡ n → AreNamesBelow set m index → AreNamesBelow set n index
named_count set m n index e names = subst (λ (k : ℕ). AreNamesBelow set k index) e names
