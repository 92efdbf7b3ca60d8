-- Brands and their nodes by numbers.
use Rattle.std.proofs.Common.{ℕ, ◌≡◌, ◌<◌, length, slice_get, Option, Some, None, refl, sym, ap, ◌∙◌, subst, arith}
use Rattle.std.specs.Option.{option_map, unwrap_or}
use Rattle.std.proofs.lemmas.Option.{slice_get-get_or}
use Rattle.capnp_schema.specs.Schema.{Schemas, Brand, Node, brand_at, no_brand, no_node, node_of}
use Rattle.capnp_schema.specs.Entries.{lists_seen}
use Rattle.capnp_schema.specs.Steps.Entries.{brand_node}
use Rattle.capnp_schema.specs.Accepted.{IsAccepted, DiscriminantFits}
use Rattle.capnp_schema.specs.StructHandles.{IsStruct, generic_at, number_of, set_of}
use Rattle.capnp_schema.specs.declared.schema.structs.StructSchema.{StructSchema}
use Rattle.capnp_schema.specs.declared.lists.Lists.{Lists}
use Rattle.capnp_schema.proofs.EntryWalk.{at_node}
use Rattle.capnp_schema.proofs.FoundEntries.{found_node}
use Rattle.capnp_schema.proofs.GroupTargets.{node_missing}
use Rattle.capnp_schema.proofs.LookUps.{records_inside}

-- ---- a node that is looked up in the lists of a set ----

pub node_found_seen : (lists set : Lists) (b : ℕ) (n : Node) → lists ≡ set → Some n ≡ brand_node (lists_seen lists) b → n ≡ node_of (lists_seen set) b
node_found_seen lists set b n same is = sym (found_node (lists_seen lists) b n is) ∙ ap (λ (l : Lists). node_of (lists_seen l) b) same

pub node_missing_seen : (lists set : Lists) (b : ℕ) (n : Node) → lists ≡ set → None ≡ brand_node (lists_seen lists) b → n ≡ no_node → n ≡ node_of (lists_seen set) b
node_missing_seen lists set b n same is nothing = nothing ∙ sym (node_missing (lists_seen lists) b is) ∙ ap (λ (l : Lists). node_of (lists_seen l) b) same

-- ---- the number of a node ----

pub generic_is_node : (set : Schemas) (b : ℕ) → b < length set.brands → generic_at set b ≡ (brand_at set b).node
generic_is_node set b inside = by_brand (slice_get set.brands b) (slice_get-get_or set.brands b (no_brand set) inside)
  where
    by_brand : {x : Brand} (o : Option Brand) → o ≡ Some x → unwrap_or (option_map (λ (y : Brand). y.node) o) 0 ≡ (unwrap_or o (no_brand set)).node
    by_brand None e = cc
    by_brand (Some y) e = refl

-- ---- the schema of a brand ----

pub is_struct : (lists set : Lists) (s : StructSchema) → lists ≡ set → IsAccepted (lists_seen lists) → set_of s ≡ lists_seen set → number_of s < length (lists_seen set).brands → IsStruct s
is_struct lists set s same accepted of inside = record {
  accepted = there;
  number = within;
  generic = generic_is_node (set_of s) (number_of s) within;
  records = records_inside (set_of s) there (number_of s) within;
}
  where
    there : IsAccepted (set_of s)
    there = subst IsAccepted (ap lists_seen same ∙ sym of) accepted

    within : number_of s < length (set_of s).brands
    within = subst (λ (l : Schemas). number_of s < length l.brands) (sym of) inside

-- a node that is looked up has its discriminant inside its data section
pub discriminant_fits : (set : Schemas) → IsAccepted set → (b : ℕ) → DiscriminantFits (node_of set b)
discriminant_fits set accepted b = at_node set DiscriminantFits accepted.rule10 (λ some. absurd (omega arith)) (brand_at set b).node
