-- What holds of an embedded set holds of both sets that are joined.
use Rattle.std.proofs.Common.{ℕ, ◌+◌, ◌-◌, ◌<◌, ◌≡◌, length, map, arith, ap, sym, ◌∙◌, add-zero, ⊎_elim}
use Rattle.std.proofs.lemmas.Bool.{cases_lt}
use Rattle.std.proofs.lemmas.List.{length-append, length-map}
use Rattle.capnp_wire.specs.Tree.{StructTree}
use Rattle.capnp_schema.specs.Schema.{Brand, Schemas, brand_at, enum_at, node_at}
use Rattle.capnp_schema.specs.Accepted.{IsAccepted}
use Rattle.capnp_records.specs.Reading.{struct_record}
use Rattle.capnp_records.specs.Record.{Levels}
use Rattle.capnp_joined_sets.specs.declared.moves.TheConstants.{NO_MOVES}
use Rattle.capnp_joined_sets.specs.Joined.{ends_of, joined, moved_brand, moved_node}
use Rattle.capnp_joined_sets.specs.Laws.{EachNodeHasBrand, IsShort, StandAsBefore, StandMoved}
use Rattle.capnp_joined_sets.specs.Refusals.{NumbersFit}
use Rattle.capnp_joined_sets.proofs.Embedded.{newer_in, older_in}
use Rattle.capnp_joined_sets.proofs.Kept.{brand_kept, enum_kept, node_kept}
use Rattle.capnp_joined_sets.proofs.JoinedAccepted.{joined_accepted}
use Rattle.capnp_joined_sets.proofs.SameRecords.{reads_same}
use Rattle.capnp_joined_sets.proofs.ShortSets.{numbers_fit}

counted : (older newer : Schemas) → length (joined older newer).brands ≡ length older.brands + length newer.brands
counted older newer =
    let all = length-append older.brands (map (moved_brand (ends_of older)) newer.brands) in
    let those = length-map newer.brands (moved_brand (ends_of older)) in omega arith

pub first_reads : (older newer : Schemas) → IsAccepted older → (b : ℕ) → b < length older.brands → (l : Levels) (s : StructTree) →
    struct_record (joined older newer) l s b ≡ struct_record older l s b
first_reads older newer accepted b below l s =
    let sum = counted older newer in
    let turned : length (joined older newer).brands ≡ length newer.brands + length older.brands = omega arith in
    ap (λ n. struct_record (joined older newer) l s n) (sym (add-zero b))
    ∙ reads_same NO_MOVES older (joined older newer) accepted (older_in older newer) (length newer.brands) turned b below l s

pub second_reads : (older newer : Schemas) → IsAccepted newer → (b : ℕ) → b < length newer.brands → (l : Levels) (s : StructTree) →
    struct_record (joined older newer) l s (b + length older.brands) ≡ struct_record newer l s b
second_reads older newer accepted b below l s =
    reads_same (ends_of older) newer (joined older newer) accepted (newer_in older newer) (length older.brands) (counted older newer) b below l s

pub first_stands : (older newer : Schemas) → StandAsBefore older (joined older newer)
first_stands older newer = record {
  nodes = λ n below. ap (node_at (joined older newer)) (sym (add-zero n)) ∙ ((older_in older newer).nodes n below).1 ∙ node_kept (node_at older n);
  brands = λ b below. ap (brand_at (joined older newer)) (sym (add-zero b)) ∙ ((older_in older newer).brands b below).1 ∙ brand_kept (brand_at older b);
  enums = λ e below. ap (enum_at (joined older newer)) (sym (add-zero e)) ∙ ((older_in older newer).enums e below).1 ∙ enum_kept (enum_at older e);
}

pub second_stands : (older newer : Schemas) → StandMoved (ends_of older) newer (joined older newer)
second_stands older newer = record {
  nodes = λ n below. ((newer_in older newer).nodes n below).1;
  brands = λ b below. ((newer_in older newer).brands b below).1;
  enums = λ e below. ((newer_in older newer).enums e below).1;
}

-- each node of joined sets has a brand where each node of both has one
each_has_brand : (older newer : Schemas) → EachNodeHasBrand older → EachNodeHasBrand newer → EachNodeHasBrand (joined older newer)
each_has_brand older newer first second n below = ⊎_elim
    (λ lt.
    let b = first n lt in
    (b.0, omega (arith, counted older newer, b.1), ap (λ (x : Brand). x.node) ((first_stands older newer).brands b.0 b.1) ∙ b.2))
    (λ le.
    let all = length-append older.nodes (map (moved_node (ends_of older)) newer.nodes) in
    let those = length-map newer.nodes (moved_node (ends_of older)) in
    let b = second (n - length older.nodes) (omega arith) in
    let back : (n - length older.nodes) + length older.nodes ≡ n = omega arith in
    (b.0 + length older.brands, omega (arith, counted older newer, b.1), ap (λ (x : Brand). x.node) ((second_stands older newer).brands b.0 b.1) ∙ ap (λ k. k + length older.nodes) b.2 ∙ back))
    (cases_lt n (length older.nodes))

pub short_fit : (older newer : Schemas) → IsAccepted older → IsAccepted newer → EachNodeHasBrand older → EachNodeHasBrand newer → IsShort (joined older newer) → NumbersFit (joined older newer)
short_fit older newer first second here there short = numbers_fit (joined older newer) (joined_accepted older newer first second) short (each_has_brand older newer here there)
