-- A node is refused with rule 6 for its own annotations' words, a field's, or a field's default that doesn't stand.
-- By rule 3 the field's index fits.
use Rattle.std.proofs.Common.{◌≡◌, List, ap, arith, length, map, sym}
use Rattle.std.proofs.lemmas.List.{length-map}
use Rattle.capnp_schema.specs.Accepted.{HaveWords, DefaultStands}
use Rattle.capnp_schema.specs.Schema.{Field, seen_node, seen_field}
use Rattle.capnp_schema.specs.Entries.{lists_seen}
use Rattle.capnp_schema.specs.declared.record.FieldRecord.{FieldRecord}
use Rattle.capnp_schema.proofs.EntryWalk.{breaks_within}
use Rattle.capnp_schema.proofs.Checking.WordPlaces.{few_at, wordless_node_at, wordless_field_at, broken_default_at}
use Rattle.capnp_schema.proofs.Checking.FieldWalk.{refused}
use Rattle.capnp_schema.proofs.check.values.check_node_words.Goals as goal

pub returns-then-not-have_words : goal.returns-then-not-have_words
returns-then-not-have_words c = refused _ _ _ _ _ _ c.refusal.ensures
    (wordless_node_at _ _ (seen_node c.in-Some.node.now) (sym c.in-Some.ensures) (λ words. let t = c.have_words.ensures.1 (rw (← c.deref.ensures.value) at words) in cc))

pub overflow_cast-field : goal.overflow_cast-field
overflow_cast-field c =
    let all : c.deref-2.result.now ≡ c.in-Some.node.now.body.fields.items = c.deref-2.ensures.value in
    let inside = breaks_within (map seen_field c.deref-2.result.now) (λ (x : Field). HaveWords x.annotations) c.in-Some-broken_entry.field c.in-Some-broken_entry.ensures in
    let few = few_at (lists_seen c.args.lists.now) c.args.entry (seen_node c.in-Some.node.now) (sym c.in-Some.ensures) c.requires in
    let n = length-map c.deref-2.result.now seen_field in
    let k = length-map c.in-Some.node.now.body.fields.items seen_field in
    let m = ap (λ (l : List FieldRecord). length l) all in
    omega arith

pub returns-in-Some-broken_entry : goal.returns-in-Some-broken_entry
returns-in-Some-broken_entry c = refused _ _ _ _ _ _ c.refusal-in-Some-broken_entry.ensures
    (wordless_field_at _ _ (seen_node c.in-Some.node.now) (sym c.in-Some.ensures) _ (rw c.deref-2.ensures.value at c.in-Some-broken_entry.ensures))

pub overflow_cast-field-in-Some-broken_entry-2 : goal.overflow_cast-field-in-Some-broken_entry-2
overflow_cast-field-in-Some-broken_entry-2 c =
    let all : c.deref-3.result.now ≡ c.in-Some.node.now.body.fields.items = c.deref-3.ensures.value in
    let inside = breaks_within (map seen_field c.deref-3.result.now) (DefaultStands) c.in-Some-broken_entry-2.field c.in-Some-broken_entry-2.ensures in
    let few = few_at (lists_seen c.args.lists.now) c.args.entry (seen_node c.in-Some.node.now) (sym c.in-Some.ensures) c.requires in
    let n = length-map c.deref-3.result.now seen_field in
    let k = length-map c.in-Some.node.now.body.fields.items seen_field in
    let m = ap (λ (l : List FieldRecord). length l) all in
    omega arith

pub returns-in-Some-broken_entry-2 : goal.returns-in-Some-broken_entry-2
returns-in-Some-broken_entry-2 c = refused _ _ _ _ _ _ c.refusal-in-Some-broken_entry-2.ensures
    (broken_default_at _ _ (seen_node c.in-Some.node.now) (sym c.in-Some.ensures) _ (rw c.deref-3.ensures.value at c.in-Some-broken_entry-2.ensures))
