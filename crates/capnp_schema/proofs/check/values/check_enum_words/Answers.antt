-- An enum is refused with rule 6 for its own annotations' words or for those of one
-- enumerant; by rule 3 the enumerant's index fits.
use Rattle.std.proofs.Common.{◌≡◌, List, ap, arith, length, map, sym}
use Rattle.std.proofs.lemmas.List.{length-map}
use Rattle.capnp_schema.specs.Accepted.{HaveWords}
use Rattle.capnp_schema.specs.Schema.{Enumerant, seen_enum, seen_enumerant}
use Rattle.capnp_schema.specs.Entries.{lists_seen}
use Rattle.capnp_schema.specs.declared.record.EnumerantRecord.{EnumerantRecord}
use Rattle.capnp_schema.proofs.EntryWalk.{breaks_within}
use Rattle.capnp_schema.proofs.Checking.WordPlaces.{few_enumerants_at, wordless_enum_at, wordless_enumerant_at}
use Rattle.capnp_schema.proofs.Checking.FieldWalk.{refused}
use Rattle.capnp_schema.proofs.check.values.check_enum_words.Goals as goal

pub returns-then-not-have_words : goal.returns-then-not-have_words
returns-then-not-have_words c = refused _ _ _ _ _ _ c.refusal.ensures
    (wordless_enum_at _ _ (seen_enum c.in-Some.schema.now) (sym c.in-Some.ensures) (λ words. let t = c.have_words.ensures.1 (rw (← c.deref.ensures.value) at words) in cc))

pub overflow_cast-field : goal.overflow_cast-field
overflow_cast-field c =
    let all : c.deref-2.result.now ≡ c.in-Some.schema.now.enumerants.items = c.deref-2.ensures.value in
    let inside = breaks_within (map seen_enumerant c.deref-2.result.now) (λ (x : Enumerant). HaveWords x.annotations) c.in-Some-broken_entry.field c.in-Some-broken_entry.ensures in
    let few = few_enumerants_at (lists_seen c.args.lists.now) c.args.entry (seen_enum c.in-Some.schema.now) (sym c.in-Some.ensures) c.requires in
    let n = length-map c.deref-2.result.now seen_enumerant in
    let k = length-map c.in-Some.schema.now.enumerants.items seen_enumerant in
    let m = ap (λ (l : List EnumerantRecord). length l) all in
    omega arith

pub returns-in-Some-broken_entry : goal.returns-in-Some-broken_entry
returns-in-Some-broken_entry c = refused _ _ _ _ _ _ c.refusal-in-Some-broken_entry.ensures
    (wordless_enumerant_at _ _ (seen_enum c.in-Some.schema.now) (sym c.in-Some.ensures) _ (rw c.deref-2.ensures.value at c.in-Some-broken_entry.ensures))
