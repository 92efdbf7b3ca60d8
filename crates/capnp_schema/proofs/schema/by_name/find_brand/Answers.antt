-- The first brand of the name among all is the first from the index on, as those before aren't called so.
-- An index past 32 bits is no brand's number.
use Rattle.std.proofs.Common.{◌≡◌, ◌<◌, ℕ, ◌∙◌, List, Some, true, false, ap, arith, drop, length, map, subst, sym}
use Rattle.std.proofs.lemmas.List.{length-map}
use Rattle.capnp_schema.specs.Entries.{lists_seen}
use Rattle.capnp_schema.specs.Schema.{Brand, seen_brand}
use Rattle.capnp_schema.specs.declared.record.BrandRecord.{BrandRecord}
use Rattle.capnp_schema.specs.ByName.{numbered_brand}
use Rattle.capnp_schema.proofs.ByName.{is_called, found_here, found_later, none_past, within}
use Rattle.capnp_schema.proofs.schema.by_name.find_brand.Goals as goal

-- a number of one of the records is that of one of the brands
inside : (stored : List BrandRecord) (brands : List Brand) (i : ℕ) → map seen_brand stored ≡ brands → i < length stored → i < length brands
inside stored brands i e h = subst (λ n. i < n) (sym (length-map stored seen_brand) ∙ ap length e) h

pub returns-in_default-clause-found : goal.returns-in_default-clause-found
returns-in_default-clause-found c =
    sym (ap numbered_brand c.loop-index.invariant ∙ none_past (lists_seen c.args.schemas.now) (drop c.loop-index.index (lists_seen c.args.schemas.now).brands) c.loop-index.index c.args.name.now (omega (arith, c.in_default.ensures)))

pub returns-then-is_named-clause-found : goal.returns-then-is_named-clause-found
returns-then-is_named-clause-found c =
    let here : c.loop-index.index < length (lists_seen c.args.schemas.now).brands = inside c.brands-index-end.result.now _ c.loop-index.index c.brands-index-end.ensures c.loop-index-test.true in
    let called : is_called (lists_seen c.args.schemas.now) c.loop-index.index c.args.name.now ≡ true = subst (λ b. is_called (lists_seen c.args.schemas.now) b c.args.name.now ≡ true) c.in-Ok.ensures.1 (sym c.is_named.ensures ∙ c.if-is_named.true) in
    ap Some c.in-Ok.ensures.1
    ∙ sym (ap numbered_brand (c.loop-index.invariant ∙ found_here (lists_seen c.args.schemas.now) (lists_seen c.args.schemas.now).brands c.loop-index.index c.args.name.now here called) ∙ within c.loop-index.index c.in-Ok.ensures.0)

pub loop-index-preserved : goal.loop-index-preserved
loop-index-preserved c =
    let here : c.loop-index.index < length (lists_seen c.args.schemas.now).brands = inside c.brands-index-end.result.now _ c.loop-index.index c.brands-index-end.ensures c.loop-index-test.true in
    let called : is_called (lists_seen c.args.schemas.now) c.loop-index.index c.args.name.now ≡ false = subst (λ b. is_called (lists_seen c.args.schemas.now) b c.args.name.now ≡ false) c.in-Ok.ensures.1 (sym c.is_named.ensures ∙ c.if-is_named.false) in
    c.loop-index.invariant ∙ found_later (lists_seen c.args.schemas.now) (lists_seen c.args.schemas.now).brands c.loop-index.index c.args.name.now here called
