-- One more struct is named.
use Rattle.std.proofs.Common.{ℕ, List, ◌+◌, ◌++◌, ◌≡◌, ◌<◌, ◌∙◌, ap, drop, length, string_bytes, subst, sym}
use Rattle.std.proofs.lemmas.List.{length-map}
use Rattle.capnp_schema.specs.Entries.{lists_seen}
use Rattle.capnp_schema.specs.Schema.{Schemas, seen_brand}
use Rattle.capnp_structs.specs.Names.{struct_lines, structs_text}
use Rattle.capnp_structs.proofs.Lines.{next_struct, past_whole}
use Rattle.capnp_structs.proofs.names.get_structs_within.Goals as goal

pub loop-index-preserved : goal.loop-index-preserved
loop-index-preserved c = record {
  lines = next_struct (lists_seen c.args.schemas.now) c.loop-index.index _ _ _
      (subst (λ n. c.loop-index.index < n) (sym (length-map c.brands-index-end.result.now seen_brand) ∙ ap length c.brands-index-end.ensures) c.loop-index-test.true)
      c.loop-index.invariant.lines c.in_ok-put_at.ensures.put;
  within = c.in_ok-check_length.ensures.within;
  met = c.in_ok-put_at.ensures.met;
}

pub returns-in_err-check_length-clause-too_long : goal.returns-in_err-check_length-clause-too_long
returns-in_err-check_length-clause-too_long c =
    let set : Schemas = lists_seen c.args.schemas.now in
    let i : ℕ = c.loop-index.index in
    let text : List ℕ = string_bytes c.put_at.new.lines in
    let rest : List ℕ = struct_lines set (drop (i + 1) set.brands) (i + 1) in
    let whole : text ++ rest ≡ structs_text set = next_struct set i _ _ _
    (subst (λ n. i < length n) c.brands-index-end.ensures (subst (λ n. i < n) (sym (length-map c.brands-index-end.result.now seen_brand)) c.loop-index-test.true))
    c.loop-index.invariant.lines c.in_ok-put_at.ensures.put in
    past_whole c.from_residual-in_err-check_length.result _ c.args.limit text rest (structs_text set) whole c.from_residual-in_err-check_length.ensures.1 c.in_err-check_length.ensures.too_long
