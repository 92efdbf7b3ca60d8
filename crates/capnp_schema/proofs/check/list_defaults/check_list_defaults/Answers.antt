-- The walk keeps that all fields of all brands before have their list defaults read; past the last brand this is so of all.
use Rattle.std.proofs.Common.{All, ℕ, arith}
use Rattle.std.proofs.lemmas.List.{length-map}
use Rattle.capnp_schema.specs.Entries.{lists_seen}
use Rattle.capnp_schema.specs.Schema.{seen_brand, fields_of}
use Rattle.capnp_schema.specs.Accepted.{ReadsDefault}
use Rattle.capnp_schema.proofs.Checking.FieldWalk.{one_more}
use Rattle.capnp_schema.proofs.Checking.ReadDefaults.{read_all}
use Rattle.capnp_schema.proofs.check.list_defaults.check_list_defaults.Goals as goal

pub loop-b-preserved : goal.loop-b-preserved
loop-b-preserved c = one_more (λ (b : ℕ). All ReadsDefault (fields_of (lists_seen c.args.lists.now) b)) c.loop-b.b c.loop-b.invariant c.in_ok-check_brand_defaults.ensures

pub returns : goal.returns
returns c = read_all (lists_seen c.args.lists.now) c.loop-b.b c.loop-b.invariant (let n = length-map c.args.lists.now.brands.items seen_brand in omega arith)
