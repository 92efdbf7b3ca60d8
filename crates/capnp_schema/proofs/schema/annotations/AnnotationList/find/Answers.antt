-- The id's place among the stored annotations is its place among the typed ones, in the same order.
-- So the one read there is the first; without a place there is none.
use Rattle.capnp_schema.proofs.AnnotatedLemmas.{find_inside, find_some, find_none}
use Rattle.capnp_schema.proofs.schema.annotations.AnnotationList.find.Goals as goal

pub get-requires : goal.get-requires
get-requires c = find_inside c.args.self.stored.now c.args.self.types.now c.args.id c.args.self.have_types c.in-Some.index c.position_of.result c.position_of.ensures c.in-Some.is

pub returns-in-Some-clause-found : goal.returns-in-Some-clause-found
returns-in-Some-clause-found c = find_some c.args.self.stored.now c.args.self.types.now c.args.id c.args.self.have_types c.in-Some.index c.position_of.result _ c.position_of.ensures c.in-Some.is c.get.ensures.entry

pub returns-in-None-clause-found : goal.returns-in-None-clause-found
returns-in-None-clause-found c = find_none c.args.self.stored.now c.args.self.types.now c.args.id c.args.self.have_types c.position_of.result c.position_of.ensures c.in-None.is
