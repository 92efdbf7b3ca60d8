-- A path's word is read back as this path, so two paths never have one word.
-- That no other word is read goes by whether it begins with a dot.
use Rattle.capnp_words.proofs.PathsOnly.{only_paths_read, paths_differ}
use Rattle.capnp_words.proofs.PathsRead.{paths_read}
use Rattle.capnp_words.proofs.laws.paths_are_read.Goals as goal

pub returns-clause-read : goal.returns-clause-read
returns-clause-read c = paths_read

pub returns-clause-only : goal.returns-clause-only
returns-clause-only c = only_paths_read

pub returns-clause-differ : goal.returns-clause-differ
returns-clause-differ c = paths_differ
