-- Queries as the code has them.
use Rattle.capnp_call.specs.Seen.{path_seen}
use Rattle.capnp_words.specs.Seen.{path_text_seen}
use Rattle.riftcalico_core.specs.Queries.{Query, query_of}
use Rattle.riftcalico_core.specs.declared.queries.AskedQuery.{AskedQuery}
use Rattle.riftcalico_core.specs.declared.queries.QueryWord.{QueryWord}

abbrev pub query_word_seen : QueryWord → Query
query_word_seen q = query_of q.counts (path_text_seen q.path)

abbrev pub asked_seen : AskedQuery → Query
asked_seen q = query_of q.counts (path_seen q.steps.items)
