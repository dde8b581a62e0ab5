-- `connection::words::bits_set` meets its contract.
use Rattle.std.proofs.Common.{◌∙◌, arith, rules, tests}
use Rattle.std.proofs.lemmas.Iterator.{YieldsList-from_slice, YieldsList-from_map}
use Rattle.std.proofs.lemmas.Iterator.Consumers.{sum_by_from_yields_List, fits_by_from_yields_list}
use lib.Count.{ones}
use Rattle.connection.specs.Words.{vertex_set}
use Rattle.connection.proofs.Sets.{counted-size, counted-few}
use Rattle.connection.proofs.words.bits_set.Goals as goal

pub returns : goal.returns
returns c =
    sum_by_from_yields_List ones c.args.words.now c.map.result c.sum.result c.sum.ensures.ran
    (YieldsList-from_map _ ones (YieldsList-from_slice c.args.words.now cc) c.map.ensures.closure (λ x r q k. search (rules, tests)))
    ∙ counted-size (vertex_set c.args.words.now) (omega arith) (λ i. search rules)

pub sum-requires-clause-fits : goal.sum-requires-clause-fits
sum-requires-clause-fits c =
    fits_by_from_yields_list ones c.args.words.now c.map.result _
    (YieldsList-from_map _ ones (YieldsList-from_slice c.args.words.now cc) c.map.ensures.closure (λ x r q k. search (rules, tests)))
    (omega (arith, counted-few (vertex_set c.args.words.now) (omega arith) (λ i. search rules)))
