-- `connection::count_reached` meets its contract: the search's words are the same for every network with these columns.
use mathlib.Core.Path.{◌∙◌}
use native.Mathlib.Omega.{arith}
use Rattle.connection.proofs.Reaching.{least_size}
use Rattle.connection.proofs.count_reached.Goals as goal

pub returns : goal.returns
returns c =
    λ g searchable low high edges long inside.
    c.count.ensures ∙ least_size g _ _ searchable inside _ (rw (low, high, edges) c.reach.ensures)
    (omega (arith, long, searchable.present_room))
