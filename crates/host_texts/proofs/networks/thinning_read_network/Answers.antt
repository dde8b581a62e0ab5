-- `host_texts::networks::thinning_read_network` meets its contract.
use mathlib.Core.Path.{◌∙◌}
use Rattle.host_texts.proofs.Numbers.{network-unread, network-read}
use Rattle.host_texts.proofs.networks.thinning_read_network.Goals as goal

pub returns-in-Ok : goal.returns-in-Ok
returns-in-Ok c =
    let e = c.in-Ok.ensures in
    let n = network-read _ _ e.reply _ _ in
    record { number = n.0; low = e.lows; high = e.highs; cost = e.costs; vertices = n.1.0; reserved = n.1.1 }

pub returns-in-Err : goal.returns-in-Err
returns-in-Err c =
    let e = c.in-Err.ensures in
    let n = network-unread _ _ e.reply _ _ in
    record { number = c.number.ensures ∙ n.0; low = e.lows; high = e.highs; cost = e.costs; vertices = n.1.0; reserved = n.1.1 }
