-- `host_texts::chains::thinning_read_chain` meets its contract.
use mathlib.Core.Path.{◌∙◌}
use Rattle.host_texts.proofs.Numbers.{chain-unread, chain-read}
use Rattle.host_texts.proofs.chains.thinning_read_chain.Goals as goal

pub returns-in-Ok : goal.returns-in-Ok
returns-in-Ok c =
    let e = c.in-Ok.ensures in
    let f = e.fills in
    let n = chain-read _ _ e.replies _ in
    record { number = n.0; v = f.v; x = f.x; y = f.y; z = f.z; cost = f.cost; dropped = n.1 }

pub returns-in-Err : goal.returns-in-Err
returns-in-Err c =
    let e = c.in-Err.ensures in
    let f = e.fills in
    let n = chain-unread _ _ e.replies _ in
    record { number = c.number.ensures ∙ n.0; v = f.v; x = f.x; y = f.y; z = f.z; cost = f.cost; dropped = n.1 }
