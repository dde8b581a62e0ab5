-- `loading::list::load_list` meets its contract.
use mathlib.Core.Path.{◌≡◌, refl, sym}
use borrow.Author.Rules.{rules}
use Rattle.std.proofs.Common.{Err, Ok}
use Rattle.base.specs.Answer.{answer}
use Rattle.loading.specs.Loading.{load_network}
use Rattle.loading.specs.ListLoading.{loaded_list_of}
use Rattle.loading.proofs.ListReading.{Listed, list-refused, list_read, listed-markable, network-refused}
use Rattle.loading.proofs.ListReading.{listing-refused, list-loaded}
use Rattle.loading.proofs.list.load_list.Goals as goal
use Rattle.loading.proofs.list.load_list.Goals.{In_ok-loaded, In_ok-count}

-- the network that was read
loaded : (c : In_ok-loaded) → load_network c.args.network.now ≡ answer c.in_ok-loaded.loaded.network
loaded c =
    let answered : c.load-answer.result ≡ Ok c.in_ok-loaded.loaded = search rules in
    sym (rw answered at c.load-answer.ensures)

-- the edges that were read
listed : (c : In_ok-count) → Listed c.in_ok-loaded.loaded.network.vertices c.args.list.now c.read_list.new.edges c.in_ok-count.count
listed c =
    let replied = c.in_ok-count.ensures in
    list_read c.in_ok-loaded.loaded.network.vertices c.args.list.now _ refl replied.0 replied.1

pub returns-in_err-loaded : goal.returns-in_err-loaded
unfolding loaded_list_of
returns-in_err-loaded c =
    let a = c.args in
    let answered : c.load-answer.result ≡ Err c.in_err-loaded.field-0.0 = search rules in
    let e : c.from_residual.result ≡ Err c.in_err-loaded.field-0.0 = search rules in
    rw (e, network-refused a.network.now a.list.now _ (sym (rw answered at c.load-answer.ensures)))

pub returns-in_err-count : goal.returns-in_err-count
unfolding loaded_list_of
returns-in_err-count c =
    let a = c.args in
    let network = c.in_ok-loaded.loaded.network in
    let e : c.from_residual-in_err-count.result ≡ Err c.in_err-count.field-0.0 = search rules in
    let refused = list-refused network.vertices a.list.now _ refl c.in_err-count.ensures.0 in
    rw (e, listing-refused a.network.now a.list.now network (loaded (goal.at.returns-in_err-count c).In_ok-loaded) _ refused)

pub mark-requires : goal.mark-requires
mark-requires c =
    listed-markable (listed (goal.at.mark-requires c).In_ok-count) c.in_ok-loaded.loaded.known.vertex_room refl

pub returns : goal.returns
unfolding loaded_list_of
returns c =
    let a = c.args in
    let l = listed (goal.at.returns c).In_ok-count in
    rw (list-loaded a.network.now a.list.now c.in_ok-loaded.loaded.network (loaded (goal.at.returns c).In_ok-loaded) _ l.is c.mark.ensures)
