-- `candidates::are_edges` meets its contract: each candidate is looked at.
use mathlib.Core.Bool.{Bool}
use Prim.Native.Nat.{ℕ}
use Rattle.std.proofs.Common.{ltb, ◌∙◌, rules, tests}
use Rattle.std.proofs.lemmas.Iterator.{YieldsList-from_slice}
use Rattle.std.proofs.lemmas.Iterator.Search.{all_from_yields_List}
use Rattle.candidates.proofs.Listing.{all-edges}
use Rattle.candidates.proofs.are_edges.Goals as goal

is_edge : ℕ → ℕ → Bool
is_edge n r = ltb r n

pub returns : goal.returns
unfolding is_edge
returns c =
    all_from_yields_List (is_edge c.args.edges) _ _ c.all.result c.all.ensures.ran
    (YieldsList-from_slice _ c.iter.ensures.rest) (λ x b q k. search (rules, tests))
    ∙ all-edges c.args.edges c.args.candidates.now
