-- `incidence::degrees::all_four` meets its contract: the tally of each of the first vertices is looked at.
use mathlib.Core.Bool.{Bool}
use Prim.Native.Nat.{ℕ}
use Rattle.std.proofs.Common.{eqb, ◌∙◌, rules, tests, arith}
use Rattle.std.proofs.lemmas.Iterator.{YieldsList-from_slice}
use Rattle.std.proofs.lemmas.Iterator.Search.{all_from_yields_List}
use Rattle.incidence.proofs.Tally.{each-first}
use Rattle.incidence.proofs.degrees.all_four.Goals as goal

four : ℕ → Bool
four d = eqb d 4

pub returns : goal.returns
unfolding four
returns c =
    all_from_yields_List four _ _ c.all.result c.all.ensures.ran
    (YieldsList-from_slice _ c.iter.ensures.rest) (λ x b q k. search (rules, tests))
    ∙ each-first four c.args.vertices _ (omega arith)
