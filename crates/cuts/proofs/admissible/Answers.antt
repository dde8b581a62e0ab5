-- `cuts::admissible` meets its contract: Lemma 9 spares all other cuts of the split network.
use borrow.Author.Rules.{rules}
use Rattle.cuts.proofs.Partnering.{splittable, edges-within, split-formed, by-pairs}
use Rattle.cuts.proofs.admissible.Goals as goal

pub split-after-requires : goal.split-after-requires
split-after-requires c = splittable c.requires (search rules)

pub bounds-after-z : goal.bounds-after-z
bounds-after-z c = (edges-within c.requires (search rules)).1

pub bounds-after-z-2 : goal.bounds-after-z-2
bounds-after-z-2 c = (edges-within c.requires (search rules)).1

pub four_apart-requires : goal.four_apart-requires
four_apart-requires c = rw c.split-after.ensures (split-formed c.requires)

pub returns : goal.returns
returns c = by-pairs c.requires (rw c.split-after.ensures at c.four_apart.ensures)
