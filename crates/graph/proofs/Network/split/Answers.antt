-- `graph::Network::split` meets its contract: the far ends are
-- read before a column changes, and the cost difference fits.
use mathlib.Core.Path.{refl}
use Rattle.graph.specs.Split.{split}
use Rattle.graph.proofs.Differences.{difference-fits, difference-is}
use Rattle.graph.proofs.Network.split.Goals as goal

pub overflow_sub-self : goal.overflow_sub-self
overflow_sub-self c =
    let a = c.args in let p =
    c.requires in difference-fits a.self p.light a.z a.x p.z_edge p.x_edge

pub returns : goal.returns
unfolding split
returns c =
    let a = c.args in
    let p = c.requires in
    simp (
      c.far_end-u.ensures a.self refl refl,
      c.far_end-far_x.ensures a.self refl refl,
      c.far_end-far_y.ensures a.self refl refl,
      c.far_end-far_z.ensures a.self refl refl,
      difference-is a.self p.light a.z a.x p.z_edge p.x_edge,
    )
