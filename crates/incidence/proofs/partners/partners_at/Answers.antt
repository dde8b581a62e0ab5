-- `incidence::partners::partners_at` meets its contract: what is found are the partners among the edges passed.
use mathlib.Core.Path.{◌≡◌, refl, sym, ap, ◌∙◌}
use native.Mathlib.Omega.{arith}
use Rattle.graph.specs.Split.{is_partner, partners}
use Rattle.incidence.specs.Partners.{one_more}
use Rattle.incidence.proofs.Picked.{none-found, found_below, found-more, found-same}
use Rattle.incidence.proofs.partners.partners_at.Goals as goal
use Rattle.incidence.proofs.partners.partners_at.Goals.{then-is_partner, else-is_partner}

pub loop-e-init : goal.loop-e-init
loop-e-init c = none-found _ c.default-found.ensures

pub with-found-requires : goal.with-found-requires
with-found-requires c =
    rw c.loop-e.invariant (omega (arith, found_below (is_partner c.args.network c.args.v) c.loop-e.e))

pub loop-e-preserved : goal.loop-e-preserved
loop-e-preserved c =
    let test = c.is_partner.ensures c.args.network refl refl refl in
    elim c.if-is_partner.branch [
      | then-is_partner w ↦
          w.found-is ∙ w.with-found.ensures ∙ ap (λ q. one_more q c.loop-e.e) c.loop-e.invariant
          ∙ found-more _ _ (sym test ∙ w.if-is_partner.true)
      | else-is_partner w ↦ w.found-is ∙ c.loop-e.invariant ∙ found-same _ _ (sym test ∙ w.if-is_partner.false)
    ]

pub returns : goal.returns
unfolding partners
returns c = let e : c.loop-e.e ≡ c.args.network.edges = omega arith in rw e at c.loop-e.invariant
