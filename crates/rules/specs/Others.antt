-- The other two of three edges, and the other of two.
use Rattle.std.specs.Prelude.{cond, ℕ, eqb, Option, Some, None}
use Rattle.incidence.specs.declared.partners.Partners.{Partners}

-- the two of three edges that are not x, where x is one of them
abbrev pub others_of : Partners → ℕ → Option (ℕ × ℕ)
others_of p x =
    cond (eqb x p.first) (Some (p.second, p.third))
    (cond (eqb x p.second) (Some (p.first, p.third)) (cond (eqb x p.third) (Some (p.first, p.second)) None))

-- of two edges the one that is not y, where y is one of them
abbrev pub other_of : ℕ → ℕ → ℕ → ℕ
other_of low high y = cond (eqb low y) high low
